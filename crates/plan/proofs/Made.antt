-- What the checks of a plan's maker give together.
use Rattle.std.proofs.Common.{◌≡◌, ℕ, ◌<◌, ◌≤◌, List, length, get_or, take, replicate, sym, ap, ◌∙◌, arith}
use Rattle.algebra.specs.Field.{Arithmetic}
use Rattle.plan.specs.Agreement.{StartsAgree, kept}
use Rattle.plan.specs.Drafts.{drafted}
use Rattle.plan.specs.Limits.{modulus_codes, most_positions, most_total}
use Rattle.plan.specs.Schemes.{AreModuli, Clash, IsScheme, word_length}
use Rattle.plan.specs.Tables.{table_of}
use Rattle.plan.specs.declared.drafts.Draft.{Draft}
use Rattle.plan.proofs.Sizes.{start_all}
use Rattle.plan.proofs.Tables.{table_begins, table_long}

module _ (f : Arithmetic) (draft : Draft) where
  -- The last start is where the word ends.
  pub end_is : (starts : List ℕ) → StartsAgree (drafted f draft) starts → get_or starts (length draft.moduli.now) 0 ≡ word_length (drafted f draft)
  end_is starts agree = agree (length draft.moduli.now) (omega arith) ∙ start_all (drafted f draft)

  -- The table that holds the draft's moduli keeps its scheme.
  pub table_keeps : (table : List (List ℕ)) → table ≡ table_of most_positions (replicate modulus_codes 0) draft.moduli.now
      → drafted f draft ≡ kept f draft.carriers (length draft.moduli.now) table
  table_keeps table is =
      let moduli = draft.moduli.now in
      let same : take (length moduli) table ≡ moduli = ap (take (length moduli)) is ∙ table_begins most_positions (replicate modulus_codes 0) moduli in
      ap (λ (moduli : List (List ℕ)). record { arithmetic = f; carriers = draft.carriers; moduli = moduli }) (sym same)

  -- A draft is lawful once its moduli are, their degrees do not sum to too much, and no two share a factor.
  pub lawful : AreModuli (drafted f draft) → word_length (drafted f draft) ≤ most_total
      → ((i j : ℕ) → i < j → j < length draft.moduli.now → ¬ (Clash (drafted f draft) i j)) → IsScheme (drafted f draft)
  lawful moduli short apart =
      record {
        enough = draft.enough;
        few = draft.few;
        carrying = draft.carrying;
        spare = draft.spare;
        moduli_lawful = moduli;
        short = short;
        apart = apart;
      }

pub table_fits : (draft : Draft) (table : List (List ℕ)) → table ≡ table_of most_positions (replicate modulus_codes 0) draft.moduli.now
    → length draft.moduli.now ≤ length table
table_fits draft table is = omega (arith, ap length is, table_long most_positions (replicate modulus_codes 0) draft.moduli.now draft.few, draft.few)
