-- The cells that a sheet's calls are run over: a memory has them all, the depth divides them, and a rack of four slots fits.
use Rattle.std.proofs.Common.{◌≡◌, ℕ, ◌*◌, ◌%◌, ◌≤◌, ◌&&◌, true, List, ◌++◌, length, take, sym, subst, ap, ◌∙◌, arith, lit≤, ◌==◌, nat_lt}
use Rattle.std.proofs.lemmas.Bool.{lt-ltb}
use Rattle.std.proofs.lemmas.List.{length-replicate, take_all}
use Rattle.std.proofs.Math.Bool.{and-true}
use Rattle.std.proofs.Math.Nat.{mul-mod_left}
use Rattle.std.proofs.Math.Seq.{take-append_seam}
use Rattle.algebra.specs.Field.{FieldLaws}
use Rattle.batch.specs.declared.entry.Entry.{Entry}
use Rattle.memory.specs.Buffers.{held}
use Rattle.memory.specs.Meaning.{max_cells, max_top}
use Rattle.plan.specs.Schemes.{IsScheme, Scheme, word_length}
use Rattle.plan.proofs.Sizes.{start_most, start_next}
use Rattle.spread.specs.Place.{divides, spread_row_length}
use Rattle.transcript.specs.Runs.{LayerFits, Layered, slots, zero_cells}

divides_product : (n len : ℕ) → 1 ≤ n → len ≡ slots * n → divides n len ≡ true
divides_product n len some is =
    ap (λ (rest : ℕ). nat_lt 0 n && rest == 0) (ap (λ (x : ℕ). x % n) is ∙ mul-mod_left slots n) ∙ and-true (nat_lt 0 n) ∙ lt-ltb 0 n some

module _ (s : Scheme) (lawful : IsScheme s) where
  some_code : 1 ≤ word_length s
  some_code = omega (arith, start_next s 0, start_most s 1, (lawful.moduli_lawful 0 (omega (arith, lawful.enough))).proper, lawful.enough)

  long : length (zero_cells s) ≡ slots * word_length s
  long = length-replicate (slots * word_length s) 0

  pub zeros_held : held (zero_cells s) ≡ zero_cells s
  unfolding held
  zeros_held = take_all max_cells (zero_cells s) (omega (arith, long, lawful.short))

  pub zeros_fit : FieldLaws s.arithmetic → LayerFits s (zero_cells s) max_top
  zeros_fit L = record {
    divided = divides_product (word_length s) (length (zero_cells s)) some_code long;
    fits = record {
      some = lit≤ tt;
      few = lit≤ tt;
      room = omega (arith, long, spread_row_length (word_length s) (zero_cells s));
      wide = omega (arith, L.order_most);
    };
  }

  -- A rack over these cells is never refused.
  pub refuted : FieldLaws s.arithmetic → {cells : List ℕ} → cells ≡ zero_cells s → ¬ (LayerFits s (held cells) max_top) → ⊥
  refuted L is unfit = unfit (subst (λ (x : List ℕ). LayerFits s x max_top) (sym (ap held is ∙ zeros_held)) (zeros_fit L))

  -- What was run over cells that hold 0, and is held, was run over those.
  pub over_zeros : {cells : List ℕ} → cells ≡ zero_cells s → {before done : List Entry}
      → Layered s (held cells) max_top before done → Layered s (zero_cells s) max_top before done
  over_zeros is {before} {done} ran = subst (λ (x : List ℕ). Layered s x max_top before done) (ap held is ∙ zeros_held) ran

-- A list that was lent is given back as long as it was; `len` and `rest` are of the vector that holds it.
pub given_back : {s : Scheme} {below : List ℕ} {top : ℕ} {before done : List Entry} {len : ℕ} (rest : List Entry)
    → len ≡ length before → Layered s below top before done → take len (done ++ rest) ≡ done
given_back {done = done} rest as_long ran = ap (λ (n : ℕ). take n (done ++ rest)) (as_long ∙ sym ran.kept.ran.long) ∙ take-append_seam done rest
