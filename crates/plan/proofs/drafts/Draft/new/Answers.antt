use Rattle.std.proofs.Common.{ℕ, List, ◌/◌, length, ap, ◌∙◌, arith}
use Rattle.plan.specs.Limits.{modulus_codes}
use Rattle.plan.proofs.Held.{chunks_are_moduli}
use Rattle.plan.proofs.drafts.Draft.new.Goals as goal

pub returns : goal.returns
returns c =
    let codes = c.args.codes.now in
    let whole = c.as_chunks.ensures.back_len in
    let many = c.as_chunks.ensures.front_len in (
      record {
        whole = omega (arith, whole, c.if-left_over-ne0.false);
        enough = omega (arith, many, c.if-n-lt-FEWEST_POSITIONS.false);
        few = omega (arith, many, c.if-n-gt-MOST_POSITIONS.false);
        carrying = c.if-carriers-lt1.false;
        spare = omega (arith, many, c.if-carriers-n.false);
      },
      λ f.
          ap (λ (moduli : List (List ℕ)). record { arithmetic = f; carriers = c.args.carriers; moduli = moduli })
          (c.as_chunks.ensures.front ∙ chunks_are_moduli (length codes / modulus_codes) codes),
    )
