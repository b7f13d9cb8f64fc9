use Rattle.std.proofs.Common.{List, ◌++◌, ◌-◌, drop, replicate, length, refl, ap, ◌∙◌}
use Rattle.plan.proofs.Tables.{table_filled}
use Rattle.plan.proofs.drafts.Draft.table.Goals as goal

pub returns : goal.returns
returns c =
    let moduli = c.args.self.now.moduli.now in
    ap (λ (front : List (List _)). front ++ drop (length moduli - 0) (replicate 24 (replicate 9 0))) c.copy_from_slice.ensures.after
    ∙ table_filled 24 (replicate 9 0) moduli (length moduli) refl
