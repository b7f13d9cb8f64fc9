use Rattle.algebra.specs.Polynomial.{coefficients}
use Rattle.algebra.proofs.Coefficients.{list_polynomial}
use Rattle.algebra.proofs.Remainders.{zeros_nought}
use Rattle.std.proofs.Common.{◌∙◌}
use Rattle.poly.specs.Slices.{capacity}
use Rattle.poly.proofs.ExtendedState.{extended_start, unit_is}
use Rattle.poly.proofs.steps.Euclid.start.Goals as goal

pub returns-clause-t_previous : goal.returns-clause-t_previous
returns-clause-t_previous c = zeros_nought capacity

pub returns-clause-t_current : goal.returns-clause-t_current
returns-clause-t_current c = c.loaded-3.ensures ∙ unit_is 0

pub returns-clause-extended : goal.returns-clause-extended
returns-clause-extended c f L hm hy D h k =
    rw (c.loaded.ensures, c.loaded-2.ensures, zeros_nought capacity, c.loaded-3.ensures ∙ unit_is 0)
    (extended_start f L D (coefficients c.args.m.now) (coefficients c.args.y.now) (list_polynomial f L c.args.m.now hm)
    (list_polynomial f L c.args.y.now hy) h k)
