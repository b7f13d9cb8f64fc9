-- The scheme that a plan holds.
use Rattle.field.specs.declared.Field as field
use Rattle.plan.specs.Agreement.{kept}
use Rattle.plan.specs.Schemes.{Scheme}
use Rattle.plan.specs.declared.plans.Plan.{Plan}

abbrev pub scheme : {F : Type 0} {fields : field.Ghosts F} → Plan F fields → Scheme
scheme {fields = fields} plan = kept fields.arithmetic plan.carriers plan.positions plan.moduli
