-- When lists of calls are not run: k and the moduli make no plan, or a memory does not fit.
use Rattle.std.specs.Prelude.{ℕ, List}
use Rattle.fault.specs.declared.Ground.{Ground}
use Rattle.algebra.specs.Field.{Arithmetic}
use Rattle.plan.specs.Refusals.{Accepted, Refused, plan_ground}
use Rattle.plan.specs.Schemes.{handed_in}
use Rattle.rack.specs.Grounds.{fit_ground}
use Rattle.rack.specs.States.{Fits}
use Rattle.batch.specs.declared.faults.LoadFault.{LoadFault}
use Rattle.batch.specs.declared.faults.LoadFault.TheVariants as load
use Rattle.batch.specs.declared.faults.PairFault.{PairFault}
use Rattle.batch.specs.declared.faults.PairFault.TheVariants as pair

module _ (f : Arithmetic) (k : ℕ) (codes : List ℕ) where
  -- One rack, of S slots over cells with a top: there is no plan; or there is one, and the rack does not fit.
  abbrev pub LoadRefused : (S : ℕ) → List ℕ → (top : ℕ) → LoadFault → Type 0
  LoadRefused S cells top (load.Plan fault) = Refused f k codes fault
  LoadRefused S cells top (load.Rack fault) = Accepted f k codes × ¬ (Fits (handed_in f k codes) S cells top)

  -- Two racks, the first of S slots and the second of T: there is no plan; or there is one, and the first
  -- rack does not fit; or that fits, and the second does not.
  abbrev pub PairRefused : (S : ℕ) → List ℕ → (top : ℕ) → (T : ℕ) → List ℕ → (top' : ℕ) → PairFault → Type 0
  PairRefused S cells top T cells' top' (pair.Plan fault) = Refused f k codes fault
  PairRefused S cells top T cells' top' (pair.First fault) = Accepted f k codes × ¬ (Fits (handed_in f k codes) S cells top)
  PairRefused S cells top T cells' top' (pair.Second fault) =
      Accepted f k codes × Fits (handed_in f k codes) S cells top × ¬ (Fits (handed_in f k codes) T cells' top')

-- Number, layer and places are those of the fault within.
abbrev pub load_ground : LoadFault → Ground
load_ground (load.Plan fault) = plan_ground fault
load_ground (load.Rack fault) = fit_ground

abbrev pub pair_ground : PairFault → Ground
pair_ground (pair.Plan fault) = plan_ground fault
pair_ground (pair.First fault) = fit_ground
pair_ground (pair.Second fault) = fit_ground
