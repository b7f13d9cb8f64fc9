-- What is said of lists that are not run, in a sentence without its full stop.
use Rattle.std.specs.Prelude.{ℕ, List, ◌++◌, codes}
use Rattle.plan.specs.Sentences.{plan_sentence}
use Rattle.rack.specs.Sentences.{fit_sentence}
use Rattle.batch.specs.declared.faults.LoadFault.{LoadFault}
use Rattle.batch.specs.declared.faults.LoadFault.TheVariants as load
use Rattle.batch.specs.declared.faults.PairFault.{PairFault}
use Rattle.batch.specs.declared.faults.PairFault.TheVariants as pair

abbrev pub load_sentence : LoadFault → List ℕ
load_sentence (load.Plan fault) = plan_sentence fault
load_sentence (load.Rack fault) = fit_sentence

abbrev pub pair_sentence : PairFault → List ℕ
pair_sentence (pair.Plan fault) = plan_sentence fault
pair_sentence (pair.First fault) = codes "of the first rack, " ++ fit_sentence
pair_sentence (pair.Second fault) = codes "of the second rack, " ++ fit_sentence
