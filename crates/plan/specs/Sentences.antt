-- What is said of a refused plan or a refused encoding, in a sentence without its full stop; places are counted from 0.
use Rattle.std.specs.Prelude.{ℕ, List, ◌++◌, codes, decimal}
use Rattle.plan.specs.Limits.{modulus_codes, most_total}
use Rattle.plan.specs.declared.faults.EncodeFault.{EncodeFault}
use Rattle.plan.specs.declared.faults.EncodeFault.TheVariants.{MessageLength, WordLength, NoCode}
use Rattle.plan.specs.declared.faults.PlanFault.{PlanFault}
use Rattle.plan.specs.declared.faults.PlanFault.TheVariants.{Shape, Modulus, TotalDegree, SharedFactor}

abbrev pub plan_sentence : PlanFault → List ℕ
plan_sentence Shape =
    codes "the codes are not whole groups of " ++ decimal modulus_codes ++ codes ", or k or the number of moduli is out of its range"
plan_sentence (Modulus i) =
    codes "modulus " ++ decimal i ++ codes " has a number that is no code, a leading code other than 1, or degree 0"
plan_sentence TotalDegree = codes "the degrees of the moduli sum to more than " ++ decimal most_total
plan_sentence (SharedFactor i j) = codes "modulus " ++ decimal i ++ codes " and modulus " ++ decimal j ++ codes " share a factor"

abbrev pub encode_sentence : EncodeFault → List ℕ
encode_sentence (MessageLength right) = codes "a message under this plan has " ++ decimal right ++ codes " codes"
encode_sentence (WordLength right) = codes "a word under this plan has " ++ decimal right ++ codes " codes"
encode_sentence (NoCode i) = codes "number " ++ decimal i ++ codes " of the message is no code of the field"
