use Rattle.std.proofs.Common.{suc, ◌%◌, eqb, ltb, refl, arith}
use native.Mathlib.Nat.{zero-mod}
use Rattle.std.proofs.lemmas.Bool.{and_from, eq-eqb, lt-ltb}
use Rattle.examples.specs.Layer.{LayerExamples}

pub layer : LayerExamples
layer =
    record {
      cell_three = refl;
      depth_three = refl;
      depth_none = λ cells. refl;
      ground_eight = refl;
      no_cells = λ depth. and_from (ltb 0 (suc depth)) (eqb (0 % suc depth) 0) (lt-ltb 0 (suc depth) (omega arith)) (eq-eqb (0 % suc depth) 0 (zero-mod (suc depth)));
    }
