-- The numbering of the spreading layer, and the depths that it refuses.
use Rattle.std.specs.Prelude.{◌≡◌, ℕ, suc, true, false, Some}
use Rattle.fault.specs.declared.Layer.TheVariants as layer
use Rattle.spread.specs.Place.{depth_ground, divides, placed}

pub record LayerExamples : Type 0 where
  -- over 8 cells at depth 2, cell 3 is cell 5 below
  pub cell_three : placed 2 8 3 ≡ Some 5
  -- depth 3 does not divide 8, and depth 0 divides nothing: ground 8
  pub depth_three : divides 3 8 ≡ false
  pub depth_none : (cells : ℕ) → divides 0 cells ≡ false
  pub ground_eight : depth_ground ≡ record { number = 8; layer = layer.Memory; first = 0; second = 0 }
  -- a memory without cells can be spread at any other depth
  pub no_cells : (depth : ℕ) → divides (suc depth) 0 ≡ true
