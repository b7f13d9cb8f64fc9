-- The worked examples as one list, to which each layer adds its own. Each is a statement about the
-- definitions that contracts cite.
use Rattle.examples.specs.Expressions.{ExpressionExamples}
use Rattle.examples.specs.Factors.{FactorExamples}
use Rattle.examples.specs.Fields.{FieldExamples}
use Rattle.examples.specs.Grounds.{GroundTable}
use Rattle.examples.specs.Layer.{LayerExamples}
use Rattle.examples.specs.Ledger.{LedgerExamples}
use Rattle.examples.specs.Readings.{ReadingExamples}
use Rattle.examples.specs.Words.{WordExamples}

pub record WorkedExamples : Type 0 where
  pub fields : FieldExamples
  pub words : WordExamples
  pub factors : FactorExamples
  pub readings : ReadingExamples
  pub layer : LayerExamples
  pub expressions : ExpressionExamples
  pub ledger : LedgerExamples
  pub grounds : GroundTable
