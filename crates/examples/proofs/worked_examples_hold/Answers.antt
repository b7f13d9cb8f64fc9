use Rattle.examples.proofs.Expressions.{expressions}
use Rattle.examples.proofs.Factors.{factors}
use Rattle.examples.proofs.Fields.{fields}
use Rattle.examples.proofs.Grounds.{grounds}
use Rattle.examples.proofs.Layer.{layer}
use Rattle.examples.proofs.Ledger.{ledger}
use Rattle.examples.proofs.Readings.{readings}
use Rattle.examples.proofs.Words.{words}
use Rattle.examples.proofs.worked_examples_hold.Goals as goal

pub returns : goal.returns
returns c =
    record {
      fields = fields;
      words = words;
      factors = factors;
      readings = readings;
      layer = layer;
      expressions = expressions;
      ledger = ledger;
      grounds = grounds;
    }
