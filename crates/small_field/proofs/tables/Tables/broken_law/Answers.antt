use Rattle.small_field.proofs.Deciding.{decided}
use Rattle.small_field.proofs.tables.Tables.broken_law.Goals as goal

pub returns : goal.returns
returns c = decided c.args.self.now c.search.result c.search.ensures
