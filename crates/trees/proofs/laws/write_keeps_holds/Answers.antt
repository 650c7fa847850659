use Rattle.trees.proofs.Writes.{write_keeps}
use Rattle.trees.proofs.laws.write_keeps_holds.Goals as goal

pub returns : goal.returns
returns c = write_keeps
