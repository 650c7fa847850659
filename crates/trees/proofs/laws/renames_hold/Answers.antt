use Rattle.trees.proofs.Renames.{renames}
use Rattle.trees.proofs.laws.renames_hold.Goals as goal

pub returns : goal.returns
returns c = renames
