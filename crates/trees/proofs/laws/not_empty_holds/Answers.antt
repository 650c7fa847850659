use Rattle.trees.proofs.NewTree.{not_empty}
use Rattle.trees.proofs.laws.not_empty_holds.Goals as goal

pub returns : goal.returns
returns c = not_empty
