use Rattle.trees.proofs.Changes.{changes}
use Rattle.trees.proofs.laws.changes_hold.Goals as goal

pub returns : goal.returns
returns c = changes
