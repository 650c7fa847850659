use Rattle.trees.proofs.Vectors.{vectors}
use Rattle.trees.proofs.laws.vectors_hold.Goals as goal

pub returns : goal.returns
returns c = vectors
