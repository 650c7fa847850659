use Rattle.trees.proofs.Answered.{look_ups}
use Rattle.trees.proofs.laws.look_ups_hold.Goals as goal

pub returns : goal.returns
returns c = look_ups
