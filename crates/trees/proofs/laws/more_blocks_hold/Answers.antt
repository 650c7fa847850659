use Rattle.trees.proofs.MoreBlocks.{more_blocks}
use Rattle.trees.proofs.laws.more_blocks_hold.Goals as goal

pub returns : goal.returns
returns c = more_blocks
