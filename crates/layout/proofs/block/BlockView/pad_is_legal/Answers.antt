use Rattle.std.proofs.Common.{ap}
use Rattle.layout.specs.Blocks.{legal_pad}
use Rattle.layout.proofs.block.BlockView.pad_is_legal.Goals as goal

pub returns : goal.returns
unfolding legal_pad
returns c = ap legal_pad c.pad.ensures
