use Rattle.layout.specs.Numbers.{bytes16, bytes32, patched}
use Rattle.layout.specs.Blocks.{block}
use Rattle.layout.proofs.block.new_block.Goals as goal

pub returns : goal.returns
unfolding block patched bytes16 bytes32
returns c = simp (c.put-2.ensures, c.put.ensures, c.from.ensures)
