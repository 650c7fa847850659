use Rattle.layout.specs.Numbers.{bytes16, bytes32, fit, patched}
use Rattle.layout.specs.Blocks.{block}
use Rattle.layout.specs.Supers.{super_block}
use Rattle.layout.proofs.super_block.Super.to_block.Goals as goal

pub returns : goal.returns
unfolding super_block block fit patched bytes16 bytes32
returns c = simp (c.put_all.ensures, c.new_block-bytes.ensures)
