use Rattle.layout.specs.Numbers.{bytes16, bytes32, fit, patched}
use Rattle.layout.specs.Blocks.{block}
use Rattle.layout.specs.Entries.{entry_bytes, directory_block, root_block}
use Rattle.layout.proofs.root.root_block.Goals as goal

pub returns : goal.returns
unfolding root_block directory_block block entry_bytes fit patched bytes16 bytes32
returns c = simp (c.write_entry.ensures.after, c.write_entry.ensures.done, c.new_block-bytes.ensures, c.name_field.ensures)
