use Rattle.layers.proofs.Marks.{mask_test}
use Rattle.layers.proofs.fake_worm.is_marked.Goals as goal

pub returns : goal.returns
returns c = rw (c.byte_of.ensures.value, c.mask.ensures) (mask_test _ c.args.block)
