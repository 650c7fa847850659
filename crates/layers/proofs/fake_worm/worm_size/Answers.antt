use Rattle.std.proofs.Common.{sym}
use Rattle.layers.specs.Soundness.{worm_size_is}
use Rattle.layers.proofs.fake_worm.worm_size.Goals as goal

pub returns : goal.returns
returns c = sym (worm_size_is c.args.n)
