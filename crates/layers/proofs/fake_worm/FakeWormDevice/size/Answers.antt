use Rattle.std.proofs.Common.{rules}
use Rattle.layers.specs.Soundness.{worm_size_lem}
use Rattle.layers.proofs.fake_worm.FakeWormDevice.size.Goals as goal

pub returns-then-eq : goal.returns-then-eq
returns-then-eq g c =
    let n = worm_size_lem c.args.self.now.label (g.A.Device.meaning c.args.self.now.below) in let e = c.if-eq.ensures in search rules
