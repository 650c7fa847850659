use Rattle.std.proofs.Common.{rules}
use Rattle.layers.specs.Soundness.{mirror_size_lem}
use Rattle.layers.proofs.mirror.MirrorDevice.size.Goals as goal

pub returns-then-eq : goal.returns-then-eq
returns-then-eq g c =
    let s = c.args.self.now in
    let n = mirror_size_lem s.label (g.A.Device.meaning s.first) (g.B.Device.meaning s.second) in let e = c.if-eq.ensures in search rules
