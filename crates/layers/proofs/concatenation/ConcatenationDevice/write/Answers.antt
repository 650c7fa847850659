use Rattle.std.proofs.Common.{◌<◌, ◌≤◌, arith}
use Rattle.device.specs.Meaning.{size}
use Rattle.device.proofs.Calls.{admitted}
use Rattle.layers.specs.Concatenations.{meaning_of}
use Rattle.layers.proofs.Joins.{first_write, second_write}
use Rattle.layers.proofs.concatenation.ConcatenationDevice.write.Goals as goal

pub returns-then-block-split-clause-cells : goal.returns-then-block-split-clause-cells
returns-then-block-split-clause-cells g c =
    let s = c.args.self.now in
    let a = g.A.Device.meaning s.first in
    let ok = admitted (meaning_of g.A.Device g.B.Device s) _ c.args.block _ c.size.ensures c.in_ok-admit.ensures in
    let lt : c.args.block < size a = omega arith in
    first_write s.label a (g.B.Device.meaning s.second) c.args.block c.args.buf.now c.write.result ok.0 ok.1 lt c.write.ensures

pub returns-else-block-split-clause-cells : goal.returns-else-block-split-clause-cells
returns-else-block-split-clause-cells g c =
    let s = c.args.self.now in
    let a = g.A.Device.meaning s.first in
    let ok = admitted (meaning_of g.A.Device g.B.Device s) _ c.args.block _ c.size.ensures c.in_ok-admit.ensures in
    let ge : size a ≤ c.args.block = omega arith in
    second_write s.label a (g.B.Device.meaning s.second) c.args.block c.args.buf.now c.write-else-block-split.result ok.0 ok.1 ge
    (rw c.size-split.ensures at c.write-else-block-split.ensures)
