use Rattle.std.proofs.Common.{◌≡◌, Ok, ◌∙◌}
use Rattle.device.specs.Refusals.{Outcome}
use Rattle.device.specs.Calls.{write_state}
use Rattle.device.proofs.Calls.{admitted, passed}
use Rattle.layers.specs.Mirrors.{meaning_of, mirror_state}
use Rattle.layers.proofs.Sides.{mirror_write_refused, first_written, second_written, mirror_written}
use Rattle.layers.proofs.mirror.MirrorDevice.write.Goals as goal

pub returns-in_err-writable-clause-cells : goal.returns-in_err-writable-clause-cells
returns-in_err-writable-clause-cells g c =
    let s = c.args.self.now in
    let a = g.A.Device.meaning s.first in
    let b = g.B.Device.meaning s.second in
    let ok = admitted (meaning_of g.A.Device g.B.Device s) _ c.args.block _ c.size.ensures c.in_ok-admit.ensures in
    let on = c.from_residual-in_err-writable.ensures.1 in
    let e = passed _ _ on in
    rw (c.of-first.ensures.same, c.of-second.ensures.same)
    (mirror_write_refused s.label a b c.args.block c.args.buf.now ok.0 ok.1 _ _ c.of-first.ensures.state c.of-second.ensures.state _ _ on
    (c.in_err-writable.ensures ∙ rw (c.kind-kind.ensures, c.place-place.ensures, c.merge.ensures)))

pub returns-clause-cells : goal.returns-clause-cells
returns-clause-cells g c =
    let s = c.args.self.now in
    let a = g.A.Device.meaning s.first in
    let b = g.B.Device.meaning s.second in
    let ok = admitted (meaning_of g.A.Device g.B.Device s) _ c.args.block _ c.size.ensures c.in_ok-admit.ensures in
    let may : ◌≡◌ {A = Outcome} (Ok tt) (write_state a.kind (a.place c.args.block) (mirror_state c.of-first.result c.of-second.result)) =
    c.in_ok-writable.ensures ∙ rw (c.kind-kind.ensures, c.place-place.ensures, c.merge.ensures) in
    let p = first_written s.label a b c.args.block c.args.buf.now ok.0 ok.1 _ _ c.of-first.ensures.state c.of-second.ensures.state may c.write_side.result
    (rw c.of-first.ensures.same at c.write_side.ensures) in
    let q = second_written s.label a b c.args.block c.args.buf.now ok.0 ok.1 _ _ c.of-first.ensures.state c.of-second.ensures.state may c.write_side-2.result
    (rw c.of-second.ensures.same at c.write_side-2.ensures) in
    rw q.0 (mirror_written s.label a b c.args.block c.args.buf.now ok.0 ok.1 _ _ c.of-first.ensures.state c.of-second.ensures.state may p.1 q.1)
