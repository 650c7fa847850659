use Rattle.std.proofs.Common.{◌≡◌, length, sym, refl, ap, ◌∙◌, arith}
use Rattle.device.specs.Refusals.{told}
use Rattle.device.proofs.Calls.{admitted}
use Rattle.layers.specs.FakeWorms.{meaning_of, bit_block, or_spoiled}
use Rattle.layers.proofs.Touches.{accepted}
use Rattle.layers.specs.Soundness.{worm_size_lem, within, worm_sound}
use Rattle.layers.proofs.Worms.{held_is, unread, was_read, unwritten, was_written, worm_write_spoiled, worm_write_held, worm_stored}
use Rattle.layers.proofs.fake_worm.FakeWormDevice.write.Goals as goal

pub overflow_add-at : goal.overflow_add-at
overflow_add-at g c =
    let s = c.args.self.now in
    omega (arith, c.size-size.ensures, (worm_sound s.label _ (g.met.A.Device.sound s.below)).bounded)

pub returns-in_err-or_spoiled-clause-cells : goal.returns-in_err-or_spoiled-clause-cells
returns-in_err-or_spoiled-clause-cells g c =
    let s = c.args.self.now in
    let b = c.args.block in
    let n = g.A.Device.meaning s.below in
    let ok = admitted (meaning_of g.A.Device s) _ b _ c.size-size.ensures c.in_ok-admit.ensures in
    let on = c.from_residual-in_err-or_spoiled.ensures.1 in
    let u = unread n (bit_block n b) _ c.read.result c.place-place.result refl (within s.label n b ok.1).bits _ (rw (c.size-size.ensures ∙ worm_size_lem s.label n) at c.read.ensures)
    c.in_err-or_spoiled.ensures in
    rw c.read.ensures.same (worm_write_spoiled s.label n b c.args.buf.now ok.0 ok.1 (λ _. u.0) _ _ on (u.1 ∙ rw c.place-place.ensures))

pub returns-in_err-or_spoiled-2-clause-cells : goal.returns-in_err-or_spoiled-2-clause-cells
returns-in_err-or_spoiled-2-clause-cells g c =
    let s = c.args.self.now in
    let b = c.args.block in
    let n = g.A.Device.meaning s.below in
    let ok = admitted (meaning_of g.A.Device s) _ b _ c.size-size.ensures c.in_ok-admit.ensures in
    let on = c.from_residual-in_err-or_spoiled-2.ensures.1 in
    let whole : length c.read.new.buf ≡ 512 = omega arith in
    let k = rw c.read.ensures.same at c.read-then-is_marked.ensures in
    let u = unread n b _ c.read-then-is_marked.result c.place-place.result whole (within s.label n b ok.1).block _ k c.in_err-or_spoiled-2.ensures in
    rw k.same (worm_write_spoiled s.label n b c.args.buf.now ok.0 ok.1 (λ x _. u.0 x) _ _ on (u.1 ∙ rw c.place-place.ensures))

pub returns-then-is_marked-clause-cells : goal.returns-then-is_marked-clause-cells
returns-then-is_marked-clause-cells g c =
    let s = c.args.self.now in
    let b = c.args.block in
    let n = g.A.Device.meaning s.below in
    let ok = admitted (meaning_of g.A.Device s) _ b _ c.size-size.ensures c.in_ok-admit.ensures in
    let w = within s.label n b ok.1 in
    let at = was_read n (bit_block n b) _ c.read.result c.place-place.result refl w.bits (rw (c.size-size.ensures ∙ worm_size_lem s.label n) at c.read.ensures) c.in_ok-or_spoiled.ensures in
    let whole : length c.read.new.buf ≡ 512 = omega arith in
    let k = rw c.read.ensures.same at c.read-then-is_marked.ensures in
    let x = was_read n b _ c.read-then-is_marked.result c.place-place.result whole w.block k c.in_ok-or_spoiled-2.ensures in
    rw (k.same, c.place-place.ensures) (worm_write_held s.label n b c.args.buf.now ok.0 ok.1 _ at _ x (sym c.is_marked.ensures ∙ c.if-is_marked.true))

pub returns-in_err-or_spoiled-3-clause-cells : goal.returns-in_err-or_spoiled-3-clause-cells
returns-in_err-or_spoiled-3-clause-cells g c =
    let s = c.args.self.now in
    let b = c.args.block in
    let n = g.A.Device.meaning s.below in
    let ok = admitted (meaning_of g.A.Device s) _ b _ c.size-size.ensures c.in_ok-admit.ensures in
    let w = within s.label n b ok.1 in
    let on = c.from_residual-in_err-or_spoiled-3.ensures.1 in
    let u = unwritten n b c.args.buf.now c.write.result c.place-place.result ok.0 w.block w.kind (rw c.read.ensures.same at c.write.ensures) _
    c.in_err-or_spoiled-3.ensures in
    rw u.2 (worm_write_spoiled s.label n b c.args.buf.now ok.0 ok.1 (λ x _. u.0 x) _ _ on (u.1 ∙ rw c.place-place.ensures))

pub returns : goal.returns
returns g c =
    let s = c.args.self.now in
    let b = c.args.block in
    let n = g.A.Device.meaning s.below in
    let ok = admitted (meaning_of g.A.Device s) _ b _ c.size-size.ensures c.in_ok-admit.ensures in
    let w = within s.label n b ok.1 in
    let at = was_read n (bit_block n b) _ c.read.result c.place-place.result refl w.bits (rw (c.size-size.ensures ∙ worm_size_lem s.label n) at c.read.ensures) c.in_ok-or_spoiled.ensures in
    let whole : length c.read.new.buf ≡ 512 = omega arith in
    let x = was_written n b c.args.buf.now c.write.result c.place-place.result ok.0 w.block w.kind (rw c.read.ensures.same at c.write.ensures)
    (g.met.A.Device.sound s.below) c.in_ok-or_spoiled-3.ensures in
    let k = rw (x.1, c.size-size.ensures ∙ worm_size_lem s.label n, c.mark.ensures) at c.write-2.ensures in
    let t = worm_stored s.label n b c.args.buf.now ok.0 ok.1 _ at _ (held_is _ x.0) c.write-2.result whole (sym c.is_marked.ensures ∙ c.if-is_marked.false) k in
    let z = accepted c.or_spoiled-3.result (c.or_spoiled-3.ensures ∙ ap (λ r. or_spoiled c.place-place.result (told r)) t.0) in
    rw z (record { cells = t.2; below = t.1 })
