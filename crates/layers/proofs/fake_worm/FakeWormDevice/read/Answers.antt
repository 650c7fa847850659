use Rattle.std.proofs.Common.{◌≡◌, length, sym, refl, ap, ◌∙◌, arith}
use Rattle.device.specs.Refusals.{told}
use Rattle.device.proofs.Calls.{admitted}
use Rattle.layers.specs.FakeWorms.{meaning_of, bit_block, or_spoiled}
use Rattle.layers.specs.Soundness.{worm_size_lem, within, worm_sound}
use Rattle.layers.proofs.Worms.{unread, was_read, worm_read_spoiled, worm_read_held, worm_read_blank}
use Rattle.layers.proofs.fake_worm.FakeWormDevice.read.Goals as goal

pub overflow_add-at : goal.overflow_add-at
overflow_add-at g c =
    let s = c.args.self.now in
    omega (arith, c.size-size.ensures, (worm_sound s.label _ (g.met.A.Device.sound s.below)).bounded)

pub returns-in_err-or_spoiled-clause-cells : goal.returns-in_err-or_spoiled-clause-cells
returns-in_err-or_spoiled-clause-cells g c =
    let s = c.args.self.now in
    let b = c.args.block in
    let n = g.A.Device.meaning s.below in
    let ok = admitted (meaning_of g.A.Device s) _ b _ c.size-size.ensures c.in_ok-admit.ensures in
    let u = unread n (bit_block n b) _ c.read.result c.place-place.result refl (within s.label n b ok.1).bits _ (rw (c.size-size.ensures ∙ worm_size_lem s.label n) at c.read.ensures)
    c.in_err-or_spoiled.ensures in
    rw c.read.ensures.same
    (worm_read_spoiled s.label n b c.args.buf.now ok.0 ok.1 (λ _. u.0) _ _ c.from_residual-in_err-or_spoiled.ensures.1 (u.1 ∙ rw c.place-place.ensures))

pub returns-then-is_marked-clause-cells : goal.returns-then-is_marked-clause-cells
returns-then-is_marked-clause-cells g c =
    let s = c.args.self.now in
    let b = c.args.block in
    let n = g.A.Device.meaning s.below in
    let ok = admitted (meaning_of g.A.Device s) _ b _ c.size-size.ensures c.in_ok-admit.ensures in
    let at = was_read n (bit_block n b) _ c.read.result c.place-place.result refl (within s.label n b ok.1).bits (rw (c.size-size.ensures ∙ worm_size_lem s.label n) at c.read.ensures)
    c.in_ok-or_spoiled.ensures in
    let k = rw c.read.ensures.same at c.read-then-is_marked.ensures in
    worm_read_held s.label n b c.args.buf.now ok.0 ok.1 _ at c.read-then-is_marked.result c.or_spoiled-then-is_marked.result
    (sym c.is_marked.ensures ∙ c.if-is_marked.true) k
    (c.or_spoiled-then-is_marked.ensures ∙ ap (λ p. or_spoiled p (told c.read-then-is_marked.result)) c.place-place.ensures)

pub returns-in_err-or_spoiled-2-clause-cells : goal.returns-in_err-or_spoiled-2-clause-cells
returns-in_err-or_spoiled-2-clause-cells g c =
    let s = c.args.self.now in
    let b = c.args.block in
    let n = g.A.Device.meaning s.below in
    let ok = admitted (meaning_of g.A.Device s) _ b _ c.size-size.ensures c.in_ok-admit.ensures in
    let whole : length c.read.new.buf ≡ 512 = omega arith in
    let k = rw c.read.ensures.same at c.read-2.ensures in
    let u = unread n b _ c.read-2.result c.place-place.result whole (within s.label n b ok.1).block _ k c.in_err-or_spoiled-2.ensures in
    rw k.same
    (worm_read_spoiled s.label n b c.args.buf.now ok.0 ok.1 (λ x _. u.0 x) _ _ c.from_residual-in_err-or_spoiled-2.ensures.1 (u.1 ∙ rw c.place-place.ensures))

pub returns-clause-cells : goal.returns-clause-cells
returns-clause-cells g c =
    let s = c.args.self.now in
    let b = c.args.block in
    let n = g.A.Device.meaning s.below in
    let ok = admitted (meaning_of g.A.Device s) _ b _ c.size-size.ensures c.in_ok-admit.ensures in
    let w = within s.label n b ok.1 in
    let at = was_read n (bit_block n b) _ c.read.result c.place-place.result refl w.bits (rw (c.size-size.ensures ∙ worm_size_lem s.label n) at c.read.ensures) c.in_ok-or_spoiled.ensures in
    let whole : length c.read.new.buf ≡ 512 = omega arith in
    let k = rw c.read.ensures.same at c.read-2.ensures in
    let x = was_read n b _ c.read-2.result c.place-place.result whole w.block k c.in_ok-or_spoiled-2.ensures in
    rw (k.same, c.place-place.ensures) (worm_read_blank s.label n b c.args.buf.now ok.0 ok.1 _ at _ x (sym c.is_marked.ensures ∙ c.if-is_marked.false))
