use Rattle.std.proofs.Common.{◌+◌, ◌*◌, take, drop, vec_items, sym, refl, ap, ◌∙◌, arith}
use Rattle.device.specs.Calls.{state_of, read_state, contents}
use Rattle.device.specs.Storage.{meaning_of}
use Rattle.device.proofs.Calls.{read_refused, read_in, readable_held}
use Rattle.device.proofs.Storages.{disc_held, admitted_on}
use Rattle.device.proofs.disc.DiscDevice.read.Goals as goal

pub state-requires : goal.state-requires
state-requires c = (admitted_on _ _ _ _ _ _ c.size.ensures c.in_ok-admit.ensures).stored

pub returns-in_err-readable-clause-cells : goal.returns-in_err-readable-clause-cells
returns-in_err-readable-clause-cells c =
    let ok = admitted_on _ _ _ _ _ _ c.size.ensures c.in_ok-admit.ensures in
    read_refused (meaning_of c.args.self.now) c.args.block c.args.buf.now _ _ c.from_residual-in_err-readable.ensures.1
    ok.whole ok.within (c.in_err-readable.ensures ∙ ap (λ p. read_state p c.state.result) c.place.ensures ∙ ap (read_state _) (c.state.ensures ∙ ap state_of ok.cell))

pub slice_bounds-copy_from_slice-end : goal.slice_bounds-copy_from_slice-end
slice_bounds-copy_from_slice-end c =
    let stored = (admitted_on _ _ _ _ _ _ c.size.ensures c.in_ok-admit.ensures).stored in
    omega (arith, stored, c.deref.ensures.len)

pub returns-clause-cells : goal.returns-clause-cells
returns-clause-cells c =
    let d = c.args.self.now in
    let ok = admitted_on _ _ _ _ _ _ c.size.ensures c.in_ok-admit.ensures in
    let found = disc_held d.label d.kind (vec_items d.storage) c.args.block (sym c.state.ensures ∙ readable_held _ _ c.in_ok-readable.ensures) in
    read_in (meaning_of d) c.args.block c.args.buf.now _ ok.whole ok.within
    (c.in_ok-readable.ensures ∙ ap (λ p. read_state p c.state.result) c.place.ensures ∙ ap (read_state _) (c.state.ensures ∙ ap state_of ok.cell))
    (c.copy_from_slice.ensures.after ∙ ap (λ n. take n (drop (c.args.block * 513 + 1) c.deref.result.now)) {y = 512} (omega arith)
    ∙ ap (λ bytes. take 512 (drop (c.args.block * 513 + 1) bytes)) c.deref.ensures.value ∙ ap (λ x. contents x c.args.buf.now) (sym found ∙ ok.cell))
    refl
