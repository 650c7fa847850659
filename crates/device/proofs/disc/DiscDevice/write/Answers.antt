use Rattle.std.proofs.Common.{◌≡◌, ◌++◌, length, take, drop, vec_items, ap, ◌∙◌, arith}
use Rattle.std.proofs.lemmas.List.{take_at}
use Rattle.device.specs.Calls.{state_of, write_state}
use Rattle.device.specs.Storage.{meaning_of, disc_meaning, stored}
use Rattle.device.proofs.Calls.{passed, write_refused, write_in}
use Rattle.device.proofs.Storages.{admitted_on, disc_put}
use Rattle.device.proofs.disc.DiscDevice.write.Goals as goal

pub state-requires : goal.state-requires
state-requires c = (admitted_on _ _ _ _ _ _ c.size.ensures c.in_ok-admit.ensures).stored

pub returns-in_err-writable : goal.returns-in_err-writable
returns-in_err-writable c =
    let ok = admitted_on _ _ _ _ _ _ c.size.ensures c.in_ok-admit.ensures in
    record {
      cells = write_refused (meaning_of c.args.self.now) c.args.block c.args.buf.now _ _ c.from_residual-in_err-writable.ensures.1 ok.whole ok.within
          (c.in_err-writable.ensures ∙ ap (λ p. write_state c.args.self.now.kind p c.state.result) c.place.ensures ∙ ap (write_state _ _) (c.state.ensures ∙ ap state_of ok.cell));
      storage = rw (passed _ _ c.from_residual-in_err-writable.ensures.1);
    }

pub store-requires-clause-within : goal.store-requires-clause-within
store-requires-clause-within c = rw c.deref_mut.ensures.value (admitted_on _ _ _ _ _ _ c.size.ensures c.in_ok-admit.ensures).stored

pub returns : goal.returns
returns c =
    let d = c.args.self.now in
    let ok = admitted_on _ _ _ _ _ _ c.size.ensures c.in_ok-admit.ensures in
    let same : length c.store.new.storage ≡ d.storage.len = omega arith in
    let after : take d.storage.len (c.store.new.storage ++ drop (length c.store.new.storage) d.storage.items) ≡ stored d.storage.items c.args.block c.args.buf.now = rw (take_at, ← c.deref_mut.ensures.value) c.store.ensures in
    record {
      cells = write_in (meaning_of d) c.args.block c.args.buf.now _ ok.whole ok.within
          (c.in_ok-writable.ensures ∙ ap (λ p. write_state d.kind p c.state.result) c.place.ensures ∙ ap (write_state _ _) (c.state.ensures ∙ ap state_of ok.cell))
          (ap (disc_meaning d.label d.kind) after ∙ disc_put d.kind (vec_items d.storage) c.args.block c.args.buf.now ok.stored ok.whole d.label);
      storage = after;
    }
