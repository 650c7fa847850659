use Rattle.std.proofs.Common.{rules, ◌≡◌, sym, ap, ◌∙◌}
use Rattle.std.proofs.lemmas.Bool.{false≢true}
use denote.Enum.Bare.{sameb, same_true}
use Rattle.device.specs.contracts.cell_state.CellState.{the_type}
use Rattle.device.specs.declared.cell_state.CellState.TheVariants.{Held}
use Rattle.device.proofs.Calls.{admitted}
use Rattle.device.specs.Refusals.{told}
use Rattle.device.specs.Calls.{state_told, read_state}
use Rattle.layers.specs.Mirrors.{meaning_of, mirror_state}
use Rattle.layers.proofs.Sides.{mirror_read_first, mirror_read_second}
use Rattle.layers.proofs.mirror.MirrorDevice.read.Goals as goal

pub returns-then-eq-clause-cells : goal.returns-then-eq-clause-cells
returns-then-eq-clause-cells g c =
    let s = c.args.self.now in
    let a = g.A.Device.meaning s.first in
    let b = g.B.Device.meaning s.second in
    let ok = admitted (meaning_of g.A.Device g.B.Device s) _ c.args.block _ c.size.ensures c.in_ok-admit.ensures in
    mirror_read_first s.label a b c.args.block c.args.buf.now ok.0 ok.1 c.read.result c.read.ensures (sym c.from-first.ensures ∙ same_true the_type (search rules) _ _ (sym c.if-eq.ensures))

pub returns-clause-cells : goal.returns-clause-cells
returns-clause-cells g c =
    let s = c.args.self.now in
    let a = g.A.Device.meaning s.first in
    let b = g.B.Device.meaning s.second in
    let ok = admitted (meaning_of g.A.Device g.B.Device s) _ c.args.block _ c.size.ensures c.in_ok-admit.ensures in
    let state : c.merge.result ≡ mirror_state (state_told (told c.read.result)) (state_told (told c.read-2.result)) =
    c.merge.ensures ∙ ap (λ x. mirror_state x c.from-second.result) c.from-first.ensures ∙ ap (mirror_state (state_told (told c.read.result))) c.from-second.ensures in
    mirror_read_second s.label a b c.args.block c.args.buf.now ok.0 ok.1 c.read.result c.read-2.result c.readable.result
    c.read.ensures c.read-2.ensures (λ e. false≢true (c.if-eq.ensures ∙ ap (λ x. sameb the_type x Held) (c.from-first.ensures ∙ e)))
    (c.readable.ensures ∙ ap (λ p. read_state p c.merge.result) c.place-place.ensures ∙ ap (read_state (a.place c.args.block)) state)
