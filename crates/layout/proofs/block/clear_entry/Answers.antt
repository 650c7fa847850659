use Rattle.std.proofs.Common.{◌≡◌, ◌+◌, ◌-◌, ◌*◌, length, take, drop, replicate, sym, ap, ◌∙◌, arith}
use Rattle.std.proofs.lemmas.List.{length-take-le, length-drop}
use Rattle.layout.specs.Entries.{empty_entry}
use Rattle.layout.proofs.Fields.{place_written, empty_bytes}
use Rattle.layout.proofs.block.clear_entry.Goals as goal

pub returns-clause-after : goal.returns-clause-after
returns-clause-after c =
    let at = 72 * c.args.k in
    let long : length (take (at + 72 - at) (drop at c.args.bytes.now)) ≡ 72 = length-take-le (at + 72 - at) (drop at c.args.bytes.now) (omega (arith, length-drop at c.args.bytes.now)) ∙ omega arith in
    place_written c.args.k c.args.bytes.now _ empty_entry (c.fill.ensures.after (λ y q. q) ∙ ap (λ n. replicate n 0) long ∙ sym empty_bytes)
