use Rattle.std.proofs.Common.{◌++◌, drop, replicate, ap, ◌∙◌}
use Rattle.layout.proofs.Parts.{fit_copied}
use Rattle.layout.proofs.entry.name_field.Goals as goal

pub returns : goal.returns
returns c =
    let len = c.min-len.result in
    ap (λ new. new ++ drop len (replicate 28 0)) c.copy_from_slice.ensures.after ∙ fit_copied 28 len 0 c.args.name.now c.min-len.ensures
