use Rattle.std.proofs.Common.{sym, ◌∙◌, arith}
use Rattle.layout.proofs.Patches.{patched_none, patched_more}
use Rattle.layout.proofs.numbers.put_all.Goals as goal

pub loop-i-init : goal.loop-i-init
loop-i-init g c = sym (patched_none c.args.at c.args.bytes.now)

pub loop-i-preserved : goal.loop-i-preserved
loop-i-preserved g c =
    let long = λ (x : g.row.N.Denot). g.met.N.Number.long x ∙ sym c.SIZE.ensures in
    patched_more g.N.Number.bytes_of c.SIZE.result c.args.at c.args.bytes.now long (omega arith) c.args.numbers.now c.loop-i.i c.index-numbers-i.result c.loop-i-test.true c.index-numbers-i.is
    c.loop-i.invariant c.put.ensures
