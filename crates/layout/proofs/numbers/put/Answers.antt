use Rattle.std.proofs.Common.{arith}
use Rattle.layout.proofs.Patches.{put_is}
use Rattle.layout.proofs.numbers.put.Goals as goal

pub returns : goal.returns
returns g c = put_is c.args.at _ c.args.bytes.now _ (g.N.Number.bytes_of c.args.number) c.write_to.ensures (omega (arith, c.SIZE.ensures, g.met.N.Number.long c.args.number))
