use Rattle.std.proofs.Common.{arith}
use Rattle.device.proofs.Storages.{store_is}
use Rattle.device.proofs.disc.store.Goals as goal

pub returns : goal.returns
returns c = simp (c.from.ensures, c.copy_from_slice.ensures.after) (store_is c.args.storage.now c.args.block c.args.buf.now _ c.requires.within (omega arith))
