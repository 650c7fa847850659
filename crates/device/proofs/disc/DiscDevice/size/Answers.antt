use Rattle.std.proofs.Common.{rules}
use Rattle.device.specs.Soundness.{disc_size_lem}
use Rattle.device.proofs.disc.DiscDevice.size.Goals as goal

pub returns : goal.returns
returns c = search (rules, disc_size_lem)
