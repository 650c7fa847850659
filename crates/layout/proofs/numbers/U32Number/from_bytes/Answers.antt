use Rattle.std.proofs.Common.{rules}
use Rattle.layout.specs.Numbers.{number32}
use Rattle.layout.proofs.numbers.U32Number.from_bytes.Goals as goal

pub returns : goal.returns
unfolding number32
returns c = search rules
