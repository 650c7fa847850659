use Rattle.std.proofs.Common.{rules}
use Rattle.layout.specs.Numbers.{number16}
use Rattle.layout.proofs.numbers.U16Number.from_bytes.Goals as goal

pub returns : goal.returns
unfolding number16
returns c = search rules
