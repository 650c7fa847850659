use Rattle.std.proofs.Common.{rules}
use Rattle.layout.specs.Numbers.{bytes32}
use Rattle.layout.proofs.numbers.U32Number.write_to.Goals as goal

pub returns : goal.returns
unfolding bytes32
returns c = search rules
