use Rattle.std.proofs.Common.{rules}
use Rattle.layout.specs.Numbers.{bytes16}
use Rattle.layout.proofs.numbers.U16Number.write_to.Goals as goal

pub returns : goal.returns
unfolding bytes16
returns c = search rules
