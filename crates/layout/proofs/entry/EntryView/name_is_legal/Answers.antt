use Rattle.std.proofs.Common.{arith}
use Rattle.std.proofs.lemmas.Grind.{common_steps}
use Rattle.layout.specs.Entries.{legal_name_field}
use Rattle.layout.proofs.entry.EntryView.name_is_legal.Goals as goal

pub returns-then-is_name : goal.returns-then-is_name
unfolding legal_name_field
returns-then-is_name c = grind (arith, common_steps)

pub returns-else-is_name : goal.returns-else-is_name
unfolding legal_name_field
returns-else-is_name c = grind (arith, common_steps)
