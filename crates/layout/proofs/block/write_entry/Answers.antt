use Rattle.layout.specs.Entries.{shown}
use Rattle.layout.proofs.Fields.{place_written}
use Rattle.layout.proofs.block.write_entry.Goals as goal

pub returns-clause-after : goal.returns-clause-after
returns-clause-after c = place_written c.args.k c.args.bytes.now _ (shown c.args.entry.now) c.write_to.ensures
