use Rattle.plain.proofs.Seen.{sight_laws}
use Rattle.plain.proofs.laws.sight_laws_hold.Goals as goal

pub returns : goal.returns
returns c = sight_laws
