use Rattle.plain.proofs.Pieces.{path_is, path_back}
use Rattle.plain.proofs.laws.path_laws_hold.Goals as goal

pub returns : goal.returns
returns c = record { read_back = path_back; shown = λ text ns is. (path_is text ns is).shown }
