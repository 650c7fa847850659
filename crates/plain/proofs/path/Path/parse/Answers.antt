use Rattle.std.proofs.Common.{refl, arith, rules}
use Rattle.plain.proofs.Pieces.{path_long}
use Rattle.plain.proofs.path.Path.parse.Goals as goal

pub returns-in_default : goal.returns-in_default
returns-in_default c = (refl, grind (arith, rules, path_long c.args.text.now))
