use Rattle.trees.proofs.Decodes.{read_by_layouts}
use Rattle.trees.proofs.laws.read_by_layouts_holds.Goals as goal

pub returns : goal.returns
returns c = read_by_layouts
