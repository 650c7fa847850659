-- Every change that the plain tree accepts.
use Rattle.std.proofs.Common.{◌≡◌, ℕ, true, false, List, Ok}
use Rattle.plain.specs.Trees.{Tree}
use Rattle.plain.specs.Histories.{Change, mkfile, mkdir, write, remove}
use Rattle.plain.specs.Books.{changed}
use Rattle.trees.specs.Stored.{StoredTree, erase}
use Rattle.trees.specs.Represents.{BlockMap, WellFormed, Represents}
use Rattle.trees.specs.Plans.{plan_of}
use Rattle.trees.specs.Theorems.{Addable, Done, Changes}
use Rattle.trees.proofs.Formed.{formed_kept}
use Rattle.trees.proofs.Makes.{make_done}
use Rattle.trees.proofs.Writes.{write_done}
use Rattle.trees.proofs.Removes.{remove_done}

module _ (m : BlockMap) (limit : ℕ) (t : StoredTree) (r : Represents m limit t) (u : Tree) where
  by_change : (c : Change) → changed c (erase t) ≡ Ok u → WellFormed u → (new : List ℕ) → Addable limit t (plan_of t c).added new → Done m limit t (plan_of t c) new u
  by_change (mkfile path) ok formed = make_done m limit t r false path u ok formed
  by_change (mkdir path) ok formed = make_done m limit t r true path u ok formed
  by_change (write path off input) ok formed = write_done m limit t r path off input u ok formed
  by_change (remove path) ok formed = remove_done m limit t r path u ok formed

pub changes : Changes
changes m limit t r c u ok = by_change m limit t r u c ok (formed_kept c (erase t) u r.formed ok)
