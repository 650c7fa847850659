-- What is proved of trees on blocks.
use Rattle.std.specs.Prelude.{◌≡◌, ℕ, ◌+◌, ◌*◌, ◌^◌, ◌<◌, ◌≤◌, List, ◌++◌, map, length, Ok}
use Rattle.std.specs.List.{AllByRecursion}
use Rattle.plain.specs.Trees as plain
use Rattle.plain.specs.Trees.{File, Tree, end, walk, empty_tree}
use Rattle.plain.specs.Operations.{read_at, stat_at, entry_at, written}
use Rattle.plain.specs.Histories.{Change}
use Rattle.plain.specs.Books.{changed}
use Rattle.layout.specs.Numbers.{patched, fit}
use Rattle.layout.specs.Entries.{entry_bytes, root_block}
use Rattle.trees.specs.Stored.{Stored, nowhere, Content, pointers, place_entry, StoredTree, root_place, blocks_of, count, uses, erase}
use Rattle.trees.specs.Represents.{BlockMap, Stands, InRange, Represents}
use Rattle.trees.specs.Decoded.{tree_at}
use Rattle.trees.specs.Lookups.{and_then, look_up, stat_of, entry_in, read_in}
use Rattle.trees.specs.Checks.{check_tree}
use Rattle.trees.specs.Plans.{Plan, plan_of, written_at, blocks_needed, grown}
use Rattle.trees.specs.Renaming.{renamed, renamed_content, renamed_block}

-- A map that agrees on the tree's own addresses stands for it too.
abbrev pub MoreBlocks : Type 0
MoreBlocks = (m m' : BlockMap) (limit : ℕ) (t : StoredTree) → ((a : ℕ) → 0 < uses a (blocks_of t) → m' a ≡ m a) → Represents m limit t → Represents m' limit t

-- The blocks, read by their layouts from the root block on, give the tree. So there is one such tree.
pub record ReadByLayouts : Type 0 where
  pub decoded : (m : BlockMap) (limit : ℕ) (t : StoredTree) → Represents m limit t → tree_at m t.top t.next_qid ≡ t
  pub alone : (m : BlockMap) (limit : ℕ) (t u : StoredTree) → Represents m limit t → Represents m limit u → t.top ≡ u.top → t.next_qid ≡ u.next_qid → t ≡ u

-- Look-ups in the blocks of a tree never fail, lead where the plain tree's names lead, and answer as the plain tree does.
pub record LookUps : Type 0 where
  pub finds : (m : BlockMap) (limit : ℕ) (t : StoredTree) → Represents m limit t → (ns : List (List ℕ)) →
      look_up m limit t.next_qid t.top ns ≡ Ok (entry_bytes (place_entry (walk ns (root_place t))))
  pub stats : (m : BlockMap) (limit : ℕ) (t : StoredTree) → Represents m limit t → (ns : List (List ℕ)) →
      and_then (look_up m limit t.next_qid t.top ns) (λ e. Ok (stat_of e)) ≡ Ok (stat_at (walk ns (plain.root_place (erase t))))
  pub names : (m : BlockMap) (limit : ℕ) (t : StoredTree) → Represents m limit t → (ns : List (List ℕ)) (k : ℕ) →
      and_then (look_up m limit t.next_qid t.top ns) (entry_in m limit t.next_qid k) ≡ Ok (entry_at k (walk ns (plain.root_place (erase t))))
  pub reads : (m : BlockMap) (limit : ℕ) (t : StoredTree) → Represents m limit t → (ns : List (List ℕ)) (off n : ℕ) →
      and_then (look_up m limit t.next_qid t.top ns) (read_in m limit t.next_qid off n) ≡ Ok (read_at off n (walk ns (plain.root_place (erase t))))

-- addresses that can be added: as many as asked for, different, in range, and not the tree's
pub record Addable (limit : ℕ) (t : StoredTree) (n : ℕ) (new : List ℕ) : Type 0 where
  pub many : length new ≡ n
  pub once : (a : ℕ) → count a new ≤ 1
  pub within : AllByRecursion (InRange limit) new
  pub unused : (a : ℕ) → 0 < count a new → uses a (blocks_of t) ≡ 0

-- What a change with this plan and these added blocks does, where u is the plain tree that it should leave.
pub record Done (m : BlockMap) (limit : ℕ) (t : StoredTree) (p : Plan) (new : List ℕ) (u : Tree) : Type 0 where
  -- the map written at the touched and added addresses alone stands for the tree, which is u
  pub represented : Represents (written_at (p.touched ++ new) (blocks_of (p.after new)) m) limit (p.after new)
  pub plain : erase (p.after new) ≡ u
  pub top : (p.after new).top ≡ t.top
  -- which blocks the tree has: released ones no more, added ones from now on
  pub blocks : (a : ℕ) → uses a (blocks_of (p.after new)) + count a p.released ≡ uses a (blocks_of t) + count a new
  -- touched blocks were the tree's and are still
  pub touched : (a : ℕ) → 0 < count a p.touched → (0 < uses a (blocks_of t)) × (count a p.released ≡ 0)
  -- a block that names a touched or added block is touched or added
  pub above : AllByRecursion (λ b. (a : ℕ) → 0 < count a (pointers b.content) → 0 < count a (p.touched ++ new) → 0 < count b.address (p.touched ++ new)) (blocks_of (p.after new))

-- Every change that the plain tree's own rules accept.
abbrev pub Changes : Type 0
Changes = (m : BlockMap) (limit : ℕ) (t : StoredTree) → Represents m limit t → (c : Change) (u : Tree) → changed c (erase t) ≡ Ok u →
    (new : List ℕ) → Addable limit t (plan_of t c).added new → Done m limit t (plan_of t c) new u

-- What a file's blocks hold after a write, its slack with it: the input at its place, and elsewhere what they held, with zeros in added
-- blocks.
abbrev pub WriteKeeps : Type 0
WriteKeeps = (t : StoredTree) (off : ℕ) (input : List ℕ) (f : File) (w : Stored) (new : List ℕ) → off ≤ length f.bytes →
    (written off input f).bytes ++ (grown t off input f w new).slack ≡ patched off input (fit (504 * blocks_needed t off input f) 0 (f.bytes ++ w.slack))

-- Other addresses: the blocks are those of the tree with their addresses and those in them renamed, and they stand for the renamed
-- tree, which is the same plain tree. A block that names no renamed block keeps its bytes.
pub record Renames : Type 0 where
  pub blocks : (g : ℕ → ℕ) (limit : ℕ) (m : BlockMap) (t : StoredTree) → Represents m limit t → blocks_of (renamed g t) ≡ map (renamed_block g) (blocks_of t)
  pub represented : (g : ℕ → ℕ) (limit : ℕ) (m m' : BlockMap) (t : StoredTree) → Represents m limit t →
      ((a b : ℕ) → 0 < uses a (blocks_of t) → 0 < uses b (blocks_of t) → g a ≡ g b → a ≡ b) →
      ((a : ℕ) → 0 < uses a (blocks_of t) → InRange limit (g a)) →
      AllByRecursion (Stands m') (map (renamed_block g) (blocks_of t)) → Represents m' limit (renamed g t)
  pub plain : (g : ℕ → ℕ) (t : StoredTree) → erase (renamed g t) ≡ erase t
  pub kept : (g : ℕ → ℕ) (x : Content) → AllByRecursion (λ a. g a ≡ a) (pointers x) → renamed_content g x ≡ x

-- A new tree is its root block.
abbrev pub new_tree : ℕ → StoredTree
new_tree top = record { top = top; root = record { qid = 1; version = 0 }; stored = nowhere; places = end; next_qid = 2 }

pub record NotEmpty : Type 0 where
  pub represented : (m : BlockMap) (limit top : ℕ) → limit ≤ 65536 → InRange limit top → m top ≡ Ok root_block → Represents m limit (new_tree top)
  pub plain : (top : ℕ) → erase (new_tree top) ≡ empty_tree

-- what can be read are blocks of 512 bytes
abbrev pub HoldsBytes : BlockMap → Type 0
HoldsBytes m = (a : ℕ) (b : List ℕ) → m a ≡ Ok b → (length b ≡ 512) × AllByRecursion (λ x. x < 256) b

-- A check that passes has met the blocks of a tree: the one that they say, read by their layouts. A tree's blocks pass.
pub record Checks : Type 0 where
  pub sound : (m : BlockMap) (limit next top : ℕ) (met : List ℕ) → HoldsBytes m → limit ≤ 65536 → next < 2 ^ 32 → InRange limit top →
      check_tree m limit next top ≡ Ok met → Represents m limit (tree_at m top next) × ((a : ℕ) → count a met ≡ uses a (blocks_of (tree_at m top next)))
  pub complete : (m : BlockMap) (limit : ℕ) (t : StoredTree) → Represents m limit t → (met : List ℕ) × (check_tree m limit t.next_qid t.top ≡ Ok met)
