-- What holds of the state between calls, beside the reference model.
use Rattle.std.specs.Prelude.{◌≡◌, ℕ, suc, ◌+◌, ◌^◌, ◌<◌, ◌≤◌, true, false, List, [], ◌∷◌, ◌++◌, length, Some, None, Ok, Option}
use Rattle.std.specs.List.{AllByRecursion}
use Rattle.plain.specs.Trees.{Tree}
use Rattle.plain.specs.Books.{Dump, Book}
use Rattle.layout.specs.declared.super_block.Super.{Super}
use Rattle.layout.specs.Supers.{super_numbers, super_block}
use Rattle.trees.specs.Stored.{Block, pointers, StoredTree, blocks_of, erase, count, uses}
use Rattle.trees.specs.Represents.{BlockMap, InRange, Represents}
use Rattle.machine.specs.Spots.{Spot, kept, Spots, spot_at, Shelf, shelf_map, dated_map, live_map, is_kept, is_new, is_frozen, is_changed, tally}
use Rattle.machine.specs.Machine.{State, waits}

-- a new or changed slot
abbrev pub is_dirty : Spot → ℕ
is_dirty x = is_new x + is_changed x

-- from a root block on, the blocks stand for a plain tree
pub record Keeps (m : BlockMap) (limit root : ℕ) (t : Tree) : Type 0 where
  pub stored : StoredTree
  pub represented : Represents m limit stored
  pub top : stored.top ≡ root
  pub plain : erase stored ≡ t

-- The live tree: every dirty block is one of its blocks, and what a block names is clean where the block is.
pub record Living (d : Shelf) (xs : Spots) (root : ℕ) (t : Tree) : Type 0 where
  pub keeps : Keeps (live_map d xs) (length xs) root t
  pub used : (a : ℕ) → 0 < is_dirty (spot_at xs a) → 0 < uses a (blocks_of keeps.stored)
  pub closed : AllByRecursion (λ b. is_dirty (spot_at xs b.address) ≡ 0 → (a : ℕ) → 0 < count a (pointers b.content) → is_dirty (spot_at xs a) ≡ 0) (blocks_of keeps.stored)

-- a super of the chain: the n-th, after one at `before` with the date `after`
pub record Link (limit before n after : ℕ) (x : Super) : Type 0 where
  pub number : x.number ≡ n
  pub previous : x.previous ≡ before
  pub date : after < x.date
  pub root : InRange limit x.root
  pub next : InRange limit x.next
  pub small : AllByRecursion (λ k. k < 2 ^ 32) (super_numbers x)

-- Supers from the address a on, one after the other; then comes the address e, after the last super at l with the date d'.
abbrev pub Chain : BlockMap → ℕ → ℕ → ℕ → ℕ → ℕ → List Super → ℕ → ℕ → ℕ → Type 0
Chain m limit a p n d [] e l d' = (a ≡ e) × (p ≡ l) × (d ≡ d')
Chain m limit a p n d (x ∷ xs) e l d' = (m a ≡ Ok (super_block x)) × Link limit p n d x × Chain m limit x.next a (suc n) x.date xs e l d'

-- a dump whose super is written, and one whose super waits; n is the number of supers on the shelf, l the last one's address, e the
-- address kept for the next and d the last date on the shelf
pub record Written (m : BlockMap) (limit : ℕ) (x : Super) (p : Dump) : Type 0 where
  pub is : p.is_written ≡ true
  pub date : x.date ≡ p.date
  pub qid : x.next_qid ≡ p.tree.next_qid
  pub keeps : Keeps m limit x.root p.tree

pub record Waiting (dev : Shelf) (xs : Spots) (n l e d : ℕ) (x : Super) (p : Dump) : Type 0 where
  pub is : p.is_written ≡ false
  pub date : x.date ≡ p.date
  pub qid : x.next_qid ≡ p.tree.next_qid
  pub keeps : Keeps (dated_map dev xs) (length xs) x.root p.tree
  pub link : Link (length xs) l n d x
  pub kept : spot_at xs x.next ≡ kept
  pub apart : x.next ≡ e → ⊥

-- The dumps of the model are those of these supers, and then of the waiting one.
module _ (dev : Shelf) (xs : Spots) (n l e d : ℕ) where
  abbrev pub Dumps : List Super → Option Super → List Dump → Type 0
  Dumps [] None [] = tally is_frozen xs ≡ 0
  Dumps [] None (p ∷ ps) = ⊥
  Dumps [] (Some x) [] = ⊥
  Dumps [] (Some x) (p ∷ []) = Waiting dev xs n l e d x p
  Dumps [] (Some x) (p ∷ q ∷ ps) = ⊥
  Dumps (x ∷ ss) w [] = ⊥
  Dumps (x ∷ ss) w (p ∷ ps) = Written (shelf_map dev xs) (length xs) x p × Dumps ss w ps

-- the date of the waiting super, if there is one
abbrev pub last_date : ℕ → Option Super → ℕ
last_date d None = d
last_date d (Some x) = x.date

-- `older` are supers that the shelf had at opening and that the model does not list; `told` are those of its written dumps.
pub record Sound (older : List Super) (s : State) (b : Book) : Type 0 where
  pub few : length s.spots ≤ 65536
  pub living : Living s.shelf s.spots s.root b.live
  pub qid : s.next_qid ≡ b.live.next_qid
  pub told : List Super
  pub shelf_date : ℕ
  pub chain : Chain (shelf_map s.shelf s.spots) (length s.spots) 1 0 0 0 (older ++ told) s.next s.last shelf_date
  pub number : s.supers ≡ length (older ++ told)
  pub kept_next : spot_at s.spots s.next ≡ kept
  pub kept_count : tally is_kept s.spots ≡ 1 + waits s.waiting
  pub date : s.date ≡ last_date shelf_date s.waiting
  pub dumps : Dumps s.shelf s.spots s.supers s.last s.next shelf_date told s.waiting b.dumps
