-- When a map of blocks stands for a tree.
use Rattle.std.specs.Prelude.{◌≡◌, ℕ, suc, ◌+◌, ◌-◌, ◌*◌, ◌/◌, ◌^◌, ◌<◌, ◌≤◌, max, cond, List, [], length, Ok, Result}
use Rattle.std.specs.List.{AllByRecursion}
use Rattle.device.specs.Refusals.{Refusal}
use Rattle.plain.specs.Trees.{File, Leaf, free, file, Places, end, leaf, dir, Place, flat, deep, size, is_free, Tree}
use Rattle.plain.specs.Laws.{Tidy}
use Rattle.layout.specs.Entries.{blocks_for}
use Rattle.trees.specs.Stored.{Stored, Block, encoded, StoredTree, whole, blocks_of, uses, erase}

-- what a read of each address gives: the bytes of the block, or the refusal that it met
abbrev pub BlockMap : Type 0
BlockMap = ℕ → Result (List ℕ) Refusal

abbrev pub Stands : BlockMap → Block → Type 0
Stands m b = m b.address ≡ Ok (encoded b.content)

-- the addresses that a tree's block may have, on a shelf of so many blocks
abbrev pub InRange : ℕ → ℕ → Type 0
InRange limit a = (2 ≤ a) × (a < limit)

-- how many indirect blocks a file of so many blocks has: each names 126, and the first six need none
abbrev pub indirect_for : ℕ → ℕ
indirect_for blocks = (blocks - 6 + 125) / 126

-- the addresses and the slack of a file, and of a directory, are as many as it needs
pub record FileFits (f : File) (w : Stored) : Type 0 where
  pub blocks : length w.blocks ≡ blocks_for (length f.bytes)
  pub indirect : length w.indirect ≡ indirect_for (length w.blocks)
  pub slack : length f.bytes + length w.slack ≡ 504 * length w.blocks

pub record DirFits (w : Stored) (c : Places Stored) : Type 0 where
  pub blocks : size c ≡ 7 * length w.blocks
  pub indirect : w.indirect ≡ []
  pub slack : w.slack ≡ []

abbrev pub LeafFits : Leaf Stored → Type 0
LeafFits free = Unit {0}
LeafFits (file n f w) = FileFits f w

abbrev pub Fits : Places Stored → Type 0
Fits end = Unit {0}
Fits (leaf l k) = LeafFits l × Fits k
Fits (dir n d w c k) = DirFits w c × Fits c × Fits k

abbrev pub PlaceFits : Place Stored → Type 0
PlaceFits (flat l) = LeafFits l
PlaceFits (deep n d w c) = DirFits w c × Fits c

module _ {W : Type 0} where
  -- how many names follow one another from these places down
  abbrev pub levels : Places W → ℕ
  levels end = 0
  levels (leaf l k) = max (cond (is_free l) 0 1) (levels k)
  levels (dir n d w c k) = max (suc (levels c)) (levels k)

  -- qids are below the next one, and versions have 32 bits
  abbrev pub LeafNumbered : ℕ → Leaf W → Type 0
  LeafNumbered next free = Unit {0}
  LeafNumbered next (file n f w) = (f.qid < next) × (f.version < 2 ^ 32)

  abbrev pub Numbered : ℕ → Places W → Type 0
  Numbered next end = Unit {0}
  Numbered next (leaf l k) = LeafNumbered next l × Numbered next k
  Numbered next (dir n d w c k) = (d.qid < next) × (d.version < 2 ^ 32) × Numbered next c × Numbered next k

-- a plain tree that the layouts have room for
pub record WellFormed (t : Tree) : Type 0 where
  pub tidy : Tidy t
  pub levels : levels t.places ≤ 8
  pub numbered : Numbered t.next_qid t.places
  pub root : t.root.qid ≡ 1
  pub version : t.root.version < 2 ^ 32
  pub next : (1 < t.next_qid) × (t.next_qid < 2 ^ 32)

-- On a shelf of `limit` blocks the map has every block of the tree at its address, each address has one block, and the tree is such as
-- the layouts have room for.
pub record Represents (m : BlockMap) (limit : ℕ) (t : StoredTree) : Type 0 where
  pub few : limit ≤ 65536
  pub formed : WellFormed (erase t)
  pub fits : PlaceFits (whole t)
  pub within : AllByRecursion (λ b. InRange limit b.address) (blocks_of t)
  pub once : (a : ℕ) → uses a (blocks_of t) ≤ 1
  pub stand : AllByRecursion (Stands m) (blocks_of t)
