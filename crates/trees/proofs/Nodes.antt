-- The blocks, entries and notes of a directory's places, one by one.
use Rattle.std.proofs.Common.{◌≡◌, ℕ, zero, suc, ◌+◌, ◌<◌, ◌≤◌, List, [], ◌∷◌, ◌++◌, length, get_or, drop, set, refl, ap, arith}
use Rattle.plain.specs.Trees.{File, Dir, file, Places, end, leaf, dir, Place, flat, deep, put, size, at, set_at}
use Rattle.layout.specs.Entries.{empty_entry}
use Rattle.trees.specs.Stored.{Stored, Block, file_content, indirect_content, directory_content, leaf_entry, place_entry, entries, leaf_blocks, own_blocks, row_blocks, place_blocks, count, uses}
use Rattle.trees.specs.Represents.{Fits, PlaceFits}
use Rattle.trees.proofs.Lists.{uses_all, uses_append, uses_interleaved, uses_in_blocks}

-- what a directory says of a place, and of each after a change of one
pub entries_at : (c : Places Stored) (i : ℕ) → get_or (entries c) i empty_entry ≡ place_entry (at c i)
entries_at end i = refl
entries_at (leaf l k) zero = refl
entries_at (leaf l k) (suc i) = entries_at k i
entries_at (dir n d w c k) zero = refl
entries_at (dir n d w c k) (suc i) = entries_at k i

pub length_entries : (c : Places Stored) → length (entries c) ≡ size c
length_entries end = refl
length_entries (leaf l k) = ap suc (length_entries k)
length_entries (dir n d w c k) = ap suc (length_entries k)

pub entries_put : (p : Place Stored) (k : Places Stored) → entries (put p k) ≡ place_entry p ∷ entries k
entries_put (flat l) k = refl
entries_put (deep n d w c) k = refl

pub entries_set : (c : Places Stored) (i : ℕ) (p : Place Stored) → entries (set_at c i p) ≡ set (entries c) i (place_entry p)
entries_set end i p = refl
entries_set (leaf l k) zero p = entries_put p k
entries_set (leaf l k) (suc i) p = ap (λ e. leaf_entry l ∷ e) (entries_set k i p)
entries_set (dir n d w c k) zero p = entries_put p k
entries_set (dir n d w c k) (suc i) p = ap (λ e. place_entry (deep n d w c) ∷ e) (entries_set k i p)

-- the blocks of a place, and of each place after a change of one
pub row_put : (p : Place Stored) (k : Places Stored) → row_blocks (put p k) ≡ place_blocks p ∷ row_blocks k
row_put (flat l) k = refl
row_put (deep n d w c) k = refl

pub row_set : (c : Places Stored) (i : ℕ) (p : Place Stored) → row_blocks (set_at c i p) ≡ set (row_blocks c) i (place_blocks p)
row_set end i p = refl
row_set (leaf l k) zero p = row_put p k
row_set (leaf l k) (suc i) p = ap (λ r. leaf_blocks l ∷ r) (row_set k i p)
row_set (dir n d w c k) zero p = row_put p k
row_set (dir n d w c k) (suc i) p = ap (λ r. place_blocks (deep n d w c) ∷ r) (row_set k i p)

pub row_at : (c : Places Stored) (i : ℕ) → get_or (row_blocks c) i [] ≡ place_blocks (at c i)
row_at end i = refl
row_at (leaf l k) zero = refl
row_at (leaf l k) (suc i) = row_at k i
row_at (dir n d w c k) zero = refl
row_at (dir n d w c k) (suc i) = row_at k i

pub length_row : (c : Places Stored) → length (row_blocks c) ≡ size c
length_row end = refl
length_row (leaf l k) = ap suc (length_row k)
length_row (dir n d w c k) = ap suc (length_row k)

-- how often an address is used in a place
pub uses_file : (a : ℕ) (n : List ℕ) (f : File) (w : Stored) → uses a (place_blocks (flat (file n f w))) ≡ count a w.blocks + count a w.indirect
uses_file a n f w =
    omega (arith, uses_append a (Rattle.trees.specs.Stored.in_blocks (file_content f.qid) 504 w.blocks (f.bytes ++ w.slack)) (Rattle.trees.specs.Stored.in_blocks (indirect_content f.qid) 126 w.indirect (drop 6 w.blocks)), uses_in_blocks (file_content f.qid) 504 a w.blocks (f.bytes ++ w.slack), uses_in_blocks (indirect_content f.qid) 126 a w.indirect (drop 6 w.blocks))

pub uses_deep : (a : ℕ) (n : List ℕ) (d : Dir) (w : Stored) (c : Places Stored) → uses a (place_blocks (deep n d w c)) ≡ count a w.blocks + uses_all a (row_blocks c)
uses_deep a n d w c = omega (arith, uses_interleaved a 7 (own_blocks d w c) (row_blocks c), uses_in_blocks (directory_content d.qid) 7 a w.blocks (entries c))

uses_all_set : (a : ℕ) (ls : List (List Block)) (i : ℕ) (l : List Block) → i < length ls → uses_all a (set ls i l) + uses a (get_or ls i []) ≡ uses_all a ls + uses a l
uses_all_set a [] i l h = absurd (omega arith)
uses_all_set a (x ∷ ls) zero l h = omega arith
uses_all_set a (x ∷ ls) (suc i) l h = omega (arith, uses_all_set a ls i l (omega arith))

-- one place of a directory changes
pub uses_set : (a : ℕ) (c : Places Stored) (i : ℕ) (p : Place Stored) → i < size c →
    uses_all a (row_blocks (set_at c i p)) + uses a (place_blocks (at c i)) ≡ uses_all a (row_blocks c) + uses a (place_blocks p)
uses_set a c i p h =
    omega (arith, ap (uses_all a) (row_set c i p), ap (uses a) (row_at c i), uses_all_set a (row_blocks c) i (place_blocks p) (omega (arith, length_row c)))

uses_all_at : (a : ℕ) (ls : List (List Block)) (i : ℕ) → uses a (get_or ls i []) ≤ uses_all a ls
uses_all_at a [] i = omega arith
uses_all_at a (x ∷ ls) zero = omega arith
uses_all_at a (x ∷ ls) (suc i) = omega (arith, uses_all_at a ls i)

pub uses_at : (a : ℕ) (c : Places Stored) (i : ℕ) → uses a (place_blocks (at c i)) ≤ uses_all a (row_blocks c)
uses_at a c i = omega (arith, ap (uses a) (row_at c i), uses_all_at a (row_blocks c) i)

module _ {W : Type 0} where
  pub size_put : (p : Place W) (k : Places W) → size (put p k) ≡ suc (size k)
  size_put (flat l) k = refl
  size_put (deep n d w c) k = refl

  pub size_set : (c : Places W) (i : ℕ) (p : Place W) → size (set_at c i p) ≡ size c
  size_set end i p = refl
  size_set (leaf l k) zero p = size_put p k
  size_set (leaf l k) (suc i) p = ap suc (size_set k i p)
  size_set (dir n d w c k) zero p = size_put p k
  size_set (dir n d w c k) (suc i) p = ap suc (size_set k i p)

-- notes that fit
pub fits_at : (c : Places Stored) (i : ℕ) → Fits c → PlaceFits (at c i)
fits_at end i h = tt
fits_at (leaf l k) zero h = h.0
fits_at (leaf l k) (suc i) h = fits_at k i h.1
fits_at (dir n d w c k) zero h = (h.0, h.1)
fits_at (dir n d w c k) (suc i) h = fits_at k i h.2

fits_put : (p : Place Stored) (k : Places Stored) → PlaceFits p → Fits k → Fits (put p k)
fits_put (flat l) k p h = (p, h)
fits_put (deep n d w c) k p h = (p.0, p.1, h)

pub fits_set : (c : Places Stored) (i : ℕ) (p : Place Stored) → PlaceFits p → Fits c → Fits (set_at c i p)
fits_set end i p q h = tt
fits_set (leaf l k) zero p q h = fits_put p k q h.1
fits_set (leaf l k) (suc i) p q h = (h.0, fits_set k i p q h.1)
fits_set (dir n d w c k) zero p q h = fits_put p k q h.2
fits_set (dir n d w c k) (suc i) p q h = (h.0, h.1, fits_set k i p q h.2)
