-- The tree of files and directories as a user knows it.
use Rattle.std.specs.Prelude.{ℕ, zero, suc, ◌+◌, Bool, true, false, cond, List, [], ◌∷◌}
use Rattle.std.specs.Str.{bytes_eq}

pub record File : Type 0 where
  pub qid : ℕ
  pub version : ℕ
  pub bytes : List ℕ

pub record Dir : Type 0 where
  pub qid : ℕ
  pub version : ℕ

-- A directory is its qid and version with its places, first to last; a place is empty or has a name with a file or a directory.
-- W is what is noted with each file and directory: nothing in the plain tree, and later the addresses of its blocks.

-- a place without a directory
pub data Leaf (W : Type 0) : Type 0 where
  free : Leaf W
  file : List ℕ → File → W → Leaf W

-- the places of a directory: none left, or one and the others; `dir` has a directory's name, its head, its note, its own places
pub data Places (W : Type 0) : Type 0 where
  end : Places W
  leaf : Leaf W → Places W → Places W
  dir : List ℕ → Dir → W → Places W → Places W → Places W

-- one place
pub data Place (W : Type 0) : Type 0 where
  flat : Leaf W → Place W
  deep : List ℕ → Dir → W → Places W → Place W

module _ {W : Type 0} where
  abbrev pub put : Place W → Places W → Places W
  put (flat l) k = leaf l k
  put (deep n d w c) k = dir n d w c k

  -- how many places there are
  abbrev pub size : Places W → ℕ
  size end = 0
  size (leaf l k) = suc (size k)
  size (dir n d w c k) = suc (size k)

  -- place i, an empty one past the end; and the places with another one there
  abbrev pub at : Places W → ℕ → Place W
  at end i = flat free
  at (leaf l k) zero = flat l
  at (leaf l k) (suc i) = at k i
  at (dir n d w c k) zero = deep n d w c
  at (dir n d w c k) (suc i) = at k i

  abbrev pub set_at : Places W → ℕ → Place W → Places W
  set_at end i p = end
  set_at (leaf l k) zero p = put p k
  set_at (leaf l k) (suc i) p = leaf l (set_at k i p)
  set_at (dir n d w c k) zero p = put p k
  set_at (dir n d w c k) (suc i) p = dir n d w c (set_at k i p)

  abbrev pub is_free : Leaf W → Bool
  is_free free = true
  is_free (file n f w) = false

  -- the name at a place, none if it is empty
  abbrev pub name_at : Place W → List ℕ
  name_at (flat free) = []
  name_at (flat (file n f w)) = n
  name_at (deep n d w c) = n

  abbrev pub has_name : List ℕ → Place W → Bool
  has_name n (flat free) = false
  has_name n (flat (file m f w)) = bytes_eq n m
  has_name n (deep m d w c) = bytes_eq n m

  -- the number of the first empty place, and of the place with this name; how many places there are if there is none
  abbrev pub first_free : Places W → ℕ
  first_free end = 0
  first_free (leaf l k) = cond (is_free l) 0 (suc (first_free k))
  first_free (dir n d w c k) = suc (first_free k)

  abbrev pub find : List ℕ → Places W → ℕ
  find n end = 0
  find n (leaf l k) = cond (has_name n (flat l)) 0 (suc (find n k))
  find n (dir m d w c k) = cond (bytes_eq n m) 0 (suc (find n k))

  -- how many places have this name, and how many have any
  abbrev pub named : List ℕ → Places W → ℕ
  named n end = 0
  named n (leaf l k) = cond (has_name n (flat l)) 1 0 + named n k
  named n (dir m d w c k) = cond (bytes_eq n m) 1 0 + named n k

  abbrev pub used : Places W → ℕ
  used end = 0
  used (leaf l k) = cond (is_free l) 0 1 + used k
  used (dir n d w c k) = suc (used k)

  -- so many empty places, and places after places
  abbrev pub frees : ℕ → Places W
  frees zero = end
  frees (suc n) = leaf free (frees n)

  abbrev pub append : Places W → Places W → Places W
  append end l = l
  append (leaf x k) l = leaf x (append k l)
  append (dir n d w c k) l = dir n d w c (append k l)

  -- the place with this name in a place's directory, an empty one if there is none
  abbrev pub child : List ℕ → Place W → Place W
  child n (flat l) = flat free
  child n (deep m d w c) = at c (find n c)

  -- the place that names lead to from a place, an empty one if they lead nowhere
  abbrev pub walk : List (List ℕ) → Place W → Place W
  walk [] p = p
  walk (n ∷ ns) p = walk ns (child n p)

  -- the places of a directory after f is done to those of the directory that the names lead to
  abbrev pub modify : List (List ℕ) → (Places W → Places W) → Places W → Places W
  modify [] f k = f k
  modify (n ∷ ns) f end = end
  modify (n ∷ ns) f (leaf l k) = leaf l (modify (n ∷ ns) f k)
  modify (n ∷ ns) f (dir m d w c k) = cond (bytes_eq n m) (dir m d w (modify ns f c) k) (dir m d w c (modify (n ∷ ns) f k))

-- the plain tree: nothing is noted
abbrev pub Plain : Type 0
Plain = Places (Unit {0})

-- the root directory, and the qid that the next node gets
pub record Tree : Type 0 where
  pub root : Dir
  pub places : Plain
  pub next_qid : ℕ

-- "/"
abbrev pub slash : List ℕ
slash = 47 ∷ []

abbrev pub root_place : Tree → Place (Unit {0})
root_place t = deep slash t.root tt t.places

abbrev pub empty_tree : Tree
empty_tree = record { root = record { qid = 1; version = 0 }; places = end; next_qid = 2 }
