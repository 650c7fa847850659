-- What a user expects of the plain tree, said of paths.
use Rattle.std.specs.Prelude.{◌≡◌, ℕ, ◌+◌, ◌%◌, ◌≤◌, Bool, true, cond, List, [], ◌∷◌, ◌++◌, length, take, drop, replicate, Some, Ok, ◌≢◌}
use Rattle.std.specs.List.{list_all}
use Rattle.std.specs.Str.{bytes_eq}
use Rattle.plain.specs.Names.{is_name}
use Rattle.plain.specs.Paths.{path_of, path_text}
use Rattle.plain.specs.Trees.{File, Dir, Leaf, free, file, end, leaf, dir, Place, flat, deep, name_at, named, size, walk, Tree, Plain, root_place, empty_tree}
use Rattle.plain.specs.Operations.{read, stat, entry, make, write, remove, written}

-- a path's text and its names belong together
pub record PathLaws : Type 0 where
  pub read_back : (ns : List (List ℕ)) → list_all is_name ns ≡ true → length ns ≤ 8 → path_of (path_text ns) ≡ Some ns
  pub shown : (text : List ℕ) (ns : List (List ℕ)) → path_of text ≡ Some ns → path_text ns ≡ text

-- the names at the places of a directory, first to last
abbrev pub names_at : Plain → List (List ℕ)
names_at end = []
names_at (leaf l k) = name_at (flat l) ∷ names_at k
names_at (dir n d w c k) = n ∷ names_at k

-- all that read, stat and entry can tell of a place
pub data Sight : Type 0 where
  nothing : Sight
  a_file : File → Sight
  a_dir : Dir → List (List ℕ) → Sight

abbrev pub sight : Place (Unit {0}) → Sight
sight (flat free) = nothing
sight (flat (file n f w)) = a_file f
sight (deep n d w c) = a_dir d (names_at c)

-- what names lead to
abbrev pub see : List (List ℕ) → Tree → Sight
see ns t = sight (walk ns (root_place t))

-- equal sights, equal answers
pub record SightLaws : Type 0 where
  pub reads : (path : List ℕ) (ns : List (List ℕ)) (off n : ℕ) (t u : Tree) → path_of path ≡ Some ns → see ns t ≡ see ns u → read path off n t ≡ read path off n u
  pub stats : (path : List ℕ) (ns : List (List ℕ)) (t u : Tree) → path_of path ≡ Some ns → see ns t ≡ see ns u → stat path t ≡ stat path u
  pub entries : (path : List ℕ) (ns : List (List ℕ)) (k : ℕ) (t u : Tree) → path_of path ≡ Some ns → see ns t ≡ see ns u → entry path k t ≡ entry path k u

-- Within a directory names differ, and places come in groups of seven, at most 42. Names are legal and files not too long.
pub record TidyDir (c : Plain) : Type 0 where
  pub differ : (n : List ℕ) → named n c ≤ 1
  pub sevens : size c % 7 ≡ 0
  pub few : size c ≤ 42

abbrev pub TidyLeaf : Leaf (Unit {0}) → Type 0
TidyLeaf free = Unit {0}
TidyLeaf (file n f w) = (is_name n ≡ true) × (length f.bytes ≤ 66528)

abbrev pub TidyBelow : Plain → Type 0
TidyBelow end = Unit {0}
TidyBelow (leaf l k) = TidyLeaf l × TidyBelow k
TidyBelow (dir n d w c k) = (is_name n ≡ true) × TidyDir c × TidyBelow c × TidyBelow k

pub record Tidy (t : Tree) : Type 0 where
  pub here : TidyDir t.places
  pub below : TidyBelow t.places

-- An accepted write to the file at ns: it has the input at its place and is otherwise as it was, and nothing else is seen to change.
pub record Wrote (ns : List (List ℕ)) (off : ℕ) (input : List ℕ) (t t' : Tree) : Type 0 where
  pub before : File
  pub was : see ns t ≡ a_file before
  pub is : see ns t' ≡ a_file (written off input before)
  pub input_there : take (length input) (drop off (written off input before).bytes) ≡ input
  pub bytes_below : take off (written off input before).bytes ≡ take off before.bytes
  pub bytes_above : drop (off + length input) (written off input before).bytes ≡ drop (off + length input) before.bytes
  pub others : (other : List (List ℕ)) → (other ≢ ns) → see other t' ≡ see other t
  pub next : t'.next_qid ≡ t.next_qid

-- the names of a directory with one more in the lowest empty place, seven more places if there is none; and without one
abbrev pub with_name : List (List ℕ) → List ℕ → List (List ℕ)
with_name [] n = n ∷ replicate 6 []
with_name ([] ∷ names) n = n ∷ names
with_name ((b ∷ m) ∷ names) n = (b ∷ m) ∷ with_name names n

abbrev pub without_name : List (List ℕ) → List ℕ → List (List ℕ)
without_name [] n = []
without_name (m ∷ names) n = cond (bytes_eq n m) ([] ∷ names) (m ∷ without_name names n)

abbrev pub new_sight : Bool → ℕ → Sight
new_sight is_dir q = cond is_dir (a_dir (record { qid = q; version = 0 }) []) (a_file (record { qid = q; version = 0; bytes = [] }))

-- a call that changes the names of the directory at ns by one, to those that f gives, and what is at that name from one sight to another
pub record NameChanged (ns : List (List ℕ)) (n : List ℕ) (f : List (List ℕ) → List ℕ → List (List ℕ)) (new : Sight) (t t' : Tree) : Type 0 where
  pub is : see (ns ++ n ∷ []) t' ≡ new
  pub head : Dir
  pub names : List (List ℕ)
  pub home_was : see ns t ≡ a_dir head names
  pub home_is : see ns t' ≡ a_dir head (f names n)
  pub others : (other : List (List ℕ)) → (other ≢ ns ++ n ∷ []) → (other ≢ ns) → see other t' ≡ see other t

-- Accepted changes. A make and a remove are of a name n in the directory at ns; they speak of a tidy tree, which every tree is that the
-- calls make of an empty one.
pub record TreeLaws : Type 0 where
  pub write_law : (path : List ℕ) (off : ℕ) (input : List ℕ) (t t' : Tree) → write path off input t ≡ Ok t' →
      (ns : List (List ℕ)) × (path_of path ≡ Some ns) × Wrote ns off input t t'
  pub make_law : (is_dir : Bool) (path : List ℕ) (t t' : Tree) → Tidy t → make is_dir path t ≡ Ok t' →
      (ns : List (List ℕ)) × (n : List ℕ) × (path_of path ≡ Some (ns ++ n ∷ [])) × (see (ns ++ n ∷ []) t ≡ nothing) × (t'.next_qid ≡ t.next_qid + 1)
      × NameChanged ns n with_name (new_sight is_dir t.next_qid) t t'
  pub remove_law : (path : List ℕ) (t t' : Tree) → Tidy t → remove path t ≡ Ok t' →
      (ns : List (List ℕ)) × (n : List ℕ) × (path_of path ≡ Some (ns ++ n ∷ [])) × (see (ns ++ n ∷ []) t ≢ nothing) × (t'.next_qid ≡ t.next_qid)
      × NameChanged ns n without_name nothing t t'
  pub empty_tidy : Tidy empty_tree
  pub write_tidy : (path : List ℕ) (off : ℕ) (input : List ℕ) (t t' : Tree) → Tidy t → write path off input t ≡ Ok t' → Tidy t'
  pub make_tidy : (is_dir : Bool) (path : List ℕ) (t t' : Tree) → Tidy t → make is_dir path t ≡ Ok t' → Tidy t'
  pub remove_tidy : (path : List ℕ) (t t' : Tree) → Tidy t → remove path t ≡ Ok t' → Tidy t'
