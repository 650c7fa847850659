-- What the calls answer on the plain tree and make of it. A refusal is its number; docs/REFUSALS.md has the rows.
use Rattle.std.specs.Prelude.{ℕ, ◌+◌, ◌*◌, ◌%◌, ◌^◌, Bool, cond, ◌&&◌, List, [], ◌∷◌, ◌++◌, length, take, drop, Some, None, Ok, Err, Option, Result, ◌==◌, nat_le, nat_lt}
use Rattle.plain.specs.Paths.{path_of, front, final}
use Rattle.plain.specs.Trees.{File, free, file, end, Place, flat, deep, size, at, set_at, first_free, find, named, used, name_at, frees, append, walk, modify, Tree, Plain, root_place}

-- what is at a path, or row 11
abbrev pub at_path : {X : Type 0} → List ℕ → Tree → (Place (Unit {0}) → Result X ℕ) → Result X ℕ
at_path path t f = elim (path_of path) [ None ↦ Err 11 | Some ns ↦ f (walk ns (root_place t)) ]

-- read: the bytes of the file from off on, at most n
abbrev pub read_at : ℕ → ℕ → Place (Unit {0}) → Result (List ℕ) ℕ
read_at off n (flat free) = Err 14
read_at off n (flat (file m f w)) = Ok (take n (drop off f.bytes))
read_at off n (deep m d w c) = Err 15

abbrev pub read : List ℕ → ℕ → ℕ → Tree → Result (List ℕ) ℕ
read path off n t = at_path path t (read_at off n)

-- stat: the mode of a file or a directory, qid, version and size
pub record Stat : Type 0 where
  pub mode : ℕ
  pub qid : ℕ
  pub version : ℕ
  pub size : ℕ

-- a directory has 72 bytes for each place, which is 504 for each seven
abbrev pub stat_at : Place (Unit {0}) → Result Stat ℕ
stat_at (flat free) = Err 14
stat_at (flat (file m f w)) = Ok (record { mode = 0x8000; qid = f.qid; version = f.version; size = length f.bytes })
stat_at (deep m d w c) = Ok (record { mode = 0xc000; qid = d.qid; version = d.version; size = 72 * size c })

abbrev pub stat : List ℕ → Tree → Result Stat ℕ
stat path t = at_path path t stat_at

-- entry: the name at place k of a directory
abbrev pub entry_at : ℕ → Place (Unit {0}) → Result (List ℕ) ℕ
entry_at k (flat free) = Err 14
entry_at k (flat (file m f w)) = Err 15
entry_at k (deep m d w c) = cond (nat_le k 41) (Ok (name_at (at c k))) (Err 17)

abbrev pub entry : List ℕ → ℕ → Tree → Result (List ℕ) ℕ
entry path k t = at_path path t (entry_at k)

-- the places of a directory with a node in its lowest empty place, seven more places if there is none
abbrev pub roomy : Plain → Plain
roomy c = cond (nat_lt (first_free c) (size c)) c (append c (frees 7))

abbrev pub make_in : Place (Unit {0}) → Plain → Plain
make_in x c = set_at (roomy c) (first_free (roomy c)) x

-- the tree with other places in the directory that the names lead to
abbrev pub inside : List (List ℕ) → (Plain → Plain) → ℕ → Tree → Tree
inside ns f next t = record { root = t.root; places = modify ns f t.places; next_qid = next }

abbrev pub new_node : Bool → List ℕ → ℕ → Place (Unit {0})
new_node is_dir n q = cond is_dir (deep n (record { qid = q; version = 0 }) tt end) (flat (file n (record { qid = q; version = 0; bytes = [] }) tt))

-- mkfile and mkdir of the name n in the place that the names ns lead to
abbrev pub make_at : Bool → List (List ℕ) → List ℕ → Tree → Place (Unit {0}) → Result Tree ℕ
make_at is_dir ns n t (flat l) = Err 14
make_at is_dir ns n t (deep m d w c) =
    cond (nat_lt 0 (named n c)) (Err 16)
    (cond (used c == 42) (Err 18)
    (cond (t.next_qid == 4294967295) (Err 20)
    (Ok (inside ns (make_in (new_node is_dir n t.next_qid)) (t.next_qid + 1) t))))

abbrev pub make_on : Bool → Option (List (List ℕ)) → Tree → Result Tree ℕ
make_on is_dir None t = Err 11
make_on is_dir (Some []) t = Err 16
make_on is_dir (Some (n ∷ ns)) t = make_at is_dir (front n ns) (final n ns) t (walk (front n ns) (root_place t))

abbrev pub make : Bool → List ℕ → Tree → Result Tree ℕ
make is_dir path t = make_on is_dir (path_of path) t

-- the file with the bytes of the input from off on, which is at most its end
abbrev pub written : ℕ → List ℕ → File → File
written off input f = record { qid = f.qid; version = (f.version + 1) % 2 ^ 32; bytes = take off f.bytes ++ (input ++ drop (off + length input) f.bytes) }

abbrev pub writable : ℕ → List ℕ → File → Bool
writable off input f = nat_le 1 (length input) && nat_le (length input) 504 && nat_le off (length f.bytes) && nat_le (off + length input) 66528

abbrev pub put_file : List ℕ → File → Plain → Plain
put_file n f c = set_at c (find n c) (flat (file n f tt))

-- write to the file n in the directory that the names ns lead to
abbrev pub write_at : List (List ℕ) → List ℕ → ℕ → List ℕ → Tree → Place (Unit {0}) → Result Tree ℕ
write_at ns n off input t (flat free) = Err 14
write_at ns n off input t (flat (file m f w)) = cond (writable off input f) (Ok (inside ns (put_file n (written off input f)) t.next_qid t)) (Err 17)
write_at ns n off input t (deep m d w c) = Err 15

abbrev pub write_on : ℕ → List ℕ → Option (List (List ℕ)) → Tree → Result Tree ℕ
write_on off input None t = Err 11
write_on off input (Some []) t = Err 15
write_on off input (Some (n ∷ ns)) t = write_at (front n ns) (final n ns) off input t (walk (n ∷ ns) (root_place t))

abbrev pub write : List ℕ → ℕ → List ℕ → Tree → Result Tree ℕ
write path off input t = write_on off input (path_of path) t

-- remove the node n of the directory that the names ns lead to
abbrev pub remove_in : List ℕ → Plain → Plain
remove_in n c = set_at c (find n c) (flat free)

abbrev pub remove_at : List (List ℕ) → List ℕ → Tree → Place (Unit {0}) → Result Tree ℕ
remove_at ns n t (flat free) = Err 14
remove_at ns n t (flat (file m f w)) = Ok (inside ns (remove_in n) t.next_qid t)
remove_at ns n t (deep m d w c) = cond (used c == 0) (Ok (inside ns (remove_in n) t.next_qid t)) (Err 19)

abbrev pub remove_on : Option (List (List ℕ)) → Tree → Result Tree ℕ
remove_on None t = Err 11
remove_on (Some []) t = Err 15
remove_on (Some (n ∷ ns)) t = remove_at (front n ns) (final n ns) t (walk (n ∷ ns) (root_place t))

abbrev pub remove : List ℕ → Tree → Result Tree ℕ
remove path t = remove_on (path_of path) t
