-- Look-ups in the blocks of a tree never fail, and lead where names lead in the tree.
use Rattle.std.proofs.Common.{◌≡◌, ℕ, suc, ◌*◌, ◌^◌, ◌<◌, ◌≤◌, Bool, true, false, cond, List, [], ◌∷◌, ◌++◌, map, length, get_or, take, drop, replicate, Some, None, Ok, Option, sym, refl, ap, ◌∙◌, arith}
use Rattle.std.proofs.lemmas.List.{length-take-le, length-drop, map-append, nil_from_length, take-append-drop}
use Rattle.plain.specs.Trees.{free, file, Places, end, leaf, dir, Place, flat, deep, at, has_name, find, child, walk}
use Rattle.layout.specs.Entries.{Entry, empty_entry, entry_bytes, directory_block, entry_at}
use Rattle.layout.proofs.Bodies.{directory_entry}
use Rattle.layout.proofs.Fields.{empty_bytes}
use Rattle.trees.specs.Stored.{Stored, StoredTree, dir_entry, leaf_entry, place_entry, entries, root_place}
use Rattle.trees.specs.Represents.{BlockMap, Represents}
use Rattle.trees.specs.Decoded.{entries_of}
use Rattle.trees.specs.Lookups.{and_then, no_entry, is_named, entry_named, Judged, visit_directory, look_in, look_from, look_up}
use Rattle.trees.proofs.Lists.{chunk, chunk_first, chunk_next}
use Rattle.trees.proofs.Nodes.{length_entries}
use Rattle.trees.proofs.Readable.{Readable, empty_mode, read_name, read_mode, read_qid, read_directs, read_entries}
use Rattle.trees.proofs.Visited.{directory_visited, root_visited}
use Rattle.trees.proofs.Held.{DirHeld, LeafHeld, Held, PlaceHeld, held_at, place_readable, TreeHeld, tree_held}

-- the entry that a search in a list gives, an empty place if it gives none
abbrev found : Option (List ℕ) → List ℕ
found (Some e) = e
found None = no_entry

-- a search in a list and then in another
abbrev either : Option (List ℕ) → Option (List ℕ) → Option (List ℕ)
either (Some e) o = Some e
either None o = o

named_append : (n : List ℕ) (xs ys : List (List ℕ)) → entry_named n (xs ++ ys) ≡ either (entry_named n xs) (entry_named n ys)
named_append n [] ys = refl
named_append n (x ∷ xs) ys = go (is_named n x) (named_append n xs ys)
  where
    go : (b : Bool) → entry_named n (xs ++ ys) ≡ either (entry_named n xs) (entry_named n ys) →
        cond b (Some x) (entry_named n (xs ++ ys)) ≡ either (cond b (Some x) (entry_named n xs)) (entry_named n ys)
    go true ih = refl
    go false ih = ih

-- what is found is at the number that a search for it gives
first_or : (b : Bool) (e : List ℕ) (o : Option (List ℕ)) (f : ℕ → List ℕ) (i : ℕ) → e ≡ f 0 → found o ≡ f (suc i) → found (cond b (Some e) o) ≡ f (cond b 0 (suc i))
first_or true e o f i here later = here
first_or false e o f i here later = later

module _ (m : BlockMap) (limit next : ℕ) where
  -- a search in blocks is one in their entries
  look_in_lem : (n : List ℕ) (q : ℕ) (l : List ℕ) (es : List Entry) → length es ≡ 7 * length l →
      ((j : ℕ) → j < length l → visit_directory m limit next q (get_or l j 0) ≡ Ok (directory_block q (chunk 7 j es))) →
      look_in m limit next n q l ≡ Ok (found (entry_named n (map entry_bytes es)))
  look_in_lem n q [] es long visited = ap (λ l. Ok (found (entry_named n (map entry_bytes l)))) (sym (nil_from_length es long))
  look_in_lem n q (a ∷ l) es long visited =
      ap (λ r. and_then r (λ b. from (entry_named n (entries_of b)))) (visited 0 (omega arith) ∙ ap (λ c. Ok (directory_block q c)) (chunk_first 7 es))
      ∙ ap from (ap (entry_named n) (read_entries q (take 7 es) (length-take-le 7 es (omega arith))))
      ∙ go (entry_named n (map entry_bytes (take 7 es)))
      (look_in_lem n q l (drop 7 es) (length-drop 7 es ∙ omega arith) (λ j lt. visited (suc j) (omega arith) ∙ ap (λ c. Ok (directory_block q c)) (chunk_next 7 j es)))
      ∙ ap (λ o. Ok (found o)) (sym (named_append n (map entry_bytes (take 7 es)) rest) ∙ ap (entry_named n) parts)
    where
      rest : List (List ℕ)
      rest = map entry_bytes (drop 7 es)

      -- the entry, if it is in this block, or else what the blocks after it give
      from : Option (List ℕ) → Judged (List ℕ)
      from o = elim o [ Some e ↦ Ok e | None ↦ look_in m limit next n q l ]

      go : (o : Option (List ℕ)) → look_in m limit next n q l ≡ Ok (found (entry_named n rest)) → from o ≡ Ok (found (either o (entry_named n rest)))
      go (Some e) ih = refl
      go None ih = ih

      parts : map entry_bytes (take 7 es) ++ rest ≡ map entry_bytes es
      parts = sym (map-append entry_bytes (take 7 es) (drop 7 es)) ∙ ap (map entry_bytes) (take-append-drop 7 es)

  -- a place that names lead to
  abbrev pub Reached : Place Stored → Type 0
  Reached (flat l) = LeafHeld m limit next l
  Reached (deep n d w c) = Readable limit (dir_entry n d w) × DirHeld m limit next d w c × Held m limit next c

module _ (m : BlockMap) (limit next : ℕ) (few : limit ≤ 65536) (bound : next < 2 ^ 32) where
  -- an entry has the name of its place, and a search in the entries gives the place that a search in the places gives
  named_entry : (n : List ℕ) (p : Place Stored) → PlaceHeld m limit next p → is_named n (entry_bytes (place_entry p)) ≡ has_name n p
  named_entry n (flat free) h = rw empty_mode
  named_entry n (flat (file x f w)) h =
      let r = place_readable m limit next few bound (flat (file x f w)) h in
      rw (read_mode limit _ r, read_name limit _ r)
  named_entry n (deep x d w c) h =
      let r = place_readable m limit next few bound (deep x d w c) h in
      rw (read_mode limit _ r, read_name limit _ r)

  entry_found : (n : List ℕ) (c : Places Stored) → Held m limit next c → found (entry_named n (map entry_bytes (entries c))) ≡ entry_bytes (place_entry (at c (find n c)))
  entry_found n end h = sym empty_bytes
  entry_found n (leaf l k) h =
      ap (λ b. found (cond b (Some (entry_bytes (leaf_entry l))) (entry_named n (map entry_bytes (entries k))))) (named_entry n (flat l) h.0)
      ∙ first_or (has_name n (flat l)) _ _ (λ i. entry_bytes (place_entry (at (leaf l k) i))) (find n k) refl (entry_found n k h.1)
  entry_found n (dir x d w c k) h =
      ap (λ b. found (cond b (Some (entry_bytes (dir_entry x d w))) (entry_named n (map entry_bytes (entries k))))) (named_entry n (deep x d w c) (h.0, h.1, h.2))
      ∙ first_or (has_name n (deep x d w c)) _ _ (λ i. entry_bytes (place_entry (at (dir x d w c k) i))) (find n k) refl (entry_found n k h.3)

  -- names lead from such a place to such a place
  reached : (p : Place Stored) → PlaceHeld m limit next p → Reached m limit next p
  reached (flat l) h = h
  reached (deep n d w c) h = (place_readable m limit next few bound (deep n d w c) h, h.1, h.2)

  reached_child : (n : List ℕ) (p : Place Stored) → Reached m limit next p → Reached m limit next (child n p)
  reached_child n (flat l) h = tt
  reached_child n (deep x d w c) h = reached (at c (find n c)) (held_at m limit next c (find n c) h.2)

  pub reached_walk : (ns : List (List ℕ)) (p : Place Stored) → Reached m limit next p → Reached m limit next (walk ns p)
  reached_walk [] p h = h
  reached_walk (n ∷ ns) p h = reached_walk ns (child n p) (reached_child n p h)

  -- one name after another
  look_empty : (ns : List (List ℕ)) → look_from m limit next ns (entry_bytes empty_entry) ≡ Ok no_entry
  look_empty [] = ap Ok empty_bytes
  look_empty (n ∷ ns) = rw empty_mode

  look_child : (n : List ℕ) (ns : List (List ℕ)) (p : Place Stored) → Reached m limit next p →
      look_from m limit next (n ∷ ns) (entry_bytes (place_entry p)) ≡ look_from m limit next ns (entry_bytes (place_entry (child n p)))
  look_child n ns (flat free) h = look_empty (n ∷ ns) ∙ sym (look_empty ns)
  look_child n ns (flat (file x f w)) h = rw (read_mode limit _ (place_readable m limit next few bound (flat (file x f w)) h)) (sym (look_empty ns))
  look_child n ns (deep x d w c) h =
      let e = dir_entry x d w in
      let look = look_in_lem m limit next n d.qid w.blocks (entries c) (length_entries c ∙ h.1.fits.blocks) (directory_visited m limit next few bound d w c h.1 h.2) in
      rw (read_mode limit e h.0, read_qid limit e h.0, read_directs limit e h.0, look) (ap (look_from m limit next ns) (entry_found n c h.2))

  look_from_lem : (ns : List (List ℕ)) (p : Place Stored) → Reached m limit next p → look_from m limit next ns (entry_bytes (place_entry p)) ≡ Ok (entry_bytes (place_entry (walk ns p)))
  look_from_lem [] p h = refl
  look_from_lem (n ∷ ns) p h = look_child n ns p h ∙ look_from_lem ns (child n p) (reached_child n p h)

-- from the root block on
pub root_reached : (m : BlockMap) (limit : ℕ) (t : StoredTree) → TreeHeld m limit t → Reached m limit t.next_qid (root_place t)
root_reached m limit t h = (h.readable, h.root, h.places)

pub finds : (m : BlockMap) (limit : ℕ) (t : StoredTree) → Represents m limit t → (ns : List (List ℕ)) →
    look_up m limit t.next_qid t.top ns ≡ Ok (entry_bytes (place_entry (walk ns (root_place t))))
finds m limit t r ns =
    let h = tree_held m limit t r in
    ap (λ x. and_then x (λ b. look_from m limit t.next_qid ns (entry_at 0 b))) (root_visited m limit t h)
    ∙ ap (look_from m limit t.next_qid ns) (directory_entry 0 (place_entry (root_place t) ∷ replicate 6 empty_entry) 0 (omega arith))
    ∙ look_from_lem m limit t.next_qid h.few h.bound ns (root_place t) (root_reached m limit t h)
