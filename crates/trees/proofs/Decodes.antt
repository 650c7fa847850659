-- The blocks of a tree, read by their layouts from the root block on, give the tree.
use Rattle.std.proofs.Common.{◌≡◌, ℕ, zero, suc, ◌-◌, ◌^◌, ◌<◌, ◌≤◌, max, List, [], ◌∷◌, ◌++◌, map, length, get_or, take, drop, replicate, sym, refl, ap, ◌∙◌, ⊎_elim, arith}
use Rattle.std.specs.List.{flat_map}
use Rattle.std.proofs.ByRecursion.{All-drop}
use Rattle.std.proofs.lemmas.List.{length-append, length-drop, length-map, take_at, drop_at, drop_all, take-append-drop}
use Rattle.std.proofs.lemmas.Bool.{cases_lt}
use Rattle.plain.specs.Trees.{File, Dir, Leaf, free, file, Places, end, leaf, dir, flat, deep, put, slash}
use Rattle.layout.specs.Blocks.{body_of}
use Rattle.layout.specs.Entries.{entry_bytes, empty_entry, entry_at, blocks_for}
use Rattle.layout.proofs.Bodies.{directory_entry}
use Rattle.trees.specs.Stored.{Stored, StoredTree, dir_entry, leaf_entry, place_entry, entries, root_place, map_places}
use Rattle.trees.specs.Represents.{BlockMap, InRange, indirect_for, levels, Represents}
use Rattle.trees.specs.Decoded.{bytes_of, entries_of, directs_of, addresses_of, bodies_at, dir_stored, dir_of, place_from, places_from, places_at, tree_from, tree_at}
use Rattle.trees.specs.Theorems.{ReadByLayouts}
use Rattle.trees.proofs.Chunks.{joined_chunks, length_chunk, map_chunk}
use Rattle.trees.proofs.Nodes.{length_entries}
use Rattle.trees.proofs.Readable.{Readable, empty_mode, read_name, read_mode, read_qid, read_version, read_size, read_indirect, read_directs, read_entries, read_addresses, read_bytes}
use Rattle.trees.proofs.Held.{FileHeld, DirHeld, LeafHeld, Held, indirect_held, file_readable, place_readable, tree_held}

-- notes do not count in the levels
map_levels : {W Y : Type 0} (g : W → Y) (c : Places W) → levels (map_places g c) ≡ levels c
map_levels g end = refl
map_levels g (leaf free k) = ap (max 0) (map_levels g k)
map_levels g (leaf (file n f w) k) = ap (max 1) (map_levels g k)
map_levels g (dir n d w c k) = omega (arith, map_levels g c, map_levels g k)

-- the address of the indirect block, if there is one
first_of : (xs : List ℕ) → length xs ≤ 1 → take (length xs) (get_or xs 0 0 ∷ []) ≡ xs
first_of [] h = refl
first_of (x ∷ []) h = refl
first_of (x ∷ y ∷ xs) h = absurd (omega arith)

module _ (m : BlockMap) (limit next : ℕ) (few : limit ≤ 65536) (bound : next < 2 ^ 32) where
  -- what the blocks of a file say: the addresses from the seventh on, and its bytes with the slack
  indirect_addresses : (f : File) (w : Stored) → FileHeld m limit next f w →
      addresses_of (blocks_for (length f.bytes) - 6) (bytes_of (m (get_or w.indirect 0 0))) ≡ drop 6 w.blocks
  indirect_addresses f w h =
      let rest = drop 6 w.blocks in
      let n = blocks_for (length f.bytes) - 6 in
      ⊎_elim
      (λ (more : 0 < length w.indirect).
      let long : length rest ≡ n = length-drop 6 w.blocks ∙ omega (arith, h.fits.blocks) in
      ap (λ x. addresses_of n (bytes_of x)) (indirect_held m limit next f w h more)
      ∙ read_addresses limit f.qid n rest few (All-drop (InRange limit) 6 w.blocks h.blocks) long (omega (arith, h.size)))
      (λ (none : length w.indirect ≤ 0).
      let short : n ≡ 0 = omega (arith, h.fits.blocks, h.fits.indirect) in
      ap (λ k. addresses_of k (bytes_of (m (get_or w.indirect 0 0)))) short ∙ sym (drop_all 6 w.blocks (omega (arith, h.fits.blocks))))
      (cases_lt 0 (length w.indirect))

  bodies : (f : File) (w : Stored) → FileHeld m limit next f w → bodies_at m w.blocks ≡ f.bytes ++ w.slack
  bodies f w h =
      let long = length-append f.bytes w.slack ∙ h.fits.slack in
      joined_chunks 504 (λ a. body_of (bytes_of (m a))) w.blocks (f.bytes ++ w.slack) long (λ j lt.
      ap (λ x. body_of (bytes_of x)) (h.bytes j lt) ∙ read_bytes f.qid _ (length_chunk 504 j (length w.blocks) (f.bytes ++ w.slack) long lt))

  -- the entries in the blocks of a directory
  row_read : (d : Dir) (w : Stored) (c : Places Stored) → DirHeld m limit next d w c → flat_map (λ a. entries_of (bytes_of (m a))) w.blocks ≡ map entry_bytes (entries c)
  row_read d w c h =
      let long = length_entries c ∙ h.fits.blocks in
      joined_chunks 7 (λ a. entries_of (bytes_of (m a))) w.blocks (map entry_bytes (entries c)) (length-map (entries c) entry_bytes ∙ long) (λ j lt.
      ap (λ x. entries_of (bytes_of x)) (h.entries j lt)
      ∙ read_entries d.qid _ (length_chunk 7 j (length w.blocks) (entries c) long lt) ∙ map_chunk entry_bytes 7 j (entries c))

  -- what the entry of a directory says of it
  head_read : (n : List ℕ) (d : Dir) (w : Stored) → Readable limit (dir_entry n d w) → dir_of m (entry_bytes (dir_entry n d w)) ≡ d
  head_read n d w r = rw (read_qid limit _ r, read_version limit _ r)

  note_read : (n : List ℕ) (d : Dir) (w : Stored) (c : Places Stored) → Readable limit (dir_entry n d w) → DirHeld m limit next d w c → dir_stored m (entry_bytes (dir_entry n d w)) ≡ w
  note_read n d w c r h = let blocks = read_directs limit (dir_entry n d w) r in λ i. record { blocks = blocks i; indirect = sym h.fits.indirect i; slack = sym h.fits.slack i }

  -- an entry is decoded to its place, where `sub` gives the places in a directory's blocks
  module _ (sub : List ℕ → Places Stored) where
    leaf_decoded : (l : Leaf Stored) → LeafHeld m limit next l → place_from m sub (entry_bytes (leaf_entry l)) ≡ flat l
    leaf_decoded free h = rw empty_mode
    leaf_decoded (file n f w) h =
        let r = file_readable m limit next few bound n f w h.0 h.1 in
        let fits = h.1.fits in
        let one : take (indirect_for (blocks_for (length f.bytes))) (get_or w.indirect 0 0 ∷ []) ≡ w.indirect =
        ap (λ k. take k (get_or w.indirect 0 0 ∷ [])) (ap indirect_for (sym fits.blocks) ∙ sym fits.indirect)
        ∙ first_of w.indirect (omega (arith, fits.blocks, fits.indirect, h.1.size)) in
        rw (read_mode limit _ r, read_name limit _ r, read_qid limit _ r, read_version limit _ r, read_directs limit _ r, read_size limit _ r, read_indirect limit _ r)
        (rw (one, indirect_addresses f w h.1, take-append-drop 6 w.blocks, bodies f w h.1)
        (rw (take_at f.bytes w.slack (length f.bytes) refl, drop_at f.bytes w.slack (length f.bytes) refl)))

    dir_decoded : (n : List ℕ) (d : Dir) (w : Stored) (c : Places Stored) → Readable limit (dir_entry n d w) → DirHeld m limit next d w c → sub w.blocks ≡ c →
        place_from m sub (entry_bytes (dir_entry n d w)) ≡ deep n d w c
    dir_decoded n d w c r h below =
        rw (read_mode limit _ r, read_name limit _ r, head_read n d w r, note_read n d w c r h, read_directs limit _ r, below)

  -- so are the entries of places with so many levels
  places_decoded : (c : Places Stored) (k : ℕ) → levels c ≤ k → Held m limit next c → places_from m (places_at m k) (map entry_bytes (entries c)) ≡ c
  places_decoded end k low h = refl
  places_decoded (leaf l c) k low h =
      ap (λ p. put p (places_from m (places_at m k) (map entry_bytes (entries c)))) (leaf_decoded (places_at m k) l h.0) ∙ ap (leaf l) (places_decoded c k (omega arith) h.1)
  places_decoded (dir n d w e c) zero low h = absurd (omega arith)
  places_decoded (dir n d w e c) (suc k) low h =
      let below = ap (places_from m (places_at m k)) (row_read d w e h.1) ∙ places_decoded e k (omega arith) h.2 in
      let readable = place_readable m limit next few bound (deep n d w e) (h.0, h.1, h.2) in
      ap (λ p. put p (places_from m (places_at m (suc k)) (map entry_bytes (entries c)))) (dir_decoded (places_at m (suc k)) n d w e readable h.1 below)
      ∙ ap (dir n d w e) (places_decoded c (suc k) (omega arith) h.3)

decoded : (m : BlockMap) (limit : ℕ) (t : StoredTree) → Represents m limit t → tree_at m t.top t.next_qid ≡ t
decoded m limit t r =
    let h = tree_held m limit t r in
    let next = t.next_qid in
    let e = place_entry (root_place t) in
    let head = head_read m limit next h.few h.bound slash t.root t.stored h.readable in
    let note = note_read m limit next h.few h.bound slash t.root t.stored t.places h.readable h.root in
    let row = row_read m limit next h.few h.bound t.root t.stored t.places h.root in
    let shallow : levels t.places ≤ 8 = omega (arith, map_levels {Y = Unit {0}} (λ w. tt) t.places, r.formed.levels) in
    let places : places_at m 9 (directs_of (entry_bytes e)) ≡ t.places =
    ap (places_at m 9) (read_directs limit e h.readable) ∙ ap (places_from m (places_at m 8)) row ∙ places_decoded m limit next h.few h.bound t.places 8 shallow h.places in
    ap (λ x. tree_from m t.top next (entry_at 0 (bytes_of x))) h.top
    ∙ ap (tree_from m t.top next) (directory_entry 0 (e ∷ replicate 6 empty_entry) 0 (omega arith))
    ∙ (λ i. record { top = t.top; root = head i; stored = note i; places = places i; next_qid = next })

pub read_by_layouts : ReadByLayouts
read_by_layouts = record {
  decoded = decoded;
  alone = λ m limit t u r s top next. sym (decoded m limit t r) ∙ ap (λ a. tree_at m a t.next_qid) top ∙ ap (tree_at m u.top) next ∙ decoded m limit u s;
}
