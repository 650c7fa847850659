-- The answers to stat, entry and read from the blocks of a tree are the plain tree's.
use Rattle.std.proofs.Common.{◌≡◌, ℕ, zero, suc, ◌+◌, ◌-◌, ◌*◌, ◌/◌, ◌%◌, ◌^◌, ◌<◌, ◌≤◌, min, Bool, true, false, cond, eqb, ltb, leb, List, [], ◌++◌, map, length, get_or, take, drop, Ok, Err, Result, sym, refl, ap, ◌∙◌, ⊎_elim, arith}
use lib.Dec.{eqb-suc-zero}
use Rattle.std.specs.List.{range_with_len}
use Rattle.std.proofs.ByRecursion.{All-drop}
use Rattle.std.proofs.lemmas.List.{length-append, length-take, length-drop, get_or-take, get_or-drop, get_or_past, take_all, take-append-le, drop-append-le}
use Rattle.std.proofs.lemmas.Bool.{cases_lt, lt-ltb, le-ltb, cond-true, cond-false}
use Rattle.plain.specs.Trees as plain
use Rattle.plain.specs.Trees.{File, Dir, free, file, Places, Place, flat, deep, size, at, name_at, walk}
use Rattle.plain.specs.Operations.{stat_at, read_at}
use Rattle.plain.specs.Operations.{entry_at as entry_of}
use Rattle.layout.specs.declared.block.Tag.TheVariants as tag
use Rattle.layout.specs.Blocks.{tag_number, body_of, file_block, indirect_block, address_of}
use Rattle.layout.specs.Entries.{empty_entry, entry_bytes, name_of, qid_of, size_of, indirect_of, entry_at, blocks_for}
use Rattle.layout.proofs.Bodies.{indirect_address, directory_entry}
use Rattle.layout.proofs.Parts.{part_within}
use Rattle.trees.specs.Stored.{Stored, StoredTree, file_entry, dir_entry, place_entry, entries, root_place, map_places, erase}
use Rattle.trees.specs.Represents.{BlockMap, InRange, Represents}
use Rattle.trees.specs.Lookups.{Judged, and_then, visit, read_blocks, block_address, read_range, stat_of, visit_directory, visit_indirect, look_up, name_in, entry_in, read_some, read_in}
use Rattle.trees.specs.Theorems.{LookUps}
use Rattle.trees.proofs.Lists.{chunk}
use Rattle.trees.proofs.Chunks.{length_chunk, get_d_chunk, chunk_more}
use Rattle.trees.proofs.Nodes.{entries_at, length_entries}
use Rattle.trees.proofs.Erased.{map_size, map_at}
use Rattle.trees.proofs.Roots.{erased, erased_walk}
use Rattle.trees.proofs.Readable.{Readable, empty_mode, address_small, read_name, read_mode, read_qid, read_version, read_size, read_direct, read_indirect, read_bytes}
use Rattle.trees.proofs.Held.{FileHeld, DirHeld, Held, held_at, place_readable, tree_held}
use Rattle.trees.proofs.Visited.{file_visited, indirect_visited, directory_visited}
use Rattle.trees.proofs.Found.{Reached, reached_walk, root_reached, finds}

entry_name : (p : Place Stored) → (place_entry p).name ≡ name_at (erased p)
entry_name (flat free) = refl
entry_name (flat (file n f w)) = refl
entry_name (deep n d w c) = refl

take_min : {X : Type 0} (n : ℕ) (xs : List X) → take (min n (length xs)) xs ≡ take n xs
take_min n xs =
    ⊎_elim
    (λ (lt : n < length xs). ap (λ k. take k xs) (omega arith))
    (λ (le : length xs ≤ n). take_all (min n (length xs)) xs (omega arith) ∙ sym (take_all n xs le))
    (cases_lt n (length xs))

-- the bodies of blocks that hold so many chunks of a list, from chunk s on
read_blocks_lem : (m : BlockMap) (q : ℕ) (f : ℕ → ℕ) (xs : List ℕ) (blocks : ℕ) → length xs ≡ 504 * blocks → (s count : ℕ) → s + count ≤ blocks →
    ((j : ℕ) → j < s + count → visit m (tag_number tag.File) q (f j) ≡ Ok (file_block q (chunk 504 j xs))) →
    read_blocks m q (map f (range_with_len s count)) ≡ Ok (take (504 * count) (drop (504 * s) xs))
read_blocks_lem m q f xs blocks long s zero room visited = refl
read_blocks_lem m q f xs blocks long s (suc count) room visited =
    let rest = read_blocks_lem m q f xs blocks long (s + 1) count (omega arith) (λ j lt. visited j (omega arith)) in
    ap (λ r. and_then r (λ b. and_then (read_blocks m q (map f (range_with_len (s + 1) count))) (λ rest. Ok (body_of b ++ rest)))) (visited s (omega arith))
    ∙ ap (λ r. and_then r (λ rest. Ok (body_of (file_block q (chunk 504 s xs)) ++ rest))) rest
    ∙ ap (λ l. Ok (l ++ take (504 * count) (drop (504 * (s + 1)) xs))) (read_bytes q (chunk 504 s xs) (length_chunk 504 s blocks xs long (omega arith)))
    ∙ ap Ok (chunk_more 504 s count xs)

module _ (m : BlockMap) (limit next : ℕ) (few : limit ≤ 65536) (bound : next < 2 ^ 32) where
  stat_of_lem : (p : Place Stored) → Reached m limit next p → stat_of (entry_bytes (place_entry p)) ≡ stat_at (erased p)
  stat_of_lem (flat free) h = rw empty_mode
  stat_of_lem (flat (file n f w)) h =
      let r = place_readable m limit next few bound (flat (file n f w)) h in
      rw (read_mode limit _ r, read_qid limit _ r, read_version limit _ r, read_size limit _ r)
  stat_of_lem (deep n d w c) h =
      let r = h.0 in
      let size : 504 * length w.blocks ≡ 72 * size (map_places {Y = Unit {0}} (λ w. tt) c) = omega (arith, map_size {Y = Unit {0}} (λ w. tt) c, h.1.fits.blocks) in
      rw (read_mode limit _ r, read_qid limit _ r, read_version limit _ r, read_size limit _ r, size)

  -- the name at place k of a directory
  module _ (n : List ℕ) (d : Dir) (w : Stored) (c : Places Stored) (r : Readable limit (dir_entry n d w)) (h : DirHeld m limit next d w c) (held : Held m limit next c) (k : ℕ) where
    abbrev answer : List ℕ
    answer = name_at (at (map_places {Y = Unit {0}} (λ w. tt) c) k)

    same_name : (place_entry (at c k)).name ≡ answer
    same_name = entry_name (at c k) ∙ ap name_at (map_at (λ w. tt) c k)

    name_in_lem : name_in m limit next k (entry_bytes (dir_entry n d w)) ≡ Ok (Ok answer)
    name_in_lem = rw (read_size limit _ r, read_qid limit _ r, read_direct limit _ r (k / 7)) (⊎_elim within past (cases_lt k (size c)))
      where
        found : Judged (Result (List ℕ) ℕ)
        found = and_then (visit_directory m limit next d.qid (get_or w.blocks (k / 7) 0)) (λ b. Ok (Ok (name_of (entry_at (k % 7) b))))

        within : k < size c → cond (ltb (504 * (k / 7)) (504 * length w.blocks)) found (Ok (Ok [])) ≡ Ok (Ok answer)
        within lt =
            let block : k / 7 < length w.blocks = omega (arith, h.fits.blocks) in
            let es = chunk 7 (k / 7) (entries c) in
            let short : length es ≤ 7 = omega (arith, length-take 7 (drop (7 * (k / 7)) (entries c))) in
            let at_k : get_or es (k % 7) empty_entry ≡ place_entry (at c k) = get_d_chunk 7 (k / 7) (k % 7) k (entries c) empty_entry (omega arith) (omega arith) ∙ entries_at c k in
            cond-true _ _ _ (lt-ltb (504 * (k / 7)) (504 * length w.blocks) (omega arith))
            ∙ ap (λ x. and_then x (λ b. Ok (Ok (name_of (entry_at (k % 7) b))))) (directory_visited m limit next few bound d w c h held (k / 7) block)
            ∙ ap (λ e. Ok (Ok (name_of e))) (directory_entry d.qid es (k % 7) short ∙ ap entry_bytes at_k)
            ∙ ap (λ x. Ok (Ok x)) (read_name limit _ (place_readable m limit next few bound (at c k) (held_at m limit next c k held)) ∙ same_name)

        past : size c ≤ k → cond (ltb (504 * (k / 7)) (504 * length w.blocks)) found (Ok (Ok [])) ≡ Ok (Ok answer)
        past le =
            cond-false _ _ _ (le-ltb (504 * (k / 7)) (504 * length w.blocks) (omega (arith, h.fits.blocks)))
            ∙ ap (λ x. Ok (Ok x)) (ap (λ e. e.name) (sym (get_or_past (entries c) k empty_entry (omega (arith, length_entries c))) ∙ entries_at c k) ∙ same_name)

  entry_in_lem : (k : ℕ) (p : Place Stored) → Reached m limit next p → entry_in m limit next k (entry_bytes (place_entry p)) ≡ Ok (entry_of k (erased p))
  entry_in_lem k (flat free) h = rw empty_mode
  entry_in_lem k (flat (file n f w)) h = rw (read_mode limit _ (place_readable m limit next few bound (flat (file n f w)) h))
  entry_in_lem k (deep n d w c) h = rw (read_mode limit _ h.0) (go (leb k 41))
    where
      go : (b : Bool) → cond b (name_in m limit next k (entry_bytes (dir_entry n d w))) (Ok (Err 17)) ≡ Ok (cond b (Ok (name_at (at (map_places {Y = Unit {0}} (λ w. tt) c) k))) (Err 17))
      go true = name_in_lem n d w c h.0 h.1 h.2 k
      go false = refl

  -- bytes of a file
  module _ (n : List ℕ) (f : File) (w : Stored) (r : Readable limit (file_entry n f w)) (h : FileHeld m limit next f w) (off : ℕ) where
    abbrev e : List ℕ
    e = entry_bytes (file_entry n f w)

    read_range_lem : (k : ℕ) → 0 < k → off + k ≤ length f.bytes → (indirect : List ℕ) →
        ((j : ℕ) → 6 ≤ j → j ≤ (off + k - 1) / 504 → address_of (j - 6) indirect ≡ get_or w.blocks j 0) → read_range m off k e indirect ≡ Ok (Ok (take k (drop off f.bytes)))
    read_range_lem k some within indirect named =
        let all = f.bytes ++ w.slack in
        let s = off / 504 in
        let count = (off + k - 1) / 504 + 1 - off / 504 in
        let long : length all ≡ 504 * length w.blocks = length-append f.bytes w.slack ∙ h.fits.slack in
        let room : s + count ≤ length w.blocks = omega (arith, h.fits.slack, h.fits.blocks) in
        let blocks =
        read_blocks_lem m f.qid (block_address e indirect) all (length w.blocks) long s count room (λ j lt.
        ap (visit m (tag_number tag.File) f.qid) (address j (omega arith)) ∙ file_visited m limit next few bound f w h j (omega arith)) in
        let front : off ≤ length f.bytes = omega arith in
        ap (λ q. and_then (read_blocks m q (map (block_address e indirect) (range_with_len s count))) (λ bytes. Ok (Ok (take k (drop (off % 504) bytes))))) (read_qid limit (file_entry n f w) r)
        ∙ ap (λ x. and_then x (λ bytes. Ok (Ok (take k (drop (off % 504) bytes))))) blocks
        ∙ ap (λ l. Ok (Ok l))
        (part_within (504 * s) (504 * count) (off % 504) k all (omega arith)
        ∙ ap (λ i. take k (drop i all)) (omega arith)
        ∙ ap (take k) (drop-append-le off f.bytes w.slack front)
        ∙ take-append-le k (drop off f.bytes) w.slack (omega (arith, length-drop off f.bytes)))
      where
        address : (j : ℕ) → j ≤ (off + k - 1) / 504 → block_address e indirect j ≡ get_or w.blocks j 0
        address j le =
            ⊎_elim
            (λ (lt : j < 6). cond-true _ _ _ (lt-ltb j 6 lt) ∙ read_direct limit (file_entry n f w) r j ∙ get_or-take 6 w.blocks j 0 lt)
            (λ (ge : 6 ≤ j). cond-false _ _ _ (le-ltb j 6 ge) ∙ named j ge le)
            (cases_lt j 6)

    read_some_lem : (k : ℕ) → (0 < k → off + k ≤ length f.bytes) → read_some m limit next off k e ≡ Ok (Ok (take k (drop off f.bytes)))
    read_some_lem zero room = refl
    read_some_lem (suc k) room = cond-false (eqb (suc k) 0) _ _ (eqb-suc-zero k) ∙ ⊎_elim direct indirect (cases_lt last 6)
      where
        last : ℕ
        last = (off + suc k - 1) / 504

        within : off + suc k ≤ length f.bytes
        within = room (omega arith)

        both : Judged (Result (List ℕ) ℕ)
        both = cond (ltb last 6) (read_range m off (suc k) e []) (and_then (visit_indirect m limit next (qid_of e) (blocks_for (size_of e)) (indirect_of e)) (read_range m off (suc k) e))

        direct : last < 6 → both ≡ Ok (Ok (take (suc k) (drop off f.bytes)))
        direct lt = cond-true _ _ _ (lt-ltb last 6 lt) ∙ read_range_lem (suc k) (omega arith) within [] (λ j ge le. absurd (omega arith))

        indirect : 6 ≤ last → both ≡ Ok (Ok (take (suc k) (drop off f.bytes)))
        indirect ge =
            let more : 0 < length w.indirect = omega (arith, h.fits.blocks, h.fits.indirect) in
            let rest = drop 6 w.blocks in
            let short : length rest ≤ 126 = omega (arith, length-drop 6 w.blocks, h.fits.blocks, h.size) in
            cond-false _ _ _ (le-ltb last 6 ge)
            ∙ rw (read_qid limit (file_entry n f w) r, read_size limit (file_entry n f w) r, read_indirect limit (file_entry n f w) r, indirect_visited m limit next few bound f w h more)
            (read_range_lem (suc k) (omega arith) within (indirect_block f.qid rest) (λ j ge le.
            indirect_address f.qid rest (j - 6) short (address_small limit few rest (All-drop (InRange limit) 6 w.blocks h.blocks) (j - 6))
            ∙ get_or-drop 6 w.blocks (j - 6) 0 ∙ ap (λ i. get_or w.blocks i 0) (omega arith)))

  read_in_lem : (off k : ℕ) (p : Place Stored) → Reached m limit next p → read_in m limit next off k (entry_bytes (place_entry p)) ≡ Ok (read_at off k (erased p))
  read_in_lem off k (flat free) h = rw empty_mode
  read_in_lem off k (flat (file n f w)) h =
      let r = place_readable m limit next few bound (flat (file n f w)) h in
      let rest = length-drop off f.bytes in
      rw (read_mode limit _ r)
      (ap (λ s. read_some m limit next off (min k (s - off)) (entry_bytes (file_entry n f w))) (read_size limit _ r)
      ∙ read_some_lem n f w r h.1 off (min k (length f.bytes - off)) (λ some. omega arith)
      ∙ ap (λ i. Ok (Ok (take (min k i) (drop off f.bytes)))) (sym rest)
      ∙ ap (λ l. Ok (Ok l)) (take_min k (drop off f.bytes)))
  read_in_lem off k (deep n d w c) h = rw (read_mode limit _ h.0)

-- an answer that a place of the tree and the plain tree's place give alike
answered : {X : Type 0} (m : BlockMap) (limit : ℕ) (t : StoredTree) (r : Represents m limit t) (ask : List ℕ → Judged X) (answer : Place (Unit {0}) → X) →
    (limit ≤ 65536 → t.next_qid < 2 ^ 32 → (p : Place Stored) → Reached m limit t.next_qid p → ask (entry_bytes (place_entry p)) ≡ Ok (answer (erased p))) →
    (ns : List (List ℕ)) → and_then (look_up m limit t.next_qid t.top ns) ask ≡ Ok (answer (walk ns (plain.root_place (erase t))))
answered m limit t r ask answer same ns =
    let h = tree_held m limit t r in
    ap (λ x. and_then x ask) (finds m limit t r ns)
    ∙ same h.few h.bound (walk ns (root_place t)) (reached_walk m limit t.next_qid h.few h.bound ns (root_place t) (root_reached m limit t h))
    ∙ ap (λ p. Ok (answer p)) (erased_walk t ns)

pub look_ups : LookUps
look_ups = record {
  finds = finds;
  stats = λ m limit t r. answered m limit t r (λ e. Ok (stat_of e)) stat_at (λ few bound p h. ap Ok (stat_of_lem m limit t.next_qid few bound p h));
  names = λ m limit t r ns k. answered m limit t r (entry_in m limit t.next_qid k) (entry_of k) (λ few bound. entry_in_lem m limit t.next_qid few bound k) ns;
  reads = λ m limit t r ns off n. answered m limit t r (read_in m limit t.next_qid off n) (read_at off n) (λ few bound. read_in_lem m limit t.next_qid few bound off n) ns;
}
