-- An accepted write.
use Rattle.std.proofs.Common.{◌≡◌, ℕ, zero, suc, ◌+◌, ◌-◌, ◌*◌, ◌/◌, ◌<◌, ◌≤◌, max, Bool, true, false, cond, ◌&&◌, ltb, leb, ◌⊎◌, List, [], ◌∷◌, ◌++◌, length, get_or, take, drop, replicate, Ok, sym, refl, ap, ◌∙◌, subst, inl, inr, ⊎_elim, append_assoc, arith}
use lib.Seq.{take-append-add, drop-append-add}
use Rattle.std.specs.List.{AllByRecursion}
use Rattle.std.proofs.ByRecursion.{All-append}
use Rattle.std.proofs.lemmas.List.{nil_from_length, append-nil, length-append, length-take, length-drop, take-append-le, drop-append-le, drop_all, get_or_append_left, get_or-append_right, get_or-take, get_or-drop}
use Rattle.std.proofs.lemmas.Bool.{false≢true, cases_lt, and_parts, leb-true, lt-ltb, le-ltb}
use Rattle.plain.specs.Paths.{path_of}
use Rattle.plain.specs.Trees as plain
use Rattle.plain.specs.Trees.{File, Leaf, free, file, Places, Place, flat, deep, size, at, set_at, find, has_name, walk, slash, Tree}
use Rattle.plain.specs.Operations as tree
use Rattle.plain.specs.Operations.{writable, written, put_file}
use Rattle.plain.specs.Histories.{write}
use Rattle.plain.proofs.Walking.{same_name, found_within}
use Rattle.plain.proofs.Tidiness.{TidyPlace, tidy_at, tidy_walk}
use Rattle.plain.proofs.Changes.{Home, home}
use Rattle.plain.proofs.WriteLaw.{Written, accepted_write}
use Rattle.layout.specs.Numbers.{patched, fit}
use Rattle.layout.proofs.Parts.{length_fit}
use Rattle.layout.proofs.Patches.{patched_beside}
use Rattle.trees.specs.Stored.{Stored, Content, file_content, indirect_content, pointers, Block, in_blocks, file_blocks, place_blocks, StoredTree, root_place, whole, blocks_of, count, uses, erase}
use Rattle.trees.specs.Represents.{BlockMap, Stands, indirect_for, FileFits, PlaceFits, WellFormed, Represents}
use Rattle.trees.specs.Plans.{trail_to, alter, blocks_needed, new_indirect, last_block, written_blocks, grown, written_in, write_plan, plan_of}
use Rattle.trees.specs.Theorems.{Addable, Done, WriteKeeps}
use Rattle.trees.proofs.Lists.{zero_or, count_append, count_take, count_parts, count_at, all_left, all_right, chunk, block_at, all_in_blocks, in_blocks_at}
use Rattle.trees.proofs.Nodes.{uses_file}
use Rattle.trees.proofs.Erased.{map_alter, alter_append, alter_modify}
use Rattle.trees.proofs.Placed.{Rewritten}
use Rattle.trees.proofs.Altered.{uses_trail, Sound, sound_walk}
use Rattle.trees.proofs.Done.{done}
use Rattle.trees.proofs.Roots.{erased, root_top, root_erased, root_whole, on_names_lem, erased_walk}

-- What a file's blocks hold: the file's own bytes come first, and from there on a write is one to a longer list.
fit_front : (n : ℕ) (xs ys : List ℕ) → length xs ≤ n → (rest : List ℕ) × (fit n 0 (xs ++ ys) ≡ xs ++ rest)
unfolding fit
fit_front n xs ys h =
    let is : n ≡ length xs + (n - length xs) = omega arith in
    (take (n - length xs) (ys ++ replicate n 0), ap (take n) (append_assoc xs ys (replicate n 0)) ∙ ap (λ k. take k (xs ++ (ys ++ replicate n 0))) is ∙ take-append-add xs (ys ++ replicate n 0) (n - length xs))

past_end : (off : ℕ) (input bytes rest : List ℕ) → off ≤ length bytes →
    (take off bytes ++ (input ++ drop (off + length input) bytes)) ++ drop (max (length bytes) (off + length input)) (bytes ++ rest) ≡ patched off input (bytes ++ rest)
unfolding patched
past_end off input bytes rest h =
    rw (append_assoc, append_assoc, take-append-le off bytes rest h)
    (ap (λ l. take off bytes ++ (input ++ l))
    (⊎_elim
    (λ (lt : length bytes < off + length input).
    let most : max (length bytes) (off + length input) ≡ off + length input = omega arith in
    rw (most, drop_all (off + length input) bytes (omega arith)))
    (λ (le : off + length input ≤ length bytes).
    let most : max (length bytes) (off + length input) ≡ length bytes + 0 = omega arith in
    ap (λ k. drop (off + length input) bytes ++ drop k (bytes ++ rest)) most
    ∙ ap (λ l. drop (off + length input) bytes ++ l) (drop-append-add bytes rest 0)
    ∙ sym (drop-append-le (off + length input) bytes rest le))
    (cases_lt (length bytes) (off + length input))))

pub write_keeps : WriteKeeps
write_keeps t off input f w new h =
    let more = fit_front (504 * blocks_needed t off input f) f.bytes w.slack (omega arith) in
    rw more.1 (past_end off input f.bytes more.0 h)

chunk_fit : (n k j : ℕ) (xs : List ℕ) → length xs ≤ k → n * j + n ≤ length xs → chunk n j (fit k 0 xs) ≡ chunk n j xs
chunk_fit n k j xs le h =
    let more = fit_front k xs [] le in
    ap (λ l. chunk n j (fit k 0 l)) (sym (append-nil xs)) ∙ ap (chunk n j) more.1
    ∙ ap (take n) (drop-append-le (n * j) xs more.0 (omega arith)) ∙ take-append-le n (drop (n * j) xs) more.0 (rw length-drop (omega arith))

-- addresses in a part of a list that lies in its first n
count_window : (a j k n : ℕ) (l : List ℕ) → j + k ≤ n → count a (take k (drop j l)) ≤ count a (take n l)
count_window a zero k n l h = go k n l (omega arith)
  where
    go : (k n : ℕ) (l : List ℕ) → k ≤ n → count a (take k l) ≤ count a (take n l)
    go zero n l h = omega arith
    go (suc k) zero l h = absurd (omega arith)
    go (suc k) (suc n) [] h = omega arith
    go (suc k) (suc n) (b ∷ l) h = omega (arith, go k n l (omega arith))
count_window a (suc j) k zero l h = absurd (omega arith)
count_window a (suc j) zero (suc n) [] h = omega arith
count_window a (suc j) (suc k) (suc n) [] h = omega arith
count_window a (suc j) k (suc n) (b ∷ l) h = omega (arith, count_window a j k n l (omega arith))

-- a write that may be made
record Fine (off : ℕ) (input : List ℕ) (f : File) : Type 0 where
  some : 1 ≤ length input
  from : off ≤ length f.bytes
  to : off + length input ≤ 66528

fine : (off : ℕ) (input : List ℕ) (f : File) → writable off input f ≡ true → Fine off input f
fine off input f e =
    let a = and_parts (leb 1 (length input) && leb (length input) 504 && leb off (length f.bytes)) (leb (off + length input) 66528) e in
    let b = and_parts (leb 1 (length input) && leb (length input) 504) (leb off (length f.bytes)) a.0 in
    let c = and_parts (leb 1 (length input)) (leb (length input) 504) b.0 in
    record { some = leb-true 1 (length input) c.0; from = leb-true off (length f.bytes) b.1; to = leb-true (off + length input) 66528 a.1 }

-- The file f at w, with the input from off on and the added blocks.
module _ (t : StoredTree) (off : ℕ) (input : List ℕ) (f : File) (w : Stored) (new : List ℕ) (fits : FileFits f w) (short : length f.bytes ≤ 66528) (ok : Fine off input f) (many : length new ≡ new_indirect t off input f w + (blocks_needed t off input f - length w.blocks)) where
  abbrev need : ℕ
  need = blocks_needed t off input f

  abbrev ni : ℕ
  ni = new_indirect t off input f w

  abbrev last : ℕ
  last = last_block t off input

  abbrev f' : File
  f' = written off input f

  abbrev w' : Stored
  w' = grown t off input f w new

  long : length f'.bytes ≡ max (length f.bytes) (off + length input)
  long = simp (length-append, length-take, length-drop) (omega (arith, ok.from))

  blocks_long : length w'.blocks ≡ need
  blocks_long = length-append w.blocks (drop ni new) ∙ ap (λ n. length w.blocks + n) (length-drop ni new) ∙ omega (arith, fits.blocks)

  indirect_long : length w'.indirect ≡ indirect_for need
  indirect_long = length-append w.indirect (take ni new) ∙ ap (λ n. length w.indirect + n) (length-take ni new) ∙ omega (arith, fits.blocks, fits.indirect)

  grown_fits : FileFits f' w'
  grown_fits = record {
    blocks = blocks_long ∙ ap (λ n. (n + 503) / 504) (sym long);
    indirect = indirect_long ∙ ap indirect_for (sym blocks_long);
    slack = ap (λ n. n + length w'.slack) long ∙ ap (λ n. max (length f.bytes) (off + length input) + n) (length-drop (max (length f.bytes) (off + length input)) (fit (504 * need) 0 (f.bytes ++ w.slack)) ∙ ap (λ n. n - max (length f.bytes) (off + length input)) (length_fit (504 * need) 0 (f.bytes ++ w.slack))) ∙ omega (arith, blocks_long);
  }

  grown_uses : (a : ℕ) (k : List ℕ) → uses a (place_blocks (flat (file k f' w'))) ≡ uses a (place_blocks (flat (file k f w))) + count a new
  grown_uses a k = omega (arith, uses_file a k f' w', uses_file a k f w, count_append a w.blocks (drop ni new), count_append a w.indirect (take ni new), count_parts a ni new)

  -- the blocks of the input
  abbrev window : List ℕ
  window = take (last + 1 - off / 504) (drop (off / 504) w.blocks)

  written_count : (a : ℕ) → count a (written_blocks t off input w) ≡ count a window + count a (cond (ltb last 6) [] w.indirect)
  written_count a = count_append a window (cond (ltb last 6) [] w.indirect)

  written_own : (a : ℕ) → count a (written_blocks t off input w) ≤ count a w.blocks + count a w.indirect
  written_own a = omega (arith, written_count a, by (ltb last 6), count_take a (last + 1 - off / 504) (drop (off / 504) w.blocks), count_parts a (off / 504) w.blocks)
    where
      by : (b : Bool) → count a (cond b [] w.indirect) ≤ count a w.indirect
      by true = omega arith
      by false = omega arith

  touched_data : (j : ℕ) → j < length w.blocks → off / 504 ≤ j → j ≤ last → 0 < count (get_or w.blocks j 0) (written_blocks t off input w)
  touched_data j lt ge le =
      let i = j - off / 504 in
      let there : get_or window i 0 ≡ get_or w.blocks j 0 = get_or-take (last + 1 - off / 504) (drop (off / 504) w.blocks) i 0 (omega arith) ∙ get_or-drop (off / 504) w.blocks i 0 ∙ ap (λ k. get_or w.blocks k 0) (omega arith) in
      let in_window : 0 < count (get_or w.blocks j 0) window = subst (λ a. 0 < count a window) there (count_at window i (rw (length-take, length-drop) (omega arith))) in
      omega (arith, written_count (get_or w.blocks j 0))

  touched_indirect : (a : ℕ) → 6 ≤ last → count a w.indirect ≤ count a (written_blocks t off input w)
  touched_indirect a ge = omega (arith, written_count a, ap (λ b. count a (cond b [] w.indirect)) (le-ltb last 6 ge))

  -- a write within the first six blocks of a longer file adds no block, and touches none that the indirect block names
  none_added : last < 6 → 0 < length w.indirect → w'.blocks ≡ w.blocks
  none_added lt some = ap (λ l. w.blocks ++ l) (nil_from_length (drop ni new) (length-drop ni new ∙ omega (arith, fits.blocks, fits.indirect, short, ok.some))) ∙ append-nil w.blocks

  far_untouched : (a : ℕ) → count a w.blocks ≤ 1 → last < 6 → 0 < count a (drop 6 w.blocks) → count a (written_blocks t off input w) ≡ 0
  far_untouched a once lt h =
      omega (arith, written_count a, ap (λ b. count a (cond b [] w.indirect)) (lt-ltb last 6 lt), count_parts a 6 w.blocks, count_window a (off / 504) (last + 1 - off / 504) 6 w.blocks (omega (arith, ok.some)))

  -- what a block holds that has no byte of the input
  chunk_kept : (j : ℕ) → j < length w.blocks → (j < off / 504) ⊎ (last < j) → chunk 504 j (f'.bytes ++ w'.slack) ≡ chunk 504 j (f.bytes ++ w.slack)
  chunk_kept j lt aside =
      let all = f.bytes ++ w.slack in
      let full : length all ≡ 504 * length w.blocks = length-append f.bytes w.slack ∙ fits.slack in
      let wide : length (fit (504 * need) 0 all) ≡ 504 * need = length_fit (504 * need) 0 all in
      let some = ok.some in
      ap (chunk 504 j) (write_keeps t off input f w new ok.from)
      ∙ patched_beside off input (fit (504 * need) 0 all) (omega arith) (504 * j) 504 (⊎_elim (λ (b : j < off / 504). inl (omega arith)) (λ (b : last < j). inr (omega arith)) aside)
      ∙ chunk_fit 504 (504 * need) j all (omega (arith, fits.blocks)) (omega arith)

  module _ (m : BlockMap) (l : List ℕ) (k : List ℕ) (s : Sound m (flat (file k f w)))
      (touched : (a : ℕ) → 0 < count a (written_blocks t off input w) → 0 < count a l) (added : (a : ℕ) → 0 < count a new → 0 < count a l)
      (aside : (a : ℕ) → 0 < uses a (place_blocks (flat (file k f w))) → count a (written_blocks t off input w) ≡ 0 → count a l ≡ 0) where
    abbrev R : Block → Type 0
    R b = Rewritten m l b

    abbrev blocks_here : List Block
    blocks_here = in_blocks (file_content f.qid) 504 w.blocks (f.bytes ++ w.slack)

    abbrev indirect_blocks : List Block
    indirect_blocks = in_blocks (indirect_content f.qid) 126 w.indirect (drop 6 w.blocks)

    data_rewritten : (j : ℕ) → j < length w'.blocks → R (block_at (file_content f.qid) 504 w'.blocks (f'.bytes ++ w'.slack) j)
    data_rewritten j lt =
        ⊎_elim
        (λ (old : j < length w.blocks).
        let stays : (j < off / 504) ⊎ (last < j) → R (record { address = get_or w.blocks j 0; content = file_content f.qid (chunk 504 j (f'.bytes ++ w'.slack)) }) =
        λ out. inr (subst (λ c. Stands m (record { address = get_or w.blocks j 0; content = file_content f.qid c })) (sym (chunk_kept j old out)) (in_blocks_at (file_content f.qid) 504 (Stands m) w.blocks (f.bytes ++ w.slack) (all_left (Stands m) blocks_here indirect_blocks s.stand) j old), λ a q. absurd (omega arith)) in
        subst (λ a. R (record { address = a; content = file_content f.qid (chunk 504 j (f'.bytes ++ w'.slack)) })) (sym (get_or_append_left w.blocks (drop ni new) 0 j old))
        (⊎_elim
        (λ (below : j < off / 504). stays (inl below))
        (λ (from : off / 504 ≤ j).
        ⊎_elim (λ (above : last < j). stays (inr above)) (λ (to : j ≤ last). inl (touched (get_or w.blocks j 0) (touched_data j old from to))) (cases_lt last j))
        (cases_lt j (off / 504))))
        (λ (fresh : length w.blocks ≤ j).
        let i = j - length w.blocks in
        let c = count_at (drop ni new) i (omega (arith, length-append w.blocks (drop ni new))) in
        subst (λ a. R (record { address = a; content = file_content f.qid (chunk 504 j (f'.bytes ++ w'.slack)) })) (sym (get_or-append_right w.blocks (drop ni new) (length w.blocks) j 0 refl fresh))
        (inl (added (get_or (drop ni new) i 0) (omega (arith, count_parts (get_or (drop ni new) i 0) ni new)))))
        (cases_lt j (length w.blocks))

    indirect_rewritten : (j : ℕ) → j < length w'.indirect → R (block_at (indirect_content f.qid) 126 w'.indirect (drop 6 w'.blocks) j)
    indirect_rewritten j lt =
        ⊎_elim
        (λ (old : j < length w.indirect).
        subst (λ a. R (record { address = a; content = indirect_content f.qid (chunk 126 j (drop 6 w'.blocks)) })) (sym (get_or_append_left w.indirect (take ni new) 0 j old))
        (⊎_elim
        (λ (near : last < 6).
        let same = none_added near (omega arith) in
        subst (λ bs. R (record { address = get_or w.indirect j 0; content = indirect_content f.qid (chunk 126 j (drop 6 bs)) })) (sym same)
        (inr (
          in_blocks_at (indirect_content f.qid) 126 (Stands m) w.indirect (drop 6 w.blocks) (all_right (Stands m) blocks_here indirect_blocks s.stand) j old,
          λ a q.
              let far : 0 < count a (drop 6 w.blocks) = omega (arith, count_take a 126 (drop (126 * j) (drop 6 w.blocks)), count_parts a (126 * j) (drop 6 w.blocks)) in
              aside a (omega (arith, uses_file a k f w, count_parts a 6 w.blocks)) (far_untouched a (omega (arith, s.once a, uses_file a k f w)) near far),
        )))
        (λ (far : 6 ≤ last). inl (touched (get_or w.indirect j 0) (omega (arith, touched_indirect (get_or w.indirect j 0) far, count_at w.indirect j old))))
        (cases_lt last 6)))
        (λ (fresh : length w.indirect ≤ j).
        let i = j - length w.indirect in
        let c = count_at (take ni new) i (omega (arith, length-append w.indirect (take ni new))) in
        subst (λ a. R (record { address = a; content = indirect_content f.qid (chunk 126 j (drop 6 w'.blocks)) })) (sym (get_or-append_right w.indirect (take ni new) (length w.indirect) j 0 refl fresh))
        (inl (added (get_or (take ni new) i 0) (omega (arith, count_take (get_or (take ni new) i 0) ni new)))))
        (cases_lt j (length w.indirect))

    file_rewritten : AllByRecursion R (file_blocks f' w')
    file_rewritten =
        All-append R (in_blocks (file_content f.qid) 504 w'.blocks (f'.bytes ++ w'.slack)) (in_blocks (indirect_content f.qid) 126 w'.indirect (drop 6 w'.blocks))
        (all_in_blocks (file_content f.qid) 504 R w'.blocks (f'.bytes ++ w'.slack) data_rewritten)
        (all_in_blocks (indirect_content f.qid) 126 R w'.indirect (drop 6 w'.blocks) indirect_rewritten)

-- what the plain tree sees of it
abbrev written_place : ℕ → List ℕ → Place (Unit {0}) → Place (Unit {0})
written_place off input (flat free) = flat free
written_place off input (flat (file n f w)) = flat (file n (written off input f) w)
written_place off input (deep n d w c) = deep n d w c

written_erased : (t : StoredTree) (off : ℕ) (input new : List ℕ) (p : Place Stored) → erased (written_in t off input new p) ≡ written_place off input (erased p)
written_erased t off input new (flat free) = refl
written_erased t off input new (flat (file n f w)) = refl
written_erased t off input new (deep n d w c) = refl

module _ (m : BlockMap) (limit : ℕ) (t : StoredTree) (r : Represents m limit t) (path : List ℕ) (off : ℕ) (input : List ℕ) (u : Tree) (accepted : tree.write path off input (erase t) ≡ Ok u) (formed : WellFormed u) where
  abbrev at_it : Written path off input (erase t) u
  at_it = accepted_write path off input (erase t) u accepted

  abbrev names : List (List ℕ)
  names = at_it.ns ++ at_it.n ∷ []

  abbrev node : Place (Unit {0})
  node = flat (file at_it.label at_it.before tt)

  not_free : node ≡ flat free → ⊥
  not_free e = false≢true cc

  in_dir : Home at_it.ns at_it.n (erase t) node
  in_dir = home at_it.ns at_it.n (erase t) node at_it.is_at not_free

  label_is : at_it.label ≡ at_it.n
  label_is = sym (same_name _ _ (ap (has_name at_it.n) (sym in_dir.there) ∙ (found_within at_it.n in_dir.places (λ e. not_free (sym in_dir.there ∙ e))).1))

  seen : (new : List ℕ) → erased (alter names (written_in t off input new) (root_place t)) ≡ plain.root_place u
  seen new =
      let c = in_dir.places in
      let here : written_place off input (at c (find at_it.n c)) ≡ flat (file at_it.n (written off input at_it.before) tt) =
      ap (written_place off input) in_dir.there ∙ ap (λ n. flat (file n (written off input at_it.before) tt)) label_is in
      map_alter (λ w. tt) names (written_in t off input new) (written_place off input) (written_erased t off input new) (root_place t)
      ∙ alter_append at_it.ns (at_it.n ∷ []) (written_place off input) (plain.root_place (erase t))
      ∙ alter_modify (alter (at_it.n ∷ []) (written_place off input)) (put_file at_it.n (written off input at_it.before)) in_dir.name in_dir.head tt c
      (ap (λ q. deep in_dir.name in_dir.head tt (set_at c (find at_it.n c) q)) here)
      at_it.ns slash t.root tt (erase t).places in_dir.leads
      ∙ ap plain.root_place (sym at_it.is)

  -- the file with its note
  module _ (k : List ℕ) (f : File) (w : Stored) (is : walk names (root_place t) ≡ flat (file k f w)) (new : List ℕ) (ok : Addable limit t (new_indirect t off input f w + (blocks_needed t off input f - length w.blocks)) new) where
    found : walk names (root_place t) ≡ flat free → ⊥
    found e = let z : flat (file k f w) ≡ flat free = sym is ∙ e in false≢true cc

    here : Sound m (flat (file k f w))
    here = subst (Sound m) is (sound_walk m (slash ∷ names) (whole t) (record { fits = r.fits; once = r.once; stand = r.stand }) found)

    same_file : flat (file k f tt) ≡ node
    same_file = ap erased (sym is) ∙ erased_walk t names ∙ at_it.is_at

    may : Fine off input f
    may = let e = same_file in let e' : at_it.before ≡ f = cc in fine off input f (ap (writable off input) (sym e') ∙ at_it.fits)

    short : length f.bytes ≤ 66528
    short =
        let tidy = r.formed.tidy in
        let dir = tidy_walk at_it.ns slash t.root (erase t).places in_dir.name in_dir.head in_dir.places in_dir.leads tidy.here tidy.below in
        (subst TidyPlace (in_dir.there ∙ sym same_file) (tidy_at in_dir.places (find at_it.n in_dir.places) dir.1)).1

    abbrev extra : List ℕ
    extra = written_blocks t off input w

    abbrev l : List ℕ
    l = (trail_to t names ++ extra) ++ new

    record Counts (a : ℕ) : Type 0 where
      same : uses a (place_blocks (walk names (root_place t))) ≡ uses a (place_blocks (flat (file k f w)))
      way : count a (trail_to t names) + uses a (place_blocks (walk names (root_place t))) ≤ uses a (blocks_of t)
      alone : uses a (blocks_of t) ≤ 1
      all : count a l ≡ count a (trail_to t names) + count a extra + count a new

    counts : (a : ℕ) → Counts a
    counts a = record {
      same = ap (λ q. uses a (place_blocks q)) is;
      way = uses_trail a (slash ∷ names) (whole t) r.fits found;
      alone = r.once a;
      all = omega (arith, count_append a (trail_to t names ++ extra) new, count_append a (trail_to t names) extra);
    }

    write_at_lem : Done m limit t (write_plan t off input names (flat (file k f w))) new u
    write_at_lem =
        let is' : written_in t off input new (walk names (root_place t)) ≡ flat (file k (written off input f) (grown t off input f w new)) = ap (written_in t off input new) is in
        done m limit t r names (written_in t off input) t.next_qid extra [] (new_indirect t off input f w + (blocks_needed t off input f - length w.blocks)) new ok u
        (record {
          found = found;
          same = root_whole t names (written_in t off input new) t.next_qid u (seen new);
          blocks = λ a. omega (arith, counts a, ap (λ q. uses a (place_blocks q)) is', grown_uses t off input f w new here.fits short may ok.many a k);
          fits = subst PlaceFits (sym is') (grown_fits t off input f w new here.fits short may ok.many);
          own = λ a h. (omega (arith, counts a, uses_file a k f w, written_own t off input f w new here.fits short may ok.many a), refl);
          rewritten = subst (λ q. AllByRecursion (Rewritten m l) (place_blocks q)) (sym is')
              (file_rewritten t off input f w new here.fits short may ok.many m l k here (λ a h. omega (arith, counts a)) (λ a h. omega (arith, counts a))
              (λ a h z. omega (arith, counts a, z, ⊎_elim (λ y. y) (λ y. absurd (omega (arith, ok.unused a y, counts a))) (zero_or (count a new)))));
        })
        (root_erased t t.next_qid (alter names (written_in t off input new) (root_place t)) u (seen new) (ap (λ v. v.next_qid) at_it.is))
        formed (root_top t t.next_qid (alter names (written_in t off input new) (root_place t)))

  -- the plan at the names
  write_on_lem : (p : Place Stored) → walk names (root_place t) ≡ p → (new : List ℕ) → Addable limit t (write_plan t off input names p).added new → Done m limit t (write_plan t off input names p) new u
  write_on_lem (flat free) is new ok = absurd (not_free (sym (ap erased (sym is) ∙ erased_walk t names ∙ at_it.is_at)))
  write_on_lem (flat (file k f w)) is new ok = write_at_lem k f w is new ok
  write_on_lem (deep k d w c) is new ok =
      let z : deep k d tt (Rattle.trees.specs.Stored.map_places (λ w. tt) c) ≡ node = ap erased (sym is) ∙ erased_walk t names ∙ at_it.is_at in
      absurd (false≢true cc)

  pub write_done : (new : List ℕ) → Addable limit t (plan_of t (write path off input)).added new → Done m limit t (plan_of t (write path off input)) new u
  write_done =
      on_names_lem t (λ p. (new : List ℕ) → Addable limit t p.added new → Done m limit t p new u) (λ n ns. write_plan t off input (n ∷ ns) (walk (n ∷ ns) (root_place t)))
      (path_of path) at_it.ns at_it.n at_it.path_is
      (λ x xs e. subst (λ ns. (new : List ℕ) → Addable limit t (write_plan t off input ns (walk ns (root_place t))).added new → Done m limit t (write_plan t off input ns (walk ns (root_place t))) new u) (sym e) (write_on_lem (walk names (root_place t)) refl))
