-- One place of a directory changes: which blocks that leaves as they were, and what they name.
use Rattle.std.proofs.Common.{◌≡◌, ℕ, zero, suc, ◌+◌, ◌-◌, ◌*◌, ◌/◌, ◌<◌, ◌≤◌, Bool, true, false, cond, eqb, ◌≢◌, ◌⊎◌, List, [], ◌∷◌, ◌++◌, length, get_or, take, drop, set, sym, refl, ap, ◌∙◌, subst, inl, inr, ⊎_elim, arith, drop-set-lt}
use lib.Seq.{drop-set-add, take-set-le}
use Rattle.std.specs.List.{flat_map, AllByRecursion}
use Rattle.std.proofs.ByRecursion.{All-append, All-set, All-weaker}
use Rattle.std.proofs.lemmas.List.{set-set}
use Rattle.std.proofs.lemmas.Bool.{cases_eq, cases_lt}
use Rattle.plain.specs.Trees.{Dir, Leaf, free, file, Places, end, leaf, dir, Place, flat, deep, set_at}
use Rattle.layout.specs.Entries.{Entry}
use Rattle.trees.specs.Stored.{Stored, file_content, indirect_content, directory_content, entry_pointers, pointers, Block, leaf_entry, dir_entry, place_entry, entries, leaf_blocks, own_blocks, row_blocks, place_blocks, in_blocks, count, uses}
use Rattle.trees.specs.Represents.{BlockMap, Stands}
use Rattle.trees.specs.Plans.{home_of}
use Rattle.trees.proofs.Lists.{count_append, count_take, count_parts, uses_all, all_both, all_interleaved, chunk, block_at, all_in_blocks}
use Rattle.trees.proofs.Nodes.{entries_set, row_set, uses_file, uses_deep}

-- a change of one element leaves the other chunks
pub chunk_set : {X : Type 0} (n j i : ℕ) (xs : List X) (x : X) → ((n * j ≤ i) × (i < n * j + n) → ⊥) → chunk n j (set xs i x) ≡ chunk n j xs
chunk_set n j i xs x h =
    ⊎_elim
    (λ (lt : i < n * j). ap (take n) (drop-set-lt (n * j) xs i x lt))
    (λ (ge : n * j ≤ i).
    let s : ℕ = i - n * j in
    let is : i ≡ n * j + s = omega arith in
    ap (λ k. take n (drop (n * j) (set xs k x))) is ∙ ap (take n) (drop-set-add (n * j) xs s x) ∙ take-set-le n (drop (n * j) xs) s x (⊎_elim (λ (lt : s < n). absurd (h (ge, omega arith))) (λ le. le) (cases_lt s n)))
    (cases_lt i (n * j))

-- What blocks name are blocks of the same node or below it.
count_drop : (a n : ℕ) (l : List ℕ) → count a (drop n l) ≤ count a l
count_drop a n l = omega (arith, count_parts a n l)

first_pointer : (a : ℕ) (l : List ℕ) → count a (cond (eqb (get_or l 0 0) 0) [] (get_or l 0 0 ∷ [])) ≤ count a l
first_pointer a [] = omega arith
first_pointer a (x ∷ l) = by (eqb x 0)
  where
    by : (b : Bool) → count a (cond b [] (x ∷ [])) ≤ count a (x ∷ l)
    by true = omega arith
    by false = omega arith

pub entry_pointers_lem : (a : ℕ) (p : Place Stored) → count a (entry_pointers (place_entry p)) ≤ uses a (place_blocks p)
entry_pointers_lem a (flat free) = omega arith
entry_pointers_lem a (flat (file n f w)) =
    omega (arith, uses_file a n f w, count_append a (take 6 w.blocks) (cond (eqb (get_or w.indirect 0 0) 0) [] (get_or w.indirect 0 0 ∷ [])), count_take a 6 w.blocks, first_pointer a w.indirect)
entry_pointers_lem a (deep n d w c) = omega (arith, uses_deep a n d w c, count_append a w.blocks [])

abbrev pub all_pointers : List Entry → List ℕ
all_pointers es = flat_map entry_pointers es

pointers_parts : (a n : ℕ) (es : List Entry) → count a (all_pointers (take n es)) + count a (all_pointers (drop n es)) ≡ count a (all_pointers es)
pointers_parts a zero es = omega arith
pointers_parts a (suc n) [] = refl
pointers_parts a (suc n) (e ∷ es) =
    omega (arith, pointers_parts a n es, count_append a (entry_pointers e) (all_pointers (take n es)), count_append a (entry_pointers e) (all_pointers es))

pub chunk_pointers : (a n j : ℕ) (es : List Entry) → count a (all_pointers (chunk n j es)) ≤ count a (all_pointers es)
chunk_pointers a n j es = omega (arith, pointers_parts a n (drop (n * j) es), pointers_parts a (n * j) es)

pub row_pointers : (a : ℕ) (c : Places Stored) → count a (all_pointers (entries c)) ≤ uses_all a (row_blocks c)
row_pointers a end = omega arith
row_pointers a (leaf l k) = omega (arith, row_pointers a k, entry_pointers_lem a (flat l), count_append a (entry_pointers (leaf_entry l)) (all_pointers (entries k)))
row_pointers a (dir n d w c k) = omega (arith, row_pointers a k, entry_pointers_lem a (deep n d w c), count_append a (entry_pointers (dir_entry n d w)) (all_pointers (entries k)))

-- each block of bs names only addresses that are counted
abbrev pub NamesWithin : (ℕ → ℕ) → Block → Type 0
NamesWithin f b = (a : ℕ) → count a (pointers b.content) ≤ f a

widen : (f g : ℕ → ℕ) (bs : List Block) → ((a : ℕ) → f a ≤ g a) → AllByRecursion (NamesWithin f) bs → AllByRecursion (NamesWithin g) bs
widen f g bs le h = All-weaker (NamesWithin f) (NamesWithin g) (λ b k a. omega (arith, k a, le a)) bs h

widen_all : (f g : ℕ → ℕ) (ls : List (List Block)) → ((a : ℕ) → f a ≤ g a) → AllByRecursion (AllByRecursion (NamesWithin f)) ls → AllByRecursion (AllByRecursion (NamesWithin g)) ls
widen_all f g ls le h = All-weaker (AllByRecursion (NamesWithin f)) (AllByRecursion (NamesWithin g)) (λ bs k. widen f g bs le k) ls h

leaf_names : (l : Leaf Stored) → AllByRecursion (NamesWithin (λ a. uses a (leaf_blocks l))) (leaf_blocks l)
leaf_names free = tt
leaf_names (file n f w) =
    All-append (NamesWithin (λ a. uses a (leaf_blocks (file n f w)))) (in_blocks (file_content f.qid) 504 w.blocks (f.bytes ++ w.slack)) (in_blocks (indirect_content f.qid) 126 w.indirect (drop 6 w.blocks))
    (all_in_blocks (file_content f.qid) 504 (NamesWithin (λ a. uses a (leaf_blocks (file n f w)))) w.blocks (f.bytes ++ w.slack) (λ j lt a. omega arith))
    (all_in_blocks (indirect_content f.qid) 126 (NamesWithin (λ a. uses a (leaf_blocks (file n f w)))) w.indirect (drop 6 w.blocks) (λ j lt a.
    omega (arith, uses_file a n f w, count_take a 126 (drop (126 * j) (drop 6 w.blocks)), count_drop a (126 * j) (drop 6 w.blocks), count_drop a 6 w.blocks)))

own_names : (d : Dir) (w : Stored) (c : Places Stored) → AllByRecursion (NamesWithin (λ a. uses_all a (row_blocks c))) (own_blocks d w c)
own_names d w c =
    all_in_blocks (directory_content d.qid) 7 (NamesWithin (λ a. uses_all a (row_blocks c))) w.blocks (entries c) (λ j lt a. omega (arith, chunk_pointers a 7 j (entries c), row_pointers a c))

deep_names : (n : List ℕ) (d : Dir) (w : Stored) (c : Places Stored) → AllByRecursion (AllByRecursion (NamesWithin (λ a. uses_all a (row_blocks c)))) (row_blocks c) →
    AllByRecursion (NamesWithin (λ a. uses a (place_blocks (deep n d w c)))) (place_blocks (deep n d w c))
deep_names n d w c h =
    widen (λ a. uses_all a (row_blocks c)) (λ a. uses a (place_blocks (deep n d w c))) (place_blocks (deep n d w c)) (λ a. omega (arith, uses_deep a n d w c))
    (all_interleaved (NamesWithin (λ a. uses_all a (row_blocks c))) 7 (own_blocks d w c) (row_blocks c) (own_names d w c) h)

pub row_names : (c : Places Stored) → AllByRecursion (AllByRecursion (NamesWithin (λ a. uses_all a (row_blocks c)))) (row_blocks c)
row_names end = tt
row_names (leaf l k) = (
  widen (λ a. uses a (leaf_blocks l)) (λ a. uses_all a (row_blocks (leaf l k))) (leaf_blocks l) (λ a. omega arith) (leaf_names l),
  widen_all (λ a. uses_all a (row_blocks k)) (λ a. uses_all a (row_blocks (leaf l k))) (row_blocks k) (λ a. omega arith) (row_names k),
)
row_names (dir n d w c k) = (
  widen (λ a. uses a (place_blocks (deep n d w c))) (λ a. uses_all a (row_blocks (dir n d w c k))) (place_blocks (deep n d w c)) (λ a. omega arith) (deep_names n d w c (row_names c)),
  widen_all (λ a. uses_all a (row_blocks k)) (λ a. uses_all a (row_blocks (dir n d w c k))) (row_blocks k) (λ a. omega arith) (row_names k),
)

-- A block that is rewritten is in the list; any other stands as it did, and names none that is rewritten.
abbrev pub Untouched : BlockMap → List ℕ → Block → Type 0
Untouched m l b = Stands m b × ((a : ℕ) → 0 < count a (pointers b.content) → count a l ≡ 0)

abbrev pub Rewritten : BlockMap → List ℕ → Block → Type 0
Rewritten m l b = (0 < count b.address l) ⊎ Untouched m l b

module _ (m : BlockMap) (l : List ℕ) where
  -- blocks of places that are not touched
  pub rows_untouched : (c : Places Stored) → ((a : ℕ) → 0 < uses_all a (row_blocks c) → count a l ≡ 0) → AllByRecursion (AllByRecursion (Stands m)) (row_blocks c) → AllByRecursion (AllByRecursion (Rewritten m l)) (row_blocks c)
  rows_untouched c aside h =
      All-weaker (λ bs. AllByRecursion (Stands m) bs × AllByRecursion (NamesWithin (λ a. uses_all a (row_blocks c))) bs) (AllByRecursion (Rewritten m l))
      (λ bs k. All-weaker (λ b. Stands m b × NamesWithin (λ a. uses_all a (row_blocks c)) b) (Rewritten m l) (λ b s. inr (s.0, λ a p. aside a (omega (arith, s.1 a)))) bs (all_both (Stands m) (NamesWithin (λ a. uses_all a (row_blocks c))) bs k.0 k.1))
      (row_blocks c) (all_both (AllByRecursion (Stands m)) (AllByRecursion (NamesWithin (λ a. uses_all a (row_blocks c)))) (row_blocks c) h (row_names c))

  -- Place i of a directory becomes p. Its block is rewritten; the directory's other blocks and its other places stay.
  module _ (n : List ℕ) (d : Dir) (w : Stored) (c : Places Stored) (i : ℕ) (p : Place Stored) where
    -- the other places
    abbrev pub rest : Places Stored
    rest = set_at c i (flat free)

    others : entries (set_at c i p) ≡ set (entries rest) i (place_entry p)
    others = entries_set c i p ∙ sym (ap (λ es. set es i (place_entry p)) (entries_set c i (flat free)) ∙ set-set (entries c) i (place_entry (flat free)) (place_entry p))

    pub place_rewritten : 0 < count (home_of w i) l →
        ((j : ℕ) → j < length w.blocks → j ≢ i / 7 → Stands m (block_at (directory_content d.qid) 7 w.blocks (entries c) j)) →
        AllByRecursion (AllByRecursion (Stands m)) (row_blocks rest) → ((a : ℕ) → 0 < uses_all a (row_blocks rest) → count a l ≡ 0) →
        AllByRecursion (Rewritten m l) (place_blocks p) → AllByRecursion (Rewritten m l) (place_blocks (deep n d w (set_at c i p)))
    place_rewritten hot own rows aside new =
        all_interleaved (Rewritten m l) 7 (own_blocks d w (set_at c i p)) (row_blocks (set_at c i p))
        (all_in_blocks (directory_content d.qid) 7 (Rewritten m l) w.blocks (entries (set_at c i p)) (λ j lt.
        ⊎_elim
        (λ (e : j ≡ i / 7). inl (subst (λ k. 0 < count (get_or w.blocks k 0) l) (sym e) hot))
        (λ (ne : j ≢ i / 7).
        let not_there : (7 * j ≤ i) × (i < 7 * j + 7) → ⊥ = λ h. ne (omega arith) in
        let same : chunk 7 j (entries (set_at c i p)) ≡ chunk 7 j (entries c) = ap (chunk 7 j) (entries_set c i p) ∙ chunk_set 7 j i (entries c) (place_entry p) not_there in
        let bare : chunk 7 j (entries (set_at c i p)) ≡ chunk 7 j (entries rest) = ap (chunk 7 j) others ∙ chunk_set 7 j i (entries rest) (place_entry p) not_there in
        inr (
          subst (λ es. Stands m (record { address = get_or w.blocks j 0; content = directory_content d.qid es })) (sym same) (own j lt ne),
          λ a q. aside a (omega (arith, ap (λ es. count a (all_pointers es)) bare, chunk_pointers a 7 j (entries rest), row_pointers a rest)),
        ))
        (cases_eq j (i / 7))))
        (subst (AllByRecursion (AllByRecursion (Rewritten m l))) (sym (row_set c i p ∙ sym (ap (λ r. set r i (place_blocks p)) (row_set c i (flat free)) ∙ set-set (row_blocks c) i (place_blocks (flat free)) (place_blocks p))))
        (All-set (AllByRecursion (Rewritten m l)) (row_blocks rest) i (place_blocks p) new (rows_untouched rest aside rows)))
