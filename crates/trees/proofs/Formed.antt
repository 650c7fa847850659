-- Every change of a plain tree leaves one that the layouts have room for.
use Rattle.std.proofs.Common.{◌≡◌, ℕ, zero, suc, ◌+◌, ◌^◌, ◌<◌, ◌≤◌, max, Bool, true, false, cond, eqb, ltb, List, [], ◌∷◌, ◌++◌, length, Some, None, Ok, Err, Option, Result, sym, refl, ap, subst, arith}
use Rattle.std.specs.Str.{bytes_eq}
use Rattle.std.proofs.lemmas.List.{length-append}
use Rattle.std.proofs.lemmas.Bool.{eq-eqb, false≢true}
use Rattle.plain.specs.Names.{is_name}
use Rattle.plain.specs.Paths.{path_of, front, final}
use Rattle.plain.specs.Trees.{File, free, file, Places, end, leaf, dir, Place, flat, deep, put, size, at, set_at, is_free, first_free, find, named, used, frees, append, walk, modify, Tree, Plain, root_place}
use Rattle.plain.specs.Operations.{make_in, make_at, make_on, inside, new_node, make, write, remove, written, put_file, remove_in}
use Rattle.plain.specs.Laws.{Tidy}
use Rattle.plain.specs.Histories as call
use Rattle.plain.specs.Books.{changed}
use Rattle.plain.proofs.Passing.{last_passes}
use Rattle.plain.proofs.Pieces.{path_is}
use Rattle.plain.proofs.MakeLaw.{accepted_make, made_tidy}
use Rattle.plain.proofs.WriteLaw.{accepted_write, wrote_tidy}
use Rattle.plain.proofs.RemoveLaw.{accepted_remove, removed_tidy}
use Rattle.trees.specs.Plans.{with_room, with_node}
use Rattle.trees.specs.Represents.{levels, LeafNumbered, Numbered, WellFormed}

module _ {W : Type 0} where
  -- how many names follow one another from a place down
  abbrev pub place_levels : Place W → ℕ
  place_levels (flat l) = cond (is_free l) 0 1
  place_levels (deep n d w c) = suc (levels c)

  levels_put : (p : Place W) (k : Places W) → levels (put p k) ≡ max (place_levels p) (levels k)
  levels_put (flat l) k = refl
  levels_put (deep n d w c) k = refl

  pub levels_set : (c : Places W) (i : ℕ) (p : Place W) → levels (set_at c i p) ≤ max (place_levels p) (levels c)
  levels_set end i p = omega arith
  levels_set (leaf l k) zero p = omega (arith, levels_put p k)
  levels_set (leaf l k) (suc i) p = omega (arith, levels_set k i p)
  levels_set (dir n d w c k) zero p = omega (arith, levels_put p k)
  levels_set (dir n d w c k) (suc i) p = omega (arith, levels_set k i p)

  -- f is done in the directory that names lead to; its places then have at most as many levels as they had, or one
  levels_modify : (f : Places W → Places W) → ((c : Places W) → levels (f c) ≤ max 1 (levels c)) →
      (ns : List (List ℕ)) (c : Places W) → levels (modify ns f c) ≤ max (suc (length ns)) (levels c)
  levels_modify f h [] c = omega (arith, h c)
  levels_modify f h (n ∷ ns) end = omega arith
  levels_modify f h (n ∷ ns) (leaf l k) = omega (arith, levels_modify f h (n ∷ ns) k)
  levels_modify f h (n ∷ ns) (dir m d w c k) = by (bytes_eq n m) (levels_modify f h ns c) (levels_modify f h (n ∷ ns) k)
    where
      by : (b : Bool) → levels (modify ns f c) ≤ max (suc (length ns)) (levels c) → levels (modify (n ∷ ns) f k) ≤ max (suc (length (n ∷ ns))) (levels k) →
          levels (cond b (dir m d w (modify ns f c) k) (dir m d w c (modify (n ∷ ns) f k))) ≤ max (suc (length (n ∷ ns))) (levels (dir m d w c k))
      by true p q = omega arith
      by false p q = omega arith

module _ {W : Type 0} (next : ℕ) where
  abbrev pub PlaceNumbered : Place W → Type 0
  PlaceNumbered (flat l) = LeafNumbered next l
  PlaceNumbered (deep n d w c) = (d.qid < next) × (d.version < 2 ^ 32) × Numbered next c

  pub numbered_at : (c : Places W) (i : ℕ) → Numbered next c → PlaceNumbered (at c i)
  numbered_at end i h = tt
  numbered_at (leaf l k) zero h = h.0
  numbered_at (leaf l k) (suc i) h = numbered_at k i h.1
  numbered_at (dir n d w c k) zero h = (h.0, h.1, h.2)
  numbered_at (dir n d w c k) (suc i) h = numbered_at k i h.3

  numbered_walk : (ns : List (List ℕ)) (p : Place W) → PlaceNumbered p → PlaceNumbered (walk ns p)
  numbered_walk [] p h = h
  numbered_walk (n ∷ ns) (flat l) h = numbered_walk ns (flat free) tt
  numbered_walk (n ∷ ns) (deep m d w c) h = numbered_walk ns (at c (find n c)) (numbered_at c (find n c) h.2)

  numbered_put : (p : Place W) (k : Places W) → PlaceNumbered p → Numbered next k → Numbered next (put p k)
  numbered_put (flat l) k p h = (p, h)
  numbered_put (deep n d w c) k p h = (p.0, p.1, p.2, h)

  pub numbered_set : (c : Places W) (i : ℕ) (p : Place W) → PlaceNumbered p → Numbered next c → Numbered next (set_at c i p)
  numbered_set end i p q h = tt
  numbered_set (leaf l k) zero p q h = numbered_put p k q h.1
  numbered_set (leaf l k) (suc i) p q h = (h.0, numbered_set k i p q h.1)
  numbered_set (dir n d w c k) zero p q h = numbered_put p k q h.3
  numbered_set (dir n d w c k) (suc i) p q h = (h.0, h.1, h.2, numbered_set k i p q h.3)

  numbered_modify : (f : Places W → Places W) → ((c : Places W) → Numbered next c → Numbered next (f c)) →
      (ns : List (List ℕ)) (c : Places W) → Numbered next c → Numbered next (modify ns f c)
  numbered_modify f g [] c h = g c h
  numbered_modify f g (n ∷ ns) end h = tt
  numbered_modify f g (n ∷ ns) (leaf l k) h = (h.0, numbered_modify f g (n ∷ ns) k h.1)
  numbered_modify f g (n ∷ ns) (dir m d w c k) h =
      elim (bytes_eq n m) as (λ b. Numbered next (cond b (dir m d w (modify ns f c) k) (dir m d w c (modify (n ∷ ns) f k))))
      [ true ↦ (h.0, h.1, numbered_modify f g ns c h.2, h.3) | false ↦ (h.0, h.1, h.2, numbered_modify f g (n ∷ ns) k h.3) ]

-- numbers below a bound are below a greater one
numbered_more : {W : Type 0} (next next' : ℕ) → next ≤ next' → (c : Places W) → Numbered next c → Numbered next' c
numbered_more next next' le end h = tt
numbered_more next next' le (leaf free k) h = (tt, numbered_more next next' le k h.1)
numbered_more next next' le (leaf (file n f w) k) h = ((omega arith, h.0.1), numbered_more next next' le k h.1)
numbered_more next next' le (dir n d w c k) h = (omega arith, h.1, numbered_more next next' le c h.2, numbered_more next next' le k h.3)

-- a directory with room made, and with a new node
module _ {W : Type 0} where
  levels_frees : (n : ℕ) (c : Places W) → levels (append c (frees n)) ≡ levels c
  levels_frees zero end = refl
  levels_frees (suc n) end = omega (arith, levels_frees n end)
  levels_frees n (leaf l k) = ap (max (cond (is_free l) 0 1)) (levels_frees n k)
  levels_frees n (dir m d w c k) = ap (max (suc (levels c))) (levels_frees n k)

  numbered_frees : (next n : ℕ) (c : Places W) → Numbered next c → Numbered next (append c (frees n))
  numbered_frees next zero end h = tt
  numbered_frees next (suc n) end h = (tt, numbered_frees next n end tt)
  numbered_frees next n (leaf l k) h = (h.0, numbered_frees next n k h.1)
  numbered_frees next n (dir m d w c k) h = (h.0, h.1, h.2, numbered_frees next n k h.3)

  room_is : (P : Places W → Type 0) (c : Places W) → P c → P (append c (frees 7)) → P (with_room c)
  room_is P c h k = elim (ltb (first_free c) (size c)) as (λ b. P (cond b c (append c (frees 7)))) [ true ↦ h | false ↦ k ]

  levels_make : (x : Place W) (c : Places W) → levels (with_node x c) ≤ max (place_levels x) (levels c)
  levels_make x c =
      omega (arith, levels_set (with_room c) (first_free (with_room c)) x, room_is (λ k. levels k ≡ levels c) c refl (levels_frees 7 c))

  numbered_make : (next : ℕ) (x : Place W) (c : Places W) → PlaceNumbered next x → Numbered next c → Numbered next (with_node x c)
  numbered_make next x c p h = numbered_set next (with_room c) (first_free (with_room c)) x p (room_is (Numbered next) c h (numbered_frees next 7 c h))

-- what a tree keeps when a call changes the places of the directory that has the last name of a path
formed_inside : (path : List ℕ) (ns : List (List ℕ)) (n : List ℕ) (f : Plain → Plain) (next : ℕ) (t u : Tree) →
    path_of path ≡ Some (ns ++ n ∷ []) → u ≡ inside ns f next t → Tidy u → WellFormed t →
    ((c : Plain) → levels (f c) ≤ max 1 (levels c)) → t.next_qid ≤ next → next < 2 ^ 32 → ((c : Plain) → Numbered next c → Numbered next (f c)) →
    WellFormed u
formed_inside path ns n f next t u names_are is tidy w grows le few numbers =
    subst WellFormed (sym is)
    (record {
      tidy = subst Tidy is tidy;
      levels =
          let h = w.levels in
          let short = (path_is path (ns ++ n ∷ []) names_are).few in
          omega (arith, levels_modify f grows ns t.places, h, short, length-append ns (n ∷ []));
      numbered = numbered_modify next f numbers ns t.places (numbered_more t.next_qid next le t.places w.numbered);
      root = w.root;
      version = w.version;
      next = let h = w.next.0 in (omega arith, few);
    })

path_name : (path : List ℕ) (ns : List (List ℕ)) (n : List ℕ) → path_of path ≡ Some (ns ++ n ∷ []) → is_name n ≡ true
path_name path ns n is = last_passes is_name ns n (path_is path (ns ++ n ∷ []) is).legal

new_levels : (is_dir : Bool) (n : List ℕ) (q : ℕ) → place_levels (new_node is_dir n q) ≡ 1
new_levels true n q = refl
new_levels false n q = refl

new_numbered : (is_dir : Bool) (n : List ℕ) (q : ℕ) → PlaceNumbered (q + 1) (new_node is_dir n q)
new_numbered true n q = (omega arith, omega arith, tt)
new_numbered false n q = (omega arith, omega arith)

-- a make that is accepted had a qid to give
qid_left : (is_dir : Bool) (path : List ℕ) (t u : Tree) → make is_dir path t ≡ Ok u → t.next_qid ≡ 4294967295 → ⊥
qid_left is_dir path t u ok last = go (path_of path) ok
  where
    by : (v : Result Tree ℕ) (present full given : Bool) → given ≡ true → cond present (Err 16) (cond full (Err 18) (cond given (Err 20) v)) ≡ Ok u → ⊥
    by v true full given e ok = false≢true cc
    by v false true given e ok = false≢true cc
    by v false false true e ok = false≢true cc
    by v false false false e ok = false≢true e

    place : (ns : List (List ℕ)) (n : List ℕ) (p : Place (Unit {0})) → make_at is_dir ns n t p ≡ Ok u → ⊥
    place ns n (flat l) ok = false≢true cc
    place ns n (deep m d w c) ok = by _ (ltb 0 (named n c)) (eqb (used c) 42) (eqb t.next_qid 4294967295) (eq-eqb _ _ last) ok

    go : (o : Option (List (List ℕ))) → make_on is_dir o t ≡ Ok u → ⊥
    go None ok = false≢true cc
    go (Some []) ok = false≢true cc
    go (Some (n ∷ ns)) ok = place (front n ns) (final n ns) (walk (front n ns) (root_place t)) ok

formed_make : (is_dir : Bool) (path : List ℕ) (t u : Tree) → WellFormed t → make is_dir path t ≡ Ok u → WellFormed u
formed_make is_dir path t u h ok =
    let w = accepted_make is_dir path t u ok in
    let tidy = made_tidy is_dir path t u w h.tidy (path_name path w.ns w.n w.path_is) in
    let x = new_node is_dir w.n t.next_qid in
    let room : t.next_qid + 1 < 2 ^ 32 = let few = h.next.1 in omega (arith, few, qid_left is_dir path t u ok) in
    formed_inside path w.ns w.n (make_in x) (t.next_qid + 1) t u w.path_is w.is tidy h
    (λ c. omega (arith, levels_make x c, new_levels is_dir w.n t.next_qid)) (omega arith) room
    (λ c. numbered_make (t.next_qid + 1) x c (new_numbered is_dir w.n t.next_qid))

-- a file that names lead to has a qid below the next one
file_numbered : (t : Tree) → WellFormed t → (ns : List (List ℕ)) (n : List ℕ) (f : File) → walk ns (root_place t) ≡ flat (file n f tt) → f.qid < t.next_qid
file_numbered t h ns n f is =
    let root : PlaceNumbered t.next_qid (root_place t) = (let a = h.next.0 in let b = h.root in omega arith, h.version, h.numbered) in
    (subst (PlaceNumbered t.next_qid) is (numbered_walk t.next_qid ns (root_place t) root)).0

formed_write : (path : List ℕ) (off : ℕ) (input : List ℕ) (t u : Tree) → WellFormed t → write path off input t ≡ Ok u → WellFormed u
formed_write path off input t u h ok =
    let w = accepted_write path off input t u ok in
    let new = written off input w.before in
    let x : Place (Unit {0}) = flat (file w.n new tt) in
    let given = file_numbered t h (w.ns ++ w.n ∷ []) w.label w.before w.is_at in
    formed_inside path w.ns w.n (put_file w.n new) t.next_qid t u w.path_is w.is (wrote_tidy path off input t u w h.tidy) h
    (λ c. levels_set c (find w.n c) x) (omega arith) h.next.1
    (λ c. numbered_set t.next_qid c (find w.n c) x (given, omega arith))

formed_remove : (path : List ℕ) (t u : Tree) → WellFormed t → remove path t ≡ Ok u → WellFormed u
formed_remove path t u h ok =
    let w = accepted_remove path t u ok in
    let tidy = removed_tidy path t u w h.tidy (path_name path w.ns w.n w.path_is) in
    formed_inside path w.ns w.n (remove_in w.n) t.next_qid t u w.path_is w.is tidy h
    (λ c. omega (arith, levels_set c (find w.n c) (flat free))) (omega arith) h.next.1
    (λ c. numbered_set t.next_qid c (find w.n c) (flat free) tt)

pub formed_kept : (c : call.Change) (t u : Tree) → WellFormed t → changed c t ≡ Ok u → WellFormed u
formed_kept (call.mkfile path) t u h ok = formed_make false path t u h ok
formed_kept (call.mkdir path) t u h ok = formed_make true path t u h ok
formed_kept (call.write path off input) t u h ok = formed_write path off input t u h ok
formed_kept (call.remove path) t u h ok = formed_remove path t u h ok
