-- An accepted make: into an empty place of a directory, or into a directory that grows by a block.
use Rattle.std.proofs.Common.{◌≡◌, ℕ, zero, suc, ◌+◌, ◌*◌, ◌/◌, ◌<◌, ◌≤◌, Bool, true, false, cond, ltb, ◌≢◌, List, [], ◌∷◌, ◌++◌, length, get_or, take, drop, Ok, sym, refl, ap, ◌∙◌, subst, ⊎_elim, arith, length-append}
use lib.Seq.{take-append-le, drop-append-le}
use Rattle.std.specs.List.{AllByRecursion}
use Rattle.std.proofs.ByRecursion.{All-set}
use Rattle.std.proofs.lemmas.List.{nil_from_length, append-nil, get_or_append_left, get_or-append_right, same_from_push, length-drop}
use Rattle.std.proofs.lemmas.Bool.{false≢true, cases_lt, ltb-true, ltb-false}
use Rattle.plain.specs.Paths.{path_of, front, final}
use Rattle.plain.specs.Trees as plain
use Rattle.plain.specs.Trees.{Dir, Leaf, free, file, Places, end, leaf, dir, Place, flat, deep, size, at, set_at, first_free, frees, append, walk, slash, Tree}
use Rattle.plain.specs.Operations as tree
use Rattle.plain.specs.Operations.{make_in, inside}
use Rattle.plain.proofs.Changes.{front_final}
use Rattle.plain.proofs.MakeLaw.{MadeAt, accepted_make}
use Rattle.trees.specs.Stored.{Stored, Block, directory_content, entries, own_blocks, row_blocks, place_blocks, map_places, map_place, StoredTree, root_place, whole, blocks_of, count, uses, erase}
use Rattle.trees.specs.Represents.{BlockMap, Stands, Fits, PlaceFits, WellFormed, Represents}
use Rattle.trees.specs.Plans.{Plan, home_of, trail_to, alter, altered, new_node, made_in, make_plan, on_path, with_room}
use Rattle.trees.specs.Theorems.{Addable, Done}
use Rattle.trees.proofs.Lists.{zero_or, one, one_same, count_append, count_at, uses_all, chunk, block_at, in_blocks_at}
use Rattle.trees.proofs.Nodes.{row_set, length_entries, uses_deep, uses_set, size_set, fits_set}
use Rattle.trees.proofs.Erased.{map_make, map_alter, alter_modify}
use Rattle.trees.proofs.Placed.{Rewritten, place_rewritten}
use Rattle.trees.proofs.Altered.{count_one, uses_trail, Sound, own_stand, rest_stand, rest_apart, sound_walk}
use Rattle.trees.proofs.Done.{Node, done}
use Rattle.trees.proofs.Roots.{erased, root_top, root_erased, root_whole, on_names_lem, erased_walk}

-- the new node has no blocks
new_blocks : (t : StoredTree) (is_dir : Bool) (n : List ℕ) → place_blocks (new_node t is_dir n) ≡ []
new_blocks t true n = refl
new_blocks t false n = refl

new_fits : (t : StoredTree) (is_dir : Bool) (n : List ℕ) → PlaceFits (new_node t is_dir n)
new_fits t true n = (record { blocks = refl; indirect = refl; slack = refl }, tt)
new_fits t false n = record { blocks = refl; indirect = refl; slack = refl }

new_erased : (t : StoredTree) (is_dir : Bool) (n : List ℕ) → erased (new_node t is_dir n) ≡ tree.new_node is_dir n t.next_qid
new_erased t true n = refl
new_erased t false n = refl

-- the first empty place
module _ {W : Type 0} where
  free_at : (c : Places W) → first_free c < size c → at c (first_free c) ≡ flat free
  free_at end h = absurd (omega arith)
  free_at (leaf free k) h = refl
  free_at (leaf (file n f w) k) h = free_at k (omega arith)
  free_at (dir n d w c k) h = free_at k (omega arith)

  free_added : (c : Places W) (k : ℕ) → size c ≤ first_free c → first_free (append c (frees (suc k))) ≡ size c
  free_added end k h = refl
  free_added (leaf free c) k h = absurd (omega arith)
  free_added (leaf (file n f w) c) k h = ap suc (free_added c k (omega arith))
  free_added (dir n d w e c) k h = ap suc (free_added c k (omega arith))

  size_added : (c : Places W) (k : ℕ) → size (append c (frees k)) ≡ size c + k
  size_added end zero = refl
  size_added end (suc k) = omega (arith, size_added end k)
  size_added (leaf l c) k = omega (arith, size_added c k)
  size_added (dir n d w e c) k = omega (arith, size_added c k)

-- empty places have no blocks, and what the places before them say stays
uses_added : (a : ℕ) (c : Places Stored) (k : ℕ) → uses_all a (row_blocks (append c (frees k))) ≡ uses_all a (row_blocks c)
uses_added a end zero = refl
uses_added a end (suc k) = omega (arith, uses_added a end k)
uses_added a (leaf l c) k = omega (arith, uses_added a c k)
uses_added a (dir n d w e c) k = omega (arith, uses_added a c k)

all_added : (P : List Block → Type 0) → P [] → (c : Places Stored) (k : ℕ) → AllByRecursion P (row_blocks c) → AllByRecursion P (row_blocks (append c (frees k)))
all_added P e end zero h = tt
all_added P e end (suc k) h = (e, all_added P e end k h)
all_added P e (leaf l c) k h = (h.0, all_added P e c k h.1)
all_added P e (dir n d w x c) k h = (h.0, all_added P e c k h.1)

fits_added : (c : Places Stored) (k : ℕ) → Fits c → Fits (append c (frees k))
fits_added end zero h = tt
fits_added end (suc k) h = (tt, fits_added end k h)
fits_added (leaf l c) k h = (h.0, fits_added c k h.1)
fits_added (dir n d w e c) k h = (h.0, h.1, fits_added c k h.2)

entries_added : (c e : Places Stored) → entries (append c e) ≡ entries c ++ entries e
entries_added end e = refl
entries_added (leaf l c) e = ap (λ es. Rattle.trees.specs.Stored.leaf_entry l ∷ es) (entries_added c e)
entries_added (dir n d w x c) e = ap (λ es. Rattle.trees.specs.Stored.dir_entry n d w ∷ es) (entries_added c e)

chunk_front : {X : Type 0} (n j : ℕ) (xs ys : List X) → n * j + n ≤ length xs → chunk n j (xs ++ ys) ≡ chunk n j xs
chunk_front n j xs ys h = ap (take n) (drop-append-le (n * j) xs ys (omega arith)) ∙ take-append-le n (drop (n * j) xs) ys (rw length-drop (omega arith))

-- The node x, which has no blocks, goes into the directory with the places c.
module _ (m : BlockMap) (l : List ℕ) (k : List ℕ) (d : Dir) (w : Stored) (c : Places Stored) (s : Sound m (deep k d w c)) (x : Place Stored) (none : place_blocks x ≡ []) where
  no_uses : (a : ℕ) → uses a (place_blocks x) ≡ 0
  no_uses a = ap (uses a) none

  no_rewrite : AllByRecursion (Rewritten m l) (place_blocks x)
  no_rewrite = subst (AllByRecursion (Rewritten m l)) (sym none) tt

  -- into an empty place
  module _ (lt : first_free c < size c) where
    abbrev i : ℕ
    i = first_free c

    pub room_uses : (a : ℕ) → uses a (place_blocks (deep k d w (set_at c i x))) ≡ uses a (place_blocks (deep k d w c))
    room_uses a = omega (arith, uses_deep a k d w (set_at c i x), uses_deep a k d w c, uses_set a c i x lt, no_uses a, ap (λ q. uses a (place_blocks q)) (free_at c lt))

    pub room_rewritten : 0 < count (home_of w i) l → ((a : ℕ) → count a w.blocks ≡ 0 → 0 < uses a (place_blocks (deep k d w c)) → count a l ≡ 0) →
        AllByRecursion (Rewritten m l) (place_blocks (deep k d w (set_at c i x)))
    room_rewritten home aside =
        place_rewritten m l k d w c i x home
        (λ j jl ne. in_blocks_at (directory_content d.qid) 7 (Stands m) w.blocks (entries c) (own_stand m k d w c s).0 j jl)
        (rest_stand m k d w c s i) (λ a h. let r = rest_apart m k d w c s i a lt h in aside a r.0 r.2) no_rewrite

  -- into a directory that has no empty place, with one block more
  module _ (full : size c ≤ first_free c) (new : List ℕ) (one_more : length new ≡ 1) where
    abbrev c⁺ : Places Stored
    c⁺ = append c (frees 7)

    abbrev w⁺ : Stored
    w⁺ = record { blocks = w.blocks ++ new; indirect = w.indirect; slack = w.slack }

    abbrev j⁺ : ℕ
    j⁺ = first_free c⁺

    at_end : j⁺ ≡ size c
    at_end = free_added c 6 full

    within : j⁺ < size c⁺
    within = omega (arith, at_end, size_added c 7)

    long : size c ≡ 7 * length w.blocks
    long = s.fits.0.blocks

    pub grown_uses : (a : ℕ) → uses a (place_blocks (deep k d w⁺ (set_at c⁺ j⁺ x))) ≡ uses a (place_blocks (deep k d w c)) + count a new
    grown_uses a =
        omega (arith, uses_deep a k d w⁺ (set_at c⁺ j⁺ x), uses_deep a k d w c, count_append a w.blocks new, uses_set a c⁺ j⁺ x within, uses_added a c 7, no_uses a, ap (λ q. uses a (place_blocks q)) (free_at c⁺ within))

    pub grown_fits : PlaceFits x → PlaceFits (deep k d w⁺ (set_at c⁺ j⁺ x))
    grown_fits h = (
      record { blocks = size_set c⁺ j⁺ x ∙ omega (arith, size_added c 7, long, length-append w.blocks new); indirect = s.fits.0.indirect; slack = s.fits.0.slack },
      fits_set c⁺ j⁺ x h (fits_added c 7 s.fits.1),
    )

    home_new : 0 < count (home_of w⁺ j⁺) new
    home_new =
        let block : j⁺ / 7 ≡ length w.blocks = omega (arith, at_end, long) in
        let there : home_of w⁺ j⁺ ≡ get_or new 0 0 = ap (λ b. get_or (w.blocks ++ new) b 0) block ∙ get_or-append_right w.blocks new (length w.blocks) (length w.blocks) 0 refl (omega arith) ∙ ap (λ b. get_or new b 0) (omega arith) in
        subst (λ a. 0 < count a new) (sym there) (count_at new 0 (omega arith))

    old_stand : (j : ℕ) → j < length w⁺.blocks → j ≢ j⁺ / 7 → Stands m (block_at (directory_content d.qid) 7 w⁺.blocks (entries c⁺) j)
    old_stand j lt ne =
        let lt' : j < length w.blocks = omega (arith, length-append w.blocks new, at_end, long, ⊎_elim (λ (y : j < length w.blocks). y) (λ (y : length w.blocks ≤ j). absurd (ne (omega (arith, length-append w.blocks new, at_end, long)))) (cases_lt j (length w.blocks))) in
        let es : chunk 7 j (entries c⁺) ≡ chunk 7 j (entries c) = ap (chunk 7 j) (entries_added c (frees 7)) ∙ chunk_front 7 j (entries c) (entries (frees 7)) (omega (arith, length_entries c, long)) in
        subst (λ a. Stands m (record { address = a; content = directory_content d.qid (chunk 7 j (entries c⁺)) })) (sym (get_or_append_left w.blocks new 0 j lt'))
        (subst (λ e. Stands m (record { address = get_or w.blocks j 0; content = directory_content d.qid e })) (sym es)
        (in_blocks_at (directory_content d.qid) 7 (Stands m) w.blocks (entries c) (own_stand m k d w c s).0 j lt'))

    pub grown_rewritten : ((a : ℕ) → 0 < count a new → 0 < count a l) → ((a : ℕ) → 0 < uses a (place_blocks (deep k d w c)) → count a l ≡ 0) →
        AllByRecursion (Rewritten m l) (place_blocks (deep k d w⁺ (set_at c⁺ j⁺ x)))
    grown_rewritten added aside =
        place_rewritten m l k d w⁺ c⁺ j⁺ x (added (home_of w⁺ j⁺) home_new) old_stand
        (subst (AllByRecursion (AllByRecursion (Stands m))) (sym (row_set c⁺ j⁺ (flat free))) (All-set (AllByRecursion (Stands m)) (row_blocks c⁺) j⁺ [] tt (all_added (AllByRecursion (Stands m)) tt c 7 (own_stand m k d w c s).1)))
        (λ a h. aside a (omega (arith, uses_deep a k d w c, uses_set a c⁺ j⁺ (flat free) within, uses_added a c 7)))
        no_rewrite

-- f done to the places of a directory
abbrev inner : {W : Type 0} → (Places W → Places W) → Place W → Place W
inner f (flat l) = flat l
inner f (deep k d w c) = deep k d w (f c)

made_erased : (t : StoredTree) (x : Place Stored) (y : Place (Unit {0})) (new : List ℕ) → erased x ≡ y → (q : Place Stored) → erased (made_in t x new q) ≡ inner (make_in y) (erased q)
made_erased t x y new e (flat l) = refl
made_erased t x y new e (deep k d w c) = ap (deep k d tt) (map_make (λ w. tt) x c ∙ ap (λ z. make_in z (map_places (λ w. tt) c)) e)

module _ (m : BlockMap) (limit : ℕ) (t : StoredTree) (r : Represents m limit t) (is_dir : Bool) (path : List ℕ) (u : Tree) (accepted : tree.make is_dir path (erase t) ≡ Ok u) (formed : WellFormed u) where
  abbrev at_it : MadeAt is_dir path (erase t) u
  at_it = accepted_make is_dir path (erase t) u accepted

  abbrev names : List (List ℕ)
  names = at_it.ns

  abbrev x : Place Stored
  x = new_node t is_dir at_it.n

  seen : (new : List ℕ) → erased (alter names (made_in t x new) (root_place t)) ≡ plain.root_place u
  seen new =
      let y = tree.new_node is_dir at_it.n t.next_qid in
      map_alter (λ w. tt) names (made_in t x new) (inner (make_in y)) (made_erased t x y new (new_erased t is_dir at_it.n)) (root_place t)
      ∙ alter_modify (inner (make_in y)) (make_in y) at_it.name at_it.head tt at_it.places refl names slash t.root tt (erase t).places at_it.leads
      ∙ ap plain.root_place (sym at_it.is)

  -- the directory with its notes
  module _ (k : List ℕ) (d : Dir) (w : Stored) (c : Places Stored) (is : walk names (root_place t) ≡ deep k d w c) where
    found : walk names (root_place t) ≡ flat free → ⊥
    found e = let z : deep k d w c ≡ flat free = sym is ∙ e in false≢true cc

    here : Sound m (deep k d w c)
    here = subst (Sound m) is (sound_walk m (slash ∷ names) (whole t) (record { fits = r.fits; once = r.once; stand = r.stand }) found)

    -- an address of the directory is not above it, and not added
    record Counts (extra new : List ℕ) (a : ℕ) : Type 0 where
      same : uses a (place_blocks (walk names (root_place t))) ≡ uses a (place_blocks (deep k d w c))
      way : count a (trail_to t names) + uses a (place_blocks (walk names (root_place t))) ≤ uses a (blocks_of t)
      alone : uses a (blocks_of t) ≤ 1
      hot_is : count a ((trail_to t names ++ extra) ++ new) ≡ count a (trail_to t names) + count a extra + count a new

    counts : (extra new : List ℕ) (a : ℕ) → Counts extra new a
    counts extra new a = record {
      same = ap (λ q. uses a (place_blocks q)) is;
      way = uses_trail a (slash ∷ names) (whole t) r.fits found;
      alone = r.once a;
      hot_is = omega (arith, count_append a (trail_to t names ++ extra) new, count_append a (trail_to t names) extra);
    }

    abbrev hot_of : List ℕ → List ℕ → List ℕ
    hot_of extra new = (trail_to t names ++ extra) ++ new

    abbrev plan_with : Bool → Plan
    plan_with b = record {
      touched = trail_to t names ++ cond b (home_of w (first_free c) ∷ []) [];
      added = cond b 0 1;
      released = [];
      after = λ l. altered t names (made_in t x l) (t.next_qid + 1);
    }

    finish : (extra : List ℕ) (n : ℕ) (new : List ℕ) (ok : Addable limit t n new) → Node m limit t r names (made_in t x) (t.next_qid + 1) extra [] n new ok u →
        Done m limit t (record { touched = trail_to t names ++ extra; added = n; released = []; after = λ l. altered t names (made_in t x l) (t.next_qid + 1) }) new u
    finish extra n new ok node =
        done m limit t r names (made_in t x) (t.next_qid + 1) extra [] n new ok u node
        (root_erased t (t.next_qid + 1) (alter names (made_in t x new) (root_place t)) u (seen new) (ap (λ v. v.next_qid) at_it.is))
        formed (root_top t (t.next_qid + 1) (alter names (made_in t x new) (root_place t)))

    make_at_lem : (b : Bool) → ltb (first_free c) (size c) ≡ b → (new : List ℕ) → Addable limit t (cond b 0 1) new → Done m limit t (plan_with b) new u
    make_at_lem true e new ok =
        let i = first_free c in
        let lt : i < size c = ltb-true i (size c) e in
        let on : i / 7 < length w.blocks = omega (arith, here.fits.0.blocks) in
        let none : new ≡ [] = nil_from_length new ok.many in
        let empty = new_blocks t is_dir at_it.n in
        let room_is : with_room c ≡ c = ap (λ b. cond b c (append c (frees 7))) e in
        let note : ◌≡◌ {A = Stored} (record { blocks = w.blocks ++ new; indirect = w.indirect; slack = w.slack }) w = λ j. record { blocks = (ap (λ l. w.blocks ++ l) none ∙ append-nil w.blocks) j; indirect = w.indirect; slack = w.slack } in
        let is' : made_in t x new (walk names (root_place t)) ≡ deep k d w (set_at c i x) = ap (made_in t x new) is ∙ (λ j. deep k d (note j) (set_at (room_is j) (first_free (room_is j)) x)) in
        let home : 0 < one (home_of w i) (home_of w i) = omega (arith, one_same (home_of w i)) in
        finish (home_of w i ∷ []) 0 new ok (record {
          found = found;
          same = root_whole t names (made_in t x new) (t.next_qid + 1) u (seen new);
          blocks = λ a. omega (arith, ap (λ q. uses a (place_blocks q)) is', room_uses m (hot_of (home_of w i ∷ []) new) k d w c here x empty lt a, counts [] new a, ap (count a) none);
          fits = subst PlaceFits (sym is') (record { blocks = size_set c i x ∙ here.fits.0.blocks; indirect = here.fits.0.indirect; slack = here.fits.0.slack }, fits_set c i x (new_fits t is_dir at_it.n) here.fits.1);
          own = λ a h. (omega (arith, counts [] new a, uses_deep a k d w c, count_one a w.blocks (i / 7) on), refl);
          rewritten = subst (λ q. AllByRecursion (Rewritten m (hot_of (home_of w i ∷ []) new)) (place_blocks q)) (sym is')
              (room_rewritten m (hot_of (home_of w i ∷ []) new) k d w c here x empty lt (omega (arith, counts (home_of w i ∷ []) new (home_of w i)))
              (λ a z h. omega (arith, counts (home_of w i ∷ []) new a, count_one a w.blocks (i / 7) on, ap (count a) none)));
        })
    make_at_lem false e new ok =
        let full : size c ≤ first_free c = ltb-false (first_free c) (size c) e in
        let empty = new_blocks t is_dir at_it.n in
        let room_is : with_room c ≡ append c (frees 7) = ap (λ b. cond b c (append c (frees 7))) e in
        let is' : made_in t x new (walk names (root_place t)) ≡ deep k d (w⁺ m (hot_of [] new) k d w c here x empty full new ok.many) (set_at (append c (frees 7)) (first_free (append c (frees 7))) x) =
        ap (made_in t x new) is ∙ ap (λ y. deep k d (record { blocks = w.blocks ++ new; indirect = w.indirect; slack = w.slack }) (set_at y (first_free y) x)) room_is in
        finish [] 1 new ok (record {
          found = found;
          same = root_whole t names (made_in t x new) (t.next_qid + 1) u (seen new);
          blocks = λ a. omega (arith, ap (λ q. uses a (place_blocks q)) is', grown_uses m (hot_of [] new) k d w c here x empty full new ok.many a, counts [] new a);
          fits = subst PlaceFits (sym is') (grown_fits m (hot_of [] new) k d w c here x empty full new ok.many (new_fits t is_dir at_it.n));
          own = λ a h. absurd (omega arith);
          rewritten = subst (λ q. AllByRecursion (Rewritten m (hot_of [] new)) (place_blocks q)) (sym is')
              (grown_rewritten m (hot_of [] new) k d w c here x empty full new ok.many (λ a h. omega (arith, counts [] new a))
              (λ a h. omega (arith, counts [] new a, ⊎_elim (λ z. z) (λ y. absurd (omega (arith, ok.unused a y, counts [] new a))) (zero_or (count a new)))));
        })

  -- the plan at the names
  make_done_at : (ns : List (List ℕ)) (n : List ℕ) → ns ≡ names → n ≡ at_it.n → (p : Place Stored) → walk names (root_place t) ≡ p →
      (new : List ℕ) → Addable limit t (make_plan t is_dir ns n p).added new → Done m limit t (make_plan t is_dir ns n p) new u
  make_done_at ns n e e' (flat l) is new ok =
      let z : flat (Rattle.trees.specs.Stored.map_leaf (λ w. tt) l) ≡ deep at_it.name at_it.head tt at_it.places = ap erased (sym is) ∙ erased_walk t names ∙ at_it.leads in
      absurd (false≢true cc)
  make_done_at ns n e e' (deep k d w c) is new ok =
      subst (λ l. Done m limit t (make_plan t is_dir l n (deep k d w c)) new u) (sym e)
      (subst (λ y. Done m limit t (make_plan t is_dir names y (deep k d w c)) new u) (sym e')
      (make_at_lem k d w c is (ltb (first_free c) (size c)) refl new ok))

  pub make_done : (new : List ℕ) → Addable limit t (on_path t (path_of path) (λ n ns. make_plan t is_dir (front n ns) (final n ns) (walk (front n ns) (root_place t)))).added new →
      Done m limit t (on_path t (path_of path) (λ n ns. make_plan t is_dir (front n ns) (final n ns) (walk (front n ns) (root_place t)))) new u
  make_done =
      on_names_lem t (λ p. (new : List ℕ) → Addable limit t p.added new → Done m limit t p new u) (λ n ns. make_plan t is_dir (front n ns) (final n ns) (walk (front n ns) (root_place t)))
      (path_of path) names at_it.n at_it.path_is
      (λ y ys e. let parts = same_from_push (front y ys) names (final y ys) at_it.n (sym (front_final y ys) ∙ e) in
      make_done_at (front y ys) (final y ys) parts.0 parts.1 (walk (front y ys) (root_place t)) (ap (λ l. walk l (root_place t)) (sym parts.0)))
