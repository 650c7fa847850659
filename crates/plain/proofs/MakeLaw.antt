-- An accepted make.
use Rattle.std.proofs.Common.{◌≡◌, ℕ, zero, suc, ◌+◌, ◌%◌, ◌<◌, ◌≤◌, Bool, true, false, cond, eqb, ltb, List, [], ◌∷◌, ◌++◌, length, get_or, Some, None, Ok, Err, Option, Result, sym, refl, ap, ◌∙◌, subst, ⊎_elim, arith}
use Rattle.std.specs.Str.{bytes_eq}
use Rattle.std.proofs.lemmas.List.{length-append, get_or_past}
use Rattle.std.proofs.lemmas.Bool.{false≢true, cases_lt, cases_Bool, lt-ltb, le-ltb, ltb-false, eqb-false}
use Rattle.plain.specs.Names.{is_name}
use Rattle.plain.specs.Paths.{path_of, front, final}
use Rattle.plain.specs.Trees.{Dir, free, file, end, leaf, dir, Place, flat, deep, at, find, first_free, size, is_free, has_name, name_at, named, used, frees, append, walk, Tree, Plain, root_place, slash}
use Rattle.plain.specs.Operations.{make, make_on, make_at, make_in, roomy, new_node, inside}
use Rattle.plain.specs.Laws.{nothing, a_dir, sight, see, names_at, new_sight, with_name, NameChanged, Tidy, TidyDir, TidyBelow}
use Rattle.plain.proofs.Indices.{index, index_none, index_more, index_passes, index_at_most}
use Rattle.std.specs.List.{count_by}
use Rattle.std.proofs.lemmas.List.Sums.{sum_by-append, sum_by-cons}
use Rattle.plain.proofs.Rows.{row, is_free_place, row_at, row_size, row_find, row_free, row_named, row_append}
use Rattle.plain.proofs.Walking.{same_name, self_name, other_name, found, found_other, found_new, walk_append, walk_free}
use Rattle.plain.proofs.Changes.{front_final, see_in, see_home, saw_home, see_others}
use Rattle.plain.proofs.Filling.{make_names}
use Rattle.plain.proofs.Tidiness.{TidyPlace, tidy_walk, tidy_named, tidy_modify, tidy_set, named_set, size_set}

-- an accepted make is of a name that a directory lacks
pub record MadeAt (is_dir : Bool) (path : List ℕ) (t t' : Tree) : Type 0 where
  pub ns : List (List ℕ)
  pub n : List ℕ
  pub path_is : path_of path ≡ Some (ns ++ n ∷ [])
  pub name : List ℕ
  pub head : Dir
  pub places : Plain
  pub leads : walk ns (root_place t) ≡ deep name head tt places
  pub absent : named n places ≡ 0
  pub room : used places ≡ 42 → ⊥
  pub is : t' ≡ inside ns (make_in (new_node is_dir n t.next_qid)) (t.next_qid + 1) t

pub accepted_make : (is_dir : Bool) (path : List ℕ) (t t' : Tree) → make is_dir path t ≡ Ok t' → MadeAt is_dir path t t'
accepted_make is_dir path t t' ok = go (path_of path) refl ok
  where
    place : (n : List ℕ) (ns : List (List ℕ)) → path_of path ≡ Some (n ∷ ns) → (p : Place (Unit {0})) → walk (front n ns) (root_place t) ≡ p →
        make_at is_dir (front n ns) (final n ns) t p ≡ Ok t' → MadeAt is_dir path t t'
    place n ns e (flat l) at_p ok = absurd (false≢true cc)
    place n ns e (deep m d tt c) at_p ok = by (ltb 0 (named (final n ns) c)) refl (eqb (used c) 42) refl (eqb t.next_qid 4294967295) ok
      where
        by : (b₁ : Bool) → ltb 0 (named (final n ns) c) ≡ b₁ → (b₂ : Bool) → eqb (used c) 42 ≡ b₂ → (b₃ : Bool) →
            ◌≡◌ {A = Result Tree ℕ} (cond b₁ (Err 16) (cond b₂ (Err 18) (cond b₃ (Err 20) (Ok (inside (front n ns) (make_in (new_node is_dir (final n ns) t.next_qid)) (t.next_qid + 1) t))))) (Ok t') →
            MadeAt is_dir path t t'
        by true g₁ b₂ g₂ b₃ ok = absurd (false≢true cc)
        by false g₁ true g₂ b₃ ok = absurd (false≢true cc)
        by false g₁ false g₂ true ok = absurd (false≢true cc)
        by false g₁ false g₂ false ok =
            record {
              ns = front n ns;
              n = final n ns;
              path_is = e ∙ ap Some (front_final n ns);
              name = m;
              head = d;
              places = c;
              leads = at_p;
              absent = omega (arith, ltb-false 0 (named (final n ns) c) g₁);
              room = eqb-false (used c) 42 g₂;
              is = cc;
            }

    go : (o : Option (List (List ℕ))) → path_of path ≡ o → make_on is_dir o t ≡ Ok t' → MadeAt is_dir path t t'
    go None e ok = absurd (false≢true cc)
    go (Some []) e ok = absurd (false≢true cc)
    go (Some (n ∷ ns)) e ok = place n ns e (walk (front n ns) (root_place t)) refl ok

-- empty places have no name
frees_named : (x : List ℕ) (k : ℕ) → count_by (has_name x) (row (frees {W = Unit {0}} k)) ≡ 0
frees_named x zero = refl
frees_named x (suc k) = omega (arith, sum_by-cons (λ p. cond (has_name x p) 1 0) (flat free) (row (frees {W = Unit {0}} k)), frees_named x k)

-- a directory with room made
module _ (c : Plain) where
  by_room : (P : Plain → Type 0) → (first_free c < size c → P c) → (size c ≤ first_free c → P (append c (frees 7))) → P (roomy c)
  by_room P yes' no' =
      ⊎_elim
      (λ (h : first_free c < size c). subst (λ b. P (cond b c (append c (frees 7)))) (sym (lt-ltb (first_free c) (size c) h)) (yes' h))
      (λ (h : size c ≤ first_free c). subst (λ b. P (cond b c (append c (frees 7)))) (sym (le-ltb (first_free c) (size c) h)) (no' h))
      (cases_lt (first_free c) (size c))

  pub roomy_found : (x : List ℕ) → at (roomy c) (find x (roomy c)) ≡ at c (find x c)
  roomy_found x =
      by_room (λ k. at k (find x k) ≡ at c (find x c)) (λ h. refl)
      (λ h.
      found x (append c (frees 7))
      ∙ ap (λ r. get_or r (index (has_name x) r) (flat free)) (row_append c (frees 7))
      ∙ index_more (has_name x) (flat free) (row c) (row (frees 7)) (frees_named x 7)
      ∙ sym (found x c))

  pub roomy_named : (x : List ℕ) → named x (roomy c) ≡ named x c
  roomy_named x =
      by_room (λ k. named x k ≡ named x c) (λ h. refl)
      (λ h.
      row_named x (append c (frees 7))
      ∙ ap (count_by (has_name x)) (row_append c (frees 7))
      ∙ omega (arith, sum_by-append (λ p. cond (has_name x p) 1 0) (row c) (row (frees 7)), frees_named x 7, row_named x c))

  pub roomy_free : first_free (roomy c) < size (roomy c)
  roomy_free =
      by_room (λ k. first_free k < size k) (λ h. h)
      (λ h.
      let r = row_append c (frees 7) in
      let a = index_at_most is_free_place (flat free) (row c) (row (frees 6)) (flat free) refl in
      omega (arith, a, row_free (append c (frees 7)), row_size (append c (frees 7)), ap length r, ap (index is_free_place) r, length-append (row c) (row (frees 7))))

  -- what is in the lowest empty place
  pub roomy_empty : at (roomy c) (first_free (roomy c)) ≡ flat free
  roomy_empty =
      let k = roomy c in
      let h : index is_free_place (row k) < length (row k) = rw (← row_free k, ← row_size k) roomy_free in
      row_at k (first_free k) ∙ ap (λ i. get_or (row k) i (flat free)) (row_free k) ∙ is_free_lem _ (index_passes is_free_place (flat free) (row k) h)
    where
      is_free_lem : (p : Place (Unit {0})) → is_free_place p ≡ true → p ≡ flat free
      is_free_lem (flat free) e = refl
      is_free_lem (flat (file n f w)) e = cc
      is_free_lem (deep n d w c) e = cc

all_used : (c : Plain) → size c ≤ first_free c → used c ≡ size c
all_used end h = refl
all_used (leaf l k) h = by (is_free l) h (all_used k)
  where
    by : (b : Bool) → suc (size k) ≤ cond b 0 (suc (first_free k)) → (size k ≤ first_free k → used k ≡ size k) → cond b 0 1 + used k ≡ suc (size k)
    by true h g = absurd (omega arith)
    by false h g = omega (arith, g (omega arith))
all_used (dir n d w c k) h = ap suc (all_used k (omega arith))

-- a tidy directory stays within 42 places, in groups of seven
roomy_size : (c : Plain) → TidyDir c → (used c ≡ 42 → ⊥) → (size (roomy c) % 7 ≡ 0) × (size (roomy c) ≤ 42)
roomy_size c t room =
    by_room c (λ k. (size k % 7 ≡ 0) × (size k ≤ 42)) (λ h. (t.sevens, t.few))
    (λ h.
    let n : size (append c (frees 7)) ≡ size c + 7 = row_size (append c (frees 7)) ∙ ap length (row_append c (frees 7)) ∙ omega (arith, length-append (row c) (row (frees 7)), row_size c) in
    let small : size c ≡ 42 → ⊥ = λ e. room (all_used c h ∙ e) in
    let s = t.sevens in
    let f = t.few in
    (omega (arith, n, s), omega (arith, n, s, f, small)))

roomy_below : (c : Plain) → TidyBelow c → TidyBelow (roomy c)
roomy_below c t = by_room c TidyBelow (λ h. t) (λ h. more c t)
  where
    empty : (n : ℕ) → TidyBelow (frees n)
    empty zero = tt
    empty (suc n) = (tt, empty n)

    more : (c : Plain) → TidyBelow c → TidyBelow (append c (frees 7))
    more end t = empty 7
    more (leaf l k) t = (t.0, more k t.1)
    more (dir n d w c k) t = (t.0, t.1, t.2, more k t.3)

new_tidy : (is_dir : Bool) (n : List ℕ) (q : ℕ) → is_name n ≡ true → TidyPlace (new_node is_dir n q)
new_tidy true n q e = (e, record { differ = λ x. omega arith; sevens = refl; few = omega arith }, tt)
new_tidy false n q e = (e, omega arith)

new_name : (is_dir : Bool) (n : List ℕ) (q : ℕ) (x : List ℕ) → has_name x (new_node is_dir n q) ≡ bytes_eq x n
new_name true n q x = refl
new_name false n q x = refl

new_named : (is_dir : Bool) (n : List ℕ) (q : ℕ) → name_at (new_node is_dir n q) ≡ n
new_named true n q = refl
new_named false n q = refl

new_seen : (is_dir : Bool) (n : List ℕ) (q : ℕ) → sight (new_node is_dir n q) ≡ new_sight is_dir q
new_seen true n q = refl
new_seen false n q = refl

-- a new node has nothing below it
new_below : (is_dir : Bool) (n : List ℕ) (q : ℕ) (y : List ℕ) (r : List (List ℕ)) → walk (y ∷ r) (new_node is_dir n q) ≡ flat free
new_below true n q y r = walk_free r
new_below false n q y r = walk_free r

-- a name that a directory lacks is not found
pub absent_free : (n : List ℕ) (c : Plain) → named n c ≡ 0 → (at c (find n c) ≡ flat free) × (find n c ≡ size c)
absent_free n c e =
    let i = index_none (has_name n) (flat free) (row c) (sym (row_named n c) ∙ e) in
    (found n c ∙ get_or_past (row c) _ (flat free) (omega arith), row_find n c ∙ i ∙ sym (row_size c))

module _ (is_dir : Bool) (path : List ℕ) (t t' : Tree) (w : MadeAt is_dir path t t') where
  abbrev x : Place (Unit {0})
  x = new_node is_dir w.n t.next_qid

  abbrev c : Plain
  c = w.places

  there : at (make_in x c) (find w.n (make_in x c)) ≡ x
  there =
      let k = roomy c in
      let f = (absent_free w.n k (roomy_named c w.n ∙ w.absent)).1 in
      found_new w.n k (first_free k) x (roomy_free c) (new_name is_dir w.n t.next_qid w.n ∙ self_name w.n) (omega (arith, roomy_free c))

  alike : (y : List ℕ) → (y ≡ w.n → ⊥) → at (make_in x c) (find y (make_in x c)) ≡ at c (find y c)
  alike y ne =
      found_other y (roomy c) (first_free (roomy c)) x (new_name is_dir w.n t.next_qid y ∙ other_name y w.n ne) (ap (has_name y) (roomy_empty c)) ∙ roomy_found c y

  deeper : (y : List ℕ) (r : List (List ℕ)) → sight (walk (y ∷ r) (at (make_in x c) (find w.n (make_in x c)))) ≡ sight (walk (y ∷ r) (at c (find w.n c)))
  deeper y r =
      ap (λ p. sight (walk (y ∷ r) p)) there
      ∙ ap sight (new_below is_dir w.n t.next_qid y r)
      ∙ sym (ap (λ p. sight (walk (y ∷ r) p)) (absent_free w.n c w.absent).0 ∙ ap sight (walk_free r))

  pub made_name : Tidy t → NameChanged w.ns w.n with_name (new_sight is_dir t.next_qid) t t'
  made_name tidy =
      let b = tidy_walk w.ns slash t.root t.places w.name w.head c w.leads tidy.here tidy.below in
      subst (λ u. NameChanged w.ns w.n with_name (new_sight is_dir t.next_qid) t u) (sym w.is)
      (record {
        is = see_in w.ns w.n t (t.next_qid + 1) w.name w.head c (make_in x) w.leads (w.n ∷ []) ∙ ap sight there ∙ new_seen is_dir w.n t.next_qid;
        head = w.head;
        names = names_at c;
        home_was = saw_home w.ns w.n t (t.next_qid + 1) w.name w.head c (make_in x) w.leads;
        home_is = see_home w.ns w.n t (t.next_qid + 1) w.name w.head c (make_in x) w.leads
            ∙ ap (a_dir w.head) (make_names x c (tidy_named c b.1) ∙ ap (with_name (names_at c)) (new_named is_dir w.n t.next_qid));
        others = λ other ne not_home. see_others w.ns w.n t (t.next_qid + 1) w.name w.head c (make_in x) w.leads alike deeper other ne (λ e. absurd (not_home e));
      })

  pub was_nothing : see (w.ns ++ w.n ∷ []) t ≡ nothing
  was_nothing = ap sight (walk_append w.ns (w.n ∷ []) (root_place t) ∙ ap (walk (w.n ∷ [])) w.leads ∙ (absent_free w.n c w.absent).0)

  -- one more place has the name, and there is room for it
  named_new : (y : List ℕ) → named y (make_in x c) ≡ named y c + cond (bytes_eq y w.n) 1 0
  named_new y =
      let k = roomy c in
      let e = named_set y k (first_free k) x (roomy_free c) in
      let old : has_name y (at k (first_free k)) ≡ false = ap (has_name y) (roomy_empty c) in
      let z : cond (has_name y (at k (first_free k))) 1 0 ≡ 0 = ap {B = ℕ} (λ b. cond b 1 0) old in
      let n : cond (has_name y x) 1 0 ≡ cond (bytes_eq y w.n) 1 0 = ap {B = ℕ} (λ b. cond b 1 0) (new_name is_dir w.n t.next_qid y) in
      omega (arith, e, z, n, roomy_named c y)

  made_dir : TidyDir c → TidyDir (make_in x c)
  made_dir h =
      let s = roomy_size c h w.room in
      let e = size_set (roomy c) (first_free (roomy c)) x in
      record {
        differ = λ y.
            ⊎_elim
            (λ (b : bytes_eq y w.n ≡ true).
            let a : named y c ≡ 0 = ap (λ l. named l c) (same_name y w.n b) ∙ w.absent in
            let o : cond (bytes_eq y w.n) 1 0 ≤ 1 = rw b (omega arith) in
            omega (arith, named_new y, a, o))
            (λ (b : bytes_eq y w.n ≡ false).
            let o : cond (bytes_eq y w.n) 1 0 ≡ 0 = ap {B = ℕ} (λ z. cond z 1 0) b in
            omega (arith, named_new y, h.differ y, o))
            (cases_Bool (bytes_eq y w.n));
        sevens = ap (λ k. k % 7) e ∙ s.0;
        few = rw e s.1;
      }

  pub made_tidy : Tidy t → is_name w.n ≡ true → Tidy t'
  made_tidy tidy legal =
      let b = tidy_walk w.ns slash t.root t.places w.name w.head c w.leads tidy.here tidy.below in
      let below = tidy_set (roomy c) (first_free (roomy c)) x (roomy_below c b.1) (new_tidy is_dir w.n t.next_qid legal) in
      let m = tidy_modify (make_in x) w.ns slash t.root t.places w.name w.head c w.leads tidy.here tidy.below (made_dir b.0) below in
      subst Tidy (sym w.is) (record { here = m.0; below = m.1 })
