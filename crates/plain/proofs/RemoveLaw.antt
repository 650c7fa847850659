-- An accepted removal.
use Rattle.std.proofs.Common.{◌≡◌, ℕ, zero, suc, ◌+◌, ◌%◌, ◌<◌, Bool, true, false, cond, eqb, List, [], ◌∷◌, ◌++◌, Some, None, Ok, Err, Option, Result, sym, refl, ap, ◌∙◌, subst, arith}
use Rattle.std.specs.Str.{bytes_eq}
use Rattle.std.proofs.lemmas.Bool.{false≢true, eqb-true}
use Rattle.plain.specs.Names.{is_name}
use Rattle.plain.specs.Paths.{path_of, front, final}
use Rattle.plain.specs.Trees.{free, file, end, leaf, dir, Place, flat, deep, at, find, size, has_name, named, used, walk, Tree, Plain, root_place, slash}
use Rattle.plain.specs.Operations.{remove, remove_on, remove_at, remove_in, inside}
use Rattle.plain.specs.Laws.{nothing, a_dir, sight, see, names_at, without_name, NameChanged, Tidy, TidyDir, TidyBelow}
use Rattle.plain.proofs.Walking.{same_name, other_name, found_other, found_within, walk_free}
use Rattle.plain.proofs.Changes.{front_final, Home, home, see_in, see_home, saw_home, see_others}
use Rattle.plain.proofs.Filling.{remove_names}
use Rattle.plain.proofs.Tidiness.{tidy_walk, tidy_modify, tidy_set, named_set, size_set, name_long}
use Rattle.plain.proofs.MakeLaw.{absent_free}

-- a file, or a directory without names
abbrev pub Bare : Place (Unit {0}) → Type 0
Bare (flat free) = ⊥
Bare (flat (file n f w)) = Unit {0}
Bare (deep n d w c) = used c ≡ 0

pub record RemovedAt (path : List ℕ) (t t' : Tree) : Type 0 where
  pub ns : List (List ℕ)
  pub n : List ℕ
  pub path_is : path_of path ≡ Some (ns ++ n ∷ [])
  pub node : Place (Unit {0})
  pub is_at : walk (ns ++ n ∷ []) (root_place t) ≡ node
  pub bare : Bare node
  pub is : t' ≡ inside ns (remove_in n) t.next_qid t

pub accepted_remove : (path : List ℕ) (t t' : Tree) → remove path t ≡ Ok t' → RemovedAt path t t'
accepted_remove path t t' ok = go (path_of path) refl ok
  where
    made : (n : List ℕ) (ns : List (List ℕ)) → path_of path ≡ Some (n ∷ ns) → (p : Place (Unit {0})) → walk (n ∷ ns) (root_place t) ≡ p → Bare p →
        ◌≡◌ {A = Result Tree ℕ} (Ok (inside (front n ns) (remove_in (final n ns)) t.next_qid t)) (Ok t') → RemovedAt path t t'
    made n ns e p at_p b ok =
        let l = front_final n ns in
        record { ns = front n ns; n = final n ns; path_is = e ∙ ap Some l; node = p; is_at = ap (λ k. walk k (root_place t)) (sym l) ∙ at_p; bare = b; is = cc }

    place : (n : List ℕ) (ns : List (List ℕ)) → path_of path ≡ Some (n ∷ ns) → (p : Place (Unit {0})) → walk (n ∷ ns) (root_place t) ≡ p →
        remove_at (front n ns) (final n ns) t p ≡ Ok t' → RemovedAt path t t'
    place n ns e (flat free) at_p ok = absurd (false≢true cc)
    place n ns e (flat (file m f w)) at_p ok = made n ns e (flat (file m f w)) at_p tt ok
    place n ns e (deep m d w c) at_p ok = by (eqb (used c) 0) refl ok
      where
        by : (b : Bool) → eqb (used c) 0 ≡ b → ◌≡◌ {A = Result Tree ℕ} (cond b (Ok (inside (front n ns) (remove_in (final n ns)) t.next_qid t)) (Err 19)) (Ok t') → RemovedAt path t t'
        by true g ok = made n ns e (deep m d w c) at_p (eqb-true (used c) 0 g) ok
        by false g ok = absurd (false≢true cc)

    go : (o : Option (List (List ℕ))) → path_of path ≡ o → remove_on o t ≡ Ok t' → RemovedAt path t t'
    go None e ok = absurd (false≢true cc)
    go (Some []) e ok = absurd (false≢true cc)
    go (Some (n ∷ ns)) e ok = place n ns e (walk (n ∷ ns) (root_place t)) refl ok

-- below a node that may be removed there is nothing
unused_at : (c : Plain) (i : ℕ) → used c ≡ 0 → at c i ≡ flat free
unused_at end i e = refl
unused_at (leaf free k) zero e = refl
unused_at (leaf free k) (suc i) e = unused_at k i (omega arith)
unused_at (leaf (file n f w) k) i e = absurd (omega arith)
unused_at (dir n d w c k) i e = absurd (omega arith)

bare_below : (p : Place (Unit {0})) → Bare p → (y : List ℕ) (r : List (List ℕ)) → walk (y ∷ r) p ≡ flat free
bare_below (flat free) b y r = absurd b
bare_below (flat (file n f w)) b y r = walk_free r
bare_below (deep n d w c) b y r = ap (walk r) (unused_at c (find y c) b) ∙ walk_free r

not_free : (p : Place (Unit {0})) → Bare p → p ≡ flat free → ⊥
not_free p b e = subst Bare e b

unlike : (x n : List ℕ) (p : Place (Unit {0})) → has_name n p ≡ true → (x ≡ n → ⊥) → has_name x p ≡ false
unlike x n (flat free) e ne = refl
unlike x n (flat (file m f w)) e ne = ap (bytes_eq x) (sym (same_name n m e)) ∙ other_name x n ne
unlike x n (deep m d w c) e ne = ap (bytes_eq x) (sym (same_name n m e)) ∙ other_name x n ne

sight_not : (p : Place (Unit {0})) → Bare p → sight p ≡ nothing → ⊥
sight_not (flat free) b e = b
sight_not (flat (file n f w)) b e = false≢true cc
sight_not (deep n d w c) b e = false≢true cc

module _ (path : List ℕ) (t t' : Tree) (w : RemovedAt path t t') (tidy : Tidy t) (legal : is_name w.n ≡ true) where
  abbrev h : Home w.ns w.n t w.node
  h = home w.ns w.n t w.node w.is_at (not_free w.node w.bare)

  abbrev c : Plain
  c = h.places

  in_dir : (find w.n c < size c) × (has_name w.n (at c (find w.n c)) ≡ true)
  in_dir = found_within w.n c (λ e. not_free w.node w.bare (sym h.there ∙ e))

  dir_tidy : TidyDir c × TidyBelow c
  dir_tidy = tidy_walk w.ns slash t.root t.places h.name h.head c h.leads tidy.here tidy.below

  -- how often a name is left
  named_left : (x : List ℕ) → named x (remove_in w.n c) + cond (has_name x (at c (find w.n c))) 1 0 ≡ named x c
  named_left x = named_set x c (find w.n c) (flat free) in_dir.0 ∙ omega arith

  gone : named w.n (remove_in w.n c) ≡ 0
  gone =
      let one : cond (has_name w.n (at c (find w.n c))) 1 0 ≡ 1 = ap {B = ℕ} (λ b. cond b 1 0) in_dir.1 in
      omega (arith, named_left w.n, one, dir_tidy.0.differ w.n)

  now_free : at (remove_in w.n c) (find w.n (remove_in w.n c)) ≡ flat free
  now_free = (absent_free w.n (remove_in w.n c) gone).0

  alike : (x : List ℕ) → (x ≡ w.n → ⊥) → at (remove_in w.n c) (find x (remove_in w.n c)) ≡ at c (find x c)
  alike x ne = found_other x c (find w.n c) (flat free) refl (unlike x w.n (at c (find w.n c)) in_dir.1 ne)

  deeper : (y : List ℕ) (r : List (List ℕ)) → sight (walk (y ∷ r) (at (remove_in w.n c) (find w.n (remove_in w.n c)))) ≡ sight (walk (y ∷ r) (at c (find w.n c)))
  deeper y r =
      ap (λ p. sight (walk (y ∷ r) p)) now_free ∙ ap sight (walk_free r)
      ∙ sym (ap (λ p. sight (walk (y ∷ r) p)) h.there ∙ ap sight (bare_below w.node w.bare y r))

  pub removed_name : NameChanged w.ns w.n without_name nothing t t'
  removed_name =
      subst (λ u. NameChanged w.ns w.n without_name nothing t u) (sym w.is)
      (record {
        is = see_in w.ns w.n t t.next_qid h.name h.head c (remove_in w.n) h.leads (w.n ∷ []) ∙ ap sight now_free;
        head = h.head;
        names = names_at c;
        home_was = saw_home w.ns w.n t t.next_qid h.name h.head c (remove_in w.n) h.leads;
        home_is = see_home w.ns w.n t t.next_qid h.name h.head c (remove_in w.n) h.leads ∙ ap (a_dir h.head) (remove_names w.n c (name_long w.n legal));
        others = λ other ne not_home. see_others w.ns w.n t t.next_qid h.name h.head c (remove_in w.n) h.leads alike deeper other ne (λ e. absurd (not_home e));
      })

  pub was_something : see (w.ns ++ w.n ∷ []) t ≡ nothing → ⊥
  was_something e = sight_not w.node w.bare (ap sight (sym w.is_at) ∙ e)

  removed_dir : TidyDir (remove_in w.n c)
  removed_dir =
      let s = size_set c (find w.n c) (flat free) in
      record {
        differ = λ x. omega (arith, named_left x, dir_tidy.0.differ x);
        sevens = ap (λ k. k % 7) s ∙ dir_tidy.0.sevens;
        few = rw s dir_tidy.0.few;
      }

  pub removed_tidy : Tidy t'
  removed_tidy =
      let below = tidy_set c (find w.n c) (flat free) dir_tidy.1 tt in
      let m = tidy_modify (remove_in w.n) w.ns slash t.root t.places h.name h.head c h.leads tidy.here tidy.below removed_dir below in
      subst Tidy (sym w.is) (record { here = m.0; below = m.1 })
