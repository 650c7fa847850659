-- Where names lead before and after a change in one directory.
use Rattle.std.proofs.Common.{◌≡◌, ℕ, suc, ◌<◌, ◌≤◌, Bool, true, false, cond, ◌⊎◌, List, [], ◌∷◌, ◌++◌, map, length, get_or, set, sym, refl, ap, ◌∙◌, inl, inr, ⊎_elim, arith}
use Rattle.std.specs.Str.{bytes_eq}
use Rattle.std.proofs.lemmas.Slice.Eq.{bytes_eq-Decides}
use Rattle.std.proofs.lemmas.List.{map-set, set-get_or, get_or-map, get_or_past}
use Rattle.std.proofs.lemmas.Bool.{false≢true, cases_lt, cases_Bool}
use Rattle.plain.specs.Trees.{Dir, Leaf, free, Places, end, leaf, dir, Place, flat, deep, size, at, set_at, name_at, has_name, find, child, walk, modify}
use Rattle.plain.specs.Laws.{names_at, a_dir, sight}
use Rattle.plain.proofs.Indices.{index, index_passes, index_miss, index_hit}
use Rattle.plain.proofs.Rows.{row, row_at, row_size, row_set, row_find, row_names}

-- names are the same if the test says so, and apart if it does not
pub same_name : (x n : List ℕ) → bytes_eq x n ≡ true → x ≡ n
same_name x n e = (bytes_eq-Decides x n).0 e

pub self_name : (n : List ℕ) → bytes_eq n n ≡ true
self_name n = (bytes_eq-Decides n n).1 refl

pub apart_name : (x n : List ℕ) → bytes_eq x n ≡ false → x ≡ n → ⊥
apart_name x n t e = let y : true ≡ false = sym (self_name n) ∙ ap (λ z. bytes_eq z n) (sym e) ∙ t in false≢true cc

pub other_name : (x n : List ℕ) → (x ≡ n → ⊥) → bytes_eq x n ≡ false
other_name x n ne = ⊎_elim (λ e. absurd (ne (same_name x n e))) (λ e. e) (cases_Bool (bytes_eq x n))

module _ {W : Type 0} where
  -- a search in a directory, of which one place changes
  pub found : (n : List ℕ) (c : Places W) → at c (find n c) ≡ get_or (row c) (index (has_name n) (row c)) (flat free)
  found n c = row_at c (find n c) ∙ ap (λ i. get_or (row c) i (flat free)) (row_find n c)

  pub found_other : (x : List ℕ) (c : Places W) (i : ℕ) (p : Place W) → has_name x p ≡ false → has_name x (at c i) ≡ false → at (set_at c i p) (find x (set_at c i p)) ≡ at c (find x c)
  found_other x c i p new old =
      found x (set_at c i p)
      ∙ ap (λ r. get_or r (index (has_name x) r) (flat free)) (row_set c i p)
      ∙ index_miss (has_name x) (flat free) (row c) i p new (ap (has_name x) (sym (row_at c i)) ∙ old)
      ∙ sym (found x c)

  pub found_new : (n : List ℕ) (c : Places W) (i : ℕ) (p : Place W) → i < size c → has_name n p ≡ true → i ≤ find n c → at (set_at c i p) (find n (set_at c i p)) ≡ p
  found_new n c i p h new first =
      found n (set_at c i p)
      ∙ ap (λ r. get_or r (index (has_name n) r) (flat free)) (row_set c i p)
      ∙ index_hit (has_name n) (flat free) (row c) i p (rw (← row_size c) h) new (rw (← row_find n c) first)

  -- what is found is within the directory and has the name
  pub found_within : (n : List ℕ) (c : Places W) → (at c (find n c) ≡ flat free → ⊥) → (find n c < size c) × (has_name n (at c (find n c)) ≡ true)
  found_within n c ne =
      let h : find n c < size c =
      ⊎_elim (λ l. l) (λ ge. absurd (ne (row_at c (find n c) ∙ get_or_past (row c) (find n c) (flat free) (rw (← row_size c) ge)))) (cases_lt (find n c) (size c)) in
      let g : index (has_name n) (row c) < length (row c) = rw (← row_size c, ← row_find n c) h in
      (h, ap (has_name n) (found n c) ∙ index_passes (has_name n) (flat free) (row c) g)

  -- a change inside the directory with a name is a change of its place
  pub modify_step : (n : List ℕ) (ns : List (List ℕ)) (f : Places W → Places W) (c : Places W) (m : List ℕ) (d : Dir) (w : W) (e : Places W) → at c (find n c) ≡ deep m d w e →
      modify (n ∷ ns) f c ≡ set_at c (find n c) (deep m d w (modify ns f e))
  modify_step n ns f end m d w e is = cc
  modify_step n ns f (leaf l k) m d w e is = go (has_name n (flat l)) is (modify_step n ns f k m d w e)
    where
      go : (t : Bool) → at (leaf l k) (cond t 0 (suc (find n k))) ≡ deep m d w e → (at k (find n k) ≡ deep m d w e → modify (n ∷ ns) f k ≡ set_at k (find n k) (deep m d w (modify ns f e))) →
          leaf l (modify (n ∷ ns) f k) ≡ set_at (leaf l k) (cond t 0 (suc (find n k))) (deep m d w (modify ns f e))
      go true is ih = cc
      go false is ih = ap (leaf l) (ih is)
  modify_step n ns f (dir m' d' w' c' k) m d w e is = go (bytes_eq n m') is (modify_step n ns f k m d w e)
    where
      go : (t : Bool) → at (dir m' d' w' c' k) (cond t 0 (suc (find n k))) ≡ deep m d w e → (at k (find n k) ≡ deep m d w e → modify (n ∷ ns) f k ≡ set_at k (find n k) (deep m d w (modify ns f e))) →
          cond t (dir m' d' w' (modify ns f c') k) (dir m' d' w' c' (modify (n ∷ ns) f k)) ≡ set_at (dir m' d' w' c' k) (cond t 0 (suc (find n k))) (deep m d w (modify ns f e))
      go true is ih = cc
      go false is ih = ap (dir m' d' w' c') (ih is)

  pub walk_append : (ns r : List (List ℕ)) (p : Place W) → walk (ns ++ r) p ≡ walk r (walk ns p)
  walk_append [] r p = refl
  walk_append (n ∷ ns) r p = walk_append ns r (child n p)

  -- no names lead from a file or an empty place to anything
  pub walk_free : (ns : List (List ℕ)) → ◌≡◌ {A = Place W} (walk ns (flat free)) (flat free)
  walk_free [] = refl
  walk_free (n ∷ ns) = walk_free ns

  pub walk_flat : (ns : List (List ℕ)) (l : Leaf W) (m : List ℕ) (d : Dir) (w : W) (c : Places W) → walk ns (flat l) ≡ deep m d w c → ⊥
  walk_flat [] l m d w c e = false≢true cc
  walk_flat (n ∷ ns) l m d w c e = let g = walk_free ns in false≢true cc

  -- f is done to the places c₁ of the directory that the names ns lead to
  module _ (f : Places W → Places W) (m₁ : List ℕ) (d₁ : Dir) (w₁ : W) (c₁ : Places W) where
    pub walk_below : (ns r : List (List ℕ)) (m : List ℕ) (d : Dir) (w : W) (c : Places W) → walk ns (deep m d w c) ≡ deep m₁ d₁ w₁ c₁ →
        walk (ns ++ r) (deep m d w (modify ns f c)) ≡ walk r (deep m₁ d₁ w₁ (f c₁))
    walk_below [] r m d w c is =
        let e : deep m d w (f c) ≡ deep m₁ d₁ w₁ (f c₁) = cc in ap (walk r) e
    walk_below (n ∷ ns) r m d w c is = go (at c (find n c)) refl is (λ m d w c. walk_below ns r m d w c)
      where
        go : (p : Place W) → at c (find n c) ≡ p → walk ns p ≡ deep m₁ d₁ w₁ c₁ →
            ((m : List ℕ) (d : Dir) (w : W) (c : Places W) → walk ns (deep m d w c) ≡ deep m₁ d₁ w₁ c₁ → walk (ns ++ r) (deep m d w (modify ns f c)) ≡ walk r (deep m₁ d₁ w₁ (f c₁))) →
            walk (ns ++ r) (child n (deep m d w (modify (n ∷ ns) f c))) ≡ walk r (deep m₁ d₁ w₁ (f c₁))
        go (flat l) at_n is ih = absurd (walk_flat ns l m₁ d₁ w₁ c₁ is)
        go (deep m₂ d₂ w₂ e) at_n is ih =
            let p = deep m₂ d₂ w₂ (modify ns f e) in
            let s = modify_step n ns f c m₂ d₂ w₂ e at_n in
            let g = found_within n c (λ z. let y : deep m₂ d₂ w₂ e ≡ flat free = sym at_n ∙ z in false≢true cc) in
            let same : has_name n p ≡ true = ap (has_name n) (sym at_n) ∙ g.1 in
            ap (λ k. walk (ns ++ r) (at k (find n k))) s ∙ ap (walk (ns ++ r)) (found_new n c (find n c) p g.0 same (omega arith)) ∙ ih m₂ d₂ w₂ e is

-- the same name at a place leaves the names of a directory as they were
pub names_same : (c : Places (Unit {0})) (i : ℕ) (p : Place (Unit {0})) → i < size c → name_at p ≡ name_at (at c i) → names_at (set_at c i p) ≡ names_at c
names_same c i p h e =
    row_names (set_at c i p)
    ∙ ap (map name_at) (row_set c i p)
    ∙ map-set name_at (row c) i p
    ∙ ap (set (map name_at (row c)) i) (e ∙ ap name_at (row_at c i) ∙ sym (get_or-map name_at (row c) i (flat free) [] (rw (← row_size c) h)))
    ∙ set-get_or (map name_at (row c)) i []
    ∙ sym (row_names c)

-- names that do not go on from ns see nothing of a change in the directory that ns lead to
pub walk_aside : (f : Places (Unit {0}) → Places (Unit {0})) (m₁ : List ℕ) (d₁ : Dir) (c₁ : Places (Unit {0})) (ns q : List (List ℕ)) (m : List ℕ) (d : Dir) (c : Places (Unit {0})) →
    walk ns (deep m d tt c) ≡ deep m₁ d₁ tt c₁ → ((r : List (List ℕ)) → q ≡ ns ++ r → ⊥) → sight (walk q (deep m d tt (modify ns f c))) ≡ sight (walk q (deep m d tt c))
walk_aside f m₁ d₁ c₁ [] q m d c is apart = absurd (apart q refl)
walk_aside f m₁ d₁ c₁ (n ∷ ns) q m d c is apart = go (at c (find n c)) refl is q apart (λ q m d c. walk_aside f m₁ d₁ c₁ ns q m d c)
  where
    go : (p : Place (Unit {0})) → at c (find n c) ≡ p → walk ns p ≡ deep m₁ d₁ tt c₁ → (q : List (List ℕ)) → ((r : List (List ℕ)) → q ≡ (n ∷ ns) ++ r → ⊥) →
        ((q : List (List ℕ)) (m : List ℕ) (d : Dir) (c : Places (Unit {0})) → walk ns (deep m d tt c) ≡ deep m₁ d₁ tt c₁ → ((r : List (List ℕ)) → q ≡ ns ++ r → ⊥) →
        sight (walk q (deep m d tt (modify ns f c))) ≡ sight (walk q (deep m d tt c))) →
        sight (walk q (deep m d tt (modify (n ∷ ns) f c))) ≡ sight (walk q (deep m d tt c))
    go (flat l) at_n is q apart ih = absurd (walk_flat ns l m₁ d₁ tt c₁ is)
    go (deep m₂ d₂ tt e) at_n is [] apart ih =
        let s = modify_step n ns f c m₂ d₂ tt e at_n in
        let g = found_within n c (λ z. let y : deep m₂ d₂ tt e ≡ flat free = sym at_n ∙ z in false≢true cc) in
        ap (λ k. sight (deep m d tt k)) s ∙ ap (a_dir d) (names_same c (find n c) (deep m₂ d₂ tt (modify ns f e)) g.0 (ap name_at (sym at_n)))
    go (deep m₂ d₂ tt e) at_n is (x ∷ q) apart ih =
        let p = deep m₂ d₂ tt (modify ns f e) in
        let s = modify_step n ns f c m₂ d₂ tt e at_n in
        let g = found_within n c (λ z. let y : deep m₂ d₂ tt e ≡ flat free = sym at_n ∙ z in false≢true cc) in
        let name : n ≡ m₂ = same_name n m₂ (ap (has_name n) (sym at_n) ∙ g.1) in
        ⊎_elim
        (λ (t : bytes_eq x n ≡ true).
        let x_is = same_name x n t in
        let here = found_new n c (find n c) p g.0 (ap (has_name n) (sym at_n) ∙ g.1) (omega arith) in
        ap (λ y. sight (walk q (child y (deep m d tt (modify (n ∷ ns) f c))))) x_is
        ∙ ap (λ k. sight (walk q (at k (find n k)))) s
        ∙ ap (λ z. sight (walk q z)) here
        ∙ ih q m₂ d₂ e is (λ r h. apart r (ap (λ y. y ∷ q) x_is ∙ ap (λ l. n ∷ l) h))
        ∙ ap (λ z. sight (walk q z)) (sym at_n)
        ∙ ap (λ y. sight (walk q (child y (deep m d tt c)))) (sym x_is))
        (λ (t : bytes_eq x n ≡ false).
        let t' : bytes_eq x m₂ ≡ false = ap (bytes_eq x) (sym name) ∙ t in
        ap (λ k. sight (walk q (at k (find x k)))) s
        ∙ ap (λ z. sight (walk q z)) (found_other x c (find n c) p t' (ap (has_name x) at_n ∙ t')))
        (cases_Bool (bytes_eq x n))

-- names go on from others, or they do not
pub goes_on : (ns q : List (List ℕ)) → ((r : List (List ℕ)) × (q ≡ ns ++ r)) ⊎ ((r : List (List ℕ)) → q ≡ ns ++ r → ⊥)
goes_on [] q = inl (q, refl)
goes_on (n ∷ ns) [] = inr (λ r e. false≢true cc)
goes_on (n ∷ ns) (x ∷ q) =
    ⊎_elim
    (λ (t : bytes_eq x n ≡ true).
    let x_is = same_name x n t in
    ⊎_elim (λ h. inl (h.0, ap (λ y. y ∷ q) x_is ∙ ap (λ l. n ∷ l) h.1)) (λ ne. inr (λ r e. ne r (cc))) (goes_on ns q))
    (λ (t : bytes_eq x n ≡ false). inr (λ r e. apart_name x n t (cc)))
    (cases_Bool (bytes_eq x n))
