-- What is seen of a tree after a change of one name in one directory.
use Rattle.std.proofs.Common.{◌≡◌, ℕ, true, false, List, [], ◌∷◌, ◌++◌, sym, refl, ap, ◌∙◌, ⊎_elim}
use Rattle.std.specs.Str.{bytes_eq}
use Rattle.std.proofs.lemmas.List.{append-nil}
use Rattle.std.proofs.lemmas.Bool.{cases_Bool}
use Rattle.plain.specs.Paths.{front, final}
use Rattle.plain.specs.Trees.{Dir, free, Place, flat, deep, at, find, child, walk, Tree, Plain, root_place, slash}
use Rattle.plain.specs.Operations.{inside}
use Rattle.plain.specs.Laws.{a_dir, sight, names_at, see}
use Rattle.plain.proofs.Walking.{same_name, apart_name, walk_append, walk_below, walk_aside, goes_on}

pub front_final : (n : List ℕ) (ns : List (List ℕ)) → n ∷ ns ≡ front n ns ++ final n ns ∷ []
front_final n [] = refl
front_final n (m ∷ ns) = ap (λ l. n ∷ l) (front_final m ns)

-- the directory at ns, and what it has at the name n
pub record Home (ns : List (List ℕ)) (n : List ℕ) (t : Tree) (p : Place (Unit {0})) : Type 0 where
  pub name : List ℕ
  pub head : Dir
  pub places : Plain
  pub leads : walk ns (root_place t) ≡ deep name head tt places
  pub there : at places (find n places) ≡ p

pub home : (ns : List (List ℕ)) (n : List ℕ) (t : Tree) (p : Place (Unit {0})) → walk (ns ++ n ∷ []) (root_place t) ≡ p → (p ≡ flat free → ⊥) → Home ns n t p
home ns n t p is ne = go (walk ns (root_place t)) refl (sym (walk_append ns (n ∷ []) (root_place t)) ∙ is)
  where
    go : (q : Place (Unit {0})) → walk ns (root_place t) ≡ q → child n q ≡ p → Home ns n t p
    go (flat l) e is = absurd (ne (sym is))
    go (deep m d tt c) e is = record { name = m; head = d; places = c; leads = e; there = is }

-- the places c of the directory at ns become f c, and no other place is touched
module _ (ns : List (List ℕ)) (n : List ℕ) (t : Tree) (q : ℕ) (m : List ℕ) (d : Dir) (c : Plain) (f : Plain → Plain) (leads : walk ns (root_place t) ≡ deep m d tt c) where
  pub see_in : (r : List (List ℕ)) → see (ns ++ r) (inside ns f q t) ≡ sight (walk r (deep m d tt (f c)))
  see_in r = ap sight (walk_below f m d tt c ns r slash t.root tt t.places leads)

  saw_in : (r : List (List ℕ)) → see (ns ++ r) t ≡ sight (walk r (deep m d tt c))
  saw_in r = ap sight (walk_append ns r (root_place t) ∙ ap (walk r) leads)

  pub see_home : see ns (inside ns f q t) ≡ a_dir d (names_at (f c))
  see_home = ap (λ l. see l (inside ns f q t)) (sym (append-nil ns)) ∙ see_in []

  pub saw_home : see ns t ≡ a_dir d (names_at c)
  saw_home = ap sight leads

  -- only what is at n changes, and below that nothing was or is
  module _ (alike : (x : List ℕ) → (x ≡ n → ⊥) → at (f c) (find x (f c)) ≡ at c (find x c))
      (deeper : (y : List ℕ) (r : List (List ℕ)) → sight (walk (y ∷ r) (at (f c) (find n (f c)))) ≡ sight (walk (y ∷ r) (at c (find n c)))) where
    pub see_others : (other : List (List ℕ)) → (other ≡ ns ++ n ∷ [] → ⊥) → (other ≡ ns → see other (inside ns f q t) ≡ see other t) → see other (inside ns f q t) ≡ see other t
    see_others other ne home = ⊎_elim (λ g. on g.0 g.1) (λ apart. walk_aside f m d c ns other slash t.root t.places leads apart) (goes_on ns other)
      where
        from : (x : List ℕ) (r : List (List ℕ)) → (x ∷ r ≡ n ∷ [] → ⊥) → sight (walk r (at (f c) (find x (f c)))) ≡ sight (walk r (at c (find x c)))
        from x [] not_n = ap sight (alike x (λ e. not_n (ap (λ y. y ∷ []) e)))
        from x (y ∷ r) not_n =
            ⊎_elim
            (λ (e : bytes_eq x n ≡ true).
            let x_is = same_name x n e in
            ap (λ z. sight (walk (y ∷ r) (at (f c) (find z (f c))))) x_is ∙ deeper y r ∙ ap (λ z. sight (walk (y ∷ r) (at c (find z c)))) (sym x_is))
            (λ (e : bytes_eq x n ≡ false). ap (λ p. sight (walk (y ∷ r) p)) (alike x (apart_name x n e)))
            (cases_Bool (bytes_eq x n))

        on : (r : List (List ℕ)) → other ≡ ns ++ r → see other (inside ns f q t) ≡ see other t
        on [] e = home (e ∙ append-nil ns)
        on (x ∷ r) e =
            ap (λ l. see l (inside ns f q t)) e ∙ see_in (x ∷ r) ∙ from x r (λ g. ne (e ∙ ap (λ l. ns ++ l) g)) ∙ sym (saw_in (x ∷ r)) ∙ ap (λ l. see l t) (sym e)
