-- Searches, walks and changes do not see the notes of a tree.
use Rattle.std.proofs.Common.{◌≡◌, ℕ, zero, suc, Bool, true, false, cond, ltb, List, [], ◌∷◌, ◌++◌, sym, refl, ap, ◌∙◌, arith}
use Rattle.std.specs.Str.{bytes_eq}
use Rattle.plain.specs.Trees.{Dir, free, file, Places, end, leaf, dir, Place, flat, deep, put, size, at, set_at, first_free, find, used, frees, append, walk, modify}
use Rattle.plain.proofs.Walking.{modify_step, walk_flat}
use Rattle.trees.specs.Stored.{map_leaf, map_places, map_place}
use Rattle.trees.specs.Plans.{alter, with_room, with_node}

module _ {W Y : Type 0} (g : W → Y) where
  pub map_at : (c : Places W) (i : ℕ) → map_place g (at c i) ≡ at (map_places g c) i
  map_at end i = refl
  map_at (leaf l k) zero = refl
  map_at (leaf l k) (suc i) = map_at k i
  map_at (dir n d w c k) zero = refl
  map_at (dir n d w c k) (suc i) = map_at k i

  map_put : (p : Place W) (k : Places W) → map_places g (put p k) ≡ put (map_place g p) (map_places g k)
  map_put (flat l) k = refl
  map_put (deep n d w c) k = refl

  pub map-set : (c : Places W) (i : ℕ) (p : Place W) → map_places g (set_at c i p) ≡ set_at (map_places g c) i (map_place g p)
  map-set end i p = refl
  map-set (leaf l k) zero p = map_put p k
  map-set (leaf l k) (suc i) p = ap (leaf (map_leaf g l)) (map-set k i p)
  map-set (dir n d w c k) zero p = map_put p k
  map-set (dir n d w c k) (suc i) p = ap (dir n d (g w) (map_places g c)) (map-set k i p)

  pub map_size : (c : Places W) → size (map_places g c) ≡ size c
  map_size end = refl
  map_size (leaf l k) = ap suc (map_size k)
  map_size (dir n d w c k) = ap suc (map_size k)

  pub map_find : (n : List ℕ) (c : Places W) → find n (map_places g c) ≡ find n c
  map_find n end = refl
  map_find n (leaf free k) = ap suc (map_find n k)
  map_find n (leaf (file m x w) k) = ap (λ r. cond (bytes_eq n m) 0 (suc r)) (map_find n k)
  map_find n (dir m d w c k) = ap (λ r. cond (bytes_eq n m) 0 (suc r)) (map_find n k)

  pub map_free : (c : Places W) → first_free (map_places g c) ≡ first_free c
  map_free end = refl
  map_free (leaf free k) = refl
  map_free (leaf (file n x w) k) = ap suc (map_free k)
  map_free (dir n d w c k) = ap suc (map_free k)

  pub map-append : (c e : Places W) → map_places g (append c e) ≡ append (map_places g c) (map_places g e)
  map-append end e = refl
  map-append (leaf l k) e = ap (leaf (map_leaf g l)) (map-append k e)
  map-append (dir n d w c k) e = ap (dir n d (g w) (map_places g c)) (map-append k e)

  pub map_used : (c : Places W) → used (map_places g c) ≡ used c
  map_used end = refl
  map_used (leaf free k) = omega (arith, map_used k)
  map_used (leaf (file n x w) k) = omega (arith, map_used k)
  map_used (dir n d w c k) = ap suc (map_used k)

  map_room : (c : Places W) → map_places g (with_room c) ≡ with_room (map_places g c)
  map_room c = rw (map_free c, map_size c) (by (ltb (first_free c) (size c)))
    where
      by : (b : Bool) → map_places g (cond b c (append c (frees 7))) ≡ cond b (map_places g c) (append (map_places g c) (frees 7))
      by true = refl
      by false = map-append c (frees 7)

  pub map_make : (x : Place W) (c : Places W) → map_places g (with_node x c) ≡ with_node (map_place g x) (map_places g c)
  map_make x c =
      map-set (with_room c) (first_free (with_room c)) x
      ∙ ap (λ i. set_at (map_places g (with_room c)) i (map_place g x)) (sym (map_free (with_room c)))
      ∙ ap (λ k. set_at k (first_free k) (map_place g x)) (map_room c)

  pub map_walk : (ns : List (List ℕ)) (p : Place W) → map_place g (walk ns p) ≡ walk ns (map_place g p)
  map_walk [] p = refl
  map_walk (n ∷ ns) (flat l) = map_walk ns (flat free)
  map_walk (n ∷ ns) (deep m d w c) = map_walk ns (at c (find n c)) ∙ ap (walk ns) (map_at c (find n c) ∙ ap (at (map_places g c)) (sym (map_find n c)))

  pub map_alter : (ns : List (List ℕ)) (f : Place W → Place W) (f' : Place Y → Place Y) → ((p : Place W) → map_place g (f p) ≡ f' (map_place g p)) →
      (p : Place W) → map_place g (alter ns f p) ≡ alter ns f' (map_place g p)
  map_alter [] f f' h p = h p
  map_alter (n ∷ ns) f f' h (flat l) = refl
  map_alter (n ∷ ns) f f' h (deep m d w c) =
      ap (deep m d (g w))
      (map-set c (find n c) (alter ns f (at c (find n c)))
      ∙ ap (set_at (map_places g c) (find n c)) (map_alter ns f f' h (at c (find n c)) ∙ ap (alter ns f') (map_at c (find n c)))
      ∙ ap (λ i. set_at (map_places g c) i (alter ns f' (at (map_places g c) i))) (sym (map_find n c)))

module _ {W : Type 0} where
  pub alter_append : (ns rs : List (List ℕ)) (f : Place W → Place W) (p : Place W) → alter (ns ++ rs) f p ≡ alter ns (alter rs f) p
  alter_append [] rs f p = refl
  alter_append (n ∷ ns) rs f (flat l) = refl
  alter_append (n ∷ ns) rs f (deep m d w c) = ap (λ q. deep m d w (set_at c (find n c) q)) (alter_append ns rs f (at c (find n c)))

  -- what is done to the places of the directory that names lead to, said in both ways
  pub alter_modify : (h : Place W → Place W) (f : Places W → Places W) (m₁ : List ℕ) (d₁ : Dir) (w₁ : W) (c₁ : Places W) → h (deep m₁ d₁ w₁ c₁) ≡ deep m₁ d₁ w₁ (f c₁) →
      (ns : List (List ℕ)) (m : List ℕ) (d : Dir) (w : W) (c : Places W) → walk ns (deep m d w c) ≡ deep m₁ d₁ w₁ c₁ → alter ns h (deep m d w c) ≡ deep m d w (modify ns f c)
  alter_modify h f m₁ d₁ w₁ c₁ e [] m d w c is = ap h is ∙ e ∙ (let z : deep m₁ d₁ w₁ (f c₁) ≡ deep m d w (f c) = cc in z)
  alter_modify h f m₁ d₁ w₁ c₁ e (n ∷ ns) m d w c is = go (at c (find n c)) refl is (λ m₂ d₂ w₂ k. alter_modify h f m₁ d₁ w₁ c₁ e ns m₂ d₂ w₂ k)
    where
      go : (p : Place W) → at c (find n c) ≡ p → walk ns p ≡ deep m₁ d₁ w₁ c₁ →
          ((m₂ : List ℕ) (d₂ : Dir) (w₂ : W) (k : Places W) → walk ns (deep m₂ d₂ w₂ k) ≡ deep m₁ d₁ w₁ c₁ → alter ns h (deep m₂ d₂ w₂ k) ≡ deep m₂ d₂ w₂ (modify ns f k)) →
          alter (n ∷ ns) h (deep m d w c) ≡ deep m d w (modify (n ∷ ns) f c)
      go (flat l) at_n is ih = absurd (walk_flat ns l m₁ d₁ w₁ c₁ is)
      go (deep m₂ d₂ w₂ k) at_n is ih =
          ap (λ q. deep m d w (set_at c (find n c) (alter ns h q))) at_n
          ∙ ap (λ q. deep m d w (set_at c (find n c) q)) (ih m₂ d₂ w₂ k is)
          ∙ ap (deep m d w) (sym (modify_step n ns f c m₂ d₂ w₂ k at_n))
