-- The places of a directory as a list.
use Rattle.std.proofs.Common.{sym, ◌∙◌, ◌≡◌, ℕ, zero, suc, ◌+◌, Bool, false, cond, List, [], ◌∷◌, ◌++◌, map, length, get_or, set, replicate, refl, ap}
use Rattle.std.specs.Str.{bytes_eq}
use Rattle.plain.specs.Trees.{free, Places, end, leaf, dir, Place, flat, deep, put, size, at, set_at, is_free, name_at, has_name, first_free, find, named, frees, append}
use Rattle.plain.specs.Laws.{names_at}
use Rattle.std.specs.List.{count_by}
use Rattle.std.proofs.lemmas.List.Sums.{sum_by-cons}
use Rattle.plain.proofs.Indices.{index}

module _ {W : Type 0} where
  abbrev pub row : Places W → List (Place W)
  row end = []
  row (leaf l k) = flat l ∷ row k
  row (dir n d w c k) = deep n d w c ∷ row k

  abbrev pub is_free_place : Place W → Bool
  is_free_place (flat l) = is_free l
  is_free_place (deep n d w c) = false

  pub row_at : (c : Places W) (i : ℕ) → at c i ≡ get_or (row c) i (flat free)
  row_at end i = refl
  row_at (leaf l k) zero = refl
  row_at (leaf l k) (suc i) = row_at k i
  row_at (dir n d w c k) zero = refl
  row_at (dir n d w c k) (suc i) = row_at k i

  pub row_size : (c : Places W) → size c ≡ length (row c)
  row_size end = refl
  row_size (leaf l k) = ap suc (row_size k)
  row_size (dir n d w c k) = ap suc (row_size k)

  row_put : (p : Place W) (k : Places W) → row (put p k) ≡ p ∷ row k
  row_put (flat l) k = refl
  row_put (deep n d w c) k = refl

  pub row_set : (c : Places W) (i : ℕ) (p : Place W) → row (set_at c i p) ≡ set (row c) i p
  row_set end i p = refl
  row_set (leaf l k) zero p = row_put p k
  row_set (leaf l k) (suc i) p = ap (λ r. flat l ∷ r) (row_set k i p)
  row_set (dir n d w c k) zero p = row_put p k
  row_set (dir n d w c k) (suc i) p = ap (λ r. deep n d w c ∷ r) (row_set k i p)

  pub row_find : (n : List ℕ) (c : Places W) → find n c ≡ index (has_name n) (row c)
  row_find n end = refl
  row_find n (leaf l k) = ap (λ i. cond (has_name n (flat l)) 0 (suc i)) (row_find n k)
  row_find n (dir m d w c k) = ap (λ i. cond (bytes_eq n m) 0 (suc i)) (row_find n k)

  pub row_free : (c : Places W) → first_free c ≡ index is_free_place (row c)
  row_free end = refl
  row_free (leaf l k) = ap (λ i. cond (is_free l) 0 (suc i)) (row_free k)
  row_free (dir m d w c k) = ap suc (row_free k)

  pub row_named : (n : List ℕ) (c : Places W) → named n c ≡ count_by (has_name n) (row c)
  row_named n end = refl
  row_named n (leaf l k) = ap (λ i. cond (has_name n (flat l)) 1 0 + i) (row_named n k) ∙ sym (sum_by-cons (λ p. cond (has_name n p) 1 0) (flat l) (row k))
  row_named n (dir m d w c k) = ap (λ i. cond (bytes_eq n m) 1 0 + i) (row_named n k) ∙ sym (sum_by-cons (λ p. cond (has_name n p) 1 0) (deep m d w c) (row k))

  pub row_append : (c e : Places W) → row (append c e) ≡ row c ++ row e
  row_append end e = refl
  row_append (leaf l k) e = ap (λ r. flat l ∷ r) (row_append k e)
  row_append (dir n d w c k) e = ap (λ r. deep n d w c ∷ r) (row_append k e)

  pub row_frees : (n : ℕ) → row (frees n) ≡ replicate n (flat free)
  row_frees zero = refl
  row_frees (suc n) = ap (λ r. flat free ∷ r) (row_frees n)

pub row_names : (c : Places (Unit {0})) → names_at c ≡ map name_at (row c)
row_names end = refl
row_names (leaf l k) = ap (λ r. name_at (flat l) ∷ r) (row_names k)
row_names (dir n d w c k) = ap (λ r. n ∷ r) (row_names k)
