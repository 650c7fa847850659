-- The first element of a list that passes a test, and what a change of one element does to it.
use Rattle.std.specs.List.{count_by}
use Rattle.std.proofs.lemmas.List.Sums.{sum_by-cons}
use Rattle.std.proofs.Common.{◌∙◌, sym, ◌≡◌, ℕ, zero, suc, ◌+◌, ◌<◌, ◌≤◌, Bool, true, false, cond, List, [], ◌∷◌, ◌++◌, length, get_or, set, refl, ap, arith}

-- the place of the first element that passes, the length if there is none
abbrev pub index : {X : Type 0} → (X → Bool) → List X → ℕ
index f [] = 0
index f (x ∷ xs) = cond (f x) 0 (suc (index f xs))

module _ {X : Type 0} (f : X → Bool) (d : X) where
  pub index_bound : (xs : List X) → index f xs ≤ length xs
  index_bound [] = omega arith
  index_bound (x ∷ xs) = by (f x) (index_bound xs)
    where
      by : (t : Bool) → index f xs ≤ length xs → cond t 0 (suc (index f xs)) ≤ suc (length xs)
      by true h = omega arith
      by false h = omega arith

  -- what stands there passes
  pub index_passes : (xs : List X) → index f xs < length xs → f (get_or xs (index f xs) d) ≡ true
  index_passes [] h = absurd (omega arith)
  index_passes (x ∷ xs) h = by (f x) refl h (index_passes xs)
    where
      by : (t : Bool) → f x ≡ t → cond t 0 (suc (index f xs)) < suc (length xs) → (index f xs < length xs → f (get_or xs (index f xs) d) ≡ true) → f (get_or (x ∷ xs) (cond t 0 (suc (index f xs))) d) ≡ true
      by true e h g = e
      by false e h g = g (omega arith)

  -- a change from an element that fails to one that fails
  pub index_miss : (xs : List X) (i : ℕ) (p : X) → f p ≡ false → f (get_or xs i d) ≡ false → get_or (set xs i p) (index f (set xs i p)) d ≡ get_or xs (index f xs) d
  index_miss [] i p new old = refl
  index_miss (x ∷ xs) zero p new old = rw (new, old)
  index_miss (x ∷ xs) (suc i) p new old = by (f x) (index_miss xs i p new old)
    where
      by : (t : Bool) → get_or (set xs i p) (index f (set xs i p)) d ≡ get_or xs (index f xs) d →
          get_or (x ∷ set xs i p) (cond t 0 (suc (index f (set xs i p)))) d ≡ get_or (x ∷ xs) (cond t 0 (suc (index f xs))) d
      by true h = refl
      by false h = h

  -- a change to one that passes, where none before it does
  pub index_hit : (xs : List X) (i : ℕ) (p : X) → i < length xs → f p ≡ true → i ≤ index f xs → get_or (set xs i p) (index f (set xs i p)) d ≡ p
  index_hit [] i p h new first = absurd (omega arith)
  index_hit (x ∷ xs) zero p h new first = rw new
  index_hit (x ∷ xs) (suc i) p h new first = by (f x) first (index_hit xs i p (omega arith) new)
    where
      by : (t : Bool) → suc i ≤ cond t 0 (suc (index f xs)) → (i ≤ index f xs → get_or (set xs i p) (index f (set xs i p)) d ≡ p) →
          get_or (x ∷ set xs i p) (cond t 0 (suc (index f (set xs i p)))) d ≡ p
      by true first g = absurd (omega arith)
      by false first g = g (omega arith)

  -- more elements that fail
  pub index_more : (xs ys : List X) → count_by f ys ≡ 0 → get_or (xs ++ ys) (index f (xs ++ ys)) d ≡ get_or xs (index f xs) d
  index_more [] ys none = missing ys none
    where
      missing : (ys : List X) → count_by f ys ≡ 0 → get_or ys (index f ys) d ≡ d
      missing [] none = refl
      missing (y ∷ ys) none = by (f y) (sym (sum_by-cons (λ z. cond (f z) 1 0) y ys) ∙ none) (missing ys)
        where
          by : (t : Bool) → cond t 1 0 + count_by f ys ≡ 0 → (count_by f ys ≡ 0 → get_or ys (index f ys) d ≡ d) → get_or (y ∷ ys) (cond t 0 (suc (index f ys))) d ≡ d
          by true none g = absurd (omega arith)
          by false none g = g (omega arith)
  index_more (x ∷ xs) ys none = by (f x) (index_more xs ys none)
    where
      by : (t : Bool) → get_or (xs ++ ys) (index f (xs ++ ys)) d ≡ get_or xs (index f xs) d →
          get_or (x ∷ (xs ++ ys)) (cond t 0 (suc (index f (xs ++ ys)))) d ≡ get_or (x ∷ xs) (cond t 0 (suc (index f xs))) d
      by true h = refl
      by false h = h

  -- where none passes, the first is past the end
  pub index_none : (xs : List X) → count_by f xs ≡ 0 → index f xs ≡ length xs
  index_none [] none = refl
  index_none (x ∷ xs) none = by (f x) (sym (sum_by-cons (λ z. cond (f z) 1 0) x xs) ∙ none) (index_none xs)
    where
      by : (t : Bool) → cond t 1 0 + count_by f xs ≡ 0 → (count_by f xs ≡ 0 → index f xs ≡ length xs) → cond t 0 (suc (index f xs)) ≡ suc (length xs)
      by true none g = absurd (omega arith)
      by false none g = ap suc (g (omega arith))

  -- an element that passes is not before the first
  pub index_at_most : (xs ys : List X) (y : X) → f y ≡ true → index f (xs ++ y ∷ ys) ≤ length xs
  index_at_most [] ys y e = rw e (omega arith)
  index_at_most (x ∷ xs) ys y e = by (f x) (index_at_most xs ys y e)
    where
      by : (t : Bool) → index f (xs ++ y ∷ ys) ≤ length xs → cond t 0 (suc (index f (xs ++ y ∷ ys))) ≤ suc (length xs)
      by true h = omega arith
      by false h = omega arith
