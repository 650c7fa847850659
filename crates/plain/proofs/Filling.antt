-- A name that goes into the lowest empty place of a directory, and one that is taken out.
use Rattle.std.proofs.Common.{◌≡◌, ℕ, suc, ◌<◌, ◌≤◌, Bool, true, false, cond, ltb, List, [], ◌∷◌, ◌++◌, map, length, set, replicate, sym, refl, ap, ◌∙◌, ⊎_elim, arith}
use Rattle.std.specs.Str.{bytes_eq}
use Rattle.std.proofs.lemmas.Bool.{cases_lt, lt-ltb, le-ltb}
use Rattle.plain.specs.Trees.{free, file, Place, flat, deep, size, first_free, find, name_at, has_name, append, frees, Plain}
use Rattle.plain.specs.Operations.{roomy, make_in, remove_in}
use Rattle.plain.specs.Laws.{names_at, with_name, without_name}
use Rattle.plain.proofs.Indices.{index}
use Rattle.plain.proofs.Rows.{row, is_free_place, row_size, row_set, row_find, row_free, row_append, row_names}

abbrev Spot : Type 0
Spot = Place (Unit {0})

-- the places of a directory with x in the lowest empty one
abbrev pub lowest : List Spot → Spot → List Spot
lowest [] x = x ∷ replicate 6 (flat free)
lowest (y ∷ ys) x = cond (is_free_place y) (x ∷ ys) (y ∷ lowest ys x)

abbrev grown : List Spot → List Spot
grown xs = cond (ltb (index is_free_place xs) (length xs)) xs (xs ++ replicate 7 (flat free))

grown_more : (y : Spot) (ys : List Spot) → is_free_place y ≡ false → grown (y ∷ ys) ≡ y ∷ grown ys
grown_more y ys e =
    ⊎_elim
    (λ (h : index is_free_place ys < length ys).
    let a = lt-ltb (index is_free_place ys) (length ys) h in
    let b = lt-ltb (suc (index is_free_place ys)) (suc (length ys)) (omega arith) in
    simp (e, a, b))
    (λ (h : length ys ≤ index is_free_place ys).
    let a = le-ltb (index is_free_place ys) (length ys) h in
    let b = le-ltb (suc (index is_free_place ys)) (suc (length ys)) (omega arith) in
    simp (e, a, b))
    (cases_lt (index is_free_place ys) (length ys))

set_lowest : (xs : List Spot) (x : Spot) → set (grown xs) (index is_free_place (grown xs)) x ≡ lowest xs x
set_lowest [] x = refl
set_lowest (y ∷ ys) x = by (is_free_place y) refl (set_lowest ys x)
  where
    by : (t : Bool) → is_free_place y ≡ t → set (grown ys) (index is_free_place (grown ys)) x ≡ lowest ys x → set (grown (y ∷ ys)) (index is_free_place (grown (y ∷ ys))) x ≡ cond t (x ∷ ys) (y ∷ lowest ys x)
    by true e h =
        let g : grown (y ∷ ys) ≡ y ∷ ys = let a : ltb 0 (suc (length ys)) ≡ true = lt-ltb 0 (suc (length ys)) (omega arith) in simp (e, a) in
        rw (g, e)
    by false e h = rw (grown_more y ys e, e) (ap (λ l. y ∷ l) h)

row_roomy : (c : Plain) → row (roomy c) ≡ grown (row c)
row_roomy c =
    by (ltb (first_free c) (size c)) ∙ ap (λ b. cond b (row c) (row c ++ replicate 7 (flat free))) (ap (λ i. ltb i (size c)) (row_free c) ∙ ap (ltb (index is_free_place (row c))) (row_size c))
  where
    by : (t : Bool) → row (cond t c (append c (frees 7))) ≡ cond t (row c) (row c ++ replicate 7 (flat free))
    by true = refl
    by false = row_append c (frees 7)

pub row_make : (x : Spot) (c : Plain) → row (make_in x c) ≡ lowest (row c) x
row_make x c =
    row_set (roomy c) (first_free (roomy c)) x
    ∙ ap (λ i. set (row (roomy c)) i x) (row_free (roomy c))
    ∙ ap (λ r. set r (index is_free_place r) x) (row_roomy c)
    ∙ set_lowest (row c) x

-- used places have names
abbrev pub Named : List Spot → Type 0
Named [] = Unit {0}
Named (flat free ∷ ys) = Named ys
Named (flat (file n f w) ∷ ys) = (0 < length n) × Named ys
Named (deep n d w c ∷ ys) = (0 < length n) × Named ys

lowest_names : (xs : List Spot) (x : Spot) → Named xs → map name_at (lowest xs x) ≡ with_name (map name_at xs) (name_at x)
lowest_names [] x h = refl
lowest_names (flat free ∷ ys) x h = refl
lowest_names (flat (file [] f w) ∷ ys) x h = absurd (omega (arith, h.0))
lowest_names (flat (file (b ∷ n) f w) ∷ ys) x h = ap (λ l. (b ∷ n) ∷ l) (lowest_names ys x h.1)
lowest_names (deep [] d w c ∷ ys) x h = absurd (omega (arith, h.0))
lowest_names (deep (b ∷ n) d w c ∷ ys) x h = ap (λ l. (b ∷ n) ∷ l) (lowest_names ys x h.1)

pub make_names : (x : Spot) (c : Plain) → Named (row c) → names_at (make_in x c) ≡ with_name (names_at c) (name_at x)
make_names x c h = row_names (make_in x c) ∙ ap (map name_at) (row_make x c) ∙ lowest_names (row c) x h ∙ ap (λ l. with_name l (name_at x)) (sym (row_names c))

-- the first place with a name is emptied
without : (xs : List Spot) (n : List ℕ) → 0 < length n → map name_at (set xs (index (has_name n) xs) (flat free)) ≡ without_name (map name_at xs) n
without [] n h = refl
without (flat free ∷ ys) [] h = absurd (omega arith)
without (flat free ∷ ys) (b ∷ n) h = ap (λ l. [] ∷ l) (without ys (b ∷ n) h)
without (flat (file m f w) ∷ ys) n h = by (bytes_eq n m) (without ys n h)
  where
    by : (t : Bool) → map name_at (set ys (index (has_name n) ys) (flat free)) ≡ without_name (map name_at ys) n →
        map name_at (set (flat (file m f w) ∷ ys) (cond t 0 (suc (index (has_name n) ys))) (flat free)) ≡ cond t ([] ∷ map name_at ys) (m ∷ without_name (map name_at ys) n)
    by true g = refl
    by false g = ap (λ l. m ∷ l) g
without (deep m d w c ∷ ys) n h = by (bytes_eq n m) (without ys n h)
  where
    by : (t : Bool) → map name_at (set ys (index (has_name n) ys) (flat free)) ≡ without_name (map name_at ys) n →
        map name_at (set (deep m d w c ∷ ys) (cond t 0 (suc (index (has_name n) ys))) (flat free)) ≡ cond t ([] ∷ map name_at ys) (m ∷ without_name (map name_at ys) n)
    by true g = refl
    by false g = ap (λ l. m ∷ l) g

pub remove_names : (n : List ℕ) (c : Plain) → 0 < length n → names_at (remove_in n c) ≡ without_name (names_at c) n
remove_names n c h =
    row_names (remove_in n c)
    ∙ ap (map name_at) (row_set c (find n c) (flat free) ∙ ap (λ i. set (row c) i (flat free)) (row_find n c))
    ∙ without (row c) n h
    ∙ ap (λ l. without_name l n) (sym (row_names c))
