-- Parts of lists, and lists of a fixed length.
use Rattle.std.proofs.Common.{◌≡◌, ℕ, zero, suc, ◌+◌, ◌-◌, ◌<◌, ◌≤◌, min, List, [], ◌∷◌, ◌++◌, length, get_or, take, drop, replicate, sym, refl, ap, ◌∙◌, ⊎_elim, zero-add, arith}
use lib.Seq.{drop-append-add, take-append-add}
use Rattle.std.proofs.lemmas.List.{length-append, length-take, length-replicate, take_all, take_at, take-take, drop_all, drop-drop, drop-take, append-nil, get_or-take, get_or_past, take-append-le, take-replicate, drop-replicate}
use Rattle.std.proofs.lemmas.Bool.{cases_lt}
use Rattle.layout.specs.Numbers.{bytes_at, fit}

module _ {X : Type 0} where
  -- what stands behind the n elements of xs
  pub behind : (xs ys : List X) (n k : ℕ) → length xs ≡ n → drop (n + k) (xs ++ ys) ≡ drop k ys
  behind xs ys n k e = sym (ap (λ l. drop (l + k) (xs ++ ys)) e) ∙ drop-append-add xs ys k

  pub length_fit : (n : ℕ) (d : X) (xs : List X) → length (fit n d xs) ≡ n
  unfolding fit
  length_fit n d xs = simp (length-take, length-append, length-replicate) (omega arith)

  pub fit_whole : (n : ℕ) (d : X) (xs : List X) → length xs ≡ n → fit n d xs ≡ xs
  unfolding fit
  fit_whole n d xs e = take_at xs (replicate n d) n e

  pub fit_none : (n : ℕ) (d : X) → fit n d [] ≡ replicate n d
  unfolding fit
  fit_none n d = take_all n (replicate n d) (omega (arith, length-replicate n d))

  -- elements d at the end are what an element past the end is taken for
  get_d_filler : (n i : ℕ) (d : X) → get_or (replicate n d) i d ≡ d
  get_d_filler zero i d = refl
  get_d_filler (suc n) zero d = refl
  get_d_filler (suc n) (suc i) d = get_d_filler n i d

  get_d_filled : (n : ℕ) (d : X) (xs : List X) (i : ℕ) → get_or (xs ++ replicate n d) i d ≡ get_or xs i d
  get_d_filled n d [] i = get_d_filler n i d
  get_d_filled n d (x ∷ xs) zero = refl
  get_d_filled n d (x ∷ xs) (suc i) = get_d_filled n d xs i

  pub get_d_fit : (n : ℕ) (d : X) (xs : List X) (i : ℕ) → length xs ≤ n → get_or (fit n d xs) i d ≡ get_or xs i d
  unfolding fit
  get_d_fit n d xs i short =
      ⊎_elim (λ (h : i < n). get_or-take n (xs ++ replicate n d) i d h ∙ get_d_filled n d xs i)
      (λ (h : n ≤ i). get_or_past (fit n d xs) i d (omega (arith, length_fit n d xs)) ∙ sym (get_or_past xs i d (omega arith))) (cases_lt i n)

  -- as many elements of xs as there is room for, written over n elements d
  pub fit_copied : (n m : ℕ) (d : X) (xs : List X) → m ≡ min (length xs) n → take m xs ++ drop m (replicate n d) ≡ fit n d xs
  unfolding fit
  fit_copied n m d xs e = ⊎_elim cut filled (cases_lt n (length xs))
    where
      cut : n < length xs → take m xs ++ drop m (replicate n d) ≡ take n (xs ++ replicate n d)
      cut h =
          let all : m ≡ n = omega arith in
          rw (all, drop_all n (replicate n d) (omega (arith, length-replicate n d)), append-nil) (sym (take-append-le n xs (replicate n d) (omega arith)))

      filled : length xs ≤ n → take m xs ++ drop m (replicate n d) ≡ take n (xs ++ replicate n d)
      filled h =
          let all : m ≡ length xs = omega arith in
          let rest : length xs + (n - length xs) ≡ n = omega arith in
          rw (all, take_all (length xs) xs (omega arith), drop-replicate (length xs) n d)
          (sym (ap (λ k. take k (xs ++ replicate n d)) (sym rest) ∙ take-append-add xs (replicate n d) (n - length xs) ∙ ap (λ l. xs ++ l) (take-replicate (n - length xs) n d (omega arith))))

-- a part of the n bytes from a on: k bytes from i on
pub part_within : (a n i k : ℕ) (bs : List ℕ) → i + k ≤ n → bytes_at i k (bytes_at a n bs) ≡ bytes_at (a + i) k bs
part_within a n i k bs h =
    let m : i + (n - i) ≡ n = omega arith in
    let inner : drop i (take n (drop a bs)) ≡ take (n - i) (drop (a + i) bs) =
    ap (λ l. drop i (take l (drop a bs))) (sym m) ∙ drop-take i (n - i) (drop a bs) ∙ ap (take (n - i)) (drop-drop i a bs) in
    ap (take k) inner ∙ take-take k (n - i) (drop (a + i) bs) (omega arith)

-- and past them
pub part_past : (a n i k : ℕ) (bs : List ℕ) → n ≤ i → bytes_at i k (bytes_at a n bs) ≡ []
part_past a n i k bs h = ap (take k) (drop_all i (bytes_at a n bs) (omega (arith, length-take n (drop a bs)))) ∙ take_all k [] (omega arith)

-- a part of the first n bytes
pub part_of_front : (n i k : ℕ) (bs : List ℕ) → i + k ≤ n → bytes_at i k (bytes_at 0 n bs) ≡ bytes_at i k bs
part_of_front n i k bs h = part_within 0 n i k bs h ∙ ap (λ j. bytes_at j k bs) (zero-add i)
