-- Numbers in bytes, and lists that are joined of parts of one length.
use Rattle.std.proofs.Common.{◌≡◌, ℕ, zero, suc, ◌+◌, ◌*◌, ◌^◌, ◌<◌, ◌≤◌, List, [], ◌∷◌, ◌++◌, length, get_or, take, drop, set, sym, refl, ap, ◌∙◌, ⊎_elim, add-zero, mul-le-mul_left, mul-zero, mul-suc, arith}
use Rattle.std.proofs.lemmas.Nat.{from_be_bytes-to_be_bytes_2, from_be_bytes-to_be_bytes_4}
use lib.Seq.{take-append-add}
use Rattle.std.specs.List.{flat_map}
use Rattle.std.proofs.lemmas.List.{length-append, append_assoc, get_or_past, get_or-take, get_or-drop, take_at, take_all, drop_all}
use Rattle.std.proofs.lemmas.Bool.{cases_lt}
use Rattle.layout.specs.Numbers.{bytes16, bytes32, number16, number32, bytes_at, patched, fit}
use Rattle.layout.proofs.Parts.{behind, length_fit, get_d_fit}

pub length_bytes16 : (n : ℕ) → length (bytes16 n) ≡ 2
unfolding bytes16
length_bytes16 n = refl

pub length_bytes32 : (n : ℕ) → length (bytes32 n) ≡ 4
unfolding bytes32
length_bytes32 n = refl

pub number16_bytes16 : (n : ℕ) → n < 2 ^ 16 → number16 (bytes16 n) ≡ n
unfolding bytes16 number16
number16_bytes16 n h = from_be_bytes-to_be_bytes_2 n h

pub number32_bytes32 : (n : ℕ) → n < 2 ^ 32 → number32 (bytes32 n) ≡ n
unfolding bytes32 number32
number32_bytes32 n h = from_be_bytes-to_be_bytes_4 n h

get_d_bytes_at : (i n k : ℕ) (bs : List ℕ) → k < n → get_or (bytes_at i n bs) k 0 ≡ get_or bs (i + k) 0
get_d_bytes_at i n k bs h = get_or-take n (drop i bs) k 0 h ∙ get_or-drop i bs k 0

pub number16_at : (i : ℕ) (bs : List ℕ) → number16 (bytes_at i 2 bs) ≡ get_or bs i 0 * 256 + get_or bs (i + 1) 0
unfolding number16
number16_at i bs = omega (arith, get_d_bytes_at i 2 0 bs (omega arith), get_d_bytes_at i 2 1 bs (omega arith), ap (λ k. get_or bs k 0) (add-zero i))

pub number32_at : (i : ℕ) (bs : List ℕ) → number32 (bytes_at i 4 bs) ≡ get_or bs i 0 * 16777216 + get_or bs (i + 1) 0 * 65536 + get_or bs (i + 2) 0 * 256 + get_or bs (i + 3) 0
unfolding number32
number32_at i bs =
    omega (arith, get_d_bytes_at i 4 0 bs (omega arith), get_d_bytes_at i 4 1 bs (omega arith), get_d_bytes_at i 4 2 bs (omega arith), get_d_bytes_at i 4 3 bs (omega arith), ap (λ k. get_or bs k 0) (add-zero i))

module _ {X : Type 0} (f : X → List ℕ) (n : ℕ) (len : (x : X) → length (f x) ≡ n) where
  pub length_joined : (xs : List X) → length (flat_map f xs) ≡ n * length xs
  length_joined [] = sym (mul-zero n)
  length_joined (x ∷ xs) = length-append (f x) (flat_map f xs) ∙ omega (arith, len x, length_joined xs, mul-suc n (length xs))

  -- part s, and none past the end
  pub joined_at : (xs : List X) (s : ℕ) (d : X) → s < length xs → bytes_at (n * s) n (flat_map f xs) ≡ f (get_or xs s d)
  joined_at [] s d h = absurd (omega arith)
  joined_at (x ∷ xs) zero d h = ap (λ k. take n (drop k (f x ++ flat_map f xs))) (mul-zero n) ∙ take_at (f x) (flat_map f xs) n (len x)
  joined_at (x ∷ xs) (suc s) d h =
      let next : n * suc s ≡ n + n * s = omega (arith, mul-suc n s) in
      ap (λ k. take n (drop k (f x ++ flat_map f xs))) next ∙ ap (take n) (behind (f x) (flat_map f xs) n (n * s) (len x)) ∙ joined_at xs s d (omega arith)

  pub joined_past : (xs : List X) (s : ℕ) → length xs ≤ s → bytes_at (n * s) n (flat_map f xs) ≡ []
  joined_past xs s h = ap (take n) (drop_all (n * s) (flat_map f xs) (omega (arith, length_joined xs, mul-le-mul_left n h))) ∙ take_all n [] (omega arith)

  -- with another part s, as a write of it leaves them
  joined_set : (xs : List X) (s : ℕ) (y : X) → s < length xs → flat_map f (set xs s y) ≡ take (n * s) (flat_map f xs) ++ (f y ++ drop (n * s + n) (flat_map f xs))
  joined_set [] s y h = absurd (omega arith)
  joined_set (x ∷ xs) zero y h =
      let start = mul-zero n in
      let whole : n * 0 + n ≡ n + 0 = omega arith in
      rw (whole, start, behind (f x) (flat_map f xs) n 0 (len x))
  joined_set (x ∷ xs) (suc s) y h =
      let next : n * suc s ≡ n + n * s = omega (arith, mul-suc n s) in
      let after : n + n * s + n ≡ n + (n * s + n) = omega arith in
      let front : take (n + n * s) (f x ++ flat_map f xs) ≡ f x ++ take (n * s) (flat_map f xs) = ap (λ k. take (k + n * s) (f x ++ flat_map f xs)) (sym (len x)) ∙ take-append-add (f x) (flat_map f xs) (n * s) in
      rw (next, after, front, behind (f x) (flat_map f xs) n (n * s + n) (len x), append_assoc) (ap (λ l. f x ++ l) (joined_set xs s y (omega arith)))

  pub joined_patched : (xs : List X) (s : ℕ) (y : X) → s < length xs → patched (n * s) (f y) (flat_map f xs) ≡ flat_map f (set xs s y)
  unfolding patched
  joined_patched xs s y h = ap (λ l. take (n * s) (flat_map f xs) ++ (f y ++ drop (n * s + l) (flat_map f xs))) (len y) ∙ sym (joined_set xs s y h)

-- number i of those that fill n places
pub number_at : (n : ℕ) (xs : List ℕ) (i : ℕ) → length xs ≤ n → get_or xs i 0 < 2 ^ 32 → number32 (bytes_at (4 * i) 4 (flat_map bytes32 (fit n 0 xs))) ≡ get_or xs i 0
unfolding number32
number_at n xs i short h = ⊎_elim within past (cases_lt i n)
  where
    full : length (fit n 0 xs) ≡ n
    full = length_fit n 0 xs

    within : i < n → number32 (bytes_at (4 * i) 4 (flat_map bytes32 (fit n 0 xs))) ≡ get_or xs i 0
    within lt = ap number32 (joined_at bytes32 4 length_bytes32 (fit n 0 xs) i 0 (omega (arith, full)) ∙ ap bytes32 (get_d_fit n 0 xs i short)) ∙ number32_bytes32 (get_or xs i 0) h

    past : n ≤ i → number32 (bytes_at (4 * i) 4 (flat_map bytes32 (fit n 0 xs))) ≡ get_or xs i 0
    past le = ap number32 (joined_past bytes32 4 length_bytes32 (fit n 0 xs) i (omega (arith, full))) ∙ sym (get_or_past xs i 0 (omega arith))
