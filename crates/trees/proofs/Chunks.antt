-- Chunks of a list: n elements at a time.
use Rattle.std.proofs.Common.{◌≡◌, ℕ, suc, ◌+◌, ◌*◌, ◌<◌, List, [], ◌∷◌, ◌++◌, map, length, get_or, take, drop, sym, ap, ◌∙◌, mul-le-mul_left, mul-zero, mul-suc, arith, take-add}
use Rattle.std.specs.List.{flat_map}
use Rattle.std.proofs.lemmas.List.{length-take, length-drop, get_or-take, get_or-drop, nil_from_length, take-append-drop, take-map, drop-map, drop-drop}
use Rattle.trees.proofs.Lists.{chunk, chunk_first, chunk_next}

-- chunks of a list, joined, are the list
module _ {X : Type 0} (n : ℕ) (g : ℕ → List X) where
  pub joined_chunks : (l : List ℕ) (xs : List X) → length xs ≡ n * length l → ((j : ℕ) → j < length l → g (get_or l j 0) ≡ chunk n j xs) → flat_map g l ≡ xs
  joined_chunks [] xs long h = sym (nil_from_length xs (long ∙ mul-zero n))
  joined_chunks (a ∷ l) xs long h =
      ap (λ k. k ++ flat_map g l) (h 0 (omega arith) ∙ chunk_first n xs)
      ∙ ap (λ k. take n xs ++ k) (joined_chunks l (drop n xs) (length-drop n xs ∙ omega (arith, mul-suc n (length l))) (λ j lt. h (suc j) (omega arith) ∙ chunk_next n j xs))
      ∙ take-append-drop n xs

-- a chunk is whole where there are elements enough
pub length_chunk : {X : Type 0} (n j k : ℕ) (xs : List X) → length xs ≡ n * k → j < k → length (chunk n j xs) ≡ n
length_chunk n j k xs long lt = length-take n (drop (n * j) xs) ∙ omega (arith, length-drop (n * j) xs, mul-le-mul_left n lt, mul-suc n j)

pub map_chunk : {X Y : Type 0} (f : X → Y) (n j : ℕ) (xs : List X) → map f (chunk n j xs) ≡ chunk n j (map f xs)
map_chunk f n j xs = sym (take-map f n (drop (n * j) xs)) ∙ ap (take n) (sym (drop-map f (n * j) xs))

-- element i of a chunk, and a chunk with those after it
pub get_d_chunk : {X : Type 0} (n j i k : ℕ) (xs : List X) (d : X) → i < n → n * j + i ≡ k → get_or (chunk n j xs) i d ≡ get_or xs k d
get_d_chunk n j i k xs d lt is = get_or-take n (drop (n * j) xs) i d lt ∙ get_or-drop (n * j) xs i d ∙ ap (λ k. get_or xs k d) is

pub chunk_more : {X : Type 0} (n s count : ℕ) (xs : List X) → chunk n s xs ++ take (n * count) (drop (n * (s + 1)) xs) ≡ take (n * suc count) (drop (n * s) xs)
chunk_more n s count xs =
    let start : n * s + n ≡ n * (s + 1) = omega (arith, mul-suc n s) in
    let long : n + n * count ≡ n * suc count = omega (arith, mul-suc n count) in
    ap (λ k. chunk n s xs ++ take (n * count) (drop k xs)) (sym start)
    ∙ ap (λ l. chunk n s xs ++ take (n * count) l) (sym (drop-drop n (n * s) xs))
    ∙ sym (take-add n (n * count) (drop (n * s) xs))
    ∙ ap (λ k. take k (drop (n * s) xs)) long
