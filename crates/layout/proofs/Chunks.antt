-- A slice as chunks of one length.
use Rattle.std.proofs.Common.{◌≡◌, ℕ, zero, suc, ◌*◌, List, [], length, get_or, take, drop, ap, ◌∙◌, sym, mul-zero, mul-suc, refl, Bor, Option, Some, None, arith}
use Rattle.std.specs.Option.{unwrap_or, option_map}
use Rattle.std.specs.Simd.{first_chunks}
use Rattle.std.proofs.lemmas.List.{length-drop, length-take-le, drop-drop, drop_all, take_all}
use Rattle.layout.specs.Numbers.{bytes_at}

-- what F makes of chunk i, where d stands for the missing ones
module _ {Y : Type 0} (F : List ℕ → Y) (d : List ℕ) (missing : F d ≡ F []) (n : ℕ) where
  pub chunk_at : (k : ℕ) (xs : List ℕ) (i : ℕ) → length xs ≡ n * k → F (get_or (first_chunks n k xs) i d) ≡ F (bytes_at (n * i) n xs)
  chunk_at zero xs i e = missing ∙ ap F (sym (ap (take n) (drop_all (n * i) xs (omega (arith, mul-zero n))) ∙ take_all n [] (omega arith)))
  chunk_at (suc k) xs zero e = ap (λ m. F (take n (drop m xs))) (sym (mul-zero n))
  chunk_at (suc k) xs (suc i) e =
      chunk_at k (drop n xs) i (omega (arith, length-drop n xs, mul-suc n k)) ∙ ap (λ ys. F (take n ys)) (drop-drop (n * i) n xs)
      ∙ ap (λ m. F (take n (drop m xs))) (omega (arith, mul-suc n i))

pub chunk_long : (n k : ℕ) (xs : List ℕ) (i : ℕ) (d : List ℕ) → length d ≡ n → length xs ≡ n * k → length (get_or (first_chunks n k xs) i d) ≡ n
chunk_long n zero xs i d e l = e
chunk_long n (suc k) xs zero d e l = length-take-le n xs (omega (arith, mul-suc n k))
chunk_long n (suc k) xs (suc i) d e l = chunk_long n k (drop n xs) i d e (omega (arith, length-drop n xs, mul-suc n k))

-- where a reference or its stand-in points
pub now_or : (got : Option (Bor (List ℕ))) (d : Bor (List ℕ)) → (unwrap_or got d).now ≡ unwrap_or (option_map (λ x. x.now) got) d.now
now_or None d = refl
now_or (Some x) d = refl
