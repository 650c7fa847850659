-- The bytes before the first zero.
use Rattle.std.proofs.Common.{◌≡◌, ℕ, zero, suc, ◌+◌, ◌<◌, ◌≤◌, List, [], ◌∷◌, ◌++◌, length, take, replicate, ⊎_elim, sym, refl, ap, ◌∙◌, Option, Some, None, cond, ◌&&◌, ltb, eqb, arith}
use Rattle.std.specs.List.{AllByRecursion, position, position_or_len}
use Rattle.std.specs.Option.{unwrap_or}
use Rattle.std.specs.Str.{bytes_eq}
use Rattle.std.proofs.lemmas.List.Recursion.{is_position_or_len}
use Rattle.std.proofs.lemmas.Bool.{cases_lt, lt-ltb, le-ltb}
use Rattle.std.proofs.lemmas.Bool.Decides.{nat_tests}
use Rattle.layout.specs.Numbers.{all_zero, fit}
use Rattle.layout.specs.Entries.{until_zero}

pub take_until_zero : (bs : List ℕ) → take (length (until_zero bs)) bs ≡ until_zero bs
take_until_zero [] = refl
take_until_zero (zero ∷ bs) = refl
take_until_zero (suc b ∷ bs) = ap (λ l. suc b ∷ l) (take_until_zero bs)

until_short : (bs : List ℕ) → length (until_zero bs) ≤ length bs
until_short [] = omega arith
until_short (zero ∷ bs) = omega arith
until_short (suc b ∷ bs) = omega (arith, until_short bs)

until_step : (b : ℕ) (bs : List ℕ) → length (until_zero (b ∷ bs)) ≡ cond (eqb b 0) 0 (1 + length (until_zero bs))
until_step zero bs = refl
until_step (suc b) bs = grind (arith, nat_tests)

-- the place of the first zero, or the length where there is none
pub until_found : (bs : List ℕ) (found : Option ℕ) → found ≡ position (λ b. eqb b 0) bs → unwrap_or found (length bs) ≡ length (until_zero bs)
until_found bs found e =
    let at : length (until_zero bs) ≡ position_or_len (λ b. eqb b 0) bs = is_position_or_len (λ bs. length (until_zero bs)) (λ b. eqb b 0) refl until_step bs in
    rw (e, ← at) (placed (length (until_zero bs)) (length bs) (until_short bs))
  where
    placed : (m n : ℕ) → m ≤ n → unwrap_or (cond (ltb m n) (Some m) None) n ≡ m
    placed m n h = ⊎_elim (λ (lt : m < n). ap (λ b. unwrap_or (cond b (Some m) None) n) (lt-ltb m n lt)) (λ (le : n ≤ m). ap (λ b. unwrap_or (cond b (Some m) None) n) (le-ltb m n le) ∙ omega arith) (cases_lt m n)

-- a word without zeros, filled with zeros
until_cut : (n : ℕ) (bs zs : List ℕ) → AllByRecursion (λ b. 0 < b) bs → length bs < n → until_zero (take n (bs ++ (0 ∷ zs))) ≡ bs
until_cut zero bs zs h l = absurd (omega arith)
until_cut (suc n) [] zs h l = refl
until_cut (suc n) (zero ∷ bs) zs h l = absurd (omega arith)
until_cut (suc n) (suc b ∷ bs) zs h l = ap (λ r. suc b ∷ r) (until_cut n bs zs h.1 (omega arith))

pub until_fit : (n : ℕ) (bs : List ℕ) → AllByRecursion (λ b. 0 < b) bs → length bs ≤ n → until_zero (fit (suc n) 0 bs) ≡ bs
unfolding fit
until_fit n bs h l = until_cut (suc n) bs (replicate n 0) h (omega arith)

-- n bytes are equal to n zeros exactly if each is zero
pub equal_zeros : (n : ℕ) (bs : List ℕ) → length bs ≡ n → bytes_eq bs (replicate n 0) ≡ all_zero bs
equal_zeros n bs long = ap (λ k. bytes_eq bs (replicate k 0)) (sym long) ∙ by bs
  where
    by : (bs : List ℕ) → bytes_eq bs (replicate (length bs) 0) ≡ all_zero bs
    by [] = refl
    by (b ∷ bs) = ap (λ t. eqb b 0 && t) (by bs)
