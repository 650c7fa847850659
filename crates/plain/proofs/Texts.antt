-- Texts that are filled up with zeros.
use Rattle.std.proofs.Common.{◌≡◌, ℕ, ◌≤◌, true, List, ◌++◌, length, take, drop, replicate, ◌-◌, eqb, ◌&&◌, sym, ap, ◌∙◌, arith}
use Rattle.std.specs.Str.{bytes_eq}
use Rattle.std.proofs.lemmas.Slice.Eq.{bytes_eq-Decides}
use Rattle.std.proofs.lemmas.Bool.{and_parts, and_from, eqb-true, eq-eqb}
use Rattle.std.proofs.lemmas.Bool.Decides.{same_from_decides}
use Rattle.std.proofs.lemmas.List.{append_cancel_right, length-take-le, take-append-drop}

-- two buffers of n bytes and their lengths are equal exactly if the texts are
pub filled_equal : (n : ℕ) (v w : List ℕ) → (bytes_eq (v ++ replicate (n - length v) 0) (w ++ replicate (n - length w) 0) && eqb (length v) (length w)) ≡ bytes_eq v w
filled_equal n v w = same_from_decides _ _ (one, two) (bytes_eq-Decides v w)
  where
    one : (bytes_eq (v ++ replicate (n - length v) 0) (w ++ replicate (n - length w) 0) && eqb (length v) (length w)) ≡ true → v ≡ w
    one h =
        let p = and_parts (bytes_eq (v ++ replicate (n - length v) 0) (w ++ replicate (n - length w) 0)) (eqb (length v) (length w)) h in
        let l = eqb-true (length v) (length w) p.1 in
        append_cancel_right v w (replicate (n - length w) 0) (ap (λ k. v ++ replicate (n - k) 0) (sym l) ∙ (bytes_eq-Decides _ _).0 p.0)

    two : v ≡ w → (bytes_eq (v ++ replicate (n - length v) 0) (w ++ replicate (n - length w) 0) && eqb (length v) (length w)) ≡ true
    two e = and_from _ _ ((bytes_eq-Decides _ _).1 (ap (λ u. u ++ replicate (n - length u) 0) e)) (eq-eqb _ _ (ap length e))

-- a buffer of n bytes is its text, of i bytes, and the zeros behind it
pub filled : (n i : ℕ) (bytes : List ℕ) → length bytes ≡ n → i ≤ n → drop i bytes ≡ replicate (n - i) 0 → bytes ≡ take i bytes ++ replicate (n - length (take i bytes)) 0
filled n i bytes whole fits zeros =
    let long : length (take i bytes) ≡ i = length-take-le i bytes (omega (arith, whole, fits)) in
    sym (take-append-drop i bytes) ∙ ap (λ rest. take i bytes ++ rest) (zeros ∙ ap (λ k. replicate (n - k) 0) (sym long))

-- two such buffers, whose texts have i and j bytes, and their lengths are equal exactly if the texts are
pub texts_equal : (n i j : ℕ) (v w : List ℕ) → length v ≡ n → length w ≡ n → i ≤ n → j ≤ n → drop i v ≡ replicate (n - i) 0 → drop j w ≡ replicate (n - j) 0
    → (bytes_eq v w && eqb i j) ≡ bytes_eq (take i v) (take j w)
texts_equal n i j v w whole whole' fits fits' zeros zeros' =
    let long : length (take i v) ≡ i = length-take-le i v (omega (arith, whole, fits)) in
    let long' : length (take j w) ≡ j = length-take-le j w (omega (arith, whole', fits')) in
    ap (λ b. bytes_eq b w && eqb i j) (filled n i v whole fits zeros)
    ∙ ap (λ b. bytes_eq (take i v ++ replicate (n - length (take i v)) 0) b && eqb i j) (filled n j w whole' fits' zeros')
    ∙ ap (λ k. bytes_eq (take i v ++ replicate (n - length (take i v)) 0) (take j w ++ replicate (n - length (take j w)) 0) && eqb k j) (sym long)
    ∙ ap (λ k. bytes_eq (take i v ++ replicate (n - length (take i v)) 0) (take j w ++ replicate (n - length (take j w)) 0) && eqb (length (take i v)) k) (sym long')
    ∙ filled_equal n (take i v) (take j w)
