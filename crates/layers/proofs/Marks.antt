-- The bits that a block of bits holds: that of block b is bit 7 - b % 8 of its byte, as the library counts bits.
use Rattle.std.specs.Prelude.{◌≡◌, ℕ, zero, suc, ◌-◌, ◌*◌, ◌/◌, ◌%◌, ◌^◌, ◌<◌, true, not, List, length, ◌==◌, ◌≢◌, bit_and, nat_eq, slice_index, slice_index_or, refl}
use Rattle.std.proofs.Common.{ap, ◌∙◌, ⊎_elim, pow_pos, arith}
use Rattle.std.specs.Int.{bit_at}
use Rattle.std.specs.Int.Bits.{bit_or}
use Rattle.std.proofs.lemmas.Nat.Bits.{and_pow, bit_at-lt, bit_at_or, bit_at-pow_same, bit_at-pow_other}
use Rattle.std.proofs.lemmas.List.{get_or-set_same, get_or-set_other}
use Rattle.std.proofs.lemmas.Bool.{cases_eq, eq-eqb, ne_eqb}
use Rattle.layers.specs.FakeWorms.{bit_byte, worth, marked, marks}

power : (j : ℕ) → j < 8 → 128 / 2 ^ j ≡ 2 ^ (7 - j)
power zero lt = refl
power (suc zero) lt = refl
power (suc (suc zero)) lt = refl
power (suc (suc (suc zero))) lt = refl
power (suc (suc (suc (suc zero)))) lt = refl
power (suc (suc (suc (suc (suc zero))))) lt = refl
power (suc (suc (suc (suc (suc (suc zero)))))) lt = refl
power (suc (suc (suc (suc (suc (suc (suc zero))))))) lt = refl
power (suc (suc (suc (suc (suc (suc (suc (suc j)))))))) lt = absurd (omega arith)

worth_is : (b : ℕ) → worth b ≡ 2 ^ (7 - b % 8)
worth_is b = power (b % 8) (omega arith)

-- the test by the mask
pub mask_test : (v b : ℕ) → not (bit_and v (worth b) == 0) ≡ (v / worth b % 2 == 1)
mask_test v b = rw worth_is (ap (λ x. not (x == 0)) (and_pow v (7 - b % 8)) ∙ by (bit_at v (7 - b % 8)) (bit_at-lt v (7 - b % 8)))
  where
    by : (x : ℕ) → x < 2 → not (x * 2 ^ (7 - b % 8) == 0) ≡ (x == 1)
    by zero lt = let none : 0 * 2 ^ (7 - b % 8) ≡ 0 = omega arith in rw none
    by (suc zero) lt = let some = ne_eqb (1 * 2 ^ (7 - b % 8)) 0 (λ z. omega (arith, pow_pos (7 - b % 8))) in simp some
    by (suc (suc x)) lt = absurd (omega arith)

module _ (bits : List ℕ) (b : ℕ) (whole : length bits ≡ 512) where
  at_b : slice_index_or (marks bits b) (bit_byte b) 0 ≡ bit_or (slice_index bits (bit_byte b)) (2 ^ (7 - b % 8))
  at_b = get_or-set_same bits (bit_byte b) _ 0 (omega arith) ∙ ap (bit_or (slice_index bits (bit_byte b))) (worth_is b)

  pub marks_here : marked (marks bits b) b ≡ true
  marks_here =
      let k = 7 - b % 8 in
      let v = slice_index bits (bit_byte b) in
      rw (at_b, worth_is) (eq-eqb (bit_at (bit_or v (2 ^ k)) k) 1 (bit_at_or v (2 ^ k) k ∙ omega (arith, bit_at-lt v k, bit_at-pow_same k)))

  pub marks_there : (k : ℕ) → (k ≢ b) → k / 4096 ≡ b / 4096 → marked (marks bits b) k ≡ marked bits k
  marks_there k ne same = ⊎_elim in_byte (λ other. rw (get_or-set_other bits (bit_byte b) (bit_byte k) (bit_or (slice_index bits (bit_byte b)) (worth b)) 0 other)) (cases_eq (bit_byte k) (bit_byte b))
    where
      in_byte : bit_byte k ≡ bit_byte b → marked (marks bits b) k ≡ marked bits k
      in_byte e =
          let i = 7 - b % 8 in
          let j = 7 - k % 8 in
          let v = slice_index bits (bit_byte b) in
          let apart : j ≡ i → ⊥ = λ f. ne (omega arith) in
          rw (e, at_b, worth_is) (ap (λ x. nat_eq x 1) (bit_at_or v (2 ^ i) j ∙ omega (arith, bit_at-pow_other i j apart)))
