-- What two devices end to end have of each.
use Rattle.std.specs.Prelude.{◌≡◌, ℕ, ◌-◌, ◌<◌, ◌≤◌, true, cond, List, length, is_ok, nat_lt, refl}
use Rattle.std.proofs.Common.{sym, ap, ◌∙◌, arith}
use Rattle.std.proofs.lemmas.List.{length-set, set-append_left, set-append_right}
use Rattle.std.proofs.lemmas.Bool.{lt-ltb, le-ltb}
use Rattle.device.specs.Refusals.{Answer}
use Rattle.device.specs.Meaning.{held, Meaning, size, put}
use Rattle.device.specs.Calls.{Reads, Writes}
use Rattle.device.proofs.Calls.{read_below, write_below}
use Rattle.layers.specs.Concatenations.{joins, concatenation, first_after, second_after}
use Rattle.layers.specs.Soundness.{joined_size, joined, kinds, first_cell, second_cell}

module _ (l : ℕ) (a b : Meaning) where
  first_put : (i : ℕ) (buf : List ℕ) → joins a b ≡ true → i < size a → concatenation l (put a i buf) b ≡ put (concatenation l a b) i buf
  first_put i buf e h =
      let n = length-set a.cells i (held buf) in
      let s = set-append_left a.cells b.cells i (held buf) h in
      ap (λ cs. record { label = l; kind = a.kind; cells = cs; place = (concatenation l (put a i buf) b).place }) (simp (n, e, s))
      ∙ ap (λ m. record { label = l; kind = a.kind; cells = (put (concatenation l a b) i buf).cells; place = λ j. cond (nat_lt j m) (a.place j) (b.place (j - m)) }) n

  second_put : (i : ℕ) (buf : List ℕ) → joins a b ≡ true → size a ≤ i → concatenation l a (put b (i - size a) buf) ≡ put (concatenation l a b) i buf
  second_put i buf e h =
      let n = length-set b.cells (i - size a) (held buf) in
      let s = sym (set-append_right a.cells b.cells (size a) i (held buf) refl h) in
      ap (λ cs. record { label = l; kind = a.kind; cells = cs; place = (concatenation l a b).place }) (simp (n, e, s))

  -- a call that is admitted, and answered by the part that has the block
  module _ (i : ℕ) (buf : List ℕ) (r : Answer) (whole : length buf ≡ 512) (within : i < size (concatenation l a b)) where
    module _ (lt : i < size a) where
      first_place : (concatenation l a b).place i ≡ a.place i
      first_place = let t = lt-ltb i (size a) lt in simp t

      pub first_read : {buf' : List ℕ} {a' : Meaning} → Reads a i buf r buf' a' → Reads (concatenation l a b) i buf r buf' (concatenation l a' b)
      first_read h = read_below (concatenation l a b) a i i buf r whole within lt (first_cell l a b i (joined l a b i within) lt) first_place (ap (λ x. concatenation l x b) h.same) h

      pub first_write : {a' : Meaning} → Writes a i buf r a' → Writes (concatenation l a b) i buf r (concatenation l a' b)
      first_write h =
          let e = joined l a b i within in
          write_below (concatenation l a b) a i i buf r whole within lt (first_cell l a b i e lt) first_place (λ x. concatenation l x b) refl refl (first_put i buf e lt) h

      pub first_after_lem : {a' : Meaning} → Writes a i buf r a' → (a' ≡ first_after (is_ok r) a i buf) × (b ≡ second_after (is_ok r) a b i buf)
      first_after_lem h = let t = lt-ltb i (size a) lt in (rw t h.after, rw t)

    module _ (ge : size a ≤ i) where
      second_place : (concatenation l a b).place i ≡ b.place (i - size a)
      second_place = let t = le-ltb i (size a) ge in simp t

      in_second : i - size a < size b
      in_second = omega (arith, joined_size l a b (joined l a b i within))

      pub second_read : {buf' : List ℕ} {b' : Meaning} → Reads b (i - size a) buf r buf' b' → Reads (concatenation l a b) i buf r buf' (concatenation l a b')
      second_read h =
          read_below (concatenation l a b) b i (i - size a) buf r whole within in_second (second_cell l a b i (joined l a b i within) ge) second_place (ap (concatenation l a) h.same) h

      pub second_write : {b' : Meaning} → Writes b (i - size a) buf r b' → Writes (concatenation l a b) i buf r (concatenation l a b')
      second_write h =
          let e = joined l a b i within in
          write_below (concatenation l a b) b i (i - size a) buf r whole within in_second (second_cell l a b i e ge) second_place (concatenation l a) (kinds l a b e) refl (second_put i buf e ge) h

      pub second_after_lem : {b' : Meaning} → Writes b (i - size a) buf r b' → (a ≡ first_after (is_ok r) a i buf) × (b' ≡ second_after (is_ok r) a b i buf)
      second_after_lem h = let t = le-ltb i (size a) ge in (rw t, rw t h.after)
