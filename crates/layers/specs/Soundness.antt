-- The proofs of the laws of the layers, which their impls cite. Nothing here has to be believed: an impl takes the proof of a law
-- from specs/ alone.
use Rattle.std.specs.Prelude.{◌≡◌, ℕ, zero, suc, ◌+◌, ◌-◌, ◌/◌, ◌<◌, ◌≤◌, min, Bool, true, false, cond, [], ◌++◌, length, refl}
use Rattle.std.proofs.Common.{sym, subst, ⊎_elim, arith}
use Rattle.std.proofs.lemmas.List.{length-append, get_or_append_left, get_or-append_right}
use Rattle.std.proofs.lemmas.List.FromFn.{length-map-range_with_len}
use Rattle.std.proofs.lemmas.Bool.{le-leb, lt-leb, leb-true, and_parts, cases_lt, cases_Bool}
use Rattle.device.specs.declared.interface.Kind.{Kind}
use Rattle.device.specs.declared.interface.Kind.TheVariants.{Rewritable, WriteOnce}
use Rattle.device.specs.Meaning.{Cell, blank, held, spoiled, Meaning, size, cell, Sound, Legal}
use Rattle.device.proofs.Tables.{table_at}
use Rattle.layers.specs.Kinds.{same_kind}
use Rattle.layers.specs.Concatenations.{joins, concatenation}
use Rattle.layers.specs.Mirrors.{mirror_cell, mirror_size, mirror_at, mirror}
use Rattle.layers.specs.FakeWorms.{worm_fits, largest_to, worm_size, worm_blocks, bit_block, marked, worm_cell, worm_at, fake_worm}

-- a test on kinds turned into an equation
pub same_kind_lem : (k j : Kind) → same_kind k j ≡ true → k ≡ j
same_kind_lem Rewritable Rewritable e = refl
same_kind_lem Rewritable WriteOnce e = cc
same_kind_lem WriteOnce Rewritable e = cc
same_kind_lem WriteOnce WriteOnce e = refl

-- two devices end to end

module _ (l : ℕ) (a b : Meaning) where
  pub joined_size : joins a b ≡ true → size (concatenation l a b) ≡ size a + size b
  joined_size e = simp (e, length-append)

  -- only where the parts fit is there a block
  pub joined : (i : ℕ) → i < size (concatenation l a b) → joins a b ≡ true
  joined i h = by (joins a b) h
    where
      by : (t : Bool) → i < length (cond t (a.cells ++ b.cells) []) → t ≡ true
      by true h = refl
      by false h = absurd (omega arith)

  pub kinds : joins a b ≡ true → a.kind ≡ b.kind
  kinds e = same_kind_lem _ _ (and_parts (same_kind a.kind b.kind) _ e).0

  pub first_cell : (i : ℕ) → joins a b ≡ true → i < size a → cell (concatenation l a b) i ≡ cell a i
  first_cell i e h = simp e (get_or_append_left a.cells b.cells spoiled i h)

  pub second_cell : (i : ℕ) → joins a b ≡ true → size a ≤ i → cell (concatenation l a b) i ≡ cell b (i - size a)
  second_cell i e h = simp e (get_or-append_right a.cells b.cells (size a) i spoiled refl h)

  pub joined_sound : Sound a → Sound b → Sound (concatenation l a b)
  joined_sound p q = record { bounded = bounded; legal = legal }
    where
      bounded : size (concatenation l a b) ≤ 65536
      bounded =
          ⊎_elim
          (λ (e : joins a b ≡ true). rw (joined_size e) (leb-true _ _ (and_parts (same_kind a.kind b.kind) _ e).1))
          (λ (e : joins a b ≡ false). let z : size (concatenation l a b) ≡ 0 = simp e in omega arith)
          (cases_Bool (joins a b))

      legal : (i : ℕ) → i < size (concatenation l a b) → Legal a.kind (cell (concatenation l a b) i)
      legal i h =
          let e = joined i h in
          let w = joined_size e in
          ⊎_elim
          (λ lt. rw (first_cell i e lt) (p.legal i lt))
          (λ ge. rw (second_cell i e ge, kinds e) (q.legal (i - size a) (omega arith)))
          (cases_lt i (size a))

-- two devices side by side

legal_merged : (k : Kind) (x y : Cell) → Legal k x → Legal k y → Legal k (mirror_cell x y)
legal_merged k (held bytes) y p q = p
legal_merged k blank (held bytes) p q = q
legal_merged k blank blank p q = p
legal_merged k blank spoiled p q = p
legal_merged k spoiled (held bytes) p q = q
legal_merged k spoiled blank p q = q
legal_merged k spoiled spoiled p q = tt

module _ (l : ℕ) (a b : Meaning) where
  pub mirror_size_lem : size (mirror l a b) ≡ mirror_size a b
  mirror_size_lem = length-map-range_with_len (mirror_at a b) 0 (mirror_size a b)

  pub within_both : (i : ℕ) → i < size (mirror l a b) → (a.kind ≡ b.kind) × (i < size a) × (i < size b)
  within_both i h = by (same_kind a.kind b.kind) (same_kind_lem a.kind b.kind) (rw mirror_size_lem at h)
    where
      by : (t : Bool) → (t ≡ true → a.kind ≡ b.kind) → i < cond t (min (size a) (size b)) 0 → (a.kind ≡ b.kind) × (i < size a) × (i < size b)
      by true same h = (same refl, omega arith, omega arith)
      by false same h = absurd (omega arith)

  pub mirror_cell_lem : (i : ℕ) → i < size (mirror l a b) → cell (mirror l a b) i ≡ mirror_cell (cell a i) (cell b i)
  mirror_cell_lem i h = table_at (mirror_at a b) (mirror_size a b) i spoiled (rw mirror_size_lem at h)

  pub mirror_sound : Sound a → Sound b → Sound (mirror l a b)
  mirror_sound p q = record {
    bounded = rw mirror_size_lem (small (same_kind a.kind b.kind));
    legal = λ i h.
        let w = within_both i h in
        rw (mirror_cell_lem i h) (legal_merged a.kind (cell a i) (cell b i) (p.legal i w.1) (subst (λ k. Legal k (cell b i)) (sym w.0) (q.legal i w.2)));
  }
    where
      small : (t : Bool) → cond t (min (size a) (size b)) 0 ≤ 65536
      small true = omega (arith, p.bounded)
      small false = omega arith

-- a fake worm; its size in closed form

abbrev closed : ℕ → ℕ
closed n = n - (n + 4096) / 4097

largest_is : (n k : ℕ) → closed n ≤ k → largest_to n k ≡ closed n
unfolding largest_to
largest_is n zero h = omega arith
largest_is n (suc k) h =
    ⊎_elim
    (λ (lt : closed n < suc k). let no_fit : worm_fits n (suc k) ≡ false = lt-leb _ _ (omega arith) in rw no_fit (largest_is n k (omega arith)))
    (λ (ge : suc k ≤ closed n). let fit : worm_fits n (suc k) ≡ true = le-leb _ _ (omega arith) in rw fit (omega arith))
    (cases_lt (closed n) (suc k))

pub worm_size_is : (n : ℕ) → worm_size n ≡ n - (n + 4096) / 4097
worm_size_is n = largest_is n n (omega arith)

legal_worm : (b : ℕ) (x y : Cell) → Legal Rewritable x → Legal WriteOnce (worm_cell b x y)
legal_worm b spoiled y p = tt
legal_worm b blank y p = tt
legal_worm b (held bytes) spoiled p = tt
legal_worm b (held bytes) blank p = tt
legal_worm b (held bytes) (held bits) p = by (marked bits b)
  where
    by : (t : Bool) → Legal WriteOnce (cond t (held bytes) blank)
    by true = p
    by false = refl

module _ (l : ℕ) (n : Meaning) where
  pub worm_size_lem : size (fake_worm l n) ≡ worm_blocks n
  worm_size_lem = length-map-range_with_len (worm_at n) 0 (worm_blocks n)

  pub worm_cell_lem : (b : ℕ) → b < size (fake_worm l n) → cell (fake_worm l n) b ≡ worm_at n b
  worm_cell_lem b h = table_at (worm_at n) (worm_blocks n) b spoiled (rw worm_size_lem at h)

-- where there is a block, the device below is rewritable, and has the block and, after all the blocks, that of its bit
pub record Within (n : Meaning) (b : ℕ) : Type 0 where
  pub kind : n.kind ≡ Rewritable
  pub block : b < size n
  pub bits : bit_block n b < size n
  pub before : b < worm_blocks n

pub within : (l : ℕ) (n : Meaning) (b : ℕ) → b < size (fake_worm l n) → Within n b
within l n b h = by n.kind refl (rw worm_size_lem at h)
  where
    by : (k : Kind) → n.kind ≡ k → b < worm_blocks n → Within n b
    by Rewritable e h =
        let s : worm_blocks n ≡ size n - (size n + 4096) / 4097 = simp (e, worm_size_is) in
        record { kind = e; block = omega arith; bits = omega arith; before = h }
    by WriteOnce e h = let s : worm_blocks n ≡ 0 = simp e in absurd (omega arith)

pub worm_bounded : (n : Meaning) → Sound n → worm_blocks n ≤ 65536
worm_bounded n p = by n.kind
  where
    by : (k : Kind) → cond (same_kind k Rewritable) (worm_size (size n)) 0 ≤ 65536
    by Rewritable = rw worm_size_is (omega (arith, p.bounded))
    by WriteOnce = omega arith

pub worm_sound : (l : ℕ) (n : Meaning) → Sound n → Sound (fake_worm l n)
worm_sound l n p = record {
  bounded = rw (worm_size_lem l n) (worm_bounded n p);
  legal = λ b h.
      let w = within l n b h in
      rw (worm_cell_lem l n b h) (legal_worm b (cell n b) (cell n (bit_block n b)) (subst (λ k. Legal k (cell n b)) w.kind (p.legal b w.block)));
}
