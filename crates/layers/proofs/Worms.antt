-- What a fake worm has of the device below it.
use Rattle.std.specs.Prelude.{◌≡◌, ℕ, ◌+◌, ◌/◌, ◌<◌, Bool, true, false, cond, List, [], length, is_ok, IsErrAnd, Ok, Err, ◌≢◌, refl}
use Rattle.std.proofs.Common.{sym, ap, ◌∙◌, subst, ⊎_elim, arith}
use Rattle.std.proofs.lemmas.List.{length-set}
use Rattle.std.proofs.lemmas.Bool.{false≢true, cases_eq}
use Rattle.device.specs.declared.fault.Place.{Place}
use Rattle.device.specs.declared.fault.DeviceFault.{DeviceFault}
use Rattle.device.specs.declared.fault.DeviceFault.TheVariants as Fault
use Rattle.device.specs.declared.interface.Kind.TheVariants.{Rewritable, WriteOnce}
use Rattle.device.specs.declared.cell_state.CellState.{CellState}
use Rattle.device.specs.declared.cell_state.CellState.TheVariants.{Blank, Held, Spoiled}
use Rattle.device.specs.Refusals.{Refusal, Answer, Outcome, shown, told, refused}
use Rattle.device.specs.Meaning.{Cell, blank, held, spoiled, Meaning, size, cell, put, Sound, Legal}
use Rattle.device.specs.Calls.{state_of, read_state, write_state, contents, Reads, Writes}
use Rattle.device.specs.Storage.{place_on}
use Rattle.device.proofs.Tables.{table_set}
use Rattle.device.proofs.Calls.{read_out, read_in, read_refused, write_out, write_in, write_refused}
use Rattle.layers.specs.Kinds.{same_kind}
use Rattle.layers.specs.FakeWorms.{worm_size, worm_blocks, bit_block, marked, marks, worm_cell, worm_at, fake_worm, below_after, or_spoiled}
use Rattle.layers.proofs.Touches.{Touched, touched, accepted}
use Rattle.layers.specs.Soundness.{worm_cell_lem, Within, within}
use Rattle.layers.proofs.Marks.{marks_here, marks_there}

-- the cell with this bit over a cell below
abbrev bit_cell : Bool → Cell → Cell
bit_cell t spoiled = spoiled
bit_cell t blank = spoiled
bit_cell t (held bytes) = cond t (held bytes) blank

-- what is held has contents
pub held_is : (x : Cell) → state_of x ≡ Held → x ≡ held (contents x [])
held_is blank e = cc
held_is (held bytes) e = refl
held_is spoiled e = cc

-- unless both are held, the block is spoiled
not_held : (b : ℕ) (x y : Cell) → (state_of x ≡ Held → state_of y ≢ Held) → worm_cell b x y ≡ spoiled
not_held b spoiled y ne = refl
not_held b blank y ne = refl
not_held b (held bytes) spoiled ne = refl
not_held b (held bytes) blank ne = refl
not_held b (held bytes) (held bits) ne = absurd (ne refl refl)

-- a call of a device m below, of which any refusal means that the block at p is spoiled
module _ (m : Meaning) (i : ℕ) (buf : List ℕ) (r : Answer) (p : Place) (whole : length buf ≡ 512) (inside : i < size m) where
  pub unread : (e : Refusal) {buf' : List ℕ} {m' : Meaning} → Reads m i buf r buf' m' → ◌≡◌ {A = Outcome} (Err e) (or_spoiled p (told r)) →
      (state_of (cell m i) ≢ Held) × ◌≡◌ {A = Outcome} (Err e) (refused 5 p.label p.block)
  unread e h is = by (state_of (cell m i)) (is ∙ ap (or_spoiled p) (read_out m i buf r whole inside h).0)
    where
      by : (s : CellState) → ◌≡◌ {A = Outcome} (Err e) (or_spoiled p (read_state (m.place i) s)) → (s ≢ Held) × ◌≡◌ {A = Outcome} (Err e) (refused 5 p.label p.block)
      by Blank is = (λ z. false≢true cc, is)
      by Held is = (λ _. false≢true cc, cc)
      by Spoiled is = (λ z. false≢true cc, is)

  pub was_read : {buf' : List ℕ} {m' : Meaning} → Reads m i buf r buf' m' → ◌≡◌ {A = Outcome} (Ok tt) (or_spoiled p (told r)) → cell m i ≡ held buf'
  was_read {buf'} h is = let o = read_out m i buf r whole inside h in by (cell m i) o.1 (is ∙ ap (or_spoiled p) o.0)
    where
      by : (x : Cell) → buf' ≡ contents x buf → ◌≡◌ {A = Outcome} (Ok tt) (or_spoiled p (read_state (m.place i) (state_of x))) → x ≡ held buf'
      by blank f is = cc
      by (held bytes) f is = ap held (sym f)
      by spoiled f is = cc

  module _ (kind : m.kind ≡ Rewritable) {m' : Meaning} (h : Writes m i buf r m') where
    outcome : told r ≡ write_state Rewritable (m.place i) (state_of (cell m i))
    outcome = subst (λ k. told r ≡ write_state k (m.place i) (state_of (cell m i))) kind (write_out m i buf r whole inside h)

    pub unwritten : (e : Refusal) → ◌≡◌ {A = Outcome} (Err e) (or_spoiled p (told r)) →
        (state_of (cell m i) ≢ Held) × ◌≡◌ {A = Outcome} (Err e) (refused 5 p.label p.block) × (m' ≡ m)
    unwritten e is = by r (state_of (cell m i)) is outcome h.after
      where
        by : (r : Answer) (s : CellState) → ◌≡◌ {A = Outcome} (Err e) (or_spoiled p (told r)) → told r ≡ write_state Rewritable (m.place i) s → m' ≡ cond (is_ok r) (put m i buf) m →
            (s ≢ Held) × ◌≡◌ {A = Outcome} (Err e) (refused 5 p.label p.block) × (m' ≡ m)
        by (Ok x) s is out after = (λ _. false≢true cc, cc, cc)
        by (Err f) Blank is out after = (λ _. false≢true cc, is, after)
        by (Err f) Held is out after = (λ _. false≢true cc, is, after)
        by (Err f) Spoiled is out after = (λ z. false≢true cc, is, after)

    -- a rewritable device has no blank cell
    pub was_written : Sound m → ◌≡◌ {A = Outcome} (Ok tt) (or_spoiled p (told r)) → (state_of (cell m i) ≡ Held) × (m' ≡ put m i buf)
    was_written s is = by r (cell m i) (subst (λ k. Legal k (cell m i)) kind (s.legal i inside)) is outcome h.after
      where
        by : (r : Answer) (x : Cell) → Legal Rewritable x → ◌≡◌ {A = Outcome} (Ok tt) (or_spoiled p (told r)) → told r ≡ write_state Rewritable (m.place i) (state_of x) → m' ≡ cond (is_ok r) (put m i buf) m →
            (state_of x ≡ Held) × (m' ≡ put m i buf)
        by (Err f) x ok is out after = (cc, cc)
        by (Ok y) blank ok is out after = absurd (false≢true cc)
        by (Ok y) (held bytes) ok is out after = (refl, after)
        by (Ok y) spoiled ok is out after = (cc, after)

-- the block is stored, and then its bit
worm_put : (l : ℕ) (n : Meaning) (b : ℕ) (buf bits : List ℕ) → Within n b → length bits ≡ 512 → cell n (bit_block n b) ≡ held bits →
    fake_worm l (put (put n b buf) (bit_block n b) (marks bits b)) ≡ put (fake_worm l n) b buf
worm_put l n b buf bits w whole at =
    ap (λ cs. record { label = l; kind = WriteOnce; cells = cs; place = place_on l })
    (table_set (worm_at n) (worm_at n₂) (worm_blocks n₂) (worm_blocks n) b (held buf) sizes w.before here there)
  where
    n₁ : Meaning
    n₁ = put n b buf

    n₂ : Meaning
    n₂ = put n₁ (bit_block n b) (marks bits b)

    p : Touched n b (held buf) n₁
    p = touched n b buf w.block true

    q : Touched n₁ (bit_block n b) (held (marks bits b)) n₂
    q = touched n₁ (bit_block n b) (marks bits b) (rw p.sized w.bits) true

    sizes : worm_blocks n₂ ≡ worm_blocks n
    sizes = ap (λ s. cond (same_kind n.kind Rewritable) (worm_size s) 0) (q.sized ∙ p.sized)

    bit_at : (k : ℕ) → bit_block n₂ k ≡ bit_block n k
    bit_at k = ap (λ s. s + k / 4096) sizes

    -- a block other than the two is as it was
    other : (k : ℕ) → (k ≢ b) → (k ≢ bit_block n b) → cell n₂ k ≡ cell n k
    other k nb nbit = q.there k nbit ∙ p.there k nb

    here : worm_at n₂ b ≡ held buf
    here =
        let before = w.before in
        let x : cell n₂ b ≡ held buf = q.there b (λ e. omega arith) ∙ p.here in
        let y : cell n₂ (bit_block n₂ b) ≡ held (marks bits b) = ap (cell n₂) (bit_at b) ∙ q.here in
        ap (λ z. worm_cell b z (cell n₂ (bit_block n₂ b))) x ∙ ap (worm_cell b (held buf)) y ∙ ap (λ t. cond t (held buf) blank) (marks_here bits b whole)

    there : (k : ℕ) → k < worm_blocks n → (k ≢ b) → worm_at n₂ k ≡ worm_at n k
    there k lk ne =
        let x : cell n₂ k ≡ cell n k = other k ne (λ e. omega arith) in
        ap (λ z. worm_cell k z (cell n₂ (bit_block n₂ k))) x ∙ ap (λ j. worm_cell k (cell n k) (cell n₂ j)) (bit_at k) ∙ ⊎_elim same apart (cases_eq (bit_block n k) (bit_block n b))
      where
        by_cell : (x : Cell) → k / 4096 ≡ b / 4096 → worm_cell k x (held (marks bits b)) ≡ worm_cell k x (held bits)
        by_cell (held bytes) e = ap (λ t. cond t (held bytes) blank) (marks_there bits b whole k ne e)
        by_cell blank e = refl
        by_cell spoiled e = refl

        same : bit_block n k ≡ bit_block n b → worm_cell k (cell n k) (cell n₂ (bit_block n k)) ≡ worm_cell k (cell n k) (cell n (bit_block n k))
        same e =
            ap (worm_cell k (cell n k)) (ap (cell n₂) e ∙ q.here) ∙ by_cell (cell n k) (omega arith) ∙ ap (worm_cell k (cell n k)) (sym at ∙ ap (cell n) (sym e))

        apart : (bit_block n k ≢ bit_block n b) → worm_cell k (cell n k) (cell n₂ (bit_block n k)) ≡ worm_cell k (cell n k) (cell n (bit_block n k))
        apart ne' = ap (worm_cell k (cell n k)) (other (bit_block n k) (λ e. omega arith) ne')

-- a call that is admitted
module _ (l : ℕ) (n : Meaning) (b : ℕ) (buf : List ℕ) (whole : length buf ≡ 512) (h : b < size (fake_worm l n)) where
  -- the block or its bits could not be read or written
  module _ (bad : state_of (cell n b) ≡ Held → state_of (cell n (bit_block n b)) ≢ Held) (r : Answer) (e : DeviceFault) (on : IsErrAnd r (λ y. y ≡ e))
      (is : ◌≡◌ {A = Outcome} (Err (shown e)) (refused 5 l b)) where
    state : Spoiled ≡ state_of (cell (fake_worm l n) b)
    state = sym (ap state_of (worm_cell_lem l n b h ∙ not_held b (cell n b) (cell n (bit_block n b)) bad))

    pub worm_read_spoiled : Reads (fake_worm l n) b buf r buf (fake_worm l n)
    worm_read_spoiled = read_refused (fake_worm l n) b buf r e on whole h (is ∙ ap (read_state (place_on l b)) state)

    pub worm_write_spoiled : Writes (fake_worm l n) b buf r (fake_worm l n)
    worm_write_spoiled = write_refused (fake_worm l n) b buf r e on whole h (is ∙ ap (write_state WriteOnce (place_on l b)) state)

  -- the bits were read
  module _ (bits : List ℕ) (at : cell n (bit_block n b) ≡ held bits) where
    by_bit : (x : Cell) (t : Bool) → marked bits b ≡ t → cell n b ≡ x → cell (fake_worm l n) b ≡ bit_cell t x
    by_bit x t m c = worm_cell_lem l n b h ∙ ap (worm_cell b (cell n b)) at ∙ ap (λ z. worm_cell b z (held bits)) c ∙ by x
      where
        by : (x : Cell) → worm_cell b x (held bits) ≡ bit_cell t x
        by spoiled = refl
        by blank = refl
        by (held bytes) = ap (λ z. cond z (held bytes) blank) m

    -- bit 1, and so the cell is as below
    pub worm_read_held : (r q : Answer) {buf' : List ℕ} {n' : Meaning} → marked bits b ≡ true → Reads n b buf r buf' n' → told q ≡ or_spoiled (place_on l b) (told r) →
        Reads (fake_worm l n) b buf q buf' (fake_worm l n')
    worm_read_held r q {buf'} m k is =
        let o = read_out n b buf r whole (within l n b h).block k in
        let s = by (cell n b) o.1 (is ∙ ap (or_spoiled (place_on l b)) o.0) in
        let c = by_bit (cell n b) true m refl in
        read_in (fake_worm l n) b buf q whole h (s.0 ∙ ap (λ x. read_state (place_on l b) (state_of x)) (sym c)) (s.1 ∙ ap (λ x. contents x buf) (sym c)) (ap (fake_worm l) k.same)
      where
        by : (x : Cell) → buf' ≡ contents x buf → told q ≡ or_spoiled (place_on l b) (read_state (n.place b) (state_of x)) →
            (told q ≡ read_state (place_on l b) (state_of (bit_cell true x))) × (buf' ≡ contents (bit_cell true x) buf)
        by spoiled f is = (is, f)
        by blank f is = (is, f)
        by (held bytes) f is = (is, f)

    -- the block is held below
    module _ (bytes : List ℕ) (c : cell n b ≡ held bytes) where
      pub worm_read_blank : marked bits b ≡ false → Reads (fake_worm l n) b buf (Err (Fault.Blank (place_on l b))) buf (fake_worm l n)
      worm_read_blank m =
          read_in (fake_worm l n) b buf _ whole h (ap (λ x. read_state (place_on l b) (state_of x)) (sym (by_bit (held bytes) false m c))) (ap (λ x. contents x buf) (sym (by_bit (held bytes) false m c))) refl

      pub worm_write_held : marked bits b ≡ true → Writes (fake_worm l n) b buf (Err (Fault.AlreadyHeld (place_on l b))) (fake_worm l n)
      worm_write_held m = write_in (fake_worm l n) b buf _ whole h (ap (λ x. write_state WriteOnce (place_on l b) (state_of x)) (sym (by_bit (held bytes) true m c))) refl

      -- the block was stored, and then its bit
      pub worm_stored : (r : Answer) {n₂ : Meaning} → length bits ≡ 512 → marked bits b ≡ false → Writes (put n b buf) (bit_block n b) (marks bits b) r n₂ →
          (r ≡ Ok tt) × (n₂ ≡ below_after true n b buf) × Writes (fake_worm l n) b buf (Ok tt) (fake_worm l n₂)
      worm_stored r {n₂} full m k =
          let w = within l n b h in
          let before = w.before in
          let p = touched n b buf w.block true in
          let x : cell (put n b buf) (bit_block n b) ≡ held bits = p.there (bit_block n b) (λ e. omega arith) ∙ at in
          let lt : bit_block n b < size (put n b buf) = rw p.sized w.bits in
          let full' : length (marks bits b) ≡ 512 = length-set bits _ _ ∙ full in
          let z = accepted r (write_out (put n b buf) (bit_block n b) (marks bits b) r full' lt k ∙ ap (λ y. write_state n.kind (n.place (bit_block n b)) (state_of y)) x ∙ ap (λ y. write_state y (n.place (bit_block n b)) Held) w.kind) in
          let e : n₂ ≡ put (put n b buf) (bit_block n b) (marks bits b) = k.after ∙ simp z in (
            z,
            e ∙ ap (λ y. put (put n b buf) (bit_block n b) (marks (contents y []) b)) (sym at),
            write_in (fake_worm l n) b buf (Ok tt) whole h (ap (λ y. write_state WriteOnce (place_on l b) (state_of y)) (sym (by_bit (held bytes) false m c)))
                (ap (fake_worm l) e ∙ worm_put l n b buf bits w full at),
          )
