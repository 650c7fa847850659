-- What two devices side by side have of each.
use Rattle.std.specs.Prelude.{◌≡◌, ℕ, ◌<◌, true, false, cond, List, length, IsErrAnd, Ok, Err, ◌≢◌, refl}
use Rattle.std.proofs.Common.{sym, ap, ◌∙◌, subst}
use Rattle.std.proofs.lemmas.Bool.{false≢true}
use Rattle.device.specs.declared.fault.Place.{Place}
use Rattle.device.specs.declared.fault.DeviceFault.{DeviceFault}
use Rattle.device.specs.declared.interface.Kind.{Kind}
use Rattle.device.specs.declared.interface.Kind.TheVariants.{Rewritable, WriteOnce}
use Rattle.device.specs.declared.cell_state.CellState.{CellState}
use Rattle.device.specs.declared.cell_state.CellState.TheVariants.{Blank, Held, Spoiled}
use Rattle.device.specs.Refusals.{Answer, Outcome, shown, told}
use Rattle.device.specs.Meaning.{Cell, blank, held, spoiled, Meaning, size, cell, put}
use Rattle.device.specs.Calls.{state_of, state_told, read_state, write_state, contents, Reads, Writes}
use Rattle.device.proofs.Tables.{table_set}
use Rattle.device.proofs.Calls.{read_out, read_in, read_state_lem, write_out, write_in, write_refused}
use Rattle.layers.specs.Mirrors.{mirror_cell, mirror_state, mirror_size, mirror_at, mirror, intact, side_after, SideWrites}
use Rattle.layers.specs.Soundness.{within_both, mirror_size_lem, mirror_cell_lem}
use Rattle.layers.proofs.Touches.{touched, accepted}

-- of two cells

merged : (x y : Cell) → state_of (mirror_cell x y) ≡ mirror_state (state_of x) (state_of y)
merged (held bytes) y = refl
merged blank (held bytes) = refl
merged blank blank = refl
merged blank spoiled = refl
merged spoiled (held bytes) = refl
merged spoiled blank = refl
merged spoiled spoiled = refl

-- a read that the first side accepts, and one that it refuses
first_contents : (x y : Cell) (buf : List ℕ) → state_of x ≡ Held → (state_of (mirror_cell x y) ≡ Held) × (contents x buf ≡ contents (mirror_cell x y) buf)
first_contents (held bytes) y buf e = (refl, refl)
first_contents blank y buf e = absurd (false≢true cc)
first_contents spoiled y buf e = absurd (false≢true cc)

second_contents : (x y : Cell) (buf : List ℕ) → (state_of x ≢ Held) → (contents x buf ≡ buf) × (contents y buf ≡ contents (mirror_cell x y) buf)
second_contents (held bytes) y buf ne = absurd (ne refl)
second_contents blank (held bytes) buf ne = (refl, refl)
second_contents blank blank buf ne = (refl, refl)
second_contents blank spoiled buf ne = (refl, refl)
second_contents spoiled (held bytes) buf ne = (refl, refl)
second_contents spoiled blank buf ne = (refl, refl)
second_contents spoiled spoiled buf ne = (refl, refl)

-- where the two together may be written, so may each side that is not spoiled
first_takes : (k : Kind) (p q : Place) (s t : CellState) → ◌≡◌ {A = Outcome} (Ok tt) (write_state k p (mirror_state s t)) → (s ≢ Spoiled) → write_state k q s ≡ Ok tt
first_takes Rewritable p q Blank t e ne = refl
first_takes Rewritable p q Held t e ne = refl
first_takes WriteOnce p q Blank t e ne = refl
first_takes WriteOnce p q Held t e ne = cc
first_takes Rewritable p q Spoiled t e ne = absurd (ne refl)
first_takes WriteOnce p q Spoiled t e ne = absurd (ne refl)

second_takes : (k : Kind) (p q : Place) (s t : CellState) → ◌≡◌ {A = Outcome} (Ok tt) (write_state k p (mirror_state s t)) → (t ≢ Spoiled) → write_state k q t ≡ Ok tt
second_takes Rewritable p q s Blank e ne = refl
second_takes Rewritable p q s Held e ne = refl
second_takes WriteOnce p q s Blank e ne = refl
second_takes WriteOnce p q Blank Held e ne = cc
second_takes WriteOnce p q Held Held e ne = cc
second_takes WriteOnce p q Spoiled Held e ne = cc
second_takes Rewritable p q s Spoiled e ne = absurd (ne refl)
second_takes WriteOnce p q s Spoiled e ne = absurd (ne refl)

stored_cell : (k : Kind) (p : Place) (x y : Cell) (buf : List ℕ) → ◌≡◌ {A = Outcome} (Ok tt) (write_state k p (mirror_state (state_of x) (state_of y))) →
    mirror_cell (cond (intact x) (held buf) x) (cond (intact y) (held buf) y) ≡ held buf
stored_cell k p (held bytes) y buf e = refl
stored_cell k p blank y buf e = refl
stored_cell k p spoiled (held bytes) buf e = refl
stored_cell k p spoiled blank buf e = refl
stored_cell Rewritable p spoiled spoiled buf e = cc
stored_cell WriteOnce p spoiled spoiled buf e = cc

is_intact : (x : Cell) → (state_of x ≢ Spoiled) → intact x ≡ true
is_intact blank ne = refl
is_intact (held bytes) ne = refl
is_intact spoiled ne = absurd (ne refl)

is_lost : (x : Cell) → state_of x ≡ Spoiled → intact x ≡ false
is_lost blank e = cc
is_lost (held bytes) e = cc
is_lost spoiled e = refl

-- of two devices

module _ (l : ℕ) (a b : Meaning) where
  module _ (i : ℕ) (buf : List ℕ) (whole : length buf ≡ 512) (within : i < size (mirror l a b)) where
    state_here : state_of (cell (mirror l a b) i) ≡ mirror_state (state_of (cell a i)) (state_of (cell b i))
    state_here = ap state_of (mirror_cell_lem l a b i within) ∙ merged (cell a i) (cell b i)

    -- the first side accepts the read, and so the second is not read
    pub mirror_read_first : (r : Answer) {buf' : List ℕ} {a' : Meaning} → Reads a i buf r buf' a' → state_told (told r) ≡ Held → Reads (mirror l a b) i buf (Ok tt) buf' (mirror l a' b)
    mirror_read_first r h s =
        let o = read_out a i buf r whole (within_both l a b i within).1 h in
        let c = mirror_cell_lem l a b i within in
        let f = first_contents (cell a i) (cell b i) buf (sym (read_state_lem a i buf r whole h) ∙ s) in
        read_in (mirror l a b) i buf (Ok tt) whole within (ap (read_state (a.place i)) (sym (ap state_of c ∙ f.0))) (o.1 ∙ f.1 ∙ ap (λ x. contents x buf) (sym c))
        (ap (λ x. mirror l x b) h.same)

    pub mirror_read_second : (r q u : Answer) {buf₁ buf₂ : List ℕ} {a' b' : Meaning} → Reads a i buf r buf₁ a' → Reads b i buf₁ q buf₂ b' →
        (state_told (told r) ≢ Held) → told u ≡ read_state (a.place i) (mirror_state (state_told (told r)) (state_told (told q))) → Reads (mirror l a b) i buf u buf₂ (mirror l a' b')
    mirror_read_second r q u {buf₁} {buf₂} {a'} {b'} h k ne is =
        let w = within_both l a b i within in
        let s = read_state_lem a i buf r whole h in
        let f = second_contents (cell a i) (cell b i) buf (λ e. ne (s ∙ e)) in
        let kept : buf₁ ≡ buf = (read_out a i buf r whole w.1 h).1 ∙ f.0 in
        let k' : Reads b i buf q buf₂ b' = subst (λ x. Reads b i x q buf₂ b') kept k in
        let c = mirror_cell_lem l a b i within in
        read_in (mirror l a b) i buf u whole within
        (is ∙ ap (read_state (a.place i)) (ap (λ x. mirror_state x (state_told (told q))) s ∙ ap (mirror_state (state_of (cell a i))) (read_state_lem b i buf q whole k') ∙ sym state_here))
        ((read_out b i buf q whole w.2 k').1 ∙ f.1 ∙ ap (λ x. contents x buf) (sym c))
        (ap (λ x. mirror l x b') h.same ∙ ap (mirror l a) k.same)

    -- a write, of which both sides were read first
    module _ (s t : CellState) (is_s : s ≡ state_of (cell a i)) (is_t : t ≡ state_of (cell b i)) where
      state_is : mirror_state s t ≡ state_of (cell (mirror l a b) i)
      state_is = ap (λ x. mirror_state x t) is_s ∙ ap (mirror_state (state_of (cell a i))) is_t ∙ sym state_here

      pub mirror_write_refused : (r : Answer) (e : DeviceFault) → IsErrAnd r (λ y. y ≡ e) → Err (shown e) ≡ write_state a.kind (a.place i) (mirror_state s t) → Writes (mirror l a b) i buf r (mirror l a b)
      mirror_write_refused r e on is = write_refused (mirror l a b) i buf r e on whole within (is ∙ ap (write_state a.kind (a.place i)) state_is)

      module _ (ok : ◌≡◌ {A = Outcome} (Ok tt) (write_state a.kind (a.place i) (mirror_state s t))) where
        -- what was sent to a side is accepted there
        side_written : (m : Meaning) (v : CellState) (r : Answer) {m' : Meaning} → i < size m → v ≡ state_of (cell m i) → ((v ≢ Spoiled) → write_state m.kind (m.place i) v ≡ Ok tt) →
            SideWrites v m i buf r m' → (r ≡ Ok tt) × (m' ≡ side_after true m i buf)
        side_written m v r inside is_v takes h = by v is_v takes h
          where
            sent : (v : CellState) {m' : Meaning} → v ≡ state_of (cell m i) → (v ≢ Spoiled) → write_state m.kind (m.place i) v ≡ Ok tt → Writes m i buf r m' → (r ≡ Ok tt) × (m' ≡ side_after true m i buf)
            sent v is_v ne takes h =
                let z = accepted r (write_out m i buf r whole inside h ∙ ap (write_state m.kind (m.place i)) (sym is_v) ∙ takes) in
                let x = is_intact (cell m i) (λ e. ne (is_v ∙ e)) in
                (z, h.after ∙ simp (z, x))

            by : (v : CellState) {m' : Meaning} → v ≡ state_of (cell m i) → ((v ≢ Spoiled) → write_state m.kind (m.place i) v ≡ Ok tt) →
                SideWrites v m i buf r m' → (r ≡ Ok tt) × (m' ≡ side_after true m i buf)
            by Blank is_v takes h = let ne : Blank ≡ Spoiled → ⊥ = λ e. false≢true cc in sent Blank is_v ne (takes ne) h
            by Held is_v takes h = let ne : Held ≡ Spoiled → ⊥ = λ e. false≢true cc in sent Held is_v ne (takes ne) h
            by Spoiled is_v takes h = let x = is_lost (cell m i) (sym is_v) in (h.0, h.1 ∙ simp x)

        pub first_written : (r : Answer) {a' : Meaning} → SideWrites s a i buf r a' → (r ≡ Ok tt) × (a' ≡ side_after true a i buf)
        first_written r h = side_written a s r (within_both l a b i within).1 is_s (first_takes a.kind (a.place i) (a.place i) s t ok) h

        pub second_written : (r : Answer) {b' : Meaning} → SideWrites t b i buf r b' → (r ≡ Ok tt) × (b' ≡ side_after true b i buf)
        second_written r h =
            let w = within_both l a b i within in
            side_written b t r w.2 is_t (subst (λ k. (t ≢ Spoiled) → write_state k (b.place i) t ≡ Ok tt) w.0 (second_takes a.kind (a.place i) (b.place i) s t ok)) h

        mirror_put : mirror l (side_after true a i buf) (side_after true b i buf) ≡ put (mirror l a b) i buf
        mirror_put =
            let w = within_both l a b i within in
            let p = touched a i buf w.1 (intact (cell a i)) in
            let q = touched b i buf w.2 (intact (cell b i)) in
            let a' = side_after true a i buf in
            let b' = side_after true b i buf in
            let sizes : mirror_size a' b' ≡ mirror_size a b = simp (p.kind, q.kind, p.sized, q.sized) in
            let e = stored_cell a.kind (a.place i) (cell a i) (cell b i) buf (ok ∙ ap (write_state a.kind (a.place i)) (state_is ∙ state_here)) in
            let here : mirror_at a' b' i ≡ held buf = simp (p.here, q.here) e in
            let cs = table_set (mirror_at a b) (mirror_at a' b') (mirror_size a' b') (mirror_size a b) i (held buf) sizes (rw (mirror_size_lem l a b) at within) here
            (λ k _ ne. simp (p.there k ne, q.there k ne)) in
            ap (λ k. record { label = l; kind = k; cells = (mirror l a' b').cells; place = a'.place }) p.kind
            ∙ ap (λ c. record { label = l; kind = a.kind; cells = c; place = a'.place }) cs
            ∙ ap (λ f. record { label = l; kind = a.kind; cells = (put (mirror l a b) i buf).cells; place = f }) p.place

        pub mirror_written : {a' b' : Meaning} → a' ≡ side_after true a i buf → b' ≡ side_after true b i buf → Writes (mirror l a b) i buf (Ok tt) (mirror l a' b')
        mirror_written p q =
            write_in (mirror l a b) i buf (Ok tt) whole within (ok ∙ ap (write_state a.kind (a.place i)) state_is) (simp (p, q) mirror_put)
