-- Reads and writes that are admitted go by the cell alone.
use Rattle.std.proofs.Common.{◌≡◌, ℕ, ◌<◌, Bool, true, false, cond, eqb, ltb, List, length, is_ok, IsErrAnd, Ok, Err, sym, refl, ap, ◌∙◌, ⊎_elim, arith}
use Rattle.std.proofs.lemmas.List.{get_or_past}
use Rattle.std.proofs.lemmas.Result.{err_from_is_err_and}
use Rattle.std.proofs.lemmas.Bool.{false≢true, eq-eqb, lt-ltb, le-ltb, eqb-true, ltb-true, cases_lt}
use Rattle.device.specs.declared.fault.Place.{Place}
use Rattle.device.specs.declared.fault.DeviceFault.{DeviceFault}
use Rattle.device.specs.declared.cell_state.CellState.{CellState}
use Rattle.device.specs.declared.cell_state.CellState.TheVariants.{Blank, Held, Spoiled}
use Rattle.device.specs.Refusals.{Answer, Outcome, shown, told, refused, admission}
use Rattle.device.specs.Meaning.{Cell, blank, held, spoiled, Meaning, size, cell, put}
use Rattle.device.specs.Calls.{state_of, read_state, write_state, and_then, contents, state_told, Reads, Writes}

-- what is admitted, at a size s that was worked out, has a whole buffer and a block within the device
pub admitted : (m : Meaning) (s b n : ℕ) → s ≡ size m → ◌≡◌ {A = Outcome} (Ok tt) (admission m.label s b n) → (n ≡ 512) × (b < size m)
admitted m s b n sized e = by (eqb n 512) (ltb b s) (eqb-true n 512) (ltb-true b s) e
  where
    by : (x y : Bool) → (x ≡ true → n ≡ 512) → (y ≡ true → b < s) → ◌≡◌ {A = Outcome} (Ok tt) (cond x (cond y (Ok tt) (refused 2 m.label b)) (refused 1 m.label b)) →
        (n ≡ 512) × (b < size m)
    by true true f g e = (f refl, rw sized at (g refl))
    by true false f g e = absurd (false≢true cc)
    by false y f g e = absurd (false≢true cc)

-- and the other way round
admits : (m : Meaning) (b n : ℕ) → n ≡ 512 → b < size m → admission m.label (size m) b n ≡ Ok tt
admits m b n whole within = let p = eq-eqb n 512 whole in let q = lt-ltb b (size m) within in simp (p, q)

-- what an accepted read found was held
read_fills : (p : Place) (x : Cell) (r : Answer) (buf : List ℕ) → told r ≡ read_state p (state_of x) → cond (is_ok r) (contents x buf) buf ≡ contents x buf
read_fills p blank r buf e = grind arith
read_fills p (held bytes) (Ok tt) buf e = refl
read_fills p (held bytes) (Err f) buf e = grind arith
read_fills p spoiled r buf e = grind arith

-- the refusal that `?` passes on
pub passed : (r : Answer) (e : DeviceFault) → IsErrAnd r (λ y. y ≡ e) → r ≡ Err e
passed r e h = let p = err_from_is_err_and r h in p.1 ∙ ap Err p.2

-- a refusal e that `?` passes on as r
module _ (m : Meaning) (i : ℕ) (buf : List ℕ) (r : Answer) (e : DeviceFault) (on : IsErrAnd r (λ y. y ≡ e)) where
  -- by the admission, at a size s that was worked out
  module _ (s : ℕ) (sized : s ≡ size m) (is : Err (shown e) ≡ admission m.label s i (length buf)) where
    bars : (o : Outcome) → Err (shown e) ≡ and_then (admission m.label (size m) i (length buf)) o
    bars o = ap (λ x. and_then x o) (is ∙ ap (λ n. admission m.label n i (length buf)) sized)

    pub read_barred : Reads m i buf r buf m
    read_barred = rw (passed r e on) (record { answer = bars _; buffer = refl; same = refl })

    pub write_barred : Writes m i buf r m
    write_barred = rw (passed r e on) (record { answer = bars _; after = refl })

  -- by the cell
  module _ (whole : length buf ≡ 512) (within : i < size m) where
    pub read_refused : Err (shown e) ≡ read_state (m.place i) (state_of (cell m i)) → Reads m i buf r buf m
    read_refused is = rw (passed r e on) (record { answer = is ∙ simp (admits m i (length buf) whole within); buffer = refl; same = refl })

    pub write_refused : Err (shown e) ≡ write_state m.kind (m.place i) (state_of (cell m i)) → Writes m i buf r m
    write_refused is = rw (passed r e on) (record { answer = is ∙ simp (admits m i (length buf) whole within); after = refl })

-- a call that is admitted, with the answer r
module _ (m : Meaning) (i : ℕ) (buf : List ℕ) (r : Answer) where
  module _ (whole : length buf ≡ 512) (within : i < size m) where
    pub read_out : {buf' : List ℕ} {m' : Meaning} → Reads m i buf r buf' m' → (told r ≡ read_state (m.place i) (state_of (cell m i))) × (buf' ≡ contents (cell m i) buf)
    read_out h =
        let e : told r ≡ read_state (m.place i) (state_of (cell m i)) = h.answer ∙ simp (admits m i (length buf) whole within) in
        (e, h.buffer ∙ read_fills (m.place i) (cell m i) r buf e)

    pub read_in : {buf' : List ℕ} {m' : Meaning} → told r ≡ read_state (m.place i) (state_of (cell m i)) → buf' ≡ contents (cell m i) buf → m' ≡ m → Reads m i buf r buf' m'
    read_in e f same =
        record {
          answer = e ∙ simp (admits m i (length buf) whole within);
          buffer = f ∙ sym (read_fills (m.place i) (cell m i) r buf e);
          same = same;
        }

    pub write_out : {m' : Meaning} → Writes m i buf r m' → told r ≡ write_state m.kind (m.place i) (state_of (cell m i))
    write_out h = h.answer ∙ simp (admits m i (length buf) whole within)

    pub write_in : {m' : Meaning} → told r ≡ write_state m.kind (m.place i) (state_of (cell m i)) → m' ≡ cond (is_ok r) (put m i buf) m → Writes m i buf r m'
    write_in e f = record { answer = e ∙ simp (admits m i (length buf) whole within); after = f }

state_of_read : (p : Place) (s : CellState) → state_told (read_state p s) ≡ s
state_of_read p Blank = refl
state_of_read p Held = refl
state_of_read p Spoiled = refl

-- the state that a read into a whole buffer tells, also past the end
pub read_state_lem : (m : Meaning) (i : ℕ) (buf : List ℕ) (r : Answer) {buf' : List ℕ} {m' : Meaning} → length buf ≡ 512 → Reads m i buf r buf' m' → state_told (told r) ≡ state_of (cell m i)
read_state_lem m i buf r whole h =
    ⊎_elim
    (λ lt. ap state_told (read_out m i buf r whole lt h).0 ∙ state_of_read (m.place i) (state_of (cell m i)))
    (λ ge.
    let p = eq-eqb (length buf) 512 whole in
    let q = le-ltb i (size m) ge in
    let x = get_or_past m.cells i spoiled ge in
    ap state_told h.answer ∙ simp (p, q, x))
    (cases_lt i (size m))

-- what may be read is held
pub readable_held : (p : Place) (s : CellState) → ◌≡◌ {A = Outcome} (Ok tt) (read_state p s) → s ≡ Held
readable_held p Blank e = cc
readable_held p Held e = refl
readable_held p Spoiled e = cc

-- block i of a layer m that is block j of a device n below it, with the same cell and place
module _ (m n : Meaning) (i j : ℕ) (buf : List ℕ) (r : Answer) (whole : length buf ≡ 512) (within : i < size m) (below : j < size n)
    (cells : cell m i ≡ cell n j) (places : m.place i ≡ n.place j) where
  pub read_below : {buf' : List ℕ} {n' m' : Meaning} → m' ≡ m → Reads n j buf r buf' n' → Reads m i buf r buf' m'
  read_below same h =
      let o = read_out n j buf r whole below h in
      read_in m i buf r whole within (rw (cells, places) o.0) (rw cells o.1) same

  -- a write, where F makes the layer of the device below
  pub write_below : {n' : Meaning} (F : Meaning → Meaning) → m.kind ≡ n.kind → F n ≡ m → F (put n j buf) ≡ put m i buf → Writes n j buf r n' → Writes m i buf r (F n')
  write_below F kinds before after h =
      write_in m i buf r whole within (rw (kinds, cells, places) (write_out n j buf r whole below h)) (ap F h.after ∙ by (is_ok r))
    where
      by : (t : Bool) → F (cond t (put n j buf) n) ≡ cond t (put m i buf) m
      by true = after
      by false = before
