-- What a read and a write of any device answer, and what they leave.
use Rattle.std.specs.Prelude.{◌≡◌, ℕ, cond, List, length, is_ok, Ok, Err, ◌==◌}
use Rattle.device.specs.declared.interface.Kind.{Kind}
use Rattle.device.specs.declared.interface.Kind.TheVariants.{Rewritable, WriteOnce}
use Rattle.device.specs.declared.fault.Place.{Place}
use Rattle.device.specs.declared.cell_state.CellState.{CellState}
use Rattle.device.specs.declared.cell_state.CellState.TheVariants.{Blank, Held, Spoiled}
use Rattle.device.specs.Refusals.{Answer, Outcome, told, refused, admission}
use Rattle.device.specs.Meaning.{Cell, blank, held, spoiled, Meaning, size, cell, put}

-- what a cell is, without its contents
abbrev pub state_of : Cell → CellState
state_of blank = Blank
state_of (held bytes) = Held
state_of spoiled = Spoiled

-- what an admitted read answers, by the state of the cell and the place of the block
abbrev pub read_state : Place → CellState → Outcome
read_state p Blank = refused 3 p.label p.block
read_state p Held = Ok tt
read_state p Spoiled = refused 5 p.label p.block

-- what an admitted write answers; a rewritable device has no blank cell, so its first row is never met
abbrev pub write_state : Kind → Place → CellState → Outcome
write_state Rewritable p Blank = Ok tt
write_state Rewritable p Held = Ok tt
write_state Rewritable p Spoiled = refused 5 p.label p.block
write_state WriteOnce p Blank = Ok tt
write_state WriteOnce p Held = refused 4 p.label p.block
write_state WriteOnce p Spoiled = refused 5 p.label p.block

-- the first outcome that refuses, else the second
abbrev pub and_then : Outcome → Outcome → Outcome
and_then (Ok x) o = o
and_then (Err e) o = Err e

-- what a read of block b into a buffer of n bytes answers, and a write from one
abbrev pub read_outcome : Meaning → ℕ → ℕ → Outcome
read_outcome m b n = and_then (admission m.label (size m) b n) (read_state (m.place b) (state_of (cell m b)))

abbrev pub write_outcome : Meaning → ℕ → ℕ → Outcome
write_outcome m b n = and_then (admission m.label (size m) b n) (write_state m.kind (m.place b) (state_of (cell m b)))

-- the bytes of a cell that is held, else the bytes given
abbrev pub contents : Cell → List ℕ → List ℕ
contents blank buf = buf
contents (held bytes) buf = bytes
contents spoiled buf = buf

-- a read of block b into buf answers r, and leaves the buffer as buf' and the device as m'
pub record Reads (m : Meaning) (b : ℕ) (buf : List ℕ) (r : Answer) (buf' : List ℕ) (m' : Meaning) : Type 0 where
  pub answer : told r ≡ read_outcome m b (length buf)
  pub buffer : buf' ≡ cond (is_ok r) (contents (cell m b) buf) buf
  pub same : m' ≡ m

-- a write of buf to block b answers r, and leaves the device as m'
pub record Writes (m : Meaning) (b : ℕ) (buf : List ℕ) (r : Answer) (m' : Meaning) : Type 0 where
  pub answer : told r ≡ write_outcome m b (length buf)
  pub after : m' ≡ cond (is_ok r) (put m b buf) m

-- the state of a cell, as the outcome of a read tells it
abbrev pub state_told : Outcome → CellState
state_told (Ok x) = Held
state_told (Err e) = cond (e.number == 3) Blank Spoiled
