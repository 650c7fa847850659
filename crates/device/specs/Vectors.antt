-- Computed examples of the definitions; docs/FORMAT.md and docs/REFUSALS.md work them out by hand.
use Rattle.std.specs.Prelude.{◌≡◌, ℕ, List, [], ◌∷◌, ◌++◌, replicate, Ok}
use Rattle.device.specs.declared.interface.Kind.{Kind}
use Rattle.device.specs.declared.interface.Kind.TheVariants.{Rewritable, WriteOnce}
use Rattle.device.specs.declared.cell_state.CellState.TheVariants.{Blank, Held, Spoiled}
use Rattle.device.specs.Refusals.{refused}
use Rattle.device.specs.Meaning.{blank, held, spoiled, Meaning}
use Rattle.device.specs.Calls.{state_of, read_outcome, write_outcome}
use Rattle.device.specs.Storage.{state_byte, state_of_byte, disc_size, cell_from, disc_cell, place_on}

-- 512 nines after a state byte
abbrev nines : ℕ → List ℕ
nines state = state ∷ replicate 512 9

-- a write-once device labelled 7, with a blank, a held and a spoiled block
abbrev three : Meaning
three = record { label = 7; kind = WriteOnce; cells = blank ∷ (held (replicate 512 9) ∷ (spoiled ∷ [])); place = place_on 7 }

pub record Vectors : Type 0 where
  -- whole blocks in storage of 0, 512, 513 and 1,538 bytes
  pub none : disc_size [] ≡ 0
  pub too_short : disc_size (replicate 512 1) ≡ 0
  pub one : disc_size (replicate 513 1) ≡ 1
  pub left_over : disc_size (replicate 1538 1) ≡ 2
  -- state bytes 1, 0 and 2, and a second block
  pub held_one : (k : Kind) → disc_cell k (nines 1) 0 ≡ held (replicate 512 9)
  pub zero_write_once : disc_cell WriteOnce (nines 0) 0 ≡ blank
  pub zero_rewritable : disc_cell Rewritable (nines 0) 0 ≡ spoiled
  pub two : (k : Kind) → disc_cell k (nines 2) 0 ≡ spoiled
  pub second : (k : Kind) → disc_cell k (nines 2 ++ nines 1) 1 ≡ held (replicate 512 9)
  -- the state that a byte stands for is that of a write-once disc's cell with that byte
  pub bytes_read : (byte : ℕ) (bytes : List ℕ) → state_of (cell_from WriteOnce byte bytes) ≡ state_of_byte byte
  -- what a state byte stands for is read back
  pub states_back : (state_of_byte (state_byte Blank) ≡ Blank) × (state_of_byte (state_byte Held) ≡ Held) × (state_of_byte (state_byte Spoiled) ≡ Spoiled)
  pub byte_held : (k : Kind) (bytes : List ℕ) → cell_from k (state_byte Held) bytes ≡ held bytes
  pub byte_blank : (bytes : List ℕ) → cell_from WriteOnce (state_byte Blank) bytes ≡ blank
  pub byte_spoiled : (k : Kind) (bytes : List ℕ) → cell_from k (state_byte Spoiled) bytes ≡ spoiled
  -- each refusal, and the first where two apply
  pub bad_buffer : read_outcome three 0 100 ≡ refused 1 7 0
  pub past_end : read_outcome three 3 512 ≡ refused 2 7 3
  pub bad_buffer_first : write_outcome three 3 100 ≡ refused 1 7 3
  pub read_blank : read_outcome three 0 512 ≡ refused 3 7 0
  pub write_held : write_outcome three 1 512 ≡ refused 4 7 1
  pub read_spoiled : read_outcome three 2 512 ≡ refused 5 7 2
  pub write_spoiled : write_outcome three 2 512 ≡ refused 5 7 2
  pub read_held : read_outcome three 1 512 ≡ Ok tt
  pub write_blank : write_outcome three 0 512 ≡ Ok tt
