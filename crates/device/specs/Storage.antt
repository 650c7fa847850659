-- What the storage of a disc means: 513 bytes for each block, a state byte and then the contents.
use Rattle.std.specs.Prelude.{ℕ, ◌+◌, ◌*◌, ◌/◌, min, cond, List, ◌∷◌, ◌++◌, map, length, take, drop, vec_items, ◌==◌, slice_index}
use Rattle.std.specs.List.{range_with_len}
use Rattle.device.specs.declared.interface.Kind.{Kind}
use Rattle.device.specs.declared.interface.Kind.TheVariants.{Rewritable, WriteOnce}
use Rattle.device.specs.declared.fault.Place.{Place}
use Rattle.device.specs.declared.cell_state.CellState.{CellState}
use Rattle.device.specs.declared.cell_state.CellState.TheVariants.{Blank, Held, Spoiled}
use Rattle.device.specs.declared.disc.Disc.{Disc}
use Rattle.device.specs.Meaning.{Cell, blank, held, spoiled, Meaning}

-- how many whole blocks there are; bytes left over at the end mean nothing
abbrev pub disc_size : List ℕ → ℕ
disc_size storage = min (length storage / 513) 65536

-- the byte that stands for a state, and the state that a byte stands for; on a rewritable disc a blank byte means spoiled
abbrev pub state_byte : CellState → ℕ
state_byte Blank = 0
state_byte Held = 1
state_byte Spoiled = 2

abbrev pub state_of_byte : ℕ → CellState
state_of_byte byte = cond (byte == 1) Held (cond (byte == 0) Blank Spoiled)

-- what a state byte of 0 means
abbrev pub zero_cell : Kind → Cell
zero_cell Rewritable = spoiled
zero_cell WriteOnce = blank

-- the cell with this state byte and these contents
abbrev pub cell_from : Kind → ℕ → List ℕ → Cell
cell_from k state bytes = cond (state == 1) (held bytes) (cond (state == 0) (zero_cell k) spoiled)

abbrev pub disc_cell : Kind → List ℕ → ℕ → Cell
disc_cell k storage b = cell_from k (slice_index storage (b * 513)) (take 512 (drop (b * 513 + 1) storage))

-- a block of the device with this label
abbrev pub place_on : ℕ → ℕ → Place
place_on l b = record { label = l; block = b }

abbrev pub disc_meaning : ℕ → Kind → List ℕ → Meaning
disc_meaning l k storage = record { label = l; kind = k; cells = map (disc_cell k storage) (range_with_len 0 (disc_size storage)); place = place_on l }

-- the storage after buf is stored in block b: its 513 bytes alone are other ones
abbrev pub stored : List ℕ → ℕ → List ℕ → List ℕ
stored storage b buf = take (b * 513) storage ++ ((1 ∷ buf) ++ drop (b * 513 + 513) storage)

-- what a disc means
abbrev pub meaning_of : Disc → Meaning
meaning_of d = disc_meaning d.label d.kind (vec_items d.storage)
