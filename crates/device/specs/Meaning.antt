-- What a device means: a cell for each block, and where each block lies.
use Rattle.std.specs.Prelude.{◌≡◌, ℕ, ◌<◌, ◌≤◌, List, length, codes, slice_index_or, slice_set}
use Rattle.device.specs.declared.interface.Kind.{Kind}
use Rattle.device.specs.declared.interface.Kind.TheVariants.{Rewritable, WriteOnce}
use Rattle.device.specs.declared.fault.Place.{Place}

-- what a kind is called
abbrev pub kind_text : Kind → List ℕ
kind_text Rewritable = codes "rewritable"
kind_text WriteOnce = codes "write-once"

pub data Cell : Type 0 where
  blank : Cell
  held : List ℕ → Cell
  spoiled : Cell

pub record Meaning : Type 0 where
  pub label : ℕ
  pub kind : Kind
  pub cells : List Cell
  pub place : ℕ → Place

abbrev pub size : Meaning → ℕ
size m = length m.cells

-- the cell of a block; past the end, spoiled
abbrev pub cell : Meaning → ℕ → Cell
cell m b = slice_index_or m.cells b spoiled

-- the device with block b holding these bytes
abbrev pub put : Meaning → ℕ → List ℕ → Meaning
put m b bytes = record { label = m.label; kind = m.kind; cells = slice_set m.cells b (held bytes); place = m.place }

-- a cell that a device of this kind may have: what is held is a block, and only a write-once device has blanks
abbrev pub Legal : Kind → Cell → Type 0
Legal k (held bytes) = length bytes ≡ 512
Legal k blank = k ≡ WriteOnce
Legal k spoiled = Unit {0}

-- what every device owes at all times
pub record Sound (m : Meaning) : Type 0 where
  pub bounded : size m ≤ 65536
  pub legal : (b : ℕ) → b < size m → Legal m.kind (cell m b)
