-- Two devices side by side, each with the same blocks.
use Rattle.std.specs.Prelude.{◌≡◌, ℕ, min, Bool, true, false, cond, ◌&&◌, List, map, Ok}
use Rattle.std.specs.List.{range_with_len}
use Rattle.device.specs.declared.cell_state.CellState.{CellState}
use Rattle.device.specs.declared.cell_state.CellState.TheVariants.{Blank, Held, Spoiled}
use Rattle.device.specs.declared.interface.Device.{Ghosts}
use Rattle.device.specs.Refusals.{Answer}
use Rattle.device.specs.Meaning.{Cell, blank, held, spoiled, Meaning, size, cell, put}
use Rattle.device.specs.Calls.{Writes}
use Rattle.layers.specs.declared.mirror.Mirror.{Mirror}
use Rattle.layers.specs.Kinds.{same_kind}

-- the first side's cell if it is held, else the second's if that is held, else blank if either is, else spoiled
abbrev pub mirror_cell : Cell → Cell → Cell
mirror_cell (held bytes) y = held bytes
mirror_cell blank (held bytes) = held bytes
mirror_cell blank blank = blank
mirror_cell blank spoiled = blank
mirror_cell spoiled (held bytes) = held bytes
mirror_cell spoiled blank = blank
mirror_cell spoiled spoiled = spoiled

-- the same of states
abbrev pub mirror_state : CellState → CellState → CellState
mirror_state Held t = Held
mirror_state Blank Held = Held
mirror_state Blank Blank = Blank
mirror_state Blank Spoiled = Blank
mirror_state Spoiled Held = Held
mirror_state Spoiled Blank = Blank
mirror_state Spoiled Spoiled = Spoiled

-- as many blocks as the smaller side has; none where the kinds differ
abbrev pub mirror_size : Meaning → Meaning → ℕ
mirror_size a b = cond (same_kind a.kind b.kind) (min (size a) (size b)) 0

abbrev pub mirror_at : Meaning → Meaning → ℕ → Cell
mirror_at a b i = mirror_cell (cell a i) (cell b i)

abbrev pub mirror : ℕ → Meaning → Meaning → Meaning
mirror l a b = record { label = l; kind = a.kind; cells = map (mirror_at a b) (range_with_len 0 (mirror_size a b)); place = a.place }

abbrev pub intact : Cell → Bool
intact blank = true
intact (held bytes) = true
intact spoiled = false

-- a side after a write of buf to block i, accepted or not: an accepted one goes to every side that is not spoiled
abbrev pub side_after : Bool → Meaning → ℕ → List ℕ → Meaning
side_after accepted m i buf = cond (accepted && intact (cell m i)) (put m i buf) m

-- what a value of the layer means, from what its parts mean
abbrev pub meaning_of : {A B : Type 0} → Ghosts A → Ghosts B → Mirror A B → Meaning
meaning_of f g d = mirror d.label (f.meaning d.first) (g.meaning d.second)

-- what sending a write to a side of this state does: a spoiled side is passed over
abbrev pub SideWrites : CellState → Meaning → ℕ → List ℕ → Answer → Meaning → Type 0
SideWrites Blank m i buf r m' = Writes m i buf r m'
SideWrites Held m i buf r m' = Writes m i buf r m'
SideWrites Spoiled m i buf r m' = (r ≡ Ok tt) × (m' ≡ m)
