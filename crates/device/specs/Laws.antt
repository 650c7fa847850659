-- What every write of every device obeys, said of single cells.
use Rattle.std.specs.Prelude.{◌≡◌, ℕ, true, false, List, is_ok, ◌≢◌}
use Rattle.device.specs.Refusals.{Answer}
use Rattle.device.specs.Meaning.{Meaning, held, spoiled, size, cell, Sound}
use Rattle.device.specs.Calls.{Writes}

-- r is the answer to a write of buf to block b of m, and m' is the device after it
pub record WriteLaws (m : Meaning) (b : ℕ) (buf : List ℕ) (r : Answer) (m' : Meaning) : Type 0 where
  -- label, kind, size and places never change
  pub label : m'.label ≡ m.label
  pub kind : m'.kind ≡ m.kind
  pub sized : size m' ≡ size m
  pub place : m'.place ≡ m.place
  -- an accepted write makes its own cell hold the buffer, and no other cell changes
  pub holds : is_ok r ≡ true → cell m' b ≡ held buf
  pub others : (k : ℕ) → (k ≢ b) → cell m' k ≡ cell m k
  -- a refused one changes nothing
  pub refuses : is_ok r ≡ false → m' ≡ m
  -- no cell is spoiled, and none is mended
  pub spoils : (k : ℕ) → cell m' k ≡ spoiled → cell m k ≡ spoiled
  pub mends : (k : ℕ) → cell m k ≡ spoiled → cell m' k ≡ spoiled
  -- held cells go on having 512 bytes, and a rewritable device gets no blank cell
  pub sound : Sound m → Sound m'

abbrev pub WriteLawsHold : Type 0
WriteLawsHold = (m : Meaning) (b : ℕ) (buf : List ℕ) (r : Answer) (m' : Meaning) → Writes m b buf r m' → WriteLaws m b buf r m'
