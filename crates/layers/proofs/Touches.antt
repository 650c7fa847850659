-- A device of which at most one cell has changed.
use Rattle.std.specs.Prelude.{◌≡◌, ℕ, ◌<◌, Bool, true, false, cond, List, Ok, Err, ◌≢◌, refl}
use Rattle.std.proofs.lemmas.List.{length-set, get_or-set_same, get_or-set_other}
use Rattle.std.proofs.lemmas.Bool.{false≢true}
use Rattle.device.specs.declared.fault.DeviceFault.{DeviceFault}
use Rattle.device.specs.Refusals.{Answer, told}
use Rattle.device.specs.Meaning.{Cell, held, spoiled, Meaning, size, cell, put}

-- m' is m but for cell i, which is x
pub record Touched (m : Meaning) (i : ℕ) (x : Cell) (m' : Meaning) : Type 0 where
  pub kind : m'.kind ≡ m.kind
  pub sized : size m' ≡ size m
  pub place : m'.place ≡ m.place
  pub here : cell m' i ≡ x
  pub there : (k : ℕ) → (k ≢ i) → cell m' k ≡ cell m k

pub touched : (m : Meaning) (i : ℕ) (buf : List ℕ) → i < size m → (t : Bool) → Touched m i (cond t (held buf) (cell m i)) (cond t (put m i buf) m)
touched m i buf within true =
    record {
      kind = refl;
      sized = length-set m.cells i (held buf);
      place = refl;
      here = get_or-set_same m.cells i (held buf) spoiled within;
      there = λ k ne. get_or-set_other m.cells i k (held buf) spoiled ne;
    }
touched m i buf within false = record { kind = refl; sized = refl; place = refl; here = refl; there = λ k ne. refl }

-- an answer that shows as accepted is accepted
pub accepted : (r : Answer) → told r ≡ Ok tt → r ≡ Ok tt
accepted (Ok tt) e = refl
accepted (Err f) e = cc

-- no answer is both accepted and refused
pub never : {r : Answer} {e : DeviceFault} → r ≡ Ok tt → r ≢ Err e
never {r} {e} p q = false≢true cc
