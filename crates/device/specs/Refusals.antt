-- Refusals as docs/REFUSALS.md shows them: a number, and the label and the block that are named.
use Rattle.std.specs.Prelude.{ℕ, cond, List, ◌++◌, codes, Ok, Err, Result, ◌==◌, nat_lt}
use Rattle.std.specs.Fmt.{decimal}
use Rattle.device.specs.declared.fault.DeviceFault.{DeviceFault}
use Rattle.device.specs.declared.fault.DeviceFault.TheVariants.{BadBuffer, PastEnd, Blank, AlreadyHeld, Spoiled}

pub record Refusal : Type 0 where
  pub number : ℕ
  pub label : ℕ
  pub block : ℕ

-- each case of a fault, by its number and its values
abbrev pub shown : DeviceFault → Refusal
shown (BadBuffer p) = record { number = 1; label = p.label; block = p.block }
shown (PastEnd p) = record { number = 2; label = p.label; block = p.block }
shown (Blank p) = record { number = 3; label = p.label; block = p.block }
shown (AlreadyHeld p) = record { number = 4; label = p.label; block = p.block }
shown (Spoiled p) = record { number = 5; label = p.label; block = p.block }

-- the text of a refusal, with its numbers in decimal
abbrev pub text_of : Refusal → List ℕ
text_of r = codes "refused by " ++ decimal r.number ++ codes " at label " ++ decimal r.label ++ codes ", block " ++ decimal r.block

-- what a read or a write answers: it is accepted, or refused
abbrev pub Answer : Type 0
Answer = Result (Unit {0}) DeviceFault

-- the same with its refusal shown
abbrev pub Outcome : Type 0
Outcome = Result (Unit {0}) Refusal

abbrev pub told : Answer → Outcome
told (Ok x) = Ok x
told (Err e) = Err (shown e)

abbrev pub refused : ℕ → ℕ → ℕ → Outcome
refused n l b = Err (record { number = n; label = l; block = b })

-- the first two refusals, of a device with this label and size: the buffer's n bytes are no block; block b is past the end
abbrev pub admission : ℕ → ℕ → ℕ → ℕ → Outcome
admission label size b n = cond (n == 512) (cond (nat_lt b size) (Ok tt) (refused 2 label b)) (refused 1 label b)
