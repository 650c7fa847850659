-- A write-once device over a rewritable one, which has its blocks and, after them, a bit for each that tells whether it was written.
use Rattle.std.specs.Prelude.{ℕ, zero, suc, ◌+◌, ◌/◌, ◌%◌, ◌^◌, Bool, cond, List, [], map, Ok, Err, ◌==◌, bit_or, nat_le, slice_index, slice_set}
use Rattle.std.specs.List.{range_with_len}
use Rattle.device.specs.declared.interface.Kind.TheVariants.{Rewritable, WriteOnce}
use Rattle.device.specs.declared.interface.Device.{Ghosts}
use Rattle.device.specs.declared.fault.Place.{Place}
use Rattle.device.specs.Refusals.{Outcome, refused}
use Rattle.device.specs.Meaning.{Cell, blank, held, spoiled, Meaning, size, cell, put}
use Rattle.device.specs.Calls.{contents}
use Rattle.device.specs.Storage.{place_on}
use Rattle.layers.specs.declared.fake_worm.FakeWorm.{FakeWorm}
use Rattle.layers.specs.Kinds.{same_kind}

-- whether m blocks fit with their bits, 4,096 to a block, into n
abbrev pub worm_fits : ℕ → ℕ → Bool
worm_fits n m = nat_le (m + (m + 4095) / 4096) n

-- the largest number up to k that fits into n
unfoldable pub largest_to : ℕ → ℕ → ℕ
largest_to n zero = zero
largest_to n (suc k) = cond (worm_fits n (suc k)) (suc k) (largest_to n k)

abbrev pub worm_size : ℕ → ℕ
worm_size n = largest_to n n

-- only over a rewritable device are there blocks
abbrev pub worm_blocks : Meaning → ℕ
worm_blocks n = cond (same_kind n.kind Rewritable) (worm_size (size n)) 0

-- where the bit of block b lies: the block, the byte in it, and what the bit is worth there
abbrev pub bit_block : Meaning → ℕ → ℕ
bit_block n b = worm_blocks n + b / 4096

abbrev pub bit_byte : ℕ → ℕ
bit_byte b = b % 4096 / 8

abbrev pub worth : ℕ → ℕ
worth b = 128 / 2 ^ (b % 8)

-- whether the bit of block b is 1 in its block of bits
abbrev pub marked : List ℕ → ℕ → Bool
marked bits b = slice_index bits (bit_byte b) / worth b % 2 == 1

-- the block of bits with that bit 1
abbrev pub marks : List ℕ → ℕ → List ℕ
marks bits b = slice_set bits (bit_byte b) (bit_or (slice_index bits (bit_byte b)) (worth b))

-- the cell of block b, from its cell below and that of its bits: spoiled if either is, else blank if the bit is 0, else as below.
-- A rewritable device has no blank cell, so the rows with one are never met.
abbrev pub worm_cell : ℕ → Cell → Cell → Cell
worm_cell b spoiled y = spoiled
worm_cell b blank y = spoiled
worm_cell b (held bytes) spoiled = spoiled
worm_cell b (held bytes) blank = spoiled
worm_cell b (held bytes) (held bits) = cond (marked bits b) (held bytes) blank

abbrev pub worm_at : Meaning → ℕ → Cell
worm_at n b = worm_cell b (cell n b) (cell n (bit_block n b))

abbrev pub fake_worm : ℕ → Meaning → Meaning
fake_worm l n = record { label = l; kind = WriteOnce; cells = map (worm_at n) (range_with_len 0 (worm_blocks n)); place = place_on l }

-- the device below after a write of buf to block b, accepted or not: the block is stored, then its bit
abbrev pub below_after : Bool → Meaning → ℕ → List ℕ → Meaning
below_after accepted n b buf = cond accepted (put (put n b buf) (bit_block n b) (marks (contents (cell n (bit_block n b)) []) b)) n

-- what a fake worm means, from what the device below means
abbrev pub meaning_of : {A : Type 0} → Ghosts A → FakeWorm A → Meaning
meaning_of f d = fake_worm d.label (f.meaning d.below)

-- an outcome below, where any refusal means that the block at this place is spoiled
abbrev pub or_spoiled : Place → Outcome → Outcome
or_spoiled p (Ok x) = Ok x
or_spoiled p (Err e) = refused 5 p.label p.block
