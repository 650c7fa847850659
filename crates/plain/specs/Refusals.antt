-- Refusals of the server's calls as docs/REFUSALS.md shows them: a number, and the values that go with it.
use Rattle.std.specs.Prelude.{ℕ, Option}
use Rattle.std.specs.Option.{option_map}
use Rattle.device.specs.Refusals as device
use Rattle.plain.specs.declared.fault.TreeFault.{TreeFault}
use Rattle.plain.specs.declared.fault.TreeFault.TheVariants.{MalformedPath, DatedChange, NoSuchDump, NotFound, WrongKind, Exists, BadRange, DirectoryFull, NotEmpty, OutOfQids, CacheFull, ShelfFull, DumpWaiting, DateNotAfter, NothingWaiting, NoSuper, UnfitPair, Check, Device}

pub data Refusal : Type 0 where
  -- a number from 11 to 27, alone
  row : ℕ → Refusal
  -- 28, with the address of the block named and the fault below, if there was one
  check : ℕ → Option device.Refusal → Refusal
  -- a device's own refusal, whole
  below : device.Refusal → Refusal

abbrev pub shown : TreeFault → Refusal
shown MalformedPath = row 11
shown DatedChange = row 12
shown NoSuchDump = row 13
shown NotFound = row 14
shown WrongKind = row 15
shown Exists = row 16
shown BadRange = row 17
shown DirectoryFull = row 18
shown NotEmpty = row 19
shown OutOfQids = row 20
shown CacheFull = row 21
shown ShelfFull = row 22
shown DumpWaiting = row 23
shown DateNotAfter = row 24
shown NothingWaiting = row 25
shown NoSuper = row 26
shown UnfitPair = row 27
shown (Check a f) = check a (option_map device.shown f)
shown (Device f) = below (device.shown f)
