use Rattle.std.proofs.Common.{◌≡◌, take}
use Rattle.std.specs.List.{flat_map}
use Rattle.layout.specs.Numbers.{patched}
use Rattle.layout.proofs.numbers.put_all.Given as goal

abbrev pub invariant-loop-i : goal.invariant-loop-i
invariant-loop-i g l = l.bytes ≡ patched l.at (flat_map g.N.Number.bytes_of (take l.i l.numbers)) l.initial.bytes
