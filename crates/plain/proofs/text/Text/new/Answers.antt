use Rattle.std.proofs.Common.{length, drop, replicate, ap, arith}
use Rattle.std.proofs.lemmas.List.{drop_at, drop-replicate, places}
use Rattle.plain.proofs.text.Text.new.Goals as goal

pub invariant_of-result : goal.invariant_of-result
invariant_of-result g c = record {
  whole = grind (arith, places);
  fits = omega arith;
  filled = grind (arith, drop_at c.copy_from_slice.new.self (drop (length c.args.bytes.now) (replicate g.row.N 0)) (length c.args.bytes.now) (ap length c.copy_from_slice.ensures.after), drop-replicate);
}
