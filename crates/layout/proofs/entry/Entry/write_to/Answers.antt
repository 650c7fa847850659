use Rattle.std.proofs.Common.{◌≡◌, length, arith}
use Rattle.layout.specs.Entries.{shown}
use Rattle.layout.proofs.Patches.{put_is}
use Rattle.layout.proofs.Fields.{fields_written}
use Rattle.layout.proofs.entry.Entry.write_to.Goals as goal

pub returns : goal.returns
returns c =
    let e = shown c.args.self.now in
    let old = c.args.place.now in
    let named : length e.name ≡ 28 = omega arith in
    let six : length e.direct ≡ 6 = omega arith in
    fields_written e old named six (omega arith) c.from.ensures
    (put_is 0 28 old c.copy_from_slice.new.self e.name c.copy_from_slice.ensures.after (omega arith))
    c.put.ensures c.put-2.ensures c.put_all.ensures c.put_all-2.ensures c.put-3.ensures
