use Rattle.std.proofs.Common.{◌≡◌, ◌&&◌, nat_eq, nat_lt, refl, ap, ◌∙◌, arith}
use Rattle.std.proofs.lemmas.Bool.Decides.{nat_tests}
use Rattle.layout.specs.Numbers.{bytes_at}
use Rattle.layout.specs.Entries.{mode_of, size_of, reserved_of, qid_of, legal_size, legal_name_field, legal_entry}
use Rattle.layout.proofs.Tests.{goes_on, stops, otherwise}
use Rattle.layout.proofs.entry.EntryView.is_legal.Goals as goal
use Rattle.layout.proofs.entry.EntryView.is_legal.Goals.{then-reserved-eq0, else-reserved-eq0}

pub returns-then-is_all_zero : goal.returns-then-is_all_zero
unfolding legal_entry
returns-then-is_all_zero c = grind (arith, nat_tests)

pub returns-then-qid-next_qid : goal.returns-then-qid-next_qid
unfolding legal_entry
returns-then-qid-next_qid c =
    let e = c.args.self.now.bytes.now in
    let named : c.if-size_is_legal.value ≡ (legal_size (mode_of e) (size_of e) && legal_name_field (bytes_at 0 28 e)) = grind (arith, nat_tests) in
    let free : c.if-name_is_legal.value ≡ (legal_size (mode_of e) (size_of e) && legal_name_field (bytes_at 0 28 e) && nat_eq (reserved_of e) 0) = grind (arith, nat_tests) in
    let given : c.if-reserved-eq0.value ≡ (legal_size (mode_of e) (size_of e) && legal_name_field (bytes_at 0 28 e) && nat_eq (reserved_of e) 0 && nat_lt (qid_of e) c.args.next_qid) =
    elim c.if-reserved-eq0.branch [
      | then-reserved-eq0 w ↦ goes_on free w.if-reserved-eq0.true (w.value-is ∙ ap (λ n. nat_lt n c.args.next_qid) w.qid.ensures)
      | else-reserved-eq0 w ↦ stops free _ w.if-reserved-eq0.false w.value-is
    ] in
    otherwise c.is_all_zero.ensures c.if-is_all_zero.false (goes_on given c.if-qid-next_qid.true c.addresses_are_legal.ensures)

pub returns-else-qid-next_qid : goal.returns-else-qid-next_qid
unfolding legal_entry
returns-else-qid-next_qid c =
    let e = c.args.self.now.bytes.now in
    let named : c.if-size_is_legal.value ≡ (legal_size (mode_of e) (size_of e) && legal_name_field (bytes_at 0 28 e)) = grind (arith, nat_tests) in
    let free : c.if-name_is_legal.value ≡ (legal_size (mode_of e) (size_of e) && legal_name_field (bytes_at 0 28 e) && nat_eq (reserved_of e) 0) = grind (arith, nat_tests) in
    let given : c.if-reserved-eq0.value ≡ (legal_size (mode_of e) (size_of e) && legal_name_field (bytes_at 0 28 e) && nat_eq (reserved_of e) 0 && nat_lt (qid_of e) c.args.next_qid) =
    elim c.if-reserved-eq0.branch [
      | then-reserved-eq0 w ↦ goes_on free w.if-reserved-eq0.true (w.value-is ∙ ap (λ n. nat_lt n c.args.next_qid) w.qid.ensures)
      | else-reserved-eq0 w ↦ stops free _ w.if-reserved-eq0.false w.value-is
    ] in
    otherwise c.is_all_zero.ensures c.if-is_all_zero.false (stops given _ c.if-qid-next_qid.false refl)
