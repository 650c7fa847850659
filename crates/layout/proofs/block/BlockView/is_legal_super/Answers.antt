use Rattle.std.proofs.Common.{rules, arith, ◌≡◌, ◌&&◌, length, drop, nat_eq, refl, ap, ap₂, ◌∙◌}
use Rattle.layout.specs.Blocks.{legal_pad, pad_of, tag_of, owner_of}
use Rattle.std.proofs.lemmas.List.{length-take, length-drop}
use Rattle.layout.specs.Numbers.{bytes_at}
use Rattle.layout.specs.Supers.{legal_super}
use Rattle.layout.proofs.Tests.{goes_on, stops}
use Rattle.layout.proofs.Words.{equal_zeros}
use Rattle.layout.proofs.block.BlockView.is_legal_super.Goals as goal
use Rattle.layout.proofs.block.BlockView.is_legal_super.Goals.{then-pad_is_legal, else-pad_is_legal, then-tag-from, else-tag-from}

pub returns-then-owner-eq0 : goal.returns-then-owner-eq0
unfolding legal_super
returns-then-owner-eq0 c =
    let b = c.args.self.now.bytes.now in
    let tagged : c.if-pad_is_legal.value ≡ (legal_pad (pad_of b) && nat_eq (tag_of b) 1) = elim c.if-pad_is_legal.branch [
      | then-pad_is_legal w ↦ goes_on c.pad_is_legal.ensures w.if-pad_is_legal.true (w.value-is ∙ ap₂ nat_eq w.tag.ensures w.from.ensures)
      | else-pad_is_legal w ↦ stops c.pad_is_legal.ensures _ w.if-pad_is_legal.false w.value-is
    ] in
    let owned : c.if-tag-from.value ≡ (legal_pad (pad_of b) && nat_eq (tag_of b) 1 && nat_eq (owner_of b) 0) = elim c.if-tag-from.branch [
      | then-tag-from w ↦ goes_on tagged w.if-tag-from.true (w.value-is ∙ ap (λ n. nat_eq n 0) w.owner.ensures)
      | else-tag-from w ↦ stops tagged _ w.if-tag-from.false w.value-is
    ] in
    let long : length b ≡ 512 = search rules in
    goes_on owned c.if-owner-eq0.true (c.eq.ensures ∙ equal_zeros 480 (bytes_at 24 480 b) (omega (arith, length-take 480 (drop 24 b), length-drop 24 b, long)))

pub returns-else-owner-eq0 : goal.returns-else-owner-eq0
unfolding legal_super
returns-else-owner-eq0 c =
    let b = c.args.self.now.bytes.now in
    let tagged : c.if-pad_is_legal.value ≡ (legal_pad (pad_of b) && nat_eq (tag_of b) 1) = elim c.if-pad_is_legal.branch [
      | then-pad_is_legal w ↦ goes_on c.pad_is_legal.ensures w.if-pad_is_legal.true (w.value-is ∙ ap₂ nat_eq w.tag.ensures w.from.ensures)
      | else-pad_is_legal w ↦ stops c.pad_is_legal.ensures _ w.if-pad_is_legal.false w.value-is
    ] in
    let owned : c.if-tag-from.value ≡ (legal_pad (pad_of b) && nat_eq (tag_of b) 1 && nat_eq (owner_of b) 0) = elim c.if-tag-from.branch [
      | then-tag-from w ↦ goes_on tagged w.if-tag-from.true (w.value-is ∙ ap (λ n. nat_eq n 0) w.owner.ensures)
      | else-tag-from w ↦ stops tagged _ w.if-tag-from.false w.value-is
    ] in
    stops owned _ c.if-owner-eq0.false refl
