use Rattle.std.proofs.Common.{take, drop, eqb, ap, ◌∙◌, rules}
use Rattle.std.proofs.lemmas.Iterator.{YieldsList-from_slice}
use Rattle.std.proofs.lemmas.Iterator.Search.{position_from_yields_List}
use Rattle.layout.proofs.Words.{until_found, take_until_zero}
use Rattle.layout.proofs.entry.split_at_zero.Goals as goal

pub returns : goal.returns
returns c =
    let bytes = c.args.bytes.now in
    let found = position_from_yields_List (λ b. eqb b 0) _ _ c.position-zero.result c.position-zero.ensures.ran (YieldsList-from_slice bytes cc) (λ x b q k. search rules) in
    let len = c.unwrap_or.ensures ∙ until_found bytes c.position-zero.result found in
    record {
      front = c.split_at.ensures.front ∙ ap (λ n. take n bytes) len ∙ take_until_zero bytes;
      back = c.split_at.ensures.back ∙ ap (λ n. drop n bytes) len;
    }
