use Rattle.std.proofs.Common.{◌∙◌, sym, ap, eqb, leb, ltb, ◌&&◌, length, zero-add, arith, rules, tests}
use Rattle.std.specs.List.{list_all, slice_split}
use Rattle.std.specs.Slice.Iter.{split_rest, split_done, split_callee}
use Rattle.std.proofs.lemmas.Iterator.Consumers.{YieldsList-from_enumerate}
use Rattle.std.proofs.lemmas.Iterator.Search.{all_from_yields_List}
use Rattle.std.proofs.lemmas.Iterator.Splits.{YieldsList-from_slice_split}
use Rattle.plain.specs.Names.{is_name}
use Rattle.plain.proofs.Pieces.{numbered_names, split_names}
use Rattle.plain.proofs.path.are_names.Goals as goal

pub returns : goal.returns
returns c =
    let text = c.args.text.now in
    let source = c.enumerate.ensures.source in
    let split = c.split.ensures in
    let all = all_from_yields_List (λ p. ltb p.0 8 && is_name p.1) _ _ _ c.all.ensures.ran (YieldsList-from_enumerate (YieldsList-from_slice_split _ (λ b. eqb b 47) text (ap split_rest source ∙ split.rest) (ap split_done source ∙ split.done) (ap split_callee source ∙ split.closure) (λ x b q k. search (rules, tests))) c.enumerate.ensures.count) (λ x b q k. search (rules, tests)) in
    let parts = slice_split (λ b. eqb b 47) text in
    all ∙ numbered_names 0 parts (omega arith) ∙ ap (λ n. leb n 8 && list_all is_name parts) (zero-add (length parts)) ∙ sym (split_names text)
