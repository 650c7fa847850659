use Rattle.std.proofs.Common.{◌∙◌, arith, rules, tests}
use Rattle.std.proofs.lemmas.Iterator.{YieldsList-from_slice}
use Rattle.std.proofs.lemmas.Iterator.Search.{all_from_yields_List}
use Rattle.plain.specs.Names.{name_byte}
use Rattle.plain.proofs.name.is_name.Goals as goal

pub returns-then-contains : goal.returns-then-contains
returns-then-contains c =
    let bytes = c.args.bytes.now in
    let each = all_from_yields_List name_byte _ _ _ c.all.ensures.ran (YieldsList-from_slice bytes (cc)) (λ x b q k. search (rules, tests)) in
    each ∙ grind (arith, rules)
