use Rattle.std.proofs.Common.{ℕ, Bool, ltb, ◌&&◌, refl, sym, ap, ◌∙◌, rules, arith}
use Rattle.std.proofs.lemmas.Iterator.{YieldsList-from_range}
use Rattle.std.proofs.lemmas.Iterator.Search.{all_from_yields_List}
use Rattle.layout.specs.Entries.{legal_address, direct_of, indirect_of}
use Rattle.layout.proofs.Legal.{addresses_tested}
use Rattle.layout.proofs.entry.EntryView.addresses_are_legal.Goals as goal

pub returns-then-all : goal.returns-then-all
returns-then-all c =
    let e = c.args.self.now.bytes.now in
    let blocks = c.div_ceil-blocks.result in
    let test : ℕ → Bool = λ i. legal_address c.args.limit (ltb i blocks) (direct_of i e) in
    let all = all_from_yields_List test _ _ c.all.result c.all.ensures.ran (YieldsList-from_range 0 6 6 refl refl) (λ x b q k. search rules) in
    let last = c.address_is_legal.ensures ∙ ap (legal_address c.args.limit (ltb 6 blocks)) c.indirect.ensures in
    ap (λ b. b && c.address_is_legal.result) (sym c.if-all.true) ∙ addresses_tested c.args.limit blocks e (omega (arith, c.size.ensures, c.div_ceil-blocks.ensures)) all last

pub returns-else-all : goal.returns-else-all
returns-else-all c =
    let e = c.args.self.now.bytes.now in
    let blocks = c.div_ceil-blocks.result in
    let test : ℕ → Bool = λ i. legal_address c.args.limit (ltb i blocks) (direct_of i e) in
    let all = all_from_yields_List test _ _ c.all.result c.all.ensures.ran (YieldsList-from_range 0 6 6 refl refl) (λ x b q k. search rules) in
    c.if-all.false ∙ ap (λ b. b && legal_address c.args.limit (ltb 6 blocks) (indirect_of e)) (sym c.if-all.false)
    ∙ addresses_tested c.args.limit blocks e (omega (arith, c.size.ensures, c.div_ceil-blocks.ensures)) all refl
