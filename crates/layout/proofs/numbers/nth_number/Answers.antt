use Rattle.std.proofs.Common.{◌≡◌, ℕ, ◌/◌, List, [], length, get_or, refl, ap, ◌∙◌, Option, None, Some, MatchOption, Bor, arith, rules}
use Rattle.std.specs.Option.{unwrap_or, option_map}
use Rattle.layout.specs.Numbers.{number32}
use Rattle.layout.proofs.Chunks.{chunk_at}
use Rattle.layout.proofs.numbers.nth_number.Goals as goal

number_or : (got : Option (Bor (List ℕ))) (number : ℕ) → MatchOption got (number ≡ 0) (λ x. number ≡ number32 x.now) → number ≡ number32 (unwrap_or (option_map (λ x. x.now) got) [])
unfolding number32
number_or None number h = h
number_or (Some x) number h = h

pub returns : goal.returns
unfolding number32
returns c =
    let row = c.args.row.now in
    let read : MatchOption c.get.result (c.map_or.result ≡ 0) (λ x. c.map_or.result ≡ number32 x.now) = search rules in
    let found = c.get.ensures.lookup.4 (omega arith) [] in
    number_or c.get.result c.map_or.result read ∙ ap number32 found ∙ ap (λ chunks. number32 (get_or chunks c.args.i [])) c.as_chunks.ensures.front
    ∙ chunk_at number32 [] refl 4 (length row / 4) row c.args.i (omega arith)
