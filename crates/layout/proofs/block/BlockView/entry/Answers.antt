use Rattle.std.proofs.Common.{◌≡◌, ℕ, ◌/◌, List, length, get_or, take, replicate, refl, sym, ap, ◌∙◌, Bor, arith}
use Rattle.std.specs.Simd.{first_chunks}
use Rattle.layout.specs.Numbers.{fit}
use Rattle.layout.proofs.Parts.{fit_whole, fit_none}
use Rattle.layout.proofs.Chunks.{chunk_at, chunk_long, now_or}
use Rattle.layout.proofs.block.BlockView.entry.Goals as goal

pub returns : goal.returns
returns c =
    let k = c.args.k in
    let body : List ℕ = take 504 c.args.self.now.bytes.now in
    let long : length body ≡ 504 = omega arith in
    let empty : List ℕ = replicate 72 0 in
    let is : c.new.result.bytes.now ≡ get_or (first_chunks 72 (length body / 72) body) k empty =
    c.new.ensures ∙ ap (λ (r : Bor (List ℕ)). r.now) c.unwrap_or.ensures ∙ now_or c.get.result _ ∙ c.get.ensures.lookup.4 (omega arith) empty ∙ ap (λ chunks. get_or chunks k empty) c.as_chunks.ensures.front in
    is ∙ sym (fit_whole 72 0 _ (chunk_long 72 (length body / 72) body k empty refl (omega arith)))
    ∙ chunk_at (fit 72 0) empty (fit_whole 72 0 empty refl ∙ sym (fit_none 72 0)) 72 (length body / 72) body k (omega arith)
