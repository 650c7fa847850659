-- The tests of an entry's name and addresses.
use Rattle.std.proofs.Common.{◌≡◌, ℕ, Bool, ◌&&◌, ltb, List, ap, ◌∙◌}
use Rattle.std.specs.List.{range_with_len, list_all}
use Rattle.layout.specs.Entries.{size_of, direct_of, indirect_of, legal_address, blocks_for, legal_addresses}

-- the tests of the direct addresses and of the indirect one, where the size takes so many blocks
pub addresses_tested : (limit blocks : ℕ) (e : List ℕ) {all last : Bool} → blocks ≡ blocks_for (size_of e)
    → all ≡ list_all (λ i. legal_address limit (ltb i blocks) (direct_of i e)) (range_with_len 0 6) → last ≡ legal_address limit (ltb 6 blocks) (indirect_of e) → (all && last) ≡ legal_addresses limit e
unfolding legal_addresses
addresses_tested limit blocks e {all} {last} count direct indirect =
    let tests : ℕ → Bool = λ blocks. list_all (λ i. legal_address limit (ltb i blocks) (direct_of i e)) (range_with_len 0 6) && legal_address limit (ltb 6 blocks) (indirect_of e) in
    ap (λ b. b && last) direct
    ∙ ap (λ b. list_all (λ i. legal_address limit (ltb i blocks) (direct_of i e)) (range_with_len 0 6) && b) indirect ∙ ap tests count
