-- The parts of blocks.
use Rattle.std.proofs.Common.{◌≡◌, ℕ, ◌+◌, ◌^◌, ◌<◌, true, List, ◌++◌, length, take, ap, ◌∙◌}
use Rattle.std.proofs.lemmas.List.{length-append, take_at}
use Rattle.layout.specs.Numbers.{bytes16, bytes32, number16, number32, bytes_at}
use Rattle.layout.specs.Blocks.{body_of, pad_of, tag_of, owner_of, legal_pad, block}
use Rattle.layout.proofs.Bytes.{length_bytes16, length_bytes32, number16_bytes16, number32_bytes32}
use Rattle.layout.proofs.Parts.{behind}

module _ (tag owner : ℕ) (body : List ℕ) (long : length body ≡ 504) where
  pub block_length : length (block tag owner body) ≡ 512
  unfolding block
  block_length = simp (length-append, long, length_bytes16, length_bytes32)

  pub block_body : body_of (block tag owner body) ≡ body
  unfolding block
  block_body = take_at body _ 504 long

  -- the n bytes from i on, behind the body
  ends_at : (i n : ℕ) → bytes_at (504 + i) n (block tag owner body) ≡ bytes_at i n (bytes16 0 ++ (bytes16 tag ++ bytes32 owner))
  unfolding block
  ends_at i n = ap (take n) (behind body _ 504 i long)

  pub block_pad : legal_pad (pad_of (block tag owner body)) ≡ true
  unfolding legal_pad number16 bytes16
  block_pad = ap (λ bs. legal_pad (number16 bs)) (ends_at 0 2)

  pub block_tag : tag < 2 ^ 16 → tag_of (block tag owner body) ≡ tag
  unfolding bytes16
  block_tag h = ap number16 (ends_at 2 2) ∙ number16_bytes16 tag h

  pub block_owner : owner < 2 ^ 32 → owner_of (block tag owner body) ≡ owner
  unfolding bytes16 bytes32
  block_owner h = ap number32 (ends_at 4 4) ∙ number32_bytes32 owner h
