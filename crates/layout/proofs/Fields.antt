-- The fields of entries.
use Rattle.std.proofs.Common.{◌≡◌, ℕ, ◌+◌, ◌-◌, ◌*◌, ◌^◌, ◌<◌, ◌≤◌, List, [], ◌∷◌, ◌++◌, length, get_or, take, replicate, refl, ap, ◌∙◌, arith}
use borrow.Rule.Slice.PartMut.{put_mid}
use Rattle.std.specs.List.{flat_map, AllByRecursion}
use Rattle.std.proofs.lemmas.List.{length-append, append_assoc, take_at, drop_at}
use Rattle.layout.specs.Numbers.{bytes16, bytes32, number16, number32, bytes_at, fit, patched}
use Rattle.layout.specs.Entries.{Entry, empty_entry, entry_bytes, until_zero, name_of, mode_of, reserved_of, qid_of, version_of, size_of, direct_of, indirect_of}
use Rattle.layout.proofs.Bytes.{length_bytes16, length_bytes32, length_joined, number16_bytes16, number32_bytes32, number_at}
use Rattle.layout.proofs.Parts.{behind, length_fit, fit_whole}
use Rattle.layout.proofs.Patches.{put_is, Front, front_more, front_all}
use Rattle.layout.proofs.Words.{until_fit}

pub length_entry_bytes : (e : Entry) → length (entry_bytes e) ≡ 72
unfolding entry_bytes
length_entry_bytes e = simp (length-append, length_fit, length_bytes16, length_bytes32, length_joined bytes32 4 length_bytes32)

pub empty_bytes : entry_bytes empty_entry ≡ replicate 72 0
unfolding entry_bytes fit bytes16 bytes32
empty_bytes = refl

-- an entry's bytes, written to place k of a block
pub place_written : (k : ℕ) (bytes new : List ℕ) (e : Entry) → new ≡ entry_bytes e → put_mid (72 * k) (72 * k + 72 - 72 * k) bytes new ≡ patched (72 * k) (entry_bytes e) bytes
place_written k bytes new e is = put_is (72 * k) (72 * k + 72) bytes new (entry_bytes e) is (omega (arith, length_entry_bytes e))

-- an entry whose name and addresses fill their fields, written field by field
module _ (e : Entry) (old : List ℕ) (named : length e.name ≡ 28) (six : length e.direct ≡ 6) (whole : length old ≡ 72) where
  pub fields_written : {b₀ b₁ b₂ b₃ b₄ b₅ : List ℕ} {m : ℕ} → m ≡ e.mode → b₀ ≡ patched 0 e.name old → b₁ ≡ patched 28 (bytes16 m) b₀ → b₂ ≡ patched 30 (bytes16 0) b₁
      → b₃ ≡ patched 32 (flat_map bytes32 (e.qid ∷ e.version ∷ e.size ∷ [])) b₂ → b₄ ≡ patched 44 (flat_map bytes32 e.direct) b₃
      → b₅ ≡ patched 68 (bytes32 e.indirect) b₄ → b₅ ≡ entry_bytes e
  unfolding entry_bytes
  fields_written {b₀} is p₀ p₁ p₂ p₃ p₄ p₅ =
      let name : Front old _ e.name 28 = record { is = p₀; long = named } in
      let mode = front_more (bytes16 e.mode) name (p₁ ∙ ap (λ n. patched 28 (bytes16 n) b₀) is) (length_bytes16 e.mode) in
      let reserved = front_more _ mode p₂ (length_bytes16 0) in
      let numbers = front_more _ reserved p₃ (length_joined bytes32 4 length_bytes32 (e.qid ∷ e.version ∷ e.size ∷ [])) in
      let direct = front_more _ numbers p₄ (length_joined bytes32 4 length_bytes32 e.direct ∙ ap (λ n. 4 * n) six) in
      let indirect = front_more _ direct p₅ (length_bytes32 e.indirect) in
      front_all indirect whole ∙ simp (fit_whole 28 0 e.name named, fit_whole 6 0 e.direct six, append_assoc)

-- what is read back
module _ (e : Entry) where
  pub entry_name : length e.name ≤ 27 → AllByRecursion (λ b. 0 < b) e.name → name_of (entry_bytes e) ≡ e.name
  unfolding entry_bytes
  entry_name short h = ap until_zero (take_at _ _ 28 (length_fit 28 0 e.name)) ∙ until_fit 27 e.name h short

  -- the n bytes from i on, behind the name
  behind_name : (i n : ℕ) → bytes_at (28 + i) n (entry_bytes e) ≡ bytes_at i n (bytes16 e.mode ++ (bytes16 0
      ++ (bytes32 e.qid ++ (bytes32 e.version ++ (bytes32 e.size ++ (flat_map bytes32 (fit 6 0 e.direct) ++ bytes32 e.indirect))))))
  unfolding entry_bytes
  behind_name i n = ap (take n) (behind _ _ 28 i (length_fit 28 0 e.name))

  pub entry_mode : e.mode < 2 ^ 16 → mode_of (entry_bytes e) ≡ e.mode
  unfolding bytes16
  entry_mode h = ap number16 (behind_name 0 2) ∙ number16_bytes16 e.mode h

  pub entry_reserved : reserved_of (entry_bytes e) ≡ 0
  unfolding bytes16
  entry_reserved = ap number16 (behind_name 2 2) ∙ number16_bytes16 0 (omega arith)

  pub entry_qid : e.qid < 2 ^ 32 → qid_of (entry_bytes e) ≡ e.qid
  unfolding bytes16 bytes32
  entry_qid h = ap number32 (behind_name 4 4) ∙ number32_bytes32 e.qid h

  pub entry_version : e.version < 2 ^ 32 → version_of (entry_bytes e) ≡ e.version
  unfolding bytes16 bytes32
  entry_version h = ap number32 (behind_name 8 4) ∙ number32_bytes32 e.version h

  pub entry_size : e.size < 2 ^ 32 → size_of (entry_bytes e) ≡ e.size
  unfolding bytes16 bytes32
  entry_size h = ap number32 (behind_name 12 4) ∙ number32_bytes32 e.size h

  addresses_long : length (flat_map bytes32 (fit 6 0 e.direct)) ≡ 24
  addresses_long = length_joined bytes32 4 length_bytes32 (fit 6 0 e.direct) ∙ ap (λ n. 4 * n) (length_fit 6 0 e.direct)

  pub entry_direct : (i : ℕ) → length e.direct ≤ 6 → get_or e.direct i 0 < 2 ^ 32 → direct_of i (entry_bytes e) ≡ get_or e.direct i 0
  unfolding bytes16 bytes32
  entry_direct i short h = ap (λ bs. number32 (bytes_at (4 * i) 4 bs)) (behind_name 16 24 ∙ take_at _ _ 24 addresses_long) ∙ number_at 6 e.direct i short h

  pub entry_indirect : e.indirect < 2 ^ 32 → indirect_of (entry_bytes e) ≡ e.indirect
  unfolding bytes16 bytes32
  entry_indirect h = ap number32 (behind_name 40 4 ∙ ap (take 4) (drop_at _ _ 24 addresses_long)) ∙ number32_bytes32 e.indirect h
