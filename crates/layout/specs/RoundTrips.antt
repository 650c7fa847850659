-- What is written is read back, and nothing else changes.
use Rattle.std.specs.Prelude.{◌≡◌, ℕ, ◌+◌, ◌*◌, ◌^◌, ◌<◌, ◌≤◌, true, ◌⊎◌, List, length, take, slice_index, slice_index_or, slice_set}
use Rattle.std.specs.List.{AllByRecursion}
use Rattle.layout.specs.declared.super_block.Super.{Super}
use Rattle.layout.specs.Numbers.{bytes16, bytes32, number16, number32, bytes_at, patched, fit}
use Rattle.layout.specs.Blocks.{body_of, pad_of, tag_of, owner_of, legal_pad, block, file_block, indirect_block, address_of}
use Rattle.layout.specs.Entries.{Entry, empty_entry, entry_bytes, directory_block, name_of, mode_of, reserved_of, qid_of, version_of, size_of, direct_of, indirect_of, entry_at}
use Rattle.layout.specs.Supers.{super_numbers, super_block, super_of, legal_super}

pub record RoundTrips : Type 0 where
  -- a number
  pub in_two_bytes : (n : ℕ) → n < 2 ^ 16 → number16 (bytes16 n) ≡ n
  pub in_four_bytes : (n : ℕ) → n < 2 ^ 32 → number32 (bytes32 n) ≡ n
  -- new bytes within a list stand where they were written, and every part beside them stays
  pub written : (i : ℕ) (new bs : List ℕ) → i + length new ≤ length bs → bytes_at i (length new) (patched i new bs) ≡ new
  pub beside : (i j n : ℕ) (new bs : List ℕ) → i + length new ≤ length bs → (j + n ≤ i) ⊎ (i + length new ≤ j) →
      bytes_at j n (patched i new bs) ≡ bytes_at j n bs
  -- a block
  pub whole : (tag owner : ℕ) (body : List ℕ) → length body ≡ 504 → length (block tag owner body) ≡ 512
  pub body : (tag owner : ℕ) (body : List ℕ) → length body ≡ 504 → body_of (block tag owner body) ≡ body
  pub pad : (tag owner : ℕ) (body : List ℕ) → length body ≡ 504 → legal_pad (pad_of (block tag owner body)) ≡ true
  pub tag : (tag owner : ℕ) (body : List ℕ) → length body ≡ 504 → tag < 2 ^ 16 → tag_of (block tag owner body) ≡ tag
  pub owner : (tag owner : ℕ) (body : List ℕ) → length body ≡ 504 → owner < 2 ^ 32 → owner_of (block tag owner body) ≡ owner
  -- the bytes of a file block
  pub contents : (owner : ℕ) (bytes : List ℕ) → length bytes ≤ 504 → take (length bytes) (body_of (file_block owner bytes)) ≡ bytes
  -- each address of an indirect block, and the block with another address in place j
  pub address : (owner : ℕ) (addresses : List ℕ) (j : ℕ) → length addresses ≤ 126 → slice_index addresses j < 2 ^ 32 →
      address_of j (indirect_block owner addresses) ≡ slice_index addresses j
  pub address_written : (owner : ℕ) (addresses : List ℕ) (j a : ℕ) → j < 126 →
      patched (4 * j) (bytes32 a) (indirect_block owner addresses) ≡ indirect_block owner (slice_set (fit 126 0 addresses) j a)
  -- each field of an entry
  pub name : (e : Entry) → length e.name ≤ 27 → AllByRecursion (λ b. 0 < b) e.name → name_of (entry_bytes e) ≡ e.name
  pub mode : (e : Entry) → e.mode < 2 ^ 16 → mode_of (entry_bytes e) ≡ e.mode
  pub reserved : (e : Entry) → reserved_of (entry_bytes e) ≡ 0
  pub qid : (e : Entry) → e.qid < 2 ^ 32 → qid_of (entry_bytes e) ≡ e.qid
  pub version : (e : Entry) → e.version < 2 ^ 32 → version_of (entry_bytes e) ≡ e.version
  pub size : (e : Entry) → e.size < 2 ^ 32 → size_of (entry_bytes e) ≡ e.size
  pub direct : (e : Entry) (i : ℕ) → length e.direct ≤ 6 → slice_index e.direct i < 2 ^ 32 → direct_of i (entry_bytes e) ≡ slice_index e.direct i
  pub indirect : (e : Entry) → e.indirect < 2 ^ 32 → indirect_of (entry_bytes e) ≡ e.indirect
  -- each entry of a directory block, and the block with another entry in place k
  pub entry : (owner : ℕ) (entries : List Entry) (k : ℕ) → length entries ≤ 7 →
      entry_at k (directory_block owner entries) ≡ entry_bytes (slice_index_or entries k empty_entry)
  pub entry_written : (owner : ℕ) (entries : List Entry) (k : ℕ) (e : Entry) → k < 7 →
      patched (72 * k) (entry_bytes e) (directory_block owner entries) ≡ directory_block owner (slice_set (fit 7 empty_entry entries) k e)
  -- a super
  pub numbers : (s : Super) → AllByRecursion (λ n. n < 2 ^ 32) (super_numbers s) → super_of (super_block s) ≡ s
  pub legal : (s : Super) → legal_super (super_block s) ≡ true
