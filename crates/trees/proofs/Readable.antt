-- What is written reads back: entries, and the blocks of files and directories.
use Rattle.std.proofs.Common.{◌≡◌, ℕ, ◌^◌, ◌<◌, ◌≤◌, min, List, map, length, get_or, sym, ap, ◌∙◌, ⊎_elim, arith}
use Rattle.std.specs.List.{range_with_len, AllByRecursion}
use Rattle.std.proofs.lemmas.List.FromFn.{fill_by_all}
use Rattle.std.proofs.ByRecursion.{All-get_or}
use Rattle.std.proofs.lemmas.List.{length-map, get_or-map, get_or_past}
use Rattle.std.proofs.lemmas.Bool.{cases_lt}
use Rattle.layout.specs.Blocks.{body_of, file_block, indirect_block, address_of}
use Rattle.layout.specs.Entries.{Entry, empty_entry, name_of, mode_of, qid_of, version_of, size_of, direct_of, indirect_of, entry_bytes, directory_block, entry_at, blocks_for}
use Rattle.layout.proofs.Fields.{entry_name, entry_mode, entry_qid, entry_version, entry_size, entry_direct, entry_indirect}
use Rattle.layout.proofs.Parts.{length_fit, fit_whole}
use Rattle.layout.proofs.Ends.{block_body}
use Rattle.layout.proofs.Bodies.{indirect_address, directory_entry}
use Rattle.trees.specs.Represents.{InRange}
use Rattle.trees.specs.Decoded.{entries_of, directs_of, addresses_of}

-- An entry that 72 bytes have room for: the name has no zero byte, and the addresses are those of a shelf of `limit` blocks, as many as
-- the size needs.
pub record Readable (limit : ℕ) (e : Entry) : Type 0 where
  pub few : limit ≤ 65536
  pub short : length e.name ≤ 27
  pub word : AllByRecursion (λ b. 0 < b) e.name
  pub mode : e.mode < 2 ^ 16
  pub qid : e.qid < 2 ^ 32
  pub version : e.version < 2 ^ 32
  pub size : e.size < 2 ^ 32
  pub many : length e.direct ≡ min 6 (blocks_for e.size)
  pub direct : AllByRecursion (InRange limit) e.direct
  pub indirect : (6 < blocks_for e.size → InRange limit e.indirect) × (blocks_for e.size ≤ 6 → e.indirect ≡ 0)

module _ (limit : ℕ) (few : limit ≤ 65536) where
  -- an address of a list, or 0 past its end, has 32 bits
  pub address_small : (l : List ℕ) → AllByRecursion (InRange limit) l → (i : ℕ) → get_or l i 0 < 2 ^ 32
  address_small l h i =
      ⊎_elim (λ (lt : i < length l). let r = All-get_or (InRange limit) l i 0 lt h in omega arith) (λ (le : length l ≤ i). omega (arith, get_or_past l i 0 le)) (cases_lt i (length l))

-- elements that a function gives by their places
by_places : {X : Type 0} (f : ℕ → X) (xs : List X) (d : X) (n : ℕ) → length xs ≡ n → ((k : ℕ) → k < n → f k ≡ get_or xs k d) → map f (range_with_len 0 n) ≡ xs
by_places f xs d n e h = sym (fill_by_all f xs n d e (λ k lt. sym (h k lt)))

-- the fields of an entry
pub empty_mode : mode_of (entry_bytes empty_entry) ≡ 0
empty_mode = entry_mode empty_entry (omega arith)

module _ (limit : ℕ) (e : Entry) (r : Readable limit e) where
  pub read_name : name_of (entry_bytes e) ≡ e.name
  read_name = entry_name e r.short r.word

  pub read_mode : mode_of (entry_bytes e) ≡ e.mode
  read_mode = entry_mode e r.mode

  pub read_qid : qid_of (entry_bytes e) ≡ e.qid
  read_qid = entry_qid e r.qid

  pub read_version : version_of (entry_bytes e) ≡ e.version
  read_version = entry_version e r.version

  pub read_size : size_of (entry_bytes e) ≡ e.size
  read_size = entry_size e r.size

  pub read_indirect : indirect_of (entry_bytes e) ≡ e.indirect
  read_indirect = entry_indirect e small
    where
      small : e.indirect < 2 ^ 32
      small =
          ⊎_elim
          (λ (more : 6 < blocks_for e.size). let within = r.indirect.0 more in omega (arith, r.few))
          (λ (le : blocks_for e.size ≤ 6). omega (arith, r.indirect.1 le))
          (cases_lt 6 (blocks_for e.size))

  pub read_direct : (i : ℕ) → direct_of i (entry_bytes e) ≡ get_or e.direct i 0
  read_direct i = entry_direct e i (omega (arith, r.many)) (address_small limit r.few e.direct r.direct i)

  pub read_directs : directs_of (entry_bytes e) ≡ e.direct
  read_directs = by_places (λ i. direct_of i (entry_bytes e)) e.direct 0 _ (r.many ∙ ap (λ s. min 6 (blocks_for s)) (sym read_size)) (λ i lt. read_direct i)

-- the entries of a directory block, the addresses of an indirect block and the bytes of a file block
pub read_entries : (q : ℕ) (es : List Entry) → length es ≡ 7 → entries_of (directory_block q es) ≡ map entry_bytes es
read_entries q es long =
    by_places (λ k. entry_at k (directory_block q es)) (map entry_bytes es) (entry_bytes empty_entry) 7 (length-map es entry_bytes ∙ long)
    (λ k lt. directory_entry q es k (omega arith) ∙ sym (get_or-map entry_bytes es k empty_entry (entry_bytes empty_entry) (omega arith)))

pub read_addresses : (limit q n : ℕ) (l : List ℕ) → limit ≤ 65536 → AllByRecursion (InRange limit) l → length l ≡ n → n ≤ 126 → addresses_of n (indirect_block q l) ≡ l
read_addresses limit q n l few h long short =
    by_places (λ j. address_of j (indirect_block q l)) l 0 n long (λ j lt. indirect_address q l j (omega arith) (address_small limit few l h j))

pub read_bytes : (q : ℕ) (bytes : List ℕ) → length bytes ≡ 504 → body_of (file_block q bytes) ≡ bytes
unfolding file_block
read_bytes q bytes long = block_body 5 q _ (length_fit 504 0 bytes) ∙ fit_whole 504 0 bytes long
