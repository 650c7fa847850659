-- Bodies of blocks: the bytes of a file, parts of one length, and the numbers of a super.
use Rattle.std.proofs.Common.{◌≡◌, ℕ, ◌+◌, ◌*◌, ◌^◌, ◌<◌, ◌≤◌, true, List, ◌++◌, length, get_or, take, set, replicate, sym, refl, ap, ◌∙◌, ⊎_elim, mul-le-mul_left, mul-suc, arith}
use Rattle.std.specs.List.{flat_map, AllByRecursion}
use Rattle.std.proofs.lemmas.List.{length-set, take_at, take-take, get_or_past}
use Rattle.std.proofs.lemmas.Bool.{cases_lt}
use Rattle.layout.specs.declared.super_block.Super.{Super}
use Rattle.layout.specs.Numbers.{bytes16, bytes32, number16, number32, bytes_at, fit, patched}
use Rattle.layout.specs.Blocks.{body_of, legal_pad, block, file_block, indirect_block, address_of}
use Rattle.layout.specs.Entries.{Entry, empty_entry, entry_bytes, directory_block, entry_at}
use Rattle.layout.specs.Supers.{super_numbers, super_block, super_of, legal_super}
use Rattle.layout.proofs.Bytes.{length_bytes32, length_joined, joined_at, joined_past, joined_patched, number32_bytes32, number_at}
use Rattle.layout.proofs.Parts.{length_fit, fit_whole, fit_none, get_d_fit}
use Rattle.layout.proofs.Patches.{patched_append}
use Rattle.layout.proofs.Fields.{length_entry_bytes, empty_bytes}
use Rattle.layout.proofs.Ends.{block_body}

pub file_contents : (owner : ℕ) (bytes : List ℕ) → length bytes ≤ 504 → take (length bytes) (body_of (file_block owner bytes)) ≡ bytes
unfolding file_block fit
file_contents owner bytes short =
    ap (take (length bytes)) (block_body 5 owner (fit 504 0 bytes) (length_fit 504 0 bytes)) ∙ take-take (length bytes) 504 (bytes ++ replicate 504 0) short
    ∙ take_at bytes (replicate 504 0) (length bytes) refl

-- m parts of n bytes, which fill the body
module _ {X : Type 0} (f : X → List ℕ) (n m : ℕ) (d : X) (len : (x : X) → length (f x) ≡ n) (full : n * m ≡ 504) (tag owner : ℕ) (xs : List X) where
  parts_long : length (flat_map f (fit m d xs)) ≡ 504
  parts_long = length_joined f n len (fit m d xs) ∙ ap (λ k. n * k) (length_fit m d xs) ∙ full

  parts_body : body_of (block tag owner (flat_map f (fit m d xs))) ≡ flat_map f (fit m d xs)
  parts_body = block_body tag owner (flat_map f (fit m d xs)) parts_long

  part_written : (k : ℕ) (y : X) → k < m → patched (n * k) (f y) (block tag owner (flat_map f (fit m d xs))) ≡ block tag owner (flat_map f (fit m d (set (fit m d xs) k y)))
  unfolding block
  part_written k y h =
      let room : n * k + n ≤ n * m = omega (arith, mul-suc n k, mul-le-mul_left n h) in
      let filled = fit_whole m d (set (fit m d xs) k y) (length-set (fit m d xs) k y ∙ length_fit m d xs) in
      patched_append (n * k) (f y) (flat_map f (fit m d xs)) _ (omega (arith, len y, parts_long))
      ∙ ap (block tag owner) (joined_patched f n len (fit m d xs) k y (omega (arith, length_fit m d xs)) ∙ ap (flat_map f) (sym filled))

pub indirect_address : (owner : ℕ) (addresses : List ℕ) (j : ℕ) → length addresses ≤ 126 → get_or addresses j 0 < 2 ^ 32 →
    address_of j (indirect_block owner addresses) ≡ get_or addresses j 0
unfolding indirect_block
indirect_address owner addresses j short h =
    ap (λ body. number32 (bytes_at (4 * j) 4 body)) (parts_body bytes32 4 126 0 length_bytes32 refl 3 owner addresses) ∙ number_at 126 addresses j short h

pub directory_entry : (owner : ℕ) (entries : List Entry) (k : ℕ) → length entries ≤ 7 → entry_at k (directory_block owner entries) ≡ entry_bytes (get_or entries k empty_entry)
unfolding directory_block
directory_entry owner entries k short =
    ap (λ body. fit 72 0 (bytes_at (72 * k) 72 body)) (parts_body entry_bytes 72 7 empty_entry length_entry_bytes refl 2 owner entries) ∙ ⊎_elim within past (cases_lt k 7)
  where
    within : k < 7 → fit 72 0 (bytes_at (72 * k) 72 (flat_map entry_bytes (fit 7 empty_entry entries))) ≡ entry_bytes (get_or entries k empty_entry)
    within h =
        let at = joined_at entry_bytes 72 length_entry_bytes (fit 7 empty_entry entries) k empty_entry (omega (arith, length_fit 7 empty_entry entries)) in
        ap (fit 72 0) (at ∙ ap entry_bytes (get_d_fit 7 empty_entry entries k short)) ∙ fit_whole 72 0 _ (length_entry_bytes (get_or entries k empty_entry))

    past : 7 ≤ k → fit 72 0 (bytes_at (72 * k) 72 (flat_map entry_bytes (fit 7 empty_entry entries))) ≡ entry_bytes (get_or entries k empty_entry)
    past h =
        let none = joined_past entry_bytes 72 length_entry_bytes (fit 7 empty_entry entries) k (omega (arith, length_fit 7 empty_entry entries)) in
        ap (fit 72 0) none ∙ fit_none 72 0 ∙ sym empty_bytes ∙ ap entry_bytes (sym (get_or_past entries k empty_entry (omega arith)))

pub address_written : (owner : ℕ) (addresses : List ℕ) (j a : ℕ) → j < 126 →
    patched (4 * j) (bytes32 a) (indirect_block owner addresses) ≡ indirect_block owner (set (fit 126 0 addresses) j a)
unfolding indirect_block
address_written owner addresses j a h = part_written bytes32 4 126 0 length_bytes32 refl 3 owner addresses j a h

pub entry_written : (owner : ℕ) (entries : List Entry) (k : ℕ) (e : Entry) → k < 7 →
    patched (72 * k) (entry_bytes e) (directory_block owner entries) ≡ directory_block owner (set (fit 7 empty_entry entries) k e)
unfolding directory_block
entry_written owner entries k e h = part_written entry_bytes 72 7 empty_entry length_entry_bytes refl 2 owner entries k e h

pub super_numbers_lem : (s : Super) → AllByRecursion (λ n. n < 2 ^ 32) (super_numbers s) → super_of (super_block s) ≡ s
unfolding super_block block fit bytes32
super_numbers_lem s h = (λ i. record {
  number = number32_bytes32 s.number h.0 i;
  date = number32_bytes32 s.date h.1.0 i;
  root = number32_bytes32 s.root h.1.1.0 i;
  previous = number32_bytes32 s.previous h.1.1.1.0 i;
  next = number32_bytes32 s.next h.1.1.1.1.0 i;
  next_qid = number32_bytes32 s.next_qid h.1.1.1.1.1.0 i;
})

pub super_legal : (s : Super) → legal_super (super_block s) ≡ true
unfolding legal_super legal_pad super_block block fit bytes16 bytes32 number16 number32
super_legal s = refl
