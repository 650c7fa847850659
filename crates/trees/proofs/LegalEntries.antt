-- What a legal entry says, and that it is the encoding of what it decodes to.
use Rattle.std.proofs.Common.{◌≡◌, ℕ, ◌%◌, ◌^◌, ◌<◌, ◌≤◌, min, true, ◌&&◌, eqb, ltb, leb, ◌⊎◌, List, length, drop, replicate, sym, refl, ap, ◌∙◌, inl, inr, ⊎_elim, arith}
use Rattle.std.specs.List.{list_all, range_with_len, AllByRecursion}
use Rattle.std.specs.Str.{bytes_eq}
use Rattle.std.proofs.lemmas.Slice.Eq.{bytes_eq-Decides}
use Rattle.std.proofs.lemmas.Bool.{and_parts, or_cases, eqb-true, leb-true, ltb-true}
use Rattle.plain.specs.Names.{is_name}
use Rattle.plain.specs.Trees.{slash}
use Rattle.layout.specs.declared.entry.Mode.TheVariants as mode
use Rattle.layout.specs.Numbers.{number16, bytes_at, fit, all_zero}
use Rattle.layout.specs.Entries.{Entry, empty_entry, entry_bytes, mode_number, until_zero, name_of, mode_of, reserved_of, qid_of, version_of, size_of, direct_of, indirect_of, blocks_for, legal_address, legal_addresses, legal_size, legal_name_field, legal_entry}
use Rattle.layout.proofs.Fields.{empty_bytes}
use Rattle.trees.specs.Represents.{InRange}
use Rattle.trees.specs.Decoded.{directs_of}
use Rattle.trees.specs.Lookups.{legal_root_entry}
use Rattle.trees.proofs.Reencodes.{Bytes, Bytes72, part16, part32, part_and_rest, last_part, length_part, bytes_part, numbers_back, zeros, name_field, address_used, address_unused, addresses_used, addresses_unused, number32_small}

-- the entry of a file or a directory
pub record Node (limit next : ℕ) (e : List ℕ) : Type 0 where
  pub long : length e ≡ 72
  pub bytes : Bytes e
  pub size : legal_size (mode_of e) (size_of e) ≡ true
  pub padded : all_zero (drop (length (name_of e)) (bytes_at 0 28 e)) ≡ true
  pub reserved : reserved_of e ≡ 0
  pub qid : qid_of e < next
  pub addresses : legal_addresses limit e ≡ true

-- the sizes of a file and of a directory
module _ (kind size : ℕ) (legal : legal_size kind size ≡ true) where
  sizes : ((kind ≡ mode_number mode.File) × (size ≤ 66528)) ⊎ ((kind ≡ mode_number mode.Directory) × (size % 504 ≡ 0) × (size ≤ 3024))
  sizes = ⊎_elim
      (λ h. let both = and_parts (eqb kind (mode_number mode.File)) (leb size 66528) h in inl (eqb-true _ _ both.0, leb-true _ _ both.1))
      (λ h.
      let all = and_parts (eqb kind (mode_number mode.Directory) && eqb (size % 504) 0) (leb size 3024) h in
      let both = and_parts (eqb kind (mode_number mode.Directory)) (eqb (size % 504) 0) all.0 in
      inr (eqb-true _ _ both.0, eqb-true _ _ both.1, leb-true _ _ all.1))
      (or_cases (eqb kind (mode_number mode.File) && leb size 66528) (eqb kind (mode_number mode.Directory) && eqb (size % 504) 0 && leb size 3024) legal)

  pub file_size : kind ≡ mode_number mode.File → size ≤ 66528
  file_size e = omega (arith, sizes)

  pub directory_size : (kind ≡ mode_number mode.File → ⊥) → (kind ≡ mode_number mode.Directory) × (size % 504 ≡ 0) × (size ≤ 3024)
  directory_size ne = omega (arith, sizes)

  mode_used : kind ≡ 0 → ⊥
  mode_used e = omega (arith, sizes)

-- an empty place has zeros alone; any other is a node with a name
pub zeros_back : (e : List ℕ) → length e ≡ 72 → all_zero e ≡ true → entry_bytes empty_entry ≡ e
zeros_back e long none = empty_bytes ∙ sym (zeros e none ∙ ap (λ n. replicate n 0) long)

module _ (limit next : ℕ) (e : List ℕ) (sized : Bytes72 e) where
  zeros_mode : all_zero e ≡ true → mode_of e ≡ 0
  unfolding number16
  zeros_mode none = ap mode_of (zeros e none ∙ ap (λ n. replicate n 0) sized.0)

  cases : legal_entry limit next e ≡ true → (all_zero e ≡ true) ⊎ (Node limit next e × (is_name (name_of e) ≡ true))
  unfolding legal_entry legal_name_field
  cases legal = ⊎_elim inl (λ h.
      let four = and_parts (legal_size (mode_of e) (size_of e) && legal_name_field (bytes_at 0 28 e) && eqb (reserved_of e) 0 && ltb (qid_of e) next) (legal_addresses limit e) h in
      let three = and_parts (legal_size (mode_of e) (size_of e) && legal_name_field (bytes_at 0 28 e) && eqb (reserved_of e) 0) (ltb (qid_of e) next) four.0 in
      let two = and_parts (legal_size (mode_of e) (size_of e) && legal_name_field (bytes_at 0 28 e)) (eqb (reserved_of e) 0) three.0 in
      let one = and_parts (legal_size (mode_of e) (size_of e)) (legal_name_field (bytes_at 0 28 e)) two.0 in
      let named = and_parts (is_name (name_of e)) (all_zero (drop (length (name_of e)) (bytes_at 0 28 e))) one.1 in
      inr (
        record {
          long = sized.0;
          bytes = sized.1;
          size = one.0;
          padded = named.1;
          reserved = eqb-true _ _ two.1;
          qid = ltb-true _ _ three.1;
          addresses = four.1;
        },
        named.0,
      )) (or_cases (all_zero e) _ legal)

  pub empty_back : legal_entry limit next e ≡ true → mode_of e ≡ 0 → entry_bytes empty_entry ≡ e
  empty_back legal is = ⊎_elim
      (zeros_back e sized.0)
      (λ (h : Node limit next e × (is_name (name_of e) ≡ true)). absurd (mode_used (mode_of e) (size_of e) h.0.size is)) (cases legal)

  pub node : legal_entry limit next e ≡ true → (mode_of e ≡ 0 → ⊥) → Node limit next e × (is_name (name_of e) ≡ true)
  node legal ne = ⊎_elim (λ (none : all_zero e ≡ true). absurd (ne (zeros_mode none))) (λ h. h) (cases legal)

-- what an entry that is not empty reads as
abbrev pub entry_of : List ℕ → Entry
entry_of e = record { name = name_of e; mode = mode_of e; qid = qid_of e; version = version_of e; size = size_of e; direct = directs_of e; indirect = indirect_of e }

module _ (limit next : ℕ) (e : List ℕ) (h : Node limit next e) where
  -- its addresses
  both : (list_all (λ i. legal_address limit (ltb i (blocks_for (size_of e))) (direct_of i e)) (range_with_len 0 6) ≡ true) × (legal_address limit (ltb 6 (blocks_for (size_of e))) (indirect_of e) ≡ true)
  unfolding legal_addresses
  both = and_parts _ _ h.addresses

  pub directs_within : AllByRecursion (InRange limit) (directs_of e)
  directs_within = addresses_used limit (blocks_for (size_of e)) 6 (λ i. direct_of i e) both.0 (min 6 (blocks_for (size_of e))) (omega arith) (omega arith)

  pub indirect_within : 6 < blocks_for (size_of e) → InRange limit (indirect_of e)
  indirect_within more = address_used limit 6 (blocks_for (size_of e)) (indirect_of e) both.1 more

  pub indirect_none : blocks_for (size_of e) ≤ 6 → indirect_of e ≡ 0
  indirect_none few = address_unused limit 6 (blocks_for (size_of e)) (indirect_of e) both.1 few

  pub version_small : version_of e < 2 ^ 32
  version_small = number32_small (bytes_at 36 4 e) (bytes_part 36 4 e h.bytes)

  pub entry_back : entry_bytes (entry_of e) ≡ e
  unfolding entry_bytes
  entry_back =
      let named = name_field 28 (bytes_at 0 28 e) (length_part 0 28 e (omega arith)) h.padded in
      let mode = part16 28 (mode_of e) e h.bytes (omega arith) refl in
      let reserved = part16 30 0 e h.bytes (omega arith) h.reserved in
      let qid = part32 32 (qid_of e) e h.bytes (omega arith) refl in
      let version = part32 36 (version_of e) e h.bytes (omega arith) refl in
      let size = part32 40 (size_of e) e h.bytes (omega arith) refl in
      let direct = numbers_back 6 (min 6 (blocks_for (size_of e))) (bytes_at 44 24 e) (length_part 44 24 e (omega arith)) (bytes_part 44 24 e h.bytes) (omega arith)
      (λ j past lt. addresses_unused limit (blocks_for (size_of e)) 6 (λ i. direct_of i e) both.0 j (omega arith) lt) in
      let indirect = part32 68 (indirect_of e) e h.bytes (omega arith) refl ∙ last_part 68 4 e h.long in
      rw (named, mode, reserved, qid, version, size, direct, indirect)
      (rw (part_and_rest 44 24 e, part_and_rest 40 4 e, part_and_rest 36 4 e, part_and_rest 32 4 e, part_and_rest 30 2 e, part_and_rest 28 2 e) (part_and_rest 0 28 e))

-- the entry of "/"
pub record Root (limit next : ℕ) (e : List ℕ) : Type 0 where
  pub node : Node limit next e
  pub name : name_of e ≡ slash
  pub mode : mode_of e ≡ mode_number mode.Directory
  pub qid : qid_of e ≡ 1

pub root_entry : (limit next : ℕ) (e : List ℕ) → Bytes72 e → legal_root_entry limit next e ≡ true → Root limit next e
unfolding fit
root_entry limit next e sized legal =
    let named = bytes_eq (bytes_at 0 28 e) (fit 28 0 slash) in
    let kind = eqb (mode_of e) (mode_number mode.Directory) in
    let measured = legal_size (mode_of e) (size_of e) in
    let six = and_parts (named && kind && measured && eqb (reserved_of e) 0 && eqb (qid_of e) 1 && ltb (qid_of e) next) (legal_addresses limit e) legal in
    let five = and_parts (named && kind && measured && eqb (reserved_of e) 0 && eqb (qid_of e) 1) (ltb (qid_of e) next) six.0 in
    let four = and_parts (named && kind && measured && eqb (reserved_of e) 0) (eqb (qid_of e) 1) five.0 in
    let three = and_parts (named && kind && measured) (eqb (reserved_of e) 0) four.0 in
    let two = and_parts (named && kind) measured three.0 in
    let one = and_parts named kind two.0 in
    let name : bytes_at 0 28 e ≡ fit 28 0 slash = (bytes_eq-Decides _ _).0 one.0 in
    record {
      node = record {
        long = sized.0;
        bytes = sized.1;
        size = two.1;
        padded = ap (λ field. all_zero (drop (length (until_zero field)) field)) name;
        reserved = eqb-true _ _ three.1;
        qid = ltb-true _ _ five.1;
        addresses = six.1;
      };
      name = ap until_zero name;
      mode = eqb-true _ _ one.1;
      qid = eqb-true _ _ four.1;
    }
