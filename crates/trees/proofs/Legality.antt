-- What is written passes the tests of blocks and entries.
use Rattle.std.proofs.Common.{◌≡◌, ℕ, zero, suc, ◌+◌, ◌*◌, ◌^◌, ◌<◌, ◌≤◌, Bool, true, ◌&&◌, ltb, List, [], ◌∷◌, ◌++◌, map, length, get_or, take, drop, replicate, sym, refl, ap, ◌∙◌, subst, ⊎_elim, arith}
use Rattle.std.specs.List.{list_all, range_with_len, flat_map, AllByRecursion}
use Rattle.std.specs.Str.{bytes_eq}
use Rattle.std.proofs.ByRecursion.{All-get_or, All-map}
use Rattle.std.proofs.lemmas.List.{get_or_past, take_at}
use Rattle.std.proofs.lemmas.Bool.{cases_lt, and_from, or_right, lt-ltb, le-ltb, le-leb, eq-eqb}
use Rattle.plain.specs.Names.{is_name}
use Rattle.plain.specs.Trees.{slash}
use Rattle.plain.proofs.Walking.{self_name}
use Rattle.layout.specs.declared.block.Tag.TheVariants as tag
use Rattle.layout.specs.declared.entry.Mode.TheVariants as mode
use Rattle.layout.specs.Numbers.{bytes32, bytes_at, fit, all_zero}
use Rattle.layout.specs.Blocks.{tag_number, block, file_block, indirect_block}
use Rattle.layout.specs.Entries.{Entry, empty_entry, entry_bytes, mode_number, until_zero, mode_of, qid_of, size_of, direct_of, indirect_of, directory_block, entry_at, blocks_for, legal_address, legal_addresses, legal_size, legal_name_field, legal_entry}
use Rattle.layout.proofs.Bytes.{length_bytes32, length_joined}
use Rattle.layout.proofs.Parts.{length_fit}
use Rattle.layout.proofs.Words.{until_fit}
use Rattle.layout.proofs.Fields.{length_entry_bytes, empty_bytes, entry_reserved}
use Rattle.layout.proofs.Ends.{block_pad, block_tag, block_owner}
use Rattle.layout.proofs.Bodies.{indirect_address, directory_entry}
use Rattle.trees.specs.Represents.{InRange}
use Rattle.trees.specs.Lookups.{legal_ends, legal_directory, legal_indirect, legal_root_entry, legal_root}
use Rattle.trees.proofs.Readable.{Readable, address_small, read_mode, read_qid, read_size, read_direct, read_indirect, read_entries}

module _ {X : Type 0} (f : X → Bool) where
  all_pass : (xs : List X) → AllByRecursion (λ x. f x ≡ true) xs → list_all f xs ≡ true
  all_pass [] h = refl
  all_pass (x ∷ xs) h = and_from (f x) (list_all f xs) h.0 (all_pass xs h.1)

  all_pass_replicate : (n : ℕ) (x : X) → f x ≡ true → list_all f (replicate n x) ≡ true
  all_pass_replicate zero x e = refl
  all_pass_replicate (suc n) x e = and_from (f x) _ e (all_pass_replicate n x e)

all_pass_counting : (f : ℕ → Bool) (a n : ℕ) → ((j : ℕ) → j < a + n → f j ≡ true) → list_all f (range_with_len a n) ≡ true
all_pass_counting f a zero h = refl
all_pass_counting f a (suc n) h = and_from (f a) _ (h a (omega arith)) (all_pass_counting f (a + 1) n (λ j lt. h j (omega arith)))

-- the ends of blocks
ends : (tag owner : ℕ) (body : List ℕ) → length body ≡ 504 → tag < 2 ^ 16 → owner < 2 ^ 32 → legal_ends tag owner (block tag owner body) ≡ true
ends tag owner body long t o =
    and_from _ _ (and_from _ _ (block_pad tag owner body long) (eq-eqb _ _ (block_tag tag owner body long t))) (eq-eqb _ _ (block_owner tag owner body long o))

module _ (owner : ℕ) (small : owner < 2 ^ 32) where
  pub file_ends : (bytes : List ℕ) → legal_ends (tag_number tag.File) owner (file_block owner bytes) ≡ true
  unfolding file_block
  file_ends bytes = ends 5 owner (fit 504 0 bytes) (length_fit 504 0 bytes) (omega arith) small

  pub indirect_ends : (l : List ℕ) → legal_ends (tag_number tag.Indirect) owner (indirect_block owner l) ≡ true
  unfolding indirect_block
  indirect_ends l =
      let all = fit 126 0 l in
      ends 3 owner (flat_map bytes32 all) (length_joined bytes32 4 length_bytes32 all ∙ ap (λ n. 4 * n) (length_fit 126 0 l)) (omega arith) small

  pub directory_ends : (es : List Entry) → legal_ends (tag_number tag.Directory) owner (directory_block owner es) ≡ true
  unfolding directory_block
  directory_ends es =
      let all = fit 7 empty_entry es in
      ends 2 owner (flat_map entry_bytes all) (length_joined entry_bytes 72 length_entry_bytes all ∙ ap (λ n. 72 * n) (length_fit 7 empty_entry es)) (omega arith) small

-- addresses: the first n are in range, and the others 0
module _ (limit : ℕ) where
  legal_in : (i n a : ℕ) → (i < n → InRange limit a) → (n ≤ i → a ≡ 0) → legal_address limit (ltb i n) a ≡ true
  legal_in i n a h z =
      ⊎_elim
      (λ (lt : i < n). let r = h lt in ap (λ b. legal_address limit b a) (lt-ltb i n lt) ∙ and_from _ _ (le-leb 2 a (omega arith)) (lt-ltb a limit (omega arith)))
      (λ (le : n ≤ i). ap (λ b. legal_address limit b a) (le-ltb i n le) ∙ eq-eqb a 0 (z le))
      (cases_lt i n)

  legal_listed : (l : List ℕ) → AllByRecursion (InRange limit) l → (i n : ℕ) → (i < n → i < length l) → (n ≤ i → length l ≤ i) → legal_address limit (ltb i n) (get_or l i 0) ≡ true
  legal_listed l h i n below past = legal_in i n (get_or l i 0) (λ lt. All-get_or (InRange limit) l i 0 (below lt) h) (λ le. get_or_past l i 0 (past le))

  pub legal_indirect_lem : (q n : ℕ) (l : List ℕ) → limit ≤ 65536 → AllByRecursion (InRange limit) l → length l ≡ n → n ≤ 126 → legal_indirect limit n (indirect_block q l) ≡ true
  legal_indirect_lem q n l few h long short =
      all_pass_counting _ 0 126 (λ j lt.
      ap (legal_address limit (ltb j n)) (indirect_address q l j (omega arith) (address_small limit few l h j)) ∙ legal_listed l h j n (λ below. omega arith) (λ past. omega arith))

-- the name of an entry, and zeros after it
name_field : (e : Entry) → bytes_at 0 28 (entry_bytes e) ≡ fit 28 0 e.name
unfolding entry_bytes
name_field e = take_at (fit 28 0 e.name) _ 28 (length_fit 28 0 e.name)

zeros : (n k : ℕ) → all_zero (take n (replicate k 0)) ≡ true
zeros zero k = refl
zeros (suc n) zero = refl
zeros (suc n) (suc k) = and_from _ _ refl (zeros n k)

zeros_after : (xs : List ℕ) (n k : ℕ) → all_zero (drop (length xs) (take n (xs ++ replicate k 0))) ≡ true
zeros_after [] n k = zeros n k
zeros_after (x ∷ xs) zero k = refl
zeros_after (x ∷ xs) (suc n) k = zeros_after xs n k

module _ (limit : ℕ) (e : Entry) (r : Readable limit e) where
  legal_name : is_name e.name ≡ true → legal_name_field (bytes_at 0 28 (entry_bytes e)) ≡ true
  unfolding legal_name_field fit
  legal_name named =
      let name : until_zero (fit 28 0 e.name) ≡ e.name = until_fit 27 e.name r.word r.short in
      ap legal_name_field (name_field e)
      ∙ and_from _ _ (ap is_name name ∙ named) (ap (λ n. all_zero (drop (length n) (fit 28 0 e.name))) name ∙ zeros_after e.name 28 28)

  legal_addresses_lem : legal_addresses limit (entry_bytes e) ≡ true
  unfolding legal_addresses
  legal_addresses_lem =
      let blocks = blocks_for e.size in
      ap (λ s. list_all (λ i. legal_address limit (ltb i (blocks_for s)) (direct_of i (entry_bytes e))) (range_with_len 0 6) && legal_address limit (ltb 6 (blocks_for s)) (indirect_of (entry_bytes e)))
      (read_size limit e r)
      ∙ and_from _ _
      (all_pass_counting (λ i. legal_address limit (ltb i blocks) (direct_of i (entry_bytes e))) 0 6 (λ i lt.
      ap (legal_address limit (ltb i blocks)) (read_direct limit e r i)
      ∙ legal_listed limit e.direct r.direct i blocks (λ below. omega (arith, r.many)) (λ past. omega (arith, r.many))))
      (ap (legal_address limit (ltb 6 blocks)) (read_indirect limit e r) ∙ legal_in limit 6 blocks e.indirect r.indirect.0 r.indirect.1)

  legal_size_lem : legal_size e.mode e.size ≡ true → legal_size (mode_of (entry_bytes e)) (size_of (entry_bytes e)) ≡ true
  legal_size_lem sized = ap (λ k. legal_size k (size_of (entry_bytes e))) (read_mode limit e r) ∙ ap (legal_size e.mode) (read_size limit e r) ∙ sized

  pub legal_entry_lem : (next : ℕ) → is_name e.name ≡ true → legal_size e.mode e.size ≡ true → e.qid < next → legal_entry limit next (entry_bytes e) ≡ true
  unfolding legal_entry
  legal_entry_lem next named sized below =
      or_right (all_zero (entry_bytes e)) _
      (and_from _ _
      (and_from _ _
      (and_from _ _ (and_from _ _ (legal_size_lem sized) (legal_name named)) (eq-eqb _ _ (entry_reserved e)))
      (lt-ltb _ _ (subst (λ q. q < next) (sym (read_qid limit e r)) below)))
      legal_addresses_lem)

  -- the root block, where e is the entry of "/"
  pub legal_root_lem : (next : ℕ) → e.name ≡ slash → e.mode ≡ mode_number mode.Directory → legal_size e.mode e.size ≡ true → e.qid ≡ 1 → 1 < next →
      legal_root limit next (directory_block 0 (e ∷ replicate 6 empty_entry)) ≡ true
  legal_root_lem next name directory sized one below =
      let first : entry_at 0 (directory_block 0 (e ∷ replicate 6 empty_entry)) ≡ entry_bytes e = directory_entry 0 (e ∷ replicate 6 empty_entry) 0 (omega arith) in
      let qid : qid_of (entry_bytes e) ≡ 1 = read_qid limit e r ∙ one in
      and_from _ _
      (ap (legal_root_entry limit next) first
      ∙ and_from _ _
      (and_from _ _
      (and_from _ _
      (and_from _ _
      (and_from _ _
      (and_from _ _
      (ap (λ n. bytes_eq n (fit 28 0 slash)) (name_field e ∙ ap (fit 28 0) name) ∙ self_name (fit 28 0 slash))
      (eq-eqb _ _ (read_mode limit e r ∙ directory)))
      (legal_size_lem sized))
      (eq-eqb _ _ (entry_reserved e)))
      (eq-eqb _ _ qid))
      (lt-ltb _ _ (subst (λ q. q < next) (sym qid) below)))
      legal_addresses_lem)
      (ap (λ l. list_all all_zero (drop 1 l)) (read_entries 0 (e ∷ replicate 6 empty_entry) refl)
      ∙ all_pass_replicate all_zero 6 (entry_bytes empty_entry) (ap all_zero empty_bytes))

-- an empty place, and a block of places
module _ (limit next : ℕ) where
  pub legal_empty : legal_entry limit next (entry_bytes empty_entry) ≡ true
  unfolding legal_entry
  legal_empty = ap (legal_entry limit next) empty_bytes

  pub legal_directory_lem : (q : ℕ) (es : List Entry) → length es ≡ 7 → AllByRecursion (λ e. legal_entry limit next (entry_bytes e) ≡ true) es → legal_directory limit next (directory_block q es) ≡ true
  legal_directory_lem q es long h =
      ap (list_all (legal_entry limit next)) (read_entries q es long) ∙ all_pass (legal_entry limit next) (map entry_bytes es) (All-map (λ b. legal_entry limit next b ≡ true) entry_bytes es h)
