-- What is legal in blocks is the encoding of what it reads as.
use Rattle.std.proofs.Common.{◌≡◌, ℕ, zero, suc, ◌+◌, ◌*◌, ◌^◌, ◌<◌, ◌≤◌, Bool, true, ◌&&◌, eqb, ltb, leb, List, [], ◌∷◌, ◌++◌, map, length, get_or, take, drop, replicate, sym, refl, ap, ◌∙◌, subst, ⊎_elim, mul-zero, arith}
use Rattle.std.specs.List.{list_all, range_with_len, flat_map, AllByRecursion}
use Rattle.std.proofs.lemmas.Nat.{be_bytes_2, be_bytes_4}
use Rattle.std.proofs.lemmas.List.FromFn.{length-map-range_with_len, get_or-map-range_with_len}
use Rattle.std.proofs.ByRecursion.{All-take, All-drop}
use Rattle.std.proofs.lemmas.List.{length-take, length-drop, length-map, take-append-drop, take_all, drop_all, drop-drop, drop-replicate, get_or_past, ext_get_or}
use Rattle.std.proofs.lemmas.Bool.{and_parts, eqb-true, leb-true, ltb-true, lt-ltb, le-ltb, cases_lt, cases_eq}
use Rattle.layout.specs.declared.block.Tag.TheVariants as tag
use Rattle.layout.specs.Numbers.{bytes16, bytes32, number16, number32, bytes_at, fit, all_zero}
use Rattle.layout.specs.Blocks.{tag_number, body_of, pad_of, tag_of, owner_of, legal_pad, block, file_block, indirect_block, address_of}
use Rattle.layout.specs.Entries.{Entry, empty_entry, entry_bytes, directory_block, until_zero, entry_at, legal_address}
use Rattle.layout.proofs.Parts.{length_fit, fit_whole, get_d_fit, fit_copied}
use Rattle.layout.proofs.Words.{take_until_zero}
use Rattle.trees.specs.Represents.{InRange}
use Rattle.trees.specs.Decoded.{entries_of, addresses_of}
use Rattle.trees.specs.Lookups.{legal_ends, legal_indirect}

abbrev pub Bytes : List ℕ → Type 0
Bytes bs = AllByRecursion (λ x. x < 256) bs

abbrev pub Bytes72 : List ℕ → Type 0
Bytes72 e = (length e ≡ 72) × Bytes e

byte_small : (bs : List ℕ) → Bytes bs → (i : ℕ) → get_or bs i 0 < 256
byte_small [] h i = omega arith
byte_small (b ∷ bs) h zero = h.0
byte_small (b ∷ bs) h (suc i) = byte_small bs h.1 i

-- numbers in two and in four bytes
bytes16_number16 : (bs : List ℕ) → length bs ≡ 2 → Bytes bs → bytes16 (number16 bs) ≡ bs
unfolding bytes16 number16
bytes16_number16 bs e h = be_bytes_2 bs _ e (byte_small bs h) refl

bytes32_number32 : (bs : List ℕ) → length bs ≡ 4 → Bytes bs → bytes32 (number32 bs) ≡ bs
unfolding bytes32 number32
bytes32_number32 bs e h = be_bytes_4 bs _ e (byte_small bs h) refl

pub number32_small : (bs : List ℕ) → Bytes bs → number32 bs < 2 ^ 32
unfolding number32
number32_small [] h = omega arith
number32_small (x ∷ []) h = omega arith
number32_small (x ∷ y ∷ []) h = omega arith
number32_small (x ∷ y ∷ z ∷ []) h = omega arith
number32_small (x ∷ y ∷ z ∷ w ∷ bs) h = omega arith

-- a part of some bytes, and what follows it
pub part_and_rest : (i n : ℕ) (bs : List ℕ) → bytes_at i n bs ++ drop (i + n) bs ≡ drop i bs
part_and_rest i n bs = ap (λ l. bytes_at i n bs ++ l) (sym (drop-drop n i bs)) ∙ take-append-drop n (drop i bs)

pub last_part : (i n : ℕ) (bs : List ℕ) → length bs ≡ i + n → bytes_at i n bs ≡ drop i bs
last_part i n bs e = take_all n (drop i bs) (omega (arith, length-drop i bs))

pub length_part : (i n : ℕ) (bs : List ℕ) → i + n ≤ length bs → length (bytes_at i n bs) ≡ n
length_part i n bs h = length-take n (drop i bs) ∙ omega (arith, length-drop i bs)

pub bytes_part : (i n : ℕ) (bs : List ℕ) → Bytes bs → Bytes (bytes_at i n bs)
bytes_part i n bs h = All-take (λ x. x < 256) n (drop i bs) (All-drop (λ x. x < 256) i bs h)

module _ (i x : ℕ) (bs : List ℕ) (h : Bytes bs) where
  pub part16 : i + 2 ≤ length bs → number16 (bytes_at i 2 bs) ≡ x → bytes16 x ≡ bytes_at i 2 bs
  part16 within is = ap bytes16 (sym is) ∙ bytes16_number16 (bytes_at i 2 bs) (length_part i 2 bs within) (bytes_part i 2 bs h)

  pub part32 : i + 4 ≤ length bs → number32 (bytes_at i 4 bs) ≡ x → bytes32 x ≡ bytes_at i 4 bs
  part32 within is = ap bytes32 (sym is) ∙ bytes32_number32 (bytes_at i 4 bs) (length_part i 4 bs within) (bytes_part i 4 bs h)

-- a list cut into parts of n elements and joined
joined_from : (n i k : ℕ) (bs : List ℕ) → length bs ≡ n * (i + k) → flat_map (λ j. bytes_at (n * j) n bs) (range_with_len i k) ≡ drop (n * i) bs
joined_from n i zero bs e = sym (drop_all (n * i) bs (omega arith))
joined_from n i (suc k) bs e =
    let next : n * (i + 1) ≡ n * i + n = omega arith in
    ap (λ l. bytes_at (n * i) n bs ++ l) (joined_from n (i + 1) k bs (e ∙ ap (λ x. n * x) (omega arith)) ∙ ap (λ x. drop x bs) next) ∙ part_and_rest (n * i) n bs

joined_parts : (n k : ℕ) (bs : List ℕ) → length bs ≡ n * k → flat_map (λ j. bytes_at (n * j) n bs) (range_with_len 0 k) ≡ bs
joined_parts n k bs e = joined_from n 0 k bs (e ∙ ap (λ x. n * x) (omega arith)) ∙ ap (λ x. drop x bs) (mul-zero n)

-- what reads as part j of a list, for each of its k parts, is encoded as the list
module _ {X : Type 0} (f : X → List ℕ) (g : ℕ → X) (n k : ℕ) (bs : List ℕ) (each : (j : ℕ) → j < k → f (g j) ≡ bytes_at (n * j) n bs) where
  parts_from : (i l : ℕ) → i + l ≡ k → flat_map f (map g (range_with_len i l)) ≡ flat_map (λ j. bytes_at (n * j) n bs) (range_with_len i l)
  parts_from i zero e = refl
  parts_from i (suc l) e =
      let here = each i (omega arith) in
      let after = parts_from (i + 1) l (omega arith) in
      cc

  parts_back : length bs ≡ n * k → flat_map f (map g (range_with_len 0 k)) ≡ bs
  parts_back long = parts_from 0 k (omega arith) ∙ joined_parts n k bs long

-- numbers that fill n places, of which those from k on are 0
module _ (n k : ℕ) (bs : List ℕ) (long : length bs ≡ 4 * n) (h : Bytes bs) where
  abbrev number : ℕ → ℕ
  number j = number32 (bytes_at (4 * j) 4 bs)

  filled : k ≤ n → ((j : ℕ) → k ≤ j → j < n → number j ≡ 0) → fit n 0 (map number (range_with_len 0 k)) ≡ map number (range_with_len 0 n)
  filled le none = ext_get_or 0 (fit n 0 (map number (range_with_len 0 k))) (map number (range_with_len 0 n)) (length_fit n 0 (map number (range_with_len 0 k)) ∙ sym (length-map-range_with_len number 0 n)) same
    where
      short : length (map number (range_with_len 0 k)) ≤ n
      short = omega (arith, length-map-range_with_len number 0 k)

      same : (i : ℕ) → i < length (fit n 0 (map number (range_with_len 0 k))) → get_or (fit n 0 (map number (range_with_len 0 k))) i 0 ≡ get_or (map number (range_with_len 0 n)) i 0
      same i lt =
          let within : i < n = omega (arith, length_fit n 0 (map number (range_with_len 0 k))) in
          get_d_fit n 0 (map number (range_with_len 0 k)) i short
          ∙ ⊎_elim (λ (few : i < k). get_or-map-range_with_len number 0 k i i 0 few (omega arith))
          (λ (past : k ≤ i). get_or_past (map number (range_with_len 0 k)) i 0 (omega (arith, length-map-range_with_len number 0 k)) ∙ sym (none i past within)) (cases_lt i k)
          ∙ sym (get_or-map-range_with_len number 0 n i i 0 within (omega arith))

  pub numbers_back : k ≤ n → ((j : ℕ) → k ≤ j → j < n → number j ≡ 0) → flat_map bytes32 (fit n 0 (map number (range_with_len 0 k))) ≡ bs
  numbers_back le none =
      ap (flat_map bytes32) (filled le none) ∙ parts_back bytes32 number 4 n bs (λ j lt. part32 (4 * j) (number j) bs h (omega arith) refl) long

-- zeros, and a name with zeros after it
pub zeros : (bs : List ℕ) → all_zero bs ≡ true → bs ≡ replicate (length bs) 0
zeros [] e = refl
zeros (b ∷ bs) e =
    let both = and_parts (eqb b 0) (all_zero bs) e in
    let here = eqb-true b 0 both.0 in
    let after = zeros bs both.1 in
    cc

pub name_field : (n : ℕ) (field : List ℕ) → length field ≡ n → all_zero (drop (length (until_zero field)) field) ≡ true → fit n 0 (until_zero field) ≡ field
name_field n field long none =
    let len = length (until_zero field) in
    let short : len ≤ n = omega (arith, ap length (take_until_zero field), length-take len field) in
    let rest : drop len (replicate n 0) ≡ drop len field =
    drop-replicate len n 0 ∙ ap (λ k. replicate k 0) (omega (arith, length-drop len field)) ∙ sym (zeros (drop len field) none) in
    sym (fit_copied n len 0 (until_zero field) (omega arith))
    ∙ ap (λ l. l ++ drop len (replicate n 0)) (take_all len (until_zero field) (omega arith) ∙ sym (take_until_zero field)) ∙ ap (λ l. take len field ++ l) rest ∙ take-append-drop len field

-- a block
pub block_back : (tag owner : ℕ) (b : List ℕ) → length b ≡ 512 → Bytes b → legal_ends tag owner b ≡ true → block tag owner (body_of b) ≡ b
unfolding block legal_pad
block_back tag owner b long h legal =
    let all = and_parts (legal_pad (pad_of b) && eqb (tag_of b) tag) (eqb (owner_of b) owner) legal in
    let two = and_parts (legal_pad (pad_of b)) (eqb (tag_of b) tag) all.0 in
    let pad = part16 504 0 b h (omega arith) (eqb-true _ _ two.0) in
    let tagged = part16 506 tag b h (omega arith) (eqb-true _ _ two.1) in
    let owned = part32 508 owner b h (omega arith) (eqb-true _ _ all.1) ∙ last_part 508 4 b long in
    rw (pad, tagged, owned, part_and_rest 506 2 b, part_and_rest 504 2 b) (part_and_rest 0 504 b)

-- a block of a file
pub file_back : (owner : ℕ) (b : List ℕ) → length b ≡ 512 → block (tag_number tag.File) owner (body_of b) ≡ b → file_block owner (body_of b) ≡ b
unfolding file_block
file_back owner b long is = ap (block (tag_number tag.File) owner) (fit_whole 504 0 (body_of b) (length_part 0 504 b (omega arith))) ∙ is

-- what the tests of addresses say
passes_at : (f : ℕ → Bool) (a n i : ℕ) → list_all f (range_with_len a n) ≡ true → a ≤ i → i < a + n → f i ≡ true
passes_at f a zero i h low high = absurd (omega arith)
passes_at f a (suc n) i h low high =
    let both = and_parts (f a) (list_all f (range_with_len (a + 1) n)) h in
    ⊎_elim (λ (e : a ≡ i). subst (λ x. f x ≡ true) e both.0)
    (λ (ne : a ≡ i → ⊥). passes_at f (a + 1) n i both.1 (omega arith) (omega arith)) (cases_eq a i)

all_counting : {X : Type 0} (P : X → Type 0) (f : ℕ → X) (a n : ℕ) → ((j : ℕ) → a ≤ j → j < a + n → P (f j)) → AllByRecursion P (map f (range_with_len a n))
all_counting P f a zero h = tt
all_counting P f a (suc n) h = (h a (omega arith) (omega arith), all_counting P f (a + 1) n (λ j low high. h j (omega arith) (omega arith)))

module _ (limit i n a : ℕ) (legal : legal_address limit (ltb i n) a ≡ true) where
  pub address_used : i < n → InRange limit a
  address_used lt =
      let both = and_parts (leb 2 a) (ltb a limit) (subst (λ t. legal_address limit t a ≡ true) (lt-ltb i n lt) legal) in
      (leb-true 2 a both.0, ltb-true a limit both.1)

  pub address_unused : n ≤ i → a ≡ 0
  address_unused le = eqb-true a 0 (subst (λ t. legal_address limit t a ≡ true) (le-ltb i n le) legal)

module _ (limit n k : ℕ) (f : ℕ → ℕ) (legal : list_all (λ j. legal_address limit (ltb j n) (f j)) (range_with_len 0 k) ≡ true) where
  pub addresses_used : (l : ℕ) → l ≤ n → l ≤ k → AllByRecursion (InRange limit) (map f (range_with_len 0 l))
  addresses_used l le le' =
      all_counting (InRange limit) f 0 l (λ j low high. address_used limit j n (f j) (passes_at (λ j. legal_address limit (ltb j n) (f j)) 0 k j legal low (omega arith)) (omega arith))

  pub addresses_unused : (j : ℕ) → n ≤ j → j < k → f j ≡ 0
  addresses_unused j past lt = address_unused limit j n (f j) (passes_at (λ j. legal_address limit (ltb j n) (f j)) 0 k j legal (omega arith) (omega arith)) past

-- an indirect block
pub indirect_back : (limit owner n : ℕ) (b : List ℕ) → n ≤ 126 → length b ≡ 512 → Bytes b → block (tag_number tag.Indirect) owner (body_of b) ≡ b →
    legal_indirect limit n b ≡ true → indirect_block owner (addresses_of n b) ≡ b
unfolding indirect_block
indirect_back limit owner n b few long h is legal =
    ap (block (tag_number tag.Indirect) owner) (numbers_back 126 n (body_of b) (length_part 0 504 b (omega arith)) (bytes_part 0 504 b h) few
    (λ j past lt. addresses_unused limit n 126 (λ j. address_of j b) legal j past lt)) ∙ is

-- a directory block
joined_map : {X : Type 0} (f : X → List ℕ) (xs : List X) → flat_map f xs ≡ flat_map (λ e. e) (map f xs)
joined_map f [] = refl
joined_map f (x ∷ xs) = ap (λ l. f x ++ l) (joined_map f xs)

entry_part : (k : ℕ) (b : List ℕ) → length b ≡ 512 → k < 7 → entry_at k b ≡ bytes_at (72 * k) 72 (body_of b)
entry_part k b long lt = fit_whole 72 0 (bytes_at (72 * k) 72 (body_of b)) (length_part (72 * k) 72 (body_of b) (omega (arith, length_part 0 504 b (omega arith))))

pub entries_bytes : (b : List ℕ) → length b ≡ 512 → Bytes b → AllByRecursion Bytes72 (entries_of b)
entries_bytes b long h = all_counting Bytes72 (λ k. entry_at k b) 0 7 (λ k low high. (
  length_fit 72 0 (bytes_at (72 * k) 72 (body_of b)),
  subst Bytes (sym (entry_part k b long high)) (bytes_part (72 * k) 72 (body_of b) (bytes_part 0 504 b h)),
))

pub directory_back : (owner : ℕ) (b : List ℕ) (es : List Entry) → length b ≡ 512 → block (tag_number tag.Directory) owner (body_of b) ≡ b →
    map entry_bytes es ≡ entries_of b → directory_block owner es ≡ b
unfolding directory_block
directory_back owner b es long is same =
    let seven : length es ≡ 7 = sym (length-map es entry_bytes) ∙ ap length same in
    let parts : flat_map (λ e. e) (entries_of b) ≡ body_of b = parts_back (λ e. e) (λ k. entry_at k b) 72 7 (body_of b) (λ k lt. entry_part k b long lt) (length_part 0 504 b (omega arith)) in
    ap (block (tag_number tag.Directory) owner) (ap (flat_map entry_bytes) (fit_whole 7 empty_entry es seven) ∙ joined_map entry_bytes es ∙ ap (flat_map (λ e. e)) same ∙ parts) ∙ is
