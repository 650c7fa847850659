-- What a tree's blocks hold at each of its places.
use Rattle.std.proofs.Common.{◌≡◌, ℕ, zero, suc, ◌*◌, ◌%◌, ◌^◌, ◌<◌, ◌≤◌, true, false, ◌||◌, List, [], ◌∷◌, ◌++◌, length, get_or, drop, replicate, Ok, refl, ap, ◌∙◌, arith}
use Rattle.std.specs.List.{list_all, AllByRecursion}
use Rattle.std.proofs.ByRecursion.{All-get_or, All-from_get_or, All-take}
use Rattle.std.proofs.lemmas.List.{length-take, length-drop, get_or_past, take_all}
use Rattle.std.proofs.lemmas.Bool.{and_parts, and_from, leb-true, eq-eqb, le-leb}
use Rattle.plain.specs.Names.{name_byte, is_name}
use Rattle.plain.specs.Trees.{File, Dir, Leaf, free, file, Places, end, leaf, dir, Place, flat, deep, size, at, frees, slash}
use Rattle.plain.specs.Laws.{TidyBelow, TidyLeaf}
use Rattle.plain.proofs.Passing.{name_short}
use Rattle.layout.specs.declared.entry.Mode.TheVariants as mode
use Rattle.layout.specs.Blocks.{file_block, indirect_block}
use Rattle.layout.specs.Entries.{empty_entry, mode_number, entry_bytes, directory_block, legal_size, legal_entry}
use Rattle.trees.specs.Stored.{Stored, Content, Block, file_content, indirect_content, directory_content, in_blocks, file_entry, dir_entry, place_entry, entries, leaf_blocks, own_blocks, row_blocks, blocks_of, StoredTree, root_place, map_leaf, map_places}
use Rattle.trees.specs.Represents.{BlockMap, Stands, InRange, FileFits, DirFits, LeafFits, Fits, LeafNumbered, Numbered, Represents}
use Rattle.trees.specs.Lookups.{legal_root}
use Rattle.trees.proofs.Lists.{chunk, chunk_first, in_blocks_at, all_left, all_right, all_uninterleaved, all_both}
use Rattle.trees.proofs.Erased.{map_size}
use Rattle.trees.proofs.Readable.{Readable}
use Rattle.trees.proofs.Legality.{legal_entry_lem, legal_empty, legal_root_lem}

-- names have no zero byte
name_word : (n : List ℕ) → list_all name_byte n ≡ true → AllByRecursion (λ b. 0 < b) n
name_word [] h = tt
name_word (b ∷ n) h =
    let parts = and_parts (name_byte b) (list_all name_byte n) h in
    let low = leb-true 33 b (and_parts _ _ (and_parts _ _ parts.0).0).0 in
    (omega arith, name_word n parts.1)

-- a block in its place
abbrev Kept : BlockMap → ℕ → Block → Type 0
Kept m limit b = InRange limit b.address × Stands m b

-- What is known of a file and of a directory of a represented tree: the numbers and the addresses are in range, and each block holds
-- what it should.
module _ (m : BlockMap) (limit next : ℕ) where
  pub record FileHeld (f : File) (w : Stored) : Type 0 where
    pub qid : f.qid < next
    pub version : f.version < 2 ^ 32
    pub size : length f.bytes ≤ 66528
    pub fits : FileFits f w
    pub blocks : AllByRecursion (InRange limit) w.blocks
    pub indirect : AllByRecursion (InRange limit) w.indirect
    pub bytes : (j : ℕ) → j < length w.blocks → m (get_or w.blocks j 0) ≡ Ok (file_block f.qid (chunk 504 j (f.bytes ++ w.slack)))
    pub addresses : (j : ℕ) → j < length w.indirect → m (get_or w.indirect j 0) ≡ Ok (indirect_block f.qid (chunk 126 j (drop 6 w.blocks)))

  pub record DirHeld (d : Dir) (w : Stored) (c : Places Stored) : Type 0 where
    pub qid : d.qid < next
    pub version : d.version < 2 ^ 32
    pub size : size c ≤ 42
    pub fits : DirFits w c
    pub blocks : AllByRecursion (InRange limit) w.blocks
    pub entries : (j : ℕ) → j < length w.blocks → m (get_or w.blocks j 0) ≡ Ok (directory_block d.qid (chunk 7 j (entries c)))

  -- the same of a place, of places and all that is below them
  abbrev pub LeafHeld : Leaf Stored → Type 0
  LeafHeld free = Unit {0}
  LeafHeld (file n f w) = (is_name n ≡ true) × FileHeld f w

  abbrev pub Held : Places Stored → Type 0
  Held end = Unit {0}
  Held (leaf l k) = LeafHeld l × Held k
  Held (dir n d w c k) = (is_name n ≡ true) × DirHeld d w c × Held c × Held k

  abbrev pub PlaceHeld : Place Stored → Type 0
  PlaceHeld (flat l) = LeafHeld l
  PlaceHeld (deep n d w c) = (is_name n ≡ true) × DirHeld d w c × Held c

  pub held_at : (c : Places Stored) (i : ℕ) → Held c → PlaceHeld (at c i)
  held_at end i h = tt
  held_at (leaf l k) zero h = h.0
  held_at (leaf l k) (suc i) h = held_at k i h.1
  held_at (dir n d w c k) zero h = (h.0, h.1, h.2)
  held_at (dir n d w c k) (suc i) h = held_at k i h.3

  -- from the blocks of places
  kept_addresses : {X : Type 0} (make : List X → Content) (n : ℕ) (l : List ℕ) (xs : List X) → AllByRecursion (Kept m limit) (in_blocks make n l xs) → AllByRecursion (InRange limit) l
  kept_addresses make n l xs h = All-from_get_or (InRange limit) l 0 (λ j lt. (in_blocks_at make n (Kept m limit) l xs h j lt).0)

  leaf_held : (l : Leaf Stored) → LeafFits l → TidyLeaf (map_leaf (λ w. tt) l) → LeafNumbered next (map_leaf {Y = Unit {0}} (λ w. tt) l) →
      AllByRecursion (Kept m limit) (leaf_blocks l) → LeafHeld l
  leaf_held free fits tidy numbered kept = tt
  leaf_held (file n f w) fits tidy numbered kept =
      let own = in_blocks (file_content f.qid) 504 w.blocks (f.bytes ++ w.slack) in
      let named = in_blocks (indirect_content f.qid) 126 w.indirect (drop 6 w.blocks) in
      let front = all_left (Kept m limit) own named kept in
      let back = all_right (Kept m limit) own named kept in (
        tidy.0,
        record {
          qid = numbered.0;
          version = numbered.1;
          size = tidy.1;
          fits = fits;
          blocks = kept_addresses (file_content f.qid) 504 w.blocks (f.bytes ++ w.slack) front;
          indirect = kept_addresses (indirect_content f.qid) 126 w.indirect (drop 6 w.blocks) back;
          bytes = λ j lt. (in_blocks_at (file_content f.qid) 504 (Kept m limit) w.blocks (f.bytes ++ w.slack) front j lt).1;
          addresses = λ j lt. (in_blocks_at (indirect_content f.qid) 126 (Kept m limit) w.indirect (drop 6 w.blocks) back j lt).1;
        },
      )

  dir_held : (d : Dir) (w : Stored) (c : Places Stored) → DirFits w c → size (map_places {Y = Unit {0}} (λ w. tt) c) ≤ 42 → d.qid < next → d.version < 2 ^ 32 →
      AllByRecursion (Kept m limit) (own_blocks d w c) → DirHeld d w c
  dir_held d w c fits few q v kept = record {
    qid = q;
    version = v;
    size = omega (arith, map_size {Y = Unit {0}} (λ w. tt) c);
    fits = fits;
    blocks = kept_addresses (directory_content d.qid) 7 w.blocks (entries c) kept;
    entries = λ j lt. (in_blocks_at (directory_content d.qid) 7 (Kept m limit) w.blocks (entries c) kept j lt).1;
  }

  row_held : (c : Places Stored) → Fits c → TidyBelow (map_places (λ w. tt) c) → Numbered next (map_places {Y = Unit {0}} (λ w. tt) c) →
      AllByRecursion (AllByRecursion (Kept m limit)) (row_blocks c) → Held c
  row_held end fits tidy numbered kept = tt
  row_held (leaf l k) fits tidy numbered kept = (leaf_held l fits.0 tidy.0 numbered.0 kept.0, row_held k fits.1 tidy.1 numbered.1 kept.1)
  row_held (dir n d w c k) fits tidy numbered kept =
      let parts = all_uninterleaved (Kept m limit) 7 (own_blocks d w c) (row_blocks c) kept.0 in (
        tidy.0,
        dir_held d w c fits.0 tidy.1.few numbered.0 numbered.1 parts.0,
        row_held c fits.1 tidy.2 numbered.2 parts.1,
        row_held k fits.2 tidy.3 numbered.3 kept.1,
      )

  -- a file's indirect block, if it has one, names all blocks from the seventh on
  pub indirect_held : (f : File) (w : Stored) → FileHeld f w → 0 < length w.indirect → m (get_or w.indirect 0 0) ≡ Ok (indirect_block f.qid (drop 6 w.blocks))
  indirect_held f w h more =
      let rest = drop 6 w.blocks in
      h.addresses 0 more ∙ ap (λ l. Ok (indirect_block f.qid l)) (chunk_first 126 rest ∙ take_all 126 rest (omega (arith, length-drop 6 w.blocks, h.fits.blocks, h.size)))

  -- a directory's size is legal
  dir_sized : (d : Dir) (w : Stored) (c : Places Stored) → DirHeld d w c → legal_size (mode_number mode.Directory) (504 * length w.blocks) ≡ true
  dir_sized d w c h = and_from _ _ (eq-eqb (504 * length w.blocks % 504) 0 (omega arith)) (le-leb (504 * length w.blocks) 3024 (omega (arith, h.size, h.fits.blocks)))

-- the entries of what is held have room in their bytes, and are legal
module _ (m : BlockMap) (limit next : ℕ) (few : limit ≤ 65536) (bound : next < 2 ^ 32) where
  dir_readable : (n : List ℕ) (d : Dir) (w : Stored) (c : Places Stored) → length n ≤ 27 → AllByRecursion (λ b. 0 < b) n → DirHeld m limit next d w c → Readable limit (dir_entry n d w)
  dir_readable n d w c short word h =
      let six : length w.blocks ≤ 6 = omega (arith, h.size, h.fits.blocks) in
      record {
        few = few;
        short = short;
        word = word;
        mode = omega arith;
        qid = omega (arith, h.qid);
        version = h.version;
        size = omega arith;
        many = omega arith;
        direct = h.blocks;
        indirect = ((λ more. absurd (omega arith)), λ le. refl);
      }

  pub file_readable : (n : List ℕ) (f : File) (w : Stored) → is_name n ≡ true → FileHeld m limit next f w → Readable limit (file_entry n f w)
  file_readable n f w named h = record {
    few = few;
    short = name_short n named;
    word = name_word n (and_parts _ (list_all name_byte n) named).1;
    mode = omega arith;
    qid = omega (arith, h.qid);
    version = h.version;
    size = omega (arith, h.size);
    many = length-take 6 w.blocks ∙ omega (arith, h.fits.blocks);
    direct = All-take (InRange limit) 6 w.blocks h.blocks;
    indirect = (
      (λ more. All-get_or (InRange limit) w.indirect 0 0 (omega (arith, h.fits.blocks, h.fits.indirect)) h.indirect),
      λ le. get_or_past w.indirect 0 0 (omega (arith, h.fits.blocks, h.fits.indirect)),
    );
  }

  pub place_readable : (p : Place Stored) → PlaceHeld m limit next p → Readable limit (place_entry p)
  place_readable (flat free) h = record {
    few = few;
    short = omega arith;
    word = tt;
    mode = omega arith;
    qid = omega arith;
    version = omega arith;
    size = omega arith;
    many = refl;
    direct = tt;
    indirect = ((λ more. absurd (omega arith)), λ le. refl);
  }
  place_readable (flat (file n f w)) h = file_readable n f w h.0 h.1
  place_readable (deep n d w c) h = dir_readable n d w c (name_short n h.0) (name_word n (and_parts _ (list_all name_byte n) h.0).1) h.1

  pub place_legal : (p : Place Stored) → PlaceHeld m limit next p → legal_entry limit next (entry_bytes (place_entry p)) ≡ true
  place_legal (flat free) h = legal_empty limit next
  place_legal (flat (file n f w)) h =
      legal_entry_lem limit (file_entry n f w) (file_readable n f w h.0 h.1) next h.0 (ap (λ b. b || false) (le-leb (length f.bytes) 66528 h.1.size)) h.1.qid
  place_legal (deep n d w c) h = legal_entry_lem limit (dir_entry n d w) (place_readable (deep n d w c) h) next h.0 (dir_sized m limit next d w c h.1) h.1.qid

  pub entries_legal : (c : Places Stored) → Held m limit next c → AllByRecursion (λ e. legal_entry limit next (entry_bytes e) ≡ true) (entries c)
  entries_legal end h = tt
  entries_legal (leaf l k) h = (place_legal (flat l) h.0, entries_legal k h.1)
  entries_legal (dir n d w c k) h = (place_legal (deep n d w c) (h.0, h.1, h.2), entries_legal k h.3)

-- a represented tree: "/" with its places, and the root block
pub record TreeHeld (m : BlockMap) (limit : ℕ) (t : StoredTree) : Type 0 where
  pub few : limit ≤ 65536
  pub bound : t.next_qid < 2 ^ 32
  pub root : DirHeld m limit t.next_qid t.root t.stored t.places
  pub places : Held m limit t.next_qid t.places
  pub readable : Readable limit (place_entry (root_place t))
  pub top : m t.top ≡ Ok (directory_block 0 (place_entry (root_place t) ∷ replicate 6 empty_entry))
  pub legal : legal_root limit t.next_qid (directory_block 0 (place_entry (root_place t) ∷ replicate 6 empty_entry)) ≡ true

pub tree_held : (m : BlockMap) (limit : ℕ) (t : StoredTree) → Represents m limit t → TreeHeld m limit t
tree_held m limit t r =
    let kept = all_both (λ b. InRange limit b.address) (Stands m) (blocks_of t) r.within r.stand in
    let head : Dir = record { qid = 0; version = 0 } in
    let note : Stored = record { blocks = t.top ∷ []; indirect = []; slack = [] } in
    let row = dir slash t.root t.stored t.places (frees 6) in
    let outer = all_uninterleaved (Kept m limit) 7 (own_blocks head note row) (row_blocks row) kept in
    let inner = all_uninterleaved (Kept m limit) 7 (own_blocks t.root t.stored t.places) (row_blocks t.places) outer.1.0 in
    let formed = r.formed in
    let next = t.next_qid in
    let qid : t.root.qid < next = omega (arith, formed.root, formed.next.0) in
    let root = dir_held m limit next t.root t.stored t.places r.fits.1.0 formed.tidy.here.few qid formed.version inner.0 in
    let readable = dir_readable m limit next r.few formed.next.1 slash t.root t.stored t.places (omega arith) (omega arith, tt) root in
    record {
      few = r.few;
      bound = formed.next.1;
      root = root;
      places = row_held m limit next t.places r.fits.1.1 formed.tidy.below formed.numbered inner.1;
      readable = readable;
      top = outer.0.0.1;
      legal = legal_root_lem limit (place_entry (root_place t)) readable next refl refl (dir_sized m limit next t.root t.stored t.places root) formed.root formed.next.0;
    }
