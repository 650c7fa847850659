-- A tree of files and directories together with the blocks that keep it.
use Rattle.std.specs.Prelude.{ℕ, ◌+◌, ◌*◌, cond, List, [], ◌∷◌, ◌++◌, length, take, drop, ◌==◌, slice_index}
use Rattle.std.specs.List.{flat_map}
use Rattle.plain.specs.Trees.{File, Dir, Leaf, free, file, Places, end, leaf, dir, Place, flat, deep, frees, slash, Tree}
use Rattle.layout.specs.declared.entry.Mode.TheVariants as mode
use Rattle.layout.specs.Blocks.{file_block, indirect_block}
use Rattle.layout.specs.Entries.{Entry, empty_entry, mode_number, directory_block}

-- Where a file or a directory is stored: the addresses of its own blocks in their order, the address of its indirect block if it has
-- one, and, of a file, its slack: the bytes of the last block that lie past the file's end.
pub record Stored : Type 0 where
  pub blocks : List ℕ
  pub indirect : List ℕ
  pub slack : List ℕ

abbrev pub nowhere : Stored
nowhere = record { blocks = []; indirect = []; slack = [] }

-- What the body of a block says, under the block's owner.
pub data Content : Type 0 where
  file_content : ℕ → List ℕ → Content
  indirect_content : ℕ → List ℕ → Content
  directory_content : ℕ → List Entry → Content

abbrev pub encoded : Content → List ℕ
encoded (file_content owner bytes) = file_block owner bytes
encoded (indirect_content owner addresses) = indirect_block owner addresses
encoded (directory_content owner entries) = directory_block owner entries

-- the addresses that an entry names, and those that a block names
abbrev pub entry_pointers : Entry → List ℕ
entry_pointers e = e.direct ++ cond (e.indirect == 0) [] (e.indirect ∷ [])

abbrev pub pointers : Content → List ℕ
pointers (file_content owner bytes) = []
pointers (indirect_content owner addresses) = addresses
pointers (directory_content owner entries) = flat_map entry_pointers entries

pub record Block : Type 0 where
  pub address : ℕ
  pub content : Content

-- a block at each address, with n elements of the list in each
abbrev pub in_blocks : {X : Type 0} → (List X → Content) → ℕ → List ℕ → List X → List Block
in_blocks make n [] xs = []
in_blocks make n (a ∷ l) xs = record { address = a; content = make (take n xs) } ∷ in_blocks make n l (drop n xs)

-- what the blocks of a directory say of each of its places
abbrev pub file_entry : List ℕ → File → Stored → Entry
file_entry n f w = record { name = n; mode = mode_number mode.File; qid = f.qid; version = f.version; size = length f.bytes; direct = take 6 w.blocks; indirect = slice_index w.indirect 0 }

abbrev pub dir_entry : List ℕ → Dir → Stored → Entry
dir_entry n d w = record { name = n; mode = mode_number mode.Directory; qid = d.qid; version = d.version; size = 504 * length w.blocks; direct = w.blocks; indirect = 0 }

abbrev pub leaf_entry : Leaf Stored → Entry
leaf_entry free = empty_entry
leaf_entry (file n f w) = file_entry n f w

abbrev pub place_entry : Place Stored → Entry
place_entry (flat l) = leaf_entry l
place_entry (deep n d w c) = dir_entry n d w

abbrev pub entries : Places Stored → List Entry
entries end = []
entries (leaf l k) = leaf_entry l ∷ entries k
entries (dir n d w c k) = dir_entry n d w ∷ entries k

-- The blocks in post-order: what a block names comes before it, and places come in their order. A file's own blocks come before its
-- indirect block, and each block of a directory comes after what its seven places hold.
abbrev pub file_blocks : File → Stored → List Block
file_blocks f w = in_blocks (file_content f.qid) 504 w.blocks (f.bytes ++ w.slack) ++ in_blocks (indirect_content f.qid) 126 w.indirect (drop 6 w.blocks)

abbrev pub leaf_blocks : Leaf Stored → List Block
leaf_blocks free = []
leaf_blocks (file n f w) = file_blocks f w

abbrev pub own_blocks : Dir → Stored → Places Stored → List Block
own_blocks d w c = in_blocks (directory_content d.qid) 7 w.blocks (entries c)

-- each element after n of the lists
abbrev pub interleaved : {X : Type 0} → ℕ → List X → List (List X) → List X
interleaved n [] lists = flat_map (λ l. l) lists
interleaved n (x ∷ xs) lists = flat_map (λ l. l) (take n lists) ++ (x ∷ interleaved n xs (drop n lists))

-- the blocks of each place
abbrev pub row_blocks : Places Stored → List (List Block)
row_blocks end = []
row_blocks (leaf l k) = leaf_blocks l ∷ row_blocks k
row_blocks (dir n d w c k) = interleaved 7 (own_blocks d w c) (row_blocks c) ∷ row_blocks k

abbrev pub place_blocks : Place Stored → List Block
place_blocks (flat l) = leaf_blocks l
place_blocks (deep n d w c) = interleaved 7 (own_blocks d w c) (row_blocks c)

-- A tree and where it is stored: the address of the root block, and "/" with its places.
pub record StoredTree : Type 0 where
  pub top : ℕ
  pub root : Dir
  pub stored : Stored
  pub places : Places Stored
  pub next_qid : ℕ

abbrev pub root_place : StoredTree → Place Stored
root_place t = deep slash t.root t.stored t.places

-- The root block is like the one block of a directory with the qid 0, which has "/" in the first of its places.
abbrev pub whole : StoredTree → Place Stored
whole t = deep [] (record { qid = 0; version = 0 }) (record { blocks = t.top ∷ []; indirect = []; slack = [] }) (dir slash t.root t.stored t.places (frees 6))

abbrev pub blocks_of : StoredTree → List Block
blocks_of t = place_blocks (whole t)

-- how many of the blocks are at an address, and how often it stands in a list
abbrev pub count : ℕ → List ℕ → ℕ
count a [] = 0
count a (b ∷ l) = cond (a == b) 1 0 + count a l

abbrev pub uses : ℕ → List Block → ℕ
uses a [] = 0
uses a (b ∷ bs) = cond (a == b.address) 1 0 + uses a bs

-- the tree with other notes
module _ {W Y : Type 0} (f : W → Y) where
  abbrev pub map_leaf : Leaf W → Leaf Y
  map_leaf free = free
  map_leaf (file n x w) = file n x (f w)

  abbrev pub map_places : Places W → Places Y
  map_places end = end
  map_places (leaf l k) = leaf (map_leaf l) (map_places k)
  map_places (dir n d w c k) = dir n d (f w) (map_places c) (map_places k)

  abbrev pub map_place : Place W → Place Y
  map_place (flat l) = flat (map_leaf l)
  map_place (deep n d w c) = deep n d (f w) (map_places c)

-- the plain tree
abbrev pub erase : StoredTree → Tree
erase t = record { root = t.root; places = map_places (λ w. tt) t.places; next_qid = t.next_qid }
