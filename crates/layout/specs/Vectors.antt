-- Blocks and an entry written out by hand, as docs/FORMAT.md shows them, and what the definitions make of them.
use Rattle.std.specs.Prelude.{◌≡◌, ℕ, true, false, List, [], ◌∷◌, ◌++◌, map, replicate}
use Rattle.std.specs.List.{range_with_len}
use Rattle.layout.specs.declared.pointer.Pointer.TheVariants.{Direct, Indirect}
use Rattle.layout.specs.declared.super_block.Super.{Super}
use Rattle.layout.specs.Numbers.{bytes16, bytes32, patched}
use Rattle.layout.specs.Blocks.{body_of, pad_of, tag_of, owner_of, file_block, indirect_block, address_of}
use Rattle.layout.specs.Entries.{Entry, empty_entry, entry_bytes, directory_block, root_block, name_of, mode_of, reserved_of, qid_of, version_of, size_of, direct_of, indirect_of, pointer_to, entry_at, legal_entry}
use Rattle.layout.specs.Supers.{super_block, super_of, legal_super}

-- a file "notes" of 3,025 bytes, which is one byte in its seventh block
abbrev notes : Entry
notes = record {
  name = 110 ∷ 111 ∷ 116 ∷ 101 ∷ 115 ∷ [];
  mode = 0x8000;
  qid = 258;
  version = 16909060;
  size = 3025;
  direct = 2 ∷ 258 ∷ 259 ∷ 260 ∷ 261 ∷ 65535 ∷ [];
  indirect = 4660;
}

abbrev notes_bytes : List ℕ
notes_bytes =
    (110 ∷ 111 ∷ 116 ∷ 101 ∷ 115 ∷ replicate 23 0) ++ (128 ∷ 0 ∷ 0 ∷ 0 ∷ 0 ∷ 0 ∷ 1 ∷ 2 ∷ 1 ∷ 2 ∷ 3 ∷ 4 ∷ 0 ∷ 0 ∷ 11 ∷ 209
    ∷ 0 ∷ 0 ∷ 0 ∷ 2 ∷ 0 ∷ 0 ∷ 1 ∷ 2 ∷ 0 ∷ 0 ∷ 1 ∷ 3 ∷ 0 ∷ 0 ∷ 1 ∷ 4 ∷ 0 ∷ 0 ∷ 1 ∷ 5 ∷ 0 ∷ 0 ∷ 255 ∷ 255 ∷ 0 ∷ 0 ∷ 18 ∷ 52 ∷ [])

-- the directory block that it stands in, of a directory with the qid 9
abbrev directory_bytes : List ℕ
directory_bytes = notes_bytes ++ (replicate 432 0 ++ (0 ∷ 0 ∷ 0 ∷ 2 ∷ 0 ∷ 0 ∷ 0 ∷ 9 ∷ []))

-- its indirect block, with the address of its seventh block
abbrev indirect_bytes : List ℕ
indirect_bytes = (0 ∷ 0 ∷ 255 ∷ 254 ∷ replicate 500 0) ++ (0 ∷ 0 ∷ 0 ∷ 3 ∷ 0 ∷ 0 ∷ 1 ∷ 2 ∷ [])

-- its seventh block, with its last byte
abbrev file_bytes : List ℕ
file_bytes = (33 ∷ replicate 503 0) ++ (0 ∷ 0 ∷ 0 ∷ 5 ∷ 0 ∷ 0 ∷ 1 ∷ 2 ∷ [])

-- a directory "old" of six blocks
abbrev old : Entry
old = record { name = 111 ∷ 108 ∷ 100 ∷ []; mode = 0xC000; qid = 10; version = 0; size = 3024; direct = 12 ∷ 13 ∷ 14 ∷ 15 ∷ 16 ∷ 17 ∷ []; indirect = 0 }

-- the third super
abbrev third : Super
third = record { number = 2; date = 1000; root = 40; previous = 39; next = 65534; next_qid = 259 }

abbrev super_bytes : List ℕ
super_bytes =
    (0 ∷ 0 ∷ 0 ∷ 2 ∷ 0 ∷ 0 ∷ 3 ∷ 232 ∷ 0 ∷ 0 ∷ 0 ∷ 40 ∷ 0 ∷ 0 ∷ 0 ∷ 39 ∷ 0 ∷ 0 ∷ 255 ∷ 254 ∷ 0 ∷ 0 ∷ 1 ∷ 3 ∷ replicate 480 0)
    ++ (0 ∷ 0 ∷ 0 ∷ 1 ∷ 0 ∷ 0 ∷ 0 ∷ 0 ∷ [])

-- the root block of a new tree
abbrev root_bytes : List ℕ
root_bytes = (47 ∷ replicate 27 0) ++ (192 ∷ 0 ∷ 0 ∷ 0 ∷ 0 ∷ 0 ∷ 0 ∷ 1 ∷ replicate 468 0) ++ (0 ∷ 0 ∷ 0 ∷ 2 ∷ 0 ∷ 0 ∷ 0 ∷ 0 ∷ [])

-- a block with the pad 0, a tag and an owner
pub record Ends (bytes : List ℕ) (tag owner : ℕ) : Type 0 where
  pub pad : pad_of bytes ≡ 0
  pub tagged : tag_of bytes ≡ tag
  pub owned : owner_of bytes ≡ owner

pub record Vectors : Type 0 where
  -- the entry, and each of its fields
  pub entry : entry_bytes notes ≡ notes_bytes
  pub entry_name : name_of notes_bytes ≡ 110 ∷ 111 ∷ 116 ∷ 101 ∷ 115 ∷ []
  pub entry_mode : mode_of notes_bytes ≡ 0x8000
  pub entry_reserved : reserved_of notes_bytes ≡ 0
  pub entry_qid : qid_of notes_bytes ≡ 258
  pub entry_version : version_of notes_bytes ≡ 16909060
  pub entry_size : size_of notes_bytes ≡ 3025
  pub entry_direct : map (λ i. direct_of i notes_bytes) (range_with_len 0 7) ≡ 2 ∷ 258 ∷ 259 ∷ 260 ∷ 261 ∷ 65535 ∷ 0 ∷ []
  pub entry_indirect : indirect_of notes_bytes ≡ 4660
  -- the directory block
  pub directory : directory_block 9 (notes ∷ []) ≡ directory_bytes
  pub directory_ends : Ends directory_bytes 2 9
  pub directory_first : entry_at 0 directory_bytes ≡ notes_bytes
  pub directory_second : entry_at 1 directory_bytes ≡ replicate 72 0
  pub directory_past : entry_at 7 directory_bytes ≡ replicate 72 0
  pub empty_place : entry_bytes empty_entry ≡ replicate 72 0
  -- the indirect block
  pub indirect : indirect_block 258 (65534 ∷ []) ≡ indirect_bytes
  pub indirect_ends : Ends indirect_bytes 3 258
  pub indirect_first : address_of 0 indirect_bytes ≡ 65534
  pub indirect_last : address_of 125 indirect_bytes ≡ 0
  pub indirect_past : address_of 126 indirect_bytes ≡ 0
  -- the file block
  pub file : file_block 258 (33 ∷ []) ≡ file_bytes
  pub file_ends : Ends file_bytes 5 258
  pub file_body : body_of file_bytes ≡ 33 ∷ replicate 503 0
  -- the super, and what is none
  pub super : super_block third ≡ super_bytes
  pub super_ends : Ends super_bytes 1 0
  pub super_read : super_of super_bytes ≡ third
  pub super_legal : legal_super super_bytes ≡ true
  pub super_with_more : legal_super (patched 24 (1 ∷ []) super_bytes) ≡ false
  pub super_with_pad : legal_super (patched 505 (1 ∷ []) super_bytes) ≡ false
  pub no_super : legal_super file_bytes ≡ false
  -- the root block
  pub root : root_block ≡ root_bytes
  pub root_first : name_of (entry_at 0 root_bytes) ≡ 47 ∷ []
  pub root_no_entry_of_a_tree : legal_entry 65536 2 (entry_at 0 root_bytes) ≡ false
  -- byte 3,023 of a file lies in block 5, byte 3,024 in the first that the indirect block names, and the last byte in its last
  pub last_direct : pointer_to 3023 ≡ Direct 5
  pub first_indirect : pointer_to 3024 ≡ Indirect 0
  pub last_indirect : pointer_to 66527 ≡ Indirect 125
  -- what an entry may hold, with the next qid 259 on a shelf of 65,536 blocks, and each test at its edge
  pub legal : legal_entry 65536 259 notes_bytes ≡ true
  pub legal_empty : legal_entry 65536 259 (replicate 72 0) ≡ true
  pub legal_version : legal_entry 65536 259 (patched 36 (bytes32 0) notes_bytes) ≡ true
  pub legal_largest : legal_entry 65536 259 (patched 40 (bytes32 66528) notes_bytes) ≡ true
  pub qid_not_given : legal_entry 65536 258 notes_bytes ≡ false
  pub address_at_limit : legal_entry 65535 259 notes_bytes ≡ false
  pub address_too_low : legal_entry 65536 259 (patched 44 (bytes32 1) notes_bytes) ≡ false
  pub address_missing : legal_entry 65536 259 (patched 68 (bytes32 0) notes_bytes) ≡ false
  pub address_not_used : legal_entry 65536 259 (patched 40 (bytes32 3024) notes_bytes) ≡ false
  pub too_large : legal_entry 65536 259 (patched 40 (bytes32 66529) notes_bytes) ≡ false
  pub name_empty : legal_entry 65536 259 (patched 0 (replicate 5 0) notes_bytes) ≡ false
  pub name_with_more : legal_entry 65536 259 (patched 27 (1 ∷ []) notes_bytes) ≡ false
  pub reserved_used : legal_entry 65536 259 (patched 31 (1 ∷ []) notes_bytes) ≡ false
  pub no_such_mode : legal_entry 65536 259 (patched 28 (bytes16 1) notes_bytes) ≡ false
  pub legal_directory : legal_entry 65536 259 (entry_bytes old) ≡ true
  pub directory_too_large : legal_entry 65536 259 (patched 40 (bytes32 3528) (entry_bytes old)) ≡ false
  pub directory_not_full : legal_entry 65536 259 (patched 28 (bytes16 0xC000) notes_bytes) ≡ false
  pub empty_with_more : legal_entry 65536 259 (patched 71 (1 ∷ []) (replicate 72 0)) ≡ false
