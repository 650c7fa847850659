-- A tree and its thirteen blocks written out by hand, as docs/FORMAT.md shows them, and what the definitions make of them.
use Rattle.std.specs.Prelude.{◌≡◌, ℕ, ◌-◌, ◌/◌, ◌%◌, cond, List, [], ◌∷◌, ◌++◌, map, length, replicate, Some, Ok, Err, codes, Result, ◌==◌}
use Rattle.std.specs.List.{flat_map, AllByRecursion}
use Rattle.device.specs.Refusals.{Refusal}
use Rattle.plain.specs.Trees.{Leaf, file, Places, leaf, dir, frees}
use Rattle.plain.specs.Operations.{Stat}
use Rattle.plain.specs.Histories.{Change, mkfile, mkdir, write, remove}
use Rattle.plain.specs.Books.{changed}
use Rattle.trees.specs.Stored.{Stored, nowhere, StoredTree, blocks_of, erase}
use Rattle.trees.specs.Represents.{BlockMap, Stands}
use Rattle.trees.specs.Decoded.{tree_at}
use Rattle.trees.specs.Lookups.{Judged, fails, and_then, look_up, stat_of, entry_in, read_in}
use Rattle.trees.specs.Checks.{check_tree}
use Rattle.trees.specs.Plans.{plan_of, written_at}
use Rattle.trees.specs.Theorems.{new_tree}

-- "/" has eight names in fourteen places, which are two blocks: "table" of 3,025 bytes, "old" with seven empty places, "short" with a
-- byte past its end, and five empty files.
abbrev empty_file : List ℕ → ℕ → Leaf Stored
empty_file name qid = file name (record { qid = qid; version = 0; bytes = [] }) nowhere

abbrev example_places : Places Stored
example_places =
    leaf (file (codes "table") (record { qid = 2; version = 7; bytes = replicate 3024 120 ++ codes "!" })
    (record { blocks = 5 ∷ 6 ∷ 7 ∷ 8 ∷ 9 ∷ 10 ∷ 12 ∷ []; indirect = 11 ∷ []; slack = replicate 503 0 }))
    (dir (codes "old") (record { qid = 3; version = 5 }) (record { blocks = 4 ∷ []; indirect = []; slack = [] }) (frees 7)
    (leaf (file (codes "short") (record { qid = 5; version = 1; bytes = codes "hi" }) (record { blocks = 13 ∷ []; indirect = []; slack = 33 ∷ replicate 501 0 }))
    (leaf (empty_file (codes "a") 6) (leaf (empty_file (codes "b") 7) (leaf (empty_file (codes "c") 8) (leaf (empty_file (codes "d") 9)
    (leaf (empty_file (codes "e") 10) (frees 6))))))))

abbrev pub example : StoredTree
example = record {
  top = 2;
  root = record { qid = 1; version = 0 };
  stored = record { blocks = 3 ∷ 14 ∷ []; indirect = []; slack = [] };
  places = example_places;
  next_qid = 11;
}

-- Its blocks by hand: bytes filled with zeros to a length, a number below 65,536 in four bytes, an entry by the first byte of its mode
-- and its numbers (qid, version, size, six direct addresses and the indirect one), and a block by its tag, owner and body.
abbrev filled : ℕ → List ℕ → List ℕ
filled n bytes = bytes ++ replicate (n - length bytes) 0

abbrev word : ℕ → List ℕ
word n = 0 ∷ 0 ∷ n / 256 ∷ n % 256 ∷ []

abbrev entry_of : List ℕ → ℕ → List ℕ → List ℕ
entry_of name mode numbers = filled 28 name ++ (mode ∷ 0 ∷ 0 ∷ 0 ∷ filled 40 (flat_map word numbers))

abbrev empty_file_entry : List ℕ → ℕ → List ℕ
empty_file_entry name qid = entry_of name 128 (qid ∷ [])

abbrev block_of : ℕ → ℕ → List ℕ → List ℕ
block_of tag owner body = filled 504 body ++ (0 ∷ 0 ∷ 0 ∷ tag ∷ word owner)

abbrev directory_of : ℕ → List (List ℕ) → List ℕ
directory_of owner entries = block_of 2 owner (flat_map (λ e. e) entries)

abbrev first_seven : List (List ℕ)
first_seven =
    entry_of (codes "table") 128 (2 ∷ 7 ∷ 3025 ∷ 5 ∷ 6 ∷ 7 ∷ 8 ∷ 9 ∷ 10 ∷ 11 ∷ [])
    ∷ entry_of (codes "old") 192 (3 ∷ 5 ∷ 504 ∷ 4 ∷ [])
    ∷ entry_of (codes "short") 128 (5 ∷ 1 ∷ 2 ∷ 13 ∷ [])
    ∷ empty_file_entry (codes "a") 6
    ∷ empty_file_entry (codes "b") 7
    ∷ empty_file_entry (codes "c") 8
    ∷ empty_file_entry (codes "d") 9
    ∷ []

abbrev pub example_blocks : List (ℕ × List ℕ)
example_blocks =
    (2, directory_of 0 (entry_of (codes "/") 192 (1 ∷ 0 ∷ 1008 ∷ 3 ∷ 14 ∷ []) ∷ []))
    ∷ (3, directory_of 1 first_seven)
    ∷ (4, directory_of 3 [])
    ∷ (5, block_of 5 2 (replicate 504 120))
    ∷ (6, block_of 5 2 (replicate 504 120))
    ∷ (7, block_of 5 2 (replicate 504 120))
    ∷ (8, block_of 5 2 (replicate 504 120))
    ∷ (9, block_of 5 2 (replicate 504 120))
    ∷ (10, block_of 5 2 (replicate 504 120))
    ∷ (11, block_of 3 2 (word 12))
    ∷ (12, block_of 5 2 (codes "!"))
    ∷ (13, block_of 5 5 (codes "hi!"))
    ∷ (14, directory_of 1 (empty_file_entry (codes "e") 10 ∷ []))
    ∷ []

-- what a disc with the label 1 refuses a read by: 3 if the block is blank, 5 if it is spoiled
abbrev refusal_of : ℕ → ℕ → Refusal
refusal_of number block = record { number = number; label = 1; block = block }

-- the map that has them, and is blank elsewhere; and a map with another block at one address
abbrev pub holding : List (ℕ × List ℕ) → BlockMap
holding [] a = Err (refusal_of 3 a)
holding (b ∷ bs) a = cond (a == b.0) (Ok b.1) (holding bs a)

abbrev with_block : ℕ → Result (List ℕ) Refusal → BlockMap → BlockMap
with_block b new m a = cond (a == b) new (m a)

abbrev pub example_map : BlockMap
example_map = holding example_blocks

-- On a shelf of 65,536 blocks, with the next qid 11 and the root block at 2: a check, and what stat, entry and read answer at a name.
abbrev check : BlockMap → Judged (List ℕ)
check m = check_tree m 65536 11 2

abbrev found : BlockMap → List (List ℕ) → Judged (List ℕ)
found m ns = look_up m 65536 11 2 ns

abbrev stat : BlockMap → List (List ℕ) → Judged (Result Stat ℕ)
stat m ns = and_then (found m ns) (λ e. Ok (stat_of e))

abbrev entry : BlockMap → List (List ℕ) → ℕ → Judged (Result (List ℕ) ℕ)
entry m ns k = and_then (found m ns) (entry_in m 65536 11 k)

abbrev read : BlockMap → List (List ℕ) → ℕ → ℕ → Judged (Result (List ℕ) ℕ)
read m ns off n = and_then (found m ns) (read_in m 65536 11 off n)

-- block 12 spoiled
abbrev spoiled12 : BlockMap
spoiled12 = with_block 12 (Err (refusal_of 5 12)) example_map

-- the blocks that a change touches, how many it adds, and those that it releases
abbrev effect : StoredTree → Change → List ℕ × ℕ × List ℕ
effect t c = ((plan_of t c).touched, (plan_of t c).added, (plan_of t c).released)

-- 504 bytes more for "table", whose added block gets the address 15
abbrev append : Change
append = write (codes "/table") 3025 (replicate 504 121)

abbrev appended : StoredTree
appended = (plan_of example append).after (15 ∷ [])

pub record Vectors : Type 0 where
  -- the blocks in post-order, and that the bytes by hand are theirs
  pub post_order : map (λ b. b.address) (blocks_of example) ≡ 5 ∷ 6 ∷ 7 ∷ 8 ∷ 9 ∷ 10 ∷ 12 ∷ 11 ∷ 4 ∷ 13 ∷ 3 ∷ 14 ∷ 2 ∷ []
  pub stand : AllByRecursion (Stands example_map) (blocks_of example)
  pub decoded : tree_at example_map 2 11 ≡ example
  -- the check meets each of them; the last that it met is first
  pub checked : check example_map ≡ Ok (14 ∷ 13 ∷ 4 ∷ 12 ∷ 10 ∷ 9 ∷ 8 ∷ 7 ∷ 6 ∷ 5 ∷ 11 ∷ 3 ∷ 2 ∷ [])
  -- answers from the blocks
  pub stat_root : stat example_map [] ≡ Ok (Ok (record { mode = 0xc000; qid = 1; version = 0; size = 1008 }))
  pub stat_second_block : stat example_map (codes "e" ∷ []) ≡ Ok (Ok (record { mode = 0x8000; qid = 10; version = 0; size = 0 }))
  pub stat_no_name : stat example_map (codes "f" ∷ []) ≡ Ok (Err 14)
  pub stat_below_file : stat example_map (codes "a" ∷ codes "b" ∷ []) ≡ Ok (Err 14)
  pub entry_second_block : entry example_map [] 7 ≡ Ok (Ok (codes "e"))
  pub entry_past_end : entry example_map [] 14 ≡ Ok (Ok [])
  pub read_indirect : read example_map (codes "table" ∷ []) 3024 1 ≡ Ok (Ok (codes "!"))
  pub read_across : read example_map (codes "table" ∷ []) 3023 504 ≡ Ok (Ok (codes "x!"))
  pub read_no_slack : read example_map (codes "short" ∷ []) 0 504 ≡ Ok (Ok (codes "hi"))
  -- damaged blocks: block 12 spoiled, which a read of other bytes does not meet
  pub spoiled_check : check spoiled12 ≡ Err (record { address = 12; below = Some (refusal_of 5 12) })
  pub spoiled_read : read spoiled12 (codes "table" ∷ []) 3024 1 ≡ Err (record { address = 12; below = Some (refusal_of 5 12) })
  pub spoiled_aside : read spoiled12 (codes "table" ∷ []) 3023 1 ≡ Ok (Ok (codes "x"))
  -- a wrong owner in block 4, an address that block 11 names and block 3 named before, and in block 14 a name that block 3 has
  pub wrong_owner : check (with_block 4 (Ok (directory_of 2 [])) example_map) ≡ fails 4
  pub named_twice : check (with_block 11 (Ok (block_of 3 2 (word 5))) example_map) ≡ fails 11
  pub same_name : check (with_block 14 (Ok (directory_of 1 (empty_file_entry (codes "a") 10 ∷ []))) example_map) ≡ fails 14
  -- block 14 has a qid that is not below the next, and the root block names an address past the end
  pub qid_not_given : check_tree example_map 65536 10 2 ≡ fails 14
  pub address_at_limit : check_tree example_map 14 11 2 ≡ fails 2
  -- writes: within the file, in its last block and in two others; with one more block; and the first byte of an empty file
  pub writes_last : effect example (write (codes "/table") 3024 (codes "?")) ≡ (2 ∷ 3 ∷ 12 ∷ 11 ∷ [], 0, [])
  pub writes_across : effect example (write (codes "/table") 503 (codes "??")) ≡ (2 ∷ 3 ∷ 5 ∷ 6 ∷ [], 0, [])
  pub writes_more : effect example append ≡ (2 ∷ 3 ∷ 12 ∷ 11 ∷ [], 1, [])
  pub writes_first : effect example (write (codes "/e") 0 (codes "?")) ≡ (2 ∷ 14 ∷ [], 1, [])
  -- the map written at the touched and added addresses alone says the tree afterwards, which is the plain tree's
  pub writes_decoded : tree_at (written_at (2 ∷ 3 ∷ 12 ∷ 11 ∷ 15 ∷ []) (blocks_of appended) example_map) 2 11 ≡ appended
  pub writes_plain : changed append (erase example) ≡ Ok (erase appended)
  -- a name in the ninth place, in the directory "old", and in a new tree, which has no place for it yet
  pub makes : effect example (mkfile (codes "/f")) ≡ (2 ∷ 14 ∷ [], 0, [])
  pub makes_below : effect example (mkdir (codes "/old/x")) ≡ (2 ∷ 3 ∷ 4 ∷ [], 0, [])
  pub makes_first : effect (new_tree 2) (mkfile (codes "/a")) ≡ (2 ∷ [], 1, [])
  pub removes_file : effect example (remove (codes "/table")) ≡ (2 ∷ 3 ∷ [], 0, 5 ∷ 6 ∷ 7 ∷ 8 ∷ 9 ∷ 10 ∷ 12 ∷ 11 ∷ [])
  pub removes_directory : effect example (remove (codes "/old")) ≡ (2 ∷ 3 ∷ [], 0, 4 ∷ [])
