-- Look-ups in blocks that may be damaged: each judges what it passes, and fails at the first block that is not as it should be.
use Rattle.std.specs.Prelude.{ℕ, ◌+◌, ◌-◌, ◌*◌, ◌/◌, ◌%◌, min, Bool, cond, not, ◌&&◌, List, [], ◌∷◌, ◌++◌, map, take, drop, replicate, Some, None, Ok, Err, Option, Result, ◌==◌, nat_le, nat_lt}
use Rattle.std.specs.List.{list_all, range_with_len}
use Rattle.std.specs.Str.{bytes_eq}
use Rattle.device.specs.Refusals.{Refusal}
use Rattle.plain.specs.Trees.{slash}
use Rattle.plain.specs.Operations.{Stat}
use Rattle.layout.specs.declared.block.Tag.TheVariants as tag
use Rattle.layout.specs.declared.entry.Mode.TheVariants as mode
use Rattle.layout.specs.Numbers.{bytes_at, fit, all_zero}
use Rattle.layout.specs.Blocks.{tag_number, body_of, pad_of, tag_of, owner_of, legal_pad, address_of}
use Rattle.layout.specs.Entries.{mode_number, name_of, mode_of, reserved_of, qid_of, version_of, size_of, direct_of, indirect_of, entry_at, blocks_for, legal_address, legal_addresses, legal_size, legal_entry}
use Rattle.trees.specs.Represents.{BlockMap}
use Rattle.trees.specs.Decoded.{entries_of, directs_of}

-- the block that a check names, and the refusal below it if it could not be read
pub record Failure : Type 0 where
  pub address : ℕ
  pub below : Option Refusal

abbrev pub Judged : Type 0 → Type 0
Judged X = Result X Failure

-- the block at an address is not as it should be
abbrev pub fails : {X : Type 0} → ℕ → Judged X
fails a = Err (record { address = a; below = None })

-- what follows a step that may fail
abbrev pub and_then : {X Y : Type 0} → Judged X → (X → Judged Y) → Judged Y
and_then (Ok x) f = f x
and_then (Err e) f = Err e

-- what a block shows of itself: its ends; of a directory block its entries; of an indirect block that names n blocks its addresses
abbrev pub legal_ends : ℕ → ℕ → List ℕ → Bool
legal_ends tag owner b = legal_pad (pad_of b) && tag_of b == tag && owner_of b == owner

abbrev pub legal_directory : ℕ → ℕ → List ℕ → Bool
legal_directory limit next b = list_all (legal_entry limit next) (entries_of b)

abbrev pub legal_indirect : ℕ → ℕ → List ℕ → Bool
legal_indirect limit n b = list_all (λ j. legal_address limit (nat_lt j n) (address_of j b)) (range_with_len 0 126)

-- the root block: the entry of "/", of any version, and six empty places
abbrev pub legal_root_entry : ℕ → ℕ → List ℕ → Bool
legal_root_entry limit next e =
    bytes_eq (bytes_at 0 28 e) (fit 28 0 slash)
    && mode_of e == mode_number mode.Directory && legal_size (mode_of e) (size_of e) && reserved_of e == 0
    && qid_of e == 1 && nat_lt (qid_of e) next && legal_addresses limit e

abbrev pub legal_root : ℕ → ℕ → List ℕ → Bool
legal_root limit next b = legal_root_entry limit next (entry_at 0 b) && list_all all_zero (drop 1 (entries_of b))

-- an empty place
abbrev pub no_entry : List ℕ
no_entry = replicate 72 0

-- the first entry with a name, if there is one
abbrev pub is_named : List ℕ → List ℕ → Bool
is_named n e = not (mode_of e == 0) && bytes_eq n (name_of e)

abbrev pub entry_named : List ℕ → List (List ℕ) → Option (List ℕ)
entry_named n [] = None
entry_named n (e ∷ es) = cond (is_named n e) (Some e) (entry_named n es)

abbrev pub read : Result (List ℕ) Refusal → ℕ → Judged (List ℕ)
read (Ok b) a = Ok b
read (Err f) a = Err (record { address = a; below = Some f })

-- the block if a test of it passes
abbrev pub judged : Bool → ℕ → List ℕ → Judged (List ℕ)
judged test a b = cond test (Ok b) (fails a)

-- the entry's own answer to stat; a refusal is its number
abbrev pub stat_of : List ℕ → Result Stat ℕ
stat_of e = cond (mode_of e == 0) (Err 14) (Ok (record { mode = mode_of e; qid = qid_of e; version = version_of e; size = size_of e }))

-- the address of a file's block j, by its entry and its indirect block
abbrev pub block_address : List ℕ → List ℕ → ℕ → ℕ
block_address e indirect j = cond (nat_lt j 6) (direct_of j e) (address_of (j - 6) indirect)

module _ (m : BlockMap) where
  abbrev pub visit : ℕ → ℕ → ℕ → Judged (List ℕ)
  visit tag owner a = and_then (read (m a) a) (λ b. judged (legal_ends tag owner b) a b)

  -- the bodies of a file's blocks
  abbrev pub read_blocks : ℕ → List ℕ → Judged (List ℕ)
  read_blocks owner [] = Ok []
  read_blocks owner (a ∷ l) = and_then (visit (tag_number tag.File) owner a) (λ b. and_then (read_blocks owner l) (λ rest. Ok (body_of b ++ rest)))

  -- so many bytes, at least one, from off on, which the file has; `indirect` is its indirect block, if that is needed
  abbrev pub read_range : ℕ → ℕ → List ℕ → List ℕ → Judged (Result (List ℕ) ℕ)
  read_range off n e indirect =
      and_then (read_blocks (qid_of e) (map (block_address e indirect) (range_with_len (off / 504) ((off + n - 1) / 504 + 1 - off / 504))))
      (λ bytes. Ok (Ok (take n (drop (off % 504) bytes))))

-- On a shelf of `limit` blocks, of a tree with the next qid `next`.
module _ (m : BlockMap) (limit next : ℕ) where
  abbrev pub visit_directory : ℕ → ℕ → Judged (List ℕ)
  visit_directory owner a = and_then (visit m (tag_number tag.Directory) owner a) (λ b. judged (legal_directory limit next b) a b)

  -- the block at a, which is the indirect block of a file of so many blocks
  abbrev pub visit_indirect : ℕ → ℕ → ℕ → Judged (List ℕ)
  visit_indirect owner blocks a = and_then (visit m (tag_number tag.Indirect) owner a) (λ b. judged (legal_indirect limit (blocks - 6) b) a b)

  abbrev pub visit_root : ℕ → Judged (List ℕ)
  visit_root a = and_then (visit m (tag_number tag.Directory) 0 a) (λ b. judged (legal_root limit next b) a b)

  -- the entry of a name in the blocks of a directory, one after the other until it is found; an empty place if it is not
  abbrev pub look_in : List ℕ → ℕ → List ℕ → Judged (List ℕ)
  look_in n owner [] = Ok no_entry
  look_in n owner (a ∷ l) = and_then (visit_directory owner a) (λ b. elim (entry_named n (entries_of b)) [ Some e ↦ Ok e | None ↦ look_in n owner l ])

  -- the entry that names lead to from an entry; an empty place if they lead nowhere
  abbrev pub look_from : List (List ℕ) → List ℕ → Judged (List ℕ)
  look_from [] e = Ok e
  look_from (n ∷ ns) e = cond (mode_of e == mode_number mode.Directory) (and_then (look_in n (qid_of e) (directs_of e)) (look_from ns)) (Ok no_entry)

  -- from the root block on
  abbrev pub look_up : ℕ → List (List ℕ) → Judged (List ℕ)
  look_up top ns = and_then (visit_root top) (λ b. look_from ns (entry_at 0 b))

  -- What entry and read answer of the entry that a look-up found. Of entry k the block with that place is read.
  abbrev pub name_in : ℕ → List ℕ → Judged (Result (List ℕ) ℕ)
  name_in k e =
      cond (nat_lt (504 * (k / 7)) (size_of e))
      (and_then (visit_directory (qid_of e) (direct_of (k / 7) e)) (λ b. Ok (Ok (name_of (entry_at (k % 7) b)))))
      (Ok (Ok []))

  abbrev pub entry_in : ℕ → List ℕ → Judged (Result (List ℕ) ℕ)
  entry_in k e =
      cond (mode_of e == 0) (Ok (Err 14))
      (cond (mode_of e == mode_number mode.File) (Ok (Err 15))
      (cond (nat_le k 41) (name_in k e) (Ok (Err 17))))

  -- Of a read the blocks that have a byte asked for are read, and before them the indirect block, if it names one of them.
  abbrev pub read_some : ℕ → ℕ → List ℕ → Judged (Result (List ℕ) ℕ)
  read_some off n e =
      cond (n == 0) (Ok (Ok []))
      (cond (nat_lt ((off + n - 1) / 504) 6) (read_range m off n e [])
      (and_then (visit_indirect (qid_of e) (blocks_for (size_of e)) (indirect_of e)) (read_range m off n e)))

  abbrev pub read_in : ℕ → ℕ → List ℕ → Judged (Result (List ℕ) ℕ)
  read_in off n e =
      cond (mode_of e == 0) (Ok (Err 14))
      (cond (mode_of e == mode_number mode.Directory) (Ok (Err 15))
      (read_some off (min n (size_of e - off)) e))
