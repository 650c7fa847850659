-- Entries of 72 bytes, of which a directory block has seven.
use Rattle.std.specs.Prelude.{◌≡◌, ◌≢◌, ℕ, zero, suc, ◌+◌, ◌-◌, ◌*◌, ◌/◌, ◌%◌, Bool, cond, ◌&&◌, ◌||◌, List, [], ◌∷◌, ◌++◌, length, drop, codes, ◌==◌, nat_le, nat_lt, Result, MatchResult}
use Rattle.std.specs.List.{list_all, range_with_len, flat_map}
use Rattle.plain.specs.Names.{is_name}
use Rattle.layout.specs.declared.block.Tag.TheVariants as tag
use Rattle.layout.specs.declared.entry.Mode.{Mode}
use Rattle.layout.specs.declared.entry.Mode.TheVariants.{File, Directory}
use Rattle.layout.specs.declared.entry.NoSuchMode.{NoSuchMode}
use Rattle.layout.specs.declared.entry.Entry as code
use Rattle.layout.specs.declared.pointer.Pointer.{Pointer}
use Rattle.layout.specs.declared.pointer.Pointer.TheVariants.{Direct, Indirect}
use Rattle.layout.specs.Numbers.{bytes16, bytes32, number16, number32, bytes_at, fit, all_zero}
use Rattle.layout.specs.Blocks.{tag_number, body_of, block}

-- what an entry says; the mode is 0 in an empty place
pub record Entry : Type 0 where
  pub name : List ℕ
  pub mode : ℕ
  pub qid : ℕ
  pub version : ℕ
  pub size : ℕ
  pub direct : List ℕ
  pub indirect : ℕ

-- the number of a mode in an entry
abbrev pub mode_number : Mode → ℕ
mode_number File = 0x8000
mode_number Directory = 0xC000

-- what a mode is called
abbrev pub mode_text : Mode → List ℕ
mode_text File = codes "file"
mode_text Directory = codes "directory"

-- the number of no mode is refused
pub record NoMode (number : ℕ) (refused : NoSuchMode) : Type 0 where
  pub is : refused.0 ≡ number
  pub no_file : number ≢ mode_number File
  pub no_directory : number ≢ mode_number Directory

-- the mode that has this number, where one has it
abbrev pub ReadsMode : ℕ → Result Mode NoSuchMode → Type 0
ReadsMode number read = MatchResult read (λ mode. mode_number mode ≡ number) (NoMode number)

-- what an entry of the code says
abbrev pub shown : code.Entry → Entry
shown e = record { name = e.name; mode = mode_number e.mode; qid = e.qid; version = e.version; size = e.size; direct = e.direct; indirect = e.indirect }

-- an empty place: 72 zero bytes
abbrev pub empty_entry : Entry
empty_entry = record { name = []; mode = 0; qid = 0; version = 0; size = 0; direct = []; indirect = 0 }

unfoldable pub entry_bytes : Entry → List ℕ
entry_bytes e =
    fit 28 0 e.name
    ++ (bytes16 e.mode ++ (bytes16 0
    ++ (bytes32 e.qid ++ (bytes32 e.version ++ (bytes32 e.size
    ++ (flat_map bytes32 (fit 6 0 e.direct) ++ bytes32 e.indirect))))))

-- up to seven entries
unfoldable pub directory_block : ℕ → List Entry → List ℕ
directory_block owner entries = block (tag_number tag.Directory) owner (flat_map entry_bytes (fit 7 empty_entry entries))

-- the first block of a new tree: the entry of "/", a directory without blocks
unfoldable pub root_block : List ℕ
root_block = directory_block 0 (record { name = 47 ∷ []; mode = mode_number Directory; qid = 1; version = 0; size = 0; direct = []; indirect = 0 } ∷ [])

-- the bytes before the first zero
abbrev pub until_zero : List ℕ → List ℕ
until_zero [] = []
until_zero (zero ∷ bytes) = []
until_zero (suc b ∷ bytes) = suc b ∷ until_zero bytes

-- the fields of an entry's 72 bytes
abbrev pub name_of : List ℕ → List ℕ
name_of e = until_zero (bytes_at 0 28 e)

abbrev pub mode_of : List ℕ → ℕ
mode_of e = number16 (bytes_at 28 2 e)

abbrev pub reserved_of : List ℕ → ℕ
reserved_of e = number16 (bytes_at 30 2 e)

abbrev pub qid_of : List ℕ → ℕ
qid_of e = number32 (bytes_at 32 4 e)

abbrev pub version_of : List ℕ → ℕ
version_of e = number32 (bytes_at 36 4 e)

abbrev pub size_of : List ℕ → ℕ
size_of e = number32 (bytes_at 40 4 e)

-- direct address i, and 0 from 6 on
abbrev pub direct_of : ℕ → List ℕ → ℕ
direct_of i e = number32 (bytes_at (4 * i) 4 (bytes_at 44 24 e))

abbrev pub indirect_of : List ℕ → ℕ
indirect_of e = number32 (bytes_at 68 4 e)

-- where the address of the block stands that has byte n of a file: blocks 0 to 5 have the direct addresses, the others those of the
-- indirect block
abbrev pub pointer_to : ℕ → Pointer
pointer_to n = cond (nat_lt (n / 504) 6) (Direct (n / 504)) (Indirect (n / 504 - 6))

-- the 72 bytes of entry k of a block; from 7 on the body has no bytes, which is an empty place
abbrev pub entry_at : ℕ → List ℕ → List ℕ
entry_at k b = fit 72 0 (bytes_at (72 * k) 72 (body_of b))

-- What an entry may hold on its own, on a shelf of `limit` blocks with the next qid `next`.

-- an address that is used is one that a tree's block can have, and any other is 0
abbrev pub legal_address : ℕ → Bool → ℕ → Bool
legal_address limit used a = cond used (nat_le 2 a && nat_lt a limit) (a == 0)

-- how many blocks so many bytes take
abbrev pub blocks_for : ℕ → ℕ
blocks_for size = (size + 503) / 504

-- the blocks of the size have the first direct addresses, and from the seventh on the indirect block's
unfoldable pub legal_addresses : ℕ → List ℕ → Bool
legal_addresses limit e =
    list_all (λ i. legal_address limit (nat_lt i (blocks_for (size_of e))) (direct_of i e)) (range_with_len 0 6)
    && legal_address limit (nat_lt 6 (blocks_for (size_of e))) (indirect_of e)

-- a file has up to 6 + 126 blocks; a directory has up to six, and fills them
abbrev pub legal_size : ℕ → ℕ → Bool
legal_size mode size =
    (mode == mode_number File && nat_le size 66528)
    || (mode == mode_number Directory && size % 504 == 0 && nat_le size 3024)

-- a name, and zeros after it
unfoldable pub legal_name_field : List ℕ → Bool
legal_name_field field = is_name (until_zero field) && all_zero (drop (length (until_zero field)) field)

-- an empty place; or a file or a directory, of any version
unfoldable pub legal_entry : ℕ → ℕ → List ℕ → Bool
legal_entry limit next e =
    all_zero e
    || (legal_size (mode_of e) (size_of e) && legal_name_field (bytes_at 0 28 e) && reserved_of e == 0 && nat_lt (qid_of e) next && legal_addresses limit e)
