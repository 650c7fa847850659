-- Blocks of 512 bytes: a body of 504 bytes, a pad, a tag and an owner.
use Rattle.std.specs.Prelude.{ℕ, ◌*◌, Bool, List, ◌++◌, ◌==◌}
use Rattle.std.specs.List.{flat_map}
use Rattle.layout.specs.declared.block.Tag.{Tag}
use Rattle.layout.specs.declared.block.Tag.TheVariants.{Super, Directory, Indirect, File}
use Rattle.layout.specs.Numbers.{bytes16, bytes32, number16, number32, bytes_at, fit}

-- the number of a tag in a block
abbrev pub tag_number : Tag → ℕ
tag_number Super = 1
tag_number Directory = 2
tag_number Indirect = 3
tag_number File = 5

-- the parts of a block
abbrev pub body_of : List ℕ → List ℕ
body_of b = bytes_at 0 504 b

abbrev pub pad_of : List ℕ → ℕ
pad_of b = number16 (bytes_at 504 2 b)

abbrev pub tag_of : List ℕ → ℕ
tag_of b = number16 (bytes_at 506 2 b)

abbrev pub owner_of : List ℕ → ℕ
owner_of b = number32 (bytes_at 508 4 b)

-- the pads that a block may have
unfoldable pub legal_pad : ℕ → Bool
legal_pad pad = pad == 0

-- the block with the number of a tag, an owner and a body of 504 bytes
unfoldable pub block : ℕ → ℕ → List ℕ → List ℕ
block tag owner body = body ++ (bytes16 0 ++ (bytes16 tag ++ bytes32 owner))

-- up to 504 bytes of a file
unfoldable pub file_block : ℕ → List ℕ → List ℕ
file_block owner bytes = block (tag_number File) owner (fit 504 0 bytes)

-- up to 126 addresses
unfoldable pub indirect_block : ℕ → List ℕ → List ℕ
indirect_block owner addresses = block (tag_number Indirect) owner (flat_map bytes32 (fit 126 0 addresses))

-- address j of an indirect block; from 126 on the body has no bytes, which is 0
abbrev pub address_of : ℕ → List ℕ → ℕ
address_of j b = number32 (bytes_at (4 * j) 4 (body_of b))
