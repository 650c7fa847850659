-- Supers: blocks whose body begins with six numbers, and has nothing but zeros after them.
use Rattle.std.specs.Prelude.{ℕ, Bool, ◌&&◌, List, [], ◌∷◌, ◌==◌}
use Rattle.std.specs.List.{flat_map}
use Rattle.layout.specs.declared.block.Tag.TheVariants as tag
use Rattle.layout.specs.declared.super_block.Super.{Super}
use Rattle.layout.specs.Numbers.{bytes32, number32, bytes_at, fit, all_zero}
use Rattle.layout.specs.Blocks.{tag_number, pad_of, tag_of, owner_of, legal_pad, block}

-- the numbers in their order
abbrev pub super_numbers : Super → List ℕ
super_numbers s = s.number ∷ s.date ∷ s.root ∷ s.previous ∷ s.next ∷ s.next_qid ∷ []

unfoldable pub super_block : Super → List ℕ
super_block s = block (tag_number tag.Super) 0 (fit 504 0 (flat_map bytes32 (super_numbers s)))

-- the six numbers of a block
abbrev pub super_of : List ℕ → Super
super_of b = record {
  number = number32 (bytes_at 0 4 b);
  date = number32 (bytes_at 4 4 b);
  root = number32 (bytes_at 8 4 b);
  previous = number32 (bytes_at 12 4 b);
  next = number32 (bytes_at 16 4 b);
  next_qid = number32 (bytes_at 20 4 b);
}

-- what a block shows of being a super, but for what its numbers are
unfoldable pub legal_super : List ℕ → Bool
legal_super b = legal_pad (pad_of b) && tag_of b == tag_number tag.Super && owner_of b == 0 && all_zero (bytes_at 24 480 b)
