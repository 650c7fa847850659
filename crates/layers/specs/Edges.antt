-- The edges of the layers' rules, and other examples, worked out from the definitions.
use Rattle.std.specs.Prelude.{◌≡◌, ℕ, List, [], ◌∷◌, replicate}
use Rattle.device.specs.declared.interface.Kind.{Kind}
use Rattle.device.specs.declared.interface.Kind.TheVariants.{Rewritable, WriteOnce}
use Rattle.device.specs.Refusals.{refused}
use Rattle.device.specs.Meaning.{Cell, blank, held, spoiled, Meaning, size, cell}
use Rattle.device.specs.Calls.{write_outcome}
use Rattle.device.specs.Storage.{place_on}
use Rattle.layers.specs.Concatenations.{concatenation}
use Rattle.layers.specs.Mirrors.{mirror}
use Rattle.layers.specs.FakeWorms.{bit_block, bit_byte, worth, fake_worm}

-- a device with this label, kind and cells
abbrev having : ℕ → Kind → List Cell → Meaning
having l k cells = record { label = l; kind = k; cells = cells; place = place_on l }

abbrev zeros : Cell
zeros = held (replicate 512 0)

-- a rewritable device of n blocks
abbrev zero_blocks : ℕ → Meaning
zero_blocks n = having 1 Rewritable (replicate n zeros)

-- a mirror, labelled 3, of one block of each of two write-once devices, labelled 1 and 2
abbrev mirror_of : Cell → Cell → Meaning
mirror_of x y = mirror 3 (having 1 WriteOnce (x ∷ [])) (having 2 WriteOnce (y ∷ []))

-- a fake worm of one block over a block and a block of bits, of which the first byte is as given
abbrev worm_of : Cell → ℕ → Meaning
worm_of x byte = fake_worm 9 (having 1 Rewritable (x ∷ (held (byte ∷ replicate 511 0) ∷ [])))

pub record Edges : Type 0 where
  -- the sizes of fake worms over 2, 4,098 and 4,099 blocks
  pub worm_over_2 : size (fake_worm 9 (zero_blocks 2)) ≡ 1
  pub worm_over_4098 : size (fake_worm 9 (zero_blocks 4098)) ≡ 4096
  pub worm_over_4099 : size (fake_worm 9 (zero_blocks 4099)) ≡ 4097
  pub worm_over_write_once : size (fake_worm 9 (having 1 WriteOnce (replicate 8 zeros))) ≡ 0
  -- a bit at the start, one at the end of a block of bits, and one in the next
  pub bit_9 : (bit_byte 9 ≡ 1) × (worth 9 ≡ 64)
  pub bit_4095 : (bit_byte 4095 ≡ 511) × (worth 4095 ≡ 1)
  pub bit_4096 : (bit_block (zero_blocks 4099) 4096 ≡ 4098) × (bit_byte 4096 ≡ 0) × (worth 4096 ≡ 128)
  -- what the bit says of the block
  pub bit_0_blank : cell (worm_of zeros 127) 0 ≡ blank
  pub bit_1_held : cell (worm_of zeros 128) 0 ≡ zeros
  pub below_spoiled : cell (worm_of spoiled 0) 0 ≡ spoiled
  -- mirrors
  pub spoiled_and_blank : cell (mirror_of spoiled blank) 0 ≡ blank
  pub held_and_blank : write_outcome (mirror_of zeros blank) 0 512 ≡ refused 4 1 0
  -- concatenations up to the most blocks, and past it
  pub most_blocks : size (concatenation 3 (zero_blocks 32768) (zero_blocks 32768)) ≡ 65536
  pub too_many : size (concatenation 3 (zero_blocks 32768) (zero_blocks 32769)) ≡ 0
  pub kinds_differ : size (concatenation 3 (zero_blocks 2) (having 2 WriteOnce (blank ∷ []))) ≡ 0
