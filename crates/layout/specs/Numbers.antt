-- Big-endian numbers, parts of lists of bytes, and lists of a fixed length.
use Rattle.std.specs.Prelude.{ℕ, ◌+◌, Bool, List, ◌++◌, length, take, drop, replicate, nat_eq}
use Rattle.std.specs.Int.{w16, w32, to_be_bytes, from_be_bytes}
use Rattle.std.specs.List.{list_all}

-- a number in two bytes, and in four
unfoldable pub bytes16 : ℕ → List ℕ
bytes16 n = to_be_bytes w16 n

unfoldable pub bytes32 : ℕ → List ℕ
bytes32 n = to_be_bytes w32 n

-- the number in the first two bytes, and in the first four; bytes that are missing count as 0
unfoldable pub number16 : List ℕ → ℕ
number16 bs = from_be_bytes w16 bs

unfoldable pub number32 : List ℕ → ℕ
number32 bs = from_be_bytes w32 bs

-- the n bytes from i on
abbrev pub bytes_at : ℕ → ℕ → List ℕ → List ℕ
bytes_at i n bs = take n (drop i bs)

-- the bytes with new ones from i on, in place of as many; the others stay
unfoldable pub patched : ℕ → List ℕ → List ℕ → List ℕ
patched i new bs = take i bs ++ (new ++ drop (i + length new) bs)

-- n elements: those of xs, cut, or filled up with d
unfoldable pub fit : {X : Type 0} → ℕ → X → List X → List X
fit n d xs = take n (xs ++ replicate n d)

abbrev pub all_zero : List ℕ → Bool
all_zero bs = list_all (λ b. nat_eq b 0) bs
