-- Names of files and directories.
use Rattle.std.specs.Prelude.{ℕ, Bool, not, ◌&&◌, List, length, ◌==◌, nat_le}
use Rattle.std.specs.List.{list_all}

-- a byte of a name: visible ASCII but "/", which is 47
abbrev pub name_byte : ℕ → Bool
name_byte b = nat_le 33 b && nat_le b 126 && not (b == 47)

abbrev pub is_name : List ℕ → Bool
is_name n = nat_le 1 (length n) && nat_le (length n) 27 && list_all name_byte n
