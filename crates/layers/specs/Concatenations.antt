-- Two devices end to end.
use Rattle.std.specs.Prelude.{ℕ, ◌+◌, ◌-◌, Bool, cond, ◌&&◌, List, [], ◌++◌, nat_le, nat_lt}
use Rattle.device.specs.declared.interface.Device.{Ghosts}
use Rattle.device.specs.Meaning.{Meaning, size, put}
use Rattle.layers.specs.declared.concatenation.Concatenation.{Concatenation}
use Rattle.layers.specs.Kinds.{same_kind}

-- whether the parts fit: they are of one kind, and have not too many blocks together
abbrev pub joins : Meaning → Meaning → Bool
joins a b = same_kind a.kind b.kind && nat_le (size a + size b) 65536

-- the blocks of a and then those of b, none where the parts do not fit; places come from below
abbrev pub concatenation : ℕ → Meaning → Meaning → Meaning
concatenation l a b =
    record {
      label = l;
      kind = a.kind;
      cells = cond (joins a b) (a.cells ++ b.cells) [];
      place = λ i. cond (nat_lt i (size a)) (a.place i) (b.place (i - size a));
    }

-- the parts after a write of buf to block i, accepted or not: the part that has the block, and that alone, holds the buffer
abbrev pub first_after : Bool → Meaning → ℕ → List ℕ → Meaning
first_after accepted a i buf = cond (nat_lt i (size a)) (cond accepted (put a i buf) a) a

abbrev pub second_after : Bool → Meaning → Meaning → ℕ → List ℕ → Meaning
second_after accepted a b i buf = cond (nat_lt i (size a)) b (cond accepted (put b (i - size a) buf) b)

-- what a value of the layer means, from what its parts mean
abbrev pub meaning_of : {A B : Type 0} → Ghosts A → Ghosts B → Concatenation A B → Meaning
meaning_of f g d = concatenation d.label (f.meaning d.first) (g.meaning d.second)
