-- A new tree is its root block.
use Rattle.std.proofs.Common.{ℕ, zero, suc, ◌≤◌, Bool, true, false, cond, eqb, refl, arith}
use Rattle.plain.specs.Trees.{frees, empty_tree}
use Rattle.layout.specs.Numbers.{fit}
use Rattle.layout.specs.Entries.{directory_block, root_block}
use Rattle.trees.specs.Represents.{Fits, WellFormed}
use Rattle.trees.specs.Theorems.{NotEmpty}

pub empty_formed : WellFormed empty_tree
empty_formed = record {
  tidy = record { here = record { differ = λ n. omega arith; sevens = refl; few = omega arith }; below = tt };
  levels = omega arith;
  numbered = tt;
  root = refl;
  version = omega arith;
  next = (omega arith, omega arith);
}

pub frees_fit : (n : ℕ) → Fits (frees n)
frees_fit zero = tt
frees_fit (suc n) = (tt, frees_fit n)

pub not_empty : NotEmpty
unfolding fit directory_block root_block
not_empty = record {
  represented = λ m limit top few within is. record {
    few = few;
    formed = empty_formed;
    fits = (record { blocks = refl; indirect = refl; slack = refl }, (record { blocks = refl; indirect = refl; slack = refl }, tt, frees_fit 6));
    within = (within, tt);
    once = λ a. omega (arith, at_most_one (eqb a top));
    stand = (is, tt);
  };
  plain = λ top. refl;
}
  where
    at_most_one : (b : Bool) → cond b 1 0 ≤ 1
    at_most_one true = omega arith
    at_most_one false = omega arith
