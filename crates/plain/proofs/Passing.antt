-- What it says of the parts that a test passes on every element.
use Rattle.std.proofs.Common.{◌≡◌, ℕ, ◌≤◌, Bool, true, leb, List, [], ◌∷◌, ◌++◌, length, sym, ◌∙◌}
use Rattle.std.specs.List.{list_all}
use Rattle.std.proofs.lemmas.List.Folds.{list_all-append}
use Rattle.std.proofs.lemmas.Bool.{and_parts, leb-true}
use Rattle.plain.specs.Names.{is_name, name_byte}

pub last_passes : {X : Type 0} (f : X → Bool) (xs : List X) (y : X) → list_all f (xs ++ y ∷ []) ≡ true → f y ≡ true
last_passes f xs y e = (and_parts (f y) true (and_parts (list_all f xs) _ (sym (list_all-append f xs (y ∷ [])) ∙ e)).1).0

pub name_short : (n : List ℕ) → is_name n ≡ true → length n ≤ 27
name_short n e = leb-true _ _ (and_parts (leb 1 (length n)) (leb (length n) 27) (and_parts _ (list_all name_byte n) e).0).1
