-- Paths: "/" alone, or 1 to 8 names, each after a "/", which is byte 47.
use Rattle.std.specs.Prelude.{ℕ, Bool, cond, ◌&&◌, List, [], ◌∷◌, ◌++◌, length, Some, None, Option, ◌==◌, nat_eq, nat_le}
use Rattle.std.specs.List.{list_all, slice_split}
use Rattle.plain.specs.Names.{is_name}

-- the pieces between the slashes of a text
abbrev pub pieces : List ℕ → List (List ℕ)
pieces bs = slice_split (λ b. b == 47) bs

-- the names in a text in which each follows a "/"
abbrev pub names_in : List ℕ → Option (List (List ℕ))
names_in [] = Some []
names_in (b ∷ bs) = cond (b == 47 && list_all is_name (pieces bs)) (Some (pieces bs)) None

abbrev pub at_most_eight : Option (List (List ℕ)) → Option (List (List ℕ))
at_most_eight None = None
at_most_eight (Some ns) = cond (nat_le 1 (length ns) && nat_le (length ns) 8) (Some ns) None

abbrev pub is_root : List ℕ → Bool
is_root text = length text == 1 && list_all (λ b. nat_eq b 47) text

-- the names of the path that a text is, if it is one
abbrev pub path_of : List ℕ → Option (List (List ℕ))
path_of text = cond (is_root text) (Some []) (at_most_eight (names_in text))

-- the text of a path
abbrev pub names_text : List (List ℕ) → List ℕ
names_text [] = []
names_text (n ∷ ns) = (47 ∷ n) ++ names_text ns

abbrev pub path_text : List (List ℕ) → List ℕ
path_text [] = 47 ∷ []
path_text (n ∷ ns) = names_text (n ∷ ns)

-- all names but the last, and the last, of n and the names after it
abbrev pub front : List ℕ → List (List ℕ) → List (List ℕ)
front n [] = []
front n (m ∷ ns) = n ∷ front m ns

abbrev pub final : List ℕ → List (List ℕ) → List ℕ
final n [] = n
final n (m ∷ ns) = final m ns
