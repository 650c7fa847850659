-- Computed examples of paths, of the plain tree and of the reference model; docs/MODEL.md works them out by hand.
use Rattle.std.specs.Prelude.{◌≡◌, ℕ, zero, suc, ◌+◌, ◌/◌, ◌%◌, List, [], ◌∷◌, replicate, Some, None, codes}
use Rattle.plain.specs.Paths.{path_of}
use Rattle.plain.specs.Trees.{file, end, leaf, Tree, Plain, empty_tree}
use Rattle.plain.specs.Refusals.{row}
use Rattle.plain.specs.Histories.{mkfile, mkdir, write, read, Call, change, dump, carry, recover, Answer, accepted, refused, Event, History}
use Rattle.plain.specs.Books.{empty_book, applied, book_from, listed, ask}

-- a tree whose root has these places
abbrev rooted : Plain → Tree
rooted c = record { root = empty_tree.root; places = c; next_qid = 50 }

-- the file "/f" of n sevens
abbrev sevens : ℕ → Tree
sevens n = rooted (leaf (file (codes "f") (record { qid = 2; version = 0; bytes = replicate n 7 }) tt) end)

-- n files with names of two letters, from number i on
abbrev files : ℕ → ℕ → Plain
files zero i = end
files (suc n) i = leaf (file ((97 + i / 26) ∷ (97 + i % 26) ∷ []) (record { qid = 2; version = 0; bytes = [] }) tt) (files n (i + 1))

abbrev did : Call → List ℕ → Event
did c values = record { call = c; answer = accepted values; buffer = [] }

abbrev writes : List ℕ → Event
writes input = did (change 0 (write (codes "/n") 0 input)) (1 ∷ [])

-- the four carries of a dump of three blocks and its super, after what came before them
abbrev carried : History → History
carried h = did carry (0 ∷ []) ∷ did carry (1 ∷ []) ∷ did carry (2 ∷ []) ∷ did carry (3 ∷ []) ∷ h

-- "/n" is written A, dumped as 5 and carried; written B, dumped as 7 and carried; written C and dumped as 9, and then comes a recovery
abbrev story : History
story =
    did recover (7 ∷ []) ∷ did (dump 9) (4 ∷ []) ∷ writes (codes "C")
    ∷ carried (did (dump 7) (4 ∷ []) ∷ writes (codes "B")
    ∷ carried (did (dump 5) (4 ∷ []) ∷ writes (codes "A")
    ∷ did (change 0 (mkfile (codes "/n"))) [] ∷ []))

-- two bytes of "/n" on a date, into a buffer of zeros
abbrev on : ℕ → Answer × List ℕ
on date = ask (read (codes "/n") 0 (0 ∷ 0 ∷ [])) (listed date (book_from empty_book story))

pub record Vectors : Type 0 where
  pub root_path : path_of (codes "/") ≡ Some []
  pub two_names : path_of (codes "/a/bc") ≡ Some (codes "a" ∷ codes "bc" ∷ [])
  pub no_slash : path_of (codes "a") ≡ None
  pub no_name : path_of (codes "/a//b") ≡ None
  pub nine_names : path_of (codes "/a/b/c/d/e/f/g/h/i") ≡ None
  -- a file of 66,527 bytes takes one more, and then no more
  pub last_byte : (applied (write (codes "/f") 66527 (7 ∷ [])) (sevens 66527)).0 ≡ accepted (1 ∷ [])
  pub full_file : applied (write (codes "/f") 66528 (7 ∷ [])) (sevens 66528) ≡ (refused (row 17), sevens 66528)
  -- the 42nd name is accepted, the 43rd is not
  pub last_name : (applied (mkfile (codes "/x")) (rooted (files 41 0))).0 ≡ accepted []
  pub full_dir : applied (mkdir (codes "/x")) (rooted (files 42 0)) ≡ (refused (row 18), rooted (files 42 0))
  -- the dated answers of the story, and the live one
  pub on_5 : on 5 ≡ (accepted (1 ∷ []), 65 ∷ 0 ∷ [])
  pub on_7 : on 7 ≡ (accepted (1 ∷ []), 66 ∷ 0 ∷ [])
  pub on_9 : on 9 ≡ (refused (row 13), 0 ∷ 0 ∷ [])
  pub live : on 0 ≡ (accepted (1 ∷ []), 66 ∷ 0 ∷ [])
