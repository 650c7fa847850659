-- The reference model: the live tree, and the dumps with the trees that they keep. It is fed each call with its answer.
use Rattle.std.specs.Prelude.{ℕ, zero, suc, Bool, true, false, cond, List, [], ◌∷◌, ◌++◌, length, drop, Some, None, Ok, Err, Option, Result, ◌==◌}
use Rattle.plain.specs.Paths.{path_of}
use Rattle.plain.specs.Trees.{Tree, empty_tree}
use Rattle.plain.specs.Operations as tree
use Rattle.plain.specs.Refusals.{row}
use Rattle.plain.specs.Histories.{Change, mkfile, mkdir, write, remove, Query, read, stat, entry, Call, change, query, dump, carry, recover, account, Answer, accepted, refused, History}

-- an accepted dump; it is written once its super is
pub record Dump : Type 0 where
  pub date : ℕ
  pub tree : Tree
  pub is_written : Bool

pub record Book : Type 0 where
  pub live : Tree
  pub dumps : List Dump

abbrev pub empty_book : Book
empty_book = record { live = empty_tree; dumps = [] }

-- the tree after a change, or the row that refuses it
abbrev pub changed : Change → Tree → Result Tree ℕ
changed (mkfile path) t = tree.make false path t
changed (mkdir path) t = tree.make true path t
changed (write path off input) t = tree.write path off input t
changed (remove path) t = tree.remove path t

-- the values that an accepted change answers: of a write the count of its bytes, of the others none
abbrev pub change_values : Change → List ℕ
change_values (mkfile path) = []
change_values (mkdir path) = []
change_values (write path off input) = length input ∷ []
change_values (remove path) = []

-- what a change answers by the tree's own rules, with the tree that it leaves
abbrev pub applied : Change → Tree → Answer × Tree
applied c t = elim (changed c t) [ Ok t' ↦ (accepted (change_values c), t') | Err n ↦ (refused (row n), t) ]

-- the dumps with those that wait now written, and without them
abbrev pub all_written : List Dump → List Dump
all_written [] = []
all_written (d ∷ ds) = record { date = d.date; tree = d.tree; is_written = true } ∷ all_written ds

abbrev pub only_written : List Dump → List Dump
only_written [] = []
only_written (d ∷ ds) = cond d.is_written (d ∷ only_written ds) (only_written ds)

-- the tree of the last dump, t if there is none
abbrev pub last_tree : Tree → List Dump → Tree
last_tree t [] = t
last_tree t (d ∷ ds) = last_tree d.tree ds

-- what an accepted call with its values does to the book
abbrev pub feed : Call → List ℕ → Book → Book
feed (change date c) values b = record { live = (applied c b.live).1; dumps = b.dumps }
feed (query date q) values b = b
feed (dump date) values b = record { live = b.live; dumps = b.dumps ++ (record { date = date; tree = b.live; is_written = false } ∷ []) }
feed carry [] b = b
feed carry (zero ∷ values) b = record { live = b.live; dumps = all_written b.dumps }
feed carry (suc n ∷ values) b = b
feed recover values b = record { live = last_tree b.live (only_written b.dumps); dumps = only_written b.dumps }
feed account values b = b

abbrev pub feed_answer : Call → Answer → Book → Book
feed_answer c (accepted values) b = feed c values b
feed_answer c (refused r) b = b

-- the book after a history that began with a book
abbrev pub book_from : Book → History → Book
book_from start [] = start
book_from start (e ∷ h) = feed_answer e.call e.answer (book_from start h)

-- the tree that is listed for a date above 0, and the live one at 0
abbrev pub tree_of : ℕ → List Dump → Option Tree
tree_of date [] = None
tree_of date (d ∷ ds) = cond (date == d.date) (Some d.tree) (tree_of date ds)

abbrev pub listed : ℕ → Book → Option Tree
listed zero b = Some b.live
listed (suc date) b = tree_of (suc date) b.dumps

-- an answer of the tree, with the buffer that it leaves: the first bytes of it are those answered, and the others stay
abbrev pub filled : Result (List ℕ) ℕ → List ℕ → Answer × List ℕ
filled (Ok bytes) buf = (accepted (length bytes ∷ []), bytes ++ drop (length bytes) buf)
filled (Err n) buf = (refused (row n), buf)

abbrev pub stat_answer : Result tree.Stat ℕ → Answer
stat_answer (Ok s) = accepted (s.mode ∷ s.qid ∷ s.version ∷ s.size ∷ [])
stat_answer (Err n) = refused (row n)

-- what a query answers on a tree; row 11 comes before row 13, for a date with no tree
abbrev pub asked : Query → Tree → Answer × List ℕ
asked (read path off buf) t = filled (tree.read path off (length buf) t) buf
asked (stat path) t = (stat_answer (tree.stat path t), [])
asked (entry path k buf) t = filled (tree.entry path k t) buf

abbrev pub unasked : Option (List (List ℕ)) → List ℕ → Answer × List ℕ
unasked None buf = (refused (row 11), buf)
unasked (Some ns) buf = (refused (row 13), buf)

abbrev pub path_of_query : Query → List ℕ
path_of_query (read path off buf) = path
path_of_query (stat path) = path
path_of_query (entry path k buf) = path

abbrev pub buffer_of : Query → List ℕ
buffer_of (read path off buf) = buf
buffer_of (stat path) = []
buffer_of (entry path k buf) = buf

abbrev pub ask : Query → Option Tree → Answer × List ℕ
ask q (Some t) = asked q t
ask q None = unasked (path_of (path_of_query q)) (buffer_of q)
