-- The server as a function of its state and a call, at the level of blocks.
use Rattle.std.specs.Prelude.{ℕ, zero, suc, ◌+◌, ◌%◌, ◌^◌, Bool, true, false, cond, ◌&&◌, List, [], ◌∷◌, ◌++◌, map, length, Some, None, Ok, Err, filter, Option, Result, ◌==◌, nat_eq, nat_le, nat_lt}
use Rattle.plain.specs.Paths.{path_of}
use Rattle.plain.specs.Trees.{Tree}
use Rattle.plain.specs.Operations.{Stat}
use Rattle.plain.specs.Refusals.{row, check}
use Rattle.plain.specs.Histories.{Change, mkfile, mkdir, write, remove, Query, read, stat, entry, Call, change, query, dump, carry, recover, account, Answer, accepted, refused}
use Rattle.plain.specs.Books.{changed, change_values, filled, stat_answer, unasked, buffer_of}
use Rattle.layout.specs.declared.super_block.Super.{Super}
use Rattle.layout.specs.Supers.{super_block, super_of, legal_super}
use Rattle.trees.specs.Stored.{Block, StoredTree, blocks_of, erase, count}
use Rattle.trees.specs.Represents.{BlockMap}
use Rattle.trees.specs.Decoded.{bytes_of, tree_at}
use Rattle.trees.specs.Lookups.{Failure, Judged, fails, and_then, judged, look_up, stat_of, entry_in, read_in}
use Rattle.trees.specs.Lookups as trees
use Rattle.trees.specs.Plans.{Plan, plan_of}
use Rattle.trees.specs.Renaming.{renamed}
use Rattle.machine.specs.Spots.{Spot, Spots, spot_at, Shelf, shelf_map, dated_map, live_map, is_blank, is_new, is_frozen, is_changed, is_cell, tally, first, touch, add, release, freeze, keep, carried, sign, forget, unkeep, turn, turns, writes, touches_send, picks}

pub record State : Type 0 where
  pub shelf : Shelf
  pub spots : Spots
  -- how many slots the cache has
  pub slots : ℕ
  -- the live tree: its root block, and its next qid
  pub root : ℕ
  pub next_qid : ℕ
  -- the supers on the shelf: how many, the last one's address (0 if there is none), and the address that is kept for the next
  pub supers : ℕ
  pub last : ℕ
  pub next : ℕ
  -- the date of the last dump that is not lost, 0 if there is none
  pub date : ℕ
  -- a super that is ready and not written
  pub waiting : Option Super
  -- since opening: blocks sent to the shelf, and changes accepted
  pub sent : ℕ
  pub changes : ℕ

abbrev pub waits : Option Super → ℕ
waits None = 0
waits (Some x) = 1

-- an answer, with the buffer that it leaves
pub record Reply : Type 0 where
  pub answer : Answer
  pub buffer : List ℕ

abbrev pub bare : Answer → Reply
bare a = record { answer = a; buffer = [] }

abbrev pub refuse : ℕ → Reply
refuse n = bare (refused (row n))

abbrev pub tell : List ℕ → Reply
tell values = bare (accepted values)

-- Queries. A tree that a query looks at: its blocks, its root block and its next qid.
pub record Sight : Type 0 where
  pub map : BlockMap
  pub root : ℕ
  pub next_qid : ℕ

-- what a query leaves of an answer that blocks gave; where they failed it is refused by 28
abbrev pub bytes_reply : List ℕ → Judged (Result (List ℕ) ℕ) → Reply
bytes_reply buf (Ok r) = record { answer = (filled r buf).0; buffer = (filled r buf).1 }
bytes_reply buf (Err f) = record { answer = refused (check f.address f.below); buffer = buf }

abbrev pub stat_reply : Judged (Result Stat ℕ) → Reply
stat_reply (Ok r) = bare (stat_answer r)
stat_reply (Err f) = bare (refused (check f.address f.below))

module _ (limit : ℕ) where
  abbrev pub looked : Sight → List (List ℕ) → Judged (List ℕ)
  looked v ns = look_up v.map limit v.next_qid v.root ns

  abbrev pub answered : Query → Sight → List (List ℕ) → Reply
  answered (read path off buf) v ns = bytes_reply buf (and_then (looked v ns) (read_in v.map limit v.next_qid off (length buf)))
  answered (stat path) v ns = stat_reply (and_then (looked v ns) (λ e. Ok (stat_of e)))
  answered (entry path k buf) v ns = bytes_reply buf (and_then (looked v ns) (entry_in v.map limit v.next_qid k))

  -- a super as it should be: after one at `previous` with the date `after`, the n-th of its chain
  abbrev pub legal_link : ℕ → ℕ → ℕ → List ℕ → Bool
  legal_link previous n after b =
      legal_super b && (super_of b).number == n && (super_of b).previous == previous && nat_lt after (super_of b).date
      && nat_le 2 (super_of b).root && nat_lt (super_of b).root limit && nat_le 2 (super_of b).next && nat_lt (super_of b).next limit

  abbrev pub visit_super : BlockMap → ℕ → ℕ → ℕ → ℕ → Judged (List ℕ)
  visit_super m previous n after a = and_then (trees.read (m a) a) (λ b. judged (legal_link previous n after b) a b)

  -- the super of a date: along so many supers from an address on, and then the waiting one
  abbrev pub of_date : ℕ → Option Super → Option Super
  of_date date None = None
  of_date date (Some x) = cond (date == x.date) (Some x) None

  abbrev pub find_super : BlockMap → ℕ → ℕ → Option Super → ℕ → ℕ → ℕ → ℕ → Judged (Option Super)
  find_super m date zero waiting previous n after a = Ok (of_date date waiting)
  find_super m date (suc left) waiting previous n after a =
      and_then (visit_super m previous n after a) (λ b.
      cond (nat_lt (super_of b).date date) (find_super m date left waiting a (suc n) (super_of b).date (super_of b).next) (Ok (of_date date (Some (super_of b)))))

module _ (s : State) where
  abbrev pub limit_of : ℕ
  limit_of = length s.spots

  abbrev pub live_sight : Sight
  live_sight = record { map = live_map s.shelf s.spots; root = s.root; next_qid = s.next_qid }

  abbrev pub dated_sight : Super → Sight
  dated_sight x = record { map = dated_map s.shelf s.spots; root = x.root; next_qid = x.next_qid }

  abbrev pub super_for : ℕ → Judged (Option Super)
  super_for date = find_super limit_of (shelf_map s.shelf s.spots) date s.supers s.waiting 0 0 0 1

  abbrev pub on_super : Query → List (List ℕ) → Judged (Option Super) → Reply
  on_super q ns (Ok (Some x)) = answered limit_of q (dated_sight x) ns
  on_super q ns (Ok None) = record { answer = refused (row 13); buffer = buffer_of q }
  on_super q ns (Err f) = record { answer = refused (check f.address f.below); buffer = buffer_of q }

  abbrev pub on_names : Query → ℕ → Option (List (List ℕ)) → Reply
  on_names q date None = record { answer = refused (row 11); buffer = buffer_of q }
  on_names q zero (Some ns) = answered limit_of q live_sight ns
  on_names q (suc date) (Some ns) = on_super q ns (super_for (suc date))

  -- Changes. The live tree with its addresses, the plan of a change, and the spots once its blocks are touched and released.
  abbrev pub live_tree : StoredTree
  live_tree = tree_at (live_map s.shelf s.spots) s.root s.next_qid

  abbrev pub plan : Change → Plan
  plan c = plan_of live_tree c

  abbrev pub ready : Change → Spots
  ready c = turns release (plan c).released (turns touch (plan c).touched s.spots)

  -- the addresses of the added blocks
  abbrev pub added : Change → List ℕ
  added c = picks (plan c).added (ready c)

  -- d + w + z > K, and F < w + 1, by the counts as they would stand afterwards
  abbrev pub cache_full : Change → Bool
  cache_full c = nat_lt s.slots (tally is_new (ready c) + (plan c).added + tally is_changed (ready c) + tally is_frozen (ready c))

  abbrev pub shelf_full : Change → Bool
  shelf_full c = nat_lt (tally is_cell (ready c)) (tally is_new (ready c) + (plan c).added + tally is_frozen (ready c) + 1 + waits s.waiting + (tally is_changed (ready c) + 1))

  abbrev pub changed_to : Change → Tree → State
  changed_to c u = record {
    shelf = s.shelf;
    spots = writes ((plan c).touched ++ added c) (blocks_of ((plan c).after (added c))) (turns add (added c) (ready c));
    slots = s.slots;
    root = s.root;
    next_qid = u.next_qid;
    supers = s.supers;
    last = s.last;
    next = s.next;
    date = s.date;
    waiting = s.waiting;
    sent = s.sent + touches_send (plan c).touched s.spots;
    changes = s.changes + 1;
  }

  abbrev pub on_change : Change → Result Tree ℕ → State × Reply
  on_change c (Err n) = (s, refuse n)
  on_change c (Ok u) = cond (cache_full c) (s, refuse 21) (cond (shelf_full c) (s, refuse 22) (changed_to c u, tell (change_values c)))

  -- a change in a session with a date
  abbrev pub late_change : Option (List (List ℕ)) → Reply
  late_change None = refuse 11
  late_change (Some ns) = refuse 12

  -- Dump: the changed blocks in post-order move to new addresses, and all dirty slots are frozen.
  abbrev pub moving : List ℕ
  moving = filter (λ a. nat_eq (is_changed (spot_at s.spots a)) 1) (map (λ b. b.address) (blocks_of live_tree))

  abbrev pub unmoved : Spots
  unmoved = turns release moving s.spots

  abbrev pub moved_to : List ℕ
  moved_to = picks (length moving) unmoved

  -- the i-th of the first list goes to the i-th of the second
  abbrev pub rename : List ℕ → List ℕ → ℕ → ℕ
  rename [] l a = a
  rename (b ∷ from) [] a = a
  rename (b ∷ from) (c ∷ to) a = cond (a == b) c (rename from to a)

  abbrev pub new_address : ℕ → ℕ
  new_address a = rename moving moved_to a

  abbrev pub moved_tree : StoredTree
  moved_tree = renamed new_address live_tree

  abbrev pub frozen : Spots
  frozen = map freeze (writes (map (λ b. b.address) (blocks_of moved_tree)) (blocks_of moved_tree) (turns add moved_to unmoved))

  abbrev pub super_to : ℕ → Super
  super_to date = record { number = s.supers; date = date; root = new_address s.root; previous = s.last; next = first is_blank frozen; next_qid = s.next_qid }

  abbrev pub dumped_to : ℕ → State
  dumped_to date = record {
    shelf = s.shelf;
    spots = turn keep (first is_blank frozen) frozen;
    slots = s.slots;
    root = new_address s.root;
    next_qid = s.next_qid;
    supers = s.supers;
    last = s.last;
    next = s.next;
    date = date;
    waiting = Some (super_to date);
    sent = s.sent;
    changes = s.changes;
  }

  abbrev pub on_dump : ℕ → Option Super → State × Reply
  on_dump date (Some x) = (s, refuse 23)
  on_dump date None =
      cond (nat_lt s.date date)
      (cond (nat_lt (tally is_cell s.spots) (tally is_new s.spots + tally is_frozen s.spots + 1 + (tally is_changed s.spots + 1))) (s, refuse 22)
      (dumped_to date, tell ((tally is_new s.spots + tally is_changed s.spots + 1) ∷ [])))
      (s, refuse 24)

  -- Carry: the frozen block of lowest address, or, with none left, the waiting super.
  abbrev pub carried_to : State
  carried_to = record {
    shelf = s.shelf;
    spots = turn carried (first is_frozen s.spots) s.spots;
    slots = s.slots;
    root = s.root;
    next_qid = s.next_qid;
    supers = s.supers;
    last = s.last;
    next = s.next;
    date = s.date;
    waiting = s.waiting;
    sent = s.sent + 1;
    changes = s.changes;
  }

  abbrev pub signed_to : Super → State
  signed_to x = record {
    shelf = s.shelf;
    spots = turn (sign (super_block x)) s.next s.spots;
    slots = s.slots;
    root = s.root;
    next_qid = s.next_qid;
    supers = s.supers + 1;
    last = s.next;
    next = x.next;
    date = s.date;
    waiting = None;
    sent = s.sent + 1;
    changes = s.changes;
  }

  abbrev pub on_carry : Option Super → ℕ → State × Reply
  on_carry None z = (s, refuse 25)
  on_carry (Some x) zero = (signed_to x, tell (0 ∷ []))
  on_carry (Some x) (suc z) = (carried_to, tell (suc z ∷ []))

  -- Recover: the latest super on the shelf.
  abbrev pub latest : Super
  latest = super_of (bytes_of (shelf_map s.shelf s.spots s.last))

  abbrev pub unkept : Option Super → Spots → Spots
  unkept None xs = xs
  unkept (Some x) xs = turn unkeep x.next xs

  abbrev pub recovered_to : State
  recovered_to = record {
    shelf = s.shelf;
    spots = unkept s.waiting (map forget s.spots);
    slots = s.slots;
    root = latest.root;
    next_qid = latest.next_qid;
    supers = s.supers;
    last = s.last;
    next = s.next;
    date = latest.date;
    waiting = None;
    sent = s.sent;
    changes = s.changes;
  }

  abbrev pub on_recover : ℕ → State × Reply
  on_recover zero = (s, refuse 26)
  on_recover (suc n) = (recovered_to, tell (latest.date ∷ []))

  -- Account: d, w, z, B, the blocks sent, and the changes accepted modulo 2^64.
  abbrev pub figures : List ℕ
  figures =
      tally is_new s.spots ∷ tally is_changed s.spots ∷ tally is_frozen s.spots ∷ tally is_cell s.spots
      ∷ s.sent ∷ s.changes % 2 ^ 64 ∷ []

abbrev pub path_of_change : Change → List ℕ
path_of_change (mkfile path) = path
path_of_change (mkdir path) = path
path_of_change (write path off input) = path
path_of_change (remove path) = path

abbrev pub path_of_query : Query → List ℕ
path_of_query (read path off buf) = path
path_of_query (stat path) = path
path_of_query (entry path k buf) = path

-- one call
abbrev pub step : State → Call → State × Reply
step s (change zero c) = on_change s c (changed c (erase (live_tree s)))
step s (change (suc date) c) = (s, late_change s (path_of (path_of_change c)))
step s (query date q) = (s, on_names s q date (path_of (path_of_query q)))
step s (dump date) = on_dump s date s.waiting
step s carry = on_carry s s.waiting (tally is_frozen s.spots)
step s recover = on_recover s s.supers
step s account = (s, tell (figures s))
