-- The shelf and the dirty slots over it, address by address.
use Rattle.std.specs.Prelude.{ℕ, zero, suc, ◌+◌, Bool, true, false, cond, List, [], ◌∷◌, map, length, replicate, Some, None, Ok, Err, Option, Result, ◌==◌, nat_lt, slice_index_or, slice_set}
use Rattle.device.specs.declared.fault.Place.{Place}
use Rattle.device.specs.Refusals.{Refusal}
use Rattle.device.specs.Meaning as device
use Rattle.trees.specs.Stored.{Block, encoded, count}
use Rattle.trees.specs.Represents.{BlockMap}

-- A spot is an address of the shelf: what the shelf's cell is, and the slot of that address unless it is clean. Only these pairs occur.
pub data Spot : Type 0 where
  -- spoiled; also address 0, which is unused, and any address past the end
  spoiled : Spot
  -- blank with no slot; a kept one is for a super
  blank : Spot
  kept : Spot
  -- blank, with a new slot, and with a frozen one
  new_slot : List ℕ → Spot
  frozen_slot : List ℕ → Spot
  -- held with no dirty slot; held, with a changed slot that has the second
  held : List ℕ → Spot
  changed_slot : List ℕ → List ℕ → Spot

abbrev pub Spots : Type 0
Spots = List Spot

abbrev pub spot_at : Spots → ℕ → Spot
spot_at xs a = slice_index_or xs a spoiled

-- by cases, in the order above
abbrev pub case : {Y : Type 0} → Y → Y → Y → (List ℕ → Y) → (List ℕ → Y) → (List ℕ → Y) → (List ℕ → List ℕ → Y) → Spot → Y
case o b k n f h c spoiled = o
case o b k n f h c blank = b
case o b k n f h c kept = k
case o b k n f h c (new_slot x) = n x
case o b k n f h c (frozen_slot x) = f x
case o b k n f h c (held x) = h x
case o b k n f h c (changed_slot s x) = c s x

-- what the shelf alone has, what a dated call sees (its slot's contents only if frozen), and what a live call sees
abbrev pub shelf_has : Spot → Option (List ℕ)
shelf_has x = case None None None (λ b. None) (λ b. None) (λ b. Some b) (λ s b. Some s) x

abbrev pub dated_has : Spot → Option (List ℕ)
dated_has x = case None None None (λ b. None) (λ b. Some b) (λ b. Some b) (λ s b. Some s) x

abbrev pub live_has : Spot → Option (List ℕ)
live_has x = case None None None (λ b. Some b) (λ b. Some b) (λ b. Some b) (λ s b. Some b) x

-- which spots are blank and free, kept, new, frozen and changed; which cells are blank
abbrev pub is_blank : Spot → ℕ
is_blank x = case 0 1 0 (λ b. 0) (λ b. 0) (λ b. 0) (λ s b. 0) x

abbrev pub is_kept : Spot → ℕ
is_kept x = case 0 0 1 (λ b. 0) (λ b. 0) (λ b. 0) (λ s b. 0) x

abbrev pub is_new : Spot → ℕ
is_new x = case 0 0 0 (λ b. 1) (λ b. 0) (λ b. 0) (λ s b. 0) x

abbrev pub is_frozen : Spot → ℕ
is_frozen x = case 0 0 0 (λ b. 0) (λ b. 1) (λ b. 0) (λ s b. 0) x

abbrev pub is_changed : Spot → ℕ
is_changed x = case 0 0 0 (λ b. 0) (λ b. 0) (λ b. 0) (λ s b. 1) x

abbrev pub is_cell : Spot → ℕ
is_cell x = case 0 1 1 (λ b. 1) (λ b. 1) (λ b. 0) (λ s b. 0) x

-- how many there are, and the first address of one, the end if there is none
abbrev pub tally : (Spot → ℕ) → Spots → ℕ
tally f [] = 0
tally f (x ∷ xs) = f x + tally f xs

abbrev pub first : (Spot → ℕ) → Spots → ℕ
first f [] = 0
first f (x ∷ xs) = cond (f x == 0) (suc (first f xs)) 0

-- The shelf's own label and places, which say what it refuses a read by.
pub record Shelf : Type 0 where
  pub label : ℕ
  pub place : ℕ → Place

abbrev pub refusal_at : Shelf → Spots → ℕ → Refusal
refusal_at d xs a =
    cond (nat_lt a (length xs)) (record { number = cond (is_cell (spot_at xs a) == 0) 5 3; label = (d.place a).label; block = (d.place a).block })
    (record { number = 2; label = d.label; block = a })

abbrev pub seen_by : (Spot → Option (List ℕ)) → Shelf → Spots → BlockMap
seen_by view d xs a = elim (view (spot_at xs a)) [ Some b ↦ Ok b | None ↦ Err (refusal_at d xs a) ]

-- the shelf alone, the blocks of dated calls, and those of live calls
abbrev pub shelf_map : Shelf → Spots → BlockMap
shelf_map d xs = seen_by shelf_has d xs

abbrev pub dated_map : Shelf → Spots → BlockMap
dated_map d xs = seen_by dated_has d xs

abbrev pub live_map : Shelf → Spots → BlockMap
live_map d xs = seen_by live_has d xs

-- What happens to a spot. A frozen slot that is touched is first written to the shelf.
abbrev pub touch : Spot → Spot
touch x = case spoiled blank kept new_slot (λ b. changed_slot b b) (λ b. changed_slot b b) changed_slot x

abbrev pub add : Spot → Spot
add x = case spoiled (new_slot (replicate 512 0)) kept new_slot frozen_slot held changed_slot x

-- a new or changed slot gets these bytes
abbrev pub edit : List ℕ → Spot → Spot
edit bytes x = case spoiled blank kept (λ b. new_slot bytes) frozen_slot held (λ s b. changed_slot s bytes) x

-- a new slot gives back slot and address, a changed one its slot
abbrev pub release : Spot → Spot
release x = case spoiled blank kept (λ b. blank) frozen_slot held (λ s b. held s) x

abbrev pub freeze : Spot → Spot
freeze x = case spoiled blank kept frozen_slot frozen_slot held changed_slot x

abbrev pub keep : Spot → Spot
keep x = case spoiled kept kept new_slot frozen_slot held changed_slot x

-- a frozen slot is written to the shelf; a super is written at the address kept for it
abbrev pub carried : Spot → Spot
carried x = case spoiled blank kept new_slot held held changed_slot x

abbrev pub sign : List ℕ → Spot → Spot
sign bytes x = case spoiled blank (held bytes) new_slot frozen_slot held changed_slot x

-- a recovery drops every dirty slot, and the address kept after a waiting super
abbrev pub forget : Spot → Spot
forget x = case spoiled blank kept (λ b. blank) (λ b. blank) held (λ s b. held s) x

abbrev pub unkeep : Spot → Spot
unkeep x = case spoiled blank blank new_slot frozen_slot held changed_slot x

-- at one address, and at several, one after the other
abbrev pub turn : (Spot → Spot) → ℕ → Spots → Spots
turn f a xs = slice_set xs a (f (spot_at xs a))

abbrev pub turns : (Spot → Spot) → List ℕ → Spots → Spots
turns f [] xs = xs
turns f (a ∷ l) xs = turns f l (turn f a xs)

-- the blocks of a tree written to the dirty slots at these addresses
abbrev pub writes : List ℕ → List Block → Spots → Spots
writes l [] xs = xs
writes l (b ∷ bs) xs = writes l bs (cond (nat_lt 0 (count b.address l)) (turn (edit (encoded b.content)) b.address xs) xs)

-- how many blocks are sent to the shelf when these are touched
abbrev pub touches_send : List ℕ → Spots → ℕ
touches_send [] xs = 0
touches_send (a ∷ l) xs = is_frozen (spot_at xs a) + touches_send l (turn touch a xs)

-- so many new addresses, each the lowest that is blank and free
abbrev pub picks : ℕ → Spots → List ℕ
picks zero xs = []
picks (suc n) xs = first is_blank xs ∷ picks n (turn add (first is_blank xs) xs)
