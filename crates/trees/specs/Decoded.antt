-- The tree that blocks say, read by their layouts from the root block on, whatever they hold.
use Rattle.std.specs.Prelude.{ℕ, zero, suc, ◌-◌, min, cond, List, [], ◌∷◌, ◌++◌, map, take, drop, Ok, Err, Result, ◌==◌}
use Rattle.std.specs.List.{range_with_len, flat_map}
use Rattle.device.specs.Refusals.{Refusal}
use Rattle.plain.specs.Trees.{Dir, free, file, Places, end, Place, flat, deep, put}
use Rattle.layout.specs.declared.entry.Mode.TheVariants as mode
use Rattle.layout.specs.Blocks.{body_of, address_of}
use Rattle.layout.specs.Entries.{mode_number, name_of, mode_of, qid_of, version_of, size_of, direct_of, indirect_of, entry_at, blocks_for}
use Rattle.trees.specs.Stored.{Stored, StoredTree}
use Rattle.trees.specs.Represents.{BlockMap, indirect_for}

-- the bytes of a block, none if it could not be read
abbrev pub bytes_of : Result (List ℕ) Refusal → List ℕ
bytes_of (Ok b) = b
bytes_of (Err f) = []

-- the seven entries of a directory block, of 72 bytes each
abbrev pub entries_of : List ℕ → List (List ℕ)
entries_of b = map (λ k. entry_at k b) (range_with_len 0 7)

-- the addresses that an entry names, as many as its size needs, and those that an indirect block names
abbrev pub directs_of : List ℕ → List ℕ
directs_of e = map (λ i. direct_of i e) (range_with_len 0 (min 6 (blocks_for (size_of e))))

abbrev pub addresses_of : ℕ → List ℕ → List ℕ
addresses_of n b = map (λ j. address_of j b) (range_with_len 0 n)

module _ (m : BlockMap) where
  -- the bodies of blocks, one after the other
  abbrev pub bodies_at : List ℕ → List ℕ
  bodies_at l = flat_map (λ a. body_of (bytes_of (m a))) l

  abbrev pub file_addresses : List ℕ → List ℕ
  file_addresses e = directs_of e ++ addresses_of (blocks_for (size_of e) - 6) (bytes_of (m (indirect_of e)))

  abbrev pub file_stored : List ℕ → Stored
  file_stored e = record {
    blocks = file_addresses e;
    indirect = take (indirect_for (blocks_for (size_of e))) (indirect_of e ∷ []);
    slack = drop (size_of e) (bodies_at (file_addresses e));
  }

  abbrev pub dir_stored : List ℕ → Stored
  dir_stored e = record { blocks = directs_of e; indirect = []; slack = [] }

  abbrev pub dir_of : List ℕ → Dir
  dir_of e = record { qid = qid_of e; version = version_of e }

  -- what an entry says, where `sub` gives the places in a directory's blocks
  abbrev pub place_from : (List ℕ → Places Stored) → List ℕ → Place Stored
  place_from sub e =
      cond (mode_of e == 0) (flat free)
      (cond (mode_of e == mode_number mode.File)
      (flat (file (name_of e) (record { qid = qid_of e; version = version_of e; bytes = take (size_of e) (bodies_at (file_addresses e)) }) (file_stored e)))
      (deep (name_of e) (dir_of e) (dir_stored e) (sub (directs_of e))))

  abbrev pub places_from : (List ℕ → Places Stored) → List (List ℕ) → Places Stored
  places_from sub [] = end
  places_from sub (e ∷ es) = put (place_from sub e) (places_from sub es)

  -- the places in the blocks of a directory, at most so many levels down
  abbrev pub places_at : ℕ → List ℕ → Places Stored
  places_at zero l = end
  places_at (suc levels) l = places_from (places_at levels) (flat_map (λ a. entries_of (bytes_of (m a))) l)

  -- Names are at most eight levels deep, and below the eighth a directory may have empty places.
  abbrev pub tree_from : ℕ → ℕ → List ℕ → StoredTree
  tree_from top next e = record { top = top; root = dir_of e; stored = dir_stored e; places = places_at 9 (directs_of e); next_qid = next }

  abbrev pub tree_at : ℕ → ℕ → StoredTree
  tree_at top next = tree_from top next (entry_at 0 (bytes_of (m top)))
