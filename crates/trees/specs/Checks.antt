-- The check of a whole tree in blocks that may be damaged: depth first, place by place, and it fails at the first block that is not as
-- it should be. A place's entry is judged, then its blocks are visited, before the next place.
use Rattle.std.specs.Prelude.{ℕ, zero, suc, ◌-◌, Bool, true, false, cond, not, ◌&&◌, ◌||◌, List, [], ◌∷◌, Ok, ◌==◌, nat_lt}
use Rattle.std.specs.Str.{bytes_eq}
use Rattle.layout.specs.declared.block.Tag.TheVariants as tag
use Rattle.layout.specs.declared.entry.Mode.TheVariants as mode
use Rattle.layout.specs.Blocks.{tag_number}
use Rattle.layout.specs.Entries.{mode_number, name_of, mode_of, qid_of, size_of, indirect_of, entry_at, blocks_for, legal_entry}
use Rattle.trees.specs.Represents.{BlockMap}
use Rattle.trees.specs.Decoded.{entries_of, directs_of, addresses_of}
use Rattle.trees.specs.Lookups.{Judged, fails, and_then, visit, visit_indirect, visit_root}

abbrev pub is_in : ℕ → List ℕ → Bool
is_in a [] = false
is_in a (b ∷ l) = a == b || is_in a l

abbrev pub has_name : List ℕ → List (List ℕ) → Bool
has_name n [] = false
has_name n (x ∷ ns) = bytes_eq n x || has_name n ns

-- The addresses that the check has met, and the names that it has met in the directory.
pub record Met : Type 0 where
  pub addresses : List ℕ
  pub names : List (List ℕ)

-- In the name of the block at `holder`, which names address a: it is met for the first time.
abbrev pub meet : ℕ → ℕ → List ℕ → Judged (List ℕ)
meet holder a met = cond (is_in a met) (fails holder) (Ok (a ∷ met))

module _ (m : BlockMap) (limit next : ℕ) where
  -- the blocks of a file that one block names
  abbrev pub check_data : ℕ → ℕ → List ℕ → List ℕ → Judged (List ℕ)
  check_data owner holder [] met = Ok met
  check_data owner holder (a ∷ l) met =
      and_then (meet holder a met) (λ met'. and_then (visit m (tag_number tag.File) owner a) (λ b. check_data owner holder l met'))

  -- a file whose entry is in the block at `holder`: its indirect block, if it has one, and its own blocks in their order
  abbrev pub check_file : ℕ → List ℕ → List ℕ → Judged (List ℕ)
  check_file holder e met =
      cond (nat_lt 6 (blocks_for (size_of e)))
      (and_then (meet holder (indirect_of e) met) (λ met₁.
      and_then (visit_indirect m limit next (qid_of e) (blocks_for (size_of e)) (indirect_of e)) (λ b.
      and_then (check_data (qid_of e) holder (directs_of e) met₁) (λ met₂.
      check_data (qid_of e) (indirect_of e) (addresses_of (blocks_for (size_of e) - 6) b) met₂))))
      (check_data (qid_of e) holder (directs_of e) met)

  -- what an entry says, where `sub` checks a directory
  abbrev pub check_node : (ℕ → List ℕ → List ℕ → Judged (List ℕ)) → ℕ → List ℕ → List ℕ → Judged (List ℕ)
  check_node sub holder e met = cond (mode_of e == mode_number mode.File) (check_file holder e met) (sub holder e met)

  abbrev pub check_place : (ℕ → List ℕ → List ℕ → Judged (List ℕ)) → ℕ → List ℕ → Met → Judged Met
  check_place sub holder e met =
      and_then (check_node sub holder e met.addresses) (λ l. Ok (record { addresses = l; names = name_of e ∷ met.names }))

  -- the places in the block at `holder`; `deeper` says whether they may have names
  abbrev pub check_places : Bool → (ℕ → List ℕ → List ℕ → Judged (List ℕ)) → ℕ → List (List ℕ) → Met → Judged Met
  check_places deeper sub holder [] met = Ok met
  check_places deeper sub holder (e ∷ es) met =
      cond (legal_entry limit next e)
      (cond (mode_of e == 0) (check_places deeper sub holder es met)
      (cond (deeper && not (has_name (name_of e) met.names))
      (and_then (check_place sub holder e met) (check_places deeper sub holder es))
      (fails holder)))
      (fails holder)

  -- the blocks of a directory whose entry is in the block at `holder`
  abbrev pub check_blocks : Bool → (ℕ → List ℕ → List ℕ → Judged (List ℕ)) → ℕ → ℕ → List ℕ → Met → Judged (List ℕ)
  check_blocks deeper sub owner holder [] met = Ok met.addresses
  check_blocks deeper sub owner holder (a ∷ l) met =
      and_then (meet holder a met.addresses) (λ met₁.
      and_then (visit m (tag_number tag.Directory) owner a) (λ b.
      and_then (check_places deeper sub a (entries_of b) (record { addresses = met₁; names = met.names })) (check_blocks deeper sub owner holder l)))

  -- a directory in which names may follow one another so often
  abbrev pub check_directory : ℕ → ℕ → List ℕ → List ℕ → Judged (List ℕ)
  check_directory zero holder e met = check_blocks false (λ h e met. Ok met) (qid_of e) holder (directs_of e) (record { addresses = met; names = [] })
  check_directory (suc levels) holder e met = check_blocks true (check_directory levels) (qid_of e) holder (directs_of e) (record { addresses = met; names = [] })

  -- the tree from its root block on; the answer is the addresses of its blocks, the last that was met first
  abbrev pub check_tree : ℕ → Judged (List ℕ)
  check_tree top = and_then (visit_root m limit next top) (λ b. check_directory 8 top (entry_at 0 b) (top ∷ []))
