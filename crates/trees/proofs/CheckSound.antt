-- A check of a tree that passes has met the blocks of the tree that they decode to.
use Rattle.std.proofs.Common.{◌≡◌, ℕ, zero, suc, ◌^◌, ◌<◌, ◌≤◌, true, eqb, List, [], ◌∷◌, map, length, drop, Ok, sym, refl, ap, ◌∙◌, subst, arith}
use Rattle.std.specs.List.{list_all, AllByRecursion}
use Rattle.std.proofs.ByRecursion.{All-drop, All-weaker}
use Rattle.std.proofs.lemmas.Bool.{and_parts, eqb-true}
use Rattle.plain.specs.Trees.{Dir, Places, dir, frees, slash}
use Rattle.layout.specs.declared.block.Tag.TheVariants as tag
use Rattle.layout.specs.Numbers.{all_zero}
use Rattle.layout.specs.Blocks.{tag_number}
use Rattle.layout.specs.Entries.{entry_bytes, qid_of, entry_at}
use Rattle.trees.specs.Stored.{Stored, StoredTree, Block, encoded, directory_content, entries, own_blocks, row_blocks, blocks_of, count, uses, erase}
use Rattle.trees.specs.Represents.{BlockMap, Stands, InRange, Fits, WellFormed, Represents}
use Rattle.trees.specs.Decoded.{bytes_of, entries_of, directs_of, dir_of, dir_stored, places_at, tree_at}
use Rattle.trees.specs.Lookups.{legal_root_entry, legal_root, visit_root}
use Rattle.trees.specs.Checks.{check_directory, check_tree}
use Rattle.trees.specs.Theorems.{HoldsBytes}
use Rattle.trees.proofs.Lists.{all_interleaved}
use Rattle.trees.proofs.Nodes.{uses_deep}
use Rattle.trees.proofs.Reencodes.{Bytes72, directory_back, entries_bytes}
use Rattle.trees.proofs.LegalEntries.{zeros_back, Root, root_entry, directs_within, version_small}
use Rattle.trees.proofs.Visits.{then_ok, grown_one, Visited, visit_judged, Kept}
use Rattle.trees.proofs.Passes.{DirectoryPassed, directory_entry, directory_checked}

-- empty places
empties_back : (es : List (List ℕ)) → AllByRecursion Bytes72 es → list_all all_zero es ≡ true → map entry_bytes (entries (frees (length es))) ≡ es
empties_back [] all none = refl
empties_back (e ∷ es) all none =
    let both = and_parts (all_zero e) (list_all all_zero es) none in
    let here = zeros_back e all.0.0 both.0 in
    let rest = empties_back es all.1 both.1 in
    cc

empties_fit : (n : ℕ) → Fits (frees n)
empties_fit zero = tt
empties_fit (suc n) = (tt, empties_fit n)

empties_kept : (P : Block → Type 0) (n : ℕ) → AllByRecursion (AllByRecursion P) (row_blocks (frees n))
empties_kept P zero = tt
empties_kept P (suc n) = (tt, empties_kept P n)

-- the head, the note and the places of the root block
abbrev head : Dir
head = record { qid = 0; version = 0 }

abbrev note : ℕ → Stored
note top = record { blocks = top ∷ []; indirect = []; slack = [] }

abbrev root_places : BlockMap → List ℕ → Places Stored → Places Stored
root_places m e c = dir slash (dir_of m e) (dir_stored m e) c (frees 6)

-- a root block whose first entry is e, and the directory "/" with the places c
module _ (m : BlockMap) (limit next top : ℕ) (e met : List ℕ) (c : Places Stored) (root : Root limit next e)
    (within : InRange limit top) (stands : m top ≡ Ok (encoded (directory_content 0 (entries (root_places m e c)))))
    (p : DirectoryPassed m limit next 8 (qid_of e) (directs_of e) c (top ∷ []) met) where
  abbrev tree : StoredTree
  tree = record { top = top; root = dir_of m e; stored = dir_stored m e; places = c; next_qid = next }

  kept : AllByRecursion (Kept m limit) (blocks_of tree)
  kept = all_interleaved (Kept m limit) 7 (own_blocks head (note top) (root_places m e c)) (row_blocks (root_places m e c)) ((stands, within), tt)
      (all_interleaved (Kept m limit) 7 (own_blocks (dir_of m e) (dir_stored m e) c) (row_blocks c) p.own p.places.blocks, empties_kept (Kept m limit) 6)

  counted : (a : ℕ) → count a met ≡ uses a (blocks_of tree)
  counted a = omega (arith, p.meets.counted a, uses_deep a slash (dir_of m e) (dir_stored m e) c, uses_deep a [] head (note top) (root_places m e c))

  once : (a : ℕ) → uses a (blocks_of tree) ≤ 1
  once a = omega (arith, counted a, p.meets.once ((grown_one (λ x. 0) eqb top (λ x. eqb-true x top) refl).once (λ x. omega arith)) a)

  formed : next < 2 ^ 32 → WellFormed (erase tree)
  formed low = record {
    tidy = record { here = p.here; below = p.places.tidy };
    levels = p.places.levels;
    numbered = p.places.numbered;
    root = root.qid;
    version = version_small limit next e root.node;
    next = omega (arith, root.qid, root.node.qid);
  }

  represents : limit ≤ 65536 → next < 2 ^ 32 → Represents m limit tree
  represents few low = record {
    few = few;
    formed = formed low;
    fits = (record { blocks = refl; indirect = refl; slack = refl }, (record { blocks = p.many; indirect = refl; slack = refl }, p.places.fits, empties_fit 6));
    within = All-weaker (Kept m limit) (λ b. InRange limit b.address) (λ b k. k.1) (blocks_of tree) kept;
    once = once;
    stand = All-weaker (Kept m limit) (Stands m) (λ b k. k.0) (blocks_of tree) kept;
  }

-- the root block of a check that passed
root_stands : (m : BlockMap) (limit next top : ℕ) (c : Places Stored) → Visited m (tag_number tag.Directory) 0 top → Root limit next (entry_at 0 (bytes_of (m top))) →
    list_all all_zero (drop 1 (entries_of (bytes_of (m top)))) ≡ true → m top ≡ Ok (encoded (directory_content 0 (entries (root_places m (entry_at 0 (bytes_of (m top))) c))))
root_stands m limit next top c seen root none =
    let b = bytes_of (m top) in
    let first = directory_entry m limit next (entry_at 0 b) slash root.node root.mode root.name in
    let rest = empties_back (drop 1 (entries_of b)) (All-drop Bytes72 1 (entries_of b) (entries_bytes b seen.long seen.bytes)) none in
    let all : map entry_bytes (entries (root_places m (entry_at 0 b) c)) ≡ entries_of b = ap (λ x. x ∷ map entry_bytes (entries (frees 6))) first ∙ ap (λ l. entry_at 0 b ∷ l) rest in
    seen.reads ∙ ap Ok (sym (directory_back 0 b (entries (root_places m (entry_at 0 b) c)) seen.long seen.back all))

pub check_sound : (m : BlockMap) (limit next top : ℕ) (met : List ℕ) → HoldsBytes m → limit ≤ 65536 → next < 2 ^ 32 → InRange limit top →
    check_tree m limit next top ≡ Ok met → Represents m limit (tree_at m top next) × ((a : ℕ) → count a met ≡ uses a (blocks_of (tree_at m top next)))
check_sound m limit next top met holds few low within ok =
    let step = then_ok (visit_root m limit next top) (λ b. check_directory m limit next 8 top (entry_at 0 b) (top ∷ [])) met ok in
    let seen = visit_judged m holds (tag_number tag.Directory) 0 top (legal_root limit next) step.0 step.1 in
    let b = bytes_of (m top) in
    let e = entry_at 0 b in
    let c = places_at m 9 (directs_of e) in
    let parts = and_parts (legal_root_entry limit next e) (list_all all_zero (drop 1 (entries_of b))) seen.1 in
    let root = root_entry limit next e (entries_bytes b seen.0.long seen.0.bytes).0 parts.0 in
    let passed = directory_checked m holds limit next 8 top e (top ∷ []) met (directs_within limit next e root.node)
    (subst (λ x. check_directory m limit next 8 top (entry_at 0 x) (top ∷ []) ≡ Ok met) seen.2 step.2) in
    let stands = root_stands m limit next top c seen.0 root parts.1 in
    (represents m limit next top e met c root within stands passed few low, counted m limit next top e met c root within stands passed)
