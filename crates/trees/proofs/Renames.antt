-- Other addresses for a tree's blocks.
use Rattle.std.proofs.Common.{◌≡◌, ℕ, suc, ◌*◌, ◌<◌, ◌≤◌, Bool, true, false, cond, eqb, List, [], ◌∷◌, ◌++◌, map, length, get_or, take, drop, sym, refl, ap, ◌∙◌, subst, ap₂, ⊎_elim, map-id, arith}
use mathlib.Core.List.{map-append}
use lib.ListN.{length-map}
use Rattle.std.specs.List.{flat_map, AllByRecursion}
use Rattle.std.proofs.lemmas.List.{take-map, drop-map}
use Rattle.std.proofs.ByRecursion.{All-weaker, All-map}
use Rattle.std.proofs.lemmas.Bool.{cases_eq, ne_eqb, eqb-true}
use Rattle.plain.specs.Trees.{File, Dir, Leaf, free, file, Places, end, leaf, dir, Place, flat, deep, size}
use Rattle.layout.specs.Entries.{Entry}
use Rattle.trees.specs.Stored.{Stored, Content, file_content, indirect_content, directory_content, entry_pointers, pointers, Block, in_blocks, file_entry, dir_entry, leaf_entry, entries, leaf_blocks, own_blocks, interleaved, row_blocks, place_blocks, StoredTree, whole, blocks_of, uses, map_leaf, map_places, map_place, erase}
use Rattle.trees.specs.Represents.{BlockMap, Stands, InRange, DirFits, LeafFits, Fits, PlaceFits, WellFormed, Represents, indirect_for}
use Rattle.trees.specs.Renaming.{renamed_stored, renamed, renamed_entry, renamed_content, renamed_block}
use Rattle.trees.specs.Theorems.{Renames}
use Rattle.trees.proofs.Lists.{one, one_same, one_other, zero_or, join, all_left, all_right, all_uninterleaved, all_used}

-- f of each element, in lists that are joined and interleaved
module _ {X Y : Type 0} (f : X → Y) where
  map_join : (ls : List (List X)) → join (map (map f) ls) ≡ map f (join ls)
  map_join [] = refl
  map_join (l ∷ ls) = ap (λ r. map f l ++ r) (map_join ls) ∙ sym (map-append f l (join ls))

  map_interleaved : (n : ℕ) (xs : List X) (ls : List (List X)) → interleaved n (map f xs) (map (map f) ls) ≡ map f (interleaved n xs ls)
  map_interleaved n [] ls = map_join ls
  map_interleaved n (x ∷ xs) ls =
      ap₂ (λ a b. a ++ (f x ∷ b)) (ap join (take-map (map f) n ls) ∙ map_join (take n ls)) (ap (interleaved n (map f xs)) (drop-map (map f) n ls) ∙ map_interleaved n xs (drop n ls))
      ∙ sym (map-append f (join (take n ls)) (x ∷ interleaved n xs (drop n ls)))

-- what holds of the blocks' addresses holds of each address given
blocks_addresses : {X : Type 0} (P : ℕ → Type 0) (make : List X → Content) (n : ℕ) (l : List ℕ) (xs : List X) → AllByRecursion (λ b. P b.address) (in_blocks make n l xs) → AllByRecursion P l
blocks_addresses P make n [] xs h = tt
blocks_addresses P make n (a ∷ l) xs h = (h.0, blocks_addresses P make n l (drop n xs) h.1)

-- no block is at address 0, which stands for none
abbrev Placed : List Block → Type 0
Placed bs = AllByRecursion (λ b. 0 < b.address) bs

module _ (g : ℕ → ℕ) where
  renamed_in_blocks : {X : Type 0} (make : List X → Content) (f : X → X) → ((xs : List X) → make (map f xs) ≡ renamed_content g (make xs)) →
      (n : ℕ) (l : List ℕ) (xs : List X) → in_blocks make n (map g l) (map f xs) ≡ map (renamed_block g) (in_blocks make n l xs)
  renamed_in_blocks make f h n [] xs = refl
  renamed_in_blocks make f h n (a ∷ l) xs =
      ap₂ (λ c r. record { address = g a; content = c } ∷ r)
      (ap make (take-map f n xs) ∙ h (take n xs))
      (ap (in_blocks make n (map g l)) (drop-map f n xs) ∙ renamed_in_blocks make f h n l (drop n xs))

  first_address : (l : List ℕ) → AllByRecursion (λ a. 0 < a) l → get_or (map g l) 0 0 ≡ cond (eqb (get_or l 0 0) 0) 0 (g (get_or l 0 0))
  first_address [] h = refl
  first_address (a ∷ l) h = ap (λ b. cond b 0 (g a)) (sym (ne_eqb a 0 (λ e. omega (arith, h.0))))

  -- what a directory says of its places
  renamed_file : (n : List ℕ) (f : File) (w : Stored) → AllByRecursion (λ a. 0 < a) w.indirect → file_entry n f (renamed_stored g w) ≡ renamed_entry g (file_entry n f w)
  renamed_file n f w h =
      ap₂ (λ l a. record { name = n; mode = (file_entry n f w).mode; qid = f.qid; version = f.version; size = length f.bytes; direct = l; indirect = a })
      (take-map g 6 w.blocks) (first_address w.indirect h)

  renamed_leaf_entry : (l : Leaf Stored) → Placed (leaf_blocks l) → leaf_entry (map_leaf (renamed_stored g) l) ≡ renamed_entry g (leaf_entry l)
  renamed_leaf_entry free h = refl
  renamed_leaf_entry (file n f w) h =
      renamed_file n f w
      (blocks_addresses (λ a. 0 < a) (indirect_content f.qid) 126 w.indirect (drop 6 w.blocks)
      (all_right (λ b. 0 < b.address) (in_blocks (file_content f.qid) 504 w.blocks (f.bytes ++ w.slack)) (in_blocks (indirect_content f.qid) 126 w.indirect (drop 6 w.blocks)) h))

  renamed_dir : (n : List ℕ) (d : Dir) (w : Stored) → dir_entry n d (renamed_stored g w) ≡ renamed_entry g (dir_entry n d w)
  renamed_dir n d w =
      ap (λ k. record { name = n; mode = (dir_entry n d w).mode; qid = d.qid; version = d.version; size = 504 * k; direct = map g w.blocks; indirect = 0 })
      (length-map w.blocks g)

  renamed_entries : (c : Places Stored) → AllByRecursion Placed (row_blocks c) → entries (map_places (renamed_stored g) c) ≡ map (renamed_entry g) (entries c)
  renamed_entries end h = refl
  renamed_entries (leaf l k) h = ap₂ (λ e es. e ∷ es) (renamed_leaf_entry l h.0) (renamed_entries k h.1)
  renamed_entries (dir n d w c k) h = ap₂ (λ e es. e ∷ es) (renamed_dir n d w) (renamed_entries k h.1)

  -- the blocks of a place
  renamed_leaf : (l : Leaf Stored) → leaf_blocks (map_leaf (renamed_stored g) l) ≡ map (renamed_block g) (leaf_blocks l)
  renamed_leaf free = refl
  renamed_leaf (file n f w) =
      ap₂ (λ a b. a ++ b)
      (ap (in_blocks (file_content f.qid) 504 (map g w.blocks)) (sym (map-id (f.bytes ++ w.slack)))
      ∙ renamed_in_blocks (file_content f.qid) (λ x. x) (λ xs. ap (file_content f.qid) (map-id xs)) 504 w.blocks (f.bytes ++ w.slack))
      (ap (in_blocks (indirect_content f.qid) 126 (map g w.indirect)) (drop-map g 6 w.blocks)
      ∙ renamed_in_blocks (indirect_content f.qid) g (λ xs. refl) 126 w.indirect (drop 6 w.blocks))
      ∙ sym (map-append (renamed_block g) (in_blocks (file_content f.qid) 504 w.blocks (f.bytes ++ w.slack)) (in_blocks (indirect_content f.qid) 126 w.indirect (drop 6 w.blocks)))

  renamed_deep : (n : List ℕ) (d : Dir) (w : Stored) (c : Places Stored) → AllByRecursion Placed (row_blocks c) → row_blocks (map_places (renamed_stored g) c) ≡ map (map (renamed_block g)) (row_blocks c) →
      place_blocks (map_place (renamed_stored g) (deep n d w c)) ≡ map (renamed_block g) (place_blocks (deep n d w c))
  renamed_deep n d w c h rows =
      ap₂ (interleaved 7)
      (ap (in_blocks (directory_content d.qid) 7 (map g w.blocks)) (renamed_entries c h)
      ∙ renamed_in_blocks (directory_content d.qid) (renamed_entry g) (λ xs. refl) 7 w.blocks (entries c))
      rows
      ∙ map_interleaved (renamed_block g) 7 (own_blocks d w c) (row_blocks c)

  placed_rows : (d : Dir) (w : Stored) (c : Places Stored) → Placed (interleaved 7 (own_blocks d w c) (row_blocks c)) → AllByRecursion Placed (row_blocks c)
  placed_rows d w c h = (all_uninterleaved (λ b. 0 < b.address) 7 (own_blocks d w c) (row_blocks c) h).1

  renamed_rows : (c : Places Stored) → AllByRecursion Placed (row_blocks c) → row_blocks (map_places (renamed_stored g) c) ≡ map (map (renamed_block g)) (row_blocks c)
  renamed_rows end h = refl
  renamed_rows (leaf l k) h = ap₂ (λ r rs. r ∷ rs) (renamed_leaf l) (renamed_rows k h.1)
  renamed_rows (dir n d w c k) h =
      let rows = placed_rows d w c h.0 in
      ap₂ (λ r rs. r ∷ rs) (renamed_deep n d w c rows (renamed_rows c rows)) (renamed_rows k h.1)

  pub renamed_place : (p : Place Stored) → Placed (place_blocks p) → place_blocks (map_place (renamed_stored g) p) ≡ map (renamed_block g) (place_blocks p)
  renamed_place (flat l) h = renamed_leaf l
  renamed_place (deep n d w c) h = let rows = placed_rows d w c h in renamed_deep n d w c rows (renamed_rows c rows)

  renamed_blocks : (limit : ℕ) (m : BlockMap) (t : StoredTree) → Represents m limit t → blocks_of (renamed g t) ≡ map (renamed_block g) (blocks_of t)
  renamed_blocks limit m t r =
      renamed_place (whole t) (All-weaker (λ b. InRange limit b.address) (λ b. 0 < b.address) (λ b h. let low = h.0 in omega arith) (blocks_of t) r.within)

  -- the plain tree
  renamed_leaf_plain : (l : Leaf Stored) → map_leaf (λ w. tt {0}) (map_leaf (renamed_stored g) l) ≡ map_leaf (λ w. tt) l
  renamed_leaf_plain free = refl
  renamed_leaf_plain (file n f w) = refl

  renamed_plain : (c : Places Stored) → map_places (λ w. tt {0}) (map_places (renamed_stored g) c) ≡ map_places (λ w. tt) c
  renamed_plain end = refl
  renamed_plain (leaf l k) = ap₂ leaf (renamed_leaf_plain l) (renamed_plain k)
  renamed_plain (dir n d w c k) = ap₂ (dir n d tt) (renamed_plain c) (renamed_plain k)

  erase_renamed : (t : StoredTree) → erase (renamed g t) ≡ erase t
  erase_renamed t = ap (λ c. record { root = t.root; places = c; next_qid = t.next_qid }) (renamed_plain t.places)

  -- notes that fit
  renamed_size : (c : Places Stored) → size (map_places (renamed_stored g) c) ≡ size c
  renamed_size end = refl
  renamed_size (leaf l k) = ap suc (renamed_size k)
  renamed_size (dir n d w c k) = ap suc (renamed_size k)

  renamed_leaf_fits : (l : Leaf Stored) → LeafFits l → LeafFits (map_leaf (renamed_stored g) l)
  renamed_leaf_fits free h = tt
  renamed_leaf_fits (file n f w) h =
      let e = length-map w.blocks g in
      record {
        blocks = e ∙ h.blocks;
        indirect = length-map w.indirect g ∙ h.indirect ∙ ap indirect_for (sym e);
        slack = h.slack ∙ ap (λ k. 504 * k) (sym e);
      }

  renamed_dir_fits : (w : Stored) (c : Places Stored) → DirFits w c → DirFits (renamed_stored g w) (map_places (renamed_stored g) c)
  renamed_dir_fits w c h = record {
    blocks = renamed_size c ∙ h.blocks ∙ ap (λ k. 7 * k) (sym (length-map w.blocks g));
    indirect = ap (map g) h.indirect;
    slack = h.slack;
  }

  renamed_fits : (c : Places Stored) → Fits c → Fits (map_places (renamed_stored g) c)
  renamed_fits end h = tt
  renamed_fits (leaf l k) h = (renamed_leaf_fits l h.0, renamed_fits k h.1)
  renamed_fits (dir n d w c k) h = (renamed_dir_fits w c h.0, renamed_fits c h.1, renamed_fits k h.2)

  renamed_place_fits : (p : Place Stored) → PlaceFits p → PlaceFits (map_place (renamed_stored g) p)
  renamed_place_fits (flat l) h = renamed_leaf_fits l h
  renamed_place_fits (deep n d w c) h = (renamed_dir_fits w c h.0, renamed_fits c h.1)

  -- an address of a renamed block is one of the blocks' by another name
  named_from : (a : ℕ) (bs : List Block) → 0 < uses a (map (renamed_block g) bs) → (x : ℕ) × (0 < uses x bs) × (g x ≡ a)
  named_from a [] h = absurd (omega arith)
  named_from a (b ∷ bs) h =
      ⊎_elim
      (λ (e : a ≡ g b.address). (b.address, omega (arith, one_same b.address), sym e))
      (λ (ne : a ≡ g b.address → ⊥). let r = named_from a bs (omega (arith, one_other a (g b.address) ne)) in let u = r.1 in (r.0, omega arith, r.2))
      (cases_eq a (g b.address))

  renamed_once : (bs : List Block) → ((a b : ℕ) → 0 < uses a bs → 0 < uses b bs → g a ≡ g b → a ≡ b) → ((a : ℕ) → uses a bs ≤ 1) →
      (a : ℕ) → uses a (map (renamed_block g) bs) ≤ 1
  renamed_once [] apart once a = omega arith
  renamed_once (b ∷ bs) apart once a =
      let rest = renamed_once bs (λ x y p q e. apart x y (omega arith) (omega arith) e) (λ x. omega (arith, once x)) a in
      ⊎_elim
      (λ (e : a ≡ g b.address).
      ⊎_elim
      (λ (none : uses a (map (renamed_block g) bs) ≡ 0). omega (arith, ap (one a) (sym e) ∙ one_same a))
      (λ (some : 0 < uses a (map (renamed_block g) bs)). absurd (twice e (named_from a bs some)))
      (zero_or (uses a (map (renamed_block g) bs))))
      (λ (ne : a ≡ g b.address → ⊥). omega (arith, one_other a (g b.address) ne))
      (cases_eq a (g b.address))
    where
      -- then the first block's address is used twice
      twice : a ≡ g b.address → (x : ℕ) × (0 < uses x bs) × (g x ≡ a) → ⊥
      twice e r =
          let u = r.1 in
          let same : r.0 ≡ b.address = apart r.0 b.address (omega arith) (omega (arith, one_same b.address)) (r.2 ∙ e) in
          let v : 0 < uses b.address bs = subst (λ x. 0 < uses x bs) same u in
          omega (arith, once b.address, one_same b.address)

-- the content of a block that names no renamed block
module _ (g : ℕ → ℕ) where
  map_kept : (l : List ℕ) → AllByRecursion (λ a. g a ≡ a) l → map g l ≡ l
  map_kept [] h = refl
  map_kept (a ∷ l) h = ap₂ (λ b r. b ∷ r) h.0 (map_kept l h.1)

  indirect_kept : (a : ℕ) → AllByRecursion (λ a. g a ≡ a) (cond (eqb a 0) [] (a ∷ [])) → cond (eqb a 0) 0 (g a) ≡ a
  indirect_kept a = by (eqb a 0) refl
    where
      by : (b : Bool) → eqb a 0 ≡ b → AllByRecursion (λ a. g a ≡ a) (cond b [] (a ∷ [])) → cond b 0 (g a) ≡ a
      by true e h = sym (eqb-true a 0 e)
      by false e h = h.0

  entry_kept : (e : Entry) → AllByRecursion (λ a. g a ≡ a) (entry_pointers e) → renamed_entry g e ≡ e
  entry_kept e h =
      let rest = cond (eqb e.indirect 0) [] (e.indirect ∷ []) in
      ap₂ (λ l a. record { name = e.name; mode = e.mode; qid = e.qid; version = e.version; size = e.size; direct = l; indirect = a })
      (map_kept e.direct (all_left (λ a. g a ≡ a) e.direct rest h)) (indirect_kept e.indirect (all_right (λ a. g a ≡ a) e.direct rest h))

  entries_kept : (es : List Entry) → AllByRecursion (λ a. g a ≡ a) (flat_map entry_pointers es) → map (renamed_entry g) es ≡ es
  entries_kept [] h = refl
  entries_kept (e ∷ es) h =
      ap₂ (λ x r. x ∷ r) (entry_kept e (all_left (λ a. g a ≡ a) (entry_pointers e) (flat_map entry_pointers es) h))
      (entries_kept es (all_right (λ a. g a ≡ a) (entry_pointers e) (flat_map entry_pointers es) h))

  content_kept : (x : Content) → AllByRecursion (λ a. g a ≡ a) (pointers x) → renamed_content g x ≡ x
  content_kept (file_content owner bytes) h = refl
  content_kept (indirect_content owner l) h = ap (indirect_content owner) (map_kept l h)
  content_kept (directory_content owner es) h = ap (directory_content owner) (entries_kept es h)

pub renames : Renames
renames = record {
  blocks = λ g limit m t r. renamed_blocks g limit m t r;
  represented = λ g limit m m' t r apart within stand.
      let same = renamed_blocks g limit m t r in
      record {
        few = r.few;
        formed = subst WellFormed (sym (erase_renamed g t)) r.formed;
        fits = renamed_place_fits g (whole t) r.fits;
        within = subst (AllByRecursion (λ b. InRange limit b.address)) (sym same)
            (All-map (λ b. InRange limit b.address) (renamed_block g) (blocks_of t)
            (All-weaker (λ b. 0 < uses b.address (blocks_of t)) (λ b. InRange limit (g b.address)) (λ b h. within b.address h) (blocks_of t) (all_used (blocks_of t))));
        once = λ a. subst (λ bs. uses a bs ≤ 1) (sym same) (renamed_once g (blocks_of t) apart r.once a);
        stand = subst (AllByRecursion (Stands m')) (sym same) stand;
      };
  plain = erase_renamed;
  kept = content_kept;
}
