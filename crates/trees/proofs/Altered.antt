-- What names lead to changes: what becomes of the blocks, the addresses and the notes of all that is above it and beside it.
use Rattle.std.proofs.Common.{◌≡◌, ℕ, zero, suc, ◌+◌, ◌/◌, ◌<◌, ◌≤◌, List, [], ◌∷◌, length, get_or, sym, ap, ◌∙◌, subst, arith}
use Rattle.std.specs.List.{AllByRecursion}
use Rattle.std.proofs.ByRecursion.{All-set, All-get_or}
use Rattle.plain.specs.Trees.{Dir, free, Places, Place, flat, deep, size, at, set_at, find, walk}
use Rattle.plain.proofs.Walking.{walk_free, found_within}
use Rattle.trees.specs.Stored.{Stored, directory_content, entries, own_blocks, row_blocks, place_blocks, count, uses}
use Rattle.trees.specs.Represents.{BlockMap, Stands, PlaceFits}
use Rattle.trees.specs.Plans.{home_of, trail, alter}
use Rattle.trees.proofs.Lists.{one, one_same, uses_all, all_uninterleaved, in_blocks_at}
use Rattle.trees.proofs.Nodes.{row_set, row_at, length_row, uses_deep, uses_set, uses_at, size_set, fits_at, fits_set}
use Rattle.trees.proofs.Placed.{Rewritten, place_rewritten}

pub count_one : (a : ℕ) (l : List ℕ) (j : ℕ) → j < length l → one a (get_or l j 0) ≤ count a l
count_one a [] j h = absurd (omega arith)
count_one a (b ∷ l) zero h = omega arith
count_one a (b ∷ l) (suc j) h = omega (arith, count_one a l j (omega arith))

module _ {W : Type 0} where
  -- what names lead on from is within its directory
  pub found_place : (n : List ℕ) (ns : List (List ℕ)) (c : Places W) → (walk ns (at c (find n c)) ≡ flat free → ⊥) → find n c < size c
  found_place n ns c found = (found_within n c (λ e. found (ap (walk ns) e ∙ walk_free ns))).0

pub uses_walk : (a : ℕ) (ns : List (List ℕ)) (p : Place Stored) → uses a (place_blocks (walk ns p)) ≤ uses a (place_blocks p)
uses_walk a [] p = omega arith
uses_walk a (n ∷ ns) (flat l) = omega (arith, ap (λ q. uses a (place_blocks q)) (walk_free {W = Stored} ns))
uses_walk a (n ∷ ns) (deep m d w c) = omega (arith, uses_walk a ns (at c (find n c)), uses_at a c (find n c), uses_deep a m d w c)

-- the blocks on the way are the node's, and not those of what the names lead to
pub uses_trail : (a : ℕ) (ns : List (List ℕ)) (p : Place Stored) → PlaceFits p → (walk ns p ≡ flat free → ⊥) → count a (trail ns p) + uses a (place_blocks (walk ns p)) ≤ uses a (place_blocks p)
uses_trail a [] p h found = omega arith
uses_trail a (n ∷ ns) (flat l) h found = absurd (found (walk_free ns))
uses_trail a (n ∷ ns) (deep m d w c) h found =
    let lt = found_place n ns c found in
    let on : find n c / 7 < length w.blocks = omega (arith, h.0.blocks) in
    omega (arith, uses_trail a ns (at c (find n c)) (fits_at c (find n c) h.1) found, uses_at a c (find n c), uses_deep a m d w c, count_one a w.blocks (find n c / 7) on)

pub alter_uses : (a : ℕ) (ns : List (List ℕ)) (f : Place Stored → Place Stored) (p : Place Stored) → (walk ns p ≡ flat free → ⊥) →
    uses a (place_blocks (alter ns f p)) + uses a (place_blocks (walk ns p)) ≡ uses a (place_blocks p) + uses a (place_blocks (f (walk ns p)))
alter_uses a [] f p found = omega arith
alter_uses a (n ∷ ns) f (flat l) found = absurd (found (walk_free ns))
alter_uses a (n ∷ ns) f (deep m d w c) found =
    let q = alter ns f (at c (find n c)) in
    omega (arith, alter_uses a ns f (at c (find n c)) found, uses_set a c (find n c) q (found_place n ns c found), uses_deep a m d w c, uses_deep a m d w (set_at c (find n c) q))

pub alter_fits : (ns : List (List ℕ)) (f : Place Stored → Place Stored) (p : Place Stored) → PlaceFits p → PlaceFits (f (walk ns p)) → PlaceFits (alter ns f p)
alter_fits [] f p h k = k
alter_fits (n ∷ ns) f (flat l) h k = h
alter_fits (n ∷ ns) f (deep m d w c) h k =
    let q = alter ns f (at c (find n c)) in (
      record { blocks = size_set c (find n c) q ∙ h.0.blocks; indirect = h.0.indirect; slack = h.0.slack },
      fits_set c (find n c) q (alter_fits ns f (at c (find n c)) (fits_at c (find n c) h.1) k) h.1,
    )

-- what stands, is different and fits, node by node
pub record Sound (m : BlockMap) (p : Place Stored) : Type 0 where
  pub fits : PlaceFits p
  pub once : (a : ℕ) → uses a (place_blocks p) ≤ 1
  pub stand : AllByRecursion (Stands m) (place_blocks p)

module _ (m : BlockMap) (n : List ℕ) (d : Dir) (w : Stored) (c : Places Stored) (s : Sound m (deep n d w c)) where
  abbrev pub own_stand : AllByRecursion (Stands m) (own_blocks d w c) × AllByRecursion (AllByRecursion (Stands m)) (row_blocks c)
  own_stand = all_uninterleaved (Stands m) 7 (own_blocks d w c) (row_blocks c) s.stand

  pub sound_at : (i : ℕ) → i < size c → Sound m (at c i)
  sound_at i lt = record {
    fits = fits_at c i s.fits.1;
    once = λ a. omega (arith, s.once a, uses_deep a n d w c, uses_at a c i);
    stand = subst (AllByRecursion (Stands m)) (row_at c i) (All-get_or (AllByRecursion (Stands m)) (row_blocks c) i [] (omega (arith, length_row c)) own_stand.1);
  }

  pub rest_stand : (i : ℕ) → AllByRecursion (AllByRecursion (Stands m)) (row_blocks (set_at c i (flat free)))
  rest_stand i = subst (AllByRecursion (AllByRecursion (Stands m))) (sym (row_set c i (flat free))) (All-set (AllByRecursion (Stands m)) (row_blocks c) i [] tt own_stand.1)

  -- an address of another place is none of the directory's own, and none of this place
  pub rest_apart : (i a : ℕ) → i < size c → 0 < uses_all a (row_blocks (set_at c i (flat free))) → (count a w.blocks ≡ 0) × (uses a (place_blocks (at c i)) ≡ 0) × (0 < uses a (place_blocks (deep n d w c)))
  rest_apart i a lt h =
      let u = uses_set a c i (flat free) lt in
      let o = s.once a in
      let e = uses_deep a n d w c in
      (omega arith, omega arith, omega arith)

pub sound_walk : (m : BlockMap) (ns : List (List ℕ)) (p : Place Stored) → Sound m p → (walk ns p ≡ flat free → ⊥) → Sound m (walk ns p)
sound_walk m [] p s found = s
sound_walk m (n ∷ ns) (flat l) s found = absurd (found (walk_free ns))
sound_walk m (n ∷ ns) (deep k d w c) s found = sound_walk m ns (at c (find n c)) (sound_at m k d w c s (find n c) (found_place n ns c found)) found

module _ (m : BlockMap) (l : List ℕ) (f : Place Stored → Place Stored) where
  pub alter_rewritten : (ns : List (List ℕ)) (p : Place Stored) → Sound m p → (walk ns p ≡ flat free → ⊥) →
      ((a : ℕ) → 0 < count a (trail ns p) → 0 < count a l) →
      ((a : ℕ) → 0 < uses a (place_blocks p) → count a (trail ns p) ≡ 0 → uses a (place_blocks (walk ns p)) ≡ 0 → count a l ≡ 0) →
      AllByRecursion (Rewritten m l) (place_blocks (f (walk ns p))) → AllByRecursion (Rewritten m l) (place_blocks (alter ns f p))
  alter_rewritten [] p s found hot aside new = new
  alter_rewritten (n ∷ ns) (flat x) s found hot aside new = absurd (found (walk_free ns))
  alter_rewritten (n ∷ ns) (deep k d w c) s found hot aside new =
      let i = find n c in
      let q = at c i in
      let lt = found_place n ns c found in
      let on : i / 7 < length w.blocks = omega (arith, s.fits.0.blocks) in
      let at_q = sound_at m k d w c s i lt in
      place_rewritten m l k d w c i (alter ns f q)
      (hot (home_of w i) (omega (arith, one_same (home_of w i))))
      (λ j jl ne. in_blocks_at (directory_content d.qid) 7 (Stands m) w.blocks (entries c) (own_stand m k d w c s).0 j jl)
      (rest_stand m k d w c s i)
      (λ a h.
      let r = rest_apart m k d w c s i a lt h in
      aside a r.2 (omega (arith, r.0, r.1, count_one a w.blocks (i / 7) on, uses_trail a ns q at_q.fits found)) (omega (arith, r.1, uses_walk a ns q)))
      (alter_rewritten ns q at_q found
      (λ a h. hot a (omega arith))
      (λ a h z z'. aside a (omega (arith, uses_deep a k d w c, uses_at a c i)) (omega (arith, s.once a, uses_deep a k d w c, uses_at a c i, count_one a w.blocks (i / 7) on)) z')
      new)
