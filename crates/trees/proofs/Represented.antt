-- What a map that represents a tree says of some places of a directory, and of one place that was checked.
use Rattle.std.proofs.Common.{◌≡◌, ℕ, suc, ◌+◌, ◌≤◌, cond, List, [], ◌∷◌, map, length, sum_by, sym, refl, ap, ◌∙◌, arith}
use Rattle.std.specs.List.{AllByRecursion}
use Rattle.std.specs.Str.{bytes_eq}
use Rattle.std.proofs.lemmas.List.Sums.{sum_by-cons}
use Rattle.plain.specs.Trees.{free, file, Places, end, leaf, dir, Place, flat, deep, put, size, has_name, named, Plain}
use Rattle.plain.specs.Laws.{TidyBelow}
use Rattle.layout.specs.Entries.{entry_bytes}
use Rattle.trees.specs.Stored.{Stored, place_entry, entries, row_blocks, place_blocks, uses, map_places}
use Rattle.trees.specs.Represents.{BlockMap, Fits, levels, Numbered}
use Rattle.trees.specs.Decoded.{place_from, places_from}
use Rattle.trees.proofs.Lists.{uses_all}
use Rattle.trees.proofs.Nodes.{entries_put, row_put, size_put}
use Rattle.trees.proofs.Visits.{Meets, Kept}

abbrev pub plain_of : Places Stored → Plain
plain_of c = map_places (λ w. tt) c

pub record Represented (m : BlockMap) (limit next depth : ℕ) (c : Places Stored) : Type 0 where
  pub blocks : AllByRecursion (AllByRecursion (Kept m limit)) (row_blocks c)
  pub fits : Fits c
  pub tidy : TidyBelow (plain_of c)
  pub numbered : Numbered next (plain_of c)
  pub levels : levels (plain_of c) ≤ depth

-- one place, whose entry is e
pub record PlacePassed (m : BlockMap) (limit next depth : ℕ) (p : Place Stored) (e met met' : List ℕ) : Type 0 where
  pub represented : Represented m limit next depth (put p end)
  pub encodes : entry_bytes (place_entry p) ≡ e
  pub meets : Meets met (λ a. uses a (place_blocks p)) met'

module _ (m : BlockMap) (limit next depth : ℕ) where
  represented_put : (p : Place Stored) (k : Places Stored) → Represented m limit next depth (put p end) → Represented m limit next depth k → Represented m limit next depth (put p k)
  represented_put (flat l) k h r = record {
    blocks = (h.blocks.0, r.blocks);
    fits = (h.fits.0, r.fits);
    tidy = (h.tidy.0, r.tidy);
    numbered = (h.numbered.0, r.numbered);
    levels = omega (arith, h.levels, r.levels);
  }
  represented_put (deep n d w c) k h r = record {
    blocks = (h.blocks.0, r.blocks);
    fits = (h.fits.0, h.fits.1, r.fits);
    tidy = (h.tidy.0, h.tidy.1, h.tidy.2, r.tidy);
    numbered = (h.numbered.0, h.numbered.1, h.numbered.2, r.numbered);
    levels = omega (arith, h.levels, r.levels);
  }

  -- the places that entries decode to
  pub represented_all : (sub : List ℕ → Places Stored) (es : List (List ℕ)) → AllByRecursion (λ e. Represented m limit next depth (put (place_from m sub e) end)) es →
      Represented m limit next depth (places_from m sub es)
  represented_all sub [] h = record { blocks = tt; fits = tt; tidy = tt; numbered = tt; levels = omega arith }
  represented_all sub (e ∷ es) h = represented_put (place_from m sub e) (places_from m sub es) h.0 (represented_all sub es h.1)

-- what is counted and listed place by place
named_put : (n : List ℕ) (p : Place Stored) (k : Places Stored) → named n (put p k) ≡ cond (has_name n p) 1 0 + named n k
named_put n (flat l) k = refl
named_put n (deep m d w c) k = refl

module _ (m : BlockMap) (sub : List ℕ → Places Stored) where
  pub uses_from : (a : ℕ) (es : List (List ℕ)) → uses_all a (row_blocks (places_from m sub es)) ≡ sum_by (λ e. uses a (place_blocks (place_from m sub e))) es
  uses_from a [] = refl
  uses_from a (e ∷ es) =
      ap (uses_all a) (row_put (place_from m sub e) (places_from m sub es)) ∙ ap (λ n. uses a (place_blocks (place_from m sub e)) + n) (uses_from a es)
      ∙ sym (sum_by-cons (λ e. uses a (place_blocks (place_from m sub e))) e es)

  pub named_from : (n : List ℕ) (es : List (List ℕ)) → named n (places_from m sub es) ≡ sum_by (λ e. cond (has_name n (place_from m sub e)) 1 0) es
  named_from n [] = refl
  named_from n (e ∷ es) =
      named_put n (place_from m sub e) (places_from m sub es) ∙ ap (λ k. cond (has_name n (place_from m sub e)) 1 0 + k) (named_from n es)
      ∙ sym (sum_by-cons (λ e. cond (has_name n (place_from m sub e)) 1 0) e es)

  pub entries_from : (es : List (List ℕ)) → entries (places_from m sub es) ≡ map (λ e. place_entry (place_from m sub e)) es
  entries_from [] = refl
  entries_from (e ∷ es) = entries_put (place_from m sub e) (places_from m sub es) ∙ ap (λ l. place_entry (place_from m sub e) ∷ l) (entries_from es)

  pub size_from : (es : List (List ℕ)) → size (places_from m sub es) ≡ length es
  size_from [] = refl
  size_from (e ∷ es) = size_put (place_from m sub e) (places_from m sub es) ∙ ap suc (size_from es)

-- the same names without the notes
pub named_plain : (n : List ℕ) (c : Places Stored) → named n (plain_of c) ≡ named n c
named_plain n end = refl
named_plain n (leaf free k) = ap (λ i. 0 + i) (named_plain n k)
named_plain n (leaf (file x f w) k) = ap (λ i. cond (bytes_eq n x) 1 0 + i) (named_plain n k)
named_plain n (dir x d w c k) = ap (λ i. cond (bytes_eq n x) 1 0 + i) (named_plain n k)
