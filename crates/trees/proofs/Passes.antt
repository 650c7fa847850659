-- A check of a directory that passes has met the blocks of the places that its blocks decode to.
use Rattle.std.proofs.Common.{◌≡◌, ℕ, zero, suc, ◌+◌, ◌*◌, ◌≤◌, min, Bool, true, false, cond, not, ◌&&◌, eqb, List, [], ◌∷◌, ◌++◌, map, length, take, drop, Ok, sum_by, sym, refl, ap, ◌∙◌, subst, arith}
use Rattle.std.specs.List.{flat_map, AllByRecursion}
use Rattle.std.specs.Str.{bytes_eq}
use Rattle.std.proofs.lemmas.List.FromFn.{length-map-range_with_len}
use Rattle.std.proofs.ByRecursion.{All-append}
use Rattle.std.proofs.lemmas.Slice.Eq.{bytes_eq-Decides}
use Rattle.std.proofs.lemmas.List.{length-append, length-map, take_at, drop_at, map-append}
use Rattle.std.proofs.lemmas.List.Sums.{sum_by-cons, sum_by-append}
use Rattle.std.proofs.lemmas.Bool.{and_parts, or_parts, eqb-true, eqb-false, eq-eqb, ne_eqb, not-true, false≢true, cond-true, cond-false}
use Rattle.plain.specs.Names.{is_name}
use Rattle.plain.specs.Trees.{free, Places, end, Place, flat, deep, put, size, has_name}
use Rattle.plain.specs.Laws.{TidyDir}
use Rattle.std.specs.List.{count_by}
use Rattle.layout.specs.declared.block.Tag.TheVariants as tag
use Rattle.layout.specs.declared.entry.Mode.TheVariants as mode
use Rattle.layout.specs.Blocks.{tag_number}
use Rattle.layout.specs.Entries.{Entry, entry_bytes, mode_number, name_of, mode_of, qid_of, version_of, size_of, direct_of, entry_at, blocks_for, legal_entry}
use Rattle.trees.specs.Stored.{Stored, directory_content, encoded, in_blocks, dir_entry, place_entry, entries, own_blocks, row_blocks, place_blocks, count, uses}
use Rattle.trees.specs.Represents.{BlockMap, InRange}
use Rattle.trees.specs.Decoded.{bytes_of, entries_of, directs_of, dir_stored, dir_of, place_from, places_from, places_at}
use Rattle.trees.specs.Lookups.{Judged, fails, and_then, visit}
use Rattle.trees.specs.Checks as check
use Rattle.trees.specs.Checks.{Met, meet, check_file, check_node, check_place, check_places, check_blocks, check_directory}
use Rattle.trees.specs.Theorems.{HoldsBytes}
use Rattle.trees.proofs.Lists.{one, uses_all, all_interleaved}
use Rattle.trees.proofs.Nodes.{uses_deep}
use Rattle.trees.proofs.Erased.{map_size}
use Rattle.trees.proofs.Reencodes.{Bytes72, directory_back, entries_bytes}
use Rattle.trees.proofs.LegalEntries.{Node, entry_of, entry_back, empty_back, node, directory_size, directs_within, indirect_none, version_small}
use Rattle.trees.proofs.Visits.{then_ok, test_ok, ok_same, Grown, grown_none, grown_to, grown_then, grown_same, grown_one, Meets, met_once, Visited, visit_ok, Kept}
use Rattle.trees.proofs.Represented.{plain_of, Represented, PlacePassed, represented_all, uses_from, named_from, entries_from, size_from, named_plain}
use Rattle.trees.proofs.FileChecks.{file_passed, file_at, file_place}

-- what an entry decodes to, by its mode
module _ (m : BlockMap) (sub : List ℕ → Places Stored) (e : List ℕ) where
  from_empty : mode_of e ≡ 0 → place_from m sub e ≡ flat free
  from_empty is = cond-true (eqb (mode_of e) 0) _ _ (eq-eqb (mode_of e) 0 is)

  from_file : mode_of e ≡ mode_number mode.File → place_from m sub e ≡ file_at m e
  from_file is = cond-false (eqb (mode_of e) 0) _ _ (ne_eqb (mode_of e) 0 (λ no. omega arith)) ∙ cond-true (eqb (mode_of e) (mode_number mode.File)) _ _ (eq-eqb _ _ is)

  abbrev directory_at : Place Stored
  directory_at = deep (name_of e) (dir_of m e) (dir_stored m e) (sub (directs_of e))

  from_directory : mode_of e ≡ mode_number mode.Directory → place_from m sub e ≡ directory_at
  from_directory is =
      cond-false (eqb (mode_of e) 0) _ _ (ne_eqb (mode_of e) 0 (λ no. omega arith))
      ∙ cond-false (eqb (mode_of e) (mode_number mode.File)) _ _ (ne_eqb (mode_of e) (mode_number mode.File) (λ no. omega arith))

-- a directory whose blocks are at the addresses l, and whose places are c
pub record DirectoryPassed (m : BlockMap) (limit next depth owner : ℕ) (l : List ℕ) (c : Places Stored) (met met' : List ℕ) : Type 0 where
  pub own : AllByRecursion (Kept m limit) (in_blocks (directory_content owner) 7 l (entries c))
  pub places : Represented m limit next depth c
  pub here : TidyDir (plain_of c)
  pub many : size c ≡ 7 * length l
  pub meets : Meets met (λ a. count a l + uses_all a (row_blocks c)) met'

-- a check of directories, of which `sub` gives the places
abbrev pub Checked : BlockMap → ℕ → ℕ → ℕ → (ℕ → List ℕ → List ℕ → Judged (List ℕ)) → (List ℕ → Places Stored) → Type 0
Checked m limit next depth test sub = (holder : ℕ) (e met met' : List ℕ) → AllByRecursion (InRange limit) (directs_of e) → test holder e met ≡ Ok met' →
    DirectoryPassed m limit next depth (qid_of e) (directs_of e) (sub (directs_of e)) met met'

-- the entry of a directory, by any of its names
pub directory_entry : (m : BlockMap) (limit next : ℕ) (e n : List ℕ) → Node limit next e → mode_of e ≡ mode_number mode.Directory → name_of e ≡ n →
    entry_bytes (dir_entry n (dir_of m e) (dir_stored m e)) ≡ e
directory_entry m limit next e n h is name =
    let size = directory_size (mode_of e) (size_of e) h.size (λ no. omega arith) in
    let few : blocks_for (size_of e) ≤ 6 = omega arith in
    let filled : 504 * length (directs_of e) ≡ size_of e = ap (λ n. 504 * n) (length-map-range_with_len _ 0 (min 6 (blocks_for (size_of e)))) ∙ omega arith in
    let none = indirect_none limit next e h few in
    let same : dir_entry n (dir_of m e) (dir_stored m e) ≡ entry_of e =
    (λ i. record { name = sym name i; mode = sym is i; qid = qid_of e; version = version_of e; size = filled i; direct = directs_of e; indirect = sym none i }) in
    ap entry_bytes same ∙ entry_back limit next e h

-- one place
module _ (m : BlockMap) (holds : HoldsBytes m) (limit next depth : ℕ) (test : ℕ → List ℕ → List ℕ → Judged (List ℕ)) (sub : List ℕ → Places Stored)
    (checked : Checked m limit next depth test sub) (holder : ℕ) (e met met' : List ℕ) (h : Node limit next e) (name : is_name (name_of e) ≡ true) where
  directory_place : mode_of e ≡ mode_number mode.Directory → test holder e met ≡ Ok met' → PlacePassed m limit next (suc depth) (directory_at m sub e) e met met'
  directory_place is ok =
      let p = checked holder e met met' (directs_within limit next e h) ok in
      record {
        represented = record {
          blocks = (all_interleaved (Kept m limit) 7 (own_blocks (dir_of m e) (dir_stored m e) (sub (directs_of e))) (row_blocks (sub (directs_of e))) p.own p.places.blocks, tt);
          fits = (record { blocks = p.many; indirect = refl; slack = refl }, p.places.fits, tt);
          tidy = (name, p.here, p.places.tidy, tt);
          numbered = (h.qid, version_small limit next e h, p.places.numbered, tt);
          levels = omega (arith, p.places.levels);
        };
        encodes = directory_entry m limit next e (name_of e) h is refl;
        meets = grown_same p.meets (λ a. uses_deep a (name_of e) (dir_of m e) (dir_stored m e) (sub (directs_of e)));
      }

  node_passed : check_node m limit next test holder e met ≡ Ok met' → PlacePassed m limit next (suc depth) (place_from m sub e) e met met'
  node_passed ok = go (eqb (mode_of e) (mode_number mode.File)) refl ok
    where
      go : (t : Bool) → eqb (mode_of e) (mode_number mode.File) ≡ t → cond t (check_file m limit next holder e met) (test holder e met) ≡ Ok met' →
          PlacePassed m limit next (suc depth) (place_from m sub e) e met met'
      go true same ok =
          let is = eqb-true (mode_of e) (mode_number mode.File) same in
          subst (λ p. PlacePassed m limit next (suc depth) p e met met') (sym (from_file m sub e is))
          (file_place m holds limit next holder e h is met met' (file_passed m holds limit next holder e h is met met' ok) (suc depth) name (omega arith))
      go false other ok =
          let is = (directory_size (mode_of e) (size_of e) h.size (eqb-false (mode_of e) (mode_number mode.File) other)).0 in
          subst (λ p. PlacePassed m limit next (suc depth) p e met met') (sym (from_directory m sub e is)) (directory_place is ok)

directs_few : (e : List ℕ) → length (directs_of e) ≤ 6
directs_few e = omega (arith, length-map-range_with_len (λ i. direct_of i e) 0 (min 6 (blocks_for (size_of e))))

-- the name of a place that is not empty, and one that is met for the first time
named_by_entry : (m : BlockMap) (sub : List ℕ → Places Stored) (e n : List ℕ) → (mode_of e ≡ 0 → ⊥) → has_name n (place_from m sub e) ≡ bytes_eq n (name_of e)
named_by_entry m sub e n ne = ap (has_name n) (cond-false (eqb (mode_of e) 0) _ _ (ne_eqb (mode_of e) 0 ne)) ∙ go (eqb (mode_of e) (mode_number mode.File))
  where
    go : (t : Bool) → has_name n (cond t (file_at m e) (directory_at m sub e)) ≡ bytes_eq n (name_of e)
    go true = refl
    go false = refl

not_named : (n : List ℕ) (names : List (List ℕ)) → check.has_name n names ≡ false → count_by (bytes_eq n) names ≡ 0
not_named n [] h = refl
not_named n (x ∷ names) h =
    let both = or_parts (bytes_eq n x) (check.has_name n names) h in
    rw both.0 (omega (arith, not_named n names both.1))

-- the first n of the elements that were made of two lists, and those behind them
module _ {X Y : Type 0} (f : X → Y) (n : ℕ) (xs ys : List X) (long : length xs ≡ n) where
  front_made : take n (map f (xs ++ ys)) ≡ map f xs
  front_made = ap (take n) (map-append f xs ys) ∙ take_at (map f xs) (map f ys) n (length-map xs f ∙ long)

  back_made : drop n (map f (xs ++ ys)) ≡ map f ys
  back_made = ap (drop n) (map-append f xs ys) ∙ drop_at (map f xs) (map f ys) n (length-map xs f ∙ long)

-- the places of a directory, in which names may follow one another `depth` times; if they may have names, `test` checks directories
module _ (m : BlockMap) (holds : HoldsBytes m) (limit next depth : ℕ) (deeper : Bool) (test : ℕ → List ℕ → List ℕ → Judged (List ℕ)) (sub : List ℕ → Places Stored)
    (below : deeper ≡ true → (less : ℕ) × (depth ≡ suc less) × Checked m limit next less test sub) where
  abbrev place : List ℕ → Place Stored
  place e = place_from m sub e

  abbrev made : List ℕ → Entry
  made e = place_entry (place e)

  abbrev uses_in : ℕ → List (List ℕ) → ℕ
  uses_in a es = sum_by (λ e. uses a (place_blocks (place e))) es

  abbrev named_in : List ℕ → List (List ℕ) → ℕ
  named_in n es = sum_by (λ e. cond (has_name n (place e)) 1 0) es

  abbrev met_names : Met → List ℕ → ℕ
  met_names met n = count_by (bytes_eq n) met.names

  record PlacesPassed (es : List (List ℕ)) (met met' : Met) : Type 0 where
    pub each : AllByRecursion (λ e. Represented m limit next depth (put (place e) end)) es
    pub encode : AllByRecursion (λ e. entry_bytes (made e) ≡ e) es
    pub addresses : Meets met.addresses (λ a. uses_in a es) met'.addresses
    pub names : Grown (met_names met) (λ n. named_in n es) (met_names met')

  places_none : (met : Met) → PlacesPassed [] met met
  places_none met = record { each = tt; encode = tt; addresses = grown_none (λ a. refl); names = grown_none (λ n. refl) }

  places_more : (e : List ℕ) (es : List (List ℕ)) (met met₁ met' : Met) → PlacePassed m limit next depth (place e) e met.addresses met₁.addresses →
      Grown (met_names met) (λ n. cond (has_name n (place e)) 1 0) (met_names met₁) → PlacesPassed es met₁ met' → PlacesPassed (e ∷ es) met met'
  places_more e es met met₁ met' p names rest = record {
    each = (p.represented, rest.each);
    encode = (p.encodes, rest.encode);
    addresses = grown_then p.meets rest.addresses (λ a. sum_by-cons (λ e. uses a (place_blocks (place e))) e es);
    names = grown_then names rest.names (λ n. sum_by-cons (λ e. cond (has_name n (place e)) 1 0) e es);
  }

  empty_passed : (e : List ℕ) (met : Met) → Bytes72 e → legal_entry limit next e ≡ true → mode_of e ≡ 0 →
      PlacePassed m limit next depth (place e) e met.addresses met.addresses
  empty_passed e met sized legal is = subst (λ p. PlacePassed m limit next depth p e met.addresses met.addresses) (sym (from_empty m sub e is)) (record {
    represented = record { blocks = (tt, tt); fits = (tt, tt); tidy = (tt, tt); numbered = (tt, tt); levels = omega arith };
    encodes = empty_back limit next e sized legal is;
    meets = grown_none (λ a. refl);
  })

  place_passed : (holder : ℕ) (e : List ℕ) (met met₁ : Met) → Bytes72 e → legal_entry limit next e ≡ true → (mode_of e ≡ 0 → ⊥) → deeper ≡ true →
      check.has_name (name_of e) met.names ≡ false → check_place m limit next test holder e met ≡ Ok met₁ →
      PlacePassed m limit next depth (place e) e met.addresses met₁.addresses × Grown (met_names met) (λ n. cond (has_name n (place e)) 1 0) (met_names met₁)
  place_passed holder e met met₁ sized legal ne named_here new ok =
      let step = then_ok (check_node m limit next test holder e met.addresses) _ met₁ ok in
      let after = ok_same (record { addresses = step.0; names = name_of e ∷ met.names }) met₁ step.2 in
      let under = below named_here in
      let both = node limit next e sized legal ne in
      let one = node_passed m holds limit next under.0 test sub under.2 holder e met.addresses step.0 both.0 both.1 step.1 in
      let names = grown_one (met_names met) bytes_eq (name_of e) (λ x. (bytes_eq-Decides x (name_of e)).0) (not_named (name_of e) met.names new) in (
        subst (λ l. PlacePassed m limit next depth (place e) e met.addresses l) (ap (λ x. x.addresses) after)
            (subst (λ d. PlacePassed m limit next d (place e) e met.addresses step.0) (sym under.1) one),
        subst (λ x. Grown (met_names met) (λ n. cond (has_name n (place e)) 1 0) (met_names x)) after
            (grown_to (grown_same names (λ n. ap (λ t. cond t 1 0) (named_by_entry m sub e n ne))) (λ n. sum_by-cons (λ x. cond (bytes_eq n x) 1 0) (name_of e) met.names)),
      )

  places_passed : (holder : ℕ) (es : List (List ℕ)) (met met' : Met) → AllByRecursion Bytes72 es → check_places m limit next deeper test holder es met ≡ Ok met' → PlacesPassed es met met'
  places_passed holder [] met met' all ok = subst (PlacesPassed [] met) (ok_same met met' ok) (places_none met)
  places_passed holder (e ∷ es) met met' all ok =
      let legal = test_ok (legal_entry limit next e) _ holder met' ok in
      go legal.0 (λ met₁. places_passed holder es met₁ met' all.1) (eqb (mode_of e) 0) refl legal.1
    where
      go : legal_entry limit next e ≡ true → ((met₁ : Met) → check_places m limit next deeper test holder es met₁ ≡ Ok met' → PlacesPassed es met₁ met') →
          (t : Bool) → eqb (mode_of e) 0 ≡ t → cond t (check_places m limit next deeper test holder es met)
          (cond (deeper && not (check.has_name (name_of e) met.names))
          (and_then (check_place m limit next test holder e met) (check_places m limit next deeper test holder es)) (fails holder)) ≡ Ok met' →
          PlacesPassed (e ∷ es) met met'
      go legal rest true same h =
          let is = eqb-true (mode_of e) 0 same in
          places_more e es met met met' (empty_passed e met all.0 legal is)
          (grown_none (λ n. ap (λ p. cond (has_name n p) 1 0) (from_empty m sub e is))) (rest met h)
      go legal rest false other h =
          let tested = test_ok (deeper && not (check.has_name (name_of e) met.names)) _ holder met' h in
          let both = and_parts deeper (not (check.has_name (name_of e) met.names)) tested.0 in
          let step = then_ok (check_place m limit next test holder e met) _ met' tested.1 in
          let one = place_passed holder e met step.0 all.0 legal (eqb-false (mode_of e) 0 other) both.0 (not-true _ both.1) step.1 in
          places_more e es met step.0 met' one.0 one.1 (rest step.0 step.2)

  -- the blocks of a directory
  abbrev entries_at : ℕ → List (List ℕ)
  entries_at a = entries_of (bytes_of (m a))

  entries_back : (es : List (List ℕ)) → AllByRecursion (λ e. entry_bytes (made e) ≡ e) es → map entry_bytes (map made es) ≡ es
  entries_back [] h = refl
  entries_back (e ∷ es) h =
      let rest = entries_back es h.1 in
      let here = h.0 in
      cc

  record BlocksPassed (owner : ℕ) (l : List ℕ) (met : Met) (met' : List ℕ) : Type 0 where
    pub own : AllByRecursion (Kept m limit) (in_blocks (directory_content owner) 7 l (map made (flat_map entries_at l)))
    pub each : AllByRecursion (λ e. Represented m limit next depth (put (place e) end)) (flat_map entries_at l)
    pub many : length (flat_map entries_at l) ≡ 7 * length l
    pub addresses : Meets met.addresses (λ a. count a l + uses_in a (flat_map entries_at l)) met'
    pub names : ((n : List ℕ) → met_names met n ≤ 1) → (n : List ℕ) → met_names met n + named_in n (flat_map entries_at l) ≤ 1

  blocks_more : (owner a : ℕ) (l : List ℕ) (met met₁ : Met) (met₂ met' : List ℕ) → InRange limit a → Visited m (tag_number tag.Directory) owner a →
      Meets met.addresses (λ x. one x a) met₂ → PlacesPassed (entries_at a) (record { addresses = met₂; names = met.names }) met₁ → BlocksPassed owner l met₁ met' →
      BlocksPassed owner (a ∷ l) met met'
  blocks_more owner a l met met₁ met₂ met' within seen first places rest =
      let seven : length (entries_at a) ≡ 7 = length-map-range_with_len (λ k. entry_at k (bytes_of (m a))) 0 7 in
      let after = flat_map entries_at l in
      let stands : m a ≡ Ok (encoded (directory_content owner (take 7 (map made (entries_at a ++ after))))) =
      seen.reads ∙ ap Ok (sym (ap (λ es. encoded (directory_content owner es)) (front_made made 7 (entries_at a) after seven)
      ∙ directory_back owner (bytes_of (m a)) (map made (entries_at a)) seen.long seen.back (entries_back (entries_at a) places.encode))) in
      record {
        own = ((stands, within), subst (λ es. AllByRecursion (Kept m limit) (in_blocks (directory_content owner) 7 l es)) (sym (back_made made 7 (entries_at a) after seven)) rest.own);
        each = All-append _ (entries_at a) after places.each rest.each;
        many = length-append (entries_at a) after ∙ omega (arith, seven, rest.many);
        addresses = grown_then first (grown_then {more = λ x. uses_in x (entries_at a) + (count x l + uses_in x after)} places.addresses rest.addresses (λ x. refl))
            (λ x. omega (arith, sum_by-append (λ e. uses x (place_blocks (place e))) (entries_at a) after));
        names = λ before n. omega (arith, places.names.counted n, rest.names (places.names.once before) n, sum_by-append (λ e. cond (has_name n (place e)) 1 0) (entries_at a) after);
      }

  blocks_passed : (owner holder : ℕ) (l : List ℕ) (met : Met) (met' : List ℕ) → AllByRecursion (InRange limit) l →
      check_blocks m limit next deeper test owner holder l met ≡ Ok met' → BlocksPassed owner l met met'
  blocks_passed owner holder [] met met' within ok = record {
    own = tt;
    each = tt;
    many = refl;
    addresses = subst (λ l. Meets met.addresses (λ a. 0 + uses_in a []) l) (ok_same met.addresses met' ok) (grown_none (λ a. refl));
    names = λ before n. omega (arith, before n);
  }
  blocks_passed owner holder (a ∷ l) met met' within ok =
      let first = then_ok (meet holder a met.addresses) _ met' ok in
      let second = then_ok (visit m (tag_number tag.Directory) owner a) _ met' first.2 in
      let seen = visit_ok m holds (tag_number tag.Directory) owner a second.0 second.1 in
      let third = then_ok (check_places m limit next deeper test a (entries_of second.0) (record { addresses = first.0; names = met.names })) _ met' second.2 in
      let places = places_passed a (entries_at a) (record { addresses = first.0; names = met.names }) third.0 (entries_bytes (bytes_of (m a)) seen.0.long seen.0.bytes)
      (subst (λ b. check_places m limit next deeper test a (entries_of b) (record { addresses = first.0; names = met.names }) ≡ Ok third.0) seen.1 third.1) in
      blocks_more owner a l met third.0 first.0 met' within.0 seen.0 (met_once holder a met.addresses first.0 first.1) places
      (blocks_passed owner holder l third.0 met' within.1 third.2)

  -- all the blocks of a directory
  directory_passed : (owner holder : ℕ) (l met met' : List ℕ) → AllByRecursion (InRange limit) l → length l ≤ 6 →
      check_blocks m limit next deeper test owner holder l (record { addresses = met; names = [] }) ≡ Ok met' →
      DirectoryPassed m limit next depth owner l (places_from m sub (flat_map entries_at l)) met met'
  directory_passed owner holder l met met' within short ok =
      let p = blocks_passed owner holder l (record { addresses = met; names = [] }) met' within ok in
      let es = flat_map entries_at l in
      let c = places_from m sub es in
      let many : size c ≡ 7 * length l = size_from m sub es ∙ p.many in
      let plain : size (plain_of c) ≡ size c = map_size (λ w. tt) c in
      record {
        own = subst (λ xs. AllByRecursion (Kept m limit) (in_blocks (directory_content owner) 7 l xs)) (sym (entries_from m sub es)) p.own;
        places = represented_all m limit next depth sub es p.each;
        here = record {
          differ = λ n. omega (arith, named_plain n c, named_from m sub n es, p.names (λ x. omega arith) n);
          sevens = omega arith;
          few = omega arith;
        };
        many = many;
        meets = grown_same p.addresses (λ a. ap (λ k. count a l + k) (uses_from m sub a es));
      }

-- directories, to the depth that names may have
pub directory_checked : (m : BlockMap) → HoldsBytes m → (limit next depth : ℕ) → Checked m limit next depth (check_directory m limit next depth) (places_at m (suc depth))
directory_checked m holds limit next zero holder e met met' within ok =
    directory_passed m holds limit next 0 false (λ h e met. Ok met) (places_at m 0) (λ no. absurd (false≢true no)) (qid_of e) holder (directs_of e) met met' within (directs_few e) ok
directory_checked m holds limit next (suc depth) holder e met met' within ok =
    directory_passed m holds limit next (suc depth) true (check_directory m limit next depth) (places_at m (suc depth)) (λ yes. (depth, refl, directory_checked m holds limit next depth))
    (qid_of e) holder (directs_of e) met met' within (directs_few e) ok
