-- The check of a file that passes has met the blocks of the file that its entry decodes to.
use Rattle.std.proofs.Common.{◌≡◌, ℕ, ◌+◌, ◌-◌, ◌*◌, ◌<◌, ◌≤◌, min, Bool, true, false, cond, ltb, List, [], ◌∷◌, ◌++◌, length, get_or, take, drop, Ok, sym, refl, ap, ◌∙◌, subst, ⊎_elim, arith}
use Rattle.std.specs.List.{AllByRecursion}
use Rattle.std.proofs.lemmas.List.FromFn.{length-map-range_with_len}
use Rattle.std.proofs.ByRecursion.{All-append}
use Rattle.std.proofs.lemmas.List.{length-append, length-take, length-drop, take_all, take_at, drop_at, take-append-drop, append-nil, nil_from_length}
use Rattle.std.proofs.lemmas.Bool.{ltb-true, ltb-false, cases_lt}
use Rattle.plain.specs.Names.{is_name}
use Rattle.plain.specs.Trees.{File, file, Place, flat}
use Rattle.layout.specs.declared.block.Tag.TheVariants as tag
use Rattle.layout.specs.declared.entry.Mode.TheVariants as mode
use Rattle.layout.specs.Blocks.{tag_number, body_of, address_of}
use Rattle.layout.specs.Entries.{entry_bytes, mode_number, name_of, mode_of, qid_of, version_of, size_of, indirect_of, blocks_for}
use Rattle.trees.specs.Stored.{Stored, file_content, indirect_content, encoded, in_blocks, place_entry, place_blocks, count}
use Rattle.trees.specs.Represents.{BlockMap, InRange, indirect_for, FileFits}
use Rattle.trees.specs.Decoded.{bytes_of, directs_of, addresses_of, bodies_at, file_addresses, file_stored}
use Rattle.trees.specs.Lookups.{and_then, legal_indirect, visit, visit_indirect}
use Rattle.trees.specs.Checks.{meet, check_data, check_file}
use Rattle.trees.specs.Theorems.{HoldsBytes}
use Rattle.trees.proofs.Lists.{count_append}
use Rattle.trees.proofs.Nodes.{uses_file}
use Rattle.trees.proofs.Reencodes.{length_part, file_back, indirect_back, addresses_used}
use Rattle.trees.proofs.LegalEntries.{Node, entry_of, entry_back, file_size, directs_within, indirect_within, indirect_none, version_small}
use Rattle.trees.proofs.Represented.{PlacePassed}
use Rattle.trees.proofs.Visits.{then_ok, ok_same, grown_none, grown_then, grown_same, Meets, met_once, Visited, visit_ok, visit_judged, Kept}

-- the blocks of a file
module _ (m : BlockMap) (owner : ℕ) where
  abbrev Data : ℕ → Type 0
  Data a = Visited m (tag_number tag.File) owner a

  body_long : (a : ℕ) → Data a → length (body_of (bytes_of (m a))) ≡ 504
  body_long a v = length_part 0 504 (bytes_of (m a)) (omega (arith, v.long))

  bodies_long : (l : List ℕ) → AllByRecursion Data l → length (bodies_at m l) ≡ 504 * length l
  bodies_long [] h = refl
  bodies_long (a ∷ l) h = length-append (body_of (bytes_of (m a))) (bodies_at m l) ∙ omega (arith, body_long a h.0, bodies_long l h.1)

  data_kept : (limit : ℕ) (l : List ℕ) → AllByRecursion Data l → AllByRecursion (InRange limit) l → AllByRecursion (Kept m limit) (in_blocks (file_content owner) 504 l (bodies_at m l))
  data_kept limit [] h within = tt
  data_kept limit (a ∷ l) h within =
      let long = body_long a h.0 in
      let front = take_at (body_of (bytes_of (m a))) (bodies_at m l) 504 long in
      let stands = h.0.reads ∙ ap Ok (sym (ap (λ bs. encoded (file_content owner bs)) front ∙ file_back owner (bytes_of (m a)) h.0.long h.0.back)) in
      let rest = drop_at (body_of (bytes_of (m a))) (bodies_at m l) 504 long in
      ((stands, within.0), subst (λ xs. AllByRecursion (Kept m limit) (in_blocks (file_content owner) 504 l xs)) (sym rest) (data_kept limit l h.1 within.1))

module _ (m : BlockMap) (holds : HoldsBytes m) (limit next : ℕ) where
  data_passed : (owner holder : ℕ) (l met met' : List ℕ) → check_data m limit next owner holder l met ≡ Ok met' → AllByRecursion (Data m owner) l × Meets met (λ x. count x l) met'
  data_passed owner holder [] met met' h = (tt, subst (λ l. Meets met (λ x. 0) l) (ok_same met met' h) (grown_none (λ x. refl)))
  data_passed owner holder (a ∷ l) met met' h =
      let first = then_ok (meet holder a met) _ met' h in
      let second = then_ok (visit m (tag_number tag.File) owner a) _ met' first.2 in
      let rest = data_passed owner holder l first.0 met' second.2 in (
        ((visit_ok m holds (tag_number tag.File) owner a second.0 second.1).0, rest.0),
        grown_then (met_once holder a met first.0 first.1) rest.1 (λ x. refl),
      )

-- the file that an entry decodes to
module _ (m : BlockMap) (e : List ℕ) where
  abbrev file_of : File
  file_of = record { qid = qid_of e; version = version_of e; bytes = take (size_of e) (bodies_at m (file_addresses m e)) }

  abbrev pub file_at : Place Stored
  file_at = flat (file (name_of e) file_of (file_stored m e))

-- its check
module _ (m : BlockMap) (holds : HoldsBytes m) (limit next holder : ℕ) (e : List ℕ) (h : Node limit next e) (is : mode_of e ≡ mode_number mode.File) where
  abbrev blocks : ℕ
  blocks = blocks_for (size_of e)

  abbrev indirects : List ℕ
  indirects = take (indirect_for blocks) (indirect_of e ∷ [])

  few : blocks ≤ 132
  few = omega (arith, file_size (mode_of e) (size_of e) h.size is)

  -- the addresses that the indirect block names, if there is one
  abbrev addressed : List ℕ
  addressed = addresses_of (blocks - 6) (bytes_of (m (indirect_of e)))

  length_directs : length (directs_of e) ≡ min 6 blocks
  length_directs = length-map-range_with_len _ 0 (min 6 blocks)

  length_addressed : length addressed ≡ blocks - 6
  length_addressed = length-map-range_with_len _ 0 (blocks - 6)

  length_addresses : length (file_addresses m e) ≡ blocks
  length_addresses = length-append (directs_of e) addressed ∙ omega (arith, length_directs, length_addressed)

  all_direct : blocks ≤ 6 → file_addresses m e ≡ directs_of e
  all_direct le = ap (λ l. directs_of e ++ l) (nil_from_length addressed (omega (arith, length_addressed))) ∙ append-nil (directs_of e)

  no_indirect : blocks ≤ 6 → indirects ≡ []
  no_indirect le =
      let none : indirect_for blocks ≡ 0 = omega arith in
      ap (λ n. take n (indirect_of e ∷ [])) none

  one_indirect : 6 < blocks → indirects ≡ indirect_of e ∷ []
  one_indirect more =
      let one : indirect_for blocks ≡ 1 = omega (arith, few) in
      ap (λ n. take n (indirect_of e ∷ [])) one

  abbrev IndirectKept : List ℕ → Type 0
  IndirectKept l = AllByRecursion (Kept m limit) (in_blocks (indirect_content (qid_of e)) 126 l (drop 6 (file_addresses m e)))

  pub record FilePassed (met met' : List ℕ) : Type 0 where
    pub visited : AllByRecursion (Data m (qid_of e)) (file_addresses m e)
    pub within : AllByRecursion (InRange limit) (file_addresses m e)
    pub indirect : IndirectKept indirects
    pub meets : Meets met (λ a. count a (file_addresses m e) + count a indirects) met'

  passed_direct : (met met' : List ℕ) → blocks ≤ 6 → check_data m limit next (qid_of e) holder (directs_of e) met ≡ Ok met' → FilePassed met met'
  passed_direct met met' le ok =
      let first = data_passed m holds limit next (qid_of e) holder (directs_of e) met met' ok in
      record {
        visited = subst (AllByRecursion (Data m (qid_of e))) (sym (all_direct le)) first.0;
        within = subst (AllByRecursion (InRange limit)) (sym (all_direct le)) (directs_within limit next e h);
        indirect = subst IndirectKept (sym (no_indirect le)) tt;
        meets = grown_same first.1 (λ a. omega (arith, ap (count a) (all_direct le), ap (count a) (no_indirect le)));
      }

  passed_indirect : (met met₁ met₂ met' b : List ℕ) → 6 < blocks → meet holder (indirect_of e) met ≡ Ok met₁ → visit_indirect m limit next (qid_of e) blocks (indirect_of e) ≡ Ok b →
      check_data m limit next (qid_of e) holder (directs_of e) met₁ ≡ Ok met₂ → check_data m limit next (qid_of e) (indirect_of e) (addresses_of (blocks - 6) b) met₂ ≡ Ok met' →
      FilePassed met met'
  passed_indirect met met₁ met₂ met' b more met_ok visit_is direct_ok rest_ok =
      let seen = visit_judged m holds (tag_number tag.Indirect) (qid_of e) (indirect_of e) (legal_indirect limit (blocks - 6)) b visit_is in
      let first = data_passed m holds limit next (qid_of e) holder (directs_of e) met₁ met₂ direct_ok in
      let rest = data_passed m holds limit next (qid_of e) (indirect_of e) addressed met₂ met'
      (subst (λ x. check_data m limit next (qid_of e) (indirect_of e) (addresses_of (blocks - 6) x) met₂ ≡ Ok met') seen.2 rest_ok) in
      let front : take 126 (drop 6 (file_addresses m e)) ≡ addressed =
      ap (take 126) (drop_at (directs_of e) addressed 6 (omega (arith, length_directs))) ∙ take_all 126 addressed (omega (arith, few, length_addressed)) in
      let stands : m (indirect_of e) ≡ Ok (encoded (indirect_content (qid_of e) (take 126 (drop 6 (file_addresses m e))))) =
      seen.0.reads ∙ ap Ok (sym (ap (λ l. encoded (indirect_content (qid_of e) l)) front
      ∙ indirect_back limit (qid_of e) (blocks - 6) (bytes_of (m (indirect_of e))) (omega (arith, few)) seen.0.long seen.0.bytes seen.0.back seen.1)) in
      record {
        visited = All-append (Data m (qid_of e)) (directs_of e) addressed first.0 rest.0;
        within = All-append (InRange limit) (directs_of e) addressed (directs_within limit next e h)
            (addresses_used limit (blocks - 6) 126 (λ j. address_of j (bytes_of (m (indirect_of e)))) seen.1 (blocks - 6) (omega arith) (omega (arith, few)));
        indirect = subst IndirectKept (sym (one_indirect more)) ((stands, indirect_within limit next e h more), tt);
        meets = grown_then (met_once holder (indirect_of e) met met₁ met_ok)
            (grown_then {more = λ a. count a (file_addresses m e)} first.1 rest.1 (λ a. count_append a (directs_of e) addressed))
            (λ a. omega (arith, ap (count a) (one_indirect more)));
      }

  pub file_passed : (met met' : List ℕ) → check_file m limit next holder e met ≡ Ok met' → FilePassed met met'
  file_passed met met' ok = go (ltb 6 blocks) refl ok
    where
      go : (t : Bool) → ltb 6 blocks ≡ t → cond t
          (and_then (meet holder (indirect_of e) met) (λ met₁.
          and_then (visit_indirect m limit next (qid_of e) blocks (indirect_of e)) (λ b.
          and_then (check_data m limit next (qid_of e) holder (directs_of e) met₁) (λ met₂.
          check_data m limit next (qid_of e) (indirect_of e) (addresses_of (blocks - 6) b) met₂))))
          (check_data m limit next (qid_of e) holder (directs_of e) met) ≡ Ok met' → FilePassed met met'
      go true more k =
          let first = then_ok (meet holder (indirect_of e) met) _ met' k in
          let second = then_ok (visit_indirect m limit next (qid_of e) blocks (indirect_of e)) _ met' first.2 in
          let third = then_ok (check_data m limit next (qid_of e) holder (directs_of e) first.0) _ met' second.2 in
          passed_indirect met first.0 third.0 met' second.0 (ltb-true 6 blocks more) first.1 second.1 third.1 third.2
      go false less k = passed_direct met met' (ltb-false 6 blocks less) k

  module _ (met met' : List ℕ) (p : FilePassed met met') where
    bodies : length (bodies_at m (file_addresses m e)) ≡ 504 * blocks
    bodies = bodies_long m (qid_of e) (file_addresses m e) p.visited ∙ ap (λ n. 504 * n) length_addresses

    length_bytes : length (take (size_of e) (bodies_at m (file_addresses m e))) ≡ size_of e
    length_bytes = length-take (size_of e) (bodies_at m (file_addresses m e)) ∙ omega (arith, bodies)

    fits : FileFits (file_of m e) (file_stored m e)
    fits = record {
      blocks = length_addresses ∙ ap blocks_for (sym length_bytes);
      indirect = length-take (indirect_for blocks) (indirect_of e ∷ []) ∙ omega (arith, few, length_addresses);
      slack = omega (arith, length_bytes, length-drop (size_of e) (bodies_at m (file_addresses m e)), bodies, length_addresses);
    }

    indirect_is : get_or indirects 0 0 ≡ indirect_of e
    indirect_is = ⊎_elim (λ (more : 6 < blocks). ap (λ l. get_or l 0 0) (one_indirect more))
        (λ (le : blocks ≤ 6). ap (λ l. get_or l 0 0) (no_indirect le) ∙ sym (indirect_none limit next e h le)) (cases_lt 6 blocks)

    direct_is : take 6 (file_addresses m e) ≡ directs_of e
    direct_is = ⊎_elim (λ (more : 6 < blocks). take_at (directs_of e) addressed 6 (omega (arith, length_directs)))
        (λ (le : blocks ≤ 6). take_all 6 (file_addresses m e) (omega (arith, length_addresses)) ∙ all_direct le) (cases_lt 6 blocks)

    entry_is : place_entry (file_at m e) ≡ entry_of e
    entry_is = λ i. record { name = name_of e; mode = sym is i; qid = qid_of e; version = version_of e; size = length_bytes i; direct = direct_is i; indirect = indirect_is i }

    kept : AllByRecursion (Kept m limit) (place_blocks (file_at m e))
    kept = All-append (Kept m limit) _ _
        (subst (λ bs. AllByRecursion (Kept m limit) (in_blocks (file_content (qid_of e)) 504 (file_addresses m e) bs)) (sym (take-append-drop (size_of e) (bodies_at m (file_addresses m e))))
        (data_kept m (qid_of e) limit (file_addresses m e) p.visited p.within))
        p.indirect

    pub file_place : (depth : ℕ) → is_name (name_of e) ≡ true → 0 < depth → PlacePassed m limit next depth (file_at m e) e met met'
    file_place depth name low = record {
      represented = record {
        blocks = (kept, tt);
        fits = (fits, tt);
        tidy = ((name, omega (arith, length_bytes, file_size (mode_of e) (size_of e) h.size is)), tt);
        numbered = ((h.qid, version_small limit next e h), tt);
        levels = omega arith;
      };
      encodes = ap entry_bytes entry_is ∙ entry_back limit next e h;
      meets = grown_same p.meets (λ a. uses_file a (name_of e) (file_of m e) (file_stored m e));
    }
