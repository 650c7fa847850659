-- The worked example is what the definitions make of it.
use Rattle.std.proofs.Common.{◌≡◌, ℕ, ◌<◌, Bool, true, false, cond, ◌&&◌, eqb, ltb, List, [], ◌∷◌, length, Ok, refl, subst, arith}
use Rattle.std.specs.List.{list_all, AllByRecursion}
use Rattle.std.proofs.lemmas.Bool.{false≢true, and_parts, ltb-true, eqb-true}
use Rattle.layout.specs.Numbers.{bytes16, bytes32, number16, number32, fit}
use Rattle.layout.specs.Blocks.{legal_pad, block, file_block, indirect_block}
use Rattle.layout.specs.Entries.{entry_bytes, directory_block, legal_addresses, legal_name_field, legal_entry}
use Rattle.trees.specs.Represents.{Represents}
use Rattle.trees.specs.Theorems.{HoldsBytes, Checks}
use Rattle.trees.specs.Vectors.{example, example_blocks, holding, example_map, Vectors}

pub vectors : Vectors
unfolding bytes16 bytes32 number16 number32 fit legal_pad block file_block indirect_block entry_bytes directory_block legal_addresses legal_name_field legal_entry
vectors = record {
  post_order = refl;
  stand = (refl, (refl, (refl, (refl, (refl, (refl, (refl, (refl, (refl, (refl, (refl, (refl, (refl, tt)))))))))))));
  decoded = refl;
  checked = refl;
  stat_root = refl;
  stat_second_block = refl;
  stat_no_name = refl;
  stat_below_file = refl;
  entry_second_block = refl;
  entry_past_end = refl;
  read_indirect = refl;
  read_across = refl;
  read_no_slack = refl;
  spoiled_check = refl;
  spoiled_read = refl;
  spoiled_aside = refl;
  wrong_owner = refl;
  named_twice = refl;
  same_name = refl;
  qid_not_given = refl;
  address_at_limit = refl;
  writes_last = refl;
  writes_across = refl;
  writes_more = refl;
  writes_first = refl;
  writes_decoded = refl;
  writes_plain = refl;
  makes = refl;
  makes_below = refl;
  makes_first = refl;
  removes_file = refl;
  removes_directory = refl;
}

-- the example's map holds blocks of 512 bytes
bytes_below : (l : List ℕ) → list_all (λ x. ltb x 256) l ≡ true → AllByRecursion (λ x. x < 256) l
bytes_below [] h = tt
bytes_below (x ∷ l) h = let p = and_parts (ltb x 256) (list_all (λ y. ltb y 256) l) h in (ltb-true x 256 p.0, bytes_below l p.1)

abbrev is_block : List ℕ → Bool
is_block b = eqb (length b) 512 && list_all (λ x. ltb x 256) b

holds_bytes : (bs : List (ℕ × List ℕ)) → list_all (λ b. is_block b.1) bs ≡ true → HoldsBytes (holding bs)
holds_bytes [] h a b e = absurd (false≢true cc)
holds_bytes (x ∷ bs) h a b e =
    let p = and_parts (is_block x.1) (list_all (λ y. is_block y.1) bs) h in
    by (eqb a x.0) (and_parts (eqb (length x.1) 512) (list_all (λ y. ltb y 256) x.1) p.0) (holds_bytes bs p.1 a b) e
  where
    by : (t : Bool) → (eqb (length x.1) 512 ≡ true) × (list_all (λ y. ltb y 256) x.1 ≡ true) → (holding bs a ≡ Ok b → (length b ≡ 512) × AllByRecursion (λ y. y < 256) b) →
        cond t (Ok x.1) (holding bs a) ≡ Ok b → (length b ≡ 512) × AllByRecursion (λ y. y < 256) b
    by true q rest e =
        let same : x.1 ≡ b = cc in
        subst (λ l. (length l ≡ 512) × AllByRecursion (λ y. y < 256) l) same (eqb-true (length x.1) 512 q.0, bytes_below x.1 q.1)
    by false q rest e = rest e

-- a check that passes meets the blocks of a tree, so the map stands for the example
pub represented : Checks → Represents example_map 65536 example
represented checks =
    subst (Represents example_map 65536) vectors.decoded
    (checks.sound example_map 65536 11 2 _ (holds_bytes example_blocks refl) (omega arith) (omega arith) (omega arith, omega arith) vectors.checked).0
