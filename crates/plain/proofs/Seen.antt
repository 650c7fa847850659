-- What read, stat and entry answer, from the sight of a place.
use Rattle.std.proofs.Common.{◌≡◌, ℕ, zero, suc, ◌*◌, cond, leb, List, [], length, get_or, take, drop, Some, Ok, Err, Result, sym, refl, ap, ◌∙◌}
use Rattle.plain.specs.Paths.{path_of}
use Rattle.plain.specs.Trees.{free, file, end, leaf, dir, Place, flat, deep, at, size, name_at, walk, Tree, Plain, root_place}
use Rattle.plain.specs.Operations.{Stat, at_path, read_at, stat_at, entry_at}
use Rattle.plain.specs.Laws.{Sight, nothing, a_file, a_dir, sight, names_at, see, SightLaws}

names_size : (c : Plain) → size c ≡ length (names_at c)
names_size end = refl
names_size (leaf l k) = ap suc (names_size k)
names_size (dir n d w c k) = ap suc (names_size k)

names_at_lem : (c : Plain) (k : ℕ) → name_at (at c k) ≡ get_or (names_at c) k []
names_at_lem end k = refl
names_at_lem (leaf l c) zero = refl
names_at_lem (leaf l c) (suc k) = names_at_lem c k
names_at_lem (dir n d w e c) zero = refl
names_at_lem (dir n d w e c) (suc k) = names_at_lem c k

abbrev read_sight : ℕ → ℕ → Sight → Result (List ℕ) ℕ
read_sight off n nothing = Err 14
read_sight off n (a_file f) = Ok (take n (drop off f.bytes))
read_sight off n (a_dir d names) = Err 15

abbrev stat_sight : Sight → Result Stat ℕ
stat_sight nothing = Err 14
stat_sight (a_file f) = Ok (record { mode = 0x8000; qid = f.qid; version = f.version; size = length f.bytes })
stat_sight (a_dir d names) = Ok (record { mode = 0xc000; qid = d.qid; version = d.version; size = 72 * length names })

abbrev entry_sight : ℕ → Sight → Result (List ℕ) ℕ
entry_sight k nothing = Err 14
entry_sight k (a_file f) = Err 15
entry_sight k (a_dir d names) = cond (leb k 41) (Ok (get_or names k [])) (Err 17)

read_seen : (off n : ℕ) (p : Place (Unit {0})) → read_at off n p ≡ read_sight off n (sight p)
read_seen off n (flat free) = refl
read_seen off n (flat (file m f w)) = refl
read_seen off n (deep m d w c) = refl

stat_seen : (p : Place (Unit {0})) → stat_at p ≡ stat_sight (sight p)
stat_seen (flat free) = refl
stat_seen (flat (file m f w)) = refl
stat_seen (deep m d w c) = ap (λ n. Ok (record { mode = 0xc000; qid = d.qid; version = d.version; size = 72 * n })) (names_size c)

entry_seen : (k : ℕ) (p : Place (Unit {0})) → entry_at k p ≡ entry_sight k (sight p)
entry_seen k (flat free) = refl
entry_seen k (flat (file m f w)) = refl
entry_seen k (deep m d w c) = ap (λ n. cond (leb k 41) (Ok n) (Err 17)) (names_at_lem c k)

-- a query by its sight, at a path of two trees
module _ {X : Type 0} (f : Place (Unit {0}) → Result X ℕ) (g : Sight → Result X ℕ) (seen : (p : Place (Unit {0})) → f p ≡ g (sight p)) where
  same_answer : (path : List ℕ) (ns : List (List ℕ)) (t u : Tree) → path_of path ≡ Some ns → see ns t ≡ see ns u → at_path path t f ≡ at_path path u f
  same_answer path ns t u is e = at_names t ∙ seen (walk ns (root_place t)) ∙ ap g e ∙ sym (seen (walk ns (root_place u))) ∙ sym (at_names u)
    where
      at_names : (t : Tree) → at_path path t f ≡ f (walk ns (root_place t))
      at_names t = rw (is, at_path)

pub sight_laws : SightLaws
sight_laws = record {
  reads = λ path ns off n t u is e. same_answer (read_at off n) (read_sight off n) (read_seen off n) path ns t u is e;
  stats = λ path ns t u is e. same_answer stat_at stat_sight stat_seen path ns t u is e;
  entries = λ path ns k t u is e. same_answer (entry_at k) (entry_sight k) (entry_seen k) path ns t u is e;
}
