-- The tree with another place for "/", by what the plain tree sees of that place.
use Rattle.std.proofs.Common.{◌≡◌, ℕ, List, [], ◌∷◌, ◌++◌, length, Some, None, Option, sym, refl, ap, arith, length-append}
use Rattle.std.proofs.lemmas.Bool.{false≢true}
use Rattle.plain.specs.Trees as plain
use Rattle.plain.specs.Trees.{Dir, Leaf, Places, Place, flat, deep, put, frees, slash, Tree, walk}
use Rattle.trees.specs.Stored.{Stored, map_places, map_place, StoredTree, root_place, whole, erase}
use Rattle.trees.specs.Plans.{Plan, with_root, alter, altered, on_path}
use Rattle.trees.proofs.Erased.{map_walk}

abbrev pub erased : {W : Type 0} → Place W → Place (Unit {0})
erased p = map_place (λ w. tt) p

flat_root : {X : Type 0} (l : Leaf Stored) (v : Tree) → erased (flat l) ≡ plain.root_place v → X
flat_root l v e = absurd (false≢true cc)

pub root_top : (t : StoredTree) (next : ℕ) (q : Place Stored) → (with_root t next q).top ≡ t.top
root_top t next (flat l) = refl
root_top t next (deep n d w c) = refl

pub root_erased : (t : StoredTree) (next : ℕ) (q : Place Stored) (v : Tree) → erased q ≡ plain.root_place v → v.next_qid ≡ next → erase (with_root t next q) ≡ v
root_erased t next (flat l) v e h = flat_root l v e
root_erased t next (deep n d w c) v e h =
    let root : d ≡ v.root = cc in
    let places : map_places (λ w. tt) c ≡ v.places = cc in
    (λ i. record { root = root i; places = places i; next_qid = sym h i })

pub root_whole : (t : StoredTree) (ns : List (List ℕ)) (f : Place Stored → Place Stored) (next : ℕ) (v : Tree) → erased (alter ns f (root_place t)) ≡ plain.root_place v →
    whole (altered t ns f next) ≡ alter (slash ∷ ns) f (whole t)
root_whole t ns f next v e = go (alter ns f (root_place t)) e
  where
    go : (q : Place Stored) → erased q ≡ plain.root_place v →
        whole (with_root t next q) ≡ deep [] (record { qid = 0; version = 0 }) (record { blocks = t.top ∷ []; indirect = []; slack = [] }) (put q (frees 6))
    go (flat l) e = flat_root l v e
    go (deep n d w c) e =
        let name : slash ≡ n = cc in
        ap (λ x. deep [] (record { qid = 0; version = 0 }) (record { blocks = t.top ∷ []; indirect = []; slack = [] }) (plain.dir x d w c (frees 6))) name

-- a path with at least one name
pub on_names_lem : (t : StoredTree) (P : Plan → Type 0) (plan : List ℕ → List (List ℕ) → Plan) (o : Option (List (List ℕ))) (ns : List (List ℕ)) (n : List ℕ) → o ≡ Some (ns ++ n ∷ []) →
    ((x : List ℕ) (xs : List (List ℕ)) → x ∷ xs ≡ ns ++ n ∷ [] → P (plan x xs)) → P (on_path t o plan)
on_names_lem t P plan None ns n e h = absurd (false≢true cc)
on_names_lem t P plan (Some []) ns n e h = let e' : [] ≡ ns ++ n ∷ [] = cc in absurd (omega (arith, ap length e', length-append ns (n ∷ [])))
on_names_lem t P plan (Some (x ∷ xs)) ns n e h = h x xs (cc)

-- what the plain tree finds where names lead
pub erased_walk : (t : StoredTree) (ns : List (List ℕ)) → erased (walk ns (root_place t)) ≡ walk ns (plain.root_place (erase t))
erased_walk t ns = map_walk (λ w. tt) ns (root_place t)
