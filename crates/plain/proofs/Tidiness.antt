-- Tidy directories, and how a change in one keeps all of them tidy.
use Rattle.std.proofs.Common.{◌≡◌, ℕ, zero, suc, ◌+◌, ◌%◌, ◌<◌, true, cond, leb, List, [], ◌∷◌, length, set, sym, refl, ap, ◌∙◌, subst, arith}
use Rattle.std.specs.List.{list_all}
use Rattle.std.proofs.lemmas.List.{length-set}
use Rattle.std.proofs.lemmas.Bool.{false≢true, and_parts, leb-true}
use Rattle.plain.specs.Names.{name_byte, is_name}
use Rattle.plain.specs.Trees.{Dir, free, file, end, leaf, dir, Place, flat, deep, put, at, set_at, size, find, has_name, named, walk, modify, Plain}
use Rattle.plain.specs.Laws.{TidyDir, TidyLeaf, TidyBelow}
use Rattle.std.specs.List.{count_by}
use Rattle.std.proofs.lemmas.List.Sums.{sum_by-set}
use Rattle.plain.proofs.Rows.{row, row_at, row_size, row_set, row_named}
use Rattle.plain.proofs.Walking.{walk_flat, found_within, modify_step}
use Rattle.plain.proofs.Filling.{Named}

abbrev pub TidyPlace : Place (Unit {0}) → Type 0
TidyPlace (flat l) = TidyLeaf l
TidyPlace (deep n d w c) = (is_name n ≡ true) × TidyDir c × TidyBelow c

pub tidy_at : (c : Plain) (i : ℕ) → TidyBelow c → TidyPlace (at c i)
tidy_at end i h = tt
tidy_at (leaf l k) zero h = h.0
tidy_at (leaf l k) (suc i) h = tidy_at k i h.1
tidy_at (dir n d w c k) zero h = (h.0, h.1, h.2)
tidy_at (dir n d w c k) (suc i) h = tidy_at k i h.3

tidy_put : (p : Place (Unit {0})) (k : Plain) → TidyPlace p → TidyBelow k → TidyBelow (put p k)
tidy_put (flat l) k p h = (p, h)
tidy_put (deep n d w c) k p h = (p.0, p.1, p.2, h)

pub tidy_set : (c : Plain) (i : ℕ) (p : Place (Unit {0})) → TidyBelow c → TidyPlace p → TidyBelow (set_at c i p)
tidy_set end i p h q = tt
tidy_set (leaf l k) zero p h q = tidy_put p k q h.1
tidy_set (leaf l k) (suc i) p h q = (h.0, tidy_set k i p h.1 q)
tidy_set (dir n d w c k) zero p h q = tidy_put p k q h.3
tidy_set (dir n d w c k) (suc i) p h q = (h.0, h.1, h.2, tidy_set k i p h.3 q)

pub name_long : (n : List ℕ) → is_name n ≡ true → 0 < length n
name_long n e = leb-true 1 (length n) (and_parts (leb 1 (length n)) (leb (length n) 27) (and_parts _ (list_all name_byte n) e).0).0

pub tidy_named : (c : Plain) → TidyBelow c → Named (row c)
tidy_named end h = tt
tidy_named (leaf free k) h = tidy_named k h.1
tidy_named (leaf (file n f w) k) h = (name_long n h.0.0, tidy_named k h.1)
tidy_named (dir n d w c k) h = (name_long n h.0, tidy_named k h.3)

pub size_set : (c : Plain) (i : ℕ) (p : Place (Unit {0})) → size (set_at c i p) ≡ size c
size_set c i p = row_size (set_at c i p) ∙ ap length (row_set c i p) ∙ length-set (row c) i p ∙ sym (row_size c)

-- how often a name is there when one place changes
pub named_set : (x : List ℕ) (c : Plain) (i : ℕ) (p : Place (Unit {0})) → i < size c → named x (set_at c i p) + cond (has_name x (at c i)) 1 0 ≡ named x c + cond (has_name x p) 1 0
named_set x c i p h =
    ap (λ n. n + cond (has_name x (at c i)) 1 0) (row_named x (set_at c i p) ∙ ap (count_by (has_name x)) (row_set c i p))
    ∙ ap (λ q. count_by (has_name x) (set (row c) i p) + cond (has_name x q) 1 0) (row_at c i)
    ∙ sum_by-set (λ q. cond (has_name x q) 1 0) (row c) i p (flat free) (rw (← row_size c) h)
    ∙ ap (λ n. n + cond (has_name x p) 1 0) (sym (row_named x c))

-- a place with the same name
pub tidy_same : (c : Plain) (i : ℕ) (p : Place (Unit {0})) → i < size c → ((x : List ℕ) → has_name x p ≡ has_name x (at c i)) → TidyDir c → TidyDir (set_at c i p)
tidy_same c i p h same t = record {
  differ = λ x. omega (arith, t.differ x, named_set x c i p h, ap {B = ℕ} (λ b. cond b 1 0) (same x));
  sevens = ap (λ n. n % 7) (size_set c i p) ∙ t.sevens;
  few = rw (size_set c i p) t.few;
}

-- what names lead to in a tidy tree is tidy
pub tidy_walk : (ns : List (List ℕ)) (m : List ℕ) (d : Dir) (c : Plain) (m₁ : List ℕ) (d₁ : Dir) (c₁ : Plain) → walk ns (deep m d tt c) ≡ deep m₁ d₁ tt c₁ → TidyDir c → TidyBelow c → TidyDir c₁ × TidyBelow c₁
tidy_walk [] m d c m₁ d₁ c₁ is t b = let e : c ≡ c₁ = cc in (subst TidyDir e t, subst TidyBelow e b)
tidy_walk (n ∷ ns) m d c m₁ d₁ c₁ is t b = go (at c (find n c)) (tidy_at c (find n c) b) is (λ m d c. tidy_walk ns m d c m₁ d₁ c₁)
  where
    go : (p : Place (Unit {0})) → TidyPlace p → walk ns p ≡ deep m₁ d₁ tt c₁ →
        ((m : List ℕ) (d : Dir) (c : Plain) → walk ns (deep m d tt c) ≡ deep m₁ d₁ tt c₁ → TidyDir c → TidyBelow c → TidyDir c₁ × TidyBelow c₁) → TidyDir c₁ × TidyBelow c₁
    go (flat l) p is ih = absurd (walk_flat ns l m₁ d₁ tt c₁ is)
    go (deep m₂ d₂ tt e) p is ih = ih m₂ d₂ e is p.1 p.2

pub tidy_modify : (f : Plain → Plain) (ns : List (List ℕ)) (m : List ℕ) (d : Dir) (c : Plain) (m₁ : List ℕ) (d₁ : Dir) (c₁ : Plain) → walk ns (deep m d tt c) ≡ deep m₁ d₁ tt c₁ →
    TidyDir c → TidyBelow c → TidyDir (f c₁) → TidyBelow (f c₁) → TidyDir (modify ns f c) × TidyBelow (modify ns f c)
tidy_modify f [] m d c m₁ d₁ c₁ is t b t₁ b₁ = let e : f c₁ ≡ f c = ap f (cc) in (subst TidyDir e t₁, subst TidyBelow e b₁)
tidy_modify f (n ∷ ns) m d c m₁ d₁ c₁ is t b t₁ b₁ = go (at c (find n c)) refl (tidy_at c (find n c) b) is (λ m d c. tidy_modify f ns m d c m₁ d₁ c₁)
  where
    go : (p : Place (Unit {0})) → at c (find n c) ≡ p → TidyPlace p → walk ns p ≡ deep m₁ d₁ tt c₁ →
        ((m : List ℕ) (d : Dir) (c : Plain) → walk ns (deep m d tt c) ≡ deep m₁ d₁ tt c₁ → TidyDir c → TidyBelow c → TidyDir (f c₁) → TidyBelow (f c₁) → TidyDir (modify ns f c) × TidyBelow (modify ns f c)) →
        TidyDir (modify (n ∷ ns) f c) × TidyBelow (modify (n ∷ ns) f c)
    go (flat l) at_n p is ih = absurd (walk_flat ns l m₁ d₁ tt c₁ is)
    go (deep m₂ d₂ tt e) at_n p is ih =
        let s = modify_step n ns f c m₂ d₂ tt e at_n in
        let h = ih m₂ d₂ e is p.1 p.2 t₁ b₁ in
        let q = deep m₂ d₂ tt (modify ns f e) in
        let g = found_within n c (λ z. let y : deep m₂ d₂ tt e ≡ flat free = sym at_n ∙ z in false≢true cc) in (
          subst TidyDir (sym s) (tidy_same c (find n c) q g.0 (λ x. ap (has_name x) (sym at_n)) t),
          subst TidyBelow (sym s) (tidy_set c (find n c) q b (p.0, h.0, h.1)),
        )
