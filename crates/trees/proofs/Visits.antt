-- Steps of a check that passed: what was met for the first time, and the blocks that were visited.
use Rattle.std.proofs.Common.{◌≡◌, ℕ, ◌+◌, ◌≤◌, Bool, true, false, cond, eqb, List, [], ◌∷◌, length, Ok, Err, Result, sym, refl, ap, ◌∙◌, subst, arith}
use Rattle.std.proofs.lemmas.Bool.{false≢true, or_parts, eqb-true}
use Rattle.device.specs.Refusals.{Refusal}
use Rattle.layout.specs.Blocks.{body_of, block}
use Rattle.trees.specs.Stored.{Block, count}
use Rattle.trees.specs.Represents.{BlockMap, Stands, InRange}
use Rattle.trees.specs.Decoded.{bytes_of}
use Rattle.trees.specs.Lookups.{Judged, fails, and_then, legal_ends, read, judged, visit}
use Rattle.trees.specs.Checks.{is_in, meet}
use Rattle.trees.specs.Theorems.{HoldsBytes}
use Rattle.trees.proofs.Lists.{one}
use Rattle.trees.proofs.Reencodes.{Bytes, block_back}

pub then_ok : {X Y : Type 0} (x : Judged X) (f : X → Judged Y) (y : Y) → and_then x f ≡ Ok y → (v : X) × (x ≡ Ok v) × (f v ≡ Ok y)
then_ok (Ok v) f y h = (v, refl, h)
then_ok (Err e) f y h = absurd (false≢true cc)

pub test_ok : {X : Type 0} (t : Bool) (x : Judged X) (a : ℕ) (y : X) → cond t x (fails a) ≡ Ok y → (t ≡ true) × (x ≡ Ok y)
test_ok true x a y h = (refl, h)
test_ok false x a y h = absurd (false≢true cc)

pub ok_same : {X : Type 0} (x y : X) → ◌≡◌ {A = Judged X} (Ok x) (Ok y) → x ≡ y
ok_same x y h = cc

-- How often something is there, before and after more is put there: it is there at most once after, if it was before.
pub record Grown {X : Type 0} (before more after : X → ℕ) : Type 0 where
  pub counted : (x : X) → after x ≡ before x + more x
  pub once : ((x : X) → before x ≤ 1) → (x : X) → after x ≤ 1

module _ {X : Type 0} where
  pub grown_none : {f g : X → ℕ} → ((x : X) → g x ≡ 0) → Grown f g f
  grown_none none = record { counted = λ x. omega (arith, none x); once = λ h. h }

  pub grown_to : {f g h k : X → ℕ} → Grown f g h → ((x : X) → k x ≡ h x) → Grown f g k
  grown_to p same = record { counted = λ x. same x ∙ p.counted x; once = λ low x. rw same (p.once low x) }

  pub grown_then : {f g h g' k more : X → ℕ} → Grown f g h → Grown h g' k → ((x : X) → more x ≡ g x + g' x) → Grown f more k
  grown_then p q sum = record { counted = λ x. omega (arith, p.counted x, q.counted x, sum x); once = λ before. q.once (p.once before) }

  pub grown_same : {f g g' h : X → ℕ} → Grown f g h → ((x : X) → g' x ≡ g x) → Grown f g' h
  grown_same p same = record { counted = λ x. omega (arith, p.counted x, same x); once = p.once }

  -- one thing that was not there
  pub grown_one : (f : X → ℕ) (test : X → X → Bool) (a : X) → ((x : X) → test x a ≡ true → x ≡ a) → f a ≡ 0 →
      Grown f (λ x. cond (test x a) 1 0) (λ x. cond (test x a) 1 0 + f x)
  grown_one f test a same none = record { counted = λ x. omega arith; once = λ before x. go x before (test x a) refl }
    where
      go : (x : X) → ((x : X) → f x ≤ 1) → (t : Bool) → test x a ≡ t → cond t 1 0 + f x ≤ 1
      go x before true is = omega (arith, ap f (same x is))
      go x before false is = omega (arith, before x)

-- the addresses of one list, and more, are in another
abbrev pub Meets : List ℕ → (ℕ → ℕ) → List ℕ → Type 0
Meets met more met' = Grown (λ a. count a met) more (λ a. count a met')

not_in : (a : ℕ) (l : List ℕ) → is_in a l ≡ false → count a l ≡ 0
not_in a [] h = refl
not_in a (b ∷ l) h =
    let both = or_parts (eqb a b) (is_in a l) h in
    rw both.0 (omega (arith, not_in a l both.1))

pub met_once : (holder a : ℕ) (met met' : List ℕ) → meet holder a met ≡ Ok met' → Meets met (λ x. one x a) met'
met_once holder a met met' h = go (is_in a met) refl h
  where
    go : (t : Bool) → is_in a met ≡ t → cond t (fails holder) (Ok (a ∷ met)) ≡ Ok met' → Meets met (λ x. one x a) met'
    go true new e = absurd (false≢true cc)
    go false new e = subst (Meets met (λ x. one x a)) (ok_same (a ∷ met) met' e) (grown_one (λ x. count x met) eqb a (λ x. eqb-true x a) (not_in a met new))

-- a block that was read and has legal ends
pub record Visited (m : BlockMap) (tag owner a : ℕ) : Type 0 where
  pub reads : m a ≡ Ok (bytes_of (m a))
  pub long : length (bytes_of (m a)) ≡ 512
  pub bytes : Bytes (bytes_of (m a))
  pub back : block tag owner (body_of (bytes_of (m a))) ≡ bytes_of (m a)

was_read : (r : Result (List ℕ) Refusal) (a : ℕ) (b : List ℕ) → read r a ≡ Ok b → r ≡ Ok b
was_read (Ok x) a b h = ap Ok (ok_same x b h)
was_read (Err f) a b h = absurd (false≢true cc)

pub visit_ok : (m : BlockMap) → HoldsBytes m → (tag owner a : ℕ) (b : List ℕ) → visit m tag owner a ≡ Ok b → Visited m tag owner a × (b ≡ bytes_of (m a))
visit_ok m holds tag owner a b h =
    let step = then_ok (read (m a) a) (λ b. judged (legal_ends tag owner b) a b) b h in
    let is = was_read (m a) a step.0 step.1 in
    let test = test_ok (legal_ends tag owner step.0) (Ok step.0) a b step.2 in
    let same : step.0 ≡ bytes_of (m a) = sym (ap bytes_of is) in
    let held = holds a step.0 is in (
      record {
        reads = is ∙ ap Ok same;
        long = subst (λ x. length x ≡ 512) same held.0;
        bytes = subst Bytes same held.1;
        back = subst (λ x. block tag owner (body_of x) ≡ x) same (block_back tag owner step.0 held.0 held.1 test.0);
      },
      sym (ok_same step.0 b test.1) ∙ same,
    )

-- the same with one more test
pub visit_judged : (m : BlockMap) → HoldsBytes m → (tag owner a : ℕ) (test : List ℕ → Bool) (b : List ℕ) → and_then (visit m tag owner a) (λ b. judged (test b) a b) ≡ Ok b →
    Visited m tag owner a × (test (bytes_of (m a)) ≡ true) × (b ≡ bytes_of (m a))
visit_judged m holds tag owner a test b h =
    let step = then_ok (visit m tag owner a) (λ b. judged (test b) a b) b h in
    let passed = test_ok (test step.0) (Ok step.0) a b step.2 in
    let seen = visit_ok m holds tag owner a step.0 step.1 in
    (seen.0, subst (λ x. test x ≡ true) seen.1 passed.0, sym (ok_same step.0 b passed.1) ∙ seen.1)

-- a block that stands at an address in range
abbrev pub Kept : BlockMap → ℕ → Block → Type 0
Kept m limit b = Stands m b × InRange limit b.address
