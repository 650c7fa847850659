-- What writes to parts of a slice leave.
use Rattle.std.proofs.Common.{◌≡◌, ℕ, ◌+◌, ◌-◌, ◌*◌, ◌<◌, ◌≤◌, ◌⊎◌, List, [], ◌∷◌, ◌++◌, length, get_or, take, drop, sym, refl, ap, ◌∙◌, ⊎_elim, zero-add, arith}
use Rattle.std.specs.List.{flat_map}
use borrow.Rule.Slice.PartMut.{put_mid}
use Rattle.std.proofs.lemmas.List.{append_assoc, append-nil, length-append, length-take-le, drop-drop, drop_all, drop_at, drop-take, drop-append-le, take_at, take-append-le, take-append-drop, take_more, flat_map_more}
use Rattle.std.proofs.lemmas.Slice.{take-put_mid_below, drop-put_mid}
use Rattle.layout.specs.Numbers.{bytes_at, patched}
use Rattle.layout.proofs.Bytes.{length_joined}
use Rattle.layout.proofs.Parts.{behind}

-- a write of ys, which are zs, to `s[a..e]`
pub put_is : (a e : ℕ) (xs ys zs : List ℕ) → ys ≡ zs → a + length zs ≡ e → put_mid a (e - a) xs ys ≡ patched a zs xs
unfolding patched
put_is a e xs ys zs p q =
    let k : a + (e - a) ≡ a + length zs = omega arith in
    let rest : drop (e - a) (drop a xs) ≡ drop (a + length zs) xs = drop-drop (e - a) a xs ∙ ap (λ n. drop n xs) k in
    rw (p, rest)

module _ (a : ℕ) (old : List ℕ) (within : a ≤ length old) where
  -- a write, and one right after it
  pub patched_patched : (xs ys : List ℕ) (n : ℕ) → length xs ≡ n → patched (a + n) ys (patched a xs old) ≡ patched a (xs ++ ys) old
  unfolding patched
  patched_patched xs ys n e =
      let at : length (take a old ++ xs) ≡ a + n = length-append (take a old) xs ∙ omega (arith, length-take-le a old within) in
      let regroup : take a old ++ (xs ++ drop (a + length xs) old) ≡ (take a old ++ xs) ++ drop (a + length xs) old = sym (append_assoc (take a old) xs _) in
      let back : drop (a + n + length ys) ((take a old ++ xs) ++ drop (a + length xs) old) ≡ drop (a + length (xs ++ ys)) old =
      behind (take a old ++ xs) (drop (a + length xs) old) (a + n) (length ys) at ∙ drop-drop (length ys) (a + length xs) old
      ∙ ap (λ k. drop k old) (omega (arith, length-append xs ys)) in
      rw (regroup, take_at (take a old ++ xs) (drop (a + length xs) old) (a + n) at, back) (simp append_assoc)

-- one more of the parts that stand one after another from a on
pub patched_more : {X : Type 0} (f : X → List ℕ) (n a : ℕ) (old : List ℕ) → ((x : X) → length (f x) ≡ n) → a ≤ length old → (xs : List X) (i : ℕ) (x : X) → i < length xs → x ≡ get_or xs i x
    → {bs bs' : List ℕ} → bs ≡ patched a (flat_map f (take i xs)) old → bs' ≡ patched (a + n * i) (f x) bs → bs' ≡ patched a (flat_map f (take (i + 1) xs)) old
patched_more f n a old len room xs i x within is {bs} {bs'} p q =
    let done = flat_map f (take i xs) in
    let long : length (flat_map f (take i xs)) ≡ n * i = length_joined f n len (take i xs) ∙ ap (λ k. n * k) (length-take-le i xs (omega arith)) in
    let next : take i xs ++ (x ∷ []) ≡ take (i + 1) xs = ap (λ y. take i xs ++ (y ∷ [])) is ∙ sym (take_more xs i x within) in
    q ∙ ap (patched (a + n * i) (f x)) p ∙ patched_patched a old room done (f x) (n * i) long ∙ ap (λ new. patched a new old) (flat_map_more f [] (take i xs) x ∙ ap (flat_map f) next)

-- a write to the front part of a list
pub patched_append : (i : ℕ) (new xs ys : List ℕ) → i + length new ≤ length xs → patched i new (xs ++ ys) ≡ patched i new xs ++ ys
unfolding patched
patched_append i new xs ys h = rw (take-append-le i xs ys (omega arith), drop-append-le (i + length new) xs ys h) (simp append_assoc)

-- new bytes within bs stand where they were written, and every part beside them stays
module _ (i : ℕ) (new bs : List ℕ) (within : i + length new ≤ length bs) where
  pub patched_here : bytes_at i (length new) (patched i new bs) ≡ new
  unfolding patched
  patched_here = ap (take (length new)) (drop_at (take i bs) _ i (length-take-le i bs (omega arith))) ∙ take_at new _ (length new) refl

  patched_mid : patched i new bs ≡ put_mid i (length new) bs new
  unfolding patched
  patched_mid = ap (λ rest. take i bs ++ (new ++ rest)) (sym (drop-drop (length new) i bs))

  module _ (j n : ℕ) where
    before : j + n ≤ i → bytes_at j n (patched i new bs) ≡ bytes_at j n bs
    before h =
        sym (drop-take j n (patched i new bs)) ∙ ap (λ l. drop j (take (j + n) l)) patched_mid
        ∙ ap (drop j) (take-put_mid_below i (length new) bs new (j + n) h (omega arith)) ∙ drop-take j n bs

    after : i + length new ≤ j → bytes_at j n (patched i new bs) ≡ bytes_at j n bs
    after h = ap (take n) (ap (drop j) patched_mid ∙ drop-put_mid i (length new) bs new j h (omega arith) refl)

    pub patched_beside : (j + n ≤ i) ⊎ (i + length new ≤ j) → bytes_at j n (patched i new bs) ≡ bytes_at j n bs
    patched_beside = ⊎_elim before after

-- nothing is left of the old bytes
pub patched_whole : (new old : List ℕ) → length new ≡ length old → patched 0 new old ≡ new
unfolding patched
patched_whole new old e = ap (λ l. new ++ l) (drop_all (0 + length new) old (omega arith)) ∙ append-nil new

pub patched_none : (a : ℕ) (old : List ℕ) → patched a [] old ≡ old
unfolding patched
patched_none a old = ap (λ k. take a old ++ drop k old) (omega arith) ∙ take-append-drop a old

-- writes one after another from the start on: bs is old with the n bytes xs in front
pub record Front (old bs xs : List ℕ) (n : ℕ) : Type 0 where
  pub is : bs ≡ patched 0 xs old
  pub long : length xs ≡ n

pub front_more : {old bs bs' xs : List ℕ} {n m : ℕ} (ys : List ℕ) → Front old bs xs n → bs' ≡ patched n ys bs → length ys ≡ m → Front old bs' (xs ++ ys) (n + m)
front_more {old} {bs} {bs'} {xs} {n} ys f e l = record {
  is = e ∙ ap (patched n ys) f.is ∙ ap (λ k. patched k ys (patched 0 xs old)) (sym (zero-add n)) ∙ patched_patched 0 old (omega arith) xs ys n f.long;
  long = length-append xs ys ∙ omega (arith, f.long);
}

pub front_all : {old bs xs : List ℕ} {n : ℕ} → Front old bs xs n → length old ≡ n → bs ≡ xs
front_all {old} {bs} {xs} f e = f.is ∙ patched_whole xs old (f.long ∙ sym e)
