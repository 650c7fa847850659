-- From a change of what names lead to, the whole of what a change does.
use Rattle.std.proofs.Common.{◌≡◌, ℕ, ◌+◌, ◌<◌, ◌≤◌, Bool, true, false, cond, ltb, ◌≢◌, List, [], ◌∷◌, ◌++◌, Ok, sym, refl, ap, ◌∙◌, subst, inl, inr, ⊎_elim, arith}
use Rattle.std.specs.List.{AllByRecursion}
use Rattle.std.proofs.ByRecursion.{All-weaker}
use Rattle.std.proofs.lemmas.Bool.{cases_eq, eq-eqb, ne_eqb, lt-ltb}
use Rattle.plain.specs.Trees.{Place, flat, free, walk, slash, Tree}
use Rattle.trees.specs.Stored.{Stored, encoded, pointers, Block, place_blocks, StoredTree, whole, blocks_of, count, uses, erase}
use Rattle.trees.specs.Represents.{BlockMap, Stands, InRange, PlaceFits, WellFormed, Represents}
use Rattle.trees.specs.Plans.{Plan, alter, trail_to, altered, written_at}
use Rattle.trees.specs.Theorems.{Addable, Done}
use Rattle.trees.proofs.Lists.{zero_or, one_same, one_other, count_append, all_counted, all_used, all_both}
use Rattle.trees.proofs.Placed.{Rewritten}
use Rattle.trees.proofs.Altered.{uses_trail, alter_uses, alter_fits, alter_rewritten, Sound}

-- what holds of the address of each block holds of every address that is used, and the other way round
pub all_by_use : (Q : ℕ → Type 0) (bs : List Block) → ((a : ℕ) → 0 < uses a bs → Q a) → AllByRecursion (λ b. Q b.address) bs
all_by_use Q bs h = All-weaker (λ b. 0 < uses b.address bs) (λ b. Q b.address) (λ b k. h b.address k) bs (all_used bs)

pub use_of_all : (Q : ℕ → Type 0) (bs : List Block) (a : ℕ) → AllByRecursion (λ b. Q b.address) bs → 0 < uses a bs → Q a
use_of_all Q [] a h k = absurd (omega arith)
use_of_all Q (b ∷ bs) a h k = ⊎_elim (λ e. subst Q (sym e) h.0) (λ ne. use_of_all Q bs a h.1 (omega (arith, one_other a b.address ne))) (cases_eq a b.address)

-- a map that is written at the addresses in a list has the blocks of the tree
module _ (m : BlockMap) (l : List ℕ) where
  written_here : (b : Block) (bs : List Block) → Rewritten m l b → written_at l (b ∷ bs) m b.address ≡ Ok (encoded b.content)
  written_here b bs r = rw (eq-eqb b.address b.address refl) (go r)
    where
      go : Rewritten m l b → cond (ltb 0 (count b.address l)) (Ok (encoded b.content)) (m b.address) ≡ Ok (encoded b.content)
      go (inl h) = rw (lt-ltb 0 (count b.address l) h)
      go (inr u) = by (ltb 0 (count b.address l))
        where
          by : (t : Bool) → cond t (Ok (encoded b.content)) (m b.address) ≡ Ok (encoded b.content)
          by true = refl
          by false = u.0

  written_there : (b : Block) (bs : List Block) (a : ℕ) → a ≢ b.address → written_at l (b ∷ bs) m a ≡ written_at l bs m a
  written_there b bs a ne = rw (ne_eqb a b.address ne)

  pub written_stand : (bs : List Block) → ((a : ℕ) → uses a bs ≤ 1) → AllByRecursion (Rewritten m l) bs → AllByRecursion (Stands (written_at l bs m)) bs
  written_stand [] once h = tt
  written_stand (b ∷ bs) once h =
      let alone : uses b.address bs ≡ 0 = omega (arith, once b.address, one_same b.address) in (
        written_here b bs h.0,
        All-weaker (λ x. Stands (written_at l bs m) x × (0 < uses x.address bs)) (Stands (written_at l (b ∷ bs) m))
            (λ x k. written_there b bs x.address (λ e. omega (arith, k.1, alone, ap (λ a. uses a bs) e)) ∙ k.0)
            bs (all_both (Stands (written_at l bs m)) (λ x. 0 < uses x.address bs) bs (written_stand bs (λ a. omega (arith, once a)) h.1) (all_used bs)),
      )

-- Names from "/" lead to p, which becomes f p, with `extra` of its blocks touched and `gone` of them released.
module _ (m : BlockMap) (limit : ℕ) (t : StoredTree) (r : Represents m limit t) (ns : List (List ℕ)) (f : List ℕ → Place Stored → Place Stored) (next : ℕ) (extra gone : List ℕ) (n : ℕ) (new : List ℕ) (ok : Addable limit t n new) (u : Tree) where
  abbrev p : Place Stored
  p = walk (slash ∷ ns) (whole t)

  -- the addresses that are written
  abbrev pub hot : List ℕ
  hot = (trail_to t ns ++ extra) ++ new

  abbrev pub plan : Plan
  plan = record { touched = trail_to t ns ++ extra; added = n; released = gone; after = λ l. altered t ns (f l) next }

  pub record Node : Type 0 where
    pub found : p ≡ flat free → ⊥
    pub same : whole (altered t ns (f new) next) ≡ alter (slash ∷ ns) (f new) (whole t)
    pub blocks : (a : ℕ) → uses a (place_blocks (f new p)) + count a gone ≡ uses a (place_blocks p) + count a new
    pub fits : PlaceFits (f new p)
    pub own : (a : ℕ) → 0 < count a extra → (0 < uses a (place_blocks p)) × (count a gone ≡ 0)
    pub rewritten : AllByRecursion (Rewritten m hot) (place_blocks (f new p))

  module _ (k : Node) (plain : erase (altered t ns (f new) next) ≡ u) (formed : WellFormed u) (top : (altered t ns (f new) next).top ≡ t.top) where
    abbrev t' : StoredTree
    t' = altered t ns (f new) next

    sound : Sound m (whole t)
    sound = record { fits = r.fits; once = r.once; stand = r.stand }

    -- how often an address is there
    record Counts (a : ℕ) : Type 0 where
      now : uses a (blocks_of t') + count a gone ≡ uses a (blocks_of t) + count a new
      way : count a (trail_to t ns) + uses a (place_blocks p) ≤ uses a (blocks_of t)
      hot_is : count a hot ≡ count a (trail_to t ns) + count a extra + count a new
      node : uses a (place_blocks (f new p)) + count a gone ≡ uses a (place_blocks p) + count a new
      alone : uses a (blocks_of t) ≤ 1

    counts : (a : ℕ) → Counts a
    counts a = record {
      now = omega (arith, ap (λ q. uses a (place_blocks q)) k.same, alter_uses a (slash ∷ ns) (f new) (whole t) k.found, k.blocks a);
      way = uses_trail a (slash ∷ ns) (whole t) r.fits k.found;
      hot_is = omega (arith, count_append a (trail_to t ns ++ extra) new, count_append a (trail_to t ns) extra);
      node = k.blocks a;
      alone = r.once a;
    }

    not_new : (a : ℕ) → 0 < uses a (blocks_of t) → count a new ≡ 0
    not_new a h = ⊎_elim (λ z. z) (λ c. absurd (omega (arith, ok.unused a c))) (zero_or (count a new))

    rewritten : AllByRecursion (Rewritten m hot) (blocks_of t')
    rewritten =
        subst (λ q. AllByRecursion (Rewritten m hot) (place_blocks q)) (sym k.same)
        (alter_rewritten m hot (f new) (slash ∷ ns) (whole t) sound k.found
        (λ a h. omega (arith, counts a))
        (λ a h z z'. omega (arith, counts a, z, not_new a h, ⊎_elim (λ y. y) (λ c. absurd (omega (arith, (k.own a c).0))) (zero_or (count a extra))))
        k.rewritten)

    once : (a : ℕ) → uses a (blocks_of t') ≤ 1
    once a = ⊎_elim (λ z. omega (arith, counts a)) (λ c. omega (arith, counts a, ok.unused a c, ok.once a)) (zero_or (count a new))

    pub done : Done m limit t plan new u
    done = record {
      represented = record {
        few = r.few;
        formed = subst WellFormed (sym plain) formed;
        fits = subst PlaceFits (sym k.same) (alter_fits (slash ∷ ns) (f new) (whole t) r.fits k.fits);
        within = all_by_use (InRange limit) (blocks_of t') (λ a h.
            ⊎_elim (λ z. use_of_all (InRange limit) (blocks_of t) a r.within (omega (arith, counts a))) (λ c. all_counted (InRange limit) new a ok.within c) (zero_or (count a new)));
        once = once;
        stand = written_stand m hot (blocks_of t') once rewritten;
      };
      plain = plain;
      top = top;
      blocks = λ a. (counts a).now;
      touched = λ a h.
          let c = counts a in
          let s = count_append a (trail_to t ns) extra in
          ⊎_elim
          (λ (z : count a extra ≡ 0).
          let used : 0 < uses a (blocks_of t) = omega arith in
          (used, omega (arith, not_new a used)))
          (λ (e : 0 < count a extra). let x = k.own a e in (omega (arith, x.0), x.1))
          (zero_or (count a extra));
      above = All-weaker (Rewritten m hot) (λ b. (a : ℕ) → 0 < count a (pointers b.content) → 0 < count a hot → 0 < count b.address hot)
          (λ b x a q h. ⊎_elim (λ y. y) (λ y. absurd (omega (arith, y.1 a q))) x) (blocks_of t') rewritten;
    }
