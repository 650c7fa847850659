-- How a text of names comes apart at its slashes.
use Rattle.std.proofs.Common.{◌<◌, ◌≡◌, ℕ, ◌+◌, ◌*◌, ◌≤◌, Bool, true, false, cond, ◌&&◌, eqb, leb, ltb, ◌⊎◌, List, [], ◌∷◌, ◌++◌, length, get_or, take, drop, is_some, Some, None, Option, sym, refl, ap, ◌∙◌, subst, inl, inr, ⊎_elim, arith}
use Rattle.std.specs.Option.{option_map}
use Rattle.std.specs.List.{list_all, enumerate_from, onto_first, slice_split}
use Rattle.std.proofs.lemmas.List.Splits.{length-slice_split}
use Rattle.std.proofs.lemmas.List.{length-append, length-take, drop_at, drop_more}
use Rattle.std.proofs.lemmas.Bool.{false≢true, and_parts, and_from, and_left, and_right, eq-eqb, ne_eqb, eqb-true, le-leb, leb-true, lt-ltb, le-ltb, lt-leb, cases_lt}
use Rattle.plain.specs.Names.{is_name, name_byte}
use Rattle.plain.specs.Paths.{pieces, names_in, at_most_eight, is_root, path_of, names_text, path_text}

-- the bytes before the first slash
abbrev pub first_piece : List ℕ → List ℕ
first_piece [] = []
first_piece (b ∷ bs) = cond (eqb b 47) [] (b ∷ first_piece bs)

-- the text from the first slash on
abbrev pub from_slash : List ℕ → List ℕ
from_slash bs = drop (length (first_piece bs)) bs

-- the pieces of a text that is empty or begins with a slash
abbrev later : List ℕ → List (List ℕ)
later [] = []
later (b ∷ bs) = pieces bs

-- whether the parts of a text are the names of a path
pub split_names : (bs : List ℕ) →
    is_some (at_most_eight (names_in (47 ∷ bs))) ≡ (leb (length (slice_split (λ b. eqb b 47) bs)) 8 && list_all is_name (slice_split (λ b. eqb b 47) bs))
split_names bs =
    let parts = slice_split (λ b. eqb b 47) bs in
    let more : 1 ≤ length parts = omega (arith, length-slice_split (λ b. eqb b 47) bs) in
    by parts (list_all is_name parts) more
  where
    by : (ps : List (List ℕ)) (t : Bool) → 1 ≤ length ps → is_some (at_most_eight (cond t (Some ps) None)) ≡ (leb (length ps) 8 && t)
    by ps true h = rw (le-leb 1 (length ps) h) (some (leb (length ps) 8))
      where
        some : (u : Bool) → is_some (cond u (Some ps) None) ≡ (u && true)
        some true = refl
        some false = refl
    by ps false h = sym (and_right _ false refl)

-- parts that are numbered from k on have numbers below 8 and are names, exactly if all are names and there are at most 8 - k of them
pub numbered_names : (k : ℕ) (ps : List (List ℕ)) → k ≤ 8 → list_all (λ p. ltb p.0 8 && is_name p.1) (enumerate_from k ps) ≡ (leb (k + length ps) 8 && list_all is_name ps)
numbered_names k [] h = sym (ap (λ t. t && true) (le-leb (k + 0) 8 (omega (arith, h))))
numbered_names k (p ∷ ps) h = ⊎_elim (few (λ lt. numbered_names (k + 1) ps (omega (arith, lt)))) many (cases_lt k 8)
  where
    swap : (t u v : Bool) → (t && (u && v)) ≡ (u && (t && v))
    swap true u v = refl
    swap false true v = refl
    swap false false v = refl

    few : (k < 8 → list_all (λ p. ltb p.0 8 && is_name p.1) (enumerate_from (k + 1) ps) ≡ (leb (k + 1 + length ps) 8 && list_all is_name ps)) → k < 8
        → list_all (λ p. ltb p.0 8 && is_name p.1) (enumerate_from k (p ∷ ps)) ≡ (leb (k + length (p ∷ ps)) 8 && list_all is_name (p ∷ ps))
    few next lt =
        ap (λ t. t && is_name p && list_all (λ p. ltb p.0 8 && is_name p.1) (enumerate_from (k + 1) ps)) (lt-ltb k 8 lt)
        ∙ ap (λ t. is_name p && t) (next lt)
        ∙ swap (is_name p) (leb (k + 1 + length ps) 8) (list_all is_name ps)
        ∙ ap (λ n. leb n 8 && (is_name p && list_all is_name ps)) (omega arith)

    many : 8 ≤ k → list_all (λ p. ltb p.0 8 && is_name p.1) (enumerate_from k (p ∷ ps)) ≡ (leb (k + length (p ∷ ps)) 8 && list_all is_name (p ∷ ps))
    many ge = ap (λ t. t && is_name p && list_all (λ p. ltb p.0 8 && is_name p.1) (enumerate_from (k + 1) ps)) (le-ltb k 8 ge) ∙ ap (λ t. t && list_all is_name (p ∷ ps)) (sym (lt-leb (k + length (p ∷ ps)) 8 (omega (arith, ge))))

pieces_are : (bs : List ℕ) → pieces bs ≡ first_piece bs ∷ later (from_slash bs)
pieces_are [] = refl
pieces_are (b ∷ bs) = by (pieces_are bs) (eqb b 47)
  where
    by : pieces bs ≡ first_piece bs ∷ later (from_slash bs) → (t : Bool) → cond t ([] ∷ pieces bs) (onto_first b (pieces bs)) ≡ cond t [] (b ∷ first_piece bs) ∷ later (drop (length (cond t [] (b ∷ first_piece bs))) (b ∷ bs))
    by h true = refl
    by h false = ap (onto_first b) h

slash_next : (bs : List ℕ) → (from_slash bs ≡ []) ⊎ ((cs : List ℕ) × (from_slash bs ≡ 47 ∷ cs))
slash_next [] = inl refl
slash_next (b ∷ bs) = by (slash_next bs) (eqb b 47) refl
  where
    by : (from_slash bs ≡ []) ⊎ ((cs : List ℕ) × (from_slash bs ≡ 47 ∷ cs)) → (t : Bool) → eqb b 47 ≡ t →
        (drop (length (cond t [] (b ∷ first_piece bs))) (b ∷ bs) ≡ []) ⊎ ((cs : List ℕ) × (drop (length (cond t [] (b ∷ first_piece bs))) (b ∷ bs) ≡ 47 ∷ cs))
    by h true e = inr (bs, ap (λ x. x ∷ bs) (eqb-true b 47 e))
    by h false e = h

-- a name in front of others, if it is one
abbrev pub cons_name : List ℕ → Option (List (List ℕ)) → Option (List (List ℕ))
cons_name n ns = cond (is_name n) (option_map (λ l. n ∷ l) ns) None

pub names_step : (bs : List ℕ) → names_in (47 ∷ bs) ≡ cons_name (first_piece bs) (names_in (from_slash bs))
names_step bs = ap (λ ps. cond (list_all is_name ps) (Some ps) None) (pieces_are bs) ∙ ⊎_elim none some (slash_next bs)
  where
    by : (t u : Bool) (n : List ℕ) (ps : List (List ℕ)) → cond (t && u) (Some (n ∷ ps)) None ≡ cond t (option_map (λ l. n ∷ l) (cond u (Some ps) None)) None
    by true true n ps = refl
    by true false n ps = refl
    by false u n ps = refl

    none : from_slash bs ≡ [] →
        cond (list_all is_name (first_piece bs ∷ later (from_slash bs))) (Some (first_piece bs ∷ later (from_slash bs))) None ≡ cons_name (first_piece bs) (names_in (from_slash bs))
    none e = rw e (by (is_name (first_piece bs)) true (first_piece bs) [])

    some : (cs : List ℕ) × (from_slash bs ≡ 47 ∷ cs) →
        cond (list_all is_name (first_piece bs ∷ later (from_slash bs))) (Some (first_piece bs ∷ later (from_slash bs))) None ≡ cons_name (first_piece bs) (names_in (from_slash bs))
    some p = rw p.1 (by (is_name (first_piece bs)) (list_all is_name (pieces p.0)) (first_piece bs) (pieces p.0))

-- a text that does not begin with a slash has no names
pub names_not : (b : ℕ) (bs : List ℕ) → eqb b 47 ≡ false → names_in (b ∷ bs) ≡ None
names_not b bs e = rw e

-- a piece without a slash, before one or the end
free_of_slash : (n rest : List ℕ) → list_all name_byte n ≡ true → (rest ≡ []) ⊎ ((cs : List ℕ) × (rest ≡ 47 ∷ cs)) → first_piece (n ++ rest) ≡ n
free_of_slash [] rest h o = ⊎_elim (λ e. rw e) (λ p. rw p.1) o
free_of_slash (b ∷ n) rest h o =
    let p = and_parts (name_byte b) (list_all name_byte n) h in
    let ne : eqb b 47 ≡ false = slash_free b p.0 in
    rw ne (ap (λ l. b ∷ l) (free_of_slash n rest p.1 o))
  where
    slash_free : (b : ℕ) → name_byte b ≡ true → eqb b 47 ≡ false
    slash_free b e = grind (arith, and_parts)

names_text_lem : (ns : List (List ℕ)) → (names_text ns ≡ []) ⊎ ((cs : List ℕ) × (names_text ns ≡ 47 ∷ cs))
names_text_lem [] = inl refl
names_text_lem (n ∷ ns) = inr (n ++ names_text ns, refl)

-- the names that a text of names has are those
pub text_names : (ns : List (List ℕ)) → list_all is_name ns ≡ true → names_in (names_text ns) ≡ Some ns
text_names [] h = refl
text_names (n ∷ ns) h =
    let p = and_parts (is_name n) (list_all is_name ns) h in
    let q = and_parts _ (list_all name_byte n) p.0 in
    let e = free_of_slash n (names_text ns) q.1 (names_text_lem ns) in
    names_step (n ++ names_text ns)
    ∙ ap (λ x. cons_name x (names_in (drop (length x) (n ++ names_text ns)))) e
    ∙ ap (λ x. cons_name n (names_in x)) (drop_at n (names_text ns) (length n) refl)
    ∙ ap (cons_name n) (text_names ns p.1)
    ∙ rw p.0

-- a search for the first slash, at place i of a text
module _ (text : List ℕ) (i : ℕ) (h : i < length text) where
  pub piece_more : (get_or text i 0 ≡ 47 → ⊥) → length (first_piece (drop i text)) ≡ length (first_piece (drop (i + 1) text)) + 1
  piece_more ne = let e = ne_eqb (get_or text i 0) 47 ne in rw (drop_more text i 0 h, e) (omega arith)

  pub piece_stops : get_or text i 0 ≡ 47 → length (first_piece (drop i text)) ≡ 0
  piece_stops is = let e = eq-eqb (get_or text i 0) 47 is in rw (drop_more text i 0 h, e)

-- the first piece is the front of a text
pub piece_front : (bs : List ℕ) → take (length (first_piece bs)) bs ≡ first_piece bs
piece_front [] = refl
piece_front (b ∷ bs) = by (piece_front bs) (eqb b 47)
  where
    by : take (length (first_piece bs)) bs ≡ first_piece bs → (t : Bool) → take (length (cond t [] (b ∷ first_piece bs))) (b ∷ bs) ≡ cond t [] (b ∷ first_piece bs)
    by h true = refl
    by h false = ap (λ l. b ∷ l) h

pub piece_short : (bs : List ℕ) → length (first_piece bs) ≤ length bs
piece_short bs = omega (arith, ap length (piece_front bs), length-take (length (first_piece bs)) bs)

-- the text of its pieces is the text
pieces_text : (bs : List ℕ) → names_text (pieces bs) ≡ 47 ∷ bs
pieces_text [] = refl
pieces_text (b ∷ bs) = by (pieces_text bs) (eqb b 47) refl
  where
    by : names_text (pieces bs) ≡ 47 ∷ bs → (t : Bool) → eqb b 47 ≡ t → names_text (cond t ([] ∷ pieces bs) (onto_first b (pieces bs))) ≡ 47 ∷ (b ∷ bs)
    by h true e = ap (λ l. 47 ∷ l) (h ∙ ap (λ x. x ∷ bs) (sym (eqb-true b 47 e)))
    by h false e =
        let g : 47 ∷ (first_piece bs ++ names_text (later (from_slash bs))) ≡ 47 ∷ bs = sym (ap names_text (pieces_are bs)) ∙ h in
        let d : first_piece bs ++ names_text (later (from_slash bs)) ≡ bs = cc in
        ap (λ ps. names_text (onto_first b ps)) (pieces_are bs) ∙ ap (λ l. 47 ∷ (b ∷ l)) d

names_short : (ns : List (List ℕ)) → list_all is_name ns ≡ true → length (names_text ns) ≤ 28 * length ns
names_short [] h = omega arith
names_short (n ∷ ns) h =
    let p = and_parts (is_name n) (list_all is_name ns) h in
    let q = and_parts _ (list_all name_byte n) p.0 in
    let r = and_parts (leb 1 (length n)) (leb (length n) 27) q.0 in
    omega (arith, names_short ns p.1, leb-true _ _ r.1, length-append n (names_text ns))

-- a path has at most 224 bytes
pub path_short : (text : List ℕ) → is_some (path_of text) ≡ true → length text ≤ 224
path_short text h = by (is_root text) refl h
  where
    some : (text : List ℕ) → is_some (at_most_eight (names_in text)) ≡ true → length text ≤ 224
    some [] h = omega arith
    some (b ∷ bs) h = go (eqb b 47) (list_all is_name (pieces bs)) refl h
      where
        few : (t : Bool) → is_some (cond t (Some (pieces bs)) None) ≡ true → t ≡ true
        few true h = refl
        few false h = h

        go : (s t : Bool) → list_all is_name (pieces bs) ≡ t → is_some (at_most_eight (cond (s && t) (Some (pieces bs)) None)) ≡ true → length (b ∷ bs) ≤ 224
        go true true e h =
            let n = and_parts (leb 1 (length (pieces bs))) (leb (length (pieces bs)) 8) (few _ h) in
            omega (arith, leb-true _ _ n.1, names_short (pieces bs) e, ap length (pieces_text bs))
        go true false e h = absurd (false≢true cc)
        go false t e h = absurd (false≢true cc)

    by : (t : Bool) → is_root text ≡ t → is_some (cond t (Some []) (at_most_eight (names_in text))) ≡ true → length text ≤ 224
    by true e h = omega (arith, eqb-true (length text) 1 (and_parts (eqb (length text) 1) _ e).0)
    by false e h = some text h

pub path_long : (text : List ℕ) → 224 < length text → path_of text ≡ None
path_long text h = by (path_of text) refl
  where
    by : (o : Option (List (List ℕ))) → path_of text ≡ o → o ≡ None
    by None e = refl
    by (Some ns) e = absurd (omega (arith, h, path_short text (ap is_some e)))

pub is_root_lem : (text : List ℕ) → length text ≡ 1 → get_or text 0 0 ≡ 47 → is_root text ≡ true
is_root_lem [] n b = absurd (omega arith)
is_root_lem (x ∷ []) n b = and_from _ _ (eq-eqb x 47 b) refl
is_root_lem (x ∷ y ∷ l) n b = absurd (omega arith)

-- one name more was counted
pub count_more : (k : ℕ) (n : List ℕ) (o : Option (List (List ℕ))) →
    option_map (λ j. k + j) (option_map length (option_map (λ l. n ∷ l) o)) ≡ option_map (λ j. k + 1 + j) (option_map length o)
count_more k n None = refl
count_more k n (Some ns) = ap Some (omega arith)

-- the names of a path are legal, at most eight, and their text is the path's
pub record IsPath (text : List ℕ) (ns : List (List ℕ)) : Type 0 where
  pub legal : list_all is_name ns ≡ true
  pub few : length ns ≤ 8
  pub shown : path_text ns ≡ text

pub path_is : (text : List ℕ) (ns : List (List ℕ)) → path_of text ≡ Some ns → IsPath text ns
path_is text ns is = by text (is_root text) refl is
  where
    root : (text : List ℕ) → is_root text ≡ true → text ≡ 47 ∷ []
    root [] e = cc
    root (x ∷ []) e = ap (λ b. b ∷ []) (eqb-true x 47 (and_parts (eqb x 47) true e).0)
    root (x ∷ y ∷ l) e = absurd (omega (arith, eqb-true (length (x ∷ y ∷ l)) 1 (and_parts (eqb (length (x ∷ y ∷ l)) 1) _ e).0))

    some : (ps : List (List ℕ)) (t : Bool) → cond t (Some ps) None ≡ Some ns → (t ≡ true) × (ps ≡ ns)
    some ps true e = (refl, cc)
    some ps false e = (cc, cc)

    names : (text : List ℕ) → at_most_eight (names_in text) ≡ Some ns → IsPath text ns
    names [] e = absurd (false≢true cc)
    names (b ∷ bs) e = go (eqb b 47) refl (list_all is_name (pieces bs)) refl e
      where
        go : (s : Bool) → eqb b 47 ≡ s → (t : Bool) → list_all is_name (pieces bs) ≡ t → at_most_eight (cond (s && t) (Some (pieces bs)) None) ≡ Some ns → IsPath (b ∷ bs) ns
        go true f true g e =
            let p = some (pieces bs) _ e in
            let n = and_parts (leb 1 (length (pieces bs))) (leb (length (pieces bs)) 8) p.0 in
            let text : path_text (pieces bs) ≡ b ∷ bs = ap path_text (pieces_are bs) ∙ sym (ap names_text (pieces_are bs)) ∙ pieces_text bs ∙ ap (λ x. x ∷ bs) (sym (eqb-true b 47 f)) in
            subst (IsPath (b ∷ bs)) p.1 (record { legal = g; few = leb-true _ _ n.1; shown = text })
        go true f false g e = absurd (false≢true cc)
        go false f t g e = absurd (false≢true cc)

    by : (text : List ℕ) (t : Bool) → is_root text ≡ t → cond t (Some []) (at_most_eight (names_in text)) ≡ Some ns → IsPath text ns
    by text true e is = let n : [] ≡ ns = cc in subst (IsPath text) n (record { legal = refl; few = omega arith; shown = sym (root text e) })
    by text false e is = names text is

-- the path that names are
pub path_back : (ns : List (List ℕ)) → list_all is_name ns ≡ true → length ns ≤ 8 → path_of (path_text ns) ≡ Some ns
path_back [] h few = refl
path_back (n ∷ ns) h few =
    let p = and_parts (is_name n) (list_all is_name ns) h in
    let q = and_parts _ (list_all name_byte n) p.0 in
    let long = leb-true 1 (length n) (and_parts (leb 1 (length n)) (leb (length n) 27) q.0).0 in
    let two : is_root (names_text (n ∷ ns)) ≡ false = and_left (eqb (length (names_text (n ∷ ns))) 1) _ (ne_eqb _ 1 (λ e. omega (arith, e, long, length-append n (names_text ns)))) in
    let most : leb (length (n ∷ ns)) 8 ≡ true = le-leb _ _ few in
    let least : leb 1 (length (n ∷ ns)) ≡ true = le-leb _ _ (omega arith) in
    rw two (rw (text_names (n ∷ ns) h) (rw (least, most)))
