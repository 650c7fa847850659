-- An accepted write.
use Rattle.std.proofs.Common.{◌≡◌, ℕ, ◌+◌, ◌<◌, ◌≤◌, Bool, true, false, cond, List, [], ◌∷◌, ◌++◌, length, take, drop, Some, None, Ok, Err, Option, Result, sym, refl, ap, ◌∙◌, subst, arith}
use Rattle.std.specs.Str.{bytes_eq}
use Rattle.std.proofs.lemmas.List.{length-append, length-take, length-drop, length-take-le, take_at, drop_at, drop-drop}
use Rattle.std.proofs.lemmas.Bool.{false≢true, and_parts, leb-true}
use Rattle.plain.specs.Names.{is_name}
use Rattle.plain.specs.Paths.{path_of, front, final}
use Rattle.plain.specs.Trees.{File, free, file, Place, flat, deep, at, find, size, has_name, name_at, walk, Tree, Plain, root_place, slash}
use Rattle.plain.specs.Operations.{write, write_on, write_at, written, writable, put_file, inside}
use Rattle.plain.specs.Laws.{a_dir, sight, see, Wrote, Tidy}
use Rattle.plain.proofs.Walking.{same_name, self_name, other_name, found_other, found_new, found_within, names_same}
use Rattle.plain.proofs.Tidiness.{TidyPlace, tidy_at, tidy_set, tidy_same, tidy_walk, tidy_modify}
use Rattle.plain.proofs.Changes.{front_final, Home, home, see_in, see_home, saw_home, see_others}

-- an accepted write is of a file at a path of names
pub record Written (path : List ℕ) (off : ℕ) (input : List ℕ) (t t' : Tree) : Type 0 where
  pub ns : List (List ℕ)
  pub n : List ℕ
  pub path_is : path_of path ≡ Some (ns ++ n ∷ [])
  pub label : List ℕ
  pub before : File
  pub is_at : walk (ns ++ n ∷ []) (root_place t) ≡ flat (file label before tt)
  pub fits : writable off input before ≡ true
  pub is : t' ≡ inside ns (put_file n (written off input before)) t.next_qid t

pub accepted_write : (path : List ℕ) (off : ℕ) (input : List ℕ) (t t' : Tree) → write path off input t ≡ Ok t' → Written path off input t t'
accepted_write path off input t t' ok = go (path_of path) refl ok
  where
    place : (n : List ℕ) (ns : List (List ℕ)) → path_of path ≡ Some (n ∷ ns) → (p : Place (Unit {0})) → walk (n ∷ ns) (root_place t) ≡ p →
        write_at (front n ns) (final n ns) off input t p ≡ Ok t' → Written path off input t t'
    place n ns e (flat free) at_p ok = absurd (false≢true cc)
    place n ns e (deep m d w c) at_p ok = absurd (false≢true cc)
    place n ns e (flat (file m f tt)) at_p ok = by (writable off input f) refl ok
      where
        by : (b : Bool) → writable off input f ≡ b → ◌≡◌ {A = Result Tree ℕ} (cond b (Ok (inside (front n ns) (put_file (final n ns) (written off input f)) t.next_qid t)) (Err 17)) (Ok t') → Written path off input t t'
        by false g ok = absurd (false≢true cc)
        by true g ok =
            let l = front_final n ns in
            record {
              ns = front n ns;
              n = final n ns;
              path_is = e ∙ ap Some l;
              label = m;
              before = f;
              is_at = ap (λ k. walk k (root_place t)) (sym l) ∙ at_p;
              fits = g;
              is = cc;
            }

    go : (o : Option (List (List ℕ))) → path_of path ≡ o → write_on off input o t ≡ Ok t' → Written path off input t t'
    go None e ok = absurd (false≢true cc)
    go (Some []) e ok = absurd (false≢true cc)
    go (Some (n ∷ ns)) e ok = place n ns e (walk (n ∷ ns) (root_place t)) refl ok

-- the bytes of a file after a write
module _ (off : ℕ) (input bytes : List ℕ) (h : off ≤ length bytes) where
  front_long : length (take off bytes) ≡ off
  front_long = length-take-le off bytes h

  pub input_there : take (length input) (drop off (take off bytes ++ (input ++ drop (off + length input) bytes))) ≡ input
  input_there = ap (take (length input)) (drop_at (take off bytes) _ off front_long) ∙ take_at input _ (length input) refl

  pub bytes_below : take off (take off bytes ++ (input ++ drop (off + length input) bytes)) ≡ take off bytes
  bytes_below = take_at (take off bytes) _ off front_long

  pub bytes_above : drop (off + length input) (take off bytes ++ (input ++ drop (off + length input) bytes)) ≡ drop (off + length input) bytes
  bytes_above =
      sym (drop-drop (length input) off (take off bytes ++ (input ++ drop (off + length input) bytes)))
      ∙ ap (drop (length input)) (drop_at (take off bytes) _ off front_long)
      ∙ drop_at input _ (length input) refl

within_end : (off : ℕ) (input : List ℕ) (f : File) → writable off input f ≡ true → off ≤ length f.bytes
within_end off input f e = grind (arith, and_parts, leb-true)

short_end : (off : ℕ) (input : List ℕ) (f : File) → writable off input f ≡ true → off + length input ≤ 66528
short_end off input f e = grind (arith, and_parts, leb-true)

written_long : (off : ℕ) (input : List ℕ) (f : File) → writable off input f ≡ true → length f.bytes ≤ 66528 → length (written off input f).bytes ≤ 66528
written_long off input f e few =
    let a = within_end off input f e in
    let b = short_end off input f e in
    simp (length-append, length-take, length-drop) (omega arith)

module _ (path : List ℕ) (off : ℕ) (input : List ℕ) (t t' : Tree) (w : Written path off input t t') where
  abbrev before : File
  before = w.before

  abbrev after : File
  after = written off input before

  abbrev node : Place (Unit {0})
  node = flat (file w.label before tt)

  abbrev new : Place (Unit {0})
  new = flat (file w.n after tt)

  not_free : node ≡ flat free → ⊥
  not_free e = false≢true cc

  abbrev h : Home w.ns w.n t node
  h = home w.ns w.n t node w.is_at not_free

  abbrev c : Plain
  c = h.places

  abbrev i : ℕ
  i = find w.n c

  in_dir : (i < size c) × (has_name w.n (at c i) ≡ true)
  in_dir = found_within w.n c (λ e. not_free (sym h.there ∙ e))

  label_is : w.n ≡ w.label
  label_is = same_name _ _ (ap (has_name w.n) (sym h.there) ∙ in_dir.1)

  now_new : at (put_file w.n after c) (find w.n (put_file w.n after c)) ≡ new
  now_new = found_new w.n c i new in_dir.0 (self_name w.n) (omega arith)

  alike : (x : List ℕ) → (x ≡ w.n → ⊥) → at (put_file w.n after c) (find x (put_file w.n after c)) ≡ at c (find x c)
  alike x ne =
      let other = other_name x w.n ne in
      found_other x c i new other (ap (has_name x) h.there ∙ ap (bytes_eq x) (sym label_is) ∙ other)

  home_same : see w.ns (inside w.ns (put_file w.n after) t.next_qid t) ≡ see w.ns t
  home_same =
      see_home w.ns w.n t t.next_qid h.name h.head c (put_file w.n after) h.leads
      ∙ ap (a_dir h.head) (names_same c i new in_dir.0 (label_is ∙ ap name_at (sym h.there)))
      ∙ sym (saw_home w.ns w.n t t.next_qid h.name h.head c (put_file w.n after) h.leads)

  pub wrote : Wrote (w.ns ++ w.n ∷ []) off input t t'
  wrote =
      let off≤ = within_end off input before w.fits in
      subst (λ u. Wrote (w.ns ++ w.n ∷ []) off input t u) (sym w.is)
      (record {
        before = before;
        was = ap sight w.is_at;
        is = see_in w.ns w.n t t.next_qid h.name h.head c (put_file w.n after) h.leads (w.n ∷ []) ∙ ap sight now_new;
        input_there = input_there off input before.bytes off≤;
        bytes_below = bytes_below off input before.bytes off≤;
        bytes_above = bytes_above off input before.bytes off≤;
        others = λ other ne.
            see_others w.ns w.n t t.next_qid h.name h.head c (put_file w.n after) h.leads alike
            (λ y r. ap (λ z. sight (walk (y ∷ r) z)) now_new ∙ ap (λ z. sight (walk (y ∷ r) z)) (sym h.there))
            other ne
            (λ e. ap (λ l. see l (inside w.ns (put_file w.n after) t.next_qid t)) e ∙ home_same ∙ ap (λ l. see l t) (sym e));
        next = refl;
      })

  pub wrote_tidy : Tidy t → Tidy t'
  wrote_tidy tidy =
      let b = tidy_walk w.ns slash t.root t.places h.name h.head c h.leads tidy.here tidy.below in
      let old : TidyPlace node = subst TidyPlace h.there (tidy_at c i b.1) in
      let fresh : TidyPlace new = (ap is_name label_is ∙ old.0, written_long off input before w.fits old.1) in
      let dir = tidy_same c i new in_dir.0 (λ x. ap (bytes_eq x) label_is ∙ ap (has_name x) (sym h.there)) b.0 in
      let m = tidy_modify (put_file w.n after) w.ns slash t.root t.places h.name h.head c h.leads tidy.here tidy.below dir (tidy_set c i new b.1 fresh) in
      subst Tidy (sym w.is) (record { here = m.0; below = m.1 })
