-- An accepted remove.
use Rattle.std.proofs.Common.{◌≡◌, ℕ, List, [], ◌∷◌, ◌++◌, Ok, sym, refl, ap, ◌∙◌, subst, arith}
use Rattle.std.proofs.lemmas.List.{nil_from_length, append-nil}
use Rattle.plain.specs.Paths.{path_of}
use Rattle.plain.specs.Trees as plain
use Rattle.plain.specs.Trees.{Leaf, free, file, Places, end, leaf, dir, Place, flat, deep, used, walk, slash, Tree}
use Rattle.plain.specs.Operations as tree
use Rattle.plain.specs.Operations.{remove_in, inside}
use Rattle.plain.specs.Histories.{remove}
use Rattle.plain.proofs.Changes.{Home, home}
use Rattle.plain.proofs.RemoveLaw.{Bare, RemovedAt, accepted_remove}
use Rattle.trees.specs.Stored.{Stored, place_blocks, row_blocks, StoredTree, root_place, count, uses, erase}
use Rattle.trees.specs.Represents.{BlockMap, WellFormed, Represents}
use Rattle.trees.specs.Plans.{trail_to, alter, altered, blocks_at, remove_plan, plan_of}
use Rattle.trees.specs.Theorems.{Addable, Done}
use Rattle.trees.proofs.Lists.{uses_all, count_append}
use Rattle.trees.proofs.Nodes.{uses_file, uses_deep}
use Rattle.trees.proofs.Erased.{map_used, map_alter, alter_append, alter_modify}
use Rattle.trees.proofs.Done.{done}
use Rattle.trees.proofs.Roots.{erased, root_top, root_erased, root_whole, on_names_lem, erased_walk}

-- a directory without names has no blocks below it
unused_blocks : (a : ℕ) (c : Places Stored) → used c ≡ 0 → uses_all a (row_blocks c) ≡ 0
unused_blocks a end h = refl
unused_blocks a (leaf free k) h = omega (arith, unused_blocks a k (omega arith))
unused_blocks a (leaf (file n f w) k) h = absurd (omega arith)
unused_blocks a (dir n d w c k) h = absurd (omega arith)

-- the blocks of what can be removed are all released
bare_blocks : (t : StoredTree) (a : ℕ) (p : Place Stored) → Bare (erased p) → count a (blocks_at t p) ≡ uses a (place_blocks p)
bare_blocks t a (flat free) b = absurd b
bare_blocks t a (flat (file n f w)) b = omega (arith, uses_file a n f w, count_append a w.blocks w.indirect)
bare_blocks t a (deep n d w c) b = omega (arith, uses_deep a n d w c, unused_blocks a c (sym (map_used (λ w. tt {0}) c) ∙ b))

not_free : (p : Place Stored) → Bare (erased p) → p ≡ flat free → ⊥
not_free p b e = subst (λ q. Bare (erased q)) e b

module _ (m : BlockMap) (limit : ℕ) (t : StoredTree) (r : Represents m limit t) (path : List ℕ) (u : Tree) (accepted : tree.remove path (erase t) ≡ Ok u) (formed : WellFormed u) where
  abbrev at_it : RemovedAt path (erase t) u
  at_it = accepted_remove path (erase t) u accepted

  abbrev names : List (List ℕ)
  names = at_it.ns ++ at_it.n ∷ []

  bare : Bare (erased (walk names (root_place t)))
  bare = subst Bare (sym (erased_walk t names ∙ at_it.is_at)) at_it.bare

  in_dir : Home at_it.ns at_it.n (erase t) at_it.node
  in_dir = home at_it.ns at_it.n (erase t) at_it.node at_it.is_at (λ e. subst Bare e at_it.bare)

  seen : erased (alter names (λ q. flat free) (root_place t)) ≡ plain.root_place u
  seen =
      map_alter (λ w. tt) names (λ q. flat free) (λ q. flat free) (λ q. refl) (root_place t)
      ∙ alter_append at_it.ns (at_it.n ∷ []) (λ q. flat free) (plain.root_place (erase t))
      ∙ alter_modify (alter (at_it.n ∷ []) (λ q. flat free)) (remove_in at_it.n) in_dir.name in_dir.head tt in_dir.places refl at_it.ns slash t.root tt (erase t).places in_dir.leads
      ∙ ap plain.root_place (sym at_it.is)

  -- the plan at the names
  remove_at_lem : (x : List ℕ) (xs : List (List ℕ)) → x ∷ xs ≡ names → (new : List ℕ) → Addable limit t 0 new → Done m limit t (remove_plan t (x ∷ xs) (walk (x ∷ xs) (root_place t))) new u
  remove_at_lem x xs e new ok =
      subst (λ ns. Done m limit t (remove_plan t ns (walk ns (root_place t))) new u) (sym e)
      (subst (λ l. Done m limit t (record { touched = l; added = 0; released = blocks_at t (walk names (root_place t)); after = λ l. altered t names (λ q. flat free) t.next_qid }) new u) (append-nil (trail_to t names))
      (done m limit t r names (λ l q. flat free) t.next_qid [] (blocks_at t (walk names (root_place t))) 0 new ok u
      (record {
        found = not_free (walk names (root_place t)) bare;
        same = root_whole t names (λ q. flat free) t.next_qid u seen;
        blocks = λ a. omega (arith, bare_blocks t a (walk names (root_place t)) bare, ap (count a) (nil_from_length new ok.many));
        fits = tt;
        own = λ a h. absurd (omega arith);
        rewritten = tt;
      })
      (root_erased t t.next_qid (alter names (λ q. flat free) (root_place t)) u seen (ap (λ v. v.next_qid) at_it.is))
      formed
      (root_top t t.next_qid (alter names (λ q. flat free) (root_place t)))))

  pub remove_done : (new : List ℕ) → Addable limit t (plan_of t (remove path)).added new → Done m limit t (plan_of t (remove path)) new u
  remove_done =
      on_names_lem t (λ p. (new : List ℕ) → Addable limit t p.added new → Done m limit t p new u) (λ n ns. remove_plan t (n ∷ ns) (walk (n ∷ ns) (root_place t)))
      (path_of path) at_it.ns at_it.n at_it.path_is remove_at_lem
