use Rattle.std.proofs.Common.{[], ◌∷◌, ◌++◌, refl, ap, arith}
use Rattle.plain.specs.Names.{is_name}
use Rattle.plain.proofs.Passing.{last_passes}
use Rattle.plain.proofs.Pieces.{path_is}
use Rattle.plain.proofs.WriteLaw.{accepted_write, wrote, wrote_tidy}
use Rattle.plain.proofs.MakeLaw.{accepted_make, made_name, made_tidy, was_nothing}
use Rattle.plain.proofs.RemoveLaw.{accepted_remove, removed_name, removed_tidy, was_something}
use Rattle.plain.proofs.laws.tree_laws_hold.Goals as goal

pub returns : goal.returns
returns c = record {
  write_law = λ path off input t t' ok. let w = accepted_write path off input t t' ok in (w.ns ++ w.n ∷ [], w.path_is, wrote path off input t t' w);
  make_law = λ is_dir path t t' tidy ok.
      let w = accepted_make is_dir path t t' ok in
      (w.ns, w.n, w.path_is, was_nothing is_dir path t t' w, ap (λ u. u.next_qid) w.is, made_name is_dir path t t' w tidy);
  remove_law = λ path t t' tidy ok.
      let w = accepted_remove path t t' ok in
      let legal = last_passes is_name w.ns w.n (path_is path _ w.path_is).legal in
      (w.ns, w.n, w.path_is, was_something path t t' w tidy legal, ap (λ u. u.next_qid) w.is, removed_name path t t' w tidy legal);
  empty_tidy = record { here = record { differ = λ n. omega arith; sevens = refl; few = omega arith }; below = tt };
  write_tidy = λ path off input t t' tidy ok. wrote_tidy path off input t t' (accepted_write path off input t t' ok) tidy;
  make_tidy = λ is_dir path t t' tidy ok.
      let w = accepted_make is_dir path t t' ok in made_tidy is_dir path t t' w tidy (last_passes is_name w.ns w.n (path_is path _ w.path_is).legal);
  remove_tidy = λ path t t' tidy ok.
      let w = accepted_remove path t t' ok in removed_tidy path t t' w tidy (last_passes is_name w.ns w.n (path_is path _ w.path_is).legal);
}
