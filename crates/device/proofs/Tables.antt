-- Lists that are made from a function of the index, of which one entry changes.
use Rattle.std.specs.Prelude.{◌≡◌, ℕ, ◌<◌, map, length, ◌≢◌, slice_index_or, slice_set}
use Rattle.std.proofs.Common.{sym, ◌∙◌, subst, ⊎_elim, arith}
use Rattle.std.specs.List.{range_with_len}
use Rattle.std.proofs.lemmas.List.{same_lists, length-set, get_or-set_same, get_or-set_other}
use Rattle.std.proofs.lemmas.Bool.{cases_eq}
use Rattle.std.proofs.lemmas.List.FromFn.{length-map-range_with_len, get_or-map-range_with_len}

pub table_at : {X : Type 0} (f : ℕ → X) (n i : ℕ) (d : X) → i < n → slice_index_or (map f (range_with_len 0 n)) i d ≡ f i
table_at f n i d h = get_or-map-range_with_len f 0 n i i d h (omega arith)

module _ {X : Type 0} (f g : ℕ → X) (m n b : ℕ) (x : X) (sizes : m ≡ n) (within : b < n) (here : g b ≡ x) (there : (i : ℕ) → i < n → (i ≢ b) → g i ≡ f i) where
  lengths : length (map g (range_with_len 0 m)) ≡ length (slice_set (map f (range_with_len 0 n)) b x)
  lengths = length-map-range_with_len g 0 m ∙ sizes ∙ sym (length-map-range_with_len f 0 n) ∙ sym (length-set (map f (range_with_len 0 n)) b x)

  at_b : (d : X) → slice_index_or (map g (range_with_len 0 m)) b d ≡ slice_index_or (slice_set (map f (range_with_len 0 n)) b x) b d
  at_b d =
      let w : b < length (map f (range_with_len 0 n)) = rw length-map-range_with_len within in
      table_at g m b d (omega arith) ∙ here ∙ sym (get_or-set_same (map f (range_with_len 0 n)) b x d w)

  at_each : (i : ℕ) (d : X) → i < length (map g (range_with_len 0 m)) → slice_index_or (map g (range_with_len 0 m)) i d ≡ slice_index_or (slice_set (map f (range_with_len 0 n)) b x) i d
  at_each i d h =
      let hm : i < m = rw length-map-range_with_len at h in
      let hn : i < n = omega arith in
      ⊎_elim
      (λ e. subst (λ j. slice_index_or (map g (range_with_len 0 m)) j d ≡ slice_index_or (slice_set (map f (range_with_len 0 n)) b x) j d) (sym e) (at_b d))
      (λ other. table_at g m i d hm ∙ there i hn other ∙ sym (table_at f n i d hn) ∙ sym (get_or-set_other (map f (range_with_len 0 n)) b i x d other))
      (cases_eq i b)

  -- g agrees with f but at b
  pub table_set : map g (range_with_len 0 m) ≡ slice_set (map f (range_with_len 0 n)) b x
  table_set = same_lists _ _ lengths at_each
