-- The proof of a disc's law, which its impl cites. Nothing here has to be believed: an impl takes the proof of a law from specs/ alone.
use Rattle.std.specs.Prelude.{◌≡◌, ℕ, ◌+◌, ◌*◌, ◌<◌, Bool, true, false, cond, List, length, take, drop, ◌==◌, slice_index, refl}
use Rattle.std.proofs.Common.{arith}
use Rattle.std.proofs.lemmas.List.{length-take, length-drop}
use Rattle.std.proofs.lemmas.List.FromFn.{length-map-range_with_len, get_or-map-range_with_len}
use Rattle.device.specs.declared.interface.Kind.{Kind}
use Rattle.device.specs.declared.interface.Kind.TheVariants.{Rewritable, WriteOnce}
use Rattle.device.specs.Meaning.{held, spoiled, size, cell, Sound, Legal}
use Rattle.device.specs.Storage.{disc_size, zero_cell, cell_from, disc_cell, disc_meaning}

legal_from : (k : Kind) (s : ℕ) (bytes : List ℕ) → length bytes ≡ 512 → Legal k (cell_from k s bytes)
legal_from k s bytes whole = by (s == 1) (s == 0) k
  where
    by : (one nought : Bool) (k : Kind) → Legal k (cond one (held bytes) (cond nought (zero_cell k) spoiled))
    by true nought k = whole
    by false true Rewritable = tt
    by false true WriteOnce = refl
    by false false k = tt

module _ (l : ℕ) (k : Kind) (storage : List ℕ) where
  pub disc_size_lem : size (disc_meaning l k storage) ≡ disc_size storage
  disc_size_lem = length-map-range_with_len (disc_cell k storage) 0 (disc_size storage)

  pub disc_cell_lem : (b : ℕ) → b < disc_size storage → cell (disc_meaning l k storage) b ≡ disc_cell k storage b
  disc_cell_lem b h = get_or-map-range_with_len (disc_cell k storage) 0 (disc_size storage) b b spoiled h (omega arith)

  pub disc_sound : Sound (disc_meaning l k storage)
  disc_sound = record {
    bounded = rw disc_size_lem (omega arith);
    legal = λ b h.
        let h' : b < disc_size storage = rw disc_size_lem at h in
        rw (disc_cell_lem b h') (legal_from k (slice_index storage (b * 513)) (take 512 (drop (b * 513 + 1) storage)) (simp (length-take, length-drop) (omega arith)));
  }
