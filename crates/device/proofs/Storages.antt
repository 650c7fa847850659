-- What a disc's storage means, before and after a block is stored.
use Rattle.std.specs.Prelude.{◌≡◌, ℕ, ◌+◌, ◌*◌, ◌/◌, ◌<◌, ◌≤◌, min, Bool, true, false, cond, List, ◌∷◌, ◌++◌, length, take, drop, ◌==◌, ◌≢◌, slice_index, slice_index_or, slice_set, Ok, refl}
use Rattle.std.proofs.Common.{sym, ap, ◌∙◌, ⊎_elim, arith}
use borrow.Rule.Slice.PartMut.{put_mid}
use Rattle.std.proofs.lemmas.List.{length-take, length-take-le, length-drop, length-append, take_more_set, drop-set-lt, append_assoc, drop_at, drop-drop, drop-take, take_at, get_or-take, get_or-drop}
use Rattle.std.proofs.lemmas.Slice.{take-put_mid_below, drop-put_mid}
use Rattle.std.proofs.lemmas.Bool.{cases_order}
use Rattle.device.proofs.Tables.{table_set}
use Rattle.device.specs.declared.interface.Kind.{Kind}
use Rattle.device.specs.declared.interface.Kind.TheVariants.{Rewritable, WriteOnce}
use Rattle.device.specs.declared.cell_state.CellState.TheVariants.{Held}
use Rattle.device.specs.Refusals.{Outcome, admission}
use Rattle.device.specs.Meaning.{held, spoiled, size, cell, put}
use Rattle.device.specs.Calls.{state_of}
use Rattle.device.specs.Soundness.{disc_size_lem, disc_cell_lem}
use Rattle.device.proofs.Calls.{admitted}
use Rattle.device.specs.Storage.{disc_size, zero_cell, cell_from, disc_cell, disc_meaning, place_on, stored}

module _ (l : ℕ) (k : Kind) (storage : List ℕ) where
  -- a block that is held has the bytes after its state byte
  pub disc_held : (b : ℕ) → state_of (disc_cell k storage b) ≡ Held → disc_cell k storage b ≡ held (take 512 (drop (b * 513 + 1) storage))
  disc_held b e = by (slice_index storage (b * 513) == 1) (slice_index storage (b * 513) == 0) k e
    where
      by : (one nought : Bool) (k : Kind) → state_of (cond one (held (take 512 (drop (b * 513 + 1) storage))) (cond nought (zero_cell k) spoiled)) ≡ Held →
          cond one (held (take 512 (drop (b * 513 + 1) storage))) (cond nought (zero_cell k) spoiled) ≡ held (take 512 (drop (b * 513 + 1) storage))
      by true nought k e = refl
      by false true Rewritable e = cc
      by false true WriteOnce e = cc
      by false false k e = cc

-- block b of a disc and a buffer of n bytes that are admitted
pub record Admitted (l : ℕ) (k : Kind) (storage : List ℕ) (b n : ℕ) : Type 0 where
  pub whole : n ≡ 512
  pub within : b < size (disc_meaning l k storage)
  -- the same, of the storage
  pub stored : b < disc_size storage
  pub cell : disc_cell k storage b ≡ cell (disc_meaning l k storage) b

pub admitted_on : (l : ℕ) (k : Kind) (storage : List ℕ) (s b n : ℕ) → s ≡ size (disc_meaning l k storage) → ◌≡◌ {A = Outcome} (Ok tt) (admission l s b n) →
    Admitted l k storage b n
admitted_on l k storage s b n sized is =
    let ok = admitted (disc_meaning l k storage) s b n sized is in
    let stored : b < disc_size storage = rw disc_size_lem at ok.1 in
    record { whole = ok.0; within = ok.1; stored = stored; cell = sym (disc_cell_lem l k storage b stored) }

-- the 513 bytes of a block, from which its cell is made
abbrev chunk : List ℕ → ℕ → List ℕ
chunk storage b = take 513 (drop (b * 513) storage)

chunk_cell : (k : Kind) (storage : List ℕ) (b : ℕ) → disc_cell k storage b ≡ cell_from k (slice_index (chunk storage b) 0) (drop 1 (chunk storage b))
chunk_cell k storage b =
    let state : slice_index_or (chunk storage b) 0 0 ≡ slice_index_or storage (b * 513) 0 =
    get_or-take 513 (drop (b * 513) storage) 0 0 (omega arith) ∙ get_or-drop (b * 513) storage 0 0 ∙ ap (λ j. slice_index storage j) (omega arith) in
    let bytes : drop 1 (chunk storage b) ≡ take 512 (drop (b * 513 + 1) storage) = drop-take 1 512 (drop (b * 513) storage) ∙ ap (take 512) (drop-drop 1 (b * 513) storage) in
    sym (ap (λ s. cell_from k s (drop 1 (chunk storage b))) state ∙ ap (cell_from k (slice_index storage (b * 513))) bytes)

module _ (k : Kind) (storage : List ℕ) (b : ℕ) (buf : List ℕ) (within : b < disc_size storage) (whole : length buf ≡ 512) where
  at≤ : b * 513 ≤ length storage
  at≤ = omega arith

  stored_mid : stored storage b buf ≡ put_mid (b * 513) 513 storage (1 ∷ buf)
  stored_mid = ap (λ rest. take (b * 513) storage ++ ((1 ∷ buf) ++ rest)) (sym (drop-drop 513 (b * 513) storage))

  stored_length : length (stored storage b buf) ≡ length storage
  stored_length = simp (length-append, length-take, length-drop) (omega arith)

  chunk_here : chunk (stored storage b buf) b ≡ 1 ∷ buf
  chunk_here = ap (take 513) (drop_at (take (b * 513) storage) _ (b * 513) (length-take-le (b * 513) storage at≤)) ∙ take_at (1 ∷ buf) _ 513 (omega arith)

  chunk_there : (i : ℕ) → (i ≢ b) → chunk (stored storage b buf) i ≡ chunk storage i
  chunk_there i ne = ⊎_elim (λ e. absurd (ne e)) (⊎_elim before after) (cases_order i b)
    where
      before : i < b → chunk (stored storage b buf) i ≡ chunk storage i
      before h =
          sym (drop-take (i * 513) 513 (stored storage b buf))
          ∙ ap (drop (i * 513)) (ap (take (i * 513 + 513)) stored_mid ∙ take-put_mid_below (b * 513) 513 storage (1 ∷ buf) (i * 513 + 513) (omega arith) at≤)
          ∙ drop-take (i * 513) 513 storage

      after : b < i → chunk (stored storage b buf) i ≡ chunk storage i
      after h = ap (take 513) (ap (drop (i * 513)) stored_mid ∙ drop-put_mid (b * 513) 513 storage (1 ∷ buf) (i * 513) (omega arith) at≤ (omega arith))

  pub disc_put : (l : ℕ) → disc_meaning l k (stored storage b buf) ≡ put (disc_meaning l k storage) b buf
  disc_put l =
      let sizes : disc_size (stored storage b buf) ≡ disc_size storage = ap (λ j. min (j / 513) 65536) stored_length in
      let cell_as : (i : ℕ) (c : List ℕ) → chunk (stored storage b buf) i ≡ c → disc_cell k (stored storage b buf) i ≡ cell_from k (slice_index c 0) (drop 1 c) =
      λ i c e. chunk_cell k (stored storage b buf) i ∙ ap (λ x. cell_from k (slice_index x 0) (drop 1 x)) e in
      ap (λ cs. record { label = l; kind = k; cells = cs; place = place_on l })
      (table_set (disc_cell k storage) (disc_cell k (stored storage b buf)) _ _ b (held buf) sizes within (cell_as b (1 ∷ buf) chunk_here)
      (λ i _ ne. cell_as i (chunk storage i) (chunk_there i ne) ∙ sym (chunk_cell k storage i)))

-- what the two writes of a store leave: the state byte, and the n bytes after it
pub store_is : (storage : List ℕ) (b : ℕ) (buf : List ℕ) (n : ℕ) → b < disc_size storage → n ≡ 512 → put_mid (b * 513 + 1) n (slice_set storage (b * 513) 1) buf ≡ stored storage b buf
store_is storage b buf n within is =
    let front = take_more_set storage (b * 513) 1 (omega arith) in
    let back : drop n (drop (b * 513 + 1) (slice_set storage (b * 513) 1)) ≡ drop (b * 513 + 513) storage =
    drop-drop n (b * 513 + 1) (slice_set storage (b * 513) 1) ∙ drop-set-lt (b * 513 + 1 + n) storage (b * 513) 1 (omega arith) ∙ ap (λ j. drop j storage) (omega arith) in
    simp (front, back, append_assoc)
