-- Lists of blocks and of addresses: what holds of each, and how often an address is there.
use Rattle.std.proofs.Common.{◌≡◌, ℕ, zero, suc, ◌+◌, ◌*◌, ◌<◌, ◌≤◌, cond, eqb, ◌≢◌, ◌⊎◌, List, [], ◌∷◌, ◌++◌, length, get_or, take, drop, sym, refl, ap, ◌∙◌, subst, inl, inr, ⊎_elim, mul-zero, mul-suc, arith, drop-drop}
use Rattle.std.specs.List.{flat_map, AllByRecursion}
use Rattle.std.proofs.ByRecursion.{All-append, All-weaker}
use Rattle.std.proofs.lemmas.Bool.{cases_eq, eq-eqb, ne_eqb}
use Rattle.trees.specs.Stored.{Content, Block, in_blocks, interleaved, count, uses}

-- nothing, or something
pub zero_or : (n : ℕ) → (n ≡ 0) ⊎ (0 < n)
zero_or zero = inl refl
zero_or (suc n) = inr (omega arith)

-- one address against another
abbrev pub one : ℕ → ℕ → ℕ
one a b = cond (eqb a b) 1 0

pub one_same : (a : ℕ) → one a a ≡ 1
one_same a = ap {B = ℕ} (λ t. cond t 1 0) (eq-eqb a a refl)

pub one_other : (a b : ℕ) → a ≢ b → one a b ≡ 0
one_other a b ne = ap {B = ℕ} (λ t. cond t 1 0) (ne_eqb a b ne)

pub one_equal : (a b : ℕ) → 0 < one a b → a ≡ b
one_equal a b h = ⊎_elim (λ e. e) (λ ne. absurd (omega (arith, one_other a b ne))) (cases_eq a b)

-- addresses in a list
pub count_append : (a : ℕ) (l l' : List ℕ) → count a (l ++ l') ≡ count a l + count a l'
count_append a [] l' = omega arith
count_append a (b ∷ l) l' = omega (arith, count_append a l l')

pub count_take : (a n : ℕ) (l : List ℕ) → count a (take n l) ≤ count a l
count_take a zero l = omega arith
count_take a (suc n) [] = omega arith
count_take a (suc n) (b ∷ l) = omega (arith, count_take a n l)

pub count_parts : (a n : ℕ) (l : List ℕ) → count a (take n l) + count a (drop n l) ≡ count a l
count_parts a zero l = omega arith
count_parts a (suc n) [] = refl
count_parts a (suc n) (b ∷ l) = omega (arith, count_parts a n l)

pub count_at : (l : List ℕ) (j : ℕ) → j < length l → 0 < count (get_or l j 0) l
count_at [] j h = absurd (omega arith)
count_at (b ∷ l) zero h = omega (arith, one_same b)
count_at (b ∷ l) (suc j) h = omega (arith, count_at l j (omega arith))

pub count_same : (l : List ℕ) (i j : ℕ) → i < length l → j < length l → count (get_or l j 0) l ≤ 1 → get_or l i 0 ≡ get_or l j 0 → i ≡ j
count_same [] i j lt lt' h e = absurd (omega arith)
count_same (b ∷ l) zero zero lt lt' h e = refl
count_same (b ∷ l) zero (suc j) lt lt' h e = absurd (omega (arith, count_at l j (omega arith), subst (λ y. one (get_or l j 0) y ≡ 1) (sym e) (one_same (get_or l j 0))))
count_same (b ∷ l) (suc i) zero lt lt' h e = absurd (omega (arith, one_same b, subst (λ y. 0 < count y l) e (count_at l i (omega arith))))
count_same (b ∷ l) (suc i) (suc j) lt lt' h e = ap suc (count_same l i j (omega arith) (omega arith) (omega arith) e)

-- what holds of each address in a list holds of one that is there, and the other way round
pub all_counted : (P : ℕ → Type 0) (l : List ℕ) (a : ℕ) → AllByRecursion P l → 0 < count a l → P a
all_counted P [] a h c = absurd (omega arith)
all_counted P (b ∷ l) a h c = ⊎_elim (λ e. subst P (sym e) h.0) (λ ne. all_counted P l a h.1 (omega (arith, one_other a b ne))) (cases_eq a b)

pub all_from_counted : (P : ℕ → Type 0) (l : List ℕ) → ((a : ℕ) → 0 < count a l → P a) → AllByRecursion P l
all_from_counted P [] h = tt
all_from_counted P (b ∷ l) h = (h b (omega (arith, one_same b)), all_from_counted P l (λ a c. h a (omega arith)))

-- blocks
pub uses_append : (a : ℕ) (xs ys : List Block) → uses a (xs ++ ys) ≡ uses a xs + uses a ys
uses_append a [] ys = omega arith
uses_append a (b ∷ xs) ys = omega (arith, uses_append a xs ys)

-- how many blocks of several lists are at an address
abbrev pub uses_all : ℕ → List (List Block) → ℕ
uses_all a [] = 0
uses_all a (l ∷ ls) = uses a l + uses_all a ls

abbrev pub join : {X : Type 0} → List (List X) → List X
join ls = flat_map (λ l. l) ls

pub uses_join : (a : ℕ) (ls : List (List Block)) → uses a (join ls) ≡ uses_all a ls
uses_join a [] = refl
uses_join a (l ∷ ls) = omega (arith, uses_append a l (join ls), uses_join a ls)

pub uses_all_parts : (a n : ℕ) (ls : List (List Block)) → uses_all a (take n ls) + uses_all a (drop n ls) ≡ uses_all a ls
uses_all_parts a zero ls = omega arith
uses_all_parts a (suc n) [] = refl
uses_all_parts a (suc n) (l ∷ ls) = omega (arith, uses_all_parts a n ls)

pub uses_interleaved : (a n : ℕ) (xs : List Block) (ls : List (List Block)) → uses a (interleaved n xs ls) ≡ uses a xs + uses_all a ls
uses_interleaved a n [] ls = omega (arith, uses_join a ls)
uses_interleaved a n (x ∷ xs) ls =
    omega (arith, uses_append a (join (take n ls)) (x ∷ interleaved n xs (drop n ls)), uses_join a (take n ls), uses_interleaved a n xs (drop n ls), uses_all_parts a n ls)

module _ {X : Type 0} (P : X → Type 0) where
  pub all_left : (xs ys : List X) → AllByRecursion P (xs ++ ys) → AllByRecursion P xs
  all_left [] ys h = tt
  all_left (x ∷ xs) ys h = (h.0, all_left xs ys h.1)

  pub all_right : (xs ys : List X) → AllByRecursion P (xs ++ ys) → AllByRecursion P ys
  all_right [] ys h = h
  all_right (x ∷ xs) ys h = all_right xs ys h.1

  pub all_join : (ls : List (List X)) → AllByRecursion (AllByRecursion P) ls → AllByRecursion P (join ls)
  all_join [] h = tt
  all_join (l ∷ ls) h = All-append P l (join ls) h.0 (all_join ls h.1)

  pub all_unjoin : (ls : List (List X)) → AllByRecursion P (join ls) → AllByRecursion (AllByRecursion P) ls
  all_unjoin [] h = tt
  all_unjoin (l ∷ ls) h = (all_left l (join ls) h, all_unjoin ls (all_right l (join ls) h))

  pub all_parts : (n : ℕ) (xs : List X) → AllByRecursion P (take n xs) → AllByRecursion P (drop n xs) → AllByRecursion P xs
  all_parts zero xs h k = k
  all_parts (suc n) [] h k = tt
  all_parts (suc n) (x ∷ xs) h k = (h.0, all_parts n xs h.1 k)

  pub all_front : (n : ℕ) (xs : List X) → AllByRecursion P xs → AllByRecursion P (take n xs)
  all_front zero xs h = tt
  all_front (suc n) [] h = tt
  all_front (suc n) (x ∷ xs) h = (h.0, all_front n xs h.1)

  pub all_back : (n : ℕ) (xs : List X) → AllByRecursion P xs → AllByRecursion P (drop n xs)
  all_back zero xs h = h
  all_back (suc n) [] h = tt
  all_back (suc n) (x ∷ xs) h = all_back n xs h.1

module _ {X : Type 0} (P : X → Type 0) where
  pub all_interleaved : (n : ℕ) (xs : List X) (ls : List (List X)) → AllByRecursion P xs → AllByRecursion (AllByRecursion P) ls → AllByRecursion P (interleaved n xs ls)
  all_interleaved n [] ls h k = all_join P ls k
  all_interleaved n (x ∷ xs) ls h k =
      All-append P (join (take n ls)) (x ∷ interleaved n xs (drop n ls))
      (all_join P (take n ls) (all_front (AllByRecursion P) n ls k))
      (h.0, all_interleaved n xs (drop n ls) h.1 (all_back (AllByRecursion P) n ls k))

  pub all_uninterleaved : (n : ℕ) (xs : List X) (ls : List (List X)) → AllByRecursion P (interleaved n xs ls) → AllByRecursion P xs × AllByRecursion (AllByRecursion P) ls
  all_uninterleaved n [] ls h = (tt, all_unjoin P ls h)
  all_uninterleaved n (x ∷ xs) ls h =
      let front = all_left P (join (take n ls)) (x ∷ interleaved n xs (drop n ls)) h in
      let back = all_right P (join (take n ls)) (x ∷ interleaved n xs (drop n ls)) h in
      let rest = all_uninterleaved n xs (drop n ls) back.1 in
      ((back.0, rest.0), all_parts (AllByRecursion P) n ls (all_unjoin P (take n ls) front) rest.1)

-- each block is there
pub all_used : (bs : List Block) → AllByRecursion (λ b. 0 < uses b.address bs) bs
all_used [] = tt
all_used (b ∷ bs) = (omega (arith, one_same b.address), All-weaker (λ c. 0 < uses c.address bs) (λ c. 0 < uses c.address (b ∷ bs)) (λ c h. omega arith) bs (all_used bs))

pub all_both : {X : Type 0} (P Q : X → Type 0) (xs : List X) → AllByRecursion P xs → AllByRecursion Q xs → AllByRecursion (λ x. P x × Q x) xs
all_both P Q [] h k = tt
all_both P Q (x ∷ xs) h k = ((h.0, k.0), all_both P Q xs h.1 k.1)

-- the n elements of chunk j
abbrev pub chunk : {X : Type 0} → ℕ → ℕ → List X → List X
chunk n j xs = take n (drop (n * j) xs)

pub chunk_next : {X : Type 0} (n j : ℕ) (xs : List X) → chunk n (suc j) xs ≡ chunk n j (drop n xs)
chunk_next n j xs = ap (λ i. take n (drop i xs)) (omega (arith, mul-suc n j)) ∙ ap (take n) (sym (drop-drop (n * j) n xs))

pub chunk_first : {X : Type 0} (n : ℕ) (xs : List X) → chunk n 0 xs ≡ take n xs
chunk_first n xs = ap (λ i. take n (drop i xs)) (mul-zero n)

module _ {X : Type 0} (make : List X → Content) (n : ℕ) where
  pub uses_in_blocks : (a : ℕ) (l : List ℕ) (xs : List X) → uses a (in_blocks make n l xs) ≡ count a l
  uses_in_blocks a [] xs = refl
  uses_in_blocks a (b ∷ l) xs = omega (arith, uses_in_blocks a l (drop n xs))

  -- the j-th block, and what holds of each
  abbrev pub block_at : List ℕ → List X → ℕ → Block
  block_at l xs j = record { address = get_or l j 0; content = make (chunk n j xs) }

  pub all_in_blocks : (P : Block → Type 0) (l : List ℕ) (xs : List X) → ((j : ℕ) → j < length l → P (block_at l xs j)) → AllByRecursion P (in_blocks make n l xs)
  all_in_blocks P [] xs h = tt
  all_in_blocks P (a ∷ l) xs h = (
    subst (λ c. P (record { address = a; content = make c })) (chunk_first n xs) (h 0 (omega arith)),
    all_in_blocks P l (drop n xs) (λ j lt. subst (λ c. P (record { address = get_or l j 0; content = make c })) (chunk_next n j xs) (h (suc j) (omega arith))),
  )

  pub in_blocks_at : (P : Block → Type 0) (l : List ℕ) (xs : List X) → AllByRecursion P (in_blocks make n l xs) → (j : ℕ) → j < length l → P (block_at l xs j)
  in_blocks_at P [] xs h j lt = absurd (omega arith)
  in_blocks_at P (a ∷ l) xs h zero lt = subst (λ c. P (record { address = a; content = make c })) (sym (chunk_first n xs)) h.0
  in_blocks_at P (a ∷ l) xs h (suc j) lt = subst (λ c. P (record { address = get_or l j 0; content = make c })) (sym (chunk_next n j xs)) (in_blocks_at P l (drop n xs) h.1 j (omega arith))
