-- Which blocks a change of the tree touches, adds and releases, and the tree that it leaves.
use Rattle.std.specs.Prelude.{ℕ, ◌+◌, ◌-◌, ◌*◌, ◌/◌, max, Bool, true, false, cond, List, [], ◌∷◌, ◌++◌, length, take, drop, Some, None, Ok, Option, ◌==◌, nat_lt, slice_index}
use Rattle.plain.specs.Paths.{path_of, front, final}
use Rattle.plain.specs.Trees.{File, free, file, Places, end, Place, flat, deep, size, at, set_at, first_free, find, frees, append, walk, slash}
use Rattle.plain.specs.Operations.{written}
use Rattle.plain.specs.Histories.{Change, mkfile, mkdir, write, remove}
use Rattle.layout.specs.Numbers.{fit}
use Rattle.layout.specs.Entries.{blocks_for}
use Rattle.trees.specs.Stored.{Stored, nowhere, Block, encoded, StoredTree, root_place, whole, count}
use Rattle.trees.specs.Represents.{BlockMap, indirect_for}

-- `touched` are blocks of the tree that change, and every block above them to the root block. So many blocks are added; the tree
-- afterwards is that with their addresses. `released` are blocks that the tree has no more.
pub record Plan : Type 0 where
  pub touched : List ℕ
  pub added : ℕ
  pub released : List ℕ
  pub after : List ℕ → StoredTree

-- the block with place i of a directory
abbrev pub home_of : Stored → ℕ → ℕ
home_of w i = slice_index w.blocks (i / 7)

-- the blocks with the entries that names pass, from a place on
abbrev pub trail : List (List ℕ) → Place Stored → List ℕ
trail [] p = []
trail (n ∷ ns) (flat l) = []
trail (n ∷ ns) (deep m d w c) = home_of w (find n c) ∷ trail ns (at c (find n c))

-- a place after f is done to what the names lead to from there
abbrev pub alter : {W : Type 0} → List (List ℕ) → (Place W → Place W) → Place W → Place W
alter [] f p = f p
alter (n ∷ ns) f (flat l) = flat l
alter (n ∷ ns) f (deep m d w c) = deep m d w (set_at c (find n c) (alter ns f (at c (find n c))))

-- The places of a directory with room for one more, and with a node in the lowest empty place: `roomy` and `make_in` of the plain
-- tree, whatever is noted.
abbrev pub with_room : {W : Type 0} → Places W → Places W
with_room c = cond (nat_lt (first_free c) (size c)) c (append c (frees 7))

abbrev pub with_node : {W : Type 0} → Place W → Places W → Places W
with_node x c = set_at (with_room c) (first_free (with_room c)) x

-- the tree with another place for "/"
abbrev pub with_root : StoredTree → ℕ → Place Stored → StoredTree
with_root t next (flat l) = t
with_root t next (deep n d w c) = record { top = t.top; root = d; stored = w; places = c; next_qid = next }

module _ (t : StoredTree) where
  abbrev pub idle : Plan
  idle = record { touched = []; added = 0; released = []; after = λ new. t }

  -- what names from "/" pass, and the tree after f is done to what they lead to
  abbrev pub trail_to : List (List ℕ) → List ℕ
  trail_to ns = trail (slash ∷ ns) (whole t)

  abbrev pub altered : List (List ℕ) → (Place Stored → Place Stored) → ℕ → StoredTree
  altered ns f next = with_root t next (alter ns f (root_place t))

  -- A make in the directory that the names lead to: if it has no empty place, it gets a block.
  abbrev pub new_node : Bool → List ℕ → Place Stored
  new_node is_dir n =
      cond is_dir (deep n (record { qid = t.next_qid; version = 0 }) nowhere end)
      (flat (file n (record { qid = t.next_qid; version = 0; bytes = [] }) nowhere))

  abbrev pub made_in : Place Stored → List ℕ → Place Stored → Place Stored
  made_in x new (flat l) = flat l
  made_in x new (deep m d w c) = deep m d (record { blocks = w.blocks ++ new; indirect = w.indirect; slack = w.slack }) (with_node x c)

  abbrev pub make_plan : Bool → List (List ℕ) → List ℕ → Place Stored → Plan
  make_plan is_dir ns n (flat l) = idle
  make_plan is_dir ns n (deep m d w c) = record {
    touched = trail_to ns ++ cond (nat_lt (first_free c) (size c)) (home_of w (first_free c) ∷ []) [];
    added = cond (nat_lt (first_free c) (size c)) 0 1;
    released = [];
    after = λ new. altered ns (made_in (new_node is_dir n) new) (t.next_qid + 1);
  }

  -- A write of bytes to a file from off on. Of the added blocks the first is the indirect block, if one is added.
  module _ (off : ℕ) (input : List ℕ) where
    abbrev pub blocks_needed : File → ℕ
    blocks_needed f = blocks_for (max (length f.bytes) (off + length input))

    abbrev pub new_indirect : File → Stored → ℕ
    new_indirect f w = indirect_for (blocks_needed f) - length w.indirect

    abbrev pub last_block : ℕ
    last_block = (off + length input - 1) / 504

    -- the file's blocks with a byte of the input, and its indirect block if it names one of them
    abbrev pub written_blocks : Stored → List ℕ
    written_blocks w = take (last_block + 1 - off / 504) (drop (off / 504) w.blocks) ++ cond (nat_lt last_block 6) [] w.indirect

    -- What the last block has past the end stays as far as the file does not cover it; an added block has zeros there.
    abbrev pub grown : File → Stored → List ℕ → Stored
    grown f w new = record {
      blocks = w.blocks ++ drop (new_indirect f w) new;
      indirect = w.indirect ++ take (new_indirect f w) new;
      slack = drop (max (length f.bytes) (off + length input)) (fit (504 * blocks_needed f) 0 (f.bytes ++ w.slack));
    }

    abbrev pub written_in : List ℕ → Place Stored → Place Stored
    written_in new (flat free) = flat free
    written_in new (flat (file n f w)) = flat (file n (written off input f) (grown f w new))
    written_in new (deep n d w c) = deep n d w c

    abbrev pub write_plan : List (List ℕ) → Place Stored → Plan
    write_plan ns (flat free) = idle
    write_plan ns (deep n d w c) = idle
    write_plan ns (flat (file n f w)) = record {
      touched = trail_to ns ++ written_blocks w;
      added = new_indirect f w + (blocks_needed f - length w.blocks);
      released = [];
      after = λ new. altered ns (written_in new) t.next_qid;
    }

  -- A remove of a file, or of a directory that has no names.
  abbrev pub blocks_at : Place Stored → List ℕ
  blocks_at (flat free) = []
  blocks_at (flat (file n f w)) = w.blocks ++ w.indirect
  blocks_at (deep n d w c) = w.blocks

  abbrev pub remove_plan : List (List ℕ) → Place Stored → Plan
  remove_plan ns p = record { touched = trail_to ns; added = 0; released = blocks_at p; after = λ new. altered ns (λ q. flat free) t.next_qid }

  abbrev pub on_path : Option (List (List ℕ)) → (List ℕ → List (List ℕ) → Plan) → Plan
  on_path None f = idle
  on_path (Some []) f = idle
  on_path (Some (n ∷ ns)) f = f n ns

  -- what each change does; a change that the tree's own rules refuse does nothing
  abbrev pub plan_of : Change → Plan
  plan_of (mkfile path) = on_path (path_of path) (λ n ns. make_plan false (front n ns) (final n ns) (walk (front n ns) (root_place t)))
  plan_of (mkdir path) = on_path (path_of path) (λ n ns. make_plan true (front n ns) (final n ns) (walk (front n ns) (root_place t)))
  plan_of (write path off input) = on_path (path_of path) (λ n ns. write_plan off input (n ∷ ns) (walk (n ∷ ns) (root_place t)))
  plan_of (remove path) = on_path (path_of path) (λ n ns. remove_plan (n ∷ ns) (walk (n ∷ ns) (root_place t)))

-- the map with blocks written at just these addresses
abbrev pub written_at : List ℕ → List Block → BlockMap → BlockMap
written_at new [] m a = m a
written_at new (b ∷ bs) m a = cond (a == b.address) (cond (nat_lt 0 (count a new)) (Ok (encoded b.content)) (m a)) (written_at new bs m a)
