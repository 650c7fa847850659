-- Each block of a tree passes the tests of a visit, which gives its bytes.
use Rattle.std.proofs.Common.{◌≡◌, ℕ, ◌-◌, ◌^◌, ◌<◌, ◌≤◌, Bool, true, List, ◌∷◌, ◌++◌, length, get_or, drop, replicate, Ok, ap, ◌∙◌, arith}
use Rattle.std.proofs.ByRecursion.{All-take, All-drop}
use Rattle.std.proofs.lemmas.List.{length-drop}
use Rattle.plain.specs.Trees.{File, Dir, Places}
use Rattle.layout.specs.declared.block.Tag.TheVariants as tag
use Rattle.layout.specs.Blocks.{tag_number, file_block, indirect_block}
use Rattle.layout.specs.Entries.{empty_entry, directory_block, blocks_for}
use Rattle.trees.specs.Stored.{Stored, StoredTree, place_entry, entries, root_place}
use Rattle.trees.specs.Represents.{BlockMap, InRange}
use Rattle.trees.specs.Lookups.{and_then, legal_ends, legal_directory, legal_indirect, legal_root, read, judged, visit, visit_directory, visit_indirect, visit_root}
use Rattle.trees.proofs.Lists.{chunk}
use Rattle.trees.proofs.Chunks.{length_chunk}
use Rattle.trees.proofs.Nodes.{length_entries}
use Rattle.trees.proofs.Legality.{file_ends, indirect_ends, directory_ends, legal_indirect_lem, legal_directory_lem}
use Rattle.trees.proofs.Held.{FileHeld, DirHeld, Held, indirect_held, entries_legal, TreeHeld}

module _ (m : BlockMap) (tag owner a : ℕ) (b : List ℕ) (there : m a ≡ Ok b) (ends : legal_ends tag owner b ≡ true) where
  visited : visit m tag owner a ≡ Ok b
  visited = ap (λ x. and_then (read x a) (λ b. judged (legal_ends tag owner b) a b)) there ∙ ap (λ t. judged t a b) ends

  visited_judged : (test : List ℕ → Bool) → test b ≡ true → and_then (visit m tag owner a) (λ b. judged (test b) a b) ≡ Ok b
  visited_judged test passes = ap (λ r. and_then r (λ b. judged (test b) a b)) visited ∙ ap (λ t. judged t a b) passes

module _ (m : BlockMap) (limit next : ℕ) (few : limit ≤ 65536) (bound : next < 2 ^ 32) where
  -- block j of a file, and its indirect block
  pub file_visited : (f : File) (w : Stored) → FileHeld m limit next f w → (j : ℕ) → j < length w.blocks →
      visit m (tag_number tag.File) f.qid (get_or w.blocks j 0) ≡ Ok (file_block f.qid (chunk 504 j (f.bytes ++ w.slack)))
  file_visited f w h j lt = visited m (tag_number tag.File) f.qid (get_or w.blocks j 0) _ (h.bytes j lt) (file_ends f.qid (omega (arith, h.qid)) (chunk 504 j (f.bytes ++ w.slack)))

  pub indirect_visited : (f : File) (w : Stored) → FileHeld m limit next f w → 0 < length w.indirect →
      visit_indirect m limit next f.qid (blocks_for (length f.bytes)) (get_or w.indirect 0 0) ≡ Ok (indirect_block f.qid (drop 6 w.blocks))
  indirect_visited f w h more =
      let rest = drop 6 w.blocks in
      let blocks = blocks_for (length f.bytes) - 6 in
      let long : length rest ≡ blocks = length-drop 6 w.blocks ∙ omega (arith, h.fits.blocks) in
      visited_judged m (tag_number tag.Indirect) f.qid (get_or w.indirect 0 0) (indirect_block f.qid rest)
      (indirect_held m limit next f w h more) (indirect_ends f.qid (omega (arith, h.qid)) rest)
      (legal_indirect limit blocks) (legal_indirect_lem limit f.qid blocks rest few (All-drop (InRange limit) 6 w.blocks h.blocks) long (omega (arith, h.size)))

  -- block j of a directory
  pub directory_visited : (d : Dir) (w : Stored) (c : Places Stored) → DirHeld m limit next d w c → Held m limit next c → (j : ℕ) → j < length w.blocks →
      visit_directory m limit next d.qid (get_or w.blocks j 0) ≡ Ok (directory_block d.qid (chunk 7 j (entries c)))
  directory_visited d w c h held j lt =
      let es = chunk 7 j (entries c) in
      let seven : length es ≡ 7 = length_chunk 7 j (length w.blocks) (entries c) (length_entries c ∙ h.fits.blocks) lt in
      visited_judged m (tag_number tag.Directory) d.qid (get_or w.blocks j 0) (directory_block d.qid es)
      (h.entries j lt) (directory_ends d.qid (omega (arith, h.qid)) es)
      (legal_directory limit next) (legal_directory_lem limit next d.qid es seven (All-take _ 7 _ (All-drop _ _ (entries c) (entries_legal m limit next few bound c held))))

pub root_visited : (m : BlockMap) (limit : ℕ) (t : StoredTree) → TreeHeld m limit t →
    visit_root m limit t.next_qid t.top ≡ Ok (directory_block 0 (place_entry (root_place t) ∷ replicate 6 empty_entry))
root_visited m limit t h = visited_judged m (tag_number tag.Directory) 0 t.top _ h.top (directory_ends 0 (omega arith) _) (legal_root limit t.next_qid) h.legal
