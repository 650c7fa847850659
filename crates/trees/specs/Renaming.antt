-- A tree whose blocks have other addresses.
use Rattle.std.specs.Prelude.{ℕ, cond, map, ◌==◌}
use Rattle.layout.specs.Entries.{Entry}
use Rattle.trees.specs.Stored.{Stored, Content, file_content, indirect_content, directory_content, Block, StoredTree, map_places}

module _ (g : ℕ → ℕ) where
  abbrev pub renamed_stored : Stored → Stored
  renamed_stored w = record { blocks = map g w.blocks; indirect = map g w.indirect; slack = w.slack }

  abbrev pub renamed : StoredTree → StoredTree
  renamed t = record { top = g t.top; root = t.root; stored = renamed_stored t.stored; places = map_places renamed_stored t.places; next_qid = t.next_qid }

  -- a block with other addresses in it; an address 0 is none
  abbrev pub renamed_entry : Entry → Entry
  renamed_entry e = record { name = e.name; mode = e.mode; qid = e.qid; version = e.version; size = e.size; direct = map g e.direct; indirect = cond (e.indirect == 0) 0 (g e.indirect) }

  abbrev pub renamed_content : Content → Content
  renamed_content (file_content owner bytes) = file_content owner bytes
  renamed_content (indirect_content owner addresses) = indirect_content owner (map g addresses)
  renamed_content (directory_content owner entries) = directory_content owner (map renamed_entry entries)

  abbrev pub renamed_block : Block → Block
  renamed_block b = record { address = g b.address; content = renamed_content b.content }
