use Rattle.std.proofs.Common.{refl}
use Rattle.layout.specs.Numbers.{bytes16, bytes32, number16, number32, fit, patched}
use Rattle.layout.specs.Blocks.{legal_pad, block, file_block, indirect_block}
use Rattle.layout.specs.Entries.{entry_bytes, directory_block, root_block, legal_addresses, legal_name_field, legal_entry}
use Rattle.layout.specs.Supers.{super_block, legal_super}
use Rattle.layout.proofs.laws.vectors_hold.Goals as goal

pub returns : goal.returns
unfolding bytes16 bytes32 number16 number32 fit patched legal_pad block file_block indirect_block entry_bytes directory_block root_block legal_addresses legal_name_field legal_entry super_block legal_super
returns c = record {
  entry = refl;
  entry_name = refl;
  entry_mode = refl;
  entry_reserved = refl;
  entry_qid = refl;
  entry_version = refl;
  entry_size = refl;
  entry_direct = refl;
  entry_indirect = refl;
  directory = refl;
  directory_ends = record { pad = refl; tagged = refl; owned = refl };
  directory_first = refl;
  directory_second = refl;
  directory_past = refl;
  empty_place = refl;
  indirect = refl;
  indirect_ends = record { pad = refl; tagged = refl; owned = refl };
  indirect_first = refl;
  indirect_last = refl;
  indirect_past = refl;
  file = refl;
  file_ends = record { pad = refl; tagged = refl; owned = refl };
  file_body = refl;
  super = refl;
  super_ends = record { pad = refl; tagged = refl; owned = refl };
  super_read = refl;
  super_legal = refl;
  super_with_more = refl;
  super_with_pad = refl;
  no_super = refl;
  root = refl;
  root_first = refl;
  root_no_entry_of_a_tree = refl;
  last_direct = refl;
  first_indirect = refl;
  last_indirect = refl;
  legal = refl;
  legal_empty = refl;
  legal_version = refl;
  legal_largest = refl;
  qid_not_given = refl;
  address_at_limit = refl;
  address_too_low = refl;
  address_missing = refl;
  address_not_used = refl;
  too_large = refl;
  name_empty = refl;
  name_with_more = refl;
  reserved_used = refl;
  no_such_mode = refl;
  legal_directory = refl;
  directory_too_large = refl;
  directory_not_full = refl;
  empty_with_more = refl;
}
