use Rattle.layout.proofs.Bytes.{number16_bytes16, number32_bytes32}
use Rattle.layout.proofs.Patches.{patched_here, patched_beside}
use Rattle.layout.proofs.Ends.{block_length, block_body, block_pad, block_tag, block_owner}
use Rattle.layout.proofs.Fields.{entry_name, entry_mode, entry_reserved, entry_qid, entry_version, entry_size, entry_direct, entry_indirect}
use Rattle.layout.proofs.Bodies.{file_contents, indirect_address, address_written, directory_entry, entry_written, super_numbers_lem, super_legal}
use Rattle.layout.proofs.laws.round_trips_hold.Goals as goal

pub returns : goal.returns
returns c = record {
  in_two_bytes = number16_bytes16;
  in_four_bytes = number32_bytes32;
  written = patched_here;
  beside = λ i j n new bs within. patched_beside i new bs within j n;
  whole = block_length;
  body = block_body;
  pad = block_pad;
  tag = block_tag;
  owner = block_owner;
  contents = file_contents;
  address = indirect_address;
  address_written = address_written;
  name = entry_name;
  mode = entry_mode;
  reserved = entry_reserved;
  qid = entry_qid;
  version = entry_version;
  size = entry_size;
  direct = entry_direct;
  indirect = entry_indirect;
  entry = directory_entry;
  entry_written = entry_written;
  numbers = super_numbers_lem;
  legal = super_legal;
}
