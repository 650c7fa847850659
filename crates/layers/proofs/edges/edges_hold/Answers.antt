use Rattle.std.proofs.Common.{refl}
use Rattle.layers.specs.FakeWorms.{largest_to}
use Rattle.layers.proofs.edges.edges_hold.Goals as goal

pub returns : goal.returns
unfolding largest_to
returns c = record {
  worm_over_2 = refl;
  worm_over_4098 = refl;
  worm_over_4099 = refl;
  worm_over_write_once = refl;
  bit_9 = (refl, refl);
  bit_4095 = (refl, refl);
  bit_4096 = (refl, refl, refl);
  bit_0_blank = refl;
  bit_1_held = refl;
  below_spoiled = refl;
  spoiled_and_blank = refl;
  held_and_blank = refl;
  most_blocks = refl;
  too_many = refl;
  kinds_differ = refl;
}
