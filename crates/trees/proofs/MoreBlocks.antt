-- A map that agrees on a tree's own addresses stands for the tree too.
use Rattle.std.proofs.Common.{◌<◌, ◌∙◌}
use Rattle.std.proofs.ByRecursion.{All-weaker}
use Rattle.trees.specs.Stored.{Block, blocks_of, uses}
use Rattle.trees.specs.Represents.{Stands}
use Rattle.trees.specs.Theorems.{MoreBlocks}
use Rattle.trees.proofs.Lists.{all_both, all_used}

pub more_blocks : MoreBlocks
more_blocks m m' limit t same r = record {
  few = r.few;
  formed = r.formed;
  fits = r.fits;
  within = r.within;
  once = r.once;
  stand =
      let Used : Block → Type 0 = λ b. 0 < uses b.address (blocks_of t) in
      All-weaker (λ b. Stands m b × Used b) (Stands m') (λ b h. same b.address h.1 ∙ h.0) (blocks_of t)
      (all_both (Stands m) Used (blocks_of t) r.stand (all_used (blocks_of t)));
}
