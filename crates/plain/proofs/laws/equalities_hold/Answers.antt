use Rattle.plain.proofs.Texts.{texts_equal}
use Rattle.plain.proofs.laws.equalities_hold.Goals as goal

pub returns : goal.returns
returns c = record {
  names = λ a b. texts_equal 27 a.text.len b.text.len a.text.bytes b.text.bytes a.text.whole b.text.whole a.text.fits b.text.fits a.text.filled b.text.filled;
  paths = λ a b. texts_equal 224 a.text.len b.text.len a.text.bytes b.text.bytes a.text.whole b.text.whole a.text.fits b.text.fits a.text.filled b.text.filled;
}
