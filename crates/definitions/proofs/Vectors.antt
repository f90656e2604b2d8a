-- The rows are as the definitions say: antt computes both sides of each table and finds them the same.
use mathlib.Core.Path.{refl}
use Rattle.isa.specs.Decoding.{decoded}
use Rattle.isa.specs.Encoding.{in_range, word_of}
use Rattle.isa.specs.Rvc.{expanded}
use Rattle.ascii.specs.Numbers.{decimal_by, decimal, signed_decimal}
use Rattle.text.specs.Names.{names, name_at}
use Rattle.text.specs.Text.{operands_of, text_of}
use Rattle.definitions.specs.Vectors.{VectorsHold}

pub vectors_hold : VectorsHold
unfolding decoded in_range word_of expanded decimal_by decimal signed_decimal names name_at operands_of text_of
vectors_hold = record {
  words = (refl, (refl, (refl, (refl, (refl, (refl, (refl, (refl, (refl, tt)))))))));
  no_words = refl;
  quadrant0 = ((refl, refl), ((refl, refl), ((refl, refl), tt)));
  quadrant1 = ((refl, refl), ((refl, refl), ((refl, refl), ((refl, refl), ((refl, refl), ((refl, refl), ((refl, refl), ((refl, refl), tt))))))));
  quadrant2 = ((refl, refl), ((refl, refl), ((refl, refl), ((refl, refl), tt))));
  no_halves = refl;
}
