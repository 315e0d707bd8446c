use Rattle.expressions.proofs.TypingLemmas.{typed_kinds}
use Rattle.algebra.proofs.TypingLemmas.{typed_suits}
use Rattle.algebra.proofs.laws.typed_suits.Goals as goal

pub returns : goal.returns
returns c e count kinds out streams all h = (typed_suits e count kinds out streams all h, typed_kinds e count kinds out streams all h)
