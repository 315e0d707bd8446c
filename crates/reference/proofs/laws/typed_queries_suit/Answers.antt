use Rattle.std.proofs.Common.{subst, sym}
use Rattle.std.specs.List.{range_with_len}
use Rattle.semantics.specs.Denotation.{Streams}
use Rattle.semantics.specs.Programs.{declared_streams}
use Rattle.expressions.proofs.ProgramLemmas.{declared_kinds}
use Rattle.algebra.specs.SuitedQueries.{SuitInTurn}
use Rattle.algebra.proofs.ProgramLemmas.{suit_in_turn}
use Rattle.reference.specs.Views.{placed}
use Rattle.reference.proofs.laws.typed_queries_suit.Goals as goal

pub returns : goal.returns
returns c kinds declared queries places history lists typed all h =
    let suited = suit_in_turn kinds (range_with_len 0 declared) (declared_streams declared history) (placed queries places) (declared_kinds kinds declared history all) typed.in_turn in
    subst (λ (streams : Streams). SuitInTurn streams (placed queries places)) (sym h.heard) suited
