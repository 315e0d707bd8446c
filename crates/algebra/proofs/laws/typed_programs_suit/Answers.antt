use Rattle.std.specs.List.{range_with_len}
use Rattle.semantics.specs.Programs.{declared_streams}
use Rattle.expressions.proofs.ProgramLemmas.{declared_kinds, kinds_in_turn}
use Rattle.algebra.proofs.ProgramLemmas.{suit_in_turn}
use Rattle.algebra.proofs.laws.typed_programs_suit.Goals as goal

pub returns : goal.returns
returns c kinds program history typed all =
    let there = range_with_len 0 program.declared in
    let declared = declared_streams program.declared history in
    let have = declared_kinds kinds program.declared history all in
    (suit_in_turn kinds there declared program.order have typed.in_turn, kinds_in_turn kinds there declared program.order have typed.in_turn)
