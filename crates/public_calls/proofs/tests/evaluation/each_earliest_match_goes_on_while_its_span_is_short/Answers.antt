use Rattle.std.proofs.Common.{◌<◌, length, pos, arith, subst, sym}
use Rattle.event_types.specs.declared.comparison.Cmp.TheVariants.{Lt}
use Rattle.event_types.specs.declared.value.Value.TheVariants.{Int}
use Rattle.semantics.specs.Denotation.{streams_of}
use Rattle.semantics.specs.Expressions.{Ex}
use Rattle.algebra.specs.Suits.{Suits}
use Rattle.public_calls.proofs.SpanLemmas.{span_suits}
use Rattle.public_calls.proofs.tests.evaluation.each_earliest_match_goes_on_while_its_span_is_short.Goals as goal

-- there are two streams, and DUR fits every tuple
pub evaluated-requires-clause-suits : goal.evaluated-requires-clause-suits
evaluated-requires-clause-suits g c =
    let two : 1 < length c.in_ok-env.env = omega (arith, c.in_ok-env.ensures) in
    subst (λ (x : Ex). Suits x (length c.in_ok-env.env) (streams_of c.in_ok-env.env)) (sym c.in_ok-expr.ensures) (span_suits (length c.in_ok-env.env) Lt (Int (pos 3)) (streams_of c.in_ok-env.env) two)
