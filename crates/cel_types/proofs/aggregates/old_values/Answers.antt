use Rattle.std.proofs.Common.{◌∙◌, ◌++◌, ◌∷◌, [], map, ap, sym, arith}
use Rattle.std.proofs.lemmas.List.{map-append}
use Rattle.std.proofs.lemmas.List.FromFn.{map-range_with_len_more}
use Rattle.semantics.specs.Scalars.{Binding}
use Rattle.scalar_expr.specs.Views.{sc_of}
use Rattle.cel_types.proofs.aggregates.old_values.Goals as goal

pub loop-place-preserved : goal.loop-place-preserved
loop-place-preserved c =
    let place = c.loop-place.place in
    ap (map sc_of) c.in_ok-push.ensures.items ∙ map-append sc_of c.loop-place.terms.items _ ∙ ap (λ front. front ++ Binding place ∷ []) c.loop-place.invariant
    ∙ sym (map-range_with_len_more Binding 0 place place (omega arith))
