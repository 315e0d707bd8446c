use Rattle.std.proofs.Common.{◌≡◌, ◌∙◌, ◌++◌, ap, length, List, map, subst}
use Rattle.std.specs.Prelude.{nat_lt, None, OnOk}
use Rattle.std.specs.List.{All}
use Rattle.event_types.specs.Tuple.{TupleView}
use Rattle.expressions.specs.Views.{ex_of}
use Rattle.expressions.specs.declared.expression.Expr.{Expr}
use Rattle.scalar_expr.specs.Fits.{AllFit, Fits}
use Rattle.algebra.specs.Suits.{Suits}
use Rattle.derivations.specs.DerivedTuples.{DerivedTuple, as_read, derived}
use Rattle.derivations.specs.Tables.{streams_of, tuples_of_streams}
use Rattle.derivations.proofs.DenotingLemmas.{fold_fits, found_fit, next_fits, read_derived}
use Rattle.derivations.proofs.denoting.+denoting.Goals as goal

-- the condition of FILTER fits what it is tested on
pub add_derived-add_filtered-requires : goal.add_derived-add_filtered-requires
add_derived-add_filtered-requires g t c =
    let suits = subst (λ (x : Expr). Suits (ex_of x) (length c.args.streams.now) (tuples_of_streams c.args.streams.now)) c.in-Filter.is c.requires in
    found_fit (λ (r : TupleView). AllFit c.in-Filter.condition r None) c.args.declared (streams_of c.args.streams.now) (ex_of c.in-Filter.inner.value) c.as_slice-in-Filter.result.now
    (c.as_slice-in-Filter.ensures ∙ c.in_ok-found-in-Filter.ensures ∙ ap (λ (x : Expr). derived c.args.declared (ex_of x) (streams_of c.args.streams.now)) c.deref.ensures) suits.1

-- the scalars of SELECT fit what they are applied to
pub add_derived-add_selected-requires : goal.add_derived-add_selected-requires
add_derived-add_selected-requires g t c =
    let suits = subst (λ (x : Expr). Suits (ex_of x) (length c.args.streams.now) (tuples_of_streams c.args.streams.now)) c.in-Select.is c.requires in
    found_fit (λ (r : TupleView). All (λ s. Fits s r None) c.in-Select.projection.parts) c.args.declared (streams_of c.args.streams.now) (ex_of c.in-Select.inner.value) c.as_slice-in-Select.result.now
    (c.as_slice-in-Select.ensures ∙ c.in_ok-found-in-Select.ensures ∙ ap (λ (x : Expr). derived c.args.declared (ex_of x) (streams_of c.args.streams.now)) c.deref-in-Select.ensures) suits.1

-- the condition of NEXT fits what it is tested on
pub add_derived-add_all_matches-requires : goal.add_derived-add_all_matches-requires
add_derived-add_all_matches-requires g t c =
    let suits = subst (λ (x : Expr). Suits (ex_of x) (length c.args.streams.now) (tuples_of_streams c.args.streams.now)) c.in-Next.is c.requires in
    next_fits c.in-Next.condition c.args.declared (streams_of c.args.streams.now) (ex_of c.in-Next.left.value) (ex_of c.in-Next.right.value) c.as_slice-in-Next.result.now c.as_slice-in-Next-2.result.now
    (c.as_slice-in-Next.ensures ∙ c.in_ok-bindings-in-Next.ensures ∙ ap (λ (x : Expr). derived c.args.declared (ex_of x) (streams_of c.args.streams.now)) c.deref-in-Next.ensures)
    (c.as_slice-in-Next-2.ensures ∙ c.in_ok-found-in-Next.ensures ∙ ap (λ (x : Expr). derived c.args.declared (ex_of x) (streams_of c.args.streams.now)) c.deref-in-Next-2.ensures) suits.2

-- what FOLD needs holds at each binding
pub add_derived-add_all_runs-requires : goal.add_derived-add_all_runs-requires
add_derived-add_all_runs-requires g t c =
    let suits = subst (λ (x : Expr). Suits (ex_of x) (length c.args.streams.now) (tuples_of_streams c.args.streams.now)) c.in-Fold.is c.requires in
    fold_fits c.in-Fold.choose c.in-Fold.on c.in-Fold.projection.parts c.args.declared (streams_of c.args.streams.now) (ex_of c.in-Fold.left.value) (ex_of c.in-Fold.right.value) c.as_slice-in-Fold-3.result.now c.in_ok-sides-in-Fold.sides
    (c.as_slice-in-Fold-3.ensures ∙ c.in_ok-bindings-in-Fold.ensures ∙ ap (λ (x : Expr). derived c.args.declared (ex_of x) (streams_of c.args.streams.now)) c.deref-in-Fold.ensures)
    (c.in_ok-sides-in-Fold.ensures ∙ c.as_slice-in-Fold-2.ensures ∙ c.in_ok-found-in-Fold.ensures ∙ ap (λ (x : Expr). derived c.args.declared (ex_of x) (streams_of c.args.streams.now)) c.deref-in-Fold-2.ensures) suits.2

-- what was read of the stream is what it gives
pub add_derived-returns-in-Read : goal.add_derived-returns-in-Read
add_derived-returns-in-Read g t c =
    read_derived c.args.declared c.in-Read.stream c.args.streams.now c.get.result.now (ex_of c.args.expr.now) c.args.out.now c.add_read.new.out c.add_read.result
    c.get.ensures (ap ex_of c.in-Read.is) (subst (λ (items : List DerivedTuple). OnOk c.add_read.result (c.add_read.new.out ≡ c.args.out.now ++ map (as_read (nat_lt c.in-Read.stream c.args.declared)) items)) c.as_slice.ensures c.add_read.ensures)
