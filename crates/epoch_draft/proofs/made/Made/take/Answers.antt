use Rattle.std.proofs.Common.{◌∙◌, ◌<◌, List, ℕ, ap, sym, subst, length, set, map}
use Rattle.std.specs.List.{All}
use Rattle.event_types.specs.Tuple.{TupleView}
use Rattle.epoch_draft.specs.Made.{placed}
use Rattle.epoch_draft.proofs.MadeLemmas.{below_got, cleared_is, seen_at}
use Rattle.epoch_draft.proofs.made.Made.take.Goals as goal

pub copies-requires : goal.copies-requires
copies-requires c =
    subst (λ (ts : List TupleView). All (λ place. place < length ts) c.as_slice-places.result.now) (sym c.as_slice.ensures)
    (subst (All (λ place. place < length c.self.inside.tuples)) (sym c.as_slice-places.ensures) (below_got c.self.inside.tuples c.self.inside.places c.args.stream c.get.result.now c.self.invariant c.get.ensures))

pub returns-clause-value : goal.returns-clause-value
returns-clause-value c =
    c.in_ok-tuples.ensures ∙ ap (λ (ts : List TupleView). placed ts c.as_slice-places.result.now) c.as_slice.ensures ∙ ap (placed c.self.inside.tuples) c.as_slice-places.ensures
    ∙ sym (seen_at c.self.inside.tuples c.self.inside.places c.args.self.now c.args.stream c.get.result.now c.self.view_is c.get.ensures)

pub returns-clause-taken : goal.returns-clause-taken
returns-clause-taken c =
    ap (λ (ps : List ℕ). map (placed c.self.inside.tuples) (set c.self.inside.places c.args.stream ps)) c.clear.ensures ∙ cleared_is c.self.inside.tuples c.self.inside.places c.args.self.now c.args.stream c.self.view_is
