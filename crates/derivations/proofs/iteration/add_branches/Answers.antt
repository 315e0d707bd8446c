use Rattle.std.proofs.Common.{◌++◌, ◌<◌, ◌-◌, ap, arith, sym, subst, List}
use Rattle.std.specs.Prelude.{Some}
use Rattle.std.specs.List.{All}
use Rattle.std.proofs.lemmas.List.Elements.{All-pop, All-push, All-same}
use Rattle.event_types.specs.Tuple.{TupleView}
use Rattle.scalar_expr.specs.Fits.{AllFit}
use Rattle.algebra.proofs.FoldLemmas.{SuitsBranch, suits_branches}
use Rattle.derivations.specs.DerivedTuples.{DerivedTuple, tuples_in}
use Rattle.derivations.specs.Folds.{IsSuited, runs_left}
use Rattle.derivations.specs.declared.iteration.Going.{Going}
use Rattle.derivations.proofs.BranchLemmas.{goers_suit}
use Rattle.derivations.proofs.FoldLemmas.{behind_branches, branch_step, further_suits, none_behind}
use Rattle.derivations.proofs.LaterLemmas.{derived_goers_start_later}
use Rattle.derivations.proofs.FittingLemmas.{all_tuples}
use Rattle.derivations.proofs.iteration.add_branches.Goals as goal

-- both conditions fit each tuple with the binding
pub goers_of-requires-clause-choose : goal.goers_of-requires-clause-choose
goers_of-requires-clause-choose g c =
    let some : 0 < c.args.going.now.most = omega arith in
    all_tuples (λ (r : TupleView). AllFit c.args.fold.now.choose.now r (Some c.args.going.now.binding)) c.args.fold.now.found
    (suits_branches c.args.going.now.most c.args.fold.now.choose.now c.args.fold.now.on.now c.args.fold.now.projection.now.parts (tuples_in c.args.fold.now.found) c.args.going.now.binding some c.requires.suits).0

pub goers_of-requires-clause-on : goal.goers_of-requires-clause-on
goers_of-requires-clause-on g c =
    let some : 0 < c.args.going.now.most = omega arith in
    all_tuples (λ (r : TupleView). AllFit c.args.fold.now.on.now r (Some c.args.going.now.binding)) c.args.fold.now.found
    (suits_branches c.args.going.now.most c.args.fold.now.choose.now c.args.fold.now.on.now c.args.fold.now.projection.now.parts (tuples_in c.args.fold.now.found) c.args.going.now.binding some c.requires.suits).1

-- without more events there is nothing to go on with
pub returns-then-going-eq0-clause-runs : goal.returns-then-going-eq0-clause-runs
returns-then-going-eq0-clause-runs g c =
    sym (ap (λ runs. runs ++ runs_left c.args.fold.now.choose.now c.args.fold.now.on.now c.args.fold.now.projection.now.parts c.args.fold.now.found c.args.left.now)
    (none_behind c.args.fold.now.choose.now c.args.fold.now.on.now c.args.fold.now.projection.now.parts c.args.fold.now.found c.args.going.now (omega arith)))

-- the goers' branches are the runs, each goer starts later, and each branch is suited
pub loop-event-init : goal.loop-event-init
loop-event-init g c =
    let some : 0 < c.args.going.now.most = omega arith in (
      ap (λ runs. runs ++ runs_left c.args.fold.now.choose.now c.args.fold.now.on.now c.args.fold.now.projection.now.parts c.args.fold.now.found c.args.left.now)
          (behind_branches c.args.fold.now.choose.now c.args.fold.now.on.now c.args.fold.now.projection.now.parts c.args.fold.now.found c.args.going.now c.in_ok-goers.goers some c.in_ok-goers.ensures),
      All-same (λ (x : DerivedTuple). c.args.going.now.binding.at < x.tuple.from) _ _ c.in_ok-goers.ensures
          (derived_goers_start_later c.args.fold.now.choose.now c.args.fold.now.on.now c.args.fold.now.found c.args.going.now.binding),
      All-same (λ (x : DerivedTuple). SuitsBranch (c.args.going.now.most - 1) c.args.fold.now.choose.now c.args.fold.now.on.now c.args.fold.now.projection.now.parts (tuples_in c.args.fold.now.found) c.args.going.now.binding x.tuple) _ _ c.in_ok-goers.ensures
          (goers_suit c.args.going.now.most c.args.fold.now.choose.now c.args.fold.now.on.now c.args.fold.now.projection.now.parts c.args.fold.now.found c.args.going.now.binding some c.requires.suits),
      c.requires.others,
    )

-- each goer starts after the binding was detected
pub further-requires-clause-later : goal.further-requires-clause-later
further-requires-clause-later g c =
    (All-pop (λ (x : DerivedTuple). c.args.going.now.binding.at < x.tuple.from) c.loop-event.goers c.pop.new.self (Some c.in-Some.event) c.in-Some.ensures.items c.loop-event.invariant.1).1

-- the scalars fit each goer
pub further-requires-clause-fits : goal.further-requires-clause-fits
further-requires-clause-fits g c =
    (All-pop (λ (x : DerivedTuple). SuitsBranch (c.args.going.now.most - 1) c.args.fold.now.choose.now c.args.fold.now.on.now c.args.fold.now.projection.now.parts (tuples_in c.args.fold.now.found) c.args.going.now.binding x.tuple)
    c.loop-event.goers c.pop.new.self (Some c.in-Some.event) c.in-Some.ensures.items c.loop-event.invariant.2).1.0

-- one more iteration is left in place of its event
pub loop-event-preserved : goal.loop-event-preserved
loop-event-preserved g c =
    let later = All-pop (λ (x : DerivedTuple). c.args.going.now.binding.at < x.tuple.from) c.loop-event.goers c.pop.new.self (Some c.in-Some.event) c.in-Some.ensures.items c.loop-event.invariant.1 in
    let suits = All-pop (λ (x : DerivedTuple). SuitsBranch (c.args.going.now.most - 1) c.args.fold.now.choose.now c.args.fold.now.on.now c.args.fold.now.projection.now.parts (tuples_in c.args.fold.now.found) c.args.going.now.binding x.tuple)
    c.loop-event.goers c.pop.new.self (Some c.in-Some.event) c.in-Some.ensures.items c.loop-event.invariant.2 in (
      branch_step c.args.fold.now.choose.now c.args.fold.now.on.now c.args.fold.now.projection.now.parts c.args.fold.now.found c.args.going.now c.in_ok-further.field-0 c.in-Some.event c.loop-event.goers c.pop.new.self
          c.loop-event.left c.add.new.self _ c.in-Some.ensures.items c.in_ok-further.ensures c.in_ok-add.ensures.ok c.loop-event.invariant.0,
      later.0,
      suits.0,
      subst (λ (goings : List Going). All (IsSuited c.args.fold.now.choose.now c.args.fold.now.on.now c.args.fold.now.projection.now.parts c.args.fold.now.found) goings) (sym c.in_ok-add.ensures.ok)
          (All-push (IsSuited c.args.fold.now.choose.now c.args.fold.now.on.now c.args.fold.now.projection.now.parts c.args.fold.now.found) c.loop-event.left c.in_ok-further.field-0 c.loop-event.invariant.3
          (further_suits c.args.fold.now.choose.now c.args.fold.now.on.now c.args.fold.now.projection.now.parts c.args.fold.now.found c.args.going.now c.in_ok-further.field-0 c.in-Some.event c.in_ok-further.ensures suits.1)),
    )
