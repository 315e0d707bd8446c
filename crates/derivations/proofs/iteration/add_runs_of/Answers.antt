use Rattle.std.proofs.Common.{◌∙◌, ap}
use Rattle.std.specs.Prelude.{Some}
use Rattle.std.proofs.lemmas.List.Elements.{All-pop}
use Rattle.derivations.specs.DerivedTuples.{DerivedTuple, derived_fold}
use Rattle.derivations.specs.Folds.{IsSuited, run_of}
use Rattle.derivations.proofs.FoldLemmas.{none_left, one_less, own_init, own_step}
use Rattle.derivations.proofs.iteration.add_runs_of.Goals as goal

-- the runs from the binding are left, and their iterations are suited
pub loop-going-init : goal.loop-going-init
loop-going-init g c = (
  own_init c.args.fold.now.choose.now c.args.fold.now.on.now c.args.fold.now.projection.now.parts c.args.fold.now.found c.args.binding.now.by c.args.binding.now.tuple c.in_ok-start.start c.new-left.result c.add_branches.new.left c.args.out.now
      c.in_ok-start.ensures.events c.in_ok-start.ensures.binding c.in_ok-start.ensures.most c.new-left.ensures c.in_ok-add_branches.ensures.runs,
  c.in_ok-add_branches.ensures.suited,
)

-- what is left is suited, the last iteration and the others
pub add_branches-requires-in-Some-clause-suits : goal.add_branches-requires-in-Some-clause-suits
add_branches-requires-in-Some-clause-suits g c =
    (All-pop (IsSuited c.args.fold.now.choose.now c.args.fold.now.on.now c.args.fold.now.projection.now.parts c.args.fold.now.found) c.loop-going.left c.pop.new.self (Some c.in-Some.going) c.in-Some.ensures.items c.loop-going.invariant.1).1

pub add_branches-requires-in-Some-clause-others : goal.add_branches-requires-in-Some-clause-others
add_branches-requires-in-Some-clause-others g c =
    (All-pop (IsSuited c.args.fold.now.choose.now c.args.fold.now.on.now c.args.fold.now.projection.now.parts c.args.fold.now.found) c.loop-going.left c.pop.new.self (Some c.in-Some.going) c.in-Some.ensures.items c.loop-going.invariant.1).0

-- the last iteration's run was added, and those with which it goes on are left
pub loop-going-preserved : goal.loop-going-preserved
loop-going-preserved g c = (
  own_step c.args.fold.now.choose.now c.args.fold.now.on.now c.args.fold.now.projection.now.parts c.args.fold.now.found c.args.binding.now.by c.in-Some.going c.in_ok-fold_of.field-0 c.loop-going.left c.pop.new.self
      c.add_branches-in-Some.new.left c.loop-going.out c.add.new.self _ c.in-Some.ensures.items c.in_ok-add_branches-2.ensures.runs
      (c.in_ok-fold_of.ensures ∙ ap (λ (x : DerivedTuple). derived_fold x.by (run_of c.in-Some.going)) c.binding.view_is) c.in_ok-add.ensures.ok c.loop-going.invariant.0,
  c.in_ok-add_branches-2.ensures.suited,
)

-- one run less is left
pub loop-going-smaller : goal.loop-going-smaller
loop-going-smaller g c =
    one_less c.args.fold.now.choose.now c.args.fold.now.on.now c.args.fold.now.projection.now.parts c.args.fold.now.found c.in-Some.going c.loop-going.left c.pop.new.self c.add_branches-in-Some.new.left c.in-Some.ensures.items c.in_ok-add_branches-2.ensures.runs

-- none is left
pub returns : goal.returns
returns g c =
    none_left c.args.fold.now.choose.now c.args.fold.now.on.now c.args.fold.now.projection.now.parts c.args.fold.now.found c.args.binding.now.by c.loop-going.left c.loop-going.out _
    (λ some. (let wrong = c.in_default.ensures.found.1 some in cc)) c.loop-going.invariant.0
