use Rattle.std.proofs.Common.{◌≤◌, ℕ, List, length, subst, arith}
use Rattle.epoch_draft.proofs.Lists.{taken_all}
use Rattle.epoch_engine.proofs.FitLemmas.{GrownSoFar, all_grown, next_grown}
use Rattle.epoch_engine.proofs.fitting.add_stores.Goals as goal

-- one state more has its store
pub loop-number-preserved : goal.loop-number-preserved
loop-number-preserved c =
    next_grown c.args.network.now c.args.came.now c.loop-number.number-index c.args.stores.now c.loop-number.stores c.add_store.new.stores (omega arith) c.loop-number.invariant c.in_ok-add_store.ensures.grown c.add_store.ensures.others
    c.add_store.ensures.as_many

-- all have
pub returns-clause-grown : goal.returns-clause-grown
returns-clause-grown c =
    let came = c.args.came.now in
    let past : length came ≤ c.loop-number.number-index = omega arith in
    all_grown c.args.network.now came c.args.stores.now c.loop-number.stores c.requires.came
    (subst (λ (ns : List ℕ). GrownSoFar c.args.network.now ns c.args.stores.now c.loop-number.stores) (taken_all came c.loop-number.number-index past) c.loop-number.invariant)
