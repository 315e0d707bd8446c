use Rattle.std.proofs.Common.{◌∙◌, ap, sym, set, ℕ, arith}
use Rattle.std.proofs.lemmas.List.{length-set}
use Rattle.std.proofs.lemmas.Option.{get_or_from_slice_get}
use Rattle.epoch_engine.proofs.PrintedLemmas.{none_left, others_forget}
use Rattle.epoch_engine.proofs.prints.Prints.forget.Goals as goal

-- one stream more has no turn
pub loop-place-preserved : goal.loop-place-preserved
loop-place-preserved c =
    let outs = c.args.outs.now in
    let turns = c.loop-place.self.turns in
    let place = c.loop-place.place in
    let stream = get_or_from_slice_get outs place c.get.result.now 0 c.get.ensures in
    let was = c.loop-place.invariant in
    record {
      others = others_forget outs turns (record turns { given = set turns.given c.get.result.now 0 }) place (omega arith) (ap (λ (s : ℕ). set turns.given s 0) (sym stream)) was.others;
      last = was.last;
      as_many = length-set turns.given c.get.result.now 0 ∙ was.as_many;
    }

-- none has one
pub returns-clause-none : goal.returns-clause-none
returns-clause-none c = none_left c.args.outs.now c.loop-place.self.turns c.loop-place.place (omega arith) c.loop-place.invariant.others
