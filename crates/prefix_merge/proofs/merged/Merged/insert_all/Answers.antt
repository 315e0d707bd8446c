use Rattle.std.proofs.Common.{◌≡◌, ◌<◌, ℕ, [], arith, get_or, length, refl, subst, sym, take}
use Rattle.std.proofs.lemmas.List.Elements.{All-nil}
use Rattle.prefix_merge.specs.Coming.{ListsCome}
use Rattle.prefix_merge.proofs.ComingLemmas.{come_twice, none_come}
use Rattle.automaton.specs.States.{Net}
use Rattle.prefix_merge.specs.Merging.{HasEnd}
use Rattle.prefix_merge.proofs.TurnLemmas.{HasInserted, all_inserted, next_inserted, none_inserted, still_fresh, those_there}
use Rattle.prefix_merge.proofs.merged.Merged.insert_all.Goals as goal

-- the next end isn't there
pub insert-requires : goal.insert-requires
insert-requires c =
    still_fresh c.args.lines.now c.args.ends.now c.args.birth c.loop-place.place c.get-in-loop-place.result.now c.args.self.now c.loop-place.self c.requires.apart c.requires.fresh c.get-in-loop-place.ensures c.loop-place.invariant.so_far

-- those that came are there
pub remove_first-requires-clause-there : goal.remove_first-requires-clause-there
remove_first-requires-clause-there c =
    subst (λ (net : Net). (k : ℕ) (d : ℕ) → k < length (take c.loop-place.place c.args.ends.now) → HasEnd net (get_or (take c.loop-place.place c.args.ends.now) k d)) (sym c.in-Err.ensures.kept)
    (those_there c.args.lines.now c.args.ends.now c.args.birth c.loop-place.place c.args.self.now c.loop-place.self c.loop-place.invariant.so_far)

-- one more came
pub loop-place-preserved : goal.loop-place-preserved
loop-place-preserved c = record {
  so_far = next_inserted c.args.lines.now c.args.ends.now c.args.birth c.loop-place.place c.get.result.now c.get-in-loop-place.result.now c.args.self.now c.loop-place.self c.insert.new.self c.requires.as_many c.get.ensures c.get-in-loop-place.ensures
      c.known.ensures c.known-in-loop-place.ensures c.in_default.ensures.inserted c.loop-place.invariant.so_far;
  listed = come_twice c.args.self.now c.loop-place.self c.insert.new.self [] c.loop-place.came c.insert.new.came c.loop-place.invariant.listed c.in_default.ensures.came;
}

-- all came
pub returns-clause-inserted : goal.returns-clause-inserted
returns-clause-inserted c =
    let lines = c.args.lines.now in
    let all : c.loop-place.place ≡ length lines = omega (arith, c.loop-place-test.false, c.loop-place.auto.place-end, c.len-place-end.ensures) in
    all_inserted lines c.args.ends.now c.args.birth c.args.self.now c.loop-place.self c.requires.as_many (subst (λ place. HasInserted lines c.args.ends.now c.args.birth place c.args.self.now c.loop-place.self) all c.loop-place.invariant.so_far)

-- no line has come
pub loop-place-init : goal.loop-place-init
loop-place-init c = record { so_far = none_inserted c.args.lines.now c.args.ends.now c.args.birth c.args.self.now; listed = subst (ListsCome c.args.self.now c.args.self.now []) (sym c.new-came.ensures) (none_come c.args.self.now c.args.self.now [] (λ n. refl) refl) }

pub returns-clause-came : goal.returns-clause-came
returns-clause-came c = λ number used unused. c.loop-place.invariant.listed.came number used unused

pub returns-clause-below : goal.returns-clause-below
returns-clause-below c = c.loop-place.invariant.listed.below (All-nil (λ number. number < length c.args.self.now))
