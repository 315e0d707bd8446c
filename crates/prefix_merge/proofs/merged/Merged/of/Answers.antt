use Rattle.std.proofs.Common.{ℕ, ◌<◌, ◌≤◌, ◌↔◌, [], List, arith, inl, inr, length, subst, sym, take}
use Rattle.std.specs.Prelude.{None}
use Rattle.std.proofs.lemmas.List.{length-take-le, take_all}
use Rattle.automaton.specs.declared.line.Line.{Line}
use Rattle.automaton.specs.NetworkLines.{HasEndings}
use Rattle.automaton.specs.Plain.{numbered}
use Rattle.automaton.specs.States.{Net}
use Rattle.automaton.proofs.EqualityLemmas.{take_read}
use Rattle.automaton.proofs.NumberLemmas.{are_same_or_not}
use Rattle.prefix_merge.specs.Insertion.{Inserts}
use Rattle.prefix_merge.specs.Merging.{HasEnd, IsMerged}
use Rattle.prefix_merge.proofs.InsertionLemmas.{none_merged}
use Rattle.prefix_merge.proofs.LawLemmas.{come_in_turn}
use Rattle.prefix_merge.proofs.merged.Merged.of.Goals as goal

-- no end has the next number
pub insert-requires : goal.insert-requires
insert-requires c = λ has. (let below = (c.loop-place.invariant.ends c.loop-place.place).0 has in absurd (omega (arith, below)))

-- at first there are no lines and no ends
pub loop-place-init : goal.loop-place-init
loop-place-init c = record {
  endings = subst (λ (net : Net). HasEndings net []) (sym c.new-merged.ensures) come_in_turn.none;
  ends = subst (λ (net : Net). (end : ℕ) → HasEnd net end ↔ (end < 0)) (sym c.new-merged.ensures)
      (λ end. ((λ has. (let none = has.1 in absurd (omega (arith, none)))), λ below. absurd (omega (arith, below))));
  merged = subst IsMerged (sym c.new-merged.ensures) none_merged;
}

-- and one more line has come
pub loop-place-preserved : goal.loop-place-preserved
loop-place-preserved c =
    let lines = c.args.lines.now in
    let place = c.loop-place.place in
    let line = c.get.result.now in
    let inside : place ≤ length lines = omega (arith, c.loop-place-test.true, c.len-place-end.ensures) in
    let inserts = subst (λ (n : ℕ). Inserts line n None c.loop-place.merged c.insert.new.self) (sym (length-take-le place lines inside)) c.in_ok-insert.ensures.inserted in
    let more = take_read lines place line c.get.ensures in record {
      endings = subst (λ (ls : List Line). HasEndings c.insert.new.self (numbered 0 ls)) (sym more) (come_in_turn.next (take place lines) line c.loop-place.merged c.insert.new.self c.loop-place.invariant.endings inserts);
      ends = λ end. (
        (λ has. elim ((c.in_ok-insert.ensures.inserted.ends end).0 has) [
          | inl before ↦ (let below = (c.loop-place.invariant.ends end).0 before in omega (arith, below))
          | inr same ↦ omega (arith, same)
        ]),
        λ below. (c.in_ok-insert.ensures.inserted.ends end).1 (elim (are_same_or_not end place) [
          | inl same ↦ inr same
          | inr other ↦ inl ((c.loop-place.invariant.ends end).1 (omega (arith, below, other)))
        ]),
      );
      merged = subst IsMerged c.merged.view_is c.merged.invariant.merged;
    }

-- all lines have come
pub returns : goal.returns
returns c =
    let lines = c.args.lines.now in
    let past : length lines ≤ c.loop-place.place = omega (arith, c.loop-place-test.false, c.len-place-end.ensures) in
    let endings = subst (λ (ls : List Line). HasEndings c.loop-place.merged (numbered 0 ls)) (take_all c.loop-place.place lines past) c.loop-place.invariant.endings in record {
      endings = endings;
      ends = λ end. (
        (λ has. (let below = (c.loop-place.invariant.ends end).0 has in omega (arith, below, c.loop-place.auto.place-end, c.len-place-end.ensures))),
        λ below. (c.loop-place.invariant.ends end).1 (omega (arith, below, past)),
      );
      lines = come_in_turn.all lines c.loop-place.merged c.loop-place.invariant.merged endings;
      merged = c.loop-place.invariant.merged;
    }
