use Rattle.std.proofs.Common.{◌≡◌, ◌∙◌, ◌<◌, sym, subst, ℕ, false, List, get_or, take, arith}
use Rattle.std.specs.Prelude.{Contains}
use Rattle.std.specs.List.{All}
use Rattle.std.proofs.lemmas.Bool.{true≢false}
use Rattle.std.proofs.lemmas.List.Elements.{All-contains_itself, All-get_or, All-nil, All-weaker}
use Rattle.std.proofs.lemmas.Option.{get_or_from_slice_get}
use Rattle.epoch_draft.specs.Agenda.{AreBehind, IsPlannedIn}
use Rattle.epoch_draft.specs.Turns.{turn_of}
use Rattle.epoch_draft.proofs.AgendaLemmas.{all_inserted, contains_inserted, inserted_keeps, planned_kept, planned_more, turns_apart}
use Rattle.epoch_draft.proofs.Lists.{taken_all}
use Rattle.epoch_draft.proofs.agenda.plan_each.Goals as goal

pub loop-stream-init : goal.loop-stream-init
loop-stream-init c = record {
  behind = c.requires.behind;
  kept = All-contains_itself c.args.agenda.now.entries;
  planned = All-nil (IsPlannedIn c.args.stored.now.turns.now c.args.last c.args.agenda.now.entries);
}

-- a stream that no state reads
pub loop-stream-preserved-then-not-get : goal.loop-stream-preserved-then-not-get
loop-stream-preserved-then-not-get c =
    let read = c.args.stored.now.turns.now.read in
    let stream = get_or c.args.due.now c.loop-stream.stream-index 0 in
    record {
      behind = c.loop-stream.invariant.behind;
      kept = c.loop-stream.invariant.kept;
      planned =
          planned_more c.args.stored.now.turns.now c.args.due.now c.loop-stream.agenda.entries c.loop-stream.stream-index c.args.last c.loop-stream-test.true
          (λ up. absurd (true≢false (sym up ∙ get_or_from_slice_get read stream c.get.result.now false c.get.ensures ∙ c.if-not-get.true)))
          c.loop-stream.invariant.planned;
    }

-- one whose turn isn't behind the last that was
pub loop-stream-preserved-then-turn-last : goal.loop-stream-preserved-then-turn-last
loop-stream-preserved-then-turn-last c = record {
  behind = c.loop-stream.invariant.behind;
  kept = c.loop-stream.invariant.kept;
  planned =
      planned_more c.args.stored.now.turns.now c.args.due.now c.loop-stream.agenda.entries c.loop-stream.stream-index c.args.last c.loop-stream-test.true
      (λ up behind. absurd (let no = c.if-turn-last.true in let is = c.turn-turn.ensures in omega (arith, no, is, behind))) c.loop-stream.invariant.planned;
}

-- one whose turn is
pub loop-stream-preserved : goal.loop-stream-preserved
loop-stream-preserved c =
    let turns = c.args.stored.now.turns.now in
    let order = c.args.stored.now.layout.now.order in
    let stream = get_or c.args.due.now c.loop-stream.stream-index 0 in
    let turn = c.turn-turn.result in
    let old = c.loop-stream.agenda.entries in
    let new = c.note.new.agenda.entries in
    let is = c.in_ok-note.ensures in
    let here = All-get_or (Contains order) c.args.due.now c.loop-stream.stream-index 0 c.loop-stream-test.true c.requires.ordered in
    let apart = subst (λ (t : ℕ). All (λ (e : ℕ × ℕ). e.0 ≡ t → e.1 ≡ stream) old) (sym c.turn-turn.ensures) (turns_apart order turns.turns c.requires.in_turn c.args.last stream old c.loop-stream.invariant.behind here) in
    let keeps : (e : ℕ × ℕ) → Contains old e → Contains new e = λ e h. subst (λ (es : List (ℕ × ℕ)). Contains es e) (sym is) (inserted_keeps old turn stream apart e h) in
    record {
      behind =
          subst (AreBehind order turns.turns c.args.last) (sym is)
          (all_inserted (λ (e : ℕ × ℕ). Contains order e.1 × (turn_of turns.turns e.1 ≡ e.0) × (c.args.last < e.0)) old turn stream c.loop-stream.invariant.behind (here, sym c.turn-turn.ensures, let after = c.if-turn-last.false in omega (arith, after)));
      kept = All-weaker (Contains old) (Contains new) keeps c.args.agenda.now.entries c.loop-stream.invariant.kept;
      planned =
          planned_more turns c.args.due.now new c.loop-stream.stream-index c.args.last c.loop-stream-test.true
          (λ up behind. subst (λ (t : ℕ). Contains new (t, stream)) c.turn-turn.ensures (subst (λ (es : List (ℕ × ℕ)). Contains es (turn, stream)) (sym is) (contains_inserted old turn stream)))
          (planned_kept turns (take c.loop-stream.stream-index c.args.due.now) old new c.args.last keeps c.loop-stream.invariant.planned);
    }

pub returns-clause-planned : goal.returns-clause-planned
returns-clause-planned c =
    subst (All (IsPlannedIn c.args.stored.now.turns.now c.args.last c.loop-stream.agenda.entries)) (taken_all c.args.due.now c.loop-stream.stream-index c.loop-stream-test.false) c.loop-stream.invariant.planned
