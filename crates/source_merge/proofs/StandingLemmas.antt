-- A merge stands to the turns of its files.
use Rattle.std.proofs.Common.{◌≡◌, ◌∙◌, sym, ap, refl, subst, ℕ, suc, ◌+◌, false, List, [], ◌∷◌, ◌++◌, Option, Some, None, length, replicate, map, arith}
use Rattle.std.proofs.lemmas.List.Elements.{All-head, All-nil, All-tail}
use Rattle.event_csv.specs.declared.event.Seen.{Seen}
use Rattle.source_merge.specs.declared.source.Source.{Source}
use Rattle.source_merge.specs.Calls.{Merged, settled}
use Rattle.source_merge.specs.Merging.{Merging, after_given, begun, ending, next_given, past_first, ranked, taking, with_event, without_turn}
use Rattle.source_merge.specs.Ranks.{Taken, in_order}
use Rattle.source_merge.specs.Sources.{bound, is_below, is_late, turn_in, unread, with_end, with_time}
use Rattle.source_merge.specs.Standing.{AreFrom, ComeLater, GaveAll, StandsBetween, mark_of}
use Rattle.source_merge.specs.Turns.{Between, Input, after_event, before_turns}
use Rattle.source_merge.proofs.CallLemmas.{IsInStep, given_first, gives_settled, in_step_ended, in_step_given, in_step_taking, none_below}
use Rattle.source_merge.proofs.RankLemmas.{all_put}
use Rattle.source_merge.proofs.SourceLemmas.{bound_at, mark_is_bound}

-- a merge with what was taken and given
abbrev merged : Merging → Between → List Taken → Merged
merged m b given = record { now = m; taken = b.taken; given = given }

in_step : (m : Merging) (b : Between) (given : List Taken) → StandsBetween m b given → IsInStep (merged m b given)
in_step m b given stands = record { in_order = stands.ordered; below = stands.below; rising = stands.rising }

as_many_unread : (inputs : List Input) → replicate (length inputs) unread ≡ map (λ input. unread) inputs
as_many_unread [] = refl
as_many_unread (input ∷ inputs) = ap (λ sources. unread ∷ sources) (as_many_unread inputs)

pub begun_stands : (slack : ℕ) (inputs : List Input) → StandsBetween (begun (length inputs) slack) (before_turns inputs) []
begun_stands slack inputs = record { sources = as_many_unread inputs; counted = refl; ordered = refl; below = All-nil _; rising = tt }

-- the merge after an event is the one whose turn is known
with_event_is : (m : Merging) (b : Between) (given : List Taken) (seen : Seen) (turn : ℕ × Source) → StandsBetween m b given → turn_in b.sources ≡ Some turn → with_event m seen ≡ taking m seen (Some turn)
with_event_is m b given seen turn stands is = ap (taking m seen) (ap turn_in stands.sources ∙ is)

one_more : (x y : ℕ) → x ≡ y → x + 1 ≡ suc y
one_more x y e = omega (arith, e)

pub taken_stands : (m : Merging) (b : Between) (given : List Taken) (seen : Seen) (turn : ℕ × Source) (rest : Input) → StandsBetween m b given → turn_in b.sources ≡ Some turn → is_late m.slack turn.1 seen.tuple.at ≡ false
    → StandsBetween (with_event m seen) (after_event b turn rest seen) given
taken_stands m b given seen turn rest stands is timely =
    let step = in_step_taking (merged m b given) seen turn (ap turn_in stands.sources ∙ is) timely (in_step m b given stands) in
    subst (λ n. StandsBetween n (after_event b turn rest seen) given) (sym (with_event_is m b given seen turn stands is))
    (record {
      sources = ap (λ sources. with_time sources turn.0 turn.1 seen.tuple.at) stands.sources;
      counted = one_more m.count (length b.taken) stands.counted;
      ordered = ap (λ count. in_order (ranked count turn.0 seen ∷ b.taken)) (sym stands.counted) ∙ step.in_order;
      below = step.below;
      rising = step.rising;
    })

pub ended_stands : (m : Merging) (b : Between) (given : List Taken) (turn : ℕ × Source) → StandsBetween m b given → turn_in b.sources ≡ Some turn
    → StandsBetween (without_turn m) (record { sources = with_end b.sources turn.0 turn.1; inputs = b.inputs; taken = b.taken }) given
ended_stands m b given turn stands is =
    let here = ap turn_in stands.sources ∙ is in
    let step = in_step_ended (merged m b given) (Some turn) here (in_step m b given stands) in
    subst (λ n. StandsBetween n (record { sources = with_end b.sources turn.0 turn.1; inputs = b.inputs; taken = b.taken }) given) (sym (ap (ending m) here))
    (record { sources = ap (λ sources. with_end sources turn.0 turn.1) stands.sources; counted = stands.counted; ordered = step.in_order; below = step.below; rising = step.rising })

pub given_stands : (m : Merging) (b : Between) (given : List Taken) (t : Taken) → StandsBetween m b given → next_given m ≡ Some t → StandsBetween (after_given m) b (given ++ t ∷ [])
given_stands m b given t stands is =
    let step = in_step_given (merged m b given) (Some t) is (in_step m b given stands) in
    record { sources = stands.sources; counted = stands.counted; ordered = step.in_order; below = step.below; rising = step.rising }

pub settled_are_given : (m : Merging) (b : Between) (given : List Taken) → StandsBetween m b given → next_given m ≡ None → GaveAll m b given
settled_are_given m b given stands is = record {
  settled = (gives_settled (merged m b given) (in_step m b given stands)).whole.0 is ∙ ap (λ sources. settled m.slack sources b.taken) stands.sources;
  held = none_below (mark_of m) m.held stands.rising is;
}

taken_later : (m : Merging) (seen : Seen) (turn : ℕ × Source) → turn_in m.sources ≡ Some turn → is_late m.slack turn.1 seen.tuple.at ≡ false → AreFrom (mark_of m) m.held → AreFrom (mark_of m) (with_event m seen).held
taken_later m seen turn is timely from =
    let mark : Some (bound m.slack turn.1.greatest) ≡ mark_of m = sym (ap (bound_at m.slack) is) ∙ mark_is_bound m.slack 0 m.sources in
    let above : is_below (mark_of m) seen.tuple.at ≡ false = ap (λ n. is_below n seen.tuple.at) (sym mark) ∙ timely in
    subst (λ (n : Merging). AreFrom (mark_of m) n.held) (sym (ap (taking m seen) is)) (all_put (λ t. is_below (mark_of m) t.0.at ≡ false) (ranked m.count turn.0 seen) m.held above from)

given_later : (mark : Option ℕ) (m : Merging) (t : Taken) → next_given m ≡ Some t → AreFrom mark m.held → (is_below mark t.0.at ≡ false) × AreFrom mark (after_given m).held
given_later mark m t is from =
    let first = given_first (mark_of m) m.held t is in
    let rest = past_first (mark_of m) m.held in
    let all = subst (AreFrom mark) first.all from in
    (All-head (λ u. is_below mark u.0.at ≡ false) t rest all, All-tail (λ u. is_below mark u.0.at ≡ false) t rest all)

pub come_later : ComeLater
come_later = record { taken = taken_later; given = given_later }
