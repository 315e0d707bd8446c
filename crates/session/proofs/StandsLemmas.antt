-- The events that the work stands for, before and after one more.
use Rattle.std.proofs.Common.{◌≡◌, ◌∙◌, sym, refl, ap, subst, ℕ, ◌<◌, ◌≤◌, true, is_some, List, [], ◌∷◌, ◌++◌, length, Option, Some, None, arith}
use Rattle.std.specs.Option.{option_or}
use Rattle.std.proofs.lemmas.List.Elements.{All-nil, All-cons, All-append}
use Rattle.event_types.specs.Tuple.{IsSound}
use Rattle.semantics.specs.Histories.{Event}
use Rattle.semantics.specs.Kinds.{HasKinds}
use Rattle.cel_types.specs.SourceLaws.{kinds_in}
use Rattle.catalogue.specs.Catalogued.{Catalogued}
use Rattle.catalogue.specs.Coming.{IsLatest}
use Rattle.catalogue.specs.Standing.{StandsInOrder}
use Rattle.change_laws.specs.AtOne.{AreAtOne}
use Rattle.epoch_engine.specs.Offers.{IsHeard, IsLate, IsNotAhead, with_tuple}
use Rattle.epoch_engine.specs.EngineStandsFor as engines
use Rattle.epoch_engine.specs.EngineView as engine
use Rattle.epoch_engine.proofs.StandsLemmas.{offered_stands}
use Rattle.event_csv.specs.declared.event.Seen.{Seen}
use Rattle.courses.specs.Heard.{disorder}
use Rattle.courses.proofs.MomentLemmas.{behind_closed, not_before}
use Rattle.session.specs.declared.work.Work.{Work}
use Rattle.courses.specs.Fits.{Fits}
use Rattle.session.specs.Says.{event_of}
use Rattle.session.specs.Fronts.{AreFronts}
use Rattle.session.specs.Standing.{HasClosed, HasShut, IsAtWork, IsReadyForEvent, IsTimely, StandsFor, lines_over}
use Rattle.session.proofs.PlanLemmas.{at_one_still, is_declared, may_hear, of_its_kinds}

-- an event in time that closes no epoch may be offered
pub ready_now : (c : Catalogued) (at : ℕ) (now : engine.EngineView) → IsTimely now at → IsNotAhead now.time at → IsReadyForEvent c at now now
ready_now c at now timely ahead = record {
  plan = record { network = refl; layout = refl };
  not_ahead = ahead;
  in_time = by_time now.time refl;
  stands = λ history stands. stands.engine;
}
  where
    by_closed : (seen : ℕ) (closed : Option ℕ) → now.time ≡ None → now.closed_time ≡ closed → IsLate None closed at seen → ⊥
    by_closed seen None e f late = late
    by_closed seen (Some last) e f late =
        let behind : last < at = behind_closed 0 last at ((λ i. disorder 0 (is_some (sym e i)) (option_or (sym e i) (sym f i)) at) ∙ timely 0) in
        let up : at ≤ last = late.0 in
        omega (arith, behind, up)

    by_time : (time : Option ℕ) → now.time ≡ time → (seen : ℕ) → IsLate time now.closed_time at seen → ⊥
    by_time None e seen late = by_closed seen now.closed_time e refl late
    by_time (Some open_time) e seen late =
        let low : open_time ≤ at = not_before 0 true open_time at ((λ i. disorder 0 (is_some (sym e i)) (option_or (sym e i) now.closed_time) at) ∙ timely 0) in
        let less : at < open_time = late.0 in
        omega (arith, low, less)

-- an event that is later than the epoch that was closed may be offered
pub ready_later : (c : Catalogued) (seen at : ℕ) (old new : engine.EngineView) → HasClosed c old new → old.time ≡ Some seen → seen < at → IsReadyForEvent c at old new
ready_later c seen at old new closed was_open less = record {
  plan = closed.plan;
  not_ahead = subst (λ t. IsNotAhead t at) (sym closed.none_open) tt;
  in_time = λ other late. not_late other
      (subst (λ t. IsLate None t at other) (closed.now_closed ∙ was_open) (subst (λ t. IsLate t new.closed_time at other) closed.none_open late));
  stands = closed.stands;
}
  where
    not_late : (other : ℕ) → IsLate None (Some seen) at other → ⊥
    not_late other late = let high : at ≤ seen = late.0 in omega (arith, less, high)

module _ (c : Catalogued) (standing : StandsInOrder c) (event : Seen) (fits : Fits c.streams event) (old mid : engine.EngineView) (ready : IsReadyForEvent c event.tuple.at old mid) (at_one : AreAtOne c old) where
  -- the engine may be offered the event
  pub may_offer : IsHeard mid.layout event.stream event.tuple
  may_offer = may_hear c standing event fits mid (at_one_still c old mid ready.plan at_one)

  module _ (new : Work) (took : new.engine ≡ with_tuple mid event.stream event.tuple) where
    -- once it took the event, the work may go on
    pub at_work_more : IsLatest new.born c → AreFronts c.streams new.fronts → length new.rows < 65536 → IsAtWork c new
    at_work_more born fronts few =
        let still = at_one_still c old mid ready.plan at_one in
        record {
          in_order = standing;
          at_one = subst (AreAtOne c) (sym took) (record { merged = still.merged; endings = still.endings; layout = still.layout });
          born = born;
          fronts = fronts;
          few = few;
        }

    -- and it stands for one more event
    pub stands_more : (history : List Event) → IsSound event.tuple → StandsFor c history old → StandsFor c (history ++ event_of event ∷ []) new.engine
    stands_more history sound stands = record {
      declared = (
        All-append (λ other. other.stream < c.declared) history (event_of event ∷ []) stands.declared.0
            (All-cons (λ other. other.stream < c.declared) (event_of event) [] (is_declared c standing event fits) (All-nil _)),
        All-append (λ other. HasKinds (kinds_in c.streams other.stream) other.tuple) history (event_of event ∷ []) stands.declared.1
            (All-cons (λ other. HasKinds (kinds_in c.streams other.stream) other.tuple) (event_of event) [] (of_its_kinds c standing event fits) (All-nil _)),
      );
      engine = subst (λ (now : engine.EngineView). engines.EngineStandsFor now (lines_over c) (history ++ event_of event ∷ [])) (sym took)
          (offered_stands mid (lines_over c) history event.stream event.tuple (ready.stands history stands) may_offer sound ready.not_ahead ready.in_time);
    }

-- where an epoch was closed that was open, the last time that was heard is closed
pub shut_closed : (c : Catalogued) (old new : engine.EngineView) (time : ℕ) → old.time ≡ Some time → HasClosed c old new → HasShut c old new
shut_closed c old new time e closed = record { plan = closed.plan; none_open = closed.none_open; now_closed = closed.now_closed ∙ e ∙ sym (ap (λ o. option_or o old.closed_time) e); stands = closed.stands }

-- so it is where none is open
pub shut_none : (c : Catalogued) (now : engine.EngineView) → now.time ≡ None → HasShut c now now
shut_none c now e = record { plan = record { network = refl; layout = refl }; none_open = e; now_closed = sym (ap (λ o. option_or o now.closed_time) e); stands = λ history stands. stands.engine }
