-- What is left of the work where the queries change.
use Rattle.std.proofs.Common.{◌≡◌, ◌∙◌, sym, ap, refl, subst, ℕ, zero, suc, ◌+◌, ◌-◌, ◌<◌, ◌≤◌, ◌++◌, ◌∷◌, [], true, false, cond, is_some, List, Ok, Option, Some, None, length, length-append, inl, inr, slice_get, append-nil, arith}
use Rattle.std.specs.List.{All}
use Rattle.automaton.specs.Layouts.{grown, shrunk}
use Rattle.std.specs.Option.{option_or}
use Rattle.std.proofs.lemmas.List.Elements.{All-append, All-cons, All-filter, All-nil, All-weaker}
use Rattle.semantics.specs.Histories.{Event}
use Rattle.semantics.specs.Kinds.{HasKinds}
use Rattle.semantics.specs.Programs.{Program, Query}
use Rattle.cel_types.specs.SourceLaws.{kinds_in}
use Rattle.catalogue.specs.declared.adding.Added.{Added}
use Rattle.catalogue.specs.declared.dropping.Dropped.{Dropped}
use Rattle.catalogue.specs.Adding.{AddedQuery}
use Rattle.catalogue.specs.Catalogued.{Catalogued, query_in, work_in}
use Rattle.catalogue.specs.Changes.{publishes_another}
use Rattle.catalogue.specs.Coming.{HasCome, IsLatest, IsTold, coming}
use Rattle.catalogue.specs.Leaving.{IsLeft, IsUnread}
use Rattle.catalogue.specs.Standing.{IsUpTo, StandsInOrder}
use Rattle.change_laws.specs.Calls.{ComesToBoth, LeavesBoth}
use Rattle.change_laws.proofs.ComeLemmas.{coming_stands}
use Rattle.change_laws.proofs.LeaveLemmas.{leaving_stands}
use Rattle.epoch_engine.specs.Adding.{Adds, Drops}
use Rattle.epoch_engine.specs.EngineView as engine
use Rattle.courses.specs.Course as course
use Rattle.courses.specs.Course.{CourseEntry, Moment, after_entry, events_at}
use Rattle.courses.specs.Heard.{refusal_of}
use Rattle.courses.specs.QuerySet.{QuerySet, set_in, with_added, without}
use Rattle.courses.proofs.DeclaredLemmas.{catalogue_first, entry_declared, entry_kinds}
use Rattle.courses.proofs.SetLemmas.{come_is_added, left_is_without}
use Rattle.stream_schema.specs.Streams.{retired}
use Rattle.session.specs.Changes.{HasChanged}
use Rattle.cay_host.specs.Told.{Told}
use Rattle.session.specs.ForEachHistory.{FailsAtOpen, OwesOpen, StopsAtEntry, TakesEntry}
use Rattle.session.specs.Owes.{closes, epoch_rows, open_rows, stage_at}
use Rattle.session.specs.Says.{entry_by}
use Rattle.session.specs.SessionView.{AreDeclared}
use Rattle.session.specs.Fronts.{AreFronts}
use Rattle.session.specs.Standing.{HasShut, IsAtWork, StandsFor, moment_at, program_over, seen_by}
use Rattle.session.specs.declared.control.Change.{Change}
use Rattle.session.specs.declared.control.Change.TheVariants as change
use Rattle.session.specs.declared.fault.SessionFault.{SessionFault}
use Rattle.session.specs.declared.fault.SessionFault.TheVariants as fault
use Rattle.session.specs.declared.work.Work.{Work}
use Rattle.session.proofs.FrontLemmas.{streams_more}
use Rattle.session.proofs.RunWorkLemmas.{both_hold}
use Rattle.session.proofs.OwesLemmas.{control_closes, fails, goes_on, no_memory, now_fails, now_owes}

-- births up to a time are up to a later one
up_to_later : (birth time later : Option ℕ) → IsUpTo birth time → IsUpTo time later → IsUpTo birth later
up_to_later None time later one two = tt
up_to_later (Some birth) None later one two = absurd one
up_to_later (Some birth) (Some time) None one two = absurd two
up_to_later (Some birth) (Some time) (Some later) one two = omega (arith, one, two)

up_to_same : (birth : Option ℕ) → IsUpTo birth birth
up_to_same None = tt
up_to_same (Some birth) = omega arith

-- no query was born after a later time
pub latest_later : (c : Catalogued) (time later : Option ℕ) → IsLatest time c → IsUpTo time later → IsLatest later c
latest_later c time later latest up = All-weaker (λ (query : Query). IsUpTo query.birth time) (λ query. IsUpTo query.birth later) (λ query one. up_to_later query.birth time later one up) (work_in c) latest

-- the last time that an engine heard is the last closed one, where no epoch is open
seen_closed_time : (now : engine.EngineView) → now.time ≡ None → seen_by now ≡ now.closed_time
seen_closed_time now closed = ap (λ o. option_or o now.closed_time) closed

-- the streams that are declared stay so, with their kinds
declared_after : (c d : Catalogued) (m : Moment) (entry : CourseEntry) (history : List Event) → StandsInOrder c → m.set ≡ set_in c → set_in d ≡ (after_entry m entry).set → AreDeclared c history → AreDeclared d history
declared_after c d m entry history standing at set are =
    let n : Moment = record { set = set_in c; seen = m.seen; is_open = m.is_open } in
    let then : set_in d ≡ (after_entry n entry).set = set ∙ ap (λ s. (after_entry (record { set = s; seen = m.seen; is_open = m.is_open }) entry).set) at in
    let many : d.declared ≡ c.declared = ap (λ (s : QuerySet). s.program.declared) then ∙ entry_declared n entry in (
      subst (λ k. All (λ (event : Event). event.stream < k) history) (sym many) are.0,
      both_hold (λ (event : Event). event.stream < c.declared) (λ event. HasKinds (kinds_in c.streams event.stream) event.tuple) (λ event. HasKinds (kinds_in d.streams event.stream) event.tuple)
          (λ event less has. subst (λ kinds. HasKinds kinds event.tuple) (sym (ap (λ (s : QuerySet). kinds_in s.streams event.stream) then ∙ entry_kinds n entry (catalogue_first c standing) event.stream less)) has)
          history are.0 are.1,
    )

module _ (c d : Catalogued) (standing : StandsInOrder c) (standing_then : StandsInOrder d) (old new : Work) (at_work : IsAtWork c old) (closed : old.engine.time ≡ None) where
  -- a query came
  module _ (added : AddedQuery) (since : Option ℕ) (told : Added) (is_closed : since ≡ old.engine.closed_time) (come : HasCome c added since d) (is_told : IsTold c (coming c added since) d told)
      (adds : Adds told.lines told.ends since (grown old.engine.layout told.growth) old.engine new.engine) where
    both : ComesToBoth added told c d old.engine new.engine
    both = record {
      closed = closed;
      come = subst (λ birth. HasCome c added birth d) is_closed come;
      is_told = subst (λ birth. IsTold c (coming c added birth) d told) is_closed is_told;
      adds = subst (λ birth. Adds told.lines told.ends birth (grown old.engine.layout told.growth) old.engine new.engine) is_closed adds;
    }

    came_set : set_in d ≡ (after_entry (moment_at c old.engine) (course.Adds added)).set
    came_set = come_is_added c d added since come ∙ ap (with_added (set_in c) added) (is_closed ∙ sym (seen_closed_time old.engine closed))

    -- the work has changed
    pub has_come : new.rows ≡ old.rows → HasChanged (course.Adds added) c d old new
    has_come rows = record {
      set = came_set;
      none_open = adds.goes_over.none_open;
      same_closed = adds.goes_over.same_closed;
      rows = rows;
      stands = λ history stands. record {
        declared = declared_after c d (moment_at c old.engine) (course.Adds added) history standing refl came_set stands.declared;
        engine = coming_stands.stands added told c d old.engine new.engine history standing standing_then at_work.at_one both stands.engine;
      };
    }

    -- the work may go on
    pub come_at_work : IsLatest since c → new.born ≡ since → new.fronts ≡ old.fronts → new.rows ≡ old.rows → IsAtWork d new
    come_at_work latest born fronts rows = record {
      in_order = standing_then;
      at_one = coming_stands.at_one added told c d old.engine new.engine standing standing_then at_work.at_one both;
      born = subst (λ time. IsLatest time d) (sym born)
          (subst (All (λ query. IsUpTo query.birth since)) (ap (λ (p : Program). p.order) (sym come.program))
          (All-append (λ (query : Query). IsUpTo query.birth since) (work_in c) (coming c added since ∷ []) latest
          (All-cons (λ (query : Query). IsUpTo query.birth since) (coming c added since) [] (up_to_same since) (All-nil (λ (query : Query). IsUpTo query.birth since)))));
      fronts = rw (come.streams, fronts) (streams_more c.streams old.fronts at_work.fronts _);
      few = subst (λ (bytes : List ℕ). length bytes < 65536) (sym rows) at_work.few;
    }

  -- a query left
  module _ (number : ℕ) (dropped : Dropped) (within : number < length c.order) (unread : IsUnread c number) (left : IsLeft number dropped c d) (drops : Drops dropped.ends (shrunk old.engine.layout dropped.part) old.engine new.engine) where
    leaves : LeavesBoth number dropped c d old.engine new.engine
    leaves = record { closed = closed; within = within; unread = unread; left = left; drops = drops }

    left_set : set_in d ≡ (after_entry (moment_at c old.engine) (course.Drops (query_in c number))).set
    left_set = left_is_without c d number dropped left

    -- the work has changed
    pub has_left : new.rows ≡ old.rows → HasChanged (course.Drops (query_in c number)) c d old new
    has_left rows = record {
      set = left_set;
      none_open = drops.goes_over.none_open;
      same_closed = drops.goes_over.same_closed;
      rows = rows;
      stands = λ history stands. record {
        declared = declared_after c d (moment_at c old.engine) (course.Drops (query_in c number)) history standing refl left_set stands.declared;
        engine = leaving_stands.stands number dropped c d old.engine new.engine history standing standing_then at_work.at_one leaves stands.engine;
      };
    }

    -- the work may go on
    pub left_at_work : new.born ≡ old.born → new.rows ≡ old.rows → AreFronts (retired c.streams (query_in c number).stream) new.fronts → IsAtWork d new
    left_at_work born rows fronts = record {
      in_order = standing_then;
      at_one = leaving_stands.at_one number dropped c d old.engine new.engine standing standing_then at_work.at_one leaves;
      born = subst (λ time. IsLatest time d) (sym born)
          (subst (All (λ query. IsUpTo query.birth old.born)) (ap (λ (p : Program). p.order) (sym left.program))
          (All-filter (publishes_another (query_in c number).stream) (λ (query : Query). IsUpTo query.birth old.born) (work_in c) at_work.born));
      fronts = subst (λ streams. AreFronts streams new.fronts) (ap (λ (x : Catalogued). x.streams) (sym left.catalogue)) fronts;
      few = subst (λ (bytes : List ℕ). length bytes < 65536) (sym rows) at_work.few;
    }

-- the queries after an entry hang on the queries before it and on the time that was seen
set_same : (m n : Moment) (entry : CourseEntry) → m.set ≡ n.set → m.seen ≡ n.seen → (after_entry m entry).set ≡ (after_entry n entry).set
set_same m n (course.Hears event) set seen = set
set_same m n (course.Adds added) set seen = λ i. with_added (set i) added (seen i)
set_same m n (course.Drops query) set seen = ap (λ s. without s query) set

module _ (c : Catalogued) (made : Change) where
  -- the entry of a change is no event, comes in time, closes the open epoch and leaves none open
  no_event : events_at (entry_by c made) ≡ []
  no_event = by_made made
    where
      by_made : (made : Change) → events_at (entry_by c made) ≡ []
      by_made (change.Comes query) = refl
      by_made (change.Leaves number) = refl

  timely : (number : ℕ) (m : Moment) → refusal_of number m (Ok (entry_by c made)) ≡ None
  timely number m = by_made made
    where
      by_made : (made : Change) → refusal_of number m (Ok (entry_by c made)) ≡ None
      by_made (change.Comes query) = refl
      by_made (change.Leaves number) = refl

  closing_it : (m : Moment) → closes m (Ok (entry_by c made)) ≡ true
  closing_it m = by_made made
    where
      by_made : (made : Change) → closes m (Ok (entry_by c made)) ≡ true
      by_made (change.Comes query) = refl
      by_made (change.Leaves number) = refl

  moment_then : (m : Moment) → after_entry m (entry_by c made) ≡ record { set = (after_entry m (entry_by c made)).set; seen = m.seen; is_open = false }
  moment_then m = by_made made
    where
      by_made : (made : Change) → after_entry m (entry_by c made) ≡ record { set = (after_entry m (entry_by c made)).set; seen = m.seen; is_open = false }
      by_made (change.Comes query) = refl
      by_made (change.Leaves number) = refl

  module _ (old : Work) (history : List Event) where
    -- the rows that it closes are those of the open epoch
    closed_rows : epoch_rows (program_over c) history old.engine.time ≡ cond (closes (moment_at c old.engine) (Ok (entry_by c made))) (open_rows (moment_at c old.engine) history) []
    closed_rows = control_closes c old.engine history ∙ ap (λ b. cond b (open_rows (moment_at c old.engine) history) []) (sym (closing_it (moment_at c old.engine)))

  -- the rows of the open epoch couldn't be made or written
  pub change_fails : (old : Work) (a b : Told) (stop : SessionFault) → FailsAtOpen c old a b stop → (number : ℕ) → StopsAtEntry c number (entry_by c made) old a b stop
  change_fails old a b stop fails_at number ended line lines history same says stands =
      fails ended line lines (stage_at c old history) (entry_by c made) says (timely line.number (moment_at c old.engine)) a b stop (now_fails old.rows _ _ a b stop (closed_rows old history) (fails_at history stands))

  module _ (old mid : Work) (a b : Told) (owes : OwesOpen c old mid a b) where
    -- the open epoch was closed, and then there was no memory for the change
    pub change_no_memory : (number : ℕ) → StopsAtEntry c number (entry_by c made) old a b fault.Memory
    change_no_memory number ended line lines history same says stands =
        no_memory ended line lines (stage_at c old history) (entry_by c made) says (timely line.number (moment_at c old.engine)) mid.rows a b (now_owes old.rows mid.rows _ _ a b (closed_rows old history) (owes history stands))

    -- the open epoch was closed, and the queries were changed
    pub change_advances : (d : Catalogued) (new : Work) → HasShut c old.engine mid.engine → HasChanged (entry_by c made) c d mid new → TakesEntry c d (entry_by c made) old new a b
    change_advances d new shut changed history stands =
        let m = moment_at c old.engine in
        let entry = entry_by c made in
        let seen : seen_by new.engine ≡ m.seen = seen_closed_time new.engine changed.none_open ∙ changed.same_closed ∙ shut.now_closed in
        let set : set_in d ≡ (after_entry m entry).set = changed.set ∙ set_same (moment_at c mid.engine) m entry refl (seen_closed_time mid.engine shut.none_open ∙ shut.now_closed) in
        let moment : moment_at d new.engine ≡ after_entry m entry = (λ i. record { set = set i; seen = seen i; is_open = is_some (changed.none_open i) }) ∙ sym (moment_then m) in
        let events : history ++ events_at entry ≡ history = ap (λ es. history ++ es) no_event ∙ append-nil history in
        record {
          stands = subst (λ h. StandsFor d h new.engine) (sym events) (changed.stands history (record { declared = stands.declared; engine = shut.stands history stands }));
          advances = λ ended line lines says. goes_on ended line lines (stage_at c old history) entry says (timely line.number m) (stage_at d new (history ++ events_at entry)) mid.rows a b
              (now_owes old.rows mid.rows _ _ a b (closed_rows old history) (owes history stands)) changed.rows moment refl;
        }
