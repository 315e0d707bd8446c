-- Whatever happens, an engine goes on standing for the program of its catalogue.
use Rattle.std.proofs.Common.{◌≡◌, ◌∙◌, sym, ap, subst, ℕ, ◌+◌, ◌<◌, List, [], ◌∷◌, ◌++◌, drop, get_or, length, map, arith}
use Rattle.std.specs.Prelude.{Contains, Some, slice_get}
use Rattle.std.specs.List.{All, range_with_len}
use Rattle.std.proofs.Math.Seq.{drop-append_seam}
use Rattle.std.proofs.lemmas.List.Elements.{All-append, All-cons, All-contains, All-nil, Contains-append_left}
use Rattle.automaton.specs.NetworkLines.{HasEndings}
use Rattle.automaton.specs.States.{Net}
use Rattle.automaton.specs.declared.layout.Layout.{Layout}
use Rattle.birth_laws.specs.BornChains.{born_lines}
use Rattle.catalogue.specs.Catalogued.{Catalogued, program_in, work_in}
use Rattle.catalogue.specs.Changes.{streams_there}
use Rattle.catalogue.specs.Standing.{StandsInOrder}
use Rattle.catalogue.proofs.LeftLemmas.{kinds_kept}
use Rattle.catalogue.proofs.TurnLemmas.{kinds_before}
use Rattle.cel_types.specs.SourceLaws.{kinds_in}
use Rattle.epoch_engine.specs.Closes.{KeepsPlan}
use Rattle.epoch_engine.specs.EngineView.{EngineView}
use Rattle.epoch_engine.specs.Offers.{IsHeard}
use Rattle.epoch_engine.proofs.StandsLemmas.{closed_stands, offered_stands}
use Rattle.epoch_engine.proofs.TrimLemmas.{trimmed_stands}
use Rattle.event_types.specs.Tuple.{TupleView}
use Rattle.event_types.specs.declared.kind.Kind.{Kind}
use Rattle.prefix_merge.specs.Merging.{IsMerged}
use Rattle.prefix_merge.proofs.ContainLemmas.{in_range}
use Rattle.semantics.specs.Histories.{Event}
use Rattle.semantics.specs.Kinds.{HasKinds}
use Rattle.semantics.specs.Programs.{Query}
use Rattle.change_laws.specs.AtOne.{AreAtOne, endings_in}
use Rattle.change_laws.specs.Courses.{AreOfDeclared, Happens, Monitor, StandsForProgram, close, come, leave, none, offer, then, trim}
use Rattle.change_laws.specs.Laws.{CoursesStand}
use Rattle.change_laws.proofs.ComeLemmas.{coming_stands}
use Rattle.change_laws.proofs.LeaveLemmas.{leaving_stands}

module _ (c : Catalogued) (stands : StandsInOrder c) (stream : ℕ) (declared : stream < c.declared) where
  -- a declared stream is there
  there : Contains (streams_there (program_in c)) stream
  there = Contains-append_left (range_with_len 0 c.declared) (map (λ (q : Query). q.stream) (work_in c)) stream (subst (Contains (range_with_len 0 c.declared)) from_zero (in_range 0 c.declared stream declared))
    where
      from_zero : 0 + stream ≡ stream
      from_zero = omega arith

  within_table : stream < length c.streams
  within_table = ((stands.known stream).0 there).within

  -- and what is heard on it has its kinds
  has_kinds : (engine : EngineView) → AreAtOne c engine → (tuple : TupleView) → IsHeard engine.layout stream tuple → HasKinds (kinds_in c.streams stream) tuple
  has_kinds engine at_one tuple heard =
      let both : Some heard.kinds ≡ Some (kinds_in c.streams stream) =
      sym heard.known ∙ ap (λ (layout : Layout). slice_get layout.kinds stream) at_one.layout
      ∙ All-contains (λ s. slice_get c.layout.kinds s ≡ Some (kinds_in c.streams s)) (streams_there (program_in c)) stream stands.laid.kinds there in
      let same : heard.kinds ≡ kinds_in c.streams stream = cc in
      subst (λ (kinds : List Kind). HasKinds kinds tuple) same heard.of_kinds

-- events of declared streams are so of a catalogue that declares the same, where these have the same kinds
still_declared : (old new : Catalogued) (events : List Event) → new.declared ≡ old.declared → ((stream : ℕ) → stream < old.declared → kinds_in old.streams stream ≡ kinds_in new.streams stream) → AreOfDeclared old events → AreOfDeclared new events
still_declared old new events same kinds are = record {
  declared = subst (λ (count : ℕ). All (λ (event : Event). event.stream < count) events) (sym same) are.declared;
  kinds = λ k d inside. subst (λ (ks : List Kind). HasKinds ks (get_or events k d).tuple) (kinds (get_or events k d).stream (are.declared k d inside)) (are.kinds k d inside);
}

-- an engine with the same network and layout is at one with the same catalogue
same_plan : (c : Catalogued) (before after : EngineView) → KeepsPlan before after → AreAtOne c before → AreAtOne c after
same_plan c before after plan at_one = record {
  merged = subst (λ (net : Net). IsMerged net) (sym plan.network) at_one.merged;
  endings = subst (λ (net : Net). HasEndings net (endings_in c)) (sym plan.network) at_one.endings;
  layout = plan.layout ∙ at_one.layout;
}

goes_on : (first next : Monitor) → StandsForProgram first → Happens first next → StandsForProgram next
goes_on _ _ stands (offer {c = c} {engine = engine} {events = events} stream tuple declared sound heard ahead late) =
    let event : Event = record { stream = stream; tuple = tuple } in record {
      in_order = stands.in_order;
      at_one = record { merged = stands.at_one.merged; endings = stands.at_one.endings; layout = stands.at_one.layout };
      engine = offered_stands engine (born_lines (program_in c)) events stream tuple stands.engine heard sound ahead late;
      events = record {
        declared =
            All-append (λ (e : Event). e.stream < c.declared) events (event ∷ []) stands.events.declared (All-cons (λ (e : Event). e.stream < c.declared) event [] declared (All-nil (λ (e : Event). e.stream < c.declared)));
        kinds =
            All-append (λ (e : Event). HasKinds (kinds_in c.streams e.stream) e.tuple) events (event ∷ []) stands.events.kinds
            (All-cons (λ (e : Event). HasKinds (kinds_in c.streams e.stream) e.tuple) event [] (has_kinds c stands.in_order stream declared engine stands.at_one tuple heard) (All-nil (λ (e : Event). HasKinds (kinds_in c.streams e.stream) e.tuple)));
      };
    }
goes_on _ _ stands (close {c = c} {before = before} {after = after} {events = events} batch closes plan) = record {
  in_order = stands.in_order;
  at_one = same_plan c before after plan stands.at_one;
  engine = closed_stands before after (born_lines (program_in c)) events batch stands.engine closes plan;
  events = stands.events;
}
goes_on _ _ stands (trim {c = c} {before = before} {after = after} {events = events} trims) = record {
  in_order = stands.in_order;
  at_one = same_plan c before after trims.plan stands.at_one;
  engine = trimmed_stands.stands before after (born_lines (program_in c)) events stands.engine trims;
  events = stands.events;
}
goes_on _ _ stands (come {old = old} {new = new} {before = before} {after = after} {events = events} added told in_order both) = record {
  in_order = in_order;
  at_one = coming_stands.at_one added told old new before after stands.in_order in_order stands.at_one both;
  engine = coming_stands.stands added told old new before after events stands.in_order in_order stands.at_one both stands.engine;
  events =
      still_declared old new events both.come.declared
      (λ stream declared. kinds_before old.streams (drop (length old.streams) new.streams) new.streams (both.come.streams ∙ ap (λ more. old.streams ++ more) (sym (ap (drop (length old.streams)) both.come.streams ∙ drop-append_seam old.streams _))) stream
      (within_table old stands.in_order stream declared)) stands.events;
}
goes_on _ _ stands (leave {old = old} {new = new} {before = before} {after = after} {events = events} number dropped in_order both) = record {
  in_order = in_order;
  at_one = leaving_stands.at_one number dropped old new before after stands.in_order in_order stands.at_one both;
  engine = leaving_stands.stands number dropped old new before after events stands.in_order in_order stands.at_one both stands.engine;
  events =
      still_declared old new events (ap (λ (c : Catalogued). c.declared) both.left.catalogue)
      (λ stream declared.
      sym (ap (λ (c : Catalogued). kinds_in c.streams stream) both.left.catalogue ∙ ap (λ (kinds : ℕ → List Kind). kinds stream) (kinds_kept old stands.in_order number both.within)))
      stands.events;
}

-- through all that happens
pub courses_stand : CoursesStand
courses_stand first _ stands none = stands
courses_stand first next stands (then {last = last} course happens) = goes_on last next (courses_stand first last stands course) happens
