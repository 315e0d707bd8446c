-- The network and the layout of an engine as those of a catalogue.
use Rattle.std.proofs.Common.{◌≡◌, ◌∙◌, sym, ap, refl, subst, ℕ, ◌-◌, ◌<◌, ◌==◌, ◌||◌, false, List, [], ◌∷◌, ◌++◌, map, Some, slice_get, arith}
use Rattle.std.specs.Prelude.{Contains}
use Rattle.std.specs.List.{All, range_with_len}
use Rattle.std.specs.Option.{option_map}
use Rattle.std.proofs.lemmas.Bool.Decides.{nat_tests}
use Rattle.std.proofs.lemmas.List.Elements.{All-nil, All-cons, All-contains, All-head, All-tail, All-append, Contains-append_left}
use Rattle.std.proofs.lemmas.Option.{get_or_from_slice_get, slice_get-map}
use Rattle.event_types.specs.declared.kind.Kind.{Kind}
use Rattle.event_types.specs.Tuple.{TupleView}
use Rattle.event_types.specs.Order.{sorted}
use Rattle.semantics.proofs.StatementLemmas.{declared_there}
use Rattle.semantics.specs.Kinds.{HasKinds}
use Rattle.semantics.specs.Programs.{Query}
use Rattle.semantics.specs.TypedPrograms.{PublishInTurn}
use Rattle.stream_schema.specs.Schema.{kinds_of}
use Rattle.stream_schema.specs.Streams.{Entry, schemas_of}
use Rattle.automaton.specs.Work.{is_in}
use Rattle.splitter.specs.Laws.{hidden_streams, split_order}
use Rattle.cel_types.specs.SourceLaws.{kinds_in}
use Rattle.splitter.specs.Chains.{HideApart, chain_order, hidden_end, work_order}
use Rattle.splitter.proofs.ApartLemmas.{range_all}
use Rattle.epoch_engine.specs.Closes.{Closes, KeepsPlan}
use Rattle.epoch_engine.specs.Offers.{IsHeard}
use Rattle.epoch_engine.specs.EngineView as engine
use Rattle.catalogue.specs.Catalogued.{Catalogued}
use Rattle.catalogue.specs.Changes.{streams_there}
use Rattle.catalogue.specs.Standing.{IsKnown, IsLayoutOver, StandsInOrder}
use Rattle.change_laws.specs.AtOne.{AreAtOne, endings_in}
use Rattle.automaton.specs.NetworkLines.{HasEndings}
use Rattle.automaton.specs.States.{Net}
use Rattle.prefix_merge.specs.Merging.{IsMerged}
use Rattle.event_csv.specs.declared.event.Seen.{Seen}
use Rattle.courses.specs.Fits.{Fits}
use Rattle.session.specs.Standing.{program_over}
use Rattle.session.specs.BatchLines.{AreOfKnown}
use Rattle.session.proofs.BatchLinesLemmas.{all_given}
use Rattle.session.proofs.NamesLemmas.{all_known}

-- the derived streams of queries have greater numbers than a stream that is there, by induction on the queries
order_above : (kinds : ℕ → List Kind) (stream : ℕ) (there : List ℕ) (order : List Query) → Contains there stream → PublishInTurn kinds there order → HideApart order → All (λ number. stream < number) (chain_order order)
order_above kinds stream there [] has turn apart = All-nil (λ number. stream < number)
order_above kinds stream there (query ∷ order) has turn apart =
    let above : stream < query.stream = All-contains (λ n. n < query.stream) there stream turn.0 has in
    All-append (λ number. stream < number) (split_order query.expr query.stream query.hidden) (chain_order order)
    (All-append (λ number. stream < number) (hidden_streams query.expr query.hidden) (query.stream ∷ [])
    (range_all (λ number. stream < number) query.hidden (hidden_end query - query.hidden) (λ number low high. omega (arith, above, apart.0)))
    (All-cons (λ number. stream < number) query.stream [] above (All-nil (λ number. stream < number))))
    (order_above kinds stream (there ++ query.stream ∷ []) order (Contains-append_left there (query.stream ∷ []) stream has) turn.3 apart.2)

other_number : (stream number : ℕ) → stream < number → (stream == number) ≡ false
other_number stream number less = grind (arith, nat_tests)

none_is : (stream : ℕ) (numbers : List ℕ) → All (λ number. stream < number) numbers → is_in numbers stream ≡ false
none_is stream [] all = refl
none_is stream (number ∷ numbers) all =
    λ i. other_number stream number (All-head (λ n. stream < n) number numbers all) i || none_is stream numbers (All-tail (λ n. stream < n) number numbers all) i

-- an engine that is at one with a catalogue has a layout of it
pub laid_over : (c : Catalogued) (now : engine.EngineView) → StandsInOrder c → AreAtOne c now → IsLayoutOver c.streams (program_over c) now.layout
laid_over c now standing at_one = subst (IsLayoutOver c.streams (program_over c)) (sym at_one.layout) standing.laid

module _ (c : Catalogued) (standing : StandsInOrder c) where
  -- a declared stream isn't derived
  not_derived : (stream : ℕ) → stream < c.declared → is_in (work_order (program_over c)) stream ≡ false
  not_derived stream less =
      let program = program_over c in
      none_is stream (work_order program)
      (order_above (kinds_in c.streams) stream (range_with_len 0 program.declared) program.order (declared_there program.declared stream less) standing.wide.typed.in_turn standing.wide.apart)

  module _ (event : Seen) (fits : Fits c.streams event) where
    -- the event's stream is declared
    pub is_declared : event.stream < c.declared
    is_declared = (standing.told event.stream fits.entry fits.there).0 fits.declared

    schema_there : slice_get (schemas_of c.streams) event.stream ≡ Some fits.entry.schema
    schema_there = slice_get-map (λ (entry : Entry). entry.schema) c.streams event.stream ∙ ap (option_map (λ (entry : Entry). entry.schema)) fits.there

    kinds_there : kinds_in c.streams event.stream ≡ kinds_of fits.entry.schema
    kinds_there = ap kinds_of (get_or_from_slice_get (schemas_of c.streams) event.stream fits.entry.schema [] schema_there)

    -- it has the kinds of its stream
    pub of_its_kinds : HasKinds (kinds_in c.streams event.stream) event.tuple
    of_its_kinds = subst (λ kinds. HasKinds kinds event.tuple) (sym kinds_there) fits.kinds

    -- its stream is one of those that are there
    heard : Contains (streams_there (program_over c)) event.stream
    heard =
        let program = program_over c in
        Contains-append_left (range_with_len 0 program.declared) (map (λ (query : Query). query.stream) program.order) event.stream (declared_there program.declared event.stream is_declared)

    -- an engine of the catalogue may be offered the event
    pub may_hear : (now : engine.EngineView) → AreAtOne c now → IsHeard now.layout event.stream event.tuple
    may_hear now at_one = record {
      kinds = kinds_of fits.entry.schema;
      known = All-contains (λ stream. slice_get now.layout.kinds stream ≡ Some (kinds_in c.streams stream)) (streams_there (program_over c)) event.stream (laid_over c now standing at_one).kinds heard ∙ ap Some kinds_there;
      declared = ap (λ order. is_in order event.stream) (laid_over c now standing at_one).order ∙ not_derived event.stream is_declared;
      of_kinds = fits.kinds;
    }

-- the streams of a batch are known
pub batch_known : (c : Catalogued) (standing : StandsInOrder c) (old new : engine.EngineView) (batch : List (ℕ × List TupleView)) → AreAtOne c old → Closes old new batch → AreOfKnown c.streams batch
batch_known c standing old new batch at_one closes =
    subst (AreOfKnown c.streams) (sym closes.taken.results)
    (all_given (IsKnown c.streams) (λ stream. sorted (closes.taken.news stream)) old.layout.outs (subst (All (IsKnown c.streams)) (sym (laid_over c old standing at_one).outs) (all_known c standing)))

-- a changed engine of the same network and layout
pub at_one_still : (c : Catalogued) (old new : engine.EngineView) → KeepsPlan old new → AreAtOne c old → AreAtOne c new
at_one_still c old new plan at_one = record {
  merged = subst IsMerged (sym plan.network) at_one.merged;
  endings = subst (λ (net : Net). HasEndings net (endings_in c)) (sym plan.network) at_one.endings;
  layout = plan.layout ∙ at_one.layout;
}
