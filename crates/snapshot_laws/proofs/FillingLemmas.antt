-- Engines that were filled stand for histories.
use Rattle.std.proofs.Common.{◌<◌, ◌≡◌, ◌∙◌, sym, ap, subst, ℕ, List, length, map}
use Rattle.std.specs.Prelude.{Option, None, Contains}
use Rattle.std.specs.List.{All}
use Rattle.std.proofs.lemmas.List.Elements.{All-contains, All-contains_itself, All-map, All-weaker}
use Rattle.std.proofs.lemmas.List.Sorted.{IsPermutation-trans}
use Rattle.event_types.specs.Tuple.{IsSound, TupleView}
use Rattle.semantics.specs.Denotation.{streams_of}
use Rattle.semantics.specs.Histories.{Event}
use Rattle.automaton.specs.NetworkLines.{Ending}
use Rattle.automaton.specs.Prefixes.{prefixes}
use Rattle.automaton.specs.States.{Net, wait_at}
use Rattle.automaton.specs.declared.line.Line.{Line}
use Rattle.automaton.specs.declared.layout.Layout.{Layout}
use Rattle.epoch_laws.specs.Births.{IsNoLater}
use Rattle.epoch_laws.specs.BornLines.{BornLine, HasBornLines, lines_in}
use Rattle.snapshot_laws.specs.Renumbering.{IsSomewhere, renumbered}
use Rattle.snapshot_laws.proofs.RenumberedStores.{stores_stand_renumbered}
use Rattle.epoch_laws.specs.Standing as standing
use Rattle.epoch_laws.specs.Standing.{closed_part, last_time, next_time, open_part}
use Rattle.epoch_laws.specs.StoresStandFor.{Serves, StoresStandFor}
use Rattle.epoch_laws.proofs.Bags.{permuted_is}
use Rattle.prefix_merge.specs.Merging.{IsMerged}
use Rattle.prefix_merge.proofs.LawLemmas.{states_are}
use Rattle.epoch_engine.specs.EngineView.{stores_in}
use Rattle.snapshot_laws.specs.Filling.{CarriedStands, FilledStands}
use Rattle.epoch_engine.proofs.BornLemmas.{born_ended}

-- an engine that had heard nothing, and was filled, stands for all that its contents fit
pub filled_stands : FilledStands
filled_stands last states stores old new lines history is_new waiting fills serves fit =
    let network : old.network ≡ new.network = sym fills.plan.network in
    let order : old.layout.order ≡ new.layout.order = ap (λ (l : Layout). l.order) (sym fills.plan.layout) in
    let none_open : new.time ≡ None = fills.time ∙ is_new.none_open in
    let parts : standing.PartsStandFor old.network lines old.layout.order (stores_in new) None (streams_of new.opened) last history = record {
      sound = All-weaker (λ (e : Event). IsSound e.tuple × (e.tuple.at < next_time last)) (λ (e : Event). IsSound e.tuple) (λ e h. h.0) history fit.stores_stand.before;
      never_falls = fit.never_falls;
      open_is_last = tt;
      closed_is_last = fit.ends;
      tuples_are_open = λ stream. permuted_is (ap (λ (o : List (List TupleView)). streams_of o stream) fills.opened ∙ is_new.opened stream);
      stores_stand = fit.stores_stand;
    } in record {
      merged = subst IsMerged network is_new.merged;
      serves = subst (λ (n : Net). Serves n lines new.layout.order) network (subst (Serves old.network lines) order serves);
      as_many = ap length fills.opened ∙ is_new.as_many ∙ ap (λ (l : Layout). length l.kinds) (sym fills.plan.layout);
      births = subst (λ (t : Option ℕ). All (λ (b : BornLine). IsNoLater b.birth t) lines) (sym fills.closed) fit.births;
      none_elsewhere = λ number none. fills.others number (λ there. not_waiting number (subst (λ (n : Net). wait_at n number ≡ None) (sym network) none) there) ∙ is_new.stores number;
      stands =
          subst (λ (n : Net). standing.PartsStandFor n lines new.layout.order (stores_in new) new.time (streams_of new.opened) new.closed_time history) network
          (subst (λ (o : List ℕ). standing.PartsStandFor old.network lines o (stores_in new) new.time (streams_of new.opened) new.closed_time history) order
          (subst (λ (t : Option ℕ). standing.PartsStandFor old.network lines old.layout.order (stores_in new) t (streams_of new.opened) new.closed_time history) (sym none_open)
          (subst (λ (t : Option ℕ). standing.PartsStandFor old.network lines old.layout.order (stores_in new) None (streams_of new.opened) t history) (sym fills.closed) parts)));
    }
  where
    not_waiting : (number : ℕ) → wait_at old.network number ≡ None → Contains states number → ⊥
    not_waiting number none there = All-contains (λ (state : ℕ). wait_at old.network state ≡ None → ⊥) states number waiting there none

-- each prefix of its lines has a state in a merged network
all_there : (net : Net) (lines : List BornLine) → IsMerged net → HasBornLines net lines → All (IsSomewhere net) (prefixes (lines_in lines))
all_there net lines merged has =
    let same : lines_in lines ≡ map (λ (e : Ending). e.line) has.0 = ap lines_in (sym has.2) ∙ born_ended has.0 in
    let of_ends : All (IsSomewhere net) (prefixes (map (λ (e : Ending). e.line) has.0)) =
    All-weaker (Contains (prefixes (map (λ (e : Ending). e.line) has.0))) (IsSomewhere net) (λ p there. (states_are net has.0 merged has.1 p).1 there) (prefixes (map (λ (e : Ending). e.line) has.0)) (All-contains_itself (prefixes (map (λ (e : Ending). e.line) has.0))) in
    subst (λ (ls : List Line). All (IsSomewhere net) (prefixes ls)) (sym same) of_ends

-- an engine that has what another one has stands for the same history
pub carried_stands : CarriedStands
carried_stands number back old new lines history stands renumbers serves carries =
    let others = map (renumbered number) lines in
    let time : old.time ≡ new.time = sym carries.times.time in
    let closed : old.closed_time ≡ new.closed_time = sym carries.times.closed_time in
    let moved : StoresStandFor new.network others (map number old.layout.order) (next_time old.closed_time) (stores_in new) (closed_part old.time history) =
    stores_stand_renumbered number back old.network new.network lines old.layout.order (next_time old.closed_time) (stores_in old) (stores_in new) (closed_part old.time history) renumbers stands.stands.stores_stand
    (all_there old.network lines stands.merged stands.serves.has_lines) serves.has_lines.3 carries.alike in
    let ordered : StoresStandFor new.network others new.layout.order (next_time old.closed_time) (stores_in new) (closed_part old.time history) =
    subst (λ (o : List ℕ). StoresStandFor new.network others o (next_time old.closed_time) (stores_in new) (closed_part old.time history)) (sym carries.order) moved in
    let parts : standing.PartsStandFor new.network others new.layout.order (stores_in new) old.time (streams_of new.opened) old.closed_time history = record {
      sound = stands.stands.sound;
      never_falls = stands.stands.never_falls;
      open_is_last = stands.stands.open_is_last;
      closed_is_last = stands.stands.closed_is_last;
      tuples_are_open = λ stream. IsPermutation-trans _ _ _ (carries.opened stream) (stands.stands.tuples_are_open stream);
      stores_stand = ordered;
    } in record {
      merged = carries.merged;
      serves = serves;
      as_many = carries.as_many;
      births = All-map (λ (b : BornLine). IsNoLater b.birth new.closed_time) (renumbered number) lines (subst (λ (t : Option ℕ). All (λ (b : BornLine). IsNoLater b.birth t) lines) closed stands.births);
      none_elsewhere = carries.none_elsewhere;
      stands =
          subst (λ (t : Option ℕ). standing.PartsStandFor new.network others new.layout.order (stores_in new) t (streams_of new.opened) new.closed_time history) time
          (subst (λ (t : Option ℕ). standing.PartsStandFor new.network others new.layout.order (stores_in new) old.time (streams_of new.opened) t history) closed parts);
    }
