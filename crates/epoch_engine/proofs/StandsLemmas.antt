-- Engines stand for histories.
use Rattle.std.proofs.Common.{◌≡◌, ◌∙◌, sym, ap, refl, subst, ℕ, ◌+◌, ◌==◌, ◌<◌, ◌≤◌, Bool, true, false, cond, length, get_or, set, List, [], ◌∷◌, ◌++◌, map, append-nil, arith}
use Rattle.std.specs.Prelude.{Option, Some, None}
use Rattle.std.specs.List.{All}
use Rattle.std.specs.List.Sorted.{IsPermutation}
use Rattle.std.proofs.lemmas.Grind.{get_or-set_at}
use Rattle.std.proofs.lemmas.List.{get_or-set_other, length-set}
use Rattle.std.proofs.lemmas.List.Elements.{All-weaker}
use Rattle.std.proofs.lemmas.Option.{slice_get_within}
use Rattle.event_types.specs.Order.{sorted, tuple_cmp}
use Rattle.event_types.specs.OrderLaws.{tuple_exact, tuple_total}
use Rattle.event_types.specs.Tuple.{TupleView, IsSound}
use Rattle.event_types.proofs.SortLemmas.{sort_permuted}
use Rattle.semantics.specs.Denotation.{Streams, streams_of}
use Rattle.semantics.specs.Histories.{Event, heard_on}
use Rattle.automaton.specs.States.{Net, wait_at}
use Rattle.automaton.specs.declared.layout.Layout.{Layout}
use Rattle.epoch_laws.specs.Births.{IsNoLater}
use Rattle.epoch_laws.specs.BornLines.{BornLine}
use Rattle.epoch_laws.specs.Closing.{ArePurged, Stores, stores_after}
use Rattle.epoch_laws.specs.Histories.{streams_over}
use Rattle.epoch_laws.specs.Standing as standing
use Rattle.epoch_laws.specs.Standing.{MayFollow, next_time}
use Rattle.epoch_laws.specs.StoresStandFor.{Serves}
use Rattle.epoch_laws.specs.Times.{during}
use Rattle.epoch_laws.proofs.Bags.{permuted_is}
use Rattle.epoch_laws.proofs.Standing.{close_stands, in_time, offer_stands, start_stands}
use Rattle.prefix_merge.specs.Merging.{IsMerged}
use Rattle.event_types.proofs.NumberLemmas.{same_number, other_number}
use Rattle.epoch_engine.specs.Closes.{Closes, KeepsPlan}
use Rattle.epoch_engine.specs.Offers.{IsHeard, IsLate, IsNotAhead, with_tuple}
use Rattle.epoch_engine.specs.EngineStandsFor.{EngineStandsFor}
use Rattle.epoch_engine.specs.Starts.{IsNew}
use Rattle.epoch_engine.specs.Results.{results_of}
use Rattle.epoch_engine.specs.EngineView.{EngineView, stores_in}
use Rattle.epoch_engine.proofs.PurgeLemmas.{are_purged}

-- the parts of an engine that stand for a history
abbrev Standing : Net → List BornLine → List ℕ → Stores → Option ℕ → Streams → Option ℕ → List Event → Type 0
Standing net lines order stores time opened closed_time history = standing.PartsStandFor net lines order stores time opened closed_time history

-- what was born by the last closed time was born by a later one
still_earlier : (birth closed_time : Option ℕ) (time : ℕ) → next_time closed_time ≤ time → IsNoLater birth closed_time → IsNoLater birth (Some time)
still_earlier None closed_time time le h = tt
still_earlier (Some b) None time le h = absurd h
still_earlier (Some b) (Some c) time le h = omega (arith, le, h)

-- a new engine
pub new_stands : (net : Net) (layout : Layout) (lines : List BornLine) (engine : EngineView) → Serves net lines layout.order → All (λ (b : BornLine). b.birth ≡ None) lines → IsNew net layout engine → EngineStandsFor engine lines []
new_stands net layout lines engine serves unborn new =
    let order : engine.layout.order ≡ layout.order = ap (λ (l : Layout). l.order) new.same_layout in
    let stores : (λ _. []) ≡ stores_in engine = λ i n. sym (new.stores n) i in
    let opened : (λ _. []) ≡ streams_of engine.opened = λ i s. sym (new.opened s) i in record {
      merged = subst IsMerged (sym new.network) new.merged;
      births = All-weaker (λ (b : BornLine). b.birth ≡ None) (λ (b : BornLine). IsNoLater b.birth engine.closed_time) (λ b none. subst (λ (o : Option ℕ). IsNoLater o engine.closed_time) (sym none) tt) lines unborn;
      none_elsewhere = λ number none. new.stores number;
      serves = subst (λ (n : Net). Serves n lines engine.layout.order) (sym new.network) (subst (Serves net lines) (sym order) serves);
      as_many = new.as_many ∙ ap (λ (l : Layout). length l.kinds) (sym new.same_layout);
      stands =
          subst (λ (t : Option ℕ). Standing engine.network lines engine.layout.order (stores_in engine) t (streams_of engine.opened) engine.closed_time []) (sym new.none_open)
          (subst (λ (t : Option ℕ). Standing engine.network lines engine.layout.order (stores_in engine) None (streams_of engine.opened) t []) (sym new.none_closed)
          (subst (λ (st : Stores). Standing engine.network lines engine.layout.order st None (streams_of engine.opened) None []) stores
          (subst (λ (ts : Streams). Standing engine.network lines engine.layout.order (λ _. []) None ts None []) opened (start_stands engine.network lines engine.layout.order))));
    }

-- a time that is neither late nor ahead may follow
may_follow : (time closed_time : Option ℕ) (at : ℕ) → IsNotAhead time at → ((seen : ℕ) → IsLate time closed_time at seen → ⊥) → MayFollow time closed_time at
may_follow (Some t) closed_time at ahead late = same at t ahead (λ lt. late t (lt, refl))
  where
    same : (at t : ℕ) → at ≤ t → (at < t → ⊥) → at ≡ t
    same at t le before = omega (arith, before)
may_follow None None at ahead late = omega arith
may_follow None (Some last) at ahead late = above last at (λ le. late last (le, refl))
  where
    above : (last at : ℕ) → (at ≤ last → ⊥) → last + 1 ≤ at
    above last at before = omega (arith, before)

-- an engine that took a tuple
pub offered_stands : (engine : EngineView) (lines : List BornLine) (history : List Event) (stream : ℕ) (tuple : TupleView) → EngineStandsFor engine lines history → IsHeard engine.layout stream tuple → IsSound tuple → IsNotAhead engine.time tuple.at
    → ((seen : ℕ) → IsLate engine.time engine.closed_time tuple.at seen → ⊥) → EngineStandsFor (with_tuple engine stream tuple) lines (history ++ record { stream = stream; tuple = tuple } ∷ [])
offered_stands engine lines history stream tuple stands heard sound ahead late = record {
  merged = stands.merged;
  births = stands.births;
  none_elsewhere = stands.none_elsewhere;
  serves = stands.serves;
  as_many = length-set engine.opened stream more ∙ stands.as_many;
  stands =
      offer_stands engine.network lines engine.layout.order (stores_in engine) (streams_of engine.opened) (streams_of (set engine.opened stream more)) engine.closed_time history event sound added engine.time stands.stands
      (may_follow engine.time engine.closed_time tuple.at ahead late);
}
  where
    event : Event
    event = record { stream = stream; tuple = tuple }

    more : List TupleView
    more = get_or engine.opened stream [] ++ tuple ∷ []

    there : stream < length engine.opened
    there = omega (arith, stands.as_many, slice_get_within engine.layout.kinds stream heard.kinds heard.known)

    each : (s : ℕ) (b : Bool) → (stream == s) ≡ b → get_or (set engine.opened stream more) s [] ≡ get_or engine.opened s [] ++ map (λ (h : Event). h.tuple) (cond b (event ∷ []) [])
    each s true e = let same = same_number stream s e in get_or-set_at engine.opened stream s more [] (sym same) there ∙ ap (λ n. get_or engine.opened n [] ++ tuple ∷ []) same
    each s false e = get_or-set_other engine.opened stream s more [] (λ same. other_number stream s e (sym same)) ∙ sym (append-nil (get_or engine.opened s []))

    added : (s : ℕ) → IsPermutation (get_or (set engine.opened stream more) s []) (get_or engine.opened s [] ++ heard_on (event ∷ []) s)
    added s = permuted_is (each s (stream == s) refl)

module _ (old new : EngineView) (lines : List BornLine) (history : List Event) (batch : List (ℕ × List TupleView)) (stands : EngineStandsFor old lines history) (closes : Closes old new batch) where
  open_stands : Standing old.network lines old.layout.order (stores_in old) (Some closes.time) (streams_of old.opened) old.closed_time history
  open_stands = subst (λ (t : Option ℕ). Standing old.network lines old.layout.order (stores_in old) t (streams_of old.opened) old.closed_time history) closes.was_open stands.stands

  purged : ArePurged (closes.time + 1) lines old.network (stores_after old.network closes.taken.news (stores_in old)) (stores_in new)
  purged = are_purged (closes.time + 1) lines old.network (stores_after old.network closes.taken.news (stores_in old)) (stores_in new) closes.taken.purged

  -- what the batch has
  pub batch_is_streams : batch ≡ results_of old.layout.outs (λ s. sorted (during closes.time (streams_over lines old.layout.order history s)))
  batch_is_streams = closes.taken.results ∙ (λ i. results_of old.layout.outs (λ s. each s i))
    where
      each : (s : ℕ) → sorted (closes.taken.news s) ≡ sorted (during closes.time (streams_over lines old.layout.order history s))
      each s =
          sort_permuted tuple_cmp tuple_total tuple_exact _ _
          ((close_stands old.network lines old.layout.order (stores_in old) closes.time (streams_of old.opened) closes.taken.news old.closed_time history stands.serves open_stands closes.taken.epoch (stores_in new) purged).0
          s)

  none_there : (number : ℕ) → wait_at old.network number ≡ None → stores_in new number ≡ []
  none_there number none = closes.taken.others number none ∙ stands.none_elsewhere number none

  -- its time is later than the last closed one
  later : next_time old.closed_time ≤ closes.time
  later = in_time old.network lines old.layout.order (stores_in old) closes.time (streams_of old.opened) closes.taken.news old.closed_time history stands.serves open_stands closes.taken.epoch

  -- an engine that closed its epoch
  pub closed_stands : KeepsPlan old new → EngineStandsFor new lines history
  closed_stands plan =
      let order : old.layout.order ≡ new.layout.order = ap (λ (l : Layout). l.order) (sym plan.layout) in
      let none : (λ _. []) ≡ streams_of new.opened = λ i s. sym (closes.emptied s) i in
      let after =
      (close_stands old.network lines old.layout.order (stores_in old) closes.time (streams_of old.opened) closes.taken.news old.closed_time history stands.serves open_stands closes.taken.epoch (stores_in new) purged).1 in record {
        merged = subst IsMerged (sym plan.network) stands.merged;
        births = All-weaker (λ (b : BornLine). IsNoLater b.birth old.closed_time) (λ (b : BornLine). IsNoLater b.birth new.closed_time) (λ b le. subst (IsNoLater b.birth) (sym closes.now_closed) (still_earlier b.birth old.closed_time closes.time later le)) lines stands.births;
        none_elsewhere = λ number none. none_there number (ap (λ (n : Net). wait_at n number) (sym plan.network) ∙ none);
        serves = subst (λ (n : Net). Serves n lines new.layout.order) (sym plan.network) (subst (Serves old.network lines) order stands.serves);
        as_many = closes.as_many ∙ stands.as_many ∙ ap (λ (l : Layout). length l.kinds) (sym plan.layout);
        stands =
            subst (λ (n : Net). Standing n lines new.layout.order (stores_in new) new.time (streams_of new.opened) new.closed_time history) (sym plan.network)
            (subst (λ (o : List ℕ). Standing old.network lines o (stores_in new) new.time (streams_of new.opened) new.closed_time history) order
            (subst (λ (t : Option ℕ). Standing old.network lines old.layout.order (stores_in new) t (streams_of new.opened) new.closed_time history) (sym closes.none_open)
            (subst (λ (t : Option ℕ). Standing old.network lines old.layout.order (stores_in new) None (streams_of new.opened) t history) (sym closes.now_closed)
            (subst (λ (ts : Streams). Standing old.network lines old.layout.order (stores_in new) None ts (Some closes.time) history) none after))));
      }
