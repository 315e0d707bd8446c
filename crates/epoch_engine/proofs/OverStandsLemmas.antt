-- Engines that go over to another network and another layout go on standing for their history.
use Rattle.std.proofs.Common.{◌≡◌, ◌∙◌, sym, ap, subst, ℕ, length, List, [], ◌∷◌, map}
use Rattle.std.specs.Prelude.{Contains, Option, None}
use Rattle.std.specs.List.{All}
use Rattle.semantics.specs.Denotation.{Streams, streams_of}
use Rattle.semantics.specs.Histories.{Event}
use Rattle.automaton.specs.NetworkLines.{Ending}
use Rattle.automaton.specs.Networks.{IsAt}
use Rattle.automaton.specs.Prefixes.{Prefix, After, beginnings, extended, path, prefixes}
use Rattle.automaton.specs.States.{Net, wait_at}
use Rattle.automaton.specs.declared.layout.Layout.{Layout}
use Rattle.automaton.specs.declared.line.Hop.{Hop}
use Rattle.automaton.specs.declared.line.Line.{Line}
use Rattle.epoch_laws.specs.Births.{IsNoLater}
use Rattle.epoch_laws.specs.BornLines.{BornLine, HasBornLines, IsReadAfter, lines_in}
use Rattle.epoch_laws.specs.Closing.{Stores}
use Rattle.epoch_laws.specs.Histories.{streams_over}
use Rattle.epoch_laws.specs.InstanceFlow.{waiting_instances}
use Rattle.epoch_laws.specs.Standing as standing
use Rattle.epoch_laws.specs.Standing.{next_time}
use Rattle.epoch_laws.specs.Stores.{Purged}
use Rattle.epoch_laws.specs.StoresStandFor.{Serves}
use Rattle.epoch_laws.proofs.Bags.{permuted_is}
use Rattle.prefix_merge.specs.Merging.{HasPrefix, IsMerged}
use Rattle.prefix_merge.proofs.ContainLemmas.{in_flat_map, in_map}
use Rattle.prefix_merge.proofs.LawLemmas.{states_are}
use Rattle.prefix_merge.proofs.PrefixLemmas.{begins_before, begins_itself}
use Rattle.epoch_engine.specs.Adding.{GoesOver}
use Rattle.epoch_engine.specs.EngineStandsFor.{EngineStandsFor}
use Rattle.epoch_engine.specs.EngineView.{EngineView, stores_in}
use Rattle.epoch_engine.proofs.BornLemmas.{born_ended}

-- what begins a prefix begins it with more hops too
begins_on : (hops : List Hop) (p first : Prefix) → Contains (beginnings p) first → Contains (beginnings (extended p hops)) first
begins_on [] p first has = has
begins_on (h ∷ hops) p first has = begins_on hops (After p h) first (begins_before p h first has)

-- a prefix that a line uses has a state
pub read_there : (net : Net) (lines : List BornLine) → IsMerged net → HasBornLines net lines → (p : Prefix) (birth : Option ℕ) → IsReadAfter lines p birth → HasPrefix net p
read_there net lines merged has p birth used =
    let same : lines_in lines ≡ map (λ (e : Ending). e.line) has.0 = ap lines_in (sym has.2) ∙ born_ended has.0 in
    let begins : Contains (beginnings (path used.0.line)) p = subst (λ (q : Prefix). Contains (beginnings q) p) (sym used.3) (begins_on used.1 p p (begins_itself p)) in
    (states_are net has.0 merged has.1 p).1
    (subst (λ (ls : List Line). Contains (prefixes ls) p) same (in_flat_map (λ (l : Line). beginnings (path l)) (lines_in lines) used.0.line p (in_map (λ (b : BornLine). b.line) lines used.0 used.2) begins))

-- the parts of an engine that stand for a history with no epoch open
abbrev Closed : Net → List BornLine → List ℕ → Stores → Streams → Option ℕ → List Event → Type 0
Closed net lines order stores opened closed_time history = standing.PartsStandFor net lines order stores None opened closed_time history

module _ (layout : Layout) (old new : EngineView) (had : List BornLine) (history : List Event) (stands : EngineStandsFor old had history) (closed : old.time ≡ None) (over : GoesOver layout old new) where
  -- what it stood for
  pub were : Closed old.network had old.layout.order (stores_in old) (streams_of old.opened) old.closed_time history
  were = subst (λ (t : Option ℕ). standing.PartsStandFor old.network had old.layout.order (stores_in old) t (streams_of old.opened) old.closed_time history) closed stands.stands

  module _ (lines : List BornLine) (serves : Serves new.network lines layout.order) (births : All (λ (b : BornLine). IsNoLater b.birth old.closed_time) lines)
      (none_elsewhere : (number : ℕ) → wait_at new.network number ≡ None → stores_in new number ≡ [])
      (holds : (number : ℕ) (p : Prefix) (h : Hop) → IsAt new.network number (After p h)
      → Purged (next_time old.closed_time) (IsReadAfter lines (After p h)) h.wait.choose (waiting_instances (streams_over lines layout.order history) p h) (stores_in new number)) where
    parts : Closed new.network lines layout.order (stores_in new) (streams_of new.opened) old.closed_time history
    parts = record {
      sound = were.sound;
      never_falls = were.never_falls;
      open_is_last = tt;
      closed_is_last = were.closed_is_last;
      tuples_are_open = λ s. permuted_is (over.opened s);
      stores_stand = record { before = were.stores_stand.before; holds = holds };
    }

    -- it goes on standing for the history with lines whose stores are purged as its own
    pub over_stands : EngineStandsFor new lines history
    over_stands =
        let order : layout.order ≡ new.layout.order = ap (λ (l : Layout). l.order) (sym over.same_layout) in record {
          merged = over.merged;
          serves = subst (Serves new.network lines) order serves;
          as_many = over.as_many ∙ ap (λ (l : Layout). length l.kinds) (sym over.same_layout);
          births = subst (λ (t : Option ℕ). All (λ (b : BornLine). IsNoLater b.birth t) lines) (sym over.same_closed) births;
          none_elsewhere = none_elsewhere;
          stands =
              subst (λ (t : Option ℕ). standing.PartsStandFor new.network lines new.layout.order (stores_in new) t (streams_of new.opened) new.closed_time history) (sym over.none_open)
              (subst (λ (t : Option ℕ). Closed new.network lines new.layout.order (stores_in new) (streams_of new.opened) t history) (sym over.same_closed)
              (subst (λ (o : List ℕ). Closed new.network lines o (stores_in new) (streams_of new.opened) old.closed_time history) order parts));
        }
