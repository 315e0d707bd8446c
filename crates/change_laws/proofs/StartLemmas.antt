-- An engine that is made for a catalogue as it was loaded, and the births of the queries for which an engine stands.
use Rattle.std.proofs.Common.{◌≡◌, ◌∙◌, sym, ap, refl, subst, ℕ, ◌+◌, ◌<◌, List, [], ◌∷◌, length, map, arith}
use Rattle.std.specs.Prelude.{Option, Some, None}
use Rattle.std.specs.List.{All, range_with_len}
use Rattle.std.proofs.lemmas.List.{length-append, length-map}
use Rattle.std.proofs.lemmas.List.Elements.{All-cons, All-head, All-map, All-nil, All-weaker}
use Rattle.automaton.specs.NetworkLines.{Ending, HasEndings}
use Rattle.automaton.specs.Plain.{numbered}
use Rattle.automaton.specs.States.{Net}
use Rattle.automaton.specs.Work.{IsInOrder}
use Rattle.automaton.specs.declared.line.Line.{Line}
use Rattle.birth_laws.specs.BornChains.{born_at, born_chain, born_lines}
use Rattle.birth_laws.proofs.BornLemmas.{plain_chain, unborn_chain}
use Rattle.catalogue.specs.Catalogued.{Catalogued, program_in, work_in}
use Rattle.catalogue.specs.Loaded.{IsUnchanged}
use Rattle.catalogue.specs.Standing.{IsUpTo, StandsInOrder}
use Rattle.epoch_engine.specs.EngineStandsFor.{EngineStandsFor}
use Rattle.epoch_engine.specs.EngineView.{EngineView}
use Rattle.epoch_engine.specs.Starts.{IsNew}
use Rattle.epoch_engine.proofs.AddingLawLemmas.{their_own}
use Rattle.epoch_engine.proofs.StandsLemmas.{new_stands}
use Rattle.epoch_laws.specs.Births.{IsNoLater}
use Rattle.epoch_laws.specs.BornLines.{BornLine, HasBornLines, unborn}
use Rattle.epoch_laws.proofs.Lists.{every}
use Rattle.prefix_merge.specs.Merging.{IsMerged}
use Rattle.semantics.specs.Programs.{Query}
use Rattle.splitter.specs.Chains.{lines_of}
use Rattle.splitter.specs.Splitting.{parts_of, published_on, split_lines}
use Rattle.semantics.proofs.ListLemmas.{All-left, All-right}
use Rattle.splitter.proofs.SplitLemmas.{some_lines}
use Rattle.change_laws.specs.AtOne.{AreAtOne, ended_by, endings_in}
use Rattle.change_laws.specs.Laws.{LastClosedIsLatest, NewAreAtOne}
use Rattle.change_laws.proofs.AtOneLemmas.{born_are}

-- lines without births, numbered from one number on
unborn_numbered : (first : ℕ) (lines : List Line) → ended_by (map unborn lines) (range_with_len first (length lines)) ≡ numbered first lines
unborn_numbered first [] = refl
unborn_numbered first (line ∷ lines) = ap (λ (es : List Ending). record { line = line; number = first; birth = None } ∷ es) (unborn_numbered (first + 1) lines)

module _ (c : Catalogued) (stands : StandsInOrder c) (unchanged : IsUnchanged c) where
  all_unborn : born_lines (program_in c) ≡ map unborn (lines_of (program_in c))
  all_unborn = unborn_chain (work_in c) unchanged.unborn

  numbered_are : endings_in c ≡ numbered 0 (lines_of (program_in c))
  numbered_are = (λ i. ended_by (all_unborn i) (unchanged.ends i)) ∙ unborn_numbered 0 (lines_of (program_in c))

  module _ (net : Net) (engine : EngineView) (had : HasEndings net (numbered 0 (lines_of (program_in c)))) (new : IsNew net c.layout engine) where
    has : HasEndings net (endings_in c)
    has = subst (HasEndings net) (sym numbered_are) had

    new_at_one : AreAtOne c engine
    new_at_one = record {
      merged = subst (λ (n : Net). IsMerged n) (sym new.network) new.merged;
      endings = subst (λ (n : Net). HasEndings n (endings_in c)) (sym new.network) has;
      layout = new.same_layout;
    }

    new_stands_for : EngineStandsFor engine (born_lines (program_in c)) []
    new_stands_for =
        new_stands net c.layout (born_lines (program_in c)) engine (record {
          has_lines = subst (HasBornLines net) (born_are c stands) (their_own net (endings_in c) new.merged has);
          in_order = subst (λ (ls : List Line). IsInOrder ls c.layout.order) (sym (plain_chain (work_in c))) stands.laid.fits.in_order;
        }) (subst (All (λ (b : BornLine). b.birth ≡ None)) (sym all_unborn)
        (All-map (λ (b : BornLine). b.birth ≡ None) unborn (lines_of (program_in c)) (every (λ (l : Line). (unborn l).birth ≡ None) (λ l. refl) (lines_of (program_in c))))) new

-- a new engine is at one with a catalogue as it was loaded
pub new_are_at_one : NewAreAtOne
new_are_at_one = record {
  at_one = λ c net engine stands unchanged had new. new_at_one c stands unchanged net engine had new;
  stands = λ c net engine stands unchanged had new. new_stands_for c stands unchanged net engine had new;
}

-- a birth that is no later than another is up to it
up_to : (birth other : Option ℕ) → IsNoLater birth other → IsUpTo birth other
up_to None other le = tt
up_to (Some birth) None le = le
up_to (Some birth) (Some other) le = le

module _ (P : Option ℕ → Type 0) where
  -- what is so of the births of some lines is so of the birth that they all have
  birth_of_some : (birth : Option ℕ) (lines : List Line) → 0 < length lines → All (λ (b : BornLine). P b.birth) (map (born_at birth) lines) → P birth
  birth_of_some birth [] some all = absurd (omega (arith, some))
  birth_of_some birth (line ∷ lines) some all = All-head (λ (b : BornLine). P b.birth) (born_at birth line) (map (born_at birth) lines) all

  -- and what is so of the births of the lines of queries is so of those of the queries
  births_of : (order : List Query) → All (λ (b : BornLine). P b.birth) (born_chain order) → All (λ (q : Query). P q.birth) order
  births_of [] all = All-nil (λ (q : Query). P q.birth)
  births_of (query ∷ order) all =
      let lines = split_lines query.expr query.stream query.hidden in
      let parts = parts_of query.expr query.hidden in
      let some : 0 < length lines =
      (let both = length-append parts.hidden (map (published_on query.stream) parts.open_lines) in
      let opened = length-map parts.open_lines (published_on query.stream) in
      let any = some_lines query.expr query.hidden in
      omega (arith, both, opened, any)) in
      All-cons (λ (q : Query). P q.birth) query order (birth_of_some query.birth lines some (All-left (λ (b : BornLine). P b.birth) (map (born_at query.birth) lines) (born_chain order) all))
      (births_of order (All-right (λ (b : BornLine). P b.birth) (map (born_at query.birth) lines) (born_chain order) all))

-- no query was born after the last closed time
pub last_closed_is_latest : LastClosedIsLatest
last_closed_is_latest c engine history stands =
    births_of (λ birth. IsUpTo birth engine.closed_time) (work_in c)
    (All-weaker (λ (b : BornLine). IsNoLater b.birth engine.closed_time) (λ (b : BornLine). IsUpTo b.birth engine.closed_time) (λ b le. up_to b.birth engine.closed_time le) (born_lines (program_in c)) stands.births)
