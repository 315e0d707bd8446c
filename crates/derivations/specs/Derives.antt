-- Which derivations a tuple has.
use Rattle.std.specs.Prelude.{◌≡◌, ℕ, ◌+◌, ◌<◌, true, List, Contains, None, Some, slice_get}
use Rattle.event_types.specs.Tuple.{TupleView}
use Rattle.semantics.specs.Scalars.{Pr, Projection}
use Rattle.semantics.specs.Truth.{all_true}
use Rattle.semantics.specs.Nexts.{nexts}
use Rattle.semantics.specs.Runs.{goers, rebound}
use Rattle.semantics.specs.Expressions.{Ex, Read, Filter, Select, Union, Next, Fold}
use Rattle.semantics.specs.Denotation.{denote, joined, selected}
use Rattle.semantics.specs.Histories.{Event}
use Rattle.semantics.specs.Programs.{Program, Query, env}
use Rattle.derivations.specs.Derivation.{Derivation, Derivations}
use Rattle.derivations.specs.Derivation as the

-- the event at this place of the history, counted from 1, is this tuple on a declared stream
pub record IsEventAt (program : Program) (history : List Event) (stream place : ℕ) (tuple : TupleView) : Type 0 where
  pub declared : stream < program.declared
  pub index : ℕ
  pub counted : place ≡ index + 1
  pub heard : slice_get history index ≡ Some (record { stream = stream; tuple = tuple })

-- a query of the program publishes this stream by this expression
pub record IsPublished (program : Program) (stream : ℕ) (expr : Ex) : Type 0 where
  pub query : Query
  pub there : Contains program.queries query
  pub stream_is : query.stream ≡ stream
  pub expr_is : query.expr ≡ expr

mutual
  -- the derivation says how the expression gives the tuple, over the streams of a program and a history
  pub data Derives (program : Program) (history : List Event) : Ex → Derivation → TupleView → Type 0 where
    -- a declared stream: the event at a place
    event : {stream place : ℕ} {tuple : TupleView} → IsEventAt program history stream place tuple → Derives program history (Read stream) (the.Event place) tuple
    -- a query's stream: what derives the tuple in the query's expression
    query : {stream : ℕ} {e : Ex} {by : Derivation} {tuple : TupleView} → IsPublished program stream e → Derives program history e by tuple → Derives program history (Read stream) (the.Query by) tuple
    -- FILTER: what derives the tuple before, where the condition holds
    filter : {p : List Pr} {e : Ex} {by : Derivation} {tuple : TupleView} → Derives program history e by tuple → all_true p tuple None ≡ true → Derives program history (Filter p e) by tuple
    -- SELECT: what derives the tuple over which the scalars have these values
    select : {m : Projection} {e : Ex} {by : Derivation} {source tuple : TupleView} → Derives program history e by source → tuple ≡ selected m.parts source → Derives program history (Select m e) by tuple
    -- UNION: the side, and what derives the tuple there
    left : {e f : Ex} {by : Derivation} {tuple : TupleView} → Derives program history e by tuple → Derives program history (Union e f) (the.Left by) tuple
    right : {e f : Ex} {by : Derivation} {tuple : TupleView} → Derives program history f by tuple → Derives program history (Union e f) (the.Right by) tuple
    -- NEXT: what derives the binding and what derives one of its nexts; the tuple is both joined
    next : {p : List Pr} {e f : Ex} {by next_by : Derivation} {binding event tuple : TupleView}
        → Derives program history e by binding → Derives program history f next_by event → Contains (nexts p binding (denote f (env program history))) event
        → tuple ≡ joined binding event → Derives program history (Next p e f) (the.Next by next_by) tuple
    -- FOLD: what derives the first binding, and what derives the events of its iterations
    fold : {p q : List Pr} {m : Projection} {e f : Ex} {by : Derivation} {all_by : Derivations} {binding tuple : TupleView}
        → Derives program history e by binding → Iterates program history p q m f binding all_by tuple → Derives program history (Fold p q m e f) (the.Fold by all_by) tuple

  -- from the binding on, each derivation is that of one of the nexts with which the iteration goes on; there is at least one, and the tuple is the last binding
  pub data Iterates (program : Program) (history : List Event) : List Pr → List Pr → Projection → Ex → TupleView → Derivations → TupleView → Type 0 where
    -- one event: the tuple is the binding that it makes
    last : {p q : List Pr} {m : Projection} {f : Ex} {by : Derivation} {binding event tuple : TupleView}
        → Derives program history f by event → Contains (goers p q (denote f (env program history)) binding) event → tuple ≡ rebound m.parts binding event
        → Iterates program history p q m f binding (the.More by the.None) tuple
    -- an event, and then those from the binding that it makes
    more : {p q : List Pr} {m : Projection} {f : Ex} {by : Derivation} {later : Derivations} {binding event tuple : TupleView}
        → Derives program history f by event → Contains (goers p q (denote f (env program history)) binding) event → Iterates program history p q m f (rebound m.parts binding event) later tuple
        → Iterates program history p q m f binding (the.More by later) tuple
