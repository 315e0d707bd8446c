-- The streams of a typed program have their kinds.
use Rattle.std.proofs.Common.{◌≡◌, sym, subst, ℕ, ◌==◌, nat_lt, Bool, true, false, cond, List, [], ◌∷◌, ◌++◌, map}
use Rattle.std.specs.Prelude.{Option}
use Rattle.std.specs.List.{All, filter}
use Rattle.std.proofs.lemmas.List.Elements.{All-nil, All-cons, All-filter, All-head, All-tail}
use Rattle.event_types.specs.declared.kind.Kind.{Kind}
use Rattle.event_types.specs.Tuple.{TupleView}
use Rattle.semantics.specs.Births.{is_after, streams_after}
use Rattle.semantics.specs.Denotation.{Streams, denote}
use Rattle.semantics.specs.Histories.{Event, heard_on}
use Rattle.semantics.specs.Kinds.{HasKinds}
use Rattle.semantics.specs.Programs.{Query, declared_streams, published, with_stream}
use Rattle.semantics.specs.TypedPrograms.{PublishInTurn, HaveTheirKinds}
use Rattle.event_types.proofs.NumberLemmas.{same_number}
use Rattle.expressions.proofs.TypingLemmas.{typed_kinds}

-- each tuple of each stream has the kinds of the stream
abbrev pub AllHaveKinds : (ℕ → List Kind) → Streams → Type 0
AllHaveKinds kinds streams = (stream : ℕ) → All (HasKinds (kinds stream)) (streams stream)

-- what was heard on a stream has its kinds
heard_kinds : (kinds : ℕ → List Kind) (stream : ℕ) (history : List Event) → HaveTheirKinds kinds history → All (HasKinds (kinds stream)) (heard_on history stream)
heard_kinds kinds stream [] all = All-nil (HasKinds (kinds stream))
heard_kinds kinds stream (event ∷ history) all =
    go (heard_kinds kinds stream history (All-tail (λ e. HasKinds (kinds e.stream) e.tuple) event history all)) (event.stream == stream) (same_number event.stream stream)
  where
    go : All (HasKinds (kinds stream)) (heard_on history stream) → (b : Bool) → (b ≡ true → event.stream ≡ stream)
        → All (HasKinds (kinds stream)) (map (λ e. e.tuple) (cond b (event ∷ filter (λ e. e.stream == stream) history) (filter (λ e. e.stream == stream) history)))
    go rest true same =
        let first = subst (λ (n : ℕ). HasKinds (kinds n) event.tuple) (same (λ i. true)) (All-head (λ e. HasKinds (kinds e.stream) e.tuple) event history all) in
        All-cons (HasKinds (kinds stream)) event.tuple (heard_on history stream) first rest
    go rest false same = rest

-- so have the declared streams
pub declared_kinds : (kinds : ℕ → List Kind) (declared : ℕ) (history : List Event) → HaveTheirKinds kinds history → AllHaveKinds kinds (declared_streams declared history)
declared_kinds kinds declared history all stream =
    elim (nat_lt stream declared) as (λ b. All (HasKinds (kinds stream)) (cond b (heard_on history stream) [])) [
      | true ↦ heard_kinds kinds stream history all
      | false ↦ All-nil (HasKinds (kinds stream))
    ]

-- a stream more that has its kinds
pub with_kinds : (kinds : ℕ → List Kind) (streams : Streams) (number : ℕ) (tuples : List TupleView) → AllHaveKinds kinds streams → All (HasKinds (kinds number)) tuples → AllHaveKinds kinds (with_stream streams number tuples)
with_kinds kinds streams number tuples all new stream = go (stream == number) (same_number stream number)
  where
    go : (b : Bool) → (b ≡ true → stream ≡ number) → All (HasKinds (kinds stream)) (cond b tuples (streams stream))
    go true same = subst (λ (n : ℕ). All (HasKinds (kinds n)) tuples) (sym (same (λ i. true))) new
    go false same = all stream

-- so have the streams that are cut at a birth
pub after_kinds : (kinds : ℕ → List Kind) (streams : Streams) (birth : Option ℕ) → AllHaveKinds kinds streams → AllHaveKinds kinds (streams_after birth streams)
after_kinds kinds streams birth all stream = All-filter (λ tuple. is_after birth tuple.at) (HasKinds (kinds stream)) (streams stream) (all stream)

-- after queries that are typed in turn each stream has its kinds: by induction on the queries
pub kinds_in_turn : (kinds : ℕ → List Kind) (there : List ℕ) (streams : Streams) (order : List Query) → AllHaveKinds kinds streams → PublishInTurn kinds there order → AllHaveKinds kinds (published streams order)
kinds_in_turn kinds there streams [] all h = all
kinds_in_turn kinds there streams (query ∷ order) all h =
    let cut = streams_after query.birth streams in
    let tuples = denote query.expr cut in
    let one = typed_kinds query.expr query.stream kinds (kinds query.stream) cut (λ s lt. after_kinds kinds streams query.birth all s) h.2 in
    kinds_in_turn kinds (there ++ query.stream ∷ []) (with_stream streams query.stream tuples) order (with_kinds kinds streams query.stream tuples all one) h.3
