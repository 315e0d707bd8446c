-- Programs whose queries keep a key, and the parts of a history by its values.
use Rattle.std.specs.Prelude.{◌≡◌, ◌⊎◌, ℕ, Bool, List, Some, Contains, slice_get}
use Rattle.std.specs.List.{All, filter}
use Rattle.event_types.specs.declared.comparison.Cmp.TheVariants as cmp
use Rattle.event_types.specs.declared.value.Value.{Value}
use Rattle.event_types.specs.Tuple.{TupleView}
use Rattle.semantics.specs.Expressions.{Ex, Read, Filter, Select, Union, Next, Fold}
use Rattle.semantics.specs.Histories.{Event}
use Rattle.semantics.specs.Programs.{Program, env}
use Rattle.semantics.specs.Results.{results}
use Rattle.semantics.specs.Scalars.{Pr, Sc, Test, Binding}
use Rattle.semantics.specs.Scalars as term
use Rattle.semantics.specs.Values.{value_at}
use Rattle.history_laws.specs.LateStarts.{AreSound}

-- one part of the condition is that the event's attribute at a place equals the binding's at another
abbrev pub JoinsByKey : List Pr → ℕ → ℕ → Type 0
JoinsByKey condition place bound = Contains condition (Test (term.Event place) cmp.Eq (Binding bound))

-- the projection has this scalar at this place
abbrev pub Gives : List Sc → ℕ → Sc → Type 0
Gives parts place scalar = slice_get parts place ≡ Some scalar

-- the expression keeps the key at this place: a stream at its own, FILTER and UNION where their sides do, SELECT where it gives that attribute; NEXT and FOLD join by it, and FOLD's new binding has it there again
abbrev pub IsKeyed : (ℕ → ℕ) → Ex → ℕ → Type 0
IsKeyed keys (Read stream) place = keys stream ≡ place
IsKeyed keys (Filter p e) place = IsKeyed keys e place
IsKeyed keys (Select m e) place = (old : ℕ) × IsKeyed keys e old × Gives m.parts place (term.Event old)
IsKeyed keys (Union e f) place = IsKeyed keys e place × IsKeyed keys f place
IsKeyed keys (Next p e f) place = (right : ℕ) × IsKeyed keys e place × IsKeyed keys f right × JoinsByKey p right place
IsKeyed keys (Fold p q m e f) place =
    (right : ℕ) × IsKeyed keys e place × IsKeyed keys f right × JoinsByKey p right place × (Gives m.parts place (Binding place) ⊎ Gives m.parts place (term.Event right))

-- each query keeps the key at the place of its stream
abbrev pub AreKeyed : (ℕ → ℕ) → Program → Type 0
AreKeyed keys program = All (λ query. IsKeyed keys query.expr (keys query.stream)) program.order

-- the tuples whose key is one of ours
abbrev pub with_keys : (Value → Bool) → ℕ → List TupleView → List TupleView
with_keys is_ours place tuples = filter (λ tuple. is_ours (value_at tuple place)) tuples

-- the events whose key is one of ours
abbrev pub events_with_keys : (Value → Bool) → (ℕ → ℕ) → List Event → List Event
events_with_keys is_ours keys history = filter (λ event. is_ours (value_at event.tuple (keys event.stream))) history

-- where each query keeps the key and no event starts after its detection, over the events of our keys each stream has its tuples of our keys, in their order
abbrev pub PartsByAKeyHaveTheirStreams : Type 0
PartsByAKeyHaveTheirStreams =
    (program : Program) (history : List Event) (keys : ℕ → ℕ) (is_ours : Value → Bool) → AreSound history → AreKeyed keys program
    → (stream : ℕ) → env program (events_with_keys is_ours keys history) stream ≡ with_keys is_ours (keys stream) (env program history stream)

-- where each query keeps the key and no event starts after its detection, over the events of our keys each query has its results of our keys, in their order
abbrev pub PartsByAKeyHaveTheirResults : Type 0
PartsByAKeyHaveTheirResults =
    (program : Program) (history : List Event) (keys : ℕ → ℕ) (is_ours : Value → Bool) → AreSound history → AreKeyed keys program
    → (stream time : ℕ) → results program (events_with_keys is_ours keys history) stream time ≡ with_keys is_ours (keys stream) (results program history stream time)
