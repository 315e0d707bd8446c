-- Kinds of streams that grow by those of hidden streams, line by line.
use Rattle.std.specs.Prelude.{◌≡◌, ◌==◌, if◌then◌else◌, List, [], ◌∷◌, ◌++◌, length, Some, slice_get}
use Rattle.event_types.specs.declared.kind.Kind.{Kind}
use Rattle.automaton.specs.declared.line.Line.{Line}
use Rattle.automaton.specs.LineKinds.{LineGives}

-- the kinds with those that a line gives, where its stream is the next
abbrev pub grown : Line → List Kind → List (List Kind) → List (List Kind)
grown line out kinds = if line.out == length kinds then kinds ++ out ∷ [] else kinds

-- each line in turn is typed over the kinds before it and gives the kinds of its stream; these are the kinds then
abbrev pub GrowInTurn : List (List Kind) → List Line → List (List Kind) → Type 0
GrowInTurn kinds [] all = kinds ≡ all
GrowInTurn kinds (line ∷ lines) all =
    (out : List Kind) × LineGives kinds line out × (slice_get (grown line out kinds) line.out ≡ Some out) × GrowInTurn (grown line out kinds) lines all
