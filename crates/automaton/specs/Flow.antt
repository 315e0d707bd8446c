-- What flows along prefixes and lines over streams.
use Rattle.std.specs.Prelude.{ℕ, ◌==◌, List}
use Rattle.std.specs.List.{filter, filter_map, flat_map}
use Rattle.event_types.specs.Tuple.{TupleView}
use Rattle.semantics.specs.Denotation.{Streams}
use Rattle.automaton.specs.declared.line.Hop.{Hop}
use Rattle.automaton.specs.declared.line.Line.{Line}
use Rattle.automaton.specs.Prefixes.{Prefix, Root, After, path}
use Rattle.automaton.specs.Steps.{pass}
use Rattle.automaton.specs.Waits.{chosen}

-- the tuples that enter a hop's wait, of those that come to its step
abbrev pub entering : Hop → List TupleView → List TupleView
entering hop tuples = filter_map (pass hop.step) tuples

-- the tuples that leave a hop's wait, of those that come to its step
abbrev pub leaving : Hop → Streams → List TupleView → List TupleView
leaving hop streams tuples = chosen hop.wait.choose hop.wait.fold (streams hop.wait.stream) (entering hop tuples)

-- the tuples that flow out of the state of a prefix
abbrev pub flow : Streams → Prefix → List TupleView
flow streams (Root stream) = streams stream
flow streams (After prefix hop) = leaving hop streams (flow streams prefix)

-- what a line gives: the tuples that pass its last step
abbrev pub given : Streams → Line → List TupleView
given streams line = filter_map (pass line.last) (flow streams (path line))

-- what all lines give that publish a stream, one after the other in their order
abbrev pub derived : List Line → Streams → ℕ → List TupleView
derived lines streams stream = flat_map (given streams) (filter (λ line. line.out == stream) lines)
