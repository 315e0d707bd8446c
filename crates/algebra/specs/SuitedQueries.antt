-- What a caller has to see to before the queries of a program are evaluated in turn.
use Rattle.std.specs.Prelude.{⊤, List, [], ◌∷◌}
use Rattle.semantics.specs.Births.{streams_after}
use Rattle.semantics.specs.Denotation.{Streams, denote}
use Rattle.semantics.specs.Programs.{Query, with_stream}
use Rattle.algebra.specs.Suits.{Suits}

-- each query in turn may be evaluated over the streams before it, cut at its birth
abbrev pub SuitInTurn : Streams → List Query → Type 0
SuitInTurn streams [] = ⊤
SuitInTurn streams (query ∷ order) =
    let cut = streams_after query.birth streams in Suits query.expr query.stream cut × SuitInTurn (with_stream streams query.stream (denote query.expr cut)) order
