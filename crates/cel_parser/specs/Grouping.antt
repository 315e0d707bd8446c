-- What a parenthesis closes. No public clause cites this module.
use Rattle.std.specs.Prelude.{List}
use Rattle.cel_grammar.specs.Symbols.{Symbol}
use Rattle.cel_parser.specs.ScalarReader.{◌>>=◌, Read, close_at, done}

-- what was read, where its parenthesis closes
abbrev pub closed_at : {A : Type 0} → A → List Symbol → Read A
closed_at x ts = close_at ts >>= done x
