use Rattle.std.proofs.Common.{◌≡◌, take, map}
use Rattle.cel_grammar.specs.Views.{column_of}
use Rattle.cel_types.specs.Declarations.{attrs_of}
use Rattle.cel_types.proofs.declaring.with_all.Given as goal

-- the attributes so far stand in the schema
abbrev pub invariant-loop-attr : goal.invariant-loop-attr
invariant-loop-attr l = l.schema ≡ attrs_of (map column_of (take l.attr-index l.attrs))
