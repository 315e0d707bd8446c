use Rattle.std.proofs.Common.{take, map}
use Rattle.cel_grammar.specs.Views.{column_of}
use Rattle.cel_types.specs.Declarations.{AreDistinct, attrs_of}
use Rattle.cel_types.proofs.declaring.test_names.Given as goal

-- the names so far are distinct
abbrev pub invariant-loop-place : goal.invariant-loop-place
invariant-loop-place l = AreDistinct (attrs_of (map column_of (take l.place l.attrs)))
