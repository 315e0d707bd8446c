use Rattle.std.proofs.Common.{◌≡◌, [], take, filter}
use Rattle.stream_schema.specs.Joining.{is_taken}
use Rattle.stream_schema.specs.Schema.{names_of}
use Rattle.cel_types.proofs.items.first_there.Given as goal

abbrev pub invariant-loop-place : goal.invariant-loop-place
invariant-loop-place l = filter (is_taken l.made.attributes) (take l.place (names_of l.schema)) ≡ []
