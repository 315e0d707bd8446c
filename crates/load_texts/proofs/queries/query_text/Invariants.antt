use Rattle.std.proofs.Common.{◌≡◌, ◌++◌, string_bytes}
use Rattle.std.specs.List.{flat_map, range_with_len}
use Rattle.load_texts.specs.QueryText.{declaration, query_line}
use Rattle.load_texts.proofs.queries.query_text.Given as goal

-- the lines of the queries so far stand behind the declaration
abbrev pub invariant-loop-place : goal.invariant-loop-place
invariant-loop-place l = string_bytes l.text ≡ declaration ++ flat_map query_line (range_with_len 0 l.place-counter)
