use Rattle.std.proofs.Common.{◌≡◌, ◌++◌, string_bytes, map, take}
use Rattle.plan_text.specs.Texts.{attribute_text, listed}
use Rattle.plan_text.proofs.lines.append_schema.Given as goal

-- the attributes so far were put behind the parenthesis
abbrev pub invariant-loop-place : goal.invariant-loop-place
invariant-loop-place l = string_bytes l.text ≡ string_bytes l.initial.text ++ listed (take l.place (map attribute_text l.schema))
