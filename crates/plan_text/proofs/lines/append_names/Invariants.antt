use Rattle.std.proofs.Common.{◌≡◌, ◌++◌, string_bytes, take}
use Rattle.plan_text.specs.Texts.{listed}
use Rattle.plan_text.proofs.lines.append_names.Given as goal

-- the names so far were put behind the text
abbrev pub invariant-loop-place : goal.invariant-loop-place
invariant-loop-place l = string_bytes l.text ≡ string_bytes l.initial.text ++ listed (take l.place l.names)
