use Rattle.std.proofs.Common.{◌≡◌, string_bytes, take}
use Rattle.std.specs.List.{flat_map}
use Rattle.catalogue.specs.Holding.{judged_in}
use Rattle.plan_text.specs.Plan.{plan_line_at}
use Rattle.plan_text.proofs.planning.plan.Given as goal

-- the lines of the queries so far
abbrev pub invariant-loop-place : goal.invariant-loop-place
invariant-loop-place l = string_bytes l.text ≡ flat_map (plan_line_at (judged_in l.catalogue)) (take l.place (judged_in l.catalogue).order)
