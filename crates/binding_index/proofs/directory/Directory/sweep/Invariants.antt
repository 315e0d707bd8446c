use Rattle.std.proofs.Common.{◌≡◌, ◌++◌, drop, map, take}
use Rattle.binding_index.specs.Leads.{is_ready_at}
use Rattle.binding_index.proofs.WriteLemmas.{keeping}
use Rattle.binding_index.proofs.directory.Directory.sweep.Given as goal

abbrev pub invariant-loop-place : goal.invariant-loop-place
invariant-loop-place l =
    l.self-inside.states.entries ≡ map (keeping (λ key number. is_ready_at l.stores number key)) (take l.place l.initial.self-inside.states.entries) ++ drop l.place l.initial.self-inside.states.entries
