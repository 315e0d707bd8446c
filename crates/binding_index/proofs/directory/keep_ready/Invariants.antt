use Rattle.std.proofs.lemmas.List.Filters.{FiltersInPlace}
use Rattle.binding_index.specs.Leads.{is_ready_at}
use Rattle.binding_index.proofs.directory.keep_ready.Given as goal

abbrev pub invariant-loop-place : goal.invariant-loop-place
invariant-loop-place l = FiltersInPlace (λ number. is_ready_at l.stores number l.key) l.initial.states l.states l.kept l.place
