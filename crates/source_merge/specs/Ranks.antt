-- The order of the events of several files: by detection time, then by file, then by place.
use Rattle.std.specs.Prelude.{⊤, ◌≤◌, List, [], ◌∷◌}
use Rattle.std.specs.Ordering.{nat_cmp, on, then_cmp}
use Rattle.std.specs.declared.cmp.Ordering.{Ordering}
use Rattle.std.specs.Cmp.{IsTotalOrder}
use Rattle.std.specs.List.{All}
use Rattle.std.proofs.lemmas.Cmp.{on_total, then_total, nat_cmp_total}
use Rattle.event_types.specs.Order.{sort_by}
use Rattle.event_csv.specs.declared.event.Seen.{Seen}
use Rattle.source_merge.specs.declared.rank.Rank.{Rank}

-- by detection time, then by file, then by place
abbrev pub rank_cmp : Rank → Rank → Ordering
rank_cmp = then_cmp (on (λ r. r.at) nat_cmp) (then_cmp (on (λ r. r.file) nat_cmp) (on (λ r. r.place) nat_cmp))

-- it is total; impls of the order cite this
pub rank_total : IsTotalOrder rank_cmp
rank_total = then_total (on_total (λ r. r.at) nat_cmp_total) (then_total (on_total (λ r. r.file) nat_cmp_total) (on_total (λ r. r.place) nat_cmp_total))

-- an event that was taken, and where it stands
abbrev pub Taken : Type 0
Taken = Rank × Seen

-- the order of events that were taken
abbrev pub taken_cmp : Taken → Taken → Ordering
taken_cmp = on (λ t. t.0) rank_cmp

-- the events in their order, each as often as it stands
abbrev pub in_order : List Taken → List Taken
in_order taken = sort_by taken_cmp taken

-- the detection times never fall
abbrev pub NeverFall : List Taken → Type 0
NeverFall [] = ⊤
NeverFall (t ∷ more) = All (λ u. t.0.at ≤ u.0.at) more × NeverFall more
