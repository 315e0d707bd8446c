-- What the tuples of an epoch are for a query of a program.
use Rattle.std.proofs.Common.{◌≡◌, ◌∙◌, sym, ap, ℕ, ◌<◌, ◌≤◌, ◌==◌, nat_le, true, List, ◌++◌, arith}
use Rattle.std.specs.List.{All, filter}
use Rattle.std.proofs.lemmas.Bool.Decides.{nat_tests}
use Rattle.std.proofs.lemmas.List.Elements.{All-append, All-weaker}
use Rattle.std.proofs.lemmas.List.Sorted.{IsPermutation-trans}
use Rattle.event_types.specs.Order.{sorted, tuple_cmp}
use Rattle.event_types.specs.OrderLaws.{tuple_exact, tuple_total}
use Rattle.event_types.specs.Tuple.{IsSound}
use Rattle.event_types.proofs.SortLemmas.{sort_permuted}
use Rattle.semantics.specs.Denotation.{Streams}
use Rattle.semantics.specs.Histories.{Event, heard_on, upto}
use Rattle.semantics.specs.Programs.{Program, env}
use Rattle.semantics.specs.Results.{results}
use Rattle.semantics.proofs.ReportLemmas.{filter_all}
use Rattle.scalar_expr.proofs.Bags.{filter_permuted}
use Rattle.automaton.specs.States.{Net}
use Rattle.epoch_laws.specs.BornLines.{BornLine}
use Rattle.epoch_laws.specs.Batch.{Agree}
use Rattle.epoch_laws.specs.Closing.{IsEpoch, Stores}
use Rattle.epoch_laws.specs.StoresStandFor.{Serves, StoresStandFor}
use Rattle.epoch_laws.proofs.StoresStandFor.{closed_batch}

-- a batch has the results of each query
pub batch_is_results : (net : Net) (lines : List BornLine) (order : List ℕ) (now time : ℕ) (stores : Stores) (past events : List Event) (news : Streams) (program : Program) (stream : ℕ)
    → Serves net lines order → StoresStandFor net lines order now stores past → now ≤ time → All (λ e. IsSound e.tuple × (e.tuple.at ≡ time)) events
    → IsEpoch net order stores (heard_on events) news → Agree lines order program (past ++ events) stream
    → sorted (news stream) ≡ results program (past ++ events) stream time
batch_is_results net lines order now time stores past events news program stream serves stands le new epoch agree =
    sort_permuted tuple_cmp tuple_total tuple_exact _ _
    (IsPermutation-trans _ _ _ (closed_batch net lines order now time stores past events news serves stands le new epoch stream)
    (filter_permuted (λ t. t.at == time) _ _ agree))
    ∙ ap (λ (history : List Event). sorted (filter (λ t. t.at == time) (env program history stream))) (sym whole)
  where
    fits : (at : ℕ) → at < now → nat_le at time ≡ true
    fits at h = grind (arith, nat_tests)

    fits_now : (at : ℕ) → at ≡ time → nat_le at time ≡ true
    fits_now at h = grind (arith, nat_tests)

    whole : upto time (past ++ events) ≡ past ++ events
    whole =
        filter_all (λ e. nat_le e.tuple.at time) (past ++ events)
        (All-append (λ e. nat_le e.tuple.at time ≡ true) past events
        (All-weaker (λ e. IsSound e.tuple × (e.tuple.at < now)) (λ e. nat_le e.tuple.at time ≡ true) (λ e h. fits e.tuple.at h.1) past stands.before)
        (All-weaker (λ e. IsSound e.tuple × (e.tuple.at ≡ time)) (λ e. nat_le e.tuple.at time ≡ true) (λ e h. fits_now e.tuple.at h.1) events new))
