-- What leaves a wait, gone through tuple by tuple or instance by instance.
use Rattle.std.proofs.Common.{◌≡◌, ◌∙◌, sym, ap, List, [], ◌∷◌, map}
use Rattle.std.specs.Prelude.{Option, Some, None, if◌then◌else◌}
use Rattle.std.specs.List.{filter, flat_map}
use Rattle.std.specs.List.Sorted.{IsPermutation}
use Rattle.std.proofs.lemmas.List.Concat.{flat_map_single}
use Rattle.event_types.specs.Tuple.{TupleView}
use Rattle.instances.specs.declared.instance.Instance.{Instance}
use Rattle.semantics.specs.Denotation.{joined}
use Rattle.semantics.specs.Nexts.{is_eligible}
use Rattle.semantics.specs.Runs.{rebound}
use Rattle.semantics.specs.Scalars.{Pr}
use Rattle.semantics.specs.Truth.{all_true}
use Rattle.semantics.proofs.ReportLemmas.{flat_map_same}
use Rattle.scalar_expr.proofs.Bags.{permuted_to}
use Rattle.automaton.specs.declared.wait.Turn.{Turn}
use Rattle.automaton.specs.declared.wait.Wait.{Wait}
use Rattle.epoch_laws.specs.Epochs.{taken, taken_from, took}
use Rattle.epoch_laws.specs.Instances.{began}
use Rattle.epoch_laws.proofs.Lists.{every, map-flat_map}
use Rattle.epoch_draft.specs.Pairs.{followed, met, paired, paired_with}
use Rattle.epoch_draft.proofs.Concats.{pairs_turned, tested_of}

-- what a binding gives, tuple by tuple
taken_by_tuples : (choose : List Pr) (turn : Option Turn) (tuples : List TupleView) (b : TupleView) → flat_map (λ t. if is_eligible choose b t then followed turn b t else []) tuples ≡ taken choose turn tuples b
taken_by_tuples choose None tuples b = tested_of (is_eligible choose b) (followed None b) tuples ∙ flat_map_single (joined b) (filter (is_eligible choose b) tuples)
taken_by_tuples choose (Some turn) tuples b =
    tested_of (is_eligible choose b) (followed (Some turn) b) tuples
    ∙ tested_of (λ t. all_true turn.on t (Some b)) (λ t. rebound turn.set.parts b t ∷ []) (filter (is_eligible choose b) tuples)
    ∙ flat_map_single (rebound turn.set.parts b) (filter (λ t. all_true turn.on t (Some b)) (filter (is_eligible choose b) tuples))

-- what an instance gives, tuple by tuple
taken_from_tuples : (w : Wait) (tuples : List TupleView) (i : Instance) → flat_map (λ t. paired_with w t i) tuples ≡ taken_from w.choose w.fold tuples i
taken_from_tuples w tuples i = sym (map-flat_map (began i.first) (paired w i.tuple) tuples) ∙ ap (map (began i.first)) (taken_by_tuples w.choose w.fold tuples i.tuple)

-- what the tuples make of the instances is what leaves the wait
pub met_took : (w : Wait) (store : List Instance) (tuples : List TupleView) → IsPermutation (flat_map (met w store) tuples) (took w.choose w.fold tuples store)
met_took w store tuples =
    permuted_to (pairs_turned (paired_with w) tuples store)
    (flat_map_same (λ (i : Instance). flat_map (λ t. paired_with w t i) tuples) (taken_from w.choose w.fold tuples) store
    (every (λ (i : Instance). flat_map (λ t. paired_with w t i) tuples ≡ taken_from w.choose w.fold tuples i) (taken_from_tuples w tuples) store))
