-- Iterations that go on, and the runs that are still to be added.
use Rattle.std.proofs.Common.{◌≡◌, ◌∙◌, sym, ap, refl, subst, ℕ, zero, suc, ◌<◌, ◌-◌, length, List, [], ◌∷◌, ◌++◌, append-nil, append_assoc, map, arith}
use Rattle.std.proofs.lemmas.Grind.{flat_map-append}
use Rattle.std.proofs.lemmas.List.{map-append}
use Rattle.std.specs.List.{flat_map}
use Rattle.std.proofs.lemmas.Simd.{map-map}
use Rattle.event_types.specs.Tuple.{TupleView}
use Rattle.semantics.specs.Scalars.{Sc, Pr}
use Rattle.semantics.specs.Runs.{rebound}
use Rattle.algebra.specs.Suits.{SuitsRuns}
use Rattle.algebra.proofs.FoldLemmas.{SuitsBranch}
use Rattle.derivations.specs.Derivation.{Derivation}
use Rattle.derivations.specs.DerivedTuples.{DerivedTuple, Run, begun_by, derived_fold, derived_goers, derived_runs_within, tuples_in}
use Rattle.derivations.specs.Folds.{IsFurther, IsSuited, behind, run_of, runs_behind, runs_left}
use Rattle.derivations.specs.Views.{derivation_of}
use Rattle.derivations.specs.declared.iteration.Going.{Going}
use Rattle.derivations.proofs.ListLemmas.{map_same}

-- the runs that begin with an event
abbrev pub branch : ℕ → List Pr → List Pr → List Sc → List DerivedTuple → TupleView → DerivedTuple → List Run
branch most p q m found b x = record { tuple = rebound m b x.tuple; events = x.by ∷ [] } ∷ map (begun_by x.by) (derived_runs_within most p q m found (rebound m b x.tuple))

-- the runs of some events are the branches of the goers
pub within-some : (n : ℕ) (p q : List Pr) (m : List Sc) (found : List DerivedTuple) (b : TupleView) → 0 < n → derived_runs_within n p q m found b ≡ flat_map (branch (n - 1) p q m found b) (derived_goers p q found b)
within-some zero p q m found b lt = absurd (omega arith)
within-some (suc n) p q m found b lt = let e : n ≡ suc n - 1 = omega arith in ap (λ k. flat_map (branch k p q m found b) (derived_goers p q found b)) e

module _ (p q : List Pr) (m : List Sc) (found : List DerivedTuple) where
  -- an iteration's own run, and those with which it goes on
  abbrev pub runs_of : Going → List Run
  runs_of going = run_of going ∷ runs_behind p q m found going

  -- the branches of some events, behind those of an iteration
  abbrev pub branches : Going → List DerivedTuple → List Run
  branches going items = map (behind (map derivation_of going.events)) (flat_map (branch (going.most - 1) p q m found going.binding) items)

  -- the runs of an iteration with one event more are the branch of this event, behind the events before
  further_runs : (going made : Going) (x : DerivedTuple) → IsFurther m going x made → runs_of made ≡ map (behind (map derivation_of going.events)) (branch (going.most - 1) p q m found going.binding x)
  further_runs going made x is =
      (λ j. record { tuple = is.binding j; events = is.events j } ∷ map (behind (is.events j)) (derived_runs_within (is.most j) p q m found (is.binding j)))
      ∙ ap (λ runs. record { tuple = rebound m going.binding x.tuple; events = events ++ x.by ∷ [] } ∷ runs) (sym rest)
    where
      events : List Derivation
      events = map derivation_of going.events

      later : List Run
      later = derived_runs_within (going.most - 1) p q m found (rebound m going.binding x.tuple)

      rest : map (behind events) (map (begun_by x.by) later) ≡ map (behind (events ++ x.by ∷ [])) later
      rest =
          map-map (behind events) (begun_by x.by) later
          ∙ map_same (λ (run : Run). behind events (begun_by x.by run)) (behind (events ++ x.by ∷ []))
          (λ run. ap (λ es. record { tuple = run.tuple; events = es }) (sym (append_assoc events (x.by ∷ []) run.events))) later

  -- the last iteration comes first
  pub runs_left-push : (goings : List Going) (going : Going) → runs_left p q m found (goings ++ going ∷ []) ≡ runs_of going ++ runs_left p q m found goings
  runs_left-push [] going = sym (append-nil (runs_of going))
  runs_left-push (first ∷ goings) going =
      ap (λ runs. runs ++ runs_of first) (runs_left-push goings going) ∙ append_assoc (runs_of going) (runs_left p q m found goings) (runs_of first)

  -- the last event's branch was put before the runs that are left
  pub branch_step : (going made : Going) (x : DerivedTuple) (items rest : List DerivedTuple) (left next : List Going) (all : List Run)
      → items ≡ rest ++ x ∷ [] → IsFurther m going x made → next ≡ left ++ made ∷ []
      → branches going items ++ runs_left p q m found left ≡ all → branches going rest ++ runs_left p q m found next ≡ all
  branch_step going made x items rest left next all split is longer so =
      ap (λ runs. branches going rest ++ runs) (ap (runs_left p q m found) longer ∙ runs_left-push left made ∙ ap (λ runs. runs ++ runs_left p q m found left) (further_runs going made x is))
      ∙ sym (append_assoc (branches going rest) (map (behind events) one) (runs_left p q m found left))
      ∙ ap (λ runs. runs ++ runs_left p q m found left) (sym parts ∙ ap (branches going) (sym split)) ∙ so
    where
      events : List Derivation
      events = map derivation_of going.events

      one : List Run
      one = branch (going.most - 1) p q m found going.binding x

      parts : branches going (rest ++ x ∷ []) ≡ branches going rest ++ map (behind events) one
      parts =
          ap (map (behind events)) (flat_map-append (branch (going.most - 1) p q m found going.binding) rest (x ∷ []))
          ∙ map-append (behind events) (flat_map (branch (going.most - 1) p q m found going.binding) rest) (one ++ [])
          ∙ ap (λ runs. branches going rest ++ map (behind events) runs) (append-nil one)

  -- the runs behind an iteration are its branches, and without more events there are none
  pub behind_branches : (going : Going) (goers : List DerivedTuple) → 0 < going.most → goers ≡ derived_goers p q found going.binding → branches going goers ≡ runs_behind p q m found going
  behind_branches going goers some is =
      ap (branches going) is ∙ sym (ap (map (behind (map derivation_of going.events))) (within-some going.most p q m found going.binding some))

  pub none_behind : (going : Going) → going.most ≡ 0 → runs_behind p q m found going ≡ []
  none_behind going none = ap (λ n. map (behind (map derivation_of going.events)) (derived_runs_within n p q m found going.binding)) none

  -- what suits a branch suits the iteration with its event
  pub further_suits : (going made : Going) (x : DerivedTuple) → IsFurther m going x made → SuitsBranch (going.most - 1) p q m (tuples_in found) going.binding x.tuple → IsSuited p q m found made
  further_suits going made x is suits = subst (λ (n : ℕ). SuitsRuns n p q m (tuples_in found) made.binding) (sym is.most) (subst (λ (b : TupleView). SuitsRuns (going.most - 1) p q m (tuples_in found) b) (sym is.binding) suits.1)

  -- the last iteration's own run was added, and those with which it goes on are left
  pub own_step : (first : Derivation) (going : Going) (made : DerivedTuple) (goings rest next : List Going) (out longer all : List DerivedTuple)
      → goings ≡ rest ++ going ∷ [] → runs_left p q m found next ≡ runs_behind p q m found going ++ runs_left p q m found rest → made ≡ derived_fold first (run_of going) → longer ≡ out ++ made ∷ []
      → out ++ map (derived_fold first) (runs_left p q m found goings) ≡ all → longer ++ map (derived_fold first) (runs_left p q m found next) ≡ all
  own_step first going made goings rest next out longer all split more is one so =
      ap (λ xs. xs ++ map (derived_fold first) (runs_left p q m found next)) one ∙ append_assoc out (made ∷ []) (map (derived_fold first) (runs_left p q m found next))
      ∙ (λ j. out ++ is j ∷ map (derived_fold first) (more j))
      ∙ ap (λ runs. out ++ map (derived_fold first) runs) (sym (ap (runs_left p q m found) split ∙ runs_left-push rest going)) ∙ so

  -- so there is one run less
  pub one_less : (going : Going) (goings rest next : List Going) → goings ≡ rest ++ going ∷ [] → runs_left p q m found next ≡ runs_behind p q m found going ++ runs_left p q m found rest
      → length (runs_left p q m found next) < length (runs_left p q m found goings)
  one_less going goings rest next split more =
      let longer : length (runs_left p q m found goings) ≡ suc (length (runs_left p q m found next)) = ap length (ap (runs_left p q m found) split ∙ runs_left-push rest going ∙ ap (λ runs. run_of going ∷ runs) (sym more)) in omega (arith, longer)

  -- before its first event, an iteration goes on with all runs
  pub started_runs : (start : Going) (b : TupleView) → map derivation_of start.events ≡ [] → start.binding ≡ b → start.most ≡ length found → runs_behind p q m found start ≡ derived_runs_within (length found) p q m found b
  started_runs start b none is most = (λ j. map (behind (none j)) (derived_runs_within (most j) p q m found (is j))) ∙ behind_none (derived_runs_within (length found) p q m found b)
    where
      behind_none : (runs : List Run) → map (behind []) runs ≡ runs
      behind_none [] = refl
      behind_none (run ∷ runs) = ap (λ others. run ∷ others) (behind_none runs)

  -- at first these are left
  pub own_init : (first : Derivation) (b : TupleView) (start : Going) (none left : List Going) (out : List DerivedTuple)
      → map derivation_of start.events ≡ [] → start.binding ≡ b → start.most ≡ length found → none ≡ [] → runs_left p q m found left ≡ runs_behind p q m found start ++ runs_left p q m found none
      → out ++ map (derived_fold first) (runs_left p q m found left) ≡ out ++ map (derived_fold first) (derived_runs_within (length found) p q m found b)
  own_init first b start none left out no_event is most empty more =
      ap (λ runs. out ++ map (derived_fold first) runs)
      (more ∙ (λ j. started_runs start b no_event is most j ++ runs_left p q m found (empty j)) ∙ append-nil (derived_runs_within (length found) p q m found b))

  -- and in the end, where none is left, all were added
  pub none_left : (first : Derivation) (left : List Going) (out all : List DerivedTuple) → (0 < length left → ⊥) → out ++ map (derived_fold first) (runs_left p q m found left) ≡ all → out ≡ all
  none_left first [] out all none so = sym (append-nil out) ∙ so
  none_left first (going ∷ left) out all none so = absurd (none (omega arith))
