-- Each tuple that is denoted starts no later than it is detected.
use Rattle.std.proofs.Common.{ℕ, zero, suc, ◌<◌, ◌≤◌, length, List, ◌∷◌, arith}
use Rattle.std.specs.Prelude.{None, Some}
use Rattle.std.specs.List.{All}
use Rattle.std.proofs.lemmas.List.Elements.{All-filter, All-map, All-append, All-nil, All-cons, All-weaker}
use Rattle.event_types.specs.Tuple.{TupleView, IsSound}
use Rattle.semantics.specs.Scalars.{Sc, Pr}
use Rattle.semantics.specs.Truth.{all_true}
use Rattle.semantics.specs.Nexts.{nexts}
use Rattle.semantics.specs.Runs.{goers, rebound, runs_within}
use Rattle.semantics.specs.Expressions.{Ex, Read, Filter, Select, Union, Next, Fold}
use Rattle.semantics.specs.Denotation.{Streams, denote, selected, joined, matches}
use Rattle.scalar_expr.proofs.NextsLemmas.{nexts_start_later, nexts_keep}
use Rattle.semantics.proofs.ListLemmas.{All-flat_map}

-- a next of a sound binding, of a sound list, starts after it and is sound
after_sound : (p : List Pr) (b : TupleView) (rs : List TupleView) → All IsSound rs → All (λ r. (b.at < r.from) × IsSound r) (nexts p b rs)
after_sound p b rs all = λ k d lt. (nexts_start_later p b rs k d lt, nexts_keep IsSound p b rs all k d lt)

-- the matches of a sound tuple are sound
matches_sound : (p : List Pr) (rs : List TupleView) → All IsSound rs → (l : TupleView) → IsSound l → All IsSound (matches p rs l)
matches_sound p rs all l sound =
    All-map IsSound (joined l) (nexts p l rs) (All-weaker (λ r. (l.at < r.from) × IsSound r) (λ r. IsSound (joined l r)) (λ r h. join_sound r h.0 h.1) (nexts p l rs) (after_sound p l rs all))
  where
    join_sound : (r : TupleView) → l.at < r.from → r.from ≤ r.at → l.from ≤ r.at
    join_sound r after h = omega (arith, sound)

-- so are the runs from one: by induction on their length
runs_sound : (n : ℕ) (p q : List Pr) (m : List Sc) (rs : List TupleView) → All IsSound rs → (b : TupleView) → IsSound b → All IsSound (runs_within n p q m rs b)
runs_sound zero p q m rs all b sound = All-nil IsSound
runs_sound (suc n) p q m rs all b sound =
    All-flat_map IsSound (λ r. rebound m b r ∷ runs_within n p q m rs (rebound m b r)) (goers p q rs b)
    (All-weaker (λ r. (b.at < r.from) × IsSound r) (λ r. All IsSound (rebound m b r ∷ runs_within n p q m rs (rebound m b r)))
    (λ r h. let one : b.from ≤ r.at = step r h.0 h.1 in All-cons IsSound (rebound m b r) (runs_within n p q m rs (rebound m b r)) one (runs_sound n p q m rs all (rebound m b r) one))
    (goers p q rs b) (All-filter (λ r. all_true q r (Some b)) (λ r. (b.at < r.from) × IsSound r) (nexts p b rs) (after_sound p b rs all)))
  where
    step : (r : TupleView) → b.at < r.from → r.from ≤ r.at → b.from ≤ r.at
    step r after h = omega (arith, sound)

-- so is all that an expression denotes over sound streams
pub denote_sound : (env : Streams) → ((s : ℕ) → All IsSound (env s)) → (e : Ex) → All IsSound (denote e env)
denote_sound env all (Read s) = all s
denote_sound env all (Filter p e) = All-filter (λ t. all_true p t None) IsSound (denote e env) (denote_sound env all e)
denote_sound env all (Select m e) = All-map IsSound (selected m.parts) (denote e env) (denote_sound env all e)
denote_sound env all (Union e f) = All-append IsSound (denote e env) (denote f env) (denote_sound env all e) (denote_sound env all f)
denote_sound env all (Next p e f) =
    All-flat_map IsSound (matches p (denote f env)) (denote e env)
    (All-weaker IsSound (λ l. All IsSound (matches p (denote f env) l)) (matches_sound p (denote f env) (denote_sound env all f)) (denote e env) (denote_sound env all e))
denote_sound env all (Fold p q m e f) =
    All-flat_map IsSound (runs_within (length (denote f env)) p q m.parts (denote f env)) (denote e env)
    (All-weaker IsSound (λ l. All IsSound (runs_within (length (denote f env)) p q m.parts (denote f env) l)) (runs_sound (length (denote f env)) p q m.parts (denote f env) (denote_sound env all f)) (denote e env) (denote_sound env all e))
