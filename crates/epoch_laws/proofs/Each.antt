-- What is made of each instance by itself.
use Rattle.std.proofs.Common.{◌≡◌, ◌∙◌, sym, ap, refl, ℕ, Bool, true, false, cond, List, [], ◌∷◌, ◌++◌, map, append-nil}
use Rattle.std.specs.Prelude.{Option, Some, None}
use Rattle.std.specs.Option.{option_map}
use Rattle.std.specs.List.{All, cons_option, filter, filter_map, flat_map}
use Rattle.std.specs.List.Sorted.{IsPermutation}
use Rattle.std.proofs.lemmas.List.Elements.{All-weaker}
use Rattle.std.proofs.lemmas.List.Folds.{flat_map-map}
use Rattle.std.proofs.lemmas.List.Sorted.{IsPermutation-map}
use Rattle.std.proofs.lemmas.List.{map-append}
use Rattle.event_types.specs.Tuple.{TupleView}
use Rattle.instances.specs.declared.instance.Instance.{Instance}
use Rattle.semantics.specs.Scalars.{Pr}
use Rattle.semantics.proofs.ListLemmas.{filter-map}
use Rattle.semantics.proofs.ReportLemmas.{flat_map_same}
use Rattle.scalar_expr.proofs.Bags.{permuted_from}
use Rattle.automaton.specs.Steps.{pass}
use Rattle.automaton.specs.declared.step.Stage.{Stage}
use Rattle.automaton.specs.declared.wait.Turn.{Turn}
use Rattle.semantics.specs.Births.{is_after}
use Rattle.instances.specs.Births.{began_after}
use Rattle.epoch_laws.specs.Epochs.{taken, taken_from, took}
use Rattle.epoch_laws.specs.InstanceFlow.{each}
use Rattle.epoch_laws.specs.Instances.{began, begins, bindings_of, pass_instance}
use Rattle.epoch_laws.proofs.Bags.{flat_map_alike, flat_map_parts}
use Rattle.epoch_laws.proofs.Bindings.{began_bindings}
use Rattle.epoch_laws.proofs.Lists.{every, filter-flat_map, flat_map-filter, flat_map-flat_map, map-flat_map}

-- what is made of a list of tuples
abbrev pub Made : Type 0
Made = List TupleView → List TupleView

-- what is made of a list is what is made of each of its tuples, one after the other
abbrev pub IsEach : Made → Type 0
IsEach make = (ts : List TupleView) → flat_map (λ t. make (t ∷ [])) ts ≡ make ts

-- so it is where tuples are kept or changed one by one
pub each_passes : (f : TupleView → Option TupleView) → IsEach (filter_map f)
each_passes f [] = refl
each_passes f (t ∷ ts) = go (f t) (each_passes f ts)
  where
    go : (o : Option TupleView) → flat_map (λ t. filter_map f (t ∷ [])) ts ≡ filter_map f ts → cons_option o [] ++ flat_map (λ t. filter_map f (t ∷ [])) ts ≡ cons_option o (filter_map f ts)
    go None rest = rest
    go (Some u) rest = ap (λ us. u ∷ us) rest

-- and where each gives a list
pub each_gives : (f : TupleView → List TupleView) → IsEach (flat_map f)
each_gives f ts = flat_map_same (λ t. f t ++ []) f ts (every (λ t. f t ++ [] ≡ f t) (λ t. append-nil (f t)) ts)

-- and where this is done twice
pub each_twice : (make more : Made) → IsEach make → IsEach more → IsEach (λ ts. more (make ts))
each_twice make more h g ts =
    flat_map_same (λ t. more (make (t ∷ []))) (λ t. flat_map (λ u. more (u ∷ [])) (make (t ∷ []))) ts
    (every (λ t. more (make (t ∷ [])) ≡ flat_map (λ u. more (u ∷ [])) (make (t ∷ []))) (λ t. sym (g (make (t ∷ [])))) ts)
    ∙ sym (flat_map-flat_map (λ u. more (u ∷ [])) (λ t. make (t ∷ [])) ts)
    ∙ ap (flat_map (λ u. more (u ∷ []))) (h ts)
    ∙ g (make ts)

-- the tuples of what is made
pub each_bindings : (make : Made) → IsEach make → (xs : List Instance) → bindings_of (each make xs) ≡ make (bindings_of xs)
each_bindings make h xs =
    map-flat_map (λ (i : Instance). i.tuple) (λ (i : Instance). map (began i.first) (make (i.tuple ∷ []))) xs
    ∙ flat_map_same (λ (i : Instance). bindings_of (map (began i.first) (make (i.tuple ∷ [])))) (λ (i : Instance). make (i.tuple ∷ [])) xs
    (every (λ (i : Instance). bindings_of (map (began i.first) (make (i.tuple ∷ []))) ≡ make (i.tuple ∷ [])) (λ i. began_bindings i.first (make (i.tuple ∷ []))) xs)
    ∙ sym (flat_map-map (λ t. make (t ∷ [])) (λ (i : Instance). i.tuple) xs)
    ∙ h (bindings_of xs)

-- what is made in two goes is made in one
pub each_each : (make more : Made) → IsEach more → (xs : List Instance) → each more (each make xs) ≡ each (λ ts. more (make ts)) xs
each_each make more g xs =
    flat_map-flat_map (λ (i : Instance). map (began i.first) (more (i.tuple ∷ []))) (λ (i : Instance). map (began i.first) (make (i.tuple ∷ []))) xs
    ∙ flat_map_same (λ (i : Instance). each more (map (began i.first) (make (i.tuple ∷ [])))) (λ (i : Instance). map (began i.first) (more (make (i.tuple ∷ [])))) xs
    (every (λ (i : Instance). each more (map (began i.first) (make (i.tuple ∷ []))) ≡ map (began i.first) (more (make (i.tuple ∷ [])))) one xs)
  where
    one : (i : Instance) → each more (map (began i.first) (make (i.tuple ∷ []))) ≡ map (began i.first) (more (make (i.tuple ∷ [])))
    one i =
        flat_map-map (λ (j : Instance). map (began j.first) (more (j.tuple ∷ []))) (began i.first) (make (i.tuple ∷ []))
        ∙ sym (map-flat_map (began i.first) (λ u. more (u ∷ [])) (make (i.tuple ∷ [])))
        ∙ ap (map (began i.first)) (g (make (i.tuple ∷ [])))

-- what makes the same of the tuple of each makes the same
pub each_same : (P : Instance → Type 0) (make other : Made) → ((i : Instance) → P i → make (i.tuple ∷ []) ≡ other (i.tuple ∷ [])) → (xs : List Instance) → All P xs → each make xs ≡ each other xs
each_same P make other same xs all =
    flat_map_same (λ (i : Instance). map (began i.first) (make (i.tuple ∷ []))) (λ (i : Instance). map (began i.first) (other (i.tuple ∷ []))) xs
    (All-weaker P (λ (i : Instance). map (began i.first) (make (i.tuple ∷ [])) ≡ map (began i.first) (other (i.tuple ∷ []))) (λ i h. ap (map (began i.first)) (same i h)) xs all)

-- what began at a time after the birth stays, and all else goes
began_late : (birth : Option ℕ) (first : ℕ) (ts : List TupleView) → is_after birth first ≡ true → began_after birth (map (began first) ts) ≡ map (began first) ts
began_late birth first [] e = refl
began_late birth first (t ∷ ts) e =
    ap (λ b. cond b (began first t ∷ began_after birth (map (began first) ts)) (began_after birth (map (began first) ts))) e ∙ ap (λ us. began first t ∷ us) (began_late birth first ts e)

began_early : (birth : Option ℕ) (first : ℕ) (ts : List TupleView) → is_after birth first ≡ false → began_after birth (map (began first) ts) ≡ []
began_early birth first [] e = refl
began_early birth first (t ∷ ts) e =
    ap (λ b. cond b (began first t ∷ began_after birth (map (began first) ts)) (began_after birth (map (began first) ts))) e ∙ began_early birth first ts e

-- a cut by the time of the begin may come before it or after it
pub each_after : (birth : Option ℕ) (make : Made) (xs : List Instance) → began_after birth (each make xs) ≡ each make (began_after birth xs)
each_after birth make xs =
    filter-flat_map (λ (i : Instance). is_after birth i.first) (λ (i : Instance). map (began i.first) (make (i.tuple ∷ []))) xs
    ∙ flat_map-filter (λ (i : Instance). is_after birth i.first) (λ _. Unit {0}) (λ (i : Instance). began_after birth (map (began i.first) (make (i.tuple ∷ [])))) (λ (i : Instance). map (began i.first) (make (i.tuple ∷ [])))
    (λ i _ e. began_late birth i.first (make (i.tuple ∷ [])) e) (λ i _ e. began_early birth i.first (make (i.tuple ∷ [])) e) xs (λ _ _ _. tt)

-- what makes of the tuple of each the same bag makes the same bag
pub each_alike : (P : Instance → Type 0) (make other : Made) → ((i : Instance) → P i → IsPermutation (make (i.tuple ∷ [])) (other (i.tuple ∷ []))) → (xs : List Instance) → All P xs → IsPermutation (each make xs) (each other xs)
each_alike P make other same xs all =
    flat_map_alike (λ (i : Instance). map (began i.first) (make (i.tuple ∷ []))) (λ (i : Instance). map (began i.first) (other (i.tuple ∷ []))) xs
    (All-weaker P (λ (i : Instance). IsPermutation (map (began i.first) (make (i.tuple ∷ []))) (map (began i.first) (other (i.tuple ∷ []))))
    (λ i h. IsPermutation-map (began i.first) (make (i.tuple ∷ [])) (other (i.tuple ∷ [])) (same i h)) xs all)

-- what is made in two parts
pub each_parts : (make other : Made) (xs : List Instance) → IsPermutation (each (λ ts. make ts ++ other ts) xs) (each make xs ++ each other xs)
each_parts make other xs =
    permuted_from
    (flat_map_same (λ (i : Instance). map (began i.first) (make (i.tuple ∷ []) ++ other (i.tuple ∷ []))) (λ (i : Instance). map (began i.first) (make (i.tuple ∷ [])) ++ map (began i.first) (other (i.tuple ∷ []))) xs
    (every (λ (i : Instance). map (began i.first) (make (i.tuple ∷ []) ++ other (i.tuple ∷ [])) ≡ map (began i.first) (make (i.tuple ∷ [])) ++ map (began i.first) (other (i.tuple ∷ [])))
    (λ i. map-append (began i.first) (make (i.tuple ∷ [])) (other (i.tuple ∷ []))) xs))
    (flat_map_parts (λ (i : Instance). map (began i.first) (make (i.tuple ∷ []))) (λ (i : Instance). map (began i.first) (other (i.tuple ∷ []))) xs)

-- a list is kept tuple by tuple
pub each_keeps : (test : TupleView → Bool) → IsEach (filter test)
each_keeps test [] = refl
each_keeps test (t ∷ ts) = go (test t) (each_keeps test ts)
  where
    go : (b : Bool) → flat_map (λ t. filter test (t ∷ [])) ts ≡ filter test ts → cond b (t ∷ []) [] ++ flat_map (λ t. filter test (t ∷ [])) ts ≡ cond b (t ∷ filter test ts) (filter test ts)
    go true rest = ap (λ us. t ∷ us) rest
    go false rest = rest

-- what is kept of each instance are the instances whose tuples are kept
pub each_kept : (test : TupleView → Bool) (xs : List Instance) → each (filter test) xs ≡ filter (λ (i : Instance). test i.tuple) xs
each_kept test [] = refl
each_kept test (i ∷ xs) = go (test i.tuple) (each_kept test xs)
  where
    go : (b : Bool) → each (filter test) xs ≡ filter (λ (i : Instance). test i.tuple) xs
        → map (began i.first) (cond b (i.tuple ∷ []) []) ++ each (filter test) xs ≡ cond b (i ∷ filter (λ (i : Instance). test i.tuple) xs) (filter (λ (i : Instance). test i.tuple) xs)
    go true rest = ap (λ us. i ∷ us) rest
    go false rest = rest

-- of tuples that begin, what is kept begins
pub each_begins : (test : TupleView → Bool) (ts : List TupleView) → each (filter test) (map begins ts) ≡ map begins (filter test ts)
each_begins test ts = each_kept test (map begins ts) ∙ filter-map (λ (i : Instance). test i.tuple) begins ts

-- what passes a step of each are the instances that pass it
pub each_passing : (step : List Stage) (xs : List Instance) → each (filter_map (pass step)) xs ≡ filter_map (pass_instance step) xs
each_passing step [] = refl
each_passing step (i ∷ xs) = go (pass step i.tuple) (each_passing step xs)
  where
    go : (o : Option TupleView) → each (filter_map (pass step)) xs ≡ filter_map (pass_instance step) xs
        → map (began i.first) (cons_option o []) ++ each (filter_map (pass step)) xs ≡ cons_option (option_map (began i.first) o) (filter_map (pass_instance step) xs)
    go None rest = rest
    go (Some u) rest = ap (λ us. began i.first u ∷ us) rest

-- what is taken from each is what all give
pub each_took : (p : List Pr) (turn : Option Turn) (new : List TupleView) (xs : List Instance) → each (flat_map (taken p turn new)) xs ≡ took p turn new xs
each_took p turn new xs =
    flat_map_same (λ (i : Instance). map (began i.first) (taken p turn new i.tuple ++ [])) (taken_from p turn new) xs
    (every (λ (i : Instance). map (began i.first) (taken p turn new i.tuple ++ []) ≡ taken_from p turn new i) (λ i. ap (map (began i.first)) (append-nil (taken p turn new i.tuple))) xs)

-- what holds no bindings is empty
pub no_bindings : (xs : List Instance) → bindings_of xs ≡ [] → xs ≡ []
no_bindings [] e = refl
no_bindings (i ∷ xs) e = absurd (cc)
