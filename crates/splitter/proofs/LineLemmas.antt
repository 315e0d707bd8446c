-- Lines that are typed over more streams, and behind one more hop.
use Rattle.std.proofs.Common.{◌≡◌, refl, ℕ, zero, suc, length, List, [], ◌∷◌, ◌++◌}
use Rattle.std.specs.Prelude.{Some, slice_get}
use Rattle.event_types.specs.declared.kind.Kind.{Kind}
use Rattle.automaton.specs.declared.line.Hop.{Hop}
use Rattle.automaton.specs.declared.step.Stage.{Stage}
use Rattle.automaton.specs.declared.wait.Wait.{Wait}
use Rattle.automaton.specs.LineKinds.{RestGives, StepGives, WaitGives}
use Rattle.splitter.specs.declared.open.Open.{Open}
use Rattle.splitter.specs.Splitting.{with_hop}

-- a stream keeps its kinds where others come behind
pub get_more : {X : Type 0} (xs more : List X) (place : ℕ) (x : X) → slice_get xs place ≡ Some x → slice_get (xs ++ more) place ≡ Some x
get_more [] more place x e = cc
get_more (y ∷ xs) more zero x e = e
get_more (y ∷ xs) more (suc place) x e = get_more xs more place x e

-- the next stream has the kinds that come behind
pub get_next : {X : Type 0} (xs : List X) (x : X) (more : List X) → slice_get (xs ++ x ∷ more) (length xs) ≡ Some x
get_next [] x more = refl
get_next (y ∷ xs) x more = get_next xs x more

-- the open line is typed over streams of these kinds, and what leaves its last step has those
abbrev pub OpenGives : List (List Kind) → List Kind → Open → Type 0
OpenGives streams out line = (root : List Kind) × (slice_get streams line.root ≡ Some root) × RestGives streams line.hops line.last root out

module _ (streams more : List (List Kind)) where
  rest_more : (hops : List Hop) (last : List Stage) (kinds out : List Kind) → RestGives streams hops last kinds out → RestGives (streams ++ more) hops last kinds out
  rest_more [] last kinds out h = h
  rest_more (hop ∷ hops) last kinds out h = (
    h.0,
    (h.1.0, h.1.1, h.1.2, get_more streams more hop.wait.stream h.1.1 h.1.3, h.1.4),
    rest_more hops last h.0 out h.2,
  )

  -- an open line gives the same over more streams
  pub open_more : (out : List Kind) (line : Open) → OpenGives streams out line → OpenGives (streams ++ more) out line
  open_more out line h = (h.0, get_more streams more line.root h.0 h.1, rest_more line.hops line.last h.0 out h.2)

-- another last step
pub rest_last : (streams : List (List Kind)) (last other : List Stage) (mid out : List Kind) → ((kinds : List Kind) → StepGives last kinds mid → StepGives other kinds out)
    → (hops : List Hop) (kinds : List Kind) → RestGives streams hops last kinds mid → RestGives streams hops other kinds out
rest_last streams last other mid out gives [] kinds h = gives kinds h
rest_last streams last other mid out gives (hop ∷ hops) kinds h = (h.0, h.1, rest_last streams last other mid out gives hops h.0 h.2)

-- one more hop
module _ (streams : List (List Kind)) (wait : Wait) (binding event out : List Kind) (there : slice_get streams wait.stream ≡ Some event) (gives : WaitGives wait binding event out) where
  rest_hop : (last : List Stage) (hops : List Hop) (kinds : List Kind) → RestGives streams hops last kinds binding → RestGives streams (hops ++ record { step = last; wait = wait } ∷ []) [] kinds out
  rest_hop last [] kinds h = (out, (binding, event, h, there, gives), refl)
  rest_hop last (hop ∷ hops) kinds h = (h.0, h.1, rest_hop last hops h.0 h.2)

  -- a hop behind an open line gives what its turn gives
  pub open_hop : (line : Open) → OpenGives streams binding line → OpenGives streams out (with_hop wait line)
  open_hop line h = (h.0, h.1, rest_hop line.last line.hops h.0 h.2)
