-- A line gives tuples of one list of kinds.
use Rattle.std.proofs.Common.{◌≡◌, subst, List, [], ◌∷◌}
use Rattle.std.specs.Prelude.{slice_get}
use Rattle.event_types.specs.declared.kind.Kind.{Kind}
use Rattle.automaton.proofs.TypingLemmas.{event_one, hop_one, step_one}
use Rattle.automaton.specs.declared.line.Hop.{Hop}
use Rattle.automaton.specs.declared.line.Line.{Line}
use Rattle.automaton.specs.declared.step.Stage.{Stage}
use Rattle.automaton.specs.LineKinds.{LineGives, RestGives}

-- by induction on the hops
same_rest : (streams : List (List Kind)) (hops : List Hop) (last : List Stage) (kinds out other : List Kind) → RestGives streams hops last kinds out → RestGives streams hops last kinds other → out ≡ other
same_rest streams [] last kinds out other h g = step_one last kinds out other h g
same_rest streams (hop ∷ hops) last kinds out other h g =
    same_rest streams hops last g.0 out other (subst (λ (mid : List Kind). RestGives streams hops last mid out) (hop_one streams hop kinds h.0 g.0 h.1 g.1) h.2) g.2

-- a line has one list of kinds
pub same_line : (streams : List (List Kind)) (line : Line) (out other : List Kind) → LineGives streams line out → LineGives streams line other → out ≡ other
same_line streams line out other h g =
    same_rest streams line.hops line.last g.0 out other
    (subst (λ (root : List Kind). RestGives streams line.hops line.last root out) (event_one (slice_get streams line.root) h.0 g.0 h.1 g.1) h.2) g.2
