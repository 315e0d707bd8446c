-- The kinds of what leaves stages, steps and hops.
use Rattle.std.proofs.Common.{◌≡◌, ◌∙◌, sym, refl, subst, ℕ, ◌+◌, ◌<◌, ◌≤◌, length, get_or, drop, add-one, List, [], ◌∷◌, map}
use Rattle.std.specs.Prelude.{Option, Some, None, slice_get}
use Rattle.std.specs.List.{All}
use Rattle.std.proofs.Math.Seq.{drop-cons}
use Rattle.std.proofs.lemmas.List.{drop_all}
use Rattle.std.proofs.lemmas.List.Elements.{All-nil, All-cons}
use Rattle.event_types.specs.declared.kind.Kind.{Kind}
use Rattle.semantics.specs.Scalars.{Sc}
use Rattle.semantics.specs.Typing.{AreOfKinds, AreTyped}
use Rattle.scalar_expr.specs.Kinds.{HasPlace, sc_kind}
use Rattle.scalar_expr.proofs.KindLemmas.{typed_has_its_kind}
use Rattle.automaton.specs.declared.line.Hop.{Hop}
use Rattle.automaton.specs.declared.line.Line.{Line}
use Rattle.automaton.specs.declared.step.Stage.{Stage}
use Rattle.automaton.specs.declared.step.Stage.TheVariants.{Keep, Make}
use Rattle.automaton.specs.declared.wait.Turn.{Turn}
use Rattle.automaton.specs.LineKinds.{StageGives, StepGives, TurnGives, HopGives, RestGives, LineGives}

-- scalars have one list of kinds
pub kinds_are : (parts : List Sc) (event : List Kind) (binding : Option (List Kind)) (out : List Kind) → AreOfKinds parts event binding out → out ≡ map (λ s. sc_kind s event binding) parts
kinds_are [] event binding [] h = refl
kinds_are [] event binding (k ∷ out) h = absurd h
kinds_are (s ∷ parts) event binding [] h = absurd h
kinds_are (s ∷ parts) event binding (k ∷ out) h = λ i. sym ((typed_has_its_kind s event binding k h.0).1) i ∷ kinds_are parts event binding out h.1 i

-- and read places that are there
pub have_places : (parts : List Sc) (event : List Kind) (binding : Option (List Kind)) (out : List Kind) → AreOfKinds parts event binding out → All (λ s. HasPlace s event binding) parts
have_places [] event binding out h = All-nil _
have_places (s ∷ parts) event binding [] h = absurd h
have_places (s ∷ parts) event binding (k ∷ out) h =
    All-cons (λ s. HasPlace s event binding) s parts (typed_has_its_kind s event binding k h.0).0 (have_places parts event binding out h.1)

-- a stage gives tuples of one list of kinds
stage_one : (stage : Stage) (kinds out other : List Kind) → StageGives stage kinds out → StageGives stage kinds other → out ≡ other
stage_one (Keep condition) kinds out other h g = sym h.1 ∙ g.1
stage_one (Make m) kinds out other h g = kinds_are m.parts kinds None out h ∙ sym (kinds_are m.parts kinds None other g)

-- so does a step
pub step_one : (step : List Stage) (kinds out other : List Kind) → StepGives step kinds out → StepGives step kinds other → out ≡ other
step_one [] kinds out other h g = sym h ∙ g
step_one (stage ∷ step) kinds out other h g =
    let same = stage_one stage kinds h.0 g.0 h.1 g.1 in
    step_one step g.0 out other (subst (λ (mid : List Kind). StepGives step mid out) same h.2) g.2

-- so does a rebind edge
turn_one : (turn : Option Turn) (binding event out other : List Kind) → TurnGives turn binding event out → TurnGives turn binding event other → out ≡ other
turn_one None binding event out other h g = sym h ∙ g
turn_one (Some turn) binding event out other h g = sym h.2 ∙ g.2

-- a stream has one list of kinds
pub event_one : (events : Option (List Kind)) (event other : List Kind) → events ≡ Some event → events ≡ Some other → event ≡ other
event_one events event other h g = cc

-- so does a hop
pub hop_one : (streams : List (List Kind)) (hop : Hop) (kinds out other : List Kind) → HopGives streams hop kinds out → HopGives streams hop kinds other → out ≡ other
hop_one streams hop kinds out other h g =
    let binding = step_one hop.step kinds h.0 g.0 h.2 g.2 in
    let event = event_one (slice_get streams hop.wait.stream) h.1 g.1 h.3 g.3 in
    turn_one hop.wait.fold g.0 g.1 out other (subst (λ (s : List Kind × List Kind). TurnGives hop.wait.fold s.0 s.1 out) (λ i. (binding i, event i)) h.4.1) g.4.1

-- some stages lead from the first kinds to these, over which the rest of the step is typed
pub record StepLeads (first : List Kind) (step : List Stage) (index : ℕ) (kinds : List Kind) : Type 0 where
  pub rest : (out : List Kind) × StepGives (drop index step) kinds out
  pub whole : (out : List Kind) → StepGives (drop index step) kinds out → StepGives step first out

-- none lead there at first
pub step_leads : (first : List Kind) (step : List Stage) → ((out : List Kind) × StepGives step first out) → StepLeads first step 0 first
step_leads first step h = record { rest = h; whole = λ out g. g }

module _ (first : List Kind) (step : List Stage) (index : ℕ) (kinds : List Kind) (stage : Stage) (inside : index < length step) (is : stage ≡ get_or step index stage) (leads : StepLeads first step index kinds) where
  next_stage : drop index step ≡ stage ∷ drop (index + 1) step
  next_stage = drop-cons step index stage inside ∙ (λ i. sym is i ∷ drop (sym (add-one index) i) step)

  -- the next stage is typed
  pub stage_typed : (out : List Kind) × StageGives stage kinds out
  stage_typed = let h = subst (λ (stages : List Stage). StepGives stages kinds leads.rest.0) next_stage leads.rest.1 in (h.0, h.1)

  -- and leads on
  pub stage_leads : (mid : List Kind) → StageGives stage kinds mid → StepLeads first step (index + 1) mid
  stage_leads mid gives =
      let h = subst (λ (stages : List Stage). StepGives stages kinds leads.rest.0) next_stage leads.rest.1 in record {
        rest = (leads.rest.0, subst (λ (m : List Kind). StepGives (drop (index + 1) step) m leads.rest.0) (stage_one stage kinds h.0 mid h.1 gives) h.2);
        whole = λ out g. leads.whole out (subst (λ (stages : List Stage). StepGives stages kinds out) (sym next_stage) (mid, gives, g));
      }

-- at the end they lead to the step's kinds
pub step_led : (first : List Kind) (step : List Stage) (index : ℕ) (kinds : List Kind) → length step ≤ index → StepLeads first step index kinds → StepGives step first kinds
step_led first step index kinds past leads = leads.whole kinds (subst (λ (stages : List Stage). StepGives stages kinds kinds) (sym (drop_all index step past)) refl)

-- some hops lead from the line's root to these kinds, over which the rest of the line is typed
pub record LineLeads (streams : List (List Kind)) (line : Line) (index : ℕ) (kinds : List Kind) : Type 0 where
  pub rest : (out : List Kind) × RestGives streams (drop index line.hops) line.last kinds out
  pub whole : (out : List Kind) → RestGives streams (drop index line.hops) line.last kinds out → LineGives streams line out

-- none lead from the kinds of its root
pub line_leads : (streams : List (List Kind)) (line : Line) (kinds : List Kind) → slice_get streams line.root ≡ Some kinds → ((out : List Kind) × LineGives streams line out) → LineLeads streams line 0 kinds
line_leads streams line kinds root h =
    let same = event_one (slice_get streams line.root) h.1.0 kinds h.1.1 root in record {
      rest = (h.0, subst (λ (k : List Kind). RestGives streams line.hops line.last k h.0) same h.1.2);
      whole = λ out g. (kinds, root, g);
    }

module _ (streams : List (List Kind)) (line : Line) (index : ℕ) (kinds : List Kind) (hop : Hop) (inside : index < length line.hops) (is : hop ≡ get_or line.hops index hop) (leads : LineLeads streams line index kinds) where
  next_hop : drop index line.hops ≡ hop ∷ drop (index + 1) line.hops
  next_hop = drop-cons line.hops index hop inside ∙ (λ i. sym is i ∷ drop (sym (add-one index) i) line.hops)

  -- the next hop is typed
  pub hop_typed : (out : List Kind) × HopGives streams hop kinds out
  hop_typed = let h = subst (λ (hops : List Hop). RestGives streams hops line.last kinds leads.rest.0) next_hop leads.rest.1 in (h.0, h.1)

  -- and leads on
  pub hop_leads : (mid : List Kind) → HopGives streams hop kinds mid → LineLeads streams line (index + 1) mid
  hop_leads mid gives =
      let h = subst (λ (hops : List Hop). RestGives streams hops line.last kinds leads.rest.0) next_hop leads.rest.1 in record {
        rest = (leads.rest.0, subst (λ (m : List Kind). RestGives streams (drop (index + 1) line.hops) line.last m leads.rest.0) (hop_one streams hop kinds h.0 mid h.1 gives) h.2);
        whole = λ out g. leads.whole out (subst (λ (hops : List Hop). RestGives streams hops line.last kinds out) (sym next_hop) (mid, gives, g));
      }

-- behind all hops the last step is typed
pub last_typed : (streams : List (List Kind)) (line : Line) (index : ℕ) (kinds : List Kind) → length line.hops ≤ index → LineLeads streams line index kinds → (out : List Kind) × StepGives line.last kinds out
last_typed streams line index kinds past leads =
    (leads.rest.0, subst (λ (hops : List Hop). RestGives streams hops line.last kinds leads.rest.0) (drop_all index line.hops past) leads.rest.1)

-- and gives the line's kinds
pub line_led : (streams : List (List Kind)) (line : Line) (index : ℕ) (kinds : List Kind) → length line.hops ≤ index → LineLeads streams line index kinds
    → (out : List Kind) → StepGives line.last kinds out → LineGives streams line out
line_led streams line index kinds past leads out g = leads.whole out (subst (λ (hops : List Hop). RestGives streams hops line.last kinds out) (sym (drop_all index line.hops past)) g)

-- what a hop asks of its wait, for the kinds that its step gives
pub turn_typed : (streams : List (List Kind)) (hop : Hop) (kinds binding event : List Kind) → ((out : List Kind) × HopGives streams hop kinds out) → StepGives hop.step kinds binding → slice_get streams hop.wait.stream ≡ Some event
    → (out : List Kind) × TurnGives hop.wait.fold binding event out
turn_typed streams hop kinds binding event h step there =
    let g = h.1 in
    let same = step_one hop.step kinds g.0 binding g.2 step in
    let events = event_one (slice_get streams hop.wait.stream) g.1 event g.3 there in
    (h.0, subst (λ (s : List Kind × List Kind). TurnGives hop.wait.fold s.0 s.1 h.0) (λ i. (same i, events i)) g.4.1)

-- and what the hop then gives
pub hop_given : (streams : List (List Kind)) (hop : Hop) (kinds binding event : List Kind) → ((out : List Kind) × HopGives streams hop kinds out) → StepGives hop.step kinds binding → slice_get streams hop.wait.stream ≡ Some event
    → (out : List Kind) → TurnGives hop.wait.fold binding event out → HopGives streams hop kinds out
hop_given streams hop kinds binding event h step there out turn =
    let g = h.1 in
    let same = step_one hop.step kinds g.0 binding g.2 step in
    let events = event_one (slice_get streams hop.wait.stream) g.1 event g.3 there in
    (binding, event, step, there, (subst (λ (s : List Kind × List Kind). AreTyped hop.wait.choose s.1 (Some s.0)) (λ i. (same i, events i)) g.4.0, turn))
