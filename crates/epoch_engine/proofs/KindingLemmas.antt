-- The kinds of what comes to the states of a network that fits its layout.
use Rattle.std.proofs.Common.{◌≡◌, ◌∙◌, sym, ap, refl, subst, ℕ, ◌+◌, ◌-◌, ◌<◌, ◌≤◌, true, length, get_or, List, [], ◌∷◌, ◌++◌, map, arith}
use Rattle.std.specs.Prelude.{Contains, IsTrue, Option, Some, None, is_some, slice_get}
use Rattle.std.specs.Option.{option_map, unwrap_or}
use Rattle.std.specs.List.{All, range_with_len}
use Rattle.std.proofs.lemmas.List.Elements.{All-contains, All-get_or, All-nil, All-push, All-weaker}
use Rattle.std.proofs.lemmas.List.FromFn.{get_or-range_with_len, length-range_with_len}
use Rattle.std.proofs.lemmas.List.Sorted.{All-permutation, IsPermutation-sym}
use Rattle.std.proofs.lemmas.Option.{get_or_from_slice_get}
use Rattle.event_types.specs.declared.kind.Kind.{Kind}
use Rattle.scalar_expr.specs.Kinds.{sc_kind}
use Rattle.automaton.specs.LineKinds.{HopGives, LineFits, RestGives, StageGives, StepGives, TurnGives, WaitGives}
use Rattle.automaton.specs.NetworkLines.{Ending, HasLines, NetworkFits, ending_at, endings_by}
use Rattle.automaton.specs.Networks.{IsAt}
use Rattle.automaton.specs.Prefixes.{Prefix, Root, After, beginnings, extended, path, prefixes}
use Rattle.automaton.specs.States.{Net, ends_at, entrance_at, is_used, state_at}
use Rattle.automaton.specs.declared.layout.Layout.{Layout}
use Rattle.automaton.specs.declared.line.Hop.{Hop}
use Rattle.automaton.specs.declared.line.Line.{Line}
use Rattle.automaton.specs.declared.network.End.{End}
use Rattle.automaton.specs.declared.network.Entrance.{Entrance}
use Rattle.automaton.specs.declared.network.Entrance.TheVariants as entrance
use Rattle.automaton.specs.declared.network.State.{State}
use Rattle.automaton.specs.declared.step.Stage.{Stage}
use Rattle.automaton.specs.declared.step.Stage.TheVariants.{Keep, Make}
use Rattle.automaton.specs.declared.wait.Turn.{Turn}
use Rattle.automaton.proofs.SlotLemmas.{at_one, at_used, root_entry, used_below}
use Rattle.automaton.proofs.TypingLemmas.{kinds_are}
use Rattle.epoch_laws.proofs.Lists.{All-flat_map, map_all}
use Rattle.epoch_laws.proofs.Networks.{flat_all, line_at, path_back}
use Rattle.automaton.specs.Work.{is_in}
use Rattle.epoch_draft.specs.Drafts.{EndsIn}
use Rattle.epoch_draft.proofs.DeriveLemmas.{contains_in}
use Rattle.epoch_draft.specs.Kindings.{EndFits, EntranceFits, Kinding, StatesFit}
use Rattle.epoch_draft.proofs.Lists.{some_is}

-- there are kinds for which all states and ends of a network are typed
abbrev pub AreStatesTyped : List (List Kind) → Net → Type 0
AreStatesTyped kinds net = (kinding : Kinding) × StatesFit kinds net kinding

-- what passes a stage, a step and a wait has these kinds
stage_kinds : Stage → List Kind → List Kind
stage_kinds (Keep condition) kinds = kinds
stage_kinds (Make m) kinds = map (λ s. sc_kind s kinds None) m.parts

pub step_kinds : List Stage → List Kind → List Kind
step_kinds [] kinds = kinds
step_kinds (stage ∷ step) kinds = step_kinds step (stage_kinds stage kinds)

pub turn_kinds : Option Turn → List Kind → List Kind → List Kind
turn_kinds None binding event = binding ++ event
turn_kinds (Some turn) binding event = binding

stage_kinds_are : (stage : Stage) (kinds out : List Kind) → StageGives stage kinds out → stage_kinds stage kinds ≡ out
unfolding stage_kinds
stage_kinds_are (Keep condition) kinds out gives = gives.1
stage_kinds_are (Make m) kinds out gives = sym (kinds_are m.parts kinds None out gives)

pub step_kinds_are : (step : List Stage) (kinds out : List Kind) → StepGives step kinds out → step_kinds step kinds ≡ out
unfolding step_kinds
step_kinds_are [] kinds out gives = gives
step_kinds_are (stage ∷ step) kinds out gives = ap (step_kinds step) (stage_kinds_are stage kinds gives.0 gives.1) ∙ step_kinds_are step gives.0 out gives.2

pub turn_kinds_are : (turn : Option Turn) (binding event out : List Kind) → TurnGives turn binding event out → turn_kinds turn binding event ≡ out
unfolding turn_kinds
turn_kinds_are None binding event out gives = gives
turn_kinds_are (Some turn) binding event out gives = gives.2

-- over streams of these kinds
module _ (kinds : List (List Kind)) where
  -- the kinds of what leaves the state of a prefix
  abbrev leaving_kinds : Prefix → List Kind
  leaving_kinds (Root stream) = get_or kinds stream []
  leaving_kinds (After prefix hop) = turn_kinds hop.wait.fold (step_kinds hop.step (leaving_kinds prefix)) (get_or kinds hop.wait.stream [])

  -- the kinds of the bindings that wait there
  abbrev waiting_kinds : Prefix → List Kind
  waiting_kinds (Root stream) = []
  waiting_kinds (After prefix hop) = step_kinds hop.step (leaving_kinds prefix)

  -- with them the state is typed
  abbrev PrefixFits : Prefix → Type 0
  PrefixFits (Root stream) = slice_get kinds stream ≡ Some (leaving_kinds (Root stream))
  PrefixFits (After prefix hop) = PrefixFits prefix × HopGives kinds hop (leaving_kinds prefix) (leaving_kinds (After prefix hop))

  hop_kinds_are : (prefix : Prefix) (hop : Hop) (out : List Kind) → HopGives kinds hop (leaving_kinds prefix) out → leaving_kinds (After prefix hop) ≡ out
  hop_kinds_are prefix hop out gives =
      (λ i. turn_kinds hop.wait.fold (step_kinds_are hop.step (leaving_kinds prefix) gives.0 gives.2 i) (get_or_from_slice_get kinds hop.wait.stream gives.1 [] gives.3 i))
      ∙ turn_kinds_are hop.wait.fold gives.0 gives.1 out gives.4.1

  -- hops that are typed lead to prefixes that fit, and the step behind them is typed over what leaves the last
  rest_fits : (prefix : Prefix) (hops : List Hop) (last : List Stage) (out : List Kind) → PrefixFits prefix → RestGives kinds hops last (leaving_kinds prefix) out
      → PrefixFits (extended prefix hops) × StepGives last (leaving_kinds (extended prefix hops)) out
  rest_fits prefix [] last out fits gives = (fits, gives)
  rest_fits prefix (hop ∷ hops) last out fits gives =
      let same = sym (hop_kinds_are prefix hop gives.0 gives.1) in
      rest_fits (After prefix hop) hops last out (fits, subst (HopGives kinds hop (leaving_kinds prefix)) same gives.1) (subst (λ (k : List Kind). RestGives kinds hops last k out) same gives.2)

  root_fits : (stream : ℕ) (root : List Kind) → slice_get kinds stream ≡ Some root → get_or kinds stream [] ≡ root
  root_fits stream root known = get_or_from_slice_get kinds stream root [] known

  -- so do all prefixes of a line
  line_fits : (line : Line) (fit : LineFits kinds line) → PrefixFits (path line) × StepGives line.last (leaving_kinds (path line)) fit.0
  line_fits line fit =
      let known = fit.1.1 in
      let same = sym (root_fits line.root fit.1.0 known) in
      rest_fits (Root line.root) line.hops line.last fit.0 (subst (λ (k : List Kind). slice_get kinds line.root ≡ Some k) same known) (subst (λ (k : List Kind). RestGives kinds line.hops line.last k fit.0) same fit.1.2)

  beginnings_fit : (prefix : Prefix) → PrefixFits prefix → All PrefixFits (beginnings prefix)
  beginnings_fit (Root stream) fits = All-push PrefixFits [] (Root stream) (All-nil PrefixFits) fits
  beginnings_fit (After prefix hop) fits = All-push PrefixFits (beginnings prefix) (After prefix hop) (beginnings_fit prefix fits.0) fits

  prefixes_fit : (lines : List Line) → All (LineFits kinds) lines → All PrefixFits (prefixes lines)
  prefixes_fit lines fit =
      All-flat_map PrefixFits (λ line. beginnings (path line)) lines
      (All-weaker (LineFits kinds) (λ line. All PrefixFits (beginnings (path line))) (λ line h. beginnings_fit (path line) (line_fits line h).0) lines fit)

-- what holds of a range holds of each number in it
in_range : (P : ℕ → Type 0) (first count number : ℕ) → All P (range_with_len first count) → first ≤ number → number < first + count → P number
in_range P first count number all low high =
    let inside : number - first < length (range_with_len first count) = omega (arith, length-range_with_len first count) in
    subst P (get_or-range_with_len first count (number - first) 0 (omega arith) ∙ omega arith) (All-get_or P (range_with_len first count) (number - first) 0 inside all)

-- the ends at a state have lines of the network
end_lines : (net : Net) (lines : List Line) (has : HasLines net lines) (P : Line → Type 0) → All P lines → (number : ℕ) → number < length net → All (λ end. P (line_at (has.1.places number) end)) (ends_at net number)
end_lines net lines has P all number inside =
    map_all its_line (ending_at (has.1.places number)) (ends_at net number) (in_range (λ n. All its_line (endings_there n)) 0 (length net) number by_state (omega arith) (omega arith))
  where
    its_line : Ending → Type 0
    its_line ending = P ending.line

    endings_there : ℕ → List Ending
    endings_there n = map (ending_at (has.1.places n)) (ends_at net n)

    by_state : All (λ n. All its_line (endings_there n)) (range_with_len 0 (length net))
    by_state =
        flat_all its_line endings_there (range_with_len 0 (length net))
        (All-permutation its_line has.0 (endings_by has.1.places net) (IsPermutation-sym (endings_by has.1.places net) has.0 has.1.same) (map_all P (λ (ending : Ending). ending.line) has.0 (subst (All P) (sym has.2) all)))

module _ (kinds : List (List Kind)) (net : Net) (lines : List Line) (has : HasLines net lines) (fit : All (LineFits kinds) lines) where
  abbrev place : ℕ → Prefix
  place = has.1.places

  abbrev kinding : Kinding
  kinding = record { leaving = λ number. leaving_kinds kinds (place number); waiting = λ number. waiting_kinds kinds (place number) }

  place_fits : (number : ℕ) → is_used net number ≡ true → PrefixFits kinds (place number)
  place_fits number used = All-contains (PrefixFits kinds) (prefixes lines) (place number) (prefixes_fit kinds lines fit) (has.3 number (place number) (has.1.are_places number used))

  -- each state is typed as it is entered
  entry_fits : (number : ℕ) (entered : Entrance) → entrance_at net number ≡ Some entered → (prefix : Prefix) → place number ≡ prefix → IsAt net number prefix → PrefixFits kinds prefix → EntranceFits kinds kinding number entered
  entry_fits number entered is (Root stream) same here fits =
      let root = some_is entered (entrance.Root stream) (sym is ∙ root_entry (entrance_at net number) stream here) in
      subst (EntranceFits kinds kinding number) (sym root) (subst (λ (p : Prefix). slice_get kinds stream ≡ Some (leaving_kinds kinds p)) (sym same) fits)
  entry_fits number entered is (After prefix hop) same here fits =
      let waiting = some_is entered (entrance.Waiting here.0 hop) (sym is ∙ here.1) in
      let before = at_one net here.0 prefix (place here.0) here.2 (has.1.are_places here.0 (at_used net here.0 prefix here.2)) in
      let gives = fits.1 in
      let bound = sym (step_kinds_are hop.step (leaving_kinds kinds prefix) gives.0 gives.2) in
      subst (EntranceFits kinds kinding number) (sym waiting) (
        gives.1,
        gives.3,
        subst (λ (s : Prefix × Prefix). StepGives hop.step (leaving_kinds kinds s.0) (waiting_kinds kinds s.1)) (λ i. (before i, sym same i)) (subst (StepGives hop.step (leaving_kinds kinds prefix)) bound gives.2),
        subst (λ (p : Prefix). WaitGives hop.wait (waiting_kinds kinds p) gives.1 (leaving_kinds kinds p)) (sym same)
            (subst (λ (k : List Kind). WaitGives hop.wait k gives.1 (leaving_kinds kinds (After prefix hop))) bound gives.4),
      )

  -- each end is typed over what leaves its state
  end_fits : (number : ℕ) (end : End) → LineFits kinds (line_at (place number) end) → EndFits kinds (kinding.leaving number) end
  end_fits number end h = (h.0, subst (λ (p : Prefix). StepGives end.step (leaving_kinds kinds p) h.0) (path_back (place number)) (line_fits kinds (line_at (place number) end) h).1, h.2)

  states_typed : AreStatesTyped kinds net
  states_typed = (kinding, fits)
    where
      fits : (number : ℕ) (state : State) → state_at net number ≡ Some state → EntranceFits kinds kinding number state.entrance × All (EndFits kinds (kinding.leaving number)) state.ends
      fits number state found =
          let used : is_used net number ≡ true = ap is_some found in
          let ends = ap (λ (o : Option State). unwrap_or (option_map (λ (s : State). s.ends) o) []) found in (
            entry_fits number state.entrance (ap (option_map (λ (s : State). s.entrance)) found) (place number) refl (has.1.are_places number used) (place_fits number used),
            subst (All (EndFits kinds (kinding.leaving number))) ends
                (All-weaker (λ end. LineFits kinds (line_at (place number) end)) (EndFits kinds (kinding.leaving number)) (end_fits number) (ends_at net number) (end_lines net lines has (LineFits kinds) fit number (used_below net number used))),
          )

-- a network that fits its layout is typed over the layout's kinds
pub fitting_typed : (net : Net) (layout : Layout) → NetworkFits net layout → AreStatesTyped layout.kinds net
fitting_typed net layout fits = states_typed layout.kinds net fits.0 fits.1 fits.2.typed

-- and its ends publish streams of the order of work
pub fitting_ends : (net : Net) (layout : Layout) → NetworkFits net layout → EndsIn net layout.order
fitting_ends net layout fits number = go (state_at net number) refl
  where
    go : (o : Option State) → state_at net number ≡ o → All (λ (end : End). Contains layout.order end.out) (ends_at net number)
    go None found = subst (All (λ (end : End). Contains layout.order end.out)) (sym (ap (λ (o : Option State). unwrap_or (option_map (λ (s : State). s.ends) o) []) found)) (All-nil (λ (end : End). Contains layout.order end.out))
    go (Some state) found =
        All-weaker (λ (end : End). IsTrue (is_in layout.order end.out)) (λ (end : End). Contains layout.order end.out) (λ end is. contains_in layout.order end.out is) (ends_at net number)
        (end_lines net fits.0 fits.1 (λ (line : Line). IsTrue (is_in layout.order line.out)) fits.2.all_outs number (used_below net number (ap is_some found)))
