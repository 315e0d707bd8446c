-- What flows along lines whose streams have other numbers is the same.
use Rattle.std.proofs.Common.{◌≡◌, ◌∙◌, sym, ap, refl, ℕ, Bool, true, false, cond, eqb, List, [], ◌∷◌, ◌++◌, map, arith}
use Rattle.std.specs.List.{filter, flat_map}
use Rattle.std.proofs.lemmas.Bool.{eqb-true}
use Rattle.std.proofs.lemmas.List.Concat.{flat_map-cons}
use Rattle.semantics.specs.Denotation.{Streams}
use Rattle.semantics.specs.Histories.{heard_on}
use Rattle.semantics.specs.Programs.{with_stream}
use Rattle.automaton.specs.Flow.{entering}
use Rattle.automaton.specs.Prefixes.{Prefix, Root, After, extended, path}
use Rattle.automaton.specs.Waiting.{waiting_in}
use Rattle.automaton.specs.Waits.{chosen}
use Rattle.automaton.specs.declared.line.Hop.{Hop}
use Rattle.epoch_laws.specs.BornLines.{BornLine}
use Rattle.epoch_laws.specs.Births.{passing_after}
use Rattle.epoch_laws.specs.Histories.{streams_over}
use Rattle.epoch_laws.specs.InstanceFlow.{completed_after, derived_after, each, flow_instances, given_after, waiting_instances}
use Rattle.epoch_laws.specs.Instances.{begins}
use Rattle.snapshot_laws.specs.Renumbering.{RenumberedLinesGiveTheSame, RenumberedStatesWaitAlike, renumbered, renumbered_hop, renumbered_line, renumbered_prefix}

-- the prefix with more hops behind it is renumbered hop by hop
pub extended_renumbered : (number : ℕ → ℕ) (prefix : Prefix) (hops : List Hop) → extended (renumbered_prefix number prefix) (map (renumbered_hop number) hops) ≡ renumbered_prefix number (extended prefix hops)
extended_renumbered number prefix [] = refl
extended_renumbered number prefix (hop ∷ hops) = extended_renumbered number (After prefix hop) hops

-- a number is the same as itself
refl_test : (n : ℕ) → eqb n n ≡ true
refl_test n = search arith

-- no test answers both
false_true : false ≡ true → ⊥
false_true e = absurd cc

-- numbers are the same where those given to them are
pub same_test : (number : ℕ → ℕ) → ((stream other : ℕ) → number stream ≡ number other → stream ≡ other) → (stream other : ℕ) → eqb (number stream) (number other) ≡ eqb stream other
same_test number apart stream other = by_cases (eqb stream other) (eqb (number stream) (number other)) refl refl
  where
    by_cases : (b c : Bool) → eqb stream other ≡ b → eqb (number stream) (number other) ≡ c → eqb (number stream) (number other) ≡ eqb stream other
    by_cases true c is was = let one : stream ≡ other = eqb-true stream other is in (λ i. eqb (number (one i)) (number other)) ∙ refl_test (number other) ∙ sym is
    by_cases false false is was = was ∙ sym is
    by_cases false true is was = let one : stream ≡ other = apart stream other (eqb-true (number stream) (number other) was) in absurd (false_true (sym is ∙ (λ i. eqb (one i) other) ∙ refl_test other))

module _ (number : ℕ → ℕ) (streams others : Streams) (same : (stream : ℕ) → others (number stream) ≡ streams stream) where
  -- what flows out of a state is the same
  flow_same : (prefix : Prefix) → flow_instances others (renumbered_prefix number prefix) ≡ flow_instances streams prefix
  flow_same (Root stream) = ap (map begins) (same stream)
  flow_same (After prefix hop) = λ i. each (λ tuples. chosen hop.wait.choose hop.wait.fold (same hop.wait.stream i) (entering hop tuples)) (flow_same prefix i)

  -- what waits there is the same
  pub waiting_same : (prefix : Prefix) (hop : Hop) → waiting_instances others (renumbered_prefix number prefix) (renumbered_hop number hop) ≡ waiting_instances streams prefix hop
  waiting_same prefix hop = λ i. each (λ tuples. waiting_in hop.wait.choose hop.wait.fold (same hop.wait.stream i) (entering hop tuples)) (flow_same prefix i)

  -- what a line gives is the same
  given_same : (born : BornLine) → given_after others (renumbered number born) ≡ given_after streams born
  given_same born =
      let along : flow_instances others (path (renumbered_line number born.line)) ≡ flow_instances streams (path born.line) = ap (flow_instances others) (extended_renumbered number (Root born.line.root) born.line.hops) ∙ flow_same (path born.line) in
      ap (passing_after born.line.last born.birth) along

  -- what all lines give that publish a stream is the same
  derived_same : ((stream other : ℕ) → number stream ≡ number other → stream ≡ other) → (lines : List BornLine) (stream : ℕ) → derived_after (map (renumbered number) lines) others (number stream) ≡ derived_after lines streams stream
  derived_same apart [] stream = refl
  derived_same apart (born ∷ lines) stream =
      step (eqb (number born.line.out) (number stream)) (eqb born.line.out stream) (same_test number apart born.line.out stream) (given_same born) (derived_same apart lines stream)
    where
      step : (b c : Bool) → b ≡ c → given_after others (renumbered number born) ≡ given_after streams born → derived_after (map (renumbered number) lines) others (number stream) ≡ derived_after lines streams stream
          → flat_map (given_after others) (cond b (renumbered number born ∷ filter (λ other. eqb other.line.out (number stream)) (map (renumbered number) lines)) (filter (λ other. eqb other.line.out (number stream)) (map (renumbered number) lines)))
          ≡ flat_map (given_after streams) (cond c (born ∷ filter (λ other. eqb other.line.out stream) lines) (filter (λ other. eqb other.line.out stream) lines))
      step true true is head tail = flat_map-cons (given_after others) (renumbered number born) (filter (λ other. eqb other.line.out (number stream)) (map (renumbered number) lines)) ∙ (λ i. head i ++ tail i) ∙ sym (flat_map-cons (given_after streams) born (filter (λ other. eqb other.line.out stream) lines))
      step false false is head tail = tail
      step true false is head tail = absurd cc
      step false true is head tail = absurd cc

-- each derived stream is the same
completed_same : (number : ℕ → ℕ) → ((stream other : ℕ) → number stream ≡ number other → stream ≡ other) → (lines : List BornLine) (order : List ℕ) (streams others : Streams)
    → ((stream : ℕ) → others (number stream) ≡ streams stream) → (stream : ℕ) → completed_after (map (renumbered number) lines) (map number order) others (number stream) ≡ completed_after lines order streams stream
completed_same number apart lines [] streams others same stream = same stream
completed_same number apart lines (derived ∷ order) streams others same stream =
    completed_same number apart lines order (with_stream streams derived (derived_after lines streams derived)) (with_stream others (number derived) (derived_after (map (renumbered number) lines) others (number derived)))
    (λ other. λ i. cond (same_test number apart other derived i) (derived_same number streams others same apart lines derived i) (same other i)) stream

-- no two streams have one number, where each leads back
pub apart : (number back : ℕ → ℕ) → ((stream : ℕ) → back (number stream) ≡ stream) → (stream other : ℕ) → number stream ≡ number other → stream ≡ other
apart number back returns stream other is = sym (returns stream) ∙ ap back is ∙ returns other

-- each stream has the same tuples under its new number
pub renumbered_lines_give_the_same : RenumberedLinesGiveTheSame
renumbered_lines_give_the_same number back lines order history renumbers stream = completed_same number (apart number back renumbers.returns) lines order (heard_on history) (heard_on history) renumbers.heard stream

-- and at each state the same instances wait
pub renumbered_states_wait_alike : RenumberedStatesWaitAlike
renumbered_states_wait_alike number back lines order history renumbers prefix hop =
    waiting_same number (streams_over lines order history) (streams_over (map (renumbered number) lines) (map number order) history) (renumbered_lines_give_the_same number back lines order history renumbers) prefix hop
