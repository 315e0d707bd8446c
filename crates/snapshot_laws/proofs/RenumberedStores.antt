-- Stores stand for renumbered lines too.
use Rattle.std.proofs.Common.{◌≡◌, ◌∙◌, sym, ap, refl, subst, ℕ, List, [], ◌∷◌, ◌++◌, map}
use Rattle.std.specs.Prelude.{Contains, ⊤, Option}
use Rattle.std.specs.List.{All}
use Rattle.std.proofs.lemmas.List.Sorted.{IsPermutation-sym}
use Rattle.std.proofs.lemmas.List.{map-append}
use Rattle.std.proofs.lemmas.List.Concat.{flat_map-cons}
use Rattle.std.proofs.lemmas.List.Elements.{All-append, All-contains, All-contains_itself, All-map, All-nil, All-weaker}
use Rattle.semantics.proofs.ListLemmas.{All-left, All-right}
use Rattle.automaton.specs.Networks.{IsAt}
use Rattle.automaton.specs.Prefixes.{Prefix, Root, After, beginnings, extended, path, prefixes}
use Rattle.automaton.specs.States.{Net}
use Rattle.automaton.specs.declared.line.Hop.{Hop}
use Rattle.automaton.specs.declared.line.Line.{Line}
use Rattle.instances.specs.declared.instance.Instance.{Instance}
use Rattle.epoch_laws.specs.BornLines.{BornLine, IsReadAfter, lines_in}
use Rattle.epoch_laws.specs.Histories.{streams_over}
use Rattle.epoch_laws.specs.InstanceFlow.{waiting_instances}
use Rattle.snapshot_laws.specs.Renumbering.{IsSomewhere, StoresStandRenumbered, renumbered, renumbered_hop, renumbered_line, renumbered_prefix}
use Rattle.epoch_laws.specs.Stores.{Purged}
use Rattle.epoch_laws.proofs.Bags.{within_permuted, within_to}
use Rattle.snapshot_laws.proofs.Renumbered.{extended_renumbered, renumbered_states_wait_alike}

module _ (number back : ℕ → ℕ) (returns : (stream : ℕ) → back (number stream) ≡ stream) where
  -- a hop that is renumbered back is the hop
  hop_back : (hop : Hop) → renumbered_hop back (renumbered_hop number hop) ≡ hop
  hop_back hop = λ i. record { step = hop.step; wait = record { stream = returns hop.wait.stream i; choose = hop.wait.choose; fold = hop.wait.fold } }

  -- and a prefix
  prefix_back : (prefix : Prefix) → renumbered_prefix back (renumbered_prefix number prefix) ≡ prefix
  prefix_back (Root stream) = ap Root (returns stream)
  prefix_back (After prefix hop) = λ i. After (prefix_back prefix i) (hop_back hop i)

  -- a renumbered line is that of a line
  line_of : (lines : List BornLine) (other : BornLine) → Contains (map (renumbered number) lines) other → (born : BornLine) × Contains lines born × (renumbered number born ≡ other)
  line_of lines other there =
      All-contains (λ (y : BornLine). (born : BornLine) × Contains lines born × (renumbered number born ≡ y)) (map (renumbered number) lines) other
      (All-map (λ (y : BornLine). (born : BornLine) × Contains lines born × (renumbered number born ≡ y)) (renumbered number) lines
      (All-weaker (Contains lines) (λ (b : BornLine). (born : BornLine) × Contains lines born × (renumbered number born ≡ renumbered number b)) (λ b h. (b, h, refl)) lines (All-contains_itself lines)))
      there

  -- a birth with which a renumbered prefix is used is one with which the prefix is
  read_back : (lines : List BornLine) (prefix : Prefix) (birth : Option ℕ) → IsReadAfter (map (renumbered number) lines) (renumbered_prefix number prefix) birth → IsReadAfter lines prefix birth
  read_back lines prefix birth read =
      let found = line_of lines read.0 read.2 in
      let along : path (renumbered_line number found.0.line) ≡ extended (renumbered_prefix number prefix) read.1 = ap (λ (b : BornLine). path b.line) found.2 ∙ read.3 in
      let is : renumbered_prefix number (path found.0.line) ≡ extended (renumbered_prefix number prefix) read.1 = sym (extended_renumbered number (Root found.0.line.root) found.0.line.hops) ∙ along in
      let behind : path found.0.line ≡ extended prefix (map (renumbered_hop back) read.1) =
      sym (prefix_back (path found.0.line)) ∙ ap (renumbered_prefix back) is ∙ sym (extended_renumbered back (renumbered_prefix number prefix) read.1) ∙ ap (λ (p : Prefix). extended p (map (renumbered_hop back) read.1)) (prefix_back prefix) in
      (found.0, map (renumbered_hop back) read.1, found.1, behind, ap (λ (b : BornLine). b.birth) found.2 ∙ read.4)

-- a renumbered prefix begins with the renumbered beginnings
beginnings_renumbered : (number : ℕ → ℕ) (prefix : Prefix) → beginnings (renumbered_prefix number prefix) ≡ map (renumbered_prefix number) (beginnings prefix)
beginnings_renumbered number (Root stream) = refl
beginnings_renumbered number (After prefix hop) =
    ap (λ (xs : List Prefix). xs ++ After (renumbered_prefix number prefix) (renumbered_hop number hop) ∷ []) (beginnings_renumbered number prefix)
    ∙ sym (map-append (renumbered_prefix number) (beginnings prefix) (After prefix hop ∷ []))

-- the prefix is a renumbered one, for whose own prefix a state stands
abbrev IsOfState : (ℕ → ℕ) → Net → Prefix → Type 0
IsOfState number net other = (prefix : Prefix) × IsSomewhere net prefix × (renumbered_prefix number prefix ≡ other)

-- so is each prefix of the renumbered lines
of_states : (number : ℕ → ℕ) (net : Net) (lines : List BornLine) → All (IsSomewhere net) (prefixes (lines_in lines)) → All (IsOfState number net) (prefixes (lines_in (map (renumbered number) lines)))
of_states number net [] all = All-nil (IsOfState number net)
of_states number net (born ∷ lines) all =
    let parts : All (IsSomewhere net) (beginnings (path born.line) ++ prefixes (lines_in lines)) = subst (All (IsSomewhere net)) (flat_map-cons (λ (line : Line). beginnings (path line)) born.line (lines_in lines)) all in
    let own : All (IsOfState number net) (map (renumbered_prefix number) (beginnings (path born.line))) =
    All-map (IsOfState number net) (renumbered_prefix number) (beginnings (path born.line))
    (All-weaker (IsSomewhere net) (λ (p : Prefix). IsOfState number net (renumbered_prefix number p)) (λ p h. (p, h, refl)) (beginnings (path born.line)) (All-left (IsSomewhere net) (beginnings (path born.line)) (prefixes (lines_in lines)) parts)) in
    let rest = of_states number net lines (All-right (IsSomewhere net) (beginnings (path born.line)) (prefixes (lines_in lines)) parts) in
    let first : beginnings (path (renumbered_line number born.line)) ≡ map (renumbered_prefix number) (beginnings (path born.line)) = ap beginnings (extended_renumbered number (Root born.line.root) born.line.hops) ∙ beginnings_renumbered number (path born.line) in
    subst (All (IsOfState number net)) (sym (flat_map-cons (λ (line : Line). beginnings (path line)) (renumbered_line number born.line) (lines_in (map (renumbered number) lines))))
    (All-append (IsOfState number net) (beginnings (path (renumbered_line number born.line))) (prefixes (lines_in (map (renumbered number) lines))) (subst (All (IsOfState number net)) (sym first) own) rest)

-- stores stand for renumbered lines
pub stores_stand_renumbered : StoresStandRenumbered
stores_stand_renumbered number back net other lines order time stores others history renumbers stand all are alike = record {
  before = stand.before;
  holds = λ state prefix hop at.
      let found = All-contains (IsOfState number net) (prefixes (lines_in (map (renumbered number) lines))) (After prefix hop) (of_states number net lines all) (are state (After prefix hop) at) in
      subst (IsHeld state) found.2 (held state found.0 found.1 (subst (IsAt other state) (sym found.2) at));
}
  where
    IsHeld : ℕ → Prefix → Type 0
    IsHeld state (Root stream) = ⊤
    IsHeld state (After prefix hop) = Purged time (IsReadAfter (map (renumbered number) lines) (After prefix hop)) hop.wait.choose (waiting_instances (streams_over (map (renumbered number) lines) (map number order) history) prefix hop) (others state)

    held : (state : ℕ) (prefix : Prefix) → IsSomewhere net prefix → IsAt other state (renumbered_prefix number prefix) → IsHeld state (renumbered_prefix number prefix)
    held state (Root stream) somewhere at = tt
    held state (After prefix hop) somewhere at =
        let old = stand.holds somewhere.0 prefix hop somewhere.1 in
        let same = alike somewhere.0 state prefix hop somewhere.1 at in
        let waits = renumbered_states_wait_alike number back lines order history renumbers prefix hop in
        let moved : Purged time (IsReadAfter (map (renumbered number) lines) (After (renumbered_prefix number prefix) (renumbered_hop number hop))) hop.wait.choose (waiting_instances (streams_over lines order history) prefix hop) (others state) = record {
          at_least = λ birth read. within_to _ _ _ (old.at_least birth (read_back number back renumbers.returns lines (After prefix hop) birth read)) same;
          at_most = within_permuted _ _ _ (IsPermutation-sym _ _ same) old.at_most;
        } in
        subst (λ (ws : List Instance). Purged time (IsReadAfter (map (renumbered number) lines) (After (renumbered_prefix number prefix) (renumbered_hop number hop))) hop.wait.choose ws (others state)) (sym waits) moved
