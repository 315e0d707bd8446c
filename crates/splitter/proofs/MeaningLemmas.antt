-- The lines of an expression give what it denotes, where each hidden stream is what its lines give.
use Rattle.std.proofs.Common.{◌≡◌, ◌∙◌, sym, ap, refl, subst, ℕ, List, [], ◌∷◌, ◌++◌, map, append-nil}
use Rattle.std.specs.Prelude.{Option, Some, None}
use Rattle.std.specs.Option.{option_and_then}
use Rattle.std.specs.List.{All, cons_option, filter, filter_map, flat_map}
use Rattle.std.proofs.lemmas.Grind.{flat_map-append}
use Rattle.std.proofs.lemmas.List.Folds.{flat_map-map}
use Rattle.std.proofs.lemmas.List.Elements.{All-nil, All-cons, All-head, All-tail, All-weaker}
use Rattle.event_types.specs.Tuple.{TupleView}
use Rattle.semantics.specs.Denotation.{Streams, denote, matches, selected}
use Rattle.semantics.specs.Expressions.{Ex, Read, Filter, Select, Union, Next, Fold}
use Rattle.semantics.specs.Runs.{runs}
use Rattle.semantics.specs.Scalars.{Pr}
use Rattle.semantics.specs.Truth.{all_true}
use Rattle.automaton.proofs.PlaceLemmas.{extended-push}
use Rattle.automaton.specs.declared.step.Stage.{Stage}
use Rattle.automaton.specs.declared.step.Stage.TheVariants.{Keep, Make}
use Rattle.automaton.specs.declared.wait.Turn.{Turn}
use Rattle.automaton.specs.declared.wait.Wait.{Wait}
use Rattle.automaton.specs.Flow.{flow}
use Rattle.automaton.specs.Prefixes.{Root, extended}
use Rattle.automaton.specs.Steps.{pass, passed}
use Rattle.automaton.specs.Waits.{chosen}
use Rattle.splitter.specs.declared.open.Open.{Open}
use Rattle.splitter.specs.Splitting.{Parts, parts_of, right_side_of, with_hop, with_stage}
use Rattle.splitter.specs.Stages.{staged}
use Rattle.splitter.specs.Widths.{MeetWidths}
use Rattle.splitter.proofs.ListLemmas.{All-parts, filter_map_agree, filter_map_all, filter_map_some, filter_map_test, filter_map-flat_map, filter_map-then, flat_map_agree, flat_map-then}
use Rattle.splitter.proofs.StageLemmas.{AreWide, IsWide, pass_staged}
use Rattle.semantics.proofs.ListLemmas.{every}

-- what an open line gives
abbrev pub open_given : Streams → Open → List TupleView
open_given streams line = filter_map (pass line.last) (flow streams (extended (Root line.root) line.hops))

-- what all open lines give
abbrev pub parts_given : Streams → Parts → List TupleView
parts_given streams parts = flat_map (open_given streams) parts.open_lines

-- one more stage
wide_one : (stage : Stage) (o : Option TupleView) (rest : List TupleView) → All (IsWide stage) (cons_option o rest) → AreWide stage o
wide_one stage None rest all = tt
wide_one stage (Some t) rest all = All-head (IsWide stage) t rest all

wide_rest : (stage : Stage) (o : Option TupleView) (rest : List TupleView) → All (IsWide stage) (cons_option o rest) → All (IsWide stage) rest
wide_rest stage None rest all = all
wide_rest stage (Some t) rest all = All-tail (IsWide stage) t rest all

wide_each : (stage : Stage) (g : TupleView → Option TupleView) (ts : List TupleView) → All (IsWide stage) (filter_map g ts) → All (λ t. AreWide stage (g t)) ts
wide_each stage g [] all = All-nil (λ t. AreWide stage (g t))
wide_each stage g (t ∷ ts) all = All-cons (λ t. AreWide stage (g t)) t ts (wide_one stage (g t) (filter_map g ts) all) (wide_each stage g ts (wide_rest stage (g t) (filter_map g ts) all))

module _ (streams : Streams) where
  stage_gives : (stage : Stage) (line : Open) → All (IsWide stage) (open_given streams line) → open_given streams (with_stage stage line) ≡ filter_map (passed stage) (open_given streams line)
  stage_gives stage line wide =
      let ts = flow streams (extended (Root line.root) line.hops) in
      filter_map_agree (pass (staged line.last stage)) (λ t. option_and_then (passed stage) (pass line.last t)) ts
      (All-weaker (λ t. AreWide stage (pass line.last t)) (λ t. pass (staged line.last stage) t ≡ option_and_then (passed stage) (pass line.last t)) (λ t w. pass_staged stage line.last t w) ts (wide_each stage (pass line.last) ts wide))
      ∙ filter_map-then (passed stage) (pass line.last) ts

  -- a stage behind each line gives what it makes of what the lines give
  pub stages_give : (stage : Stage) (lines : List Open) → All (IsWide stage) (flat_map (open_given streams) lines)
      → flat_map (open_given streams) (map (with_stage stage) lines) ≡ filter_map (passed stage) (flat_map (open_given streams) lines)
  stages_give stage lines wide =
      flat_map-map (open_given streams) (with_stage stage) lines
      ∙ flat_map_agree (λ line. open_given streams (with_stage stage line)) (λ line. filter_map (passed stage) (open_given streams line)) lines
      (All-weaker (λ line. All (IsWide stage) (open_given streams line)) (λ line. open_given streams (with_stage stage line) ≡ filter_map (passed stage) (open_given streams line)) (λ line w. stage_gives stage line w) lines
      (All-parts (IsWide stage) (open_given streams) lines wide))
      ∙ filter_map-flat_map (passed stage) (open_given streams) lines

  -- ---- one more hop
  hop_gives : (wait : Wait) (line : Open) → open_given streams (with_hop wait line) ≡ chosen wait.choose wait.fold (streams wait.stream) (open_given streams line)
  hop_gives wait line =
      filter_map_all (flow streams (extended (Root line.root) (with_hop wait line).hops)) ∙ ap (flow streams) (extended-push (Root line.root) line.hops (record { step = line.last; wait = wait }))

  chosen_parts : {X : Type 0} (choose : List Pr) (turn : Option Turn) (tuples : List TupleView) (f : X → List TupleView) (xs : List X)
      → flat_map (λ x. chosen choose turn tuples (f x)) xs ≡ chosen choose turn tuples (flat_map f xs)
  chosen_parts choose None tuples f xs = flat_map-then (matches choose tuples) f xs
  chosen_parts choose (Some turn) tuples f xs = flat_map-then (runs choose turn.on turn.set.parts tuples) f xs

  -- a hop behind each line gives what is chosen for what the lines give
  pub hops_give : (wait : Wait) (lines : List Open) → flat_map (open_given streams) (map (with_hop wait) lines) ≡ chosen wait.choose wait.fold (streams wait.stream) (flat_map (open_given streams) lines)
  hops_give wait lines =
      flat_map-map (open_given streams) (with_hop wait) lines
      ∙ flat_map_agree (λ line. open_given streams (with_hop wait line)) (λ line. chosen wait.choose wait.fold (streams wait.stream) (open_given streams line)) lines
      (every (λ line. open_given streams (with_hop wait line) ≡ chosen wait.choose wait.fold (streams wait.stream) (open_given streams line)) (hop_gives wait) lines)
      ∙ chosen_parts wait.choose wait.fold (streams wait.stream) (open_given streams) lines

-- hidden streams
-- a right side's hidden stream is what its lines give
abbrev pub HasSource : Streams → Ex → Parts → Type 0
HasSource streams (Read stream) right = Unit {0}
HasSource streams f right = streams right.next ≡ parts_given streams right

-- the same of each right side in the expression
abbrev pub HasSources : Streams → Ex → ℕ → Type 0
HasSources streams (Read stream) next = Unit {0}
HasSources streams (Filter p e) next = HasSources streams e next
HasSources streams (Select m e) next = HasSources streams e next
HasSources streams (Union e f) next = HasSources streams e next × HasSources streams f (parts_of e next).next
HasSources streams (Next p e f) next = HasSources streams e next × HasSources streams f (parts_of e next).next × HasSource streams f (parts_of f (parts_of e next).next)
HasSources streams (Fold p q m e f) next = HasSources streams e next × HasSources streams f (parts_of e next).next × HasSource streams f (parts_of f (parts_of e next).next)

source_gives : (streams : Streams) (f : Ex) (right : Parts) → HasSource streams f right → parts_given streams right ≡ denote f streams → streams (right_side_of f right).stream ≡ denote f streams
source_gives streams (Read stream) right has gives = refl
source_gives streams f right has gives = has ∙ gives

-- the expression
pub parts_give : (e : Ex) (next : ℕ) (streams : Streams) → HasSources streams e next → MeetWidths e streams → parts_given streams (parts_of e next) ≡ denote e streams
parts_give (Read stream) next streams has wide = ap (λ ts. ts ++ []) (filter_map_all (streams stream)) ∙ append-nil (streams stream)
parts_give (Filter p e) next streams has wide =
    stages_give streams (Keep p) (parts_of e next).open_lines (every (IsWide (Keep p)) (λ t. tt) (parts_given streams (parts_of e next)))
    ∙ filter_map_test (λ t. all_true p t None) (parts_given streams (parts_of e next)) ∙ ap (filter (λ t. all_true p t None)) (parts_give e next streams has wide)
parts_give (Select m e) next streams has wide =
    let inner = parts_give e next streams has wide.0 in
    stages_give streams (Make m) (parts_of e next).open_lines (subst (All (IsWide (Make m))) (sym inner) wide.1)
    ∙ filter_map_some (selected m.parts) (parts_given streams (parts_of e next)) ∙ ap (map (selected m.parts)) inner
parts_give (Union e f) next streams has wide =
    flat_map-append (open_given streams) (parts_of e next).open_lines (parts_of f (parts_of e next).next).open_lines
    ∙ (λ i. parts_give e next streams has.0 wide.0 i ++ parts_give f (parts_of e next).next streams has.1 wide.1 i)
parts_give (Next p e f) next streams has wide =
    let right = parts_of f (parts_of e next).next in
    let there = source_gives streams f right has.2 (parts_give f (parts_of e next).next streams has.1 wide.1) in
    hops_give streams (record { stream = (right_side_of f right).stream; choose = p; fold = None }) (parts_of e next).open_lines
    ∙ (λ i. flat_map (matches p (there i)) (parts_give e next streams has.0 wide.0 i))
parts_give (Fold p q m e f) next streams has wide =
    let right = parts_of f (parts_of e next).next in
    let there = source_gives streams f right has.2 (parts_give f (parts_of e next).next streams has.1 wide.1) in
    hops_give streams (record { stream = (right_side_of f right).stream; choose = p; fold = Some (record { on = q; set = m }) }) (parts_of e next).open_lines
    ∙ (λ i. flat_map (runs p q m.parts (there i)) (parts_give e next streams has.0 wide.0 i))
