-- The streams of lines over a history.
use Rattle.std.proofs.Common.{◌≡◌, ◌∙◌, sym, ap, refl, subst, ℕ, ◌==◌, Bool, true, false, cond, nat_lt, List, [], ◌∷◌, map, arith}
use Rattle.std.specs.Prelude.{Option, Some, None}
use Rattle.std.specs.List.{All, filter, filter_map, flat_map}
use Rattle.std.proofs.lemmas.Bool.Decides.{nat_tests}
use Rattle.std.proofs.lemmas.List.Elements.{filter_agree, All-nil, All-filter, All-map, All-weaker}
use Rattle.event_types.specs.Tuple.{TupleView}
use Rattle.semantics.specs.Denotation.{Streams}
use Rattle.semantics.specs.Histories.{Event, heard_on}
use Rattle.semantics.specs.Programs.{with_stream}
use Rattle.semantics.proofs.ListLemmas.{filter-map, filter_swap}
use Rattle.automaton.specs.Flow.{entering, flow, given}
use Rattle.automaton.specs.Prefixes.{Prefix, Root, After, path}
use Rattle.automaton.specs.Steps.{pass}
use Rattle.automaton.specs.Waiting.{waiting, waiting_in}
use Rattle.automaton.specs.Waits.{chosen}
use Rattle.automaton.specs.Work.{IsInOrder}
use Rattle.automaton.specs.declared.line.Hop.{Hop}
use Rattle.automaton.specs.declared.line.Line.{Line}
use Rattle.automaton.specs.declared.wait.Turn.{Turn}
use Rattle.semantics.specs.Births.{is_after, streams_after}
use Rattle.epoch_laws.specs.Births.{AreSound}
use Rattle.epoch_laws.specs.BornLines.{BornLine, lines_in}
use Rattle.epoch_laws.specs.Histories.{events_before, events_during, streams_over}
use Rattle.epoch_laws.specs.InstanceFlow.{completed_after, derived_after, given_after}
use Rattle.epoch_laws.specs.Lines.{given_now}
use Rattle.epoch_laws.specs.Times.{ArePast, before, during, IsPast, streams_before, streams_during}
use Rattle.epoch_laws.proofs.Completed.{streams_derived}
use Rattle.epoch_laws.proofs.Flows.{flow_before, flow_past, pass_cut, pass_past}
use Rattle.epoch_laws.proofs.Folds.{sound_past}
use Rattle.epoch_laws.proofs.InstanceEpochs.{line_gives}
use Rattle.epoch_laws.proofs.InstanceFlows.{given_later}
use Rattle.epoch_laws.proofs.Lists.{All-flat_map, every, filter-flat_map, filter_none}
use Rattle.semantics.proofs.ReportLemmas.{flat_map_same}

-- the other streams stay
pub with_other : (env : Streams) (n : ℕ) (rows : List TupleView) (s : ℕ) → (s == n) ≡ false → with_stream env n rows s ≡ env s
with_other env n rows s e = ap (λ b. cond b rows (env s)) e

-- streams of the past that are cut at a birth are of the past, and sound
after_past : (time : ℕ) (birth : Option ℕ) (env : Streams) → ArePast time env → ArePast time (streams_after birth env)
after_past time birth env past s = All-filter (λ t. is_after birth t.at) (IsPast time) (env s) (past s)

sound_of : (time : ℕ) (env : Streams) → ArePast time env → AreSound env
sound_of time env past s = sound_past time (env s) (past s)

-- no tuple of a derived stream is later
module _ (time : ℕ) (lines : List BornLine) where
  line_past : (env : Streams) → ArePast time env → (l : Line) → All (IsPast time) (given env l)
  line_past env past l = pass_past time l.last (flow env (path l)) (flow_past time env past (path l))

  given_past : (env : Streams) → ArePast time env → (b : BornLine) → All (IsPast time) (given_after env b)
  given_past env past b = subst (λ ts. All (IsPast time) ts) (sym (given_later env (sound_of time env past) b)) (line_past (streams_after b.birth env) (after_past time b.birth env past) b.line)

  derived_past : (env : Streams) → ArePast time env → (s : ℕ) → All (IsPast time) (derived_after lines env s)
  derived_past env past s =
      All-flat_map (IsPast time) (given_after env) (filter (λ (b : BornLine). b.line.out == s) lines) (every (λ b. All (IsPast time) (given_after env b)) (given_past env past) (filter (λ (b : BornLine). b.line.out == s) lines))

  with_past : (env : Streams) → ArePast time env → (n : ℕ) (rows : List TupleView) → All (IsPast time) rows → ArePast time (with_stream env n rows)
  with_past env past n rows all s = go (s == n)
    where
      go : (b : Bool) → All (IsPast time) (cond b rows (env s))
      go true = all
      go false = past s

  -- what the lines derive is past
  pub completed_past : (order : List ℕ) (env : Streams) → ArePast time env → ArePast time (completed_after lines order env)
  completed_past [] env past = past
  completed_past (s ∷ order) env past = completed_past order (with_stream env s (derived_after lines env s)) (with_past env past s (derived_after lines env s) (derived_past env past s))

  -- what they are before the time
  line_before : (env : Streams) → ArePast time env → (l : Line) → before time (given env l) ≡ given (streams_before time env) l
  line_before env past l = pass_cut (λ at. nat_lt at time) l.last (flow env (path l)) ∙ ap (filter_map (pass l.last)) (flow_before time env past (path l))

  cut_twice : (birth : Option ℕ) (env : Streams) → streams_before time (streams_after birth env) ≡ streams_after birth (streams_before time env)
  cut_twice birth env = λ i s. filter_swap (λ t. nat_lt t.at time) (λ t. is_after birth t.at) (env s) i

  before_past : (env : Streams) → ArePast time env → ArePast time (streams_before time env)
  before_past env past s = All-filter (λ t. nat_lt t.at time) (IsPast time) (env s) (past s)

  given_before : (env : Streams) → ArePast time env → (b : BornLine) → before time (given_after env b) ≡ given_after (streams_before time env) b
  given_before env past b =
      ap (before time) (given_later env (sound_of time env past) b)
      ∙ line_before (streams_after b.birth env) (after_past time b.birth env past) b.line
      ∙ ap (λ e. given e b.line) (cut_twice b.birth env)
      ∙ sym (given_later (streams_before time env) (sound_of time (streams_before time env) (before_past env past)) b)

  derived_before : (env : Streams) → ArePast time env → (s : ℕ) → before time (derived_after lines env s) ≡ derived_after lines (streams_before time env) s
  derived_before env past s =
      filter-flat_map (λ r. nat_lt r.at time) (given_after env) (filter (λ (b : BornLine). b.line.out == s) lines)
      ∙ flat_map_same (λ b. before time (given_after env b)) (given_after (streams_before time env)) (filter (λ (b : BornLine). b.line.out == s) lines)
      (every (λ b. before time (given_after env b) ≡ given_after (streams_before time env) b) (given_before env past) (filter (λ (b : BornLine). b.line.out == s) lines))

  with_before : (env : Streams) (n : ℕ) (rows other : List TupleView) → before time rows ≡ other → streams_before time (with_stream env n rows) ≡ with_stream (streams_before time env) n other
  with_before env n rows other e = λ i s. go s (s == n) i
    where
      go : (s : ℕ) (b : Bool) → before time (cond b rows (env s)) ≡ cond b other (before time (env s))
      go s true = e
      go s false = refl

  -- what they derive before a time is derived from what is before it
  pub completed_before : (order : List ℕ) (env : Streams) → ArePast time env → streams_before time (completed_after lines order env) ≡ completed_after lines order (streams_before time env)
  completed_before [] env past = refl
  completed_before (s ∷ order) env past =
      completed_before order (with_stream env s (derived_after lines env s)) (with_past env past s (derived_after lines env s) (derived_past env past s))
      ∙ ap (completed_after lines order) (with_before env s (derived_after lines env s) (derived_after lines (streams_before time env) s) (derived_before env past s))

-- over a history
heard_past : (time : ℕ) (h : List Event) → All (λ e. IsPast time e.tuple) h → ArePast time (heard_on h)
heard_past time h all s = All-map (IsPast time) (λ e. e.tuple) (filter (λ e. e.stream == s) h) (All-filter (λ e. e.stream == s) (λ e. IsPast time e.tuple) h all)

heard_before : (time : ℕ) (h : List Event) → streams_before time (heard_on h) ≡ heard_on (events_before time h)
heard_before time h = λ i s. (filter-map (λ r. nat_lt r.at time) (λ e. e.tuple) (filter (λ e. e.stream == s) h) ∙ ap (map (λ e. e.tuple)) (filter_swap (λ e. nat_lt e.tuple.at time) (λ e. e.stream == s) h)) i

-- what is heard on a stream in an epoch is what the epoch's events bring
pub heard_now : (time : ℕ) (h : List Event) (s : ℕ) → during time (heard_on h s) ≡ heard_on (events_during time h) s
heard_now time h s = filter-map (λ r. r.at == time) (λ e. e.tuple) (filter (λ e. e.stream == s) h) ∙ ap (map (λ e. e.tuple)) (filter_swap (λ e. e.tuple.at == time) (λ e. e.stream == s) h)

-- the streams of past events are past
pub over_past : (time : ℕ) (lines : List BornLine) (order : List ℕ) (h : List Event) → All (λ e. IsPast time e.tuple) h → ArePast time (streams_over lines order h)
over_past time lines order h all = completed_past time lines order (heard_on h) (heard_past time h all)

-- what they have before a time is derived from what is before it
pub over_before : (time : ℕ) (lines : List BornLine) (order : List ℕ) (h : List Event) → All (λ e. IsPast time e.tuple) h → streams_before time (streams_over lines order h) ≡ streams_over lines order (events_before time h)
over_before time lines order h all = completed_before time lines order (heard_on h) (heard_past time h all) ∙ ap (completed_after lines order) (heard_before time h)

-- which are the streams of the earlier events
pub streams_early : (time : ℕ) (lines : List BornLine) (order : List ℕ) (h : List Event) → All (λ e. IsPast time e.tuple) h → (s : ℕ) → before time (streams_over lines order h s) ≡ streams_over lines order (events_before time h) s
streams_early time lines order h all s = λ i. over_before time lines order h all i s

-- at the start nothing waits
flow_none : (env : Streams) → ((s : ℕ) → env s ≡ []) → (p : Prefix) → flow env p ≡ []
flow_none env none (Root s) = none s
flow_none env none (After p h) = ap (λ ts. chosen h.wait.choose h.wait.fold (env h.wait.stream) (entering h ts)) (flow_none env none p) ∙ go h.wait.fold
  where
    go : (turn : Option Turn) → chosen h.wait.choose turn (env h.wait.stream) [] ≡ []
    go None = refl
    go (Some t) = refl

no_streams : (lines : List BornLine) (order : List ℕ) (s : ℕ) → streams_over lines order [] s ≡ []
no_streams lines order s = sym (streams_early 0 lines order [] (All-nil (λ e. IsPast 0 e.tuple)) s) ∙ filter_agree (λ r. nat_lt r.at 0) (λ _. false) (λ r. no_less r.at) (streams_over lines order [] s) ∙ filter_none (streams_over lines order [] s)
  where
    no_less : (at : ℕ) → nat_lt at 0 ≡ false
    no_less at = grind (arith, nat_tests)

-- before any event nothing waits
pub start_waits : (lines : List BornLine) (order : List ℕ) (p : Prefix) (h : Hop) → waiting (streams_over lines order []) p h ≡ []
start_waits lines order p h =
    ap (λ ts. waiting_in h.wait.choose h.wait.fold (streams_over lines order [] h.wait.stream) (entering h ts)) (flow_none (streams_over lines order []) (no_streams lines order) p) ∙ go h.wait.fold
  where
    go : (turn : Option Turn) → waiting_in h.wait.choose turn (streams_over lines order [] h.wait.stream) [] ≡ []
    go None = refl
    go (Some t) = refl

-- what the lines of a derived stream give in an epoch
pub streams_give : (time : ℕ) (lines : List BornLine) (order : List ℕ) (h : List Event) → All (λ e. IsPast time e.tuple) h → IsInOrder (lines_in lines) order
    → let streams = streams_over lines order h in All (λ s. during time (streams s) ≡ flat_map (given_now (streams_during time streams) (streams_before time streams)) (filter (λ (b : BornLine). b.line.out == s) lines)) order
streams_give time lines order h past ordered =
    All-weaker (λ s. streams_over lines order h s ≡ derived_after lines (streams_over lines order h) s)
    (λ s. during time (streams_over lines order h s) ≡ flat_map (given_now (streams_during time (streams_over lines order h)) (streams_before time (streams_over lines order h))) (filter (λ (b : BornLine). b.line.out == s) lines))
    one order (streams_derived lines order (heard_on h) ordered)
  where
    one : (s : ℕ) → streams_over lines order h s ≡ derived_after lines (streams_over lines order h) s
        → during time (streams_over lines order h s) ≡ flat_map (given_now (streams_during time (streams_over lines order h)) (streams_before time (streams_over lines order h))) (filter (λ (b : BornLine). b.line.out == s) lines)
    one s e =
        ap (during time) e
        ∙ filter-flat_map (λ r. r.at == time) (given_after (streams_over lines order h)) (filter (λ (b : BornLine). b.line.out == s) lines)
        ∙ flat_map_same (λ l. during time (given_after (streams_over lines order h) l)) (given_now (streams_during time (streams_over lines order h)) (streams_before time (streams_over lines order h))) (filter (λ (b : BornLine). b.line.out == s) lines)
        (every (λ l. during time (given_after (streams_over lines order h) l) ≡ given_now (streams_during time (streams_over lines order h)) (streams_before time (streams_over lines order h)) l)
        (line_gives time (streams_over lines order h) (over_past time lines order h past)) (filter (λ (b : BornLine). b.line.out == s) lines))
