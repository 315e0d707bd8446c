-- The streams that are due are derived in their turns.
use Rattle.std.proofs.Common.{◌≡◌, ◌∙◌, sym, ap, subst, inl, inr, ℕ, ◌+◌, ◌<◌, ◌≤◌, ◌⊎◌, length, get_or, take, List, [], ◌∷◌, arith}
use Rattle.std.specs.Prelude.{Contains, Option}
use Rattle.std.specs.List.{All}
use Rattle.std.specs.Map.{keys_of}
use Rattle.std.specs.Ordering.{nat_cmp}
use Rattle.std.specs.BTreeMap.Range.{IsLtBy}
use Rattle.std.proofs.lemmas.Bool.{cases_lt}
use Rattle.std.proofs.lemmas.Grind.{get_or_default_zero}
use Rattle.std.proofs.lemmas.List.Elements.{All-contains, All-get_or, All-weaker}
use Rattle.event_types.specs.Tuple.{TupleView}
use Rattle.binding_index.specs.declared.store.Store.{Store}
use Rattle.automaton.specs.States.{Net}
use Rattle.automaton.specs.declared.layout.Layout.{Layout}
use Rattle.epoch_draft.specs.Agenda.{AreBehind, AreTurns, IsPlannedIn}
use Rattle.epoch_draft.specs.Deriving.{CanDraw, Derives, Meets, news_of}
use Rattle.epoch_draft.specs.Held.{held}
use Rattle.epoch_draft.specs.Takes.{take_work}
use Rattle.epoch_draft.specs.Tests.{stream_work, tuple_work}
use Rattle.epoch_draft.specs.Turns.{turn_of}
use Rattle.epoch_draft.specs.declared.draft.Draft.{Draft}
use Rattle.epoch_draft.specs.declared.draft.Pair.{Pair}
use Rattle.epoch_draft.specs.declared.stream_turns.StreamTurns.{StreamTurns}
use Rattle.epoch_draft.specs.declared.turns.Turns.{Turns}
use Rattle.epoch_draft.proofs.AgendaLemmas.{AllPlanned, MadeBelow, ended_until, first_behind, planned_first, planned_next, popped_until, rises}
use Rattle.epoch_draft.proofs.DeriveLemmas.{MadeUpTo, below, derived_rest, derived_step, derived_takes, order_stays}
use Rattle.epoch_draft.proofs.DueLemmas.{due_derived}
use Rattle.epoch_draft.proofs.GoingLemmas.{all_right}
use Rattle.epoch_draft.proofs.Lists.{below_or_last}

-- the streams before a place in the order are made, and none of them has a turn behind the last that was; each later one that is due and read is on the agenda, and all that are due stand in the order
pub record DerivedSoFar (net : Net) (layout : Layout) (stores : List (Option Store)) (opened : List (List TupleView)) (turns : Turns) (draft : Draft) (pairs : List Pair) (agenda : List (ℕ × ℕ)) (last steps most taken : ℕ) : Type 0 where
  pub next : ℕ
  pub inside : next ≤ length layout.order
  pub made : MadeBelow net layout stores opened draft pairs next steps most taken
  pub passed : (k : ℕ) → k < next → turn_of turns (get_or layout.order k 0) ≤ last
  pub planned : AllPlanned net layout.order turns draft.due.numbers next agenda
  pub behind : AreBehind layout.order turns last agenda
  pub due : All (Contains layout.order) draft.due.numbers

-- a stream stands at a place from one on, and those before it are made
pub record ComesNext (net : Net) (layout : Layout) (stores : List (Option Store)) (opened : List (List TupleView)) (draft : Draft) (pairs : List Pair) (next stream steps most taken : ℕ) : Type 0 where
  pub place : ℕ
  pub from : next ≤ place
  pub inside : place < length layout.order
  pub is : get_or layout.order place 0 ≡ stream
  pub made : MadeBelow net layout stores opened draft pairs place steps most taken

module _ (net : Net) (layout : Layout) (stores : List (Option Store)) (opened : List (List TupleView)) (can : CanDraw net layout stores opened) (turns : StreamTurns) (are : AreTurns net layout.order (length layout.kinds) turns) where
  -- all that are due are on the agenda where no stream is made yet
  pub derived_none : (draft : Draft) (pairs : List Pair) (agenda : List (ℕ × ℕ)) (steps most taken : ℕ) → MadeBelow net layout stores opened draft pairs 0 steps most taken → All (Contains layout.order) draft.due.numbers → AreBehind layout.order turns.turns 0 agenda
      → All (IsPlannedIn turns 0 agenda) draft.due.numbers → DerivedSoFar net layout stores opened turns.turns draft pairs agenda 0 steps most taken
  derived_none draft pairs agenda steps most taken made due behind planned = record {
    next = 0;
    inside = omega arith;
    made = made;
    passed = λ k lt. absurd (omega (arith, lt));
    planned =
        planned_first net layout.order (length layout.kinds) turns are (below net layout stores opened can) draft.due.numbers agenda 0 0
        (λ k from lt. (All-get_or (λ s. (0 < turn_of turns.turns s) × (turn_of turns.turns s ≤ turns.turns.last)) layout.order k 0 lt are.in_turn.within).0) planned;
    behind = behind;
    due = due;
  }

  module _ (draft : Draft) (pairs : List Pair) (agenda : List (ℕ × ℕ)) (last steps most taken : ℕ) (so : DerivedSoFar net layout stores opened turns.turns draft pairs agenda last steps most taken) where
    -- once nothing is planned all streams are made
    pub derived_ended : (0 < length agenda → ⊥) → MadeBelow net layout stores opened draft pairs (length layout.order) steps most taken
    derived_ended none = ended_until net layout stores opened can draft pairs steps most taken turns.turns are.in_turn so.next agenda so.planned none so.inside so.made

    module _ (turn stream : ℕ) (rest : List (ℕ × ℕ)) (popped : agenda ≡ (turn, stream) ∷ rest) (later : All (IsLtBy nat_cmp turn) (keys_of rest)) where
      first : Contains layout.order stream × (turn_of turns.turns stream ≡ turn) × (last < turn)
      first = first_behind layout.order turns.turns are.in_turn last turn stream agenda rest popped so.behind

      -- the turn is behind the last that was, and none is greater than the last of all
      pub turn_rises : (last < turn) × (turn ≤ turns.turns.last)
      turn_rises =
          let here = first.0 in
          let is = first.1 in
          let within = All-contains (λ s. (0 < turn_of turns.turns s) × (turn_of turns.turns s ≤ turns.turns.last)) layout.order stream are.in_turn.within here in let most = within.1 in (first.2, omega (arith, is, most))

      -- the first stream that is planned comes next
      pub comes_next : ComesNext net layout stores opened draft pairs so.next stream steps most taken
      comes_next = found first.0
        where
          found : Contains layout.order stream → ComesNext net layout stores opened draft pairs so.next stream steps most taken
          found (p, lt, stands) = record {
            place = p;
            from = from;
            inside = lt;
            is = is;
            made = popped_until net layout stores opened can draft pairs steps most taken turns.turns are.in_turn so.next p turn agenda rest so.planned (popped ∙ ap (λ (s : ℕ). (turn, s) ∷ rest) (sym is)) later this from lt so.made;
          }
            where
              is : get_or layout.order p 0 ≡ stream
              is = sym (get_or_default_zero layout.order p stream lt) ∙ stands

              this : turn_of turns.turns (get_or layout.order p 0) ≡ turn
              this = ap (turn_of turns.turns) is ∙ first.1

              from : so.next ≤ p
              from = go (cases_lt p so.next)
                where
                  go : (p < so.next) ⊎ (so.next ≤ p) → so.next ≤ p
                  go (inl early) = absurd (let was = so.passed p early in let after = first.2 in omega (arith, was, this, after))
                  go (inr ge) = ge

      module _ (new : Draft) (more : List Pair) (derives : Derives net (held stores) stream draft new pairs more) where
        next : ComesNext net layout stores opened draft pairs so.next stream steps most taken
        next = comes_next

        abbrev at_place : Derives net (held stores) (get_or layout.order next.place 0) draft new pairs more
        at_place = subst (λ (s : ℕ). Derives net (held stores) s draft new pairs more) (sym next.is) derives

        abbrev meets : Meets net (held stores) (get_or layout.order next.place 0) draft new pairs more
        meets = at_place.meets

        made : MadeBelow net layout stores opened draft pairs next.place steps most taken
        made = next.made

        step : MadeUpTo net layout stores opened (take (next.place + 1) layout.order) new more
        step = derived_step net layout stores opened can next.place next.inside draft new pairs more made.until meets

        due_now : All (Contains layout.order) new.due.numbers
        due_now = due_derived net layout.order can.ends (held stores) (news_of opened new.made (take (next.place + 1) layout.order)) draft new stream first.0 step.drawn derives.meets.newly_due so.due

        -- the streams that are newly due stand in the order
        pub fresh_ordered : All (Contains layout.order) derives.meets.due.added
        fresh_ordered = all_right (Contains layout.order) draft.due.numbers derives.meets.due.added (subst (All (Contains layout.order)) derives.meets.due.is due_now)

        -- once they are planned, one stream more is derived
        pub derived_more : (now : List (ℕ × ℕ)) (end : ℕ) → end ≤ steps + stream_work net (held stores) stream (get_or draft.made stream []) → All (Contains now) rest → AreBehind layout.order turns.turns turn now
            → All (IsPlannedIn turns turn now) derives.meets.due.added → DerivedSoFar net layout stores opened turns.turns new more now turn end most taken
        derived_more now end ticks kept behind planned = record {
          next = next.place + 1;
          inside = (let lt = next.inside in omega (arith, lt));
          made = record {
            until = step;
            in_order = order_stays net layout stores opened can next.place next.inside draft new pairs more made.until meets made.in_order (inr at_place.ordered);
            ticks =
                let was = made.ticks in
                let one = subst (λ (s : ℕ). end ≤ steps + stream_work net (held stores) s (get_or draft.made s [])) (sym next.is) ticks in
                let all = derived_rest net layout stores opened can next.place next.inside draft new pairs more made.until meets (tuple_work net (held stores)) in omega (arith, was, one, all);
            takes =
                let was = made.takes in
                let one = derived_takes net layout stores opened can next.place next.inside draft new pairs more made.until meets in
                let all = derived_rest net layout stores opened can next.place next.inside draft new pairs more made.until meets (take_work net (held stores)) in omega (arith, was, one, all);
          };
          passed = λ k lt. go k (below_or_last k next.place lt);
          planned =
              planned_next net layout.order (length layout.kinds) turns are (below net layout stores opened can) agenda rest now draft.due.numbers derives.meets.due.added new.due.numbers so.next next.place turn next.inside this so.planned next.from
              (popped ∙ ap (λ (s : ℕ). (turn, s) ∷ rest) (sym next.is)) kept derives.meets.due.is planned;
          behind = behind;
          due = due_now;
        }
          where
            this : turn_of turns.turns (get_or layout.order next.place 0) ≡ turn
            this = ap (turn_of turns.turns) next.is ∙ first.1

            go : (k : ℕ) → (k < next.place) ⊎ (k ≡ next.place) → turn_of turns.turns (get_or layout.order k 0) ≤ turn
            go k (inl lt) = let up = rises layout.order turns.turns are.in_turn k next.place lt next.inside in omega (arith, up, this)
            go k (inr same) = let is = ap (λ (m : ℕ). turn_of turns.turns (get_or layout.order m 0)) same in omega (arith, is, this)

-- streams of the order are below each bound that the streams are
pub ordered_below : (order : List ℕ) (streams bound : ℕ) (numbers : List ℕ) → All (λ s. s < streams) order → streams ≤ bound → All (Contains order) numbers → All (λ s. s < bound) numbers
ordered_below order streams bound numbers below up ordered = All-weaker (Contains order) (λ s. s < bound) (λ s c. let lt = All-contains (λ s. s < streams) order s below c in omega (arith, lt, up)) numbers ordered
