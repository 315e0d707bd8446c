-- The streams that are due are made in the order of work.
use Rattle.std.proofs.Common.{◌≡◌, ◌∙◌, sym, ap, refl, subst, inl, inr, ℕ, Bool, true, false, zero, suc, ◌+◌, ◌-◌, ◌<◌, ◌≤◌, ◌⊎◌, length, get_or, take, drop, List, [], ◌∷◌, ◌++◌, arith}
use Rattle.std.specs.Prelude.{Contains, Option}
use Rattle.std.specs.List.{All}
use Rattle.std.specs.Map.{keys_of}
use Rattle.std.specs.Ordering.{nat_cmp, match_ordering, MatchOrdering}
use Rattle.std.specs.declared.cmp.Ordering.{Ordering}
use Rattle.std.specs.declared.cmp.Ordering.TheVariants.{Less, Equal, Greater}
use Rattle.std.specs.BTreeMap.{insert_entry}
use Rattle.std.specs.BTreeMap.Range.{IsLtBy}
use Rattle.std.specs.Cmp.{ranks}
use Rattle.std.proofs.Math.Seq.{drop-append_seam}
use Rattle.std.proofs.lemmas.Bool.{cases_lt}
use Rattle.std.proofs.lemmas.Grind.{get_or_default_zero}
use Rattle.std.proofs.lemmas.List.{length-drop, take_more}
use Rattle.std.proofs.lemmas.List.Elements.{All-contains, All-contains_itself, All-cons, All-head, All-nil, All-push, All-tail, All-weaker, Contains-append_cases, Contains-append_left, Contains-append_right, Contains-push, Contains-push_cases}
use Rattle.event_types.specs.Order.{sorted}
use Rattle.event_types.specs.Tuple.{TupleView}
use Rattle.binding_index.specs.declared.store.Store.{Store}
use Rattle.automaton.specs.States.{Net}
use Rattle.automaton.specs.declared.layout.Layout.{Layout}
use Rattle.epoch_draft.specs.Agenda.{AreBehind, AreTurns, IsPlannedIn, IsUnread}
use Rattle.epoch_draft.specs.Deriving.{CanDraw, news_of}
use Rattle.epoch_draft.specs.Drafts.{DraftFits}
use Rattle.epoch_draft.specs.Marks.{MarksMore}
use Rattle.epoch_draft.specs.Held.{held}
use Rattle.epoch_draft.specs.EpochWork.{derived_tests, pairs_work}
use Rattle.epoch_draft.specs.Turns.{HaveTurns, turn_of}
use Rattle.epoch_draft.specs.declared.draft.Draft.{Draft}
use Rattle.epoch_draft.specs.declared.draft.Pair.{Pair}
use Rattle.epoch_draft.specs.declared.marks.Marks.{Marks}
use Rattle.epoch_draft.specs.declared.stream_turns.StreamTurns.{StreamTurns}
use Rattle.epoch_draft.specs.declared.turns.Turns.{Turns}
use Rattle.epoch_draft.proofs.DeriveLemmas.{AreReadInOrder, MadeUpTo, derived_rest, derived_step, derived_takes, order_stays}
use Rattle.epoch_draft.proofs.UnreadLemmas.{skipped_meets}
use Rattle.epoch_draft.proofs.Lists.{taken_all}
use Rattle.epoch_draft.specs.Tests.{tuple_work}
use Rattle.epoch_draft.specs.Takes.{take_work}

module _ {X : Type 0} where
  -- an item of a list is the first or one of the others
  pub first_or_other : (x : X) (xs : List X) (y : X) → Contains (x ∷ xs) y → (y ≡ x) ⊎ Contains xs y
  first_or_other x xs y c = go (Contains-append_cases (x ∷ []) xs y c)
    where
      one : Contains [] y ⊎ (x ≡ y) → (y ≡ x) ⊎ Contains xs y
      one (inl c) = absurd (omega (arith, c.1))
      one (inr same) = inl (sym same)

      go : Contains (x ∷ []) y ⊎ Contains xs y → (y ≡ x) ⊎ Contains xs y
      go (inl c) = one (Contains-push_cases [] x y c)
      go (inr c) = inr c

  contains_first : (x : X) (xs : List X) → Contains (x ∷ xs) x
  contains_first x xs = Contains-append_left (x ∷ []) xs x (Contains-push [] x)

  contains_other : (x : X) (xs : List X) (y : X) → Contains xs y → Contains (x ∷ xs) y
  contains_other x xs y c = Contains-append_right (x ∷ []) xs y c

  -- a list that has an item isn't empty
  pub filled_list : (xs : List X) (y : X) → Contains xs y → 0 < length xs
  filled_list xs y c = omega (arith, c.1)

-- a stream that is put in its turn is there
pub contains_inserted : (agenda : List (ℕ × ℕ)) (turn stream : ℕ) → Contains (insert_entry nat_cmp agenda turn stream) (turn, stream)
contains_inserted [] turn stream = contains_first (turn, stream) []
contains_inserted (e ∷ agenda) turn stream = go (nat_cmp turn e.0) (ranks turn e.0) (contains_inserted agenda turn stream)
  where
    go : (r : Ordering) → MatchOrdering r (turn < e.0) (turn ≡ e.0) (e.0 < turn) → Contains (insert_entry nat_cmp agenda turn stream) (turn, stream)
        → Contains (match_ordering r ((turn, stream) ∷ e ∷ agenda) ((e.0, stream) ∷ agenda) (e ∷ insert_entry nat_cmp agenda turn stream)) (turn, stream)
    go Less h rest = contains_first (turn, stream) (e ∷ agenda)
    go Equal h rest = subst (λ (t : ℕ). Contains ((e.0, stream) ∷ agenda) (t, stream)) (sym h) (contains_first (e.0, stream) agenda)
    go Greater h rest = contains_other e (insert_entry nat_cmp agenda turn stream) (turn, stream) rest

-- and the others stay, where no other has this turn
pub inserted_keeps : (agenda : List (ℕ × ℕ)) (turn stream : ℕ) → All (λ (e : ℕ × ℕ). e.0 ≡ turn → e.1 ≡ stream) agenda → (entry : ℕ × ℕ) → Contains agenda entry → Contains (insert_entry nat_cmp agenda turn stream) entry
inserted_keeps [] turn stream apart entry c = contains_other (turn, stream) [] entry c
inserted_keeps (e ∷ agenda) turn stream apart entry c =
    go (nat_cmp turn e.0) (ranks turn e.0) (inserted_keeps agenda turn stream (All-tail (λ (e : ℕ × ℕ). e.0 ≡ turn → e.1 ≡ stream) e agenda apart) entry)
  where
    this : e.0 ≡ turn → e.1 ≡ stream
    this = All-head (λ (e : ℕ × ℕ). e.0 ≡ turn → e.1 ≡ stream) e agenda apart

    later : (entry ≡ e) ⊎ Contains agenda entry → (Contains agenda entry → Contains (insert_entry nat_cmp agenda turn stream) entry) → Contains (e ∷ insert_entry nat_cmp agenda turn stream) entry
    later (inl same) rest = subst (Contains (e ∷ insert_entry nat_cmp agenda turn stream)) (sym same) (contains_first e (insert_entry nat_cmp agenda turn stream))
    later (inr c) rest = contains_other e (insert_entry nat_cmp agenda turn stream) entry (rest c)

    go : (r : Ordering) → MatchOrdering r (turn < e.0) (turn ≡ e.0) (e.0 < turn) → (Contains agenda entry → Contains (insert_entry nat_cmp agenda turn stream) entry)
        → Contains (match_ordering r ((turn, stream) ∷ e ∷ agenda) ((e.0, stream) ∷ agenda) (e ∷ insert_entry nat_cmp agenda turn stream)) entry
    go Less h rest = contains_other (turn, stream) (e ∷ agenda) entry c
    go Equal h rest = subst (λ (s : ℕ). Contains ((e.0, s) ∷ agenda) entry) (this (sym h)) c
    go Greater h rest = later (first_or_other e agenda entry c) rest

-- what holds of all entries and of one that is put among them holds of all
pub all_inserted : (P : ℕ × ℕ → Type 0) (agenda : List (ℕ × ℕ)) (turn stream : ℕ) → All P agenda → P (turn, stream) → All P (insert_entry nat_cmp agenda turn stream)
all_inserted P [] turn stream all this = All-cons P (turn, stream) [] this all
all_inserted P (e ∷ agenda) turn stream all this = go (nat_cmp turn e.0) (ranks turn e.0) (all_inserted P agenda turn stream rest this)
  where
    rest : All P agenda
    rest = All-tail P e agenda all

    go : (r : Ordering) → MatchOrdering r (turn < e.0) (turn ≡ e.0) (e.0 < turn) → All P (insert_entry nat_cmp agenda turn stream)
        → All P (match_ordering r ((turn, stream) ∷ e ∷ agenda) ((e.0, stream) ∷ agenda) (e ∷ insert_entry nat_cmp agenda turn stream))
    go Less h more = All-cons P (turn, stream) (e ∷ agenda) this all
    go Equal h more = All-cons P (e.0, stream) agenda (subst (λ (t : ℕ). P (t, stream)) h this) rest
    go Greater h more = All-cons P e (insert_entry nat_cmp agenda turn stream) (All-head P e agenda all) more

-- what is less than another is below it
pub less_is : (m n : ℕ) → IsLtBy nat_cmp m n → m < n
less_is m n less = go (nat_cmp m n) (ranks m n) less
  where
    go : (r : Ordering) → MatchOrdering r (m < n) (m ≡ n) (n < m) → r ≡ Less → m < n
    go Less h e = h
    go Equal h e = absurd (cc)
    go Greater h e = absurd (cc)

-- the other entries have later turns than the first
pub popped_later : (turn : ℕ) (rest : List (ℕ × ℕ)) → All (IsLtBy nat_cmp turn) (keys_of rest) → All (λ (e : ℕ × ℕ). turn < e.0) rest
popped_later turn [] later = All-nil (λ (e : ℕ × ℕ). turn < e.0)
popped_later turn (e ∷ rest) later =
    All-cons (λ (e : ℕ × ℕ). turn < e.0) e rest (less_is turn e.0 (All-head (IsLtBy nat_cmp turn) e.0 (keys_of rest) later)) (popped_later turn rest (All-tail (IsLtBy nat_cmp turn) e.0 (keys_of rest) later))

module _ (order : List ℕ) (turns : Turns) (have : HaveTurns order turns) where
  -- the turn of the stream at a place
  abbrev turn_at : ℕ → ℕ
  turn_at k = turn_of turns (get_or order k 0)

  -- turns rise from place to place
  pub rises : (i k : ℕ) → i < k → k < length order → turn_at i < turn_at k
  rises i k lt inside = have.rise i k 0 lt inside

  -- streams of the order that have the same turn are the same
  pub same_turn : (s t : ℕ) → Contains order s → Contains order t → turn_of turns s ≡ turn_of turns t → s ≡ t
  same_turn s t (i, here, is) (k, there, other) same = go (cases_lt i k) (cases_lt k i)
    where
      at : get_or order i 0 ≡ s
      at = sym (get_or_default_zero order i s here) ∙ is

      at_other : get_or order k 0 ≡ t
      at_other = sym (get_or_default_zero order k t there) ∙ other

      tell : turn_at i ≡ turn_at k
      tell = ap (turn_of turns) at ∙ same ∙ sym (ap (turn_of turns) at_other)

      go : (i < k) ⊎ (k ≤ i) → (k < i) ⊎ (i ≤ k) → s ≡ t
      go (inl lt) any = absurd (let up = rises i k lt there in omega (arith, up, tell))
      go (inr ge) (inl lt) = absurd (let up = rises k i lt here in omega (arith, up, tell))
      go (inr ge) (inr le) = sym at ∙ ap (λ (m : ℕ). get_or order m 0) (let e : i ≡ k = omega (arith, ge, le) in e) ∙ at_other

  -- so no other entry has the turn of such a stream
  pub turns_apart : (last stream : ℕ) (agenda : List (ℕ × ℕ)) → AreBehind order turns last agenda → Contains order stream → All (λ (e : ℕ × ℕ). e.0 ≡ turn_of turns stream → e.1 ≡ stream) agenda
  turns_apart last stream agenda behind here =
      All-weaker (λ (e : ℕ × ℕ). Contains order e.1 × (turn_of turns e.1 ≡ e.0) × (last < e.0)) (λ (e : ℕ × ℕ). e.0 ≡ turn_of turns stream → e.1 ≡ stream) (λ e h same. same_turn e.1 stream h.0 here (h.1 ∙ same)) agenda behind

  -- the entries behind the first are behind its turn
  pub rest_behind : (last turn stream : ℕ) (agenda rest : List (ℕ × ℕ)) → agenda ≡ (turn, stream) ∷ rest → All (IsLtBy nat_cmp turn) (keys_of rest) → AreBehind order turns last agenda → AreBehind order turns turn rest
  rest_behind last turn stream agenda rest is later behind =
      All-weaker (Contains rest) IsBehind each rest (All-contains_itself rest)
    where
      WasBehind : ℕ × ℕ → Type 0
      WasBehind e = Contains order e.1 × (turn_of turns e.1 ≡ e.0) × (last < e.0)

      IsBehind : ℕ × ℕ → Type 0
      IsBehind e = Contains order e.1 × (turn_of turns e.1 ≡ e.0) × (turn < e.0)

      each : (e : ℕ × ℕ) → Contains rest e → IsBehind e
      each e c =
          let was = All-contains WasBehind rest e (All-tail WasBehind (turn, stream) rest (subst (All WasBehind) is behind)) c in
          (was.0, was.1, All-contains (λ (e : ℕ × ℕ). turn < e.0) rest e (popped_later turn rest later) c)

  -- the first entry has a stream of the order, its turn, and one behind the last that was
  pub first_behind : (last turn stream : ℕ) (agenda rest : List (ℕ × ℕ)) → agenda ≡ (turn, stream) ∷ rest → AreBehind order turns last agenda → Contains order stream × (turn_of turns stream ≡ turn) × (last < turn)
  first_behind last turn stream agenda rest is behind =
      All-head (λ (e : ℕ × ℕ). Contains order e.1 × (turn_of turns e.1 ≡ e.0) × (last < e.0)) (turn, stream) rest (subst (AreBehind order turns last) is behind)

-- a stream with its turn
abbrev pub entry_of : Turns → ℕ → ℕ × ℕ
entry_of turns stream = (turn_of turns stream, stream)

-- each due stream of the order from a place on is on the agenda, or no state reads it
abbrev pub AllPlanned : Net → List ℕ → Turns → List ℕ → ℕ → List (ℕ × ℕ) → Type 0
AllPlanned net order turns due next agenda = (k : ℕ) → next ≤ k → k < length order → Contains due (get_or order k 0) → Contains agenda (entry_of turns (get_or order k 0)) ⊎ IsUnread net (get_or order k 0)

module _ (net : Net) (order : List ℕ) (streams : ℕ) (turns : StreamTurns) (are : AreTurns net order streams turns) (below : (k : ℕ) → k < length order → get_or order k 0 < streams) where
  -- the streams that are looked at are planned, as far as their turns are behind the last that was
  pub planned_first : (due : List ℕ) (agenda : List (ℕ × ℕ)) (last next : ℕ) → ((k : ℕ) → next ≤ k → k < length order → last < turn_of turns.turns (get_or order k 0)) → All (IsPlannedIn turns last agenda) due → AllPlanned net order turns.turns due next agenda
  planned_first due agenda last next behind planned k from lt c = go (get_or turns.read s false) refl
    where
      s : ℕ
      s = get_or order k 0

      go : (b : Bool) → get_or turns.read s false ≡ b → Contains agenda (entry_of turns.turns s) ⊎ IsUnread net s
      go true read = inl (All-contains (IsPlannedIn turns last agenda) due s planned c read (behind k from lt))
      go false unread = inr (are.unread s (below k lt) unread)

  -- so are those that were planned before, but for the first, which is the stream at a place
  pub planned_next : (agenda rest now : List (ℕ × ℕ)) (due fresh more : List ℕ) (next p turn : ℕ) → p < length order → turn_of turns.turns (get_or order p 0) ≡ turn → AllPlanned net order turns.turns due next agenda → next ≤ p → agenda ≡ (turn, get_or order p 0) ∷ rest
      → All (Contains now) rest → more ≡ due ++ fresh → All (IsPlannedIn turns turn now) fresh → AllPlanned net order turns.turns more (p + 1) now
  planned_next agenda rest now due fresh more next p turn here is was from popped kept grown planned k after lt c =
      go (Contains-append_cases due fresh (get_or order k 0) (subst (λ (ns : List ℕ). Contains ns (get_or order k 0)) grown c))
    where
      s : ℕ
      s = get_or order k 0

      later : (k : ℕ) → p + 1 ≤ k → k < length order → turn < turn_of turns.turns (get_or order k 0)
      later k after lt = let up = rises order turns.turns are.in_turn p k (omega (arith, after)) lt in omega (arith, up, is)

      old : (entry_of turns.turns s ≡ (turn, get_or order p 0)) ⊎ Contains rest (entry_of turns.turns s) → Contains now (entry_of turns.turns s)
      old (inl same) = absurd (let one = ap (λ (e : ℕ × ℕ). e.0) same in let up = later k after lt in omega (arith, one, up))
      old (inr c) = All-contains (Contains now) rest (entry_of turns.turns s) kept c

      stays : Contains agenda (entry_of turns.turns s) ⊎ IsUnread net s → Contains now (entry_of turns.turns s) ⊎ IsUnread net s
      stays (inl c) = inl (old (first_or_other (turn, get_or order p 0) rest (entry_of turns.turns s) (subst (λ (es : List (ℕ × ℕ)). Contains es (entry_of turns.turns s)) popped c)))
      stays (inr unread) = inr unread

      go : Contains due s ⊎ Contains fresh s → Contains now (entry_of turns.turns s) ⊎ IsUnread net s
      go (inl c) = stays (was k (omega (arith, from, after)) lt c)
      go (inr c) = planned_first fresh now turn (p + 1) later planned k after lt c

-- what is behind the marked numbers are the newly marked ones
pub fresh_is : (old new : Marks) → (more : MarksMore old new) → drop (length old.numbers) new.numbers ≡ more.added
fresh_is old new more = ap (drop (length old.numbers)) more.is ∙ drop-append_seam old.numbers more.added

-- the tests by which the derived streams from a place on are still to be met
abbrev pub work_left : Net → Layout → List (Option Store) → List (List TupleView) → Draft → ℕ → ℕ
work_left net layout stores opened draft next = derived_tests (tuple_work net (held stores)) net (drop next layout.order) (held stores) (news_of opened draft.made (take next layout.order))

-- the same of the tests by which the instances are taken out that they match
abbrev pub takes_left : Net → Layout → List (Option Store) → List (List TupleView) → Draft → ℕ → ℕ
takes_left net layout stores opened draft next = derived_tests (take_work net (held stores)) net (drop next layout.order) (held stores) (news_of opened draft.made (take next layout.order))

-- the streams so far are made, and in order where some state reads them; their tests with those that are left are within bounds
pub record MadeBelow (net : Net) (layout : Layout) (stores : List (Option Store)) (opened : List (List TupleView)) (draft : Draft) (pairs : List Pair) (i steps most taken : ℕ) : Type 0 where
  pub until : MadeUpTo net layout stores opened (take i layout.order) draft pairs
  pub in_order : AreReadInOrder net draft.made (take i layout.order)
  pub ticks : steps + work_left net layout stores opened draft i ≤ most
  pub takes : pairs_work net (take i layout.order) stores opened draft.made pairs + takes_left net layout stores opened draft i ≤ taken

module _ (net : Net) (layout : Layout) (stores : List (Option Store)) (opened : List (List TupleView)) (can : CanDraw net layout stores opened) (draft : Draft) (pairs : List Pair) (steps most taken : ℕ) where
  -- the streams so far are made
  abbrev IsMade : ℕ → Type 0
  IsMade i = MadeBelow net layout stores opened draft pairs i steps most taken

  -- nothing comes of the stream at a place: it has no tuples, or no state reads it
  abbrev pub IsIdle : ℕ → Type 0
  IsIdle k = (get_or draft.made (get_or layout.order k 0) [] ≡ []) ⊎ IsUnread net (get_or layout.order k 0)

  -- a stream of which nothing comes is made as it is
  idle_step : (i : ℕ) → i < length layout.order → IsIdle i → IsMade i → IsMade (i + 1)
  idle_step i lt idle was =
      let stream = get_or layout.order i 0 in
      let fits = was.until.fits in
      let skipped = skipped_meets net (held stores) stream draft pairs (subst (λ (m : ℕ). DraftFits m (length net) draft) (sym fits.made) fits) idle in
      let meets = skipped.0 in record {
        until = derived_step net layout stores opened can i lt draft draft pairs pairs was.until meets;
        in_order = order_stays net layout stores opened can i lt draft draft pairs pairs was.until meets was.in_order (orderly meets.tuples skipped.1 idle);
        ticks =
            let rest = derived_rest net layout stores opened can i lt draft draft pairs pairs was.until meets (tuple_work net (held stores)) in
            let old = was.ticks in omega (arith, rest, old);
        takes =
            let rest = derived_rest net layout stores opened can i lt draft draft pairs pairs was.until meets (take_work net (held stores)) in
            let one = derived_takes net layout stores opened can i lt draft draft pairs pairs was.until meets in
            let old = was.takes in omega (arith, rest, one, old);
      }
    where
      orderly : (rows : List TupleView) → rows ≡ get_or draft.made (get_or layout.order i 0) [] → IsIdle i → IsUnread net (get_or layout.order i 0) ⊎ (sorted rows ≡ rows)
      orderly rows is (inl none) = inr (ap sorted (is ∙ none) ∙ sym (is ∙ none))
      orderly rows is (inr unread) = inl unread

  -- and so are several, by induction on how many they are
  idle_many : (n i p : ℕ) → i + n ≡ p → p ≤ length layout.order → ((k : ℕ) → i ≤ k → k < p → IsIdle k) → IsMade i → IsMade p
  idle_many zero i p is below idle was = subst (λ (m : ℕ). IsMade m) (let same : i ≡ p = omega (arith, is) in same) was
  idle_many (suc n) i p is below idle was =
      idle_many n (i + 1) p (omega (arith, is)) below (λ k from lt. idle k (omega (arith, from)) lt)
      (idle_step i (omega (arith, is, below)) (idle i (omega arith) (omega (arith, is))) was)

  -- a stream that isn't planned is idle
  unplanned_idle : (k : ℕ) → ((s : ℕ) → (get_or draft.made s [] ≡ []) ⊎ Contains draft.due.numbers s) → (Contains draft.due.numbers (get_or layout.order k 0) → IsUnread net (get_or layout.order k 0)) → IsIdle k
  unplanned_idle k due undue = go (due (get_or layout.order k 0))
    where
      go : (get_or draft.made (get_or layout.order k 0) [] ≡ []) ⊎ Contains draft.due.numbers (get_or layout.order k 0) → IsIdle k
      go (inl none) = inl none
      go (inr c) = inr (undue c)

  module _ (turns : Turns) (have : HaveTurns layout.order turns) where
    -- the streams before the first that is planned are made
    pub popped_until : (next p turn : ℕ) (agenda rest : List (ℕ × ℕ)) → AllPlanned net layout.order turns draft.due.numbers next agenda → agenda ≡ (turn, get_or layout.order p 0) ∷ rest → All (IsLtBy nat_cmp turn) (keys_of rest) → turn_of turns (get_or layout.order p 0) ≡ turn → next ≤ p
        → p < length layout.order → IsMade next → IsMade p
    popped_until next p turn agenda rest planned is later this from lt was =
        idle_many (p - next) next p (omega (arith, from)) (omega (arith, lt)) (λ k after less. unplanned_idle k was.until.fits.due_all (λ c. early k less (planned k after (omega (arith, less, lt)) c))) was
      where
        none : (k : ℕ) → k < p → (entry_of turns (get_or layout.order k 0) ≡ (turn, get_or layout.order p 0)) ⊎ Contains rest (entry_of turns (get_or layout.order k 0)) → ⊥
        none k less (inl same) = let one = ap (λ (e : ℕ × ℕ). e.0) same in let up = rises layout.order turns have k p less lt in omega (arith, one, up, this)
        none k less (inr c) =
            let after = All-contains (λ (e : ℕ × ℕ). turn < e.0) rest (entry_of turns (get_or layout.order k 0)) (popped_later turn rest later) c in
            let up = rises layout.order turns have k p less lt in omega (arith, after, up, this)

        early : (k : ℕ) → k < p → Contains agenda (entry_of turns (get_or layout.order k 0)) ⊎ IsUnread net (get_or layout.order k 0) → IsUnread net (get_or layout.order k 0)
        early k less (inl c) =
            absurd (none k less (first_or_other (turn, get_or layout.order p 0) rest (entry_of turns (get_or layout.order k 0)) (subst (λ (es : List (ℕ × ℕ)). Contains es (entry_of turns (get_or layout.order k 0))) is c)))
        early k less (inr unread) = unread

    -- once nothing is planned all streams are made
    pub ended_until : (next : ℕ) (agenda : List (ℕ × ℕ)) → AllPlanned net layout.order turns draft.due.numbers next agenda → (0 < length agenda → ⊥) → next ≤ length layout.order → IsMade next → IsMade (length layout.order)
    ended_until next agenda planned none from was =
        idle_many (length layout.order - next) next (length layout.order) (omega (arith, from)) (omega arith)
        (λ k after less. unplanned_idle k was.until.fits.due_all (λ c. late k (planned k after less c))) was
      where
        late : (k : ℕ) → Contains agenda (entry_of turns (get_or layout.order k 0)) ⊎ IsUnread net (get_or layout.order k 0) → IsUnread net (get_or layout.order k 0)
        late k (inl c) = absurd (none (filled_list agenda (entry_of turns (get_or layout.order k 0)) c))
        late k (inr unread) = unread

-- one stream more is looked at: it is planned, or its turn isn't behind the last that was, or no state reads it
pub planned_more : (turns : StreamTurns) (due : List ℕ) (agenda : List (ℕ × ℕ)) (i last : ℕ) → i < length due → IsPlannedIn turns last agenda (get_or due i 0) → All (IsPlannedIn turns last agenda) (take i due) → All (IsPlannedIn turns last agenda) (take (i + 1) due)
planned_more turns due agenda i last lt this was =
    subst (All (IsPlannedIn turns last agenda)) (sym (take_more due i 0 lt)) (All-push (IsPlannedIn turns last agenda) (take i due) (get_or due i 0) was this)

-- what was planned still is where no entry is lost
pub planned_kept : (turns : StreamTurns) (due : List ℕ) (old new : List (ℕ × ℕ)) (last : ℕ) → ((entry : ℕ × ℕ) → Contains old entry → Contains new entry) → All (IsPlannedIn turns last old) due → All (IsPlannedIn turns last new) due
planned_kept turns due old new last kept was =
    All-weaker (IsPlannedIn turns last old) (IsPlannedIn turns last new) (λ s planned read behind. kept (entry_of turns.turns s) (planned read behind)) due was

-- the part of a list of marked numbers behind those that were known has the newly marked ones
pub fresh_part : (old new : Marks) (more : MarksMore old new) (numbers : List ℕ) (known : ℕ) → numbers ≡ new.numbers → known ≡ length old.numbers → take (length numbers - known) (drop known numbers) ≡ more.added
fresh_part old new more numbers known is at =
    taken_all (drop known numbers) (length numbers - known) (let e = length-drop known numbers in omega (arith, e))
    ∙ ap (drop known) is ∙ ap (λ (m : ℕ). drop m new.numbers) at ∙ fresh_is old new more

-- numbers below a bound are below a greater one
pub below_more : (bound more : ℕ) (numbers : List ℕ) → bound ≤ more → All (λ n. n < bound) numbers → All (λ n. n < more) numbers
below_more bound more numbers up = All-weaker (λ n. n < bound) (λ n. n < more) (λ n lt. omega (arith, lt, up)) numbers
