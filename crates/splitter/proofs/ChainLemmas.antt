-- The lines of queries that publish in turn: their order of work, and what they mean.
use Rattle.std.proofs.Common.{◌≡◌, ◌∙◌, sym, ap, subst, ℕ, ◌-◌, ◌<◌, ◌≤◌, ◌==◌, true, false, cond, List, [], ◌∷◌, ◌++◌, map, append-nil, append_assoc, ◌⊎◌, inl, inr, arith}
use Rattle.std.specs.Prelude.{Contains, IsTrue}
use Rattle.std.specs.List.{All}
use Rattle.std.proofs.lemmas.List.Elements.{All-nil, All-cons, All-contains, All-head, All-tail, All-append, All-map, All-weaker, Contains-append_left, Contains-push, Contains-push_cases}
use Rattle.std.proofs.lemmas.List.Folds.{list_any_none}
use Rattle.event_types.specs.declared.kind.Kind.{Kind}
use Rattle.semantics.proofs.ReadingLemmas.{denote_agrees, reads_first}
use Rattle.semantics.proofs.BirthLemmas.{streams_after-none}
use Rattle.semantics.specs.Births.{streams_after}
use Rattle.semantics.specs.Denotation.{Streams, denote}
use Rattle.semantics.specs.Kinds.{HasKinds}
use Rattle.semantics.specs.Programs.{IsUnborn, Query, published, with_stream}
use Rattle.semantics.specs.Reading.{ReadsOnly}
use Rattle.semantics.specs.TypedPrograms.{PublishInTurn}
use Rattle.expressions.proofs.ProgramLemmas.{with_kinds}
use Rattle.expressions.proofs.TypingLemmas.{typed_kinds}
use Rattle.automaton.proofs.AdditionLemmas.{added_alone, added_in_order}
use Rattle.automaton.specs.Additions.{AreFresh}
use Rattle.automaton.specs.Work.{IsInOrder, completed, is_in}
use Rattle.splitter.specs.Laws.{hidden_streams, split_order}
use Rattle.splitter.specs.Splitting.{parts_of, published_on, split_lines}
use Rattle.splitter.specs.Widths.{MeetWidths}
use Rattle.splitter.proofs.LawLemmas.{in_order, lines_mean_it}
use Rattle.splitter.proofs.OutLemmas.{Within, parts_outs}
use Rattle.splitter.specs.Chains.{HideApart, LeavesHidden, chain_lines, chain_order, hidden_end}
use Rattle.splitter.specs.SourceWidths.{HasWidths}
use Rattle.splitter.proofs.ApartLemmas.{Earlier, Later, any_left, any_right, is_apart, lines_read_none, none_earlier, none_later, order_early, outs_early, outs_in, own_in, range_all}
use Rattle.splitter.proofs.WidthLemmas.{meets_alike, wide_meets}
use Rattle.event_types.proofs.NumberLemmas.{is_same, less_other}
use Rattle.semantics.proofs.ListLemmas.{every}

-- what a query reads has a lower number than its stream
pub reads_below : (kinds : ℕ → List Kind) (there : List ℕ) (query : Query) (order : List Query) → PublishInTurn kinds there (query ∷ order) → ReadsOnly (λ stream. stream < query.stream) query.expr
reads_below kinds there query order turn = reads_first query.stream kinds (kinds query.stream) query.expr turn.2

-- a query's lines work on no stream below its own
pub not_worked : (query : Query) → query.stream < query.hidden → (s : ℕ) → s < query.stream → is_in (split_order query.expr query.stream query.hidden) s ≡ false
not_worked query low s less =
    list_any_none (λ number. s == number) (split_order query.expr query.stream query.hidden)
    (All-append (λ x. (s == x) ≡ false) (hidden_streams query.expr query.hidden) (query.stream ∷ [])
    (range_all (λ x. (s == x) ≡ false) query.hidden (hidden_end query - query.hidden) (λ x above below. less_other s x (omega (arith, low))))
    (All-cons (λ x. (s == x) ≡ false) query.stream [] (less_other s query.stream less) (All-nil (λ x. (s == x) ≡ false))))

module _ (kinds : ℕ → List Kind) where
  -- the streams of the queries behind one
  module _ (query : Query) where
    abbrev Late : ℕ → Type 0
    Late = Later query.stream query.hidden (hidden_end query)

    own_late : (later : Query) → query.stream < later.stream → LeavesHidden query later → Late later.stream
    own_late later after leaves = (after, leaves.0)

    hidden_late : (later : Query) → query.stream < later.stream → later.stream < later.hidden → LeavesHidden query later → (x : ℕ) → later.hidden ≤ x → Late x
    hidden_late later after low leaves x above = (omega (arith, after, low), inr (omega (arith, leaves.1)))

    order_later : (there : List ℕ) (order : List Query) → Contains there query.stream → PublishInTurn kinds there order → All (LeavesHidden query) order → HideApart order → All Late (chain_order order)
    order_later there [] has turn leave apart = All-nil Late
    order_later there (later ∷ order) has turn leave apart =
        let after : query.stream < later.stream = All-contains (λ s. s < later.stream) there query.stream turn.0 has in
        let here : LeavesHidden query later = All-head (LeavesHidden query) later order leave in
        All-append Late (split_order later.expr later.stream later.hidden) (chain_order order)
        (All-append Late (hidden_streams later.expr later.hidden) (later.stream ∷ []) (range_all Late later.hidden (hidden_end later - later.hidden) (λ x above below. hidden_late later after apart.0 here x above))
        (All-cons Late later.stream [] (own_late later after here) (All-nil Late)))
        (order_later (there ++ later.stream ∷ []) order (Contains-append_left there (later.stream ∷ []) query.stream has) turn.3 (All-tail (LeavesHidden query) later order leave) apart.2)

    outs_later : (there : List ℕ) (order : List Query) → Contains there query.stream → PublishInTurn kinds there order → All (LeavesHidden query) order → HideApart order → All (λ line. Late line.out) (chain_lines order)
    outs_later there [] has turn leave apart = All-nil (λ line. Late line.out)
    outs_later there (later ∷ order) has turn leave apart =
        let after : query.stream < later.stream = All-contains (λ s. s < later.stream) there query.stream turn.0 has in
        let here : LeavesHidden query later = All-head (LeavesHidden query) later order leave in
        let parts = parts_of later.expr later.hidden in
        All-append (λ line. Late line.out) (split_lines later.expr later.stream later.hidden) (chain_lines order)
        (All-append (λ line. Late line.out) parts.hidden (map (published_on later.stream) parts.open_lines)
        (All-weaker (λ line. Within later.hidden parts.next line.out) (λ line. Late line.out) (λ line w. hidden_late later after apart.0 here line.out w.above) parts.hidden (parts_outs later.expr later.hidden))
        (All-map (λ line. Late line.out) (published_on later.stream) parts.open_lines (every (λ o. Late later.stream) (λ o. own_late later after here) parts.open_lines)))
        (outs_later (there ++ later.stream ∷ []) order (Contains-append_left there (later.stream ∷ []) query.stream has) turn.3 (All-tail (LeavesHidden query) later order leave) apart.2)

  -- the lines of later queries are fresh
  pub later_fresh : (there : List ℕ) (query : Query) (order : List Query) → PublishInTurn kinds there (query ∷ order) → HideApart (query ∷ order)
      → AreFresh (split_lines query.expr query.stream query.hidden) (split_order query.expr query.stream query.hidden) (chain_lines order) (chain_order order)
  later_fresh there query order turn apart =
      let out = query.stream in
      let e = query.expr in
      let next = query.hidden in
      let last = hidden_end query in
      let reads = reads_below kinds there query order turn in
      let late = order_later query (there ++ out ∷ []) order (Contains-push there out) turn.3 apart.1 apart.2 in
      let late_outs = outs_later query (there ++ out ∷ []) order (Contains-push there out) turn.3 apart.1 apart.2 in
      record {
        unread = lines_read_none e out next apart.0 reads (chain_order order) late;
        outs =
            All-weaker (λ line. Earlier out next last line.out) (λ line. is_in (chain_order order) line.out ≡ false)
            (λ line early. none_later out next last (chain_order order) line.out late early) (split_lines e out next) (outs_early e out next apart.0 reads);
        others_outs =
            All-weaker (λ line. Later out next last line.out) (λ line. is_in (split_order e out next) line.out ≡ false)
            (λ line far. none_earlier out next last (split_order e out next) line.out (order_early e out next apart.0 reads) far) (chain_lines order) late_outs;
        apart =
            All-weaker (Earlier out next last) (λ s. is_in (chain_order order) s ≡ false) (λ s early. none_later out next last (chain_order order) s late early) (split_order e out next)
            (order_early e out next apart.0 reads);
      }

  -- the lines are in the order of work
  pub chain_ordered : (there : List ℕ) (order : List Query) → PublishInTurn kinds there order → HideApart order → IsInOrder (chain_lines order) (chain_order order)
  chain_ordered there [] turn apart = tt
  chain_ordered there (query ∷ order) turn apart =
      added_in_order (split_lines query.expr query.stream query.hidden) (split_order query.expr query.stream query.hidden) (chain_lines order) (chain_order order)
      (in_order query.expr query.stream query.hidden (is_apart query.expr query.stream query.hidden apart.0 (reads_below kinds there query order turn)))
      (chain_ordered (there ++ query.stream ∷ []) order turn.3 apart.2) (later_fresh there query order turn apart)

  -- the streams that are there, once a query's lines are worked on
  module _ (there : List ℕ) (query : Query) (order : List Query) (turn : PublishInTurn kinds there (query ∷ order)) (low : query.stream < query.hidden) (streams plain : Streams) (same : (s : ℕ) → Contains there s → streams s ≡ plain s) where
    abbrev made : Streams
    made = completed (split_lines query.expr query.stream query.hidden) (split_order query.expr query.stream query.hidden) streams

    query_means : MeetWidths query.expr plain → (made query.stream ≡ denote query.expr streams) × ((s : ℕ) → is_in (split_order query.expr query.stream query.hidden) s ≡ false → made s ≡ streams s)
    query_means meet =
        lines_mean_it query.expr query.stream query.hidden streams (is_apart query.expr query.stream query.hidden low (reads_below kinds there query order turn))
        (meets_alike (Contains there) streams plain same query.expr turn.1 meet)

    turn_means : MeetWidths query.expr plain → (s : ℕ) → Contains (there ++ query.stream ∷ []) s → made s ≡ with_stream plain query.stream (denote query.expr plain) s
    turn_means meet s has = go (Contains-push_cases there query.stream s has)
      where
        own : query.stream ≡ s → (s == query.stream) ≡ true
        own same_one = is_same s query.stream (sym same_one)

        go : Contains there s ⊎ (query.stream ≡ s) → made s ≡ with_stream plain query.stream (denote query.expr plain) s
        go (inl was) =
            let less : s < query.stream = All-contains (λ x. x < query.stream) there s turn.0 was in
            (query_means meet).1 s (not_worked query low s less) ∙ same s was ∙ sym (ap (λ b. cond b (denote query.expr plain) (plain s)) (less_other s query.stream less))
        go (inr same_one) =
            ap made (sym same_one) ∙ (query_means meet).0 ∙ denote_agrees (Contains there) streams plain same query.expr turn.1
            ∙ sym (ap (λ b. cond b (denote query.expr plain) (plain s)) (own same_one))

  -- what the lines mean, where no query has a birth
  pub chain_means : (there : List ℕ) (order : List Query) (streams plain : Streams) → PublishInTurn kinds there order → HideApart order → All IsUnborn order → All (λ query. HasWidths kinds query.expr) order
      → ((s : ℕ) → All (HasKinds (kinds s)) (plain s)) → ((s : ℕ) → Contains there s → streams s ≡ plain s)
      → (s : ℕ) → Contains (there ++ map (λ query. query.stream) order) s → completed (chain_lines order) (chain_order order) streams s ≡ published plain order s
  chain_means there [] streams plain turn apart unborn wide have same s has = same s (subst (λ (xs : List ℕ). Contains xs s) (append-nil there) has)
  chain_means there (query ∷ order) streams plain turn apart unborn wide have same s has =
      let wide_one = All-head (λ (q : Query). HasWidths kinds q.expr) query order wide in
      let meet = wide_meets query.stream kinds plain (λ x below. have x) query.expr (kinds query.stream) turn.2 wide_one in
      let done = completed (split_lines query.expr query.stream query.hidden) (split_order query.expr query.stream query.hidden) streams in
      let tuples = denote query.expr plain in
      let uncut : streams_after query.birth plain ≡ plain = ap (λ birth. streams_after birth plain) (All-head IsUnborn query order unborn) ∙ streams_after-none plain in
      let more = there ++ query.stream ∷ [] in
      ap (λ (all : Streams). all s) (added_alone (split_lines query.expr query.stream query.hidden) (split_order query.expr query.stream query.hidden) (chain_lines order) (chain_order order) streams (later_fresh there query order turn apart))
      ∙ chain_means more order done (with_stream plain query.stream tuples) turn.3 apart.2 (All-tail IsUnborn query order unborn) (All-tail (λ (q : Query). HasWidths kinds q.expr) query order wide)
      (with_kinds kinds plain query.stream tuples have (typed_kinds query.expr query.stream kinds (kinds query.stream) plain (λ x below. have x) turn.2)) (turn_means there query order turn apart.0 streams plain same meet) s
      (subst (λ (xs : List ℕ). Contains xs s) (sym (append_assoc there (query.stream ∷ []) (map (λ (q : Query). q.stream) order))) has)
      ∙ ap (λ cut. published (with_stream plain query.stream (denote query.expr cut)) order s) (sym uncut)

-- each line publishes a stream of the order
pub chain_outs : (order : List Query) → All (λ line. IsTrue (is_in (chain_order order) line.out)) (chain_lines order)
chain_outs [] = All-nil (λ line. IsTrue (is_in [] line.out))
chain_outs (query ∷ order) =
    let own = split_order query.expr query.stream query.hidden in
    All-append (λ line. IsTrue (is_in (own ++ chain_order order) line.out)) (split_lines query.expr query.stream query.hidden) (chain_lines order)
    (All-weaker (λ line. is_in own line.out ≡ true) (λ line. IsTrue (is_in (own ++ chain_order order) line.out)) (λ line there. any_left (λ number. line.out == number) own (chain_order order) there) (split_lines query.expr query.stream query.hidden)
    (outs_in query.expr query.stream query.hidden))
    (All-weaker (λ line. IsTrue (is_in (chain_order order) line.out)) (λ line. IsTrue (is_in (own ++ chain_order order) line.out)) (λ line there. any_right (λ number. line.out == number) own (chain_order order) there) (chain_lines order)
    (chain_outs order))

-- each query's stream is worked on
pub chain_has : (order : List Query) → All (λ query. IsTrue (is_in (chain_order order) query.stream)) order
chain_has [] = All-nil (λ query. IsTrue (is_in [] query.stream))
chain_has (query ∷ order) =
    let own = split_order query.expr query.stream query.hidden in
    All-cons (λ q. IsTrue (is_in (own ++ chain_order order) q.stream)) query order
    (any_left (λ number. query.stream == number) own (chain_order order) (own_in query.expr query.stream query.hidden))
    (All-weaker (λ q. IsTrue (is_in (chain_order order) q.stream)) (λ q. IsTrue (is_in (own ++ chain_order order) q.stream)) (λ q there. any_right (λ number. q.stream == number) own (chain_order order) there) order (chain_has order))
