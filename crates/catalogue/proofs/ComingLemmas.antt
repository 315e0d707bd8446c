-- A catalogue to which a query came stands in order.
use Rattle.std.proofs.Common.{◌≡◌, ◌∙◌, ℕ, ◌+◌, ◌-◌, ◌<◌, ◌≤◌, ◌^◌, ◌==◌, ◌||◌, List, [], ◌∷◌, ◌++◌, true, false, length, get_or, map, refl, sym, ap, subst, inl, inr, arith, append-nil, append_assoc}
use Rattle.std.specs.Prelude.{◌↔◌, AllPairs, Contains, IsTrue, Option, Some, None, slice_get}
use Rattle.std.specs.List.{All, list_any, position_or_len, range_with_len}
use Rattle.std.proofs.lemmas.Bool.{cases_lt}
use Rattle.std.proofs.lemmas.Grind.{flat_map-append}
use Rattle.std.proofs.lemmas.List.{get_or_append_left, get_or-append_right, get_or-map, get_or_default, length-append, length-map, length_push, map-append}
use Rattle.std.proofs.lemmas.List.Elements.{All-append, All-cons, All-head, All-nil, All-push, All-tail, All-weaker, Contains-append_cases, Contains-append_left, Contains-append_right, Contains-get_or}
use Rattle.std.proofs.lemmas.List.FromFn.{get_or-map-range_with_len, length-range_with_len}
use Rattle.std.proofs.lemmas.List.Quantifiers.{all_pairs_push}
use Rattle.std.proofs.lemmas.List.Sums.{sum_by-append}
use Rattle.std.proofs.lemmas.Option.{get_or_from_slice_get, slice_get-get_or, slice_get_within}
use Rattle.event_types.specs.declared.kind.Kind.{Kind}
use Rattle.event_types.proofs.NumberLemmas.{self_equal}
use Rattle.automaton.specs.declared.line.Line.{Line}
use Rattle.automaton.specs.declared.layout.Layout.{Layout}
use Rattle.automaton.specs.Layouts.{LayoutFits, grown}
use Rattle.catalogue.specs.Leaving.{lines_many}
use Rattle.catalogue.specs.Sharing.{shares_of, streams_many as worked_many, with_share}
use Rattle.automaton.specs.LineKinds.{LineFits}
use Rattle.automaton.specs.Work.{IsInOrder, is_in}
use Rattle.expressions.specs.declared.expression.Expr.{Expr}
use Rattle.expressions.specs.Views.{ex_of}
use Rattle.semantics.specs.Expressions.{Ex, Read}
use Rattle.semantics.specs.Programs.{Program, Query}
use Rattle.semantics.specs.Typing.{IsTypedOver}
use Rattle.splitter.specs.declared.open.Open.{Open}
use Rattle.splitter.specs.Chains.{LeavesHidden, hidden_end, lines_of, outs_of, work_order}
use Rattle.splitter.specs.Growing.{GrowInTurn}
use Rattle.splitter.specs.Laws.{hidden_streams, split_order}
use Rattle.splitter.specs.ProgramLaws.{IsWideProgram}
use Rattle.splitter.specs.Splitting.{parts_of, published_on, split_lines}
use Rattle.splitter.proofs.ApartLemmas.{any_left, any_right, own_in, range_all, reads_weaker}
use Rattle.splitter.proofs.ChainLemmas.{chain_ordered, chain_outs}
use Rattle.splitter.proofs.FewLemmas.{size}
use Rattle.splitter.proofs.GrowLemmas.{IsLonger, fits_longer, get_longer, grow_fits, grow_has, grow_same, longer, longer_twice}
use Rattle.splitter.proofs.LineLemmas.{get_next}
use Rattle.splitter.proofs.NumberingLemmas.{parts_up}
use Rattle.splitter.proofs.SplitLemmas.{some_lines}
use Rattle.stream_schema.specs.Schema.{kinds_of}
use Rattle.stream_schema.specs.Streams.{Entry, IsRetired, hidden_entries, hidden_entry, retired_name, stream_names}
use Rattle.cel_grammar.specs.Views.{statement_of}
use Rattle.cel_types.specs.SourceLaws.{kinds_in}
use Rattle.cel_types.proofs.QueryLaws.{query-typed}
use Rattle.catalogue.specs.declared.adding.Coming.{Coming}
use Rattle.catalogue.specs.declared.adding.Added.{Added}
use Rattle.catalogue.specs.declared.sharing.Shares.{Shares}
use Rattle.catalogue.specs.declared.numbering.Published.{Published}
use Rattle.catalogue.specs.Catalogued.{Catalogued, program_in, queries_of, query_in, query_of, work_in}
use Rattle.catalogue.specs.Changes.{MayCome, streams_there, with_query}
use Rattle.catalogue.specs.Coming.{HasCome, IsLatest, IsTold, coming}
use Rattle.catalogue.specs.Fitting.{MayTell}
use Rattle.catalogue.specs.Taking.{IsFit, added_of}
use Rattle.catalogue.specs.Standing.{AreEnds, IsKnown, IsLayoutOver, IsUpTo, StandsInOrder}
use Rattle.catalogue.specs.Tables.{IsHeld}
use Rattle.catalogue.specs.Tallies.{AddsReads}
use Rattle.catalogue.proofs.TallyLemmas.{tallied_more}
use Rattle.catalogue.specs.Typing.{published_by}
use Rattle.catalogue.proofs.ChangeLemmas.{one-is, programs_keep_kinds, programs_take_queries}
use Rattle.catalogue.proofs.FittingLemmas.{grow_by, reads_below, reads_there}
use Rattle.catalogue.proofs.LoadedLemmas.{range_on}
use Rattle.catalogue.proofs.OrderedLemmas.{at_end, ends_more, map_range, numbers_more, position_at}
use Rattle.catalogue.proofs.PermutationLemmas.{to_range}
use Rattle.catalogue.proofs.StandLemmas.{Contains-map}
use Rattle.catalogue.proofs.StandingLemmas.{queries_many}
use Rattle.catalogue.proofs.TurnLemmas.{gives_alike, kinds_at, kinds_before}
use Rattle.catalogue.proofs.WideLemmas.{query_wide, wide_alike}

-- a query keeps its name where streams come behind, by induction on the queries
queries_push : (old more : List Entry) (published : List Published) (xs : List Expr) (p : Published) (x : Expr) → length published ≡ length xs → All (λ query. query.stream < length old) (queries_of old published xs)
    → queries_of (old ++ more) (published ++ p ∷ []) (xs ++ x ∷ []) ≡ queries_of old published xs ++ query_of (old ++ more) p x ∷ []
queries_push old more [] [] p x same low = refl
queries_push old more [] (y ∷ xs) p x same low = absurd (omega (arith, same))
queries_push old more (r ∷ published) [] p x same low = absurd (omega (arith, same))
queries_push old more (r ∷ published) (y ∷ xs) p x same low =
    let rest = queries_push old more published xs p x (omega (arith, same)) (All-tail (λ (q : Query). q.stream < length old) (query_of old r y) (queries_of old published xs) low) in
    let first : r.stream < length old = All-head (λ (q : Query). q.stream < length old) (query_of old r y) (queries_of old published xs) low in
    let within : r.stream < length (stream_names old) = omega (arith, first, length-map old (λ (e : Entry). e.name)) in
    let name : get_or (stream_names (old ++ more)) r.stream [] ≡ get_or (stream_names old) r.stream [] =
    ap (λ ns. get_or ns r.stream []) (map-append (λ (e : Entry). e.name) old more) ∙ get_or_append_left (stream_names old) (stream_names more) [] r.stream within in
    λ i. record { name = name i; stream = r.stream; hidden = r.hidden; expr = ex_of y; birth = r.birth } ∷ rest i

module _ (c : Catalogued) (stands : StandsInOrder c) (query : Coming) (fit : IsFit c.streams (added_of query)) (birth : Option ℕ) (latest : IsLatest birth c) (tells : Added) (grows : MayTell c (added_of query) tells) where
  abbrev n : ℕ
  n = length c.streams

  abbrev m : ℕ
  m = length c.order

  abbrev e : Ex
  e = ex_of query.expr

  abbrev pub new_query : Query
  new_query = coming c (added_of query) birth

  abbrev own : Entry
  own = published_by (statement_of query.statement) query.schema

  abbrev hidden : List Entry
  hidden = hidden_entries (n + 1) (hidden_end new_query - (n + 1))

  abbrev new_lines : List Line
  new_lines = split_lines e n (n + 1)

  -- the layout then
  abbrev pub later_layout : Layout
  later_layout = grown c.layout tells.growth

  -- the catalogue then
  abbrev pub come_of : Catalogued
  come_of = record {
    file = c.file;
    declared = c.declared;
    streams = c.streams ++ own ∷ hidden;
    order = c.order ++ m ∷ [];
    published = c.published ++ record { stream = n; hidden = n + 1; birth = birth } ∷ [];
    expressions = c.expressions ++ query.expr ∷ [];
    ends = c.ends ++ range_with_len c.next_end (length new_lines);
    next_end = c.next_end + length new_lines;
    layout = later_layout;
  }

  -- a stream that is there is a stream of the table
  there_low : (stream : ℕ) → Contains (streams_there (program_in c)) stream → stream < n
  there_low stream has = ((stands.known stream).0 has).within

  work_low : All (λ q. q.stream < n) (work_in c)
  work_low k d inside =
      there_low (get_or (work_in c) k d).stream
      (Contains-append_right (range_with_len 0 c.declared) (map (λ (q : Query). q.stream) (work_in c)) (get_or (work_in c) k d).stream
      (Contains-map (λ (q : Query). q.stream) (work_in c) (get_or (work_in c) k d) (Contains-get_or (work_in c) k d inside)))

  work_many : length (work_in c) ≡ m
  work_many = queries_many c.streams c.published c.expressions (stands.publish ∙ sym stands.express) ∙ stands.express

  new_name : get_or (stream_names (c.streams ++ own ∷ hidden)) n [] ≡ own.name
  new_name =
      let names : stream_names (c.streams ++ own ∷ hidden) ≡ stream_names c.streams ++ own.name ∷ stream_names hidden = map-append (λ (s : Entry). s.name) c.streams (own ∷ hidden) in
      let found : slice_get (stream_names c.streams ++ own.name ∷ stream_names hidden) n ≡ Some own.name = ap (slice_get (stream_names c.streams ++ own.name ∷ stream_names hidden)) (sym (length-map c.streams (λ (s : Entry). s.name))) ∙ get_next (stream_names c.streams) own.name (stream_names hidden) in
      ap (λ ns. get_or ns n []) names ∙ get_or_from_slice_get (stream_names c.streams ++ own.name ∷ stream_names hidden) n own.name [] found

  -- it is worked on last
  pub work_is : work_in come_of ≡ work_in c ++ new_query ∷ []
  work_is =
      queries_push c.streams (own ∷ hidden) c.published c.expressions (record { stream = n; hidden = n + 1; birth = birth }) query.expr (stands.publish ∙ sym stands.express) work_low
      ∙ ap (λ name. work_in c ++ (record { name = name; stream = n; hidden = n + 1; expr = e; birth = birth }) ∷ []) new_name

  abbrev none : Query
  none = record { name = []; stream = 0; hidden = 0; expr = Read 0; birth = None }

  old_query : (k : ℕ) → k < m → query_in come_of k ≡ query_in c k
  old_query k small =
      let (i, within, same) = (stands.numbered.all k).1 small in
      let here : get_or c.order i 0 ≡ k = sym (get_or_default c.order i k 0 within) ∙ same in
      let inside : i < length (c.order ++ m ∷ []) = omega (arith, within, length_push c.order m) in
      let there : get_or (c.order ++ m ∷ []) i 0 ≡ k = get_or_append_left c.order (m ∷ []) 0 i within ∙ here in
      let old_place : position_or_len (λ other. k == other) c.order ≡ i = subst (λ q. position_or_len (λ other. q == other) c.order ≡ i) here (position_at c.order stands.numbered.distinct i within) in
      let new_place : position_or_len (λ other. k == other) (c.order ++ m ∷ []) ≡ i = subst (λ q. position_or_len (λ other. q == other) (c.order ++ m ∷ []) ≡ i) there (position_at (c.order ++ m ∷ []) (numbers_more c.order stands.numbered).distinct i inside) in
      (λ j. get_or (work_is j) (new_place j) none) ∙ get_or_append_left (work_in c) (new_query ∷ []) none i (omega (arith, within, work_many)) ∙ ap (λ p. get_or (work_in c) p none) (sym old_place)

  last_query : query_in come_of m ≡ new_query
  last_query =
      let inside : m < length (c.order ++ m ∷ []) = omega (arith, length_push c.order m) in
      let there : get_or (c.order ++ m ∷ []) m 0 ≡ m = at_end c.order m 0 m refl in
      let place : position_or_len (λ other. m == other) (c.order ++ m ∷ []) ≡ m = subst (λ q. position_or_len (λ other. q == other) (c.order ++ m ∷ []) ≡ m) there (position_at (c.order ++ m ∷ []) (numbers_more c.order stands.numbered).distinct m inside) in
      (λ j. get_or (work_is j) (place j) none) ∙ at_end (work_in c) new_query none m (sym work_many)

  all_queries : map (query_in come_of) (range_with_len 0 (length (c.order ++ m ∷ []))) ≡ map (query_in c) (range_with_len 0 m) ++ new_query ∷ []
  all_queries =
      let zero_m : 0 + m ≡ m = omega arith in
      let numbers : range_with_len 0 (length (c.order ++ m ∷ [])) ≡ range_with_len 0 m ++ m ∷ [] =
      ap (range_with_len 0) (length_push c.order m) ∙ sym (range_on 0 m 1) ∙ ap (λ k. range_with_len 0 m ++ k ∷ []) zero_m in
      ap (map (query_in come_of)) numbers ∙ map-append (query_in come_of) (range_with_len 0 m) (m ∷ [])
      ∙ (λ j. map_range (query_in come_of) (query_in c) 0 m (λ k up below. old_query k (omega (arith, below))) j ++ last_query j ∷ [])

  -- its program has the query behind the others
  pub program_is : program_in come_of ≡ with_query (program_in c) new_query
  program_is = λ j. record { declared = c.declared; queries = all_queries j; order = work_is j }

  old_lists : List (List Kind)
  old_lists = c.layout.kinds

  -- numbers
  abbrev end : ℕ
  end = hidden_end new_query

  up : n + 1 ≤ end
  up = parts_up e (n + 1)

  streams_many : length (c.streams ++ own ∷ hidden) ≡ end
  streams_many =
      let all = length-append c.streams (own ∷ hidden) in
      let many = length-map (range_with_len (n + 1) (end - (n + 1))) hidden_entry ∙ length-range_with_len (n + 1) (end - (n + 1)) in omega (arith, all, many, up)

  abbrev layout_n : ℕ
  layout_n = length c.layout.kinds

  same_n : layout_n ≡ n
  same_n = stands.laid.long

  abbrev lists : List (List Kind)
  lists = c.layout.kinds ++ kinds_of query.schema ∷ []

  -- the layout grew by its lines
  lines_are : tells.lines ≡ new_lines
  lines_are = grows.lines.lines_are ∙ ap (λ k. split_lines e k (k + 1)) same_n

  pub grew : GrowInTurn lists new_lines later_layout.kinds
  grew = subst (λ (ls : List Line). GrowInTurn lists ls later_layout.kinds) lines_are grows.lines.kinds

  pub kinds_many : length later_layout.kinds ≡ end
  kinds_many =
      let by = grow_by c stands (added_of query) fit in
      let here : GrowInTurn lists new_lines by.all = subst (λ k. GrowInTurn lists (split_lines e k (k + 1)) by.all) same_n by.grow in
      ap length (grow_same lists new_lines later_layout.kinds by.all grew here) ∙ by.size ∙ ap (λ k. (parts_of e (k + 1)).next) same_n

  -- numbers are left for its streams
  pub kinds_up : length c.layout.kinds + 1 ≤ length later_layout.kinds
  kinds_up = omega (arith, kinds_many, up, same_n)

  longer_kinds : IsLonger c.layout.kinds later_layout.kinds
  longer_kinds = longer_twice c.layout.kinds lists later_layout.kinds (record { more = kinds_of query.schema ∷ []; is = refl }) (longer lists new_lines later_layout.kinds grew)

  -- the query came
  pub has_come : HasCome c (added_of query) birth come_of
  has_come = record { file = refl; declared = refl; streams = refl; order = refl; program = program_is; ends = refl; next_end = refl; more = longer_kinds.more; kinds = longer_kinds.is }

  -- the kinds of the streams
  abbrev kinds : ℕ → List Kind
  kinds = kinds_in (c.streams ++ own ∷ hidden)

  alike : (stream : ℕ) → stream < n → kinds_in c.streams stream ≡ kinds stream
  alike stream less = kinds_before c.streams (own ∷ hidden) (c.streams ++ own ∷ hidden) refl stream less

  own_kinds : kinds n ≡ kinds_of query.schema
  own_kinds = kinds_at c.streams hidden (c.streams ++ own ∷ hidden) own refl

  may_come : MayCome kinds (program_in c) new_query
  may_come =
      let typed = query-typed c.streams (statement_of query.statement) query.schema e fit.typed in
      record {
        behind = λ k d inside. there_low (get_or (streams_there (program_in c)) k d) (Contains-get_or (streams_there (program_in c)) k d inside);
        reads = reads_there c stands (added_of query) fit;
        typed = subst (IsTypedOver e n kinds) (sym own_kinds) (gives_alike n (kinds_in c.streams) kinds alike e (kinds_of query.schema) typed);
        wide = wide_alike (kinds_in c.streams) kinds e (reads_weaker (λ stream. stream < n) (λ stream. kinds_in c.streams stream ≡ kinds stream) alike e (reads_below c stands (added_of query) fit)) (query_wide c.streams (statement_of query.statement) query.schema e fit.typed);
        hides = omega arith;
        apart = All-weaker (λ (q : Query). hidden_end q ≤ n) (λ earlier. LeavesHidden earlier new_query) (λ q ends. (inr ends, omega (arith, ends))) (work_in c) stands.within;
      }

  abbrev wider : Program
  wider = with_query (program_in c) new_query

  pub wide : IsWideProgram kinds wider
  wide = programs_take_queries kinds (program_in c) new_query (programs_keep_kinds (kinds_in c.streams) kinds (program_in c) n alike work_low stands.wide) may_come

  -- the streams that are there then
  there_are : streams_there wider ≡ streams_there (program_in c) ++ n ∷ []
  there_are =
      ap (λ ns. range_with_len 0 c.declared ++ ns) (map-append (λ (q : Query). q.stream) (work_in c) (new_query ∷ []))
      ∙ sym (append_assoc (range_with_len 0 c.declared) (map (λ (q : Query). q.stream) (work_in c)) (n ∷ []))

  abbrev all : List Entry
  all = c.streams ++ own ∷ hidden

  abbrev names : List (List ℕ)
  names = stream_names c.streams ++ own.name ∷ stream_names hidden

  names_are : stream_names all ≡ names
  names_are = map-append (λ (s : Entry). s.name) c.streams (own ∷ hidden)

  names_many : length (stream_names c.streams) ≡ n
  names_many = length-map c.streams (λ (s : Entry). s.name)

  old_name : (stream : ℕ) → stream < n → slice_get (stream_names all) stream ≡ slice_get (stream_names c.streams) stream
  old_name stream below =
      let inside : stream < length (stream_names c.streams) = omega (arith, below, names_many) in
      let inside_all : stream < length names = omega (arith, inside, length-append (stream_names c.streams) (own.name ∷ stream_names hidden)) in
      ap (λ ns. slice_get ns stream) names_are ∙ slice_get-get_or names stream [] inside_all
      ∙ ap Some (get_or_append_left (stream_names c.streams) (own.name ∷ stream_names hidden) [] stream inside) ∙ sym (slice_get-get_or (stream_names c.streams) stream [] inside)

  own_name : slice_get (stream_names all) n ≡ Some own.name
  own_name = ap (λ ns. slice_get ns n) names_are ∙ ap (slice_get names) (sym names_many) ∙ get_next (stream_names c.streams) own.name (stream_names hidden)

  -- a stream behind the query's own is hidden
  hidden_at : (stream : ℕ) (d : Entry) → n < stream → stream < length all → get_or all stream d ≡ hidden_entry stream
  hidden_at stream d past within =
      let place = stream - (n + 1) in
      let small : place < end - (n + 1) = omega (arith, past, within, streams_many) in
      let longer_by : length (c.streams ++ own ∷ []) ≡ n + 1 = length_push c.streams own in
      ap (λ (ss : List Entry). get_or ss stream d) (sym (append_assoc c.streams (own ∷ []) hidden)) ∙ get_or-append_right (c.streams ++ own ∷ []) hidden (n + 1) stream d longer_by (omega (arith, past))
      ∙ get_or-map-range_with_len hidden_entry (n + 1) (end - (n + 1)) place stream d small (omega (arith, past))

  hidden_retired : (stream : ℕ) → n < stream → stream < length all → IsRetired all stream
  hidden_retired stream past within =
      slice_get-get_or (stream_names all) stream [] (omega (arith, within, length-map all (λ (s : Entry). s.name)))
      ∙ ap Some (get_or-map (λ (s : Entry). s.name) all stream (hidden_entry stream) [] within ∙ ap (λ (s : Entry). s.name) (hidden_at stream (hidden_entry stream) past within))

  known : (stream : ℕ) → Contains (streams_there wider) stream ↔ IsKnown all stream
  known stream = (
    (λ has. elim (Contains-append_cases (streams_there (program_in c)) (n ∷ []) stream (subst (λ ns. Contains ns stream) there_are has)) [
      | inl before ↦
          let old : IsKnown c.streams stream = (stands.known stream).0 before in
          record { within = omega (arith, old.within, length-append c.streams (own ∷ hidden)); named = λ retired. old.named (sym (old_name stream old.within) ∙ retired) }
      | inr last ↦
          let is : stream ≡ n = one-is n stream last in
          record {
            within = omega (arith, is, streams_many, up);
            named = λ retired. (let both : Some own.name ≡ Some (retired_name n) = sym own_name ∙ ap (slice_get (stream_names all)) (sym is) ∙ retired ∙ ap (λ k. Some (retired_name k)) is in let same : own.name ≡ retired_name n = cc in fit.own n same);
          }
    ]),
    (λ is. subst (λ ns. Contains ns stream) (sym there_are) (elim (cases_lt stream n) [
      | inl below ↦ Contains-append_left (streams_there (program_in c)) (n ∷ []) stream ((stands.known stream).1 (record { within = below; named = λ retired. is.named (old_name stream below ∙ retired) }))
      | inr past ↦ elim (cases_lt n stream) [
        | inl behind ↦ absurd (is.named (hidden_retired stream behind is.within))
        | inr here ↦ let same : n ≡ stream = omega (arith, past, here) in Contains-append_right (streams_there (program_in c)) (n ∷ []) stream (0, omega arith, same)
      ]
    ])),
  )

  -- the declared streams come first
  declared_low : c.declared ≤ n
  declared_low = elim (cases_lt n c.declared) [
    | inl more ↦
        let has : Contains (streams_there (program_in c)) n = Contains-append_left (range_with_len 0 c.declared) (map (λ (q : Query). q.stream) (work_in c)) n (to_range c.declared n more) in
        absurd (let low = there_low n has in omega (arith, low))
    | inr few ↦ few
  ]

  told : (stream : ℕ) (entry : Entry) → slice_get all stream ≡ Some entry → (entry.declared ≡ true) ↔ (stream < c.declared)
  told stream entry there =
      let within : stream < length all = slice_get_within all stream entry there in
      let is : get_or all stream entry ≡ entry = get_or_from_slice_get all stream entry entry there in
      elim (cases_lt stream n) [
        | inl front ↦ stands.told stream entry (slice_get-get_or c.streams stream entry front ∙ ap Some (sym (get_or_append_left c.streams (own ∷ hidden) entry stream front) ∙ is))
        | inr past ↦
            let other : entry.declared ≡ false = elim (cases_lt n stream) [
              | inl behind ↦ ap (λ (s : Entry). s.declared) (sym is ∙ hidden_at stream entry behind within)
              | inr here ↦
                  let same : stream ≡ n = omega (arith, past, here) in
                  let at : Some entry ≡ Some own = sym there ∙ ap (slice_get all) same ∙ get_next c.streams own hidden in
                  ap (λ (s : Entry). s.declared) (let e : entry ≡ own = cc in e)
            ] in
            ((λ yes. absurd cc), (λ less. absurd (omega (arith, less, past, declared_low))))
      ]

  -- births ascend
  born : AllPairs (λ earlier later. IsUpTo earlier.birth later.birth) (work_in c ++ new_query ∷ [])
  born = all_pairs_push (λ (earlier : Query) (later : Query). IsUpTo earlier.birth later.birth) (work_in c) new_query stands.born (λ k d inside. latest k d inside)

  within : All (λ q. hidden_end q ≤ length all) (work_in c ++ new_query ∷ [])
  within =
      All-push (λ (q : Query). hidden_end q ≤ length all) (work_in c) new_query
      (All-weaker (λ (q : Query). hidden_end q ≤ n) (λ (q : Query). hidden_end q ≤ length all) (λ q ends. omega (arith, ends, streams_many, up)) (work_in c) stands.within) (omega (arith, streams_many))

  -- its lines
  chained : lines_of wider ≡ lines_of (program_in c) ++ new_lines
  chained = flat_map-append (λ (q : Query). split_lines q.expr q.stream q.hidden) (work_in c) (new_query ∷ []) ∙ ap (λ ls. lines_of (program_in c) ++ ls) (append-nil new_lines)

  ordered : work_order wider ≡ work_order (program_in c) ++ split_order e n (n + 1)
  ordered = flat_map-append (λ (q : Query). split_order q.expr q.stream q.hidden) (work_in c) (new_query ∷ []) ∙ ap (λ ns. work_order (program_in c) ++ ns) (append-nil (split_order e n (n + 1)))

  ended : AreEnds (lines_of wider) come_of.ends come_of.next_end
  ended = subst (λ (ls : List Line). AreEnds ls come_of.ends come_of.next_end) (sym chained) (ends_more (lines_of (program_in c)) new_lines c.ends c.next_end stands.ended)

  few : size (lines_of wider) < 2 ^ 64
  few = let both = ap size chained ∙ sum_by-append (λ (line : Line). 1 + length line.hops) (lines_of (program_in c)) new_lines in let new_few = fit.few.lines n (n + 1) in omega (arith, both, new_few, grows.few)

  -- each stream of the order has a line
  abbrev HasLine : List Line → ℕ → Type 0
  HasLine lines stream = IsTrue (list_any (λ line. line.out == stream) lines)

  own_line : (opens : List Open) → 0 < length opens → HasLine (map (published_on n) opens) n
  own_line [] some = absurd (omega (arith, some))
  own_line (line ∷ opens) some = ap (λ b. b || list_any (λ (l : Line). l.out == n) (map (published_on n) opens)) (self_equal n)

  hidden_lines : All (HasLine new_lines) (hidden_streams e (n + 1))
  hidden_lines =
      range_all (HasLine new_lines) (n + 1) (end - (n + 1))
      (λ x above below. grow_has lists new_lines later_layout.kinds grew x (omega (arith, above, same_n, length_push c.layout.kinds (kinds_of query.schema))) (omega (arith, below, kinds_many, up)))

  own_lines : All (HasLine new_lines) (split_order e n (n + 1))
  own_lines =
      All-append (HasLine new_lines) (hidden_streams e (n + 1)) (n ∷ []) hidden_lines
      (All-cons (HasLine new_lines) n [] (any_right (λ (l : Line). l.out == n) (parts_of e (n + 1)).hidden (map (published_on n) (parts_of e (n + 1)).open_lines) (own_line (parts_of e (n + 1)).open_lines (some_lines e (n + 1)))) (All-nil (HasLine new_lines)))

  order_is : later_layout.order ≡ c.layout.order ++ split_order e n (n + 1)
  order_is = grows.lines.order ∙ ap (λ k. c.layout.order ++ split_order e k (k + 1)) same_n

  all_lines : All (HasLine (lines_of (program_in c) ++ new_lines)) (c.layout.order ++ split_order e n (n + 1))
  all_lines =
      All-append (HasLine (lines_of (program_in c) ++ new_lines)) c.layout.order (split_order e n (n + 1))
      (All-weaker (HasLine (lines_of (program_in c))) (HasLine (lines_of (program_in c) ++ new_lines)) (λ s has. any_left (λ (l : Line). l.out == s) (lines_of (program_in c)) new_lines has) c.layout.order stands.laid.fits.only_outs)
      (All-weaker (HasLine new_lines) (HasLine (lines_of (program_in c) ++ new_lines)) (λ s has. any_right (λ (l : Line). l.out == s) (lines_of (program_in c)) new_lines has) (split_order e n (n + 1)) own_lines)

  all_fit : All (LineFits later_layout.kinds) (lines_of (program_in c) ++ new_lines)
  all_fit =
      All-append (LineFits later_layout.kinds) (lines_of (program_in c)) new_lines
      (All-weaker (LineFits c.layout.kinds) (LineFits later_layout.kinds) (λ line fits. fits_longer c.layout.kinds later_layout.kinds line longer_kinds fits) (lines_of (program_in c)) stands.laid.fits.typed)
      (grow_fits lists new_lines later_layout.kinds grew)

  work_is_order : later_layout.order ≡ work_order wider
  work_is_order = order_is ∙ ap (λ ns. ns ++ split_order e n (n + 1)) stands.laid.order ∙ sym ordered

  outs_are : later_layout.outs ≡ outs_of wider
  outs_are =
      grows.lines.outs ∙ (λ i. stands.laid.outs i ++ same_n i ∷ []) ∙ sym (map-append (λ (q : Query). q.stream) (program_in c).queries (new_query ∷ []))

  printed : All (λ stream. IsTrue (is_in later_layout.order stream)) later_layout.outs
  printed =
      subst (λ (s : List ℕ × List ℕ). All (λ stream. IsTrue (is_in s.0 stream)) s.1) (λ i. (sym order_is i, sym (grows.lines.outs ∙ (λ j. c.layout.outs ++ same_n j ∷ [])) i))
      (All-push (λ stream. IsTrue (is_in (c.layout.order ++ split_order e n (n + 1)) stream)) c.layout.outs n
      (All-weaker (λ stream. IsTrue (is_in c.layout.order stream)) (λ stream. IsTrue (is_in (c.layout.order ++ split_order e n (n + 1)) stream)) (λ s has. any_left (λ number. s == number) c.layout.order (split_order e n (n + 1)) has) c.layout.outs stands.laid.fits.printed)
      (any_right (λ number. n == number) c.layout.order (split_order e n (n + 1)) (own_in e n (n + 1))))

  fits : LayoutFits (lines_of wider) later_layout
  fits = record {
    typed = subst (All (LineFits later_layout.kinds)) (sym chained) all_fit;
    in_order = subst (IsInOrder (lines_of wider)) (sym work_is_order) (chain_ordered kinds (range_with_len 0 c.declared) wider.order wide.typed.in_turn wide.apart);
    all_outs = subst (λ (ns : List ℕ). All (λ (line : Line). IsTrue (is_in ns line.out)) (lines_of wider)) (sym work_is_order) (chain_outs wider.order);
    only_outs = subst (λ (s : List Line × List ℕ). All (HasLine s.0) s.1) (λ i. (sym chained i, sym order_is i)) all_lines;
    printed = printed;
  }

  laid_kinds : All (λ stream. slice_get later_layout.kinds stream ≡ Some (kinds stream)) (streams_there wider)
  laid_kinds =
      subst (All (λ stream. slice_get later_layout.kinds stream ≡ Some (kinds stream))) (sym there_are)
      (All-push (λ stream. slice_get later_layout.kinds stream ≡ Some (kinds stream)) (streams_there (program_in c)) n
      (λ k d inside.
      let stream = get_or (streams_there (program_in c)) k d in
      let low : get_or (streams_there (program_in c)) k d < n = there_low (get_or (streams_there (program_in c)) k d) (Contains-get_or (streams_there (program_in c)) k d inside) in
      get_longer c.layout.kinds later_layout.kinds stream (kinds_in c.streams stream) longer_kinds (stands.laid.kinds k d inside) ∙ ap Some (alike stream low))
      (get_longer lists later_layout.kinds n (kinds_of query.schema) (longer lists new_lines later_layout.kinds grew) (ap (slice_get lists) (sym same_n) ∙ get_next c.layout.kinds (kinds_of query.schema) []) ∙ ap Some (sym own_kinds)))

  laid : IsLayoutOver all wider later_layout
  laid = record { order = work_is_order; outs = outs_are; long = kinds_many ∙ sym streams_many; kinds = laid_kinds; fits = fits }

  -- it stands in order
  pub come_stands : StandsInOrder come_of
  come_stands = record {
    wide = subst (IsWideProgram kinds) (sym program_is) wide;
    told = told;
    known = subst (λ (p : Program). (stream : ℕ) → Contains (streams_there p) stream ↔ IsKnown all stream) (sym program_is) known;
    publish = omega (arith, length_push c.published (record { stream = n; hidden = n + 1; birth = birth }), length_push c.order m, stands.publish);
    express = omega (arith, length_push c.expressions query.expr, length_push c.order m, stands.express);
    numbered = numbers_more c.order stands.numbered;
    born = subst (AllPairs (λ earlier later. IsUpTo earlier.birth later.birth)) (sym work_is) born;
    ended = subst (λ (p : Program). AreEnds (lines_of p) come_of.ends come_of.next_end) (sym program_is) ended;
    within = subst (All (λ q. hidden_end q ≤ length all)) (sym work_is) within;
    laid = subst (λ (p : Program). IsLayoutOver all p later_layout) (sym program_is) laid;
    few = subst (λ (p : Program). size (lines_of p) < 2 ^ 64) (sym program_is) few;
  }

  -- its share is that of its lines
  order_many : length tells.growth.order ≡ length (split_order e n (n + 1))
  order_many = omega (arith, ap length order_is, length-append c.layout.order tells.growth.order, length-append c.layout.order (split_order e n (n + 1)))

  -- and is held with its lines and shares
  pub come_held : (lines : List Line) (shares : Shares) (reads new_reads : List ℕ) → IsHeld c lines shares reads → AddsReads (ex_of query.expr) reads new_reads
      → IsHeld come_of (lines ++ tells.lines) (with_share shares (record { lines = length tells.lines; streams = length tells.growth.order })) new_reads
  come_held lines shares reads new_reads held adds = record {
    stands = come_stands;
    lines_are = (λ i. held.lines_are i ++ lines_are i) ∙ sym chained ∙ ap lines_of (sym program_is);
    shared =
        (λ i. with_share (held.shared i) (record { lines = length (lines_are i); streams = order_many i }))
        ∙ (λ i. record { lines = sym (map-append lines_many (work_in c) (new_query ∷ [])) i; streams = sym (map-append worked_many (work_in c) (new_query ∷ [])) i }) ∙ ap shares_of (sym work_is);
    tallied = tallied_more c.expressions reads new_reads query.expr held.tallied adds;
  }

  -- what is made is this catalogue
  pub made_is : (name : List ℕ) (stream many lines_many : ℕ) (streams : List Entry) (order : List ℕ) (published : List Published) (expressions : List Expr) (ends : List ℕ) → name ≡ own.name → stream ≡ length c.layout.kinds → many ≡ length later_layout.kinds - (stream + 1)
      → lines_many ≡ length tells.lines → streams ≡ c.streams ++ record { name = name; schema = query.schema; declared = false } ∷ hidden_entries (length c.streams + 1) many → order ≡ c.order ++ m ∷ []
      → published ≡ c.published ++ record { stream = stream; hidden = stream + 1; birth = birth } ∷ [] → expressions ≡ c.expressions ++ query.expr ∷ [] → ends ≡ c.ends ++ tells.ends
      → (record { file = c.file; declared = c.declared; streams = streams; order = order; published = published; expressions = expressions; ends = ends; next_end = c.next_end + lines_many; layout = later_layout }) ≡ come_of
  made_is name stream many lines_many streams order published expressions ends name_is stream_is many_is lines_is streams_is order_is published_is expressions_is ends_is =
      let stream_n : stream ≡ n = stream_is ∙ same_n in
      let many_end : many ≡ end - (n + 1) = omega (arith, many_is, stream_n, kinds_many) in
      let lines_many_is : lines_many ≡ length new_lines = lines_is ∙ ap length lines_are in
      let streams_are : streams ≡ c.streams ++ own ∷ hidden = streams_is ∙ (λ i. c.streams ++ record { name = name_is i; schema = query.schema; declared = false } ∷ hidden_entries (length c.streams + 1) (many_end i)) in
      let published_are : published ≡ c.published ++ record { stream = n; hidden = n + 1; birth = birth } ∷ [] = published_is ∙ (λ i. c.published ++ record { stream = stream_n i; hidden = stream_n i + 1; birth = birth } ∷ []) in
      let ends_are : ends ≡ c.ends ++ range_with_len c.next_end (length new_lines) = ends_is ∙ ap (λ ns. c.ends ++ ns) (grows.ends ∙ ap (λ ls. range_with_len c.next_end (length ls)) lines_are) in
      λ i. record {
        file = c.file;
        declared = c.declared;
        streams = streams_are i;
        order = order_is i;
        published = published_are i;
        expressions = expressions_is i;
        ends = ends_are i;
        next_end = c.next_end + lines_many_is i;
        layout = later_layout;
      }

  -- what is told of it
  pub is_told : IsTold c new_query come_of tells
  is_told = record { number = grows.number; lines = lines_are; ends = grows.ends ∙ ap (λ ls. range_with_len c.next_end (length ls)) lines_are; layout = refl }
