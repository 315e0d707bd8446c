-- A catalogue that a query has left stands in order.
use Rattle.std.proofs.Common.{◌≡◌, ◌≢◌, ◌∙◌, ℕ, zero, suc, ◌+◌, ◌<◌, ◌≤◌, ◌^◌, List, [], ◌∷◌, true, length, map, get_or, refl, sym, ap, subst, inl, inr, arith}
use Rattle.std.specs.Prelude.{◌==◌, ◌↔◌, AllPairs, Contains, IsTrue, Some, slice_get}
use Rattle.std.specs.List.{All, list_any, range_with_len, remove}
use Rattle.std.proofs.lemmas.Bool.{cases_eq}
use Rattle.std.proofs.lemmas.List.{get_or-map, length-map}
use Rattle.std.proofs.lemmas.List.Edits.{length-remove}
use Rattle.std.proofs.lemmas.List.Elements.{All-contains, All-from_get_or, All-get_or, All-map, Contains-append_cases, Contains-append_left, Contains-append_right, Contains-get_or}
use Rattle.std.proofs.lemmas.List.Folds.{length-flat_map-take}
use Rattle.std.proofs.lemmas.List.FromFn.{length-range_with_len}
use Rattle.std.proofs.lemmas.List.Quantifiers.{all_pairs_remove}
use Rattle.event_types.specs.declared.kind.Kind.{Kind}
use Rattle.semantics.specs.Programs.{Program, Query}
use Rattle.semantics.specs.Reading.{ReadsOnly}
use Rattle.automaton.specs.declared.line.Line.{Line}
use Rattle.automaton.specs.LineKinds.{LineFits}
use Rattle.automaton.specs.Layouts.{LayoutFits}
use Rattle.automaton.specs.Work.{IsInOrder, is_in}
use Rattle.splitter.specs.Chains.{chain_lines, chain_order, hidden_end, lines_of, outs_of}
use Rattle.splitter.specs.ProgramLaws.{IsWideProgram}
use Rattle.splitter.specs.Splitting.{split_lines}
use Rattle.splitter.proofs.ApartLemmas.{range_all}
use Rattle.splitter.proofs.ChainLemmas.{chain_has, chain_ordered, chain_outs}
use Rattle.splitter.proofs.FewLemmas.{size}
use Rattle.stream_schema.specs.Schema.{kinds_of}
use Rattle.stream_schema.specs.Streams.{Entry, IsRetired, renamed, retired_name, schemas_of, stream_names}
use Rattle.cel_types.specs.SourceLaws.{kinds_in}
use Rattle.catalogue.specs.Catalogued.{Catalogued, program_in, query_in, work_in}
use Rattle.catalogue.specs.Changes.{streams_there, without_query}
use Rattle.catalogue.specs.Leaving.{LeavesUnread, catalogue_without, lines_before, lines_up_to, place_of, without_part}
use Rattle.catalogue.specs.Standing.{AreEnds, IsKnown, IsLayoutOver, IsUpTo, StandsInOrder}
use Rattle.catalogue.proofs.ChangeLemmas.{programs_lose_queries}
use Rattle.catalogue.proofs.LeftProgramLemmas.{at_within, at_work, behind_all, none_such, numbers, numbers_are, program_left, queries_left, work_apart, work_left, work_long}
use Rattle.catalogue.proofs.LinedLemmas.{chain_lined}
use Rattle.catalogue.proofs.MovedLemmas.{left_many}
use Rattle.work_order.proofs.NumbersLemmas.{map-remove, place_back, place_in, stands_at}
use Rattle.catalogue.proofs.RemovingLemmas.{All-without, AllPairs-without, flat_map-remove, length-without, remove_from, remove_has, sum_by-without}
use Rattle.catalogue.proofs.StandLemmas.{Contains-map}

-- another name leaves the schemas
schemas_kept : (streams : List Entry) (stream : ℕ) (name : List ℕ) → schemas_of (renamed streams stream name) ≡ schemas_of streams
schemas_kept [] stream name = refl
schemas_kept (s ∷ streams) zero name = refl
schemas_kept (s ∷ streams) (suc stream) name = ap (λ ss. s.schema ∷ ss) (schemas_kept streams stream name)

-- and how many streams there are
pub streams_many : (streams : List Entry) (stream : ℕ) (name : List ℕ) → length (renamed streams stream name) ≡ length streams
streams_many streams stream name = sym (length-map (renamed streams stream name) (λ s. s.schema)) ∙ ap length (schemas_kept streams stream name) ∙ length-map streams (λ s. s.schema)

-- a stream was there, declared as it is
entry_was : (streams : List Entry) (stream : ℕ) (name : List ℕ) (other : ℕ) (entry : Entry) → slice_get (renamed streams stream name) other ≡ Some entry → (old : Entry) × (slice_get streams other ≡ Some old) × (old.declared ≡ entry.declared)
entry_was [] stream name other entry there = cc
entry_was (s ∷ streams) zero name zero entry there = (s, refl, (let same : record { name = name; schema = s.schema; declared = s.declared } ≡ entry = cc in ap (λ (e : Entry). e.declared) same))
entry_was (s ∷ streams) zero name (suc other) entry there = (entry, there, refl)
entry_was (s ∷ streams) (suc stream) name zero entry there = (entry, there, refl)
entry_was (s ∷ streams) (suc stream) name (suc other) entry there = entry_was streams stream name other entry there

-- its name is as it was
names_kept : (streams : List Entry) (stream : ℕ) (name : List ℕ) (other : ℕ) → other ≢ stream → slice_get (stream_names (renamed streams stream name)) other ≡ slice_get (stream_names streams) other
names_kept [] stream name other apart = refl
names_kept (s ∷ streams) zero name zero apart = absurd (apart refl)
names_kept (s ∷ streams) zero name (suc other) apart = refl
names_kept (s ∷ streams) (suc stream) name zero apart = refl
names_kept (s ∷ streams) (suc stream) name (suc other) apart = names_kept streams stream name other (λ same. apart (ap suc same))

-- but for the renamed one
name_new : (streams : List Entry) (stream : ℕ) (name : List ℕ) → stream < length streams → slice_get (stream_names (renamed streams stream name)) stream ≡ Some name
name_new [] stream name within = absurd (omega (arith, within))
name_new (s ∷ streams) zero name within = refl
name_new (s ∷ streams) (suc stream) name within = name_new streams stream name (omega (arith, within))

module _ (c : Catalogued) (stands : StandsInOrder c) (number : ℕ) (small : number < length c.order) where
  abbrev at : ℕ
  at = place_of c number

  abbrev query : Query
  query = query_in c number

  abbrev new : Catalogued
  new = catalogue_without c number

  abbrev none : Query
  none = none_such c stands

  abbrev within_work : at < length (work_in c)
  within_work = at_work c stands number small

  is_program : program_in new ≡ without_query (program_in c) query.stream
  is_program = program_left c stands number small

  is_work : work_in new ≡ remove (work_in c) at
  is_work = work_left c stands number small

  pub kinds_kept : kinds_in new.streams ≡ kinds_in c.streams
  kinds_kept = λ t stream. kinds_of (get_or (schemas_kept c.streams query.stream (retired_name query.stream) t) stream [])

  many : length new.streams ≡ length c.streams
  many = streams_many c.streams query.stream (retired_name query.stream)

  -- what each query publishes is known
  work_there : (i : ℕ) → i < length (work_in c) → Contains (streams_there (program_in c)) (get_or (work_in c) i none).stream
  work_there i inside =
      Contains-append_right (range_with_len 0 c.declared) (map (λ (q : Query). q.stream) (work_in c)) (get_or (work_in c) i none).stream
      (Contains-map (λ (q : Query). q.stream) (work_in c) (get_or (work_in c) i none) (Contains-get_or (work_in c) i none inside))

  pub own_known : IsKnown c.streams query.stream
  own_known = (stands.known query.stream).0 (work_there at within_work)

  -- a stream that is left is another one that was there
  there_was : (stream : ℕ) → Contains (streams_there (program_in new)) stream → Contains (streams_there (program_in c)) stream × (stream ≢ query.stream)
  there_was stream has = elim (Contains-append_cases (range_with_len 0 c.declared) (map (λ (q : Query). q.stream) (work_in new)) stream has) [
    | inl declared ↦ (
      Contains-append_left (range_with_len 0 c.declared) (map (λ (q : Query). q.stream) (work_in c)) stream declared,
      (λ same.
          let less : stream < query.stream =
          All-get_or (λ (q : Query). stream < q.stream) (work_in c) at none within_work (behind_all (kinds_in c.streams) (range_with_len 0 c.declared) (work_in c) stands.wide.typed.in_turn stream declared) in
          absurd (omega (arith, less, same))),
    )
    | inr published ↦
        let P : ℕ → Type 0 = λ x. Contains (streams_there (program_in c)) x × (x ≢ query.stream) in
        let each : All (λ (q : Query). P q.stream) (remove (work_in c) at) =
        remove_from (λ (q : Query). P q.stream) (work_in c) at none within_work (λ i inside other. (work_there i inside, work_apart c stands i at inside within_work other)) in
        All-contains P (map (λ (q : Query). q.stream) (remove (work_in c) at)) stream (All-map P (λ (q : Query). q.stream) (remove (work_in c) at) each)
        (subst (λ (order : List Query). Contains (map (λ (q : Query). q.stream) order) stream) is_work published)
  ]

  -- and each other one is left
  there_is : (stream : ℕ) → Contains (streams_there (program_in c)) stream → stream ≢ query.stream → Contains (streams_there (program_in new)) stream
  there_is stream has other = elim (Contains-append_cases (range_with_len 0 c.declared) (map (λ (q : Query). q.stream) (work_in c)) stream has) [
    | inl declared ↦ Contains-append_left (range_with_len 0 c.declared) (map (λ (q : Query). q.stream) (work_in new)) stream declared
    | inr published ↦
        let (i, inside, same) = published in
        let i_inside : i < length (work_in c) = omega (arith, inside, length-map (work_in c) (λ (q : Query). q.stream)) in
        let is : (get_or (work_in c) i none).stream ≡ stream = sym (get_or-map (λ (q : Query). q.stream) (work_in c) i none stream i_inside) ∙ same in
        let left : Contains (remove (work_in c) at) (get_or (work_in c) i none) =
        remove_has (work_in c) at none within_work i i_inside (λ here. other (sym is ∙ ap (λ n. (get_or (work_in c) n none).stream) here)) in
        Contains-append_right (range_with_len 0 c.declared) (map (λ (q : Query). q.stream) (work_in new)) stream
        (subst (λ (order : List Query). Contains (map (λ (q : Query). q.stream) order) stream) (sym is_work)
        (subst (Contains (map (λ (q : Query). q.stream) (remove (work_in c) at))) is (Contains-map (λ (q : Query). q.stream) (remove (work_in c) at) (get_or (work_in c) i none) left)))
  ]

  known : (stream : ℕ) → Contains (streams_there (program_in new)) stream ↔ IsKnown new.streams stream
  known stream = (
    (λ has.
        let (was, other) = there_was stream has in
        let is = (stands.known stream).0 was in
        record { within = omega (arith, is.within, many); named = λ gone. is.named (sym (names_kept c.streams query.stream (retired_name query.stream) stream other) ∙ gone) }),
    (λ is. elim (cases_eq stream query.stream) [
      | inl same ↦
          absurd (is.named (subst (IsRetired new.streams) (sym same) (name_new c.streams query.stream (retired_name query.stream) own_known.within)))
      | inr other ↦
          there_is stream ((stands.known stream).1 (record { within = omega (arith, is.within, many); named = λ gone. is.named (names_kept c.streams query.stream (retired_name query.stream) stream other ∙ gone) })) other
    ]),
  )

  told : (stream : ℕ) (entry : Entry) → slice_get new.streams stream ≡ Some entry → (entry.declared ≡ true) ↔ (stream < c.declared)
  told stream entry there =
      let (old, was, same) = entry_was c.streams query.stream (retired_name query.stream) stream entry there in
      let is = stands.told stream old was in ((λ e. is.0 (same ∙ e)), (λ less. sym same ∙ is.1 less))

  -- the lines are those of the other queries
  pub lines_left : lines_of (program_in new) ≡ without_part (lines_of (program_in c)) (lines_before c number) (lines_up_to c number)
  lines_left = ap chain_lines is_work ∙ flat_map-remove (λ (q : Query). split_lines q.expr q.stream q.hidden) (work_in c) at none within_work

  pub up_to : lines_before c number ≤ lines_up_to c number
  up_to = omega arith

  -- which are within all lines
  pub lines_within : lines_up_to c number ≤ length (lines_of (program_in c))
  lines_within = length-flat_map-take (λ (q : Query). split_lines q.expr q.stream q.hidden) (work_in c) at none within_work

  pub ends_within : lines_up_to c number ≤ length c.ends
  ends_within = omega (arith, lines_within, stands.ended.as_many)

  ended : AreEnds (lines_of (program_in new)) new.ends c.next_end
  ended = record {
    as_many =
        (let lines = length-without (lines_of (program_in c)) (lines_before c number) (lines_up_to c number) up_to lines_within in
        let ends = length-without c.ends (lines_before c number) (lines_up_to c number) up_to ends_within in
        omega (arith, lines, ends, stands.ended.as_many, ap length lines_left));
    distinct = AllPairs-without c.ends (lines_before c number) (lines_up_to c number) up_to ends_within (λ x y. x ≢ y) stands.ended.distinct;
    below = All-without (λ end. end < c.next_end) c.ends (lines_before c number) (lines_up_to c number) stands.ended.below;
  }

  module _ (unread : (other : ℕ) → other < length c.order → LeavesUnread c query.stream other) where
    pub all_unread : All (λ (q : Query). ReadsOnly (λ read. read ≢ query.stream) q.expr) (work_in c)
    all_unread = All-from_get_or (λ (q : Query). ReadsOnly (λ read. read ≢ query.stream) q.expr) (work_in c) none (λ i inside.
        let i_inside : i < length c.order = omega (arith, inside, work_long c stands) in
        subst (λ (n : ℕ). ReadsOnly (λ read. read ≢ query.stream) (get_or (work_in c) n none).expr) (place_back c.order stands.numbered i i_inside)
        (unread (get_or c.order i 0) ((stands.numbered.all (get_or c.order i 0)).0 (Contains-get_or c.order i 0 i_inside))))

    wide : IsWideProgram (kinds_in new.streams) (program_in new)
    wide =
        subst (λ (p : (ℕ → List Kind) × Program). IsWideProgram p.0 p.1) (λ t. (sym kinds_kept t, sym is_program t))
        (programs_lose_queries (kinds_in c.streams) (program_in c) query.stream stands.wide all_unread)

    outs : new.layout.outs ≡ outs_of (program_in new)
    outs =
        let inside : number < length (map (query_in c) (range_with_len 0 (length c.order))) = omega (arith, small, length-map (range_with_len 0 (length c.order)) (query_in c), length-range_with_len 0 (length c.order)) in
        ap (λ ns. remove ns number) stands.laid.outs ∙ sym (map-remove (λ (q : Query). q.stream) (map (query_in c) (range_with_len 0 (length c.order))) number inside)
        ∙ ap (map (λ (q : Query). q.stream)) (queries_left c stands number small)

    printed : All (λ stream. IsTrue (is_in (chain_order (work_in new)) stream)) (outs_of (program_in new))
    printed =
        let P : ℕ → Type 0 = λ stream. IsTrue (is_in (chain_order (work_in new)) stream) in
        let count : ℕ = length (numbers c stands number small) in
        let each : (k : ℕ) → k < count → P (query_in new k).stream =
        (λ k below.
        let place = (stands_at (numbers c stands number small) (numbers_are c stands number small) k below).0 in
        All-get_or (λ (q : Query). P q.stream) (work_in new) (place_in (numbers c stands number small) (numbers_are c stands number small) k) none
        (omega (arith, place, ap length is_work, length-remove (work_in c) at within_work, work_long c stands, left_many c.order stands.numbered number small)) (chain_has (work_in new))) in
        All-map P (λ (q : Query). q.stream) (map (query_in new) (range_with_len 0 count))
        (All-map (λ (q : Query). P q.stream) (query_in new) (range_with_len 0 count) (range_all (λ k. P (query_in new k).stream) 0 count (λ k above below. each k (omega (arith, below)))))

    fits : LayoutFits (lines_of (program_in new)) new.layout
    fits = record {
      typed =
          subst (All (LineFits c.layout.kinds)) (sym lines_left) (All-without (LineFits c.layout.kinds) (lines_of (program_in c)) (lines_before c number) (lines_up_to c number) stands.laid.fits.typed);
      in_order =
          subst (λ (ns : List ℕ). IsInOrder (lines_of (program_in new)) ns) (ap chain_order is_work) (chain_ordered (kinds_in new.streams) (range_with_len 0 c.declared) (work_in new) wide.typed.in_turn wide.apart);
      all_outs = subst (λ (ns : List ℕ). All (λ line. IsTrue (is_in ns line.out)) (lines_of (program_in new))) (ap chain_order is_work) (chain_outs (work_in new));
      only_outs = subst (λ (ns : List ℕ). All (λ stream. IsTrue (list_any (λ line. line.out == stream) (lines_of (program_in new)))) ns) (ap chain_order is_work) (chain_lined (work_in new));
      printed =
          subst (λ (ns : List ℕ × List ℕ). All (λ stream. IsTrue (is_in ns.0 stream)) ns.1) (λ t. (ap chain_order is_work t, sym outs t)) printed;
    }

    laid : IsLayoutOver new.streams (program_in new) new.layout
    laid = record {
      order = ap chain_order (sym is_work);
      outs = outs;
      long = stands.laid.long ∙ sym many;
      kinds = λ k d inside.
          let x : ℕ = get_or (streams_there (program_in new)) k d in
          let (was, other) = there_was x (Contains-get_or (streams_there (program_in new)) k d inside) in
          All-contains (λ stream. slice_get c.layout.kinds stream ≡ Some (kinds_in c.streams stream)) (streams_there (program_in c)) x stands.laid.kinds was ∙ ap (λ (kinds : ℕ → List Kind). Some (kinds x)) (sym kinds_kept);
      fits = fits;
    }

    -- all of it
    pub left_stands : StandsInOrder new
    left_stands = record {
      wide = wide;
      told = told;
      known = known;
      publish =
          (let published = length-remove c.published at (omega (arith, at_within c stands number small, stands.publish)) in
          omega (arith, published, stands.publish, left_many c.order stands.numbered number small));
      express =
          (let expressions = length-remove c.expressions at (omega (arith, at_within c stands number small, stands.express)) in
          omega (arith, expressions, stands.express, left_many c.order stands.numbered number small));
      numbered = numbers_are c stands number small;
      born =
          subst (AllPairs (λ (earlier : Query) (later : Query). IsUpTo earlier.birth later.birth)) (sym is_work)
          (all_pairs_remove (λ (earlier : Query) (later : Query). IsUpTo earlier.birth later.birth) (work_in c) at within_work stands.born);
      ended = ended;
      within =
          subst (λ (p : ℕ × List Query). All (λ (q : Query). hidden_end q ≤ p.0) p.1) (λ t. (sym many t, sym is_work t))
          (All-without (λ (q : Query). hidden_end q ≤ length c.streams) (work_in c) at (suc at) stands.within);
      laid = laid;
      few =
          (let fewer : size (without_part (lines_of (program_in c)) (lines_before c number) (lines_up_to c number)) ≤ size (lines_of (program_in c)) =
          sum_by-without (lines_of (program_in c)) (lines_before c number) (lines_up_to c number) up_to lines_within (λ line. 1 + length line.hops) in
          subst (λ (ls : List Line). size ls < 2 ^ 64) (sym lines_left) (omega (arith, fewer, stands.few)));
    }
