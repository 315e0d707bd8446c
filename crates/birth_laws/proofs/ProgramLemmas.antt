-- What the lines of programs with births mean.
use Rattle.std.proofs.Common.{◌≡◌, ◌∙◌, sym, ap, refl, subst, ℕ, ◌<◌, false, cond, List, [], ◌∷◌, ◌++◌, map, append-nil, append_assoc, ◌⊎◌, inl, inr}
use Rattle.std.specs.Prelude.{Contains}
use Rattle.std.specs.List.{All, range_with_len}
use Rattle.std.proofs.lemmas.List.Elements.{All-contains, All-contains_itself, All-head, All-tail, All-weaker, Contains-append_left, Contains-append_right, Contains-push_cases}
use Rattle.std.proofs.lemmas.List.Sorted.{All-permutation, IsPermutation-sym}
use Rattle.event_types.specs.declared.kind.Kind.{Kind}
use Rattle.event_types.specs.Tuple.{TupleView, IsSound}
use Rattle.event_types.proofs.NumberLemmas.{is_same, less_other}
use Rattle.semantics.specs.Births.{after, streams_after}
use Rattle.semantics.specs.Denotation.{Streams, denote}
use Rattle.semantics.specs.Histories.{Event}
use Rattle.semantics.specs.Programs.{Program, Query, declared_streams, env, published, with_stream}
use Rattle.semantics.specs.TypedPrograms.{HaveTheirKinds, PublishInTurn}
use Rattle.semantics.proofs.ReadingLemmas.{denote_agrees}
use Rattle.semantics.proofs.StatementLemmas.{declared_there}
use Rattle.expressions.proofs.ProgramLemmas.{AllHaveKinds, after_kinds, declared_kinds, kinds_in_turn}
use Rattle.automaton.specs.Work.{is_in}
use Rattle.automaton.specs.declared.line.Line.{Line}
use Rattle.epoch_laws.specs.Births.{AreSound}
use Rattle.epoch_laws.specs.BornLines.{BornLine}
use Rattle.epoch_laws.specs.InstanceFlow.{completed_after}
use Rattle.epoch_laws.proofs.Lists.{map_all}
use Rattle.splitter.specs.Chains.{HideApart, chain_order, work_order}
use Rattle.splitter.specs.Laws.{split_order}
use Rattle.splitter.specs.ProgramLaws.{IsWideProgram}
use Rattle.splitter.specs.SourceWidths.{HasWidths}
use Rattle.splitter.specs.Splitting.{split_lines}
use Rattle.splitter.specs.Widths.{MeetWidths}
use Rattle.splitter.proofs.ApartLemmas.{is_apart}
use Rattle.splitter.proofs.ChainLemmas.{later_fresh, not_worked, reads_below}
use Rattle.splitter.proofs.ProgramLawLemmas.{stream_among}
use Rattle.splitter.proofs.WidthLemmas.{meets_alike, wide_meets}
use Rattle.birth_laws.specs.BornChains.{born_chain, born_lines, born_split}
use Rattle.birth_laws.proofs.BornLemmas.{PublishesNone, added_alone, plain_chain, plainly}
use Rattle.birth_laws.proofs.OneBirthLemmas.{born_means}
use Rattle.birth_laws.proofs.SoundLemmas.{completed_sound, declared_sound}

module _ (kinds : ℕ → List Kind) where
  module _ (there : List ℕ) (query : Query) (order : List Query) (turn : PublishInTurn kinds there (query ∷ order)) (low : query.stream < query.hidden) where
    abbrev own_lines : List BornLine
    own_lines = born_split query.birth query.expr query.stream query.hidden

    abbrev own_order : List ℕ
    own_order = split_order query.expr query.stream query.hidden

    -- the streams that are there, once a query's lines are worked on
    module _ (streams plain : Streams) (sound : AreSound streams) (same : (s : ℕ) → Contains there s → streams s ≡ plain s) (meet : MeetWidths query.expr (streams_after query.birth plain)) where
      abbrev made : Streams
      made = completed_after own_lines own_order streams

      abbrev tuples : List TupleView
      tuples = denote query.expr (streams_after query.birth plain)

      cut_same : (s : ℕ) → Contains there s → streams_after query.birth streams s ≡ streams_after query.birth plain s
      cut_same s has = ap (after query.birth) (same s has)

      means : (made query.stream ≡ denote query.expr (streams_after query.birth streams)) × ((s : ℕ) → is_in own_order s ≡ false → made s ≡ streams s)
      means =
          born_means query.birth query.expr query.stream query.hidden streams sound (is_apart query.expr query.stream query.hidden low (reads_below kinds there query order turn))
          (meets_alike (Contains there) (streams_after query.birth streams) (streams_after query.birth plain) cut_same query.expr turn.1 meet)

      own_means : made query.stream ≡ tuples
      own_means = means.0 ∙ denote_agrees (Contains there) (streams_after query.birth streams) (streams_after query.birth plain) cut_same query.expr turn.1

      turn_means : (s : ℕ) → Contains (there ++ query.stream ∷ []) s → made s ≡ with_stream plain query.stream tuples s
      turn_means s has = go (Contains-push_cases there query.stream s has)
        where
          go : Contains there s ⊎ (query.stream ≡ s) → made s ≡ with_stream plain query.stream tuples s
          go (inl was) =
              let less : s < query.stream = All-contains (λ x. x < query.stream) there s turn.0 was in
              means.1 s (not_worked query low s less) ∙ same s was ∙ sym (ap (λ b. cond b tuples (plain s)) (less_other s query.stream less))
          go (inr own) = ap made (sym own) ∙ own_means ∙ sym (ap (λ b. cond b tuples (plain s)) (is_same s query.stream (sym own)))

    -- the lines of the later queries publish other streams, and its lines none of theirs
    module _ (apart : HideApart (query ∷ order)) where
      own_publish : All (PublishesNone (chain_order order)) own_lines
      own_publish =
          map_all (λ (line : Line). is_in (chain_order order) line.out ≡ false) (λ (born : BornLine). born.line) own_lines
          (subst (λ lines. All (λ (line : Line). is_in (chain_order order) line.out ≡ false) lines) (sym (plainly query.birth (split_lines query.expr query.stream query.hidden))) (later_fresh kinds there query order turn apart).outs)

      later_publish : All (PublishesNone own_order) (born_chain order)
      later_publish =
          map_all (λ (line : Line). is_in own_order line.out ≡ false) (λ (born : BornLine). born.line) (born_chain order)
          (subst (λ lines. All (λ (line : Line). is_in own_order line.out ≡ false) lines) (sym (plain_chain order)) (later_fresh kinds there query order turn apart).others_outs)

      own_first : (streams : Streams) → completed_after (born_chain (query ∷ order)) (chain_order (query ∷ order)) streams ≡ completed_after (born_chain order) (chain_order order) (completed_after own_lines own_order streams)
      own_first streams = added_alone own_lines (born_chain order) own_order (chain_order order) streams own_publish later_publish

  -- what the lines mean: by induction on the queries
  chain_means : (there : List ℕ) (order : List Query) (streams plain : Streams) → PublishInTurn kinds there order → HideApart order → All (λ query. HasWidths kinds query.expr) order
      → AreSound streams → AllHaveKinds kinds plain → ((s : ℕ) → Contains there s → streams s ≡ plain s)
      → (s : ℕ) → Contains (there ++ map (λ query. query.stream) order) s → completed_after (born_chain order) (chain_order order) streams s ≡ published plain order s
  chain_means there [] streams plain turn apart wide sound have same s has = same s (subst (λ (xs : List ℕ). Contains xs s) (append-nil there) has)
  chain_means there (query ∷ order) streams plain turn apart wide sound have same s has =
      let cut = streams_after query.birth plain in
      let cut_have = after_kinds kinds plain query.birth have in
      let meet = wide_meets query.stream kinds cut (λ x below. cut_have x) query.expr (kinds query.stream) turn.2 (All-head (λ (q : Query). HasWidths kinds q.expr) query order wide) in
      let done = completed_after (own_lines there query order turn apart.0) (own_order there query order turn apart.0) streams in
      ap (λ (all : Streams). all s) (own_first there query order turn apart.0 apart streams)
      ∙ chain_means (there ++ query.stream ∷ []) order done (with_stream plain query.stream (denote query.expr cut)) turn.3 apart.2 (All-tail (λ (q : Query). HasWidths kinds q.expr) query order wide)
      (completed_sound (own_lines there query order turn apart.0) (own_order there query order turn apart.0) streams sound) (kinds_in_turn kinds there plain (query ∷ []) have (turn.0, turn.1, turn.2, tt))
      (turn_means there query order turn apart.0 streams plain sound same meet) s
      (subst (λ (xs : List ℕ). Contains xs s) (sym (append_assoc there (query.stream ∷ []) (map (λ (q : Query). q.stream) order))) has)

module _ (kinds : ℕ → List Kind) (program : Program) (history : List Event) (is : IsWideProgram kinds program) (all : HaveTheirKinds kinds history) (sound : All (λ event. IsSound event.tuple) history) where
  abbrev streams_made : Streams
  streams_made = completed_after (born_lines program) (work_order program) (declared_streams program.declared history)

  abbrev numbers : List ℕ
  numbers = range_with_len 0 program.declared

  abbrev IsMade : Query → Type 0
  IsMade query = streams_made query.stream ≡ env program history query.stream

  each_meant : (stream : ℕ) → Contains (numbers ++ map (λ q. q.stream) program.order) stream → streams_made stream ≡ env program history stream
  each_meant =
      let heard = declared_streams program.declared history in
      chain_means kinds numbers program.order heard heard is.typed.in_turn is.apart is.wide (declared_sound program.declared history sound) (declared_kinds kinds program.declared history all) (λ s has. refl)

  -- each query's stream is what it denotes after its birth, and the declared ones are as they were heard
  pub program_meant : ((stream : ℕ) → stream < program.declared → streams_made stream ≡ env program history stream) × All IsMade program.queries
  program_meant = (
    λ stream less. each_meant stream (Contains-append_left numbers (map (λ (q : Query). q.stream) program.order) stream (declared_there program.declared stream less)),
    All-permutation IsMade program.order program.queries (IsPermutation-sym program.queries program.order is.typed.same_queries)
        (All-weaker (Contains program.order) IsMade (λ query has. each_meant query.stream (Contains-append_right numbers (map (λ (q : Query). q.stream) program.order) query.stream (stream_among program.order query has))) program.order
        (All-contains_itself program.order)),
  )
