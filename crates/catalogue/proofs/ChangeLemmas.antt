-- Programs to which a query comes, and from which one leaves, are typed.
use Rattle.std.proofs.Common.{◌≡◌, ◌≢◌, ◌∙◌, ℕ, zero, suc, ◌<◌, List, [], ◌∷◌, ◌++◌, true, false, map, refl, sym, subst, inl, inr, append_assoc, append-nil, arith}
use Rattle.std.specs.Prelude.{◌==◌, Contains}
use Rattle.std.specs.List.{All, filter, range_with_len}
use Rattle.std.proofs.lemmas.Bool.{cases_eq}
use Rattle.std.proofs.lemmas.List.Elements.{All-append, All-cons, All-contains, All-filter, All-head, All-nil, All-tail, Contains-append_cases, Contains-append_left, Contains-append_right, Contains-get_or}
use Rattle.std.proofs.lemmas.List.Sorted.{IsPermutation-append_left}
use Rattle.event_types.specs.declared.kind.Kind.{Kind}
use Rattle.event_types.proofs.NumberLemmas.{self_equal, is_other}
use Rattle.scalar_expr.proofs.Bags.{filter_permuted}
use Rattle.semantics.specs.Programs.{Query}
use Rattle.semantics.specs.Reading.{ReadsOnly}
use Rattle.semantics.specs.TypedPrograms.{PublishInTurn}
use Rattle.semantics.specs.Typing.{IsTypedOver}
use Rattle.semantics.proofs.ReadingLemmas.{reads_both, reads_first}
use Rattle.splitter.specs.Chains.{HideApart, LeavesHidden}
use Rattle.splitter.specs.SourceWidths.{HasWidths}
use Rattle.splitter.proofs.ApartLemmas.{reads_weaker}
use Rattle.catalogue.proofs.TurnLemmas.{gives_alike}
use Rattle.catalogue.proofs.WideLemmas.{wide_alike}
use Rattle.catalogue.specs.Changes.{ProgramsKeepKinds, ProgramsLoseQueries, ProgramsTakeQueries, publishes_another}

-- the streams of queries
abbrev streams_by : List Query → List ℕ
streams_by order = map (λ (query : Query). query.stream) order

-- one query more publishes in its turn, by induction on the others
turn-push : (kinds : ℕ → List Kind) (there : List ℕ) (order : List Query) (query : Query) → PublishInTurn kinds there order → PublishInTurn kinds (there ++ streams_by order) (query ∷ []) → PublishInTurn kinds there (order ++ query ∷ [])
turn-push kinds there [] query turn last = subst (λ streams. PublishInTurn kinds streams (query ∷ [])) (append-nil there) last
turn-push kinds there (first ∷ order) query turn last =
    (turn.0, turn.1, turn.2, turn-push kinds (there ++ first.stream ∷ []) order query turn.3 (subst (λ streams. PublishInTurn kinds streams (query ∷ [])) (sym (append_assoc there (first.stream ∷ []) (streams_by order))) last))

-- and hides streams apart from theirs
hide-push : (order : List Query) (query : Query) → HideApart order → query.stream < query.hidden → All (λ earlier. LeavesHidden earlier query) order → HideApart (order ++ query ∷ [])
hide-push [] query apart hides left = (hides, All-nil (LeavesHidden query), tt)
hide-push (first ∷ order) query apart hides left = (
  apart.0,
  All-append (LeavesHidden first) order (query ∷ []) apart.1 (All-cons (LeavesHidden first) query [] (All-head (λ earlier. LeavesHidden earlier query) first order left) (All-nil (LeavesHidden first))),
  hide-push order query apart.2 hides (All-tail (λ earlier. LeavesHidden earlier query) first order left),
)

-- a query comes to a program
pub programs_take_queries : ProgramsTakeQueries
programs_take_queries kinds program query wide may = record {
  typed = record {
    same_queries = IsPermutation-append_left (query ∷ []) program.queries program.order wide.typed.same_queries;
    in_turn = turn-push kinds (range_with_len 0 program.declared) program.order query wide.typed.in_turn (may.behind, may.reads, may.typed, tt);
  };
  wide = All-append (λ (q : Query). HasWidths kinds q.expr) program.order (query ∷ []) wide.wide (All-cons (λ (q : Query). HasWidths kinds q.expr) query [] may.wide (All-nil (λ (q : Query). HasWidths kinds q.expr)));
  apart = hide-push program.order query wide.apart may.hides may.apart;
}

-- the only item of a list
pub one-is : (y x : ℕ) → Contains (y ∷ []) x → x ≡ y
one-is y x (zero, less, same) = sym same
one-is y x (suc k, less, same) = absurd (omega (arith, less))

-- with one more in both lists, what is in the one is in the other
more-within : (there fewer : List ℕ) (y : ℕ) → ((x : ℕ) → Contains fewer x → Contains there x) → (x : ℕ) → Contains (fewer ++ y ∷ []) x → Contains (there ++ y ∷ []) x
more-within there fewer y within x has = elim (Contains-append_cases fewer (y ∷ []) x has) [
  | inl before ↦ Contains-append_left there (y ∷ []) x (within x before)
  | inr last ↦ Contains-append_right there (y ∷ []) x last
]

module _ (stream : ℕ) where
  -- a query of the stream, in front
  front-gone : (query : Query) (order : List Query) → query.stream ≡ stream → filter (publishes_another stream) (query ∷ order) ≡ filter (publishes_another stream) order
  front-gone query order same = let is : (query.stream == stream) ≡ true = subst (λ n. (query.stream == n) ≡ true) same (self_equal query.stream) in rw is refl

  -- another query in front
  front-stays : (query : Query) (order : List Query) → query.stream ≢ stream → filter (publishes_another stream) (query ∷ order) ≡ query ∷ filter (publishes_another stream) order
  front-stays query order other = let is : (query.stream == stream) ≡ false = is_other query.stream stream other in rw is refl

  -- the others publish in turn, where what is there without the stream still is, by induction on the queries
  turn-without : (kinds : ℕ → List Kind) (there fewer : List ℕ) (order : List Query) → ((x : ℕ) → Contains fewer x → Contains there x) → ((x : ℕ) → x ≢ stream → Contains there x → Contains fewer x)
      → All (λ query. ReadsOnly (λ read. read ≢ stream) query.expr) order → PublishInTurn kinds there order → PublishInTurn kinds fewer (filter (publishes_another stream) order)
  turn-without kinds there fewer [] within kept unread turn = tt
  turn-without kinds there fewer (query ∷ order) within kept unread turn = elim (cases_eq query.stream stream) [
    | inl same ↦
        subst (PublishInTurn kinds fewer) (sym (front-gone query order same))
        (turn-without kinds (there ++ query.stream ∷ []) fewer order (λ x has. Contains-append_left there (query.stream ∷ []) x (within x has))
        (λ x other has. elim (Contains-append_cases there (query.stream ∷ []) x has) [
          | inl before ↦ kept x other before
          | inr last ↦ absurd (other (one-is query.stream x last ∙ same))
        ]) rest turn.3)
    | inr other ↦
        subst (PublishInTurn kinds fewer) (sym (front-stays query order other)) (
          λ k d less. All-contains (λ n. n < query.stream) there _ turn.0 (within _ (Contains-get_or fewer k d less)),
          reads_weaker (λ read. Contains there read × (read ≢ stream)) (Contains fewer) (λ x both. kept x both.1 both.0) query.expr
              (reads_both (Contains there) (λ read. read ≢ stream) query.expr turn.1 (All-head (λ (q : Query). ReadsOnly (λ read. read ≢ stream) q.expr) query order unread)),
          turn.2,
          turn-without kinds (there ++ query.stream ∷ []) (fewer ++ query.stream ∷ []) order (more-within there fewer query.stream within)
              (λ x not_it has. elim (Contains-append_cases there (query.stream ∷ []) x has) [
                | inl before ↦ Contains-append_left fewer (query.stream ∷ []) x (kept x not_it before)
                | inr last ↦ Contains-append_right fewer (query.stream ∷ []) x last
              ]) rest turn.3,
        )
  ]
    where
      rest : All (λ (q : Query). ReadsOnly (λ read. read ≢ stream) q.expr) order
      rest = All-tail (λ (q : Query). ReadsOnly (λ read. read ≢ stream) q.expr) query order unread

  -- the others hide their streams apart
  hide-without : (order : List Query) → HideApart order → HideApart (filter (publishes_another stream) order)
  hide-without [] apart = tt
  hide-without (query ∷ order) apart = elim (cases_eq query.stream stream) [
    | inl same ↦ subst HideApart (sym (front-gone query order same)) (hide-without order apart.2)
    | inr other ↦ subst HideApart (sym (front-stays query order other)) (apart.0, All-filter (publishes_another stream) (LeavesHidden query) order apart.1, hide-without order apart.2)
  ]

-- a query leaves a program
pub programs_lose_queries : ProgramsLoseQueries
programs_lose_queries kinds program stream wide unread = record {
  typed = record {
    same_queries = filter_permuted (publishes_another stream) program.queries program.order wide.typed.same_queries;
    in_turn = turn-without stream kinds (range_with_len 0 program.declared) (range_with_len 0 program.declared) program.order (λ x has. has) (λ x other has. has) unread wide.typed.in_turn;
  };
  wide = All-filter (publishes_another stream) (λ (q : Query). HasWidths kinds q.expr) program.order wide.wide;
  apart = hide-without stream program.order wide.apart;
}

-- kinds that are the same below a number
module _ (kinds others : ℕ → List Kind) (bound : ℕ) (alike : (stream : ℕ) → stream < bound → kinds stream ≡ others stream) where
  -- the queries publish in turn over the others, by induction on them
  turn-alike : (there : List ℕ) (order : List Query) → All (λ query. query.stream < bound) order → PublishInTurn kinds there order → PublishInTurn others there order
  turn-alike there [] small turn = tt
  turn-alike there (query ∷ order) small turn =
      let low : query.stream < bound = All-head (λ (q : Query). q.stream < bound) query order small in (
        turn.0,
        turn.1,
        subst (IsTypedOver query.expr query.stream others) (alike query.stream low)
            (gives_alike query.stream kinds others (λ stream less. alike stream (omega (arith, less, low))) query.expr (kinds query.stream) turn.2),
        turn-alike (there ++ query.stream ∷ []) order (All-tail (λ (q : Query). q.stream < bound) query order small) turn.3,
      )

  -- and their projections have the widths of their sources
  widths-alike : (there : List ℕ) (order : List Query) → All (λ query. query.stream < bound) order → PublishInTurn kinds there order → All (λ query. HasWidths kinds query.expr) order → All (λ query. HasWidths others query.expr) order
  widths-alike there [] small turn wide = All-nil (λ (q : Query). HasWidths others q.expr)
  widths-alike there (query ∷ order) small turn wide =
      let low : query.stream < bound = All-head (λ (q : Query). q.stream < bound) query order small in
      let read : ReadsOnly (λ stream. kinds stream ≡ others stream) query.expr =
      reads_weaker (λ stream. stream < query.stream) (λ stream. kinds stream ≡ others stream) (λ stream less. alike stream (omega (arith, less, low))) query.expr
      (reads_first query.stream kinds (kinds query.stream) query.expr turn.2) in
      All-cons (λ (q : Query). HasWidths others q.expr) query order (wide_alike kinds others query.expr read (All-head (λ (q : Query). HasWidths kinds q.expr) query order wide))
      (widths-alike (there ++ query.stream ∷ []) order (All-tail (λ (q : Query). q.stream < bound) query order small) turn.3 (All-tail (λ (q : Query). HasWidths kinds q.expr) query order wide))

-- a program over other kinds
pub programs_keep_kinds : ProgramsKeepKinds
programs_keep_kinds kinds others program bound alike small wide = record {
  typed = record { same_queries = wide.typed.same_queries; in_turn = turn-alike kinds others bound alike (range_with_len 0 program.declared) program.order small wide.typed.in_turn };
  wide = widths-alike kinds others bound alike (range_with_len 0 program.declared) program.order small wide.typed.in_turn wide.wide;
  apart = wide.apart;
}
