-- Queries that publish in turn, with one more and without one.
use Rattle.std.proofs.Common.{◌≡◌, ◌≢◌, ◌∙◌, ℕ, zero, suc, ◌<◌, ◌==◌, List, [], ◌∷◌, ◌++◌, true, false, map, refl, sym, ap, subst, inl, inr, append_assoc, append-nil, arith}
use Rattle.std.specs.Prelude.{Contains}
use Rattle.std.specs.List.{All, filter}
use Rattle.std.proofs.lemmas.Bool.{cases_eq}
use Rattle.std.proofs.lemmas.List.Elements.{All-cons, All-contains, All-head, All-nil, All-tail, Contains-append_cases, Contains-append_left, Contains-append_right, Contains-get_or}
use Rattle.event_types.specs.declared.kind.Kind.{Kind}
use Rattle.event_types.proofs.NumberLemmas.{self_equal, is_other}
use Rattle.semantics.specs.Programs.{Query}
use Rattle.semantics.specs.Reading.{ReadsOnly}
use Rattle.semantics.specs.TypedPrograms.{PublishInTurn}
use Rattle.semantics.specs.Typing.{IsTypedOver}
use Rattle.semantics.proofs.ReadingLemmas.{reads_both, reads_first}
use Rattle.splitter.proofs.ApartLemmas.{reads_weaker}
use Rattle.catalogue.specs.Changes.{publishes_another}
use Rattle.catalogue.proofs.ChangeLemmas.{one-is}
use Rattle.catalogue.proofs.TurnLemmas.{gives_alike}

-- the streams of queries
abbrev pub streams_by : List Query → List ℕ
streams_by order = map (λ (query : Query). query.stream) order

-- one query more publishes in its turn, by induction on the others
pub turn-push : (kinds : ℕ → List Kind) (there : List ℕ) (order : List Query) (query : Query) → PublishInTurn kinds there order → PublishInTurn kinds (there ++ streams_by order) (query ∷ []) → PublishInTurn kinds there (order ++ query ∷ [])
turn-push kinds there [] query turn last = subst (λ streams. PublishInTurn kinds streams (query ∷ [])) (append-nil there) last
turn-push kinds there (first ∷ order) query turn last =
    (turn.0, turn.1, turn.2, turn-push kinds (there ++ first.stream ∷ []) order query turn.3 (subst (λ streams. PublishInTurn kinds streams (query ∷ [])) (sym (append_assoc there (first.stream ∷ []) (streams_by order))) last))

-- over kinds that are the same below a number queries of smaller streams publish in turn, by induction on them
pub turn-alike : (kinds others : ℕ → List Kind) (bound : ℕ) → ((stream : ℕ) → stream < bound → kinds stream ≡ others stream) → (there : List ℕ) (order : List Query) → All (λ query. query.stream < bound) order
    → PublishInTurn kinds there order → PublishInTurn others there order
turn-alike kinds others bound alike there [] small turn = tt
turn-alike kinds others bound alike there (query ∷ order) small turn =
    let low : query.stream < bound = All-head (λ (q : Query). q.stream < bound) query order small in (
      turn.0,
      turn.1,
      subst (IsTypedOver query.expr query.stream others) (alike query.stream low)
          (gives_alike query.stream kinds others (λ stream less. alike stream (omega (arith, less, low))) query.expr (kinds query.stream) turn.2),
      turn-alike kinds others bound alike (there ++ query.stream ∷ []) order (All-tail (λ (q : Query). q.stream < bound) query order small) turn.3,
    )

-- each publishes a stream behind those that were there, by induction on the queries
pub turn-behind : (kinds : ℕ → List Kind) (there : List ℕ) (order : List Query) → PublishInTurn kinds there order → (stream : ℕ) → Contains there stream → All (λ query. stream < query.stream) order
turn-behind kinds there [] turn stream has = All-nil (λ (q : Query). stream < q.stream)
turn-behind kinds there (query ∷ order) turn stream has =
    All-cons (λ (q : Query). stream < q.stream) query order (All-contains (λ n. n < query.stream) there stream turn.0 has)
    (turn-behind kinds (there ++ query.stream ∷ []) order turn.3 stream (Contains-append_left there (query.stream ∷ []) stream has))

-- and reads smaller streams alone, by induction on the queries
pub turn-reads : (kinds : ℕ → List Kind) (there : List ℕ) (order : List Query) → PublishInTurn kinds there order → All (λ query. ReadsOnly (λ stream. stream < query.stream) query.expr) order
turn-reads kinds there [] turn = All-nil (λ (q : Query). ReadsOnly (λ stream. stream < q.stream) q.expr)
turn-reads kinds there (query ∷ order) turn =
    All-cons (λ (q : Query). ReadsOnly (λ stream. stream < q.stream) q.expr) query order (reads_first query.stream kinds (kinds query.stream) query.expr turn.2)
    (turn-reads kinds (there ++ query.stream ∷ []) order turn.3)

-- with one more in both lists, what is in the one is in the other
more-within : (there fewer : List ℕ) (y : ℕ) → ((x : ℕ) → Contains fewer x → Contains there x) → (x : ℕ) → Contains (fewer ++ y ∷ []) x → Contains (there ++ y ∷ []) x
more-within there fewer y within x has = elim (Contains-append_cases fewer (y ∷ []) x has) [
  | inl before ↦ Contains-append_left there (y ∷ []) x (within x before)
  | inr last ↦ Contains-append_right there (y ∷ []) x last
]

module _ (stream : ℕ) where
  -- a query of the stream, in front
  front-gone : (query : Query) (order : List Query) → query.stream ≡ stream → filter (publishes_another stream) (query ∷ order) ≡ filter (publishes_another stream) order
  front-gone query order same = let is : (query.stream == stream) ≡ true = subst (λ n. (query.stream == n) ≡ true) same (self_equal query.stream) in rw is refl

  -- another query in front
  front-stays : (query : Query) (order : List Query) → query.stream ≢ stream → filter (publishes_another stream) (query ∷ order) ≡ query ∷ filter (publishes_another stream) order
  front-stays query order other = let is : (query.stream == stream) ≡ false = is_other query.stream stream other in rw is refl

  -- the others publish in turn, where what is there without the stream still is, by induction on the queries
  pub turn-without : (kinds : ℕ → List Kind) (there fewer : List ℕ) (order : List Query) → ((x : ℕ) → Contains fewer x → Contains there x) → ((x : ℕ) → x ≢ stream → Contains there x → Contains fewer x)
      → All (λ query. ReadsOnly (λ read. read ≢ stream) query.expr) order → PublishInTurn kinds there order → PublishInTurn kinds fewer (filter (publishes_another stream) order)
  turn-without kinds there fewer [] within kept unread turn = tt
  turn-without kinds there fewer (query ∷ order) within kept unread turn = elim (cases_eq query.stream stream) [
    | inl same ↦
        subst (PublishInTurn kinds fewer) (sym (front-gone query order same))
        (turn-without kinds (there ++ query.stream ∷ []) fewer order (λ x has. Contains-append_left there (query.stream ∷ []) x (within x has))
        (λ x other has. elim (Contains-append_cases there (query.stream ∷ []) x has) [
          | inl before ↦ kept x other before
          | inr last ↦ absurd (other (one-is query.stream x last ∙ same))
        ]) rest turn.3)
    | inr other ↦
        subst (PublishInTurn kinds fewer) (sym (front-stays query order other)) (
          λ k d less. All-contains (λ n. n < query.stream) there _ turn.0 (within _ (Contains-get_or fewer k d less)),
          reads_weaker (λ read. Contains there read × (read ≢ stream)) (Contains fewer) (λ x both. kept x both.1 both.0) query.expr
              (reads_both (Contains there) (λ read. read ≢ stream) query.expr turn.1 (All-head (λ (q : Query). ReadsOnly (λ read. read ≢ stream) q.expr) query order unread)),
          turn.2,
          turn-without kinds (there ++ query.stream ∷ []) (fewer ++ query.stream ∷ []) order (more-within there fewer query.stream within)
              (λ x not_it has. elim (Contains-append_cases there (query.stream ∷ []) x has) [
                | inl before ↦ Contains-append_left fewer (query.stream ∷ []) x (kept x not_it before)
                | inr last ↦ Contains-append_right fewer (query.stream ∷ []) x last
              ]) rest turn.3,
        )
  ]
    where
      rest : All (λ (q : Query). ReadsOnly (λ read. read ≢ stream) q.expr) order
      rest = All-tail (λ (q : Query). ReadsOnly (λ read. read ≢ stream) q.expr) query order unread

-- a later query publishes a stream behind that of the first
later : (kinds : ℕ → List Kind) (there : List ℕ) (query : Query) (order : List Query) → PublishInTurn kinds there (query ∷ order) → (q : Query) → Contains order q → query.stream < q.stream
later kinds there query order turn q has =
    All-contains (λ (p : Query). query.stream < p.stream) order q
    (turn-behind kinds (there ++ query.stream ∷ []) order turn.3 query.stream (Contains-append_right there (query.stream ∷ []) query.stream (0, omega arith, refl))) has

-- no two of them publish one stream, by induction on the queries
pub one-publisher : (kinds : ℕ → List Kind) (there : List ℕ) (order : List Query) → PublishInTurn kinds there order → (p q : Query) → Contains order p → Contains order q → p.stream ≡ q.stream → p ≡ q
one-publisher kinds there [] turn p q has has_too same = absurd (omega (arith, has.1))
one-publisher kinds there (query ∷ order) turn p q (zero, inside, is) (zero, inside_too, is_too) same = sym is ∙ is_too
one-publisher kinds there (query ∷ order) turn p q (zero, inside, is) (suc k, inside_too, is_too) same =
    let behind = later kinds there query order turn q (k, omega (arith, inside_too), is_too) in let first : query.stream ≡ p.stream = ap (λ (x : Query). x.stream) is in absurd (omega (arith, behind, first, same))
one-publisher kinds there (query ∷ order) turn p q (suc k, inside, is) (zero, inside_too, is_too) same =
    let behind = later kinds there query order turn p (k, omega (arith, inside), is) in let first : query.stream ≡ q.stream = ap (λ (x : Query). x.stream) is_too in absurd (omega (arith, behind, first, same))
one-publisher kinds there (query ∷ order) turn p q (suc k, inside, is) (suc l, inside_too, is_too) same =
    one-publisher kinds (there ++ query.stream ∷ []) order turn.3 p q (k, omega (arith, inside), is) (l, omega (arith, inside_too), is_too) same
