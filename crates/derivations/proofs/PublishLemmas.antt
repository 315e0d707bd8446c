-- Queries that publish in turn.
use Rattle.std.proofs.Common.{◌≡◌, ◌∙◌, sym, ap, refl, subst, ℕ, zero, suc, ◌+◌, ◌<◌, ◌≤◌, ◌==◌, Bool, true, false, cond, get_or, length, List, [], ◌∷◌, ◌++◌, map, arith}
use Rattle.std.specs.Prelude.{nat_lt, None}
use Rattle.std.specs.List.{range_with_len}
use Rattle.std.proofs.lemmas.Bool.Decides.{nat_tests}
use Rattle.std.proofs.lemmas.List.{get_or_past, length-map, map-append}
use Rattle.std.proofs.lemmas.List.FromFn.{get_or-map-range_with_len, length-range_with_len}
use Rattle.event_types.specs.Tuple.{TupleView}
use Rattle.semantics.specs.Births.{streams_after}
use Rattle.semantics.specs.Denotation.{Streams, denote}
use Rattle.semantics.specs.Expressions.{Ex, Read, Filter, Select, Union, Next, Fold}
use Rattle.semantics.specs.Histories.{Event}
use Rattle.semantics.specs.Programs.{declared_streams, with_stream}
use Rattle.semantics.proofs.BirthLemmas.{streams_after-none}
use Rattle.algebra.specs.SuitedQueries.{SuitInTurn}
use Rattle.algebra.specs.Suits.{Suits}
use Rattle.derivations.specs.DerivedPrograms.{derived_declared, derived_heard, derived_in_turn, with_derived}
use Rattle.derivations.specs.DerivedTuples.{DerivedStreams, DerivedTuple, derived, tuples_in}
use Rattle.derivations.specs.Queries.{query_of}
use Rattle.derivations.specs.Tables.{streams_of, tuples_of_streams}
use Rattle.derivations.specs.declared.publishing.Query.{Query as Asked}
use Rattle.derivations.proofs.ProgramLemmas.{tuples_declared}
use Rattle.derivations.proofs.TupleLemmas.{tuples_derived}

-- what suits streams of which the first so many are there suits those with more
pub suits_more : (e : Ex) (count more : ℕ) (streams : Streams) → count ≤ more → Suits e count streams → Suits e more streams
suits_more (Read stream) count more streams le h = omega (arith, le, h)
suits_more (Filter p e) count more streams le h = (suits_more e count more streams le h.0, h.1)
suits_more (Select m e) count more streams le h = (suits_more e count more streams le h.0, h.1)
suits_more (Union e f) count more streams le h = (suits_more e count more streams le h.0, suits_more f count more streams le h.1)
suits_more (Next p e f) count more streams le h = (suits_more e count more streams le h.0, suits_more f count more streams le h.1, h.2)
suits_more (Fold p q m e f) count more streams le h = (suits_more e count more streams le h.0, suits_more f count more streams le h.1, h.2)

-- the queries that are left still publish in turn, and then all streams are as they shall be
pub record IsLeft (declared count : ℕ) (whole : DerivedStreams) (table : List (List DerivedTuple)) (rest : List Asked) : Type 0 where
  pub left : derived_in_turn declared (streams_of table) (map query_of rest) ≡ whole
  pub suits : SuitInTurn (tuples_of_streams table) (map query_of rest)
  pub many : length table ≡ count

-- the next query may be worked out
pub next_suits : (declared count : ℕ) (whole : DerivedStreams) (table : List (List DerivedTuple)) (query : Asked) (rest : List Asked) → query.stream < count → IsLeft declared count whole table (query ∷ rest)
    → Suits (query_of query).expr (length table) (tuples_of_streams table)
next_suits declared count whole table query rest lt is =
    let many = is.many in
    suits_more (query_of query).expr query.stream (length table) (tuples_of_streams table) (omega (arith, lt, many))
    (subst (Suits (query_of query).expr query.stream) (streams_after-none (tuples_of_streams table)) is.suits.0)

-- once it is published the others are left
pub left_after : (declared count : ℕ) (whole : DerivedStreams) (table next : List (List DerivedTuple)) (query : Asked) (rest : List Asked)
    → streams_of next ≡ with_derived (streams_of table) query.stream (derived declared (query_of query).expr (streams_of table)) → length next ≡ length table
    → IsLeft declared count whole table (query ∷ rest) → IsLeft declared count whole next rest
left_after declared count whole table next query rest same long is =
    record {
      left = ap (λ (streams : DerivedStreams). derived_in_turn declared streams (map query_of rest)) same ∙ is.left;
      suits = subst (λ (streams : Streams). SuitInTurn streams (map query_of rest)) (λ i stream. sym (tuples_are stream) i) is.suits.1;
      many = long ∙ is.many;
    }
  where
    found : List DerivedTuple
    found = derived declared (query_of query).expr (streams_of table)

    tuples : List TupleView
    tuples = denote (query_of query).expr (streams_after None (tuples_of_streams table))

    is_denoted : tuples_in found ≡ tuples
    is_denoted = tuples_derived declared (streams_of table) (query_of query).expr ∙ ap (denote (query_of query).expr) (sym (streams_after-none (tuples_of_streams table)))

    tuples_are : (stream : ℕ) → tuples_in (streams_of next stream) ≡ with_stream (tuples_of_streams table) query.stream tuples stream
    tuples_are stream = (λ i. tuples_in (same i stream)) ∙ go (stream == query.stream)
      where
        go : (b : Bool) → tuples_in (cond b found (streams_of table stream)) ≡ cond b tuples (tuples_in (streams_of table stream))
        go true = is_denoted
        go false = refl

-- one more number at the end of a range
range_more : (a n : ℕ) → range_with_len a (n + 1) ≡ range_with_len a n ++ (a + n) ∷ []
range_more a zero = ap (λ k. k ∷ []) (let e : a ≡ a + 0 = omega arith in e)
range_more a (suc n) =
    ap (range_with_len a) (let e : suc n + 1 ≡ suc (n + 1) = omega arith in e) ∙ ap (λ xs. a ∷ xs) (range_more (a + 1) n)
    ∙ ap (λ k. a ∷ (range_with_len (a + 1) n ++ k ∷ [])) (let e : (a + 1) + n ≡ a + suc n = omega arith in e)

numbers_more : (n : ℕ) → range_with_len 0 (n + 1) ≡ range_with_len 0 n ++ n ∷ []
numbers_more n = let sum : 0 + n ≡ n = omega arith in range_more 0 n ∙ ap (λ m. range_with_len 0 n ++ m ∷ []) sum

-- one more stream has its events
pub streams_more : (declared : ℕ) (history : List Event) (stream : ℕ) (lists more : List (List DerivedTuple)) (found : List DerivedTuple) → lists ≡ map (derived_declared declared history) (range_with_len 0 stream)
    → found ≡ derived_declared declared history stream → more ≡ lists ++ found ∷ [] → more ≡ map (derived_declared declared history) (range_with_len 0 (stream + 1))
streams_more declared history stream lists more found so is longer =
    longer ∙ (λ i. so i ++ is i ∷ []) ∙ sym (ap (map (derived_declared declared history)) (numbers_more stream) ∙ map-append (derived_declared declared history) (range_with_len 0 stream) (stream ∷ []))

-- the table of the declared streams, as streams
module _ (declared count : ℕ) (history : List Event) (table : List (List DerivedTuple)) (so : table ≡ map (derived_declared declared history) (range_with_len 0 count)) where
  heard_many : length table ≡ count
  heard_many = ap length so ∙ length-map (range_with_len 0 count) (derived_declared declared history) ∙ length-range_with_len 0 count

  heard_at : declared ≤ count → (stream : ℕ) → streams_of table stream ≡ derived_declared declared history stream
  heard_at le stream = if_lt stream count
      (λ lt. ap (λ (lists : List (List DerivedTuple)). get_or lists stream []) so ∙ get_or-map-range_with_len (derived_declared declared history) 0 count stream stream [] lt (omega arith))
      (λ past. get_or_past table stream [] (let many = heard_many in omega (arith, many, past)) ∙ sym (no_events (omega (arith, le, past))))
    where
      if_lt : {A : Type 0} (i n : ℕ) → (i < n → A) → (n ≤ i → A) → A
      if_lt zero zero below past = past (omega arith)
      if_lt zero (suc n) below past = below (omega arith)
      if_lt (suc i) zero below past = past (omega arith)
      if_lt (suc i) (suc n) below past = if_lt i n (λ lt. below (omega (arith, lt))) (λ le. past (omega (arith, le)))

      below : (m n : ℕ) → nat_lt m n ≡ true → m < n
      below m n is = grind (arith, nat_tests)

      no_events : declared ≤ stream → derived_declared declared history stream ≡ []
      no_events past = go (nat_lt stream declared) refl
        where
          go : (b : Bool) → nat_lt stream declared ≡ b → cond b (derived_heard 1 history stream) [] ≡ []
          go true is = absurd (omega (arith, below stream declared is, past))
          go false is = refl

  -- before the first query publishes, all are left
  pub all_left : (queries : List Asked) → declared ≤ count → SuitInTurn (declared_streams declared history) (map query_of queries)
      → IsLeft declared count (derived_in_turn declared (derived_declared declared history) (map query_of queries)) table queries
  all_left queries le suited =
      record {
        left = λ i. derived_in_turn declared (λ stream. heard_at le stream i) (map query_of queries);
        suits = subst (λ (streams : Streams). SuitInTurn streams (map query_of queries)) (λ i stream. sym (ap tuples_in (heard_at le stream) ∙ tuples_declared declared history stream) i) suited;
        many = heard_many;
      }
