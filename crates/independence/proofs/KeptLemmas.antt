-- What holds of a set of queries whatever queries came and left.
use Rattle.std.proofs.Common.{◌≡◌, ◌≢◌, ◌∙◌, ℕ, ◌<◌, ◌≤◌, List, [], ◌∷◌, ◌++◌, true, false, not, ◌==◌, get_or, length, refl, sym, ap, subst, inl, inr, append_assoc, arith}
use Rattle.std.specs.Prelude.{Some, None, Option, slice_get, Contains}
use Rattle.std.specs.List.{All, filter, range_with_len}
use Rattle.std.proofs.lemmas.Bool.{cases_lt}
use Rattle.std.proofs.lemmas.List.{get_or-map, length-append, length-map, map-append}
use Rattle.std.proofs.lemmas.List.Elements.{All-append, All-cons, All-contains, All-map, All-nil, All-weaker, Contains-append_cases, Contains-append_left, Contains-append_right, Contains-get_or, All-filter, filter_passes}
use Rattle.std.proofs.lemmas.List.Sorted.{Contains-permutation, IsPermutation-append_left}
use Rattle.std.proofs.lemmas.Option.{slice_get_within}
use Rattle.event_types.proofs.NumberLemmas.{is_other, self_equal}
use Rattle.scalar_expr.proofs.Bags.{filter_permuted}
use Rattle.semantics.specs.Expressions.{Ex}
use Rattle.semantics.specs.Programs.{Program, Query}
use Rattle.semantics.specs.Reading.{ReadsOnly}
use Rattle.semantics.specs.TypedPrograms.{IsProgram, PublishInTurn}
use Rattle.semantics.specs.Typing.{IsTypedOver}
use Rattle.semantics.proofs.StatementLemmas.{declared_there}
use Rattle.splitter.proofs.ApartLemmas.{range_all}
use Rattle.stream_schema.specs.Schema.{Attr, kinds_of}
use Rattle.stream_schema.specs.Streams.{Entry, number_of, retired, retired_name, stream_names}
use Rattle.stream_schema.specs.Table.{IsOwn}
use Rattle.stream_schema.proofs.NameLemmas.{absent-from_none}
use Rattle.cel_grammar.specs.Trees.{Statement}
use Rattle.cel_types.specs.SourceLaws.{kinds_in}
use Rattle.cel_types.specs.Statements.{Queries}
use Rattle.cel_types.proofs.QueryLaws.{query-typed}
use Rattle.catalogue.specs.Changes.{publishes_another, streams_there, with_query, without_query}
use Rattle.catalogue.specs.Statements.{name_of, reads_by}
use Rattle.catalogue.specs.Typing.{published_by}
use Rattle.catalogue.proofs.StandLemmas.{Contains-map}
use Rattle.catalogue.proofs.TurnLemmas.{gives_alike, kinds_at, kinds_before}
use Rattle.independence.proofs.OwnLemmas.{OwnNames}
use Rattle.independence.proofs.PublishedLemmas.{contains-at, contains-filter}
use Rattle.independence.proofs.RenamedLemmas.{AreApart, BeginWith, IsHidden, apart-hidden, apart-push, apart-retired, at-push, begin-retired, kinds-renamed, own-front, own-was, renamed-other}
use Rattle.independence.proofs.TableLemmas.{get-append, get-end, number-found}
use Rattle.independence.proofs.TurnLemmas.{one-publisher, streams_by, turn-alike, turn-behind, turn-push, turn-without}
use Rattle.independence.proofs.TypingLemmas.{queries-reads}

-- a query's stream has its name, which is no retired stream's
pub record IsNamed (streams : List Entry) (q : Query) : Type 0 where
  pub entry : Entry
  pub there : slice_get streams q.stream ≡ Some entry
  pub name_is : entry.name ≡ q.name
  pub own : IsOwn q.name

-- the table begins with the declared streams; the queries are a program over it; no two streams have one name, but for retired and hidden ones; and the other streams are the declared ones and those of the queries, which have their names
pub record IsKept (declared streams : List Entry) (program : Program) : Type 0 where
  pub begins : BeginWith declared streams
  pub many : program.declared ≡ length declared
  pub typed : IsProgram (kinds_in streams) program
  pub apart : AreApart streams
  pub there : (n : ℕ) (e : Entry) → slice_get streams n ≡ Some e → IsOwn e.name → Contains (streams_there program) n
  pub named : All (IsNamed streams) program.order

-- a query whose stream has its name has it with more streams behind
named-more : (streams more : List Entry) (order : List Query) → All (IsNamed streams) order → All (IsNamed (streams ++ more)) order
named-more streams more order named =
    All-weaker (IsNamed streams) (IsNamed (streams ++ more)) (λ q is. record { entry = is.entry; there = get-append streams more q.stream is.entry is.there; name_is = is.name_is; own = is.own }) order named

-- what passes publishes another stream
pub another : (stream : ℕ) (q : Query) → publishes_another stream q ≡ true → q.stream ≢ stream
another stream q passes same = let e : not (stream == stream) ≡ true = ap (λ n. not (n == stream)) (sym same) ∙ passes in let is = self_equal stream in absurd cc

-- the streams that are there, with another query
there-more : (program : Program) (q : Query) (n : ℕ) → Contains (streams_there program) n → Contains (streams_there (with_query program q)) n
there-more program q n has = elim (Contains-append_cases (range_with_len 0 program.declared) (streams_by program.order) n has) [
  | inl declared ↦ Contains-append_left (range_with_len 0 program.declared) (streams_by (program.order ++ q ∷ [])) n declared
  | inr published ↦
      Contains-append_right (range_with_len 0 program.declared) (streams_by (program.order ++ q ∷ [])) n
      (subst (λ ns. Contains ns n) (sym (map-append (λ (p : Query). p.stream) program.order (q ∷ []))) (Contains-append_left (streams_by program.order) (q.stream ∷ []) n published))
]

module _ (declared streams : List Entry) (program : Program) (kept : IsKept declared streams program) where
  -- each query publishes a stream of the table
  small : All (λ q. q.stream < length streams) program.order
  small = All-weaker (IsNamed streams) (λ (q : Query). q.stream < length streams) (λ q is. slice_get_within streams q.stream is.entry is.there) program.order kept.named

  pub declared-low : length declared ≤ length streams
  declared-low = omega (arith, ap length kept.begins.parts, length-append declared kept.begins.more)

  -- a query of the program has its name
  pub query-named : (q : Query) → Contains program.queries q → IsNamed streams q
  query-named q has = All-contains (IsNamed streams) program.order q kept.named (Contains-permutation program.queries program.order q kept.typed.same_queries has)

  -- its stream isn't declared
  pub query-behind : (q : Query) → Contains program.queries q → length declared ≤ q.stream
  query-behind q has = elim (cases_lt q.stream (length declared)) [
    | inl less ↦
        let there : Contains (range_with_len 0 program.declared) q.stream = declared_there program.declared q.stream (omega (arith, less, kept.many)) in
        let before : q.stream < q.stream =
        All-contains (λ (p : Query). q.stream < p.stream) program.order q (turn-behind (kinds_in streams) (range_with_len 0 program.declared) program.order kept.typed.in_turn q.stream there)
        (Contains-permutation program.queries program.order q kept.typed.same_queries has) in
        absurd (omega (arith, before))
    | inr behind ↦ behind
  ]

  -- queries of one name are one
  pub one-named : (p q : Query) → Contains program.queries p → Contains program.queries q → p.name ≡ q.name → p ≡ q
  one-named p q has has_too same =
      let is = query-named p has in
      let is_too = query-named q has_too in
      one-publisher (kinds_in streams) (range_with_len 0 program.declared) program.order kept.typed.in_turn p q
      (Contains-permutation program.queries program.order p kept.typed.same_queries has) (Contains-permutation program.queries program.order q kept.typed.same_queries has_too)
      (kept.apart p.stream q.stream is.entry is_too.entry is.there is_too.there (is.name_is ∙ same ∙ sym is_too.name_is) (subst IsOwn (sym is.name_is) is.own))

  -- the same with more streams behind, over whose kinds the queries publish in turn
  turn-more : (more : List Entry) → PublishInTurn (kinds_in (streams ++ more)) (range_with_len 0 program.declared) program.order
  turn-more more = turn-alike (kinds_in streams) (kinds_in (streams ++ more)) (length streams) (kinds_before streams more (streams ++ more) refl) (range_with_len 0 program.declared) program.order small kept.typed.in_turn

  -- with hidden streams behind
  pub kept-hidden : (hidden : List Entry) → All IsHidden hidden → IsKept declared (streams ++ hidden) program
  kept-hidden hidden all = record {
    begins = record {
      more = kept.begins.more ++ hidden;
      parts = ap (λ es. es ++ hidden) kept.begins.parts ∙ append_assoc declared kept.begins.more hidden;
      undeclared = All-append (λ (e : Entry). e.declared ≡ false) kept.begins.more hidden kept.begins.undeclared (All-weaker IsHidden (λ (e : Entry). e.declared ≡ false) (λ e is. is.undeclared) hidden all);
    };
    many = kept.many;
    typed = record { same_queries = kept.typed.same_queries; in_turn = turn-more hidden };
    apart = apart-hidden streams hidden all kept.apart;
    there = λ n e at own. kept.there n e (own-front streams hidden all n e at own) own;
    named = named-more streams hidden program.order kept.named;
  }

  -- with a query of a new name
  module _ (s : Statement) (schema : List Attr) (x : Ex) (hides : ℕ) (birth : Option ℕ) (gives : Queries streams s schema x) (names : OwnNames s) (new : number_of (name_of s) streams ≡ None) where
    abbrev last : Entry
    last = published_by s schema

    abbrev query : Query
    query = record { name = name_of s; stream = length streams; hidden = hides; expr = x; birth = birth }

    reads-there : ReadsOnly (Contains (streams_there program)) x
    reads-there =
        queries-reads streams (Contains (streams_there program)) s schema x gives
        (λ a n read found. let (e, at, named) = number-found a streams n found in kept.there n e at (subst IsOwn (sym named) (All-contains IsOwn (reads_by s) a names.reads read)))

    all-behind : All (λ n. n < length streams) (streams_there program)
    all-behind =
        All-append (λ n. n < length streams) (range_with_len 0 program.declared) (streams_by program.order)
        (range_all (λ n. n < length streams) 0 program.declared (λ n above below. omega (arith, below, declared-low, kept.many)))
        (All-map (λ n. n < length streams) (λ (q : Query). q.stream) program.order small)

    types : IsTypedOver x (length streams) (kinds_in (streams ++ last ∷ [])) (kinds_in (streams ++ last ∷ []) (length streams))
    types =
        subst (IsTypedOver x (length streams) (kinds_in (streams ++ last ∷ []))) (sym (kinds_at streams [] (streams ++ last ∷ []) last refl))
        (gives_alike (length streams) (kinds_in streams) (kinds_in (streams ++ last ∷ [])) (kinds_before streams (last ∷ []) (streams ++ last ∷ []) refl) x (kinds_of schema) (query-typed streams s schema x gives))

    new-name : (n : ℕ) (e : Entry) → slice_get streams n ≡ Some e → e.name ≢ last.name
    new-name n e at same =
        absent-from_none (λ (z : Entry). z.name) (name_of s) streams new (subst (Contains (stream_names streams)) same (Contains-map (λ (z : Entry). z.name) streams e (contains-at streams n e at)))

    pub kept-push : IsKept declared (streams ++ last ∷ []) (with_query program query)
    kept-push = record {
      begins = record {
        more = kept.begins.more ++ last ∷ [];
        parts = ap (λ es. es ++ last ∷ []) kept.begins.parts ∙ append_assoc declared kept.begins.more (last ∷ []);
        undeclared = All-append (λ (e : Entry). e.declared ≡ false) kept.begins.more (last ∷ []) kept.begins.undeclared (All-cons (λ (e : Entry). e.declared ≡ false) last [] refl (All-nil (λ (e : Entry). e.declared ≡ false)));
      };
      many = kept.many;
      typed = record {
        same_queries = IsPermutation-append_left (query ∷ []) program.queries program.order kept.typed.same_queries;
        in_turn = turn-push (kinds_in (streams ++ last ∷ [])) (range_with_len 0 program.declared) program.order query (turn-more (last ∷ [])) (all-behind, reads-there, types, tt);
      };
      apart = apart-push streams last new-name kept.apart;
      there = λ n e at own. (elim (at-push streams last n e at) [
        | inl was ↦ there-more program query n (kept.there n e was own)
        | inr here ↦
            Contains-append_right (range_with_len 0 program.declared) (streams_by (program.order ++ query ∷ [])) n
            (subst (Contains (streams_by (program.order ++ query ∷ []))) (sym here.0)
            (Contains-map (λ (q : Query). q.stream) (program.order ++ query ∷ []) query (Contains-append_right program.order (query ∷ []) query (0, omega arith, refl))))
      ]);
      named =
          All-append (IsNamed (streams ++ last ∷ [])) program.order (query ∷ []) (named-more streams (last ∷ []) program.order kept.named)
          (All-cons (IsNamed (streams ++ last ∷ [])) query [] (record { entry = last; there = get-end streams last []; name_is = refl; own = names.name }) (All-nil (IsNamed (streams ++ last ∷ []))));
    }

  -- without a query that none reads
  module _ (q : Query) (has : Contains program.queries q) (unread : All (λ p. ReadsOnly (λ n. n ≢ q.stream) p.expr) program.order) where
    -- another stream that is there stays
    there-still : (n : ℕ) → n ≢ q.stream → Contains (streams_there program) n → Contains (streams_there (without_query program q.stream)) n
    there-still n other is = elim (Contains-append_cases (range_with_len 0 program.declared) (streams_by program.order) n is) [
      | inl first ↦ Contains-append_left (range_with_len 0 program.declared) (streams_by (filter (publishes_another q.stream) program.order)) n first
      | inr (k, inside, same) ↦
          let within : k < length program.order = omega (arith, inside, length-map program.order (λ (p : Query). p.stream)) in
          let publisher : Query = get_or program.order k q in
          let publishes : publisher.stream ≡ n = sym (get_or-map (λ (p : Query). p.stream) program.order k q n within) ∙ same in
          let passes : publishes_another q.stream publisher ≡ true = ap not (is_other publisher.stream q.stream (λ e. other (sym publishes ∙ e))) in
          Contains-append_right (range_with_len 0 program.declared) (streams_by (filter (publishes_another q.stream) program.order)) n
          (subst (Contains (streams_by (filter (publishes_another q.stream) program.order))) publishes
          (Contains-map (λ (p : Query). p.stream) (filter (publishes_another q.stream) program.order) publisher
          (contains-filter (publishes_another q.stream) program.order publisher passes (Contains-get_or program.order k q within))))
    ]

    -- each other query has its name still
    named-still : All (IsNamed (retired streams q.stream)) (filter (publishes_another q.stream) program.order)
    named-still k d inside =
        let p : Query = get_or (filter (publishes_another q.stream) program.order) k d in
        let is : IsNamed streams p = All-filter (publishes_another q.stream) (IsNamed streams) program.order kept.named k d inside in
        let other : p.stream ≢ q.stream = another q.stream p (filter_passes (publishes_another q.stream) program.order k d inside) in
        record { entry = is.entry; there = renamed-other streams q.stream (retired_name q.stream) p.stream other ∙ is.there; name_is = is.name_is; own = is.own }

    pub kept-without : IsKept declared (retired streams q.stream) (without_query program q.stream)
    kept-without = record {
      begins = begin-retired declared streams q.stream kept.begins (query-behind q has);
      many = kept.many;
      typed = record {
        same_queries = filter_permuted (publishes_another q.stream) program.queries program.order kept.typed.same_queries;
        in_turn =
            subst (λ kinds. PublishInTurn kinds (range_with_len 0 program.declared) (filter (publishes_another q.stream) program.order)) (sym (kinds-renamed streams q.stream (retired_name q.stream)))
            (turn-without q.stream (kinds_in streams) (range_with_len 0 program.declared) (range_with_len 0 program.declared) program.order (λ x is. is) (λ x other is. is) unread kept.typed.in_turn);
      };
      apart = apart-retired streams q.stream kept.apart;
      there = λ n e at own. (let was = own-was streams q.stream n e at own in there-still n was.0 (kept.there n e was.1 own));
      named = named-still;
    }
