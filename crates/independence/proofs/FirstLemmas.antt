-- The sets of queries of two accepted texts, of which one has the statements of the other.
use Rattle.std.proofs.Common.{◌≡◌, ◌≢◌, ◌∙◌, ℕ, ◌<◌, ◌⊎◌, List, [], ◌∷◌, Bool, true, get_or, length, refl, sym, ap, subst, inl, inr, arith}
use Rattle.std.specs.Prelude.{Some, slice_get, Contains, AllPairs, IsTrue}
use Rattle.std.specs.List.{All, range_with_len}
use Rattle.std.proofs.lemmas.Bool.{cases_lt}
use Rattle.std.proofs.lemmas.List.{length_push}
use Rattle.std.proofs.lemmas.List.Elements.{All-contains, All-weaker, Contains-append_left, Contains-append_right}
use Rattle.std.proofs.lemmas.List.Sorted.{All-permutation, Contains-permutation, IsPermutation-sym}
use Rattle.std.proofs.lemmas.Option.{slice_get-get_or, slice_get_within}
use Rattle.semantics.specs.Programs.{Query}
use Rattle.semantics.proofs.StatementLemmas.{declared_there}
use Rattle.stream_schema.specs.Streams.{Entry, number_of, stream_names}
use Rattle.stream_schema.specs.Table.{IsOwn}
use Rattle.cel_grammar.specs.Trees.{Statement}
use Rattle.catalogue.specs.Changes.{streams_there}
use Rattle.catalogue.specs.Judgement.{Accepts, Judged, program_of}
use Rattle.catalogue.specs.Statements.{name_of, queries_in}
use Rattle.catalogue.specs.Typing.{Publish, none, next, published_by}
use Rattle.catalogue.proofs.ProgramLemmas.{accepted_are_programs}
use Rattle.independence.specs.Enlarging.{Enlarge}
use Rattle.independence.proofs.AcceptedLemmas.{Stands, accepted-stands, entry_of}
use Rattle.independence.proofs.KeptLemmas.{IsKept, IsNamed}
use Rattle.independence.proofs.OwnLemmas.{OwnNames, reads-own}
use Rattle.independence.proofs.PublishedLemmas.{IsOf, query-stands}
use Rattle.independence.proofs.RenamedLemmas.{AreApart}
use Rattle.independence.proofs.SharedLemmas.{all-alike, declared-there, number_in, queries-followed}
use Rattle.independence.proofs.TableLemmas.{number-at, number-found}
use Rattle.independence.proofs.TurnLemmas.{streams_by}
use Rattle.independence.proofs.TwinLemmas.{HasSame, IsAt, IsWithin}
use Rattle.independence.proofs.TypingLemmas.{schema-at}

-- each stream of the table was there, or is that of a query: by induction on the queries
published-all : {queries : List Statement} {streams all : List Entry} {hidden : ℕ} {order : List ℕ} {done : List Query} → Publish queries streams hidden order all done → (n : ℕ) → n < length all → (n < length streams) ⊎ Contains (streams_by done) n
published-all none n inside = inl inside
published-all (next {streams = streams} {s = s} {more = more} schema x there gives rest) n inside = elim (published-all rest n inside) [
  | inl before ↦ elim (cases_lt n (length streams)) [
    | inl old ↦ inl old
    | inr past ↦ let here : length streams ≡ n = omega (arith, past, before, length_push streams (published_by s schema)) in inr (0, omega arith, here)
  ]
  | inr behind ↦ inr (Contains-append_right (length streams ∷ []) (streams_by more) n behind)
]

module _ (text : List ℕ) (judged : Judged) (accepts : Accepts text judged) where
  -- no statement has the name of a retired stream
  pub own-statements : All OwnNames judged.statements
  own-statements = reads-own text judged.statements _ accepts.file.reads

  known-streams : (n : ℕ) → n < length judged.streams → Contains (streams_there (program_of judged)) n
  known-streams n inside = elim (published-all accepts.publishes n inside) [
    | inl declared ↦ Contains-append_left (range_with_len 0 (length judged.declared)) (streams_by judged.published) n (declared_there (length judged.declared) n declared)
    | inr published ↦ Contains-append_right (range_with_len 0 (length judged.declared)) (streams_by judged.published) n published
  ]

  kept-apart : AllPairs (λ x y. x ≢ y) (stream_names judged.streams) → AreApart judged.streams
  kept-apart apart m n d e at_m at_n same own =
      let one : Some m ≡ Some n = sym (number-at judged.streams apart m d at_m) ∙ ap (λ x. number_of x judged.streams) same ∙ number-at judged.streams apart n e at_n in cc

  -- what the queries' statements are
  named-of : (q : Query) → (u : Statement) × Contains (queries_in judged.statements) u × IsOf judged.streams u q → IsNamed judged.streams q
  named-of q (u, stands, is) = record {
    entry = published_by u is.schema;
    there = is.entry;
    name_is = sym is.named;
    own = subst IsOwn (sym is.named) (All-contains OwnNames judged.statements u own-statements (query-stands judged.statements u stands)).name;
  }

  -- its set is kept
  pub kept-first : IsKept judged.declared judged.streams (program_of judged)
  kept-first =
      let s = accepted-stands text judged accepts in
      record {
        begins = record { more = s.more; parts = s.parts; undeclared = s.undeclared };
        many = refl;
        typed = accepted_are_programs text judged accepts;
        apart = kept-apart s.apart;
        there = λ n e at own. known-streams n (slice_get_within judged.streams n e at);
        named = All-weaker (λ q. (u : Statement) × Contains (queries_in judged.statements) u × IsOf judged.streams u q) (IsNamed judged.streams) named-of judged.published s.queries;
      }

module _ (text other_text : List ℕ) (a b : Judged) (accepts : Accepts text a) (accepts_too : Accepts other_text b) (enlarges : Enlarge a.statements b.statements) where
  s : Stands a
  s = accepted-stands text a accepts

  t : Stands b
  t = accepted-stands other_text b accepts_too

  -- all names are shared
  abbrev every-name : List ℕ → Bool
  every-name name = true

  shared : (u : Statement) → Contains a.statements u → IsTrue (every-name (name_of u)) → Contains b.statements u
  shared u stated shares = All-contains (Contains b.statements) a.statements u enlarges stated

  -- the number of a stream of its name
  abbrev pub first : ℕ → ℕ
  first = number_in a.streams b.streams

  stream-alike : (n : ℕ) (e : Entry) → slice_get a.streams n ≡ Some e → IsOwn e.name → IsAt b.streams (first n) e
  stream-alike n e at own =
      let has = all-alike a b s t every-name shared (λ u name stated shares read. refl) accepts.publishes e.name refl n e.schema (record { found = number-at a.streams s.apart n e at; there = schema-at a.streams n e at }) in
      let (f, there, named) = number-found e.name b.streams (first n) has.found in
      let both : Some f.schema ≡ Some e.schema = sym (schema-at b.streams (first n) f there) ∙ has.there in
      record { entry = f; there = there; name_is = named; schema_is = cc }

  declared-low : (n : ℕ) → n < length a.declared → (first n < length b.declared) × (first n ≡ first n)
  declared-low n less =
      let at : slice_get a.declared n ≡ Some (get_or a.declared n (entry_of [] [])) = slice_get-get_or a.declared n (entry_of [] []) less in
      let (m, inside, there, same) = declared-there a b s t every-name shared (λ u name stated shares read. refl) n (get_or a.declared n (entry_of [] [])) at refl in
      (subst (λ k. k < length b.declared) (sym same) inside, refl)

  query-twin : (q : Query) → (u : Statement) × Contains (queries_in a.statements) u × IsOf a.streams u q → HasSame first (program_of b) q
  query-twin q (u, stands, is) =
      let followed = queries-followed a b s t every-name shared (λ u name stated shares read. refl) accepts.publishes q u stands is refl in
      record {
        twin = followed.twin;
        stands = Contains-permutation b.published (program_of b).queries followed.twin (IsPermutation-sym (program_of b).queries b.published (accepted_are_programs other_text b accepts_too).same_queries) followed.stands;
        named = followed.named ∙ sym is.named;
        stream = followed.stream;
        expr = followed.expr;
        birth = followed.unborn ∙ sym is.unborn;
      }

  -- the first set is within the second
  pub within-first : IsWithin first first a.streams b.streams (program_of a) (program_of b)
  within-first = record {
    alike = stream-alike;
    low = declared-low;
    twins =
        All-permutation (HasSame first (program_of b)) a.published (program_of a).queries (IsPermutation-sym (program_of a).queries a.published (accepted_are_programs text a accepts).same_queries)
        (All-weaker (λ q. (u : Statement) × Contains (queries_in a.statements) u × IsOf a.streams u q) (HasSame first (program_of b)) query-twin a.published s.queries);
  }
