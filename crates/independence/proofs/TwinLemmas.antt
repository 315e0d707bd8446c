-- Two sets of queries, of which one is part of the other, up to the numbers of the streams.
use Rattle.std.proofs.Common.{◌≡◌, ◌≢◌, ◌∙◌, ℕ, ◌<◌, ◌==◌, List, [], ◌∷◌, ◌++◌, true, not, cond, get_or, length, refl, sym, ap, subst, inl, inr, arith}
use Rattle.std.specs.Prelude.{Option, Some, slice_get, Contains}
use Rattle.std.specs.List.{All, filter, range_with_len}
use Rattle.std.proofs.lemmas.List.Elements.{All-append, All-cons, All-contains, All-contains_itself, All-filter, All-nil, Contains-append_left, Contains-append_right, Contains-get_or, filter_passes}
use Rattle.std.proofs.lemmas.List.Sorted.{All-permutation, IsPermutation-sym}
use Rattle.std.proofs.lemmas.Option.{slice_get_within}
use Rattle.event_types.proofs.NumberLemmas.{is_other, self_equal}
use Rattle.semantics.specs.Expressions.{Ex, Read, Filter, Select, Union, Next, Fold}
use Rattle.semantics.specs.Programs.{Program, Query}
use Rattle.semantics.specs.Reading.{ReadsOnly, renumbered}
use Rattle.splitter.proofs.ApartLemmas.{reads_weaker}
use Rattle.stream_schema.specs.Schema.{Attr}
use Rattle.stream_schema.specs.Streams.{Entry, number_of, retired, retired_name}
use Rattle.stream_schema.specs.Table.{IsOwn}
use Rattle.cel_grammar.specs.Trees.{Statement}
use Rattle.cel_types.specs.SourceLaws.{kinds_in}
use Rattle.cel_types.specs.Statements.{Queries}
use Rattle.cel_types.proofs.QueryLaws.{Queries-one}
use Rattle.catalogue.specs.Changes.{publishes_another, with_query, without_query}
use Rattle.catalogue.specs.Statements.{name_of, reads_by}
use Rattle.catalogue.specs.Typing.{published_by}
use Rattle.independence.proofs.KeptLemmas.{IsKept, IsNamed, another, declared-low, query-named}
use Rattle.independence.proofs.OwnLemmas.{OwnNames}
use Rattle.independence.proofs.PublishedLemmas.{contains-filter}
use Rattle.independence.proofs.RenamedLemmas.{IsHidden, at-push, own-front, own-number, own-was, renamed-other}
use Rattle.independence.proofs.TableLemmas.{get-append, get-end, number-found}
use Rattle.independence.proofs.TurnLemmas.{turn-reads}
use Rattle.independence.proofs.TypingLemmas.{Has, queries-renumbered, schema-at}

-- the stream at a number has the name and the schema of another
pub record IsAt (streams : List Entry) (n : ℕ) (e : Entry) : Type 0 where
  pub entry : Entry
  pub there : slice_get streams n ≡ Some entry
  pub name_is : entry.name ≡ e.name
  pub schema_is : entry.schema ≡ e.schema

-- the program has a query of the same name, statement and birth
pub record HasSame (number : ℕ → ℕ) (program : Program) (q : Query) : Type 0 where
  pub twin : Query
  pub stands : Contains program.queries twin
  pub named : twin.name ≡ q.name
  pub stream : number q.stream ≡ twin.stream
  pub expr : twin.expr ≡ renumbered number q.expr
  pub birth : twin.birth ≡ q.birth

-- each stream of the first set stands in the second under its number, but for retired and hidden ones; the declared streams keep theirs; and so does each query
pub record IsWithin (number first : ℕ → ℕ) (streams others : List Entry) (program other : Program) : Type 0 where
  pub alike : (n : ℕ) (e : Entry) → slice_get streams n ≡ Some e → IsOwn e.name → IsAt others (number n) e
  pub low : (n : ℕ) → n < program.declared → (number n < other.declared) × (number n ≡ first n)
  pub twins : All (HasSame number other) program.queries

-- a stream stands where it stood with more behind
at-more : (streams more : List Entry) (n : ℕ) (e : Entry) → IsAt streams n e → IsAt (streams ++ more) n e
at-more streams more n e is = record { entry = is.entry; there = get-append streams more n is.entry is.there; name_is = is.name_is; schema_is = is.schema_is }

-- numbers that agree where the expression reads give one expression, by induction on it
renumbered-agrees : (f g : ℕ → ℕ) (x : Ex) → ReadsOnly (λ n. f n ≡ g n) x → renumbered f x ≡ renumbered g x
renumbered-agrees f g (Read n) same = ap Read same
renumbered-agrees f g (Filter p x) same = ap (Filter p) (renumbered-agrees f g x same)
renumbered-agrees f g (Select m x) same = ap (Select m) (renumbered-agrees f g x same)
renumbered-agrees f g (Union x y) same = λ i. Union (renumbered-agrees f g x same.0 i) (renumbered-agrees f g y same.1 i)
renumbered-agrees f g (Next p x y) same = λ i. Next p (renumbered-agrees f g x same.0 i) (renumbered-agrees f g y same.1 i)
renumbered-agrees f g (Fold p q m x y) same = λ i. Fold p q m (renumbered-agrees f g x same.0 i) (renumbered-agrees f g y same.1 i)

-- the numbers with another one at a place
abbrev pub with_number : (ℕ → ℕ) → ℕ → ℕ → ℕ → ℕ
with_number number place new n = cond (n == place) new (number n)

number-below : (number : ℕ → ℕ) (place new n : ℕ) → n < place → with_number number place new n ≡ number n
number-below number place new n less = ap (λ b. cond b new (number n)) (is_other n place (λ same. absurd (omega (arith, less, same))))

number-here : (number : ℕ → ℕ) (place new n : ℕ) → n ≡ place → with_number number place new n ≡ new
number-here number place new n same = ap (λ b. cond b new (number n)) (subst (λ k. n == k ≡ true) same (self_equal n))

module _ (number first : ℕ → ℕ) (declared others_declared streams others : List Entry) (program other : Program) (kept : IsKept declared streams program) (kept_too : IsKept others_declared others other) (within : IsWithin number first streams others program other) where
  -- with hidden streams behind in both
  pub within-hidden : (hidden others_hidden : List Entry) → All IsHidden hidden → IsWithin number first (streams ++ hidden) (others ++ others_hidden) program other
  within-hidden hidden others_hidden all = record {
    alike = λ n e at own. at-more others others_hidden (number n) e (within.alike n e (own-front streams hidden all n e at own) own);
    low = within.low;
    twins = within.twins;
  }

  -- what a name means in the first it means in the second
  pub means-same : (a : List ℕ) (n : ℕ) (schema : List Attr) → IsOwn a → Has streams a n schema → Has others a (number n) schema
  means-same a n schema own has =
      let (e, at, named) = number-found a streams n has.found in
      let own_name : IsOwn e.name = subst IsOwn (sym named) own in
      let is = within.alike n e at own_name in
      let found : number_of is.entry.name others ≡ Some (number n) = own-number others kept_too.apart (number n) is.entry is.there (subst IsOwn (sym is.name_is) own_name) in
      let same : Some e.schema ≡ Some schema = sym (schema-at streams n e at) ∙ has.there in
      record {
        found = ap (λ x. number_of x others) (sym named ∙ sym is.name_is) ∙ found;
        there = schema-at others (number n) is.entry is.there ∙ ap Some is.schema_is ∙ same;
      }

  -- one statement comes to both
  module _ (s : Statement) (schema other_schema : List Attr) (x y : Ex) (hides others_hides : ℕ) (birth : Option ℕ) (gives : Queries streams s schema x) (gives_too : Queries others s other_schema y) (names : OwnNames s) where
    abbrev numbers : ℕ → ℕ
    numbers = with_number number (length streams) (length others)

    abbrev query : Query
    query = record { name = name_of s; stream = length streams; hidden = hides; expr = x; birth = birth }

    abbrev twin : Query
    twin = record { name = name_of s; stream = length others; hidden = others_hides; expr = y; birth = birth }

    one : (schema ≡ other_schema) × (renumbered numbers x ≡ y)
    one =
        Queries-one others s schema other_schema (renumbered numbers x) y
        (queries-renumbered streams others numbers s schema x gives
        (λ a read n own_schema has.
        let is = means-same a n own_schema (All-contains IsOwn (reads_by s) a names.reads read) has in
        let (e, at, named) = number-found a streams n has.found in
        subst (λ k. Has others a k own_schema) (sym (number-below number (length streams) (length others) n (slice_get_within streams n e at))) is))
        gives_too

    -- an old query still has its twin
    same-still : (q : Query) → Contains program.queries q → HasSame numbers (with_query other twin) q
    same-still q has =
        let was = All-contains (HasSame number other) program.queries q within.twins has in
        let is = query-named declared streams program kept q has in
        let low : q.stream < length streams = slice_get_within streams q.stream is.entry is.there in
        let order : All (λ p. ReadsOnly (λ n. n < p.stream) p.expr) program.queries =
        All-permutation (λ (p : Query). ReadsOnly (λ n. n < p.stream) p.expr) program.order program.queries (IsPermutation-sym program.queries program.order kept.typed.same_queries)
        (turn-reads (kinds_in streams) (range_with_len 0 program.declared) program.order kept.typed.in_turn) in
        let reads : ReadsOnly (λ n. numbers n ≡ number n) q.expr =
        reads_weaker (λ n. n < q.stream) (λ n. numbers n ≡ number n) (λ n less. number-below number (length streams) (length others) n (omega (arith, less, low))) q.expr
        (All-contains (λ (p : Query). ReadsOnly (λ n. n < p.stream) p.expr) program.queries q order has) in
        record {
          twin = was.twin;
          stands = Contains-append_left other.queries (twin ∷ []) was.twin was.stands;
          named = was.named;
          stream = number-below number (length streams) (length others) q.stream low ∙ was.stream;
          expr = was.expr ∙ sym (renumbered-agrees numbers number q.expr reads);
          birth = was.birth;
        }

    pub within-push : IsWithin numbers first (streams ++ published_by s schema ∷ []) (others ++ published_by s other_schema ∷ []) (with_query program query) (with_query other twin)
    within-push = record {
      alike = λ n e at own. (elim (at-push streams (published_by s schema) n e at) [
        | inl was ↦
            subst (λ k. IsAt (others ++ published_by s other_schema ∷ []) k e) (sym (number-below number (length streams) (length others) n (slice_get_within streams n e was)))
            (at-more others (published_by s other_schema ∷ []) (number n) e (within.alike n e was own))
        | inr here ↦
            subst (λ k. IsAt (others ++ published_by s other_schema ∷ []) k e) (sym (number-here number (length streams) (length others) n here.0)) (record {
              entry = published_by s other_schema;
              there = get-end others (published_by s other_schema) [];
              name_is = ap (λ (z : Entry). z.name) here.1;
              schema_is = sym one.0 ∙ ap (λ (z : Entry). z.schema) here.1;
            })
      ]);
      low = λ n less. (
          let was = within.low n less in
          let same = number-below number (length streams) (length others) n (omega (arith, less, kept.many, declared-low declared streams program kept)) in
          (subst (λ k. k < other.declared) (sym same) was.0, same ∙ was.1));
      twins =
          All-append (HasSame numbers (with_query other twin)) program.queries (query ∷ []) (λ k d inside. same-still (get_or program.queries k d) (Contains-get_or program.queries k d inside))
          (All-cons (HasSame numbers (with_query other twin)) query [] (record {
            twin = twin;
            stands = Contains-append_right other.queries (twin ∷ []) twin (0, omega arith, refl);
            named = refl;
            stream = number-here number (length streams) (length others) (length streams) refl;
            expr = sym one.1;
            birth = refl;
          }) (All-nil (HasSame numbers (with_query other twin))));
    }

  -- queries of one name leave both
  module _ (q r : Query) (has : Contains program.queries q) (has_too : Contains other.queries r) (one_name : q.name ≡ r.name) where
    own_is : IsNamed streams q
    own_is = query-named declared streams program kept q has

    other_is : IsNamed others r
    other_is = query-named others_declared others other kept_too r has_too

    -- no other stream of the first set has the number of the second's query
    number-other : (n : ℕ) (e : Entry) → slice_get streams n ≡ Some e → IsOwn e.name → n ≢ q.stream → number n ≢ r.stream
    number-other n e at own apart same =
        let is = within.alike n e at own in
        let both : Some is.entry ≡ Some other_is.entry = sym is.there ∙ ap (slice_get others) same ∙ other_is.there in
        let one : is.entry ≡ other_is.entry = cc in
        let name : e.name ≡ own_is.entry.name = sym is.name_is ∙ ap (λ (z : Entry). z.name) one ∙ other_is.name_is ∙ sym one_name ∙ sym own_is.name_is in
        apart (kept.apart n q.stream e own_is.entry at own_is.there name own)

    -- another query still has its twin
    twin-still : (p : Query) → Contains program.queries p → p.stream ≢ q.stream → HasSame number (without_query other r.stream) p
    twin-still p there apart =
        let was = All-contains (HasSame number other) program.queries p within.twins there in
        let is = query-named declared streams program kept p there in
        let away : was.twin.stream ≢ r.stream = (λ same. number-other p.stream is.entry is.there (subst IsOwn (sym is.name_is) is.own) apart (was.stream ∙ same)) in
        record {
          twin = was.twin;
          stands = contains-filter (publishes_another r.stream) other.queries was.twin (ap not (is_other was.twin.stream r.stream away)) was.stands;
          named = was.named;
          stream = was.stream;
          expr = was.expr;
          birth = was.birth;
        }

    pub within-without : IsWithin number first (retired streams q.stream) (retired others r.stream) (without_query program q.stream) (without_query other r.stream)
    within-without = record {
      alike = λ n e at own. (
          let was = own-was streams q.stream n e at own in
          let is = within.alike n e was.1 own in
          record {
            entry = is.entry;
            there = renamed-other others r.stream (retired_name r.stream) (number n) (number-other n e was.1 own was.0) ∙ is.there;
            name_is = is.name_is;
            schema_is = is.schema_is;
          });
      low = within.low;
      twins = λ k d inside. (
          let p : Query = get_or (filter (publishes_another q.stream) program.queries) k d in
          twin-still p (All-filter (publishes_another q.stream) (Contains program.queries) program.queries (All-contains_itself program.queries) k d inside)
          (another q.stream p (filter_passes (publishes_another q.stream) program.queries k d inside)));
    }
