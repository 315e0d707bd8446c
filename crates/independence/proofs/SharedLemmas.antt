-- Statements that stand in two accepted texts mean the same in both, up to the numbers of their streams.
use Rattle.std.proofs.Common.{◌≡◌, ◌∙◌, ℕ, ◌<◌, List, [], ◌∷◌, ◌++◌, Bool, length, get_or, refl, sym, ap, subst, inl, inr, arith}
use Rattle.std.specs.Prelude.{Some, Contains, IsTrue, slice_get, unwrap_or}
use Rattle.std.proofs.lemmas.Bool.{cases_lt}
use Rattle.std.proofs.lemmas.List.{get_or-map, length-append}
use Rattle.std.proofs.lemmas.List.Elements.{All-contains, All-weaker}
use Rattle.std.proofs.lemmas.List.Sorted.{All-permutation, Contains-permutation, IsPermutation-sym}
use Rattle.std.proofs.lemmas.Option.{get_or_from_slice_get, slice_get-get_or, slice_get_within}
use Rattle.event_types.specs.declared.kind.Kind.{Kind}
use Rattle.semantics.specs.Expressions.{Ex}
use Rattle.semantics.specs.Programs.{IsUnborn, Query}
use Rattle.semantics.specs.Reading.{ReadsOnly, renumbered}
use Rattle.semantics.specs.Statements.{HaveSameStatements, Publishes}
use Rattle.semantics.specs.TypedPrograms.{IsProgram}
use Rattle.stream_schema.specs.Schema.{Attr}
use Rattle.stream_schema.specs.Streams.{Entry, number_of, schemas_of, stream_names}
use Rattle.cel_grammar.specs.Trees.{Statement}
use Rattle.cel_grammar.specs.Trees as tree
use Rattle.cel_types.specs.Statements.{Queries}
use Rattle.cel_types.proofs.QueryLaws.{Queries-one}
use Rattle.catalogue.specs.Judgement.{Judged, program_of}
use Rattle.catalogue.specs.Statements.{name_of, queries_in, reads_by}
use Rattle.catalogue.specs.Typing.{Publish, published_by, none, next}
use Rattle.catalogue.proofs.StandLemmas.{query_at_number}
use Rattle.independence.proofs.AcceptedLemmas.{IsOfDeclaration, Stands, declared-at, declared-number, entry_of}
use Rattle.independence.proofs.PublishedLemmas.{IsOf, contains-at, grows, place-of, query-stands}
use Rattle.independence.proofs.TableLemmas.{get-append, get-end, get-front, number-at, number-found, number-front}
use Rattle.independence.proofs.TypingLemmas.{Has, IsAlike, queries-renumbered, queries-reads, schema-at}

-- the name of the stream with a number
abbrev pub name_at : List Entry → ℕ → List ℕ
name_at streams n = get_or (stream_names streams) n []

-- the number of the stream of its name in another table
abbrev pub number_in : List Entry → List Entry → ℕ → ℕ
number_in streams others n = unwrap_or (number_of (name_at streams n) others) 0

-- the name at a number is that of the stream there
pub named-at : (streams : List Entry) (n : ℕ) (e : Entry) → slice_get streams n ≡ Some e → name_at streams n ≡ e.name
named-at streams n e at = get_or-map (λ (s : Entry). s.name) streams n e [] (slice_get_within streams n e at) ∙ ap (λ (s : Entry). s.name) (get_or_from_slice_get streams n e e at)

-- a stream that the other table has under this number
pub number-in : (streams others : List Entry) (n m : ℕ) (e : Entry) → slice_get streams n ≡ Some e → number_of e.name others ≡ Some m → number_in streams others n ≡ m
number-in streams others n m e at found = ap (λ name. unwrap_or (number_of name others) 0) (named-at streams n e at) ∙ ap (λ o. unwrap_or o 0) found

-- the query of the other text that has the statement too
pub record IsFollowed (b : Judged) (number : ℕ → ℕ) (u : Statement) (n : ℕ) (schema : List Attr) (x : Ex) : Type 0 where
  pub twin : Query
  pub stands : Contains b.published twin
  pub named : twin.name ≡ name_of u
  pub expr : twin.expr ≡ renumbered number x
  pub stream : number n ≡ twin.stream
  pub entry : slice_get b.streams twin.stream ≡ Some (published_by u schema)
  pub unborn : IsUnborn twin

module _ (a b : Judged) (s : Stands a) (t : Stands b) (test : List ℕ → Bool) (shared : (u : Statement) → Contains a.statements u → IsTrue (test (name_of u)) → Contains b.statements u) (closed : (u : Statement) (name : List ℕ) → Contains a.statements u → IsTrue (test (name_of u)) → Contains (reads_by u) name → IsTrue (test name)) where
  -- streams of one name and one schema
  has-there : (n m : ℕ) (e f : Entry) (name : List ℕ) (schema : List Attr) → slice_get a.streams n ≡ Some e → slice_get b.streams m ≡ Some f → e.name ≡ name → f.name ≡ name → f.schema ≡ schema → Has b.streams name (number_in a.streams b.streams n) schema
  has-there n m e f name schema at there named named_too schemas =
      let found : number_of name b.streams ≡ Some m = ap (λ x. number_of x b.streams) (sym named_too) ∙ number-at b.streams t.apart m f there in
      let same : number_in a.streams b.streams n ≡ m = number-in a.streams b.streams n m e at (ap (λ x. number_of x b.streams) named ∙ found) in
      record { found = found ∙ ap Some (sym same); there = ap (slice_get (schemas_of b.streams)) same ∙ schema-at b.streams m f there ∙ ap Some schemas }

  -- a declared stream that is shared
  pub declared-there : (n : ℕ) (e : Entry) → slice_get a.declared n ≡ Some e → IsTrue (test e.name) → (m : ℕ) × (m < length b.declared) × (slice_get b.streams m ≡ Some (entry_of e.name e.schema)) × (number_in a.streams b.streams n ≡ m)
  declared-there n e at shares =
      let from = All-contains (IsOfDeclaration a.statements) a.declared e s.declarations (contains-at a.declared n e at) in
      let (m, schema, is, inside, there, found) = declared-number b t e.name from.columns (shared (tree.Stream e.name from.columns) from.stands shares) in
      let schemas : schema ≡ e.schema = is.value ∙ sym from.schema_is.value in
      (m, inside, there ∙ ap (λ x. Some (entry_of e.name x)) schemas, number-in a.streams b.streams n m e (declared-at a s n e at) found)

  -- so is its name
  declared-alike : (name : List ℕ) → IsTrue (test name) → IsAlike a.declared b.streams (number_in a.streams b.streams) name
  declared-alike name shares n schema has =
      let (e, at, named) = number-found name a.declared n has.found in
      let both : Some e.schema ≡ Some schema = sym (schema-at a.declared n e at) ∙ has.there in
      let schemas : e.schema ≡ schema = cc in
      let (m, inside, there, same) = declared-there n e at (subst (λ (x : List ℕ). IsTrue (test x)) (sym named) shares) in
      has-there n m e (entry_of e.name e.schema) name schema (declared-at a s n e at) there named named schemas

  -- a query that is shared, where the streams that it reads are alike
  query-followed : (streams : List Entry) (u : Statement) (schema : List Attr) (x : Ex) (n : ℕ) → Contains (queries_in a.statements) u → IsTrue (test (name_of u)) → Queries streams u schema x
      → ((name : List ℕ) → IsTrue (test name) → IsAlike streams b.streams (number_in a.streams b.streams) name) → slice_get a.streams n ≡ Some (published_by u schema) → IsFollowed b (number_in a.streams b.streams) u n schema x
  query-followed streams u schema x n stands shares gives alike at =
      let (k, there) = place-of (queries_in a.statements) u stands in
      let stated : Contains a.statements u = query-stands a.statements u stands in
      let (q, published, is) = t.published u (query_at_number a.statements k u there) (shared u stated shares) in
      let moved : Queries b.streams u schema (renumbered (number_in a.streams b.streams) x) =
      queries-renumbered streams b.streams (number_in a.streams b.streams) u schema x gives (λ name read. alike name (closed u name stated shares read)) in
      let one = Queries-one b.streams u schema is.schema (renumbered (number_in a.streams b.streams) x) q.expr moved is.gives in
      let entry : slice_get b.streams q.stream ≡ Some (published_by u schema) = is.entry ∙ ap (λ y. Some (published_by u y)) (sym one.0) in
      record {
        twin = q;
        stands = published;
        named = is.named;
        expr = sym one.1;
        stream = number-in a.streams b.streams n q.stream (published_by u schema) at (number-at b.streams t.apart q.stream (published_by u schema) entry);
        entry = entry;
        unborn = is.unborn;
      }

  -- so all streams that are shared are alike, by induction on the order of work
  follow : {streams all : List Entry} {hidden : ℕ} {order : List ℕ} {done : List Query} → Publish (queries_in a.statements) streams hidden order all done → all ≡ a.streams
      → ((name : List ℕ) → IsTrue (test name) → IsAlike streams b.streams (number_in a.streams b.streams) name) → (name : List ℕ) → IsTrue (test name) → IsAlike a.streams b.streams (number_in a.streams b.streams) name
  follow none same alike name shares = subst (λ (es : List Entry). IsAlike es b.streams (number_in a.streams b.streams) name) same (alike name shares)
  follow {all = all} (next {streams = streams} {s = u} schema x there gives rest) same alike name shares = follow rest same more_alike name shares
    where
      at : slice_get a.streams (length streams) ≡ Some (published_by u schema)
      at =
          let (more, parts, _) = grows rest in
          ap (λ es. slice_get es (length streams)) (sym same ∙ parts) ∙ get-append (streams ++ published_by u schema ∷ []) more (length streams) (published_by u schema) (get-end streams (published_by u schema) [])

      more_alike : (a_name : List ℕ) → IsTrue (test a_name) → IsAlike (streams ++ published_by u schema ∷ []) b.streams (number_in a.streams b.streams) a_name
      more_alike name shares n own has =
          let (f, stands, named) = number-found name (streams ++ published_by u schema ∷ []) n has.found in
          let both : Some f.schema ≡ Some own = sym (schema-at (streams ++ published_by u schema ∷ []) n f stands) ∙ has.there in
          let schemas : f.schema ≡ own = cc in
          elim (cases_lt n (length streams)) [
            | inl front ↦
                alike name shares n own (record {
                  found = number-front name streams (published_by u schema ∷ []) n has.found front;
                  there = schema-at streams n f (get-front streams (published_by u schema ∷ []) n f stands front) ∙ both;
                })
            | inr back ↦
                let inside : n < length (streams ++ published_by u schema ∷ []) = slice_get_within (streams ++ published_by u schema ∷ []) n f stands in
                let size = length-append streams (published_by u schema ∷ []) in
                let place : n ≡ length streams = omega (arith, inside, size) in
                let entries : Some f ≡ Some (published_by u schema) = sym stands ∙ ap (slice_get (streams ++ published_by u schema ∷ [])) place ∙ get-end streams (published_by u schema) [] in
                let entry : f ≡ published_by u schema = cc in
                let own_name : name_of u ≡ name = sym (ap (λ (z : Entry). z.name) entry) ∙ named in
                let followed =
                query-followed streams u schema x (length streams) (contains-at (queries_in a.statements) _ u there) (subst (λ (y : List ℕ). IsTrue (test y)) (sym own_name) shares) gives alike at in
                has-there n followed.twin.stream (published_by u schema) (published_by u schema) name own (ap (slice_get a.streams) place ∙ at) followed.entry own_name own_name (sym (ap (λ (z : Entry). z.schema) entry) ∙ schemas)
          ]

  module _ (publishes : Publish (queries_in a.statements) a.declared (length a.statements) a.order a.streams a.published) where
    -- all streams that are shared are alike
    pub all-alike : (name : List ℕ) → IsTrue (test name) → IsAlike a.streams b.streams (number_in a.streams b.streams) name
    all-alike = follow publishes refl declared-alike

    -- a query that is shared, with the query of the other text, and what it reads
    pub queries-followed : (q : Query) (u : Statement) → Contains (queries_in a.statements) u → (is : IsOf a.streams u q) → IsTrue (test q.name) → IsFollowed b (number_in a.streams b.streams) u q.stream is.schema q.expr
    queries-followed q u stands is shares = query-followed a.streams u is.schema q.expr q.stream stands (subst (λ (y : List ℕ). IsTrue (test y)) is.named shares) is.gives all-alike is.entry

    -- and it reads shared streams alone
    queries-shared : (q : Query) (u : Statement) → Contains (queries_in a.statements) u → (is : IsOf a.streams u q) → IsTrue (test q.name) → ReadsOnly (λ n. IsTrue (test (name_at a.streams n))) q.expr
    queries-shared q u stands is shares =
        queries-reads a.streams (λ n. IsTrue (test (name_at a.streams n))) u is.schema q.expr is.gives
        (λ name n read found. let (e, at, named) = number-found name a.streams n found in
        subst (λ (y : List ℕ). IsTrue (test y)) (sym (named-at a.streams n e at ∙ named)) (closed u name (query-stands a.statements u stands) (subst (λ (y : List ℕ). IsTrue (test y)) is.named shares) read))

    -- so the programs have the same statements
    pub have-same : (kinds other_kinds : ℕ → List Kind) → IsProgram kinds (program_of a) → IsProgram other_kinds (program_of b) → HaveSameStatements (λ n. test (name_at a.streams n)) (number_in a.streams b.streams) (program_of a) (program_of b)
    have-same kinds other_kinds typed other_typed = record {
      declared = λ n shares lt. (
          let at : slice_get a.declared n ≡ Some (get_or a.declared n (entry_of [] [])) = slice_get-get_or a.declared n (entry_of [] []) lt in
          let named = named-at a.streams n (get_or a.declared n (entry_of [] [])) (declared-at a s n (get_or a.declared n (entry_of [] [])) at) in
          let (m, inside, there, same) = declared-there n (get_or a.declared n (entry_of [] [])) at (subst (λ (y : List ℕ). IsTrue (test y)) named shares) in
          subst (λ (k : ℕ). k < length b.declared) (sym same) inside);
      published =
          All-permutation (λ q. IsTrue (test (name_at a.streams q.stream)) → ReadsOnly (λ n. IsTrue (test (name_at a.streams n))) q.expr × Publishes (program_of b) (number_in a.streams b.streams q.stream) (renumbered (number_in a.streams b.streams) q.expr) q.birth)
          a.published (program_of a).queries (IsPermutation-sym (program_of a).queries a.published typed.same_queries)
          (All-weaker (λ q. (u : Statement) × Contains (queries_in a.statements) u × IsOf a.streams u q)
          (λ q. IsTrue (test (name_at a.streams q.stream)) → ReadsOnly (λ n. IsTrue (test (name_at a.streams n))) q.expr × Publishes (program_of b) (number_in a.streams b.streams q.stream) (renumbered (number_in a.streams b.streams) q.expr) q.birth)
          (λ q known shares. let (u, stands, is) = known in
          let own : IsTrue (test q.name) = subst (λ (y : List ℕ). IsTrue (test y)) (named-at a.streams q.stream (published_by u is.schema) is.entry ∙ sym is.named) shares in
          let followed = queries-followed q u stands is own in (
            queries-shared q u stands is own,
            (followed.twin, Contains-permutation b.published (program_of b).queries followed.twin (IsPermutation-sym (program_of b).queries b.published other_typed.same_queries) followed.stands, sym followed.stream, followed.expr, followed.unborn ∙ sym is.unborn),
          ))
          a.published s.queries);
    }
