-- What an accepted text's table of streams has.
use Rattle.std.proofs.Common.{◌≡◌, ◌≢◌, ◌∙◌, ℕ, zero, suc, ◌<◌, List, [], ◌∷◌, ◌++◌, true, false, length, refl, sym, ap, subst, inl, inr, arith}
use Rattle.std.specs.Prelude.{Some, slice_get, Contains, AllPairs}
use Rattle.std.specs.List.{All}
use Rattle.std.proofs.lemmas.Bool.{cases_lt}
use Rattle.std.proofs.lemmas.List.{length-map}
use Rattle.std.proofs.lemmas.List.Elements.{All-cons, All-contains, All-nil, All-weaker, Contains-append_right}
use Rattle.std.proofs.lemmas.Option.{slice_get_within}
use Rattle.semantics.specs.Programs.{Query}
use Rattle.stream_schema.specs.Schema.{Attr}
use Rattle.stream_schema.specs.Streams.{Entry, number_of, stream_names}
use Rattle.cel_grammar.specs.Trees.{Column, Statement}
use Rattle.cel_grammar.specs.Trees as tree
use Rattle.cel_types.specs.Declarations.{IsDeclared}
use Rattle.resubscribe.specs.Laws.{HasEachOnce}
use Rattle.resubscribe.proofs.OrderLemmas.{HasEachOnce-order}
use Rattle.catalogue.specs.Judgement.{Accepts, Judged}
use Rattle.catalogue.specs.Reading.{numbers_of, reads_in}
use Rattle.catalogue.specs.Statements.{is_query, queries_in, query_names, reads_by}
use Rattle.catalogue.specs.Typing.{FileDeclares, none, stream, query}
use Rattle.independence.proofs.PublishedLemmas.{IsOf, apart-from, contains-at, contains-filter, declared-apart, grows, place-of, published-are, publisher}
use Rattle.independence.proofs.TableLemmas.{get-append, get-back, get-front, number-at}

-- the stream of a declaration
abbrev pub entry_of : List ℕ → List Attr → Entry
entry_of name schema = record { name = name; schema = schema; declared = true }

-- a declared stream is that of a declaration
pub record IsOfDeclaration (ss : List Statement) (e : Entry) : Type 0 where
  pub columns : List Column
  pub stands : Contains ss (tree.Stream e.name columns)
  pub schema_is : IsDeclared columns e.schema
  pub declared : e.declared ≡ true

-- with one statement more
more-statements : {ss : List Statement} (t : Statement) {e : Entry} → IsOfDeclaration ss e → IsOfDeclaration (t ∷ ss) e
more-statements {ss} t {e} h = record { columns = h.columns; stands = Contains-append_right (t ∷ []) ss (tree.Stream e.name h.columns) h.stands; schema_is = h.schema_is; declared = h.declared }

-- by induction on the declarations
declared-are : {ss : List Statement} {streams : List Entry} → FileDeclares ss streams → All (IsOfDeclaration ss) streams
declared-are none = All-nil (IsOfDeclaration [])
declared-are (stream {name = name} {columns = columns} {schema = schema} {later = later} {streams = streams} first rest) =
    All-cons (IsOfDeclaration (tree.Stream name columns ∷ later)) (entry_of name schema) streams (record { columns = columns; stands = (0, omega arith, refl); schema_is = first; declared = refl })
    (All-weaker (IsOfDeclaration later) (IsOfDeclaration (tree.Stream name columns ∷ later)) (λ e h. more-statements (tree.Stream name columns) h) streams (declared-are rest))
declared-are (query {items = items} {source = source} {name = name} {later = later} {streams = streams} rest) =
    All-weaker (IsOfDeclaration later) (IsOfDeclaration (tree.Query items source name ∷ later)) (λ e h. more-statements (tree.Query items source name) h) streams (declared-are rest)

-- each declaration has its stream, by induction on the declarations
declaration-is : {ss : List Statement} {streams : List Entry} → FileDeclares ss streams → (name : List ℕ) (columns : List Column) (k : ℕ) → slice_get ss k ≡ Some (tree.Stream name columns)
    → (schema : List Attr) × IsDeclared columns schema × Contains streams (entry_of name schema)
declaration-is none name columns k at = cc
declaration-is (stream {name = own} {columns = own_columns} {schema = schema} first rest) name columns zero at =
    let names : own ≡ name = cc in
    let same : own_columns ≡ columns = cc in
    (schema, subst (λ (cs : List Column). IsDeclared cs schema) same first, (0, omega arith, ap (λ n. entry_of n schema) names))
declaration-is (stream {name = own} {schema = own_schema} {streams = streams} first rest) name columns (suc k) at =
    let (schema, is, stands) = declaration-is rest name columns k at in (schema, is, Contains-append_right (entry_of own own_schema ∷ []) streams (entry_of name schema) stands)
declaration-is (query {items = items} {source = source} {name = own} rest) name columns zero at = cc
declaration-is (query rest) name columns (suc k) at = declaration-is rest name columns k at

-- names stand once; the declared streams come first, each that of a declaration; and each query has its stream
pub record Stands (judged : Judged) : Type 0 where
  pub apart : AllPairs (λ x y. x ≢ y) (stream_names judged.streams)
  pub more : List Entry
  pub parts : judged.streams ≡ judged.declared ++ more
  pub undeclared : All (λ e. e.declared ≡ false) more
  pub declarations : All (IsOfDeclaration judged.statements) judged.declared
  pub declared : (name : List ℕ) (columns : List Column) → Contains judged.statements (tree.Stream name columns) → (schema : List Attr) × IsDeclared columns schema × Contains judged.declared (entry_of name schema)
  pub queries : All (λ q. (s : Statement) × Contains (queries_in judged.statements) s × IsOf judged.streams s q) judged.published
  -- each query of the text is published
  pub published : (s : Statement) → is_query s ≡ true → Contains judged.statements s → (q : Query) × Contains judged.published q × IsOf judged.streams s q

-- an accepted text has these
pub accepted-stands : (text : List ℕ) (judged : Judged) → Accepts text judged → Stands judged
accepted-stands text judged h =
    let (more, parts, undeclared) = grows h.publishes in
    record {
      apart = apart-from judged.statements judged.declared judged.order h.sound h.in_order h.declares {hidden = length judged.statements} [] judged.order refl none (declared-apart judged.statements judged.declared judged.order h.sound h.in_order h.declares) h.publishes;
      more = more;
      parts = parts;
      undeclared = undeclared;
      declarations = declared-are h.declares;
      declared = λ name columns stands. (let (k, at) = place-of judged.statements (tree.Stream name columns) stands in declaration-is h.declares name columns k at);
      queries = published-are h.publishes;
      published = λ s is stands. (
          let (k, at) = place-of (queries_in judged.statements) s (contains-filter is_query judged.statements s is stands) in
          let once : HasEachOnce (reads_in judged.statements) judged.order = HasEachOnce-order (reads_in judged.statements) judged.order h.in_order in
          let size : length (reads_in judged.statements) ≡ length (queries_in judged.statements) = length-map (queries_in judged.statements) (λ q. numbers_of (query_names judged.statements) (reads_by q)) in
          let inside : k < length (queries_in judged.statements) = slice_get_within (queries_in judged.statements) k s at in
          publisher h.publishes k s ((once.all k).1 (omega arith)) at);
    }

module _ (judged : Judged) (t : Stands judged) where
  -- a declared stream stands in the whole table, under its number
  pub declared-at : (n : ℕ) (e : Entry) → slice_get judged.declared n ≡ Some e → slice_get judged.streams n ≡ Some e
  declared-at n e at = ap (λ es. slice_get es n) t.parts ∙ get-append judged.declared t.more n e at

  -- a stream of the table that is declared comes from a declaration
  pub declaration-of : (n : ℕ) (e : Entry) → slice_get judged.streams n ≡ Some e → e.declared ≡ true → IsOfDeclaration judged.statements e
  declaration-of n e at is = elim (cases_lt n (length judged.declared)) [
    | inl front ↦ All-contains (IsOfDeclaration judged.statements) judged.declared e t.declarations (contains-at judged.declared n e (get-front judged.declared t.more n e (ap (λ es. slice_get es n) (sym t.parts) ∙ at) front))
    | inr back ↦
        let no : e.declared ≡ false = All-contains (λ (z : Entry). z.declared ≡ false) t.more e t.undeclared (get-back judged.declared t.more n e (ap (λ es. slice_get es n) (sym t.parts) ∙ at) back) in absurd cc
  ]

  -- the stream of a declaration has a number below that of the declared streams
  pub declared-number : (name : List ℕ) (columns : List Column) → Contains judged.statements (tree.Stream name columns)
      → (n : ℕ) × (schema : List Attr) × IsDeclared columns schema × (n < length judged.declared) × (slice_get judged.streams n ≡ Some (entry_of name schema)) × (number_of name judged.streams ≡ Some n)
  declared-number name columns stands =
      let (schema, is, there) = t.declared name columns stands in
      let (n, at) = place-of judged.declared (entry_of name schema) there in
      let all = declared-at n (entry_of name schema) at in
      (n, schema, is, slice_get_within judged.declared n (entry_of name schema) at, all, number-at judged.streams t.apart n (entry_of name schema) all)
