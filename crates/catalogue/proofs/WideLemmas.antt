-- The projections of typed queries have the widths of their sources.
use Rattle.std.proofs.Common.{◌≡◌, ◌∙◌, sym, ap, refl, ℕ, ◌+◌, ◌<◌, length, List, [], ◌∷◌, ◌++◌, append_assoc}
use Rattle.std.specs.List.{All}
use Rattle.std.proofs.lemmas.List.{length-map}
use Rattle.std.proofs.lemmas.List.Elements.{All-nil, All-cons}
use Rattle.event_types.specs.declared.kind.Kind.{Kind}
use Rattle.semantics.proofs.ReadingLemmas.{reads_first}
use Rattle.semantics.specs.Expressions.{Ex, Read, Filter, Select, Union, Next, Fold}
use Rattle.semantics.specs.Programs.{Query}
use Rattle.semantics.specs.Reading.{ReadsOnly}
use Rattle.stream_schema.specs.Schema.{Attr, kinds_of}
use Rattle.stream_schema.specs.Streams.{Entry}
use Rattle.cel_grammar.specs.Trees.{Source, Statement}
use Rattle.cel_grammar.specs.Trees as tree
use Rattle.splitter.specs.SourceWidths.{HasWidths, width_of}
use Rattle.splitter.proofs.ApartLemmas.{reads_weaker}
use Rattle.splitter.proofs.WidthLemmas.{width_is}
use Rattle.cel_types.specs.SourceLaws.{kinds_in}
use Rattle.cel_types.specs.Sources.{Elaborates}
use Rattle.cel_types.specs.Sources as source
use Rattle.cel_types.specs.Statements.{Queries}
use Rattle.cel_types.proofs.QueryLaws.{query-typed}
use Rattle.cel_types.proofs.TypedSources.{gives-typed}
use Rattle.catalogue.specs.Typing.{Publish, none, next, published_by}
use Rattle.catalogue.proofs.TurnLemmas.{StandsBehind, kinds_before, stands_behind}

gives_wide : {streams : List Entry} {e : Source} {schema : List Attr} {x : Ex} → Elaborates streams e schema x → HasWidths (kinds_in streams) x
gives_wide (source.name a b) = tt
gives_wide (source.filter g m) = gives_wide g
gives_wide {streams = streams} (source.select {schema = schema} {x = x} g m le) =
    (gives_wide g, sym (width_is (length streams) (kinds_in streams) x (kinds_of schema) (gives-typed g)) ∙ length-map schema (λ a. a.kind))
gives_wide (source.union g h d) = (gives_wide g, gives_wide h)
gives_wide (source.next g h le m) = (gives_wide g, gives_wide h)
gives_wide (source.fold g h m n a) = (gives_wide g, gives_wide h)

pub query_wide : (streams : List Entry) (s : Statement) (schema : List Attr) (x : Ex) → Queries streams s schema x → HasWidths (kinds_in streams) x
query_wide streams (tree.Stream name columns) schema x q = absurd q
query_wide streams (tree.Query items e name) schema x q = gives_wide q

-- over streams of the same kinds where it reads
module _ (kinds others : ℕ → List Kind) where
  abbrev pub IsAlike : ℕ → Type 0
  IsAlike stream = kinds stream ≡ others stream

  width_alike : (e : Ex) → ReadsOnly IsAlike e → width_of kinds e ≡ width_of others e
  width_alike (Read stream) alike = ap length alike
  width_alike (Filter p e) alike = width_alike e alike
  width_alike (Select m e) alike = refl
  width_alike (Union e f) alike = width_alike e alike.0
  width_alike (Next p e f) alike = λ i. width_alike e alike.0 i + width_alike f alike.1 i
  width_alike (Fold p q m e f) alike = width_alike e alike.0

  pub wide_alike : (e : Ex) → ReadsOnly IsAlike e → HasWidths kinds e → HasWidths others e
  wide_alike (Read stream) alike wide = tt
  wide_alike (Filter p e) alike wide = wide_alike e alike wide
  wide_alike (Select m e) alike wide = (wide_alike e alike wide.0, sym (width_alike e alike) ∙ wide.1)
  wide_alike (Union e f) alike wide = (wide_alike e alike.0 wide.0, wide_alike f alike.1 wide.1)
  wide_alike (Next p e f) alike wide = (wide_alike e alike.0 wide.0, wide_alike f alike.1 wide.1)
  wide_alike (Fold p q m e f) alike wide = (wide_alike e alike.0 wide.0, wide_alike f alike.1 wide.1)

-- by induction on the queries
pub published_wide : {queries : List Statement} {streams all : List Entry} {hidden : ℕ} {order : List ℕ} {done : List Query} → Publish queries streams hidden order all done → All (λ query. HasWidths (kinds_in all) query.expr) done
published_wide (none {streams = streams}) = All-nil (λ (q : Query). HasWidths (kinds_in streams) q.expr)
published_wide (next {streams = streams} {all = all} {s = s} {more = done} schema x there typed rest) =
    let behind : StandsBehind (streams ++ published_by s schema ∷ []) all = stands_behind rest in
    let is : all ≡ streams ++ published_by s schema ∷ behind.more = behind.all_are ∙ append_assoc streams (published_by s schema ∷ []) behind.more in
    let alike : ReadsOnly (λ stream. kinds_in streams stream ≡ kinds_in all stream) x =
    reads_weaker (λ stream. stream < length streams) (λ stream. kinds_in streams stream ≡ kinds_in all stream) (kinds_before streams (published_by s schema ∷ behind.more) all is) x
    (reads_first (length streams) (kinds_in streams) (kinds_of schema) x (query-typed streams s schema x typed)) in
    All-cons (λ (q : Query). HasWidths (kinds_in all) q.expr) _ done (wide_alike (kinds_in streams) (kinds_in all) x alike (query_wide streams s schema x typed)) (published_wide rest)
