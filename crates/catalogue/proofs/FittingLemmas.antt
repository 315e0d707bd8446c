-- What an added query reads, and how the layout grows by its streams.
use Rattle.std.proofs.Common.{◌≡◌, ◌∙◌, ℕ, ◌+◌, ◌<◌, List, [], ◌∷◌, ◌++◌, length, sym, subst, arith}
use Rattle.std.specs.Prelude.{Contains, Some, slice_get}
use Rattle.std.specs.List.{All}
use Rattle.std.proofs.lemmas.List.{length_push}
use Rattle.std.proofs.lemmas.List.Elements.{All-contains, All-head}
use Rattle.std.proofs.lemmas.Option.{get_or_from_slice_get, slice_get-get_or}
use Rattle.event_types.specs.declared.kind.Kind.{Kind}
use Rattle.semantics.specs.Expressions.{Ex, Read, Filter, Select, Union, Next, Fold}
use Rattle.semantics.specs.Reading.{ReadsOnly}
use Rattle.semantics.specs.Typing.{IsTypedOver}
use Rattle.semantics.proofs.ListLemmas.{All-left, All-right}
use Rattle.semantics.proofs.ReadingLemmas.{reads_first}
use Rattle.splitter.specs.SourceWidths.{HasWidths}
use Rattle.splitter.specs.Work.{kinds_by}
use Rattle.splitter.proofs.ApartLemmas.{is_apart, reads_weaker}
use Rattle.splitter.proofs.LineLemmas.{get_more, get_next}
use Rattle.splitter.proofs.SplitLemmas.{GrowBy, split_typed}
use Rattle.stream_schema.specs.Schema.{Attr, kinds_of}
use Rattle.stream_schema.specs.Streams.{Entry}
use Rattle.cel_grammar.specs.Trees.{Source, Statement}
use Rattle.cel_grammar.specs.Trees as tree
use Rattle.cel_types.specs.SourceLaws.{kinds_in}
use Rattle.cel_types.specs.Sources.{Elaborates}
use Rattle.cel_types.specs.Sources as source
use Rattle.cel_types.specs.Statements.{Queries, read_names}
use Rattle.cel_types.proofs.QueryLaws.{query-typed}
use Rattle.catalogue.specs.Adding.{AddedQuery}
use Rattle.catalogue.specs.Catalogued.{Catalogued, program_in}
use Rattle.catalogue.specs.Changes.{streams_there}
use Rattle.catalogue.specs.Fitting.{MayGrow}
use Rattle.catalogue.specs.Taking.{IsFit, IsKnownName}
use Rattle.catalogue.specs.Standing.{IsKnown, StandsInOrder}
use Rattle.catalogue.specs.Statements.{reads_by}
use Rattle.catalogue.proofs.WideLemmas.{query_wide, wide_alike}

-- an expression reads the streams whose names its source reads
source_known : {streams : List Entry} {e : Source} {schema : List Attr} {x : Ex} → Elaborates streams e schema x → All (IsKnownName streams) (read_names e) → ReadsOnly (IsKnown streams) x
source_known {streams = streams} (source.name {a = a} {n = n} found is) known = All-head (IsKnownName streams) a [] known n found
source_known (source.filter g m) known = source_known g known
source_known (source.select g m le) known = source_known g known
source_known {streams = streams} (source.union {e = e} {f = f} g h d) known =
    (source_known g (All-left (IsKnownName streams) (read_names e) (read_names f) known), source_known h (All-right (IsKnownName streams) (read_names e) (read_names f) known))
source_known {streams = streams} (source.next {e = e} {f = f} g h le m) known =
    (source_known g (All-left (IsKnownName streams) (read_names e) (read_names f) known), source_known h (All-right (IsKnownName streams) (read_names e) (read_names f) known))
source_known {streams = streams} (source.fold {e = e} {f = f} g h m n a) known =
    (source_known g (All-left (IsKnownName streams) (read_names e) (read_names f) known), source_known h (All-right (IsKnownName streams) (read_names e) (read_names f) known))

query_known : (streams : List Entry) (s : Statement) (schema : List Attr) (x : Ex) → Queries streams s schema x → All (IsKnownName streams) (reads_by s) → ReadsOnly (IsKnown streams) x
query_known streams (tree.Stream name columns) schema x q known = absurd q
query_known streams (tree.Query items e name) schema x q known = source_known q known

-- an expression that is typed over streams is so over others that have the same kinds where it reads
module _ (count : ℕ) (kinds others : ℕ → List Kind) where
  pub typed_alike : (e : Ex) (out : List Kind) → ReadsOnly (λ stream. kinds stream ≡ others stream) e → IsTypedOver e count kinds out → IsTypedOver e count others out
  typed_alike (Read stream) out alike gives = (gives.0, sym alike ∙ gives.1)
  typed_alike (Filter p e) out alike gives = (typed_alike e out alike gives.0, gives.1)
  typed_alike (Select m e) out alike gives = (gives.0, typed_alike e gives.0 alike gives.1, gives.2)
  typed_alike (Union e f) out alike gives = (typed_alike e out alike.0 gives.0, typed_alike f out alike.1 gives.1)
  typed_alike (Next p e f) out alike gives = (gives.0, gives.1, typed_alike e gives.0 alike.0 gives.2, typed_alike f gives.1 alike.1 gives.3, gives.4, gives.5)
  typed_alike (Fold p q m e f) out alike gives = (gives.0, typed_alike e out alike.0 gives.1, typed_alike f gives.0 alike.1 gives.2, gives.3, gives.4, gives.5)

module _ (c : Catalogued) (stands : StandsInOrder c) (added : AddedQuery) (fit : IsFit c.streams added) where
  -- it reads streams that are known
  reads_known : ReadsOnly (IsKnown c.streams) added.expr
  reads_known = query_known c.streams added.statement added.schema added.expr fit.typed fit.known

  pub reads_there : ReadsOnly (Contains (streams_there (program_in c))) added.expr
  reads_there = reads_weaker (IsKnown c.streams) (Contains (streams_there (program_in c))) (λ stream known. (stands.known stream).1 known) added.expr reads_known

  own_typed : IsTypedOver added.expr (length c.streams) (kinds_in c.streams) (kinds_of added.schema)
  own_typed = query-typed c.streams added.statement added.schema added.expr fit.typed

  pub reads_below : ReadsOnly (λ stream. stream < length c.streams) added.expr
  reads_below = reads_first (length c.streams) (kinds_in c.streams) (kinds_of added.schema) added.expr own_typed

  abbrev pub lists : List (List Kind)
  lists = c.layout.kinds ++ kinds_of added.schema ∷ []

  abbrev pub next : ℕ
  next = length c.layout.kinds

  same_kinds : ReadsOnly (λ stream. kinds_in c.streams stream ≡ kinds_by lists stream) added.expr
  same_kinds =
      reads_weaker (Contains (streams_there (program_in c))) (λ stream. kinds_in c.streams stream ≡ kinds_by lists stream)
      (λ stream there.
      let is : slice_get c.layout.kinds stream ≡ Some (kinds_in c.streams stream) = All-contains (λ stream. slice_get c.layout.kinds stream ≡ Some (kinds_in c.streams stream)) (streams_there (program_in c)) stream stands.laid.kinds there in
      sym (get_or_from_slice_get lists stream (kinds_in c.streams stream) [] (get_more c.layout.kinds (kinds_of added.schema ∷ []) stream (kinds_in c.streams stream) is)))
      added.expr reads_there

  typed_next : IsTypedOver added.expr next (kinds_by lists) (kinds_of added.schema)
  typed_next = subst (λ n. IsTypedOver added.expr n (kinds_by lists) (kinds_of added.schema)) (sym stands.laid.long) (typed_alike (length c.streams) (kinds_in c.streams) (kinds_by lists) added.expr (kinds_of added.schema) same_kinds own_typed)

  wide_next : HasWidths (kinds_by lists) added.expr
  wide_next = wide_alike (kinds_in c.streams) (kinds_by lists) added.expr same_kinds (query_wide c.streams added.statement added.schema added.expr fit.typed)

  -- the layout grows by its streams
  pub grow_by : GrowBy next (kinds_by lists) lists added.expr next (next + 1)
  grow_by =
      split_typed next (kinds_by lists) added.expr next (next + 1) lists (kinds_of added.schema)
      (λ stream less. slice_get-get_or lists stream [] (omega (arith, less, length_push c.layout.kinds (kinds_of added.schema))))
      (length_push c.layout.kinds (kinds_of added.schema)) (get_next c.layout.kinds (kinds_of added.schema) []) typed_next wide_next

  pub may_grow : MayGrow c.layout added.schema added.expr
  may_grow = record {
    numbers = fit.few.numbers;
    apart = λ out is. is_apart added.expr out (out + 1) (omega arith) (subst (λ n. ReadsOnly (λ stream. stream < n) added.expr) (sym (is ∙ stands.laid.long)) reads_below);
    typed = (grow_by.all, grow_by.grow);
  }
