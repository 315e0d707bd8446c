-- Queries that publish in turn: their kinds, their names and their streams.
use Rattle.std.proofs.Common.{◌≡◌, ◌∙◌, ℕ, zero, suc, ◌+◌, ◌<◌, ◌≤◌, List, [], ◌∷◌, ◌++◌, true, false, length, get_or, refl, sym, ap, subst, inl, inr, arith, append_assoc}
use Rattle.std.specs.Prelude.{Contains, Some, slice_get}
use Rattle.std.specs.List.{range_with_len}
use Rattle.std.proofs.Math.Seq.{get_or-append_seam}
use Rattle.std.proofs.lemmas.Bool.{cases_lt}
use Rattle.std.proofs.lemmas.List.{append-nil, get_or_append_left, length-append, length-map, length_push, map-append}
use Rattle.std.proofs.lemmas.Option.{get_or_from_slice_get, slice_get-get_or}
use Rattle.event_types.specs.declared.kind.Kind.{Kind}
use Rattle.semantics.proofs.ReadingLemmas.{reads_first}
use Rattle.semantics.proofs.StatementLemmas.{declared_there}
use Rattle.semantics.specs.Expressions.{Ex, Read, Filter, Select, Union, Next, Fold}
use Rattle.semantics.specs.Programs.{Query}
use Rattle.semantics.specs.TypedPrograms.{PublishInTurn}
use Rattle.semantics.specs.Typing.{IsTypedOver}
use Rattle.splitter.specs.Splitting.{parts_of}
use Rattle.splitter.proofs.ApartLemmas.{range_all, reads_weaker}
use Rattle.splitter.proofs.NumberedLemmas.{AreNumbered}
use Rattle.splitter.proofs.RangeLemmas.{range_next}
use Rattle.stream_schema.specs.Schema.{kinds_of}
use Rattle.stream_schema.specs.Streams.{Entry, schemas_of, stream_names}
use Rattle.cel_grammar.specs.Trees.{Statement}
use Rattle.cel_types.specs.SourceLaws.{kinds_in}
use Rattle.cel_types.proofs.QueryLaws.{query-typed}
use Rattle.catalogue.specs.Statements.{name_of, names_in}
use Rattle.catalogue.specs.Typing.{FileDeclares, Publish, none, next, published_by}
use Rattle.catalogue.specs.Typing as typing
use Rattle.catalogue.proofs.PlaceLemmas.{name-at, slice_get-within}

-- the streams of the queries stand behind the others
pub record StandsBehind (streams all : List Entry) : Type 0 where
  pub more : List Entry
  pub all_are : all ≡ streams ++ more

-- by induction on the queries
pub stands_behind : {queries : List Statement} {streams all : List Entry} {hidden : ℕ} {order : List ℕ} {done : List Query} → Publish queries streams hidden order all done → StandsBehind streams all
stands_behind (none {streams = streams}) = record { more = []; all_are = sym (append-nil streams) }
stands_behind (next {streams = streams} {s = s} schema x there typed rest) =
    let behind : StandsBehind (streams ++ published_by s schema ∷ []) _ = stands_behind rest in record {
      more = published_by s schema ∷ behind.more;
      all_are = behind.all_are ∙ append_assoc streams (published_by s schema ∷ []) behind.more;
    }

-- an expression that is typed over the first streams is so over others of the same kinds
pub gives_alike : (count : ℕ) (kinds others : ℕ → List Kind) → ((stream : ℕ) → stream < count → kinds stream ≡ others stream) → (e : Ex) (out : List Kind) → IsTypedOver e count kinds out → IsTypedOver e count others out
gives_alike count kinds others alike (Read stream) out gives = (gives.0, sym (alike stream gives.0) ∙ gives.1)
gives_alike count kinds others alike (Filter p e) out gives = (gives_alike count kinds others alike e out gives.0, gives.1)
gives_alike count kinds others alike (Select m e) out gives = (gives.0, gives_alike count kinds others alike e gives.0 gives.1, gives.2)
gives_alike count kinds others alike (Union e f) out gives = (gives_alike count kinds others alike e out gives.0, gives_alike count kinds others alike f out gives.1)
gives_alike count kinds others alike (Next p e f) out gives =
    (gives.0, gives.1, gives_alike count kinds others alike e gives.0 gives.2, gives_alike count kinds others alike f gives.1 gives.3, gives.4, gives.5)
gives_alike count kinds others alike (Fold p q m e f) out gives =
    (gives.0, gives_alike count kinds others alike e out gives.1, gives_alike count kinds others alike f gives.0 gives.2, gives.3, gives.4, gives.5)

-- streams behind others leave the kinds of those
pub kinds_before : (streams more all : List Entry) → all ≡ streams ++ more → (stream : ℕ) → stream < length streams → kinds_in streams stream ≡ kinds_in all stream
kinds_before streams more all is stream within =
    let long : length (schemas_of streams) ≡ length streams = length-map streams (λ e. e.schema) in
    ap kinds_of (sym (ap (λ es. get_or (schemas_of es) stream []) is ∙ ap (λ xs. get_or xs stream []) (map-append (λ e. e.schema) streams more) ∙ get_or_append_left (schemas_of streams) (schemas_of more) [] stream (omega arith)))

-- the stream behind others has its own
pub kinds_at : (streams more all : List Entry) (s : Entry) → all ≡ streams ++ s ∷ more → kinds_in all (length streams) ≡ kinds_of s.schema
kinds_at streams more all s is =
    ap kinds_of (ap (λ es. get_or (schemas_of es) (length streams) []) is ∙ ap (λ xs. get_or xs (length streams) []) (map-append (λ e. e.schema) streams (s ∷ more))
    ∙ ap (λ n. get_or (schemas_of streams ++ s.schema ∷ schemas_of more) n []) (sym (length-map streams (λ e. e.schema))) ∙ get_or-append_seam (schemas_of streams) s.schema (schemas_of more) [])

-- the queries publish in turn, over the kinds of all streams: by induction on them
pub in_turn : {queries : List Statement} {streams all : List Entry} {hidden : ℕ} {order : List ℕ} {done : List Query} → Publish queries streams hidden order all done → PublishInTurn (kinds_in all) (range_with_len 0 (length streams)) done
in_turn none = tt
in_turn (next {streams = streams} {all = all} {s = s} {more = done} schema x there typed rest) =
    let behind : StandsBehind (streams ++ published_by s schema ∷ []) all = stands_behind rest in
    let is : all ≡ streams ++ published_by s schema ∷ behind.more = behind.all_are ∙ append_assoc streams (published_by s schema ∷ []) behind.more in
    let own : IsTypedOver x (length streams) (kinds_in all) (kinds_of schema) =
    gives_alike (length streams) (kinds_in streams) (kinds_in all) (kinds_before streams (published_by s schema ∷ behind.more) all is) x (kinds_of schema) (query-typed streams s schema x typed) in
    let longer : range_with_len 0 (length (streams ++ published_by s schema ∷ [])) ≡ range_with_len 0 (length streams) ++ length streams ∷ [] =
    ap (range_with_len 0) (length_push streams (published_by s schema)) ∙ sym (range_next (length streams)) in (
      range_all (λ n. n < length streams) 0 (length streams) (λ n above below. omega arith),
      reads_weaker (λ n. n < length streams) (Contains (range_with_len 0 (length streams))) (λ n below. declared_there (length streams) n below) x (reads_first (length streams) (kinds_in all) (kinds_of schema) x own),
      subst (IsTypedOver x (length streams) (kinds_in all)) (sym (kinds_at streams behind.more all (published_by s schema) is)) own,
      subst (λ (there : List ℕ). PublishInTurn (kinds_in all) there done) longer (in_turn rest),
    )

-- and their streams have the next numbers
pub numbered : {queries : List Statement} {streams all : List Entry} {hidden : ℕ} {order : List ℕ} {done : List Query} → Publish queries streams hidden order all done → AreNumbered (length streams) hidden done
numbered none = tt
numbered (next {streams = streams} {hidden = hidden} {s = s} {more = done} schema x there typed rest) =
    (refl, refl, subst (λ n. AreNumbered n (parts_of x hidden).next done) (length_push streams (published_by s schema)) (numbered rest))

-- a query that is worked on in its turn has the name of its statement: by induction on the queries
pub name_in_turn : {queries : List Statement} {streams all : List Entry} {hidden : ℕ} {order : List ℕ} {done : List Query} → Publish queries streams hidden order all done
    → (place : ℕ) (d : Query) → place < length order → (get_or done place d).name ≡ get_or (names_in queries) (get_or order place 0) []
name_in_turn none place d within = absurd (omega arith)
name_in_turn {queries = queries} (next {number = number} {s = s} schema x there typed rest) zero d within = sym (name-at queries number s there)
name_in_turn (next schema x there typed rest) (suc place) d within = name_in_turn rest place d (omega arith)

-- and its stream has this name
pub stream_in_turn : {queries : List Statement} {streams all : List Entry} {hidden : ℕ} {order : List ℕ} {done : List Query} → Publish queries streams hidden order all done
    → (place : ℕ) (d : Query) → place < length order → slice_get (stream_names all) (get_or done place d).stream ≡ Some (get_or done place d).name
stream_in_turn none place d within = absurd (omega arith)
stream_in_turn (next {streams = streams} {all = all} {s = s} schema x there typed rest) zero d within =
    let behind : StandsBehind (streams ++ published_by s schema ∷ []) all = stands_behind rest in
    let is : all ≡ streams ++ published_by s schema ∷ behind.more = behind.all_are ∙ append_assoc streams (published_by s schema ∷ []) behind.more in
    let names : stream_names all ≡ stream_names streams ++ name_of s ∷ stream_names behind.more = ap stream_names is ∙ map-append (λ e. e.name) streams (published_by s schema ∷ behind.more) in
    let long : length (stream_names streams) ≡ length streams = length-map streams (λ e. e.name) in
    let inside : length streams < length (stream_names streams ++ name_of s ∷ stream_names behind.more) = (let sum : length (stream_names streams ++ name_of s ∷ stream_names behind.more) ≡ length (stream_names streams) + length (name_of s ∷ stream_names behind.more) = length-append (stream_names streams) (name_of s ∷ stream_names behind.more) in omega arith) in
    ap (λ xs. slice_get xs (length streams)) names ∙ slice_get-get_or (stream_names streams ++ name_of s ∷ stream_names behind.more) (length streams) [] inside
    ∙ ap Some (ap (λ n. get_or (stream_names streams ++ name_of s ∷ stream_names behind.more) n []) (sym long) ∙ get_or-append_seam (stream_names streams) (name_of s) (stream_names behind.more) [])
stream_in_turn (next schema x there typed rest) (suc place) d within = stream_in_turn rest place d (omega arith)

-- a stream of a declaration is told to be declared
pub told_declared : {ss : List Statement} {streams : List Entry} → FileDeclares ss streams → (stream : ℕ) (entry : Entry) → slice_get streams stream ≡ Some entry → entry.declared ≡ true
told_declared typing.none stream entry there = cc
told_declared (typing.stream {name = name} {schema = schema} first rest) zero entry there =
    let same : (record { name = name; schema = schema; declared = true }) ≡ entry = cc in ap (λ (e : Entry). e.declared) (sym same)
told_declared (typing.stream first rest) (suc stream) entry there = told_declared rest stream entry there
told_declared (typing.query rest) stream entry there = told_declared rest stream entry there

-- one of a query isn't: by induction on the queries
pub told_published : {queries : List Statement} {streams all : List Entry} {hidden : ℕ} {order : List ℕ} {done : List Query} → Publish queries streams hidden order all done
    → (stream : ℕ) (entry : Entry) → slice_get all stream ≡ Some entry → length streams ≤ stream → entry.declared ≡ false
told_published (none {streams = streams}) stream entry there past = let within : stream < length streams = slice_get-within streams stream entry there in absurd (omega arith)
told_published (next {streams = streams} {all = all} {s = s} schema x at typed rest) stream entry there past =
    elim (cases_lt (length streams) stream) [
      | inl later ↦ let long : length (streams ++ published_by s schema ∷ []) ≡ length streams + 1 = length_push streams (published_by s schema) in told_published rest stream entry there (omega arith)
      | inr first ↦
          let behind : StandsBehind (streams ++ published_by s schema ∷ []) all = stands_behind rest in
          let is : all ≡ streams ++ published_by s schema ∷ behind.more = behind.all_are ∙ append_assoc streams (published_by s schema ∷ []) behind.more in
          let here : stream ≡ length streams = omega arith in
          let own : entry ≡ published_by s schema = sym (get_or_from_slice_get all stream entry entry there) ∙ ap (λ es. get_or es stream entry) is ∙ ap (λ n. get_or (streams ++ published_by s schema ∷ behind.more) n entry) here ∙ get_or-append_seam streams (published_by s schema) behind.more entry in
          ap (λ (e : Entry). e.declared) own
    ]
