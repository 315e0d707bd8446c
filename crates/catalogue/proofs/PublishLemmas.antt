-- One more query that is typed.
use Rattle.std.proofs.Common.{◌≡◌, ◌∙◌, ℕ, List, [], ◌∷◌, ◌++◌, length, map, get_or, sym, ap, append_assoc}
use Rattle.std.specs.Prelude.{Some, slice_get, None}
use Rattle.std.proofs.lemmas.List.{append-nil, map-append}
use Rattle.semantics.specs.Expressions.{Ex}
use Rattle.semantics.specs.Programs.{Query}
use Rattle.stream_schema.specs.Schema.{Attr}
use Rattle.stream_schema.specs.Streams.{Entry, stream_names}
use Rattle.cel_grammar.specs.Trees.{Statement}
use Rattle.splitter.specs.Chains.{chain_end}
use Rattle.cel_types.specs.declared.fault.TypeFault.{TypeFault}
use Rattle.cel_types.specs.Statements.{FailsAsQuery, Queries}
use Rattle.catalogue.specs.Statements.{name_of, names_in}
use Rattle.catalogue.specs.Typing.{FailToPublish, Publish, published_by, none, next, here, behind}
use Rattle.catalogue.proofs.PlaceLemmas.{name-at}

-- one more query behind others, whose hidden streams stand behind theirs
pub Publish-push : {queries : List Statement} {streams all : List Entry} {hidden : ℕ} {order : List ℕ} {done : List Query} → Publish queries streams hidden order all done → (number : ℕ) (s : Statement) (schema : List Attr) (x : Ex)
    → slice_get queries number ≡ Some s → Queries all s schema x → Publish queries streams hidden (order ++ number ∷ []) (all ++ published_by s schema ∷ []) (done ++ record { name = name_of s; stream = length all; hidden = chain_end done hidden; expr = x; birth = None } ∷ [])
Publish-push none number s schema x there typed = next schema x there typed none
Publish-push (next own y first gives rest) number s schema x there typed = next own y first gives (Publish-push rest number s schema x there typed)

-- the names of the streams then: those before, and those of the queries
pub Publish-names : {queries : List Statement} {streams all : List Entry} {hidden : ℕ} {order : List ℕ} {done : List Query} → Publish queries streams hidden order all done
    → stream_names all ≡ stream_names streams ++ map (λ n. get_or (names_in queries) n []) order
Publish-names {queries = queries} (none {streams = streams}) = sym (append-nil (stream_names streams))
Publish-names {queries = queries} (next {streams = streams} {number = number} {order = order} {s = s} schema x there gives rest) =
    Publish-names rest ∙ ap (λ xs. xs ++ map (λ n. get_or (names_in queries) n []) order) (map-append (λ e. e.name) streams (published_by s schema ∷ []))
    ∙ append_assoc (stream_names streams) (name_of s ∷ []) (map (λ n. get_or (names_in queries) n []) order)
    ∙ ap (λ z. stream_names streams ++ z ∷ map (λ n. get_or (names_in queries) n []) order) (sym (name-at queries number s there))

-- the fault of a query, behind queries without one
pub fails_behind : {queries : List Statement} {streams all : List Entry} {hidden : ℕ} {order : List ℕ} {done : List Query} → Publish queries streams hidden order all done → (lines : List ℕ) (number : ℕ) (later : List ℕ) (s : Statement) (line : ℕ) (f : TypeFault)
    → slice_get queries number ≡ Some s → slice_get lines number ≡ Some line → FailsAsQuery all s f → FailToPublish queries lines streams (order ++ number ∷ later) line f
fails_behind none lines number later s line f there on_line fails = here there on_line fails
fails_behind (next schema x first gives rest) lines number later s line f there on_line fails = behind schema x first gives (fails_behind rest lines number later s line f there on_line fails)
