-- What the last pass tells is settled.
use Rattle.std.proofs.Common.{◌≡◌, ℕ, true, List, [], ◌∷◌, ◌++◌, length, refl, sym, subst}
use Rattle.std.specs.Prelude.{Some, slice_get, None}
use Rattle.semantics.specs.Expressions.{Ex}
use Rattle.stream_schema.specs.Streams.{Entry}
use Rattle.cel_grammar.specs.Trees.{Statement}
use Rattle.cel_grammar.specs.Trees as tree
use Rattle.cel_types.specs.Statements.{FailsAsQuery, Queries}
use Rattle.cel_types.proofs.DeclarationLaws.{Declares-no_fault, Declares-one, FailsAsDeclaration-one}
use Rattle.cel_types.proofs.QueryLaws.{FailsAsQuery-one, Queries-no_fault, Queries-one}
use Rattle.catalogue.specs.Statements.{name_of}
use Rattle.splitter.specs.Splitting.{parts_of}
use Rattle.catalogue.specs.Typing.{FailToPublish, Publish, published_by, none, stream, query, next, here, behind}
use Rattle.catalogue.specs.Verdicts.{DeclaredOrFault, OneDeclaration, OneDeclareFault, OnePublication, OnePublishFault, PublishedOrFault}

-- a file declares one table of streams
pub one_declaration : OneDeclaration
one_declaration _ _ _ none none = refl
one_declaration _ _ _ (stream {name = name} {columns = columns} {schema = schema} {later = later} {streams = streams} first rest) (stream {schema = other} {streams = others} first_too rest_too) =
    let schemas : schema ≡ other = Declares-one (tree.Stream name columns) schema other first first_too in
    let more : streams ≡ others = one_declaration later streams others rest rest_too in
    λ i. record { name = name; schema = schemas i; declared = true } ∷ more i
one_declaration _ _ _ (query {later = later} {streams = streams} rest) (query {streams = others} rest_too) = one_declaration later streams others rest rest_too

-- its declarations have at most one first fault
pub one_declare_fault : OneDeclareFault
one_declare_fault _ _ _ _ f g (here {name = name} {columns = columns} fails) (here fails_too) = (refl, FailsAsDeclaration-one (tree.Stream name columns) f g fails fails_too)
one_declare_fault _ _ _ _ f g (here {name = name} {columns = columns} fails) (behind {schema = schema} first rest) = absurd (Declares-no_fault (tree.Stream name columns) schema f first fails)
one_declare_fault _ _ _ _ f g (behind {name = name} {columns = columns} {schema = schema} first rest) (here fails) = absurd (Declares-no_fault (tree.Stream name columns) schema g first fails)
one_declare_fault _ _ line other_line f g (behind {later = later} {lines = lines} first rest) (behind first_too rest_too) = one_declare_fault later lines line other_line f g rest rest_too
one_declare_fault _ _ line other_line f g (query {later = later} {lines = lines} rest) (query rest_too) = one_declare_fault later lines line other_line f g rest rest_too

-- they are declared or have a fault
pub declared_or_fault : DeclaredOrFault
declared_or_fault _ _ _ line f none fails = elim fails [ ]
declared_or_fault _ _ _ line f (stream {name = name} {columns = columns} {schema = schema} first rest) (here fails) = Declares-no_fault (tree.Stream name columns) schema f first fails
declared_or_fault _ _ _ line f (stream {later = later} {streams = streams} first rest) (behind {lines = lines} first_too fails) = declared_or_fault later streams lines line f rest fails
declared_or_fault _ _ _ line f (query {later = later} {streams = streams} rest) (query {lines = lines} fails) = declared_or_fault later streams lines line f rest fails

-- one number is that of one query
one_query : (queries : List Statement) (number : ℕ) (s t : Statement) → slice_get queries number ≡ Some s → slice_get queries number ≡ Some t → t ≡ s
one_query queries number s t there there_too = cc

-- queries publish one table of streams
pub one_publication : OnePublication
one_publication queries _ _ _ _ _ _ _ none none = (refl, refl)
one_publication queries streams hidden _ all others _ _ (next {number = number} {order = order} {s = s} {more = more} schema x there gives rest) (next {s = t} {more = more_too} other y there_too gives_too rest_too) =
    let same : t ≡ s = one_query queries number s t there there_too in
    let one : (schema ≡ other) × (x ≡ y) = Queries-one streams s schema other x y gives (subst (λ (z : Statement). Queries streams z other y) same gives_too) in
    let tables : streams ++ published_by t other ∷ [] ≡ streams ++ published_by s schema ∷ [] = λ i. streams ++ published_by (same i) (sym one.0 i) ∷ [] in
    let later : (all ≡ others) × (more ≡ more_too) = one_publication queries (streams ++ published_by s schema ∷ []) (parts_of x hidden).next order all others more more_too rest
    (subst (λ (t : List Entry × Ex). Publish queries t.0 (parts_of t.1 hidden).next order others more_too) (λ i. (tables i, sym one.1 i)) rest_too) in
    (later.0, λ i. record { name = name_of (sym same i); stream = length streams; hidden = hidden; expr = one.1 i; birth = None } ∷ later.1 i)

-- they have at most one first fault
pub one_publish_fault : OnePublishFault
one_publish_fault queries lines streams _ line other_line f g (here {number = number} {s = s} there on_line fails) (here {s = t} there_too on_line_too fails_too) =
    let same : t ≡ s = one_query queries number s t there there_too in
    let same_line : line ≡ other_line = cc in
    (same_line, FailsAsQuery-one streams s f g fails (subst (λ (z : Statement). FailsAsQuery streams z g) same fails_too))
one_publish_fault queries lines streams _ line other_line f g (here {number = number} {s = s} there on_line fails) (behind {s = t} schema x there_too gives rest) =
    let same : t ≡ s = one_query queries number s t there there_too in absurd (Queries-no_fault streams s schema x f (subst (λ (z : Statement). Queries streams z schema x) same gives) fails)
one_publish_fault queries lines streams _ line other_line f g (behind {number = number} {s = t} schema x there_too gives rest) (here {s = s} there on_line fails) =
    let same : t ≡ s = one_query queries number s t there there_too in absurd (Queries-no_fault streams s schema x g (subst (λ (z : Statement). Queries streams z schema x) same gives) fails)
one_publish_fault queries lines streams _ line other_line f g (behind {number = number} {order = order} {s = s} schema x there gives rest) (behind {s = t} other y there_too gives_too rest_too) =
    let same : t ≡ s = one_query queries number s t there there_too in
    let one : (schema ≡ other) × (x ≡ y) = Queries-one streams s schema other x y gives (subst (λ (z : Statement). Queries streams z other y) same gives_too) in
    let tables : streams ++ published_by t other ∷ [] ≡ streams ++ published_by s schema ∷ [] = λ i. streams ++ published_by (same i) (sym one.0 i) ∷ [] in
    one_publish_fault queries lines (streams ++ published_by s schema ∷ []) order line other_line f g rest (subst (λ (es : List Entry). FailToPublish queries lines es order other_line g) tables rest_too)

-- they are published or have a fault
pub published_or_fault : PublishedOrFault
published_or_fault queries lines _ _ _ _ _ line f none fails = elim fails [ ]
published_or_fault queries lines streams _ _ _ _ line f (next {number = number} {s = t} schema x there_too gives rest) (here {s = s} there on_line fails) =
    let same : t ≡ s = one_query queries number s t there there_too in Queries-no_fault streams s schema x f (subst (λ (z : Statement). Queries streams z schema x) same gives) fails
published_or_fault queries lines streams hidden _ all _ line f (next {number = number} {order = order} {s = s} {more = more} schema x there gives rest) (behind {s = t} other y there_too gives_too rest_too) =
    let same : t ≡ s = one_query queries number s t there there_too in
    let one : (schema ≡ other) × (x ≡ y) = Queries-one streams s schema other x y gives (subst (λ (z : Statement). Queries streams z other y) same gives_too) in
    let tables : streams ++ published_by t other ∷ [] ≡ streams ++ published_by s schema ∷ [] = λ i. streams ++ published_by (same i) (sym one.0 i) ∷ [] in
    published_or_fault queries lines (streams ++ published_by s schema ∷ []) (parts_of x hidden).next order all more line f rest (subst (λ (es : List Entry). FailToPublish queries lines es order line f) tables rest_too)
