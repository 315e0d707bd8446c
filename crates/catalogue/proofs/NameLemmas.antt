-- Whether a name is among names, and where.
use Rattle.std.proofs.Common.{◌≡◌, ◌∙◌, ℕ, ◌+◌, ◌<◌, List, [], ◌∷◌, ◌++◌, Bool, false, cond, ◌||◌, length, get_or, take, map, refl, sym, ap, inl, inr}
use Rattle.std.specs.Prelude.{None, is_some}
use Rattle.std.specs.List.{list_any}
use Rattle.std.specs.Str.{bytes_eq}
use Rattle.std.proofs.lemmas.Bool.{cases_Bool, or_parts}
use Rattle.std.proofs.lemmas.List.{map-append, take-map, take_more}
use Rattle.std.proofs.lemmas.List.Elements.{filter_more}
use Rattle.stream_schema.specs.Streams.{Entry, number_of, stream_names}
use Rattle.stream_schema.proofs.PlaceLemmas.{is_some-position, missing}
use Rattle.cel_grammar.specs.Trees.{Statement}
use Rattle.cel_types.specs.Aggregates.{is_among}
use Rattle.catalogue.specs.Statements.{is_query, name_of, names_in, queries_in, query_names}

list_any-map : {X Y : Type 0} (f : X → Y) (p : Y → Bool) (xs : List X) → list_any p (map f xs) ≡ list_any (λ x. p (f x)) xs
list_any-map f p [] = refl
list_any-map f p (x ∷ xs) = ap (λ b. p (f x) || b) (list_any-map f p xs)

-- a stream has the name just where it is among the streams' names
pub is_some-number_of : (name : List ℕ) (streams : List Entry) → is_some (number_of name streams) ≡ is_among (stream_names streams) name
is_some-number_of name streams = is_some-position (λ (s : Entry). bytes_eq name s.name) streams ∙ sym (list_any-map (λ (s : Entry). s.name) (bytes_eq name) streams)

-- a name that isn't among them is no stream's
pub number_of-absent : (name : List ℕ) (streams : List Entry) (names : List (List ℕ)) → stream_names streams ≡ names → is_among names name ≡ false → number_of name streams ≡ None
number_of-absent name streams names same absent = missing (number_of name streams) (is_some-number_of name streams ∙ ap (λ xs. is_among xs name) same ∙ absent)

-- a name that no statement has is no query's
pub absent-queries : (statements : List Statement) (name : List ℕ) → is_among (names_in statements) name ≡ false → is_among (query_names statements) name ≡ false
absent-queries [] name e = refl
absent-queries (s ∷ statements) name e =
    let parts : (bytes_eq name (name_of s) ≡ false) × (is_among (names_in statements) name ≡ false) = or_parts (bytes_eq name (name_of s)) (is_among (names_in statements) name) e in
    elim (cases_Bool (is_query s)) [
      | inl query ↦ ap (λ b. is_among (names_in (cond b (s ∷ queries_in statements) (queries_in statements))) name) query ∙ ap (λ b. b || is_among (query_names statements) name) parts.0 ∙ absent-queries statements name parts.1
      | inr other ↦ ap (λ b. is_among (names_in (cond b (s ∷ queries_in statements) (queries_in statements))) name) other ∙ absent-queries statements name parts.1
    ]

-- the names and the queries of one statement more
pub names_in-more : (statements : List Statement) (place : ℕ) (d : Statement) → place < length statements → take (place + 1) (names_in statements) ≡ take place (names_in statements) ++ name_of (get_or statements place d) ∷ []
names_in-more statements place d within =
    take-map name_of (place + 1) statements ∙ ap names_in (take_more statements place d within) ∙ map-append name_of (take place statements) (get_or statements place d ∷ []) ∙ ap (λ xs. xs ++ name_of (get_or statements place d) ∷ []) (sym (take-map name_of place statements))

one_query : (s : Statement) → names_in (cond (is_query s) (s ∷ []) []) ≡ cond (is_query s) (name_of s ∷ []) []
one_query s = elim (cases_Bool (is_query s)) [
  | inl query ↦ ap (λ b. names_in (cond b (s ∷ []) [])) query ∙ sym (ap (λ b. cond b (name_of s ∷ []) []) query)
  | inr other ↦ ap (λ b. names_in (cond b (s ∷ []) [])) other ∙ sym (ap (λ b. cond b (name_of s ∷ []) []) other)
]

-- the queries so far, with the next statement if it is one
pub queries_in-more : (statements : List Statement) (place : ℕ) (d : Statement) → place < length statements
    → queries_in (take (place + 1) statements) ≡ queries_in (take place statements) ++ cond (is_query (get_or statements place d)) (get_or statements place d ∷ []) []
queries_in-more statements place d within = filter_more is_query statements place d within

-- and their names
pub query_names-more : (statements : List Statement) (place : ℕ) (d : Statement) → place < length statements
    → query_names (take (place + 1) statements) ≡ query_names (take place statements) ++ cond (is_query (get_or statements place d)) (name_of (get_or statements place d) ∷ []) []
query_names-more statements place d within =
    ap names_in (queries_in-more statements place d within) ∙ map-append name_of (queries_in (take place statements)) (cond (is_query (get_or statements place d)) (get_or statements place d ∷ []) [])
    ∙ ap (λ xs. query_names (take place statements) ++ xs) (one_query (get_or statements place d))
