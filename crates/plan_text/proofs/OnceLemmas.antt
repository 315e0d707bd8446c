-- Names that are added one by one where they are new, and names without repeats.
use Rattle.std.proofs.Common.{◌≡◌, ◌∙◌, ℕ, List, [], ◌∷◌, ◌++◌, Bool, true, false, not, ◌&&◌, ◌||◌, cond, ap, sym, refl, inl, inr, append_assoc, map, take, ◌+◌}
use Rattle.std.specs.Prelude.{Some, slice_get}
use Rattle.std.specs.List.{filter, fold}
use Rattle.std.specs.Str.{bytes_eq}
use Rattle.std.proofs.lemmas.Bool.{cases_Bool}
use Rattle.std.proofs.lemmas.List.{append-nil, map-append}
use Rattle.std.proofs.lemmas.Slice.Eq.{bytes_eq-Decides}
use Rattle.semantics.proofs.ListLemmas.{filter-filter, map-cond}
use Rattle.cel_grammar.specs.Trees.{Statement}
use Rattle.catalogue.specs.Statements.{is_query, queries_in, reads_by}
use Rattle.catalogue.proofs.PlaceLemmas.{queries-with}
use Rattle.std.proofs.lemmas.List.Elements.{filter_agree}
use Rattle.std.proofs.lemmas.List.Folds.{list_any-append}
use Rattle.cel_types.specs.Aggregates.{is_among}
use Rattle.plan_text.specs.Parts.{with_name}
use Rattle.plan_text.specs.Reads.{once, reads_once}

-- the name isn't among those
abbrev is_new : List (List ℕ) → List ℕ → Bool
is_new names name = not (is_among names name)

not-or : (same among : Bool) → (not same && not among) ≡ not (among || (same || false))
not-or true true = refl
not-or true false = refl
not-or false true = refl
not-or false false = refl

-- a name is new behind one name more where it is another and was new
new-more : (seen : List (List ℕ)) (name other : List ℕ) → (not (bytes_eq other name) && is_new seen other) ≡ is_new (seen ++ name ∷ []) other
new-more seen name other = not-or (bytes_eq other name) (is_among seen other) ∙ ap not (sym (list_any-append (bytes_eq other) seen (name ∷ [])))

-- a name that is new is none of those that are there
new-there : (seen : List (List ℕ)) (name other : List ℕ) → is_among seen name ≡ true → (not (bytes_eq other name) && is_new seen other) ≡ is_new seen other
new-there seen name other there = elim (cases_Bool (bytes_eq other name)) [
  | inl hit ↦
      let same : other ≡ name = (bytes_eq-Decides other name).0 hit in
      let among : is_among seen other ≡ true = rw same there in
      ap (λ b. not b && is_new seen other) hit ∙ sym (ap not among)
  | inr miss ↦ ap (λ b. not b && is_new seen other) miss
]

-- by induction on the names: behind those that are there stands each new name once
fold-with_name : (seen names : List (List ℕ)) → fold with_name seen names ≡ seen ++ filter (is_new seen) (once names)
fold-with_name seen [] = sym (append-nil seen)
fold-with_name seen (name ∷ names) =
    let others : List (List ℕ) = filter (λ other. not (bytes_eq other name)) (once names) in
    let step : Bool → List (List ℕ) = λ among. fold with_name (cond among seen (seen ++ name ∷ [])) names in
    let rest : Bool → List (List ℕ) = λ among. seen ++ cond (not among) (name ∷ filter (is_new seen) others) (filter (is_new seen) others) in
    let both = filter-filter (is_new seen) (λ other. not (bytes_eq other name)) (once names) in
    elim (cases_Bool (is_among seen name)) [
      | inl there ↦
          let kept = both ∙ filter_agree _ (is_new seen) (λ other. new-there seen name other there) (once names) in
          ap step there ∙ fold-with_name seen names ∙ ap (λ xs. seen ++ xs) (sym kept) ∙ sym (ap rest there)
      | inr new ↦
          let kept = both ∙ filter_agree _ (is_new (seen ++ name ∷ [])) (λ other. new-more seen name other) (once names) in
          ap step new ∙ fold-with_name (seen ++ name ∷ []) names ∙ append_assoc seen (name ∷ []) (filter (is_new (seen ++ name ∷ [])) (once names))
          ∙ ap (λ xs. seen ++ (name ∷ xs)) (sym kept) ∙ sym (ap rest new)
    ]

all-new : (names : List (List ℕ)) → filter (is_new []) names ≡ names
all-new [] = refl
all-new (name ∷ names) = ap (λ xs. name ∷ xs) (all-new names)

-- names that are added to none are the names without repeats
pub fold-with_name-once : (names : List (List ℕ)) → fold with_name [] names ≡ once names
fold-with_name-once names = fold-with_name [] names ∙ all-new (once names)

-- what the queries so far read, with what the statement reads
pub reads_once-take : (statements : List Statement) (place : ℕ) (s : Statement) → slice_get statements place ≡ Some s
    → reads_once (take (place + 1) statements) ≡ reads_once (take place statements) ++ cond (is_query s) (once (reads_by s) ∷ []) []
reads_once-take statements place s there =
    let read : Statement → List (List ℕ) = λ query. once (reads_by query) in
    ap (map read) (queries-with statements place s there)
    ∙ map-append read (queries_in (take place statements)) (cond (is_query s) (s ∷ []) [])
    ∙ ap (λ xs. reads_once (take place statements) ++ xs) (map-cond read (is_query s) s)
