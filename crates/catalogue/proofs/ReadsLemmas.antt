-- What one more statement reads.
use Rattle.std.proofs.Common.{◌≡◌, ◌∙◌, ℕ, ◌+◌, ◌≤◌, List, [], ◌∷◌, ◌++◌, cond, length, take, map, sym, ap}
use Rattle.std.specs.Prelude.{Some, slice_get}
use Rattle.std.proofs.lemmas.List.{map-append, take_all}
use Rattle.cel_grammar.specs.Trees.{Statement}
use Rattle.catalogue.specs.Reading.{numbers_of, reads_in}
use Rattle.catalogue.specs.Statements.{is_query, queries_in, query_names, reads_by}
use Rattle.catalogue.proofs.PlaceLemmas.{queries-with}
use Rattle.semantics.proofs.ListLemmas.{map-cond}

-- what the queries so far read, with what the statement reads
pub reads-with : (ss : List Statement) (place : ℕ) (s : Statement) (queries : List (List ℕ)) → slice_get ss place ≡ Some s → queries ≡ query_names ss
    → map (λ query. numbers_of (query_names ss) (reads_by query)) (queries_in (take place ss)) ++ cond (is_query s) (numbers_of queries (reads_by s) ∷ []) []
    ≡ map (λ query. numbers_of (query_names ss) (reads_by query)) (queries_in (take (place + 1) ss))
reads-with ss place s queries there same =
    ap (λ xs. map (λ query. numbers_of (query_names ss) (reads_by query)) (queries_in (take place ss)) ++ cond (is_query s) (numbers_of xs (reads_by s) ∷ []) []) same
    ∙ ap (λ xs. map (λ query. numbers_of (query_names ss) (reads_by query)) (queries_in (take place ss)) ++ xs) (sym (map-cond (λ query. numbers_of (query_names ss) (reads_by query)) (is_query s) s))
    ∙ sym (map-append (λ query. numbers_of (query_names ss) (reads_by query)) (queries_in (take place ss)) (cond (is_query s) (s ∷ []) []))
    ∙ ap (map (λ query. numbers_of (query_names ss) (reads_by query))) (sym (queries-with ss place s there))

-- at the end it is what all queries read
pub reads-all : (ss : List Statement) (place : ℕ) → length ss ≤ place → map (λ query. numbers_of (query_names ss) (reads_by query)) (queries_in (take place ss)) ≡ reads_in ss
reads-all ss place end = ap (λ xs. map (λ query. numbers_of (query_names ss) (reads_by query)) (queries_in xs)) (take_all place ss end)
