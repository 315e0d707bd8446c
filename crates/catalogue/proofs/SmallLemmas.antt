-- The numbers of queries that are read, and those of a cycle, are below the number of queries.
use Rattle.std.proofs.Common.{◌≡◌, ◌∙◌, ℕ, ◌<◌, List, [], ◌∷◌, length, refl, sym, subst, inl, inr, arith}
use Rattle.std.specs.Prelude.{Option, Some, None, Contains, position}
use Rattle.std.specs.List.{All, cons_option}
use Rattle.std.specs.Str.{bytes_eq}
use Rattle.std.proofs.lemmas.Bool.{cases_lt}
use Rattle.std.proofs.lemmas.List.{get_or_past, length-map}
use Rattle.std.proofs.lemmas.List.Elements.{All-contains, All-cons, All-map, All-nil}
use Rattle.std.proofs.lemmas.List.Quantifiers.{position-Some}
use Rattle.cel_grammar.specs.Trees.{Statement}
use Rattle.resubscribe.specs.Laws.{EachReadsNext, ReadsInCircle}
use Rattle.resubscribe.specs.Order.{reads_of}
use Rattle.catalogue.specs.Reading.{numbers_of, reads_in}
use Rattle.catalogue.specs.Statements.{name_of, queries_in, query_names, reads_by}
use Rattle.semantics.proofs.ListLemmas.{every}

cons_small : (n : ℕ) (o : Option ℕ) (xs : List ℕ) → ((k : ℕ) → o ≡ Some k → k < n) → All (λ x. x < n) xs → All (λ x. x < n) (cons_option o xs)
cons_small n None xs small all = all
cons_small n (Some k) xs small all = All-cons (λ x. x < n) k xs (small k refl) all

-- the places of names among the queries are below the number of queries
numbers_small : (queries names : List (List ℕ)) → All (λ x. x < length queries) (numbers_of queries names)
numbers_small queries [] = All-nil (λ x. x < length queries)
numbers_small queries (name ∷ names) = cons_small (length queries) (position (bytes_eq name) queries) (numbers_of queries names) (λ k e. (position-Some (bytes_eq name) queries k [] e).0) (numbers_small queries names)

length_reads : (ss : List Statement) → length (query_names ss) ≡ length (reads_in ss)
length_reads ss = length-map (queries_in ss) name_of ∙ sym (length-map (queries_in ss) (λ query. numbers_of (query_names ss) (reads_by query)))

-- what is read is the number of a query
pub reads_small : (ss : List Statement) → All (λ numbers. All (λ number. number < length (reads_in ss)) numbers) (reads_in ss)
reads_small ss =
    All-map (λ numbers. All (λ number. number < length (reads_in ss)) numbers) (λ query. numbers_of (query_names ss) (reads_by query)) (queries_in ss)
    (every (λ query. All (λ number. number < length (reads_in ss)) (numbers_of (query_names ss) (reads_by query)))
    (λ query. subst (λ (n : ℕ). All (λ number. number < n) (numbers_of (query_names ss) (reads_by query))) (length_reads ss) (numbers_small (query_names ss) (reads_by query))) (queries_in ss))

-- there is a name for each query
pub length_names : (ss : List Statement) → length (query_names ss) ≡ length (reads_in ss)
length_names ss = length_reads ss

-- what some query reads is below the number of queries
read_small : (reads : List (List ℕ)) (n q x : ℕ) → All (λ numbers. All (λ number. number < n) numbers) reads → Contains (reads_of reads q) x → x < n
read_small reads n q x small there = elim (cases_lt q (length reads)) [
  | inl inside ↦ All-contains (λ number. number < n) (reads_of reads q) x (small q [] inside) there
  | inr past ↦ let none : reads_of reads q ≡ [] = get_or_past reads q [] past in let nowhere : Contains [] x = subst (λ (xs : List ℕ). Contains xs x) none there in absurd (omega (arith, nowhere.1))
]

circle_small : (reads : List (List ℕ)) (n : ℕ) (q : ℕ) (xs : List ℕ) (first : ℕ) → All (λ numbers. All (λ number. number < n) numbers) reads → EachReadsNext reads (q ∷ xs) first → (first < n) × All (λ x. x < n) xs
circle_small reads n q [] first small reads_next = (read_small reads n q first small reads_next, All-nil (λ x. x < n))
circle_small reads n q (x ∷ xs) first small reads_next =
    let later : (first < n) × All (λ y. y < n) xs = circle_small reads n x xs first small reads_next.1 in (later.0, All-cons (λ y. y < n) x xs (read_small reads n q x small reads_next.0) later.1)

-- each query of a cycle is one of the queries
pub cycle_small : (reads : List (List ℕ)) (n : ℕ) (cycle : List ℕ) → All (λ numbers. All (λ number. number < n) numbers) reads → ReadsInCircle reads cycle → All (λ x. x < n) cycle
cycle_small reads n [] small circle = All-nil (λ x. x < n)
cycle_small reads n (q ∷ xs) small circle = let all : (q < n) × All (λ y. y < n) xs = circle_small reads n q xs q small circle.1 in All-cons (λ y. y < n) q xs all.0 all.1
