-- Accepted query texts as programs.
use Rattle.std.proofs.Common.{◌≡◌, ◌∙◌, ℕ, ◌<◌, List, [], ◌∷◌, true, false, length, take, get_or, map, refl, sym, ap, subst, inl, inr, arith}
use Rattle.std.specs.Prelude.{◌==◌, Contains, Option, Some, slice_get, None}
use Rattle.std.specs.List.{All, cons_option, filter_map, position_or_len, range_with_len}
use Rattle.std.specs.List.Sorted.{IsPermutation}
use Rattle.std.proofs.Math.Seq.{take-append_seam}
use Rattle.std.proofs.lemmas.Bool.{cases_lt}
use Rattle.std.proofs.lemmas.List.{ext_get_or, get_or_append_left, get_or_default, get_or-map, length-map}
use Rattle.std.proofs.lemmas.List.Elements.{Contains-append_right, Contains-get_or}
use Rattle.std.proofs.lemmas.List.FromFn.{get_or-map-range_with_len, length-range_with_len}
use Rattle.std.proofs.lemmas.List.Sorted.{IsPermutation-map}
use Rattle.std.proofs.lemmas.List.Sums.{position_or_len_is}
use Rattle.std.proofs.lemmas.Option.{get_or_from_slice_get, slice_get-get_or}
use Rattle.semantics.specs.Expressions.{Read}
use Rattle.semantics.specs.Programs.{Query}
use Rattle.splitter.proofs.NumberedLemmas.{numbered_apart}
use Rattle.stream_schema.specs.Streams.{Entry, stream_names}
use Rattle.resubscribe.specs.Laws.{HasEachOnce}
use Rattle.resubscribe.proofs.OrderLemmas.{HasEachOnce-order}
use Rattle.catalogue.specs.Judgement.{Accepts, Judged, query_at}
use Rattle.catalogue.specs.Programs.{AcceptedArePrograms, AcceptedAreWidePrograms, AllAreWorkedOn, DeclaredAreTold, DeclaredComeFirst, NumbersAreQueries, QueriesHaveTheirNames, StreamsHaveTheirNames, WorkIsInOrder}
use Rattle.catalogue.specs.Reading.{reads_in}
use Rattle.catalogue.specs.Statements.{query_names}
use Rattle.catalogue.proofs.CountLemmas.{order_count, query_count, statement_count}
use Rattle.catalogue.proofs.PartLemmas.{published_count}
use Rattle.catalogue.proofs.PermutationLemmas.{range_permutes}
use Rattle.catalogue.proofs.TurnLemmas.{StandsBehind, in_turn, name_in_turn, numbered, stands_behind, stream_in_turn, told_declared, told_published}
use Rattle.catalogue.proofs.WideLemmas.{published_wide}
use Rattle.event_types.proofs.NumberLemmas.{self_equal, is_other}

-- what is found for each item is what is given
filter_map-found : {Y : Type 0} (f : ℕ → Option Y) (g : ℕ → Y) (xs : List ℕ) → ((x : ℕ) → Contains xs x → f x ≡ Some (g x)) → filter_map f xs ≡ map g xs
filter_map-found f g [] found = refl
filter_map-found f g (x ∷ xs) found =
    ap (λ o. cons_option o (filter_map f xs)) (found x (0, omega arith, refl)) ∙ ap (λ ys. g x ∷ ys) (filter_map-found f g xs (λ y stands. found y (Contains-append_right (x ∷ []) xs y stands)))

module _ (text : List ℕ) (judged : Judged) (accepts : Accepts text judged) where
  once : HasEachOnce (reads_in judged.statements) judged.order
  once = HasEachOnce-order (reads_in judged.statements) judged.order accepts.in_order

  many : length judged.order ≡ length (reads_in judged.statements)
  many = order_count (reads_in judged.statements) judged.order accepts.in_order

  typed : length judged.published ≡ length judged.order
  typed = published_count accepts.publishes

  -- a query stands at the place of its number in the order of work
  place_at : (place : ℕ) → place < length judged.order → position_or_len (λ other. get_or judged.order place 0 == other) judged.order ≡ place
  place_at place within =
      position_or_len_is (λ other. get_or judged.order place 0 == other) judged.order place 0 (omega arith)
      (λ k before. is_other (get_or judged.order place 0) (get_or judged.order k 0) (λ same. once.distinct k place 0 before within (sym same)))
      (λ inside. self_equal (get_or judged.order place 0))

  query_there : (place : ℕ) → place < length judged.order → query_at judged (get_or judged.order place 0) ≡ get_or judged.published place (record { name = []; stream = 0; hidden = 0; expr = Read 0; birth = None })
  query_there place within = ap (λ p. get_or judged.published p (record { name = []; stream = 0; hidden = 0; expr = Read 0; birth = None })) (place_at place within)

  small : (number : ℕ) → Contains judged.order number → number < length judged.order
  small number stands = subst (λ n. number < n) (sym many) ((once.all number).0 stands)

  stands : (number : ℕ) → number < length judged.order → Contains judged.order number
  stands number within = (once.all number).1 (subst (λ n. number < n) many within)

  -- the queries in the order of work are those that are typed
  placed : map (query_at judged) judged.order ≡ judged.published
  placed =
      ext_get_or (record { name = []; stream = 0; hidden = 0; expr = Read 0; birth = None }) (map (query_at judged) judged.order) judged.published (length-map judged.order (query_at judged) ∙ sym typed)
      (λ k within.
      let inside : k < length judged.order = subst (λ n. k < n) (length-map judged.order (query_at judged)) within in
      get_or-map (query_at judged) judged.order k 0 (record { name = []; stream = 0; hidden = 0; expr = Read 0; birth = None }) inside ∙ query_there k inside)

  -- they are the queries of the file in another order
  same_queries : IsPermutation (map (query_at judged) (range_with_len 0 (length judged.order))) judged.published
  same_queries =
      subst (IsPermutation (map (query_at judged) (range_with_len 0 (length judged.order)))) placed
      (IsPermutation-map (query_at judged) (range_with_len 0 (length judged.order)) judged.order
      (range_permutes (length judged.order) judged.order once.distinct stands small))

  found : (number : ℕ) → Contains judged.order number → slice_get (map (query_at judged) (range_with_len 0 (length judged.order))) number ≡ Some (query_at judged number)
  found number there =
      let within : number < length judged.order = small number there in
      let inside : number < length (map (query_at judged) (range_with_len 0 (length judged.order))) = subst (λ n. number < n) (sym (length-map (range_with_len 0 (length judged.order)) (query_at judged) ∙ length-range_with_len 0 (length judged.order))) within in
      slice_get-get_or (map (query_at judged) (range_with_len 0 (length judged.order))) number (query_at judged number) inside
      ∙ ap Some (get_or-map-range_with_len (query_at judged) 0 (length judged.order) number number (query_at judged number) within (omega arith))

  works : judged.published ≡ filter_map (slice_get (map (query_at judged) (range_with_len 0 (length judged.order)))) judged.order
  works = sym (filter_map-found (slice_get (map (query_at judged) (range_with_len 0 (length judged.order)))) (query_at judged) judged.order found ∙ placed)

  numbers : All (λ number. number < length (map (query_at judged) (range_with_len 0 (length judged.order)))) judged.order
  numbers k d inside =
      subst (λ n. get_or judged.order k d < n) (sym (length-map (range_with_len 0 (length judged.order)) (query_at judged) ∙ length-range_with_len 0 (length judged.order)))
      (small (get_or judged.order k d) (Contains-get_or judged.order k d inside))

  module _ (number : ℕ) (within : number < length judged.order) where
    place_of : (k : ℕ) × (k < length judged.order) × (get_or judged.order k 0 ≡ number)
    place_of = let (k, inside, there) = stands number within in (k, inside, sym (get_or_default judged.order k number 0 inside) ∙ there)

    name_is : (query_at judged number).name ≡ get_or (query_names judged.statements) number []
    name_is =
        let (k, inside, there) = place_of in
        subst (λ n. (query_at judged n).name ≡ get_or (query_names judged.statements) n []) there
        (ap (λ (q : Query). q.name) (query_there k inside) ∙ name_in_turn accepts.publishes k (record { name = []; stream = 0; hidden = 0; expr = Read 0; birth = None }) inside)

    stream_is : slice_get (stream_names judged.streams) (query_at judged number).stream ≡ Some (query_at judged number).name
    stream_is =
        let (k, inside, there) = place_of in
        subst (λ n. slice_get (stream_names judged.streams) (query_at judged n).stream ≡ Some (query_at judged n).name) there
        (subst (λ (q : Query). slice_get (stream_names judged.streams) q.stream ≡ Some q.name) (sym (query_there k inside)) (stream_in_turn accepts.publishes k (record { name = []; stream = 0; hidden = 0; expr = Read 0; birth = None }) inside))

  behind_declared : StandsBehind judged.declared judged.streams
  behind_declared = stands_behind accepts.publishes

  declared_first : take (length judged.declared) judged.streams ≡ judged.declared
  declared_first = ap (take (length judged.declared)) behind_declared.all_are ∙ take-append_seam judged.declared behind_declared.more

  module _ (stream : ℕ) (entry : Entry) (there : slice_get judged.streams stream ≡ Some entry) where
    told_first : entry.declared ≡ true → stream < length judged.declared
    told_first told = elim (cases_lt stream (length judged.declared)) [
      | inl first ↦ first
      | inr past ↦ let other : entry.declared ≡ false = told_published accepts.publishes stream entry there past in absurd cc
    ]

    first_told : stream < length judged.declared → entry.declared ≡ true
    first_told first =
        let own : get_or judged.declared stream entry ≡ entry =
        sym (get_or_append_left judged.declared behind_declared.more entry stream first) ∙ ap (λ es. get_or es stream entry) (sym behind_declared.all_are) ∙ get_or_from_slice_get judged.streams stream entry entry there in
        told_declared accepts.declares stream entry (slice_get-get_or judged.declared stream entry first ∙ ap Some own)

-- an accepted text is a program
pub accepted_are_programs : AcceptedArePrograms
accepted_are_programs text judged accepts = record { same_queries = same_queries text judged accepts; in_turn = in_turn accepts.publishes }

-- its expressions have widths
pub accepted_are_wide_programs : AcceptedAreWidePrograms
accepted_are_wide_programs text judged accepts = record {
  typed = accepted_are_programs text judged accepts;
  wide = published_wide accepts.publishes;
  apart = numbered_apart (length judged.declared) (length judged.statements) judged.published (numbered accepts.publishes) (omega (arith, typed text judged accepts, statement_count judged.statements judged.declared judged.order accepts.declares accepts.in_order));
}

-- its work is in order
pub work_is_in_order : WorkIsInOrder
work_is_in_order text judged accepts = works text judged accepts

-- the numbers of the order are those of queries
pub numbers_are_queries : NumbersAreQueries
numbers_are_queries text judged accepts = numbers text judged accepts

-- each query is worked on
pub all_are_worked_on : AllAreWorkedOn
all_are_worked_on text judged accepts = query_count judged.statements judged.order accepts.in_order

-- the queries have the names of their statements
pub queries_have_their_names : QueriesHaveTheirNames
queries_have_their_names text judged accepts number within = name_is text judged accepts number within

-- so do the streams
pub streams_have_their_names : StreamsHaveTheirNames
streams_have_their_names text judged accepts number within = stream_is text judged accepts number within

-- the declared streams come first
pub declared_come_first : DeclaredComeFirst
declared_come_first text judged accepts = declared_first text judged accepts

-- and are told as declared
pub declared_are_told : DeclaredAreTold
declared_are_told text judged accepts stream entry there = (told_first text judged accepts stream entry there, first_told text judged accepts stream entry there)
