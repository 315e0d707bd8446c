-- Accepted texts in parts.
use Rattle.std.proofs.Common.{◌≡◌, ◌∙◌, sym, ap, refl, subst, ℕ, zero, suc, ◌<◌, inl, inr, Bool, true, false, cond, get_or, length, List, [], ◌∷◌, ◌++◌, map, arith}
use Rattle.std.specs.Prelude.{Contains, Option, Some, None}
use Rattle.std.specs.List.{All, flat_map}
use Rattle.std.specs.Str.{bytes_eq}
use Rattle.std.proofs.lemmas.Grind.{flat_map-append}
use Rattle.std.proofs.lemmas.List.{get_or-map, length-map}
use Rattle.std.proofs.lemmas.Slice.Eq.{bytes_eq-Decides}
use Rattle.std.proofs.lemmas.List.Elements.{All-contains, All-head, All-tail, All-weaker, Contains-append_cases, Contains-append_right, Contains-get_or}
use Rattle.std.proofs.lemmas.List.Sorted.{Contains-permutation}
use Rattle.semantics.specs.Histories.{Event, times}
use Rattle.semantics.specs.Programs.{Query}
use Rattle.semantics.specs.Report.{epoch, line, lines_at}
use Rattle.semantics.specs.Results.{results}
use Rattle.semantics.proofs.ReportLemmas.{flat_map_same}
use Rattle.scalar_expr.proofs.Bags.{flat_map_each}
use Rattle.stream_schema.specs.Streams.{number_of}
use Rattle.cel_grammar.specs.Trees.{Statement}
use Rattle.catalogue.specs.Judgement.{Accepts, Judged, program_of}
use Rattle.catalogue.specs.Statements.{queries_in}
use Rattle.catalogue.specs.Typing.{published_by}
use Rattle.catalogue.proofs.ProgramLemmas.{accepted_are_programs}
use Rattle.courses.specs.Laws.{HasNoControlLine}
use Rattle.courses.specs.QuerySet.{set_of}
use Rattle.courses.specs.Reports.{refused_in, report_of_closed}
use Rattle.independence.specs.Independence.{HasTwin}
use Rattle.independence.specs.Reports.{ReportAlike}
use Rattle.independence.proofs.AcceptedLemmas.{Stands, accepted-stands}
use Rattle.independence.proofs.LawLemmas.{reports_stay}
use Rattle.independence.proofs.PublishedLemmas.{IsOf}
use Rattle.independence.proofs.TableLemmas.{number-at}
use Rattle.text_laws.specs.QueryParts.{HaveEachQuery, IsPartOf, PartsInTurnReportTheWhole, QueryPartsReportTheWhole, ReportInParts, closed_by, lines_in_parts, lines_or, named_in, names_of}
use Rattle.text_laws.proofs.TextLemmas.{closed-alone}

-- queries of one text that have one name publish one stream
module _ (text : List ℕ) (judged : Judged) (accepts : Accepts text judged) where
  stands : Stands judged
  stands = accepted-stands text judged accepts

  published : (query : Query) → Contains (program_of judged).queries query → Contains judged.published query
  published query there = Contains-permutation (program_of judged).queries judged.published query (accepted_are_programs text judged accepts).same_queries there

  -- the number of the name is that of the stream
  stream_named : (query : Query) → Contains (program_of judged).queries query → number_of query.name judged.streams ≡ Some query.stream
  stream_named query there =
      let known = All-contains (λ q. (s : Statement) × Contains (queries_in judged.statements) s × IsOf judged.streams s q) judged.published query stands.queries (published query there) in
      ap (λ name. number_of name judged.streams) known.2.named ∙ number-at judged.streams stands.apart query.stream (published_by known.0 known.2.schema) known.2.entry

  -- so their lines are the same
  one_query : (history : List Event) (time : ℕ) (query other : Query) → Contains (program_of judged).queries query → Contains (program_of judged).queries other → query.name ≡ other.name
      → lines_at (program_of judged) history time query ≡ lines_at (program_of judged) history time other
  one_query history time query other there other_there named =
      let streams : Some query.stream ≡ Some other.stream = sym (stream_named query there) ∙ ap (λ name. number_of name judged.streams) named ∙ stream_named other other_there in
      let stream : query.stream ≡ other.stream = cc in
      λ i. flat_map (line (named i)) (results (program_of judged) history (stream i) time)

-- what the name leads to among queries
record IsNamed (name : List ℕ) (queries : List Query) (query : Query) : Type 0 where
  pub there : Contains queries query
  pub named : query.name ≡ name

-- what names give is what queries give by their names
flat_map-named : (f : List ℕ → List ℕ) (queries : List Query) → flat_map (λ query. f query.name) queries ≡ flat_map f (map (λ (query : Query). query.name) queries)
flat_map-named f [] = refl
flat_map-named f (query ∷ queries) = ap (λ lines. f query.name ++ lines) (flat_map-named f queries)

-- what is given of all that items give
flat_map-flat_map : {X : Type 0} (f : X → List (List ℕ)) (g : List ℕ → List ℕ) (xs : List X) → flat_map g (flat_map f xs) ≡ flat_map (λ x. flat_map g (f x)) xs
flat_map-flat_map f g [] = refl
flat_map-flat_map f g (x ∷ xs) = flat_map-append g (f x) (flat_map f xs) ∙ ap (λ ys. flat_map g (f x) ++ ys) (flat_map-flat_map f g xs)

-- the name of a query is among the names
contains_name : (queries : List Query) (query : Query) (name : List ℕ) → Contains queries query → query.name ≡ name → Contains (map (λ (query : Query). query.name) queries) name
contains_name queries query name (k, within, same) named =
    (k, subst (λ n. k < n) (sym (length-map queries (λ (query : Query). query.name))) within, get_or-map (λ (query : Query). query.name) queries k query name within ∙ ap (λ (query : Query). query.name) same ∙ named)

-- what is found has the name, by induction on the queries
found_named : (name : List ℕ) (queries : List Query) (query : Query) → named_in name queries ≡ Some query → IsNamed name queries query
found_named name [] query e = cc
found_named name (first ∷ queries) query e = go (λ e. found_named name queries query e) (bytes_eq first.name name) refl e
  where
    go : (named_in name queries ≡ Some query → IsNamed name queries query) → (b : Bool) → bytes_eq first.name name ≡ b → cond b (Some first) (named_in name queries) ≡ Some query → IsNamed name (first ∷ queries) query
    go more true is e =
        let same : first ≡ query = cc in
        record { there = (0, omega arith, same); named = ap (λ q. q.name) (sym same) ∙ (bytes_eq-Decides first.name name).0 is }
    go more false is e =
        let rest = more e in
        record { there = Contains-append_right (first ∷ []) queries query rest.there; named = rest.named }

-- where nothing is found, no query has the name, by induction on the queries
none_named : (name : List ℕ) (queries : List Query) → named_in name queries ≡ None → Contains (map (λ (query : Query). query.name) queries) name → ⊥
none_named name [] e there = absurd (omega (arith, there.1))
none_named name (first ∷ queries) e there = go (λ e there. none_named name queries e there) (bytes_eq first.name name) refl e there
  where
    go : (named_in name queries ≡ None → Contains (map (λ (query : Query). query.name) queries) name → ⊥) → (b : Bool) → bytes_eq first.name name ≡ b → cond b (Some first) (named_in name queries) ≡ None → Contains (first.name ∷ map (λ (query : Query). query.name) queries) name → ⊥
    go more true is e there = cc
    go more false is e (zero, within, same) = let yes : bytes_eq first.name name ≡ true = (bytes_eq-Decides first.name name).1 same in cc
    go more false is e (suc k, within, same) = more e (k, omega arith, same)

module _ (text : List ℕ) (whole : Judged) (accepts : Accepts text whole) (events : List ℕ) (ended : Bool) (plain : HasNoControlLine events ended) where
  -- a part reports as the whole does
  alike : (part : Judged) → IsPartOf whole part → ReportAlike part whole events ended
  alike part of = reports_stay of.text text part whole events ended of.accepted accepts of.of_whole plain

  -- a query of a part has the lines of the whole's query of its name
  same_in_part : (part : Judged) → IsPartOf whole part → (time : ℕ) (query own : Query) → Contains (program_of whole).queries query → Contains (program_of part).queries own → own.name ≡ query.name
      → lines_at (program_of part) (closed_by events ended part) time own ≡ lines_at (program_of whole) (closed_by events ended whole) time query
  same_in_part part of time query own there own_there named =
      let twin = All-contains (HasTwin (program_of part) (program_of whole) (closed_by events ended part) (closed_by events ended whole)) (program_of part).queries own (alike part of).lines_are own_there in
      sym (twin.same_lines time) ∙ one_query text whole accepts (closed_by events ended whole) time twin.twin query twin.stands there (twin.same_name ∙ named)

  -- so have the parts together, by induction on them
  same_in_parts : (parts : List Judged) → All (IsPartOf whole) parts → (time : ℕ) (query : Query) → Contains (program_of whole).queries query → Contains (flat_map names_of parts) query.name
      → lines_in_parts events ended time query.name parts ≡ lines_at (program_of whole) (closed_by events ended whole) time query
  same_in_parts [] all time query there some = absurd (omega (arith, some.1))
  same_in_parts (part ∷ parts) all time query there some =
      go (λ some. same_in_parts parts (All-tail (IsPartOf whole) part parts all) time query there some) (named_in query.name (program_of part).queries) refl
    where
      go : (Contains (flat_map names_of parts) query.name → lines_in_parts events ended time query.name parts ≡ lines_at (program_of whole) (closed_by events ended whole) time query)
          → (found : Option Query) → named_in query.name (program_of part).queries ≡ found
          → lines_or part (closed_by events ended part) time found (lines_in_parts events ended time query.name parts) ≡ lines_at (program_of whole) (closed_by events ended whole) time query
      go more (Some own) is =
          let known = found_named query.name (program_of part).queries own is in
          same_in_part part (All-head (IsPartOf whole) part parts all) time query own there known.there known.named
      go more None is = elim (Contains-append_cases (names_of part) (flat_map names_of parts) query.name some) [
        | inl here ↦ absurd (none_named query.name (program_of part).queries is here)
        | inr later ↦ more later
      ]

  -- over an event text the parts together report the whole
  parts_report : (parts : List Judged) → All (IsPartOf whole) parts → HaveEachQuery whole parts → ReportInParts whole parts events ended
  parts_report parts all each =
      record {
        refused_are = All-weaker (IsPartOf whole) (λ part. refused_in (set_of part) events ended ≡ refused_in (set_of whole) events ended) (λ part of. (alike part of).refused_is) parts all;
        epochs_are = All-weaker (IsPartOf whole) (λ part. times (closed_by events ended part) ≡ times (closed_by events ended whole)) (λ part of. (alike part of).epochs_are) parts all;
        lines_are = All-weaker (IsPartOf whole) (λ part. All (HasTwin (program_of part) (program_of whole) (closed_by events ended part) (closed_by events ended whole)) (program_of part).queries) (λ part of. (alike part of).lines_are) parts all;
        report_is = closed-alone (set_of whole) events ended plain ∙ flat_map_each (epoch (program_of whole) (closed_by events ended whole)) (λ time. flat_map (λ name. lines_in_parts events ended time name parts) (names_of whole)) one (times (closed_by events ended whole));
      }
    where
      one : (time : ℕ) → epoch (program_of whole) (closed_by events ended whole) time ≡ flat_map (λ name. lines_in_parts events ended time name parts) (names_of whole)
      one time =
          flat_map_same (lines_at (program_of whole) (closed_by events ended whole) time) (λ (query : Query). lines_in_parts events ended time query.name parts) (program_of whole).queries
          (λ k d lt. sym (same_in_parts parts all time (get_or (program_of whole).queries k d) (Contains-get_or (program_of whole).queries k d lt) (name_there k d lt)))
          ∙ flat_map-named (λ name. lines_in_parts events ended time name parts) (program_of whole).queries
        where
          name_there : (k : ℕ) (d : Query) → k < length (program_of whole).queries → Contains (flat_map names_of parts) (get_or (program_of whole).queries k d).name
          name_there k d lt =
              let query = get_or (program_of whole).queries k d in
              All-contains (Contains (flat_map names_of parts)) (names_of whole) query.name each (contains_name (program_of whole).queries query query.name (Contains-get_or (program_of whole).queries k d lt) refl)

  -- the lines of the whole's query of a name
  abbrev of_name : ℕ → List ℕ → List ℕ
  of_name time name = lines_or whole (closed_by events ended whole) time (named_in name (program_of whole).queries) []

  name_is : (time : ℕ) (query : Query) (name : List ℕ) → Contains (program_of whole).queries query → query.name ≡ name → of_name time name ≡ lines_at (program_of whole) (closed_by events ended whole) time query
  name_is time query name there named = go (named_in name (program_of whole).queries) refl
    where
      go : (found : Option Query) → named_in name (program_of whole).queries ≡ found → lines_or whole (closed_by events ended whole) time found [] ≡ lines_at (program_of whole) (closed_by events ended whole) time query
      go None is = absurd (none_named name (program_of whole).queries is (contains_name (program_of whole).queries query name there named))
      go (Some found) is =
          let known = found_named name (program_of whole).queries found is in
          one_query text whole accepts (closed_by events ended whole) time found query known.there there (known.named ∙ sym named)

  -- the epochs of the parts, part after part, are those of the whole
  parts_in_turn : (parts : List Judged) → All (IsPartOf whole) parts → names_of whole ≡ flat_map names_of parts
      → report_of_closed (set_of whole) events ended ≡ flat_map (λ time. flat_map (λ part. epoch (program_of part) (closed_by events ended part) time) parts) (times (closed_by events ended whole))
  parts_in_turn parts all names =
      closed-alone (set_of whole) events ended plain
      ∙ flat_map_each (epoch (program_of whole) (closed_by events ended whole)) (λ time. flat_map (λ part. epoch (program_of part) (closed_by events ended part) time) parts) one (times (closed_by events ended whole))
    where
      of_part : (time : ℕ) (part : Judged) → IsPartOf whole part → flat_map (of_name time) (names_of part) ≡ epoch (program_of part) (closed_by events ended part) time
      of_part time part of =
          sym (flat_map-named (of_name time) (program_of part).queries)
          ∙ flat_map_same (λ (own : Query). of_name time own.name) (lines_at (program_of part) (closed_by events ended part) time) (program_of part).queries
          (λ k d lt. own_lines (get_or (program_of part).queries k d) (Contains-get_or (program_of part).queries k d lt))
        where
          own_lines : (own : Query) → Contains (program_of part).queries own → of_name time own.name ≡ lines_at (program_of part) (closed_by events ended part) time own
          own_lines own there =
              let twin = All-contains (HasTwin (program_of part) (program_of whole) (closed_by events ended part) (closed_by events ended whole)) (program_of part).queries own (alike part of).lines_are there in
              name_is time twin.twin own.name twin.stands twin.same_name ∙ twin.same_lines time

      one : (time : ℕ) → epoch (program_of whole) (closed_by events ended whole) time ≡ flat_map (λ part. epoch (program_of part) (closed_by events ended part) time) parts
      one time =
          flat_map_same (lines_at (program_of whole) (closed_by events ended whole) time) (λ (query : Query). of_name time query.name) (program_of whole).queries
          (λ k d lt. sym (name_is time (get_or (program_of whole).queries k d) (get_or (program_of whole).queries k d).name (Contains-get_or (program_of whole).queries k d lt) refl))
          ∙ flat_map-named (of_name time) (program_of whole).queries
          ∙ ap (flat_map (of_name time)) names
          ∙ flat_map-flat_map names_of (of_name time) parts
          ∙ flat_map_same (λ part. flat_map (of_name time) (names_of part)) (λ part. epoch (program_of part) (closed_by events ended part) time) parts
          (All-weaker (IsPartOf whole) (λ part. flat_map (of_name time) (names_of part) ≡ epoch (program_of part) (closed_by events ended part) time) (of_part time) parts all)

-- parts that have each query together report what the whole does
pub query_parts : QueryPartsReportTheWhole
query_parts text whole parts events ended accepts all each plain = parts_report text whole accepts events ended plain parts all each

-- where the queries of the parts in turn are those of the whole, so are their epochs
pub in_turn : PartsInTurnReportTheWhole
in_turn text whole parts events ended accepts all names plain = parts_in_turn text whole accepts events ended plain parts all names
