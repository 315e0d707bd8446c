-- One query more in the order of work.
use Rattle.std.proofs.Common.{◌≡◌, ◌∙◌, ℕ, ◌+◌, ◌<◌, List, [], ◌∷◌, ◌++◌, true, length, map, take, drop, get_or, refl, sym, ap, subst, take-append-drop}
use Rattle.std.specs.Prelude.{Some, None, slice_get, Contains}
use Rattle.std.specs.List.{All}
use Rattle.std.proofs.lemmas.List.{drop_more, length-map, map-append, take_more}
use Rattle.std.proofs.lemmas.List.Elements.{Contains-get_or}
use Rattle.std.proofs.lemmas.Option.{slice_get-get_or}
use Rattle.expressions.specs.declared.expression.Expr.{Expr}
use Rattle.expressions.specs.Views.{ex_of}
use Rattle.semantics.specs.Programs.{Query}
use Rattle.stream_schema.specs.Streams.{Entry, number_of, stream_names}
use Rattle.cel_grammar.specs.Trees.{Statement}
use Rattle.cel_grammar.specs.Trees as tree
use Rattle.splitter.specs.Chains.{chain_end}
use Rattle.cel_types.specs.Statements.{FailsAsQuery, IsQueryOver}
use Rattle.resubscribe.specs.Laws.{HasEachOnce}
use Rattle.resubscribe.specs.Order.{IsOrder}
use Rattle.resubscribe.proofs.OrderLemmas.{HasEachOnce-order}
use Rattle.catalogue.specs.declared.fault.LoadFault.{LoadFault}
use Rattle.catalogue.specs.declared.fault.LoadFault.TheVariants.{Bad, Cycle, Memory}
use Rattle.catalogue.specs.Arranging.{AreSound}
use Rattle.catalogue.specs.Reading.{numbers_of, reads_in}
use Rattle.catalogue.specs.Statements.{is_query, name_of, queries_in, query_names, reads_by}
use Rattle.catalogue.specs.Tables.{ArePlaces}
use Rattle.catalogue.specs.Telling.{TellsBad}
use Rattle.catalogue.specs.Typing.{AddsQuery, ArePublished, FileDeclares, FailToPublish, FailsInQueries, FailsOn, Publish, none, query_lines}
use Rattle.catalogue.proofs.PlaceLemmas.{slice_get-within}
use Rattle.catalogue.proofs.PlacesLemmas.{at_place, places_long}
use Rattle.catalogue.proofs.PublishLemmas.{Publish-push, fails_behind}
use Rattle.catalogue.proofs.StandLemmas.{is_absent, query_at_number, reads_stand}

-- nothing is published at first
pub none_published : (ss : List Statement) (streams : List Entry) → ArePublished ss streams [] streams []
none_published ss streams = record { queries = []; publish = none; expressions_are = refl }

is_over : (all : List Entry) (s : Statement) → is_query s ≡ true → All (Contains (stream_names all)) (reads_by s) → IsQueryOver all s
is_over all (tree.Stream name columns) is stand = cc
is_over all (tree.Query items source name) is stand = stand

module _ (ss : List Statement) (lines : List ℕ) (streams : List Entry) (order places : List ℕ) (all : List Entry) (expressions : List Expr) (index : ℕ) (sound : AreSound ss) (in_order : IsOrder (reads_in ss) order) (declared : FileDeclares ss streams) (within : index < length order) (published : ArePublished ss streams (take index order) all expressions) (placed : ArePlaces ss lines ss lines places) where
  number_small : get_or order index 0 < length (queries_in ss)
  number_small =
      let once : HasEachOnce (reads_in ss) order = HasEachOnce-order (reads_in ss) order in_order in
      subst (λ (n : ℕ). get_or order index 0 < n) (length-map (queries_in ss) (λ query. numbers_of (query_names ss) (reads_by query))) ((once.all (get_or order index 0)).0 (Contains-get_or order index 0 within))

  -- the number is that of a place
  pub number_within : get_or order index 0 < length places
  number_within = subst (λ (n : ℕ). get_or order index 0 < n) (sym (places_long ss lines places placed)) number_small

  -- the place is that of a statement
  pub place_within : (place : ℕ) → slice_get places (get_or order index 0) ≡ Some place → place < length ss
  place_within place at =
      slice_get-within ss place (get_or (queries_in ss) (get_or order index 0) (tree.Stream [] []))
      (sym (at_place ss (queries_in ss) places (get_or order index 0) place placed.queries at) ∙ slice_get-get_or (queries_in ss) (get_or order index 0) (tree.Stream [] []) number_small)

  module _ (place : ℕ) (at : slice_get places (get_or order index 0) ≡ Some place) (s : Statement) (there : slice_get ss place ≡ Some s) where
    at_number : slice_get (queries_in ss) (get_or order index 0) ≡ Some s
    at_number = at_place ss (queries_in ss) places (get_or order index 0) place placed.queries at ∙ there

    -- each name that the query reads is a stream's
    pub over : IsQueryOver all s
    over = is_over all s (query_at_number ss (get_or order index 0) s at_number) (reads_stand ss streams order all published.queries sound in_order declared index within published.publish place s there at_number)

    -- its own is new
    pub new_stream : number_of (name_of s) all ≡ None
    new_stream = is_absent ss streams order all published.queries sound in_order declared index within published.publish place s there at_number

    parts : take index order ++ get_or order index 0 ∷ drop (index + 1) order ≡ order
    parts = ap (λ xs. take index order ++ xs) (sym (drop_more order index 0 within)) ∙ take-append-drop index order

    -- its fault is the first one
    pub tells_query : (line : ℕ) (told : LoadFault) → slice_get lines place ≡ Some line → TellsBad (FailsOn line (FailsAsQuery all s)) told → TellsBad (FailsInQueries ss lines streams order) told
    tells_query line (Bad on why) on_line h = record {
      fault = h.fault;
      fails = subst (λ (xs : List ℕ). FailToPublish (queries_in ss) (query_lines ss lines) streams xs on h.fault) parts
          (fails_behind published.publish (query_lines ss lines) (get_or order index 0) (drop (index + 1) order) s on h.fault at_number
          (at_place lines (query_lines ss lines) places (get_or order index 0) place placed.lines_are at ∙ on_line ∙ ap Some (sym h.on_line)) h.is);
      same = h.same;
    }
    tells_query line (Cycle names) on_line h = h
    tells_query line Memory on_line h = tt

    -- it is published
    pub published-with : (new : List Entry) (x : Expr) (more : List Expr) → AddsQuery s all new (ex_of x) → more ≡ expressions ++ x ∷ [] → ArePublished ss streams (take (index + 1) order) new more
    published-with new x more adds put = record {
      queries = published.queries ++ query ∷ [];
      publish =
          subst (λ (xs : List ℕ). Publish (queries_in ss) streams (length ss) xs new (published.queries ++ query ∷ [])) (sym (take_more order index 0 within))
          (subst (λ (es : List Entry). Publish (queries_in ss) streams (length ss) (take index order ++ get_or order index 0 ∷ []) es (published.queries ++ query ∷ [])) (sym adds.added)
          (Publish-push published.publish (get_or order index 0) s adds.schema (ex_of x) at_number adds.typed));
      expressions_are =
          map-append (λ q. q.expr) published.queries (query ∷ []) ∙ ap (λ xs. xs ++ ex_of x ∷ []) published.expressions_are
          ∙ sym (map-append ex_of expressions (x ∷ [])) ∙ ap (map ex_of) (sym put);
    }
      where
        query : Query
        query = record { name = name_of s; stream = length all; hidden = chain_end published.queries (length ss); expr = ex_of x; birth = None }
