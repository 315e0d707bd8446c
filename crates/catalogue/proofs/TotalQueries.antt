-- Queries in their order publish, or the first of them that has a fault has it.
use Rattle.std.proofs.Common.{◌≡◌, ◌∙◌, ℕ, zero, suc, ◌+◌, ◌<◌, List, [], ◌∷◌, ◌++◌, true, false, length, take, drop, get_or, refl, sym, ap, subst, arith, take-append-drop}
use Rattle.std.specs.Prelude.{Some, slice_get, Contains, None}
use Rattle.std.specs.List.{All, items_where_true}
use Rattle.std.proofs.Math.Seq.{take-length}
use Rattle.std.proofs.lemmas.List.{drop_more, length-map, take_more}
use Rattle.std.proofs.lemmas.List.Elements.{All-contains, Contains-get_or}
use Rattle.std.proofs.lemmas.Option.{slice_get-get_or}
use Rattle.semantics.specs.Expressions.{Ex}
use Rattle.semantics.specs.Programs.{Query}
use Rattle.stream_schema.specs.Schema.{Attr}
use Rattle.stream_schema.specs.Streams.{Entry, stream_names}
use Rattle.cel_grammar.specs.Trees.{Statement}
use Rattle.cel_grammar.specs.Trees as tree
use Rattle.cel_types.specs.Statements.{FailsAsQuery, Queries, read_names}
use Rattle.resubscribe.specs.Laws.{HasEachOnce}
use Rattle.resubscribe.specs.Order.{IsOrder}
use Rattle.resubscribe.proofs.OrderLemmas.{HasEachOnce-order}
use Rattle.catalogue.specs.Arranging.{AreSound}
use Rattle.catalogue.specs.Reading.{numbers_of, reads_in}
use Rattle.catalogue.specs.Statements.{name_of, queries_in, query_names, reads_by}
use Rattle.splitter.specs.Chains.{chain_end}
use Rattle.catalogue.specs.Typing.{FileDeclares, FailToPublish, Publish, none, published_by, query_lines}
use Rattle.catalogue.proofs.PublishLemmas.{Publish-push, fails_behind}
use Rattle.catalogue.proofs.StandLemmas.{query_at_number, reads_stand}
use Rattle.catalogue.proofs.TotalDeclarations.{FileCase, fine, fault}
use Rattle.catalogue.proofs.TotalTypes.{Case, good, bad, query_case}

-- each query has a line
lines_long : (ss : List Statement) (lines : List ℕ) → length lines ≡ length ss → length (query_lines ss lines) ≡ length (queries_in ss)
lines_long [] lines same = no_lines lines
  where
    no_lines : (lines : List ℕ) → length (items_where_true [] lines) ≡ 0
    no_lines [] = refl
    no_lines (at ∷ lines) = refl
lines_long (s ∷ ss) [] same = absurd (omega arith)
lines_long (tree.Stream name columns ∷ ss) (at ∷ lines) same = lines_long ss lines (omega arith)
lines_long (tree.Query list e name ∷ ss) (at ∷ lines) same = ap suc (lines_long ss lines (omega arith))

-- each query stands in the file
query_place : (ss : List Statement) (number : ℕ) (s : Statement) → slice_get (queries_in ss) number ≡ Some s → (place : ℕ) × (slice_get ss place ≡ Some s)
query_place [] number s at = cc
query_place (tree.Stream name columns ∷ ss) number s at = let later = query_place ss number s at in (suc later.0, later.1)
query_place (tree.Query list e name ∷ ss) zero s at = (0, at)
query_place (tree.Query list e name ∷ ss) (suc number) s at = let later = query_place ss number s at in (suc later.0, later.1)

module _ (ss : List Statement) (lines : List ℕ) (streams : List Entry) (order : List ℕ) (sound : AreSound ss) (in_order : IsOrder (reads_in ss) order) (declared : FileDeclares ss streams) (lengths : length lines ≡ length ss) where
  abbrev PublishesSome : Type 0
  PublishesSome = (all : List Entry) × (published : List Query) × Publish (queries_in ss) streams (length ss) order all published

  abbrev Told : Type 0
  Told = FileCase PublishesSome (FailToPublish (queries_in ss) (query_lines ss lines) streams order)

  module _ (index : ℕ) (within : index < length order) where
    small : get_or order index 0 < length (queries_in ss)
    small =
        let once : HasEachOnce (reads_in ss) order = HasEachOnce-order (reads_in ss) order in_order in
        subst (λ (n : ℕ). get_or order index 0 < n) (length-map (queries_in ss) (λ query. numbers_of (query_names ss) (reads_by query))) ((once.all (get_or order index 0)).0 (Contains-get_or order index 0 within))

    parts : take index order ++ get_or order index 0 ∷ drop (index + 1) order ≡ order
    parts = ap (λ xs. take index order ++ xs) (sym (drop_more order index 0 within)) ∙ take-append-drop index order

    module _ (all : List Entry) (done : List Query) (publish : Publish (queries_in ss) streams (length ss) (take index order) all done) where
      typed_case : (s : Statement) → slice_get (queries_in ss) (get_or order index 0) ≡ Some s → Case ((schema : List Attr) × (x : Ex) × Queries all s schema x) (FailsAsQuery all s)
          → ((all : List Entry) (done : List Query) → Publish (queries_in ss) streams (length ss) (take (index + 1) order) all done → Told) → Told
      typed_case s at (good (schema, x, typed)) later =
          let query : Query = record { name = name_of s; stream = length all; hidden = chain_end done (length ss); expr = x; birth = None } in
          later (all ++ published_by s schema ∷ []) (done ++ query ∷ [])
          (subst (λ (xs : List ℕ). Publish (queries_in ss) streams (length ss) xs (all ++ published_by s schema ∷ []) (done ++ query ∷ [])) (sym (take_more order index 0 within))
          (Publish-push publish (get_or order index 0) s schema x at typed))
      typed_case s at (bad {f = f} tells fails) later =
          let inside : get_or order index 0 < length (query_lines ss lines) = subst (λ n. get_or order index 0 < n) (sym (lines_long ss lines lengths)) small in
          fault tells (subst (λ (xs : List ℕ). FailToPublish (queries_in ss) (query_lines ss lines) streams xs (get_or (query_lines ss lines) (get_or order index 0) 0) f) parts
          (fails_behind publish (query_lines ss lines) (get_or order index 0) (drop (index + 1) order) s (get_or (query_lines ss lines) (get_or order index 0) 0) f at (slice_get-get_or (query_lines ss lines) (get_or order index 0) 0 inside) fails))

      statement_case : (s : Statement) → slice_get (queries_in ss) (get_or order index 0) ≡ Some s → Case ((schema : List Attr) × (x : Ex) × Queries all s schema x) (FailsAsQuery all s)
      statement_case (tree.Stream name columns) at = let is : false ≡ true = query_at_number ss (get_or order index 0) (tree.Stream name columns) at in absurd cc
      statement_case (tree.Query list e name) at =
          let (place, there) = query_place ss (get_or order index 0) (tree.Query list e name) at in
          let stand : All (Contains (stream_names all)) (read_names e) = reads_stand ss streams order all done sound in_order declared index within publish place (tree.Query list e name) there at in
          query_case all list e name (λ n read. All-contains (Contains (stream_names all)) (read_names e) n stand read)

  -- by induction on how many queries are left
  publish_on : (left index : ℕ) → index + left ≡ length order → (all : List Entry) (done : List Query) → Publish (queries_in ss) streams (length ss) (take index order) all done → Told
  publish_on zero index sum all done publish =
      let last : index ≡ length order = omega arith in
      fine (all, done, subst (λ (xs : List ℕ). Publish (queries_in ss) streams (length ss) xs all done) (ap (λ n. take n order) last ∙ take-length order) publish)
  publish_on (suc left) index sum all done publish =
      let within : index < length order = omega arith in
      let at : slice_get (queries_in ss) (get_or order index 0) ≡ Some (get_or (queries_in ss) (get_or order index 0) (tree.Stream [] [])) = slice_get-get_or (queries_in ss) (get_or order index 0) (tree.Stream [] []) (small index within) in
      typed_case index within all done publish (get_or (queries_in ss) (get_or order index 0) (tree.Stream [] [])) at (statement_case index within all done publish (get_or (queries_in ss) (get_or order index 0) (tree.Stream [] [])) at)
      (λ more_streams more more_publish. publish_on left (index + 1) (omega arith) more_streams more more_publish)

  -- the queries are typed in their order, or the first that can't be has its fault
  pub publish_case : FileCase ((all : List Entry) × (published : List Query) × Publish (queries_in ss) streams (length ss) order all published) (FailToPublish (queries_in ss) (query_lines ss lines) streams order)
  publish_case = publish_on (length order) 0 (omega arith) streams [] none
