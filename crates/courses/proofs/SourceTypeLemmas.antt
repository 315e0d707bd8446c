-- The schema and the expression of a source that are computed are those of the rules, and so is its first fault.
use Rattle.std.proofs.Common.{◌≡◌, ◌∙◌, ℕ, ◌+◌, ◌<◌, true, false, List, [], ◌++◌, length, Ok, Err, Some, None, refl, nat_lt, arith}
use Rattle.std.specs.Prelude.{Contains, Option, Result, is_some, unwrap_or}
use Rattle.std.specs.Str.{bytes_eq}
use Rattle.std.proofs.lemmas.Bool.{cond_both, ltb-false, ltb-true}
use Rattle.std.proofs.lemmas.List.{length-map}
use Rattle.std.proofs.lemmas.List.Elements.{Contains-append_left, Contains-append_right}
use Rattle.std.proofs.lemmas.List.Quantifiers.{position-Some}
use Rattle.std.proofs.lemmas.Option.{slice_get-get_or}
use Rattle.semantics.specs.Expressions as ex
use Rattle.scalar_expr.specs.Canonical.{canonical}
use Rattle.stream_schema.specs.Joining.{joined_schema}
use Rattle.stream_schema.specs.Streams.{Entry, number_of, schemas_of, stream_names}
use Rattle.cel_grammar.specs.Trees.{Agg, Item, Pred, Source}
use Rattle.cel_grammar.specs.Trees as tree
use Rattle.cel_types.specs.declared.fault.TypeFault.{TypeFault}
use Rattle.cel_types.specs.declared.fault.TypeFault.TheVariants.{TooWide}
use Rattle.cel_types.specs.Aggregates.{Assign, FailToAssign}
use Rattle.cel_types.specs.Items.{FailToMake}
use Rattle.cel_types.specs.Predicates.{Fails, Means}
use Rattle.cel_types.specs.Scopes.{Alone, Iteration, Sequence}
use Rattle.cel_types.specs.Sources.{Elaborates, FailsToElaborate, over}
use Rattle.cel_types.specs.Sources as source
use Rattle.cel_types.specs.Statements.{read_names}
use Rattle.cel_types.specs.Unions.{difference_from}
use Rattle.catalogue.specs.Faults as told
use Rattle.catalogue.proofs.NameLemmas.{is_some-number_of}
use Rattle.catalogue.proofs.StandLemmas.{among-there}
use Rattle.courses.specs.AggregateTypes.{aggregates_type}
use Rattle.courses.specs.ConditionTypes.{condition_type}
use Rattle.courses.specs.FirstFault.{◌>>=◌}
use Rattle.courses.specs.ItemTypes.{Selected, items_type}
use Rattle.courses.specs.SourceTypes.{SourceType, fold_type, next_type, selection_type, source_type, stream_type, union_type}
use Rattle.courses.proofs.AggregateTypeLemmas.{aggregates-typed}
use Rattle.courses.proofs.ConditionTypeLemmas.{condition-typed}
use Rattle.courses.proofs.FoundLemmas.{IsFound, found-then}
use Rattle.courses.proofs.ItemTypeLemmas.{Makes, items-typed}

-- the source has this schema and this expression
abbrev pub Gives : List Entry → Source → SourceType → Type 0
Gives streams e found = Elaborates streams e found.schema found.expr

-- what is found of a source is so
abbrev pub IsTyped : List Entry → Source → Result SourceType TypeFault → Type 0
IsTyped streams e = IsFound (Gives streams e) (FailsToElaborate streams e)

-- a stream that is found has a number of the table
name-typed : (streams : List Entry) (a : List ℕ) (found : Option ℕ) → number_of a streams ≡ found → is_some found ≡ true → Gives streams (tree.Name a) (stream_type streams (unwrap_or found (length streams)))
name-typed streams a None is some = absurd cc
name-typed streams a (Some n) is some =
    let within : n < length streams = (position-Some (λ (s : Entry). bytes_eq a s.name) streams n (record { name = []; schema = []; declared = false }) is).0 in
    let inside : n < length (schemas_of streams) = rw (length-map streams (λ e. e.schema)) within in
    source.name is (slice_get-get_or (schemas_of streams) n [] inside)

module _ (streams : List Entry) where
  module _ (p : Pred) (e : Source) where
    filter-typed : IsTyped streams e (source_type streams e) → IsTyped streams (tree.Filter p e) (source_type streams (tree.Filter p e))
    filter-typed inner =
        found-then (Gives streams e) (FailsToElaborate streams e) (Gives streams (tree.Filter p e)) (FailsToElaborate streams (tree.Filter p e)) (source_type streams e) _ inner (λ why fails. source.filter_source fails)
        (λ one gives. found-then (Means (Alone one.schema) p) (Fails (Alone one.schema) p) (Gives streams (tree.Filter p e)) (FailsToElaborate streams (tree.Filter p e)) (condition_type (Alone one.schema) p) _ (condition-typed (Alone one.schema) p)
        (λ why fails. source.filter_condition gives fails) (λ u means. source.filter gives means))

  module _ (list : List Item) (e : Source) where
    abbrev GivesSelect : SourceType → Type 0
    GivesSelect = Gives streams (tree.Select list e)

    abbrev FailsSelect : TypeFault → Type 0
    FailsSelect = FailsToElaborate streams (tree.Select list e)

    selection-typed : (one : SourceType) (made : Selected) → Gives streams e one → Makes one.schema [] list made → IsFound GivesSelect FailsSelect (selection_type one made)
    selection-typed one made gives makes =
        cond_both (nat_lt 256 (length made.attributes)) (Err (TooWide (length made.attributes))) (Ok (record { schema = made.attributes; expr = ex.Select (over one.schema made.terms) one.expr })) (IsFound GivesSelect FailsSelect)
        (λ wide. (source.select_wide gives makes (ltb-true 256 (length made.attributes) wide), told.wide))
        (λ narrow. source.select gives makes (ltb-false 256 (length made.attributes) narrow))

    select-typed : IsTyped streams e (source_type streams e) → IsTyped streams (tree.Select list e) (source_type streams (tree.Select list e))
    select-typed inner =
        found-then (Gives streams e) (FailsToElaborate streams e) GivesSelect FailsSelect (source_type streams e) _ inner (λ why fails. source.select_source fails)
        (λ one gives. found-then (Makes one.schema [] list) (FailToMake one.schema [] list) GivesSelect FailsSelect (items_type one.schema [] list) _ (items-typed one.schema [] list)
        (λ why fails. source.select_items gives fails) (λ made makes. selection-typed one made gives makes))

  -- two sources, one behind the other
  both-typed : (e f made : Source) (find : SourceType → SourceType → Result SourceType TypeFault) → IsTyped streams e (source_type streams e) → IsTyped streams f (source_type streams f)
      → ((why : TypeFault) → FailsToElaborate streams e why → FailsToElaborate streams made why)
      → ((left : SourceType) → Gives streams e left → (why : TypeFault) → FailsToElaborate streams f why → FailsToElaborate streams made why)
      → ((left right : SourceType) → Gives streams e left → Gives streams f right → IsTyped streams made (find left right))
      → IsTyped streams made (source_type streams e >>= λ left. source_type streams f >>= λ right. find left right)
  both-typed e f made find first second by_left by_right by_both =
      found-then (Gives streams e) (FailsToElaborate streams e) (Gives streams made) (FailsToElaborate streams made) (source_type streams e) _ first by_left
      (λ left gives. found-then (Gives streams f) (FailsToElaborate streams f) (Gives streams made) (FailsToElaborate streams made) (source_type streams f) _ second (by_right left gives)
      (λ right others. by_both left right gives others))

  union-differs : (e f : Source) (left right : SourceType) → Gives streams e left → Gives streams f right → (found : Option ℕ) → difference_from 1 left.schema right.schema ≡ found → IsTyped streams (tree.Union e f) (union_type left right found)
  union-differs e f left right gives others (Some place) is = (source.union_schemas gives others is, told.union)
  union-differs e f left right gives others None is = source.union gives others is

  next-both : (p : Pred) (e f : Source) (left right : SourceType) → Gives streams e left → Gives streams f right → IsTyped streams (tree.Next p e f) (next_type p left right)
  next-both p e f left right gives others =
      cond_both (nat_lt 256 (length left.schema + length right.schema)) (Err (TooWide (length left.schema + length right.schema)))
      (condition_type (Sequence left.schema right.schema) p >>= λ u. Ok (record { schema = joined_schema left.schema right.schema; expr = ex.Next (canonical u) left.expr right.expr })) (IsTyped streams (tree.Next p e f))
      (λ wide. (source.next_wide gives others (ltb-true 256 (length left.schema + length right.schema) wide), told.wide))
      (λ narrow.
      let few = ltb-false 256 (length left.schema + length right.schema) narrow in
      found-then (Means (Sequence left.schema right.schema) p) (Fails (Sequence left.schema right.schema) p) (Gives streams (tree.Next p e f)) (FailsToElaborate streams (tree.Next p e f)) (condition_type (Sequence left.schema right.schema) p) _
      (condition-typed (Sequence left.schema right.schema) p) (λ why fails. source.next_condition gives others few fails) (λ u means. source.next gives others few means))

  fold-both : (p q : Pred) (list : List Agg) (e f : Source) (left right : SourceType) → Gives streams e left → Gives streams f right → IsTyped streams (tree.Fold p q list e f) (fold_type p q list left right)
  fold-both p q list e f left right gives others =
      let scope = Iteration left.schema right.schema in
      found-then (Means scope p) (Fails scope p) (Gives streams (tree.Fold p q list e f)) (FailsToElaborate streams (tree.Fold p q list e f)) (condition_type scope p) _ (condition-typed scope p) (λ why fails. source.fold_choose gives others fails)
      (λ u means. found-then (Means scope q) (Fails scope q) (Gives streams (tree.Fold p q list e f)) (FailsToElaborate streams (tree.Fold p q list e f)) (condition_type scope q) _ (condition-typed scope q) (λ why fails. source.fold_on gives others means fails)
      (λ v means_too. found-then (Assign left.schema right.schema [] list) (FailToAssign left.schema right.schema [] list) (Gives streams (tree.Fold p q list e f)) (FailsToElaborate streams (tree.Fold p q list e f)) (aggregates_type left.schema right.schema [] list) _
      (aggregates-typed left.schema right.schema [] list) (λ why fails. source.fold_sets gives others means means_too fails) (λ sets assigns. source.fold gives others means means_too assigns)))

-- each name that is read is that of a stream
abbrev Stand : List Entry → List (List ℕ) → Type 0
Stand streams names = (name : List ℕ) → Contains names name → Contains (stream_names streams) name

stand-left : (streams : List Entry) (xs ys : List (List ℕ)) → Stand streams (xs ++ ys) → Stand streams xs
stand-left streams xs ys stand name there = stand name (Contains-append_left xs ys name there)

stand-right : (streams : List Entry) (xs ys : List (List ℕ)) → Stand streams (xs ++ ys) → Stand streams ys
stand-right streams xs ys stand name there = stand name (Contains-append_right xs ys name there)

-- by induction on the source
pub source-typed : (streams : List Entry) (e : Source) → ((name : List ℕ) → Contains (read_names e) name → Contains (stream_names streams) name) → IsFound (Gives streams e) (FailsToElaborate streams e) (source_type streams e)
source-typed streams (tree.Name a) stand = name-typed streams a (number_of a streams) refl (is_some-number_of a streams ∙ among-there (stream_names streams) a (stand a (0, omega arith, refl)))
source-typed streams (tree.Filter p e) stand = filter-typed streams p e (source-typed streams e stand)
source-typed streams (tree.Select list e) stand = select-typed streams list e (source-typed streams e stand)
source-typed streams (tree.Union e f) stand =
    both-typed streams e f (tree.Union e f) (λ left right. union_type left right (difference_from 1 left.schema right.schema))
    (source-typed streams e (stand-left streams (read_names e) (read_names f) stand)) (source-typed streams f (stand-right streams (read_names e) (read_names f) stand))
    (λ why fails. source.union_left fails) (λ left gives why fails. source.union_right gives fails)
    (λ left right gives others. union-differs streams e f left right gives others (difference_from 1 left.schema right.schema) refl)
source-typed streams (tree.Next p e f) stand =
    both-typed streams e f (tree.Next p e f) (next_type p)
    (source-typed streams e (stand-left streams (read_names e) (read_names f) stand)) (source-typed streams f (stand-right streams (read_names e) (read_names f) stand))
    (λ why fails. source.next_left fails) (λ left gives why fails. source.next_right gives fails) (next-both streams p e f)
source-typed streams (tree.Fold p q list e f) stand =
    both-typed streams e f (tree.Fold p q list e f) (fold_type p q list)
    (source-typed streams e (stand-left streams (read_names e) (read_names f) stand)) (source-typed streams f (stand-right streams (read_names e) (read_names f) stand))
    (λ why fails. source.fold_left fails) (λ left gives why fails. source.fold_right gives fails) (fold-both streams p q list e f)
