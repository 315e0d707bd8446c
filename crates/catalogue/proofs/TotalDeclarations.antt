-- Declarations have schemas, or the first of them that has a fault has it.
use Rattle.std.proofs.Common.{◌≡◌, ◌≢◌, ◌∙◌, ℕ, ◌≤◌, List, [], ◌∷◌, ◌++◌, true, false, length, refl, sym, subst, inl, inr, arith, append_assoc}
use Rattle.std.specs.Prelude.{AllPairs, Contains}
use Rattle.std.proofs.lemmas.Bool.{cases_Bool, cases_lt}
use Rattle.std.proofs.lemmas.List.{append-nil, length-map, map-append}
use Rattle.std.proofs.lemmas.List.Elements.{Contains-get_or}
use Rattle.std.proofs.lemmas.List.Quantifiers.{all_pairs_push}
use Rattle.stream_schema.specs.Schema.{Attr, names_of}
use Rattle.stream_schema.specs.Streams.{Entry}
use Rattle.cel_grammar.specs.Trees.{Column, Item, Source, Statement}
use Rattle.cel_grammar.specs.Trees as tree
use Rattle.cel_types.specs.declared.fault.TypeFault.{TypeFault}
use Rattle.cel_types.specs.Aggregates.{is_among}
use Rattle.cel_types.specs.Declarations.{AreDistinct, FailsToDeclare, IsDeclared, attr_of, attrs_of, twice, wide}
use Rattle.catalogue.specs.declared.fault.QueryFault.{QueryFault}
use Rattle.catalogue.specs.Faults.{IsOfTypes}
use Rattle.catalogue.specs.Faults as told
use Rattle.catalogue.specs.Typing.{FileDeclares, FileFailsToDeclare}
use Rattle.catalogue.specs.Typing as typing
use Rattle.catalogue.proofs.StandLemmas.{among-there, stands-from}
use Rattle.catalogue.proofs.TotalTypes.{Case, good, bad}

-- one more attribute with a new name
distinct_more : (before : List Attr) (attr : Attr) → AreDistinct before → is_among (names_of before) attr.name ≡ false → AreDistinct (before ++ attr ∷ [])
distinct_more before attr distinct new =
    subst (AllPairs (λ x y. x ≢ y)) (sym (map-append (λ (a : Attr). a.name) before (attr ∷ [])))
    (all_pairs_push (λ x y. x ≢ y) (names_of before) attr.name distinct
    (λ k d within same. let there : is_among (names_of before) attr.name ≡ true = among-there (names_of before) attr.name (subst (Contains (names_of before)) same (Contains-get_or (names_of before) k d within)) in cc))

-- by induction on the attributes that are left
twice_case : (columns : List Column) (before after : List Attr) → attrs_of columns ≡ before ++ after → AreDistinct before → Case (AreDistinct (attrs_of columns)) (FailsToDeclare columns)
twice_case columns before [] is distinct = good (subst AreDistinct (sym (is ∙ append-nil before)) distinct)
twice_case columns before (attr ∷ after) is distinct = elim (cases_Bool (is_among (names_of before) attr.name)) [
  | inl there ↦ bad told.twice (twice before after attr is distinct (stands-from (names_of before) attr.name there))
  | inr new ↦ twice_case columns (before ++ attr ∷ []) after (is ∙ sym (append_assoc before (attr ∷ []) after)) (distinct_more before attr distinct new)
]

width_case : (columns : List Column) → Case (AreDistinct (attrs_of columns)) (FailsToDeclare columns) → Case ((schema : List Attr) × IsDeclared columns schema) (FailsToDeclare columns)
width_case columns (bad tells fails) = bad tells fails
width_case columns (good distinct) = elim (cases_lt 256 (length columns)) [
  | inl too_wide ↦ bad told.wide (wide distinct too_wide)
  | inr narrow ↦ good (attrs_of columns, record { value = refl; is_schema = record { distinct = distinct; narrow = subst (λ n. n ≤ 256) (sym (length-map columns attr_of)) narrow } })
]

none_apart : AreDistinct []
none_apart i j d before within = absurd (omega arith)

-- a declaration has a schema, or a fault
declaration_case : (columns : List Column) → Case ((schema : List Attr) × IsDeclared columns schema) (FailsToDeclare columns)
declaration_case columns = width_case columns (twice_case columns [] (attrs_of columns) refl none_apart)

-- a file has what is wanted, or a fault on a line that can be told
pub data FileCase (Good : Type 0) (Bad : ℕ → TypeFault → Type 0) : Type 0 where
  fine : Good → FileCase Good Bad
  fault : {line : ℕ} {f : TypeFault} {why : QueryFault} → IsOfTypes f why → Bad line f → FileCase Good Bad

stream_case : (name : List ℕ) (columns : List Column) (ss : List Statement) (at : ℕ) (lines : List ℕ) → Case ((schema : List Attr) × IsDeclared columns schema) (FailsToDeclare columns)
    → FileCase ((streams : List Entry) × FileDeclares ss streams) (FileFailsToDeclare ss lines) → FileCase ((streams : List Entry) × FileDeclares (tree.Stream name columns ∷ ss) streams) (FileFailsToDeclare (tree.Stream name columns ∷ ss) (at ∷ lines))
stream_case name columns ss at lines (bad tells fails) later = fault tells (typing.here fails)
stream_case name columns ss at lines (good (schema, is)) (fine (streams, declares)) = fine (_, typing.stream is declares)
stream_case name columns ss at lines (good (schema, is)) (fault tells fails) = fault tells (typing.behind is fails)

no_stream_case : (list : List Item) (e : Source) (name : List ℕ) (ss : List Statement) (at : ℕ) (lines : List ℕ)
    → FileCase ((streams : List Entry) × FileDeclares ss streams) (FileFailsToDeclare ss lines) → FileCase ((streams : List Entry) × FileDeclares (tree.Query list e name ∷ ss) streams) (FileFailsToDeclare (tree.Query list e name ∷ ss) (at ∷ lines))
no_stream_case list e name ss at lines (fine (streams, declares)) = fine (_, typing.query declares)
no_stream_case list e name ss at lines (fault tells fails) = fault tells (typing.query fails)

-- statements declare streams, or have a first fault: by induction on them
pub declare_case : (ss : List Statement) (lines : List ℕ) → length lines ≡ length ss → FileCase ((streams : List Entry) × FileDeclares ss streams) (FileFailsToDeclare ss lines)
declare_case [] lines same = fine (_, typing.none)
declare_case (s ∷ ss) [] same = absurd (omega arith)
declare_case (tree.Stream name columns ∷ ss) (at ∷ lines) same = stream_case name columns ss at lines (declaration_case columns) (declare_case ss lines (omega arith))
declare_case (tree.Query list e name ∷ ss) (at ∷ lines) same = no_stream_case list e name ss at lines (declare_case ss lines (omega arith))
