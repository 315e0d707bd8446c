-- Each query over streams that it reads has a schema and an expression, or a first fault: by a search along its tree.
use Rattle.std.proofs.Common.{◌≡◌, ◌≢◌, ◌∙◌, ◌⊎◌, ◌==◌, ℕ, ◌+◌, ◌<◌, ◌≤◌, List, [], ◌∷◌, ◌++◌, Bool, true, false, length, get_or, refl, sym, ap, subst, inl, inr, eqb-true, arith}
use Rattle.std.specs.Prelude.{Option, Some, None, Contains, is_some}
use Rattle.std.specs.Str.{bytes_eq}
use Rattle.std.proofs.lemmas.Bool.{cases_lt, eq-eqb}
use Rattle.std.proofs.lemmas.List.{length-map}
use Rattle.std.proofs.lemmas.List.Elements.{Contains-append_left, Contains-append_right}
use Rattle.std.proofs.lemmas.List.Quantifiers.{position-Some}
use Rattle.std.proofs.lemmas.Option.{slice_get-get_or}
use Rattle.event_types.specs.declared.kind.Kind.{Kind}
use Rattle.event_types.specs.declared.kind.Kind.TheVariants as kind
use Rattle.semantics.specs.Expressions.{Ex}
use Rattle.semantics.specs.OpKinds.{op_kind}
use Rattle.semantics.specs.Scalars.{Sc, Pr, Binding}
use Rattle.stream_schema.specs.Joining.{is_taken}
use Rattle.stream_schema.specs.Schema.{Attr, kinds_of, place_of}
use Rattle.stream_schema.specs.Streams.{Entry, number_of, schemas_of, stream_names}
use Rattle.event_types.specs.declared.comparison.Cmp.{Cmp}
use Rattle.cel_grammar.specs.declared.mark.Mark.{Mark}
use Rattle.cel_grammar.specs.Trees.{Scalar, Pred, Item, Agg, Source, Op}
use Rattle.cel_grammar.specs.Trees as tree
use Rattle.cel_types.specs.declared.fault.TypeFault.{TypeFault}
use Rattle.cel_types.specs.Aggregates.{Assign, Assignment, FailToAssign, IsAttributeAt, is_among}
use Rattle.cel_types.specs.Aggregates as aggs
use Rattle.cel_types.specs.Items.{FailToMake, Make, attr, names_there}
use Rattle.cel_types.specs.Items as items
use Rattle.cel_types.specs.Predicates.{Fails, Means}
use Rattle.cel_types.specs.Predicates as pred
use Rattle.cel_types.specs.Scalars.{HasFault, IsOf, kinds_fault, op_of, product_fault}
use Rattle.cel_types.specs.Scalars as scalar
use Rattle.cel_types.specs.Scopes.{Alone, Iteration, Scope, Sequence, Typed, at_place, attribute}
use Rattle.cel_types.specs.Sources.{FailsToElaborate, Elaborates}
use Rattle.cel_types.specs.Sources as source
use Rattle.cel_types.specs.Statements.{FailsAsQuery, Queries, read_names}
use Rattle.cel_types.specs.Unions.{difference_from}
use Rattle.catalogue.specs.declared.fault.QueryFault.{QueryFault}
use Rattle.catalogue.specs.Faults.{IsOfTypes}
use Rattle.catalogue.specs.Faults as told
use Rattle.catalogue.proofs.NameLemmas.{is_some-number_of}
use Rattle.catalogue.proofs.StandLemmas.{among-there}

-- it has what is wanted, or a fault that can be told
pub data Case (Good : Type 0) (Bad : TypeFault → Type 0) : Type 0 where
  good : Good → Case Good Bad
  bad : {f : TypeFault} {why : QueryFault} → IsOfTypes f why → Bad f → Case Good Bad

-- the fault can be told
abbrev Told : TypeFault → Type 0
Told f = (why : QueryFault) × IsOfTypes f why

-- a stream's number is that of the table
number-within : (streams : List Entry) (a : List ℕ) (n : ℕ) → number_of a streams ≡ Some n → n < length streams
number-within streams a n is = (position-Some (λ (s : Entry). bytes_eq a s.name) streams n (record { name = []; schema = []; declared = false }) is).0

-- the places of a kind of decimals
abbrev places : Kind → ℕ
places (kind.Dec n) = n
places k = 0

dec_or_not : (m n : ℕ) (b : Bool) → (m == n) ≡ b → (kind.Dec m ≡ kind.Dec n) ⊎ (kind.Dec m ≢ kind.Dec n)
dec_or_not m n true e = inl (ap kind.Dec (eqb-true m n e))
dec_or_not m n false e = inr (λ same. let yes : (m == n) ≡ true = eq-eqb m n (ap places same) in cc)

-- two kinds are one or not
same_or_not : (k l : Kind) → (k ≡ l) ⊎ (k ≢ l)
same_or_not kind.Int kind.Int = inl refl
same_or_not kind.Text kind.Text = inl refl
same_or_not (kind.Dec m) (kind.Dec n) = dec_or_not m n (m == n) refl
same_or_not kind.Int kind.Text = inr (λ e. cc)
same_or_not kind.Int (kind.Dec n) = inr (λ e. cc)
same_or_not kind.Text kind.Int = inr (λ e. cc)
same_or_not kind.Text (kind.Dec n) = inr (λ e. cc)
same_or_not (kind.Dec m) kind.Int = inr (λ e. cc)
same_or_not (kind.Dec m) kind.Text = inr (λ e. cc)

attribute_case : (scope : Scope) (m : Mark) (a : List ℕ) (found : Option Typed) → attribute scope m a ≡ found → Case ((s : Sc) × (k : Kind) × IsOf scope (tree.Attr m a) s k) (HasFault scope (tree.Attr m a))
attribute_case scope m a (Some one) is = good (one.term, one.kind, scalar.attr is)
attribute_case scope m a None is = bad told.unknown (scalar.unknown is)

-- the fault of the kinds of operands can be told
product_told : (k l : Kind) → Told (product_fault k l)
product_told (kind.Dec m) (kind.Dec n) = (_, told.fine)
product_told (kind.Dec m) kind.Int = (_, told.kinds)
product_told (kind.Dec m) kind.Text = (_, told.kinds)
product_told kind.Int l = (_, told.kinds)
product_told kind.Text l = (_, told.kinds)

kinds_told : (o : Op) (k l : Kind) → Told (kinds_fault o k l)
kinds_told tree.Mul k l = product_told k l
kinds_told o k l = (_, told.kinds)

-- operands of these kinds have a kind together, or a fault
pair_case : (scope : Scope) (o : Op) (x y : Scalar) (s t : Sc) (k l : Kind) (found : Option Kind) → IsOf scope x s k → k ≢ kind.Text → IsOf scope y t l → op_kind (op_of o) k l ≡ found → Case ((u : Sc) × (m : Kind) × IsOf scope (tree.Two o x y) u m) (HasFault scope (tree.Two o x y))
pair_case scope o x y s t k l (Some m) left number right is = good (_, m, scalar.two left right is)
pair_case scope o x y s t k l None left number right is = let (why, tells) = kinds_told o k l in bad tells (scalar.kinds left number right is)

right_case : (scope : Scope) (o : Op) (x y : Scalar) (s : Sc) (k : Kind) → IsOf scope x s k → k ≢ kind.Text → Case ((t : Sc) × (l : Kind) × IsOf scope y t l) (HasFault scope y) → Case ((u : Sc) × (m : Kind) × IsOf scope (tree.Two o x y) u m) (HasFault scope (tree.Two o x y))
right_case scope o x y s k left number (good (t, l, right)) = pair_case scope o x y s t k l (op_kind (op_of o) k l) left number right refl
right_case scope o x y s k left number (bad tells fails) = bad tells (scalar.right left number fails)

two_case : (scope : Scope) (o : Op) (x y : Scalar) → Case ((s : Sc) × (k : Kind) × IsOf scope x s k) (HasFault scope x) → Case ((t : Sc) × (l : Kind) × IsOf scope y t l) (HasFault scope y) → Case ((u : Sc) × (k : Kind) × IsOf scope (tree.Two o x y) u k) (HasFault scope (tree.Two o x y))
two_case scope o x y (good (s, k, left)) right = by_kind (same_or_not k kind.Text)
  where
    by_kind : (k ≡ kind.Text) ⊎ (k ≢ kind.Text) → Case ((u : Sc) × (l : Kind) × IsOf scope (tree.Two o x y) u l) (HasFault scope (tree.Two o x y))
    by_kind (inl e) = bad told.kinds (scalar.left_text (subst (λ l. IsOf scope x s l) e left))
    by_kind (inr number) = right_case scope o x y s k left number right
two_case scope o x y (bad tells fails) right = bad tells (scalar.left fails)

-- a scalar has a term of a kind, or a fault
scalar_case : (scope : Scope) (x : Scalar) → Case ((s : Sc) × (k : Kind) × IsOf scope x s k) (HasFault scope x)
scalar_case scope (tree.Number n) = good (_, _, scalar.number)
scalar_case scope (tree.Quoted t) = good (_, _, scalar.quoted)
scalar_case scope (tree.Attr m a) = attribute_case scope m a (attribute scope m a) refl
scalar_case scope tree.Dur = good (_, _, scalar.dur)
scalar_case scope (tree.Decimal scale units) = good (_, _, scalar.decimal)
scalar_case scope (tree.Two o x y) = two_case scope o x y (scalar_case scope x) (scalar_case scope y)

test_case : (scope : Scope) (x y : Scalar) (c : Cmp) → Case ((s : Sc) × (k : Kind) × IsOf scope x s k) (HasFault scope x) → Case ((t : Sc) × (l : Kind) × IsOf scope y t l) (HasFault scope y) → Case ((u : Pr) × Means scope (tree.Test x c y) u) (Fails scope (tree.Test x c y))
test_case scope x y c (bad tells fails) right = bad tells (pred.test_left fails)
test_case scope x y c (good (s, k, left)) (bad tells fails) = bad tells (pred.test_right left fails)
test_case scope x y c (good (s, k, left)) (good (t, l, right)) = by_kind (same_or_not k l)
  where
    by_kind : (k ≡ l) ⊎ (k ≢ l) → Case ((u : Pr) × Means scope (tree.Test x c y) u) (Fails scope (tree.Test x c y))
    by_kind (inl e) = good (_, pred.test (subst (λ j. IsOf scope x s j) e left) right)
    by_kind (inr other) = bad told.kinds (pred.test_kinds left right other)

and_case : (scope : Scope) (p q : Pred) → Case ((u : Pr) × Means scope p u) (Fails scope p) → Case ((u : Pr) × Means scope q u) (Fails scope q) → Case ((u : Pr) × Means scope (tree.And p q) u) (Fails scope (tree.And p q))
and_case scope p q (bad tells fails) right = bad tells (pred.and_left fails)
and_case scope p q (good (u, left)) (bad tells fails) = bad tells (pred.and_right left fails)
and_case scope p q (good (u, left)) (good (v, right)) = good (_, pred.and left right)

or_case : (scope : Scope) (p q : Pred) → Case ((u : Pr) × Means scope p u) (Fails scope p) → Case ((u : Pr) × Means scope q u) (Fails scope q) → Case ((u : Pr) × Means scope (tree.Or p q) u) (Fails scope (tree.Or p q))
or_case scope p q (bad tells fails) right = bad tells (pred.or_left fails)
or_case scope p q (good (u, left)) (bad tells fails) = bad tells (pred.or_right left fails)
or_case scope p q (good (u, left)) (good (v, right)) = good (_, pred.or left right)

not_case : (scope : Scope) (p : Pred) → Case ((u : Pr) × Means scope p u) (Fails scope p) → Case ((u : Pr) × Means scope (tree.Not p) u) (Fails scope (tree.Not p))
not_case scope p (bad tells fails) = bad tells (pred.denied fails)
not_case scope p (good (u, means)) = good (_, pred.not means)

-- a predicate has a meaning, or a fault
predicate_case : (scope : Scope) (p : Pred) → Case ((u : Pr) × Means scope p u) (Fails scope p)
predicate_case scope tree.True = good (_, pred.true)
predicate_case scope (tree.Test x c y) = test_case scope x y c (scalar_case scope x) (scalar_case scope y)
predicate_case scope (tree.And p q) = and_case scope p q (predicate_case scope p) (predicate_case scope q)
predicate_case scope (tree.Or p q) = or_case scope p q (predicate_case scope p) (predicate_case scope q)
predicate_case scope (tree.Not p) = not_case scope p (predicate_case scope p)

abbrev MakesSome : List Attr → List Attr → List Item → Type 0
MakesSome schema made list = (more : List Attr) × (terms : List Sc) × Make schema made list more terms

all_case : (schema made : List Attr) (list : List Item) (names : List (List ℕ)) → names_there made schema ≡ names → Case (MakesSome schema (made ++ schema) list) (FailToMake schema (made ++ schema) list) → Case (MakesSome schema made (tree.All ∷ list)) (FailToMake schema made (tree.All ∷ list))
all_case schema made list (a ∷ names) is later = bad told.twice (items.all_there is)
all_case schema made list [] is (good (more, terms, makes)) = good (_, _, items.all is makes)
all_case schema made list [] is (bad tells fails) = bad tells (items.all_then is fails)

named_case : (schema made : List Attr) (list : List Item) (x : Scalar) (a : List ℕ) (s : Sc) (k : Kind) (taken : Bool) → IsOf (Alone schema) x s k → is_taken made a ≡ taken
    → Case (MakesSome schema (made ++ attr a k ∷ []) list) (FailToMake schema (made ++ attr a k ∷ []) list) → Case (MakesSome schema made (tree.Named x a ∷ list)) (FailToMake schema made (tree.Named x a ∷ list))
named_case schema made list x a s k true is taken later = bad told.twice (items.there is taken)
named_case schema made list x a s k false is free (good (more, terms, makes)) = good (_, _, items.named is free makes)
named_case schema made list x a s k false is free (bad tells fails) = bad tells (items.named_then is free fails)

scalar_item_case : (schema made : List Attr) (list : List Item) (x : Scalar) (a : List ℕ) → Case ((s : Sc) × (k : Kind) × IsOf (Alone schema) x s k) (HasFault (Alone schema) x)
    → ((k : Kind) → Case (MakesSome schema (made ++ attr a k ∷ []) list) (FailToMake schema (made ++ attr a k ∷ []) list)) → Case (MakesSome schema made (tree.Named x a ∷ list)) (FailToMake schema made (tree.Named x a ∷ list))
scalar_item_case schema made list x a (bad tells fails) later = bad tells (items.scalar fails)
scalar_item_case schema made list x a (good (s, k, is)) later = named_case schema made list x a s k (is_taken made a) is refl (later k)

-- items make attributes, or have a fault
make_case : (schema made : List Attr) (list : List Item) → Case (MakesSome schema made list) (FailToMake schema made list)
make_case schema made [] = good (_, _, items.none)
make_case schema made (tree.All ∷ list) = all_case schema made list (names_there made schema) refl (make_case schema (made ++ schema) list)
make_case schema made (tree.Named x a ∷ list) = scalar_item_case schema made list x a (scalar_case (Alone schema) x) (λ k. make_case schema (made ++ attr a k ∷ []) list)

abbrev AssignsSome : List Attr → List Attr → List (List ℕ) → List Agg → Type 0
AssignsSome binding event names list = (assignments : List Assignment) × Assign binding event names list assignments

kinds_case : (binding event : List Attr) (names : List (List ℕ)) (list : List Agg) (x : Scalar) (a : List ℕ) (place : ℕ) (k l : Kind) (s : Sc) → IsAttributeAt binding a place k → is_among names a ≡ false → IsOf (Iteration binding event) x s l
    → Case (AssignsSome binding event (names ++ a ∷ []) list) (FailToAssign binding event (names ++ a ∷ []) list) → Case (AssignsSome binding event names (tree.Set x a ∷ list)) (FailToAssign binding event names (tree.Set x a ∷ list))
kinds_case binding event names list x a place k l s at new is later = by_kind (same_or_not k l) later
  where
    by_kind : (k ≡ l) ⊎ (k ≢ l) → Case (AssignsSome binding event (names ++ a ∷ []) list) (FailToAssign binding event (names ++ a ∷ []) list) → Case (AssignsSome binding event names (tree.Set x a ∷ list)) (FailToAssign binding event names (tree.Set x a ∷ list))
    by_kind (inr other) later = bad told.kinds (aggs.kinds at new is other)
    by_kind (inl e) (good (more, assigns)) = good (_, aggs.set at new (subst (λ j. IsOf (Iteration binding event) x s j) (sym e) is) assigns)
    by_kind (inl e) (bad tells fails) = bad tells (aggs.then at new (subst (λ j. IsOf (Iteration binding event) x s j) (sym e) is) fails)

set_case : (binding event : List Attr) (names : List (List ℕ)) (list : List Agg) (x : Scalar) (a : List ℕ) (found : Option ℕ) (there : Bool) → place_of a binding ≡ found → is_among names a ≡ there
    → Case ((s : Sc) × (k : Kind) × IsOf (Iteration binding event) x s k) (HasFault (Iteration binding event) x)
    → Case (AssignsSome binding event (names ++ a ∷ []) list) (FailToAssign binding event (names ++ a ∷ []) list) → Case (AssignsSome binding event names (tree.Set x a ∷ list)) (FailToAssign binding event names (tree.Set x a ∷ list))
set_case binding event names list x a None there is among scalar later = bad told.absent (aggs.absent is)
set_case binding event names list x a (Some place) true is among scalar later = bad told.twice (aggs.twice (ap (at_place Binding binding) is) among)
set_case binding event names list x a (Some place) false is among (bad tells fails) later = bad tells (aggs.scalar (ap (at_place Binding binding) is) among fails)
set_case binding event names list x a (Some place) false is among (good (s, l, typed)) later =
    kinds_case binding event names list x a place (get_or (kinds_of binding) place kind.Int) l s (ap (at_place Binding binding) is) among typed later

-- aggregates assign, or have a fault
assign_case : (binding event : List Attr) (names : List (List ℕ)) (list : List Agg) → Case (AssignsSome binding event names list) (FailToAssign binding event names list)
assign_case binding event names [] = good (_, aggs.none)
assign_case binding event names (tree.Set x a ∷ list) =
    set_case binding event names list x a (place_of a binding) (is_among names a) refl refl (scalar_case (Iteration binding event) x) (assign_case binding event (names ++ a ∷ []) list)

abbrev GivesSome : List Entry → Source → Type 0
GivesSome streams e = (schema : List Attr) × (x : Ex) × Elaborates streams e schema x

name_case : (streams : List Entry) (a : List ℕ) (found : Option ℕ) → number_of a streams ≡ found → is_some found ≡ true → Case (GivesSome streams (tree.Name a)) (FailsToElaborate streams (tree.Name a))
name_case streams a None is some = absurd cc
name_case streams a (Some n) is some =
    let within : n < length streams = number-within streams a n is in
    let inside : n < length (schemas_of streams) = rw (length-map streams (λ e. e.schema)) within in
    good (_, _, source.name is (slice_get-get_or (schemas_of streams) n [] inside))

filter_case : (streams : List Entry) (p : Pred) (e : Source) → Case (GivesSome streams e) (FailsToElaborate streams e) → Case (GivesSome streams (tree.Filter p e)) (FailsToElaborate streams (tree.Filter p e))
filter_case streams p e (bad tells fails) = bad tells (source.filter_source fails)
filter_case streams p e (good (schema, x, gives)) = with_condition (predicate_case (Alone schema) p)
  where
    with_condition : Case ((u : Pr) × Means (Alone schema) p u) (Fails (Alone schema) p) → Case (GivesSome streams (tree.Filter p e)) (FailsToElaborate streams (tree.Filter p e))
    with_condition (bad tells fails) = bad tells (source.filter_condition gives fails)
    with_condition (good (u, means)) = good (_, _, source.filter gives means)

select_case : (streams : List Entry) (list : List Item) (e : Source) → Case (GivesSome streams e) (FailsToElaborate streams e) → Case (GivesSome streams (tree.Select list e)) (FailsToElaborate streams (tree.Select list e))
select_case streams list e (bad tells fails) = bad tells (source.select_source fails)
select_case streams list e (good (schema, x, gives)) = with_items (make_case schema [] list)
  where
    with_items : Case (MakesSome schema [] list) (FailToMake schema [] list) → Case (GivesSome streams (tree.Select list e)) (FailsToElaborate streams (tree.Select list e))
    with_items (bad tells fails) = bad tells (source.select_items gives fails)
    with_items (good (made, terms, makes)) = elim (cases_lt 256 (length made)) [
      | inl wide ↦ bad told.wide (source.select_wide gives makes wide)
      | inr narrow ↦ good (_, _, source.select gives makes narrow)
    ]

schemas_case : (streams : List Entry) (e g : Source) (left right : List Attr) (x y : Ex) (found : Option ℕ) → difference_from 1 left right ≡ found → Elaborates streams e left x → Elaborates streams g right y → Case (GivesSome streams (tree.Union e g)) (FailsToElaborate streams (tree.Union e g))
schemas_case streams e g left right x y (Some place) is gives others = bad told.union (source.union_schemas gives others is)
schemas_case streams e g left right x y None is gives others = good (_, _, source.union gives others is)

union_case : (streams : List Entry) (e g : Source) → Case (GivesSome streams e) (FailsToElaborate streams e) → Case (GivesSome streams g) (FailsToElaborate streams g) → Case (GivesSome streams (tree.Union e g)) (FailsToElaborate streams (tree.Union e g))
union_case streams e g (bad tells fails) right = bad tells (source.union_left fails)
union_case streams e g (good (left, x, gives)) (bad tells fails) = bad tells (source.union_right gives fails)
union_case streams e g (good (left, x, gives)) (good (right, y, others)) = schemas_case streams e g left right x y (difference_from 1 left right) refl gives others

next_case : (streams : List Entry) (p : Pred) (e g : Source) → Case (GivesSome streams e) (FailsToElaborate streams e) → Case (GivesSome streams g) (FailsToElaborate streams g) → Case (GivesSome streams (tree.Next p e g)) (FailsToElaborate streams (tree.Next p e g))
next_case streams p e g (bad tells fails) right = bad tells (source.next_left fails)
next_case streams p e g (good (left, x, gives)) (bad tells fails) = bad tells (source.next_right gives fails)
next_case streams p e g (good (left, x, gives)) (good (right, y, others)) = elim (cases_lt 256 (length left + length right)) [
  | inl wide ↦ bad told.wide (source.next_wide gives others wide)
  | inr narrow ↦ with_condition narrow (predicate_case (Sequence left right) p)
]
  where
    with_condition : length left + length right ≤ 256 → Case ((u : Pr) × Means (Sequence left right) p u) (Fails (Sequence left right) p) → Case (GivesSome streams (tree.Next p e g)) (FailsToElaborate streams (tree.Next p e g))
    with_condition narrow (bad tells fails) = bad tells (source.next_condition gives others narrow fails)
    with_condition narrow (good (u, means)) = good (_, _, source.next gives others narrow means)

fold_case : (streams : List Entry) (p q : Pred) (list : List Agg) (e g : Source) → Case (GivesSome streams e) (FailsToElaborate streams e) → Case (GivesSome streams g) (FailsToElaborate streams g) → Case (GivesSome streams (tree.Fold p q list e g)) (FailsToElaborate streams (tree.Fold p q list e g))
fold_case streams p q list e g (bad tells fails) right = bad tells (source.fold_left fails)
fold_case streams p q list e g (good (left, x, gives)) (bad tells fails) = bad tells (source.fold_right gives fails)
fold_case streams p q list e g (good (left, x, gives)) (good (right, y, others)) = with_all (predicate_case (Iteration left right) p) (predicate_case (Iteration left right) q) (assign_case left right [] list)
  where
    with_all : Case ((u : Pr) × Means (Iteration left right) p u) (Fails (Iteration left right) p) → Case ((v : Pr) × Means (Iteration left right) q v) (Fails (Iteration left right) q) → Case (AssignsSome left right [] list) (FailToAssign left right [] list)
        → Case (GivesSome streams (tree.Fold p q list e g)) (FailsToElaborate streams (tree.Fold p q list e g))
    with_all (bad tells fails) on sets = bad tells (source.fold_choose gives others fails)
    with_all (good (u, means)) (bad tells fails) sets = bad tells (source.fold_on gives others means fails)
    with_all (good (u, means)) (good (v, means_too)) (bad tells fails) = bad tells (source.fold_sets gives others means means_too fails)
    with_all (good (u, means)) (good (v, means_too)) (good (assignments, assigns)) = good (_, _, source.fold gives others means means_too assigns)

-- a source over streams that it reads has a schema and an expression, or a fault
source_case : (streams : List Entry) (e : Source) → ((name : List ℕ) → Contains (read_names e) name → Contains (stream_names streams) name) → Case (GivesSome streams e) (FailsToElaborate streams e)
source_case streams (tree.Name a) stand = name_case streams a (number_of a streams) refl (is_some-number_of a streams ∙ among-there (stream_names streams) a (stand a (0, omega arith, refl)))
source_case streams (tree.Filter p e) stand = filter_case streams p e (source_case streams e stand)
source_case streams (tree.Select list e) stand = select_case streams list e (source_case streams e stand)
source_case streams (tree.Union e g) stand =
    union_case streams e g (source_case streams e (λ n there. stand n (Contains-append_left (read_names e) (read_names g) n there))) (source_case streams g (λ n there. stand n (Contains-append_right (read_names e) (read_names g) n there)))
source_case streams (tree.Next p e g) stand =
    next_case streams p e g (source_case streams e (λ n there. stand n (Contains-append_left (read_names e) (read_names g) n there))) (source_case streams g (λ n there. stand n (Contains-append_right (read_names e) (read_names g) n there)))
source_case streams (tree.Fold p q list e g) stand =
    fold_case streams p q list e g (source_case streams e (λ n there. stand n (Contains-append_left (read_names e) (read_names g) n there))) (source_case streams g (λ n there. stand n (Contains-append_right (read_names e) (read_names g) n there)))

-- so has a query
pub query_case : (streams : List Entry) (list : List Item) (e : Source) (name : List ℕ) → ((n : List ℕ) → Contains (read_names e) n → Contains (stream_names streams) n)
    → Case ((schema : List Attr) × (x : Ex) × Queries streams (tree.Query list e name) schema x) (FailsAsQuery streams (tree.Query list e name))
query_case streams list e name stand = source_case streams (tree.Select list e) stand
