-- What items make, one behind the other.
use Rattle.std.proofs.Common.{◌≡◌, ◌∙◌, ℕ, List, [], ◌∷◌, ◌++◌, false, refl, sym, ap, map, append_assoc}
use Rattle.std.proofs.lemmas.List.{append-nil, map-append}
use Rattle.event_types.specs.declared.kind.Kind.{Kind}
use Rattle.scalar_expr.specs.declared.scalar.Scalar as term
use Rattle.scalar_expr.specs.Views.{sc_of}
use Rattle.semantics.specs.Scalars.{Sc}
use Rattle.stream_schema.specs.Joining.{is_taken}
use Rattle.stream_schema.specs.Schema.{Attr}
use Rattle.cel_grammar.specs.Trees.{Scalar, Item, All, Named}
use Rattle.cel_types.specs.declared.fault.TypeFault.{TypeFault}
use Rattle.cel_types.specs.declared.items.Made.{Made}
use Rattle.cel_types.specs.Items.{Make, none, all, named, FailToMake, all_there, all_then, scalar, there, named_then, all_events, names_there, attr}
use Rattle.cel_types.specs.Making.{AreNew, Extends}
use Rattle.cel_types.specs.Scalars.{IsOf}
use Rattle.cel_types.specs.Scopes.{Alone}
use Rattle.cel_types.proofs.NewLemmas.{new-append, new-schema}

module _ {schema : List Attr} where
  -- the same of equal lists
  make-as : {made made' more more' : List Attr} {items : List Item} {terms terms' : List Sc} → made ≡ made' → more ≡ more' → terms ≡ terms' → Make schema made items more terms → Make schema made' items more' terms'
  make-as e f g h = rw (← e, ← f, ← g) h

  -- items behind items
  pub make-append : {made more more' : List Attr} {items items' : List Item} {terms terms' : List Sc}
      → Make schema made items more terms → Make schema (made ++ more) items' more' terms' → Make schema made (items ++ items') (more ++ more') (terms ++ terms')
  make-append {made} {more' = more'} {terms' = terms'} none h = make-as (append-nil made) refl refl h
  make-append {made} {more' = more'} {terms' = terms'} (all {more = more} {terms = terms} free rest) h =
      make-as refl (sym (append_assoc schema more more')) (sym (append_assoc (all_events schema) terms terms')) (all free (make-append rest (make-as (sym (append_assoc made schema more)) refl refl h)))
  make-append {made} {more' = more'} {terms' = terms'} (named {more = more} {a = a} {k = k} is_of free rest) h =
      named is_of free (make-append rest (make-as (sym (append_assoc made (attr a k ∷ []) more)) refl refl h))

  -- a fault behind items
  pub fail-append : {made more : List Attr} {items items' : List Item} {terms : List Sc} {f : TypeFault}
      → Make schema made items more terms → FailToMake schema (made ++ more) items' f → FailToMake schema made (items ++ items') f
  fail-append {made} none h = rw append-nil at h
  fail-append {made} (all {more = more} free rest) h = all_then free (fail-append rest (rw (sym (append_assoc made schema more)) at h))
  fail-append {made} (named {more = more} {a = a} {k = k} is_of free rest) h =
      named_then is_of free (fail-append rest (rw (sym (append_assoc made (attr a k ∷ []) more)) at h))

  -- a fault before items
  pub fail-more : {made : List Attr} {items : List Item} {f : TypeFault} (items' : List Item) → FailToMake schema made items f → FailToMake schema made (items ++ items') f
  fail-more items' (all_there e) = all_there e
  fail-more items' (all_then free h) = all_then free (fail-more items' h)
  fail-more items' (scalar h) = scalar h
  fail-more items' (there is_of taken) = there is_of taken
  fail-more items' (named_then is_of free h) = named_then is_of free (fail-more items' h)

  -- what items make has new names
  pub make-new : {made more : List Attr} {items : List Item} {terms : List Sc} → AreNew [] schema → Make schema made items more terms → AreNew made more
  make-new new none = tt
  make-new {made} new (all {more = more} free rest) = new-append made schema more (new-schema made schema new free) (make-new new rest)
  make-new new (named is_of free rest) = (free, make-new new rest)

  -- one named item behind what is made
  pub extends-named : {before after : Made} {x : Scalar} {a : List ℕ} (s : term.Scalar) {k : Kind}
      → IsOf (Alone schema) x (sc_of s) k → is_taken before.attributes a ≡ false → after.attributes ≡ before.attributes ++ attr a k ∷ [] → after.terms ≡ before.terms ++ s ∷ []
      → Extends schema (Named x a ∷ []) before after
  extends-named {before} {after} s {k = k} is_of free attributes terms =
      record {
        more = _;
        more_terms = _;
        makes = named is_of free none;
        attributes = attributes;
        terms = ap (map sc_of) terms ∙ map-append sc_of before.terms (s ∷ []);
      }

  -- all attributes behind what is made
  pub extends-all : {before after : Made} → names_there before.attributes schema ≡ [] → after.attributes ≡ before.attributes ++ schema → map sc_of after.terms ≡ map sc_of before.terms ++ all_events schema
      → Extends schema (All ∷ []) before after
  extends-all {before} {after} free attributes terms =
      record {
        more = schema;
        more_terms = all_events schema;
        makes = make-as refl (append-nil schema) (append-nil (all_events schema)) (all free none);
        attributes = attributes;
        terms = terms;
      }

  -- what items made, and one item more
  pub make-more : {items : List Item} {item : Item} {before after : Made} → Make schema [] items before.attributes (map sc_of before.terms) → Extends schema (item ∷ []) before after
      → Make schema [] (items ++ item ∷ []) after.attributes (map sc_of after.terms)
  make-more was one = make-as refl (sym one.attributes) (sym one.terms) (make-append was one.makes)
