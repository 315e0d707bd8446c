-- Items make at most one list of attributes and terms, have at most one fault, and not both.
use Rattle.std.proofs.Common.{◌≡◌, ◌∙◌, List, [], ◌∷◌, ◌++◌, refl, sym, ap, subst}
use Rattle.event_types.specs.declared.kind.Kind.{Kind}
use Rattle.semantics.specs.Scalars.{Sc}
use Rattle.stream_schema.specs.Schema.{Attr}
use Rattle.cel_grammar.specs.Trees.{Item}
use Rattle.cel_types.specs.declared.fault.TypeFault.{TypeFault}
use Rattle.cel_types.specs.declared.fault.TypeFault.TheVariants.{DuplicateAttr}
use Rattle.cel_types.specs.Items.{Make, none, all, named, FailToMake, all_there, all_then, scalar, there, named_then, all_events, attr}
use Rattle.cel_types.proofs.ScalarLaws.{IsOf-one, IsOf-no_fault, HasFault-one}

module _ {schema : List Attr} where
  -- by induction on the first derivation
  pub Make-one : {made more more' : List Attr} {items : List Item} {terms terms' : List Sc} → Make schema made items more terms → Make schema made items more' terms' → (more ≡ more') × (terms ≡ terms')
  Make-one none none = (refl, refl)
  Make-one (all free rest) (all free' rest') = let one = Make-one rest rest' in (ap (λ more. schema ++ more) one.0, ap (λ terms. all_events schema ++ terms) one.1)
  Make-one {made} {more' = more'} {terms' = terms'} (named {a = a} i free rest) (named {more = others} {items = items} {terms = other_terms} j free' rest') =
      let same = IsOf-one i j in
      let one = Make-one rest (subst (λ (k : Kind). Make schema (made ++ attr a k ∷ []) items others other_terms) (sym same.1) rest') in
      ((λ n. attr a (same.1 n) ∷ one.0 n), (λ n. same.0 n ∷ one.1 n))

  -- by induction on the fault
  pub Make-no_fault : {made more : List Attr} {items : List Item} {terms : List Sc} {f : TypeFault} → Make schema made items more terms → FailToMake schema made items f → ⊥
  Make-no_fault none h = elim h [ ]
  Make-no_fault (all free rest) (all_there e) = let both = sym free ∙ e in cc
  Make-no_fault (all free rest) (all_then free' h) = Make-no_fault rest h
  Make-no_fault (named i free rest) (scalar h) = IsOf-no_fault i h
  Make-no_fault (named i free rest) (there j taken) = let both = sym free ∙ taken in cc
  Make-no_fault {made} {f = f} (named {a = a} i free rest) (named_then {items = items} j free' h) =
      Make-no_fault rest (subst (λ (k : Kind). FailToMake schema (made ++ attr a k ∷ []) items f) (IsOf-one j i).1 h)

  -- by induction on the first fault
  pub FailToMake-one : {made : List Attr} {items : List Item} {f g : TypeFault} → FailToMake schema made items f → FailToMake schema made items g → f ≡ g
  FailToMake-one (all_there {a = a} {names = names} e) (all_there {a = b} {names = others} e') = let both : a ∷ names ≡ b ∷ others = sym e ∙ e' in let same : a ≡ b = cc in ap DuplicateAttr same
  FailToMake-one (all_there e) (all_then free h) = let both = sym free ∙ e in cc
  FailToMake-one (all_then free h) (all_there e) = let both = sym free ∙ e in cc
  FailToMake-one (all_then free h) (all_then free' h') = FailToMake-one h h'
  FailToMake-one (scalar h) (scalar h') = HasFault-one h h'
  FailToMake-one (scalar h) (there i taken) = absurd (IsOf-no_fault i h)
  FailToMake-one (scalar h) (named_then i free h') = absurd (IsOf-no_fault i h)
  FailToMake-one (there i taken) (scalar h) = absurd (IsOf-no_fault i h)
  FailToMake-one (there i taken) (there i' taken') = refl
  FailToMake-one (there i taken) (named_then j free h) = let both = sym free ∙ taken in cc
  FailToMake-one (named_then i free h) (scalar h') = absurd (IsOf-no_fault i h')
  FailToMake-one (named_then i free h) (there j taken) = let both = sym free ∙ taken in cc
  FailToMake-one {made} {g = g} (named_then {a = a} i free h) (named_then {items = items} j free' h') =
      FailToMake-one h (subst (λ (k : Kind). FailToMake schema (made ++ attr a k ∷ []) items g) (IsOf-one j i).1 h')
