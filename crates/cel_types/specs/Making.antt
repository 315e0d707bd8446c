-- What holds while items make attributes. No public clause cites this module.
use Rattle.std.specs.Prelude.{◌≡◌, ⊤, false, List, [], ◌∷◌, ◌++◌, map}
use Rattle.semantics.specs.Scalars.{Sc}
use Rattle.scalar_expr.specs.Views.{sc_of}
use Rattle.stream_schema.specs.Joining.{is_taken}
use Rattle.stream_schema.specs.Schema.{Attr}
use Rattle.cel_grammar.specs.Trees.{Item}
use Rattle.cel_types.specs.Items.{Make}
use Rattle.cel_types.specs.declared.items.Made.{Made}

-- behind attributes that are there, each attribute has a name that none before it has
abbrev pub AreNew : List Attr → List Attr → Type 0
AreNew there [] = ⊤
AreNew there (attr ∷ more) = (is_taken there attr.name ≡ false) × AreNew (there ++ attr ∷ []) more

-- what the items make stands behind what was made before
pub record Extends (schema : List Attr) (items : List Item) (before after : Made) : Type 0 where
  pub more : List Attr
  pub more_terms : List Sc
  pub makes : Make schema before.attributes items more more_terms
  pub attributes : after.attributes ≡ before.attributes ++ more
  pub terms : map sc_of after.terms ≡ map sc_of before.terms ++ more_terms
