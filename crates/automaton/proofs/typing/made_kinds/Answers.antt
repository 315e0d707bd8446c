use Rattle.std.proofs.Common.{◌≡◌, ◌∙◌, List, map, ap, subst, sym}
use Rattle.std.specs.Prelude.{None}
use Rattle.std.proofs.lemmas.Result.{IfOk-weaker}
use Rattle.event_types.specs.declared.kind.Kind.{Kind}
use Rattle.semantics.specs.Scalars.{Sc}
use Rattle.semantics.specs.Typing.{AreOfKinds}
use Rattle.scalar_expr.specs.Kinds.{HasPlace, sc_kind}
use Rattle.scalar_expr.specs.Views.{sc_of}
use Rattle.scalar_expr.proofs.SeenLemmas.{All-seen, map-seen}
use Rattle.automaton.proofs.TypingLemmas.{have_places, kinds_are}
use Rattle.automaton.proofs.typing.made_kinds.Goals as goal

-- typed scalars read places that are there
pub kinds_of-requires : goal.kinds_of-requires
kinds_of-requires c =
    let parts = c.args.projection.now.parts in
    let seen : map sc_of c.as_slice.result.now ≡ parts = ap (map sc_of) c.as_slice.ensures ∙ ap (λ m. m.parts) c.projection.view_is in
    All-seen (λ s. HasPlace s c.args.kinds.now None) sc_of _ _ seen (have_places parts c.args.kinds.now None c.requires.0 c.requires.1)

-- and are of the kinds that are told
pub returns : goal.returns
returns c =
    let parts = c.args.projection.now.parts in
    let kind = λ (s : Sc). sc_kind s c.args.kinds.now None in
    let seen : map sc_of c.as_slice.result.now ≡ parts = ap (map sc_of) c.as_slice.ensures ∙ ap (λ m. m.parts) c.projection.view_is in
    let told = map-seen kind sc_of c.as_slice.result.now ∙ ap (map kind) seen in
    let only = kinds_are parts c.args.kinds.now None c.requires.0 c.requires.1 in
    IfOk-weaker c.kinds_of.result _ _ (λ (out : List Kind) same. subst (λ (kinds : List Kind). AreOfKinds parts c.args.kinds.now None kinds) (only ∙ sym told ∙ sym same) c.requires.1) c.kinds_of.ensures
