use Rattle.std.proofs.Common.{◌<◌, arith, length, rules, subst, sym}
use Rattle.std.specs.Prelude.{string_bytes}
use Rattle.derivations.specs.declared.deriv.Deriv.{Deriv, the_lemmas}
use Rattle.derivations.specs.Texts.{HasPlaces}
use Rattle.derivations.specs.Views.{derivation_of}
use Rattle.derivations.proofs.TextLemmas.{one_has_places, text_step}
use Rattle.derivations.proofs.texts.+texts.Goals as goal

-- the derivation has its places, as all have
pub append_all-append_deriv-requires : goal.append_all-append_deriv-requires
append_all-append_deriv-requires t c =
    let within : c.loop-place.place < length c.args.derivs.now = omega arith in (
      search (rules, the_lemmas),
      subst (λ (d : Deriv). HasPlaces c.args.lines.now (derivation_of d)) (sym c.index-derivs-place.is)
          (one_has_places derivation_of c.args.lines.now c.args.derivs.now c.loop-place.place c.index-derivs-place.result c.requires within),
    )

-- one more text was put
pub append_all-loop-place-preserved : goal.append_all-loop-place-preserved
append_all-loop-place-preserved t c =
    let within : c.loop-place.place < length c.args.derivs.now = omega arith in
    text_step derivation_of c.args.lines.now c.args.derivs.now c.loop-place.place c.index-derivs-place.result
    (string_bytes c.args.text.now) (string_bytes c.loop-place.text) (string_bytes c.append.new.text) (string_bytes c.append_deriv.new.text)
    within c.index-derivs-place.is c.loop-place.invariant c.in_ok-append.ensures c.in_ok-append_deriv.ensures
