use Rattle.std.proofs.Common.{◌≡◌, ◌∙◌, ap, subst, ℕ, ◌-◌, ◌≤◌, arith}
use Rattle.std.specs.Prelude.{Some, slice_get}
use Rattle.std.proofs.lemmas.Bool.{leb-true}
use Rattle.derivations.specs.DerivedTuples.{DerivedTuple}
use Rattle.derivations.proofs.SideLemmas.{rises_push}
use Rattle.derivations.proofs.side.Side.is_not_before.Goals as goal

-- the last tuple isn't detected later
pub returns : goal.returns
returns c = λ yes rises.
    let last_is : c.at.result ≡ c.get.result.now.tuple.at = c.at.ensures.value ∙ ap (λ (y : DerivedTuple). y.tuple.at) c.behind-self.view_is in
    let one_is : c.at-2.result ≡ c.args.one.now.tuple.at = c.at-2.ensures.value ∙ ap (λ (y : DerivedTuple). y.tuple.at) c.one.view_is in
    let le : c.at.result ≤ c.at-2.result = leb-true c.at.result c.at-2.result yes in
    rises_push c.args.self.now c.get.result.now c.args.one.now
    (subst (λ (n : ℕ). slice_get c.args.self.now (n - 1) ≡ Some c.get.result.now) c.len-count.ensures c.get.ensures.value) (omega (arith, last_is, one_is, le)) rises
