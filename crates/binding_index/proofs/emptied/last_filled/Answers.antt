use Rattle.std.proofs.Common.{◌≡◌, ◌∙◌, ◌-◌, ◌<◌, ◌≤◌, ◌⊎◌, inl, inr, ℕ, ap, sym, false, get_or, arith}
use Rattle.std.proofs.lemmas.Bool.{cases_eq}
use Rattle.binding_index.specs.Buckets.{Bucket}
use Rattle.binding_index.specs.Entries.{is_filled}
use Rattle.binding_index.proofs.MapLemmas.{filled_there}
use Rattle.binding_index.proofs.emptied.last_filled.Goals as goal

pub loop-filled-preserved : goal.loop-filled-preserved
loop-filled-preserved c = (
  (let less = c.loop-filled.invariant.0 in omega (arith, less)),
  λ n d high low. go n d high low (cases_eq n (c.loop-filled.filled - 1)),
)
  where
    go : (n : ℕ) (d : Bucket) → c.loop-filled.filled - 1 ≤ n → n < c.args.filled → (n ≡ c.loop-filled.filled - 1) ⊎ (n ≡ c.loop-filled.filled - 1 → ⊥) → is_filled (get_or c.args.buckets.now.entries n d) ≡ false
    go n d high low (inl here) =
        ap (λ m. is_filled (get_or c.args.buckets.now.entries m d)) here ∙ filled_there c.args.buckets.now.entries (c.loop-filled.filled - 1) c.index.result.now c.index.ensures d ∙ sym c.has_some.ensures ∙ c.if-not-has_some.true
    go n d high low (inr other) = c.loop-filled.invariant.1 n d (omega (arith, high, other)) low

pub returns-else-not-has_some-clause-last : goal.returns-else-not-has_some-clause-last
returns-else-not-has_some-clause-last c d some =
    filled_there c.args.buckets.now.entries (c.loop-filled.filled - 1) c.index.result.now c.index.ensures d ∙ sym c.has_some.ensures ∙ c.if-not-has_some.false
