use Rattle.std.proofs.Common.{◌∙◌, take}
use Rattle.splitter.proofs.GrowLemmas.{grows_next, line_typed, longer_take}
use Rattle.splitter.proofs.kinds.add_kinds.Goals as goal

-- the next line is typed
pub add_kind-requires : goal.add_kind-requires
add_kind-requires c = line_typed c.args.kinds.now c.as_slice-line-items.result.now c.loop-line.line-index c.loop-line.kinds c.line-item.result c.loop-line-test.true c.line-item.is c.loop-line.invariant

-- and the kinds grow on behind it
pub loop-line-preserved : goal.loop-line-preserved
loop-line-preserved c =
    grows_next c.args.kinds.now c.as_slice-line-items.result.now c.loop-line.line-index c.loop-line.kinds c.line-item.result c.loop-line-test.true c.line-item.is c.loop-line.invariant c.add_kind.new.kinds c.in_default.ensures.ok

-- on want of memory those that were there are left
pub returns-in-Err-clause-kept : goal.returns-in-Err-clause-kept
returns-in-Err-clause-kept c =
    c.truncate.ensures ∙ (λ t. take (c.len-streams.ensures t) (c.in-Err.ensures.kept t)) ∙ longer_take c.args.kinds.now c.loop-line.kinds c.loop-line.invariant.longer
