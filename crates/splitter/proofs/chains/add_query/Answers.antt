use Rattle.std.proofs.Common.{◌≡◌, ◌∙◌, ◌++◌, ℕ, List, ap, arith, length, take}
use Rattle.std.proofs.Math.Seq.{take-append_seam}
use Rattle.event_types.specs.declared.kind.Kind.{Kind}
use Rattle.automaton.specs.declared.layout.Layout.{Layout}
use Rattle.expressions.specs.Views.{ex_of}
use Rattle.splitter.specs.Splitting.{parts_of}
use Rattle.splitter.proofs.GrowLemmas.{longer, longer_take}
use Rattle.splitter.proofs.NumberingLemmas.{parts_up}
use Rattle.splitter.proofs.chains.add_query.Goals as goal

-- no number is taken back
pub add_order-requires : goal.add_order-requires
add_order-requires c =
    let after : c.split.new.namer ≡ (parts_of (ex_of c.args.expr.now) c.args.namer.now).next = c.in_ok-more.ensures.next in
    omega (arith, c.next-first.ensures, c.next.ensures, after, parts_up (ex_of c.args.expr.now) c.args.namer.now)

-- a number is left at first, since one is left behind the hidden streams
pub next-first-requires : goal.next-first-requires
next-first-requires c = omega (arith, c.requires.room, parts_up (ex_of c.args.expr.now) c.args.namer.now)

-- a layout whose order of work and kinds are those that were there
same_again : (layout : Layout) (order : List ℕ) (kinds : List (List Kind)) → order ≡ layout.order → kinds ≡ layout.kinds → record { order = order; outs = layout.outs; kinds = kinds } ≡ layout
same_again layout order kinds worked typed t = record { order = worked t; outs = layout.outs; kinds = typed t }

-- the kinds that were added are taken out
pub returns-in-Err-clause-kept : goal.returns-in-Err-clause-kept
returns-in-Err-clause-kept c =
    let layout = c.args.layout.now in
    let back : take (length layout.kinds) c.add_kinds.new.kinds ≡ layout.kinds = longer_take layout.kinds c.add_kinds.new.kinds (longer layout.kinds c.in_ok-more.more c.add_kinds.new.kinds c.in_ok-add_kinds.ensures.ok) in
    same_again layout c.add_order.new.order c.truncate.new.self c.in-Err.ensures.kept (c.truncate.ensures ∙ ap (λ n. take n c.add_kinds.new.kinds) c.len-streams.ensures ∙ back)

-- and so are the streams in the order of work
pub returns-in-Err-append-clause-kept : goal.returns-in-Err-append-clause-kept
returns-in-Err-append-clause-kept c =
    let layout = c.args.layout.now in
    let back : take (length layout.kinds) c.add_kinds.new.kinds ≡ layout.kinds = longer_take layout.kinds c.add_kinds.new.kinds (longer layout.kinds c.in_ok-more.more c.add_kinds.new.kinds c.in_ok-add_kinds.ensures.ok) in
    same_again layout c.truncate-in-Err-append-2.new.self c.truncate-in-Err-append.new.self
    (c.truncate-in-Err-append-2.ensures ∙ (λ t. take (c.len-worked.ensures t) (c.in_default.ensures.ok t)) ∙ take-append_seam layout.order _)
    (c.truncate-in-Err-append.ensures ∙ ap (λ n. take n c.add_kinds.new.kinds) c.len-streams.ensures ∙ back)
