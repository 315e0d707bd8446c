use Rattle.std.proofs.Common.{◌∙◌, ℕ, List, sym, subst, arith}
use Rattle.binding_index.specs.Buckets.{IsSplitAside}
use Rattle.binding_index.proofs.MapLemmas.{filled_there}
use Rattle.binding_index.proofs.NotedLemmas.{forward_noted, stays_noted, with_noted}
use Rattle.binding_index.proofs.StartLemmas.{starts_swapped}
use Rattle.binding_index.proofs.emptied.arrange_or_note.Goals as goal

pub returns-then-place-filled-clause-split : goal.returns-then-place-filled-clause-split
returns-then-place-filled-clause-split c =
    stays_noted c.args.place c.args.emptied.now c.args.filled c.args.buckets.now.entries c.requires.others c.if-place-filled.true
    (λ d. filled_there c.args.buckets.now.entries c.args.place c.index.result.now c.index.ensures d ∙ sym c.has_some.ensures ∙ c.if-has_some.true)

pub returns-then-has_some-clause-split : goal.returns-then-has_some-clause-split
returns-then-has_some-clause-split c =
    let high = c.if-place-filled.false in
    forward_noted c.args.place c.args.emptied.now c.args.filled c.args.buckets.now.entries c.requires.others c.exchange.new.buckets.entries c.requires.there (omega (arith, high)) c.exchange.ensures.as_many
    (λ d. filled_there c.args.buckets.now.entries c.args.place c.index.result.now c.index.ensures d ∙ sym c.has_some.ensures ∙ c.if-has_some.true) c.exchange.ensures.buckets

pub returns-then-has_some-clause-starts : goal.returns-then-has_some-clause-starts
returns-then-has_some-clause-starts c =
    let high = c.if-place-filled.false in
    starts_swapped c.args.starts.now c.exchange.new.starts c.args.buckets.now.entries c.exchange.new.buckets.entries c.args.place c.args.filled c.requires.there (omega (arith, high, c.requires.there)) c.requires.room c.exchange.ensures.as_many
    c.exchange.ensures.buckets c.exchange.ensures.starts c.requires.starts

pub returns-then-note-clause-split : goal.returns-then-note-clause-split
returns-then-note-clause-split c =
    subst (λ (ns : List ℕ). IsSplitAside ns c.args.filled c.args.buckets.now.entries) (sym (c.note.ensures.noted c.if-note.true))
    (with_noted c.args.place c.args.emptied.now c.args.filled c.args.buckets.now.entries c.requires.others
    (λ d. filled_there c.args.buckets.now.entries c.args.place c.index.result.now c.index.ensures d ∙ sym c.has_some.ensures ∙ c.if-has_some.false))

pub returns-clause-split : goal.returns-clause-split
returns-clause-split c =
    subst (λ (ns : List ℕ). IsSplitAside ns c.set_back.result c.set_back.new.buckets.entries) (sym (c.note.ensures.kept c.if-note.false))
    (c.set_back.ensures.split c.args.emptied.now
    (with_noted c.args.place c.args.emptied.now c.args.filled c.args.buckets.now.entries c.requires.others
    (λ d. filled_there c.args.buckets.now.entries c.args.place c.index.result.now c.index.ensures d ∙ sym c.has_some.ensures ∙ c.if-has_some.false)))
