use Rattle.std.proofs.Common.{◌∙◌, ◌-◌, sym, arith}
use Rattle.binding_index.proofs.MapLemmas.{filled_there}
use Rattle.binding_index.proofs.NotedLemmas.{back_noted}
use Rattle.binding_index.proofs.StartLemmas.{starts_swapped}
use Rattle.binding_index.proofs.emptied.set_back.Goals as goal

pub returns-clause-split : goal.returns-clause-split
returns-clause-split c noted split =
    let low = c.if-place-filled.false in
    back_noted c.args.place noted c.args.filled c.last_filled-filled.result c.args.buckets.now.entries split c.last_filled-filled.ensures.within c.last_filled-filled.ensures.others c.exchange.new.buckets.entries
    (omega (arith, c.last_filled-filled.ensures.within, c.requires.within)) (omega (arith, low)) c.exchange.ensures.as_many
    (λ d. filled_there c.args.buckets.now.entries c.args.place c.index.result.now c.index.ensures d ∙ sym c.has_some.ensures ∙ c.if-has_some.false)
    (λ d. c.last_filled-filled.ensures.last d (omega (arith, low))) c.exchange.ensures.buckets

pub returns-clause-starts : goal.returns-clause-starts
returns-clause-starts c =
    let low = c.if-place-filled.false in
    starts_swapped c.args.starts.now c.exchange.new.starts c.args.buckets.now.entries c.exchange.new.buckets.entries c.args.place (c.last_filled-filled.result - 1) (omega (arith, low, c.last_filled-filled.ensures.within, c.requires.within))
    (omega (arith, low, c.last_filled-filled.ensures.within, c.requires.within)) c.requires.room c.exchange.ensures.as_many c.exchange.ensures.buckets c.exchange.ensures.starts c.requires.starts
