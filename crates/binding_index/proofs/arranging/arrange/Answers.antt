use Rattle.std.proofs.Common.{◌∙◌, ◌-◌, sym, arith}
use Rattle.std.proofs.lemmas.List.Sorted.{IsPermutation-swap}
use Rattle.binding_index.proofs.CutLemmas.{pass_swapped}
use Rattle.binding_index.proofs.MapLemmas.{filled_there}
use Rattle.binding_index.proofs.SplitLemmas.{set_aside, stands}
use Rattle.binding_index.proofs.StartLemmas.{starts_swapped}
use Rattle.binding_index.proofs.arranging.arrange.Goals as goal

pub returns-then-not-has_some-clause-split : goal.returns-then-not-has_some-clause-split
returns-then-not-has_some-clause-split c =
    set_aside c.args.filled c.args.place c.args.buckets.now.entries c.exchange.new.buckets.entries c.requires.within c.requires.there c.exchange.ensures.as_many c.requires.others
    (λ d. filled_there c.args.buckets.now.entries c.args.place c.index.result.now c.index.ensures d ∙ sym c.has_some.ensures ∙ c.if-not-has_some.true) c.exchange.ensures.buckets

pub returns-then-not-has_some-clause-starts : goal.returns-then-not-has_some-clause-starts
returns-then-not-has_some-clause-starts c =
    starts_swapped c.args.starts.now c.exchange.new.starts c.args.buckets.now.entries c.exchange.new.buckets.entries c.args.place (c.args.filled - 1) (omega (arith, c.requires.there, c.requires.within)) (omega (arith, c.requires.there, c.requires.within)) c.requires.room c.exchange.ensures.as_many
    c.exchange.ensures.buckets c.exchange.ensures.starts c.requires.starts

pub returns-then-not-has_some-clause-same_starts : goal.returns-then-not-has_some-clause-same_starts
returns-then-not-has_some-clause-same_starts c =
    IsPermutation-swap c.args.starts.now c.exchange.new.starts c.args.place (c.args.filled - 1) (omega (arith, c.requires.room, c.requires.there, c.requires.within)) (omega (arith, c.requires.room, c.requires.there, c.requires.within)) c.exchange.ensures.starts

pub returns-clause-split : goal.returns-clause-split
returns-clause-split c =
    stands c.args.filled c.args.place c.args.buckets.now.entries c.requires.there c.requires.others
    (λ d. filled_there c.args.buckets.now.entries c.args.place c.index.result.now c.index.ensures d ∙ sym c.has_some.ensures ∙ c.if-not-has_some.false)

pub returns-then-not-has_some-clause-pass : goal.returns-then-not-has_some-clause-pass
returns-then-not-has_some-clause-pass c test =
    pass_swapped test c.args.place c.args.filled c.args.buckets.now.entries c.exchange.new.buckets.entries c.requires.there c.requires.within c.exchange.ensures.as_many c.exchange.ensures.buckets
