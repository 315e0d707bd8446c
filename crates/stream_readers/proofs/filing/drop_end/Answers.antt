use Rattle.std.proofs.Common.{◌∙◌, ◌-◌, ap, sym, length}
use Rattle.stream_readers.proofs.PartedLemmas.{end_leaves, no_end_leaves}
use Rattle.stream_readers.proofs.filing.drop_end.Goals as goal

-- the state is a root
pub returns-in-Some : goal.returns-in-Some
returns-in-Some c = λ new removes.
    let last = ap (λ n. n - 1) (c.len-last.ensures ∙ ap length c.ends.ensures) in
    end_leaves c.args.network.now new c.places.ensures.network c.args.state c.args.place removes (c.len-last.result - 1) last c.in-Some.stream c.args.readers.now c.drop_target.new.readers (sym c.in-Some.is ∙ c.root.ensures) c.drop_target.ensures c.requires.readers

-- it isn't
pub returns-in_default : goal.returns-in_default
returns-in_default c = λ new removes. no_end_leaves c.args.network.now new c.places.ensures.network c.args.state c.args.place removes c.args.readers.now (sym c.in_default.is ∙ c.root.ensures) c.requires.readers
