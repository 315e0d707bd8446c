use Rattle.std.proofs.Common.{Some, arith}
use Rattle.semantics.specs.Births.{is_after}
use Rattle.binding_index.proofs.CutLemmas.{pass_written, starts_cut}
use Rattle.binding_index.proofs.ExpiryLemmas.{purged_there}
use Rattle.binding_index.proofs.WriteLemmas.{length_written, split_written}
use Rattle.binding_index.proofs.cutting.cut_at.Goals as goal

pub arrange-requires-clause-within : goal.arrange-requires-clause-within
arrange-requires-clause-within c = let long = length_written c.args.buckets.now.entries c.args.place c.keep_after.new.self in omega (arith, long, c.requires.within)

pub arrange-requires-clause-room : goal.arrange-requires-clause-room
arrange-requires-clause-room c = let long = length_written c.args.buckets.now.entries c.args.place c.keep_after.new.self in omega (arith, long, c.requires.room)

pub arrange-requires-clause-others : goal.arrange-requires-clause-others
arrange-requires-clause-others c = split_written c.args.filled c.args.buckets.now.entries c.args.place c.keep_after.new.self c.requires.split

pub arrange-requires-clause-starts : goal.arrange-requires-clause-starts
arrange-requires-clause-starts c =
    starts_cut (λ instance. is_after (Some c.args.birth) instance.first) c.args.starts.now c.args.place c.args.buckets.now.entries c.index_mut.result.now c.keep_after.new.self c.index_mut.ensures.value c.keep_after.ensures c.requires.starts

pub returns-clause-began : goal.returns-clause-began
returns-clause-began c =
    purged_there (λ instance. is_after (Some c.args.birth) instance.first) c.args.place c.args.buckets.now.entries c.arrange.new.buckets.entries c.index_mut.result.now c.keep_after.new.self c.requires.distinct c.index_mut.ensures.value c.keep_after.ensures
    c.arrange.ensures.same

pub returns-clause-from : goal.returns-clause-from
returns-clause-from c =
    c.arrange.ensures.pass (λ instance. is_after (Some c.args.birth) instance.first)
    (pass_written (λ instance. is_after (Some c.args.birth) instance.first) c.args.place c.args.buckets.now.entries c.index_mut.result.now c.keep_after.new.self c.index_mut.ensures.value c.keep_after.ensures c.requires.behind)
