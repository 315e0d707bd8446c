use Rattle.std.proofs.Common.{sym, ap, subst, length, length-append, [], ◌∷◌, arith}
use Rattle.binding_index.specs.Buckets.{AreStarts}
use Rattle.binding_index.proofs.EqualityLemmas.{distinct_keys}
use Rattle.binding_index.proofs.MapLemmas.{put_last}
use Rattle.binding_index.proofs.StartLemmas.{starts_added}
use Rattle.binding_index.proofs.buckets.add_bucket.Goals as goal

pub returns-in-Ok-clause-ok : goal.returns-in-Ok-clause-ok
returns-in-Ok-clause-ok c = put_last c.args.buckets.now c.args.key c.new.result c.insert.new.self.entries c.requires.absent c.new.ensures c.in-Ok.ensures.entries

pub returns-in-Ok-clause-distinct : goal.returns-in-Ok-clause-distinct
returns-in-Ok-clause-distinct c = distinct_keys _ c.in-Ok.ensures.unique

pub returns-clause-distinct : goal.returns-clause-distinct
returns-clause-distinct c = distinct_keys _ c.in-Err.ensures.unique

pub returns-in-Ok-clause-room : goal.returns-in-Ok-clause-room
returns-in-Ok-clause-room c =
    let bs = c.args.buckets.now.entries in
    let put = put_last c.args.buckets.now c.args.key c.new.result c.insert.new.self.entries c.requires.absent c.new.ensures c.in-Ok.ensures.entries in
    let long = ap length put in
    let more = length-append bs ((c.args.key, []) ∷ []) in
    omega (arith, long, more, c.in_ok-make_room.ensures.ok)

pub returns-in-Ok-clause-starts : goal.returns-in-Ok-clause-starts
returns-in-Ok-clause-starts c =
    subst (AreStarts c.make_room.new.starts) (sym (put_last c.args.buckets.now c.args.key c.new.result c.insert.new.self.entries c.requires.absent c.new.ensures c.in-Ok.ensures.entries))
    (starts_added c.make_room.new.starts c.args.buckets.now.entries c.args.key c.make_room.ensures.starts)
