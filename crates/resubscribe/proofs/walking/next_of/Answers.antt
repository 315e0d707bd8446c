use Rattle.std.proofs.Common.{◌≡◌, ◌<◌, ◌∙◌, [], length, sym, ap, subst, arith, rules}
use Rattle.std.specs.List.{All, find}
use Rattle.std.proofs.lemmas.List.Elements.{All-same}
use Rattle.std.proofs.lemmas.Option.{get_or_from_slice_get}
use Rattle.resubscribe.specs.Order.{is_untaken, reads_of}
use Rattle.resubscribe.proofs.WalkLemmas.{find_at_place, some_untaken}
use Rattle.resubscribe.proofs.walking.next_of.Goals as goal

-- it is the first read that isn't taken
pub returns-then-not-has-clause-next : goal.returns-then-not-has-clause-next
returns-then-not-has-clause-next c =
    let read : c.as_slice-read-items.result.now ≡ reads_of c.args.reads.now c.args.query = c.as_slice-read-items.ensures ∙ sym (get_or_from_slice_get c.args.reads.now c.args.query c.get.result.now [] c.get.ensures) in
    ap (find (is_untaken c.args.taken.now.numbers)) (sym read) ∙ find_at_place (is_untaken c.args.taken.now.numbers) c.as_slice-read-items.result.now c.loop-read.read-index (omega arith) c.loop-read.invariant (search rules)

-- it is the number of a query
pub returns-then-not-has-clause-small : goal.returns-then-not-has-clause-small
returns-then-not-has-clause-small c =
    let numbers : All (λ n. n < length c.args.reads.now) c.get.result.now =
    subst (All (λ n. n < length c.args.reads.now)) (get_or_from_slice_get c.args.reads.now c.args.query c.get.result.now [] c.get.ensures) (c.requires.within c.args.query [] c.requires.small) in
    let read : All (λ n. n < length c.args.reads.now) c.as_slice-read-items.result.now = All-same (λ n. n < length c.args.reads.now) c.as_slice-read-items.result.now c.get.result.now c.as_slice-read-items.ensures numbers in
    read c.loop-read.read-index 0 (omega arith)

-- if all were taken, the query would be ready
pub unreachable-requires : goal.unreachable-requires
unreachable-requires c =
    let read : c.as_slice-read-items.result.now ≡ reads_of c.args.reads.now c.args.query = c.as_slice-read-items.ensures ∙ sym (get_or_from_slice_get c.args.reads.now c.args.query c.get.result.now [] c.get.ensures) in
    some_untaken c.args.reads.now c.args.taken.now.numbers c.as_slice-read-items.result.now c.args.query c.requires.none_ready c.requires.small c.requires.untaken read (λ k within. c.loop-read.invariant k (omega arith))
