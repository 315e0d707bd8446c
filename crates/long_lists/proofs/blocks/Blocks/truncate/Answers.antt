use Rattle.std.proofs.Common.{◌≡◌, ◌∙◌, ◌+◌, ◌-◌, ◌<◌, ◌≤◌, length, take, sym, ap, subst, arith}
use Rattle.long_lists.specs.Blocks.{closed_of, joined}
use Rattle.long_lists.proofs.BlocksLemmas.{IsReopened, reopen_begins, reopen_ends, reopen_next, some_closed}
use Rattle.long_lists.proofs.blocks.Blocks.truncate.Goals as goal

pub loop-self-init : goal.loop-self-init
loop-self-init g c = reopen_begins c.args.self.now c.args.len

pub reopen-requires : goal.reopen-requires
reopen-requires g c = some_closed c.loop-self.self c.args.len (subst (λ n. c.args.len < n) c.closed_len.ensures c.loop-self-test.true)

pub loop-self-preserved : goal.loop-self-preserved
loop-self-preserved g c =
    subst (λ blocks. IsReopened c.args.self.now c.args.len blocks) (sym c.reopen.ensures)
    (reopen_next c.args.self.now c.args.len c.loop-self.self c.loop-self.invariant (subst (λ n. c.args.len < n) c.closed_len.ensures c.loop-self-test.true))

pub returns : goal.returns
returns g c =
    let late = subst (λ n. n ≤ c.args.len) c.closed_len.ensures c.loop-self-test.false in
    let whole : length (joined (closed_of c.loop-self.self)) + (c.args.len - c.closed_len-2.result) ≡ c.args.len = omega (arith, late, c.closed_len-2.ensures) in
    record {
      closed = reopen_ends c.args.self.now c.args.len c.loop-self.self c.cut_last.new.self c.loop-self.invariant late c.cut_last.ensures.closed;
      items = c.cut_last.ensures.items ∙ ap (λ n. take n (joined c.loop-self.self)) whole ∙ c.loop-self.invariant.items;
    }
