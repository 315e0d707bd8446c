use Rattle.std.proofs.Common.{◌≡◌, ◌∙◌, length, ap, arith}
use Rattle.cay_host.specs.Output.{count_lf}
use Rattle.cay_host.proofs.tally_host.line_feeds.Goals as goal
use Rattle.cay_host.proofs.TallyLemmas.{count_places}

-- none is counted yet
pub loop-init : goal.loop-init
loop-init c =
    let all : length c.into_iter-iterator.result ≡ count_lf c.args.bytes.now = ap length (c.into_iter-iterator.ensures.into_iter_gives ∙ c.memchr_iter-items.ensures.value) ∙ count_places c.args.bytes.now in
    (tt, tt, omega (arith, all))
