use Rattle.std.proofs.Common.{◌≡◌, subst, sym, ℕ, length, arith}
use Rattle.stream_readers.specs.Making.{AreReadersBelow}
use Rattle.stream_readers.proofs.MakeLemmas.{none_made, readers_made}
use Rattle.stream_readers.proofs.readers.Readers.make.Goals as goal

pub loop-number-init : goal.loop-number-init
loop-number-init c = subst (AreReadersBelow c.args.network.now 0 0) (sym c.new-streams.ensures) (none_made c.args.network.now)

pub returns : goal.returns
returns c =
    let net = c.args.network.now in
    let readers = c.loop-number.streams in
    let all : c.loop-number.number ≡ length net = omega arith in readers_made net readers (subst (λ (n : ℕ). AreReadersBelow net n n readers) all c.loop-number.invariant)
