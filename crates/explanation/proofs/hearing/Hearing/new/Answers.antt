use Rattle.std.proofs.Common.{[], subst, sym}
use Rattle.explanation.specs.HearingView.{HasHeard}
use Rattle.explanation.proofs.HearingLemmas.{nothing_heard}
use Rattle.explanation.proofs.hearing.Hearing.new.Goals as goal

pub returns-clause-heard : goal.returns-clause-heard
returns-clause-heard c = λ streams. subst (HasHeard streams []) (λ i. record { feed = sym c.new.ensures i; history = sym c.new-2.ensures i; limit = c.args.limit; fed = 0 }) (nothing_heard streams c.args.limit)
