use Rattle.event_csv.proofs.QuickFacts.{few-same, int-first}
use Rattle.event_csv.proofs.front.take_int.Goals as goal

pub returns-in-Some : goal.returns-in-Some
returns-in-Some c =
    let h = rw c.in-Some.is at c.take_number.ensures in
    rw (few-same c.in-Some.number h.fits) (int-first c.args.text.now c.in-Some.number _ h)
