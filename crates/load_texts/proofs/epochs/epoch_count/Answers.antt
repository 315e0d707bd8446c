use Rattle.std.proofs.Common.{◌≡◌, ◌<◌, ◌≤◌, ◌+◌, ◌-◌, ◌*◌, ◌/◌, ℕ, arith}
use Rattle.load_texts.specs.EventText.{event_time}
use Rattle.load_texts.proofs.epochs.epoch_count.Goals as goal

-- an event has one of the times
time-counted : (events place time : ℕ) → place < events → event_time place ≡ time → (0 < time) × (time ≤ 1 + (events - 1) / 2)
time-counted events place time left is = (omega (arith, is), omega (arith, left, is))

-- and each time has an event, the first of its two
event-of : (events time : ℕ) → 0 < events → 0 < time → time ≤ 1 + (events - 1) / 2 → (2 * (time - 1) < events) × (event_time (2 * (time - 1)) ≡ time)
event-of events time some first last = (omega (arith, some, first, last), omega (arith, first))

pub returns-clause-times_are_counted : goal.returns-clause-times_are_counted
returns-clause-times_are_counted c = λ time. (
  λ met. time-counted c.args.events met.0 time met.1 met.2,
  λ within. let found = event-of c.args.events time c.requires within.0 within.1 in (2 * (time - 1), found.0, found.1),
)
