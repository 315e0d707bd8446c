-- The epochs of the event text of the generator.
use Rattle.std.specs.Prelude.{◌≡◌, ◌↔◌, ℕ, ◌+◌, ◌-◌, ◌/◌, ◌<◌, ◌≤◌}
use Rattle.load_texts.specs.EventText.{event_time}

-- the number of detection times of so many events
abbrev pub epoch_count : ℕ → ℕ
epoch_count events = 1 + (events - 1) / 2

-- the detection times of so many events are exactly those from 1 to this number
abbrev pub TimesAreCounted : ℕ → ℕ → Type 0
TimesAreCounted events count = (time : ℕ) → ((place : ℕ) × (place < events) × (event_time place ≡ time)) ↔ ((0 < time) × (time ≤ count))
