-- How long an event text is.
use Rattle.std.specs.Prelude.{ℕ, ◌*◌, ◌≤◌, length}
use Rattle.load_texts.specs.EventText.{event_text}

-- the text of at most 200,000 events has at most 64 bytes for each of them
abbrev pub EventTextsAreShort : Type 0
EventTextsAreShort = (seed events : ℕ) → events ≤ 200000 → length (event_text seed events) ≤ 64 * events
