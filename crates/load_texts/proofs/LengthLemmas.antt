-- How long the lines of an event text are.
use Rattle.std.proofs.Common.{◌<◌, ◌≤◌, ◌+◌, ◌*◌, ◌^◌, ◌/◌, ◌%◌, ℕ, suc, zero, arith, length, length-append}
use Rattle.std.proofs.lemmas.Fmt.{length-decimal-le}
use Rattle.load_texts.specs.Draws.{draw}
use Rattle.load_texts.specs.EventText.{event_line, event_text, lines_from, stock_line}
use Rattle.load_texts.specs.Laws.{EventTextsAreShort}

-- a line of a time and of numbers below 10,000
stock_line-short : (at name price volume : ℕ) → at < 10 ^ 18 → name < 10 ^ 4 → price < 10 ^ 4 → volume < 10 ^ 4 → length (stock_line at name price volume) ≤ 64
stock_line-short at name price volume time first second third =
    let a = length-decimal-le 18 at (omega arith) time (omega arith) in
    let b = length-decimal-le 4 name (omega arith) first (omega arith) in
    let d = length-decimal-le 4 price (omega arith) second (omega arith) in
    let e = length-decimal-le 4 volume (omega arith) third (omega arith) in
    simp length-append (omega (arith, a, b, d, e))

event_line-short : (seed place : ℕ) → place < 10 ^ 9 → length (event_line seed place) ≤ 64
event_line-short seed place small =
    stock_line-short (1 + place / 2) (draw seed (3 * place + 1) % 1000) (draw seed (3 * place + 2) % 10000) (draw seed (3 * place + 3) % 1000)
    (omega arith) (omega arith) (omega arith) (omega arith)

-- so many lines from a place on, by induction on how many
lines_from-short : (seed place many : ℕ) → place + many ≤ 10 ^ 9 → length (lines_from seed place many) ≤ 64 * many
lines_from-short seed place zero small = omega arith
lines_from-short seed place (suc many) small =
    let line = event_line-short seed place (omega arith) in
    let others = lines_from-short seed (place + 1) many (omega arith) in
    rw (length-append (event_line seed place) (lines_from seed (place + 1) many)) (omega (arith, line, others))

-- the text of at most 200,000 events
pub event_text-short : EventTextsAreShort
unfolding event_text
event_text-short seed events few = lines_from-short seed 0 events (omega arith)
