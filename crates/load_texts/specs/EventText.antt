-- The event text of the generator (this project's profile).
use Rattle.std.specs.Prelude.{ℕ, ◌+◌, ◌*◌, ◌/◌, ◌%◌, List, [], ◌∷◌, ◌++◌, codes, decimal}
use Rattle.std.specs.List.{flat_map, range_with_len}
use Rattle.load_texts.specs.Draws.{draw}

-- a mark and a number behind it
abbrev pub marked : List ℕ → ℕ → List ℕ
marked mark number = mark ++ decimal number

-- the line of an event of the stream Stock without a start: its detection, the number in its name, its price and its volume, as `Stock,,1,S838,5758,113`
abbrev pub stock_line : ℕ → ℕ → ℕ → ℕ → List ℕ
stock_line at name price volume = marked (codes "Stock,,") at ++ (marked (codes ",S") name ++ (marked (codes ",") price ++ (marked (codes ",") volume ++ 10 ∷ [])))

-- the detection time of the event at a place from 0: two events have one
abbrev pub event_time : ℕ → ℕ
event_time place = 1 + place / 2

-- the event line at a place from 0, which makes three draws
abbrev pub event_line : ℕ → ℕ → List ℕ
event_line seed place =
    let before = 3 * place in
    stock_line (event_time place) (draw seed (before + 1) % 1000) (draw seed (before + 2) % 10000) (draw seed (before + 3) % 1000)

-- so many event lines from a place on
abbrev pub lines_from : ℕ → ℕ → ℕ → List ℕ
lines_from seed place many = flat_map (event_line seed) (range_with_len place many)

-- the text of so many events
unfoldable pub event_text : ℕ → ℕ → List ℕ
event_text seed events = lines_from seed 0 events
