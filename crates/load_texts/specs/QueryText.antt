-- The query text of the generator (this project's profile).
use Rattle.std.specs.Prelude.{ℕ, ◌+◌, ◌-◌, ◌*◌, ◌/◌, ◌%◌, ◌==◌, List, ◌++◌, codes, decimal, if◌then◌else◌}
use Rattle.std.specs.List.{flat_map, range_with_len}

-- a filter by the price
abbrev pub dear : ℕ → List ℕ
dear place = codes "SELECT * FROM FILTER {Price >= " ++ (decimal (7000 + 6 * place) ++ codes "} Stock")

-- each event of one name with the next one of that name, within 2,000 units of time
abbrev pub pair : ℕ → List ℕ
pair place = codes "SELECT Name, Price, Price_2 FROM FILTER {Name = 'S" ++ (decimal place ++ codes "'} Stock NEXT {$2.Name = $1.Name AND DUR <= 2000} Stock")

-- falling prices of the name that the query before asks for
abbrev pub fall : ℕ → List ℕ
fall place = codes "SELECT Name, Price FROM FILTER {Name = 'S" ++ (decimal (place - 1) ++ codes "'} Stock FOLD {$2.Name = $.Name, $2.Price < $.Price, $2.Price AS Price} Stock")

-- a price that rises again after the results of the query before
abbrev pub rise : ℕ → List ℕ
rise place = codes "SELECT * FROM Q" ++ (decimal (place - 1) ++ codes " NEXT {$2.Name = $1.Name AND $2.Price > $1.Price} Stock")

-- what the query at a place from 0 selects: the four kinds take turns
abbrev pub selection : ℕ → List ℕ
selection place =
    if place % 4 == 0 then dear place
    else (if place % 4 == 1 then pair place
    else (if place % 4 == 2 then fall place else rise place))

-- the line of the query at a place from 0, which is published as Q and its place
abbrev pub query_line : ℕ → List ℕ
query_line place = selection place ++ (codes " PUBLISH Q" ++ (decimal place ++ codes ";\n"))

-- so many events have a query for each 400 of them that were begun
abbrev pub query_count : ℕ → ℕ
query_count events = 1 + (events - 1) / 400

-- the declaration of the stream
abbrev pub declaration : List ℕ
declaration = codes "STREAM Stock (Name TEXT, Price INT, Volume INT);\n"

-- the query text for so many events
unfoldable pub query_text : ℕ → List ℕ
query_text events = declaration ++ flat_map query_line (range_with_len 0 (query_count events))
