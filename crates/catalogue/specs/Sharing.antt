-- How many of all lines and of all streams are those of a query. No public clause cites this.
use Rattle.std.specs.Prelude.{ℕ, List, [], ◌∷◌, ◌++◌, length, map, take}
use Rattle.std.specs.List.{remove}
use Rattle.semantics.specs.Programs.{Query}
use Rattle.splitter.specs.Laws.{split_order}
use Rattle.catalogue.specs.declared.sharing.Share.{Share}
use Rattle.catalogue.specs.declared.sharing.Shares.{Shares}
use Rattle.catalogue.specs.Leaving.{lines_many}

-- how many streams a query publishes in the order of work
abbrev pub streams_many : Query → ℕ
streams_many query = length (split_order query.expr query.stream query.hidden)

-- a query has so many lines, and publishes so many streams in the order of work
abbrev pub share_of : Query → Share
share_of query = record { lines = lines_many query; streams = streams_many query }

-- the shares of queries
abbrev pub shares_of : List Query → Shares
shares_of work = record { lines = map lines_many work; streams = map streams_many work }

-- the shares with one more, which is the last
abbrev pub with_share : Shares → Share → Shares
with_share shares share = record { lines = shares.lines ++ share.lines ∷ []; streams = shares.streams ++ share.streams ∷ [] }

-- the shares without that at a place
abbrev pub without_share : Shares → ℕ → Shares
without_share shares place = record { lines = remove shares.lines place; streams = remove shares.streams place }

-- the first so many shares
abbrev pub first_shares : Shares → ℕ → Shares
first_shares shares many = record { lines = take many shares.lines; streams = take many shares.streams }
