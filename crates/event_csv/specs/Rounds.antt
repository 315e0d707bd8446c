-- An event text that comes in pieces, with lines taken in between.
use Rattle.std.specs.Prelude.{◌≡◌, ⊤, Bool, ℕ, List, [], ◌∷◌, ◌++◌}
use Rattle.std.specs.List.{concat, flat_map, fold}
use Rattle.event_csv.specs.Fed.{Fed, HandsOutLines, fed_more, unread_lines, unfed}
use Rattle.event_csv.specs.Lines.{Line, lines}

-- a round: a piece is pushed, lines are taken behind it, and a feed is left
pub record Round : Type 0 where
  pub piece : List ℕ
  pub taken : List Line
  pub left : Fed

-- the rounds of a feed, each with what the one before it left
abbrev pub AreRounds : Fed → List Round → Type 0
AreRounds fed [] = ⊤
AreRounds fed (round ∷ more) = HandsOutLines round.taken (fed_more fed round.piece) round.left × AreRounds round.left more

-- the feed that the rounds leave
abbrev pub left_by : Fed → List Round → Fed
left_by fed rounds = fold (λ old round. round.left) fed rounds

-- the lines that are taken in the rounds
abbrev pub taken_in : List Round → List Line
taken_in rounds = flat_map (λ round. round.taken) rounds

-- the pieces of the rounds, joined
abbrev pub text_of : List Round → List ℕ
text_of rounds = flat_map (λ round. round.piece) rounds

-- pieces pushed one after another into a new feed leave the lines of the pieces joined
abbrev pub PiecesGiveTheLines : Type 0
PiecesGiveTheLines = (pieces : List (List ℕ)) (ended : Bool) → unread_lines (fold fed_more unfed pieces) ended ≡ lines (concat pieces) ended

-- the lines taken in the rounds of a new feed, and then those that are left, are the lines of the pieces joined
abbrev pub RoundsGiveTheLines : Type 0
RoundsGiveTheLines = (rounds : List Round) (ended : Bool) → AreRounds unfed rounds
    → taken_in rounds ++ unread_lines (left_by unfed rounds) ended ≡ lines (text_of rounds) ended
