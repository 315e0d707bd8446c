-- The lines of a text that comes in pieces, with lines taken in between.
use Rattle.std.proofs.Common.{◌≡◌, ◌∙◌, ℕ, Bool, List, [], ◌∷◌, ◌++◌, refl, sym, ap, append_assoc}
use Rattle.std.proofs.lemmas.List.{append-nil}
use Rattle.std.specs.List.{concat, fold}
use Rattle.event_csv.specs.Fed.{Fed, fed_more, unread_lines, unfed}
use Rattle.event_csv.specs.Lines.{Line, lines}
use Rattle.event_csv.specs.Rounds.{AreRounds, PiecesGiveTheLines, Round, RoundsGiveTheLines, left_by, taken_in, text_of}
use Rattle.event_csv.proofs.LastFacts.{fed_more-nil}

-- two pieces, one after the other
fed_more-append : (fed : Fed) (a b : List ℕ) → fed_more (fed_more fed a) b ≡ fed_more fed (a ++ b)
fed_more-append fed a b = λ i. record fed { rest = append_assoc fed.rest a b i }

-- pieces pushed one after another are pushed at once: an induction on the pieces
fold-fed_more : (fed : Fed) (pieces : List (List ℕ)) → fold fed_more fed pieces ≡ fed_more fed (concat pieces)
fold-fed_more fed [] = sym (fed_more-nil fed)
fold-fed_more fed (p ∷ ps) = fold-fed_more (fed_more fed p) ps ∙ fed_more-append fed p (concat ps)

-- pieces give the lines of the text
pub pieces-lines : PiecesGiveTheLines
pieces-lines pieces ended = ap (λ (f : Fed). unread_lines f ended) (fold-fed_more unfed pieces)

-- whatever bytes come behind the rounds: an induction on the rounds
rounds-more : (fed : Fed) (rounds : List Round) (more : List ℕ) (ended : Bool) → AreRounds fed rounds
    → unread_lines (fed_more fed (text_of rounds ++ more)) ended ≡ taken_in rounds ++ unread_lines (fed_more (left_by fed rounds) more) ended
rounds-more fed [] more ended h = refl
rounds-more fed (r ∷ rs) more ended h =
    let behind : List ℕ = text_of rs ++ more in
    let cut : fed_more fed (text_of (r ∷ rs) ++ more) ≡ fed_more (fed_more fed r.piece) behind =
    ap (fed_more fed) (append_assoc r.piece (text_of rs) more) ∙ sym (fed_more-append fed r.piece behind) in
    ap (λ (f : Fed). unread_lines f ended) cut ∙ h.0 behind ended
    ∙ ap (λ (ls : List Line). r.taken ++ ls) (rounds-more r.left rs more ended h.1)
    ∙ sym (append_assoc r.taken (taken_in rs) (unread_lines (fed_more (left_by r.left rs) more) ended))

-- rounds give the lines of the text
pub rounds-lines : RoundsGiveTheLines
rounds-lines rounds ended h =
    ap (λ (f : Fed). taken_in rounds ++ unread_lines f ended) (sym (fed_more-nil (left_by unfed rounds)))
    ∙ sym (rounds-more unfed rounds [] ended h)
    ∙ ap (λ (t : List ℕ). lines t ended) (append-nil (text_of rounds))
