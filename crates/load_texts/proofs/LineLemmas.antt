-- The lines that are made one after another.
use Rattle.std.proofs.Common.{◌≡◌, ◌<◌, ◌+◌, ◌-◌, ◌*◌, ℕ, suc, List, ◌++◌, refl, ap, ◌∙◌, sym, arith, append_assoc, length, length-append}
use Rattle.load_texts.specs.Draws.{after_draws, drawn}
use Rattle.load_texts.specs.EventText.{event_line, lines_from}

-- where a line is left, it is the next one
pub next-line : (seed place events : ℕ) → place < events
    → lines_from seed place (events - place) ≡ event_line seed place ++ lines_from seed (place + 1) (events - (place + 1))
next-line seed place events left = let more : events - place ≡ suc (events - (place + 1)) = omega arith in rw more refl

-- one more draw
pub one-draw : (seed many next : ℕ) → next ≡ many + 1 → after_draws seed next ≡ drawn (after_draws seed many)
one-draw seed many next is = let step : next ≡ suc many = omega arith in rw step refl

-- the next line with what is left behind it, behind a text
pub moves-line : (seed place events : ℕ) (text line : List ℕ) → place < events → line ≡ event_line seed place
    → (text ++ line) ++ lines_from seed (place + 1) (events - (place + 1)) ≡ text ++ lines_from seed place (events - place)
moves-line seed place events text line left is =
    rw is (append_assoc text _ _ ∙ ap (λ rest. text ++ rest) (sym (next-line seed place events left)))

-- three more draws
pub three-draws : (seed made first second third : ℕ) → first ≡ drawn (after_draws seed (3 * made)) → second ≡ drawn first → third ≡ drawn second
    → (first ≡ after_draws seed (3 * made + 1)) × (second ≡ after_draws seed (3 * made + 2)) × (third ≡ after_draws seed (3 * made + 3))
three-draws seed made first second third one two three =
    let a : first ≡ after_draws seed (3 * made + 1) = one ∙ sym (one-draw seed (3 * made) (3 * made + 1) refl) in
    let b : second ≡ after_draws seed (3 * made + 2) = two ∙ ap drawn a ∙ sym (one-draw seed (3 * made + 1) (3 * made + 2) (omega arith)) in
    let d : third ≡ after_draws seed (3 * made + 3) = three ∙ ap drawn b ∙ sym (one-draw seed (3 * made + 2) (3 * made + 3) (omega arith)) in
    (a, b, d)

-- a line isn't empty
pub line-counts : (seed place : ℕ) → 0 < length (event_line seed place)
line-counts seed place = omega arith

-- so the lines that are left are shorter without the next one
pub next-fewer : (seed place events : ℕ) → place < events
    → length (lines_from seed (place + 1) (events - (place + 1))) < length (lines_from seed place (events - place))
next-fewer seed place events left =
    let some = line-counts seed place in
    rw (next-line seed place events left, length-append (event_line seed place) (lines_from seed (place + 1) (events - (place + 1)))) (omega (arith, some))
