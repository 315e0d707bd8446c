-- The line that is left at the end of a text.
use Rattle.std.proofs.Common.{◌≡◌, ◌∙◌, ℕ, ◌+◌, ◌<◌, Bool, true, false, cond, List, [], ◌∷◌, length, drop, None, suc, refl, sym, ap, subst, arith, eqb-true, length-drop}
use Rattle.std.proofs.lemmas.List.{append-nil}
use Rattle.std.specs.Prelude.{slice_get, Some}
use Rattle.std.specs.Str.Lines.{strip_carriage_return}
use Rattle.csv.specs.Reading.{strip_bom}
use Rattle.event_csv.specs.Lines.{Line, is_empty, is_long, lines_from}
use Rattle.event_csv.specs.Fed.{Fed, HandsOutLines, IsLine, IsPart, LeavesLast, TakesFromFeed, fed_more, unread_lines}
use Rattle.event_csv.specs.Place.{BegunOrShort, fed_at, is_skipped, met_after}
use Rattle.event_csv.specs.declared.got.Got.{Got}
use Rattle.event_csv.specs.declared.got.Got.TheVariants as got
use Rattle.event_csv.specs.declared.place.Place.{Place}
use Rattle.event_csv.proofs.PlaceFacts.{Lacks-from, line-kept}
use Rattle.event_csv.proofs.LineFacts.{Lacks, is_long-no, lines_from-ended, lines_from-kept, lines_from-nil, lines_from-skipped, strip_bom-short}

-- no bytes more
pub fed_more-nil : (fed : Fed) → fed_more fed [] ≡ fed
fed_more-nil fed = λ i. record fed { rest = append-nil fed.rest i }

-- where lines are as they were
same-lines : (old new : Fed) (ended : Bool) → HandsOutLines [] old new → unread_lines old ended ≡ unread_lines new ended
same-lines old new ended given =
    ap (λ (f : Fed). unread_lines f ended) (sym (fed_more-nil old)) ∙ given [] ended ∙ ap (λ (f : Fed). unread_lines f ended) (fed_more-nil new)

-- the last line is the same before lines were passed over
pub LeavesLast-before : (old new : Fed) (g : Got) → HandsOutLines [] old new → LeavesLast new g → LeavesLast old g
LeavesLast-before old new (got.Line number bytes) given last = (same-lines old new true given ∙ last.0, last.1)
LeavesLast-before old new (got.Long number) given last = last
LeavesLast-before old new got.NotYet given last = same-lines old new true given ∙ last

nil-cons : (lines : List Line) (line : Line) (more : List Line) → lines ≡ [] → lines ≡ line ∷ more → ⊥
nil-cons lines line more none some = let both : [] ≡ line ∷ more = sym none ∙ some in cc

nil-first : (lines : List Line) (line : Line) → lines ≡ [] → slice_get lines 0 ≡ Some line → ⊥
nil-first lines line none first =
    let F : List Line → Type 0 = λ ls. slice_get ls 0 ≡ Some line in
    let both : None ≡ Some line = subst F none first in cc

-- where no line is left, none is taken
pub none-taken : (old new : Fed) (g : Got) → unread_lines old false ≡ [] → TakesFromFeed old new g → (g ≡ got.NotYet → ⊥) → ⊥
none-taken old new (got.Line number bytes) none taken other =
    nil-cons (unread_lines old false) (record { number = number; bytes = bytes.now }) (unread_lines (fed_more new []) false) none
    (ap (λ (f : Fed). unread_lines f false) (sym (fed_more-nil old)) ∙ taken.given [] false)
none-taken old new (got.Long number) none taken other =
    nil-first (unread_lines (fed_more new []) false) (record { number = number; bytes = taken.1.bytes })
    (sym (taken.0 [] false) ∙ ap (λ (f : Fed). unread_lines f false) (fed_more-nil old) ∙ none) (taken.1.next [] false)
none-taken old new got.NotYet none taken other = other refl

is_empty-cons : (x : ℕ) (l : List ℕ) → is_empty (x ∷ l) ≡ false
is_empty-cons x l = by (is_empty (x ∷ l)) refl
  where
    by : (d : Bool) → is_empty (x ∷ l) ≡ d → d ≡ false
    by true e = let none : suc (length l) ≡ 0 = eqb-true _ _ e in absurd (omega arith)
    by false e = refl

-- the lines of what is left, where its last line is passed over
pub last-skipped : (gone : ℕ) (met : Bool) (a : List ℕ) → Lacks a → is_long a ≡ false → is_skipped met (strip_carriage_return a) ≡ true → lines_from gone met a true ≡ []
last-skipped gone met a lacks short skipped = by (is_empty a) refl
  where
    nothing : (l : List ℕ) → is_empty l ≡ true → lines_from gone met l true ≡ []
    nothing [] e = lines_from-nil gone met true
    nothing (x ∷ l) e = let none : suc (length l) ≡ 0 = eqb-true _ _ e in absurd (omega arith)

    by : (d : Bool) → is_empty a ≡ d → lines_from gone met a true ≡ []
    by true e = nothing a e
    by false e =
        lines_from-ended gone met a lacks e ∙ lines_from-skipped gone met a [] true lacks short skipped
        ∙ lines_from-nil (gone + 1) (met_after met (strip_carriage_return a)) true

-- and where it isn't
pub last-kept : (gone : ℕ) (met : Bool) (a : List ℕ) → Lacks a → is_long a ≡ false → is_skipped met (strip_carriage_return a) ≡ false
    → lines_from gone met a true ≡ record { number = gone + 1; bytes = strip_carriage_return a } ∷ []
last-kept gone met a lacks short kept =
    lines_from-ended gone met a lacks (some a kept) ∙ lines_from-kept gone met a [] true lacks short kept
    ∙ ap (λ (ls : List Line). record { number = gone + 1; bytes = strip_carriage_return a } ∷ ls) (lines_from-nil (gone + 1) (met_after met (strip_carriage_return a)) true)
  where
    some : (l : List ℕ) → is_skipped met (strip_carriage_return l) ≡ false → is_empty l ≡ false
    some [] e = cc
    some (x ∷ l) e = is_empty-cons x l

-- what is left holds no mark where it holds so few bytes
pub text-last : (bytes : List ℕ) (place : Place) → BegunOrShort bytes place → unread_lines (fed_at bytes place) true ≡ lines_from place.gone place.met (drop place.start bytes) true
text-last bytes place begun = by place.begun refl
  where
    by : (d : Bool) → place.begun ≡ d → lines_from place.gone place.met (cond d (drop place.start bytes) (strip_bom (drop place.start bytes))) true
        ≡ lines_from place.gone place.met (drop place.start bytes) true
    by true e = refl
    by false e =
        let few : length (drop place.start bytes) < 3 = omega (arith, length-drop place.start bytes, begun e) in
        rw (strip_bom-short (drop place.start bytes) few) refl

-- the last line, as what is left tells it
pub LeavesLast-none : (bytes : List ℕ) (place : Place) → BegunOrShort bytes place → IsPart (fed_at bytes place)
    → is_skipped place.met (strip_carriage_return (drop place.start bytes)) ≡ true → unread_lines (fed_at bytes place) true ≡ []
LeavesLast-none bytes place begun part skipped =
    text-last bytes place begun ∙ last-skipped place.gone place.met (drop place.start bytes) (Lacks-from (drop place.start bytes) part.no_feed) (is_long-no (drop place.start bytes) part.short) skipped

-- else what is left is the last line
pub LeavesLast-line : (bytes : List ℕ) (place : Place) → BegunOrShort bytes place → IsPart (fed_at bytes place)
    → is_skipped place.met (strip_carriage_return (drop place.start bytes)) ≡ false
    → (unread_lines (fed_at bytes place) true ≡ record { number = place.gone + 1; bytes = strip_carriage_return (drop place.start bytes) } ∷ [])
    × IsLine (strip_carriage_return (drop place.start bytes))
LeavesLast-line bytes place begun part kept =
    let lacks = Lacks-from (drop place.start bytes) part.no_feed in (
      text-last bytes place begun ∙ last-kept place.gone place.met (drop place.start bytes) lacks (is_long-no (drop place.start bytes) part.short) kept,
      line-kept place.met (drop place.start bytes) lacks part.short kept,
    )
