-- The lines of a text that hasn't ended stay as bytes come.
use Rattle.std.proofs.Common.{◌≡◌, ◌∙◌, ℕ, ◌+◌, ◌<◌, ◌≤◌, Bool, true, false, cond, List, [], ◌∷◌, ◌++◌, length, refl, sym, ap, subst, arith, eqb-true, ltb-true, ltb-false, length-append}
use Rattle.std.proofs.lemmas.List.{take-append-le}
use Rattle.std.proofs.lemmas.List.Elements.{filter-append}
use Rattle.std.specs.Prelude.{◌||◌, not, nat_lt}
use Rattle.std.specs.List.{onto_first}
use Rattle.csv.specs.Machine.{line_feed}
use Rattle.csv.specs.Reading.{strip_bom}
use Rattle.event_csv.specs.Lines.{GoOn, Line, body_of, is_empty, is_line_feed, is_header, is_long, line_limit, line_pieces, lines_from, lines_past_header, nonempty_lines, numbered_lines, pieces_of}
use Rattle.event_csv.specs.Fed.{Fed, fed_more, unread_lines}
use Rattle.event_csv.proofs.LineFacts.{Lacks, is_long-no, is_long-yes, lines_from-none, some_front, strip_bom-append, strip_bom-feed, strip_bom-short}

-- pieces, the last of which goes on with the first of others
abbrev pub glued : List (List ℕ) → List ℕ → List (List ℕ) → List (List ℕ)
glued [] q qs = q ∷ qs
glued (p ∷ []) q qs = (p ++ q) ∷ qs
glued (p ∷ n ∷ ms) q qs = p ∷ glued (n ∷ ms) q qs

glued-onto_first : (x : ℕ) (p : List ℕ) (ps : List (List ℕ)) (q : List ℕ) (qs : List (List ℕ)) → glued ((x ∷ p) ∷ ps) q qs ≡ onto_first x (glued (p ∷ ps) q qs)
glued-onto_first x p [] q qs = refl
glued-onto_first x p (n ∷ ms) q qs = refl

-- the pieces of a text that goes on: an induction on the text
pieces_of-append : (a b : List ℕ) (q : List ℕ) (qs : List (List ℕ)) → pieces_of b ≡ q ∷ qs → pieces_of (a ++ b) ≡ glued (pieces_of a) q qs
pieces_of-append [] b q qs e = e
pieces_of-append (x ∷ a) b q qs e = by (is_line_feed x) (some_front a).more (some_front a).rest (some_front a).is (pieces_of-append a b q qs e)
  where
    by : (d : Bool) (p : List ℕ) (ps : List (List ℕ)) → pieces_of a ≡ p ∷ ps → pieces_of (a ++ b) ≡ glued (pieces_of a) q qs
        → cond d ([] ∷ pieces_of (a ++ b)) (onto_first x (pieces_of (a ++ b))) ≡ glued (cond d ([] ∷ pieces_of a) (onto_first x (pieces_of a))) q qs
    by true p ps is more = rw more (rw is refl)
    by false p ps is more = rw more (rw is (sym (glued-onto_first x p ps q qs)))

-- too long a line stands by the same bytes however it goes on
body_of-long : (a b : List ℕ) → is_long a ≡ true → body_of (a ++ b) ≡ body_of a
body_of-long a b long =
    let far : line_limit < length a = ltb-true line_limit (length a) long in
    let within : line_limit + 1 ≤ length a = omega arith in
    rw (is_long-yes (a ++ b) (omega (arith, length-append a b)), long) (take-append-le (line_limit + 1) a b within)

go_on-nil : (later : List Line) → GoOn [] later
go_on-nil later = record { more = later; is = refl }

go_on-cons : (line : Line) (earlier later : List Line) → GoOn earlier later → GoOn (line ∷ earlier) (line ∷ later)
go_on-cons line earlier later g = record { more = g.more; is = ap (λ (ls : List Line). line ∷ ls) g.is }

-- the lines among pieces: an induction on the pieces
go_on-pieces : (k : ℕ) (ended : Bool) (ps : List (List ℕ)) (q : List ℕ) (qs : List (List ℕ))
    → GoOn (numbered_lines k (line_pieces false ps)) (numbered_lines k (line_pieces ended (glued ps q qs)))
go_on-pieces k ended [] q qs = go_on-nil (numbered_lines k (line_pieces ended (q ∷ qs)))
go_on-pieces k ended (last ∷ []) q qs = by (is_long last) refl qs
  where
    by : (d : Bool) → is_long last ≡ d → (qs : List (List ℕ))
        → GoOn (numbered_lines k (cond (d || false) (last ∷ []) [])) (numbered_lines k (line_pieces ended ((last ++ q) ∷ qs)))
    by false e qs = go_on-nil (numbered_lines k (line_pieces ended ((last ++ q) ∷ qs)))
    by true e [] =
        let far : line_limit < length last = ltb-true line_limit (length last) e in
        let long : is_long (last ++ q) ≡ true = is_long-yes (last ++ q) (omega (arith, length-append last q)) in
        let one : line_pieces ended ((last ++ q) ∷ []) ≡ (last ++ q) ∷ [] = rw long refl in
        record { more = []; is = rw one (ap (λ (b : List ℕ). record { number = k; bytes = b } ∷ []) (body_of-long last q e)) }
    by true e (r ∷ rs) =
        record {
          more = numbered_lines (k + 1) (line_pieces ended (r ∷ rs));
          is = ap (λ (b : List ℕ). record { number = k; bytes = b } ∷ numbered_lines (k + 1) (line_pieces ended (r ∷ rs))) (body_of-long last q e);
        }
go_on-pieces k ended (p ∷ n ∷ []) q qs =
    go_on-cons (record { number = k; bytes = body_of p }) (numbered_lines (k + 1) (line_pieces false (n ∷ []))) (numbered_lines (k + 1) (line_pieces ended (glued (n ∷ []) q qs)))
    (go_on-pieces (k + 1) ended (n ∷ []) q qs)
go_on-pieces k ended (p ∷ n ∷ m ∷ ms) q qs =
    go_on-cons (record { number = k; bytes = body_of p }) (numbered_lines (k + 1) (line_pieces false (n ∷ m ∷ ms))) (numbered_lines (k + 1) (line_pieces ended (glued (n ∷ m ∷ ms) q qs)))
    (go_on-pieces (k + 1) ended (n ∷ m ∷ ms) q qs)

go_on-past_header : (met : Bool) (earlier later : List Line) → GoOn earlier later → GoOn (lines_past_header met earlier) (lines_past_header met later)
go_on-past_header true earlier later g = g
go_on-past_header false [] later g = go_on-nil (lines_past_header false later)
go_on-past_header false (line ∷ earlier) later g = let P : List Line → Type 0 = λ ls. GoOn (lines_past_header false (line ∷ earlier)) (lines_past_header false ls) in subst P (sym g.is) (by (is_header line.bytes))
  where
    by : (d : Bool) → GoOn (cond d earlier (line ∷ earlier)) (cond d (earlier ++ g.more) (line ∷ earlier ++ g.more))
    by true = record { more = g.more; is = refl }
    by false = record { more = g.more; is = refl }

-- the lines of a text that goes on
go_on-from : (gone : ℕ) (met : Bool) (a more : List ℕ) (ended : Bool) → GoOn (lines_from gone met a false) (lines_from gone met (a ++ more) ended)
go_on-from gone met a more ended =
    let front = some_front more in
    let pieces = pieces_of-append a more front.more front.rest front.is in
    let numbered = go_on-pieces (gone + 1) ended (pieces_of a) front.more front.rest in
    let later = numbered_lines (gone + 1) (line_pieces ended (glued (pieces_of a) front.more front.rest)) in
    rw pieces (go_on-past_header met (nonempty_lines (numbered_lines (gone + 1) (line_pieces false (pieces_of a)))) (nonempty_lines later)
    (record {
      more = nonempty_lines numbered.more;
      is = ap nonempty_lines numbered.is ∙ filter-append (λ line. not (is_empty line.bytes)) (numbered_lines (gone + 1) (line_pieces false (pieces_of a))) numbered.more;
    }))

-- where the front is the same with more bytes and without them
go_on-same : (gone : ℕ) (met : Bool) (a more : List ℕ) (ended : Bool) (t : List ℕ) → strip_bom a ≡ t → strip_bom (a ++ more) ≡ t ++ more
    → GoOn (lines_from gone met (strip_bom a) false) (lines_from gone met (strip_bom (a ++ more)) ended)
go_on-same gone met a more ended t e f = rw (e, f) (go_on-from gone met t more ended)

-- where no line is there yet
go_on-none : (gone : ℕ) (met : Bool) (a : List ℕ) (later : List Line) → length a < 3 → Lacks a → GoOn (lines_from gone met (strip_bom a) false) later
go_on-none gone met a later few lacks =
    let none : lines_from gone met (strip_bom a) false ≡ [] =
    rw (strip_bom-short a few) (lines_from-none gone met a lacks (is_long-no a (omega arith))) in
    rw none (go_on-nil later)

-- a front of fewer bytes than a mark has
go_on-few : (gone : ℕ) (met : Bool) (a more : List ℕ) (ended : Bool) → length a < 3
    → GoOn (lines_from gone met (strip_bom a) false) (lines_from gone met (strip_bom (a ++ more)) ended)
go_on-few gone met [] more ended few = go_on-none gone met [] (lines_from gone met (strip_bom more) ended) few tt
go_on-few gone met (x ∷ []) more ended few = by (is_line_feed x) refl
  where
    by : (d : Bool) → is_line_feed x ≡ d → GoOn (lines_from gone met (strip_bom (x ∷ [])) false) (lines_from gone met (strip_bom (x ∷ more)) ended)
    by true e =
        let feed : x ≡ line_feed = eqb-true x line_feed e in
        go_on-same gone met (x ∷ []) more ended (x ∷ []) (strip_bom-short (x ∷ []) few) (rw feed (strip_bom-feed [] more (omega arith)))
    by false e = go_on-none gone met (x ∷ []) (lines_from gone met (strip_bom (x ∷ more)) ended) few (e, tt)
go_on-few gone met (x ∷ y ∷ []) more ended few = by (is_line_feed x) (is_line_feed y) refl refl
  where
    by : (d f : Bool) → is_line_feed x ≡ d → is_line_feed y ≡ f → GoOn (lines_from gone met (strip_bom (x ∷ y ∷ [])) false) (lines_from gone met (strip_bom (x ∷ y ∷ more)) ended)
    by true f e g =
        let feed : x ≡ line_feed = eqb-true x line_feed e in
        go_on-same gone met (x ∷ y ∷ []) more ended (x ∷ y ∷ []) (strip_bom-short (x ∷ y ∷ []) few) (rw feed (strip_bom-feed [] (y ∷ more) (omega arith)))
    by false true e g =
        let feed : y ≡ line_feed = eqb-true y line_feed g in
        go_on-same gone met (x ∷ y ∷ []) more ended (x ∷ y ∷ []) (strip_bom-short (x ∷ y ∷ []) few) (rw feed (strip_bom-feed (x ∷ []) more (omega arith)))
    by false false e g = go_on-none gone met (x ∷ y ∷ []) (lines_from gone met (strip_bom (x ∷ y ∷ more)) ended) few (e, (g, tt))
go_on-few gone met (x ∷ y ∷ z ∷ a) more ended few = absurd (omega arith)

-- the same behind the front of a text, where the mark may not be there in full yet
go_on-front : (gone : ℕ) (met : Bool) (a more : List ℕ) (ended : Bool) → GoOn (lines_from gone met (strip_bom a) false) (lines_from gone met (strip_bom (a ++ more)) ended)
go_on-front gone met a more ended = by (nat_lt (length a) 3) refl
  where
    by : (d : Bool) → nat_lt (length a) 3 ≡ d → GoOn (lines_from gone met (strip_bom a) false) (lines_from gone met (strip_bom (a ++ more)) ended)
    by false e = go_on-same gone met a more ended (strip_bom a) refl (strip_bom-append a more (ltb-false (length a) 3 e))
    by true e = go_on-few gone met a more ended (ltb-true (length a) 3 e)

-- the lines that are left stay as bytes come
pub go_on-left : (fed : Fed) (more : List ℕ) (ended : Bool) → GoOn (unread_lines fed false) (unread_lines (fed_more fed more) ended)
go_on-left fed more ended = by fed.begun
  where
    by : (d : Bool) → GoOn (lines_from fed.gone fed.met (cond d fed.rest (strip_bom fed.rest)) false) (lines_from fed.gone fed.met (cond d (fed.rest ++ more) (strip_bom (fed.rest ++ more))) ended)
    by true = go_on-from fed.gone fed.met fed.rest more ended
    by false = go_on-front fed.gone fed.met fed.rest more ended
