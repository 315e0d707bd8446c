-- What a feed holds, as a line of it is passed.
use Rattle.std.proofs.Common.{◌≡◌, ◌∙◌, ℕ, suc, ◌+◌, ◌-◌, ◌<◌, ◌≤◌, ◌^◌, Bool, true, false, cond, List, [], ◌∷◌, ◌++◌, length, take, drop, get_or, refl, sym, ap, subst, max, arith, length-take, ltb-true, ltb-false, append_assoc, eqb-true, length-append, length-drop, get_or-take, get_or-drop, slice_index}
use Rattle.std.proofs.lemmas.List.{drop-append-le, get_or_append_left, drop-drop, drop_more, length-take-le, take-append-drop, take-append-le, take_all}
use Rattle.std.proofs.lemmas.List.Sums.{count_by-le-length, sum_by-append}
use Rattle.std.specs.Prelude.{◌==◌, ◌&&◌, ◌||◌, not, nat_lt, slice_get, Some}
use Rattle.std.specs.Str.Lines.{strip_carriage_return}
use Rattle.csv.specs.Machine.{line_feed}
use Rattle.csv.specs.Reading.{is_bom, strip_bom}
use Rattle.event_csv.specs.Lines.{Line, is_line_feed, is_empty, is_header, is_long, line_limit, lines_from}
use Rattle.event_csv.specs.Fed.{Fed, HandsOutLines, IsLine, fed_more, line_feeds_in, line_feeds_so_far, unread_text, IsLongNext, IsNext, IsPart}
use Rattle.event_csv.specs.Place.{BegunOrShort, HasNumbers, IsFeedAt, IsPlace, NoFeed, fed_at, is_skipped, met_after}
use Rattle.event_csv.specs.declared.place.Place.{Place}
use Rattle.event_csv.proofs.LineFacts.{Lacks, Lacks-index, is_long-no, is_long-yes, lines_from-kept, lines_from-long, lines_from-none, lines_from-skipped, strip_bom-append, strip_bom-feed, strip_bom-short}
use Rattle.std.proofs.lemmas.Bool.{and_parts}

-- the bytes from one place up to another
abbrev pub piece : List ℕ → ℕ → ℕ → List ℕ
piece bytes from to = take (to - from) (drop from bytes)

-- a piece has as many bytes as lie between its ends
pub length-piece : (bytes : List ℕ) (from to : ℕ) → from ≤ to → to ≤ length bytes → length (piece bytes from to) ≡ to - from
length-piece bytes from to h k = length-take-le (to - from) (drop from bytes) (omega (arith, length-drop from bytes))

-- no line feed stands in a piece that was searched
pub piece-lacks : (bytes : List ℕ) (from to : ℕ) → from ≤ to → to ≤ length bytes → NoFeed bytes from to → Lacks (piece bytes from to)
piece-lacks bytes from to h k none = Lacks-index (piece bytes from to) (λ i lt.
    let below : i < to - from = omega (arith, length-piece bytes from to h k) in
    rw (get_or-take (to - from) (drop from bytes) i 0 below, get_or-drop from bytes i 0) (none (from + i) (omega arith) (omega arith)))

-- what is left begins with a piece and its line feed
pub rest-cut : (bytes : List ℕ) (from end : ℕ) → IsFeedAt bytes from end → drop from bytes ≡ piece bytes from end ++ line_feed ∷ drop (end + 1) bytes
rest-cut bytes from end f =
    let lt : end < length bytes = f.within in
    let at : from + (end - from) ≡ end = omega (arith, f.after) in
    let behind : drop (end - from) (drop from bytes) ≡ line_feed ∷ drop (end + 1) bytes =
    drop-drop (end - from) from bytes ∙ rw at (drop_more bytes end 0 lt ∙ ap (λ (b : ℕ). b ∷ drop (end + 1) bytes) (eqb-true (get_or bytes end 0) line_feed f.here)) in
    sym (take-append-drop (end - from) (drop from bytes)) ∙ ap (λ (t : List ℕ). piece bytes from end ++ t) behind

-- two texts have the line feeds of and_parts
pub feeds_in-append : (a b : List ℕ) → line_feeds_in (a ++ b) ≡ line_feeds_in a + line_feeds_in b
feeds_in-append a b = sum_by-append (λ x. cond (is_line_feed x) 1 0) a b

-- no line feed is in a text that lacks them
pub feeds_in-none : (a : List ℕ) → Lacks a → line_feeds_in a ≡ 0
feeds_in-none [] h = refl
feeds_in-none (x ∷ a) h =
    let one : line_feeds_in (x ∷ []) ≡ 0 = rw h.0 refl in
    omega (arith, feeds_in-append (x ∷ []) a, one, feeds_in-none a h.1)

-- a text with no line feed in it
pub Lacks-from : (a : List ℕ) → line_feeds_in a ≡ 0 → Lacks a
Lacks-from [] h = tt
Lacks-from (x ∷ a) h = by (is_line_feed x) refl (Lacks-from a)
  where
    by : (d : Bool) → is_line_feed x ≡ d → (line_feeds_in a ≡ 0 → Lacks a) → Lacks (x ∷ a)
    by true e more =
        let one : line_feeds_in (x ∷ []) ≡ 1 = rw e refl in
        absurd (omega (arith, feeds_in-append (x ∷ []) a, one))
    by false e more = (e, more (omega (arith, feeds_in-append (x ∷ []) a)))

-- the line feeds of a piece and what follows it
pub feeds_in-feed : (a b : List ℕ) → Lacks a → line_feeds_in (a ++ line_feed ∷ b) ≡ line_feeds_in b + 1
feeds_in-feed a b h =
    let one : line_feeds_in (line_feed ∷ []) ≡ 1 = refl in
    omega (arith, feeds_in-append a (line_feed ∷ b), feeds_in-append (line_feed ∷ []) b, one, feeds_in-none a h)

-- no line feed is in a mark
pub feeds_in-strip_bom : (a : List ℕ) → line_feeds_in (strip_bom a) ≡ line_feeds_in a
unfolding strip_bom
feeds_in-strip_bom [] = refl
feeds_in-strip_bom (x ∷ []) = refl
feeds_in-strip_bom (x ∷ y ∷ []) = refl
feeds_in-strip_bom (x ∷ y ∷ z ∷ a) = by (is_bom x y z) refl
  where
    by : (d : Bool) → is_bom x y z ≡ d → line_feeds_in (cond d a (x ∷ y ∷ z ∷ a)) ≡ line_feeds_in (x ∷ y ∷ z ∷ a)
    by true e =
        let two = and_parts ((x == 0xEF) && (y == 0xBB)) (z == 0xBF) e in
        let one = and_parts (x == 0xEF) (y == 0xBB) two.0 in
        let first : x ≡ 0xEF = eqb-true _ _ one.0 in
        let second : y ≡ 0xBB = eqb-true _ _ one.1 in
        let third : z ≡ 0xBF = eqb-true _ _ two.1 in
        let none : line_feeds_in (x ∷ y ∷ z ∷ []) ≡ 0 = rw (first, second, third) refl in
        omega (arith, feeds_in-append (x ∷ y ∷ z ∷ []) a, none)
    by false e = refl

-- the first bytes of two texts, where all of the first are among them
pub take-past : (a b : List ℕ) (k : ℕ) → take (length a + k) (a ++ b) ≡ a ++ take k b
take-past [] b k = let e : 0 + k ≡ k = omega arith in rw e refl
take-past (y ∷ a) b k = let e : length (y ∷ a) + k ≡ suc (length a + k) = omega arith in rw (e, take-past a b k) refl

-- the numbers stay within 64 bits past a line
pub HasNumbers-past : (gone : ℕ) (a b : List ℕ) → Lacks a → HasNumbers gone (a ++ line_feed ∷ b) → HasNumbers (gone + 1) b
HasNumbers-past gone a b none numbers = λ k lt.
    let at = numbers (length a + suc k) (omega (arith, length-append a (line_feed ∷ b))) in
    let here = rw (take-past a (line_feed ∷ b) (suc k)) at at in
    omega (arith, here, feeds_in-feed a (take k b) none)

-- the number of line feeds among the first bytes
feeds_in-take : (k : ℕ) (b : List ℕ) → line_feeds_in (take k b) ≤ k
feeds_in-take k b = omega (arith, count_by-le-length is_line_feed (take k b), length-take k b)

-- and as bytes come
pub HasNumbers-append : (gone : ℕ) (a b : List ℕ) → HasNumbers gone a → gone + line_feeds_in a + length b < 2 ^ 64 → HasNumbers gone (a ++ b)
HasNumbers-append gone a b numbers room = λ k lt. by k lt (nat_lt k (length a)) refl
  where
    by : (k : ℕ) → k < length (a ++ b) → (d : Bool) → nat_lt k (length a) ≡ d → gone + line_feeds_in (take k (a ++ b)) + 1 < 2 ^ 64
    by k lt true e =
        let below : k < length a = ltb-true k (length a) e in
        let within : k ≤ length a = omega arith in rw (take-append-le k a b within) (numbers k below)
    by k lt false e =
        let past : length a ≤ k = ltb-false k (length a) e in
        let at : length a + (k - length a) ≡ k = omega arith in
        let cut : take k (a ++ b) ≡ a ++ take (k - length a) b = rw at at (take-past a b (k - length a)) in
        rw cut (omega (arith, feeds_in-append a (take (k - length a) b), feeds_in-take (k - length a) b, length-append a b))

-- what is left, whatever bytes come, begins with a piece and its line feed
pub text_left-cut : (bytes : List ℕ) (place : Place) (end : ℕ) (more : List ℕ) → IsFeedAt bytes place.start end → BegunOrShort bytes place
    → unread_text (fed_more (fed_at bytes place) more) ≡ piece bytes place.start end ++ line_feed ∷ (drop (end + 1) bytes ++ more)
text_left-cut bytes place end more f begun = by place.begun refl
  where
    cut : drop place.start bytes ++ more ≡ piece bytes place.start end ++ line_feed ∷ (drop (end + 1) bytes ++ more)
    cut = ap (λ (t : List ℕ). t ++ more) (rest-cut bytes place.start end f) ∙ append_assoc (piece bytes place.start end) (line_feed ∷ drop (end + 1) bytes) more

    by : (d : Bool) → place.begun ≡ d → cond d (drop place.start bytes ++ more) (strip_bom (drop place.start bytes ++ more)) ≡ piece bytes place.start end ++ line_feed ∷ (drop (end + 1) bytes ++ more)
    by true e = cut
    by false e =
        let few : length (piece bytes place.start end) < 2 = omega (arith, length-piece bytes place.start end f.after (omega (arith, f.within)), begun e, f.within) in
        ap strip_bom cut ∙ strip_bom-feed (piece bytes place.start end) (drop (end + 1) bytes ++ more) few

-- the place behind a line that was passed
abbrev pub place_past : List ℕ → Place → ℕ → Place
place_past bytes place end = record {
  gone = place.gone + 1;
  begun = true;
  met = met_after place.met (strip_carriage_return (piece bytes place.start end));
  start = end + 1;
  searched = end + 1;
}

-- behind a line feed there is a place again
pub IsPlace-past : (bytes : List ℕ) (place : Place) (end : ℕ) → IsPlace bytes place → IsFeedAt bytes place.start end → IsPlace bytes (place_past bytes place end)
IsPlace-past bytes place end p f = record {
  in_order = omega arith;
  within = omega (arith, f.within);
  no_feed = λ k low high. absurd (omega arith);
  numbers = HasNumbers-past place.gone (piece bytes place.start end) (drop (end + 1) bytes)
      (piece-lacks bytes place.start end f.after (omega (arith, f.within)) f.first)
      (let P : List ℕ → Type 0 = HasNumbers place.gone in subst P (rest-cut bytes place.start end f) p.numbers);
}

-- a place behind a line feed has counted it
pub feeds-past : (bytes : List ℕ) (place : Place) (end : ℕ) → IsFeedAt bytes place.start end → line_feeds_so_far (fed_at bytes (place_past bytes place end)) ≡ line_feeds_so_far (fed_at bytes place)
feeds-past bytes place end f =
    omega (arith, ap line_feeds_in (rest-cut bytes place.start end f), feeds_in-feed (piece bytes place.start end) (drop (end + 1) bytes) (piece-lacks bytes place.start end f.after (omega (arith, f.within)) f.first))

-- a line that is passed over is none of those that are given
pub gives-skipped : (bytes : List ℕ) (place : Place) (end : ℕ) → IsFeedAt bytes place.start end → end - place.start ≤ line_limit → BegunOrShort bytes place
    → is_skipped place.met (strip_carriage_return (piece bytes place.start end)) ≡ true
    → HandsOutLines [] (fed_at bytes place) (fed_at bytes (place_past bytes place end))
gives-skipped bytes place end f short begun skipped = λ more ended.
    let a = piece bytes place.start end in
    ap (λ (t : List ℕ). lines_from place.gone place.met t ended) (text_left-cut bytes place end more f begun)
    ∙ lines_from-skipped place.gone place.met a (drop (end + 1) bytes ++ more) ended (piece-lacks bytes place.start end f.after (omega (arith, f.within)) f.first)
    (is_long-no a (omega (arith, length-piece bytes place.start end f.after (omega (arith, f.within))))) skipped

-- a line that is kept is given
pub gives-kept : (bytes : List ℕ) (place : Place) (end : ℕ) → IsFeedAt bytes place.start end → end - place.start ≤ line_limit → BegunOrShort bytes place
    → is_skipped place.met (strip_carriage_return (piece bytes place.start end)) ≡ false
    → HandsOutLines (record { number = place.gone + 1; bytes = strip_carriage_return (piece bytes place.start end) } ∷ []) (fed_at bytes place) (fed_at bytes (place_past bytes place end))
gives-kept bytes place end f short begun kept = λ more ended.
    let a = piece bytes place.start end in
    ap (λ (t : List ℕ). lines_from place.gone place.met t ended) (text_left-cut bytes place end more f begun)
    ∙ lines_from-kept place.gone place.met a (drop (end + 1) bytes ++ more) ended (piece-lacks bytes place.start end f.after (omega (arith, f.within)) f.first)
    (is_long-no a (omega (arith, length-piece bytes place.start end f.after (omega (arith, f.within))))) kept

-- numbers of fewer bytes
HasNumbers-drop : (gone n : ℕ) (a : List ℕ) → n ≤ length a → HasNumbers gone a → HasNumbers gone (drop n a)
HasNumbers-drop gone n a within numbers = λ k lt.
    let at = numbers (n + k) (omega (arith, length-drop n a)) in
    let size : length (take n a) ≡ n = length-take-le n a within in
    let cut : take (n + k) a ≡ take n a ++ take k (drop n a) =
    let whole = take-past (take n a) (drop n a) k in rw (size, take-append-drop n a) at whole in
    let here = rw cut at at in
    omega (arith, here, feeds_in-append (take n a) (take k (drop n a)))

-- the place behind the mark, if there is one
abbrev pub place_marked : Place → ℕ → Place
place_marked place start = record place { begun = true; start = start; searched = max place.searched start }

-- past the mark there is a place again
pub IsPlace-marked : (bytes : List ℕ) (place : Place) (n : ℕ) → IsPlace bytes place → place.start + n ≤ length bytes → IsPlace bytes (place_marked place (place.start + n))
IsPlace-marked bytes place n p room = record {
  in_order = omega arith;
  within = omega (arith, p.within);
  no_feed = λ k low high. p.no_feed k (omega arith) (omega arith);
  numbers = rw (← drop-drop n place.start bytes) (HasNumbers-drop place.gone n (drop place.start bytes) (omega (arith, length-drop place.start bytes)) p.numbers);
}

-- the mark is in no line
pub gives-marked : (bytes : List ℕ) (place : Place) (n : ℕ) → place.begun ≡ false → place.start + 3 ≤ length bytes
    → strip_bom (drop place.start bytes) ≡ drop n (drop place.start bytes) → HandsOutLines [] (fed_at bytes place) (fed_at bytes (place_marked place (place.start + n)))
gives-marked bytes place n begun room mark = λ more ended.
    let long : 3 ≤ length (drop place.start bytes) = omega (arith, length-drop place.start bytes) in
    rw begun (ap (λ (t : List ℕ). lines_from place.gone place.met t ended)
    (strip_bom-append (drop place.start bytes) more long ∙ ap (λ (t : List ℕ). t ++ more) (mark ∙ drop-drop n place.start bytes)))

-- nothing was given, and then what was given
pub Gives-after : (given : List Line) (a b d : Fed) → HandsOutLines [] a b → HandsOutLines given b d → HandsOutLines given a d
Gives-after given a b d f g = λ more ended. f more ended ∙ g more ended

-- a text that begins with more than a line may have
pub next-long : (bytes : List ℕ) (place : Place) (to : ℕ) → place.start + line_limit < to → to ≤ length bytes → NoFeed bytes place.start to → BegunOrShort bytes place
    → IsLongNext (place.gone + 1) (fed_at bytes place)
next-long bytes place to far within none begun = record { bytes = head; long = is_long-yes head (omega (arith, size)); next = first }
  where
    head : List ℕ
    head = piece bytes place.start (place.start + (line_limit + 1))

    size : length head ≡ line_limit + 1
    size = omega (arith, length-piece bytes place.start (place.start + (line_limit + 1)) (omega arith) (omega arith))

    cut : (more : List ℕ) → drop place.start bytes ++ more ≡ head ++ (drop (line_limit + 1) (drop place.start bytes) ++ more)
    cut more =
        let whole = take-append-drop (line_limit + 1) (drop place.start bytes) in
        let exact : place.start + (line_limit + 1) - place.start ≡ line_limit + 1 = omega arith in
        rw exact (ap (λ (t : List ℕ). t ++ more) (sym whole) ∙ append_assoc (take (line_limit + 1) (drop place.start bytes)) (drop (line_limit + 1) (drop place.start bytes)) more)

    lacks : Lacks head
    lacks = piece-lacks bytes place.start (place.start + (line_limit + 1)) (omega arith) (omega arith) (λ k low high. none k low (omega arith))

    text : (more : List ℕ) → unread_text (fed_more (fed_at bytes place) more) ≡ head ++ (drop (line_limit + 1) (drop place.start bytes) ++ more)
    text more = by place.begun refl
      where
        by : (d : Bool) → place.begun ≡ d → cond d (drop place.start bytes ++ more) (strip_bom (drop place.start bytes ++ more)) ≡ head ++ (drop (line_limit + 1) (drop place.start bytes) ++ more)
        by true e = cut more
        by false e = absurd (omega (arith, begun e))

    first : IsNext (record { number = place.gone + 1; bytes = head }) (fed_at bytes place)
    first = λ more ended.
        let F : List ℕ → Type 0 = λ t. slice_get (lines_from place.gone place.met t ended) 0 ≡ Some (record { number = place.gone + 1; bytes = head }) in
        subst F (sym (text more)) (lines_from-long place.gone place.met head (drop (line_limit + 1) (drop place.start bytes) ++ more) ended lacks size)

-- what is left is part of one line
pub part-left : (bytes : List ℕ) (place : Place) → place.start ≤ length bytes → length bytes ≤ place.start + line_limit → NoFeed bytes place.start (length bytes) → BegunOrShort bytes place
    → IsPart (fed_at bytes place)
part-left bytes place within short none begun = record { none = by place.begun refl; short = omega (arith, length-drop place.start bytes); no_feed = feeds_in-none (drop place.start bytes) lacks }
  where
    all : piece bytes place.start (length bytes) ≡ drop place.start bytes
    all = take_all (length bytes - place.start) (drop place.start bytes) (omega (arith, length-drop place.start bytes))

    lacks : Lacks (drop place.start bytes)
    lacks = subst Lacks all (piece-lacks bytes place.start (length bytes) within (omega arith) none)

    fits : is_long (drop place.start bytes) ≡ false
    fits = is_long-no (drop place.start bytes) (omega (arith, length-drop place.start bytes))

    by : (d : Bool) → place.begun ≡ d → lines_from place.gone place.met (cond d (drop place.start bytes) (strip_bom (drop place.start bytes))) false ≡ []
    by true e = lines_from-none place.gone place.met (drop place.start bytes) lacks fits
    by false e =
        let few : length (drop place.start bytes) < 3 = omega (arith, length-drop place.start bytes, begun e) in
        rw (strip_bom-short (drop place.start bytes) few) (lines_from-none place.gone place.met (drop place.start bytes) lacks fits)

-- a line that is not passed over, out of a piece of at most the limit
pub line-kept : (met : Bool) (a : List ℕ) → Lacks a → length a ≤ line_limit → is_skipped met (strip_carriage_return a) ≡ false → IsLine (strip_carriage_return a)
line-kept met a lacks short kept = record { nonempty = some (strip_carriage_return a) (is_header (strip_carriage_return a)) kept; short = less; no_feed = none }
  where
    some : (l : List ℕ) (h : Bool) → (is_empty l || (not met && h)) ≡ false → 0 < length l
    some [] h e = cc
    some (x ∷ l) h e = omega arith

    less : length (strip_carriage_return a) ≤ line_limit
    less = by (get_or a (length a - 1) 0 == 13)
      where
        by : (d : Bool) → length (cond d (take (length a - 1) a) a) ≤ line_limit
        by true = omega (arith, length-take (length a - 1) a)
        by false = short

    none : line_feeds_in (strip_carriage_return a) ≡ 0
    none = by (get_or a (length a - 1) 0 == 13)
      where
        by : (d : Bool) → line_feeds_in (cond d (take (length a - 1) a) a) ≡ 0
        by true =
            let whole = feeds_in-append (take (length a - 1) a) (drop (length a - 1) a) in
            let both_parts = rw (take-append-drop (length a - 1) a) at whole in
            omega (arith, both_parts, feeds_in-none a lacks)
        by false = feeds_in-none a lacks

-- the mark has no line feed
pub feeds-marked : (bytes : List ℕ) (place : Place) (n : ℕ) → line_feeds_in (drop n (drop place.start bytes)) ≡ line_feeds_in (drop place.start bytes)
    → place.gone + line_feeds_in (drop (place.start + n) bytes) ≡ place.gone + line_feeds_in (drop place.start bytes)
feeds-marked bytes place n h = rw (← drop-drop n place.start bytes) (omega (arith, h))

-- no line feed on and_parts sides of a place
pub NoFeed-join : (bytes : List ℕ) (from middle to : ℕ) → NoFeed bytes from middle → NoFeed bytes middle to → NoFeed bytes from to
NoFeed-join bytes from middle to low high = λ k past below. by k past below (nat_lt k middle) refl
  where
    by : (k : ℕ) → from ≤ k → k < to → (d : Bool) → nat_lt k middle ≡ d → is_line_feed (get_or bytes k 0) ≡ false
    by k past below true e = low k past (ltb-true k middle e)
    by k past below false e = high k (ltb-false k middle e) below

-- where a byte is left, its line has a number of 64 bits
pub number-fits : (bytes : List ℕ) (place : Place) → IsPlace bytes place → place.start < length bytes → place.gone + 1 < 2 ^ 64
number-fits bytes place p some = omega (arith, p.numbers 0 (omega (arith, length-drop place.start bytes)))

-- the first line feed of what is left, by that behind the bytes that were searched
pub feed-left : (bytes : List ℕ) (place : Place) (end : ℕ) → IsPlace bytes place → IsFeedAt bytes place.searched end → IsFeedAt bytes place.start end
feed-left bytes place end p f = record {
  after = omega (arith, p.in_order, f.after);
  within = f.within;
  first = NoFeed-join bytes place.start place.searched end p.no_feed f.first;
  here = f.here;
}

-- the whole text was searched
pub IsPlace-searched : (bytes : List ℕ) (place : Place) → IsPlace bytes place → NoFeed bytes place.searched (length bytes) → IsPlace bytes (record place { searched = length bytes })
IsPlace-searched bytes place p none = record {
  in_order = omega (arith, p.in_order, p.within);
  within = omega arith;
  no_feed = NoFeed-join bytes place.start place.searched (length bytes) p.no_feed none;
  numbers = p.numbers;
}

-- with more bytes a place is still one
pub IsPlace-append : (bytes piece : List ℕ) (place : Place) → IsPlace bytes place → place.gone + line_feeds_in (drop place.start bytes) + length piece < 2 ^ 64 → IsPlace (bytes ++ piece) place
IsPlace-append bytes piece place p room = record {
  in_order = p.in_order;
  within = omega (arith, length-append bytes piece, p.within);
  no_feed = λ k low high.
      let within : k < length bytes = omega (arith, p.within) in
      rw (get_or_append_left bytes piece 0 k within) (p.no_feed k low high);
  numbers =
      let within : place.start ≤ length bytes = omega (arith, p.in_order, p.within) in
      rw (drop-append-le place.start bytes piece within) (HasNumbers-append place.gone (drop place.start bytes) piece p.numbers room);
}

-- what was sought behind a place isn't there
pub none-behind : (bytes : List ℕ) (from many : ℕ) → ((k : ℕ) → 0 ≤ k → k < many → (slice_index (drop from bytes) k == 10) ≡ true → ⊥) → NoFeed bytes from (from + many)
none-behind bytes from many none k le lt = by (is_line_feed (slice_index bytes k)) refl
  where
    by : (d : Bool) → is_line_feed (slice_index bytes k) ≡ d → is_line_feed (slice_index bytes k) ≡ false
    by true e =
        let at : from + (k - from) ≡ k = omega (arith, le) in
        let same : slice_index (drop from bytes) (k - from) ≡ slice_index bytes k = get_or-drop from bytes (k - from) 0 ∙ ap (slice_index bytes) at in
        absurd (none (k - from) (omega arith) (omega (arith, le, lt)) (rw same e))
    by false e = e

-- what was sought behind a place stands there
pub feed-behind : (bytes : List ℕ) (from at : ℕ) → (slice_index (drop from bytes) at == 10) ≡ true → is_line_feed (slice_index bytes (from + at)) ≡ true
feed-behind bytes from at h =
    let same : slice_index (drop from bytes) at ≡ slice_index bytes (from + at) = get_or-drop from bytes at 0 in
    rw same at h
