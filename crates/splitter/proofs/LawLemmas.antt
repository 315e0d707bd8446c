-- The lines of an expression in the order of work, and what they mean.
use Rattle.std.proofs.Common.{◌≡◌, ◌≢◌, ◌∙◌, sym, ap, refl, subst, ℕ, zero, suc, ◌+◌, ◌-◌, ◌<◌, ◌≤◌, ◌==◌, ◌||◌, Bool, true, false, length, List, [], ◌∷◌, ◌++◌, map, arith}
use Rattle.std.specs.List.{All, flat_map, range_with_len}
use Rattle.std.proofs.lemmas.Bool.Decides.{nat_tests}
use Rattle.std.proofs.lemmas.List.Elements.{filter_passes, All-append, All-head, All-tail, All-filter, All-map, All-same, All-weaker}
use Rattle.semantics.proofs.ReadingLemmas.{denote_agrees, reads_both}
use Rattle.semantics.specs.Denotation.{Streams, denote}
use Rattle.semantics.specs.Expressions.{Ex, Read, Filter, Select, Union, Next, Fold}
use Rattle.semantics.specs.Reading.{ReadsOnly}
use Rattle.automaton.proofs.AdditionLemmas.{added_alone, added_in_order, none_append}
use Rattle.event_types.proofs.NumberLemmas.{is_other, same_number, self_equal, less_other, more_other}
use Rattle.automaton.proofs.WorkLemmas.{completed_other, streams_derived}
use Rattle.automaton.specs.Additions.{AreFresh}
use Rattle.automaton.specs.declared.line.Line.{Line}
use Rattle.automaton.specs.Flow.{derived, given}
use Rattle.automaton.specs.Work.{IsInOrder, ReadsNone, completed, is_in}
use Rattle.splitter.specs.Laws.{AreUnused, IsApart, hidden_streams, split_order}
use Rattle.splitter.specs.Splitting.{parts_of, published_on, split_lines}
use Rattle.splitter.specs.Widths.{MeetWidths}
use Rattle.splitter.proofs.MeaningLemmas.{parts_give}
use Rattle.splitter.proofs.NumberingLemmas.{parts_up}
use Rattle.splitter.proofs.OutLemmas.{HasStreams, Within, has_sources, left_alone, none_above, none_below, of_stream, parts_outs, published_give, published_outs, right_alone}
use Rattle.splitter.proofs.ReadLemmas.{LineReads, PartsRead, Reads, parts_read}
use Rattle.semantics.proofs.ListLemmas.{every}

-- what is true beside anything is true
pub or_true : (a : Bool) → (a || true) ≡ true
or_true true = refl
or_true false = refl

-- whether a number is in a list
in_left : (xs ys : List ℕ) (s : ℕ) → is_in xs s ≡ true → is_in (xs ++ ys) s ≡ true
in_left [] ys s e = absurd (let none : false ≡ true = e in cc)
in_left (x ∷ xs) ys s e = go (in_left xs ys s) (s == x) e
  where
    go : (is_in xs s ≡ true → is_in (xs ++ ys) s ≡ true) → (b : Bool) → (b || is_in xs s) ≡ true → (b || is_in (xs ++ ys) s) ≡ true
    go rest true e = refl
    go rest false e = rest e

in_right : (xs ys : List ℕ) (s : ℕ) → is_in ys s ≡ true → is_in (xs ++ ys) s ≡ true
in_right [] ys s e = e
in_right (x ∷ xs) ys s e = ap (λ b. (s == x) || b) (in_right xs ys s e) ∙ or_true (s == x)

range_none : (a j x : ℕ) → x < a → is_in (range_with_len a j) x ≡ false
range_none a zero x h = refl
range_none a (suc j) x h = λ i. less_other x a h i || range_none (a + 1) j x (omega arith) i

range_past : (a j x : ℕ) → a + j ≤ x → is_in (range_with_len a j) x ≡ false
range_past a zero x h = refl
range_past a (suc j) x h = λ i. more_other x a (omega arith) i || range_past (a + 1) j x (omega arith) i

-- a number from the first on is in the range
pub range_has : (a j x : ℕ) → a ≤ x → x < a + j → is_in (range_with_len a j) x ≡ true
range_has a zero x h g = absurd (omega arith)
range_has a (suc j) x h g = go (λ k. range_has (a + 1) j x k (omega arith)) (x == a) refl
  where
    above : (x == a) ≡ false → a + 1 ≤ x
    above e = grind (arith, nat_tests)

    go : (a + 1 ≤ x → is_in (range_with_len (a + 1) j) x ≡ true) → (b : Bool) → (x == a) ≡ b → (b || is_in (range_with_len (a + 1) j) x) ≡ true
    go rest true e = refl
    go rest false e = rest (above e)

All_in : (P : ℕ → Type 0) (xs : List ℕ) (s : ℕ) → All P xs → is_in xs s ≡ true → P s
All_in P [] s all e = absurd (let none : false ≡ true = e in cc)
All_in P (x ∷ xs) s all e = go (All_in P xs s (All-tail P x xs all)) (s == x) refl e
  where
    go : (is_in xs s ≡ true → P s) → (b : Bool) → (s == x) ≡ b → (b || is_in xs s) ≡ true → P s
    go rest true is e = subst P (sym (same_number s x is)) (All-head P x xs all)
    go rest false is e = rest e

-- one expression
module _ (e : Ex) (out next : ℕ) (apart : IsApart e out next) where
  abbrev last : ℕ
  last = (parts_of e next).next

  up : next ≤ last
  up = parts_up e next

  lines_read : PartsRead out (parts_of e next)
  lines_read = parts_read out next e next apart.above (omega arith) (reads_both (λ s. s < next) (λ s. s ≢ out) e apart.fresh apart.unread)

  -- the lines of a hidden stream, and those of its own
  hidden_lines : (s : ℕ) → next ≤ s → of_stream s (split_lines e out next) ≡ of_stream s (parts_of e next).hidden
  hidden_lines s h =
      left_alone s (parts_of e next).hidden (map (published_on out) (parts_of e next).open_lines)
      (none_above out (out + 1) s (omega (arith, apart.above)) (map (published_on out) (parts_of e next).open_lines) (published_outs out (parts_of e next).open_lines))

  own_lines : of_stream out (split_lines e out next) ≡ of_stream out (map (published_on out) (parts_of e next).open_lines)
  own_lines =
      right_alone out (parts_of e next).hidden (map (published_on out) (parts_of e next).open_lines) (none_below next last out apart.above (parts_of e next).hidden (parts_outs e next))

  -- what is read before isn't worked on later
  not_later : (a j x : ℕ) → Reads out a x → is_in (range_with_len a j ++ out ∷ []) x ≡ false
  not_later a j x r = none_append (range_with_len a j) (out ∷ []) x (range_none a j x r.below) (ap (λ b. b || false) (is_other x out r.apart))

  line_later : (a j : ℕ) (line : Line) → LineReads out a line.root line.hops → ReadsNone (range_with_len a j ++ out ∷ []) line
  line_later a j line r = record {
    root = not_later a j line.root r.root_read;
    hops = All-weaker (λ hop. Reads out a hop.wait.stream) (λ hop. is_in (range_with_len a j ++ out ∷ []) hop.wait.stream ≡ false) (λ hop h. not_later a j hop.wait.stream h) line.hops r.hops_read;
  }

  own_order : IsInOrder (split_lines e out next) (out ∷ [])
  own_order = (
    All-same (ReadsNone (out ∷ [])) (of_stream out (split_lines e out next)) (of_stream out (map (published_on out) (parts_of e next).open_lines)) own_lines
        (All-filter (λ line. line.out == out) (ReadsNone (out ∷ [])) (map (published_on out) (parts_of e next).open_lines)
        (All-map (ReadsNone (out ∷ [])) (published_on out) (parts_of e next).open_lines
        (All-weaker (λ line. LineReads out last line.root line.hops) (λ line. ReadsNone (out ∷ []) (published_on out line)) (λ line r. line_later last 0 (published_on out line) r) (parts_of e next).open_lines lines_read.opens))),
    refl,
    tt,
  )

  hidden_order : (a j : ℕ) → next ≤ a → IsInOrder (split_lines e out next) (range_with_len a j ++ out ∷ [])
  hidden_order a zero h = own_order
  hidden_order a (suc j) h = (
    All-same (ReadsNone (a ∷ (range_with_len (a + 1) j ++ out ∷ []))) (of_stream a (split_lines e out next)) (of_stream a (parts_of e next).hidden) (hidden_lines a h)
        (λ i d lt. one_line a j _ (All-filter (λ line. line.out == a) (λ line. LineReads out line.out line.root line.hops) (parts_of e next).hidden lines_read.hiddens i d lt) (filter_passes (λ line. line.out == a) (parts_of e next).hidden i d lt)),
    not_later (a + 1) j a (record { below = omega arith; apart = λ same. absurd (omega (arith, apart.above)) }),
    hidden_order (a + 1) j (omega arith),
  )
    where
      one_line : (a j : ℕ) (line : Line) → LineReads out line.out line.root line.hops → (line.out == a) ≡ true → ReadsNone (range_with_len a (suc j) ++ out ∷ []) line
      one_line a j line r is = line_later a (suc j) line (subst (λ s. LineReads out s line.root line.hops) (same_number line.out a is) r)

  -- the lines of an expression are in order
  pub in_order : IsInOrder (split_lines e out next) (split_order e out next)
  in_order = hidden_order next (last - next) (omega arith)

  -- ---- what they mean
  hidden_in : (s : ℕ) → next ≤ s → s < last → is_in (split_order e out next) s ≡ true
  hidden_in s h g = in_left (hidden_streams e next) (out ∷ []) s (range_has next (last - next) s h (omega (arith, up)))

  own_in : is_in (split_order e out next) out ≡ true
  own_in = in_right (hidden_streams e next) (out ∷ []) out (ap (λ b. b || false) (self_equal out))

  other_in : (s : ℕ) → (s < next) × (s ≢ out) → is_in (split_order e out next) s ≡ false
  other_in s h = not_later next (last - next) s (record { below = h.0; apart = λ same. h.1 same })

  module _ (streams : Streams) where
    abbrev full : Streams
    full = completed (split_lines e out next) (split_order e out next) streams

    holds : All (λ s. full s ≡ derived (split_lines e out next) full s) (split_order e out next)
    holds = streams_derived (split_lines e out next) (split_order e out next) streams in_order

    has : HasStreams full next last (parts_of e next).hidden
    has s h g = All_in (λ s. full s ≡ derived (split_lines e out next) full s) (split_order e out next) s holds (hidden_in s h g) ∙ ap (flat_map (given full)) (hidden_lines s h)

    same : (s : ℕ) → (s < next) × (s ≢ out) → full s ≡ streams s
    same s h = completed_other (split_lines e out next) (split_order e out next) streams s (other_in s h)

    -- they give what the expression denotes over all streams
    pub means_it : MeetWidths e full → full out ≡ denote e streams
    means_it wide =
        All_in (λ s. full s ≡ derived (split_lines e out next) full s) (split_order e out next) out holds own_in
        ∙ ap (flat_map (given full)) own_lines ∙ published_give full out (parts_of e next).open_lines
        ∙ parts_give e next full (has_sources full e next has) wide
        ∙ denote_agrees (λ s. (s < next) × (s ≢ out)) full streams same e (reads_both (λ s. s < next) (λ s. s ≢ out) e apart.fresh apart.unread)

-- widths are met over streams that agree where the expression reads
widths_agree : (IsSo : ℕ → Type 0) (streams others : Streams) → ((stream : ℕ) → IsSo stream → streams stream ≡ others stream) → (e : Ex) → ReadsOnly IsSo e → MeetWidths e streams → MeetWidths e others
widths_agree IsSo streams others same (Read stream) reads wide = tt
widths_agree IsSo streams others same (Filter p e) reads wide = widths_agree IsSo streams others same e reads wide
widths_agree IsSo streams others same (Select m e) reads wide =
    (widths_agree IsSo streams others same e reads wide.0, subst (All (λ tuple. length tuple.vals ≡ m.width)) (denote_agrees IsSo streams others same e reads) wide.1)
widths_agree IsSo streams others same (Union e f) reads wide = (widths_agree IsSo streams others same e reads.0 wide.0, widths_agree IsSo streams others same f reads.1 wide.1)
widths_agree IsSo streams others same (Next p e f) reads wide = (widths_agree IsSo streams others same e reads.0 wide.0, widths_agree IsSo streams others same f reads.1 wide.1)
widths_agree IsSo streams others same (Fold p q m e f) reads wide = (widths_agree IsSo streams others same e reads.0 wide.0, widths_agree IsSo streams others same f reads.1 wide.1)

-- the lines give what the expression denotes, and change no other stream
pub lines_mean_it : (e : Ex) (out next : ℕ) (streams : Streams) → IsApart e out next → MeetWidths e streams
    → (completed (split_lines e out next) (split_order e out next) streams out ≡ denote e streams)
    × ((stream : ℕ) → is_in (split_order e out next) stream ≡ false → completed (split_lines e out next) (split_order e out next) streams stream ≡ streams stream)
lines_mean_it e out next streams apart wide = (
  means_it e out next apart streams
      (widths_agree (λ s. (s < next) × (s ≢ out)) streams (completed (split_lines e out next) (split_order e out next) streams) (λ s h. sym (same e out next apart streams s h)) e
      (reads_both (λ s. s < next) (λ s. s ≢ out) e apart.fresh apart.unread) wide),
  λ stream none. completed_other (split_lines e out next) (split_order e out next) streams stream none,
)

-- behind other lines
-- each line publishes one of the streams
publish_their_own : (e : Ex) (out next : ℕ) → IsApart e out next → All (λ line. is_in (split_order e out next) line.out ≡ true) (split_lines e out next)
publish_their_own e out next apart =
    All-append (λ line. is_in (split_order e out next) line.out ≡ true) (parts_of e next).hidden (map (published_on out) (parts_of e next).open_lines)
    (All-weaker (λ line. Within next (parts_of e next).next line.out) (λ line. is_in (split_order e out next) line.out ≡ true) (λ line w. hidden_in e out next apart line.out w.above w.below) (parts_of e next).hidden (parts_outs e next))
    (All-map (λ line. is_in (split_order e out next) line.out ≡ true) (published_on out) (parts_of e next).open_lines
    (every (λ o. is_in (split_order e out next) out ≡ true) (λ o. own_in e out next apart) (parts_of e next).open_lines))

-- a number of one list isn't in a list that has none of its numbers
apart_from : (xs ys : List ℕ) (s : ℕ) → All (λ x. is_in ys x ≡ false) xs → is_in ys s ≡ true → is_in xs s ≡ false
apart_from [] ys s all there = refl
apart_from (x ∷ xs) ys s all there = λ i. go (s == x) refl i || apart_from xs ys s (All-tail (λ x. is_in ys x ≡ false) x xs all) there i
  where
    go : (b : Bool) → (s == x) ≡ b → b ≡ false
    go true is = absurd (let none : false ≡ true = sym (All-head (λ x. is_in ys x ≡ false) x xs all) ∙ ap (is_in ys) (sym (same_number s x is)) ∙ there in cc)
    go false is = refl

fresh : (lines : List Line) (order : List ℕ) (e : Ex) (out next : ℕ) → IsApart e out next → AreUnused lines order (split_order e out next) → AreFresh lines order (split_lines e out next) (split_order e out next)
fresh lines order e out next apart unused = record {
  unread = unused.unread;
  outs = unused.unpublished;
  others_outs =
      All-weaker (λ line. is_in (split_order e out next) line.out ≡ true) (λ line. is_in order line.out ≡ false) (λ line there. apart_from order (split_order e out next) line.out unused.apart there) (split_lines e out next)
      (publish_their_own e out next apart);
  apart = unused.apart;
}

-- so they do behind other lines
pub added_mean_it : (lines : List Line) (order : List ℕ) (e : Ex) (out next : ℕ) (streams : Streams) → IsApart e out next → AreUnused lines order (split_order e out next)
    → (IsInOrder lines order → IsInOrder (lines ++ split_lines e out next) (order ++ split_order e out next))
    × (MeetWidths e (completed lines order streams) → completed (lines ++ split_lines e out next) (order ++ split_order e out next) streams out ≡ denote e (completed lines order streams))
    × ((stream : ℕ) → is_in (split_order e out next) stream ≡ false
    → completed (lines ++ split_lines e out next) (order ++ split_order e out next) streams stream ≡ completed lines order streams stream)
added_mean_it lines order e out next streams apart unused =
    let new = fresh lines order e out next apart unused in
    let alone = added_alone lines order (split_lines e out next) (split_order e out next) streams new in (
      λ ordered. added_in_order lines order (split_lines e out next) (split_order e out next) ordered (in_order e out next apart) new,
      λ wide. ap (λ (all : Streams). all out) alone ∙ (lines_mean_it e out next (completed lines order streams) apart wide).0,
      λ stream none. ap (λ (all : Streams). all stream) alone ∙ completed_other (split_lines e out next) (split_order e out next) (completed lines order streams) stream none,
    )
