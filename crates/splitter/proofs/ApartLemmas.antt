-- The lines of one query read and publish streams apart from those of later queries.
use Rattle.std.proofs.Common.{◌≡◌, ◌≢◌, ◌∙◌, ap, refl, ℕ, zero, suc, ◌+◌, ◌-◌, ◌<◌, ◌≤◌, ◌==◌, ◌||◌, nat_lt, Bool, true, false, List, [], ◌∷◌, ◌++◌, map, ◌⊎◌, inl, inr, arith}
use Rattle.std.specs.List.{All, list_any, range_with_len}
use Rattle.std.proofs.lemmas.Bool.Decides.{nat_tests}
use Rattle.std.proofs.lemmas.List.Elements.{All-nil, All-cons, All-head, All-tail, All-append, All-map, All-weaker}
use Rattle.std.proofs.lemmas.List.Folds.{list_any-append}
use Rattle.semantics.specs.Expressions.{Ex, Read, Filter, Select, Union, Next, Fold}
use Rattle.semantics.specs.Reading.{ReadsOnly}
use Rattle.automaton.specs.declared.line.Hop.{Hop}
use Rattle.automaton.specs.declared.line.Line.{Line}
use Rattle.automaton.specs.Work.{ReadsNone, is_in}
use Rattle.splitter.specs.Laws.{IsApart, hidden_streams, split_order}
use Rattle.splitter.specs.Splitting.{parts_of, published_on, split_lines}
use Rattle.splitter.proofs.NumberingLemmas.{parts_up}
use Rattle.splitter.proofs.OutLemmas.{Within, parts_outs}
use Rattle.splitter.proofs.ReadLemmas.{LineReads, PartsRead, parts_read}
use Rattle.event_types.proofs.NumberLemmas.{self_equal, less_other, more_other}
use Rattle.semantics.proofs.ListLemmas.{every}

-- lists of numbers
pub any_left : {X : Type 0} (p : X → Bool) (xs ys : List X) → list_any p xs ≡ true → list_any p (xs ++ ys) ≡ true
any_left p xs ys e = list_any-append p xs ys ∙ ap (λ b. b || list_any p ys) e

or_true : (a : Bool) → (a || true) ≡ true
or_true true = refl
or_true false = refl

-- the same of the second list
pub any_right : {X : Type 0} (p : X → Bool) (xs ys : List X) → list_any p ys ≡ true → list_any p (xs ++ ys) ≡ true
any_right p xs ys e = list_any-append p xs ys ∙ ap (λ b. list_any p xs || b) e ∙ or_true (list_any p xs)

-- what is so of each number of a range is so of all in its list
pub range_all : (P : ℕ → Type 0) (a many : ℕ) → ((x : ℕ) → a ≤ x → x < a + many → P x) → All P (range_with_len a many)
range_all P a zero each = All-nil P
range_all P a (suc many) each = All-cons P a (range_with_len (a + 1) many) (each a (omega arith) (omega arith)) (range_all P (a + 1) many (λ x h g. each x (omega arith) (omega arith)))

range_has : (a many x : ℕ) → a ≤ x → x < a + many → is_in (range_with_len a many) x ≡ true
range_has a zero x h g = absurd (omega arith)
range_has a (suc many) x h g = go (λ k. range_has (a + 1) many x k (omega arith)) (x == a) refl
  where
    above : (x == a) ≡ false → a + 1 ≤ x
    above e = grind (arith, nat_tests)

    go : (a + 1 ≤ x → is_in (range_with_len (a + 1) many) x ≡ true) → (b : Bool) → (x == a) ≡ b → (b || is_in (range_with_len (a + 1) many) x) ≡ true
    go rest true e = refl
    go rest false e = rest (above e)

-- below a number or not
pub is_below : (x n : ℕ) → (x < n) ⊎ (n ≤ x)
is_below x n = go (nat_lt x n) refl
  where
    low : nat_lt x n ≡ true → x < n
    low e = grind (arith, nat_tests)

    high : nat_lt x n ≡ false → n ≤ x
    high e = grind (arith, nat_tests)

    go : (b : Bool) → nat_lt x n ≡ b → (x < n) ⊎ (n ≤ x)
    go true e = inl (low e)
    go false e = inr (high e)

-- what is so of each stream that is read
pub reads_weaker : (IsSo IsThus : ℕ → Type 0) → ((stream : ℕ) → IsSo stream → IsThus stream) → (e : Ex) → ReadsOnly IsSo e → ReadsOnly IsThus e
reads_weaker IsSo IsThus each (Read stream) so = each stream so
reads_weaker IsSo IsThus each (Filter p e) so = reads_weaker IsSo IsThus each e so
reads_weaker IsSo IsThus each (Select m e) so = reads_weaker IsSo IsThus each e so
reads_weaker IsSo IsThus each (Union e f) so = (reads_weaker IsSo IsThus each e so.0, reads_weaker IsSo IsThus each f so.1)
reads_weaker IsSo IsThus each (Next p e f) so = (reads_weaker IsSo IsThus each e so.0, reads_weaker IsSo IsThus each f so.1)
reads_weaker IsSo IsThus each (Fold p q m e f) so = (reads_weaker IsSo IsThus each e so.0, reads_weaker IsSo IsThus each f so.1)

-- the streams of a query and of those before it, and those of later ones
-- a stream that isn't behind the query's own, or one of its hidden streams
abbrev pub Earlier : ℕ → ℕ → ℕ → ℕ → Type 0
Earlier out next last stream = (stream ≤ out) ⊎ ((next ≤ stream) × (stream < last))

-- a stream behind it that is none of them
abbrev pub Later : ℕ → ℕ → ℕ → ℕ → Type 0
Later out next last stream = (out < stream) × ((stream < next) ⊎ (last ≤ stream))

module _ (out next last : ℕ) where
  are_apart : (s x : ℕ) → Earlier out next last s → Later out next last x → (s == x) ≡ false
  are_apart s x (inl a) late = less_other s x (omega (arith, late.0))
  are_apart s x (inr a) late = go late.1
    where
      go : (x < next) ⊎ (last ≤ x) → (s == x) ≡ false
      go (inl b) = more_other s x (omega (arith, a.0, b))
      go (inr b) = less_other s x (omega (arith, a.1, b))

  are_apart_too : (s x : ℕ) → Earlier out next last s → Later out next last x → (x == s) ≡ false
  are_apart_too s x (inl a) late = more_other x s (omega (arith, late.0))
  are_apart_too s x (inr a) late = go late.1
    where
      go : (x < next) ⊎ (last ≤ x) → (x == s) ≡ false
      go (inl b) = less_other x s (omega (arith, a.0, b))
      go (inr b) = more_other x s (omega (arith, a.1, b))

  -- a stream of the query or of one before it is none of the later ones
  pub none_later : (xs : List ℕ) (s : ℕ) → All (Later out next last) xs → Earlier out next last s → is_in xs s ≡ false
  none_later [] s all early = refl
  none_later (x ∷ xs) s all early =
      λ i. are_apart s x early (All-head (Later out next last) x xs all) i || none_later xs s (All-tail (Later out next last) x xs all) early i

  -- a later stream is none of the query or of those before it
  pub none_earlier : (xs : List ℕ) (x : ℕ) → All (Earlier out next last) xs → Later out next last x → is_in xs x ≡ false
  none_earlier [] x all late = refl
  none_earlier (s ∷ xs) x all late =
      λ i. are_apart_too s x (All-head (Earlier out next last) s xs all) late i || none_earlier xs x (All-tail (Earlier out next last) s xs all) late i

-- each line of a query publishes one of its streams
module _ (e : Ex) (out next : ℕ) where
  -- the stream that it publishes is among them
  pub own_in : is_in (split_order e out next) out ≡ true
  own_in = any_right (λ number. out == number) (hidden_streams e next) (out ∷ []) (ap (λ b. b || false) (self_equal out))

  -- and so is what each of its lines publishes
  pub outs_in : All (λ line. is_in (split_order e out next) line.out ≡ true) (split_lines e out next)
  outs_in =
      let last = (parts_of e next).next in
      All-append (λ line. is_in (split_order e out next) line.out ≡ true) (parts_of e next).hidden (map (published_on out) (parts_of e next).open_lines)
      (All-weaker (λ line. Within next last line.out) (λ line. is_in (split_order e out next) line.out ≡ true)
      (λ line w. any_left (λ number. line.out == number) (hidden_streams e next) (out ∷ []) (range_has next (last - next) line.out w.above (omega (arith, w.below, parts_up e next)))) (parts_of e next).hidden (parts_outs e next))
      (All-map (λ line. is_in (split_order e out next) line.out ≡ true) (published_on out) (parts_of e next).open_lines
      (every (λ o. is_in (split_order e out next) out ≡ true) (λ o. own_in) (parts_of e next).open_lines))

-- the lines of one query
module _ (e : Ex) (out next : ℕ) (low : out < next) (reads : ReadsOnly (λ stream. stream < out) e) where
  abbrev last : ℕ
  last = (parts_of e next).next

  abbrev Early : ℕ → Type 0
  Early = Earlier out next last

  abbrev Late : ℕ → Type 0
  Late = Later out next last

  -- a query that reads streams below its own has streams apart
  pub is_apart : IsApart e out next
  is_apart = record {
    unread = reads_weaker (λ s. s < out) (λ s. s ≢ out) (λ s less same. absurd (omega arith)) e reads;
    above = low;
    fresh = reads_weaker (λ s. s < out) (λ s. s < next) (λ s less. omega arith) e reads;
  }

  -- its streams are not among the later ones
  pub order_early : All Early (split_order e out next)
  order_early =
      All-append Early (hidden_streams e next) (out ∷ []) (range_all Early next (last - next) (λ x h g. inr (h, omega (arith, parts_up e next))))
      (All-cons Early out [] (inl (omega arith)) (All-nil Early))

  -- nor is what its lines publish
  pub outs_early : All (λ line. Early line.out) (split_lines e out next)
  outs_early =
      All-append (λ line. Early line.out) (parts_of e next).hidden (map (published_on out) (parts_of e next).open_lines)
      (All-weaker (λ line. Within next last line.out) (λ line. Early line.out) (λ line w. inr (w.above, w.below)) (parts_of e next).hidden (parts_outs e next))
      (All-map (λ line. Early line.out) (published_on out) (parts_of e next).open_lines (every (λ o. Early out) (λ o. inl (omega arith)) (parts_of e next).open_lines))

  -- what is read is below the next number, and none of the streams from the own one up to the hidden ones
  early_read : (s : ℕ) → s < last → ((x : ℕ) → out ≤ x → x < next → s ≢ x) → Early s
  early_read s below apart = go (is_below s out) (is_below s next)
    where
      go : (s < out) ⊎ (out ≤ s) → (s < next) ⊎ (next ≤ s) → Early s
      go (inl a) b = inl (omega arith)
      go (inr a) (inl b) = absurd (apart s a b refl)
      go (inr a) (inr b) = inr (b, below)

  parts_early : (x : ℕ) → out ≤ x → x < next → PartsRead x (parts_of e next)
  parts_early x h g = parts_read x next e next g (omega arith) (reads_weaker (λ s. s < out) (λ s. (s < next) × (s ≢ x)) (λ s less. (omega arith, λ same. absurd (omega arith))) e reads)

  line_early : (most root : ℕ) (hops : List Hop) → most ≤ last → ((x : ℕ) → out ≤ x → x < next → LineReads x most root hops) → Early root × All (λ hop. Early hop.wait.stream) hops
  line_early most root hops small each = (
    early_read root (omega (arith, (each out (omega arith) low).root_read.below)) (λ x h g. (each x h g).root_read.apart),
    λ i d lt. early_read _ (omega (arith, ((each out (omega arith) low).hops_read i d lt).below)) (λ x h g. ((each x h g).hops_read i d lt).apart),
  )

  none_read : (more : List ℕ) → All Late more → (line : Line) → Early line.root × All (λ hop. Early hop.wait.stream) line.hops → ReadsNone more line
  none_read more late line early = record {
    root = none_later out next last more line.root late early.0;
    hops = All-weaker (λ hop. Early hop.wait.stream) (λ hop. is_in more hop.wait.stream ≡ false) (λ hop h. none_later out next last more hop.wait.stream late h) line.hops early.1;
  }

  -- its lines read none of the later streams
  pub lines_read_none : (more : List ℕ) → All Late more → All (ReadsNone more) (split_lines e out next)
  lines_read_none more late =
      All-append (ReadsNone more) (parts_of e next).hidden (map (published_on out) (parts_of e next).open_lines)
      (λ i d lt. none_read more late _ (line_early _ _ _ (omega (arith, (parts_outs e next i d lt).below)) (λ x h g. (parts_early x h g).hiddens i d lt)))
      (All-map (ReadsNone more) (published_on out) (parts_of e next).open_lines (λ i d lt. none_read more late _ (line_early last _ _ (omega arith) (λ x h g. (parts_early x h g).opens i d lt))))
