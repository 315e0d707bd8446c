-- Lines that come to other lines.
use Rattle.std.proofs.Common.{◌≡◌, ◌∙◌, ap, refl, ℕ, ◌==◌, Bool, true, false, ◌||◌, List, [], ◌∷◌, ◌++◌, append-nil}
use Rattle.std.specs.List.{All, filter, flat_map}
use Rattle.std.proofs.lemmas.List.Elements.{filter-append, All-head, All-tail, All-same, All-filter, All-weaker}
use Rattle.semantics.specs.Denotation.{Streams}
use Rattle.semantics.specs.Programs.{with_stream}
use Rattle.automaton.specs.declared.line.Line.{Line}
use Rattle.automaton.specs.Additions.{AreFresh}
use Rattle.automaton.specs.Flow.{derived, given}
use Rattle.automaton.specs.Work.{IsInOrder, ReadsNone, completed, is_in}
use Rattle.event_types.proofs.NumberLemmas.{same_number, self_equal}
use Rattle.automaton.proofs.WorkLemmas.{completed_other}
use Rattle.std.proofs.lemmas.Bool.{or_parts}
use Rattle.semantics.proofs.ReportLemmas.{filter_none}

-- what isn't in either list isn't in both
pub none_append : (xs ys : List ℕ) (s : ℕ) → is_in xs s ≡ false → is_in ys s ≡ false → is_in (xs ++ ys) s ≡ false
none_append [] ys s e f = f
none_append (x ∷ xs) ys s e f = go (none_append xs ys s) (s == x) e
  where
    go : (is_in xs s ≡ false → is_in ys s ≡ false → is_in (xs ++ ys) s ≡ false) → (b : Bool) → (b || is_in xs s) ≡ false → (b || is_in (xs ++ ys) s) ≡ false
    go rest true e = e
    go rest false e = rest e f

not_here : (xs : List ℕ) (x s : ℕ) → is_in xs x ≡ false → is_in xs s ≡ true → (x == s) ≡ false
not_here xs x s e f = go (x == s) refl
  where
    go : (b : Bool) → (x == s) ≡ b → b ≡ false
    go true is = let same = ap (is_in xs) (same_number x s is) in absurd (let no : false ≡ true = cc in cc)
    go false is = refl

-- none of these lines publishes a stream of the list
none_publish : (xs : List ℕ) (s : ℕ) (lines : List Line) → is_in xs s ≡ true → All (λ line. is_in xs line.out ≡ false) lines → filter (λ line. line.out == s) lines ≡ []
none_publish xs s lines there all =
    filter_none (λ line. line.out == s) lines (All-weaker (λ line. is_in xs line.out ≡ false) (λ line. (line.out == s) ≡ false) (λ line e. not_here xs line.out s e there) lines all)

head_in : (s : ℕ) (xs : List ℕ) → is_in (s ∷ xs) s ≡ true
head_in s xs = ap (λ b. b || is_in xs s) (self_equal s)

tail_none : (s : ℕ) (xs : List ℕ) (lines : List Line) → All (λ line. is_in (s ∷ xs) line.out ≡ false) lines → All (λ line. is_in xs line.out ≡ false) lines
tail_none s xs lines all =
    All-weaker (λ line. is_in (s ∷ xs) line.out ≡ false) (λ line. is_in xs line.out ≡ false) (λ line e. (or_parts (line.out == s) (is_in xs line.out) e).1) lines all

both_none : (xs ys : List ℕ) (line : Line) → ReadsNone xs line → ReadsNone ys line → ReadsNone (xs ++ ys) line
both_none xs ys line r q = record {
  root = none_append xs ys line.root r.root q.root;
  hops = λ i d lt. none_append xs ys _ (r.hops i d lt) (q.hops i d lt);
}

module _ (lines others : List Line) where
  new_lines : (s : ℕ) (more : List ℕ) → All (λ line. is_in (s ∷ more) line.out ≡ false) lines → filter (λ line. line.out == s) (lines ++ others) ≡ filter (λ line. line.out == s) others
  new_lines s more all =
      filter-append (λ line. line.out == s) lines others ∙ ap (λ ls. ls ++ filter (λ line. line.out == s) others) (none_publish (s ∷ more) s lines (head_in s more) all)

  old_lines : (s : ℕ) (order : List ℕ) → All (λ line. is_in (s ∷ order) line.out ≡ false) others → filter (λ line. line.out == s) (lines ++ others) ≡ filter (λ line. line.out == s) lines
  old_lines s order all =
      filter-append (λ line. line.out == s) lines others ∙ ap (λ ls. filter (λ line. line.out == s) lines ++ ls) (none_publish (s ∷ order) s others (head_in s order) all)
      ∙ append-nil (filter (λ line. line.out == s) lines)

  new_order : (more : List ℕ) → All (λ line. is_in more line.out ≡ false) lines → IsInOrder others more → IsInOrder (lines ++ others) more
  new_order [] all ordered = tt
  new_order (s ∷ more) all ordered = (
    All-same (ReadsNone (s ∷ more)) (filter (λ line. line.out == s) (lines ++ others)) (filter (λ line. line.out == s) others) (new_lines s more all) ordered.0,
    ordered.1,
    new_order more (tail_none s more lines all) ordered.2,
  )

  -- the new streams, once the old ones are made
  new_streams : (more : List ℕ) (streams : Streams) → All (λ line. is_in more line.out ≡ false) lines → completed (lines ++ others) more streams ≡ completed others more streams
  new_streams [] streams all = refl
  new_streams (s ∷ more) streams all =
      ap (λ rows. completed (lines ++ others) more (with_stream streams s rows)) (ap (flat_map (given streams)) (new_lines s more all))
      ∙ new_streams more (with_stream streams s (derived others streams s)) (tail_none s more lines all)

fresh_tail : (lines : List Line) (s : ℕ) (order : List ℕ) (others : List Line) (more : List ℕ) → AreFresh lines (s ∷ order) others more → AreFresh lines order others more
fresh_tail lines s order others more fresh = record {
  unread = fresh.unread;
  outs = fresh.outs;
  others_outs = tail_none s order others fresh.others_outs;
  apart = All-tail (λ s. is_in more s ≡ false) s order fresh.apart;
}

-- fresh lines behind lines in order are in order
pub added_in_order : (lines : List Line) (order : List ℕ) (others : List Line) (more : List ℕ) → IsInOrder lines order → IsInOrder others more → AreFresh lines order others more → IsInOrder (lines ++ others) (order ++ more)
added_in_order lines [] others more ordered new fresh = new_order lines others more fresh.outs new
added_in_order lines (s ∷ order) others more ordered new fresh = (
  All-same (ReadsNone (s ∷ (order ++ more))) (filter (λ line. line.out == s) (lines ++ others)) (filter (λ line. line.out == s) lines) (old_lines lines others s order fresh.others_outs)
      (λ i d lt. both_none (s ∷ order) more _ (ordered.0 i d lt) (All-filter (λ line. line.out == s) (ReadsNone more) lines fresh.unread i d lt)),
  none_append order more s ordered.1 (All-head (λ s. is_in more s ≡ false) s order fresh.apart),
  added_in_order lines order others more ordered.2 new (fresh_tail lines s order others more fresh),
)

-- fresh lines give over what the lines gave what they give alone
pub added_alone : (lines : List Line) (order : List ℕ) (others : List Line) (more : List ℕ) (streams : Streams) → AreFresh lines order others more
    → completed (lines ++ others) (order ++ more) streams ≡ completed others more (completed lines order streams)
added_alone lines [] others more streams fresh = new_streams lines others more streams fresh.outs
added_alone lines (s ∷ order) others more streams fresh =
    ap (λ rows. completed (lines ++ others) (order ++ more) (with_stream streams s rows)) (ap (flat_map (given streams)) (old_lines lines others s order fresh.others_outs))
    ∙ added_alone lines order others more (with_stream streams s (derived lines streams s)) (fresh_tail lines s order others more fresh)

-- fresh lines change no stream that the lines gave
pub added_same : (lines : List Line) (order : List ℕ) (others : List Line) (more : List ℕ) (streams : Streams) → AreFresh lines order others more
    → (stream : ℕ) → is_in more stream ≡ false → completed (lines ++ others) (order ++ more) streams stream ≡ completed lines order streams stream
added_same lines order others more streams fresh stream e =
    ap (λ (all : Streams). all stream) (added_alone lines order others more streams fresh) ∙ completed_other others more (completed lines order streams) stream e
