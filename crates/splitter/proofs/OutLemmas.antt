-- Which streams the lines of an expression publish.
use Rattle.std.proofs.Common.{◌≡◌, ◌∙◌, ap, refl, ℕ, ◌+◌, ◌<◌, ◌≤◌, ◌==◌, true, false, List, [], ◌++◌, map, append-nil, arith}
use Rattle.std.specs.List.{All, filter, flat_map}
use Rattle.std.proofs.lemmas.List.Elements.{filter-append, All-nil, All-append, All-map, All-weaker}
use Rattle.std.proofs.lemmas.List.Folds.{flat_map-map}
use Rattle.semantics.specs.Denotation.{Streams}
use Rattle.semantics.specs.Expressions.{Ex, Read, Filter, Select, Union, Next, Fold}
use Rattle.automaton.specs.declared.line.Line.{Line}
use Rattle.automaton.specs.Flow.{given}
use Rattle.splitter.specs.declared.open.Open.{Open}
use Rattle.splitter.specs.Splitting.{Parts, parts_of, published_on, right_side_of}
use Rattle.splitter.proofs.ListLemmas.{filter_whole}
use Rattle.splitter.proofs.MeaningLemmas.{HasSource, HasSources, open_given}
use Rattle.splitter.proofs.NumberingLemmas.{parts_up, source_up}
use Rattle.event_types.proofs.NumberLemmas.{self_equal, less_other, more_other}
use Rattle.semantics.proofs.ReportLemmas.{filter_none}
use Rattle.semantics.proofs.ListLemmas.{every}

-- a number from one up to another
pub record Within (low high number : ℕ) : Type 0 where
  pub above : low ≤ number
  pub below : number < high

-- lines that publish streams with such numbers
abbrev pub OutsWithin : ℕ → ℕ → List Line → Type 0
OutsWithin low high lines = All (λ line. Within low high line.out) lines

wider : (low high lower higher : ℕ) → lower ≤ low → high ≤ higher → (lines : List Line) → OutsWithin low high lines → OutsWithin lower higher lines
wider low high lower higher h g lines all =
    All-weaker (λ line. Within low high line.out) (λ line. Within lower higher line.out) (λ line w. record { above = omega (arith, w.above); below = omega (arith, w.below) }) lines all

-- published lines publish one stream
pub published_outs : (stream : ℕ) (lines : List Open) → OutsWithin stream (stream + 1) (map (published_on stream) lines)
published_outs stream lines =
    All-map (λ line. Within stream (stream + 1) line.out) (published_on stream) lines (every (λ o. Within stream (stream + 1) stream) (λ o. record { above = omega arith; below = omega arith }) lines)

-- each hidden line publishes one of the numbers that the expression takes
source_outs : (f : Ex) (low : ℕ) (right : Parts) → low ≤ right.next → OutsWithin low right.next right.hidden → OutsWithin low (right_side_of f right).next (right_side_of f right).hidden
source_outs (Read stream) low right up all = All-nil (λ line. Within low right.next line.out)
source_outs f low right up all =
    All-append (λ line. Within low (right.next + 1) line.out) right.hidden (map (published_on right.next) right.open_lines)
    (wider low right.next low (right.next + 1) (omega arith) (omega arith) right.hidden all)
    (wider right.next (right.next + 1) low (right.next + 1) up (omega arith) (map (published_on right.next) right.open_lines) (published_outs right.next right.open_lines))

both_outs : (low mid high : ℕ) (lefts rights : List Line) → low ≤ mid → mid ≤ high → OutsWithin low mid lefts → OutsWithin mid high rights → OutsWithin low high (lefts ++ rights)
both_outs low mid high lefts rights h g left right =
    All-append (λ line. Within low high line.out) lefts rights (wider low mid low high (omega arith) g lefts left) (wider mid high low high h (omega arith) rights right)

-- the hidden lines of an expression publish its hidden streams
pub parts_outs : (e : Ex) (next : ℕ) → OutsWithin next (parts_of e next).next (parts_of e next).hidden
parts_outs (Read stream) next = All-nil (λ line. Within next next line.out)
parts_outs (Filter p e) next = parts_outs e next
parts_outs (Select m e) next = parts_outs e next
parts_outs (Union e f) next = both_outs next (parts_of e next).next _ _ _ (parts_up e next) (parts_up f (parts_of e next).next) (parts_outs e next) (parts_outs f (parts_of e next).next)
parts_outs (Next p e f) next =
    let mid = (parts_of e next).next in
    let up = parts_up f (parts_of e next).next in
    both_outs next (parts_of e next).next _ _ _ (parts_up e next) (omega (arith, parts_up f (parts_of e next).next, source_up f (parts_of f (parts_of e next).next))) (parts_outs e next)
    (source_outs f (parts_of e next).next (parts_of f (parts_of e next).next) (parts_up f (parts_of e next).next) (parts_outs f (parts_of e next).next))
parts_outs (Fold p q m e f) next =
    both_outs next (parts_of e next).next _ _ _ (parts_up e next) (omega (arith, parts_up f (parts_of e next).next, source_up f (parts_of f (parts_of e next).next))) (parts_outs e next)
    (source_outs f (parts_of e next).next (parts_of f (parts_of e next).next) (parts_up f (parts_of e next).next) (parts_outs f (parts_of e next).next))

-- the lines of one stream
abbrev pub of_stream : ℕ → List Line → List Line
of_stream stream lines = filter (λ line. line.out == stream) lines

-- above those streams nothing is published
pub none_above : (low high stream : ℕ) → high ≤ stream → (lines : List Line) → OutsWithin low high lines → of_stream stream lines ≡ []
none_above low high stream h lines all =
    filter_none (λ line. line.out == stream) lines (All-weaker (λ line. Within low high line.out) (λ line. (line.out == stream) ≡ false) (λ line w. less_other line.out stream (omega (arith, w.below))) lines all)

-- nor below them
pub none_below : (low high stream : ℕ) → stream < low → (lines : List Line) → OutsWithin low high lines → of_stream stream lines ≡ []
none_below low high stream h lines all =
    filter_none (λ line. line.out == stream) lines (All-weaker (λ line. Within low high line.out) (λ line. (line.out == stream) ≡ false) (λ line w. more_other line.out stream (omega (arith, w.above))) lines all)

-- where the second lines publish nothing on it, a stream has what the first publish
pub left_alone : (stream : ℕ) (lefts rights : List Line) → of_stream stream rights ≡ [] → of_stream stream (lefts ++ rights) ≡ of_stream stream lefts
left_alone stream lefts rights none = filter-append (λ line. line.out == stream) lefts rights ∙ ap (λ ls. of_stream stream lefts ++ ls) none ∙ append-nil (of_stream stream lefts)

-- and the other way round
pub right_alone : (stream : ℕ) (lefts rights : List Line) → of_stream stream lefts ≡ [] → of_stream stream (lefts ++ rights) ≡ of_stream stream rights
right_alone stream lefts rights none = filter-append (λ line. line.out == stream) lefts rights ∙ ap (λ ls. ls ++ of_stream stream rights) none

-- what lines that publish one stream give
pub published_give : (streams : Streams) (stream : ℕ) (lines : List Open) → flat_map (given streams) (of_stream stream (map (published_on stream) lines)) ≡ flat_map (open_given streams) lines
published_give streams stream lines =
    ap (flat_map (given streams)) (filter_whole (λ line. line.out == stream) (map (published_on stream) lines)
    (All-map (λ line. (line.out == stream) ≡ true) (published_on stream) lines (every (λ o. (stream == stream) ≡ true) (λ o. self_equal stream) lines)))
    ∙ flat_map-map (given streams) (published_on stream) lines

-- where each hidden stream is what its lines give, each right side has its stream
abbrev pub HasStreams : Streams → ℕ → ℕ → List Line → Type 0
HasStreams streams low high lines = (stream : ℕ) → low ≤ stream → stream < high → streams stream ≡ flat_map (given streams) (of_stream stream lines)

left_has : (streams : Streams) (low mid high : ℕ) (lefts rights : List Line) → mid ≤ high → OutsWithin mid high rights → HasStreams streams low high (lefts ++ rights) → HasStreams streams low mid lefts
left_has streams low mid high lefts rights up outs has stream above below =
    has stream above (omega arith) ∙ ap (flat_map (given streams)) (left_alone stream lefts rights (none_below mid high stream below rights outs))

right_has : (streams : Streams) (low mid high : ℕ) (lefts rights : List Line) → low ≤ mid → OutsWithin low mid lefts → HasStreams streams low high (lefts ++ rights) → HasStreams streams mid high rights
right_has streams low mid high lefts rights up outs has stream above below =
    has stream (omega arith) below ∙ ap (flat_map (given streams)) (right_alone stream lefts rights (none_above low mid stream above lefts outs))

-- the hidden lines of a right side, and its own
source_has : (streams : Streams) (f : Ex) (low : ℕ) (right : Parts) → low ≤ right.next → OutsWithin low right.next right.hidden
    → HasStreams streams low (right_side_of f right).next (right_side_of f right).hidden → HasSource streams f right
source_has streams (Read stream) low right up outs has = tt
source_has streams f low right up outs has =
    has right.next up (omega arith) ∙ ap (flat_map (given streams)) (right_alone right.next right.hidden (map (published_on right.next) right.open_lines) (none_above low right.next right.next (omega arith) right.hidden outs))
    ∙ published_give streams right.next right.open_lines

inner_has : (streams : Streams) (f : Ex) (low : ℕ) (right : Parts) → low ≤ right.next → OutsWithin low right.next right.hidden
    → ((stream : ℕ) → f ≡ Read stream → right.next ≡ low) → HasStreams streams low (right_side_of f right).next (right_side_of f right).hidden → HasStreams streams low right.next right.hidden
inner_has streams (Read s) low right up outs reads has = λ stream above below. absurd (let same = reads s refl in omega arith)
inner_has streams f low right up outs reads has =
    left_has streams low right.next (right.next + 1) right.hidden (map (published_on right.next) right.open_lines) (omega arith) (published_outs right.next right.open_lines) has

reads_none : (f : Ex) (next : ℕ) (stream : ℕ) → f ≡ Read stream → (parts_of f next).next ≡ next
reads_none f next stream is = ap (λ e. (parts_of e next).next) is

joined_has : (streams : Streams) (e f : Ex) (next : ℕ)
    → (HasStreams streams next (parts_of e next).next (parts_of e next).hidden → HasSources streams e next)
    → (HasStreams streams (parts_of e next).next (parts_of f (parts_of e next).next).next (parts_of f (parts_of e next).next).hidden → HasSources streams f (parts_of e next).next)
    → HasStreams streams next (right_side_of f (parts_of f (parts_of e next).next)).next ((parts_of e next).hidden ++ (right_side_of f (parts_of f (parts_of e next).next)).hidden)
    → HasSources streams e next × HasSources streams f (parts_of e next).next × HasSource streams f (parts_of f (parts_of e next).next)
joined_has streams e f next left right has =
    let mid : ℕ = (parts_of e next).next in
    let d : Parts = parts_of f (parts_of e next).next in
    let up : next ≤ (parts_of e next).next = parts_up e next in
    let up' : (parts_of e next).next ≤ (parts_of f (parts_of e next).next).next = parts_up f (parts_of e next).next in
    let top = source_up f (parts_of f (parts_of e next).next) in
    let outs = parts_outs f (parts_of e next).next in
    let source = source_outs f (parts_of e next).next (parts_of f (parts_of e next).next) up' outs in
    let behind = right_has streams next (parts_of e next).next _ (parts_of e next).hidden _ up (parts_outs e next) has in (
      left (left_has streams next (parts_of e next).next (right_side_of f (parts_of f (parts_of e next).next)).next (parts_of e next).hidden _ (omega arith) source has),
      right (inner_has streams f (parts_of e next).next (parts_of f (parts_of e next).next) up' outs (reads_none f (parts_of e next).next) behind),
      source_has streams f (parts_of e next).next (parts_of f (parts_of e next).next) up' outs behind,
    )

-- the hidden lines give the sources of the expression
pub has_sources : (streams : Streams) (e : Ex) (next : ℕ) → HasStreams streams next (parts_of e next).next (parts_of e next).hidden → HasSources streams e next
has_sources streams (Read stream) next has = tt
has_sources streams (Filter p e) next has = has_sources streams e next has
has_sources streams (Select m e) next has = has_sources streams e next has
has_sources streams (Union e f) next has = (
  has_sources streams e next (left_has streams next (parts_of e next).next _ (parts_of e next).hidden (parts_of f (parts_of e next).next).hidden (parts_up f (parts_of e next).next) (parts_outs f (parts_of e next).next) has),
  has_sources streams f (parts_of e next).next (right_has streams next (parts_of e next).next _ (parts_of e next).hidden (parts_of f (parts_of e next).next).hidden (parts_up e next) (parts_outs e next) has),
)
has_sources streams (Next p e f) next has = joined_has streams e f next (has_sources streams e next) (has_sources streams f (parts_of e next).next) has
has_sources streams (Fold p q m e f) next has = joined_has streams e f next (has_sources streams e next) (has_sources streams f (parts_of e next).next) has
