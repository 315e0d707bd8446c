-- Kinds that grow line by line.
use Rattle.std.proofs.Common.{◌≡◌, ◌∙◌, sym, ap, refl, subst, ℕ, ◌+◌, ◌<◌, ◌≤◌, ◌==◌, ◌||◌, Bool, true, false, cond, length, get_or, take, drop, add-one, List, [], ◌∷◌, ◌++◌, map, append-nil, append_assoc, arith}
use Rattle.std.specs.Prelude.{Some, slice_get}
use Rattle.std.specs.List.{All, list_any}
use Rattle.std.proofs.Math.Seq.{drop-cons, take-append_seam}
use Rattle.std.proofs.lemmas.List.{drop_all, length-append}
use Rattle.std.proofs.lemmas.Bool.Decides.{nat_tests}
use Rattle.std.proofs.lemmas.Option.{slice_get_within}
use Rattle.std.proofs.lemmas.List.Elements.{All-nil, All-cons, All-head, All-tail, All-weaker}
use Rattle.event_types.specs.declared.kind.Kind.{Kind}
use Rattle.event_types.proofs.NumberLemmas.{is_same, same_number, less_other}
use Rattle.automaton.specs.declared.line.Line.{Line}
use Rattle.automaton.specs.LineKinds.{LineFits, LineGives}
use Rattle.splitter.specs.declared.open.Open.{Open}
use Rattle.splitter.specs.Splitting.{published_on}
use Rattle.splitter.specs.Growing.{GrowInTurn, grown}
use Rattle.splitter.proofs.LineLemmas.{OpenGives, get_more, get_next, open_more}
use Rattle.splitter.proofs.OneLemmas.{same_line}

-- kinds stay, and others come behind
pub record IsLonger (old new : List (List Kind)) : Type 0 where
  pub more : List (List Kind)
  pub is : new ≡ old ++ more

grown_longer : (line : Line) (out : List Kind) (kinds : List (List Kind)) → IsLonger kinds (grown line out kinds)
grown_longer line out kinds =
    elim (line.out == length kinds) as (λ b. IsLonger kinds (cond b (kinds ++ out ∷ []) kinds)) [
      | true ↦ record { more = out ∷ []; is = refl }
      | false ↦ record { more = []; is = sym (append-nil kinds) }
    ]

-- what is longer than a longer list is longer
pub longer_twice : (old mid new : List (List Kind)) → IsLonger old mid → IsLonger mid new → IsLonger old new
longer_twice old mid new a b = record { more = a.more ++ b.more; is = b.is ∙ ap (λ ks. ks ++ b.more) a.is ∙ append_assoc old a.more b.more }

-- what was there are the first ones
pub longer_take : (old new : List (List Kind)) → IsLonger old new → take (length old) new ≡ old
longer_take old new long = ap (take (length old)) long.is ∙ take-append_seam old long.more

-- kinds that grow in turn are longer
pub longer : (kinds : List (List Kind)) (lines : List Line) (all : List (List Kind)) → GrowInTurn kinds lines all → IsLonger kinds all
longer kinds [] all h = record { more = []; is = sym h ∙ sym (append-nil kinds) }
longer kinds (line ∷ lines) all h = longer_twice kinds (grown line h.0 kinds) all (grown_longer line h.0 kinds) (longer (grown line h.0 kinds) lines all h.3)

-- a longer list has what was there
pub get_longer : (old new : List (List Kind)) (stream : ℕ) (kinds : List Kind) → IsLonger old new → slice_get old stream ≡ Some kinds → slice_get new stream ≡ Some kinds
get_longer old new stream kinds long e = ap (λ ks. slice_get ks stream) long.is ∙ get_more old long.more stream kinds e

-- an open line gives the same over a longer list
pub open_longer : (old new : List (List Kind)) (out : List Kind) (line : Open) → IsLonger old new → OpenGives old out line → OpenGives new out line
open_longer old new out line long h = subst (λ (ks : List (List Kind)). OpenGives ks out line) (sym long.is) (open_more old long.more out line h)

-- a line is an open line with a stream
line_longer : (old new : List (List Kind)) (out : List Kind) (line : Line) → IsLonger old new → LineGives old line out → LineGives new line out
line_longer old new out line long h = open_longer old new out (record { root = line.root; hops = line.hops; last = line.last }) long h

-- a line that fits, fits a longer list
pub fits_longer : (old new : List (List Kind)) (line : Line) → IsLonger old new → LineFits old line → LineFits new line
fits_longer old new line long h = (h.0, line_longer old new h.0 line long h.1, get_longer old new line.out h.0 long h.2)

-- each line fits the kinds in the end
pub grow_fits : (kinds : List (List Kind)) (lines : List Line) (all : List (List Kind)) → GrowInTurn kinds lines all → All (LineFits all) lines
grow_fits kinds [] all h = All-nil (LineFits all)
grow_fits kinds (line ∷ lines) all h =
    let rest = longer (grown line h.0 kinds) lines all h.3 in
    let whole = longer_twice kinds (grown line h.0 kinds) all (grown_longer line h.0 kinds) rest in
    All-cons (LineFits all) line lines (h.0, line_longer kinds all h.0 line whole h.1, get_longer (grown line h.0 kinds) all line.out h.0 rest h.2)
    (grow_fits (grown line h.0 kinds) lines all h.3)

-- one line after another
pub grow_append : (kinds : List (List Kind)) (lines others : List Line) (mid all : List (List Kind)) → GrowInTurn kinds lines mid → GrowInTurn mid others all → GrowInTurn kinds (lines ++ others) all
grow_append kinds [] others mid all h g = subst (λ (ks : List (List Kind)). GrowInTurn ks others all) (sym h) g
grow_append kinds (line ∷ lines) others mid all h g = (h.0, h.1, h.2, grow_append (grown line h.0 kinds) lines others mid all h.3 g)

-- they grow to one list
pub grow_same : (kinds : List (List Kind)) (lines : List Line) (all other : List (List Kind)) → GrowInTurn kinds lines all → GrowInTurn kinds lines other → all ≡ other
grow_same kinds [] all other h g = sym h ∙ g
grow_same kinds (line ∷ lines) all other h g =
    let out : h.0 ≡ g.0 = same_line kinds line h.0 g.0 h.1 g.1 in
    grow_same (grown line g.0 kinds) lines all other (subst (λ (ks : List Kind). GrowInTurn (grown line ks kinds) lines all) out h.3) g.3

-- the lines of one stream
module _ (stream : ℕ) (out : List Kind) where
  -- where its kinds are there, they stay
  pub published_stay : (kinds : List (List Kind)) (lines : List Open) → slice_get kinds stream ≡ Some out → All (OpenGives kinds out) lines → GrowInTurn kinds (map (published_on stream) lines) kinds
  published_stay kinds [] there all = refl
  published_stay kinds (line ∷ lines) there all =
      let stays : grown (published_on stream line) out kinds ≡ kinds = ap (λ b. cond b (kinds ++ out ∷ []) kinds) (less_other stream (length kinds) (slice_get_within kinds stream out there)) in
      let tail = All-tail (OpenGives kinds out) line lines all in (
        out,
        All-head (OpenGives kinds out) line lines all,
        ap (λ ks. slice_get ks stream) stays ∙ there,
        subst (λ (ks : List (List Kind)). GrowInTurn ks (map (published_on stream) lines) kinds) (sym stays) (published_stay kinds lines there tail),
      )

  -- where it is the next, they come behind
  pub published_grow : (kinds : List (List Kind)) (lines : List Open) → stream ≡ length kinds → 0 < length lines → All (OpenGives kinds out) lines → GrowInTurn kinds (map (published_on stream) lines) (kinds ++ out ∷ [])
  published_grow kinds [] next some all = absurd (omega (arith, some))
  published_grow kinds (line ∷ lines) next some all =
      let grows : grown (published_on stream line) out kinds ≡ kinds ++ out ∷ [] = ap (λ b. cond b (kinds ++ out ∷ []) kinds) (is_same stream (length kinds) next) in
      let there : slice_get (kinds ++ out ∷ []) stream ≡ Some out = ap (slice_get (kinds ++ out ∷ [])) next ∙ get_next kinds out [] in
      let tail =
      All-weaker (OpenGives kinds out) (OpenGives (kinds ++ out ∷ []) out) (λ o h. open_more kinds (out ∷ []) out o h) lines (All-tail (OpenGives kinds out) line lines all) in (
        out,
        All-head (OpenGives kinds out) line lines all,
        ap (λ ks. slice_get ks stream) grows ∙ there,
        subst (λ (ks : List (List Kind)). GrowInTurn ks (map (published_on stream) lines) (kinds ++ out ∷ [])) (sym grows) (published_stay (kinds ++ out ∷ []) lines there tail),
      )

-- line by line
-- the kinds have grown by the lines up to here, and grow on by the rest
pub record GrowsFrom (first : List (List Kind)) (lines : List Line) (index : ℕ) (kinds : List (List Kind)) : Type 0 where
  pub rest : (all : List (List Kind)) × GrowInTurn kinds (drop index lines) all
  pub whole : (all : List (List Kind)) → GrowInTurn kinds (drop index lines) all → GrowInTurn first lines all
  pub longer : IsLonger first kinds

-- before any line the kinds have grown by none
pub grows_first : (first : List (List Kind)) (lines : List Line) → ((all : List (List Kind)) × GrowInTurn first lines all) → GrowsFrom first lines 0 first
grows_first first lines h = record { rest = h; whole = λ all g. g; longer = record { more = []; is = sym (append-nil first) } }

module _ (first : List (List Kind)) (lines : List Line) (index : ℕ) (kinds : List (List Kind)) (line : Line) (inside : index < length lines) (is : line ≡ get_or lines index line) (grows : GrowsFrom first lines index kinds) where
  next_line : drop index lines ≡ line ∷ drop (index + 1) lines
  next_line = drop-cons lines index line inside ∙ (λ i. sym is i ∷ drop (sym (add-one index) i) lines)

  here : GrowInTurn kinds (line ∷ drop (index + 1) lines) grows.rest.0
  here = subst (λ (ls : List Line). GrowInTurn kinds ls grows.rest.0) next_line grows.rest.1

  -- the next line is typed
  pub line_typed : (out : List Kind) × LineGives kinds line out
  line_typed = (here.0, here.1)

  -- and they grow on behind it
  pub grows_next : (new : List (List Kind)) → ((out : List Kind) × LineGives kinds line out × (new ≡ grown line out kinds)) → GrowsFrom first lines (index + 1) new
  grows_next new g =
      let out : here.0 ≡ g.0 = same_line kinds line here.0 g.0 here.1 g.1 in
      let same : grown line here.0 kinds ≡ new = ap (λ ks. grown line ks kinds) out ∙ sym g.2 in record {
        rest = (grows.rest.0, subst (λ (ks : List (List Kind)). GrowInTurn ks (drop (index + 1) lines) grows.rest.0) same here.3);
        whole =
            λ all h. grows.whole all (subst (λ (ls : List Line). GrowInTurn kinds ls all) (sym next_line)
            (here.0, here.1, here.2, subst (λ (ks : List (List Kind)). GrowInTurn ks (drop (index + 1) lines) all) (sym same) h));
        longer = longer_twice first kinds new grows.longer (subst (IsLonger kinds) (sym g.2) (grown_longer line g.0 kinds));
      }

-- behind all lines they have grown
pub grown_all : (first : List (List Kind)) (lines : List Line) (index : ℕ) (kinds : List (List Kind)) → length lines ≤ index → GrowsFrom first lines index kinds → GrowInTurn first lines kinds
grown_all first lines index kinds past grows = grows.whole kinds (subst (λ (ls : List Line). GrowInTurn kinds ls kinds) (sym (drop_all index lines past)) refl)

-- each stream that came has a line
pub grow_has : (kinds : List (List Kind)) (lines : List Line) (all : List (List Kind)) → GrowInTurn kinds lines all → (stream : ℕ) → length kinds ≤ stream → stream < length all → list_any (λ line. line.out == stream) lines ≡ true
grow_has kinds [] all h stream above below = let same = ap length h in absurd (omega (arith, same))
grow_has kinds (line ∷ lines) all h stream above below = go (λ up. grow_has (grown line h.0 kinds) lines all h.3 stream up below) (line.out == length kinds) refl (line.out == stream) refl
  where
    longer_by_one : (line.out == length kinds) ≡ true → length (grown line h.0 kinds) ≡ length kinds + 1
    longer_by_one e = ap (λ b. length (cond b (kinds ++ h.0 ∷ []) kinds)) e ∙ length-append kinds (h.0 ∷ [])

    as_long : (line.out == length kinds) ≡ false → length (grown line h.0 kinds) ≡ length kinds
    as_long e = ap (λ b. length (cond b (kinds ++ h.0 ∷ []) kinds)) e

    not_least : (length kinds == stream) ≡ false → length kinds + 1 ≤ stream
    not_least e = grind (arith, nat_tests)

    above_next : (line.out == length kinds) ≡ true → (line.out == stream) ≡ false → length kinds + 1 ≤ stream
    above_next is own = not_least (ap (λ n. n == stream) (sym (same_number line.out (length kinds) is)) ∙ own)

    go : (length (grown line h.0 kinds) ≤ stream → list_any (λ l. l.out == stream) lines ≡ true) → (b : Bool) → (line.out == length kinds) ≡ b → (own : Bool) → (line.out == stream) ≡ own
        → (own || list_any (λ l. l.out == stream) lines) ≡ true
    go rest b is true own = refl
    go rest true is false own = rest (omega (arith, longer_by_one is, above_next is own))
    go rest false is false own = rest (omega (arith, as_long is))
