-- The lines of a typed expression are typed, and give the kinds of their streams.
use Rattle.std.proofs.Common.{◌≡◌, ◌∙◌, sym, ap, refl, ℕ, ◌+◌, ◌<◌, length, List, [], ◌∷◌, ◌++◌, map, arith}
use Rattle.std.specs.Prelude.{None, Some, slice_get}
use Rattle.std.specs.List.{All}
use Rattle.std.proofs.lemmas.List.{length-append, length-map}
use Rattle.std.proofs.lemmas.List.Elements.{All-nil, All-cons, All-append, All-map, All-weaker}
use Rattle.event_types.specs.declared.kind.Kind.{Kind}
use Rattle.semantics.specs.Expressions.{Ex, Read, Filter, Select, Union, Next, Fold}
use Rattle.semantics.specs.Typing.{IsTypedOver}
use Rattle.automaton.specs.declared.step.Stage.TheVariants.{Keep, Make}
use Rattle.automaton.specs.declared.wait.Wait.{Wait}
use Rattle.automaton.specs.LineKinds.{WaitGives}
use Rattle.splitter.specs.declared.open.Open.{Open}
use Rattle.splitter.specs.Splitting.{Parts, RightSide, parts_of, published_on, right_side_of, split_lines, waiting_on, with_hop, with_stage}
use Rattle.splitter.specs.Stages.{staged}
use Rattle.splitter.specs.Growing.{GrowInTurn}
use Rattle.splitter.specs.SourceWidths.{HasWidths}
use Rattle.splitter.proofs.GrowLemmas.{IsLonger, get_longer, grow_append, longer, open_longer, published_grow, published_stay}
use Rattle.splitter.proofs.LineLemmas.{OpenGives, get_next, open_hop, rest_last}
use Rattle.splitter.proofs.WorkStepLemmas.{keep_staged, make_staged}
use Rattle.splitter.proofs.WidthLemmas.{width_is}

-- an expression has a line at least
pub some_lines : (e : Ex) (next : ℕ) → 0 < length (parts_of e next).open_lines
some_lines (Read stream) next = omega arith
some_lines (Filter p e) next = omega (arith, some_lines e next, length-map (parts_of e next).open_lines (with_stage (Keep p)))
some_lines (Select m e) next = omega (arith, some_lines e next, length-map (parts_of e next).open_lines (with_stage (Make m)))
some_lines (Union e f) next = omega (arith, some_lines e next, length-append (parts_of e next).open_lines (parts_of f (parts_of e next).next).open_lines)
some_lines (Next p e f) next =
    let wait : ℕ → Wait = λ stream. record { stream = stream; choose = p; fold = None } in
    omega (arith, some_lines e next, length-map (parts_of e next).open_lines (with_hop (wait (right_side_of f (parts_of f (parts_of e next).next)).stream)))
some_lines (Fold p q m e f) next =
    let wait : ℕ → Wait = λ stream. record { stream = stream; choose = p; fold = Some (record { on = q; set = m }) } in
    omega (arith, some_lines e next, length-map (parts_of e next).open_lines (with_hop (wait (right_side_of f (parts_of f (parts_of e next).next)).stream)))

-- behind these kinds come those of the hidden streams, and over all of them each open line gives these
pub record AreTypedParts (kinds : List (List Kind)) (parts : Parts) (out : List Kind) : Type 0 where
  pub after : List (List Kind)
  pub size : length after ≡ parts.next
  pub hidden : GrowInTurn kinds parts.hidden after
  pub opens : All (OpenGives after out) parts.open_lines

-- the same of a right side, which is waited for on a stream of these kinds
record IsTypedSource (kinds : List (List Kind)) (source : RightSide) (out : List Kind) : Type 0 where
  pub after : List (List Kind)
  pub size : length after ≡ source.next
  pub hidden : GrowInTurn kinds source.hidden after
  pub there : slice_get after source.stream ≡ Some out

opens_longer : (old new : List (List Kind)) (out : List Kind) (lines : List Open) → IsLonger old new → All (OpenGives old out) lines → All (OpenGives new out) lines
opens_longer old new out lines long all = All-weaker (OpenGives old out) (OpenGives new out) (λ line h. open_longer old new out line long h) lines all

-- a wait on the right side behind each line of the left
joined_typed : (wait : ℕ → Wait) → ((stream : ℕ) → (wait stream).stream ≡ stream) → (kinds : List (List Kind)) (left : Parts) (source : RightSide) (binding event out : List Kind)
    → (one : AreTypedParts kinds left binding) → IsTypedSource one.after source event → WaitGives (wait source.stream) binding event out → AreTypedParts kinds (waiting_on wait left source) out
joined_typed wait is kinds left source binding event out one two gives = record {
  after = two.after;
  size = two.size;
  hidden = grow_append kinds left.hidden source.hidden one.after two.after one.hidden two.hidden;
  opens =
      All-map (OpenGives two.after out) (with_hop (wait source.stream)) left.open_lines
      (All-weaker (OpenGives two.after binding) (λ line. OpenGives two.after out (with_hop (wait source.stream) line))
      (λ line h. open_hop two.after (wait source.stream) binding event out (ap (slice_get two.after) (is source.stream) ∙ two.there) gives line h) left.open_lines
      (opens_longer one.after two.after binding left.open_lines (longer one.after source.hidden two.after two.hidden) one.opens));
}

-- another right side is published on the next stream
hidden_typed : (kinds : List (List Kind)) (right : Parts) (out : List Kind) → 0 < length right.open_lines → AreTypedParts kinds right out
    → IsTypedSource kinds (record { stream = right.next; hidden = right.hidden ++ map (published_on right.next) right.open_lines; next = right.next + 1 }) out
hidden_typed kinds right out some one = record {
  after = one.after ++ out ∷ [];
  size = length-append one.after (out ∷ []) ∙ ap (λ n. n + 1) one.size;
  hidden =
      grow_append kinds right.hidden (map (published_on right.next) right.open_lines) one.after (one.after ++ out ∷ []) one.hidden
      (published_grow right.next out one.after right.open_lines (sym one.size) some one.opens);
  there = ap (slice_get (one.after ++ out ∷ [])) (sym one.size) ∙ get_next one.after out [];
}

module _ (count : ℕ) (kinds : ℕ → List Kind) where
  -- the first streams have these kinds
  abbrev pub Agrees : List (List Kind) → Type 0
  Agrees lists = (stream : ℕ) → stream < count → slice_get lists stream ≡ Some (kinds stream)

  agrees_longer : (old new : List (List Kind)) → IsLonger old new → Agrees old → Agrees new
  agrees_longer old new long agrees stream less = get_longer old new stream (kinds stream) long (agrees stream less)

  source_typed : (f : Ex) (next : ℕ) (lists : List (List Kind)) (out : List Kind) → Agrees lists → IsTypedOver f count kinds out → AreTypedParts lists (parts_of f next) out → IsTypedSource lists (right_side_of f (parts_of f next)) out
  source_typed (Read stream) next lists out agrees gives one = record {
    after = one.after;
    size = one.size;
    hidden = one.hidden;
    there = get_longer lists one.after stream out (longer lists [] one.after one.hidden) (agrees stream gives.0 ∙ ap (λ ks. Some ks) gives.1);
  }
  source_typed f next lists out agrees gives one = hidden_typed lists (parts_of f next) out (some_lines f next) one

  -- by induction on the expression
  pub parts_typed : (e : Ex) (next : ℕ) (lists : List (List Kind)) (out : List Kind) → Agrees lists → length lists ≡ next → IsTypedOver e count kinds out → HasWidths kinds e → AreTypedParts lists (parts_of e next) out
  parts_typed (Read stream) next lists out agrees size gives wide = record {
    after = lists;
    size = size;
    hidden = refl;
    opens = All-cons (OpenGives lists out) (record { root = stream; hops = []; last = [] }) [] (kinds stream, agrees stream gives.0, gives.1) (All-nil (OpenGives lists out));
  }
  parts_typed (Filter p e) next lists out agrees size gives wide =
      let one = parts_typed e next lists out agrees size gives.0 wide in record {
        after = one.after;
        size = one.size;
        hidden = one.hidden;
        opens =
            All-map (OpenGives one.after out) (with_stage (Keep p)) (parts_of e next).open_lines
            (All-weaker (OpenGives one.after out) (λ line. OpenGives one.after out (with_stage (Keep p) line))
            (λ line h. (h.0, h.1, rest_last one.after line.last (staged line.last (Keep p)) out out (λ ks g. keep_staged p line.last ks out g gives.1) line.hops h.0 h.2)) (parts_of e next).open_lines one.opens);
      }
  parts_typed (Select m e) next lists out agrees size gives wide =
      let mid = gives.0 in
      let one = parts_typed e next lists mid agrees size gives.1 wide.0 in
      let width = width_is count kinds e mid gives.1 ∙ wide.1 in record {
        after = one.after;
        size = one.size;
        hidden = one.hidden;
        opens =
            All-map (OpenGives one.after out) (with_stage (Make m)) (parts_of e next).open_lines
            (All-weaker (OpenGives one.after mid) (λ line. OpenGives one.after out (with_stage (Make m) line))
            (λ line h. (h.0, h.1, rest_last one.after line.last (staged line.last (Make m)) mid out (λ ks g. make_staged m line.last ks mid out g width gives.2) line.hops h.0 h.2)) (parts_of e next).open_lines one.opens);
      }
  parts_typed (Union e f) next lists out agrees size gives wide =
      let one = parts_typed e next lists out agrees size gives.0 wide.0 in
      let long = longer lists (parts_of e next).hidden one.after one.hidden in
      let two = parts_typed f (parts_of e next).next one.after out (agrees_longer lists one.after long agrees) one.size gives.1 wide.1 in
      let right = parts_of f (parts_of e next).next in record {
        after = two.after;
        size = two.size;
        hidden = grow_append lists (parts_of e next).hidden right.hidden one.after two.after one.hidden two.hidden;
        opens =
            All-append (OpenGives two.after out) (parts_of e next).open_lines right.open_lines
            (opens_longer one.after two.after out (parts_of e next).open_lines (longer one.after right.hidden two.after two.hidden) one.opens) two.opens;
      }
  parts_typed (Next p e f) next lists out agrees size gives wide =
      let one = parts_typed e next lists gives.0 agrees size gives.2 wide.0 in
      let still = agrees_longer lists one.after (longer lists (parts_of e next).hidden one.after one.hidden) agrees in
      let two = source_typed f (parts_of e next).next one.after gives.1 still gives.3 (parts_typed f (parts_of e next).next one.after gives.1 still one.size gives.3 wide.1) in
      joined_typed (λ stream. record { stream = stream; choose = p; fold = None }) (λ stream. refl) lists (parts_of e next) (right_side_of f (parts_of f (parts_of e next).next)) gives.0 gives.1 out one two (gives.4, gives.5)
  parts_typed (Fold p q m e f) next lists out agrees size gives wide =
      let one = parts_typed e next lists out agrees size gives.1 wide.0 in
      let still = agrees_longer lists one.after (longer lists (parts_of e next).hidden one.after one.hidden) agrees in
      let two = source_typed f (parts_of e next).next one.after gives.0 still gives.2 (parts_typed f (parts_of e next).next one.after gives.0 still one.size gives.2 wide.1) in
      joined_typed (λ stream. record { stream = stream; choose = p; fold = Some (record { on = q; set = m }) }) (λ stream. refl) lists (parts_of e next) (right_side_of f (parts_of f (parts_of e next).next)) out gives.0 out one two
      (gives.3, (gives.4, gives.5, refl))

  -- kinds that grow by the lines of an expression, up to the next number
  pub record GrowBy (lists : List (List Kind)) (e : Ex) (stream next : ℕ) : Type 0 where
    pub all : List (List Kind)
    pub grow : GrowInTurn lists (split_lines e stream next) all
    pub size : length all ≡ (parts_of e next).next

  -- the lines of a typed expression are typed in turn
  pub split_typed : (e : Ex) (stream next : ℕ) (lists : List (List Kind)) (out : List Kind) → Agrees lists → length lists ≡ next → slice_get lists stream ≡ Some out → IsTypedOver e count kinds out → HasWidths kinds e → GrowBy lists e stream next
  split_typed e stream next lists out agrees size there gives wide =
      let one = parts_typed e next lists out agrees size gives wide in record {
        all = one.after;
        grow =
            grow_append lists (parts_of e next).hidden (map (published_on stream) (parts_of e next).open_lines) one.after one.after one.hidden
            (published_stay stream out one.after (parts_of e next).open_lines (get_longer lists one.after stream out (longer lists (parts_of e next).hidden one.after one.hidden) there) one.opens);
        size = one.size;
      }
