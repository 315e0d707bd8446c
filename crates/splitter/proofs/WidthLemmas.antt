-- Typed expressions have widths, and where projections have them they meet tuples of their width.
use Rattle.std.proofs.Common.{◌≡◌, ◌∙◌, sym, ap, subst, ℕ, ◌+◌, length, List}
use Rattle.std.specs.Prelude.{None}
use Rattle.std.specs.List.{All}
use Rattle.std.proofs.lemmas.List.{length-append, length-map}
use Rattle.std.proofs.lemmas.List.Elements.{All-weaker}
use Rattle.event_types.specs.declared.kind.Kind.{Kind}
use Rattle.semantics.proofs.ReadingLemmas.{denote_agrees}
use Rattle.semantics.specs.Denotation.{Streams, denote}
use Rattle.semantics.specs.Expressions.{Ex, Read, Filter, Select, Union, Next, Fold}
use Rattle.semantics.specs.Kinds.{HasKinds, HaveKinds}
use Rattle.semantics.specs.Reading.{ReadsOnly}
use Rattle.semantics.proofs.KindLemmas.{kinds_length}
use Rattle.semantics.specs.Typing.{IsTypedOver}
use Rattle.scalar_expr.specs.Kinds.{sc_kind}
use Rattle.expressions.proofs.TypingLemmas.{typed_kinds}
use Rattle.automaton.proofs.TypingLemmas.{kinds_are}
use Rattle.splitter.specs.Widths.{MeetWidths}
use Rattle.splitter.specs.SourceWidths.{HasWidths, width_of}

module _ (count : ℕ) (kinds : ℕ → List Kind) where
  -- the width of an expression is the count of its kinds
  pub width_is : (e : Ex) (out : List Kind) → IsTypedOver e count kinds out → length out ≡ width_of kinds e
  width_is (Read stream) out h = ap length (sym h.1)
  width_is (Filter p e) out h = width_is e out h.0
  width_is (Select m e) out h = ap length (kinds_are m.parts h.0 None out h.2) ∙ length-map m.parts (λ s. sc_kind s h.0 None)
  width_is (Union e f) out h = width_is e out h.0
  width_is (Next p e f) out h = ap length (sym h.5) ∙ length-append h.0 h.1 ∙ (λ i. width_is e h.0 h.2 i + width_is f h.1 h.3 i)
  width_is (Fold p q m e f) out h = width_is e out h.1

  -- over streams of their kinds an expression with widths meets them
  pub wide_meets : (streams : Streams) → HaveKinds kinds count streams → (e : Ex) (out : List Kind) → IsTypedOver e count kinds out → HasWidths kinds e → MeetWidths e streams
  wide_meets streams all (Read stream) out h wide = tt
  wide_meets streams all (Filter p e) out h wide = wide_meets streams all e out h.0 wide
  wide_meets streams all (Select m e) out h wide = (
    wide_meets streams all e h.0 h.1 wide.0,
    All-weaker (HasKinds h.0) (λ tuple. length tuple.vals ≡ m.width) (λ tuple has. kinds_length h.0 tuple.vals has ∙ width_is e h.0 h.1 ∙ wide.1) (denote e streams)
        (typed_kinds e count kinds h.0 streams all h.1),
  )
  wide_meets streams all (Union e f) out h wide = (wide_meets streams all e out h.0 wide.0, wide_meets streams all f out h.1 wide.1)
  wide_meets streams all (Next p e f) out h wide = (wide_meets streams all e h.0 h.2 wide.0, wide_meets streams all f h.1 h.3 wide.1)
  wide_meets streams all (Fold p q m e f) out h wide = (wide_meets streams all e out h.1 wide.0, wide_meets streams all f h.0 h.2 wide.1)

-- they meet the same over streams that agree where the expression reads
pub meets_alike : (IsSo : ℕ → Type 0) (streams others : Streams) → ((stream : ℕ) → IsSo stream → streams stream ≡ others stream) → (e : Ex) → ReadsOnly IsSo e → MeetWidths e others → MeetWidths e streams
meets_alike IsSo streams others same (Read stream) reads meet = tt
meets_alike IsSo streams others same (Filter p e) reads meet = meets_alike IsSo streams others same e reads meet
meets_alike IsSo streams others same (Select m e) reads meet = (
  meets_alike IsSo streams others same e reads meet.0,
  subst (All (λ tuple. length tuple.vals ≡ m.width)) (sym (denote_agrees IsSo streams others same e reads)) meet.1,
)
meets_alike IsSo streams others same (Union e f) reads meet = (meets_alike IsSo streams others same e reads.0 meet.0, meets_alike IsSo streams others same f reads.1 meet.1)
meets_alike IsSo streams others same (Next p e f) reads meet = (meets_alike IsSo streams others same e reads.0 meet.0, meets_alike IsSo streams others same f reads.1 meet.1)
meets_alike IsSo streams others same (Fold p q m e f) reads meet = (meets_alike IsSo streams others same e reads.0 meet.0, meets_alike IsSo streams others same f reads.1 meet.1)
