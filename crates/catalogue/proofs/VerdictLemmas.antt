-- A text has at most one verdict: pass by pass.
use Rattle.std.proofs.Common.{◌≡◌, ℕ, List, length, refl, sym, ap, subst}
use Rattle.semantics.specs.Programs.{Query}
use Rattle.stream_schema.specs.Streams.{Entry}
use Rattle.cel_grammar.specs.Trees.{Statement}
use Rattle.cel_parser.proofs.SentenceLemmas.{said-lines}
use Rattle.cel_types.specs.declared.fault.TypeFault.{TypeFault}
use Rattle.resubscribe.specs.Order.{IsOrder}
use Rattle.resubscribe.proofs.OrderLemmas.{one_order}
use Rattle.catalogue.specs.declared.fault.QueryFault.{QueryFault}
use Rattle.catalogue.specs.Arranging.{AreSound, FailInNames, HaveCycle}
use Rattle.catalogue.specs.Faults.{IsOfTypes, unknown, kinds, absent, twice, union, wide, fine}
use Rattle.catalogue.specs.Filing.{FailsAsFile, IsFileWithinLimit}
use Rattle.catalogue.specs.Judgement.{Accepted, Circle, Judged, Judges, Refused, Refuses, Verdict}
use Rattle.catalogue.specs.Judgement as judgement
use Rattle.catalogue.specs.Laws.{SameFault, SameFile}
use Rattle.catalogue.specs.Reading.{reads_in}
use Rattle.catalogue.specs.Statements.{queries_in}
use Rattle.catalogue.specs.Typing.{FileDeclares, FileFailsToDeclare, FailToPublish, Publish, query_lines}
use Rattle.catalogue.specs.Verdicts.{OneVerdict}
use Rattle.catalogue.proofs.LawLemmas.{file_or_fault, one_cycle_of_names, one_file, one_file_fault, one_name_fault, order_or_cycle, sound_or_fault}
use Rattle.catalogue.proofs.TypingLaws.{declared_or_fault, one_declaration, one_declare_fault, one_publication, one_publish_fault, published_or_fault}

-- a fault of types is one fault of the text
pub types_same : {f : TypeFault} {why other : QueryFault} → IsOfTypes f why → IsOfTypes f other → why ≡ other
types_same unknown unknown = refl
types_same kinds kinds = refl
types_same absent absent = refl
types_same twice twice = refl
types_same union union = refl
types_same wide wide = refl
types_same fine fine = refl

same_refusal : {line other_line : ℕ} {f g : TypeFault} {why other : QueryFault} → (line ≡ other_line) × (f ≡ g) → IsOfTypes f why → IsOfTypes g other → Refused line why ≡ Refused other_line other
same_refusal {g = g} {other = other} same is is_too =
    let whys = types_same is (subst (λ (h : TypeFault). IsOfTypes h other) (sym same.1) is_too) in λ i. Refused (same.0 i) (whys i)

-- the verdict of the last pass over statements in an order
data Typed (ss : List Statement) (lines order : List ℕ) : Verdict → Type 0 where
  declared : {line : ℕ} {f : TypeFault} {why : QueryFault} → FileFailsToDeclare ss lines line f → IsOfTypes f why → Typed ss lines order (Refused line why)
  query : {streams : List Entry} {line : ℕ} {f : TypeFault} {why : QueryFault} → FileDeclares ss streams → FailToPublish (queries_in ss) (query_lines ss lines) streams order line f → IsOfTypes f why → Typed ss lines order (Refused line why)
  accepted : {streams all : List Entry} {published : List Query} → FileDeclares ss streams → Publish (queries_in ss) streams (length ss) order all published → Typed ss lines order (Accepted (record { statements = ss; lines = lines; declared = streams; streams = all; order = order; published = published }))

module _ (ss : List Statement) (lines order : List ℕ) where
  fault_so : (streams others : List Entry) (line : ℕ) (f : TypeFault) → FileDeclares ss streams → FileDeclares ss others → FailToPublish (queries_in ss) (query_lines ss lines) others order line f → FailToPublish (queries_in ss) (query_lines ss lines) streams order line f
  fault_so streams others line f d e fails = subst (λ (es : List Entry). FailToPublish (queries_in ss) (query_lines ss lines) es order line f) (one_declaration ss others streams e d) fails

  typed_one : {v w : Verdict} → Typed ss lines order v → Typed ss lines order w → v ≡ w
  typed_one (declared {line = line} {f = f} fails is) (declared {line = other_line} {f = g} fails_too is_too) = same_refusal (one_declare_fault ss lines line other_line f g fails fails_too) is is_too
  typed_one (declared {line = line} {f = f} fails is) (query {streams = streams} d fails_too is_too) = absurd (declared_or_fault ss streams lines line f d fails)
  typed_one (declared {line = line} {f = f} fails is) (accepted {streams = streams} d p) = absurd (declared_or_fault ss streams lines line f d fails)
  typed_one (query {streams = streams} d fails_too is_too) (declared {line = line} {f = f} fails is) = absurd (declared_or_fault ss streams lines line f d fails)
  typed_one (accepted {streams = streams} d p) (declared {line = line} {f = f} fails is) = absurd (declared_or_fault ss streams lines line f d fails)
  typed_one (query {streams = streams} {line = line} {f = f} d fails is) (query {streams = others} {line = other_line} {f = g} e fails_too is_too) =
      same_refusal (one_publish_fault (queries_in ss) (query_lines ss lines) streams order line other_line f g fails (fault_so streams others other_line g d e fails_too)) is is_too
  typed_one (query {streams = others} {line = line} {f = f} e fails is) (accepted {streams = streams} {all = all} {published = published} d p) =
      absurd (published_or_fault (queries_in ss) (query_lines ss lines) streams (length ss) order all published line f p (fault_so streams others line f d e fails))
  typed_one (accepted {streams = streams} {all = all} {published = published} d p) (query {streams = others} {line = line} {f = f} e fails is) =
      absurd (published_or_fault (queries_in ss) (query_lines ss lines) streams (length ss) order all published line f p (fault_so streams others line f d e fails))
  typed_one (accepted {streams = streams} {all = all} {published = published} d p) (accepted {streams = others} {all = all_too} {published = published_too} e q) =
      let tables : streams ≡ others = one_declaration ss streams others d e in
      let same : (all ≡ all_too) × (published ≡ published_too) =
      one_publication (queries_in ss) streams (length ss) order all all_too published published_too p (subst (λ (es : List Entry). Publish (queries_in ss) es (length ss) order all_too published_too) (sym tables) q) in
      λ i. Accepted (record { statements = ss; lines = lines; declared = tables i; streams = same.0 i; order = order; published = same.1 i })

-- the verdict of the passes over names and types
data Named (ss : List Statement) (lines : List ℕ) : Verdict → Type 0 where
  names : {line : ℕ} {why : QueryFault} → FailInNames ss lines line why → Named ss lines (Refused line why)
  cycle : {told : List (List ℕ)} → HaveCycle ss told → Named ss lines (Circle told)
  typed : {order : List ℕ} {v : Verdict} → AreSound ss → IsOrder (reads_in ss) order → Typed ss lines order v → Named ss lines v

module _ (ss : List Statement) (lines : List ℕ) (lengths : length lines ≡ length ss) where
  refusal_so : {line other_line : ℕ} {why other : QueryFault} → SameFault line other_line why other → Refused line why ≡ Refused other_line other
  refusal_so same = λ i. Refused (same.lines i) (same.faults i)

  named_one : {v w : Verdict} → Named ss lines v → Named ss lines w → v ≡ w
  named_one (names {line = line} {why = why} h) (names {line = other_line} {why = other} k) = refusal_so (one_name_fault ss lines line other_line why other lengths h k)
  named_one (names {line = line} {why = why} h) (cycle k) = absurd (sound_or_fault ss lines line why lengths k.sound h)
  named_one (names {line = line} {why = why} h) (typed sound o t) = absurd (sound_or_fault ss lines line why lengths sound h)
  named_one (cycle k) (names {line = line} {why = why} h) = absurd (sound_or_fault ss lines line why lengths k.sound h)
  named_one (typed sound o t) (names {line = line} {why = why} h) = absurd (sound_or_fault ss lines line why lengths sound h)
  named_one (cycle {told = told} h) (cycle {told = other} k) = ap Circle (one_cycle_of_names ss told other h k)
  named_one (cycle {told = told} h) (typed {order = order} sound o t) = absurd (order_or_cycle ss order told o h)
  named_one (typed {order = order} sound o t) (cycle {told = told} h) = absurd (order_or_cycle ss order told o h)
  named_one (typed {order = order} sound o t) (typed {order = other} {v = w} sound_too o_too t_too) =
      typed_one ss lines order t (subst (λ (ns : List ℕ). Typed ss lines ns w) (one_order (reads_in ss) other order o_too o) t_too)

-- the verdict of all passes
data Read (text : List ℕ) : Verdict → Type 0 where
  refused : {line : ℕ} {why : QueryFault} → FailsAsFile text line why → Read text (Refused line why)
  filed : {ss : List Statement} {lines : List ℕ} {v : Verdict} → IsFileWithinLimit text ss lines → Named ss lines v → Read text v

read_one : (text : List ℕ) {v w : Verdict} → Read text v → Read text w → v ≡ w
read_one text (refused {line = line} {why = why} h) (refused {line = other_line} {why = other} k) = let same = one_file_fault text line other_line why other h k in λ i. Refused (same.lines i) (same.faults i)
read_one text (refused {line = line} {why = why} h) (filed {ss = ss} {lines = lines} k n) = absurd (file_or_fault text ss lines line why k h)
read_one text (filed {ss = ss} {lines = lines} k n) (refused {line = line} {why = why} h) = absurd (file_or_fault text ss lines line why k h)
read_one text (filed {ss = ss} {lines = lines} h n) (filed {ss = others} {lines = other_lines} {v = w} k m) =
    let same : SameFile ss others lines other_lines = one_file text ss others lines other_lines h k in
    named_one ss lines (said-lines h.reads.said) n (subst (λ (ls : List ℕ). Named ss ls w) (sym same.lines_are) (subst (λ (zs : List Statement). Named zs other_lines w) (sym same.statements_are) m))

refuses_read : (text : List ℕ) (line : ℕ) (why : QueryFault) → Refuses text line why → Read text (Refused line why)
refuses_read text line why (judgement.file h) = refused h
refuses_read text line why (judgement.names h k) = filed h (names k)
refuses_read text line why (judgement.declared h sound o fails is) = filed h (typed sound o (declared fails is))
refuses_read text line why (judgement.query h sound o d fails is) = filed h (typed sound o (query d fails is))

judges_read : (text : List ℕ) (v : Verdict) → Judges text v → Read text v
judges_read text (Accepted judged) h = filed h.file (typed h.sound h.in_order (accepted h.declares h.publishes))
judges_read text (Refused line why) h = refuses_read text line why h
judges_read text (Circle told) h = filed h.file (cycle h.have_cycle)

-- a text has at most one verdict
pub one_verdict : OneVerdict
one_verdict text v w h k = read_one text (judges_read text v h) (judges_read text w k)
