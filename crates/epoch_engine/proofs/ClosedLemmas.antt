-- What the two halves of a closing give.
use Rattle.std.proofs.Common.{◌≡◌, ◌∙◌, sym, ap, ℕ, ◌+◌, true, cond, get_or, List, []}
use Rattle.std.specs.Prelude.{IfSome, IsSome, IsTrue, Option, Some, None}
use Rattle.std.specs.List.{All}
use Rattle.std.proofs.lemmas.List.Elements.{All-contains, All-weaker}
use Rattle.event_types.specs.Order.{sorted}
use Rattle.event_types.specs.Tuple.{TupleView}
use Rattle.binding_index.specs.declared.store.Store.{Store}
use Rattle.semantics.specs.Denotation.{streams_of}
use Rattle.automaton.specs.States.{Net}
use Rattle.automaton.specs.Work.{is_in}
use Rattle.automaton.specs.declared.layout.Layout.{Layout}
use Rattle.epoch_draft.specs.Deriving.{AreOrdered, CanDraw, DrawnUpTo, news_of}
use Rattle.epoch_draft.specs.Held.{held}
use Rattle.epoch_draft.specs.Settling.{AreClosed}
use Rattle.epoch_draft.specs.Typed.{IsTyped}
use Rattle.epoch_draft.specs.declared.draft.Draft.{Draft}
use Rattle.epoch_draft.specs.declared.draft.Pair.{Pair}
use Rattle.epoch_draft.proofs.DeriveLemmas.{contains_in}
use Rattle.epoch_draft.proofs.TypedLemmas.{closed_typed}
use Rattle.epoch_engine.specs.Batches.{IsOfMade}
use Rattle.epoch_engine.specs.Closes.{IsTaken}
use Rattle.epoch_engine.specs.Results.{result_of, results_of}
use Rattle.semantics.proofs.ReportLemmas.{flat_map_same}

-- the batch of what was made for printed streams has the tuples of the epoch, in their order
results : (opened made : List (List TupleView)) (batch : List (ℕ × List TupleView)) (order outs : List ℕ) → All (λ s. IsTrue (is_in order s)) outs → AreOrdered made order → IsOfMade outs made batch → batch ≡ results_of outs (λ s. sorted (news_of opened made order s))
results opened made batch order outs printed ordered is =
    is
    ∙ flat_map_same (λ s. result_of s (get_or made s [])) (λ s. result_of s (sorted (news_of opened made order s))) outs
    (All-weaker (λ s. IsTrue (is_in order s)) (λ s. result_of s (get_or made s []) ≡ result_of s (sorted (news_of opened made order s))) (λ s e. ap (result_of s) (each s e)) outs printed)
  where
    each : (s : ℕ) → is_in order s ≡ true → get_or made s [] ≡ sorted (news_of opened made order s)
    each s e =
        sym (All-contains (λ t. sorted (get_or made t []) ≡ get_or made t []) order s ordered (contains_in order s e)) ∙ ap (λ b. sorted (cond b (get_or made s []) (get_or opened s []))) (sym e)

-- an epoch that was drawn and settled is taken
pub taken : (net : Net) (layout : Layout) (time : ℕ) (old new : List (Option Store)) (opened : List (List TupleView)) (batch : List (ℕ × List TupleView)) (draft : Draft) (pairs : List Pair) → All (λ s. IsTrue (is_in layout.order s)) layout.outs
    → DrawnUpTo net layout old opened layout.order draft pairs → AreClosed (time + 1) net (news_of opened draft.made layout.order) old new → IsOfMade layout.outs draft.made batch
    → IsTaken net layout time (held old) (streams_of opened) (held new) batch
taken net layout time old new opened batch draft pairs printed drawn closed is = record {
  news = news_of opened draft.made layout.order;
  epoch = drawn.epoch;
  results = results opened draft.made batch layout.order layout.outs printed drawn.ordered is;
  purged = closed.purged;
  others = closed.others;
}

-- its stores are typed
pub typed_after : (net : Net) (layout : Layout) (old new : List (Option Store)) (opened : List (List TupleView)) (draft : Draft) (pairs : List Pair) → CanDraw net layout old opened → DrawnUpTo net layout old opened layout.order draft pairs
    → (time : Option ℕ) → IsSome time → IfSome time (λ t. AreClosed (t + 1) net (news_of opened draft.made layout.order) old new) → IsTyped net layout.kinds new
typed_after net layout old new opened draft pairs can drawn None opens closed = absurd (cc)
typed_after net layout old new opened draft pairs can drawn (Some t) opens closed = closed_typed net can.network layout.kinds old can.typed (news_of opened draft.made layout.order) drawn.kinds (t + 1) new closed
