-- Engines that are made, take a tuple and close an epoch.
use Rattle.std.proofs.Common.{Box, Global, ◌≡◌, ◌∙◌, sym, ap, refl, subst, inl, inr, ℕ, zero, suc, ◌==◌, ◌<◌, ◌⊎◌, Bool, true, false, ◌||◌, length, get_or, set, take, drop, drop-cons, List, [], ◌∷◌, ◌++◌, map, arith, ◌≤◌, ◌+◌}
use Rattle.std.specs.Prelude.{Contains, IfSome, IsSome, IsTrue, Option, Some, None, slice_get}
use Rattle.std.specs.List.{All, list_any}
use Rattle.std.proofs.lemmas.Bool.Decides.{nat_tests}
use Rattle.std.proofs.lemmas.Grind.{get_or-set_at}
use Rattle.std.proofs.lemmas.List.{get_or-set_other, length-set, set-get_or, take-append-drop}
use Rattle.std.proofs.lemmas.List.Elements.{All-cons, All-contains, All-head, All-nil, All-push, All-tail, All-weaker}
use Rattle.std.proofs.lemmas.Option.{get_or_from_slice_get, slice_get_within}
use Rattle.std.proofs.lemmas.Bool.{true≢false}
use Rattle.event_types.specs.declared.kind.Kind.{Kind}
use Rattle.event_types.specs.Tuple.{TupleView}
use Rattle.event_types.proofs.NumberLemmas.{same_number}
use Rattle.binding_index.specs.declared.store.Store.{Store}
use Rattle.instances.specs.declared.instance.Instance.{Instance}
use Rattle.semantics.specs.Denotation.{streams_of}
use Rattle.semantics.specs.Kinds.{HasKinds}
use Rattle.automaton.specs.LineKinds.{LineFits}
use Rattle.automaton.specs.NetworkLines.{NetworkFits}
use Rattle.automaton.specs.Networks.{IsNetwork}
use Rattle.automaton.specs.States.{Net}
use Rattle.automaton.specs.Work.{IsInOrder, is_in}
use Rattle.automaton.specs.declared.layout.Layout.{Layout}
use Rattle.automaton.specs.declared.line.Line.{Line}
use Rattle.automaton.specs.declared.wait.Wait.{Wait}
use Rattle.automaton.proofs.NumberLemmas.{are_same_or_not}
use Rattle.epoch_laws.specs.Closing.{Stores}
use Rattle.epoch_laws.proofs.Lists.{every}
use Rattle.epoch_draft.specs.Deriving.{AreOpened, CanDraw}
use Rattle.epoch_draft.specs.Drawings.{IsStill}
use Rattle.epoch_draft.specs.Led.{AreLed}
use Rattle.epoch_draft.specs.Filling.{IsLengthened}
use Rattle.epoch_draft.specs.Held.{SameStored, held, instances_in, shape_for, shape_of}
use Rattle.epoch_draft.specs.Stores.{AreNewStores}
use Rattle.epoch_draft.specs.Typed.{HaveKinds, IsStoreOf, IsTyped}
use Rattle.epoch_draft.specs.declared.marks.Marks.{Marks}
use Rattle.epoch_draft.proofs.DeriveLemmas.{in_contains, not_done}
use Rattle.epoch_draft.proofs.MarkLemmas.{all_below, marks_kept}
use Rattle.epoch_draft.proofs.StoreLemmas.{has_store, typed_same}
use Rattle.epoch_draft.proofs.Lists.{some_is}
use Rattle.epoch_draft.specs.Marks.{MarksMore}
use Rattle.epoch_draft.specs.EpochWork.{epoch_work}
use Rattle.epoch_engine.proofs.BornLemmas.{their_births}
use Rattle.epoch_engine.specs.Closes.{Closes, IsTaken}
use Rattle.epoch_engine.specs.EngineView.{EngineView, stores_in}
use Rattle.epoch_engine.specs.Running.{AreTouched, IsEngine, IsPlan, IsRunning}
use Rattle.epoch_engine.specs.declared.epoch.Epoch.{Epoch}
use Rattle.epoch_engine.specs.declared.holdings.Holdings.{Holdings}
use Rattle.epoch_engine.specs.declared.room.Room.{Room}
use Rattle.epoch_engine.specs.declared.plan.Plan.{Plan}
use Rattle.epoch_engine.proofs.KindingLemmas.{fitting_ends, fitting_typed}
use Rattle.epoch_engine.specs.Taking.{closing_work}

-- what contracts see of these parts
abbrev pub view_of : Plan → List (Option Store) → Epoch → Option ℕ → EngineView
view_of plan stores epoch closed_time =
    record { network = plan.merged; layout = plan.layout; stores = map instances_in stores; opened = epoch.tuples; time = epoch.time; closed_time = closed_time }

-- the instances of each state, as a view has them
pub held_in : (stores : List (Option Store)) → (λ n. get_or (map instances_in stores) n []) ≡ held stores
held_in stores = λ i n. each stores n i
  where
    each : (stores : List (Option Store)) (n : ℕ) → get_or (map instances_in stores) n [] ≡ instances_in (get_or stores n None)
    each [] zero = refl
    each [] (suc n) = refl
    each (o ∷ stores) zero = refl
    each (o ∷ stores) (suc n) = each stores n

-- a list that was lent and came back as it was
pub lent_back : {X : Type 0} (lists : List (List X)) (s : ℕ) (old new : List X) → slice_get lists s ≡ Some old → new ≡ old → set lists s new ≡ lists
lent_back lists s old new got same = ap (set lists s) (same ∙ sym (get_or_from_slice_get lists s old [] got)) ∙ set-get_or lists s []

-- the out stream of a line has kinds
out_below : (kinds : List (List Kind)) (lines : List Line) → All (LineFits kinds) lines → (s : ℕ) → list_any (λ (l : Line). l.out == s) lines ≡ true → s < length kinds
out_below kinds [] all s h = cc
out_below kinds (l ∷ lines) all s h = go (l.out == s) refl h (out_below kinds lines (All-tail (LineFits kinds) l lines all) s)
  where
    go : (b : Bool) → (l.out == s) ≡ b → (b || list_any (λ (l : Line). l.out == s) lines) ≡ true → (list_any (λ (l : Line). l.out == s) lines ≡ true → s < length kinds) → s < length kinds
    go true e h rest =
        let fit = All-head (LineFits kinds) l lines all in
        subst (λ (m : ℕ). m < length kinds) (same_number l.out s e) (slice_get_within kinds l.out fit.0 fit.2)
    go false e h rest = rest h

-- a stream of a list has what all of the list have
member_below : (m : ℕ) (order : List ℕ) → All (λ s. s < m) order → (s : ℕ) → list_any (λ n. s == n) order ≡ true → s < m
member_below m [] all s h = cc
member_below m (n ∷ order) all s h = go (s == n) refl h (member_below m order (All-tail (λ k. k < m) n order all) s)
  where
    go : (b : Bool) → (s == n) ≡ b → (b || list_any (λ k. s == k) order) ≡ true → (list_any (λ k. s == k) order ≡ true → s < m) → s < m
    go true e h rest = subst (λ (k : ℕ). k < m) (sym (same_number s n e)) (All-head (λ k. k < m) n order all)
    go false e h rest = rest h

-- derived streams have kinds
pub order_below : (net : Net) (layout : Layout) → NetworkFits net layout → All (λ s. s < length layout.kinds) layout.order
order_below net layout fits = All-weaker (λ s. IsTrue (list_any (λ (l : Line). l.out == s) fits.0)) (λ s. s < length layout.kinds) (λ s h. out_below layout.kinds fits.0 fits.2.typed s h) layout.order fits.2.only_outs

-- no stream stands twice in the order of work
pub order_once : (net : Net) (layout : Layout) → NetworkFits net layout → (place : ℕ) → place < length layout.order → Contains (take place layout.order) (get_or layout.order place 0) → ⊥
order_once net layout fits place less has = true≢false (sym (in_contains done stream has) ∙ not_done fits.0 done stream (drop (suc place) layout.order) (subst (IsInOrder fits.0) split fits.2.in_order))
  where
    done : List ℕ
    done = take place layout.order

    stream : ℕ
    stream = get_or layout.order place 0

    split : layout.order ≡ done ++ (stream ∷ drop (suc place) layout.order)
    split = sym (take-append-drop place layout.order) ∙ ap (λ xs. take place layout.order ++ xs) (drop-cons layout.order place 0 less)

-- streams that are printed are among the derived ones, which have kinds
pub printed_below : (bound : ℕ) (order outs : List ℕ) → All (λ s. s < bound) order → All (λ s. IsTrue (is_in order s)) outs → All (λ s. s < bound) outs
printed_below bound order outs below printed = All-weaker (λ s. IsTrue (is_in order s)) (λ s. s < bound) (λ s h. member_below bound order below s h) outs printed

-- so they have where a network and a layout fit
pub outs_below : (net : Net) (layout : Layout) → NetworkFits net layout → All (λ s. s < length layout.kinds) layout.outs
outs_below net layout fits = printed_below (length layout.kinds) layout.order layout.outs (order_below net layout fits) fits.2.printed

-- so have those of a plan
pub outs_inside : (plan : Plan) → IsPlan plan → All (λ s. s < length plan.layout.kinds) plan.layout.order → (bound : ℕ) → bound ≡ length plan.layout.kinds → (outs : List ℕ) → outs ≡ plan.layout.outs → All (λ s. s < bound) outs
outs_inside plan is below bound same outs e =
    subst (λ (m : ℕ). All (λ s. s < m) outs) (sym same) (subst (All (λ s. s < length plan.layout.kinds)) (sym e) (printed_below (length plan.layout.kinds) plan.layout.order plan.layout.outs below is.printed))

-- those that are printed have kinds
pub printed_inside : (plan : Plan) → IsPlan plan → All (λ s. s < length plan.layout.kinds) plan.layout.order → (bound : ℕ) → bound ≡ length plan.layout.kinds → (streams : List ℕ) → All (Contains plan.layout.outs) streams → All (λ s. s < bound) streams
printed_inside plan is below bound same streams among =
    All-weaker (Contains plan.layout.outs) (λ s. s < bound) (λ s there. All-contains (λ s. s < bound) plan.layout.outs s (outs_inside plan is below bound same plan.layout.outs refl) there) streams among

-- where no stream has tuples, they have whatever kinds
pub none_have : (kinds : List (List Kind)) (tuples : List (List TupleView)) → ((s : ℕ) → get_or tuples s [] ≡ []) → HaveKinds kinds (streams_of tuples)
none_have kinds tuples none s known is = subst (All (HasKinds known)) (sym (none s)) (All-nil (HasKinds known))

-- a new store is that of its wait
pub new_typed : (w : Wait) (kinds : List Kind) (slot : Option Store) → shape_of slot ≡ Some (shape_for w.choose) → instances_in slot ≡ [] → (store : Store) × (slot ≡ Some store) × IsStoreOf w kinds store
new_typed w kinds slot shape none =
    let new = has_store slot (shape_for w.choose) shape in (
      new.0,
      new.1,
      record { condition = new.2; key = new.3; instances = subst (All (λ (i : Instance). HasKinds kinds i.tuple)) (sym none ∙ ap instances_in new.1) (All-nil (λ (i : Instance). HasKinds kinds i.tuple)) },
    )

-- the parts of a new engine
pub made_running : (plan : Plan) (stores : List (Option Store)) (epoch : Epoch) → NetworkFits plan.merged plan.layout → IsNetwork plan.merged → IsPlan plan
    → AreNewStores plan.merged stores → length epoch.tuples ≡ length plan.layout.kinds → ((s : ℕ) → get_or epoch.tuples s [] ≡ []) → AreTouched epoch.tuples epoch.touched
    → IsRunning plan stores epoch
made_running plan stores epoch fits network is has as_many none touched =
    let typed = fitting_typed plan.merged plan.layout fits in
    let born = their_births plan.merged fits.0 fits.1 in record {
      plan_is = is;
      can_draw = record {
        network = network;
        lines = born.0;
        serves = record { has_lines = born.1; in_order = subst (λ (ls : List Line). IsInOrder ls plan.layout.order) (sym born.2) fits.2.in_order };
        typed = record {
          kinding = typed.0;
          states = typed.1;
          as_many = has.has.as_many;
          has_stores = λ n w at. new_typed w (typed.0.waiting n) (get_or stores n None) (has.has.shapes n w at) (has.empty n);
          others = has.has.others;
        };
        kinds = none_have plan.layout.kinds epoch.tuples none;
        as_many = as_many;
        ends = fitting_ends plan.merged plan.layout fits;
        order = order_below plan.merged plan.layout fits;
        underived = every (λ s. get_or epoch.tuples s [] ≡ []) none plan.layout.order;
      };
      touched = touched;
    }

-- other stores that are typed
pub with_typed : (plan : Plan) (stores after : List (Option Store)) (epoch : Epoch) → IsRunning plan stores epoch → IsTyped plan.merged plan.layout.kinds after → IsRunning plan after epoch
with_typed plan stores after epoch running typed = record {
  plan_is = running.plan_is;
  can_draw = record {
    network = running.can_draw.network;
    lines = running.can_draw.lines;
    serves = running.can_draw.serves;
    typed = typed;
    kinds = running.can_draw.kinds;
    as_many = running.can_draw.as_many;
    ends = running.can_draw.ends;
    order = running.can_draw.order;
    underived = running.can_draw.underived;
  };
  touched = running.touched;
}

-- stores with the same instances
pub with_same : (plan : Plan) (stores after : List (Option Store)) (epoch : Epoch) → SameStored stores after → IsRunning plan stores epoch → IsRunning plan after epoch
with_same plan stores after epoch same running = with_typed plan stores after epoch running (typed_same plan.merged plan.layout.kinds stores after same running.can_draw.typed)

-- lists as long as each other with the same lists of instances
same_lists : (old new : List (Option Store)) → length new ≡ length old → ((n : ℕ) → instances_in (get_or new n None) ≡ instances_in (get_or old n None)) → map instances_in new ≡ map instances_in old
same_lists [] [] long same = refl
same_lists [] (slot ∷ new) long same = absurd (omega (arith, long))
same_lists (slot ∷ old) [] long same = absurd (omega (arith, long))
same_lists (slot ∷ old) (other ∷ new) long same = λ i. same 0 i ∷ same_lists old new (omega (arith, long)) (λ n. same (suc n)) i

-- a view has the same of such stores
pub view_same : (plan : Plan) (stores after : List (Option Store)) (epoch : Epoch) (closed_time : Option ℕ) → SameStored stores after → view_of plan after epoch closed_time ≡ view_of plan stores epoch closed_time
view_same plan stores after epoch closed_time same = λ i. record (view_of plan stores epoch closed_time) { stores = same_lists stores after same.same.as_many same.held i }

-- other open tuples of their kinds, none of them on a derived stream
with_tuples : (plan : Plan) (stores : List (Option Store)) (old new : Epoch) → IsRunning plan stores old → HaveKinds plan.layout.kinds (streams_of new.tuples) → length new.tuples ≡ length old.tuples
    → All (λ s. get_or new.tuples s [] ≡ []) plan.layout.order → AreTouched new.tuples new.touched → IsRunning plan stores new
with_tuples plan stores old new running kinds as_many underived touched = record {
  plan_is = running.plan_is;
  can_draw = record {
    network = running.can_draw.network;
    lines = running.can_draw.lines;
    serves = running.can_draw.serves;
    typed = running.can_draw.typed;
    kinds = kinds;
    as_many = as_many ∙ running.can_draw.as_many;
    ends = running.can_draw.ends;
    order = running.can_draw.order;
    underived = underived;
  };
  touched = touched;
}

-- an epoch that was closed
pub closed_running : (plan : Plan) (stores : List (Option Store)) (old new : Epoch) → IsRunning plan stores old → length new.tuples ≡ length old.tuples → ((s : ℕ) → get_or new.tuples s [] ≡ []) → AreTouched new.tuples new.touched → IsRunning plan stores new
closed_running plan stores old new running as_many none touched =
    with_tuples plan stores old new running (none_have plan.layout.kinds new.tuples none) as_many (every (λ s. get_or new.tuples s [] ≡ []) none plan.layout.order) touched

-- an epoch that is as it was, but for what is marked
pub kept_running : (plan : Plan) (stores : List (Option Store)) (old new : Epoch) → IsRunning plan stores old → new.tuples ≡ old.tuples → AreTouched new.tuples new.touched → IsRunning plan stores new
kept_running plan stores old new running same touched =
    with_tuples plan stores old new running (subst (λ (ts : List (List TupleView)). HaveKinds plan.layout.kinds (streams_of ts)) (sym same) running.can_draw.kinds) (ap length same)
    (subst (λ (ts : List (List TupleView)). All (λ s. get_or ts s [] ≡ []) plan.layout.order) (sym same) running.can_draw.underived) touched

-- a stream that isn't derived is none of the derived ones
others_in : (s : ℕ) (order : List ℕ) → is_in order s ≡ false → All (λ t. t ≡ s → ⊥) order
others_in s [] h = All-nil (λ t. t ≡ s → ⊥)
others_in s (n ∷ order) h = go (s == n) refl h (others_in s order)
  where
    other : (s == n) ≡ false → n ≡ s → ⊥
    other e same = grind (arith, nat_tests)

    go : (b : Bool) → (s == n) ≡ b → (b || list_any (λ k. s == k) order) ≡ false → (list_any (λ k. s == k) order ≡ false → All (λ t. t ≡ s → ⊥) order) → All (λ t. t ≡ s → ⊥) (n ∷ order)
    go true e h rest = absurd (cc)
    go false e h rest = All-cons (λ t. t ≡ s → ⊥) n order (other e) (rest h)

-- one open tuple more
pub offered_running : (plan : Plan) (stores : List (Option Store)) (old new : Epoch) (s : ℕ) (known : List Kind) (tuple : TupleView) → IsRunning plan stores old → slice_get plan.layout.kinds s ≡ Some known → is_in plan.layout.order s ≡ false → HasKinds known tuple
    → new.tuples ≡ set old.tuples s (get_or old.tuples s [] ++ tuple ∷ []) → AreTouched new.tuples new.touched → IsRunning plan stores new
offered_running plan stores old new s known tuple running is declared of_kinds put touched =
    with_tuples plan stores old new running (subst (λ (ts : List (List TupleView)). HaveKinds plan.layout.kinds (streams_of ts)) (sym put) kinds) (ap length put ∙ length-set old.tuples s more)
    (subst (λ (ts : List (List TupleView)). All (λ t. get_or ts t [] ≡ []) plan.layout.order) (sym put) underived) touched
  where
    more : List TupleView
    more = get_or old.tuples s [] ++ tuple ∷ []

    there : s < length old.tuples
    there = let lt = slice_get_within plan.layout.kinds s known is in omega (arith, lt, running.can_draw.as_many)

    kinds : HaveKinds plan.layout.kinds (streams_of (set old.tuples s more))
    kinds t ks known_t = go (are_same_or_not t s)
      where
        go : (t ≡ s) ⊎ (t ≡ s → ⊥) → All (HasKinds ks) (get_or (set old.tuples s more) t [])
        go (inl same) =
            let here = ap (slice_get plan.layout.kinds) (sym same) ∙ known_t in
            let own = some_is known ks (sym is ∙ here) in
            subst (All (HasKinds ks)) (sym (get_or-set_at old.tuples s t more [] same there)) (All-push (HasKinds ks) (get_or old.tuples s []) tuple (running.can_draw.kinds s ks here) (subst (λ (js : List Kind). HasKinds js tuple) own of_kinds))
        go (inr other) = subst (All (HasKinds ks)) (sym (get_or-set_other old.tuples s t more [] other)) (running.can_draw.kinds t ks known_t)

    underived : All (λ t. get_or (set old.tuples s more) t [] ≡ []) plan.layout.order
    underived k d lt = get_or-set_other old.tuples s (get_or plan.layout.order k d) more [] (others_in s plan.layout.order declared k d lt) ∙ running.can_draw.underived k d lt

-- a stream that is marked may get tuples
pub touched_more : (tuples : List (List TupleView)) (touched more : Marks) (s : ℕ) (rows : List TupleView) → AreTouched tuples touched → MarksMore touched more → Contains more.numbers s → AreTouched (set tuples s rows) more
touched_more tuples touched more s rows h grown this = record { are = grown.are; below = grown.as_many ∙ h.below ∙ sym (length-set tuples s rows); all = λ t. go t (are_same_or_not t s) (h.all t) }
  where
    go : (t : ℕ) → (t ≡ s) ⊎ (t ≡ s → ⊥) → (get_or tuples t [] ≡ []) ⊎ Contains touched.numbers t → (get_or (set tuples s rows) t [] ≡ []) ⊎ Contains more.numbers t
    go t (inl same) was = inr (subst (Contains more.numbers) (sym same) this)
    go t (inr other) (inl none) = inl (get_or-set_other tuples s t rows [] other ∙ none)
    go t (inr other) (inr there) = inr (marks_kept touched more grown t there)

-- or not
pub touched_same : (tuples : List (List TupleView)) (touched more : Marks) → AreTouched tuples touched → MarksMore touched more → AreTouched tuples more
touched_same tuples touched more h grown = record { are = grown.are; below = grown.as_many ∙ h.below; all = λ t. go t (h.all t) }
  where
    go : (t : ℕ) → (get_or tuples t [] ≡ []) ⊎ Contains touched.numbers t → (get_or tuples t [] ≡ []) ⊎ Contains more.numbers t
    go t (inl none) = inl none
    go t (inr there) = inr (marks_kept touched more grown t there)

-- there may be more streams, which have no tuples
pub touched_longer : (tuples more : List (List TupleView)) (touched now : Marks) → IsLengthened false touched.flags now.flags → now.numbers ≡ touched.numbers → IsLengthened [] tuples more → length now.flags ≡ length more → AreTouched tuples touched → AreTouched more now
touched_longer tuples more touched now flags numbers longer many h = record {
  are = record {
    listed = λ n up. subst (λ (ns : List ℕ). Contains ns n) (sym numbers) (h.are.listed n (sym (flags.same n) ∙ up));
    flagged = λ n c. flags.same n ∙ h.are.flagged n (subst (λ (ns : List ℕ). Contains ns n) numbers c);
    once = subst (λ (ns : List ℕ). (place : ℕ) → place < length ns → Contains (take place ns) (get_or ns place 0) → ⊥) (sym numbers) h.are.once;
  };
  below = many;
  all = λ s. go s (h.all s);
}
  where
    go : (s : ℕ) → (get_or tuples s [] ≡ []) ⊎ Contains touched.numbers s → (get_or more s [] ≡ []) ⊎ Contains now.numbers s
    go s (inl none) = inl (longer.same s ∙ none)
    go s (inr there) = inr (subst (λ (ns : List ℕ). Contains ns s) (sym numbers) there)

-- and they may be taken away again
pub touched_back : (tuples back : List (List TupleView)) (touched : Marks) (flags : List Bool) (numbers : List ℕ) → flags ≡ touched.flags → numbers ≡ touched.numbers → back ≡ tuples → AreTouched tuples touched → AreTouched back (record { flags = flags; numbers = numbers })
touched_back tuples back touched flags numbers same_flags same_numbers same h =
    subst (λ (x : List (List TupleView) × Marks). AreTouched x.0 x.1) (λ i. (sym same i, record { flags = sym same_flags i; numbers = sym same_numbers i })) h

-- each stream that has tuples is listed once
pub opened_streams : (tuples : List (List TupleView)) (touched : Marks) (numbers : List ℕ) → AreTouched tuples touched → numbers ≡ touched.numbers → AreOpened tuples numbers
opened_streams tuples touched numbers h e =
    subst (AreOpened tuples) (sym e) (record {
      below = subst (λ (m : ℕ). All (λ s. s < m) touched.numbers) h.below (all_below touched h.are touched.numbers refl);
      once = h.are.once;
      all = h.all;
    })

-- new stores are empty
pub made_empty : (net : Net) (stores : List (Option Store)) → AreNewStores net stores → (n : ℕ) → get_or (map instances_in stores) n [] ≡ []
made_empty net stores has n = (λ i. held_in stores i n) ∙ has.empty n

-- what the closing of an epoch makes of a view
pub closes_view : (plan : Plan) (stores after : List (Option Store)) (old new : Epoch) (closed_time : Option ℕ) (batch : List (ℕ × List TupleView)) → ((s : ℕ) → get_or new.tuples s [] ≡ []) → length new.tuples ≡ length old.tuples → new.time ≡ None
    → (was : Option ℕ) → old.time ≡ was → IsSome was → IfSome was (λ time. IsTaken plan.merged plan.layout time (held stores) (streams_of old.tuples) (held after) batch)
    → Closes (view_of plan stores old closed_time) (view_of plan after new old.time) batch
closes_view plan stores after old new closed_time batch empty as_many none None is opened taken = absurd (cc)
closes_view plan stores after old new closed_time batch empty as_many none (Some time) is opened taken = record {
  time = time;
  was_open = is;
  taken =
      subst (λ (st : Stores). IsTaken plan.merged plan.layout time st (streams_of old.tuples) (stores_in (view_of plan after new old.time)) batch) (sym (held_in stores))
      (subst (λ (st : Stores). IsTaken plan.merged plan.layout time (held stores) (streams_of old.tuples) st batch) (sym (held_in after)) taken);
  emptied = empty;
  as_many = as_many;
  now_closed = is;
  none_open = none;
}

-- contracts see the stores whose tests are counted
pub closes_ticks : (plan : Plan) (stores : List (Option Store)) (epoch : Epoch) (closed_time : Option ℕ) (start end : ℕ) → end ≤ start + closing_work plan stores epoch
    → end ≤ start + epoch_work plan.merged plan.layout (stores_in (view_of plan stores epoch closed_time)) (streams_of epoch.tuples)
closes_ticks plan stores epoch closed_time start end ticks =
    let same = ap (λ (st : Stores). epoch_work plan.merged plan.layout st (streams_of epoch.tuples)) (held_in stores) in omega (arith, ticks, same)

-- the same of a plan whose network and layout are the same
module _ (plan fresh : Plan) (merged : fresh.merged ≡ plan.merged) (layout : fresh.layout ≡ plan.layout) where
  pub running_fresh : (stores : List (Option Store)) (epoch : Epoch) → IsPlan fresh → IsRunning plan stores epoch → IsRunning fresh stores epoch
  running_fresh stores epoch is running = record {
    plan_is = is;
    can_draw = subst (λ (x : Net × Layout). CanDraw x.0 x.1 stores epoch.tuples) (λ i. (sym merged i, sym layout i)) running.can_draw;
    touched = running.touched;
  }

  pub engine_fresh : (holdings : Holdings) (epoch : Epoch) (kept : Option (Box Room Global)) → IsPlan fresh → IsEngine plan holdings epoch kept → IsEngine fresh holdings epoch kept
  engine_fresh holdings epoch kept is engine = record {
    fits = subst (λ (x : Net × Layout). NetworkFits x.0 x.1) (λ i. (sym merged i, sym layout i)) engine.fits;
    running = running_fresh holdings.stores epoch is engine.running;
    led = subst (λ (net : Net). AreLed net holdings.keys holdings.stores) (sym merged) engine.led;
    watches = engine.watches;
    still = subst (λ (x : Net × Layout). IfSome kept (λ room. IsStill (length x.1.kinds) (length x.0) room.value.drawing)) (λ i. (sym merged i, sym layout i)) engine.still;
  }

  pub view_fresh : (stores : List (Option Store)) (epoch : Epoch) (closed_time : Option ℕ) → view_of fresh stores epoch closed_time ≡ view_of plan stores epoch closed_time
  view_fresh stores epoch closed_time = λ i. record (view_of plan stores epoch closed_time) { network = merged i; layout = layout i }
