-- Plans that are changed in place.
use Rattle.std.proofs.Common.{◌≡◌, ◌∙◌, sym, ap, refl, subst, inl, inr, ℕ, zero, suc, Bool, true, false, ◌<◌, ◌⊎◌, length, get_or, take, List, [], ◌∷◌, ◌++◌, arith}
use Rattle.std.specs.Prelude.{Contains, IsTrue, Option, Some, None}
use Rattle.std.specs.Option.{option_and_then, option_map}
use Rattle.std.specs.List.{All}
use Rattle.std.proofs.lemmas.List.{ext_get_or, get_or-take, length-take}
use Rattle.automaton.specs.States.{Net, entrance_at, is_used, state_at, wait_at, wait_by}
use Rattle.automaton.proofs.SlotLemmas.{entry_there}
use Rattle.std.specs.Prelude.{is_some}
use Rattle.automaton.specs.declared.network.Entrance.{Entrance}
use Rattle.epoch_draft.specs.Agenda.{AreTurns, IsUnread, read_at, read_by}
use Rattle.epoch_draft.specs.Turns.{HaveTurns}
use Rattle.epoch_draft.proofs.TurnLemmas.{turns_longer}
use Rattle.epoch_engine.specs.Prints.{OthersHaveNone}
use Rattle.epoch_engine.proofs.PrintedLemmas.{others_longer}
use Rattle.epoch_draft.specs.Filling.{IsLengthened}
use Rattle.prefix_merge.specs.Coming.{Notes}
use Rattle.prefix_merge.specs.declared.left.Left.{Left}
use Rattle.epoch_engine.specs.Fitting.{HaveNoStoresBut, HaveStoresBut}
use Rattle.epoch_engine.proofs.LineLemmas.{entered, waiting_used}
use Rattle.epoch_draft.specs.Kindings.{Kinding, StatesFit}
use Rattle.epoch_draft.specs.Typed.{IsTyped}
use Rattle.epoch_draft.proofs.Lists.{some_is}
use Rattle.binding_index.specs.declared.store.Store.{Store}
use Rattle.automaton.specs.declared.wait.Wait.{Wait}
use Rattle.automaton.specs.declared.network.Entrance.TheVariants.{Root, Waiting}
use Rattle.std.proofs.lemmas.Option.{slice_get_within}
use Rattle.epoch_engine.specs.Planning.{AreReadBut, GrowsRoom}
use Rattle.epoch_engine.specs.Running.{IsPlan}
use Rattle.epoch_engine.specs.declared.plan.Plan.{Plan}
use Rattle.automaton.specs.Work.{is_in}
use Rattle.epoch_engine.specs.Adding.{BeginAs}
use Rattle.event_types.specs.declared.kind.Kind.{Kind}

-- a plan with more room is one still
pub plan_longer : (old new : Plan) → new.merged ≡ old.merged → new.layout ≡ old.layout → GrowsRoom old new → IsPlan old → IsPlan new
plan_longer old new merged layout more is = record {
  printed = subst (λ l. All (λ stream. IsTrue (is_in l.order stream)) l.outs) (sym layout) is.printed;
  turns = record {
    many_turns = (let many = is.turns.many_turns in let longer = more.turns.longer in omega (arith, kinds, many, longer));
    many_read = (let many = is.turns.many_read in let longer = more.read.longer in omega (arith, kinds, many, longer));
    in_turn = subst (λ l. HaveTurns l.order new.turns.turns) (sym layout) (turns_longer old.layout.order old.turns.turns new.turns.turns more.turns more.last is.turns.in_turn);
    unread = λ s lt down. subst (λ net. IsUnread net s) (sym merged) (is.turns.unread s (omega (arith, lt, kinds)) (sym (more.read.same s) ∙ down));
  };
  prints = record {
    many = (let many = is.prints.many in let longer = more.prints.longer in omega (arith, kinds, many, longer));
    others = subst (λ l. OthersHaveNone l.outs new.prints.turns) (sym layout) (others_longer old.layout.outs old.prints.turns new.prints.turns more.prints is.prints.others);
    in_turn = λ once. subst (λ l. HaveTurns l.outs new.prints.turns) (sym layout)
        (turns_longer old.layout.outs old.prints.turns new.prints.turns more.prints more.last_printed (is.prints.in_turn (subst IsTrue more.once once)));
  };
}
  where
    kinds : length new.layout.kinds ≡ length old.layout.kinds
    kinds = ap (λ l. length l.kinds) layout

-- what was put at the end is taken away again
pub cut_back : {X : Type 0} (d : X) (old new : List X) → IsLengthened d old new → take (length old) new ≡ old
cut_back d old new more =
    let short = length-take (length old) new in
    let many : length (take (length old) new) ≡ length old = (let longer = more.longer in omega (arith, short, longer)) in
    ext_get_or d (take (length old) new) old many (λ k lt. get_or-take (length old) new k d (omega (arith, lt, many)) ∙ more.same k)

-- a state of which a stream is read is there
reads_used : (net : Net) (n s : ℕ) → read_at net n ≡ Some s → is_used net n ≡ true
reads_used net n s reads = go (entrance_at net n) refl reads
  where
    go : (o : Option Entrance) → entrance_at net n ≡ o → option_map read_by o ≡ Some s → is_used net n ≡ true
    go None is e = cc
    go (Some entrance) is e = sym (entry_there (state_at net n)) ∙ ap is_some is

-- the streams that states read have kinds
read_known : (kinds : List (List Kind)) (net : Net) (kinding : Kinding) → StatesFit kinds net kinding → (n s : ℕ) → read_at net n ≡ Some s → s < length kinds
read_known kinds net kinding fits n s reads = go (entrance_at net n) refl reads
  where
    go : (o : Option Entrance) → entrance_at net n ≡ o → option_map read_by o ≡ Some s → s < length kinds
    go None is e = cc
    go (Some (Root stream)) is e =
        subst (λ (t : ℕ). t < length kinds) (some_is stream s e) (slice_get_within kinds stream (kinding.leaving n) (entered kinds net kinding fits n (Root stream) is))
    go (Some (Waiting before hop)) is e =
        let known = entered kinds net kinding fits n (Waiting before hop) is in
        subst (λ (t : ℕ). t < length kinds) (some_is hop.wait.stream s e) (slice_get_within kinds hop.wait.stream known.0 known.1)

-- the states that came read what isn't told
pub came_read : (old plan : Plan) (came : List ℕ) (kinding : Kinding) → StatesFit old.layout.kinds old.merged kinding → AreTurns old.merged old.layout.order (length old.layout.kinds) old.turns → IsLengthened false old.turns.read plan.turns.read
    → ((n : ℕ) → is_used old.merged n ≡ true → entrance_at plan.merged n ≡ entrance_at old.merged n) → ((n : ℕ) → is_used plan.merged n ≡ true → is_used old.merged n ≡ false → Contains came n) → AreReadBut plan came
came_read old plan came kinding fits are longer stay came_all n s reads lt = by_used (is_used old.merged n) refl
  where
    by_used : (b : Bool) → is_used old.merged n ≡ b → (get_or plan.turns.read s false ≡ true) ⊎ Contains came n
    by_used false new = inr (came_all n (reads_used plan.merged n s reads) new)
    by_used true there = inl (longer.same s ∙ by_flag (get_or old.turns.read s false) refl)
      where
        was : read_at old.merged n ≡ Some s
        was = ap (option_map read_by) (sym (stay n there)) ∙ reads

        by_flag : (b : Bool) → get_or old.turns.read s false ≡ b → get_or old.turns.read s false ≡ true
        by_flag true up = up
        by_flag false down = absurd (are.unread s (read_known old.layout.kinds old.merged kinding fits n s was) down n was)

-- the waiting states that came have no store yet
pub came_storeless : (old new : Net) (kinds : List (List Kind)) (stores : List (Option Store)) (came : List ℕ) → IsTyped old kinds stores → ((n : ℕ) → is_used old n ≡ true → entrance_at new n ≡ entrance_at old n)
    → ((n : ℕ) → is_used new n ≡ true → is_used old n ≡ false → Contains came n) → HaveStoresBut new came stores
came_storeless old new kinds stores came typed stay came_all n wait at none = by_used (is_used old n) refl
  where
    by_used : (b : Bool) → is_used old n ≡ b → Contains came n
    by_used false fresh = came_all n (waiting_used new n wait at) fresh
    by_used true there = absurd
        (let has = typed.has_stores n wait (ap (option_and_then wait_by) (sym (stay n there)) ∙ at) in let no : None ≡ Some has.0 = sym none ∙ has.1 in cc)

-- where states left, the stores that are too many are theirs
pub left_storeless : (old new : Net) (kinds : List (List Kind)) (stores : List (Option Store)) (left : List ℕ) → IsTyped old kinds stores → ((n : ℕ) → is_used new n ≡ true → entrance_at new n ≡ entrance_at old n)
    → ((n : ℕ) → is_used old n ≡ true → is_used new n ≡ false → Contains left n) → HaveNoStoresBut new left stores
left_storeless old new kinds stores left typed stay left_all n none = by_wait (wait_at old n) refl
  where
    by_wait : (o : Option Wait) → wait_at old n ≡ o → (get_or stores n None ≡ None) ⊎ Contains left n
    by_wait None was = inl (typed.others n was)
    by_wait (Some wait) was = inr (by_used (is_used new n) refl)
      where
        by_used : (b : Bool) → is_used new n ≡ b → Contains left n
        by_used false gone = left_all n (waiting_used old n wait was) gone
        by_used true there = absurd (let no : None ≡ Some wait = sym none ∙ ap (option_and_then wait_by) (stay n there) ∙ was in cc)

-- where states left, the others are told
pub left_read : (plan : Plan) (net : Net) → ((n : ℕ) → is_used plan.merged n ≡ true → entrance_at plan.merged n ≡ entrance_at net n) → AreTurns net plan.layout.order (length plan.layout.kinds) plan.turns → AreReadBut plan []
left_read plan net stay are n s reads lt = inl (by_flag (get_or plan.turns.read s false) refl)
  where
    was : read_at net n ≡ Some s
    was = ap (option_map read_by) (sym (stay n (reads_used plan.merged n s reads))) ∙ reads

    by_flag : (b : Bool) → get_or plan.turns.read s false ≡ b → get_or plan.turns.read s false ≡ true
    by_flag true up = up
    by_flag false down = absurd (are.unread s lt down n was)

-- kinds that are put at the end leave the others
pub kinds_begin : (old more : List (List Kind)) → BeginAs old (old ++ more)
kinds_begin [] more s known e = absurd (cc)
kinds_begin (x ∷ old) more zero known e = e
kinds_begin (x ∷ old) more (suc s) known e = kinds_begin old more s known e

-- where no state was missed, those that are noted are listed
pub listed : (left : Left) (n : ℕ) → left.missed ≡ false → Notes left n → Contains left.numbers n
listed left n none (inl c) = c
listed left n none (inr missed) = absurd (let no : false ≡ true = sym none ∙ missed in cc)
