-- Instances on their ways out of a state.
use Rattle.std.proofs.Common.{◌≡◌, ◌∙◌, sym, ap, refl, subst, ℕ, zero, suc, ◌+◌, ◌<◌, ◌≤◌, IsTrue, length, get_or, take, List, [], ◌∷◌, ◌++◌, map, arith}
use Rattle.std.specs.Prelude.{Option, Some, None, is_some}
use Rattle.std.specs.List.{All}
use Rattle.std.proofs.lemmas.List.{map-append, take_more}
use Rattle.std.proofs.lemmas.List.Elements.{All-cons, All-head, All-nil, All-tail}
use Rattle.event_types.specs.Tuple.{TupleView}
use Rattle.instances.specs.declared.instance.Instance.{Instance}
use Rattle.automaton.specs.States.{Net, edges_at, ends_at, is_used, state_at, step_at, wait_at}
use Rattle.automaton.specs.declared.network.End.{End}
use Rattle.automaton.specs.declared.network.State.{State}
use Rattle.automaton.specs.declared.wait.Wait.{Wait}
use Rattle.stream_readers.specs.Ways.{Into, Out, Way, backs_by, backs_in, ways_at}
use Rattle.epoch_laws.proofs.Lists.{map_all}
use Rattle.epoch_draft.specs.Drafts.{Grows}
use Rattle.epoch_draft.specs.Moves.{moves_on}
use Rattle.epoch_draft.specs.Suits.{LeavingSuits, StepSuits, WaySuits}
use Rattle.epoch_draft.specs.declared.draft.Draft.{Draft}
use Rattle.epoch_draft.proofs.DraftLemmas.{grows_trans}

module _ {X : Type 0} (P : X → Type 0) where
  -- what holds of two lists holds of the left one
  pub all_left : (xs ys : List X) → All P (xs ++ ys) → All P xs
  all_left [] ys all = All-nil P
  all_left (x ∷ xs) ys all = All-cons P x xs (All-head P x (xs ++ ys) all) (all_left xs ys (All-tail P x (xs ++ ys) all))

  -- and of the right one
  pub all_right : (xs ys : List X) → All P (xs ++ ys) → All P ys
  all_right [] ys all = all
  all_right (x ∷ xs) ys all = all_right xs ys (All-tail P x (xs ++ ys) all)

-- ways one behind another
pub moves_append : (a b : List Way) (x : Instance) → moves_on (a ++ b) x ≡ moves_on a x ++ moves_on b x
moves_append a b x = map-append (λ (way : Way). record { instance = x; way = way }) a b

-- one way more of a loop
pub go_more : {X : Type 0} (f : X → Way) (net : Net) (xs : List X) (i : ℕ) (d : X) (x : Instance) (old mid new : Draft) → i < length xs → Grows net (moves_on (map f (take i xs)) x) old mid → Grows net (moves_on (f (get_or xs i d) ∷ []) x) mid new
    → Grows net (moves_on (map f (take (i + 1) xs)) x) old new
go_more f net xs i d x old mid new lt one two =
    subst (λ ms. Grows net ms old new)
    (sym (ap (λ ys. moves_on (map f ys) x) (take_more xs i d lt) ∙ ap (λ ways. moves_on ways x) (map-append f (take i xs) (get_or xs i d ∷ [])) ∙ moves_append (map f (take i xs)) (f (get_or xs i d) ∷ []) x))
    (grows_trans net (moves_on (map f (take i xs)) x) (moves_on (f (get_or xs i d) ∷ []) x) old mid new one two)

-- one way alone
pub go_one : {X : Type 0} (f : X → Way) (net : Net) (xs : List X) (d : X) (x : Instance) (old new : Draft) → 1 ≤ length xs → length xs < 2 → Grows net (moves_on (f (get_or xs 0 d) ∷ []) x) old new → Grows net (moves_on (map f xs) x) old new
go_one f net [] d x old new some one grows = absurd (omega (arith, some))
go_one f net (y ∷ []) d x old new some one grows = grows
go_one f net (y ∷ z ∷ ys) d x old new some one grows = absurd (omega (arith, one))

-- what suits all ways out of a state suits its edges
pub into_suits : (net : Net) (n : ℕ) (x : TupleView) → LeavingSuits net n x → All (λ k. StepSuits (step_at net k) x) (edges_at net n)
into_suits net n x suits = map_all (WaySuits net x) Into (edges_at net n) (all_left (WaySuits net x) (map Into (edges_at net n)) (map Out (ends_at net n) ++ backs_by n (wait_at net n)) suits)

-- and its ends
pub out_suits : (net : Net) (n : ℕ) (x : TupleView) → LeavingSuits net n x → All (λ (e : End). StepSuits e.step x) (ends_at net n)
out_suits net n x suits =
    map_all (WaySuits net x) Out (ends_at net n)
    (all_left (WaySuits net x) (map Out (ends_at net n)) (backs_by n (wait_at net n)) (all_right (WaySuits net x) (map Into (edges_at net n)) (map Out (ends_at net n) ++ backs_by n (wait_at net n)) suits))

-- an instance left on all ways
pub left_all : (net : Net) (n : ℕ) (w : Wait) (x : Instance) (old one two new : Draft) → wait_at net n ≡ Some w → Grows net (moves_on (map Into (edges_at net n)) x) old one → Grows net (moves_on (map Out (ends_at net n)) x) one two
    → Grows net (moves_on (backs_in n w.fold) x) two new → Grows net (moves_on (ways_at net n) x) old new
left_all net n w x old one two new at into out back =
    let edges = map Into (edges_at net n) in
    let ends = map Out (ends_at net n) in
    subst (λ ms. Grows net ms old new)
    (sym (ap (λ (o : Option Wait). moves_on (edges ++ (ends ++ backs_by n o)) x) at ∙ moves_append edges (ends ++ backs_in n w.fold) x ∙ ap (λ ms. moves_on edges x ++ ms) (moves_append ends (backs_in n w.fold) x)))
    (grows_trans net (moves_on edges x) (moves_on ends x ++ moves_on (backs_in n w.fold) x) old one new into (grows_trans net (moves_on ends x) (moves_on (backs_in n w.fold) x) one two new out back))

-- a number with a state is below that of all places
pub state_below : (net : Net) (n : ℕ) (state : State) → state_at net n ≡ Some state → n < length net
state_below [] n state h = absurd (cc)
state_below (o ∷ net) zero state h = omega arith
state_below (o ∷ net) (suc n) state h = omega (arith, state_below net n state h)

-- a number that a state has is below that of all places
pub used_below : (net : Net) (n : ℕ) → IsTrue (is_used net n) → n < length net
used_below net n used = go (state_at net n) refl used
  where
    go : (o : Option State) → state_at net n ≡ o → IsTrue (is_some o) → n < length net
    go None e used = absurd (cc)
    go (Some state) e used = state_below net n state e
