-- Networks that changed, as the code has them.
use Rattle.std.proofs.Common.{◌≡◌, ◌⊎◌, ◌∙◌, sym, ap, refl, subst, inl, inr, ℕ, ◌+◌, ◌-◌, ◌<◌, ◌≤◌, ◌==◌, max, true, false, get_or, length, set, take, List, [], arith}
use Rattle.std.specs.Prelude.{Option, Some, None, Result, Ok, Err, OnOk, OnErr, IfSome, is_some, count_by, slice_get}
use Rattle.std.specs.List.{swap_remove}
use Rattle.std.proofs.lemmas.List.{length-set, set-get_or}
use Rattle.automaton.specs.declared.line.Hop.{Hop}
use Rattle.automaton.specs.declared.network.End.{End}
use Rattle.automaton.specs.declared.network.Entrance.TheVariants as entrance
use Rattle.automaton.specs.declared.network.State.{State}
use Rattle.automaton.specs.Changes.{AddsEnd, AddsHop, AddsRoot, RemovesEnd, RemovesState, LosesEdge, with_edge, with_end, with_ends}
use Rattle.automaton.specs.Growing.{IsUnedged, LosesEnd, edged, placed}
use Rattle.automaton.specs.Networks.{IsNetwork}
use Rattle.automaton.specs.States.{Net, before_at, edges_at, edges_in, ends_in, entrance_in, is_used, state_at, tells}
use Rattle.automaton.proofs.ChangeLemmas.{adds_end_network, adds_hop_network, adds_root_network, entry_there, network_alike, removes_end_network}
use Rattle.automaton.proofs.ClearedLemmas.{before_used, lost_entry, none_entered, removes_state_network, told_not, told_so}
use Rattle.automaton.proofs.CountLemmas.{count-set}
use Rattle.automaton.proofs.GrowingLemmas.{same_read}
use Rattle.event_types.proofs.NumberLemmas.{other_number}
use Rattle.automaton.proofs.PlacedLemmas.{count_gone, placed_count, placed_here, placed_length, placed_other, shrunk_count, shrunk_reads}
use Rattle.automaton.proofs.SlotLemmas.{changed_here, changed_other, edge_is_some, end_is_some, used_below}

-- it went well or not
pub either : {T E P Q : Type 0} (result : Result T E) → OnOk result P → OnErr result Q → P ⊎ Q
either (Ok value) p q = inl p
either (Err fault) p q = inr q

-- what holds of the fields of a network
abbrev pub Holds : ℕ → Net → Type 0
Holds states slots = (states ≡ count_by is_some slots) × IsNetwork slots

module _ (states state : ℕ) (slots : Net) (used : is_used slots state ≡ true) (read put : Option State) (is : read ≡ get_or slots state read) (holds : Holds states slots) where
  inside : state < length slots
  inside = used_below slots state used

  there : read ≡ state_at slots state
  there = same_read slots state read inside is

  -- an end came
  pub end_added : (end : End) → put ≡ with_end end read → AddsEnd state end slots (set slots state put)
  end_added end put_is = record {
    here = changed_here slots state put inside ∙ put_is ∙ ap (with_end end) there;
    others = λ other ne. changed_other slots state put other ne;
    places = length-set slots state put;
  }

  -- or nothing changed
  nothing_put : put ≡ read → set slots state put ≡ slots
  nothing_put same = ap (set slots state) (same ∙ there) ∙ set-get_or slots state None

  -- the count of states is the same with one more end or with none
  pub end_kept : {T E : Type 0} (result : Result T E) (end : End) → OnOk result (put ≡ with_end end read) → OnErr result (put ≡ read) → Holds states (set slots state put)
  end_kept result end ok err = elim (either result ok err) [ inl put_is ↦ came put_is | inr same ↦ subst (Holds states) (sym (nothing_put same)) holds ]
    where
      came : put ≡ with_end end read → Holds states (set slots state put)
      came put_is = (
        holds.0 ∙ sym (count-set is_some slots state put None inside (ap is_some (put_is ∙ ap (with_end end) there) ∙ end_is_some end (state_at slots state))),
        adds_end_network state end slots (set slots state put) (end_added end put_is) holds.1,
      )

  ends_are_some : (ends : List End) (slot : Option State) → is_some (with_ends ends slot) ≡ is_some slot
  ends_are_some ends None = refl
  ends_are_some ends (Some present) = refl

  -- an end left
  pub end_removed : (place : ℕ) → LosesEnd place read put → RemovesEnd state place slots (set slots state put)
  end_removed place loses = record {
    gone = loses.gone;
    there = (λ i. slice_get (ends_in (sym there i)) place) ∙ loses.there;
    here = changed_here slots state put inside ∙ loses.same ∙ (λ i. with_ends (swap_remove (ends_in (there i)) place loses.gone) (there i));
    others = λ other ne. changed_other slots state put other ne;
    places = length-set slots state put;
  }

  -- it is the same without an end
  pub end_left : (place : ℕ) → LosesEnd place read put → Holds states (set slots state put)
  end_left place loses = (
    holds.0 ∙ sym (count-set is_some slots state put None inside (ap is_some loses.same ∙ ends_are_some (swap_remove (ends_in read) place loses.gone) read ∙ ap is_some there)),
    removes_end_network state place slots (set slots state put) (end_removed place loses) holds.1,
  )

-- a root state came
module _ (states number stream : ℕ) (slots new : Net) (state : State) (next : number ≤ length slots) (free : is_used slots number ≡ false) (is : state ≡ record { entrance = entrance.Root stream; edges = []; ends = [] }) (put : new ≡ placed number (Some state) slots) where
  -- the new root is added
  pub root_added : AddsRoot number stream slots new
  root_added = subst (AddsRoot number stream slots) (sym put) (record {
    here = placed_here number (Some state) slots next ∙ ap (λ s. Some s) is;
    others = placed_other number (Some state) slots next;
    places = placed_length number (Some state) slots next;
  })

  -- there is one state more
  pub root_held : Holds states slots → Holds (states + 1) new
  root_held holds = (
    ap (λ n. n + 1) holds.0 ∙ sym (ap (count_by is_some) put ∙ placed_count number state slots next free),
    adds_root_network number stream slots new free root_added holds.1,
  )

-- a waiting state came
module _ (states number before : ℕ) (hop : Hop) (slots new : Net) (state : State) (next : number ≤ length slots) (free : is_used slots number ≡ false) (used : is_used slots before ≡ true)
    (is : state ≡ record { entrance = entrance.Waiting before hop; edges = []; ends = [] }) (put : new ≡ placed number (Some state) (edged before number slots)) where
  abbrev between : Net
  between = edged before number slots

  from_inside : before < length slots
  from_inside = used_below slots before used

  same_length : length between ≡ length slots
  same_length = length-set slots before (with_edge number (state_at slots before))

  still_next : number ≤ length between
  still_next = omega (arith, same_length, next)

  apart : number ≡ before → ⊥
  apart same = let none : is_used slots before ≡ false = ap (is_used slots) (sym same) ∙ free in absurd (let no : true ≡ false = sym used ∙ none in cc)

  -- the new hop is added
  pub hop_added : AddsHop number before hop slots new
  hop_added = subst (AddsHop number before hop slots) (sym put) (record {
    here = placed_here number (Some state) between still_next ∙ ap (λ s. Some s) is;
    edge = placed_other number (Some state) between still_next before (λ e. apart (sym e)) ∙ changed_here slots before (with_edge number (state_at slots before)) from_inside;
    others = λ other ne nb. placed_other number (Some state) between still_next other ne ∙ changed_other slots before (with_edge number (state_at slots before)) other nb;
    places = placed_length number (Some state) between still_next ∙ ap (λ n. max n (number + 1)) same_length;
  })

  -- there is one state more
  pub hop_held : Holds states slots → Holds (states + 1) new
  hop_held holds =
      let counted : count_by is_some between ≡ count_by is_some slots = count-set is_some slots before (with_edge number (state_at slots before)) None from_inside (edge_is_some number (state_at slots before)) in
      let still_free : is_used between number ≡ false = ap is_some (changed_other slots before (with_edge number (state_at slots before)) number apart) ∙ free in (
        ap (λ n. n + 1) (holds.0 ∙ sym counted) ∙ sym (ap (count_by is_some) put ∙ placed_count number state between still_next still_free),
        adds_hop_network number before hop slots new free used hop_added holds.1,
      )

-- a state left
module _ (number : ℕ) (slots : Net) (used : is_used slots number ≡ true) (last : edges_at slots number ≡ []) (is : IsNetwork slots) where
  -- a state before is one of the network
  pub from_below : (before : Option ℕ) → before ≡ before_at slots number → IfSome before (λ from. from < length slots)
  from_below None from = tt
  from_below (Some before) from = used_below slots before (before_used slots is number before (sym from))

  -- one edge leads there from it
  pub from_one : (before : Option ℕ) → before ≡ before_at slots number → IfSome before (λ from. count_by (λ edge. edge == number) (edges_at slots from) ≡ 1)
  from_one None from = tt
  from_one (Some before) from = is.edges before number ∙ told_so before (before_at slots number) (sym from)

  lost_stays : (slot left : Option State) → LosesEdge number slot left → is_some left ≡ is_some slot
  lost_stays slot left loses = sym (entry_there left) ∙ ap is_some (lost_entry number slot left loses) ∙ entry_there slot

  module _ (before : Option ℕ) (from : before ≡ before_at slots number) (loose : Net) (cut : IsUnedged before number slots loose) where
    loose_length : length loose ≡ length slots
    loose_length = go before cut
      where
        go : (o : Option ℕ) → IsUnedged o number slots loose → length loose ≡ length slots
        go None same = ap length same
        go (Some b) lost = ap length lost.2 ∙ length-set slots b lost.0

    loose_count : count_by is_some loose ≡ count_by is_some slots
    loose_count = go before (from_below before from) cut
      where
        go : (o : Option ℕ) → IfSome o (λ b. b < length slots) → IsUnedged o number slots loose → count_by is_some loose ≡ count_by is_some slots
        go None below same = ap (count_by is_some) same
        go (Some b) below lost = ap (count_by is_some) lost.2 ∙ count-set is_some slots b lost.0 None below (lost_stays (state_at slots b) lost.0 lost.1)

    loose_other : (other : ℕ) → tells other (before_at slots number) ≡ false → state_at loose other ≡ state_at slots other
    loose_other other no_edge = go before (ap (tells other) from ∙ no_edge) cut
      where
        go : (o : Option ℕ) → tells other o ≡ false → IsUnedged o number slots loose → state_at loose other ≡ state_at slots other
        go None told same = ap (λ (net : Net). state_at net other) same
        go (Some b) told lost = ap (λ (net : Net). state_at net other) lost.2 ∙ changed_other slots b lost.0 other (λ e. other_number b other told (sym e))

    not_itself : tells number (before_at slots number) ≡ false
    not_itself = told_not number (before_at slots number) (λ itself. none_entered slots is number number last itself)

    loose_from : (b : ℕ) → before_at slots number ≡ Some b → LosesEdge number (state_at slots b) (state_at loose b)
    loose_from b there = go (subst (λ (o : Option ℕ). IsUnedged o number slots loose) (from ∙ there) cut)
      where
        go : IsUnedged (Some b) number slots loose → LosesEdge number (state_at slots b) (state_at loose b)
        go lost =
            subst (LosesEdge number (state_at slots b)) (sym (ap (λ (net : Net). state_at net b) lost.2 ∙ changed_here slots b lost.0 (used_below slots b (before_used slots is number b there)))) lost.1

    below : number < length loose
    below = let lt = used_below slots number used in omega (arith, loose_length)

    fewer : count_by is_some (set loose number None) + 1 ≡ count_by is_some slots
    fewer = count_gone number loose (ap is_some (loose_other number not_itself) ∙ used) below ∙ loose_count

    -- the state is removed
    pub state_removed : RemovesState number slots (set loose number None)
    state_removed = record {
      here = changed_here loose number None below;
      edge = λ b there.
          subst (LosesEdge number (state_at slots b)) (sym (changed_other loose number None b (λ same. none_entered slots is number number last (there ∙ ap (λ n. Some n) same)))) (loose_from b there);
      others = λ other ne told. changed_other loose number None other ne ∙ loose_other other told;
      places = length-set loose number None ∙ loose_length;
      fewer = fewer;
    }

    -- there is one state less
    pub state_left : (states : ℕ) → states ≡ count_by is_some slots → Holds (states - 1) (set loose number None)
    state_left states counted =
        (omega (arith, fewer, counted), removes_state_network number slots (set loose number None) state_removed last is)

-- a place less
pub shrunk_held : (states : ℕ) (net : Net) → 0 < length net → is_used net (length net - 1) ≡ false → Holds states net → Holds states (take (length net - 1) net)
shrunk_held states net some free holds = (
  holds.0 ∙ sym (shrunk_count net some free),
  network_alike net (take (length net - 1) net) (λ number. ap entrance_in (shrunk_reads net some free number)) (λ number. ap edges_in (shrunk_reads net some free number)) holds.1,
)
