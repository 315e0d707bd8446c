-- Names of targets, of which one leaves.
use Rattle.std.proofs.Common.{◌≡◌, ◌∙◌, sym, ap, refl, inl, inr, ℕ, ◌==◌, ◌⊎◌, ◌&&◌, not, Bool, true, false, cond}
use Rattle.std.specs.Prelude.{Option, Some, None}
use Rattle.std.specs.Option.{option_eq, option_map}
use Rattle.automaton.proofs.NumberLemmas.{are_same_or_not}
use Rattle.event_types.proofs.NumberLemmas.{is_other, is_same as is_same_number, same_number, self_equal}
use Rattle.stream_readers.specs.Leaving.{end_with, moved, moved_end}
use Rattle.stream_readers.specs.Naming.{end_name, gone_name, is_same, last_name, name_of}
use Rattle.stream_readers.specs.declared.leaving.Gone.{Gone}
use Rattle.stream_readers.specs.declared.leaving.Gone.TheVariants as leaving
use Rattle.stream_readers.specs.declared.leaving.GoneEnd.{GoneEnd}
use Rattle.stream_readers.specs.declared.naming.Name.{Name}
use Rattle.stream_readers.specs.declared.target.EndPlace.{EndPlace}
use Rattle.stream_readers.specs.declared.target.Target.{Target}
use Rattle.stream_readers.specs.declared.target.Target.TheVariants.{Edge, End}
use Rattle.stream_readers.proofs.SlotLemmas.{and_left}

-- the second of two tests that both pass
and_right : (a b : Bool) → (a && b) ≡ true → b ≡ true
and_right true b is = is
and_right false b is = absurd (cc)

-- places that pass the test are one
same_place : (o p : Option ℕ) → option_eq (λ place at. place == at) o p ≡ true → o ≡ p
same_place None None is = refl
same_place None (Some k) is = absurd (cc)
same_place (Some k) None is = absurd (cc)
same_place (Some k) (Some m) is = ap Some (same_number k m is)

-- a place passes it for itself
equal_place : (o : Option ℕ) → option_eq (λ place at. place == at) o o ≡ true
equal_place None = refl
equal_place (Some k) = self_equal k

-- names that pass the test are one
pub same_name : (name other : Name) → is_same name other ≡ true → name ≡ other
same_name name other is =
    let one : Name → ℕ → Name = λ n state. record { state = state; end = n.end } in
    ap (one name) (same_number name.state other.state (and_left (name.state == other.state) (option_eq (λ place at. place == at) name.end other.end) is))
    ∙ ap (λ (end : Option ℕ). record { state = other.state; end = end }) (same_place name.end other.end (and_right (name.state == other.state) (option_eq (λ place at. place == at) name.end other.end) is))

-- a name passes it for itself
pub equal_name : (name : Name) → is_same name name ≡ true
equal_name name = ap (λ b. b && option_eq (λ place at. place == at) name.end name.end) (self_equal name.state) ∙ equal_place name.end

-- other names don't
pub other_name : (name other : Name) → (name ≡ other → ⊥) → is_same name other ≡ false
other_name name other apart = go (is_same name other) refl
  where
    go : (b : Bool) → is_same name other ≡ b → b ≡ false
    go true is = absurd (apart (same_name name other is))
    go false is = refl

-- two names are one or not
pub one_name_or_two : (name other : Name) → (name ≡ other) ⊎ (name ≡ other → ⊥)
one_name_or_two name other = go (is_same name other) refl
  where
    go : (b : Bool) → is_same name other ≡ b → (name ≡ other) ⊎ (name ≡ other → ⊥)
    go true is = inl (same_name name other is)
    go false is = inr (λ same. absurd (let e : true ≡ false = sym (ap (is_same name) (sym same) ∙ equal_name name) ∙ is in cc))

-- an end of another state
elsewhere : (left : GoneEnd) (end : EndPlace) → (end.state ≡ left.state → ⊥) → moved_end left end ≡ Some (End end)
elsewhere left end other = ap (λ b. cond (not b) (Some (End end)) (cond (end.place == left.place) None (Some (end_with (cond (end.place == left.last) left.place end.place) end)))) (is_other end.state left.state other)

-- an end of the state from which one leaves, by whether it stands at either place
pub there : (left : GoneEnd) (end : EndPlace) (b d : Bool) → end.state ≡ left.state → (end.place == left.place) ≡ b → (end.place == left.last) ≡ d → moved_end left end ≡ cond b None (Some (end_with (cond d left.place end.place) end))
there left end b d same here last =
    ap (λ e. cond (not e) (Some (End end)) (cond (end.place == left.place) None (Some (end_with (cond (end.place == left.last) left.place end.place) end)))) (is_same_number end.state left.state same)
    ∙ ap (λ e. cond e None (Some (end_with (cond (end.place == left.last) left.place end.place) end))) here ∙ ap (λ e. cond b None (Some (end_with (cond e left.place end.place) end))) last

-- ends of one state at one place have one name
one_end : (left : GoneEnd) (end : EndPlace) (place : ℕ) → end.state ≡ left.state → end.place ≡ place → name_of (End end) ≡ end_name left.state place
one_end left end place same at = ap (λ state. end_name state end.place) same ∙ ap (end_name left.state) at

-- what has neither name stays
pub name_stays : (gone : Gone) (target : Target) → (name_of target ≡ gone_name gone → ⊥) → (name_of target ≡ last_name gone → ⊥) → moved gone target ≡ Some target
name_stays (leaving.Edge left) (Edge state) apart other = ap (λ b. cond b None (Some (Edge state))) (is_other state left (λ same. apart (ap (λ (n : ℕ). name_of (Edge n)) same)))
name_stays (leaving.Edge left) (End end) apart other = refl
name_stays (leaving.End left) (Edge state) apart other = refl
name_stays (leaving.End left) (End end) apart other = go (are_same_or_not end.state left.state)
  where
    go : (end.state ≡ left.state) ⊎ (end.state ≡ left.state → ⊥) → moved_end left end ≡ Some (End end)
    go (inl same) =
        there left end false false same (is_other end.place left.place (λ at. apart (one_end left end left.place same at))) (is_other end.place left.last (λ at. other (one_end left end left.last same at)))
    go (inr differs) = elsewhere left end differs

-- the places of ends of one name are one
pub place_of : (m n k j : ℕ) → end_name m k ≡ end_name n j → k ≡ j
place_of m n k j same = let e : Some k ≡ Some j = ap (λ (name : Name). name.end) same in cc

-- what has the name of the one that leaves leaves
pub name_goes : (gone : Gone) (target : Target) → name_of target ≡ gone_name gone → moved gone target ≡ None
name_goes (leaving.Edge left) (Edge state) same = ap (λ b. cond b None (Some (Edge state))) (is_same_number state left (ap (λ (n : Name). n.state) same))
name_goes (leaving.Edge left) (End end) same = absurd (let e : Some end.place ≡ None = ap (λ (n : Name). n.end) same in cc)
name_goes (leaving.End left) (Edge state) same = absurd (let e : None ≡ Some left.place = ap (λ (n : Name). n.end) same in cc)
name_goes (leaving.End left) (End end) same =
    there left end true (end.place == left.last) (ap (λ (n : Name). n.state) same) (is_same_number end.place left.place (place_of end.state left.state end.place left.place same)) refl

-- and the last one has its name
pub last_takes : (gone : Gone) (target : Target) → name_of target ≡ last_name gone → (name_of target ≡ gone_name gone → ⊥) → option_map name_of (moved gone target) ≡ Some (gone_name gone)
last_takes (leaving.Edge left) (Edge state) same other = absurd (other same)
last_takes (leaving.Edge left) (End end) same other = absurd (let e : Some end.place ≡ None = ap (λ (n : Name). n.end) same in cc)
last_takes (leaving.End left) (Edge state) same other = absurd (let e : None ≡ Some left.last = ap (λ (n : Name). n.end) same in cc)
last_takes (leaving.End left) (End end) same other =
    let state = ap (λ (n : Name). n.state) same in
    let last = place_of end.state left.state end.place left.last same in
    ap (option_map name_of) (there left end false true state (is_other end.place left.place (λ at. other (one_end left end left.place state at))) (is_same_number end.place left.last last)) ∙ ap (λ k. Some (end_name k left.place)) state
