-- A line that begins at the root state of its stream.
use Rattle.std.proofs.Common.{◌≡◌, ◌⊎◌, ◌∙◌, sym, ap, refl, subst, inl, inr, ℕ, suc, ◌+◌, ◌<◌, ◌≤◌, ◌==◌, ◌||◌, Bool, true, false, cond, length, add-one, List, [], ◌∷◌, ◌++◌, arith}
use Rattle.std.specs.Prelude.{Option, Some, None, is_some, sum_by, count_by, position}
use Rattle.std.specs.List.{list_any}
use Rattle.std.specs.List.Sorted.{IsPermutation}
use Rattle.std.specs.Option.{option_and_then, unwrap_or}
use Rattle.std.proofs.lemmas.List.{length-append}
use Rattle.std.proofs.lemmas.List.Elements.{Contains-append_left, Contains-push}
use Rattle.std.proofs.lemmas.List.Quantifiers.{position-Some}
use Rattle.std.proofs.lemmas.List.Sorted.{IsPermutation-refl}
use Rattle.automaton.specs.declared.line.Line.{Line}
use Rattle.automaton.specs.declared.network.Entrance.{Entrance}
use Rattle.automaton.specs.declared.network.Entrance.TheVariants as entrance
use Rattle.automaton.specs.declared.network.State.{State}
use Rattle.automaton.specs.Growing.{IsGrown, IsWhole, rooted}
use Rattle.automaton.specs.Networks.{IsAt}
use Rattle.automaton.specs.Plain.{numbered}
use Rattle.automaton.specs.Prefixes.{Root, beginnings, prefixes}
use Rattle.automaton.specs.States.{Net, before_at, before_by, before_in, edges_in, ends_in, entrance_at, entrance_in, is_used, root_at, root_by, root_in, state_at, tells}
use Rattle.automaton.proofs.CountLemmas.{bit, count-has, count-push, none_counted}
use Rattle.event_types.proofs.NumberLemmas.{is_other, same_number}
use Rattle.automaton.proofs.NumberLemmas.{are_same_or_not}
use Rattle.automaton.proofs.PlaceLemmas.{nothing_before, endings_kept, none_behind, place_here, places_kept, prefixes_kept, with_place}
use Rattle.automaton.proofs.SlotLemmas.{at_used, pushed_here, pushed_other, root_place}

root_tells : (stream : ℕ) (o : Option ℕ) → tells stream o ≡ true → o ≡ Some stream
root_tells stream None e = cc
root_tells stream (Some root) e = ap (λ s. Some s) (same_number root stream e)

-- a root state isn't entered from another
root_not_waiting : (net : Net) (number stream before : ℕ) → root_at net number ≡ Some stream → before_at net number ≡ Some before → ⊥
root_not_waiting net number stream before is from = go (entrance_at net number) is from
  where
    go : (o : Option Entrance) → option_and_then root_by o ≡ Some stream → option_and_then before_by o ≡ Some before → ⊥
    go None e f = cc
    go (Some (entrance.Root root)) e f = cc
    go (Some (entrance.Waiting other hop)) e f = cc

bit_one : (b : Bool) → 1 ≤ bit b → b ≡ true
bit_one true le = refl
bit_one false le = absurd (omega arith)

bit_zero : (b : Bool) → bit b ≡ 0 → b ≡ false
bit_zero true e = absurd (omega arith)
bit_zero false e = refl

-- a stream that is begun in already
begun_or : (begun : Bool) (stream other : ℕ) → (stream ≡ other → begun ≡ true) → bit begun ≡ bit (begun || (stream == other))
begun_or true stream other h = refl
begun_or false stream other h = ap bit (sym (is_other stream other (λ e. let no : false ≡ true = h e in cc)))

-- and one that isn't
begun_new : (begun : Bool) (stream other : ℕ) → (stream ≡ other → begun ≡ false) → bit begun + bit (stream == other) ≡ bit (begun || (stream == other))
begun_new true stream other h = ap (λ (b : Bool). 1 + bit b) (is_other stream other (λ e. let no : true ≡ false = h e in cc))
begun_new false stream other h = omega arith

-- the root is found
module _ (lines : List Line) (stream : ℕ) (net : Net) (whole : IsWhole lines net) where
  abbrev is_its : Option State → Bool
  is_its slot = tells stream (root_in slot)

  -- where the stream has a root, nothing grows
  pub found_root : (tip : ℕ) → position is_its net ≡ Some tip → IsGrown lines tip (Root stream) net
  found_root tip found =
      let at_tip = position-Some is_its net tip None found in
      let is = root_tells stream (root_at net tip) at_tip.1 in
      let used : is_used net tip ≡ true = is_there (state_at net tip) is in
      let endings = whole.plain.endings in
      record {
        network = whole.network;
        places = endings.places;
        are_places = endings.are_places;
        here = root_place net tip stream (endings.places tip) is (endings.are_places tip used);
        used = used;
        same = endings.same;
        prefixes_only = λ number u. Contains-append_left (prefixes lines) (beginnings (Root stream)) (endings.places number) (whole.plain.prefixes_only number (endings.places number) (endings.are_places number u));
        roots = λ other. whole.plain.roots other ∙ begun_or (list_any (λ l. l.root == other) lines) stream other (λ e. begun other e (count-has is_its net tip None at_tip.0 at_tip.1));
        waiting = whole.plain.waiting ∙ (let e : sum_by (λ l. length l.hops) lines ≡ sum_by (λ l. length l.hops) lines + 0 = omega arith in e);
        apart = λ number before from.
            whole.plain.apart number before from ∙ sym (ap (λ (b : Bool). cond {A = ℕ} b 0 1) (is_other number tip (λ e. root_not_waiting net tip stream before is (subst (λ n. before_at net n ≡ Some before) e from))));
        full = whole.full;
      }
    where
      is_there : (slot : Option State) → root_in slot ≡ Some stream → is_some slot ≡ true
      is_there None e = cc
      is_there (Some state) e = refl

      begun : (other : ℕ) → stream ≡ other → 1 ≤ count_by is_its net → list_any (λ l. l.root == other) lines ≡ true
      begun other e counted = bit_one (list_any (λ l. l.root == other) lines) (subst (λ n. 1 ≤ n) (whole.plain.roots other) (subst (λ s. 1 ≤ count_by (λ slot. tells s (root_in slot)) net) e counted))

  abbrev new_root : Option State
  new_root = Some (record { entrance = entrance.Root stream; edges = []; ends = [] })

  -- the root is new
  pushed_slots : {X : Type 0} (f : Option State → X) → f new_root ≡ f None → (number : ℕ) → f (state_at (net ++ new_root ∷ []) number) ≡ f (state_at net number)
  pushed_slots f none number = by_number (are_same_or_not number (length net))
    where
      by_number : (number ≡ length net) ⊎ (number ≡ length net → ⊥) → f (state_at (net ++ new_root ∷ []) number) ≡ f (state_at net number)
      by_number (inl same) =
          ap (λ n. f (state_at (net ++ new_root ∷ []) n)) same ∙ ap f (pushed_here net new_root) ∙ none ∙ sym (ap f (none_behind net)) ∙ ap (λ n. f (state_at net n)) (sym same)
      by_number (inr ne) = ap f (pushed_other net new_root number ne)

  -- else one root more stands at the end
  pub pushed_root : position is_its net ≡ None → IsGrown lines (length net) (Root stream) (net ++ new_root ∷ [])
  pushed_root absent =
      let grown : Net = net ++ new_root ∷ [] in
      let longer : length grown ≡ suc (length net) = length-append net (new_root ∷ []) ∙ add-one (length net) in
      let entries : (number : ℕ) → (number ≡ length net → ⊥) → entrance_at grown number ≡ entrance_at net number = λ number ne. ap entrance_in (pushed_other net new_root number ne) in
      let here : IsAt grown (length net) (Root stream) = ap root_in (pushed_here net new_root) in
      let endings = whole.plain.endings in
      let are = places_kept net grown longer entries endings.places endings.are_places (Root stream) here in
      record {
        network = record {
          places = λ number u. (with_place (length net) (Root stream) endings.places number, are number u);
          edges = λ number next.
              ap (count_by (λ edge. edge == next)) (pushed_slots edges_in refl number) ∙ whole.network.edges number next ∙ ap (λ o. bit (tells number o)) (sym (pushed_slots before_in refl next));
        };
        places = with_place (length net) (Root stream) endings.places;
        are_places = are;
        here = place_here (length net) (Root stream) endings.places;
        used = ap is_some (pushed_here net new_root);
        same = subst (λ es. IsPermutation es (numbered 0 lines)) (sym (endings_kept net grown longer entries endings.places endings.are_places (Root stream) here (pushed_slots ends_in refl))) endings.same;
        prefixes_only =
            prefixes_kept net grown longer entries endings.places endings.are_places (Root stream) here (prefixes lines ++ beginnings (Root stream))
            (λ number u. Contains-append_left (prefixes lines) (beginnings (Root stream)) (endings.places number) (whole.plain.prefixes_only number (endings.places number) (endings.are_places number u)))
            (Contains-push (prefixes lines) (Root stream));
        roots = λ other.
            count-push (λ slot. tells other (root_in slot)) net new_root ∙ ap (λ n. n + bit (stream == other)) (whole.plain.roots other)
            ∙ begun_new (list_any (λ l. l.root == other) lines) stream other (λ e. unbegun other e (none_counted is_its net absent));
        waiting =
            count-push (λ slot. is_some (before_in slot)) net new_root ∙ ap (λ n. n + 0) whole.plain.waiting;
        apart = λ number before from.
            (let was : before_at net number ≡ Some before = sym (pushed_slots before_in refl number) ∙ from in
            let one = whole.plain.apart number before was in
            let want : cond {A = ℕ} (number == length net) 0 1 ≡ 1 = ap (λ (b : Bool). cond {A = ℕ} b 0 1)
            (is_other number (length net) (λ e. let none : before_at net number ≡ None = ap (before_at net) e ∙ nothing_before net in cc)) in
            omega (arith, ap length (pushed_slots edges_in refl number), ap length (pushed_slots ends_in refl number)));
        full = count-push is_some net new_root ∙ omega (arith, whole.full, longer);
      }
    where
      unbegun : (other : ℕ) → stream ≡ other → count_by is_its net ≡ 0 → list_any (λ l. l.root == other) lines ≡ false
      unbegun other e counted = bit_zero (list_any (λ l. l.root == other) lines) (sym (whole.plain.roots other) ∙ subst (λ s. count_by (λ slot. tells s (root_in slot)) net ≡ 0) e counted)

-- a line begins at the root state of its stream
pub first_state : (stream : ℕ) (old new : Net) (tip : ℕ) → tip ≡ unwrap_or (position (λ slot. tells stream (root_in slot)) old) (length old)
    → new ≡ rooted stream (position (λ slot. tells stream (root_in slot)) old) old → (tip < length new) × ((lines : List Line) → IsWhole lines old → IsGrown lines tip (Root stream) new)
first_state stream old new tip is grown = go (position (λ slot. tells stream (root_in slot)) old) refl is grown
  where
    go : (o : Option ℕ) → position (λ slot. tells stream (root_in slot)) old ≡ o → tip ≡ unwrap_or o (length old) → new ≡ rooted stream o old
        → (tip < length new) × ((lines : List Line) → IsWhole lines old → IsGrown lines tip (Root stream) new)
    go (Some found) e is grown = (
      subst (λ (net : Net). tip < length net) (sym grown) (subst (λ n. n < length old) (sym is) ((position-Some (λ slot. tells stream (root_in slot)) old found None e).0)),
      λ lines whole. subst (λ (s : ℕ × Net). IsGrown lines s.0 (Root stream) s.1) (λ i. (sym is i, sym grown i)) (found_root lines stream old whole found e),
    )
    go None e is grown = (
      (let longer = ap length grown ∙ length-append old (Some (record { entrance = entrance.Root stream; edges = []; ends = [] }) ∷ []) in omega arith),
      λ lines whole. subst (λ (s : ℕ × Net). IsGrown lines s.0 (Root stream) s.1) (λ i. (sym is i, sym grown i)) (pushed_root lines stream old whole e),
    )

-- no lines have the empty network
pub whole_none : IsWhole [] []
whole_none = record {
  network = record { places = λ number u. absurd (let no : false ≡ true = u in cc); edges = λ number next. refl };
  plain = record {
    endings = record { places = λ number. Root 0; are_places = λ number u. absurd (let no : false ≡ true = u in cc); same = IsPermutation-refl [] };
    roots = λ stream. refl;
    waiting = refl;
    apart = λ number before from. absurd (let no : None ≡ Some before = from in cc);
    prefixes_only = λ number prefix here. absurd (let no : false ≡ true = at_used [] number prefix here in cc);
  };
  full = refl;
}
