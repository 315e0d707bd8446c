-- States that come and leave, one after another.
use Rattle.std.proofs.Common.{◌≡◌, ◌∙◌, sym, ap, refl, subst, ℕ, ◌+◌, ◌<◌, ◌==◌, Bool, true, false, IsTrue, length, List, [], ◌∷◌, ◌++◌, arith}
use Rattle.std.specs.Prelude.{All, Contains, Option, Some, None, is_some, max}
use Rattle.std.specs.List.{swap_remove}
use Rattle.std.proofs.lemmas.List.Elements.{All-append, All-cons, All-nil, All-weaker, Contains-append_left, Contains-push}
use Rattle.automaton.specs.Changes.{AddsEnd, AddsHop, AddsRoot, RemovesEnd, RemovesState, with_edge, with_end, with_ends}
use Rattle.automaton.specs.States.{Net, before_at, ends_at, is_used, state_at, tells}
use Rattle.automaton.specs.declared.line.Hop.{Hop}
use Rattle.automaton.specs.declared.network.End.{End}
use Rattle.automaton.specs.declared.network.State.{State}
use Rattle.automaton.proofs.ClearedLemmas.{lost_entry}
use Rattle.automaton.proofs.SlotLemmas.{entry_there}
use Rattle.event_types.proofs.NumberLemmas.{other_number, same_number}
use Rattle.prefix_merge.specs.Coming.{ListsCome, Notes, NotesLeft}
use Rattle.prefix_merge.specs.declared.left.Left.{Left}
use Rattle.prefix_merge.proofs.GrowthLemmas.{not_both}

-- nothing left where the same states are used
pub none_left : (old new : Net) (left : Left) → ((n : ℕ) → is_used new n ≡ is_used old n) → NotesLeft old new left left
none_left old new left same = record { left = λ n used unused. absurd (not_both old n used (sym (same n) ∙ unused)); kept = λ n noted. noted }

-- states that left one after another
pub left_twice : (old mid new : Net) (before between after : Left) → NotesLeft old mid before between → NotesLeft mid new between after → NotesLeft old new before after
left_twice old mid new before between after one two = record {
  left = λ n used unused. go n used unused (is_used mid n) refl;
  kept = λ n noted. two.kept n (one.kept n noted);
}
  where
    go : (n : ℕ) → IsTrue (is_used old n) → is_used new n ≡ false → (b : Bool) → is_used mid n ≡ b → Notes after n
    go n used unused true is = two.left n is unused
    go n used unused false is = two.kept n (one.left n used is)

-- a state that leaves is noted
pub one_left : (number : ℕ) (old new : Net) (before after : Left) → RemovesState number old new → Notes after number → ((n : ℕ) → Notes before n → Notes after n) → NotesLeft old new before after
one_left number old new before after removes noted kept = record { left = λ n used unused. go n used unused (n == number) refl; kept = kept }
  where
    told : (n : ℕ) (o : Option ℕ) → tells n o ≡ true → o ≡ Some n
    told n None is = absurd (cc)
    told n (Some m) is = ap Some (same_number m n is)

    still : (n : ℕ) → (n ≡ number → ⊥) → (b : Bool) → tells n (before_at old number) ≡ b → is_used new n ≡ is_used old n
    still n other true is =
        sym (entry_there (state_at new n)) ∙ ap is_some (lost_entry number (state_at old n) (state_at new n) (removes.edge n (told n (before_at old number) is))) ∙ entry_there (state_at old n)
    still n other false is = ap is_some (removes.others n other is)

    go : (n : ℕ) → IsTrue (is_used old n) → is_used new n ≡ false → (b : Bool) → (n == number) ≡ b → Notes after n
    go n used unused true is = subst (Notes after) (sym (same_number n number is)) noted
    go n used unused false is = absurd (not_both old n used (sym (still n (other_number n number is) (tells n (before_at old number)) refl) ∙ unused))

-- no state leaves with an end
pub end_left : (state place : ℕ) (old new : Net) → RemovesEnd state place old new → (n : ℕ) → is_used new n ≡ is_used old n
end_left state place old new removes n = go (n == state) refl
  where
    cut : (ends : List End) (o : Option State) → is_some (with_ends ends o) ≡ is_some o
    cut ends None = refl
    cut ends (Some state) = refl

    go : (b : Bool) → (n == state) ≡ b → is_used new n ≡ is_used old n
    go true is = ap (is_used new) (same_number n state is) ∙ ap is_some removes.here ∙ cut (swap_remove (ends_at old state) place removes.gone) (state_at old state) ∙ ap (is_used old) (sym (same_number n state is))
    go false differs = ap is_some (removes.others n (other_number n state differs))

-- the same states come one after another
pub come_twice : (old mid new : Net) (before between after : List ℕ) → ListsCome old mid before between → ListsCome mid new between after → ListsCome old new before after
come_twice old mid new before between after one two = record {
  came = λ n used unused. go n used unused (is_used mid n) refl;
  kept = λ n listed. two.kept n (one.kept n listed);
  below = λ all. two.below (one.below all);
}
  where
    go : (n : ℕ) → IsTrue (is_used new n) → is_used old n ≡ false → (b : Bool) → is_used mid n ≡ b → Contains after n
    go n used unused true is = two.kept n (one.came n is unused)
    go n used unused false is = two.came n used is

pub none_come : (old new : Net) (listed : List ℕ) → ((n : ℕ) → is_used new n ≡ is_used old n) → length new ≡ length old → ListsCome old new listed listed
none_come old new listed same places = record {
  came = λ n used unused. absurd (not_both new n used (same n ∙ unused));
  kept = λ n there. there;
  below = λ all. subst (λ m. All (λ k. k < m) listed) (sym places) all;
}

pub end_come : (state : ℕ) (end : End) (old new : Net) (listed : List ℕ) → AddsEnd state end old new → ListsCome old new listed listed
end_come state end old new listed adds = none_come old new listed (λ n. go n (n == state) refl) adds.places
  where
    more : (o : Option State) → is_some (with_end end o) ≡ is_some o
    more None = refl
    more (Some state) = refl

    go : (n : ℕ) (b : Bool) → (n == state) ≡ b → is_used new n ≡ is_used old n
    go n true is = ap (is_used new) (same_number n state is) ∙ ap is_some adds.here ∙ more (state_at old state) ∙ ap (is_used old) (sym (same_number n state is))
    go n false differs = ap is_some (adds.others n (other_number n state differs))

-- a state that comes is listed last
one_come : (number : ℕ) (old new : Net) (before after : List ℕ) → after ≡ before ++ number ∷ [] → ((n : ℕ) → (n ≡ number → ⊥) → is_used new n ≡ is_used old n) → length new ≡ max (length old) (number + 1) → ListsCome old new before after
one_come number old new before after is same places = subst (ListsCome old new before) (sym is) (record {
  came = λ n used unused. go n used unused (n == number) refl;
  kept = λ n there. Contains-append_left before (number ∷ []) n there;
  below = λ all. All-append (λ k. k < length new) before (number ∷ []) (All-weaker (λ k. k < length old) (λ k. k < length new) (λ k lt. omega (arith, lt, places)) before all) (All-cons (λ k. k < length new) number [] (omega (arith, places)) (All-nil (λ k. k < length new)));
})
  where
    go : (n : ℕ) → IsTrue (is_used new n) → is_used old n ≡ false → (b : Bool) → (n == number) ≡ b → Contains (before ++ number ∷ []) n
    go n used unused true e = subst (λ (k : ℕ). Contains (before ++ k ∷ []) n) (same_number n number e) (Contains-push before n)
    go n used unused false differs = absurd (not_both new n used (same n (other_number n number differs) ∙ unused))

pub root_come : (number stream : ℕ) (old new : Net) (before after : List ℕ) → AddsRoot number stream old new → after ≡ before ++ number ∷ [] → ListsCome old new before after
root_come number stream old new before after adds is = one_come number old new before after is (λ n other. ap is_some (adds.others n other)) adds.places

pub hop_come : (number tip : ℕ) (hop : Hop) (old new : Net) (before after : List ℕ) → AddsHop number tip hop old new → after ≡ before ++ number ∷ [] → ListsCome old new before after
hop_come number tip hop old new before after adds is = one_come number old new before after is (λ n other. go n other (n == tip) refl) adds.places
  where
    edged : (o : Option State) → is_some (with_edge number o) ≡ is_some o
    edged None = refl
    edged (Some state) = refl

    go : (n : ℕ) → (n ≡ number → ⊥) → (b : Bool) → (n == tip) ≡ b → is_used new n ≡ is_used old n
    go n other true is = ap (is_used new) (same_number n tip is) ∙ ap is_some adds.edge ∙ edged (state_at old tip) ∙ ap (is_used old) (sym (same_number n tip is))
    go n other false differs = ap is_some (adds.others n other (other_number n tip differs))
