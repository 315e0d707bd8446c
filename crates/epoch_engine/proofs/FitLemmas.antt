-- Stores that are made to fit a network, number by number.
use Rattle.std.proofs.Common.{◌≡◌, ◌⊎◌, ◌∙◌, sym, ap, refl, subst, inl, inr, ℕ, Bool, true, false, ◌+◌, ◌<◌, ◌≤◌, cond, length, get_or, take, List, [], arith}
use Rattle.std.specs.Prelude.{Contains, Option, Some, None, is_some}
use Rattle.std.specs.Option.{option_and_then, option_map}
use Rattle.std.proofs.lemmas.Bool.{cases_lt}
use Rattle.std.proofs.lemmas.List.{get_or-take, get_or_past, length-take}
use Rattle.binding_index.specs.declared.store.Store.{Store}
use Rattle.automaton.specs.States.{Net, entrance_in, wait_at, wait_by}
use Rattle.automaton.specs.declared.wait.Wait.{Wait}
use Rattle.automaton.proofs.NumberLemmas.{are_same_or_not}
use Rattle.epoch_draft.specs.Held.{shape_for}
use Rattle.epoch_draft.proofs.Lists.{more_contains, none_in}
use Rattle.epoch_engine.specs.Fitting.{AreGrown, AreLeft, HaveNoStoresBut, HaveStoresBut, IsEmptyFor, IsGrownSlot, IsKeptSlot, IsPadded, KeepStores}

-- the states of these numbers have their stores, and each other slot is as it was
pub record GrownSoFar (net : Net) (numbers : List ℕ) (old new : List (Option Store)) : Type 0 where
  pub longer : length old ≤ length new
  pub as_many : length new ≡ length net
  pub each : (n : ℕ) → Contains numbers n → IsGrownSlot (wait_at net n) (get_or old n None) (get_or new n None)
  pub rest : (n : ℕ) → IsGrownSlot (wait_at net n) (get_or old n None) (get_or new n None) ⊎ (get_or new n None ≡ get_or old n None)

-- at first none has
pub none_grown : (net : Net) (places : ℕ) (old new : List (Option Store)) → places ≡ length net → length new ≡ places → IsPadded places old new → GrownSoFar net [] old new
none_grown net places old new counted long padded = record {
  longer = padded.longer;
  as_many = long ∙ counted;
  each = λ n c. absurd (none_in n c);
  rest = λ n. inr (padded.same n);
}

grown_again : (wait : Option Wait) (old mid new : Option Store) → IsGrownSlot wait old mid ⊎ (mid ≡ old) → IsGrownSlot wait mid new → IsGrownSlot wait old new
grown_again wait old mid new (inr same) grown = subst (λ slot. IsGrownSlot wait slot new) same grown
grown_again wait (Some store) mid new (inl was) grown = subst (λ slot. IsGrownSlot wait slot new) was grown
grown_again wait None None new (inl was) grown = grown
grown_again wait None (Some store) new (inl was) grown = subst (IsEmptyFor wait) (sym grown) was

-- one more has
pub next_grown : (net : Net) (numbers : List ℕ) (i : ℕ) (old mid new : List (Option Store)) → i < length numbers → GrownSoFar net (take i numbers) old mid
    → IsGrownSlot (wait_at net (get_or numbers i 0)) (get_or mid (get_or numbers i 0) None) (get_or new (get_or numbers i 0) None) → ((n : ℕ) → (n ≡ get_or numbers i 0 → ⊥) → get_or new n None ≡ get_or mid n None) → length new ≡ length mid
    → GrownSoFar net (take (i + 1) numbers) old new
next_grown net numbers i old mid new lt so_far grown others as_many = record {
  longer = (let longer = so_far.longer in omega (arith, longer, as_many));
  as_many = as_many ∙ so_far.as_many;
  each = λ n c. each n (are_same_or_not n (get_or numbers i 0)) (more_contains numbers i 0 n lt c);
  rest = λ n. rest n (are_same_or_not n (get_or numbers i 0));
}
  where
    this : (n : ℕ) → n ≡ get_or numbers i 0 → IsGrownSlot (wait_at net n) (get_or old n None) (get_or new n None)
    this n same =
        grown_again (wait_at net n) (get_or old n None) (get_or mid n None) (get_or new n None) (so_far.rest n)
        (subst (λ k. IsGrownSlot (wait_at net k) (get_or mid k None) (get_or new k None)) (sym same) grown)

    each : (n : ℕ) → (n ≡ get_or numbers i 0) ⊎ (n ≡ get_or numbers i 0 → ⊥) → Contains (take i numbers) n ⊎ (get_or numbers i 0 ≡ n) → IsGrownSlot (wait_at net n) (get_or old n None) (get_or new n None)
    each n (inl same) c = this n same
    each n (inr other) (inl c) = subst (IsGrownSlot (wait_at net n) (get_or old n None)) (sym (others n other)) (so_far.each n c)
    each n (inr other) (inr same) = absurd (other (sym same))

    rest : (n : ℕ) → (n ≡ get_or numbers i 0) ⊎ (n ≡ get_or numbers i 0 → ⊥) → IsGrownSlot (wait_at net n) (get_or old n None) (get_or new n None) ⊎ (get_or new n None ≡ get_or old n None)
    rest n (inl same) = inl (this n same)
    rest n (inr other) =
        subst (λ (slot : Option Store). IsGrownSlot (wait_at net n) (get_or old n None) slot ⊎ (slot ≡ get_or old n None)) (sym (others n other)) (so_far.rest n)

-- where no store was and no state waits, there is none
pub none_waits : (net : Net) (n : ℕ) → length net ≤ n → wait_at net n ≡ None
none_waits net n past = ap (λ slot. option_and_then wait_by (entrance_in slot)) (get_or_past net n None past)

empty_none : (wait : Option Wait) → wait ≡ None → IsEmptyFor wait None
empty_none wait none = record { shape = sym (ap (option_map (λ (w : Wait). shape_for w.choose)) none); empty = refl; none_ready = refl }

-- all have
pub all_grown : (net : Net) (numbers : List ℕ) (old new : List (Option Store)) → HaveStoresBut net numbers old → GrownSoFar net numbers old new → AreGrown net old new
all_grown net numbers old new but so_far = record { as_many = so_far.as_many; each = λ n. each n (so_far.rest n) (get_or old n None) refl (wait_at net n) refl }
  where
    each : (n : ℕ) → IsGrownSlot (wait_at net n) (get_or old n None) (get_or new n None) ⊎ (get_or new n None ≡ get_or old n None) → (slot : Option Store) → get_or old n None ≡ slot → (wait : Option Wait) → wait_at net n ≡ wait
        → IsGrownSlot (wait_at net n) (get_or old n None) (get_or new n None)
    each n (inl grown) slot is wait at = grown
    each n (inr same) (Some store) is wait at = subst (λ slot. IsGrownSlot (wait_at net n) slot (get_or new n None)) (sym is) (same ∙ is)
    each n (inr same) None is None at =
        subst (λ slot. IsGrownSlot (wait_at net n) slot (get_or new n None)) (sym is) (subst (IsEmptyFor (wait_at net n)) (sym (same ∙ is)) (empty_none (wait_at net n) at))
    each n (inr same) None is (Some wait) at = so_far.each n (but n wait at is)

kept_slot : (wait : Option Wait) (old new : Option Store) → IsGrownSlot wait old new → IsKeptSlot old new
kept_slot wait (Some store) new grown = grown
kept_slot wait None new grown = tt

same_slot : (old new : Option Store) → new ≡ old → IsKeptSlot old new
same_slot (Some store) new same = same
same_slot None new same = tt

-- what was there is kept while they grow
pub still_kept : (net : Net) (numbers : List ℕ) (old new : List (Option Store)) → GrownSoFar net numbers old new → KeepStores net old new
still_kept net numbers old new so_far = record { longer = so_far.longer; within = (let many = so_far.as_many in omega (arith, many)); each = λ n. each n (so_far.rest n) }
  where
    each : (n : ℕ) → IsGrownSlot (wait_at net n) (get_or old n None) (get_or new n None) ⊎ (get_or new n None ≡ get_or old n None) → IsKeptSlot (get_or old n None) (get_or new n None)
    each n (inl grown) = kept_slot (wait_at net n) (get_or old n None) (get_or new n None) grown
    each n (inr same) = same_slot (get_or old n None) (get_or new n None) same

pub all_kept : (net : Net) (old new : List (Option Store)) → AreGrown net old new → length old ≤ length net → KeepStores net old new
all_kept net old new grown shorter = record {
  longer = (let many = grown.as_many in omega (arith, many, shorter));
  within = (let many = grown.as_many in omega (arith, many));
  each = λ n. kept_slot (wait_at net n) (get_or old n None) (get_or new n None) (grown.each n);
}

pub padded_kept : (net : Net) (places : ℕ) (old new : List (Option Store)) → places ≡ length net → IsPadded places old new → KeepStores net old new
padded_kept net places old new counted padded = record {
  longer = padded.longer;
  within = (let within = padded.within in omega (arith, within, counted));
  each = λ n. same_slot (get_or old n None) (get_or new n None) (padded.same n);
}

-- of the numbers before one the stores of waiting states are left
pub record LeftSoFar (net : Net) (number : ℕ) (old new : List (Option Store)) : Type 0 where
  pub as_many : length new ≡ length net
  pub each : (n : ℕ) → n < number → get_or new n None ≡ cond (is_some (wait_at net n)) (get_or old n None) None
  pub rest : (n : ℕ) → number ≤ n → n < length net → get_or new n None ≡ get_or old n None

-- at first all are
pub none_left : (net : Net) (places : ℕ) (old new : List (Option Store)) → places ≡ length net → length net ≤ length old → new ≡ take places old → LeftSoFar net 0 old new
none_left net places old new counted longer is = record {
  as_many = ap length is ∙ (let short = length-take places old in omega (arith, short, counted, longer));
  each = λ n lt. absurd (omega (arith, lt));
  rest = λ n le lt. ap (λ slots. get_or slots n None) is ∙ get_or-take places old n None (omega (arith, lt, counted));
}

-- one number more
pub next_left : (net : Net) (number : ℕ) (old mid new : List (Option Store)) → number < length net → LeftSoFar net number old mid → get_or new number None ≡ cond (is_some (wait_at net number)) (get_or mid number None) None
    → ((n : ℕ) → (n ≡ number → ⊥) → get_or new n None ≡ get_or mid n None) → length new ≡ length mid → LeftSoFar net (number + 1) old new
next_left net number old mid new inside so_far left others as_many = record {
  as_many = as_many ∙ so_far.as_many;
  each = each;
  rest = λ n le lt. others n (λ same. absurd (omega (arith, le, same))) ∙ so_far.rest n (omega (arith, le)) lt;
}
  where
    each : (n : ℕ) → n < number + 1 → get_or new n None ≡ cond (is_some (wait_at net n)) (get_or old n None) None
    each n lt = by_number (are_same_or_not n number)
      where
        by_number : (n ≡ number) ⊎ (n ≡ number → ⊥) → get_or new n None ≡ cond (is_some (wait_at net n)) (get_or old n None) None
        by_number (inl same) =
            subst (λ k. get_or new k None ≡ cond (is_some (wait_at net k)) (get_or old k None) None) (sym same)
            (left ∙ ap (λ slot. cond (is_some (wait_at net number)) slot None) (so_far.rest number (omega arith) inside))
        by_number (inr ne) = others n ne ∙ so_far.each n (omega (arith, lt, ne))

-- all numbers
pub all_left : (net : Net) (number : ℕ) (old new : List (Option Store)) → length net ≤ number → LeftSoFar net number old new → AreLeft net old new
all_left net number old new all so_far = record { as_many = so_far.as_many; each = each }
  where
    each : (n : ℕ) → get_or new n None ≡ cond (is_some (wait_at net n)) (get_or old n None) None
    each n = by_order (cases_lt n (length net))
      where
        by_order : (n < length net) ⊎ (length net ≤ n) → get_or new n None ≡ cond (is_some (wait_at net n)) (get_or old n None) None
        by_order (inl below) = so_far.each n (omega (arith, below, all))
        by_order (inr past) =
            get_or_past new n None (let many = so_far.as_many in omega (arith, many, past)) ∙ ap (λ w. cond (is_some w) (get_or old n None) None) (sym (none_waits net n past))

-- of these numbers the stores of waiting states are left, and each other slot is as it was
pub record LeftOf (net : Net) (numbers : List ℕ) (old new : List (Option Store)) : Type 0 where
  pub as_many : length new ≡ length net
  pub each : (n : ℕ) → n < length net → Contains numbers n → get_or new n None ≡ cond (is_some (wait_at net n)) (get_or old n None) None
  pub rest : (n : ℕ) → n < length net → (get_or new n None ≡ cond (is_some (wait_at net n)) (get_or old n None) None) ⊎ (get_or new n None ≡ get_or old n None)

-- at first all are
pub none_gone : (net : Net) (places : ℕ) (old new : List (Option Store)) → places ≡ length net → length net ≤ length old → new ≡ take places old → LeftOf net [] old new
none_gone net places old new counted longer is = record {
  as_many = ap length is ∙ (let short = length-take places old in omega (arith, short, counted, longer));
  each = λ n lt c. absurd (none_in n c);
  rest = λ n lt. inr (ap (λ slots. get_or slots n None) is ∙ get_or-take places old n None (omega (arith, lt, counted)));
}

left_again : (b : Bool) (old mid : Option Store) → (mid ≡ cond b old None) ⊎ (mid ≡ old) → cond b mid None ≡ cond b old None
left_again true old mid (inl same) = same
left_again true old mid (inr same) = same
left_again false old mid was = refl

-- one number more
pub next_gone : (net : Net) (numbers : List ℕ) (i : ℕ) (old mid new : List (Option Store)) → i < length numbers → get_or numbers i 0 < length net → LeftOf net (take i numbers) old mid
    → get_or new (get_or numbers i 0) None ≡ cond (is_some (wait_at net (get_or numbers i 0))) (get_or mid (get_or numbers i 0) None) None → ((n : ℕ) → (n ≡ get_or numbers i 0 → ⊥) → get_or new n None ≡ get_or mid n None) → length new ≡ length mid
    → LeftOf net (take (i + 1) numbers) old new
next_gone net numbers i old mid new lt inside was left others as_many = record {
  as_many = as_many ∙ was.as_many;
  each = λ n below c. each n below (are_same_or_not n (get_or numbers i 0)) (more_contains numbers i 0 n lt c);
  rest = λ n below. rest n below (are_same_or_not n (get_or numbers i 0));
}
  where
    this : (n : ℕ) → n < length net → n ≡ get_or numbers i 0 → get_or new n None ≡ cond (is_some (wait_at net n)) (get_or old n None) None
    this n below same =
        subst (λ k. get_or new k None ≡ cond (is_some (wait_at net k)) (get_or mid k None) None) (sym same) left ∙ left_again (is_some (wait_at net n)) (get_or old n None) (get_or mid n None) (was.rest n below)

    each : (n : ℕ) → n < length net → (n ≡ get_or numbers i 0) ⊎ (n ≡ get_or numbers i 0 → ⊥) → Contains (take i numbers) n ⊎ (get_or numbers i 0 ≡ n) → get_or new n None ≡ cond (is_some (wait_at net n)) (get_or old n None) None
    each n below (inl same) c = this n below same
    each n below (inr other) (inl c) = others n other ∙ was.each n below c
    each n below (inr other) (inr same) = absurd (other (sym same))

    rest : (n : ℕ) → n < length net → (n ≡ get_or numbers i 0) ⊎ (n ≡ get_or numbers i 0 → ⊥) → (get_or new n None ≡ cond (is_some (wait_at net n)) (get_or old n None) None) ⊎ (get_or new n None ≡ get_or old n None)
    rest n below (inl same) = inl (this n below same)
    rest n below (inr other) =
        subst (λ (slot : Option Store). (slot ≡ cond (is_some (wait_at net n)) (get_or old n None) None) ⊎ (slot ≡ get_or old n None)) (sym (others n other)) (was.rest n below)

-- or one that no place has
pub past_gone : (net : Net) (numbers : List ℕ) (i : ℕ) (old new : List (Option Store)) → i < length numbers → length net ≤ get_or numbers i 0 → LeftOf net (take i numbers) old new → LeftOf net (take (i + 1) numbers) old new
past_gone net numbers i old new lt past was = record { as_many = was.as_many; each = λ n below c. each n below (more_contains numbers i 0 n lt c); rest = was.rest }
  where
    each : (n : ℕ) → n < length net → Contains (take i numbers) n ⊎ (get_or numbers i 0 ≡ n) → get_or new n None ≡ cond (is_some (wait_at net n)) (get_or old n None) None
    each n below (inl c) = was.each n below c
    each n below (inr same) = absurd (omega (arith, below, past, same))

-- all that left
pub all_gone : (net : Net) (numbers : List ℕ) (old new : List (Option Store)) → HaveNoStoresBut net numbers old → LeftOf net numbers old new → AreLeft net old new
all_gone net numbers old new but was = record { as_many = was.as_many; each = λ n. by_order n (cases_lt n (length net)) }
  where
    kept_or_gone : (n : ℕ) → n < length net → get_or new n None ≡ get_or old n None → (wait : Option Wait) → wait_at net n ≡ wait → get_or new n None ≡ cond (is_some (wait_at net n)) (get_or old n None) None
    kept_or_gone n below same (Some wait) at = same ∙ sym (ap (λ o. cond (is_some o) (get_or old n None) None) at)
    kept_or_gone n below same None at = by_note (but n at)
      where
        by_note : (get_or old n None ≡ None) ⊎ Contains numbers n → get_or new n None ≡ cond (is_some (wait_at net n)) (get_or old n None) None
        by_note (inl none) = same ∙ none ∙ sym (ap (λ o. cond (is_some o) (get_or old n None) None) at)
        by_note (inr c) = was.each n below c

    by_rest : (n : ℕ) → n < length net → (get_or new n None ≡ cond (is_some (wait_at net n)) (get_or old n None) None) ⊎ (get_or new n None ≡ get_or old n None) → get_or new n None ≡ cond (is_some (wait_at net n)) (get_or old n None) None
    by_rest n below (inl left) = left
    by_rest n below (inr same) = kept_or_gone n below same (wait_at net n) refl

    by_order : (n : ℕ) → (n < length net) ⊎ (length net ≤ n) → get_or new n None ≡ cond (is_some (wait_at net n)) (get_or old n None) None
    by_order n (inl below) = by_rest n below (was.rest n below)
    by_order n (inr past) =
        get_or_past new n None (let many = was.as_many in omega (arith, many, past)) ∙ ap (λ w. cond (is_some w) (get_or old n None) None) (sym (none_waits net n past))
