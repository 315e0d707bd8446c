-- Networks with a state put at a number.
use Rattle.std.proofs.Common.{◌≡◌, ◌⊎◌, ◌∙◌, sym, ap, refl, subst, inl, inr, ℕ, ◌+◌, ◌-◌, ◌<◌, ◌≤◌, max, nat_lt, Bool, true, false, cond, get_or, length, set, take, [], ◌∷◌, ◌++◌, arith}
use Rattle.std.specs.Prelude.{Option, Some, None, is_some, count_by}
use Rattle.std.proofs.Math.Seq.{take-append_seam}
use Rattle.std.proofs.lemmas.Bool.{cases_lt}
use Rattle.std.proofs.lemmas.Bool.Decides.{nat_tests}
use Rattle.std.proofs.lemmas.List.{ext_get_or, get_or_past, get_or-take, length-append, length-set, length-take, take_all, take_more}
use Rattle.std.proofs.lemmas.List.Sums.{sum_by-set}
use Rattle.automaton.specs.declared.network.State.{State}
use Rattle.automaton.specs.Growing.{placed, with_edge, without_last}
use Rattle.automaton.specs.States.{Net, is_used, state_at}
use Rattle.automaton.proofs.ChangeLemmas.{nothing_there}
use Rattle.automaton.proofs.CountLemmas.{bit, count-push}
use Rattle.automaton.proofs.GrowingLemmas.{same_read}
use Rattle.automaton.proofs.NumberLemmas.{are_same_or_not}
use Rattle.automaton.proofs.SlotLemmas.{changed_here, changed_other, pushed_here, pushed_other}

module _ (number : ℕ) (slot : Option State) (net : Net) (next : number ≤ length net) where
  -- the place has the slot
  pub placed_here : state_at (placed number slot net) number ≡ slot
  placed_here = go (nat_lt number (length net)) refl
    where
      go : (b : Bool) → nat_lt number (length net) ≡ b → state_at (cond b (set net number slot) (net ++ slot ∷ [])) number ≡ slot
      go true is = changed_here net number slot (grind (arith, nat_tests))
      go false is = let last : number ≡ length net = grind (arith, nat_tests) in ap (state_at (net ++ slot ∷ [])) last ∙ pushed_here net slot

  -- each other place is as it was
  pub placed_other : (other : ℕ) → (other ≡ number → ⊥) → state_at (placed number slot net) other ≡ state_at net other
  placed_other other ne = go (nat_lt number (length net)) refl
    where
      go : (b : Bool) → nat_lt number (length net) ≡ b → state_at (cond b (set net number slot) (net ++ slot ∷ [])) other ≡ state_at net other
      go true is = changed_other net number slot other ne
      go false is = let last : number ≡ length net = grind (arith, nat_tests) in pushed_other net slot other (λ e. ne (e ∙ sym last))

  -- there are as many places as before, or up to this one
  pub placed_length : length (placed number slot net) ≡ max (length net) (number + 1)
  placed_length = go (nat_lt number (length net)) refl
    where
      go : (b : Bool) → nat_lt number (length net) ≡ b → length (cond b (set net number slot) (net ++ slot ∷ [])) ≡ max (length net) (number + 1)
      go true is = let lt : number < length net = grind (arith, nat_tests) in omega (arith, lt, length-set net number slot)
      go false is = let last : number ≡ length net = grind (arith, nat_tests) in omega (arith, last, length-append net (slot ∷ []))

-- a state more is counted
pub placed_count : (number : ℕ) (state : State) (net : Net) → number ≤ length net → is_used net number ≡ false → count_by is_some (placed number (Some state) net) ≡ count_by is_some net + 1
placed_count number state net next free = go (nat_lt number (length net)) refl
  where
    go : (b : Bool) → nat_lt number (length net) ≡ b → count_by is_some (cond b (set net number (Some state)) (net ++ Some state ∷ [])) ≡ count_by is_some net + 1
    go true is =
        let lt : number < length net = grind (arith, nat_tests) in
        let change = sum_by-set (λ (slot : Option State). bit (is_some slot)) net number (Some state) None lt in
        let zero' : bit (is_some (state_at net number)) ≡ 0 = ap bit free in
        omega arith
    go false is = count-push is_some net (Some state)

-- a state less too
pub count_gone : (number : ℕ) (net : Net) → is_used net number ≡ true → number < length net → count_by is_some (set net number None) + 1 ≡ count_by is_some net
count_gone number net used lt =
    let change = sum_by-set (λ (slot : Option State). bit (is_some slot)) net number None None lt in
    let one : bit (is_some (state_at net number)) ≡ 1 = ap bit used in
    omega arith

-- an edge that came and was taken away again
last_cut : (next : ℕ) (slot : Option State) → without_last (with_edge next slot) ≡ slot
last_cut next None = refl
last_cut next (Some state) =
    let shorter : take (length (state.edges ++ next ∷ []) - 1) (state.edges ++ next ∷ []) ≡ state.edges =
    ap (λ n. take n (state.edges ++ next ∷ [])) (let longer = length-append state.edges (next ∷ []) in let e : length (state.edges ++ next ∷ []) - 1 ≡ length state.edges = omega arith in e) ∙ take-append_seam state.edges (next ∷ []) in
    λ i. Some (record { entrance = state.entrance; edges = shorter i; ends = state.ends })

-- a slot that gets back what it had
set_back : (net : Net) (number : ℕ) (slot : Option State) → number < length net → set (set net number slot) number (state_at net number) ≡ net
set_back net number slot lt =
    ext_get_or None (set (set net number slot) number (state_at net number)) net (length-set (set net number slot) number (state_at net number) ∙ length-set net number slot) each
  where
    each : (k : ℕ) → k < length (set (set net number slot) number (state_at net number)) → state_at (set (set net number slot) number (state_at net number)) k ≡ state_at net k
    each k below = by_number (are_same_or_not k number)
      where
        by_number : (k ≡ number) ⊎ (k ≡ number → ⊥) → state_at (set (set net number slot) number (state_at net number)) k ≡ state_at net k
        by_number (inl same) =
            ap (state_at (set (set net number slot) number (state_at net number))) same
            ∙ changed_here (set net number slot) number (state_at net number) (let e = length-set net number slot in omega arith) ∙ ap (state_at net) (sym same)
        by_number (inr ne) = changed_other (set net number slot) number (state_at net number) k ne ∙ changed_other net number slot k ne

-- an edge that is put and cut again leaves the slot as it was
pub edge_cut : (slots between : Net) (before next : ℕ) (read edged back cut : Option State) → before < length slots → read ≡ get_or slots before read → edged ≡ with_edge next read → between ≡ set slots before edged
    → back ≡ get_or between before back → cut ≡ without_last back → set between before cut ≡ slots
edge_cut slots between before next read edged back cut lt read_is edged_is between_is back_is cut_is =
    let there : read ≡ state_at slots before = same_read slots before read lt read_is in
    let longer = length-set slots before edged in
    let lt' : before < length between = subst (λ (net : Net). before < length net) (sym between_is) (omega arith) in
    let back_there : back ≡ edged = same_read between before back lt' back_is ∙ ap (λ (net : Net). state_at net before) between_is ∙ changed_here slots before edged lt in
    let same : cut ≡ state_at slots before = cut_is ∙ ap without_last (back_there ∙ edged_is) ∙ last_cut next read ∙ there in
    (λ i. set (between_is i) before (same i)) ∙ set_back slots before edged lt

-- places without the last, which no state has
pub shrunk_reads : (net : Net) → 0 < length net → is_used net (length net - 1) ≡ false → (number : ℕ) → state_at (take (length net - 1) net) number ≡ state_at net number
shrunk_reads net some free number = by_order (cases_lt number (length net - 1))
  where
    by_order : (number < length net - 1) ⊎ (length net - 1 ≤ number) → state_at (take (length net - 1) net) number ≡ state_at net number
    by_order (inl lt) = get_or-take (length net - 1) net number None lt
    by_order (inr le) =
        get_or_past (take (length net - 1) net) number None (let shorter = length-take (length net - 1) net in omega (arith, le)) ∙ sym (none (are_same_or_not number (length net - 1)))
      where
        none : (number ≡ length net - 1) ⊎ (number ≡ length net - 1 → ⊥) → state_at net number ≡ None
        none (inl same) = ap (state_at net) same ∙ nothing_there (state_at net (length net - 1)) free
        none (inr ne) = get_or_past net number None (let past : length net ≤ number = omega (arith, le, ne) in past)

-- a last place with no state may go, and the count of states is the same
pub shrunk_count : (net : Net) → 0 < length net → is_used net (length net - 1) ≡ false → count_by is_some (take (length net - 1) net) ≡ count_by is_some net
shrunk_count net some free =
    let last : length net - 1 < length net = omega arith in
    let whole : take (length net - 1) net ++ state_at net (length net - 1) ∷ [] ≡ net =
    sym (take_more net (length net - 1) None last) ∙ take_all (length net - 1 + 1) net (omega arith) in
    let counted = count-push is_some (take (length net - 1) net) (state_at net (length net - 1)) in
    let zero' : bit (is_some (state_at net (length net - 1))) ≡ 0 = ap bit free in
    let same = ap (count_by is_some) whole in omega arith
