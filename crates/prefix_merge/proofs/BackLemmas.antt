-- A line that came and is taken away again leaves the network as it was.
use Rattle.std.proofs.Common.{◌≡◌, ◌⊎◌, ◌∙◌, sym, ap, refl, subst, inl, inr, ℕ, zero, suc, ◌-◌, ◌<◌, ◌≤◌, Bool, true, false, IsTrue, length, arith}
use Rattle.std.specs.Prelude.{Contains, Option, Some, None, is_some}
use Rattle.std.specs.List.{list_any}
use Rattle.std.proofs.lemmas.Bool.{cases_lt}
use Rattle.std.proofs.lemmas.List.{ext_get_or}
use Rattle.std.proofs.lemmas.List.Elements.{All-weaker}
use Rattle.automaton.specs.declared.line.Line.{Line}
use Rattle.automaton.specs.declared.network.State.{State}
use Rattle.automaton.specs.Networks.{IsNetwork}
use Rattle.automaton.specs.Prefixes.{beginnings}
use Rattle.automaton.specs.States.{Net, edges_at, edges_in, ends_at, ends_in, entrance_in, is_used, state_at}
use Rattle.automaton.proofs.ChangeLemmas.{nothing_there}
use Rattle.automaton.proofs.SlotLemmas.{KeepsEntries, at_kept, at_one, at_used, entry_there, used_below}
use Rattle.prefix_merge.specs.Insertion.{Inserts}
use Rattle.prefix_merge.specs.Laws.{TakenBackIsBefore}
use Rattle.prefix_merge.specs.Merging.{EndsInState, IsMerged, ends_numbered}
use Rattle.prefix_merge.specs.Removal.{AreLeft, Removes}
use Rattle.prefix_merge.proofs.EdgeLemmas.{all_stay, old_before}
use Rattle.prefix_merge.proofs.EndingLemmas.{ends_none}
use Rattle.prefix_merge.proofs.GrowthLemmas.{any_end}
use Rattle.prefix_merge.proofs.NumberedLemmas.{any_left, counted_there, end_there, last_left, none_numbered, other_end}
use Rattle.prefix_merge.proofs.PrefixLemmas.{at_beginning}
use Rattle.prefix_merge.proofs.StartLemmas.{stay_keeps}
use Rattle.prefix_merge.proofs.SwapLemmas.{swapped_last}

-- states that are entered alike, with the same edges and ends
same_state : (a b : Option State) → is_some a ≡ true → is_some b ≡ true → entrance_in a ≡ entrance_in b → edges_in a ≡ edges_in b → ends_in a ≡ ends_in b → a ≡ b
same_state None b a_there b_there entrance edges ends = absurd (let no : false ≡ true = a_there in cc)
same_state (Some a) None a_there b_there entrance edges ends = absurd (let no : false ≡ true = b_there in cc)
same_state (Some a) (Some b) a_there b_there entrance edges ends = let e : a.entrance ≡ b.entrance = cc in λ i. Some (record { entrance = e i; edges = edges i; ends = ends i })

-- whether one is there exactly where the other is
same_bool : (a b : Bool) → (a ≡ true → b ≡ true) → (b ≡ true → a ≡ true) → a ≡ b
same_bool true b fore back = sym (fore refl)
same_bool false true fore back = back refl
same_bool false false fore back = refl

module _ (line : Line) (end : ℕ) (birth : Option ℕ) (old middle new : Net) (old_is : IsNetwork old) (middle_is : IsNetwork middle) (old_merged : IsMerged old) (middle_merged : IsMerged middle) (inserts : Inserts line end birth old middle) (removes : Removes end middle new) where
  grown : KeepsEntries old middle
  grown = stay_keeps old middle inserts.stay

  -- an end that isn't the line's stands at a state of before
  old_any : (number : ℕ) → list_any any_end (ends_at old number) ≡ list_any (other_end end) (ends_at middle number)
  old_any number = ap (list_any any_end) (sym (inserts.old_ends number)) ∙ any_left end (ends_at middle number)

  old_ends_used : (number : ℕ) → list_any any_end (ends_at old number) ≡ true → is_used old number ≡ true
  old_ends_used number some = by_use (is_used old number) refl
    where
      by_use : (b : Bool) → is_used old number ≡ b → b ≡ true
      by_use true used = refl
      by_use false free = let no : false ≡ true = sym (ap (list_any any_end) (ends_none old number free)) ∙ some in cc

  -- the ends are those of before
  ends_back : (number : ℕ) → ends_at new number ≡ ends_at old number
  ends_back number = by_count (ends_numbered middle end number) refl
    where
      by_count : (n : ℕ) → ends_numbered middle end number ≡ n → ends_at new number ≡ ends_at old number
      by_count zero none = removes.other_ends number none ∙ sym (none_numbered end (ends_at middle number) none) ∙ inserts.old_ends number
      by_count (suc n) some =
          let place = counted_there end (ends_at middle number) (omega (arith, some)) in
          let stands = end_there end (ends_at middle number) place.0 place.1 in
          removes.ends_left number place.0 stands.end stands.there stands.its
          ∙ swapped_last (ends_at middle number) place.0 stands.end stands.there (inserts.end_last number place.0 place.1)
          ∙ sym (last_left end place.0 stands.end (ends_at middle number) stands.there stands.its (inserts.end_last number)) ∙ inserts.old_ends number

  middle_used : (number : ℕ) → is_used new number ≡ true → is_used middle number ≡ true
  middle_used number used = sym (entry_there (state_at middle number)) ∙ ap is_some (sym (removes.stay number used)) ∙ entry_there (state_at new number) ∙ used

  back : (number : ℕ) → is_used new number ≡ true → is_used old number ≡ true
  back number used =
      let place = middle_is.places number (middle_used number used) in
      let use' = (removes.states number place.0 place.1).0 used in
      let last_used = old_ends_used use'.last (old_any use'.last ∙ use'.ends) in
      let last_place = old_is.places use'.last last_used in
      let same : last_place.0 ≡ use'.whole = at_one middle use'.last last_place.0 use'.whole (at_kept old middle grown use'.last last_place.0 last_place.1) use'.here in
      let there = at_beginning old use'.last last_place.0 place.0 last_place.1 (subst (λ whole. Contains (beginnings whole) place.0) (sym same) use'.begins) in
      let it = middle_merged.apart there.0 number place.0 (at_kept old middle grown there.0 place.0 there.1) place.1 in
      subst (λ n. is_used old n ≡ true) it (at_used old there.0 place.0 there.1)

  forth : (number : ℕ) → is_used old number ≡ true → is_used new number ≡ true
  forth number used =
      let place = old_is.places number used in
      let use' = old_merged.needed number place.0 place.1 in
      (removes.states number place.0 (at_kept old middle grown number place.0 place.1)).1
      (record { last = use'.last; whole = use'.whole; here = at_kept old middle grown use'.last use'.whole use'.here; ends = sym (old_any use'.last) ∙ use'.ends; begins = use'.begins })

  same_used : (number : ℕ) → is_used new number ≡ is_used old number
  same_used number = same_bool (is_used new number) (is_used old number) (back number) (forth number)

  -- the edges are those of before
  edges_back : (number : ℕ) → AreLeft (is_used new) (edges_at middle number) (edges_at new number) → edges_at new number ≡ edges_at old number
  edges_back number (inl (all, same)) =
      same ∙ sym (all_stay (is_used old) (edges_at middle number) (All-weaker (λ next. IsTrue (is_used new next)) (λ next. IsTrue (is_used old next)) back (edges_at middle number) all)) ∙ inserts.old_edges number
  edges_back number (inr lost) =
      let free = sym (same_used lost.next) ∙ lost.gone in
      lost.rest ∙ swapped_last (edges_at middle number) lost.place lost.next lost.led (inserts.edge_last number lost.place lost.next lost.led free)
      ∙ sym (old_before (is_used old) (edges_at middle number) lost.place lost.next lost.led free (inserts.edge_last number)) ∙ inserts.old_edges number

  same_slot : (number : ℕ) → state_at new number ≡ state_at old number
  same_slot number = by_use (is_used old number) refl
    where
      by_use : (b : Bool) → is_used old number ≡ b → state_at new number ≡ state_at old number
      by_use false free = nothing_there (state_at new number) (same_used number ∙ free) ∙ sym (nothing_there (state_at old number) free)
      by_use true used =
          let there = forth number used in
          same_state (state_at new number) (state_at old number) there used (removes.stay number there ∙ inserts.stay number used)
          (edges_back number (removes.edges_left number there))
          (ends_back number)

  no_longer : (a b : Net) → ((number : ℕ) → is_used a number ≡ is_used b number) → EndsInState a → length a ≤ length b
  no_longer a b same last = by_order (cases_lt (length b) (length a))
    where
      by_order : (length b < length a) ⊎ (length a ≤ length b) → length a ≤ length b
      by_order (inr le) = le
      by_order (inl more) = let below = used_below b (length a - 1) (sym (same (length a - 1)) ∙ last (omega (arith, more))) in absurd (omega (arith, more, below))

  -- the network is the old one
  pub taken_back : EndsInState old → EndsInState new → new ≡ old
  taken_back old_last new_last =
      let le = no_longer new old same_used new_last in
      let ge = no_longer old new (λ number. sym (same_used number)) old_last in
      ext_get_or None new old (omega (arith, le, ge)) (λ k lt. same_slot k)

-- what is taken back wasn't there
pub taken_back_is_before : TakenBackIsBefore
taken_back_is_before line end birth old middle new old_settled middle_settled new_last inserts removes = taken_back line end birth old middle new old_settled.network middle_settled.network old_settled.merged middle_settled.merged inserts removes old_settled.last new_last
