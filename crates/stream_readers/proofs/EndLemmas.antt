-- The ends of a state of which one leaves, and the last one takes its place.
use Rattle.std.proofs.Common.{◌≡◌, ◌∙◌, sym, ap, refl, inl, inr, ℕ, zero, suc, ◌+◌, ◌-◌, ◌<◌, ◌≤◌, ◌==◌, ◌⊎◌, true, false, length, get_or, set, take, List, [], ◌∷◌, ◌++◌, append-nil, arith}
use Rattle.std.specs.List.{flat_map, swap_remove}
use Rattle.std.specs.List.Sorted.{IsPermutation}
use Rattle.std.proofs.Math.Seq.{take-length, take-set-lt}
use Rattle.std.proofs.lemmas.Grind.{flat_map-append}
use Rattle.std.proofs.lemmas.List.{length-take-le, take-set-le, take_more}
use Rattle.std.proofs.lemmas.List.Sorted.{IsPermutation-append_comm, IsPermutation-cons, IsPermutation-refl}
use Rattle.event_types.proofs.NumberLemmas.{is_other, other_number, self_equal}
use Rattle.scalar_expr.proofs.Bags.{permuted_from, permuted_to}
use Rattle.automaton.specs.declared.network.End.{End}
use Rattle.stream_readers.specs.Filing.{Filed, filed_under}
use Rattle.stream_readers.specs.Leaving.{left_by}
use Rattle.stream_readers.specs.Naming.{end_name}
use Rattle.stream_readers.specs.Targets.{end_by, only_fixed}
use Rattle.stream_readers.specs.Ways.{first_parts}
use Rattle.stream_readers.specs.declared.leaving.Gone.{Gone}
use Rattle.stream_readers.specs.declared.leaving.Gone.TheVariants as leaving
use Rattle.stream_readers.specs.declared.naming.Name.{Name}
use Rattle.stream_readers.proofs.EntryLemmas.{ends_filed}
use Rattle.stream_readers.proofs.KeyTableLemmas.{below_or_past}
use Rattle.stream_readers.proofs.NamingLemmas.{name_goes, name_stays, place_of, there}

-- an end that leaves its place
abbrev pub gone_at : ℕ → ℕ → ℕ → Gone
gone_at number place last = leaving.End (record { state = number; place = place; last = last })

-- an end, as it is filed
abbrev pub end_filed : ℕ → ℕ → End → Filed
end_filed number place end = record { target = end_by number place end.step; parts = first_parts end.step }

-- one end more is filed last
pub ends_last : (number place : ℕ) (ends : List End) (end : End) → ends_filed number place (ends ++ end ∷ []) ≡ ends_filed number place ends ++ end_filed number (place + length ends) end ∷ []
ends_last number place [] end = ap (λ k. end_filed number k end ∷ []) (let e : place ≡ place + 0 = omega arith in e)
ends_last number place (first ∷ ends) end =
    ap (λ fs. end_filed number place first ∷ fs)
    (ends_last number (place + 1) ends end ∙ ap (λ k. ends_filed number (place + 1) ends ++ end_filed number k end ∷ []) (let e : (place + 1) + length ends ≡ place + suc (length ends) = omega arith in e))

-- the ends of another state stay
pub ends_stay : (number place last other from : ℕ) (ends : List End) → (other == number) ≡ false → flat_map (left_by (gone_at number place last)) (ends_filed other from ends) ≡ ends_filed other from ends
ends_stay number place last other from [] differs = refl
ends_stay number place last other from (end ∷ ends) differs =
    ap (λ o. filed_under (first_parts end.step) o ++ flat_map (left_by (gone_at number place last)) (ends_filed other (from + 1) ends)) (name_stays (gone_at number place last) (end_by other from end.step) apart apart)
    ∙ ap (λ fs. end_filed other from end ∷ fs) (ends_stay number place last other (from + 1) ends differs)
  where
    apart : {at : ℕ} → end_name other from ≡ end_name number at → ⊥
    apart same = other_number other number differs (ap (λ (name : Name). name.state) same)

module _ (number place last : ℕ) where
  -- what is left of ends as they are filed
  abbrev pub left : List Filed → List Filed
  left filed = flat_map (left_by (gone_at number place last)) filed

  -- an end that stands at neither place stays
  end_stays : (at : ℕ) (end : End) → (at ≡ place → ⊥) → (at ≡ last → ⊥) → left_by (gone_at number place last) (end_filed number at end) ≡ end_filed number at end ∷ []
  end_stays at end other apart =
      ap (filed_under (first_parts end.step)) (name_stays (gone_at number place last) (end_by number at end.step) (λ same. other (place_of number number at place same)) (λ same. apart (place_of number number at last same)))

  -- the one at the first place leaves
  end_goes : (at : ℕ) (end : End) → at ≡ place → left_by (gone_at number place last) (end_filed number at end) ≡ []
  end_goes at end same = ap (filed_under (first_parts end.step)) (name_goes (gone_at number place last) (end_by number at end.step) (ap (end_name number) same))

  -- and the one at the other has its place
  last_moves : (end : End) → (last ≡ place → ⊥) → left_by (gone_at number place last) (end_filed number last end) ≡ end_filed number place end ∷ []
  last_moves end other =
      ap (filed_under (first_parts end.step))
      (there (record { state = number; place = place; last = last }) (record { state = number; place = last; passes = only_fixed end.step }) false true refl (is_other last place other) (self_equal last))

  -- ends that stand at neither place stay
  ends_keep : (from : ℕ) (ends : List End) → ((k : ℕ) → from ≤ k → k < from + length ends → k ≡ place → ⊥) → from + length ends ≤ last → left (ends_filed number from ends) ≡ ends_filed number from ends
  ends_keep from [] apart le = refl
  ends_keep from (end ∷ ends) apart le =
      ap (λ fs. fs ++ left (ends_filed number (from + 1) ends)) (end_stays from end (apart from (omega arith) (omega arith)) (λ e. absurd (omega (arith, le, e))))
      ∙ ap (λ fs. end_filed number from end ∷ fs) (ends_keep (from + 1) ends (λ k low high. apart k (omega (arith, low)) (omega (arith, high))) (omega (arith, le)))

  -- ends before the last one, of which one leaves and has the last one in its place
  replaced : (from at : ℕ) (front : List End) (end : End) → from + at ≡ place → at < length front → from + length front ≤ last → IsPermutation (ends_filed number from (set front at end)) (left (ends_filed number from front) ++ end_filed number place end ∷ [])
  replaced from at [] end is lt le = absurd (omega (arith, lt))
  replaced from zero (first ∷ front) end is lt le =
      let rest = ends_filed number (from + 1) front in
      let here : from ≡ place = omega (arith, is) in
      let kept = ap (λ fs. fs ++ left rest) (end_goes from first here) ∙ ends_keep (from + 1) front (λ k low high e. absurd (omega (arith, low, e, here))) (omega (arith, le)) in
      permuted_from (ap (λ k. end_filed number k end ∷ rest) here) (permuted_to (IsPermutation-append_comm (end_filed number place end ∷ []) rest) (ap (λ fs. fs ++ end_filed number place end ∷ []) (sym kept)))
  replaced from (suc at) (first ∷ front) end is lt le =
      permuted_to (IsPermutation-cons (end_filed number from first) _ _ (replaced (from + 1) at front end (omega (arith, is)) (omega (arith, lt)) (omega (arith, le))))
      (ap (λ fs. (fs ++ left (ends_filed number (from + 1) front)) ++ end_filed number place end ∷ []) (sym (end_stays from first (λ e. absurd (omega (arith, is, e))) (λ e. absurd (omega (arith, le, e))))))

  -- an end leaves, and the last one takes its place
  pub end_left : (ends : List End) (gone : End) → place < length ends → last ≡ length ends - 1 → IsPermutation (ends_filed number 0 (swap_remove ends place gone)) (left (ends_filed number 0 ends))
  end_left ends gone lt at_last =
      permuted_from (ap (λ n. ends_filed number 0 (take n (set ends place (get_or ends n gone)))) (sym at_last)) (permuted_to (go (below_or_past place last)) (sym split))
    where
      front : List End
      front = take last ends

      end : End
      end = get_or ends last gone

      long : length front ≡ last
      long = length-take-le last ends (omega (arith, lt, at_last))

      whole : ends ≡ front ++ end ∷ []
      whole = sym (take-length ends) ∙ ap (λ n. take n ends) (let e : length ends ≡ last + 1 = omega (arith, lt, at_last) in e) ∙ take_more ends last gone (omega (arith, lt, at_last))

      split : left (ends_filed number 0 ends) ≡ left (ends_filed number 0 front) ++ left_by (gone_at number place last) (end_filed number last end)
      split =
          ap (λ es. left (ends_filed number 0 es)) whole ∙ ap left (ends_last number 0 front end) ∙ flat_map-append (left_by (gone_at number place last)) (ends_filed number 0 front) (end_filed number (0 + length front) end ∷ [])
          ∙ ap (λ fs. left (ends_filed number 0 front) ++ fs) (append-nil (left_by (gone_at number place last) (end_filed number (0 + length front) end)))
          ∙ ap (λ k. left (ends_filed number 0 front) ++ left_by (gone_at number place last) (end_filed number k end)) (let e : 0 + length front ≡ last = omega (arith, long) in e)

      go : (place < last) ⊎ (last ≤ place) → IsPermutation (ends_filed number 0 (take last (set ends place end))) (left (ends_filed number 0 front) ++ left_by (gone_at number place last) (end_filed number last end))
      go (inl before) =
          permuted_from (ap (ends_filed number 0) (take-set-lt last ends place end before))
          (permuted_to (replaced 0 place front end (omega arith) (omega (arith, before, long)) (omega (arith, long))) (ap (λ fs. left (ends_filed number 0 front) ++ fs) (sym (last_moves end (λ e. absurd (omega (arith, e, before)))))))
      go (inr past) =
          let here : last ≡ place = omega (arith, past, lt, at_last) in
          permuted_from (ap (ends_filed number 0) (take-set-le last ends place end past))
          (permuted_to (IsPermutation-refl (ends_filed number 0 front))
          (sym (ap (λ fs. left (ends_filed number 0 front) ++ fs) (end_goes last end here) ∙ append-nil (left (ends_filed number 0 front)) ∙ ends_keep 0 front (λ k low high e. absurd (omega (arith, high, e, here, long))) (omega (arith, long)))))
