-- The states to which keys lead, from one call to the next.
use Rattle.std.proofs.Common.{◌≡◌, ◌∙◌, sym, ap, refl, subst, ℕ, zero, suc, ◌+◌, ◌≤◌, ◌⊎◌, ◌↔◌, inl, inr, Bool, true, false, cond, drop, filter, length, map, take, List, [], ◌∷◌, ◌++◌, Contains, arith}
use Rattle.std.specs.Prelude.{Err, None, Ok, OnErr, OnOk, Option, Result, Some, slice_get}
use Rattle.std.specs.Option.{unwrap_or}
use Rattle.std.specs.List.{IsDistinct}
use Rattle.std.specs.Map.{keys_of, lookup, values_of}
use Rattle.std.proofs.Math.ListN.{drop_of_length-le}
use Rattle.std.proofs.lemmas.List.{append-nil, take_all}
use Rattle.std.proofs.lemmas.List.Elements.{Contains-append_left, Contains-append_right, Contains-append_cases}
use Rattle.event_types.specs.declared.value.Value.{Value}
use Rattle.event_types.specs.contracts.value.ValuePartialEq.TheImpl as derived
use Rattle.indexmap.specs.IndexMap.{set_value_at}
use Rattle.binding_index.specs.Among.{is_key}
use Rattle.binding_index.specs.Entries.{is_filled, items_at}
use Rattle.binding_index.specs.Leads.{Entries, Leads}
use Rattle.binding_index.proofs.BucketLemmas.{kept}
use Rattle.binding_index.proofs.EqualityLemmas.{eq_same, key_decides}
use Rattle.binding_index.proofs.MapLemmas.{by_order}
use Rattle.binding_index.proofs.WriteLemmas.{keeping, keeping_at, keys_keeping, written_at}

-- what is found for a key
pub found_items : (bs : Entries) (key : Value) (o : Option (List ℕ)) → o ≡ lookup ((derived.eq-value).it key) bs → unwrap_or o [] ≡ items_at bs key
found_items bs key o e = ap (λ (p : Option (List ℕ)). unwrap_or p []) (sym (by_order bs key o (sym e)))

-- a look-up after a key was put
pub put_items : (old new : Entries) (key : Value) (w : List ℕ) → ((q : Value) → lookup ((derived.eq-value).it q) new ≡ cond ((derived.eq-value).it key q) (Some w) (lookup ((derived.eq-value).it q) old)) → (q : Value) → items_at new q ≡ cond (is_key key q) w (items_at old q)
put_items old new key w h q =
    ap (λ (p : Option (List ℕ)). unwrap_or p []) (subst (λ (e : Value → Value → Bool). lookup (e q) new ≡ cond (e key q) (Some w) (lookup (e q) old)) eq_same (h q)) ∙ go (is_key key q)
  where
    go : (t : Bool) → unwrap_or (cond t (Some w) (lookup (is_key q) old)) [] ≡ cond t w (items_at old q)
    go true = refl
    go false = refl

-- where a key's states are one more, the key leads to one more
pub leads_more : (old new : Entries) (key : Value) (state : ℕ) (w : List ℕ) → ((q : Value) → items_at new q ≡ cond (is_key key q) w (items_at old q)) → ((n : ℕ) → Contains w n ↔ (Contains (items_at old key) n ⊎ (state ≡ n)))
    → (other : Value) (number : ℕ) → Leads new other number ↔ (Leads old other number ⊎ ((key ≡ other) × (state ≡ number)))
leads_more old new key state w at more other number = go (is_key key other) refl
  where
    Goal : Type 0
    Goal = Leads new other number ↔ (Leads old other number ⊎ ((key ≡ other) × (state ≡ number)))

    go : (t : Bool) → is_key key other ≡ t → Leads new other number ↔ (Leads old other number ⊎ ((key ≡ other) × (state ≡ number)))
    go true e = (λ h. there (sides.0 (subst (λ (xs : List ℕ). Contains xs number) now h)), λ h. subst (λ (xs : List ℕ). Contains xs number) (sym now) (sides.1 (back h)))
      where
        same : key ≡ other
        same = (key_decides key other).0 e

        now : items_at new other ≡ w
        now = at other ∙ ap (λ t. cond t w (items_at old other)) e

        sides : Contains w number ↔ (Contains (items_at old key) number ⊎ (state ≡ number))
        sides = more number

        there : Contains (items_at old key) number ⊎ (state ≡ number) → Leads old other number ⊎ ((key ≡ other) × (state ≡ number))
        there (inl h) = inl (subst (λ (k : Value). Contains (items_at old k) number) same h)
        there (inr s) = inr (same, s)

        back : Leads old other number ⊎ ((key ≡ other) × (state ≡ number)) → Contains (items_at old key) number ⊎ (state ≡ number)
        back (inl h) = inl (subst (λ (k : Value). Contains (items_at old k) number) (sym same) h)
        back (inr s) = inr s.1
    go false e = (λ h. inl (subst (λ (xs : List ℕ). Contains xs number) now h), λ h. subst (λ (xs : List ℕ). Contains xs number) (sym now) (back h))
      where
        now : items_at new other ≡ items_at old other
        now = at other ∙ ap (λ t. cond t w (items_at old other)) e

        apart : true ≡ false → ⊥
        apart h = cc

        back : Leads old other number ⊎ ((key ≡ other) × (state ≡ number)) → Leads old other number
        back (inl h) = h
        back (inr s) = absurd (apart (sym ((key_decides key other).1 s.0) ∙ e))

-- what was written back as it was
pub unwritten : (bs : Entries) (i : ℕ) (key : Value) (v : List ℕ) → slice_get bs i ≡ Some (key, v) → set_value_at bs i v ≡ bs
unwritten [] i key v at = cc
unwritten (b ∷ bs) zero key v at = let one : b.1 ≡ v = let all : b ≡ (key, v) = cc in ap (λ (c : Value × List ℕ). c.1) all in ap (λ w. (b.0, w) ∷ bs) (sym one)
unwritten (b ∷ bs) (suc i) key v at = ap (λ cs. b ∷ cs) (unwritten bs i key v at)

-- an item of a list that passes a test is one of those that do
contains_filter : (test : ℕ → Bool) (xs : List ℕ) (n : ℕ) → Contains (filter test xs) n ↔ (Contains xs n × (test n ≡ true))
contains_filter test [] n = (λ h. absurd (omega (arith, h.1)), λ h. h.0)
contains_filter test (x ∷ xs) n = go (contains_filter test xs n) (test x) refl
  where
    first : Contains (x ∷ []) n → x ≡ n
    first (zero, lt, e) = e
    first (suc k, lt, e) = absurd (omega arith)

    one : x ≡ n → Contains (x ∷ []) n
    one e = (0, omega arith, e)

    go : Contains (filter test xs) n ↔ (Contains xs n × (test n ≡ true)) → (t : Bool) → test x ≡ t → Contains (cond t (x ∷ filter test xs) (filter test xs)) n ↔ (Contains (x ∷ xs) n × (test n ≡ true))
    go rest true e = (λ h. into (Contains-append_cases (x ∷ []) (filter test xs) n h), λ h. out (Contains-append_cases (x ∷ []) xs n h.0) h.1)
      where
        into : Contains (x ∷ []) n ⊎ Contains (filter test xs) n → Contains (x ∷ xs) n × (test n ≡ true)
        into (inl h) = (Contains-append_left (x ∷ []) xs n h, ap test (sym (first h)) ∙ e)
        into (inr h) = let r = rest.0 h in (Contains-append_right (x ∷ []) xs n r.0, r.1)

        out : Contains (x ∷ []) n ⊎ Contains xs n → test n ≡ true → Contains (x ∷ filter test xs) n
        out (inl h) p = Contains-append_left (x ∷ []) (filter test xs) n h
        out (inr h) p = Contains-append_right (x ∷ []) (filter test xs) n (rest.1 (h, p))
    go rest false e = (λ h. let r = rest.0 h in (Contains-append_right (x ∷ []) xs n r.0, r.1), λ h. out (Contains-append_cases (x ∷ []) xs n h.0) h.1)
      where
        apart : true ≡ false → ⊥
        apart h = cc

        out : Contains (x ∷ []) n ⊎ Contains xs n → test n ≡ true → Contains (filter test xs) n
        out (inl h) p = absurd (apart (sym p ∙ ap test (sym (first h)) ∙ e))
        out (inr h) p = rest.1 (h, p)

module _ (test : Value → ℕ → Bool) where
  -- one more key keeps the states that pass a test
  keep_next : (bs : Entries) (i : ℕ) (key : Value) (v : List ℕ) → slice_get (map (keeping test) (take i bs) ++ drop i bs) i ≡ Some (key, v)
      → set_value_at (map (keeping test) (take i bs) ++ drop i bs) i (filter (test key) v) ≡ map (keeping test) (take (suc i) bs) ++ drop (suc i) bs
  keep_next [] zero key v at = cc
  keep_next [] (suc i) key v at = cc
  keep_next (b ∷ bs) zero key v at = let one : b ≡ (key, v) = cc in ap (λ (c : Value × List ℕ). (b.0, filter (test c.0) c.1) ∷ bs) (sym one)
  keep_next (b ∷ bs) (suc i) key v at = ap (λ cs. keeping test b ∷ cs) (keep_next bs i key v at)

  -- where the keys before a place keep the states that pass, and the one there is given those of its own that pass, the keys up to it keep them
  pub keep_more : (bs cs : Entries) (i : ℕ) (key : Value) (v w : List ℕ) → cs ≡ map (keeping test) (take i bs) ++ drop i bs → slice_get cs i ≡ Some (key, v) → w ≡ filter (test key) v
      → set_value_at cs i w ≡ map (keeping test) (take (i + 1) bs) ++ drop (i + 1) bs
  keep_more bs cs i key v w e at is =
      (λ j. set_value_at (e j) i (is j)) ∙ keep_next bs i key v (subst (λ (ds : Entries). slice_get ds i ≡ Some (key, v)) e at) ∙ ap (λ n. map (keeping test) (take n bs) ++ drop n bs) (next i)
    where
      next : (place : ℕ) → suc place ≡ place + 1
      next place = omega arith

  -- once all were walked
  pub all_kept : (bs cs : Entries) (n : ℕ) → cs ≡ map (keeping test) (take n bs) ++ drop n bs → length bs ≤ n → cs ≡ map (keeping test) bs
  all_kept bs cs n e le = e ∙ (λ i. map (keeping test) (take_all n bs le i) ++ drop_of_length-le bs {i = n} le i) ∙ append-nil (map (keeping test) bs)

  -- once all were walked and those that lead nowhere are dropped, each key leads to the states that pass
  pub kept_leads : (bs cs ds : Entries) (n : ℕ) → cs ≡ map (keeping test) (take n bs) ++ drop n bs → length bs ≤ n → ds ≡ filter is_filled cs → IsDistinct is_key (keys_of bs) → (key : Value) (number : ℕ) → Leads ds key number ↔ (Leads bs key number × (test key number ≡ true))
  kept_leads bs cs ds n e le gone d key number =
      let whole : cs ≡ map (keeping test) bs = all_kept bs cs n e le in
      let distinct : IsDistinct is_key (keys_of cs) = subst (λ (ks : List Value). IsDistinct is_key ks) (sym (ap keys_of whole ∙ keys_keeping test bs)) d in
      let items : items_at ds key ≡ filter (test key) (items_at bs key) = ap (λ (xs : Entries). items_at xs key) gone ∙ kept cs distinct key ∙ ap (λ (xs : Entries). items_at xs key) whole ∙ keeping_at test bs key in
      subst (λ (xs : List ℕ). Contains xs number ↔ (Leads bs key number × (test key number ≡ true))) (sym items) (contains_filter (test key) (items_at bs key) number)

-- the value at the place of an entry
pub items_there : (bs : Entries) (i : ℕ) (key : Value) (v w : List ℕ) → slice_get bs i ≡ Some (key, v) → slice_get (values_of bs) i ≡ Some w → w ≡ v
items_there [] i key v w at there = cc
items_there (b ∷ bs) zero key v w at there = let one : b ≡ (key, v) = cc in let two : b.1 ≡ w = cc in sym two ∙ ap (λ (c : Value × List ℕ). c.1) one
items_there (b ∷ bs) (suc i) key v w at there = items_there bs i key v w at there

-- a key, at whose place its numbers are written anew
module _ {X E : Type 0} (bs : Entries) (i : ℕ) (key : Value) (state : ℕ) (v w : List ℕ) (r : Result X E) (d : IsDistinct is_key (keys_of bs)) (at : slice_get bs i ≡ Some (key, items_at bs key)) (there : slice_get (values_of bs) i ≡ Some v) where
  is : v ≡ items_at bs key
  is = items_there bs i key (items_at bs key) v at there

  -- where a number was added to those of a key, the key leads to one more state
  pub note_leads : OnOk r ((n : ℕ) → Contains w n ↔ (Contains v n ⊎ (state ≡ n))) → OnOk r ((other : Value) (number : ℕ) → Leads (set_value_at bs i w) other number ↔ (Leads bs other number ⊎ ((key ≡ other) × (state ≡ number))))
  note_leads ok =
      elim r as (λ (s : Result X E). OnOk s ((n : ℕ) → Contains w n ↔ (Contains v n ⊎ (state ≡ n))) → OnOk s ((other : Value) (number : ℕ) → Leads (set_value_at bs i w) other number ↔ (Leads bs other number ⊎ ((key ≡ other) × (state ≡ number))))) [
        | Ok x ↦ λ o. leads_more bs (set_value_at bs i w) key state w (written_at bs i key (items_at bs key) w d at) (subst (λ (is' : List ℕ). (n : ℕ) → Contains w n ↔ (Contains is' n ⊎ (state ≡ n))) is o)
        | Err e ↦ λ o. o
      ] ok

  -- where none was added, the entries stay as they were
  pub note_kept : OnErr r (w ≡ v) → OnErr r (set_value_at bs i w ≡ bs)
  note_kept kept =
      elim r as (λ (s : Result X E). OnErr s (w ≡ v) → OnErr s (set_value_at bs i w ≡ bs)) [ Ok x ↦ λ k. k | Err e ↦ λ k. ap (set_value_at bs i) (k ∙ is) ∙ unwritten bs i key (items_at bs key) at ] kept

-- a new key leads to the one state
pub new_leads : (old new : Entries) (key given : Value) (state : ℕ) (none w : List ℕ) → given ≡ key → lookup (is_key key) old ≡ None → none ≡ [] → ((n : ℕ) → Contains w n ↔ (Contains none n ⊎ (state ≡ n)))
    → ((q : Value) → lookup ((derived.eq-value).it q) new ≡ cond ((derived.eq-value).it given q) (Some w) (lookup ((derived.eq-value).it q) old)) → (other : Value) (number : ℕ) → Leads new other number ↔ (Leads old other number ⊎ ((key ≡ other) × (state ≡ number)))
new_leads old new key given state none w same absent empty more put =
    leads_more old new key state w (put_items old new key w (subst (λ (k : Value). (q : Value) → lookup ((derived.eq-value).it q) new ≡ cond ((derived.eq-value).it k q) (Some w) (lookup ((derived.eq-value).it q) old)) same put))
    (subst (λ (xs : List ℕ). (n : ℕ) → Contains w n ↔ (Contains xs n ⊎ (state ≡ n))) (empty ∙ sym (ap (λ (p : Option (List ℕ)). unwrap_or p []) absent)) more)
