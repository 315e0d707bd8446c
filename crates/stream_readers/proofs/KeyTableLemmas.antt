-- Tables of keys that are written to.
use Rattle.std.proofs.Common.{◌≡◌, ◌∙◌, sym, ap, refl, subst, inl, inr, ℕ, zero, suc, ◌+◌, ◌<◌, ◌≤◌, ◌==◌, ◌⊎◌, ◌↔◌, Bool, true, false, length, get_or, set, List, [], ◌∷◌, ◌++◌, arith}
use Rattle.std.specs.Prelude.{Option}
use Rattle.std.proofs.lemmas.Grind.{get_or-set_at}
use Rattle.std.proofs.lemmas.List.{get_or-set_other, length-set}
use Rattle.event_types.proofs.NumberLemmas.{other_number, same_number}
use Rattle.event_types.specs.declared.value.Value.{Value}
use Rattle.binding_index.specs.Leads.{Entries, Leads}
use Rattle.binding_index.specs.declared.store.Store.{Store}
use Rattle.stream_readers.specs.KeyTables.{AreTidied, IsNoted, KeyTable, LeadSame, entries_at}
use Rattle.stream_readers.specs.Sweeping.{IsSwept}
use Rattle.stream_readers.proofs.OnceLemmas.{none_in}

-- a number is below another or not
pub below_or_past : (m n : ℕ) → (m < n) ⊎ (n ≤ m)
below_or_past m zero = inr (omega arith)
below_or_past zero (suc n) = inl (omega arith)
below_or_past (suc m) (suc n) = more (below_or_past m n)
  where
    more : (m < n) ⊎ (n ≤ m) → (suc m < suc n) ⊎ (suc n ≤ suc m)
    more (inl lt) = inl (omega (arith, lt))
    more (inr le) = inr (omega (arith, le))

module _ {X : Type 0} (d : X) where
  -- one default more changes nothing
  pub default_more : (xs : List X) (k : ℕ) → get_or (xs ++ d ∷ []) k d ≡ get_or xs k d
  default_more [] zero = refl
  default_more [] (suc k) = refl
  default_more (x ∷ xs) zero = refl
  default_more (x ∷ xs) (suc k) = default_more xs k

  -- past the last item stands the default
  pub default_past : (xs : List X) (k : ℕ) → length xs ≤ k → get_or xs k d ≡ d
  default_past [] k le = refl
  default_past (x ∷ xs) zero le = absurd (omega (arith, le))
  default_past (x ∷ xs) (suc k) le = default_past xs k (omega (arith, le))

  -- a place that is written to, and the others
  pub is_set : (xs : List X) (i : ℕ) (x : X) → i < length xs → (k : ℕ) → ((i ≡ k) × (get_or (set xs i x) k d ≡ x)) ⊎ ((i ≡ k → ⊥) × (get_or (set xs i x) k d ≡ get_or xs k d))
  is_set xs i x lt k = go (i == k) refl
    where
      go : (b : Bool) → (i == k) ≡ b → ((i ≡ k) × (get_or (set xs i x) k d ≡ x)) ⊎ ((i ≡ k → ⊥) × (get_or (set xs i x) k d ≡ get_or xs k d))
      go true e = let same = same_number i k e in inl (same, get_or-set_at xs i k x d (sym same) lt)
      go false e = let other = other_number i k e in inr (other, get_or-set_other xs i k x d (λ same. other (sym same)))

-- the items before a place were changed one by one, and the others are the same
pub record ChangedBelow {X : Type 0} (Is : X → X → Type 0) (d : X) (place : ℕ) (old new : List X) : Type 0 where
  pub as_many : length new ≡ length old
  pub changed : (k : ℕ) → k < place → Is (get_or old k d) (get_or new k d)
  pub others : (k : ℕ) → place ≤ k → get_or new k d ≡ get_or old k d

module _ {X : Type 0} (Is : X → X → Type 0) (d : X) where
  -- at first no item was changed
  pub changed_none : (xs : List X) → ChangedBelow Is d 0 xs xs
  changed_none xs = record { as_many = refl; changed = λ k lt. absurd (omega (arith, lt)); others = λ k le. refl }

  -- one item more
  pub changed_more : (i : ℕ) (old mid : List X) (x : X) → i < length old → ChangedBelow Is d i old mid → Is (get_or mid i d) x → ChangedBelow Is d (i + 1) old (set mid i x)
  changed_more i old mid x lt was one = record {
    as_many = length-set mid i x ∙ was.as_many;
    changed = λ k below. here k below (is_set d mid i x within k);
    others = λ k le. there k le (is_set d mid i x within k);
  }
    where
      within : i < length mid
      within = let same = was.as_many in omega (arith, lt, same)

      here : (k : ℕ) → k < i + 1 → ((i ≡ k) × (get_or (set mid i x) k d ≡ x)) ⊎ ((i ≡ k → ⊥) × (get_or (set mid i x) k d ≡ get_or mid k d)) → Is (get_or old k d) (get_or (set mid i x) k d)
      here k below (inl now) =
          subst (Is (get_or old k d)) (sym now.1) (subst (λ (y : X). Is y x) (was.others i (omega arith) ∙ ap (λ n. get_or old n d) now.0) one)
      here k below (inr kept) = let other = kept.0 in subst (Is (get_or old k d)) (sym kept.1) (was.changed k (omega (arith, below, other)))

      there : (k : ℕ) → i + 1 ≤ k → ((i ≡ k) × (get_or (set mid i x) k d ≡ x)) ⊎ ((i ≡ k → ⊥) × (get_or (set mid i x) k d ≡ get_or mid k d)) → get_or (set mid i x) k d ≡ get_or old k d
      there k le (inl now) = let same = now.0 in absurd (omega (arith, le, same))
      there k le (inr kept) = kept.1 ∙ was.others k (omega (arith, le))

  -- all items were changed, and what stands past them is the default
  pub changed_all : (i : ℕ) (old new : List X) → length old ≤ i → Is d d → ChangedBelow Is d i old new → (k : ℕ) → Is (get_or old k d) (get_or new k d)
  changed_all i old new le nothing was k = go (below_or_past k (length old))
    where
      go : (k < length old) ⊎ (length old ≤ k) → Is (get_or old k d) (get_or new k d)
      go (inl lt) = was.changed k (omega (arith, lt, le))
      go (inr past) =
          let many = was.as_many in
          subst (λ (x : X). Is x (get_or new k d)) (sym (default_past d old k past)) (subst (Is d) (sym (default_past d new k (omega (arith, past, many)))) nothing)

-- where no key leads anywhere there is nothing to sweep
pub swept_none : (stores : List (Option Store)) → IsSwept stores [] []
swept_none stores key number = ((λ leads. absurd (none_in number leads)), λ both. both.0)

-- a table with one stream's keys written over
pub entries_set : (table : KeyTable) (stream : ℕ) (columns : List Entries) → stream < length table → (one at : ℕ) → ((stream ≡ one) × (entries_at (set table stream columns) one at ≡ get_or columns at [])) ⊎ ((stream ≡ one → ⊥) × (entries_at (set table stream columns) one at ≡ entries_at table one at))
entries_set table stream columns lt one at = go (is_set [] table stream columns lt one)
  where
    go : ((stream ≡ one) × (get_or (set table stream columns) one [] ≡ columns)) ⊎ ((stream ≡ one → ⊥) × (get_or (set table stream columns) one [] ≡ get_or table one []))
        → ((stream ≡ one) × (entries_at (set table stream columns) one at ≡ get_or columns at [])) ⊎ ((stream ≡ one → ⊥) × (entries_at (set table stream columns) one at ≡ entries_at table one at))
    go (inl now) = inl (now.0, ap (λ (cs : List Entries). get_or cs at []) now.1)
    go (inr kept) = inr (kept.0, ap (λ (cs : List Entries). get_or cs at []) kept.1)

-- what is written over a stream's keys, where these are the same, changes nothing
pub same_set : (old table : KeyTable) (stream : ℕ) (columns : List Entries) → stream < length table → ((k : ℕ) → get_or table k [] ≡ get_or old k []) → ((at : ℕ) → get_or columns at [] ≡ get_or (get_or table stream []) at []) → LeadSame old (set table stream columns)
same_set old table stream columns lt same columns_same one at = go (entries_set table stream columns lt one at)
  where
    go : ((stream ≡ one) × (entries_at (set table stream columns) one at ≡ get_or columns at [])) ⊎ ((stream ≡ one → ⊥) × (entries_at (set table stream columns) one at ≡ entries_at table one at)) → entries_at (set table stream columns) one at ≡ entries_at old one at
    go (inl now) = now.1 ∙ columns_same at ∙ ap (λ (cs : List Entries). get_or cs at []) (same stream ∙ ap (λ n. get_or old n []) now.0)
    go (inr kept) = kept.1 ∙ ap (λ (cs : List Entries). get_or cs at []) (same one)

-- one key at one attribute of one stream leads to a state besides
pub noted : (old table : KeyTable) (stream attribute : ℕ) (key : Value) (state : ℕ) (columns : List Entries) (entries : Entries) → stream < length table → attribute < length columns
    → ((k : ℕ) → get_or table k [] ≡ get_or old k []) → ((at : ℕ) → get_or columns at [] ≡ get_or (get_or table stream []) at [])
    → ((other : Value) (number : ℕ) → Leads entries other number ↔ (Leads (get_or columns attribute []) other number ⊎ ((key ≡ other) × (state ≡ number)))) → IsNoted stream attribute key state old (set table stream (set columns attribute entries))
noted old table stream attribute key state columns entries lt wide same columns_same more = record {
  leads = subst (λ (es : Entries). Leads es key state) (sym (here stream attribute refl refl)) ((more key state).1 (inr (refl, refl)));
  kept = λ one at other number leads. kept one at other number leads (place one at);
  only = λ one at other number leads. only one at other number leads (place one at);
}
  where
    new : KeyTable
    new = set table stream (set columns attribute entries)

    -- where the keys are those that were written, and where they are the same
    Place : ℕ → ℕ → Type 0
    Place one at = ((stream ≡ one) × (attribute ≡ at) × (entries_at new one at ≡ entries) × (entries_at old one at ≡ get_or columns attribute [])) ⊎ (entries_at new one at ≡ entries_at old one at)

    was : (one at : ℕ) → stream ≡ one → get_or columns at [] ≡ entries_at old one at
    was one at e = columns_same at ∙ ap (λ (cs : List Entries). get_or cs at []) (same stream ∙ ap (λ n. get_or old n []) e)

    place : (one at : ℕ) → Place one at
    place one at = go (entries_set table stream (set columns attribute entries) lt one at)
      where
        inner : stream ≡ one → entries_at new one at ≡ get_or (set columns attribute entries) at []
            → ((attribute ≡ at) × (get_or (set columns attribute entries) at [] ≡ entries)) ⊎ ((attribute ≡ at → ⊥) × (get_or (set columns attribute entries) at [] ≡ get_or columns at [])) → Place one at
        inner e is (inl now) = inl (e, now.0, is ∙ now.1, sym (was one at e) ∙ ap (λ n. get_or columns n []) (sym now.0))
        inner e is (inr kept) = inr (is ∙ kept.1 ∙ was one at e)

        go : ((stream ≡ one) × (entries_at new one at ≡ get_or (set columns attribute entries) at [])) ⊎ ((stream ≡ one → ⊥) × (entries_at new one at ≡ entries_at table one at)) → Place one at
        go (inl now) = inner now.0 now.1 (is_set [] columns attribute entries wide at)
        go (inr kept) = inr (kept.1 ∙ ap (λ (cs : List Entries). get_or cs at []) (same one))

    here : (one at : ℕ) → stream ≡ one → attribute ≡ at → entries_at new one at ≡ entries
    here one at e f = go (entries_set table stream (set columns attribute entries) lt one at) (is_set [] columns attribute entries wide at)
      where
        go : ((stream ≡ one) × (entries_at new one at ≡ get_or (set columns attribute entries) at [])) ⊎ ((stream ≡ one → ⊥) × (entries_at new one at ≡ entries_at table one at))
            → ((attribute ≡ at) × (get_or (set columns attribute entries) at [] ≡ entries)) ⊎ ((attribute ≡ at → ⊥) × (get_or (set columns attribute entries) at [] ≡ get_or columns at [])) → entries_at new one at ≡ entries
        go (inl now) (inl there) = now.1 ∙ there.1
        go (inl now) (inr kept) = absurd (kept.0 f)
        go (inr kept) there = absurd (kept.0 e)

    kept : (one at : ℕ) (other : Value) (number : ℕ) → Leads (entries_at old one at) other number → Place one at → Leads (entries_at new one at) other number
    kept one at other number leads (inl now) = subst (λ (es : Entries). Leads es other number) (sym now.2) ((more other number).1 (inl (subst (λ (es : Entries). Leads es other number) now.3 leads)))
    kept one at other number leads (inr is) = subst (λ (es : Entries). Leads es other number) (sym is) leads

    only : (one at : ℕ) (other : Value) (number : ℕ) → Leads (entries_at new one at) other number → Place one at → Leads (entries_at old one at) other number ⊎ ((stream ≡ one) × (attribute ≡ at) × (key ≡ other) × (state ≡ number))
    only one at other number leads (inr is) = inl (subst (λ (es : Entries). Leads es other number) is leads)
    only one at other number leads (inl now) = go ((more other number).0 (subst (λ (es : Entries). Leads es other number) now.2 leads))
      where
        go : Leads (get_or columns attribute []) other number ⊎ ((key ≡ other) × (state ≡ number)) → Leads (entries_at old one at) other number ⊎ ((stream ≡ one) × (attribute ≡ at) × (key ≡ other) × (state ≡ number))
        go (inl led) = inl (subst (λ (es : Entries). Leads es other number) (sym now.3) led)
        go (inr this) = inr (now.0, now.1, this.0, this.1)

-- nothing was to be done
pub tidied_same : (stores : List (Option Store)) (table : KeyTable) → AreTidied stores table table
tidied_same stores table = record { kept = λ stream attribute key number ready leads. leads; only = λ stream attribute key number leads. leads }

-- all was swept
pub tidied_swept : (stores : List (Option Store)) (old new : KeyTable) → ((stream attribute : ℕ) → IsSwept stores (entries_at old stream attribute) (entries_at new stream attribute)) → AreTidied stores old new
tidied_swept stores old new swept = record { kept = λ stream attribute key number ready leads. (swept stream attribute key number).1 (leads, ready); only = λ stream attribute key number leads. ((swept stream attribute key number).0 leads).0 }
