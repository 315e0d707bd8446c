-- The table of an index, and the conditions that it has.
use Rattle.std.proofs.Common.{◌≡◌, ap, refl, sym, ℕ, suc, Bool, true, false, not, cond, ltb, eqb, List, [], ◌∷◌, arith}
use Rattle.std.specs.Prelude.{Contains}
use Rattle.std.specs.declared.cmp.Ordering.TheVariants.{Less, Equal, Greater}
use Rattle.std.specs.Ordering.{is_eq, match_ordering, nat_cmp}
use Rattle.std.specs.List.{AllByRecursion, filter}
use Rattle.std.specs.List.Sorted.{IsStrictlySortedBy}
use Rattle.std.specs.BTreeMap.{insert_entry, is_at}
use Rattle.std.specs.Map.{keys_of, remove_entry}
use Rattle.std.proofs.lemmas.Bool.{eqb-true, eqb-false}
use Rattle.std.proofs.lemmas.Bool.Decides.{nat_tests}
use Rattle.static_index.specs.Conditions.{Ascends, Condition, ids_of, with_condition, without}
use Rattle.static_index.specs.Table.{condition_of, conditions_of}
use Rattle.static_index.specs.declared.entry.Entry.{Entry}

-- the keys are the ids
pub keys_are_ids : (es : List (ℕ × Entry)) → ids_of (conditions_of es) ≡ keys_of es
keys_are_ids [] = refl
keys_are_ids (e ∷ es) = ap (λ (ids : List ℕ). e.0 ∷ ids) (keys_are_ids es)

-- an id stands in the list whose first it is
pub id_first : (id : ℕ) (ids : List ℕ) → Contains (id ∷ ids) id
id_first id ids = (0, omega arith, refl)

-- an id of a list stands in the list with one more in front
pub id_later : (x id : ℕ) (ids : List ℕ) → Contains ids id → Contains (x ∷ ids) id
id_later x id ids (k, lt, is) = (suc k, omega arith, is)

-- an entry of a new id, by induction on the entries
pub conditions_of-insert : (id : ℕ) (entry : Entry) (es : List (ℕ × Entry)) → (Contains (ids_of (conditions_of es)) id → ⊥) → conditions_of (insert_entry nat_cmp es id entry) ≡ with_condition (condition_of (id, entry)) (conditions_of es)
conditions_of-insert id entry [] absent = refl
conditions_of-insert id entry (e ∷ es) absent =
    go (ltb id e.0) (eqb id e.0) refl (conditions_of-insert id entry es (λ there. absent (id_later e.0 id (ids_of (conditions_of es)) there)))
  where
    go : (b d : Bool) → eqb id e.0 ≡ d → conditions_of (insert_entry nat_cmp es id entry) ≡ with_condition (condition_of (id, entry)) (conditions_of es)
        → conditions_of (match_ordering (cond b Less (cond d Equal Greater)) ((id, entry) ∷ e ∷ es) ((e.0, entry) ∷ es) (e ∷ insert_entry nat_cmp es id entry))
        ≡ cond b (condition_of (id, entry) ∷ condition_of e ∷ conditions_of es) (condition_of e ∷ with_condition (condition_of (id, entry)) (conditions_of es))
    go true d is rest = refl
    go false true is rest = absurd (absent (here (eqb-true id e.0 is)))
      where
        here : id ≡ e.0 → Contains (e.0 ∷ ids_of (conditions_of es)) id
        here same = (0, omega arith, sym same)
    go false false is rest = ap (λ (cs : List Condition). condition_of e ∷ cs) rest

-- conditions that are all above an id are not of that id
above_stays : (id x : ℕ) (cs : List Condition) → id ≡ x → AllByRecursion (λ y. nat_cmp x y ≡ Less) (ids_of cs) → without id cs ≡ cs
above_stays id x [] same all = refl
above_stays id x (c ∷ cs) same all = go (eqb c.id id) refl (above_stays id x cs same all.1)
  where
    go : (b : Bool) → eqb c.id id ≡ b → without id cs ≡ cs → cond (not b) (c ∷ without id cs) (without id cs) ≡ c ∷ cs
    go true is rest = absurd (let e = eqb-true c.id id is in let less = all.0 in grind (arith, nat_tests))
    go false is rest = ap (λ (cs : List Condition). c ∷ cs) rest

-- an entry taken out, by induction on the entries
pub conditions_of-remove : (id : ℕ) (es : List (ℕ × Entry)) → IsStrictlySortedBy nat_cmp (keys_of es) → conditions_of (remove_entry (is_at (nat_cmp id)) es) ≡ without id (conditions_of es)
unfolding IsStrictlySortedBy
conditions_of-remove id [] up = refl
conditions_of-remove id (e ∷ es) up = go (is_eq (nat_cmp id e.0)) (eqb e.0 id) refl refl (conditions_of-remove id es up.1)
  where
    go : (b d : Bool) → is_eq (nat_cmp id e.0) ≡ b → eqb e.0 id ≡ d → conditions_of (remove_entry (is_at (nat_cmp id)) es) ≡ without id (conditions_of es)
        → conditions_of (cond b es (e ∷ remove_entry (is_at (nat_cmp id)) es)) ≡ cond (not d) (condition_of e ∷ without id (conditions_of es)) (without id (conditions_of es))
    go true true is same rest = sym (above_stays id e.0 (conditions_of es) (sym (eqb-true e.0 id same)) (above es up.0))
      where
        above : (fs : List (ℕ × Entry)) → AllByRecursion (λ y. nat_cmp e.0 y ≡ Less) (keys_of fs) → AllByRecursion (λ y. nat_cmp e.0 y ≡ Less) (ids_of (conditions_of fs))
        above [] all = tt
        above (f ∷ fs) all = (all.0, above fs all.1)
    go true false is same rest = absurd (let e = eqb-false e.0 id same in grind (arith, nat_tests))
    go false true is same rest = absurd (let e = eqb-true e.0 id same in grind (arith, nat_tests))
    go false false is same rest = ap (λ (cs : List Condition). condition_of e ∷ cs) rest

module _ (test : Condition → Bool) where
  -- where the ids are above a number, those of the conditions that a test keeps are, by induction on the conditions
  pub above_kept : (x : ℕ) (cs : List Condition) → AllByRecursion (λ y. nat_cmp x y ≡ Less) (ids_of cs) → AllByRecursion (λ y. nat_cmp x y ≡ Less) (ids_of (filter test cs))
  above_kept x [] all = tt
  above_kept x (c ∷ cs) all =
      elim (test c) as (λ b. AllByRecursion (λ y. nat_cmp x y ≡ Less) (ids_of (cond b (c ∷ filter test cs) (filter test cs)))) [
        | true ↦ (all.0, above_kept x cs all.1)
        | false ↦ above_kept x cs all.1
      ]

  -- where the ids ascend, those of the conditions that a test keeps do, by induction on the conditions
  pub Ascends-filter : (cs : List Condition) → Ascends (ids_of cs) → Ascends (ids_of (filter test cs))
  unfolding IsStrictlySortedBy
  Ascends-filter [] up = tt
  Ascends-filter (c ∷ cs) up =
      elim (test c) as (λ b. Ascends (ids_of (cond b (c ∷ filter test cs) (filter test cs)))) [
        | true ↦ (above_kept c.id cs up.0, Ascends-filter cs up.1)
        | false ↦ Ascends-filter cs up.1
      ]
