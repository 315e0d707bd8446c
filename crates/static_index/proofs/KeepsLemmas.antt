-- Entries that are filed, through a change.
use Rattle.std.proofs.Common.{◌≡◌, ◌≢◌, refl, subst, ℕ, Bool, true, false, cond, ltb, eqb, List, [], ◌∷◌, Contains, arith}
use Rattle.std.specs.declared.cmp.Ordering.TheVariants.{Less, Equal, Greater}
use Rattle.std.specs.Ordering.{match_ordering, nat_cmp}
use Rattle.std.specs.List.{All, AllByRecursion}
use Rattle.std.specs.List.Sorted.{IsStrictlySortedBy}
use Rattle.std.specs.BTreeMap.{insert_entry, is_at}
use Rattle.std.specs.Map.{keys_of, remove_entry}
use Rattle.std.proofs.lemmas.Bool.{eqb-true}
use Rattle.std.proofs.lemmas.Bool.Decides.{nat_tests}
use Rattle.std.proofs.lemmas.List.Elements.{All-nil, All-cons, All-head, All-tail, All-weaker}
use Rattle.static_index.specs.Conditions.{ids_of}
use Rattle.static_index.specs.Filing.{IsFiled}
use Rattle.static_index.specs.Table.{conditions_of}
use Rattle.static_index.specs.declared.entry.Entry.{Entry}
use Rattle.static_index.specs.declared.filing.Filing.{Filing}
use Rattle.static_index.proofs.BucketLemmas.{nat_exact}
use Rattle.static_index.proofs.TableLemmas.{id_first, id_later}

module _ (P : ℕ × Entry → Type 0) where
  -- one entry more, by induction on the entries
  pub All-insert : (id : ℕ) (entry : Entry) (es : List (ℕ × Entry)) → P (id, entry) → All P es → All P (insert_entry nat_cmp es id entry)
  All-insert id entry [] one all = All-cons P (id, entry) [] one all
  All-insert id entry (e ∷ es) one all = go (ltb id e.0) (eqb id e.0) refl (All-insert id entry es one (All-tail P e es all))
    where
      go : (b d : Bool) → eqb id e.0 ≡ d → All P (insert_entry nat_cmp es id entry) → All P (match_ordering (cond b Less (cond d Equal Greater)) ((id, entry) ∷ e ∷ es) ((e.0, entry) ∷ es) (e ∷ insert_entry nat_cmp es id entry))
      go true d is rest = All-cons P (id, entry) (e ∷ es) one all
      go false true is rest = All-cons P (e.0, entry) es (subst (λ (k : ℕ). P (k, entry)) (eqb-true id e.0 is) one) (All-tail P e es all)
      go false false is rest = All-cons P e (insert_entry nat_cmp es id entry) (All-head P e es all) rest

  -- no entry has an id that isn't there
  pub apart_all : (id : ℕ) (es : List (ℕ × Entry)) → (Contains (ids_of (conditions_of es)) id → ⊥) → All P es → All (λ e. (e.0 ≢ id) × P e) es
  apart_all id [] absent all = All-nil _
  apart_all id (e ∷ es) absent all =
      All-cons (λ e. (e.0 ≢ id) × P e) e es
      ((λ same. absent (subst (λ (k : ℕ). Contains (e.0 ∷ ids_of (conditions_of es)) k) same (id_first e.0 (ids_of (conditions_of es))))), All-head P e es all)
      (apart_all id es (λ there. absent (id_later e.0 id (ids_of (conditions_of es)) there)) (All-tail P e es all))

  -- nor has one after it in order
  above_apart : (id x : ℕ) (es : List (ℕ × Entry)) → id ≡ x → AllByRecursion (λ y. nat_cmp x y ≡ Less) (keys_of es) → All P es → All (λ e. (e.0 ≢ id) × P e) es
  above_apart id x [] same above all = All-nil _
  above_apart id x (e ∷ es) same above all =
      All-cons (λ e. (e.0 ≢ id) × P e) e es (differs, All-head P e es all) (above_apart id x es same above.1 (All-tail P e es all))
    where
      differs : e.0 ≢ id
      differs h = let less = above.0 in grind (arith, nat_tests)

  -- nor has any that is left, by induction on the entries
  pub apart_removed : (id : ℕ) (es : List (ℕ × Entry)) → IsStrictlySortedBy nat_cmp (keys_of es) → All P es → All (λ e. (e.0 ≢ id) × P e) (remove_entry (is_at (nat_cmp id)) es)
  unfolding IsStrictlySortedBy
  apart_removed id [] up all = All-nil _
  apart_removed id (e ∷ es) up all = go (is_at (nat_cmp id) e.0) refl (apart_removed id es up.1 (All-tail P e es all))
    where
      go : (b : Bool) → is_at (nat_cmp id) e.0 ≡ b → All (λ e. (e.0 ≢ id) × P e) (remove_entry (is_at (nat_cmp id)) es) → All (λ e. (e.0 ≢ id) × P e) (cond b es (e ∷ remove_entry (is_at (nat_cmp id)) es))
      go true is rest = above_apart id e.0 es (nat_exact id e.0 is) up.0 (All-tail P e es all)
      go false is rest = All-cons (λ e. (e.0 ≢ id) × P e) e (remove_entry (is_at (nat_cmp id)) es) (differs, All-head P e es all) rest
        where
          differs : e.0 ≢ id
          differs h = grind (arith, nat_tests)

-- those of other ids stay filed
pub refiled : (old new : Filing) (id : ℕ) (es : List (ℕ × Entry)) → ((n : ℕ) (e : Entry) → n ≢ id → IsFiled old n e → IsFiled new n e)
    → All (λ e. (e.0 ≢ id) × IsFiled old e.0 e.1) es → All (λ e. IsFiled new e.0 e.1) es
refiled old new id es kept all = All-weaker (λ (e : ℕ × Entry). (e.0 ≢ id) × IsFiled old e.0 e.1) (λ e. IsFiled new e.0 e.1) (λ e h. kept e.0 e.1 h.0 h.1) es all
