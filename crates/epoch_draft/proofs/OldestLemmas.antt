-- The instance that starts first.
use Rattle.std.proofs.Common.{◌≡◌, ◌≢◌, ◌∙◌, ◌⊎◌, sym, ap, refl, subst, inl, inr, ℕ, suc, ◌<◌, ◌≤◌, true, false, min, List, [], ◌∷◌, arith}
use Rattle.std.specs.List.{All, Any}
use Rattle.std.proofs.lemmas.Bool.{cases_lt}
use Rattle.std.proofs.lemmas.List.Elements.{All-cons, All-nil}
use Rattle.semantics.specs.Scalars.{Pr}
use Rattle.instances.specs.Alive.{is_alive}
use Rattle.instances.specs.Bounds.{alive_instances, started}
use Rattle.instances.specs.declared.instance.Instance.{Instance}
use Rattle.instances.proofs.BoundLemmas.{started_is}
use Rattle.epoch_draft.proofs.WatchLemmas.{alive_all}

-- where an instance of the oldest start isn't alive, not all of them are
pub not_all : (time oldest : ℕ) (choose : List Pr) (instances : List Instance) → Any (λ (i : Instance). i.tuple.from ≡ oldest) instances → is_alive time choose (started oldest) ≡ false → alive_instances time choose instances ≢ instances
not_all time oldest choose instances one gone all =
    let alive = subst (λ (i : Instance). is_alive time choose i.tuple ≡ true) one.3 (alive_all time choose instances all one.0 one.1 one.2) in
    let no : false ≡ true = sym gone ∙ ap (λ from. is_alive time choose (started from)) (sym one.4) ∙ started_is time choose one.1.tuple ∙ alive in
    absurd (cc)

-- a start is the least of those of the instances but the ones that are left to look at
pub record IsOldestBut (left : List Instance) (oldest : ℕ) (instances : List Instance) : Type 0 where
  pub all : (bound : ℕ) → bound ≤ oldest → All (λ (i : Instance). bound ≤ i.tuple.from) left → All (λ (i : Instance). bound ≤ i.tuple.from) instances
  pub is_one : Any (λ (i : Instance). i.tuple.from ≡ oldest) instances
  pub others : (from : ℕ) → Any (λ (i : Instance). i.tuple.from ≡ from) left → Any (λ (i : Instance). i.tuple.from ≡ from) instances

-- the first one, and one behind the first
first_any : (P : Instance → Type 0) (i : Instance) (rest : List Instance) → P i → Any P (i ∷ rest)
first_any P i rest p = (0, i, omega arith, refl, p)

later_any : (P : Instance → Type 0) (i : Instance) (rest : List Instance) → Any P rest → Any P (i ∷ rest)
later_any P i rest one = (suc one.0, one.1, (let lt = one.2 in omega (arith, lt)), one.3, one.4)

-- at first it is that of the first one
pub first_is : (i : Instance) (rest instances : List Instance) (from : ℕ) → instances ≡ i ∷ rest → from ≡ i.tuple.from → IsOldestBut rest from instances
first_is i rest instances from is start = record {
  all = λ bound le all. subst (All (λ (j : Instance). bound ≤ j.tuple.from)) (sym is) (All-cons (λ (j : Instance). bound ≤ j.tuple.from) i rest (omega (arith, le, start)) all);
  is_one = subst (Any (λ (j : Instance). j.tuple.from ≡ from)) (sym is) (first_any (λ (j : Instance). j.tuple.from ≡ from) i rest (sym start));
  others = λ other one. subst (Any (λ (j : Instance). j.tuple.from ≡ other)) (sym is) (later_any (λ (j : Instance). j.tuple.from ≡ other) i rest one);
}

-- then the lesser of it and that of the next one
pub next_is : (i : Instance) (left rest instances : List Instance) (oldest from least : ℕ) → left ≡ i ∷ rest → from ≡ i.tuple.from → least ≡ min oldest from → IsOldestBut left oldest instances → IsOldestBut rest least instances
next_is i left rest instances oldest from least is start lesser before = record {
  all = λ bound le all. before.all bound (omega (arith, le, lesser))
      (subst (All (λ (j : Instance). bound ≤ j.tuple.from)) (sym is) (All-cons (λ (j : Instance). bound ≤ j.tuple.from) i rest (omega (arith, le, lesser, start)) all));
  is_one = go (cases_lt oldest from);
  others = λ other one. before.others other (subst (Any (λ (j : Instance). j.tuple.from ≡ other)) (sym is) (later_any (λ (j : Instance). j.tuple.from ≡ other) i rest one));
}
  where
    next_one : Any (λ (j : Instance). j.tuple.from ≡ from) instances
    next_one = before.others from (subst (Any (λ (j : Instance). j.tuple.from ≡ from)) (sym is) (first_any (λ (j : Instance). j.tuple.from ≡ from) i rest (sym start)))

    go : (oldest < from) ⊎ (from ≤ oldest) → Any (λ (j : Instance). j.tuple.from ≡ least) instances
    go (inl early) = let same : oldest ≡ least = omega (arith, early, lesser) in subst (λ n. Any (λ (j : Instance). j.tuple.from ≡ n) instances) same before.is_one
    go (inr late) = let same : from ≡ least = omega (arith, late, lesser) in subst (λ n. Any (λ (j : Instance). j.tuple.from ≡ n) instances) same next_one

-- at last of all
pub last_is : (left instances : List Instance) (oldest : ℕ) → left ≡ [] → IsOldestBut left oldest instances → All (λ (i : Instance). oldest ≤ i.tuple.from) instances
last_is left instances oldest none before = before.all oldest (omega arith) (subst (All (λ (i : Instance). oldest ≤ i.tuple.from)) (sym none) (All-nil (λ (i : Instance). oldest ≤ i.tuple.from)))
