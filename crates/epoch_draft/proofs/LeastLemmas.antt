-- The least of some births.
use Rattle.std.proofs.Common.{◌≡◌, ◌∙◌, sym, ap, refl, subst, ◌≤◌, ◌<◌, ◌⊎◌, inl, inr, ℕ, zero, suc, ◌+◌, ◌-◌, min, List, [], ◌∷◌, ◌++◌, drop, flat_map, get_or, length, arith}
use Rattle.std.specs.Prelude.{Option, Some, None}
use Rattle.std.specs.List.{All}
use Rattle.std.proofs.lemmas.Bool.{cases_lt}
use Rattle.std.proofs.lemmas.List.Elements.{All-nil, All-cons, All-head, All-tail}
use Rattle.automaton.specs.States.{Net, edges_at, ends_at}
use Rattle.epoch_laws.specs.Births.{IsNoLater}
use Rattle.epoch_draft.specs.BirthLists.{births_of, births_within, least_with, lesser, lesser_of}

-- births are ordered
no_later_trans : (a b c : Option ℕ) → IsNoLater a b → IsNoLater b c → IsNoLater a c
no_later_trans None b c h g = tt
no_later_trans (Some a) None c h g = absurd h
no_later_trans (Some a) (Some b) None h g = absurd g
no_later_trans (Some a) (Some b) (Some c) h g = omega (arith, h, g)

no_later_itself : (a : Option ℕ) → IsNoLater a a
no_later_itself None = tt
no_later_itself (Some a) = omega arith

-- the lesser of two is no later than either, and is one of them
lesser_left : (a b : Option ℕ) → IsNoLater (lesser a b) a
lesser_left None b = tt
lesser_left (Some a) None = tt
lesser_left (Some a) (Some b) = omega arith

lesser_right : (a b : Option ℕ) → IsNoLater (lesser a b) b
lesser_right None b = tt
lesser_right (Some a) None = tt
lesser_right (Some a) (Some b) = omega arith

lesser_one : (P : Option ℕ → Type 0) (a b : Option ℕ) → P a → P b → P (lesser a b)
lesser_one P None b h g = h
lesser_one P (Some a) None h g = g
lesser_one P (Some a) (Some b) h g = go (cases_lt a b)
  where
    go : (a < b) ⊎ (b ≤ a) → P (Some (min a b))
    go (inl lt) = let e : a ≡ min a b = omega (arith, lt) in subst (λ (n : ℕ). P (Some n)) e h
    go (inr le) = let e : b ≡ min a b = omega (arith, le) in subst (λ (n : ℕ). P (Some n)) e g

-- the least of a birth and others
abbrev pub least_of : Option ℕ → List (Option ℕ) → Option ℕ
least_of first [] = first
least_of first (b ∷ bs) = least_of (lesser first b) bs

pub least_is : (first : Option ℕ) (bs : List (Option ℕ)) → least_with (Some first) bs ≡ Some (least_of first bs)
least_is first [] = refl
least_is first (b ∷ bs) = least_is (lesser first b) bs

-- it is no later than the first
pub least_first : (first : Option ℕ) (bs : List (Option ℕ)) → IsNoLater (least_of first bs) first
least_first first [] = no_later_itself first
least_first first (b ∷ bs) = no_later_trans (least_of (lesser first b) bs) (lesser first b) first (least_first (lesser first b) bs) (lesser_left first b)

-- nor than the others
pub least_all : (first : Option ℕ) (bs : List (Option ℕ)) → All (IsNoLater (least_of first bs)) bs
least_all first [] = All-nil _
least_all first (b ∷ bs) =
    All-cons (IsNoLater (least_of (lesser first b) bs)) b bs
    (no_later_trans (least_of (lesser first b) bs) (lesser first b) b (least_first (lesser first b) bs) (lesser_right first b)) (least_all (lesser first b) bs)

-- and is one of them
pub least_one : (P : Option ℕ → Type 0) (first : Option ℕ) (bs : List (Option ℕ)) → P first → All P bs → P (least_of first bs)
least_one P first [] h all = h
least_one P first (b ∷ bs) h all = least_one P (lesser first b) bs (lesser_one P first b h (All-head P b bs all)) (All-tail P b bs all)

-- it may be found part by part
pub least_append : (least : Option (Option ℕ)) (bs cs : List (Option ℕ)) → least_with least (bs ++ cs) ≡ least_with (least_with least bs) cs
least_append least [] cs = refl
least_append least (b ∷ bs) cs = least_append (Some (lesser_of least b)) bs cs

-- of the births that numbers give, those of one more
pub least_more : (f : ℕ → List (Option ℕ)) (ns : List ℕ) (i d : ℕ) (least new all : Option (Option ℕ)) → i < length ns → new ≡ least_with least (f (get_or ns i d)) → least_with least (flat_map f (drop i ns)) ≡ all → least_with new (flat_map f (drop (i + 1) ns)) ≡ all
least_more f [] i d least new all lt is was = absurd (omega (arith, lt))
least_more f (n ∷ ns) zero d least new all lt is was = ap (λ l. least_with l (flat_map f ns)) is ∙ sym (least_append least (f n) (flat_map f ns)) ∙ was
least_more f (n ∷ ns) (suc i) d least new all lt is was =
    let e : suc (i + 1) ≡ suc i + 1 = omega arith in subst (λ (k : ℕ). least_with new (flat_map f (drop k (n ∷ ns))) ≡ all) e (least_more f ns i d least new all (omega (arith, lt)) is was)

-- and of all of them
pub least_done : (f : ℕ → List (Option ℕ)) (ns : List ℕ) (i : ℕ) (least all : Option (Option ℕ)) → length ns ≤ i → least_with least (flat_map f (drop i ns)) ≡ all → least ≡ all
least_done f [] zero least all le is = is
least_done f [] (suc i) least all le is = is
least_done f (n ∷ ns) zero least all le is = absurd (omega (arith, le))
least_done f (n ∷ ns) (suc i) least all le is = least_done f ns i least all (omega (arith, le)) is

-- the births behind a state, where at least one edge is followed
pub within_more : (net : Net) (hops state : ℕ) → 0 < hops → births_of (ends_at net state) ++ flat_map (births_within net (hops - 1)) (edges_at net state) ≡ births_within net hops state
within_more net zero state lt = absurd (omega (arith, lt))
within_more net (suc hops) state lt = let e : suc hops - 1 ≡ hops = omega arith in ap (λ (k : ℕ). births_of (ends_at net state) ++ flat_map (births_within net k) (edges_at net state)) e
