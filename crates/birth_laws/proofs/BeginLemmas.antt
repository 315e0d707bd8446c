-- Whether a prefix begins with another one can be told.
use Rattle.std.proofs.Common.{◌≡◌, ◌∙◌, sym, ap, refl, ℕ, zero, suc, ◌+◌, ◌-◌, ◌⊎◌, inl, inr, ◌==◌, Bool, true, false, length, List, [], ◌∷◌, ◌++◌, arith}
use Rattle.std.specs.Prelude.{◌&&◌}
use Rattle.std.specs.Bool.{Decides}
use base.Stored.{Gv, gnil, gnum, gcons}
use Rattle.std.proofs.lemmas.Bool.{cases_Bool}
use Rattle.std.proofs.lemmas.Bool.Decides.{Decides-and, Decides-eqb, Decides-like}
use Rattle.automaton.specs.contracts.line.Hop as hop
use Rattle.automaton.specs.declared.line.Hop.{Hop}
use Rattle.automaton.specs.Prefixes.{Prefix, Root, After, extended}
use Rattle.automaton.proofs.PlaceLemmas.{extended-push}

-- the first of a pair of codes
abbrev head : Gv → Gv
head (gcons a b) = a
head g = gnil

-- the second of them
abbrev tail : Gv → Gv
tail (gcons a b) = b
tail g = gnil

-- the number of a code
abbrev num : Gv → ℕ
num (gnum n) = n
num g = 0

-- whether two codes are one
abbrev same : Gv → Gv → Bool
same gnil gnil = true
same (gnum m) (gnum n) = m == n
same (gcons a b) (gcons c d) = same a c && same b d
same g h = false

same_decides : (g h : Gv) → Decides (same g h) (g ≡ h)
same_decides gnil gnil = (λ _. refl, λ _. refl)
same_decides (gnum m) (gnum n) = Decides-like (m == n) (λ e. ap gnum e) (λ e. ap num e) (Decides-eqb m n)
same_decides (gcons a b) (gcons c d) = Decides-like (same a c && same b d) (λ e. λ i. gcons (e.0 i) (e.1 i)) (λ e. (ap head e, ap tail e)) (Decides-and (same a c) (same b d) (same_decides a c) (same_decides b d))
same_decides g h = (λ e. cc, λ e. cc)

-- the code of a prefix, by those of its hops
abbrev code : Prefix → Gv
code (Root stream) = gcons (gnum 0) (gnum stream)
code (After prefix h) = gcons (gnum 1) (gcons (code prefix) (hop.the_row.coded.code h))

-- prefixes of one code are one
code_one : (p q : Prefix) → code p ≡ code q → p ≡ q
code_one (Root s) (Root t) e = ap (λ g. Root (num (tail g))) e
code_one (After p h) (After q k) e =
    let before : p ≡ q = code_one p q (ap (λ g. head (tail g)) e) in
    let last : h ≡ k = hop.the_row.coded.inj h k (ap (λ g. tail (tail g)) e) in
    λ i. After (before i) (last i)
code_one p q e = cc

prefixes_decide : (p q : Prefix) → Decides (same (code p) (code q)) (p ≡ q)
prefixes_decide p q = Decides-like (same (code p) (code q)) (code_one p q) (ap code) (same_decides (code p) (code q))

-- how many hops a prefix has
abbrev depth : Prefix → ℕ
depth (Root stream) = 0
depth (After prefix h) = suc (depth prefix)

-- the prefix without its last hops, as many
abbrev shortened : ℕ → Prefix → Prefix
shortened zero prefix = prefix
shortened (suc n) (Root stream) = Root stream
shortened (suc n) (After prefix h) = shortened n prefix

-- with them it is the prefix again
shortened_back : (n : ℕ) (whole : Prefix) → (more : List Hop) × (whole ≡ extended (shortened n whole) more)
shortened_back zero whole = ([], refl)
shortened_back (suc n) (Root stream) = ([], refl)
shortened_back (suc n) (After prefix h) = let back = shortened_back n prefix in (back.0 ++ h ∷ [], ap (λ p. After p h) back.1 ∙ sym (extended-push (shortened n prefix) back.0 h))

-- one hop less
shortened_once : (n : ℕ) (prefix : Prefix) → shortened (suc n) prefix ≡ shortened 1 (shortened n prefix)
shortened_once zero prefix = refl
shortened_once (suc n) (Root stream) = refl
shortened_once (suc n) (After prefix h) = shortened_once n prefix

-- without the hops that were put behind a prefix it is there again, by induction on them
shortened_extended : (prefix : Prefix) (more : List Hop) → shortened (length more) (extended prefix more) ≡ prefix
shortened_extended prefix [] = refl
shortened_extended prefix (h ∷ more) = shortened_once (length more) (extended (After prefix h) more) ∙ ap (shortened 1) (shortened_extended (After prefix h) more)

depth_extended : (prefix : Prefix) (more : List Hop) → depth (extended prefix more) ≡ depth prefix + length more
depth_extended prefix [] = omega arith
depth_extended prefix (h ∷ more) = depth_extended (After prefix h) more ∙ omega arith

-- a prefix is another one with more hops behind, or it itself
abbrev pub Begins : Prefix → Prefix → Type 0
Begins first whole = (more : List Hop) × (whole ≡ extended first more)

-- it is so, or it isn't
pub begins_or_not : (first whole : Prefix) → Begins first whole ⊎ (Begins first whole → ⊥)
begins_or_not first whole = elim (cases_Bool (same (code (shortened n whole)) (code first))) [
  | inl one ↦ let back = shortened_back n whole in inl (back.0, back.1 ∙ ap (λ p. extended p back.0) ((prefixes_decide (shortened n whole) first).0 one))
  | inr other ↦ inr (λ begins. let e : true ≡ false = sym ((prefixes_decide (shortened n whole) first).1 (as_many begins)) ∙ other in cc)
]
  where
    n : ℕ
    n = depth whole - depth first

    as_many : Begins first whole → shortened n whole ≡ first
    as_many begins =
        let deep : n ≡ length begins.0 = count (depth whole) (depth first) (length begins.0) (ap depth begins.1 ∙ depth_extended first begins.0) in
        ap (λ m. shortened m whole) deep ∙ ap (shortened (length begins.0)) begins.1 ∙ shortened_extended first begins.0
      where
        count : (d e l : ℕ) → d ≡ e + l → d - e ≡ l
        count d e l is = omega (arith, is)
