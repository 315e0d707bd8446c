-- Prefixes that are listed, each once.
use Rattle.std.proofs.Common.{◌≡◌, ◌≢◌, ◌∙◌, sym, ap, refl, subst, inl, inr, ℕ, ◌<◌, ◌⊎◌, ◌==◌, not, Bool, true, false, cond, length, get_or, List, [], ◌∷◌, arith}
use Rattle.std.specs.Prelude.{◌↔◌, ◌&&◌, All, AllPairs, Contains}
use Rattle.std.specs.Bool.{Decides}
use Rattle.std.specs.List.{filter}
use base.Stored.{Gv, gnil, gnum, gcons}
use Rattle.std.proofs.lemmas.Bool.Decides.{Decides-and, Decides-eqb, Decides-like}
use Rattle.std.proofs.lemmas.List.Elements.{Contains-get_or}
use Rattle.std.proofs.lemmas.List.Kept.{AllPairs-cons, AllPairs-filter}
use Rattle.automaton.specs.Prefixes.{Prefix, Root, After, prefixes}
use Rattle.automaton.specs.contracts.line.Hop.{the_row}
use Rattle.prefix_merge.specs.Laws.{PrefixesAreListed}
use Rattle.prefix_merge.specs.Listed.{each_once, is_same_code, is_same_prefix, prefix_code}
use Rattle.prefix_merge.proofs.ContainLemmas.{first_in, in_cases, later_in, none_in}

-- the first of a pair of codes
abbrev head : Gv → Gv
head (gcons first second) = first
head code = gnil

-- the second of them
abbrev tail : Gv → Gv
tail (gcons first second) = second
tail code = gnil

-- the number of a code
abbrev num : Gv → ℕ
num (gnum n) = n
num code = 0

-- codes are told apart
same_decides : (g h : Gv) → Decides (is_same_code g h) (g ≡ h)
same_decides gnil gnil = (λ _. refl, λ _. refl)
same_decides (gnum m) (gnum n) = Decides-like (m == n) (λ e. ap gnum e) (λ e. ap num e) (Decides-eqb m n)
same_decides (gcons a b) (gcons c d) =
    Decides-like (is_same_code a c && is_same_code b d) (λ e. λ i. gcons (e.0 i) (e.1 i)) (λ e. (ap head e, ap tail e)) (Decides-and (is_same_code a c) (is_same_code b d) (same_decides a c) (same_decides b d))
same_decides g h = (λ e. cc, λ e. cc)

-- no two prefixes have one code
code_one : (p q : Prefix) → prefix_code p ≡ prefix_code q → p ≡ q
code_one (Root s) (Root t) e = ap (λ g. Root (num g)) e
code_one (After p h) (After q k) e =
    let before = code_one p q (ap head e) in
    let last = the_row.coded.inj h k (ap tail e) in λ i. After (before i) (last i)
code_one p q e = cc

-- so prefixes are told apart
pub one_decides : (p q : Prefix) → Decides (is_same_prefix p q) (p ≡ q)
one_decides p q = Decides-like (is_same_prefix p q) (code_one p q) (ap prefix_code) (same_decides (prefix_code p) (prefix_code q))

module _ (keeps : Prefix → Bool) where
  -- what is kept is among what was there
  in_filter : (ps : List Prefix) (p : Prefix) → keeps p ≡ true → Contains ps p → Contains (filter keeps ps) p
  in_filter [] p e c = c
  in_filter (q ∷ ps) p e c = go (keeps q) refl (in_cases q ps p c) (in_filter ps p e)
    where
      go : (b : Bool) → keeps q ≡ b → (p ≡ q) ⊎ Contains ps p → (Contains ps p → Contains (filter keeps ps) p) → Contains (cond b (q ∷ filter keeps ps) (filter keeps ps)) p
      go true is (inl same) rest = subst (Contains (q ∷ filter keeps ps)) (sym same) (first_in q (filter keeps ps))
      go true is (inr c) rest = later_in q (filter keeps ps) p (rest c)
      go false is (inl same) rest = absurd (let no : false ≡ true = sym is ∙ ap keeps (sym same) ∙ e in cc)
      go false is (inr c) rest = rest c

  -- and it is to be kept
  from_filter : (ps : List Prefix) (p : Prefix) → Contains (filter keeps ps) p → (keeps p ≡ true) × Contains ps p
  from_filter [] p c = absurd (none_in p c)
  from_filter (q ∷ ps) p c = go (keeps q) refl c (from_filter ps p)
    where
      either : keeps q ≡ true → (p ≡ q) ⊎ Contains (filter keeps ps) p → (Contains (filter keeps ps) p → (keeps p ≡ true) × Contains ps p) → (keeps p ≡ true) × Contains (q ∷ ps) p
      either e (inl same) rest = (ap keeps same ∙ e, subst (Contains (q ∷ ps)) (sym same) (first_in q ps))
      either e (inr c) rest = let more = rest c in (more.0, later_in q ps p more.1)

      go : (b : Bool) → keeps q ≡ b → Contains (cond b (q ∷ filter keeps ps) (filter keeps ps)) p → (Contains (filter keeps ps) p → (keeps p ≡ true) × Contains ps p) → (keeps p ≡ true) × Contains (q ∷ ps) p
      go true e c rest = either e (in_cases q (filter keeps ps) p c) rest
      go false e c rest = let more = rest c in (more.0, later_in q ps p more.1)

denied : (b : Bool) → not b ≡ true → b ≡ true → ⊥
denied true e f = cc
denied false e f = cc

-- the others than a prefix
abbrev others : Prefix → List Prefix → List Prefix
others p ps = filter (λ q. not (is_same_prefix p q)) ps

-- no prefix comes twice
once_apart : (ps : List Prefix) → AllPairs (λ p q. p ≢ q) (each_once ps)
once_apart [] = λ i j d lt below. absurd (omega (arith, below))
once_apart (p ∷ ps) = AllPairs-cons (λ p q. p ≢ q) p (others p (each_once ps)) apart (AllPairs-filter (λ p q. p ≢ q) (λ q. not (is_same_prefix p q)) (each_once ps) (once_apart ps))
  where
    apart : All (λ q. p ≢ q) (others p (each_once ps))
    apart k d lt same =
        let q = get_or (others p (each_once ps)) k d in
        denied (is_same_prefix p q) (from_filter (λ q. not (is_same_prefix p q)) (each_once ps) q (Contains-get_or (others p (each_once ps)) k d lt)).0 ((one_decides p q).1 same)

-- what comes once was there
once_from : (ps : List Prefix) (q : Prefix) → Contains (each_once ps) q → Contains ps q
once_from [] q c = c
once_from (p ∷ ps) q c = go (once_from ps q) (in_cases p (others p (each_once ps)) q c)
  where
    go : (Contains (each_once ps) q → Contains ps q) → (q ≡ p) ⊎ Contains (others p (each_once ps)) q → Contains (p ∷ ps) q
    go rest (inl same) = subst (Contains (p ∷ ps)) (sym same) (first_in p ps)
    go rest (inr c) = later_in p ps q (rest (from_filter (λ q. not (is_same_prefix p q)) (each_once ps) q c).1)

-- and what was there comes
once_has : (ps : List Prefix) (q : Prefix) → Contains ps q → Contains (each_once ps) q
once_has [] q c = c
once_has (p ∷ ps) q c = go (once_has ps q) (is_same_prefix p q) refl (in_cases p ps q c)
  where
    go : (Contains ps q → Contains (each_once ps) q) → (b : Bool) → is_same_prefix p q ≡ b → (q ≡ p) ⊎ Contains ps q → Contains (p ∷ others p (each_once ps)) q
    go rest true e c = subst (Contains (p ∷ others p (each_once ps))) ((one_decides p q).0 e) (first_in p (others p (each_once ps)))
    go rest false e (inl same) = subst (Contains (p ∷ others p (each_once ps))) (sym same) (first_in p (others p (each_once ps)))
    go rest false e (inr c) = later_in p (others p (each_once ps)) q (in_filter (λ q. not (is_same_prefix p q)) (each_once ps) q (ap not e) (rest c))

-- the prefixes of lines are listed, each once
pub prefixes_are_listed : PrefixesAreListed
prefixes_are_listed lines = let all = prefixes lines in record { apart = once_apart all; same = λ p. (once_from all p, once_has all p) }
