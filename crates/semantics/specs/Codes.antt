-- The codes by which a proof tells terms apart. No contract is about them.
use Rattle.std.specs.Prelude.{◌≡◌, ℕ, List, refl}
use Rattle.std.proofs.Common.{ap}
use base.Stored.{Gv, gnil, gnum, gcons}
use Rattle.std.specs.Coded.{Coded, code_by, coded×, coded_ℕ, coded_list}
use Rattle.event_types.specs.contracts.value.Value as value
use Rattle.event_types.specs.contracts.comparison.Cmp as cmp
use Rattle.semantics.specs.Scalars.{Op, Add, Sub, Mul, Min, Max, Sc, Lit, Event, Binding, Dur, Two, Pr, True, Test, And, Or, Not, Projection}

-- the first of a pair of codes
abbrev head : Gv → Gv
head (gcons a b) = a
head g = gnil

-- the second of them
abbrev tail : Gv → Gv
tail (gcons a b) = b
tail g = gnil

-- the number of a code
abbrev num : Gv → ℕ
num (gnum n) = n
num g = 0

-- the code of an operation
abbrev op_gv : Op → Gv
op_gv Add = gnum 0
op_gv Sub = gnum 1
op_gv Mul = gnum 2
op_gv Min = gnum 3
op_gv Max = gnum 4

-- no two operations have one code
pub op_one : (x y : Op) → op_gv x ≡ op_gv y → x ≡ y
op_one Add Add e = refl
op_one Sub Sub e = refl
op_one Mul Mul e = refl
op_one Min Min e = refl
op_one Max Max e = refl
op_one x y e = cc

-- the code of a scalar: its variant, and the codes of its parts
abbrev sc_gv : Sc → Gv
sc_gv (Lit v) = gcons (gnum 0) (value.the_row.coded.code v)
sc_gv (Event i) = gcons (gnum 1) (gnum i)
sc_gv (Binding i) = gcons (gnum 2) (gnum i)
sc_gv Dur = gcons (gnum 3) gnil
sc_gv (Two o x y) = gcons (gnum 4) (gcons (op_gv o) (gcons (sc_gv x) (sc_gv y)))

-- no two scalars have one code
pub sc_one : (x y : Sc) → sc_gv x ≡ sc_gv y → x ≡ y
sc_one (Lit v) (Lit w) e = ap Lit (value.the_row.coded.inj v w (ap tail e))
sc_one (Event i) (Event j) e = ap (λ g. Event (num (tail g))) e
sc_one (Binding i) (Binding j) e = ap (λ g. Binding (num (tail g))) e
sc_one Dur Dur e = refl
sc_one (Two o x y) (Two o' x' y') e = λ i. Two (op_one o o' (ap (λ g. head (tail g)) e) i) (sc_one x x' (ap (λ g. head (tail (tail g))) e) i) (sc_one y y' (ap (λ g. tail (tail (tail g))) e) i)
sc_one x y e = cc

-- the code of a predicate
abbrev pr_gv : Pr → Gv
pr_gv True = gcons (gnum 0) gnil
pr_gv (Test x c y) = gcons (gnum 1) (gcons (sc_gv x) (gcons (cmp.the_row.coded.code c) (sc_gv y)))
pr_gv (And p q) = gcons (gnum 2) (gcons (pr_gv p) (pr_gv q))
pr_gv (Or p q) = gcons (gnum 3) (gcons (pr_gv p) (pr_gv q))
pr_gv (Not p) = gcons (gnum 4) (pr_gv p)

-- no two predicates have one code
pub pr_one : (p q : Pr) → pr_gv p ≡ pr_gv q → p ≡ q
pr_one True True e = refl
pr_one (Test x c y) (Test x' c' y') e = λ i. Test (sc_one x x' (ap (λ g. head (tail g)) e) i) (cmp.the_row.coded.inj c c' (ap (λ g. head (tail (tail g))) e) i) (sc_one y y' (ap (λ g. tail (tail (tail g))) e) i)
pr_one (And p q) (And p' q') e = λ i. And (pr_one p p' (ap (λ g. head (tail g)) e) i) (pr_one q q' (ap (λ g. tail (tail g)) e) i)
pr_one (Or p q) (Or p' q') e = λ i. Or (pr_one p p' (ap (λ g. head (tail g)) e) i) (pr_one q q' (ap (λ g. tail (tail g)) e) i)
pr_one (Not p) (Not p') e = ap Not (pr_one p p' (ap tail e))
pr_one x y e = cc

-- the codes of scalars
abbrev pub scs_code : Coded (List Sc)
scs_code = coded_list (record { code = sc_gv; inj = sc_one })

-- the codes of conjunctions
abbrev pub conj_code : Coded (List Pr)
conj_code = coded_list (record { code = pr_gv; inj = pr_one })

-- the codes of projections
abbrev pub projection_code : Coded Projection
projection_code = code_by (ℕ × List Sc) (coded× coded_ℕ scs_code) (λ m. (m.width, m.parts)) (λ p. record { width = p.0; parts = p.1 }) (λ _. refl)
