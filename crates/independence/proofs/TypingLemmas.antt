-- Typing is by names: over another table a source has the same schema, and the same expression up to the streams' numbers.
use Rattle.std.proofs.Common.{◌≡◌, ◌∙◌, ℕ, zero, suc, List, ◌++◌, refl, sym, ap, subst, inl, inr, arith}
use Rattle.std.specs.Prelude.{Some, Contains, option_map, slice_get}
use Rattle.std.proofs.lemmas.List.Elements.{Contains-append_cases, Contains-append_left, Contains-append_right}
use Rattle.std.proofs.lemmas.Option.{slice_get-map}
use Rattle.semantics.specs.Expressions.{Ex, Read, Filter, Select, Union, Next, Fold}
use Rattle.semantics.specs.Reading.{ReadsOnly, renumbered}
use Rattle.stream_schema.specs.Schema.{Attr}
use Rattle.stream_schema.specs.Streams.{Entry, number_of, schemas_of}
use Rattle.cel_grammar.specs.Trees.{Source, Statement}
use Rattle.cel_grammar.specs.Trees as tree
use Rattle.cel_types.specs.declared.fault.TypeFault.{TypeFault}
use Rattle.cel_types.specs.Sources.{Elaborates, FailsToElaborate, name, filter, select, union, next, fold}
use Rattle.cel_types.specs.Sources as fails
use Rattle.cel_types.specs.Statements.{FailsAsQuery, Queries, read_names}
use Rattle.catalogue.specs.Statements.{reads_by}
use Rattle.independence.proofs.TableLemmas.{get-append, number-append, number-found}

-- the stream of a name has this number and this schema
pub record Has (streams : List Entry) (a : List ℕ) (n : ℕ) (schema : List Attr) : Type 0 where
  pub found : number_of a streams ≡ Some n
  pub there : slice_get (schemas_of streams) n ≡ Some schema

-- what a name means in one table it means in another, up to its number
abbrev pub IsAlike : List Entry → List Entry → (ℕ → ℕ) → List ℕ → Type 0
IsAlike streams others number a = (n : ℕ) (schema : List Attr) → Has streams a n schema → Has others a (number n) schema

-- so of each of these names
abbrev pub AreAlike : List Entry → List Entry → (ℕ → ℕ) → List (List ℕ) → Type 0
AreAlike streams others number names = (a : List ℕ) → Contains names a → IsAlike streams others number a

-- so of the names of a left source, and of a right one
alike-left : {streams others : List Entry} (number : ℕ → ℕ) (e f : Source) → AreAlike streams others number (read_names e ++ read_names f) → AreAlike streams others number (read_names e)
alike-left number e f alike a stands = alike a (Contains-append_left (read_names e) (read_names f) a stands)

alike-right : {streams others : List Entry} (number : ℕ → ℕ) (e f : Source) → AreAlike streams others number (read_names e ++ read_names f) → AreAlike streams others number (read_names f)
alike-right number e f alike a stands = alike a (Contains-append_right (read_names e) (read_names f) a stands)

-- by induction on the derivation
gives-renumbered : {streams others : List Entry} (number : ℕ → ℕ) {e : Source} {schema : List Attr} {x : Ex} → Elaborates streams e schema x → AreAlike streams others number (read_names e) → Elaborates others e schema (renumbered number x)
gives-renumbered number (name {a = a} {n = n} {schema = schema} found there) alike =
    let has = alike a (0, omega arith, refl) n schema (record { found = found; there = there }) in name has.found has.there
gives-renumbered number (filter g m) alike = filter (gives-renumbered number g alike) m
gives-renumbered number (select g m narrow) alike = select (gives-renumbered number g alike) m narrow
gives-renumbered number (union {e = e} {f = f} g h d) alike = union (gives-renumbered number g (alike-left number e f alike)) (gives-renumbered number h (alike-right number e f alike)) d
gives-renumbered number (next {e = e} {f = f} g h narrow m) alike = next (gives-renumbered number g (alike-left number e f alike)) (gives-renumbered number h (alike-right number e f alike)) narrow m
gives-renumbered number (fold {e = e} {f = f} g h m o sets) alike = fold (gives-renumbered number g (alike-left number e f alike)) (gives-renumbered number h (alike-right number e f alike)) m o sets

-- so of a query
pub queries-renumbered : (streams others : List Entry) (number : ℕ → ℕ) (s : Statement) (schema : List Attr) (x : Ex) → Queries streams s schema x → AreAlike streams others number (reads_by s) → Queries others s schema (renumbered number x)
queries-renumbered streams others number (tree.Stream a columns) schema x q alike = absurd q
queries-renumbered streams others number (tree.Query items e a) schema x q alike = gives-renumbered number q alike

-- a fault is one over the other table too, by induction on what it is
fails-renumbered : {streams others : List Entry} (number : ℕ → ℕ) {e : Source} {f : TypeFault} → FailsToElaborate streams e f → AreAlike streams others number (read_names e) → FailsToElaborate others e f
fails-renumbered number (fails.filter_source h) alike = fails.filter_source (fails-renumbered number h alike)
fails-renumbered number (fails.filter_condition g h) alike = fails.filter_condition (gives-renumbered number g alike) h
fails-renumbered number (fails.select_source h) alike = fails.select_source (fails-renumbered number h alike)
fails-renumbered number (fails.select_items g h) alike = fails.select_items (gives-renumbered number g alike) h
fails-renumbered number (fails.select_wide g h wide) alike = fails.select_wide (gives-renumbered number g alike) h wide
fails-renumbered number (fails.union_left {e = e} {g = g} h) alike = fails.union_left (fails-renumbered number h (alike-left number e g alike))
fails-renumbered number (fails.union_right {e = e} {g = g} l h) alike = fails.union_right (gives-renumbered number l (alike-left number e g alike)) (fails-renumbered number h (alike-right number e g alike))
fails-renumbered number (fails.union_schemas {e = e} {g = g} l r d) alike = fails.union_schemas (gives-renumbered number l (alike-left number e g alike)) (gives-renumbered number r (alike-right number e g alike)) d
fails-renumbered number (fails.next_left {e = e} {g = g} h) alike = fails.next_left (fails-renumbered number h (alike-left number e g alike))
fails-renumbered number (fails.next_right {e = e} {g = g} l h) alike = fails.next_right (gives-renumbered number l (alike-left number e g alike)) (fails-renumbered number h (alike-right number e g alike))
fails-renumbered number (fails.next_wide {e = e} {g = g} l r wide) alike = fails.next_wide (gives-renumbered number l (alike-left number e g alike)) (gives-renumbered number r (alike-right number e g alike)) wide
fails-renumbered number (fails.next_condition {e = e} {g = g} l r narrow h) alike = fails.next_condition (gives-renumbered number l (alike-left number e g alike)) (gives-renumbered number r (alike-right number e g alike)) narrow h
fails-renumbered number (fails.fold_left {e = e} {g = g} h) alike = fails.fold_left (fails-renumbered number h (alike-left number e g alike))
fails-renumbered number (fails.fold_right {e = e} {g = g} l h) alike = fails.fold_right (gives-renumbered number l (alike-left number e g alike)) (fails-renumbered number h (alike-right number e g alike))
fails-renumbered number (fails.fold_choose {e = e} {g = g} l r h) alike = fails.fold_choose (gives-renumbered number l (alike-left number e g alike)) (gives-renumbered number r (alike-right number e g alike)) h
fails-renumbered number (fails.fold_on {e = e} {g = g} l r m h) alike = fails.fold_on (gives-renumbered number l (alike-left number e g alike)) (gives-renumbered number r (alike-right number e g alike)) m h
fails-renumbered number (fails.fold_sets {e = e} {g = g} l r m o h) alike = fails.fold_sets (gives-renumbered number l (alike-left number e g alike)) (gives-renumbered number r (alike-right number e g alike)) m o h

-- so of a query
pub queries-fail : (streams others : List Entry) (number : ℕ → ℕ) (s : Statement) (f : TypeFault) → FailsAsQuery streams s f → AreAlike streams others number (reads_by s) → FailsAsQuery others s f
queries-fail streams others number (tree.Stream a columns) f h alike = absurd h
queries-fail streams others number (tree.Query items e a) f h alike = fails-renumbered number h alike

-- the same numbers give the same expression
renumbered-same : (x : Ex) → renumbered (λ n. n) x ≡ x
renumbered-same (Read n) = refl
renumbered-same (Filter p x) = ap (Filter p) (renumbered-same x)
renumbered-same (Select m x) = ap (Select m) (renumbered-same x)
renumbered-same (Union x y) = λ i. Union (renumbered-same x i) (renumbered-same y i)
renumbered-same (Next p x y) = λ i. Next p (renumbered-same x i) (renumbered-same y i)
renumbered-same (Fold p q m x y) = λ i. Fold p q m (renumbered-same x i) (renumbered-same y i)

-- the schema at a number is that of the stream there
pub schema-at : (streams : List Entry) (n : ℕ) (e : Entry) → slice_get streams n ≡ Some e → slice_get (schemas_of streams) n ≡ Some e.schema
schema-at streams n e at = slice_get-map (λ (s : Entry). s.schema) streams n ∙ ap (option_map (λ (s : Entry). s.schema)) at

-- what a name means it means with more streams behind
pub has-append : (streams more : List Entry) (a : List ℕ) (n : ℕ) (schema : List Attr) → Has streams a n schema → Has (streams ++ more) a n schema
has-append streams more a n schema has =
    let (e, at, named) = number-found a streams n has.found in
    let own : Some schema ≡ Some e.schema = sym has.there ∙ schema-at streams n e at in
    record { found = number-append a streams more n has.found; there = schema-at (streams ++ more) n e (get-append streams more n e at) ∙ sym own }

-- a query is typed so with more streams behind
pub queries-append : (streams more : List Entry) (s : Statement) (schema : List Attr) (x : Ex) → Queries streams s schema x → Queries (streams ++ more) s schema x
queries-append streams more s schema x q =
    subst (Queries (streams ++ more) s schema) (renumbered-same x) (queries-renumbered streams (streams ++ more) (λ n. n) s schema x q (λ a stands n own has. has-append streams more a n own has))

-- each stream that it reads has the name of one that its source reads, by induction on the derivation
gives-reads : {streams : List Entry} (IsSo : ℕ → Type 0) {e : Source} {schema : List Attr} {x : Ex} → Elaborates streams e schema x
    → ((a : List ℕ) (n : ℕ) → Contains (read_names e) a → number_of a streams ≡ Some n → IsSo n) → ReadsOnly IsSo x
gives-reads IsSo (name {a = a} {n = n} found there) so = so a n (0, omega arith, refl) found
gives-reads IsSo (filter g m) so = gives-reads IsSo g so
gives-reads IsSo (select g m narrow) so = gives-reads IsSo g so
gives-reads IsSo (union {e = e} {f = f} g h d) so =
    (gives-reads IsSo g (λ a n stands. so a n (Contains-append_left (read_names e) (read_names f) a stands)), gives-reads IsSo h (λ a n stands. so a n (Contains-append_right (read_names e) (read_names f) a stands)))
gives-reads IsSo (next {e = e} {f = f} g h narrow m) so =
    (gives-reads IsSo g (λ a n stands. so a n (Contains-append_left (read_names e) (read_names f) a stands)), gives-reads IsSo h (λ a n stands. so a n (Contains-append_right (read_names e) (read_names f) a stands)))
gives-reads IsSo (fold {e = e} {f = f} g h m o sets) so =
    (gives-reads IsSo g (λ a n stands. so a n (Contains-append_left (read_names e) (read_names f) a stands)), gives-reads IsSo h (λ a n stands. so a n (Contains-append_right (read_names e) (read_names f) a stands)))

-- so of a query
pub queries-reads : (streams : List Entry) (IsSo : ℕ → Type 0) (s : Statement) (schema : List Attr) (x : Ex) → Queries streams s schema x
    → ((a : List ℕ) (n : ℕ) → Contains (reads_by s) a → number_of a streams ≡ Some n → IsSo n) → ReadsOnly IsSo x
queries-reads streams IsSo (tree.Stream a columns) schema x q so = absurd q
queries-reads streams IsSo (tree.Query items e a) schema x q so = gives-reads IsSo q so

-- each name that a query reads is a stream's, by induction on the derivation
gives-named : {streams : List Entry} {e : Source} {schema : List Attr} {x : Ex} → Elaborates streams e schema x → (a : List ℕ) → Contains (read_names e) a → (n : ℕ) × (number_of a streams ≡ Some n)
gives-named {streams} (name {n = n} found there) a (zero, inside, same) = (n, subst (λ (b : List ℕ). number_of b streams ≡ Some n) same found)
gives-named (name found there) a (suc k, inside, same) = absurd (omega arith)
gives-named (filter g m) a stands = gives-named g a stands
gives-named (select g m narrow) a stands = gives-named g a stands
gives-named (union {e = e} {f = f} g h d) a stands = elim (Contains-append_cases (read_names e) (read_names f) a stands) [ inl left ↦ gives-named g a left | inr right ↦ gives-named h a right ]
gives-named (next {e = e} {f = f} g h narrow m) a stands = elim (Contains-append_cases (read_names e) (read_names f) a stands) [ inl left ↦ gives-named g a left | inr right ↦ gives-named h a right ]
gives-named (fold {e = e} {f = f} g h m o sets) a stands = elim (Contains-append_cases (read_names e) (read_names f) a stands) [ inl left ↦ gives-named g a left | inr right ↦ gives-named h a right ]

-- so of a query
pub queries-named : (streams : List Entry) (s : Statement) (schema : List Attr) (x : Ex) → Queries streams s schema x → (a : List ℕ) → Contains (reads_by s) a → (n : ℕ) × (number_of a streams ≡ Some n)
queries-named streams (tree.Stream own columns) schema x q a stands = absurd q
queries-named streams (tree.Query items e own) schema x q a stands = gives-named q a stands
