-- Statements in the grammar are read, so no symbols have two readings.
use Rattle.std.proofs.Common.{◌≡◌, ◌∙◌, ℕ, zero, suc, ◌+◌, ◌*◌, ◌<◌, ◌≤◌, List, [], ◌∷◌, length, refl, sym, arith}
use Rattle.std.specs.Prelude.{Option, Some, true, nat_le}
use Rattle.std.proofs.lemmas.Bool.Decides.{nat_tests}
use Rattle.event_types.specs.declared.kind.Kind.{Kind}
use Rattle.cel_grammar.specs.Symbols.{Symbol}
use Rattle.cel_grammar.specs.Symbols as the
use Rattle.cel_grammar.specs.Trees.{Item, Source, Column, Col, Statement, Stream, Query}
use Rattle.cel_grammar.specs.Statements.{IsKind, int, text, dec, IsColumns, one, more, IsStatement, declaration, query, IsFile, empty, then}
use Rattle.cel_parser.specs.ScalarReader.{done}
use Rattle.cel_parser.specs.SourceReader.{items_at, source_at}
use Rattle.cel_parser.specs.StatementReader.{dec_of, kind_at, column_at, columns_at, columns_more, statement_at}
use Rattle.cel_parser.proofs.ScalarSound.{same}
use Rattle.cel_parser.proofs.SourceComplete.{items_complete, items_shorter, source_complete, source_shorter, source_stays}

-- no list of columns goes on here
abbrev pub NotComma : List Symbol → Type 0
NotComma (the.Comma ∷ ts) = ⊥
NotComma ts = Unit {0}

-- what cannot go on here stays as it is
columns_stay : (n : ℕ) (c : Column) (ts : List Symbol) → NotComma ts → columns_more (suc n) c ts ≡ Some (c ∷ [], ts)
unfolding columns_more
columns_stay n c (the.Comma ∷ ts) h = absurd h
columns_stay n c ts h = refl

-- a number of places that is small enough is tested to be so
few_enough : (n : ℕ) → n ≤ 18 → nat_le n 18 ≡ true
few_enough n few = grind (arith, nat_tests)

-- the reader reads it from its parts
kind_is : {ts rest : List Symbol} {k : Kind} → IsKind ts k rest → kind_at ts ≡ Some (k, rest)
unfolding kind_at dec_of
kind_is int = refl
kind_is text = refl
kind_is (dec {places = n} few) = rw (few_enough n few) refl

-- the reader reads it from its parts
column_is : {ts rest : List Symbol} {k : Kind} → IsKind ts k rest → (a : List ℕ) → column_at (the.Name a ∷ ts) ≡ Some (Col a k, rest)
unfolding column_at
column_is h a = rw (kind_is h) refl

-- the last column is read
columns_one : (n : ℕ) (a : List ℕ) (ts : List Symbol) (k : Kind) (rest : List Symbol) → IsKind ts k rest → NotComma rest
    → columns_at (suc (suc n)) (the.Name a ∷ ts) ≡ Some (Col a k ∷ [], rest)
unfolding columns_at
columns_one n a ts k rest h ends = rw (column_is h a) (columns_stay n (Col a k) rest ends)

-- a column and those behind the comma are read
columns_next : (n : ℕ) (a : List ℕ) (ts us : List Symbol) (k : Kind) (cs : List Column) (rest : List Symbol) → IsKind ts k (the.Comma ∷ us)
    → columns_at n us ≡ Some (cs, rest) → columns_at (suc (suc n)) (the.Name a ∷ ts) ≡ Some (Col a k ∷ cs, rest)
unfolding columns_at
columns_next n a ts us k cs rest h e = rw (column_is h a) (rw e refl)

-- it takes one symbol at least
kind_shorter : {ts rest : List Symbol} {k : Kind} → IsKind ts k rest → length rest < length ts
kind_shorter int = omega arith
kind_shorter text = omega arith
kind_shorter (dec few) = omega arith

-- it takes one symbol at least
columns_shorter : {ts rest : List Symbol} {cs : List Column} → IsColumns ts cs rest → length rest < length ts
columns_shorter (one h) = omega (arith, kind_shorter h)
columns_shorter (more h k) = omega (arith, kind_shorter h, columns_shorter k)

-- what is in the grammar is read
pub columns_complete : {ts rest : List Symbol} {cs : List Column} → IsColumns ts cs rest → (m : ℕ) → NotComma rest
    → length ts ≤ m + length rest → columns_at m ts ≡ Some (cs, rest)
columns_complete h zero ends le = absurd (omega (arith, columns_shorter h))
columns_complete (one h) (suc zero) ends le = absurd (omega (arith, kind_shorter h))
columns_complete {rest = rest} (one {a = a} {k = k} {ts = ts} h) (suc (suc m)) ends le = columns_one m a ts k rest h ends
columns_complete (more h k) (suc zero) ends le = absurd (omega (arith, kind_shorter h, columns_shorter k))
columns_complete {rest = rest} (more {a = a} {k = kind} {ts = ts} {us = us} {cs = cs} h k) (suc (suc m)) ends le =
    columns_next m a ts us kind cs rest h (columns_complete k m ends (omega (arith, kind_shorter h)))

-- it takes one symbol at least
pub statement_shorter : {ts rest : List Symbol} {s : Statement} → IsStatement ts s rest → length rest < length ts
statement_shorter (declaration h) = omega (arith, columns_shorter h)
statement_shorter (query h k) = omega (arith, items_shorter h, source_shorter k)

-- the reader reads it from its parts
declaration_is : (n : ℕ) (a : List ℕ) (ts rest : List Symbol) (cs : List Column) → columns_at n ts ≡ Some (cs, the.Close ∷ rest)
    → statement_at n (the.Stream ∷ the.Name a ∷ the.Open ∷ ts) ≡ Some (Stream a cs, rest)
unfolding statement_at
declaration_is n a ts rest cs e = rw e refl

-- the reader reads it from its parts
query_is : (n : ℕ) (a : List ℕ) (ts us rest : List Symbol) (items : List Item) (source : Source) → items_at n ts ≡ Some (items, the.From ∷ us)
    → source_at n us ≡ Some (source, the.Publish ∷ the.Name a ∷ rest) → statement_at n (the.Select ∷ ts) ≡ Some (Query items source a, rest)
unfolding statement_at
query_is n a ts us rest items source e f = rw e (rw f refl)

-- what is in the grammar is read
pub statement_complete : {ts rest : List Symbol} {s : Statement} → IsStatement ts s rest → (m : ℕ) → 16 * length ts ≤ m + 16 * length rest
    → statement_at m ts ≡ Some (s, rest)
statement_complete {rest = rest} (declaration {a = a} {ts = ts} {cs = cs} h) m le =
    declaration_is m a ts rest cs (columns_complete h m tt (omega (arith, columns_shorter h)))
statement_complete {rest = rest} (query {a = a} {ts = ts} {us = us} {items = items} {source = source} h k) m le =
    query_is m a ts us rest items source
    (items_complete h m (omega (arith, items_shorter h, source_shorter k)))
    (source_complete k 1 m (source, the.Publish ∷ the.Name a ∷ rest) (omega (arith, items_shorter h, source_shorter k)) (source_stays 0 source (the.Publish ∷ the.Name a ∷ rest) tt))

-- two readings of a statement at one place are one
pub record Same (s t : Statement) (us vs : List Symbol) : Type 0 where
  pub statement : s ≡ t
  pub rest : us ≡ vs

-- two answers of one reader are one
both_read : {A : Type 0} (r a b : Option A) → r ≡ a → r ≡ b → a ≡ b
both_read r a b e f = sym e ∙ f

-- a statement has one reading, and one end
pub statement_same : (ts us vs : List Symbol) (s t : Statement) → IsStatement ts s us → IsStatement ts t vs → Same s t us vs
statement_same ts us vs s t h k =
    let m : ℕ = 16 * length ts in
    let a = statement_complete h m (omega arith) in
    let b = statement_complete k m (omega arith) in
    let P : Statement → List Symbol → Type 0 = λ y ws. Same s y us ws in
    same P s us t vs (both_read (statement_at m ts) (done s us) (done t vs) a b) (record { statement = refl; rest = refl })

-- a file that is not empty begins with a statement
record Begins (ts : List Symbol) (ss : List Statement) : Type 0 where
  first : Statement
  behind : List Symbol
  others : List Statement
  reads : IsStatement ts first (the.End ∷ behind)
  goes_on : IsFile behind others
  whole : ss ≡ first ∷ others

-- a file with symbols begins with a statement
begins : {ts : List Symbol} {ss : List Statement} → IsFile ts ss → 0 < length ts → Begins ts ss
begins empty h = absurd (omega arith)
begins (then {rest = rest} {s = s} {ss = ss} h k) pos = record { first = s; behind = rest; others = ss; reads = h; goes_on = k; whole = refl }

-- no symbols, no statements
no_symbols : {ts : List Symbol} {ss : List Statement} → IsFile ts ss → length ts ≡ 0 → [] ≡ ss
no_symbols empty e = refl
no_symbols (then h k) e = absurd (omega (arith, statement_shorter h, e))

-- symbols spell at most one file
pub file_same : {ts : List Symbol} {ss : List Statement} → IsFile ts ss → (others : List Statement) → IsFile ts others → ss ≡ others
file_same empty others k = no_symbols k refl
file_same {ts = ts} (then {rest = rest} {s = s} {ss = ss} h more_statements) others k =
    let b = begins k (omega (arith, statement_shorter h)) in
    let eq = statement_same ts (the.End ∷ rest) (the.End ∷ b.behind) s b.first h b.reads in
    let place : b.behind ≡ rest = cc (eq.rest) in
    let tail : IsFile rest b.others = let file = b.goes_on in rw place at file in
    let tails = file_same more_statements b.others tail in
    cc (eq.statement, tails, b.whole)
