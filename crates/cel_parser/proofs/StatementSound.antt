-- What is read as a statement is in the grammar.
use Rattle.std.proofs.Common.{◌≡◌, ℕ, zero, suc, ◌≤◌, Bool, true, false, List, [], ◌∷◌, refl, sym, subst, arith}
use Rattle.std.specs.Prelude.{Some, None, nat_le, ◌&&◌, codes, if◌then◌else◌}
use Rattle.std.specs.Str.{bytes_eq}
use Rattle.std.proofs.lemmas.Bool.Decides.{nat_tests}
use Rattle.std.proofs.lemmas.Slice.Eq.{bytes_eq-Decides}
use Rattle.event_types.specs.declared.kind.Kind.{Kind}
use Rattle.event_types.specs.declared.kind.Kind.TheVariants as kind
use Rattle.cel_grammar.specs.Symbols.{Symbol}
use Rattle.cel_grammar.specs.Symbols as the
use Rattle.cel_grammar.specs.Sources.{IsItems, IsSource}
use Rattle.cel_grammar.specs.Trees.{Item, Source, Column, Col, Statement, Stream, Query}
use Rattle.cel_grammar.specs.Statements.{IsKind, int, text, dec, IsColumns, one, more, IsStatement, declaration, query}
use Rattle.cel_parser.specs.ScalarReader.{◌>>=◌, done, close_at}
use Rattle.cel_parser.specs.SourceReader.{from_at, items_at, source_at}
use Rattle.cel_parser.specs.StatementReader.{dec_of, kind_at, column_at, columns_at, columns_more, publish_at, statement_at}
use Rattle.cel_parser.proofs.ScalarSound.{bind_some, same}
use Rattle.cel_parser.proofs.SourceSound.{from_is, items_sound, source_sound}

-- a column stands first: it is the last one, or others follow a comma
record BeginsColumns (front : List Symbol) (c : Column) (ts : List Symbol) : Type 0 where
  last : IsColumns front (c ∷ []) ts
  goes_on : (us : List Symbol) (cs : List Column) (rest : List Symbol) → ts ≡ the.Comma ∷ us → IsColumns us cs rest → IsColumns front (c ∷ cs) rest

-- a kind makes it a column
column_begins : (a : List ℕ) (ts : List Symbol) (k : Kind) (rest : List Symbol) → IsKind ts k rest → BeginsColumns (the.Name a ∷ ts) (Col a k) rest
column_begins a ts k rest h = record { last = one h; goes_on = λ us cs end e more_columns. more (subst (λ behind. IsKind ts k behind) e h) more_columns }

-- the name is DEC and the places are few, where the tests say so
dec_when : (a : List ℕ) (n : ℕ) (k : Kind) (ts : List Symbol) (named few : Bool) → bytes_eq a (codes "DEC") ≡ named → nat_le n 18 ≡ few
    → (if named && few then Some (kind.Dec n) else None) ≡ Some k → IsKind (the.Name a ∷ the.Number n ∷ ts) k ts
dec_when a n k ts true true name low e =
    let is_dec : codes "DEC" ≡ a = sym ((bytes_eq-Decides a (codes "DEC")).0 name) in
    let is_kind : kind.Dec n ≡ k = cc in
    let is_few : n ≤ 18 = grind (arith, nat_tests, low) in
    subst (λ word. IsKind (the.Name word ∷ the.Number n ∷ ts) k ts) is_dec (subst (λ kind. IsKind (the.Name (codes "DEC") ∷ the.Number n ∷ ts) kind ts) is_kind (dec is_few))
dec_when a n k ts true false name low e = absurd cc
dec_when a n k ts false few name low e = absurd cc

-- what is read is in the grammar
dec_sound : (a : List ℕ) (n : ℕ) (k : Kind) (ts : List Symbol) → dec_of a n ≡ Some k → IsKind (the.Name a ∷ the.Number n ∷ ts) k ts
unfolding dec_of
dec_sound a n k ts e = dec_when a n k ts (bytes_eq a (codes "DEC")) (nat_le n 18) refl refl e

-- what is read is in the grammar
kind_sound : (ts : List Symbol) (k : Kind) (rest : List Symbol) → kind_at ts ≡ Some (k, rest) → IsKind ts k rest
unfolding kind_at
kind_sound (the.Int ∷ ts) k rest e = same (IsKind (the.Int ∷ ts)) kind.Int ts k rest e int
kind_sound (the.Text ∷ ts) k rest e = same (IsKind (the.Text ∷ ts)) kind.Text ts k rest e text
kind_sound (the.Name a ∷ the.Number n ∷ ts) k rest e =
    let s = bind_some (dec_of a n) (λ found. done found ts) (k, rest) e in
    same (IsKind (the.Name a ∷ the.Number n ∷ ts)) s.0 ts k rest s.2 (dec_sound a n s.0 ts s.1)
kind_sound ts k rest e = absurd cc

-- what is read is in the grammar
column_sound : (front : List Symbol) (c : Column) (ts : List Symbol) → column_at front ≡ Some (c, ts) → BeginsColumns front c ts
unfolding column_at
column_sound (the.Name a ∷ ts) c us e =
    let s = bind_some (kind_at ts) (λ k. done (Col a k.0) k.1) (c, us) e in
    same (BeginsColumns (the.Name a ∷ ts)) (Col a s.0.0) s.0.1 c us s.2 (column_begins a ts s.0.0 s.0.1 (kind_sound ts s.0.0 s.0.1 s.1))
column_sound ts c us e = absurd cc

mutual
  unfolding columns_at

  -- what is read is in the grammar
  pub columns_sound : (n : ℕ) (ts : List Symbol) (cs : List Column) (rest : List Symbol) → columns_at n ts ≡ Some (cs, rest) → IsColumns ts cs rest
  columns_sound zero ts cs rest e = absurd cc
  columns_sound (suc n) ts cs rest e =
      let s = bind_some (column_at ts) (λ c. columns_more n c.0 c.1) (cs, rest) e in
      columns_more_sound n ts s.0.0 s.0.1 cs rest (column_sound ts s.0.0 s.0.1 s.1) s.2

  -- what is read is in the grammar
  columns_more_sound : (n : ℕ) (front : List Symbol) (c : Column) (ts : List Symbol) (cs : List Column) (rest : List Symbol) → BeginsColumns front c ts → columns_more n c ts ≡ Some (cs, rest) → IsColumns front cs rest
  columns_more_sound zero front c ts cs rest h e = absurd cc
  columns_more_sound (suc n) front c (the.Comma ∷ ts) cs rest h e =
      let s = bind_some (columns_at n ts) (λ others. done (c ∷ others.0) others.1) (cs, rest) e in
      same (IsColumns front) (c ∷ s.0.0) s.0.1 cs rest s.2 (h.goes_on ts s.0.0 s.0.1 refl (columns_sound n ts s.0.0 s.0.1 s.1))
  columns_more_sound (suc n) front c ts cs rest h e = same (IsColumns front) (c ∷ []) ts cs rest e h.last

-- the reader reads it from its parts
publish_is : (ts : List Symbol) (a : List ℕ) (us : List Symbol) → publish_at ts ≡ done a us → ts ≡ the.Publish ∷ the.Name a ∷ us
publish_is (the.Publish ∷ the.Name b ∷ vs) a us e =
    let P : List ℕ → List Symbol → Type 0 = λ c ws. the.Publish ∷ the.Name b ∷ vs ≡ the.Publish ∷ the.Name c ∷ ws in
    same P b vs a us e refl
publish_is ts a us e = absurd cc

-- its parts make it
declaration_made : (a : List ℕ) (ts behind : List Symbol) (cs : List Column) (s : Statement) (rest : List Symbol) → IsColumns ts cs behind
    → (close_at behind >>= done (Stream a cs)) ≡ done s rest → IsStatement (the.Stream ∷ the.Name a ∷ the.Open ∷ ts) s rest
declaration_made a ts (the.Close ∷ us) cs s rest h e = same (IsStatement (the.Stream ∷ the.Name a ∷ the.Open ∷ ts)) (Stream a cs) us s rest e (declaration h)
declaration_made a ts behind cs s rest h e = absurd cc

-- its parts make it
query_made : (ts after us last vs : List Symbol) (items : List Item) (source : Source) (a : List ℕ) → IsItems ts items after → after ≡ the.From ∷ us
    → IsSource us source last → last ≡ the.Publish ∷ the.Name a ∷ vs → IsStatement (the.Select ∷ ts) (Query items source a) vs
query_made ts after us last vs items source a h e k f =
    let front = rw e at h in
    let back = rw f at k in
    query front back

-- what is read is in the grammar
pub statement_sound : (n : ℕ) (ts : List Symbol) (s : Statement) (rest : List Symbol) → statement_at n ts ≡ Some (s, rest) → IsStatement ts s rest
unfolding statement_at
statement_sound n (the.Stream ∷ the.Name a ∷ the.Open ∷ ts) s rest e =
    let b = bind_some (columns_at n ts) _ (s, rest) e in
    declaration_made a ts b.0.1 b.0.0 s rest (columns_sound n ts b.0.0 b.0.1 b.1) b.2
statement_sound n (the.Select ∷ ts) s rest e =
    let a = bind_some (items_at n ts) _ (s, rest) e in
    let b = bind_some (from_at a.0.1) _ (s, rest) a.2 in
    let c = bind_some (source_at n b.0) _ (s, rest) b.2 in
    let d = bind_some (publish_at c.0.1) _ (s, rest) c.2 in
    same (IsStatement (the.Select ∷ ts)) (Query a.0.0 c.0.0 d.0.0) d.0.1 s rest d.2
    (query_made ts a.0.1 b.0 c.0.1 d.0.1 a.0.0 c.0.0 d.0.0 (items_sound n ts a.0.0 a.0.1 a.1) (from_is a.0.1 b.0 b.1)
    (source_sound n b.0 c.0.0 c.0.1 c.1) (publish_is c.0.1 d.0.0 d.0.1 d.1))
statement_sound n ts s rest e = absurd cc
