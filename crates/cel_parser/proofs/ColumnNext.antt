-- One step of the readers of columns and statements.
use Rattle.std.proofs.Common.{◌≡◌, ◌∙◌, ℕ, zero, suc, ◌-◌, ◌*◌, ◌<◌, ◌≤◌, List, [], ◌∷◌, ◌++◌, refl, sym, arith, sub-one, subst, length}
use Rattle.std.specs.Prelude.{Some, None, IfOk, Result, Ok, Err}
use Rattle.cel_grammar.specs.Symbols.{Symbol}
use Rattle.cel_grammar.specs.Symbols as the
use Rattle.cel_grammar.specs.Statements.{IsStatement}
use Rattle.cel_grammar.specs.Trees.{Column, Statement}
use Rattle.cel_grammar.specs.Views.{statement_of}
use Rattle.cel_grammar.specs.declared.statement.Statement as code
use Rattle.cel_parser.specs.Columns.{columns_after, columns_behind, declaration_at, ended_at, query_at, statement_step, whole_at}
use Rattle.cel_parser.specs.ReturnsReading.{ReturnsReading}
use Rattle.cel_parser.specs.Lists.{with_front}
use Rattle.cel_parser.specs.declared.unread.Unread.{Unread}
use Rattle.cel_parser.specs.declared.unread.Unread.TheVariants as unread
use Rattle.cel_parser.proofs.ListNext.{front_more, front_none}
use Rattle.cel_parser.specs.ScalarReader.{◌>>=◌, Read}
use Rattle.cel_parser.specs.StatementReader.{column_at, columns_at, columns_more, statement_at}
use Rattle.cel_parser.proofs.ScalarSound.{bind_some}
use Rattle.cel_parser.proofs.StatementSound.{statement_sound}
use Rattle.cel_parser.proofs.StatementComplete.{statement_complete}

-- nothing stands before the columns
pub columns_alone : (n : ℕ) (ts : List Symbol) → columns_after n [] ts ≡ columns_at n ts
unfolding columns_after
columns_alone n ts = front_none (columns_at n ts)

-- what goes on behind a column
behind_same : (n : ℕ) (xs : List Column) (c : Column) (ts : List Symbol) → with_front xs (columns_more n c ts) ≡ columns_behind n (xs ++ c ∷ []) ts
unfolding columns_more columns_after columns_behind
behind_same zero xs c ts = refl
behind_same (suc n) xs c (the.Comma ∷ ts) = front_more xs c (columns_at n ts)
behind_same (suc n) xs c ts = refl

-- what goes on behind a column that is read
behind_read : (n : ℕ) (xs : List Column) (r : Read Column) → with_front xs (r >>= λ c. columns_more n c.0 c.1) ≡ (r >>= λ c. columns_behind n (xs ++ c.0 ∷ []) c.1)
behind_read n xs None = refl
behind_read n xs (Some p) = behind_same n xs p.0 p.1

-- a column, and what goes on behind it
pub columns_after_next : (n : ℕ) (xs : List Column) (ts : List Symbol) → 0 < n → columns_after n xs ts ≡ (column_at ts >>= λ c. columns_behind (n - 1) (xs ++ c.0 ∷ []) c.1)
unfolding columns_at columns_after
columns_after_next zero xs ts h = absurd (omega arith)
columns_after_next (suc n) xs ts h = rw sub-one (behind_read n xs (column_at ts))

-- no steps are left
pub columns_after_none : (n : ℕ) (xs : List Column) (ts : List Symbol) → n ≡ 0 → columns_after n xs ts ≡ None
unfolding columns_at columns_after
columns_after_none zero xs ts h = refl
columns_after_none (suc n) xs ts h = absurd (omega arith)

-- a statement by its word
statement_next : (n : ℕ) (ts : List Symbol) → statement_at n ts ≡ statement_step n ts
unfolding statement_at statement_step declaration_at query_at
statement_next n (the.Stream ∷ []) = refl
statement_next n (the.Stream ∷ the.Name a ∷ []) = refl
statement_next n (the.Stream ∷ the.Name a ∷ the.Open ∷ ts) = refl
statement_next n (the.Stream ∷ the.Name a ∷ t ∷ ts) = refl
statement_next n (the.Stream ∷ t ∷ ts) = refl
statement_next n (the.Select ∷ ts) = refl
statement_next n ts = refl

-- what ends there is what was read
ended_is : {A : Type 0} (P : A → List Symbol → Type 0) (x : A) (ts : List Symbol) (y : A) → ended_at x ts ≡ Some y → P x ts → P y []
ended_is {A} P x [] y e h =
    let same : x ≡ y = cc in
    let Q : A → Type 0 = λ z. P z [] in
    rw same at h
ended_is P x (t ∷ ts) y e h = absurd cc

-- what is read as a whole is in the grammar
whole_sound : (n : ℕ) (ts : List Symbol) (s : Statement) → whole_at n ts ≡ Some s → IsStatement ts s []
unfolding whole_at
whole_sound n ts s e =
    let b = bind_some (statement_step n ts) (λ p. ended_at p.0 p.1) s e in
    ended_is (IsStatement ts) b.0.0 b.0.1 s b.2 (statement_sound n ts b.0.0 b.0.1 (statement_next n ts ∙ b.1))

-- what is in the grammar is read as a whole
whole_complete : (n : ℕ) (ts : List Symbol) (s : Statement) → 16 * length ts ≤ n → IsStatement ts s [] → whole_at n ts ≡ Some s
unfolding whole_at
whole_complete n ts s le h =
    let e = sym (statement_next n ts) ∙ statement_complete h n (omega arith) in
    rw e refl

-- what was returned is in the grammar
pub given_found : (r : Result code.Statement Unread) (n : ℕ) (ts : List Symbol) → ReturnsReading statement_of r (whole_at n ts) → IfOk r (λ s. IsStatement ts (statement_of s) [])
given_found (Ok s) n ts h = whole_sound n ts (statement_of s) h
given_found (Err e) n ts h = tt

-- nothing is in the grammar where nothing was read
pub given_bad : (r : Result code.Statement Unread) (n : ℕ) (ts : List Symbol) → 16 * length ts ≤ n → ReturnsReading statement_of r (whole_at n ts) → r ≡ Err unread.Bad → (s : Statement) → IsStatement ts s [] → ⊥
given_bad r n ts le h e s k =
    let P : Result code.Statement Unread → Type 0 = λ q. ReturnsReading statement_of q (whole_at n ts) in
    let none : whole_at n ts ≡ None = subst P e h in
    let some = whole_complete n ts s le k in
    absurd cc
