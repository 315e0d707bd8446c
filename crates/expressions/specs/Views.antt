-- Expressions of the program as terms, without where they lie in memory.
use Rattle.semantics.specs.Expressions.{Ex, Read, Filter, Select, Union, Next, Fold}
use Rattle.expressions.specs.declared.expression.Expr.{Expr}
use Rattle.expressions.specs.declared.expression.Expr.TheVariants as expr

-- the expression as a term
abbrev pub ex_of : Expr → Ex
ex_of (expr.Read stream) = Read stream
ex_of (expr.Filter' p a e) = Filter p (ex_of e)
ex_of (expr.Select' m a e) = Select m (ex_of e)
ex_of (expr.Union' a e b f) = Union (ex_of e) (ex_of f)
ex_of (expr.Next' p a e b f) = Next p (ex_of e) (ex_of f)
ex_of (expr.Fold' p q m a e b f) = Fold p q m (ex_of e) (ex_of f)
