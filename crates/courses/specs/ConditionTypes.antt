-- The term of a condition, or its first fault, by computing.
use Rattle.std.specs.Prelude.{Result, Ok, Err, if◌then◌else◌}
use Rattle.event_types.specs.declared.comparison.Cmp.{Cmp}
use Rattle.semantics.specs.Scalars.{Pr}
use Rattle.semantics.specs.Scalars as term
use Rattle.cel_grammar.specs.Trees.{Pred}
use Rattle.cel_grammar.specs.Trees as tree
use Rattle.cel_types.specs.declared.fault.TypeFault.{TypeFault}
use Rattle.cel_types.specs.declared.fault.TypeFault.TheVariants.{KindMismatch}
use Rattle.cel_types.specs.Scopes.{Scope, Typed}
use Rattle.cel_types.specs.Unions.{is_kind}
use Rattle.courses.specs.FirstFault.{◌>>=◌}
use Rattle.courses.specs.ScalarTypes.{scalar_type}

-- a comparison of two scalars, which are of one kind
abbrev pub test_type : Cmp → Typed → Typed → Result Pr TypeFault
test_type c x y = if is_kind x.kind y.kind then Ok (term.Test x.term c y.term) else Err (KindMismatch x.kind y.kind)

-- the term of a condition, whose faults come from left to right
abbrev pub condition_type : Scope → Pred → Result Pr TypeFault
condition_type scope tree.True = Ok term.True
condition_type scope (tree.Test x c y) = scalar_type scope x >>= λ s. scalar_type scope y >>= λ t. test_type c s t
condition_type scope (tree.And p q) = condition_type scope p >>= λ u. condition_type scope q >>= λ v. Ok (term.And u v)
condition_type scope (tree.Or p q) = condition_type scope p >>= λ u. condition_type scope q >>= λ v. Ok (term.Or u v)
condition_type scope (tree.Not p) = condition_type scope p >>= λ u. Ok (term.Not u)
