-- Whether the names of a file are sound, and whether its queries have an order.
use Rattle.std.specs.Prelude.{◌≡◌, ℕ, List, length}
use Rattle.cel_grammar.specs.Trees.{Statement}
use Rattle.resubscribe.specs.Cycle.{IsCycle}
use Rattle.catalogue.specs.declared.fault.QueryFault.{QueryFault}
use Rattle.catalogue.specs.First.{HaveNone, IsFirst}
use Rattle.catalogue.specs.Naming.{name_fault_at, read_fault_at}
use Rattle.catalogue.specs.Reading.{names_at, reads_in}

-- no name is reserved or taken, and each that is read is a statement's
pub record AreSound (statements : List Statement) : Type 0 where
  pub names : HaveNone (name_fault_at statements) (length statements)
  pub reads : HaveNone (read_fault_at statements) (length statements)

-- the first fault of names: of the statements' own; else of the names that they read
pub data FailInNames (statements : List Statement) (lines : List ℕ) : ℕ → QueryFault → Type 0 where
  name : {line : ℕ} {why : QueryFault} → IsFirst (name_fault_at statements) lines line why → FailInNames statements lines line why
  read : {line : ℕ} {why : QueryFault} → HaveNone (name_fault_at statements) (length statements) → IsFirst (read_fault_at statements) lines line why → FailInNames statements lines line why

-- the names are sound, but the queries have no order: these are the names of their cycle
pub record HaveCycle (statements : List Statement) (names : List (List ℕ)) : Type 0 where
  pub sound : AreSound statements
  pub cycle : List ℕ
  pub is_cycle : IsCycle (reads_in statements) cycle
  pub names_are : names ≡ names_at statements cycle
