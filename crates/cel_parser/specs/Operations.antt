-- Operations of the program as operations of the grammar. No public clause cites this module.
use Rattle.cel_grammar.specs.Trees.{Op, Add, Sub, Mul, Min, Max}
use Rattle.cel_parser.specs.declared.scalars.Operation.{Operation}
use Rattle.cel_parser.specs.declared.scalars.Operation.TheVariants as operation

-- the operation as the grammar has it
abbrev pub op_of : Operation → Op
op_of operation.Add = Add
op_of operation.Sub = Sub
op_of operation.Mul = Mul
op_of operation.Min = Min
op_of operation.Max = Max
