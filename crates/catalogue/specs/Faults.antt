-- The faults of the layers as faults of a query text. Want of memory is none.
use Rattle.std.specs.Prelude.{ℕ, List}
use Rattle.event_types.specs.declared.kind.Kind.{Kind}
use Rattle.cel_lexer.specs.declared.fault.LexFault.{LexFault}
use Rattle.cel_lexer.specs.declared.fault.LexFault.TheVariants as lex
use Rattle.cel_parser.specs.declared.fault.SyntaxFault.{SyntaxFault}
use Rattle.cel_parser.specs.declared.fault.SyntaxFault.TheVariants as syntax
use Rattle.cel_types.specs.declared.fault.TypeFault.{TypeFault}
use Rattle.cel_types.specs.declared.fault.TypeFault.TheVariants as type
use Rattle.catalogue.specs.declared.fault.QueryFault.{QueryFault}
use Rattle.catalogue.specs.declared.fault.QueryFault.TheVariants as query

-- a fault of tokens, with its line
pub data IsOfTokens : LexFault → ℕ → QueryFault → Type 0 where
  not_utf8 : {line : ℕ} → IsOfTokens (lex.NotUtf8 line) line query.NotUtf8
  bad_token : {line : ℕ} → IsOfTokens (lex.BadToken line) line query.BadToken
  number : {line : ℕ} → IsOfTokens (lex.NumberPast128 line) line query.NumberPast128

-- a fault of statements, with its line
pub data IsOfSyntax : SyntaxFault → ℕ → QueryFault → Type 0 where
  many : {n line : ℕ} → IsOfSyntax (syntax.TooManyTokens n line) line (query.TooManyTokens n)
  deep : {n line : ℕ} → IsOfSyntax (syntax.TooDeep n line) line (query.TooDeep n)
  bad : {n line : ℕ} → IsOfSyntax (syntax.BadStatement n line) line (query.BadStatement n)

-- a fault of types
pub data IsOfTypes : TypeFault → QueryFault → Type 0 where
  unknown : {name : List ℕ} → IsOfTypes (type.UnknownAttr name) (query.UnknownAttr name)
  kinds : {want got : Kind} → IsOfTypes (type.KindMismatch want got) (query.KindMismatch want got)
  absent : {name : List ℕ} → IsOfTypes (type.NotAssignable name) (query.NotAssignable name)
  twice : {name : List ℕ} → IsOfTypes (type.DuplicateAttr name) (query.DuplicateAttr name)
  union : {place : ℕ} → IsOfTypes (type.UnionMismatch place) (query.UnionMismatch place)
  wide : {count : ℕ} → IsOfTypes (type.TooWide count) (query.TooWide count)
  fine : {places : ℕ} → IsOfTypes (type.TooFine places) (query.TooFine places)
