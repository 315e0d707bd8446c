-- The faults of the layers as those of an added query, by computing. Want of memory is a fault of calls alone: what a text is read as and typed as gives no such fault, so no text comes to the lines for it.
use Rattle.cel_lexer.specs.declared.fault.LexFault.{LexFault}
use Rattle.cel_lexer.specs.declared.fault.LexFault.TheVariants as lex
use Rattle.cel_parser.specs.declared.fault.SyntaxFault.{SyntaxFault}
use Rattle.cel_parser.specs.declared.fault.SyntaxFault.TheVariants as syntax
use Rattle.cel_types.specs.declared.fault.TypeFault.{TypeFault}
use Rattle.cel_types.specs.declared.fault.TypeFault.TheVariants as type
use Rattle.catalogue.specs.declared.fault.QueryFault.{QueryFault}
use Rattle.catalogue.specs.declared.fault.QueryFault.TheVariants as query
use Rattle.catalogue.specs.Adding.{AddedVerdict, NotTaken}

-- how a fault of the tokens is told, with its line
abbrev pub tokens_refused : LexFault → AddedVerdict
tokens_refused (lex.NotUtf8 line) = NotTaken line query.NotUtf8
tokens_refused (lex.BadToken line) = NotTaken line query.BadToken
tokens_refused (lex.NumberPast128 line) = NotTaken line query.NumberPast128
tokens_refused lex.Memory = NotTaken 1 query.TooLong

-- how a fault of the statements is told, with its line
abbrev pub sentences_refused : SyntaxFault → AddedVerdict
sentences_refused (syntax.TooManyTokens number line) = NotTaken line (query.TooManyTokens number)
sentences_refused (syntax.TooDeep number line) = NotTaken line (query.TooDeep number)
sentences_refused (syntax.BadStatement number line) = NotTaken line (query.BadStatement number)
sentences_refused syntax.Memory = NotTaken 1 query.TooLong

-- how a fault of the types is told
abbrev pub type_told : TypeFault → QueryFault
type_told (type.UnknownAttr name) = query.UnknownAttr name
type_told (type.KindMismatch want got) = query.KindMismatch want got
type_told (type.NotAssignable name) = query.NotAssignable name
type_told (type.DuplicateAttr name) = query.DuplicateAttr name
type_told (type.UnionMismatch place) = query.UnionMismatch place
type_told (type.TooWide count) = query.TooWide count
type_told (type.TooFine places) = query.TooFine places
type_told type.Memory = query.TooLong
