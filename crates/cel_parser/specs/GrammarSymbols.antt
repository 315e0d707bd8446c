-- Symbols of the program as symbols of the grammar. No public clause cites this module.
use Rattle.cel_grammar.specs.Symbols as the
use Rattle.cel_grammar.specs.Spellings.{decimal_symbol, inside, number_symbol, undoubled}
use Rattle.cel_parser.specs.declared.symbol.Symbol.{Symbol}
use Rattle.cel_parser.specs.declared.symbol.Symbol.TheVariants as symbol

-- the symbol as the grammar has it: a literal without its quotes, each doubled quote once
abbrev pub grammar_symbol_of : Symbol → the.Symbol
grammar_symbol_of symbol.Stream = the.Stream
grammar_symbol_of symbol.Int = the.Int
grammar_symbol_of symbol.Text = the.Text
grammar_symbol_of symbol.Select = the.Select
grammar_symbol_of symbol.As = the.As
grammar_symbol_of symbol.From = the.From
grammar_symbol_of symbol.Publish = the.Publish
grammar_symbol_of symbol.Filter = the.Filter
grammar_symbol_of symbol.Next = the.Next
grammar_symbol_of symbol.Fold = the.Fold
grammar_symbol_of symbol.Union = the.Union
grammar_symbol_of symbol.And = the.And
grammar_symbol_of symbol.Or = the.Or
grammar_symbol_of symbol.Not = the.Not
grammar_symbol_of symbol.True = the.True
grammar_symbol_of symbol.Dur = the.Dur
grammar_symbol_of symbol.Min = the.Min
grammar_symbol_of symbol.Max = the.Max
grammar_symbol_of (symbol.Name a) = the.Name a.now
grammar_symbol_of (symbol.Number n) = number_symbol n
grammar_symbol_of (symbol.Quoted t) = the.Quoted (undoubled (inside t.now))
grammar_symbol_of symbol.Dollar1 = the.Dollar1
grammar_symbol_of symbol.Dollar2 = the.Dollar2
grammar_symbol_of symbol.Dollar = the.Dollar
grammar_symbol_of symbol.Open = the.Open
grammar_symbol_of symbol.Close = the.Close
grammar_symbol_of symbol.BraceOpen = the.BraceOpen
grammar_symbol_of symbol.BraceClose = the.BraceClose
grammar_symbol_of symbol.Comma = the.Comma
grammar_symbol_of symbol.End = the.End
grammar_symbol_of symbol.Dot = the.Dot
grammar_symbol_of symbol.Star = the.Star
grammar_symbol_of symbol.Plus = the.Plus
grammar_symbol_of symbol.Minus = the.Minus
grammar_symbol_of (symbol.Compare c) = the.Compare c
grammar_symbol_of (symbol.Decimal scale units) = decimal_symbol scale units
