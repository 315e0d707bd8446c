-- What the first passes tell is settled.
use Rattle.std.proofs.Common.{◌≡◌, ◌∙◌, ℕ, ◌<◌, ◌≤◌, List, length, refl, sym, ap, subst, inl, inr, arith}
use Rattle.std.specs.Prelude.{Option, Some, None, slice_get}
use Rattle.std.proofs.lemmas.Bool.{cases_lt}
use Rattle.cel_lexer.specs.declared.fault.LexFault.{LexFault}
use Rattle.cel_parser.specs.declared.fault.SyntaxFault.{SyntaxFault}
use Rattle.cel_parser.proofs.FaultLemmas.{not-both, one-reading, one-refusal}
use Rattle.resubscribe.proofs.CycleLemmas.{not_both, one_cycle}
use Rattle.catalogue.specs.declared.fault.QueryFault.{QueryFault}
use Rattle.catalogue.specs.Arranging.{name, read}
use Rattle.catalogue.specs.Faults.{IsOfSyntax, IsOfTokens, not_utf8, bad_token, number, many, deep, bad}
use Rattle.catalogue.specs.Filing.{long, tokens, syntax}
use Rattle.catalogue.specs.First.{HaveNone, IsFirst}
use Rattle.catalogue.specs.Laws.{FileOrFault, OneCycleOfNames, OneFile, OneFileFault, OneNameFault, OrderOrCycle, SameFault, SoundOrFault}
use Rattle.catalogue.specs.Naming.{name_fault_at, read_fault_at}
use Rattle.catalogue.specs.Reading.{names_at, reads_in}
use Rattle.catalogue.proofs.PlaceLemmas.{slice_get-within}

-- a place with a fault isn't before the first one
not_before : (f : ℕ → Option QueryFault) (p q : ℕ) (why : QueryFault) → HaveNone f q → f p ≡ Some why → q ≤ p
not_before f p q why none has = elim (cases_lt p q) [ inl early ↦ let e : f p ≡ None = none p early in absurd cc | inr late ↦ late ]

-- the first fault is one
first_same : (f : ℕ → Option QueryFault) (lines : List ℕ) (line other_line : ℕ) (why other : QueryFault) → IsFirst f lines line why → IsFirst f lines other_line other → SameFault line other_line why other
first_same f lines line other_line why other h k =
    let le : h.place ≤ k.place = not_before f k.place h.place other h.none_before k.has in
    let ge : k.place ≤ h.place = not_before f h.place k.place why k.none_before h.has in
    let same : h.place ≡ k.place = omega arith in
    let on_line : slice_get lines k.place ≡ Some line = ap (slice_get lines) (sym same) ∙ h.on_line in
    let has : f k.place ≡ Some why = ap f (sym same) ∙ h.has in
    let other_on_line : slice_get lines k.place ≡ Some other_line = k.on_line in
    let other_has : f k.place ≡ Some other = k.has in
    record { lines = cc; faults = cc }

-- there is none where no place has one
first_none : (f : ℕ → Option QueryFault) (lines : List ℕ) (n line : ℕ) (why : QueryFault) → length lines ≡ n → HaveNone f n → IsFirst f lines line why → ⊥
first_none f lines n line why lengths none first =
    let within : first.place < length lines = slice_get-within lines first.place line first.on_line in
    let e : f first.place ≡ None = none first.place (omega arith) in
    let has : f first.place ≡ Some why = first.has in
    cc

-- a file has at most one first fault of a name
pub one_name_fault : OneNameFault
one_name_fault ss lines line other_line why other lengths (name h) (name k) = first_same (name_fault_at ss) lines line other_line why other h k
one_name_fault ss lines line other_line why other lengths (name h) (read none k) = absurd (first_none (name_fault_at ss) lines (length ss) line why lengths none h)
one_name_fault ss lines line other_line why other lengths (read none h) (name k) = absurd (first_none (name_fault_at ss) lines (length ss) other_line other lengths none k)
one_name_fault ss lines line other_line why other lengths (read none h) (read none' k) = first_same (read_fault_at ss) lines line other_line why other h k

-- its names are sound or have a fault
pub sound_or_fault : SoundOrFault
sound_or_fault ss lines line why lengths sound (name h) = first_none (name_fault_at ss) lines (length ss) line why lengths sound.names h
sound_or_fault ss lines line why lengths sound (read none h) = first_none (read_fault_at ss) lines (length ss) line why lengths sound.reads h

-- queries have at most one cycle of names
pub one_cycle_of_names : OneCycleOfNames
one_cycle_of_names ss names others h k = h.names_are ∙ ap (names_at ss) (one_cycle (reads_in ss) h.cycle k.cycle h.is_cycle k.is_cycle) ∙ sym k.names_are

-- they have an order or a cycle
pub order_or_cycle : OrderOrCycle
order_or_cycle ss order names is_order h = not_both (reads_in ss) order h.cycle is_order h.is_cycle

-- a text is at most one file
pub one_file : OneFile
one_file text ss others lines other_lines h k = let same = one-reading text ss others lines other_lines h.reads k.reads in record { statements_are = same.statements; lines_are = same.lines }

-- a fault of tokens is one fault of the text
pub tokens_same : {f : LexFault} {line other_line : ℕ} {why other : QueryFault} → IsOfTokens f line why → IsOfTokens f other_line other → SameFault line other_line why other
tokens_same not_utf8 not_utf8 = record { lines = refl; faults = refl }
tokens_same bad_token bad_token = record { lines = refl; faults = refl }
tokens_same number number = record { lines = refl; faults = refl }

-- a fault of statements is one fault of the text
pub syntax_same : {f : SyntaxFault} {line other_line : ℕ} {why other : QueryFault} → IsOfSyntax f line why → IsOfSyntax f other_line other → SameFault line other_line why other
syntax_same many many = record { lines = refl; faults = refl }
syntax_same deep deep = record { lines = refl; faults = refl }
syntax_same bad bad = record { lines = refl; faults = refl }

-- a text has at most one first fault of its form
pub one_file_fault : OneFileFault
one_file_fault text line other_line why other (long h) (long k) = record { lines = refl; faults = refl }
one_file_fault text line other_line why other (long h) (tokens short e o) = absurd (omega arith)
one_file_fault text line other_line why other (long h) (syntax short r o) = absurd (omega arith)
one_file_fault text line other_line why other (tokens short e o) (long k) = absurd (omega arith)
one_file_fault text line other_line why other (syntax short r o) (long k) = absurd (omega arith)
one_file_fault text line other_line why other (tokens {f = f} short e o) (tokens {f = g} short' e' o') =
    let same : f ≡ g = cc in tokens_same o (subst (λ (x : LexFault). IsOfTokens x other_line other) (sym same) o')
one_file_fault text line other_line why other (syntax {f = f} short r o) (syntax {f = g} short' r' o') =
    syntax_same o (subst (λ (x : SyntaxFault). IsOfSyntax x other_line other) (sym (one-refusal text f g r r')) o')
one_file_fault text line other_line why other (tokens short e o) (syntax short' r o') = let e' = r.all in absurd cc
one_file_fault text line other_line why other (syntax short r o) (tokens short' e o') = let e' = r.all in absurd cc

-- a text is a file or has such a fault
pub file_or_fault : FileOrFault
file_or_fault text ss lines line why h (long k) = let short = h.short in omega arith
file_or_fault text ss lines line why h (tokens short e o) = let e' = h.reads.all in cc
file_or_fault text ss lines line why h (syntax {f = f} short r o) = not-both text ss lines f h.reads r
