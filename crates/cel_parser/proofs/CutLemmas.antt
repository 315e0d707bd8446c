-- Sentences one after another: what stands at a place joins the sentence there, up to its semicolon.
use Rattle.std.proofs.Common.{◌≡◌, ◌∙◌, ℕ, ℤ, pos, suc, ◌+◌, ◌<◌, ◌≤◌, false, List, [], ◌∷◌, ◌++◌, length, map, refl, sym, ap, add-one, get_or, append_assoc, append-nil, Some, None}
use Rattle.std.specs.Prelude.{Option, option_map, slice_get}
use Rattle.std.proofs.Math.Seq.{drop-cons}
use Rattle.std.proofs.lemmas.List.{drop-map, drop_all, map-append}
use Rattle.std.proofs.lemmas.Option.{get_or_from_slice_get, slice_get_within}
use Rattle.cel_lexer.specs.Listing.{Listing, spelling}
use Rattle.cel_lexer.specs.declared.token.Token.{Token}
use Rattle.cel_grammar.specs.Sentences.{Placed, Sentence, placed_of, with_symbol}
use Rattle.cel_grammar.specs.Spellings.{decimal_symbol, number_symbol, symbol_of}
use Rattle.cel_grammar.specs.Symbols as the
use Rattle.cel_parser.specs.Cutting.{ended_on, left_at}
use Rattle.cel_parser.specs.GrammarSymbols.{grammar_symbol_of}
use Rattle.cel_parser.specs.declared.symbol.Symbol.{Symbol}
use Rattle.cel_parser.specs.declared.symbol.Symbol.TheVariants as symbol

-- the sentences where these symbols, from this line on, stand before them
abbrev pub joined : ℕ → List the.Symbol → List Sentence → List Sentence
joined line symbols [] = record { line = line; symbols = symbols; ended = false } ∷ []
joined line symbols (s ∷ ss) = record { line = line; symbols = symbols ++ s.symbols; ended = s.ended } ∷ ss

-- a token's symbol in its source
abbrev pub symbol_in : Listing → Token → the.Symbol
symbol_in listing token = symbol_of token.what (spelling listing.source token)

-- the same with its line
abbrev word_of : Listing → Token → Placed
word_of listing token = record { line = token.line; symbol = symbol_in listing token }

-- no sentences are left behind the last token
pub left-none : (listing : Listing) (place : ℕ) → length listing.items ≤ place → left_at listing place ≡ []
unfolding placed_of
left-none listing place past = rw (drop-map (word_of listing) place listing.items, drop_all place listing.items past) refl

-- the token at a place joins the sentences behind it
left-token : (listing : Listing) (place : ℕ) (token : Token) → slice_get listing.items place ≡ Some token
    → left_at listing place ≡ with_symbol (symbol_in listing token) (word_of listing token) (left_at listing (place + 1))
unfolding placed_of
left-token listing place token there =
    let within = slice_get_within listing.items place token there in
    let this : get_or listing.items place token ≡ token = get_or_from_slice_get listing.items place token token there in
    let front = drop-cons listing.items place token within in
    rw (drop-map (word_of listing) place listing.items, front, this, add-one, drop-map (word_of listing) (suc place) listing.items) refl

-- what is mapped to something is there
there_is : {A B C : Type 0} (f : A → B) (o : Option A) (y : B) → option_map f o ≡ Some y → ((x : A) → o ≡ Some x → f x ≡ y → C) → C
there_is f None y e go = absurd cc
there_is f (Some x) y e go = go x refl cc

-- a symbol that joins some sentences begins the first of them
begins : (s : the.Symbol) (word : Placed) (ss : List Sentence) → with_symbol s word ss ≡ joined word.line [] (with_symbol s word ss)
begins the.End word ss = refl
begins s word [] = refl
begins s word (t ∷ ss) = refl

-- the first sentence begins with the token at its place
pub first : (listing : Listing) (place line : ℕ) → option_map (λ token. token.line) (slice_get listing.items place) ≡ Some line
    → left_at listing place ≡ joined line [] (left_at listing place)
first listing place line known =
    there_is (λ token. token.line) (slice_get listing.items place) line known (λ token there on.
    let front = left-token listing place token there in
    rw (front, ← on) (begins (symbol_in listing token) (word_of listing token) (left_at listing (place + 1))))

-- there is a token there
pub first-within : (listing : Listing) (place line : ℕ) → option_map (λ token. token.line) (slice_get listing.items place) ≡ Some line → place < length listing.items
first-within listing place line known =
    there_is (λ token. token.line) (slice_get listing.items place) line known (λ token there on. slice_get_within listing.items place token there)

-- a symbol that is no semicolon joins those before it
joins : (s : the.Symbol) (word : Placed) (line : ℕ) (symbols : List the.Symbol) (ss : List Sentence) → word.symbol ≡ s → (s ≡ the.End → ⊥)
    → joined line symbols (with_symbol s word ss) ≡ joined line (symbols ++ s ∷ []) ss
joins the.End word line symbols ss same other = absurd (other refl)
joins s word line symbols [] same other = rw same refl
joins s word line symbols (t ∷ ss) same other = rw (same, append_assoc symbols (s ∷ []) t.symbols) refl

-- no number is a semicolon
number-other : (z : ℤ) → number_symbol z ≡ the.End → ⊥
number-other (pos n) e = cc
number-other z e = cc

-- nor is a decimal
decimal-other : (scale : ℕ) (z : ℤ) → decimal_symbol scale z ≡ the.End → ⊥
decimal-other scale (pos n) e = cc
decimal-other scale z e = cc

-- the code's semicolon is the grammar's
seen-end : (s : Symbol) → grammar_symbol_of s ≡ the.End → s ≡ symbol.End
seen-end symbol.End e = refl
seen-end (symbol.Number z) e = absurd (number-other z e)
seen-end (symbol.Decimal scale z) e = absurd (decimal-other scale z e)
seen-end s e = absurd cc

module _ (listing : Listing) (at end line : ℕ) (symbols : List Symbol)
    (before : left_at listing at ≡ joined line (map grammar_symbol_of symbols) (left_at listing end)) where
  -- the symbol at the end joins the sentence
  pub more : (s : Symbol) → option_map (symbol_in listing) (slice_get listing.items end) ≡ Some (grammar_symbol_of s) → (s ≡ symbol.End → ⊥)
      → left_at listing at ≡ joined line (map grammar_symbol_of (symbols ++ s ∷ [])) (left_at listing (end + 1))
  more s here other =
      there_is (symbol_in listing) (slice_get listing.items end) (grammar_symbol_of s) here (λ token there same.
      let front = left-token listing end token there in
      let joined_on = joins (symbol_in listing token) (word_of listing token) line (map grammar_symbol_of symbols) (left_at listing (end + 1)) refl (λ e. other (seen-end s (sym same ∙ e))) in
      rw (map-append grammar_symbol_of symbols (s ∷ []), ← same) (before ∙ ap (joined line (map grammar_symbol_of symbols)) front ∙ joined_on))

  -- a semicolon there ends it
  pub ends : (s : Symbol) → option_map (symbol_in listing) (slice_get listing.items end) ≡ Some (grammar_symbol_of s) → s ≡ symbol.End
      → left_at listing at ≡ ended_on line (map grammar_symbol_of symbols) ∷ left_at listing (end + 1)
  ends s here same =
      there_is (symbol_in listing) (slice_get listing.items end) (grammar_symbol_of s) here (λ token there is.
      let front = left-token listing end token there in
      let semicolon : symbol_in listing token ≡ the.End = is ∙ ap grammar_symbol_of same in
      let ended : left_at listing at ≡ joined line (map grammar_symbol_of symbols) (with_symbol the.End (word_of listing token) (left_at listing (end + 1))) =
      before ∙ ap (joined line (map grammar_symbol_of symbols)) (front ∙ ap (λ t. with_symbol t (word_of listing token) (left_at listing (end + 1))) semicolon) in
      ended ∙ rw (append-nil (map grammar_symbol_of symbols)) refl)

  -- where no token is left, the sentence has no semicolon, and is the last
  pub lacks : length listing.items ≤ end → left_at listing at ≡ record { line = line; symbols = map grammar_symbol_of symbols; ended = false } ∷ []
  lacks past = before ∙ ap (joined line (map grammar_symbol_of symbols)) (left-none listing end past)
