-- How the command walks over words that begin with no hyphen.
use Rattle.std.proofs.Common.{◌≡◌, ◌∙◌, ℕ, Bool, true, false, not, List, [], ◌∷◌, Option, Some, None, cond, ap, ap₂, sym, refl, inl, inr, ◌==◌}
use Rattle.std.specs.Option.{option_map_or}
use Rattle.std.specs.Str.{bytes_eq}
use Rattle.std.proofs.lemmas.Bool.{cases_Bool, false_from_ne_true}
use Rattle.std.proofs.lemmas.Slice.Eq.{bytes_eq-Decides}
use Rattle.std.specs.Prelude.{option_and_then}
use Rattle.clap.specs.Faults.{bundle_fault, flag_word_fault, step_fault, turn_fault, word_fault}
use Rattle.clap.specs.Kinds.{Kinds, or_else}
use Rattle.clap.specs.Lexer.{long_of, long_of_rest, short_of, short_of_rest, strip_byte}
use Rattle.clap.specs.Simple.{Shape}
use Rattle.clap.specs.Walk.{Held, Rule, Step, Text, Waiting, Walk, after_step, arg_by_index, idle, long_or_other, positional, short_or_plain, to_positional, trailing, value, walked, word_met}
use Rattle.command_line.specs.Plain.{is_plain}

-- `--`
abbrev dashes : Text
dashes = 45 ∷ 45 ∷ []

module _ (word : Text) (plain : is_plain word ≡ true) where
  not_dashes : bytes_eq word dashes ≡ false
  not_dashes = false_from_ne_true (bytes_eq word dashes) (λ same. let bad : true ≡ false = sym plain ∙ ap is_plain ((bytes_eq-Decides word dashes).0 same) in absurd cc)

stripped : (word : Text) → is_plain word ≡ true → strip_byte 45 word ≡ None
stripped [] plain = refl
stripped (byte ∷ bytes) plain = elim (cases_Bool (byte == 45)) [
  | inl hit ↦ let bad : true ≡ false = sym plain ∙ ap not hit in absurd cc
  | inr miss ↦ ap (λ (b : Bool). cond b (Some bytes) None) miss
]

not_long : (word : Text) → is_plain word ≡ true → long_of word ≡ None
not_long word plain = ap (λ (rest : Option Text). option_and_then long_of_rest (option_and_then (strip_byte 45) rest)) (stripped word plain)

not_short : (word : Text) → is_plain word ≡ true → short_of word ≡ None
not_short word plain = ap (λ (rest : Option Text). option_and_then short_of_rest rest) (stripped word plain)

-- nothing waits for a value but a positional
abbrev pub is_ready : Waiting → Bool
is_ready idle = true
is_ready positional = true
is_ready waiting = false

-- the word is a value of a positional
met-plain : (c : List Rule) (waiting : Waiting) (position : ℕ) (word : Text) (h : Held) → is_ready waiting ≡ true → is_plain word ≡ true → word_met c [] false waiting position word h ≡ (h, value)
met-plain c idle position word h ready plain =
    ap (λ (b : Bool). cond b (h, trailing position) (long_or_other c idle word (long_of word) h)) (not_dashes word plain)
    ∙ ap (λ (l : Option (Text × Option Text)). long_or_other c idle word l h) (not_long word plain)
    ∙ ap (λ (s : Option Text). short_or_plain c idle word s h) (not_short word plain)
met-plain c positional position word h ready plain =
    ap (λ (b : Bool). cond b (h, trailing position) (long_or_other c positional word (long_of word) h)) (not_dashes word plain)
    ∙ ap (λ (l : Option (Text × Option Text)). long_or_other c positional word l h) (not_long word plain)
    ∙ ap (λ (s : Option Text). short_or_plain c positional word s h) (not_short word plain)
met-plain c waiting position word h ready plain = absurd cc

-- between two words, with nothing behind `--`
abbrev pub standing : Held → Waiting → ℕ → Walk
standing h waiting position = record { held = h; waiting = waiting; position = position; is_trailing = false; stopped = None }

-- the walk hands the word to the positional of its position
pub walked-plain : (c : List Rule) (h : Held) (waiting : Waiting) (position : ℕ) (word : Text) → is_ready waiting ≡ true → is_plain word ≡ true
    → walked c [] (standing h waiting position) word ≡ to_positional c (arg_by_index c position) word (standing h waiting position) h
unfolding walked
walked-plain c h waiting position word ready plain =
    ap (λ (m : Held × Step). after_step c word (standing h waiting position) m.0 m.1) (met-plain c waiting position word h ready plain)

-- the word is no fault by itself
word_fault-plain : (s : Shape) (waiting : Waiting) (word : Text) (h : Held) → is_ready waiting ≡ true → is_plain word ≡ true → word_fault s [] false waiting word h ≡ []
word_fault-plain s idle word h ready plain =
    ap (λ (b : Bool). cond b [] (flag_word_fault s.rules s.args_override_self (long_of word) word h)) (not_dashes word plain)
    ∙ ap (λ (l : Option (Text × Option Text)). flag_word_fault s.rules s.args_override_self l word h) (not_long word plain)
    ∙ ap (λ (t : Option Text). option_map_or (λ flags. bundle_fault s.rules s.args_override_self flags h) t []) (not_short word plain)
word_fault-plain s positional word h ready plain =
    ap (λ (b : Bool). cond b [] (flag_word_fault s.rules s.args_override_self (long_of word) word h)) (not_dashes word plain)
    ∙ ap (λ (l : Option (Text × Option Text)). flag_word_fault s.rules s.args_override_self l word h) (not_long word plain)
    ∙ ap (λ (t : Option Text). option_map_or (λ flags. bundle_fault s.rules s.args_override_self flags h) t []) (not_short word plain)
word_fault-plain s waiting word h ready plain = absurd cc

-- it fails as its positional does
pub turn_fault-plain : (s : Shape) (h : Held) (waiting : Waiting) (position : ℕ) (word : Text) → is_ready waiting ≡ true → is_plain word ≡ true
    → turn_fault s [] (standing h waiting position) word ≡ step_fault s position h value
turn_fault-plain s h waiting position word ready plain =
    ap₂ (λ (k : Kinds) (m : Held × Step). or_else k (step_fault s position m.0 m.1)) (word_fault-plain s waiting word h ready plain) (met-plain s.rules waiting position word h ready plain)
