-- The hearing of lines, one after another.
use Rattle.std.proofs.Common.{◌≡◌, ◌∙◌, sym, ap, subst, refl, ℕ, ◌==◌, ◌<◌, slice_index, Bool, true, false, cond, List, [], ◌∷◌, ◌++◌, map, Option, Some, None, Result, Ok, Err, length, slice_get, append_assoc, append-nil, arith}
use Rattle.std.specs.Prelude.{IsTrue, IsUtf8}
use Rattle.std.specs.Option.{option_or}
use Rattle.std.specs.Str.{is_utf8}
use Rattle.std.proofs.lemmas.Str.{IsUtf8-from_is_utf8}
use Rattle.std.proofs.lemmas.Bool.{le-ltb}
use Rattle.std.proofs.lemmas.List.{map-append}
use Rattle.event_types.proofs.NumberLemmas.{is_other}
use Rattle.semantics.specs.Histories.{Event}
use Rattle.stream_schema.specs.Streams.{Entry}
use Rattle.event_csv.specs.Control.{is_control}
use Rattle.event_csv.specs.Event.{event}
use Rattle.event_csv.specs.Fed.{Fed, HandsOutLines, IsLine, IsLongNext, TakesLine, fed_more, line_feeds_so_far, unread_lines}
use Rattle.event_csv.specs.Lines.{Line, is_long}
use Rattle.event_csv.specs.declared.fault.LineFault.TheVariants.{LineTooLong}
use Rattle.derivations.specs.declared.history.Heard.{Heard}
use Rattle.courses.specs.declared.refusal.Refusal.{Refusal}
use Rattle.courses.specs.declared.refusal.Refusal.TheVariants.{HasFault}
use Rattle.courses.specs.ControlLines.{EntryFault, OfLine}
use Rattle.courses.specs.EventLines.{Reading, control_here, found_here, found_of, last_after, reading_here, refusal_of, refused_from}
use Rattle.explanation.specs.declared.fault.HearFault.{HearFault}
use Rattle.explanation.specs.declared.fault.HearFault.TheVariants as fault
use Rattle.explanation.specs.Hearing.{AddsFound, FailsBy, HearsRest, HearsSome, last_at, refusal_behind, refused_behind, refused_left}
use Rattle.explanation.specs.HeardLines.{numbered_at, numbered_events}
use Rattle.explanation.proofs.HeardLemmas.{numbered_on, refused_on}

-- a feed that is given nothing more
pub same_left : (fed : Fed) (ended : Bool) → unread_lines (fed_more fed []) ended ≡ unread_lines fed ended
same_left fed ended = ap (λ r. unread_lines (record fed { rest = r }) ended) (append-nil fed.rest)

-- lines that were handed out come first
pub gives_now : (given : List Line) (old new : Fed) (ended : Bool) → HandsOutLines given old new → unread_lines old ended ≡ given ++ unread_lines new ended
gives_now given old new ended gives = sym (same_left old ended) ∙ gives [] ended ∙ ap (λ l. given ++ l) (same_left new ended)

-- a fault by a refusal is one by an equal one
pub fails_same : (o p : Option Refusal) (why : HearFault) → o ≡ p → FailsBy p why → FailsBy o why
fails_same o p why e fails = subst (λ q. FailsBy q why) (sym e) fails

-- the first line's refusal is that of all
pub fails_first : (o p : Option Refusal) (why : HearFault) → FailsBy o why → FailsBy (option_or o p) why
fails_first o p (fault.Refused refusal) e = ap (λ q. option_or q p) e
fails_first o p fault.Memory e = tt
fails_first o p (fault.TooMuch limit) e = e

-- want of memory is a fault whatever is refused
pub fails_memory : (o : Option Refusal) (why : HearFault) → why ≡ fault.Memory → FailsBy o why
fails_memory o why is = subst (FailsBy o) (sym is) tt

option_or-none : (o : Option Refusal) → o ≡ None → option_or o None ≡ None
option_or-none o e = ap (λ p. option_or p None) e

module _ (streams : List Entry) where
  abbrev readings : List Line → List Reading
  readings lines = map (reading_here streams) lines

  -- no line was taken
  pub hears_none : (feed left : Fed) (history : List Heard) → HandsOutLines [] feed left → line_feeds_so_far left ≡ line_feeds_so_far feed → HearsSome streams [] feed left history history
  hears_none feed left history gives feeds = record { gives = gives; feeds = feeds; none_refused = refl; adds = sym (append-nil history) }

  -- one line was
  pub hears_one : (number : ℕ) (bytes : List ℕ) (feed left : Fed) (old new : List Heard) → TakesLine (record { number = number; bytes = bytes }) feed left → line_feeds_so_far left ≡ line_feeds_so_far feed
      → AddsFound number (found_here streams bytes) old new → HearsSome streams (record { number = number; bytes = bytes } ∷ []) feed left old new
  hears_one number bytes feed left old new takes feeds adds = record {
    gives = takes.given;
    feeds = feeds;
    none_refused = option_or-none (refusal_behind old number (found_here streams bytes)) adds.none_refused;
    adds = adds.adds ∙ ap (λ more. old ++ more) (sym (append-nil (numbered_at number (found_here streams bytes))));
  }

  -- lines one after another
  pub hears_on : {first later : List Line} {feed mid left : Fed} {old now new : List Heard} → HearsSome streams first feed mid old now → HearsSome streams later mid left now new → HearsSome streams (first ++ later) feed left old new
  hears_on {first} {later} {feed} {mid} {left} {old} {now} {new} one two = record {
    gives = λ more ended. one.gives more ended ∙ ap (λ ls. first ++ ls) (two.gives more ended) ∙ sym (append_assoc first later (unread_lines (fed_more left more) ended));
    feeds = two.feeds ∙ one.feeds;
    none_refused = ap (refused_behind old) (map-append (reading_here streams) first later) ∙ refused_on old (readings first) (readings later) one.none_refused
        ∙ ap (λ h. refused_behind h (readings later)) (sym one.adds) ∙ two.none_refused;
    adds = two.adds ∙ ap (λ h. h ++ numbered_events (readings later)) one.adds ∙ append_assoc old (numbered_events (readings first)) (numbered_events (readings later))
        ∙ ap (λ more. old ++ more) (sym (numbered_on (readings first) (readings later)) ∙ ap numbered_events (sym (map-append (reading_here streams) first later)));
  }

  -- what is left is refused as behind the lines before
  pub refused_then : {lines : List Line} {feed left : Fed} {old new : List Heard} (ended : Bool) → HearsSome streams lines feed left old new → refused_left streams feed ended old ≡ refused_left streams left ended new
  refused_then {lines} {feed} {left} {old} {new} ended some =
      ap (λ ls. refused_behind old (readings ls)) (gives_now lines feed left ended some.gives) ∙ ap (refused_behind old) (map-append (reading_here streams) lines (unread_lines left ended))
      ∙ refused_on old (readings lines) (readings (unread_lines left ended)) some.none_refused ∙ ap (λ h. refused_behind h (readings (unread_lines left ended))) (sym some.adds)

  -- a line that comes next is refused
  pub fails_next : (line : Line) (rest : List Line) (feed : Fed) (ended : Bool) (history : List Heard) (why : HearFault) → unread_lines feed ended ≡ line ∷ rest
      → FailsBy (refusal_behind history line.number (found_here streams line.bytes)) why → FailsBy (refused_left streams feed ended history) why
  fails_next line rest feed ended history why left fails =
      fails_same (refused_left streams feed ended history) (refused_behind history (readings (line ∷ rest))) why (ap (λ ls. refused_behind history (readings ls)) left)
      (fails_first (refusal_behind history line.number (found_here streams line.bytes)) (refused_from (last_after (found_here streams line.bytes)) (readings rest)) why fails)

  -- a line that is taken and refused
  pub fails_taken : (number : ℕ) (bytes : List ℕ) (feed left : Fed) (history : List Heard) (why : HearFault) → TakesLine (record { number = number; bytes = bytes }) feed left
      → FailsBy (refusal_behind history number (found_here streams bytes)) why → FailsBy (refused_left streams feed false history) why
  fails_taken number bytes feed left history why takes fails =
      fails_next (record { number = number; bytes = bytes }) (unread_lines left false) feed false history why (gives_now (record { number = number; bytes = bytes } ∷ []) feed left false takes.given) fails

  -- the head of a list that begins so
  first_is : (xs : List Line) (x : Line) → slice_get xs 0 ≡ Some x → (rest : List Line) × (xs ≡ x ∷ rest)
  first_is [] x e = cc
  first_is (y ∷ ys) x e = let same : y ≡ x = cc in (ys, ap (λ z. z ∷ ys) same)

  -- a line that is too long
  pub fails_long : (number : ℕ) (feed left : Fed) (history : List Heard) → HandsOutLines [] feed left → IsLongNext number left → FailsBy (refused_left streams feed false history) (fault.Refused (HasFault number LineTooLong))
  fails_long number feed left history gives long =
      let line : Line = record { number = number; bytes = long.bytes } in
      let first = first_is (unread_lines left false) line (ap (λ l. slice_get l 0) (sym (same_left left false)) ∙ long.next [] false) in
      let says : found_here streams long.bytes ≡ Err (OfLine LineTooLong) =
      ap (λ b. cond b (Err (OfLine LineTooLong)) (cond (is_control long.bytes) (control_here long.bytes) (found_of (event streams long.bytes)))) long.long in
      fails_next line first.0 feed false history (fault.Refused (HasFault number LineTooLong)) (gives_now [] feed left false gives ∙ first.1) (ap (λ (found : Result Event EntryFault). refusal_behind history number found) says)

  -- the last line was heard
  pub rest_heard : (number : ℕ) (bytes : List ℕ) (feed : Fed) (old new : List Heard) → unread_lines feed true ≡ record { number = number; bytes = bytes } ∷ []
      → AddsFound number (found_here streams bytes) old new → HearsRest streams feed old new
  rest_heard number bytes feed old new left adds = record {
    none_refused = ap (λ ls. refused_behind old (readings ls)) left ∙ option_or-none (refusal_behind old number (found_here streams bytes)) adds.none_refused;
    adds = adds.adds ∙ ap (λ more. old ++ more) (sym (append-nil (numbered_at number (found_here streams bytes)))) ∙ ap (λ ls. old ++ numbered_events (readings ls)) (sym left);
  }

  -- no line was left
  pub rest_none : (feed : Fed) (history : List Heard) → unread_lines feed true ≡ [] → HearsRest streams feed history history
  rest_none feed history left = record {
    none_refused = ap (λ ls. refused_behind history (readings ls)) left;
    adds = sym (append-nil history) ∙ ap (λ ls. history ++ numbered_events (readings ls)) (sym left);
  }

  -- a control line says that it isn't taken, or that it isn't UTF-8
  pub control_found : (bytes : List ℕ) → IsLine bytes → IsTrue (is_control bytes) → found_here streams bytes ≡ control_here bytes
  control_found bytes line begins =
      let short : is_long bytes ≡ false = le-ltb _ _ line.short in
      ap (λ b. cond b (Err (OfLine LineTooLong)) (cond (is_control bytes) (control_here bytes) (found_of (event streams bytes)))) short
      ∙ ap (λ b. cond b (control_here bytes) (found_of (event streams bytes))) begins

  -- any other line says what it says as an event line
  pub event_found : (bytes : List ℕ) → IsLine bytes → is_control bytes ≡ false → found_here streams bytes ≡ found_of (event streams bytes)
  event_found bytes line plain =
      let short : is_long bytes ≡ false = le-ltb _ _ line.short in
      ap (λ b. cond b (Err (OfLine LineTooLong)) (cond (is_control bytes) (control_here bytes) (found_of (event streams bytes)))) short
      ∙ ap (λ b. cond b (control_here bytes) (found_of (event streams bytes))) plain

-- a line that begins with > is a control line
pub begins_control : (bytes : List ℕ) → IsLine bytes → slice_index bytes 0 ≡ 62 → IsTrue (is_control bytes)
begins_control [] line e = absurd (let some = line.nonempty in omega (arith, some))
begins_control (byte ∷ rest) line e = ap (λ b. b == 62) e

-- and no other one is
pub begins_plain : (bytes : List ℕ) → IsLine bytes → (slice_index bytes 0 ≡ 62 → ⊥) → is_control bytes ≡ false
begins_plain [] line other = refl
begins_plain (byte ∷ rest) line other = is_other byte 62 other

-- bytes that are no text
pub not_utf8 : (bytes : List ℕ) → (IsUtf8 bytes → ⊥) → is_utf8 bytes ≡ false
not_utf8 bytes other = by_test (is_utf8 bytes) refl
  where
    by_test : (b : Bool) → is_utf8 bytes ≡ b → b ≡ false
    by_test true e = absurd (other (IsUtf8-from_is_utf8 bytes e))
    by_test false e = refl
