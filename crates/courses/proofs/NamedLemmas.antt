-- The query of a name, and the first reader of a stream, by the numbers of a catalogue's queries.
use Rattle.std.proofs.Common.{◌≡◌, ◌≢◌, ◌∙◌, sym, ap, refl, subst, ℕ, zero, suc, ◌+◌, ◌<◌, ◌≤◌, Bool, true, false, cond, length, List, map, Some, None, inl, inr, arith}
use Rattle.std.specs.List.{find, range_with_len}
use Rattle.std.specs.Str.{bytes_eq}
use Rattle.std.proofs.lemmas.Bool.{cases_Bool, cases_eq}
use Rattle.std.proofs.lemmas.Slice.Eq.{bytes_eq-Decides}
use Rattle.semantics.specs.Programs.{Query}
use Rattle.catalogue.specs.Catalogued.{Catalogued, query_in}
use Rattle.catalogue.specs.Counting.{reads}
use Rattle.catalogue.specs.Leaving.{HasName, HasNoQuery, IsFirstReader, LeavesUnread}
use Rattle.catalogue.proofs.CountedLemmas.{not_read, unread}
use Rattle.courses.specs.ControlLines.{first_reader, query_named}
use Rattle.courses.specs.QuerySet.{set_in}

-- the first number whose value passes, by induction on how many numbers there are
find_number : {X : Type 0} (test : X → Bool) (f : ℕ → X) (first many number : ℕ) → first ≤ number → number < first + many → test (f number) ≡ true → ((earlier : ℕ) → first ≤ earlier → earlier < number → test (f earlier) ≡ false)
    → find test (map f (range_with_len first many)) ≡ Some (f number)
find_number test f first zero number low high passes before = absurd (omega (arith, low, high))
find_number test f first (suc many) number low high passes before = elim (cases_eq number first) [
  | inl here ↦ ap (λ b. cond b (Some (f first)) (find test (map f (range_with_len (first + 1) many)))) (subst (λ n. test (f n) ≡ true) here passes) ∙ ap (λ n. Some (f n)) (sym here)
  | inr other ↦
      ap (λ b. cond b (Some (f first)) (find test (map f (range_with_len (first + 1) many)))) (before first (omega arith) (omega (arith, low, other)))
      ∙ find_number test f (first + 1) many number (omega (arith, low, other)) (omega (arith, high)) passes (λ earlier up less. before earlier (omega (arith, up)) less)
]

-- no number's value passes
find_no_number : {X : Type 0} (test : X → Bool) (f : ℕ → X) (first many : ℕ) → ((number : ℕ) → first ≤ number → number < first + many → test (f number) ≡ false) → find test (map f (range_with_len first many)) ≡ None
find_no_number test f first zero none = refl
find_no_number test f first (suc many) none =
    ap (λ b. cond b (Some (f first)) (find test (map f (range_with_len (first + 1) many)))) (none first (omega arith) (omega arith))
    ∙ find_no_number test f (first + 1) many (λ number low high. none number (omega (arith, low)) (omega (arith, high)))

-- names that differ aren't equal byte by byte
differ : (name other : List ℕ) → name ≢ other → bytes_eq name other ≡ false
differ name other apart = elim (cases_Bool (bytes_eq name other)) [
  | inl same ↦ absurd (apart ((bytes_eq-Decides name other).0 same))
  | inr different ↦ different
]

module _ (c : Catalogued) where
  -- the first query of a name is the query of the name
  pub named_first : (name : List ℕ) (number : ℕ) → HasName c name number → ((earlier : ℕ) → earlier < number → (query_in c earlier).name ≢ name) → query_named (set_in c) name ≡ Some (query_in c number)
  named_first name number has before =
      find_number (λ (query : Query). bytes_eq query.name name) (query_in c) 0 (length c.order) number (omega arith) (omega (arith, has.within))
      ((bytes_eq-Decides (query_in c number).name name).1 has.name_is) (λ earlier low less. differ (query_in c earlier).name name (before earlier less))

  -- where no query has the name there is none
  pub named_none : (name : List ℕ) → HasNoQuery c name → query_named (set_in c) name ≡ None
  named_none name none = find_no_number (λ (query : Query). bytes_eq query.name name) (query_in c) 0 (length c.order) (λ number low high. differ (query_in c number).name name (none number (omega (arith, high))))

  -- a query that isn't left unread reads
  does_read : (stream number : ℕ) → (LeavesUnread c stream number → ⊥) → reads stream (query_in c number).expr ≡ true
  does_read stream number read = elim (cases_Bool (reads stream (query_in c number).expr)) [
    | inl does ↦ does
    | inr leaves ↦ absurd (read (unread stream (query_in c number).expr leaves))
  ]

  -- the first reader of a stream
  pub reader_first : (stream number : ℕ) → IsFirstReader c stream number → first_reader (set_in c) stream ≡ Some (query_in c number)
  reader_first stream number is =
      find_number (λ (query : Query). reads stream query.expr) (query_in c) 0 (length c.order) number (omega arith) (omega (arith, is.within))
      (does_read stream number is.reads) (λ earlier low less. not_read stream (query_in c earlier).expr (is.earlier earlier less))

  -- where no query reads the stream there is none
  pub reader_none : (stream : ℕ) → ((number : ℕ) → number < length c.order → LeavesUnread c stream number) → first_reader (set_in c) stream ≡ None
  reader_none stream none =
      find_no_number (λ (query : Query). reads stream query.expr) (query_in c) 0 (length c.order) (λ number low high. not_read stream (query_in c number).expr (none number (omega (arith, high))))
