-- Tables of streams to which some come, and in which one is retired.
use Rattle.std.proofs.Common.{◌≡◌, ◌≢◌, ◌∙◌, ℕ, zero, suc, ◌<◌, ◌≤◌, ◌⊎◌, List, [], ◌∷◌, ◌++◌, false, length, get_or, refl, sym, ap, subst, inl, inr, arith}
use Rattle.std.specs.Prelude.{Some, slice_get}
use Rattle.std.specs.List.{All, range_with_len}
use Rattle.std.proofs.lemmas.List.Elements.{All-cons, All-contains, All-head, All-map, All-tail}
use Rattle.std.proofs.lemmas.Option.{get_or_from_slice_get, slice_get-get_or, slice_get_within}
use Rattle.std.proofs.lemmas.Slice.Eq.{bytes_eq-Decides}
use Rattle.semantics.proofs.ListLemmas.{every}
use Rattle.stream_schema.specs.Schema.{kinds_of}
use Rattle.stream_schema.specs.Streams.{Entry, hidden_entries, hidden_entry, number_of, renamed, retired, retired_name, schemas_of}
use Rattle.stream_schema.specs.Table.{IsOwn}
use Rattle.cel_types.specs.SourceLaws.{kinds_in}
use Rattle.independence.proofs.PublishedLemmas.{contains-at}
use Rattle.independence.proofs.TableLemmas.{number-is, other_name}

-- a hidden stream: it is told as a retired one, and none that is declared
pub record IsHidden (e : Entry) : Type 0 where
  pub number : ℕ
  pub name_is : e.name ≡ retired_name number
  pub undeclared : e.declared ≡ false

-- hidden streams are
pub hidden-all : (first many : ℕ) → All IsHidden (hidden_entries first many)
hidden-all first many =
    All-map IsHidden hidden_entry (range_with_len first many) (every (λ n. IsHidden (hidden_entry n)) (λ n. record { number = n; name_is = refl; undeclared = refl }) (range_with_len first many))

-- a stream with a name of its own stands before the hidden ones, by induction on the others
pub own-front : (streams hidden : List Entry) → All IsHidden hidden → (n : ℕ) (e : Entry) → slice_get (streams ++ hidden) n ≡ Some e → IsOwn e.name → slice_get streams n ≡ Some e
own-front [] hidden all n e at own =
    let is = All-contains IsHidden hidden e all (contains-at hidden n e at) in absurd (own is.number is.name_is)
own-front (s ∷ streams) hidden all zero e at own = at
own-front (s ∷ streams) hidden all (suc n) e at own = own-front streams hidden all n e at own

-- a stream was there, or is the last one: by induction on the others
pub at-push : (streams : List Entry) (last : Entry) (n : ℕ) (e : Entry) → slice_get (streams ++ last ∷ []) n ≡ Some e → (slice_get streams n ≡ Some e) ⊎ ((n ≡ length streams) × (last ≡ e))
at-push [] last zero e at = inr (refl, cc)
at-push [] last (suc n) e at = cc
at-push (s ∷ streams) last zero e at = inl at
at-push (s ∷ streams) last (suc n) e at = elim (at-push streams last n e at) [
  | inl was ↦ inl was
  | inr new ↦ inr (ap suc new.0, new.1)
]

-- another stream stays where one is renamed, by induction on the streams
pub renamed-other : (streams : List Entry) (stream : ℕ) (name : List ℕ) (n : ℕ) → n ≢ stream → slice_get (renamed streams stream name) n ≡ slice_get streams n
renamed-other [] stream name n other = refl
renamed-other (s ∷ streams) zero name zero other = absurd (other refl)
renamed-other (s ∷ streams) zero name (suc n) other = refl
renamed-other (s ∷ streams) (suc stream) name zero other = refl
renamed-other (s ∷ streams) (suc stream) name (suc n) other = renamed-other streams stream name n (λ same. other (ap suc same))

-- and that one has the name, by induction on the streams
pub renamed-own : (streams : List Entry) (stream : ℕ) (name : List ℕ) (e : Entry) → slice_get (renamed streams stream name) stream ≡ Some e → e.name ≡ name
renamed-own [] stream name e at = cc
renamed-own (s ∷ streams) zero name e at =
    let same : record { name = name; schema = s.schema; declared = s.declared } ≡ e = cc in sym (ap (λ (x : Entry). x.name) same)
renamed-own (s ∷ streams) (suc stream) name e at = renamed-own streams stream name e at

-- the schemas stay, by induction on the streams
schemas-renamed : (streams : List Entry) (stream : ℕ) (name : List ℕ) → schemas_of (renamed streams stream name) ≡ schemas_of streams
schemas-renamed [] stream name = refl
schemas-renamed (s ∷ streams) zero name = refl
schemas-renamed (s ∷ streams) (suc stream) name = ap (λ ss. s.schema ∷ ss) (schemas-renamed streams stream name)

-- and so do the kinds
pub kinds-renamed : (streams : List Entry) (stream : ℕ) (name : List ℕ) → kinds_in (renamed streams stream name) ≡ kinds_in streams
kinds-renamed streams stream name = λ t n. kinds_of (get_or (schemas-renamed streams stream name t) n [])

-- undeclared streams stay so, by induction on them
undeclared-renamed : (streams : List Entry) (stream : ℕ) (name : List ℕ) → All (λ e. e.declared ≡ false) streams → All (λ e. e.declared ≡ false) (renamed streams stream name)
undeclared-renamed [] stream name all = all
undeclared-renamed (s ∷ streams) zero name all =
    All-cons (λ (e : Entry). e.declared ≡ false) (record { name = name; schema = s.schema; declared = s.declared }) streams
    (All-head (λ (e : Entry). e.declared ≡ false) s streams all) (All-tail (λ (e : Entry). e.declared ≡ false) s streams all)
undeclared-renamed (s ∷ streams) (suc stream) name all =
    All-cons (λ (e : Entry). e.declared ≡ false) s (renamed streams stream name)
    (All-head (λ (e : Entry). e.declared ≡ false) s streams all) (undeclared-renamed streams stream name (All-tail (λ (e : Entry). e.declared ≡ false) s streams all))

-- streams that begin with the declared ones
pub record BeginWith (declared streams : List Entry) : Type 0 where
  pub more : List Entry
  pub parts : streams ≡ declared ++ more
  pub undeclared : All (λ e. e.declared ≡ false) more

-- where one behind the declared ones is renamed, they stay: by induction on them
begin-renamed : (declared more : List Entry) (stream : ℕ) (name : List ℕ) → All (λ e. e.declared ≡ false) more → length declared ≤ stream → BeginWith declared (renamed (declared ++ more) stream name)
begin-renamed [] more stream name all behind = record { more = renamed more stream name; parts = refl; undeclared = undeclared-renamed more stream name all }
begin-renamed (s ∷ declared) more zero name all behind = absurd (omega (arith, behind))
begin-renamed (s ∷ declared) more (suc stream) name all behind =
    let rest = begin-renamed declared more stream name all (omega (arith, behind)) in record { more = rest.more; parts = ap (λ es. s ∷ es) rest.parts; undeclared = rest.undeclared }

pub begin-retired : (declared streams : List Entry) (stream : ℕ) → BeginWith declared streams → length declared ≤ stream → BeginWith declared (retired streams stream)
begin-retired declared streams stream begins behind =
    subst (λ es. BeginWith declared (retired es stream)) (sym begins.parts) (begin-renamed declared begins.more stream (retired_name stream) begins.undeclared behind)

-- no two streams have one name of their own
abbrev pub AreApart : List Entry → Type 0
AreApart streams = (m n : ℕ) (d e : Entry) → slice_get streams m ≡ Some d → slice_get streams n ≡ Some e → d.name ≡ e.name → IsOwn d.name → m ≡ n

-- then each has the number of its place
pub own-number : (streams : List Entry) → AreApart streams → (n : ℕ) (e : Entry) → slice_get streams n ≡ Some e → IsOwn e.name → number_of e.name streams ≡ Some n
own-number streams apart n e at own =
    let inside : n < length streams = slice_get_within streams n e at in
    let here : get_or streams n e ≡ e = get_or_from_slice_get streams n e e at in
    number-is e.name streams n e inside
    (λ k lt. other_name e.name (get_or streams k e).name
    (λ same. let one : n ≡ k = apart n k e (get_or streams k e) at (slice_get-get_or streams k e (omega (arith, lt, inside))) same own in absurd (omega (arith, lt, one))))
    ((bytes_eq-Decides e.name (get_or streams n e).name).1 (sym (ap (λ (s : Entry). s.name) here)))

-- they stay apart with hidden ones behind
pub apart-hidden : (streams hidden : List Entry) → All IsHidden hidden → AreApart streams → AreApart (streams ++ hidden)
apart-hidden streams hidden all apart m n d e at_m at_n same own =
    apart m n d e (own-front streams hidden all m d at_m own) (own-front streams hidden all n e at_n (subst IsOwn same own)) same own

-- with one of a new name
pub apart-push : (streams : List Entry) (last : Entry) → ((n : ℕ) (e : Entry) → slice_get streams n ≡ Some e → e.name ≢ last.name) → AreApart streams → AreApart (streams ++ last ∷ [])
apart-push streams last new apart m n d e at_m at_n same own = elim (at-push streams last m d at_m) [
  | inl m_was ↦ elim (at-push streams last n e at_n) [
    | inl n_was ↦ apart m n d e m_was n_was same own
    | inr n_new ↦ absurd (new m d m_was (same ∙ sym (ap (λ (s : Entry). s.name) n_new.1)))
  ]
  | inr m_new ↦ elim (at-push streams last n e at_n) [
    | inl n_was ↦ absurd (new n e n_was (sym same ∙ sym (ap (λ (s : Entry). s.name) m_new.1)))
    | inr n_new ↦ m_new.0 ∙ sym n_new.0
  ]
]

-- a stream with a name of its own isn't the retired one, and was there
pub own-was : (streams : List Entry) (stream n : ℕ) (e : Entry) → slice_get (retired streams stream) n ≡ Some e → IsOwn e.name → (n ≢ stream) × (slice_get streams n ≡ Some e)
own-was streams stream n e at own =
    let other : n ≢ stream = (λ same. own stream (renamed-own streams stream (retired_name stream) e (ap (slice_get (retired streams stream)) (sym same) ∙ at))) in
    (other, sym (renamed-other streams stream (retired_name stream) n other) ∙ at)

-- and without one
pub apart-retired : (streams : List Entry) (stream : ℕ) → AreApart streams → AreApart (retired streams stream)
apart-retired streams stream apart m n d e at_m at_n same own =
    apart m n d e (own-was streams stream m d at_m own).1 (own-was streams stream n e at_n (subst IsOwn same own)).1 same own
