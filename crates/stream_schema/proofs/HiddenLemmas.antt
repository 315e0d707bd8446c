-- Where names stand among streams with one hidden stream more.
use Rattle.std.proofs.Common.{◌≡◌, ◌∙◌, ℕ, zero, suc, ◌+◌, ◌<◌, List, [], ◌∷◌, ◌++◌, false, length, refl, sym, ap, subst, append-nil, append_assoc, arith}
use Rattle.std.specs.Prelude.{None, replicate}
use Rattle.std.specs.List.{IsDistinct}
use Rattle.std.specs.Str.{bytes_eq}
use Rattle.std.proofs.lemmas.List.{length-append, length-replicate, replicate_more}
use Rattle.std.proofs.lemmas.List.FromFn.{length-map-range_with_len, map-range_with_len_more}
use Rattle.std.proofs.lemmas.Option.{slice_get_within}
use Rattle.stream_schema.specs.Streams.{Entry, hidden_entries, hidden_entry, number_of, retired_name, stream_names, with_hidden}
use Rattle.stream_schema.specs.Table.{IsOwn, streams_from, streams_of, unnamed}
use Rattle.stream_schema.specs.declared.streams.Stream.{Stream}
use Rattle.stream_schema.proofs.RetiredLemmas.{distinct-push, none-from_apart, position-kept}
use Rattle.stream_schema.proofs.TableLemmas.{apart-names, length-streams_from, retired-apart}

-- one more stream, which has no name
streams_from-hidden : (n : ℕ) (xs : List Stream) (x : Stream) → x.name ≡ None → streams_from n (xs ++ x ∷ []) ≡ streams_from n xs ++ record { name = retired_name (n + length xs); schema = x.schema; declared = x.declared } ∷ []
streams_from-hidden n [] x no_name = let here : n + 0 ≡ n = omega arith in rw (no_name, here) refl
streams_from-hidden n (y ∷ xs) x no_name =
    let further : n + length (y ∷ xs) ≡ n + 1 + length xs = omega arith in rw (streams_from-hidden (n + 1) xs x no_name, further) refl

-- it is hidden, where it has no attributes and isn't declared
pub streams_of-hidden : (xs : List Stream) (x : Stream) → x.name ≡ None → x.schema ≡ [] → x.declared ≡ false → streams_of (xs ++ x ∷ []) ≡ with_hidden (streams_of xs)
streams_of-hidden xs x no_name none other =
    let long : 0 + length xs ≡ length (streams_of xs) = omega (arith, length-streams_from 0 xs) in
    streams_from-hidden 0 xs x no_name ∙ rw (none, other, long) refl

-- no stream has the name of a hidden stream behind them
absent-behind : (xs : List Stream) → number_of (retired_name (length (streams_of xs))) (streams_of xs) ≡ None
absent-behind xs =
    none-from_apart (retired_name (length (streams_of xs))) (streams_of xs)
    (retired-apart 0 (length (streams_of xs)) xs (λ j x at same none. let within : j < length xs = slice_get_within xs j x at in absurd (omega (arith, within, same, length-streams_from 0 xs))))

-- no name is another one's, with one hidden stream more
pub distinct-hidden : (xs : List Stream) → IsDistinct bytes_eq (stream_names (streams_of xs)) → IsDistinct bytes_eq (stream_names (with_hidden (streams_of xs)))
distinct-hidden xs distinct = distinct-push (streams_of xs) (hidden_entry (length (streams_of xs))) (absent-behind xs) distinct

-- the names that a text can have keep their places
pub number_of-hidden : (streams : List Entry) (name : List ℕ) → IsOwn name → number_of name (with_hidden streams) ≡ number_of name streams
number_of-hidden streams name own =
    position-kept (λ (s : Entry). bytes_eq name s.name) streams (hidden_entry (length streams)) (apart-names name (retired_name (length streams)) (own (length streams)))

longer-unnamed : (xs : List Stream) (n : ℕ) → xs ++ replicate (suc n) unnamed ≡ (xs ++ replicate n unnamed) ++ unnamed ∷ []
longer-unnamed xs n = let more : suc n ≡ n + 1 = omega arith in ap (λ k. xs ++ replicate k unnamed) more ∙ ap (λ ys. xs ++ ys) (sym (replicate_more n unnamed)) ∙ sym (append_assoc xs (replicate n unnamed) (unnamed ∷ []))

hidden_entries-more : (first n number : ℕ) → first + n ≡ number → hidden_entries first (suc n) ≡ hidden_entries first n ++ hidden_entry number ∷ []
hidden_entries-more first n number is = let more : suc n ≡ n + 1 = omega arith in ap (hidden_entries first) more ∙ map-range_with_len_more hidden_entry first n number is

length-hidden : (first n : ℕ) → length (hidden_entries first n) ≡ n
length-hidden first n = length-map-range_with_len hidden_entry first n

-- streams without names behind others are hidden ones, by induction on how many
pub streams_of-unnamed : (xs : List Stream) (n : ℕ) → streams_of (xs ++ replicate n unnamed) ≡ streams_of xs ++ hidden_entries (length xs) n
streams_of-unnamed xs zero = ap streams_of (append-nil xs) ∙ sym (append-nil (streams_of xs))
streams_of-unnamed xs (suc n) =
    let ys = xs ++ replicate n unnamed in
    let before = streams_of-unnamed xs n in
    let long : length xs + n ≡ length (streams_of ys) = omega (arith, length-streams_from 0 ys, length-append xs (replicate n unnamed), length-replicate n unnamed) in
    ap streams_of (longer-unnamed xs n) ∙ streams_of-hidden ys unnamed refl refl refl ∙ ap (λ (ss : List Entry). ss ++ hidden_entry (length (streams_of ys)) ∷ []) before
    ∙ append_assoc (streams_of xs) (hidden_entries (length xs) n) (hidden_entry (length (streams_of ys)) ∷ [])
    ∙ ap (λ (ss : List Entry). streams_of xs ++ ss) (sym (hidden_entries-more (length xs) n (length (streams_of ys)) long))

-- no name is another one's then
pub distinct-unnamed : (xs : List Stream) (n : ℕ) → IsDistinct bytes_eq (stream_names (streams_of xs)) → IsDistinct bytes_eq (stream_names (streams_of (xs ++ replicate n unnamed)))
distinct-unnamed xs zero distinct = subst (λ (ys : List Stream). IsDistinct bytes_eq (stream_names (streams_of ys))) (sym (append-nil xs)) distinct
distinct-unnamed xs (suc n) distinct =
    let ys = xs ++ replicate n unnamed in
    subst (λ (ss : List Entry). IsDistinct bytes_eq (stream_names ss)) (sym (ap streams_of (longer-unnamed xs n) ∙ streams_of-hidden ys unnamed refl refl refl)) (distinct-hidden ys (distinct-unnamed xs n distinct))

-- and the names that a text can have keep their places
pub number_of-unnamed : (xs : List Stream) (n : ℕ) (name : List ℕ) → IsOwn name → number_of name (streams_of (xs ++ replicate n unnamed)) ≡ number_of name (streams_of xs)
number_of-unnamed xs zero name own = ap (λ (ys : List Stream). number_of name (streams_of ys)) (append-nil xs)
number_of-unnamed xs (suc n) name own =
    let ys = xs ++ replicate n unnamed in
    ap (number_of name) (ap streams_of (longer-unnamed xs n) ∙ streams_of-hidden ys unnamed refl refl refl) ∙ number_of-hidden (streams_of ys) name own ∙ number_of-unnamed xs n name own
