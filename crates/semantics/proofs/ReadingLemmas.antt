-- What an expression denotes depends on the streams that it reads alone.
use Rattle.std.proofs.Common.{◌≡◌, ap, refl, ℕ, ◌<◌, List, ◌++◌, map}
use Rattle.std.specs.Prelude.{None}
use Rattle.std.specs.List.{filter, flat_map}
use Rattle.event_types.specs.declared.kind.Kind.{Kind}
use Rattle.event_types.specs.Tuple.{TupleView}
use Rattle.semantics.specs.Denotation.{Streams, denote, matches, selected}
use Rattle.semantics.specs.Expressions.{Ex, Read, Filter, Select, Union, Next, Fold}
use Rattle.semantics.specs.Reading.{ReadsOnly, renumbered}
use Rattle.semantics.specs.Runs.{runs}
use Rattle.semantics.specs.Truth.{all_true}
use Rattle.semantics.specs.Typing.{IsTypedOver}

-- streams that agree where the expression reads give the same tuples
pub denote_agrees : (IsSo : ℕ → Type 0) (streams others : Streams) → ((stream : ℕ) → IsSo stream → streams stream ≡ others stream) → (e : Ex) → ReadsOnly IsSo e → denote e streams ≡ denote e others
denote_agrees IsSo streams others same (Read stream) reads = same stream reads
denote_agrees IsSo streams others same (Filter p e) reads = ap (filter (λ (tuple : TupleView). all_true p tuple None)) (denote_agrees IsSo streams others same e reads)
denote_agrees IsSo streams others same (Select m e) reads = ap (map (selected m.parts)) (denote_agrees IsSo streams others same e reads)
denote_agrees IsSo streams others same (Union e f) reads =
    λ i. denote_agrees IsSo streams others same e reads.0 i ++ denote_agrees IsSo streams others same f reads.1 i
denote_agrees IsSo streams others same (Next p e f) reads =
    λ i. flat_map (matches p (denote_agrees IsSo streams others same f reads.1 i)) (denote_agrees IsSo streams others same e reads.0 i)
denote_agrees IsSo streams others same (Fold p q m e f) reads =
    λ i. flat_map (runs p q m.parts (denote_agrees IsSo streams others same f reads.1 i)) (denote_agrees IsSo streams others same e reads.0 i)

-- with other numbers it reads the streams of those numbers
pub denote-renumbered : (number : ℕ → ℕ) (streams : Streams) (e : Ex) → denote (renumbered number e) streams ≡ denote e (λ stream. streams (number stream))
denote-renumbered number streams (Read stream) = refl
denote-renumbered number streams (Filter p e) = ap (filter (λ (tuple : TupleView). all_true p tuple None)) (denote-renumbered number streams e)
denote-renumbered number streams (Select m e) = ap (map (selected m.parts)) (denote-renumbered number streams e)
denote-renumbered number streams (Union e f) = λ i. denote-renumbered number streams e i ++ denote-renumbered number streams f i
denote-renumbered number streams (Next p e f) = λ i. flat_map (matches p (denote-renumbered number streams f i)) (denote-renumbered number streams e i)
denote-renumbered number streams (Fold p q m e f) = λ i. flat_map (runs p q m.parts (denote-renumbered number streams f i)) (denote-renumbered number streams e i)

-- a typed expression reads the first streams alone
pub reads_first : (count : ℕ) (kinds : ℕ → List Kind) (out : List Kind) (e : Ex) → IsTypedOver e count kinds out → ReadsOnly (λ stream. stream < count) e
reads_first count kinds out (Read stream) gives = gives.0
reads_first count kinds out (Filter p e) gives = reads_first count kinds out e gives.0
reads_first count kinds out (Select m e) gives = reads_first count kinds gives.0 e gives.1
reads_first count kinds out (Union e f) gives = (reads_first count kinds out e gives.0, reads_first count kinds out f gives.1)
reads_first count kinds out (Next p e f) gives = (reads_first count kinds gives.0 e gives.2, reads_first count kinds gives.1 f gives.3)
reads_first count kinds out (Fold p q m e f) gives = (reads_first count kinds out e gives.1, reads_first count kinds gives.0 f gives.2)

-- two facts of each stream that is read
pub reads_both : (IsSo IsThus : ℕ → Type 0) (e : Ex) → ReadsOnly IsSo e → ReadsOnly IsThus e → ReadsOnly (λ stream. IsSo stream × IsThus stream) e
reads_both IsSo IsThus (Read stream) so thus = (so, thus)
reads_both IsSo IsThus (Filter p e) so thus = reads_both IsSo IsThus e so thus
reads_both IsSo IsThus (Select m e) so thus = reads_both IsSo IsThus e so thus
reads_both IsSo IsThus (Union e f) so thus = (reads_both IsSo IsThus e so.0 thus.0, reads_both IsSo IsThus f so.1 thus.1)
reads_both IsSo IsThus (Next p e f) so thus = (reads_both IsSo IsThus e so.0 thus.0, reads_both IsSo IsThus f so.1 thus.1)
reads_both IsSo IsThus (Fold p q m e f) so thus = (reads_both IsSo IsThus e so.0 thus.0, reads_both IsSo IsThus f so.1 thus.1)
