use Rattle.std.proofs.Common.{◌≡◌, ◌<◌, ◌∙◌, Some, sym, ap, inl, inr, length, arith, refl, ◌+◌}
use Rattle.std.specs.Prelude.{slice_get}
use Rattle.std.specs.List.{IsDistinct}
use Rattle.std.specs.Str.{bytes_eq}
use Rattle.std.proofs.lemmas.Map.Made.{AllPairs-from_IsDistinct}
use Rattle.std.proofs.lemmas.Slice.Eq.{bytes_eq-Decides}
use Rattle.stream_schema.specs.Streams.{Entry, IsRetired, retired_name, stream_names}
use Rattle.stream_schema.specs.Table.{name_at}
use Rattle.stream_schema.proofs.NameLemmas.{placed}
use Rattle.stream_schema.proofs.TableLemmas.{length-streams_from, name-at}
use Rattle.stream_schema.proofs.TextLemmas.{own-from_utf8}
use Rattle.stream_schema.proofs.streams.Streams.named.Goals as goal

pub returns-in-Some : goal.returns-in-Some
returns-in-Some c =
    let name = c.as_str.result.now in
    let streams = c.args.self.now in
    let inside = c.self.inside.streams in
    let distinct : IsDistinct bytes_eq (stream_names streams) = rw (← c.self.view_is) c.self.invariant.distinct in
    let within : c.args.stream < length streams = rw (← c.self.view_is, length-streams_from 0 inside) (let low = c.if-stream-len.true in let long = c.len.ensures in omega (arith, low, long)) in
    let found : slice_get (stream_names streams) c.args.stream ≡ Some name =
    rw (← c.self.view_is) (name-at 0 inside c.args.stream c.get.result.now c.get.ensures ∙ ap (λ n. Some (name_at (0 + c.args.stream) n)) c.in-Some.is ∙ ap Some (sym c.as_str.ensures.value)) in
    record {
      number = sym (placed (λ (s : Entry). s.name) name streams c.args.stream distinct found);
      within = within;
      found = found;
      absent = (
        λ none. cc,
        λ h. elim h [
          | inl past ↦ absurd (omega (arith, past, within))
          | inr gone ↦ absurd (own-from_utf8 name c.as_str.utf8 c.args.stream (let same : Some name ≡ Some (retired_name c.args.stream) = sym found ∙ gone in cc))
        ],
      );
      distinct = AllPairs-from_IsDistinct bytes_eq-Decides _ distinct;
    }

pub returns-in-None : goal.returns-in-None
returns-in-None c =
    let inside = c.self.inside.streams in
    let number : 0 + c.args.stream ≡ c.args.stream = omega arith in
    let gone : IsRetired c.args.self.now c.args.stream = rw (← c.self.view_is) (name-at 0 inside c.args.stream c.get.result.now c.get.ensures ∙ rw (c.in-None.is, number) refl) in
    record {
      number = tt;
      within = tt;
      found = tt;
      absent = (λ none. inr gone, λ h. refl);
      distinct = rw (← c.self.view_is) (AllPairs-from_IsDistinct bytes_eq-Decides _ c.self.invariant.distinct);
    }

pub returns-else-stream-len : goal.returns-else-stream-len
returns-else-stream-len c =
    let low = c.if-stream-len.false in
    let long = c.len.ensures in
    record {
      number = tt;
      within = tt;
      found = tt;
      absent = (λ none. inl (rw (← c.self.view_is, length-streams_from 0 c.self.inside.streams) (omega (arith, low, long))), λ h. refl);
      distinct = rw (← c.self.view_is) (AllPairs-from_IsDistinct bytes_eq-Decides _ c.self.invariant.distinct);
    }
