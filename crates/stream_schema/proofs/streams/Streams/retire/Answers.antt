use Rattle.std.proofs.Common.{◌≡◌, ◌∙◌, ap, sym, refl, arith, ◌+◌}
use Rattle.std.specs.Prelude.{Some, None, List, ℕ, false, slice_get, slice_set, string_bytes}
use Rattle.std.specs.Str.{bytes_eq}
use Rattle.std.proofs.lemmas.Map.Text.{hash_map_updates_text}
use Rattle.stream_schema.specs.Streams.{number_of, retired, retired_name, stream_names}
use Rattle.stream_schema.specs.Table.{IsOwn, name_at, streams_of}
use Rattle.stream_schema.specs.declared.streams.Stream.{Stream}
use Rattle.stream_schema.proofs.RetiredLemmas.{distinct-renamed, number_of-renamed}
use Rattle.stream_schema.proofs.TableLemmas.{apart-names, length-streams_from, name-at, retired-apart, set-same, streams_from-retired}
use Rattle.stream_schema.proofs.TextLemmas.{own-string}
use Rattle.stream_schema.proofs.streams.Streams.retire.Goals as goal

pub get_mut-requires : goal.get_mut-requires
get_mut-requires c = rw (← length-streams_from 0 c.self.inside.streams, c.self.view_is) c.requires.within

pub invariant_of-self : goal.invariant_of-self
invariant_of-self c =
    let inside = c.self.inside.streams in
    let stream = c.args.stream in
    let old = c.get_mut.result.now in
    let left : Stream = record { name = c.take.new.self; schema = old.schema; declared = old.declared } in
    let number : 0 + stream ≡ stream = omega arith in
    let is : old.name ≡ Some c.in-Some.name = sym c.take.ensures.value ∙ c.in-Some.is in
    let after : streams_of (slice_set inside stream left) ≡ retired (streams_of inside) stream = streams_from-retired 0 inside stream old left c.get_mut.ensures.value c.take.ensures.after refl refl ∙ rw number refl in
    let name = string_bytes c.in-Some.name in
    let at : slice_get (stream_names (streams_of inside)) stream ≡ Some name = name-at 0 inside stream old c.get_mut.ensures.value ∙ ap (λ n. Some (name_at (0 + stream) n)) is in
    let apart : (n : List ℕ) → IsOwn n → bytes_eq n (retired_name stream) ≡ false = (λ n own. apart-names n (retired_name stream) (own stream)) in
    let others = retired-apart 0 stream inside (λ j x there same none. let here : j ≡ stream = omega (arith, same) in let one : Some x ≡ Some old = sym (rw here at there) ∙ c.get_mut.ensures.value in cc) in
    let taken = hash_map_updates_text c.as_str.result.now c.self.inside.numbers c.swap_remove.new.self None c.swap_remove.ensures.updates in
    record {
      found = λ other own.
          taken other
          ∙ rw (c.as_str.ensures.value, c.self.invariant.found other own) (number_of-renamed (streams_of inside) stream name (retired_name stream) at (apart name (own-string c.in-Some.name)) c.self.invariant.distinct other (apart other own))
          ∙ ap (number_of other) (sym after);
      distinct = rw after (distinct-renamed (streams_of inside) stream (retired_name stream) others c.self.invariant.distinct);
    }

pub invariant_of-self-in_default : goal.invariant_of-self-in_default
invariant_of-self-in_default c =
    let kept : c.take.new.self ≡ c.get_mut.result.now.name = c.take.ensures.after ∙ sym (sym c.take.ensures.value ∙ c.in_default.is) in
    rw (kept, set-same c.self.inside.streams c.args.stream c.get_mut.result.now c.get_mut.ensures.value) c.self.invariant

pub returns-in-Some : goal.returns-in-Some
returns-in-Some c =
    let left : Stream = record { name = c.take.new.self; schema = c.get_mut.result.now.schema; declared = c.get_mut.result.now.declared } in
    let number : 0 + c.args.stream ≡ c.args.stream = omega arith in
    rw (← c.self.view_is) (streams_from-retired 0 c.self.inside.streams c.args.stream c.get_mut.result.now left c.get_mut.ensures.value c.take.ensures.after refl refl ∙ rw number refl)

pub returns-in_default : goal.returns-in_default
returns-in_default c =
    let left : Stream = record { name = c.take.new.self; schema = c.get_mut.result.now.schema; declared = c.get_mut.result.now.declared } in
    let number : 0 + c.args.stream ≡ c.args.stream = omega arith in
    rw (← c.self.view_is) (streams_from-retired 0 c.self.inside.streams c.args.stream c.get_mut.result.now left c.get_mut.ensures.value c.take.ensures.after refl refl ∙ rw number refl)
