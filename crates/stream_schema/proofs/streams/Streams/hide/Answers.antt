use Rattle.std.proofs.Common.{◌≡◌, ◌∙◌, false, length, refl, sym, ap}
use Rattle.std.specs.Prelude.{None}
use Rattle.stream_schema.specs.Streams.{number_of, with_hidden}
use Rattle.stream_schema.specs.Table.{streams_of}
use Rattle.stream_schema.specs.declared.streams.Stream.{Stream}
use Rattle.stream_schema.proofs.HiddenLemmas.{distinct-hidden, number_of-hidden, streams_of-hidden}
use Rattle.stream_schema.proofs.TableLemmas.{length-streams_from}
use Rattle.stream_schema.proofs.streams.Streams.hide.Goals as goal

-- the names that texts have are found as before
pub invariant_of-self-2 : goal.invariant_of-self-2
invariant_of-self-2 c =
    let inside = c.self.inside.streams in
    let stream : Stream = record { name = None; schema = c.new.result; declared = false } in
    let more : streams_of c.add.new.self ≡ with_hidden (streams_of inside) = ap streams_of c.in_ok-add.ensures.ok ∙ streams_of-hidden inside stream refl c.new.ensures refl in
    record {
      found = λ other own. c.self.invariant.found other own ∙ sym (number_of-hidden (streams_of inside) other own) ∙ ap (number_of other) (sym more);
      distinct = rw more (distinct-hidden inside c.self.invariant.distinct);
    }

pub returns-clause-number : goal.returns-clause-number
returns-clause-number c = c.len-number.ensures ∙ sym (length-streams_from 0 c.self.inside.streams) ∙ ap length c.self.view_is

pub returns-clause-ok : goal.returns-clause-ok
returns-clause-ok c =
    let stream : Stream = record { name = None; schema = c.new.result; declared = false } in
    ap streams_of c.in_ok-add.ensures.ok ∙ streams_of-hidden c.self.inside.streams stream refl c.new.ensures refl ∙ ap with_hidden c.self.view_is
