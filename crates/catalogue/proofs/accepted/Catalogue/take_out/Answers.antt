use Rattle.std.proofs.Common.{◌≡◌, ◌∙◌, ◌<◌, ◌^◌, ℕ, List, length, map, sym, ap, subst, arith}
use Rattle.std.specs.List.{remove}
use Rattle.automaton.specs.declared.line.Line.{Line}
use Rattle.automaton.specs.Layouts.{shrunk}
use Rattle.stream_schema.specs.Streams.{retired}
use Rattle.catalogue.specs.Catalogued.{Catalogued, query_in, work_in}
use Rattle.catalogue.specs.Leaving.{catalogue_without, layout_without, lines_before, lines_up_to, place_of, without_part}
use Rattle.work_order.specs.Numbers.{moved_down}
use Rattle.catalogue.specs.Sharing.{shares_of, without_share}
use Rattle.expressions.specs.declared.expression.Expr.{Expr}
use Rattle.catalogue.specs.Tables.{IsHeld}
use Rattle.catalogue.specs.Tallies.{AreTallied}
use Rattle.catalogue.proofs.TallyLemmas.{tallied_less, tallied_one}
use Rattle.catalogue.proofs.LeftLemmas.{left_stands, lines_left}
use Rattle.catalogue.proofs.LeftProgramLemmas.{at_work, work_left}
use Rattle.catalogue.proofs.ShareLemmas.{shares_less}
use Rattle.catalogue.proofs.SizeLemmas.{size, size_apart}
use Rattle.catalogue.proofs.PutLemmas.{stream_is, stream_published, stream_within}
use Rattle.catalogue.proofs.accepted.Catalogue.take_out.Goals as goal

-- the stream is there
pub retire-requires-clause-within : goal.retire-requires-clause-within
retire-requires-clause-within c =
    let held : IsHeld c.args.self.now c.self.inside.chains.lines c.self.inside.chains.shares c.self.inside.reads = subst (λ (v : Catalogued). IsHeld v c.self.inside.chains.lines c.self.inside.chains.shares c.self.inside.reads) c.self.view_is c.self.invariant.held in
    stream_within c.args.self.now held.stands c.args.query c.requires.within c.self.inside.work.published c.self.inside.streams (ap (λ (v : Catalogued). v.published) c.self.view_is) (ap (λ (v : Catalogued). v.streams) c.self.view_is) c.place-place.result
    c.place-place.ensures.value c.get.result.now c.get.ensures

-- and a query publishes it
pub retire-requires-clause-published : goal.retire-requires-clause-published
retire-requires-clause-published c =
    let held : IsHeld c.args.self.now c.self.inside.chains.lines c.self.inside.chains.shares c.self.inside.reads = subst (λ (v : Catalogued). IsHeld v c.self.inside.chains.lines c.self.inside.chains.shares c.self.inside.reads) c.self.view_is c.self.invariant.held in
    stream_published c.args.self.now held.stands c.args.query c.requires.within c.self.inside.work.published c.self.inside.streams (ap (λ (v : Catalogued). v.published) c.self.view_is) (ap (λ (v : Catalogued). v.streams) c.self.view_is) c.place-place.result
    c.place-place.ensures.value c.get.result.now c.get.ensures

-- it is one of those that are numbered
pub leave-requires : goal.leave-requires
leave-requires c = let same = ap (λ (v : Catalogued). length v.order) c.self.view_is in omega (arith, c.requires.within, same)

-- its reads are tallied
pub untally-requires : goal.untally-requires
untally-requires c = tallied_one c.self.inside.work.expressions c.place-place.result c.get-2.result.now c.get-2.ensures c.self.inside.reads c.self.invariant.held.tallied

-- its own lines are some of all
pub size_between-requires-clause-few : goal.size_between-requires-clause-few
size_between-requires-clause-few c = subst (λ (ls : List Line). size ls < 2 ^ 64) (sym c.self.invariant.held.lines_are) c.self.invariant.held.stands.few

pub overflow_sub-self : goal.overflow_sub-self
overflow_sub-self c =
    let apart = size_apart c.self.inside.chains.lines c.args.part.first c.args.part.end (omega (arith, c.requires.part.first, c.requires.part.end)) in
    omega (arith, c.self.invariant.sized, apart, c.size_between.ensures)

module _ (c : goal.After-shrink) where
  held : IsHeld c.args.self.now c.self.inside.chains.lines c.self.inside.chains.shares c.self.inside.reads
  held = subst (λ (v : Catalogued). IsHeld v c.self.inside.chains.lines c.self.inside.chains.shares c.self.inside.reads) c.self.view_is c.self.invariant.held

  order_is : c.leave.new.self ≡ map (moved_down c.args.query) (remove c.args.self.now.order (place_of c.args.self.now c.args.query))
  order_is = c.leave.ensures ∙ (λ t. map (moved_down c.args.query) (remove (c.self.view_is t).order (place_of (c.self.view_is t) c.args.query)))

  -- it is the catalogue without the query
  made : (record {
    file = c.self.inside.file;
    declared = c.self.inside.declared;
    streams = c.retire.new.self;
    order = c.leave.new.self;
    published = c.remove.new.self;
    expressions = c.remove-2.new.self;
    ends = c.cut-2.new.self;
    next_end = c.self.inside.next_end;
    layout = c.shrink.new.self;
  }) ≡ catalogue_without c.args.self.now c.args.query
  made =
      let now = c.args.self.now in
      let own : c.get.result.now.stream ≡ (query_in now c.args.query).stream =
      stream_is now held.stands c.args.query c.requires.within c.self.inside.work.published c.self.inside.streams (ap (λ (v : Catalogued). v.published) c.self.view_is) (ap (λ (v : Catalogued). v.streams) c.self.view_is) c.place-place.result
      c.place-place.ensures.value c.get.result.now c.get.ensures in
      let streams : c.retire.new.self ≡ retired now.streams (query_in now c.args.query).stream = c.retire.ensures ∙ (λ t. retired (c.self.view_is t).streams (own t)) in
      let published : c.remove.new.self ≡ remove now.published (place_of now c.args.query) = c.remove.ensures.others ∙ (λ t. remove (c.self.view_is t).published (c.place-place.ensures.value t)) in
      let expressions : c.remove-2.new.self ≡ remove now.expressions (place_of now c.args.query) = c.remove-2.ensures.others ∙ (λ t. remove (c.self.view_is t).expressions (c.place-place.ensures.value t)) in
      let ends : c.cut-2.new.self ≡ without_part now.ends (lines_before now c.args.query) (lines_up_to now c.args.query) =
      c.cut-2.ensures ∙ (λ t. without_part (c.self.view_is t).ends (c.requires.part.first t) (c.requires.part.end t)) in
      let layout : c.shrink.new.self ≡ layout_without now c.args.query = c.shrink.ensures ∙ ap (λ (v : Catalogued). shrunk v.layout c.args.part.lost) c.self.view_is ∙ c.requires.part.lost in
      λ t. record {
        file = (c.self.view_is t).file;
        declared = (c.self.view_is t).declared;
        streams = streams t;
        order = order_is t;
        published = published t;
        expressions = expressions t;
        ends = ends t;
        next_end = (c.self.view_is t).next_end;
        layout = layout t;
      }

-- it stands in order
pub invariant_of-self : goal.invariant_of-self
invariant_of-self c =
    let now = c.args.self.now in
    let h = held c in
    let at : ℕ = place_of now c.args.query in
    let lines : c.cut.new.self ≡ without_part c.self.inside.chains.lines c.args.part.first c.args.part.end = c.cut.ensures in
    let shares : c.remove-3.new.self ≡ shares_of (remove (work_in now) at) =
    c.remove-3.ensures ∙ (λ t. without_share (h.shared t) (c.place-place.ensures.value t)) ∙ shares_less (work_in now) at (at_work now h.stands c.args.query c.requires.within) in
    let is_held = subst (λ (v : Catalogued). IsHeld v c.cut.new.self c.remove-3.new.self c.untally.new.tallies) (sym (made c)) (record {
      stands = left_stands now h.stands c.args.query c.requires.within c.requires.unread;
      lines_are = lines ∙ (λ t. without_part (h.lines_are t) (c.requires.part.first t) (c.requires.part.end t)) ∙ sym (lines_left now h.stands c.args.query c.requires.within);
      shared = shares ∙ ap shares_of (sym (work_left now h.stands c.args.query c.requires.within));
      tallied = subst (λ (xs : List Expr). AreTallied xs c.untally.new.tallies) (λ t. remove (c.self.view_is t).expressions (c.place-place.ensures.value t))
          (tallied_less c.self.inside.work.expressions c.place-place.result c.get-2.result.now c.get-2.ensures c.self.inside.reads c.self.invariant.held.tallied c.untally.new.tallies c.untally.ensures);
    }) in
    let apart = size_apart c.self.inside.chains.lines c.args.part.first c.args.part.end (omega (arith, c.requires.part.first, c.requires.part.end)) in
    record { held = is_held; sized = omega (arith, c.self.invariant.sized, apart, c.size_between.ensures, ap size lines) }

pub returns : goal.returns
returns c = made c
