use Rattle.std.proofs.Common.{subst, sym}
use Rattle.catalogue.specs.Catalogued.{Catalogued}
use Rattle.catalogue.specs.Taking.{IsFit, added_of}
use Rattle.catalogue.proofs.FittingLemmas.{may_grow}
use Rattle.catalogue.proofs.accepted.Catalogue.told.Goals as goal

-- the query is typed over the streams that are known
pub lines_of_one-requires : goal.lines_of_one-requires
lines_of_one-requires c =
    let view : Catalogued = record {
      file = c.self.inside.file;
      declared = c.self.inside.declared;
      streams = c.self.inside.streams;
      order = c.self.inside.work.order;
      published = c.self.inside.work.published;
      expressions = c.self.inside.work.expressions;
      ends = c.self.inside.chains.ends;
      next_end = c.self.inside.next_end;
      layout = c.self.inside.chains.layout;
    } in
    let fit : IsFit view.streams (added_of c.args.query.now) = subst (λ (v : Catalogued). IsFit v.streams (added_of c.args.query.now)) (sym c.self.view_is) c.requires in
    may_grow view c.self.invariant.held.stands (added_of c.args.query.now) fit
