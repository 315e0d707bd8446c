use Rattle.cel_types.specs.declared.fault.TypeFault.TheVariants as type
use Rattle.catalogue.specs.declared.fault.QueryFault.TheVariants as query
use Rattle.catalogue.specs.Faults.{unknown, kinds, absent, twice, union, wide, fine}
use Rattle.catalogue.proofs.DeclareLemmas.{told_on}
use Rattle.catalogue.proofs.declaring.of_types.Goals as goal

pub returns-in-UnknownAttr : goal.returns-in-UnknownAttr
returns-in-UnknownAttr c = told_on c.args.line c.args.fault (type.UnknownAttr c.in-UnknownAttr.name) (query.UnknownAttr c.in-UnknownAttr.name) c.bad.result c.in-UnknownAttr.is c.bad.ensures unknown

pub returns-in-KindMismatch : goal.returns-in-KindMismatch
returns-in-KindMismatch c = told_on c.args.line c.args.fault (type.KindMismatch c.in-KindMismatch.want c.in-KindMismatch.got) (query.KindMismatch c.in-KindMismatch.want c.in-KindMismatch.got) c.bad-in-KindMismatch.result c.in-KindMismatch.is c.bad-in-KindMismatch.ensures kinds

pub returns-in-NotAssignable : goal.returns-in-NotAssignable
returns-in-NotAssignable c = told_on c.args.line c.args.fault (type.NotAssignable c.in-NotAssignable.name) (query.NotAssignable c.in-NotAssignable.name) c.bad-in-NotAssignable.result c.in-NotAssignable.is c.bad-in-NotAssignable.ensures absent

pub returns-in-DuplicateAttr : goal.returns-in-DuplicateAttr
returns-in-DuplicateAttr c = told_on c.args.line c.args.fault (type.DuplicateAttr c.in-DuplicateAttr.name) (query.DuplicateAttr c.in-DuplicateAttr.name) c.bad-in-DuplicateAttr.result c.in-DuplicateAttr.is c.bad-in-DuplicateAttr.ensures twice

pub returns-in-UnionMismatch : goal.returns-in-UnionMismatch
returns-in-UnionMismatch c = told_on c.args.line c.args.fault (type.UnionMismatch c.in-UnionMismatch.place) (query.UnionMismatch c.in-UnionMismatch.place) c.bad-in-UnionMismatch.result c.in-UnionMismatch.is c.bad-in-UnionMismatch.ensures union

pub returns-in-TooWide : goal.returns-in-TooWide
returns-in-TooWide c = told_on c.args.line c.args.fault (type.TooWide c.in-TooWide.count) (query.TooWide c.in-TooWide.count) c.bad-in-TooWide.result c.in-TooWide.is c.bad-in-TooWide.ensures wide

pub returns-in-TooFine : goal.returns-in-TooFine
returns-in-TooFine c = told_on c.args.line c.args.fault (type.TooFine c.in-TooFine.places) (query.TooFine c.in-TooFine.places) c.bad-in-TooFine.result c.in-TooFine.is c.bad-in-TooFine.ensures fine
