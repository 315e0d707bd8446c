-- The schema and the expression of a source, and its first fault. Conditions stand in their canonical form.
use Rattle.std.specs.Prelude.{◌≡◌, ◌+◌, ◌<◌, ◌≤◌, ℕ, List, [], length, slice_get, Some, None}
use Rattle.semantics.specs.Scalars.{Sc, Pr, Projection}
use Rattle.semantics.specs.Expressions.{Ex}
use Rattle.semantics.specs.Expressions as ex
use Rattle.scalar_expr.specs.Canonical.{canonical}
use Rattle.stream_schema.specs.Joining.{joined_schema}
use Rattle.stream_schema.specs.Schema.{Attr}
use Rattle.stream_schema.specs.Streams.{Entry, number_of, schemas_of}
use Rattle.cel_grammar.specs.Trees.{Pred, Item, Agg, Source}
use Rattle.cel_grammar.specs.Trees as tree
use Rattle.cel_types.specs.declared.fault.TypeFault.{TypeFault}
use Rattle.cel_types.specs.declared.fault.TypeFault.TheVariants.{UnionMismatch, TooWide}
use Rattle.cel_types.specs.Scopes.{Alone, Sequence, Iteration}
use Rattle.cel_types.specs.Predicates.{Means, Fails}
use Rattle.cel_types.specs.Items.{Make, FailToMake}
use Rattle.cel_types.specs.Aggregates.{Assignment, Assign, FailToAssign, rebinding}
use Rattle.cel_types.specs.Unions.{difference_from}

-- a projection of tuples of a schema; for FOLD these are the events
abbrev pub over : List Attr → List Sc → Projection
over schema terms = record { width = length schema; parts = terms }

-- over the table of streams, the source has this schema and this expression
pub data Elaborates (streams : List Entry) : Source → List Attr → Ex → Type 0 where
  name : {a : List ℕ} {n : ℕ} {schema : List Attr} → number_of a streams ≡ Some n → slice_get (schemas_of streams) n ≡ Some schema → Elaborates streams (tree.Name a) schema (ex.Read n)
  filter : {p : Pred} {e : Source} {schema : List Attr} {x : Ex} {u : Pr} → Elaborates streams e schema x → Means (Alone schema) p u → Elaborates streams (tree.Filter p e) schema (ex.Filter (canonical u) x)
  select : {items : List Item} {e : Source} {schema made : List Attr} {x : Ex} {terms : List Sc} → Elaborates streams e schema x → Make schema [] items made terms → length made ≤ 256 → Elaborates streams (tree.Select items e) made (ex.Select (over schema terms) x)
  union : {e f : Source} {left right : List Attr} {x y : Ex} → Elaborates streams e left x → Elaborates streams f right y → difference_from 1 left right ≡ None → Elaborates streams (tree.Union e f) left (ex.Union x y)
  next : {p : Pred} {e f : Source} {left right : List Attr} {x y : Ex} {u : Pr} → Elaborates streams e left x → Elaborates streams f right y → length left + length right ≤ 256 → Means (Sequence left right) p u → Elaborates streams (tree.Next p e f) (joined_schema left right) (ex.Next (canonical u) x y)
  fold : {p q : Pred} {aggs : List Agg} {e f : Source} {left right : List Attr} {x y : Ex} {u v : Pr} {assignments : List Assignment}
      → Elaborates streams e left x → Elaborates streams f right y → Means (Iteration left right) p u → Means (Iteration left right) q v → Assign left right [] aggs assignments
      → Elaborates streams (tree.Fold p q aggs e f) left (ex.Fold (canonical u) (canonical v) (over right (rebinding left assignments)) x y)

-- the first fault of a source: its sources' from left to right; of UNION then that they differ, of NEXT that they are too wide together; then those of its conditions, items and aggregates as they are written; of SELECT last that its schema is too wide
pub data FailsToElaborate (streams : List Entry) : Source → TypeFault → Type 0 where
  filter_source : {p : Pred} {e : Source} {f : TypeFault} → FailsToElaborate streams e f → FailsToElaborate streams (tree.Filter p e) f
  filter_condition : {p : Pred} {e : Source} {schema : List Attr} {x : Ex} {f : TypeFault} → Elaborates streams e schema x → Fails (Alone schema) p f → FailsToElaborate streams (tree.Filter p e) f
  select_source : {items : List Item} {e : Source} {f : TypeFault} → FailsToElaborate streams e f → FailsToElaborate streams (tree.Select items e) f
  select_items : {items : List Item} {e : Source} {schema : List Attr} {x : Ex} {f : TypeFault} → Elaborates streams e schema x → FailToMake schema [] items f → FailsToElaborate streams (tree.Select items e) f
  select_wide : {items : List Item} {e : Source} {schema made : List Attr} {x : Ex} {terms : List Sc} → Elaborates streams e schema x → Make schema [] items made terms → 256 < length made → FailsToElaborate streams (tree.Select items e) (TooWide (length made))
  union_left : {e g : Source} {f : TypeFault} → FailsToElaborate streams e f → FailsToElaborate streams (tree.Union e g) f
  union_right : {e g : Source} {left : List Attr} {x : Ex} {f : TypeFault} → Elaborates streams e left x → FailsToElaborate streams g f → FailsToElaborate streams (tree.Union e g) f
  union_schemas : {e g : Source} {left right : List Attr} {x y : Ex} {place : ℕ} → Elaborates streams e left x → Elaborates streams g right y → difference_from 1 left right ≡ Some place → FailsToElaborate streams (tree.Union e g) (UnionMismatch place)
  next_left : {p : Pred} {e g : Source} {f : TypeFault} → FailsToElaborate streams e f → FailsToElaborate streams (tree.Next p e g) f
  next_right : {p : Pred} {e g : Source} {left : List Attr} {x : Ex} {f : TypeFault} → Elaborates streams e left x → FailsToElaborate streams g f → FailsToElaborate streams (tree.Next p e g) f
  next_wide : {p : Pred} {e g : Source} {left right : List Attr} {x y : Ex} → Elaborates streams e left x → Elaborates streams g right y → 256 < length left + length right → FailsToElaborate streams (tree.Next p e g) (TooWide (length left + length right))
  next_condition : {p : Pred} {e g : Source} {left right : List Attr} {x y : Ex} {f : TypeFault} → Elaborates streams e left x → Elaborates streams g right y → length left + length right ≤ 256 → Fails (Sequence left right) p f → FailsToElaborate streams (tree.Next p e g) f
  fold_left : {p q : Pred} {aggs : List Agg} {e g : Source} {f : TypeFault} → FailsToElaborate streams e f → FailsToElaborate streams (tree.Fold p q aggs e g) f
  fold_right : {p q : Pred} {aggs : List Agg} {e g : Source} {left : List Attr} {x : Ex} {f : TypeFault} → Elaborates streams e left x → FailsToElaborate streams g f → FailsToElaborate streams (tree.Fold p q aggs e g) f
  fold_choose : {p q : Pred} {aggs : List Agg} {e g : Source} {left right : List Attr} {x y : Ex} {f : TypeFault} → Elaborates streams e left x → Elaborates streams g right y → Fails (Iteration left right) p f → FailsToElaborate streams (tree.Fold p q aggs e g) f
  fold_on : {p q : Pred} {aggs : List Agg} {e g : Source} {left right : List Attr} {x y : Ex} {u : Pr} {f : TypeFault} → Elaborates streams e left x → Elaborates streams g right y → Means (Iteration left right) p u → Fails (Iteration left right) q f → FailsToElaborate streams (tree.Fold p q aggs e g) f
  fold_sets : {p q : Pred} {aggs : List Agg} {e g : Source} {left right : List Attr} {x y : Ex} {u v : Pr} {f : TypeFault} → Elaborates streams e left x → Elaborates streams g right y → Means (Iteration left right) p u → Means (Iteration left right) q v → FailToAssign left right [] aggs f → FailsToElaborate streams (tree.Fold p q aggs e g) f
