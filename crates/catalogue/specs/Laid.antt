-- What is laid out and held of an accepted file. No public clause cites this.
use Rattle.std.specs.Prelude.{◌≡◌, ◌+◌, ◌-◌, ℕ, [], ◌++◌, length, map, sum_by}
use Rattle.expressions.specs.Views.{ex_of}
use Rattle.stream_schema.specs.Streams.{hidden_entries}
use Rattle.catalogue.specs.declared.laying.Held.{Held}
use Rattle.catalogue.specs.declared.laying.Laid.{Laid}
use Rattle.catalogue.specs.declared.laying.Typed.{Typed}
use Rattle.catalogue.specs.Catalogued.{queries_of}
use Rattle.catalogue.specs.Chained.{AreChained}
use Rattle.catalogue.specs.HeldParts.{first_lines}
use Rattle.catalogue.specs.Parts.{Parts, published_from}
use Rattle.catalogue.specs.Sharing.{shares_of}
use Rattle.catalogue.specs.Tallies.{AreTallied}

-- the declared streams are counted, this is the order of work, these are their lines with the layout and this they publish, each has its share, and their reads are tallied
pub record AreLaid (c : Parts) (laid : Laid) : Type 0 where
  pub declared : laid.declared ≡ length c.declared
  pub ordered : laid.order ≡ c.order
  pub chained : AreChained c laid.chains
  pub published : laid.published ≡ published_from (length c.declared) (length c.file.statements) (map ex_of c.expressions)
  pub shared : laid.shares ≡ shares_of (queries_of [] laid.published c.expressions)
  pub tallied : AreTallied c.expressions laid.reads

-- what is laid out is held, with hidden streams behind those of so many statements; the next end is the first behind all lines, and so many are the lines and the hops on them
pub record IsHeldOf (many : ℕ) (typed : Typed) (laid : Laid) (held : Held) : Type 0 where
  pub declared : held.declared ≡ laid.declared
  pub streams : held.streams ≡ typed.streams ++ hidden_entries many (length laid.chains.layout.kinds - many)
  pub work : held.work ≡ record { order = laid.order; published = laid.published; expressions = typed.expressions }
  pub chains : held.chains ≡ first_lines laid.chains laid.shares
  pub next_end : held.next_end ≡ length laid.chains.lines
  pub size : held.size ≡ sum_by (λ line. 1 + length line.hops) laid.chains.lines
  pub reads : held.reads ≡ laid.reads
