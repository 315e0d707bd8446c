-- Ids filed for each of the two questions. No public clause cites it.
use Rattle.std.specs.Prelude.{◌≡◌, ◌≢◌, ℕ, true, List, Contains}
use Rattle.std.specs.List.{All}
use Rattle.event_types.specs.Tuple.{TupleView}
use Rattle.static_index.specs.Choosing.{Covers, IsBest}
use Rattle.static_index.specs.Entries.{AreOrdered}
use Rattle.static_index.specs.Headings.{label_of}
use Rattle.static_index.specs.Table.{holds_as}
use Rattle.static_index.specs.Tables.{filed_ids}
use Rattle.static_index.specs.declared.entry.Asked.{Asked}
use Rattle.static_index.specs.declared.entry.Choice.TheVariants.{Part}
use Rattle.static_index.specs.declared.entry.Entry.{Entry}
use Rattle.static_index.specs.declared.filing.Filing.{Filing}

-- an id is filed under the first part of its condition, and under what was chosen, which an event meets where all the parts hold
pub record IsFiled (filing : Filing) (id : ℕ) (entry : Entry) : Type 0 where
  pub covers : Covers entry.parts entry.choice.value
  pub first : Contains (filed_ids filing.firsts (label_of entry.parts (Part 0))) id
  pub choice : Contains (filed_ids filing.choices (label_of entry.parts entry.choice.value)) id

-- each id but one stays filed
abbrev pub KeepsOthers : ℕ → Filing → Filing → Type 0
KeepsOthers id old new = (n : ℕ) (e : Entry) → n ≢ id → IsFiled old n e → IsFiled new n e

-- each id is found whose parts that are asked hold for an event
abbrev pub FindsAsked : Asked → TupleView → Filing → List ℕ → Type 0
FindsAsked asked event filing found = (n : ℕ) (e : Entry) → IsFiled filing n e → holds_as asked event e.parts ≡ true → Contains found n

-- what an index keeps: its entries stand in order, each is filed, and none under what comes after another of its parts
pub record Keeps (entries : List (ℕ × Entry)) (filing : Filing) : Type 0 where
  pub ordered : AreOrdered entries
  pub filed : All (λ e. IsFiled filing e.0 e.1) entries
  pub best : All (λ e. IsBest e.1.choice.value e.1.parts) entries
