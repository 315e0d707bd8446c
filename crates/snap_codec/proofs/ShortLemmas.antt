-- What an image may hold is what is read, where there are few bytes.
use Rattle.std.proofs.Common.{subst, ℕ, ◌^◌, ◌<◌, ◌≤◌, List, [], ◌∷◌, ◌++◌, length, arith}
use Rattle.std.specs.Prelude.{IsUtf8, Option, Some, None}
use Rattle.std.specs.List.{flat_map, AllByRecursion}
use Rattle.std.proofs.lemmas.List.{length-append}
use Rattle.std.proofs.lemmas.List.Concat.{flat_map-cons}
use Rattle.event_types.specs.Tuple.{TupleView}
use Rattle.event_types.specs.declared.value.Value.{Value}
use Rattle.event_types.specs.declared.value.Value.TheVariants.{Int, Over, Text, Dec}
use Rattle.snap_codec.specs.declared.image.Image.{Image}
use Rattle.snap_codec.specs.Fitting.{IsImage, IsItem, IsOpen, IsTime, IsTuple, IsValue}
use Rattle.snap_codec.specs.Spelling.{image_bytes, item_bytes, list_bytes, magic, number_bytes, open_bytes, text_bytes, time_bytes, tuple_bytes, value_bytes}
use Rattle.snap_codec.proofs.NumberLemmas.{number_long}
use Rattle.snap_codec.proofs.Short.{ShortImage, ShortItem, ShortList, ShortOpen, ShortText, ShortTuple, ShortValue}

-- what has so many bytes at most
abbrev IsShort : List ℕ → Type 0
IsShort bytes = length bytes < 2 ^ 64

-- each has a byte; what is read may be held, and of few bytes what may be held is read
record Grows {X : Type 0} (bytes_of : X → List ℕ) (Held Short : X → Type 0) : Type 0 where
  some : (x : X) → 0 < length (bytes_of x)
  held : (x : X) → Short x → Held x
  short : (x : X) → Held x → IsShort (bytes_of x) → Short x

-- parts of few bytes have few bytes
first_short : (xs ys : List ℕ) → IsShort (xs ++ ys) → IsShort xs
first_short xs ys short = omega (arith, length-append xs ys, short)

-- and so have the parts behind them
second_short : (xs ys : List ℕ) → IsShort (xs ++ ys) → IsShort ys
second_short xs ys short = omega (arith, length-append xs ys, short)

text_short : (text : List ℕ) → IsUtf8 text → IsShort (text_bytes text) → ShortText text
text_short text utf8 short = record { utf8 = utf8; long = second_short (number_bytes (length text)) text short }

module _ {X : Type 0} (bytes_of : X → List ℕ) (Held Short : X → Type 0) (grows : Grows bytes_of Held Short) where
  -- there are no more items than bytes
  items_few : (items : List X) → length items ≤ length (flat_map bytes_of items)
  items_few [] = omega arith
  items_few (x ∷ xs) = rw flat_map-cons (omega (arith, length-append (bytes_of x) (flat_map bytes_of xs), grows.some x, items_few xs))

  items_short : (items : List X) → AllByRecursion Held items → IsShort (flat_map bytes_of items) → AllByRecursion Short items
  items_short [] all short = tt
  items_short (x ∷ xs) all short =
      let parts : IsShort (bytes_of x ++ flat_map bytes_of xs) = subst IsShort (flat_map-cons bytes_of x xs) short in
      (grows.short x all.0 (first_short (bytes_of x) (flat_map bytes_of xs) parts), items_short xs all.1 (second_short (bytes_of x) (flat_map bytes_of xs) parts))

  list_short : (items : List X) → AllByRecursion Held items → IsShort (list_bytes bytes_of items) → ShortList Short items
  list_short items all short =
      let behind = second_short (number_bytes (length items)) (flat_map bytes_of items) short in
      record { all = items_short items all behind; long = omega (arith, items_few items, behind) }

  list_held : (items : List X) → AllByRecursion Short items → AllByRecursion Held items
  list_held [] all = tt
  list_held (x ∷ xs) all = (grows.held x all.0, list_held xs all.1)

  -- so do lists
  list_grows : Grows (list_bytes bytes_of) (AllByRecursion Held) (ShortList Short)
  list_grows = record {
    some = λ items. omega (arith, length-append (number_bytes (length items)) (flat_map bytes_of items), number_long (length items));
    held = λ items fits. list_held items fits.all;
    short = list_short;
  }

time_grows : Grows time_bytes IsTime IsTime
time_grows = record { some = some; held = λ time h. h; short = λ time h few. h }
  where
    some : (time : Option ℕ) → 0 < length (time_bytes time)
    some None = omega arith
    some (Some t) = omega arith

value_grows : Grows value_bytes IsValue ShortValue
value_grows = record { some = some; held = held; short = short }
  where
    some : (value : Value) → 0 < length (value_bytes value)
    some (Int z) = omega arith
    some Over = omega arith
    some (Text t) = omega arith
    some (Dec s u) = omega arith

    held : (value : Value) → ShortValue value → IsValue value
    held (Int z) h = h
    held Over h = h
    held (Text t) h = h.utf8
    held (Dec s u) h = h

    short : (value : Value) → IsValue value → IsShort (value_bytes value) → ShortValue value
    short (Int z) h few = h
    short Over h few = h
    short (Text t) h few = text_short t h (second_short (2 ∷ []) (text_bytes t) few)
    short (Dec s u) h few = h

vals_grow : Grows (list_bytes value_bytes) (AllByRecursion IsValue) (ShortList ShortValue)
vals_grow = list_grows value_bytes IsValue ShortValue value_grows

tuple_held : (tuple : TupleView) → ShortTuple tuple → IsTuple tuple
tuple_held tuple fits = record { from = fits.from; at = fits.at; in_order = fits.in_order; vals = vals_grow.held tuple.vals fits.vals }

tuple_short : (tuple : TupleView) → IsTuple tuple → IsShort (tuple_bytes tuple) → ShortTuple tuple
tuple_short tuple fits short =
    let behind = second_short (number_bytes tuple.at) (list_bytes value_bytes tuple.vals) (second_short (number_bytes tuple.from) (number_bytes tuple.at ++ list_bytes value_bytes tuple.vals) short) in
    record { from = fits.from; at = fits.at; in_order = fits.in_order; vals = vals_grow.short tuple.vals fits.vals behind }

open_grows : Grows open_bytes IsOpen ShortOpen
open_grows = record {
  some = λ event. omega (arith, length-append (number_bytes event.place) (tuple_bytes event.tuple), number_long event.place);
  held = λ event fits. (fits.0, tuple_held event.tuple fits.1);
  short = λ event fits few. (fits.0, tuple_short event.tuple fits.1 (second_short (number_bytes event.place) (tuple_bytes event.tuple) few));
}

item_grows : Grows item_bytes IsItem ShortItem
item_grows = record {
  some = λ item. omega (arith, length-append (number_bytes item.first) (tuple_bytes item.tuple), number_long item.first);
  held = λ item fits. (fits.0, tuple_held item.tuple fits.1);
  short = λ item fits few. (fits.0, tuple_short item.tuple fits.1 (second_short (number_bytes item.first) (tuple_bytes item.tuple) few));
}

births_grow : Grows (list_bytes time_bytes) (AllByRecursion IsTime) (ShortList IsTime)
births_grow = list_grows time_bytes IsTime IsTime time_grows

events_grow : Grows (list_bytes open_bytes) (AllByRecursion IsOpen) (ShortList ShortOpen)
events_grow = list_grows open_bytes IsOpen ShortOpen open_grows

stores_grow : Grows (list_bytes (list_bytes item_bytes)) (AllByRecursion (AllByRecursion IsItem)) (ShortList (ShortList ShortItem))
stores_grow = list_grows (list_bytes item_bytes) (AllByRecursion IsItem) (ShortList ShortItem) (list_grows item_bytes IsItem ShortItem item_grows)

-- what is read may be held
pub image_held : (image : Image) → ShortImage image → IsImage image
image_held image fits = record {
  text = fits.text.utf8;
  births = births_grow.held image.births fits.births;
  last = fits.last;
  opened = fits.opened;
  events = events_grow.held image.events fits.events;
  stores = stores_grow.held image.stores fits.stores;
}

-- of few bytes what may be held is read
pub image_short : (image : Image) → IsImage image → length (image_bytes image) ≤ 2 ^ 32 → ShortImage image
image_short image fits few =
    let p4 = list_bytes open_bytes image.events ++ list_bytes (list_bytes item_bytes) image.stores in
    let p3 = time_bytes image.opened ++ p4 in
    let p2 = time_bytes image.last ++ p3 in
    let p1 = list_bytes time_bytes image.births ++ p2 in
    let all : IsShort (text_bytes image.text ++ p1) = second_short magic (text_bytes image.text ++ p1) (below (image_bytes image) few) in
    let s1 = second_short (text_bytes image.text) p1 all in
    let s2 = second_short (list_bytes time_bytes image.births) p2 s1 in
    let s3 = second_short (time_bytes image.last) p3 s2 in
    let s4 = second_short (time_bytes image.opened) p4 s3 in
    record {
      text = text_short image.text fits.text (first_short (text_bytes image.text) p1 all);
      births = births_grow.short image.births fits.births (first_short (list_bytes time_bytes image.births) p2 s1);
      last = fits.last;
      opened = fits.opened;
      events = events_grow.short image.events fits.events (first_short (list_bytes open_bytes image.events) (list_bytes (list_bytes item_bytes) image.stores) s4);
      stores = stores_grow.short image.stores fits.stores (second_short (list_bytes open_bytes image.events) (list_bytes (list_bytes item_bytes) image.stores) s4);
    }
  where
    below : (bytes : List ℕ) → length bytes ≤ 2 ^ 32 → IsShort bytes
    below bytes few = omega (arith, few)
