-- Images are read from their bytes.
use Rattle.std.proofs.Common.{◌≡◌, ℕ, ◌^◌, ◌≤◌, ltb, Bool, true, false, cond, List, [], ◌∷◌, ◌++◌, length, take, drop, Result, Ok, Err, refl, sym, ap, subst, ◌∙◌, append_assoc}
use Rattle.std.specs.Prelude.{nat_eq, IfOk}
use Rattle.std.specs.List.{starts_with}
use Rattle.std.proofs.lemmas.Bool.{ltb-false, le-ltb}
use Rattle.std.proofs.lemmas.List.{take-append-drop, append-nil}
use Rattle.std.proofs.lemmas.Slice.Eq.{bytes_eq-Decides}
use Rattle.snap_codec.specs.declared.fault.SnapFault.{SnapFault}
use Rattle.snap_codec.specs.declared.fault.SnapFault.TheVariants.{NotSnapshot, TooBig}
use Rattle.snap_codec.specs.declared.image.Image.{Image}
use Rattle.snap_codec.specs.Answers.{Gives}
use Rattle.snap_codec.specs.Fitting.{IsTime}
use Rattle.snap_codec.specs.Reading.{◌>>=◌, decoded, ended, item_at, list_at, open_at, parts_at, place_in, text_at, time_at}
use Rattle.snap_codec.specs.Snapshot.{IsSnapshotOf}
use Rattle.snap_codec.specs.Spelling.{image_bytes, item_bytes, list_bytes, magic, open_bytes, parts_bytes, text_bytes, time_bytes}
use Rattle.snap_codec.proofs.FieldLemmas.{text_reads, time_reads}
use Rattle.snap_codec.proofs.ListReads.{list_reads}
use Rattle.snap_codec.proofs.Short.{ShortImage, ShortItem, ShortList, ShortOpen}
use Rattle.snap_codec.proofs.ShortLemmas.{image_held, image_short}
use Rattle.snap_codec.proofs.Taking.{IsBytes, IsBytes-drop, Reads, Takes, Takes-then, bind_ok, guard_ok, ok_is}
use Rattle.snap_codec.proofs.TupleLemmas.{item_reads, open_reads}

-- the births are read from their bytes
births_reads : (total : ℕ) → Reads (list_bytes time_bytes) (ShortList IsTime) (list_at time_at total)
births_reads total = list_reads time_bytes IsTime time_at time_reads total

-- and the open events
events_reads : (total : ℕ) → Reads (list_bytes open_bytes) (ShortList ShortOpen) (list_at open_at total)
events_reads total = list_reads open_bytes ShortOpen open_at open_reads total

-- and a store
store_reads : (total : ℕ) → Reads (list_bytes item_bytes) (ShortList ShortItem) (list_at item_at total)
store_reads total = list_reads item_bytes ShortItem item_at item_reads total

-- and all stores
stores_reads : (total : ℕ) → Reads (list_bytes (list_bytes item_bytes)) (ShortList (ShortList ShortItem)) (list_at (list_at item_at) total)
stores_reads total = list_reads (list_bytes item_bytes) (ShortList ShortItem) (list_at item_at) store_reads total

-- parts one after the other, the last behind all
chained : (text births last opened events stores rest : List ℕ)
    → (text ++ (births ++ (last ++ (opened ++ (events ++ stores))))) ++ rest ≡ text ++ (births ++ (last ++ (opened ++ (events ++ (stores ++ rest)))))
chained text births last opened events stores rest = simp append_assoc

parts_takes : (total : ℕ) (bytes : List ℕ) (image : Image) (rest : List ℕ) → IsBytes bytes → parts_at total bytes ≡ Ok (image, rest) → Takes bytes (parts_bytes image) rest × ShortImage image
unfolding parts_at
parts_takes total bytes image rest fits e =
    let a = bind_ok (text_at total bytes) (λ text. list_at time_at total text.1 >>= λ births. time_at total births.1 >>= λ last. time_at total last.1 >>= λ opened. list_at open_at total opened.1 >>= λ events. list_at (list_at item_at) total events.1 >>= λ stores. Ok (record { text = text.0; births = births.0; last = last.0; opened = opened.0; events = events.0; stores = stores.0 }, stores.1)) (image, rest) e in
    let b = bind_ok (list_at time_at total a.0.1) (λ births. time_at total births.1 >>= λ last. time_at total last.1 >>= λ opened. list_at open_at total opened.1 >>= λ events. list_at (list_at item_at) total events.1 >>= λ stores. Ok (record { text = a.0.0; births = births.0; last = last.0; opened = opened.0; events = events.0; stores = stores.0 }, stores.1)) (image, rest) a.2 in
    let c = bind_ok (time_at total b.0.1) (λ last. time_at total last.1 >>= λ opened. list_at open_at total opened.1 >>= λ events. list_at (list_at item_at) total events.1 >>= λ stores. Ok (record { text = a.0.0; births = b.0.0; last = last.0; opened = opened.0; events = events.0; stores = stores.0 }, stores.1)) (image, rest) b.2 in
    let d = bind_ok (time_at total c.0.1) (λ opened. list_at open_at total opened.1 >>= λ events. list_at (list_at item_at) total events.1 >>= λ stores. Ok (record { text = a.0.0; births = b.0.0; last = c.0.0; opened = opened.0; events = events.0; stores = stores.0 }, stores.1)) (image, rest) c.2 in
    let f = bind_ok (list_at open_at total d.0.1) (λ events. list_at (list_at item_at) total events.1 >>= λ stores. Ok (record { text = a.0.0; births = b.0.0; last = c.0.0; opened = d.0.0; events = events.0; stores = stores.0 }, stores.1)) (image, rest) d.2 in
    let g = bind_ok (list_at (list_at item_at) total f.0.1) (λ stores. Ok (record { text = a.0.0; births = b.0.0; last = c.0.0; opened = d.0.0; events = f.0.0; stores = stores.0 }, stores.1)) (image, rest) f.2 in
    let t0 = (text_reads (place_in total bytes)).takes bytes a.0.0 a.0.1 fits a.1 in
    let t1 = (births_reads total).takes a.0.1 b.0.0 b.0.1 t0.0.rest_fits b.1 in
    let t2 = (time_reads total).takes b.0.1 c.0.0 c.0.1 t1.0.rest_fits c.1 in
    let t3 = (time_reads total).takes c.0.1 d.0.0 d.0.1 t2.0.rest_fits d.1 in
    let t4 = (events_reads total).takes d.0.1 f.0.0 f.0.1 t3.0.rest_fits f.1 in
    let t5 = (stores_reads total).takes f.0.1 g.0.0 g.0.1 t4.0.rest_fits g.1 in
    let made : Image × List ℕ = (record { text = a.0.0; births = b.0.0; last = c.0.0; opened = d.0.0; events = f.0.0; stores = g.0.0 }, g.0.1) in
    let e45 = Takes-then d.0.1 (list_bytes open_bytes f.0.0) f.0.1 (list_bytes (list_bytes item_bytes) g.0.0) g.0.1 t4.0 t5.0 in
    let e35 = Takes-then c.0.1 (time_bytes d.0.0) d.0.1 (list_bytes open_bytes f.0.0 ++ list_bytes (list_bytes item_bytes) g.0.0) g.0.1 t3.0 e45 in
    let e25 = Takes-then b.0.1 (time_bytes c.0.0) c.0.1 (time_bytes d.0.0 ++ (list_bytes open_bytes f.0.0 ++ list_bytes (list_bytes item_bytes) g.0.0)) g.0.1 t2.0 e35 in
    let e15 = Takes-then a.0.1 (list_bytes time_bytes b.0.0) b.0.1 (time_bytes c.0.0 ++ (time_bytes d.0.0 ++ (list_bytes open_bytes f.0.0 ++ list_bytes (list_bytes item_bytes) g.0.0))) g.0.1 t1.0 e25 in
    let e05 = Takes-then bytes (text_bytes a.0.0) a.0.1 (list_bytes time_bytes b.0.0 ++ (time_bytes c.0.0 ++ (time_bytes d.0.0 ++ (list_bytes open_bytes f.0.0 ++ list_bytes (list_bytes item_bytes) g.0.0)))) g.0.1 t0.0 e15 in
    subst (λ (x : Image × List ℕ). Takes bytes (parts_bytes x.0) x.1 × ShortImage x.0) {x = made} (ok_is made (image, rest) g.2)
    (e05, record { text = t0.1; births = t1.1; last = t2.1; opened = t3.1; events = t4.1; stores = t5.1 })

parts_again : (total : ℕ) (image : Image) (rest : List ℕ) → ShortImage image → parts_at total (parts_bytes image ++ rest) ≡ Ok (image, rest)
unfolding parts_at
parts_again total image rest fits =
    let p5 = list_bytes (list_bytes item_bytes) image.stores ++ rest in
    let p4 = list_bytes open_bytes image.events ++ p5 in
    let p3 = time_bytes image.opened ++ p4 in
    let p2 = time_bytes image.last ++ p3 in
    let p1 = list_bytes time_bytes image.births ++ p2 in
    let p0 = text_bytes image.text ++ p1 in
    let regrouped : parts_bytes image ++ rest ≡ p0 = chained (text_bytes image.text) (list_bytes time_bytes image.births) (time_bytes image.last) (time_bytes image.opened) (list_bytes open_bytes image.events) (list_bytes (list_bytes item_bytes) image.stores) rest in
    ap (parts_at total) regrouped
    ∙ rw ((text_reads (place_in total p0)).again image.text p1 fits.text, (births_reads total).again image.births p2 fits.births, (time_reads total).again image.last p3 fits.last, (time_reads total).again image.opened p4 fits.opened, (events_reads total).again image.events p5 fits.events, (stores_reads total).again image.stores rest fits.stores) refl

-- a test that must be true didn't fail
chosen_ok : {A : Type 0} (b : Bool) (fault : SnapFault) (x : Result A SnapFault) (z : A) → cond b x (Err fault) ≡ Ok z → (b ≡ true) × (x ≡ Ok z)
chosen_ok true fault x z e = (refl, e)
chosen_ok false fault x z e = absurd cc

-- no byte was left
ended_ok : (total : ℕ) (image : Image) (bytes : List ℕ) (other : Image) → ended total image bytes ≡ Ok other → (bytes ≡ []) × (image ≡ other)
unfolding ended
ended_ok total image [] other e = (refl, ok_is image other e)
ended_ok total image (b ∷ bytes) other e = absurd cc

-- what bytes read as is an image, whose bytes they are
decoded_takes : (bytes : List ℕ) (image : Image) → IsBytes bytes → decoded bytes ≡ Ok image → ShortImage image × (bytes ≡ image_bytes image) × (length bytes ≤ 2 ^ 32)
unfolding decoded
decoded_takes bytes image fits e =
    let inner = parts_at (length bytes) (drop 8 bytes) >>= λ parts. ended (length bytes) parts.0 parts.1 in
    let g = guard_ok (ltb (2 ^ 32) (length bytes)) TooBig (cond (starts_with nat_eq bytes magic) inner (Err NotSnapshot)) (Ok image) image refl e in
    let h = chosen_ok (starts_with nat_eq bytes magic) NotSnapshot inner image g.1 in
    let p = bind_ok (parts_at (length bytes) (drop 8 bytes)) (λ parts. ended (length bytes) parts.0 parts.1) image h.1 in
    let n = ended_ok (length bytes) p.0.0 p.0.1 image p.2 in
    let t = parts_takes (length bytes) (drop 8 bytes) p.0.0 p.0.1 (IsBytes-drop 8 bytes fits) p.1 in
    let front : magic ≡ take 8 bytes = (bytes_eq-Decides magic (take 8 bytes)).0 h.0 in
    let behind : drop 8 bytes ≡ parts_bytes p.0.0 = t.0.parts ∙ ap (λ (rest : List ℕ). parts_bytes p.0.0 ++ rest) n.0 ∙ append-nil (parts_bytes p.0.0) in
    let whole : bytes ≡ image_bytes p.0.0 = sym (take-append-drop 8 bytes) ∙ (λ i. sym front i ++ behind i) in
    subst (λ (made : Image). ShortImage made × (bytes ≡ image_bytes made) × (length bytes ≤ 2 ^ 32)) n.1 (t.1, whole, ltb-false _ _ g.0)

-- the bytes of an image read as it
decoded_again : (image : Image) → ShortImage image → length (image_bytes image) ≤ 2 ^ 32 → decoded (image_bytes image) ≡ Ok image
unfolding decoded ended
decoded_again image fits long =
    let bytes = image_bytes image in
    let short : ltb (2 ^ 32) (length bytes) ≡ false = le-ltb _ _ long in
    let read : parts_at (length bytes) (parts_bytes image) ≡ Ok (image, []) = ap (parts_at (length bytes)) (sym (append-nil (parts_bytes image))) ∙ parts_again (length bytes) image [] fits in
    rw (short, read) refl

-- an answer that gives what was decoded gives images alone, whose snapshot the bytes are
pub is_decoded : (bytes : List ℕ) (answer : Result Image SnapFault) → IsBytes bytes → Gives (λ image. image) answer (decoded bytes) → IfOk answer (IsSnapshotOf bytes)
is_decoded bytes (Ok image) fits given =
    let taken = decoded_takes bytes image fits given in
    record { holds = image_held image taken.0; spelled = taken.1; size = taken.2 }
is_decoded bytes (Err fault) fits given = tt

-- and gives each image whose snapshot the bytes are
pub each_decoded : (bytes : List ℕ) (image : Image) → IsSnapshotOf bytes image → decoded bytes ≡ Ok image
each_decoded bytes image is =
    let few : length (image_bytes image) ≤ 2 ^ 32 = subst (λ (bytes : List ℕ). length bytes ≤ 2 ^ 32) is.spelled is.size in
    ap decoded is.spelled ∙ decoded_again image (image_short image is.holds few) few
