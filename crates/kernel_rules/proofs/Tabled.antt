-- The records that a task of a kernel within its bounds makes are of the table.
use Rattle.std.proofs.Common.{◌≡◌, refl, ℕ, ◌+◌, ◌*◌, ◌^◌, ◌<◌, ◌≤◌, min, Bool, true, false, cond, ℤ, pos, negsuc, List, Option, Some, None, nat_lt, slice_get, IfSome, arith}
use Rattle.std.proofs.Math.Facts.{Fits-of_z}
use Rattle.std.proofs.lemmas.Bool.Decides.{nat_tests}
use Rattle.log_format.specs.declared.format.TheConstants.{FORMAT}
use Rattle.log_format.specs.declared.record.Kind.{Kind}
use Rattle.log_format.specs.declared.record.Kind.TheVariants as kind
use Rattle.log_format.specs.declared.record.Why.{Why}
use Rattle.log_format.specs.declared.record.Why.TheVariants as why
use Rattle.log_format.specs.Table.{IsTabled, RecordFits, PassesTable}
use Rattle.kernel_syntax.specs.declared.syntax.Array.{Array}
use Rattle.log_format.specs.Fitting.{IsWidth, fitted}
use Rattle.kernel_syntax.specs.Bounds.{IsLine, IsPlace, IsSpan}
use Rattle.kernel_syntax.specs.Layout.{IsPlaced, ArePlaced}
use Rattle.kernel_syntax.proofs.Fitting.{fitted_fits}
use Rattle.kernel_model.specs.State.{event}
use Rattle.kernel_model.specs.Value.{Element, element_of, element_at, access}

-- ---- accesses

-- an element whose accesses are of the table
pub record IsPlacedElement (e : Element) : Type 0 where
  pub width : IsWidth e.width
  pub ends : e.addr + e.width ≤ 2 ^ 48

placed_at : (words i : ℕ) (a : Array) → IsPlaced words a → i < a.count → a.base + i * a.width + a.width ≤ 2 ^ 48
placed_at words i a placed lt =
    let next : (i + 1) * a.width ≤ a.count * a.width = grind arith in
    omega (arith, placed.ends)

placed_of : (words : ℕ) (a : Array) (i : ℤ) → IsPlaced words a → IfSome (element_of (Some a) i) IsPlacedElement
placed_of words a (negsuc i) placed = tt
placed_of words a (pos i) placed = by_count (nat_lt i a.count) refl
  where
    by_count : (b : Bool) → nat_lt i a.count ≡ b →
        IfSome (cond b (Some (record { addr = a.base + i * a.width; width = a.width })) None) IsPlacedElement
    by_count false is = tt
    by_count true is = record { width = placed.width; ends = placed_at words i a placed (grind (arith, nat_tests)) }

-- each element that a kernel can reach
pub placed_element : (arrays : List Array) (words array : ℕ) (i : ℤ) → ArePlaced arrays words → IfSome (element_at arrays array i) IsPlacedElement
placed_element arrays words array i placed = by_array (slice_get arrays array) refl
  where
    by_array : (o : Option Array) → slice_get arrays array ≡ o → IfSome (element_of o i) IsPlacedElement
    by_array None is = tt
    by_array (Some a) is = placed_of words a i (placed.each array a is)

byte_width : (width : ℕ) → IsWidth width → width < 2 ^ 8
byte_width width is = grind arith

module _ (e : Element) (site line : ℕ) (v : ℤ) (placed : IsPlacedElement e) (place : IsPlace line site) where
  access_fits : (k : Kind) → RecordFits (access k e site line (fitted v e.width))
  access_fits k = record {
    size = byte_width e.width placed.width;
    site = place.site_fits;
    line = place.line_is.fits;
    addr = let ends = placed.ends in omega arith;
    value = (Fits-of_z (fitted_fits v e.width placed.width)).fits;
  }

  read_passes : (w : Why) → PassesTable FORMAT (access kind.Read e site line (fitted v e.width)) w
  read_passes why.Kind = omega arith
  read_passes why.Size = placed.width
  read_passes why.LineZero = place.line_is.some
  read_passes why.Address = placed.ends
  read_passes why.Span = tt
  read_passes why.Reserved = tt

  write_passes : (w : Why) → PassesTable FORMAT (access kind.Write e site line (fitted v e.width)) w
  write_passes why.Kind = omega arith
  write_passes why.Size = placed.width
  write_passes why.LineZero = place.line_is.some
  write_passes why.Address = placed.ends
  write_passes why.Span = tt
  write_passes why.Reserved = tt

  update_passes : (w : Why) → PassesTable FORMAT (access kind.Update e site line (fitted v e.width)) w
  update_passes why.Kind = omega arith
  update_passes why.Size = placed.width
  update_passes why.LineZero = place.line_is.some
  update_passes why.Address = placed.ends
  update_passes why.Span = tt
  update_passes why.Reserved = tt

  pub tabled_read : IsTabled FORMAT (access kind.Read e site line (fitted v e.width))
  tabled_read = record { fits = access_fits kind.Read; passes = read_passes }

  pub tabled_write : IsTabled FORMAT (access kind.Write e site line (fitted v e.width))
  tabled_write = record { fits = access_fits kind.Write; passes = write_passes }

  pub tabled_update : IsTabled FORMAT (access kind.Update e site line (fitted v e.width))
  tabled_update = record { fits = access_fits kind.Update; passes = update_passes }

-- ---- records that are no accesses

event_fits : (k : Kind) (line addr value : ℕ) → IsLine line → addr < 2 ^ 64 → value < 2 ^ 64 → RecordFits (event k line addr value)
event_fits k line addr value is near small = record { size = omega arith; site = omega arith; line = is.fits; addr = near; value = small }

pub tabled_barrier : (line : ℕ) → IsLine line → IsTabled FORMAT (event kind.Barrier line 0 0)
tabled_barrier line is = record { fits = event_fits kind.Barrier line 0 0 is (omega arith) (omega arith); passes = passes }
  where
    passes : (w : Why) → PassesTable FORMAT (event kind.Barrier line 0 0) w
    passes why.Kind = omega arith
    passes why.Size = refl
    passes why.LineZero = is.some
    passes why.Address = tt
    passes why.Span = tt
    passes why.Reserved = (refl, refl, refl)

pub tabled_end : (line : ℕ) → IsLine line → IsTabled FORMAT (event kind.End line 0 0)
tabled_end line is = record { fits = event_fits kind.End line 0 0 is (omega arith) (omega arith); passes = passes }
  where
    passes : (w : Why) → PassesTable FORMAT (event kind.End line 0 0) w
    passes why.Kind = omega arith
    passes why.Size = refl
    passes why.LineZero = is.some
    passes why.Address = tt
    passes why.Span = tt
    passes why.Reserved = (refl, refl, refl)

pub tabled_region : (line span : ℕ) → IsLine line → IsSpan span → IsTabled FORMAT (event kind.Region line 0 span)
tabled_region line span is spans =
    let limit = spans.limit in
    record { fits = event_fits kind.Region line 0 span is (omega arith) (omega arith); passes = passes }
  where
    passes : (w : Why) → PassesTable FORMAT (event kind.Region line 0 span) w
    passes why.Kind = omega arith
    passes why.Size = refl
    passes why.LineZero = is.some
    passes why.Address = tt
    passes why.Span = (spans.some, spans.limit)
    passes why.Reserved = (refl, refl)

module _ (line mutex : ℕ) (is : IsLine line) (few : mutex ≤ 63) where
  lock_passes : (w : Why) → PassesTable FORMAT (event kind.Lock line mutex 0) w
  lock_passes why.Kind = omega arith
  lock_passes why.Size = refl
  lock_passes why.LineZero = is.some
  lock_passes why.Address = omega arith
  lock_passes why.Span = tt
  lock_passes why.Reserved = (refl, refl)

  unlock_passes : (w : Why) → PassesTable FORMAT (event kind.Unlock line mutex 0) w
  unlock_passes why.Kind = omega arith
  unlock_passes why.Size = refl
  unlock_passes why.LineZero = is.some
  unlock_passes why.Address = omega arith
  unlock_passes why.Span = tt
  unlock_passes why.Reserved = (refl, refl)

  pub tabled_lock : IsTabled FORMAT (event kind.Lock line mutex 0)
  tabled_lock = record { fits = event_fits kind.Lock line mutex 0 is (omega arith) (omega arith); passes = lock_passes }

  pub tabled_unlock : IsTabled FORMAT (event kind.Unlock line mutex 0)
  tabled_unlock = record { fits = event_fits kind.Unlock line mutex 0 is (omega arith) (omega arith); passes = unlock_passes }

pub tabled_chunk : (line q n : ℕ) → IsLine line → n < 2 ^ 64 → IsTabled FORMAT (event kind.Chunk line (min q n) n)
tabled_chunk line q n is small = record { fits = event_fits kind.Chunk line (min q n) n is (omega arith) small; passes = passes }
  where
    passes : (w : Why) → PassesTable FORMAT (event kind.Chunk line (min q n) n) w
    passes why.Kind = omega arith
    passes why.Size = refl
    passes why.LineZero = is.some
    passes why.Address = tt
    passes why.Span = tt
    passes why.Reserved = (refl, omega arith)
