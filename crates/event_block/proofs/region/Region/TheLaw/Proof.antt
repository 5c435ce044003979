-- A `&` to a region reaches the bytes that are written, and neither the room behind them nor the right to free. Assumes `Logic`.
use mathlib.Core.List.{[]}
use lib.ListN.{length}
use base.Fraction.{full_share}
use contract.BorrowLft.{meet_⊑_left}
use denote.RattleType.{RattleType}
use denote.Array.{Array, Array-row_laws}
use denote.Builtin.{u8}
use denote.Plain.{uint_row_laws}
use denote.RawPtr.{RawPtr, lies_at}
use denote.Param.Laws.{Laws}
use denote.Param.Shared.{copy_shared}
use denote.Shares.{Shares-less, Shares-Array}
use denote.Struct.Laws.{field_copy}
use denote.Struct.Lending.{lent_at, lent_at_shr_laws, Lends-first, Lends-lies, of_Lends}
use mir.Syntax.{w8}
use Rattle.core.specs.declared.alloc.Allocator.{Ghosts}
use Rattle.core.specs.contracts.marker.PhantomData as marker
use Rattle.event_block.specs.contracts.region.Region as C
use Rattle.event_block.proofs.Bytes.{byte_laws}
use Rattle.event_block.proofs.region.Region.TheLaw.Statement.{statement}

pub shares : (A : RattleType) (g : Ghosts A.Denot) (P : Laws A) → statement A g P
shares A g P =
    of_Lends (C.struct A g) (C.the_codes A.Denot A.coded (marker.the_row RawPtr).coded) (C.the_heap A g) (C.the_lent A g)
    (λ d p. lent_at_shr_laws (Array u8 (length d.items)) (Array-row_laws u8 (uint_row_laws w8) (length d.items)) d.at d.items)
    (copy_shared (marker.the_field RawPtr) (field_copy (marker.the_type RawPtr) tt), tt)
    (λ M 𝓤 𝓛 d p.
    let l = (C.the_row A g).lives in let n = length d.items in
    Lends-first 𝓛 (lies_at (Array u8 n) full_share d.at d.items) _ (lent_at (Array u8 n) d.at d.items) l
    (Lends-lies 𝓛 (Array u8 n) l d.at d.items (Shares-Array 𝓛 u8 tt n l (Shares-less 𝓛 u8 [] l (meet_⊑_left [] l) (byte_laws.shares 𝓛)) d.items)))
