-- What a region owns names no thread, so it goes where its allocator's blocks may be freed.
use mathlib.Core.List.{List}
use lib.ListN.{length}
use Prim.Native.Nat.{ℕ, ◌*◌}
use mir.Syntax.{Ty}
use base.Fraction.{full_share}
use base.Shift.{Keyless}
use denote.RattleType.{RattleType}
use denote.Array.{Array}
use denote.Builtin.{u8}
use denote.RawPtr.{Ptr, block_ptr, null_ptr, room_for, ◌+ₚ◌}
use denote.Struct.Struct.{exits_of}
use denote.Struct.Owning.{shape, fields, to}
use denote.Param.Send.{IsSend, AllSend, owning_send, struct_send, array_send, sendable}
use Rattle.core.specs.declared.alloc.Allocator.{Ghosts}
use Rattle.std_alloc.proofs.SendSync.{FreesAnywhere, lies, quiet}
use Rattle.event_block.specs.contracts.region.Region as Region

room : (τ : Ty) (p : Ptr) → Keyless (room_for τ p)
room τ (block_ptr b o) = tt
room τ null_ptr = tt

bytes : (p : Ptr) (xs : List ℕ) → Keyless (denote.RawPtr.lies_at (Array u8 (length xs)) full_share p xs)
bytes p xs = lies (Array u8 (length xs)) (array_send u8 (length xs) (search sendable)) p xs

pub Region-send : (A : RattleType) (g : Ghosts A.Denot) → FreesAnywhere A.Denot g → IsSend (Region.the_row A g)
Region-send A g f =
    let O = Region.the_type A g in let all : AllSend (fields O) = (search sendable, tt) in
    owning_send O all (λ d. (bytes d.at d.items, (room _ (d.at +ₚ length d.items * 1), f.frees d.alloc _ d.at))) (λ k. quiet (to O) (exits_of k (fields O)) ((struct_send (shape O) all).leaving k))
