-- The spelling, computed on records whose bytes are known.
use Rattle.std.proofs.Common.{◌≡◌, [], ◌∷◌, ◌^◌, ◌-◌, refl}
use Rattle.log_format.specs.declared.record.Kind.TheVariants.{Read, Write, Update}
use Rattle.log_format.specs.Spelling.{spelling}

-- a read of eight bytes at 4096, on line 5
pub read_spelled : spelling (record { kind = Read; size = 8; site = 1; line = 5; addr = 4096; value = 0 })
    ≡ 1 ∷ 8 ∷ 0 ∷ 1 ∷ 0 ∷ 0 ∷ 0 ∷ 5 ∷ 0 ∷ 0 ∷ 0 ∷ 0 ∷ 0 ∷ 0 ∷ 16 ∷ 0 ∷ 0 ∷ 0 ∷ 0 ∷ 0 ∷ 0 ∷ 0 ∷ 0 ∷ 0 ∷ []
unfolding spelling
read_spelled = refl

-- a write of -56 to one byte at 4096
pub write_spelled : spelling (record { kind = Write; size = 1; site = 0; line = 1; addr = 4096; value = 2 ^ 64 - 56 })
    ≡ 2 ∷ 1 ∷ 0 ∷ 0 ∷ 0 ∷ 0 ∷ 0 ∷ 1 ∷ 0 ∷ 0 ∷ 0 ∷ 0 ∷ 0 ∷ 0 ∷ 16 ∷ 0 ∷ 255 ∷ 255 ∷ 255 ∷ 255 ∷ 255 ∷ 255 ∷ 255 ∷ 200 ∷ []
unfolding spelling
write_spelled = refl

-- an update that adds 1 to eight bytes at 4096
pub update_spelled : spelling (record { kind = Update; size = 8; site = 0; line = 5; addr = 4096; value = 1 })
    ≡ 9 ∷ 8 ∷ 0 ∷ 0 ∷ 0 ∷ 0 ∷ 0 ∷ 5 ∷ 0 ∷ 0 ∷ 0 ∷ 0 ∷ 0 ∷ 0 ∷ 16 ∷ 0 ∷ 0 ∷ 0 ∷ 0 ∷ 0 ∷ 0 ∷ 0 ∷ 0 ∷ 1 ∷ []
unfolding spelling
update_spelled = refl
