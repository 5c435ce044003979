-- Which of two lanes went further, on their records.
use Rattle.std.proofs.Common.{◌≡◌, ◌⊎◌, ℕ, zero, suc, ◌<◌, List, [], ◌∷◌, ◌++◌, refl, inl, inr, arith}
use Rattle.log_format.specs.declared.record.Record.{Record}
use Rattle.log_format.specs.declared.record.Kind.{Kind}
use Rattle.log_format.specs.declared.record.Kind.TheVariants.{Write, Barrier, End}
use Rattle.lane_runner.specs.Stopping.{GoesFurther}

abbrev mark : Kind → Record
mark kind = record { kind = kind; size = 0; site = 0; line = 1; addr = 0; value = 0 }

-- one that passed the barrier that the other didn't reach
pub past_the_barrier : GoesFurther (mark Barrier ∷ []) (mark Write ∷ mark Write ∷ [])
past_the_barrier = inl (omega arith)

-- and one that ended
pub ended : GoesFurther (mark End ∷ []) (mark Barrier ∷ [])
ended = inr (record { prefix = []; last = mark End; parts = refl; ends = refl })

-- but not one that passed the same barrier and no more, whatever it did then
pub as_far_is_not_further : GoesFurther (mark Barrier ∷ mark Write ∷ []) (mark Barrier ∷ []) → ⊥
as_far_is_not_further (inl less) = omega arith
as_far_is_not_further (inr end) = last_is_no_end end.prefix end.last end.parts end.ends where
  last_is_no_end : (prefix : List Record) (last : Record) → mark Barrier ∷ mark Write ∷ [] ≡ prefix ++ last ∷ [] → last.kind ≡ End → ⊥
  last_is_no_end [] last parts ends = cc
  last_is_no_end (r ∷ []) last parts ends = cc
  last_is_no_end (r ∷ s ∷ []) last parts ends = cc
  last_is_no_end (r ∷ s ∷ t ∷ prefix) last parts ends = cc
