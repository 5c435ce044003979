use Rattle.std.proofs.Common.{All, ℕ, ◌<◌}
use Rattle.log_walk.proofs.together.shuffled.Given as goal

abbrev pub invariant-loop-worker : goal.invariant-loop-worker
invariant-loop-worker l = (n : ℕ) → All (λ (place : ℕ). place < n) l.lanes → All (λ (place : ℕ). place < n) l.dealt.items
