use Rattle.std.proofs.Common.{All, ℕ, ◌<◌}
use Rattle.log_walk.proofs.together.deal.Given as goal

abbrev pub invariant-loop-number : goal.invariant-loop-number
invariant-loop-number l = (n : ℕ) → All (λ (place : ℕ). place < n) l.fn.lanes → All (λ (place : ℕ). place < n) l.fn.dealt.items → All (λ (place : ℕ). place < n) l.dealt.items
