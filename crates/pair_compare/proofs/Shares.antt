-- How many runs are left when a worker got its share.
use Rattle.std.proofs.Common.{◌≡◌, ◌⊎◌, inl, inr, ◌+◌, ◌*◌, ◌-◌, ◌/◌, ◌≤◌, ◌<◌, ℕ, suc, arith}
use Rattle.std.proofs.lemmas.Nat.{div-add-mod', mod_below}
use Rattle.std.proofs.Math.Nat.{mul-le-mul_left}

-- of v + 1 workers one got its equal share or more, and v are left
pub left_over : (v most total taken : ℕ) → total ≤ suc v * most → total / suc v ≤ taken → total - taken ≤ v * most
left_over v most total taken fits enough =
    let whole = div-add-mod' total (suc v) in
    let below = mod_below total (suc v) (omega arith) in
    elim (either most (total / suc v)) [
      | inl large ↦
          let split : suc v * most ≡ most + v * most = grind arith in
          omega (arith, fits, large, enough, split)
      | inr small ↦
          let split : total / suc v * suc v ≡ total / suc v + v * (total / suc v) = grind arith in
          let next : v * suc (total / suc v) ≡ v + v * (total / suc v) = grind arith in
          let less : v * suc (total / suc v) ≤ v * most = mul-le-mul_left v small in
          omega (arith, whole, below, split, next, less, enough)
    ]
  where
    either : (m n : ℕ) → (m ≤ n) ⊎ (n < m)
    either m n = grind arith
