-- Two lines have one least race, and two records that race one first byte.
use Rattle.std.proofs.Common.{◌≡◌, inl, inr, ap, sym, ◌∙◌, subst, ℕ, Some, arith}
use Rattle.std.proofs.lemmas.Option.{same_Some}
use Rattle.log_format.specs.declared.record.Record.{Record}
use Rattle.race_model.specs.Race.{IsRace}
use Rattle.race_model.specs.Trace.{Trace, Logs, Node, record_at, logs_of}
use Rattle.explain.specs.Least.{IsLeastWitness, IsUpTo, IsWitness}
use Rattle.explain.specs.Witness.{IsConfirmed, IsLeastByte, NamesRecord}
use Rattle.explain.specs.declared.explaining.RacePair.{RacePair}
use Rattle.explain.proofs.Witnesses.{named_once}

least_byte_once : (r s : Record) (byte other : ℕ) → IsLeastByte r s byte → IsLeastByte r s other → byte ≡ other
least_byte_once r s byte other one two = let up = one.least other two.left two.right in let down = two.least byte one.left one.right in omega (arith, up, down)

record_once : (logs : Logs) (x u : Node) (r p : Record) → x ≡ u → record_at logs x ≡ Some r → record_at logs u ≡ Some p → r ≡ p
record_once logs x u r p same one other = same_Some r p (sym one ∙ (ap (record_at logs) same ∙ other))

module _ (trace : Trace) (a i b j : ℕ) where
  alike : (row number : ℕ) (x u : Node) → NamesRecord trace row number x → NamesRecord trace row number u → x ≡ u
  alike row number x u one other = named_once trace one.place row number x u one.row_is one.stands one.number_is other

  -- records with the same names are the same, so they have the same first byte
  byte_once : (x y u v : Node) (r s p q : Record) (byte other : ℕ) → NamesRecord trace a i x → NamesRecord trace b j y → NamesRecord trace a i u → NamesRecord trace b j v
      → IsRace (logs_of trace) x y r s → IsRace (logs_of trace) u v p q → IsLeastByte r s byte → IsLeastByte p q other → byte ≡ other
  byte_once x y u v r s p q byte other x_named y_named u_named v_named one two least also =
      least_byte_once p q byte other
      (subst (λ (t : Record). IsLeastByte t q byte) (record_once (logs_of trace) x u r p (alike a i x u x_named u_named) one.left two.left)
      (subst (λ (t : Record). IsLeastByte r t byte) (record_once (logs_of trace) y v s q (alike b j y v y_named v_named) one.right two.right) least)) also

  pub confirmed_once : (byte other : ℕ) → IsConfirmed trace a i b j byte → IsConfirmed trace a i b j other → byte ≡ other
  confirmed_once byte other c d = byte_once c.x c.y d.x d.y c.r c.s d.r d.s byte other c.left c.right d.left d.right c.race d.race c.least d.least

  witnessed_once : (lines : ℕ × ℕ) (byte other : ℕ) → IsWitness trace lines a i b j byte → IsWitness trace lines a i b j other → byte ≡ other
  witnessed_once lines byte other c d =
      byte_once c.x c.y d.x d.y c.races.r c.races.s d.races.r d.races.s byte other c.left c.right d.left d.right c.races.race d.races.race c.races.least d.races.least

both_ways : (a i b j : ℕ) → IsUpTo a i b j → IsUpTo b j a i → (a ≡ b) × (i ≡ j)
both_ways a i b j (inl less) (inl more) = absurd (omega (arith, less, more))
both_ways a i b j (inl less) (inr same) = let e = same.0 in absurd (omega (arith, less, e))
both_ways a i b j (inr same) (inl less) = let e = same.0 in absurd (omega (arith, less, e))
both_ways a i b j (inr one) (inr two) = let up = one.1 in let down = two.1 in (one.0, omega (arith, up, down))

module _ (trace : Trace) (lines : ℕ × ℕ) (found other : RacePair) (one : IsLeastWitness trace lines found) (two : IsLeastWitness trace lines other) where
  firsts : (found.first_row ≡ other.first_row) × (found.first ≡ other.first)
  firsts =
      both_ways found.first_row found.first other.first_row other.first (one.first_least other.first_row other.first other.second_row other.second other.byte two.witness)
      (two.first_least found.first_row found.first found.second_row found.second found.byte one.witness)

  -- each has its second record also beside the other's first one
  theirs : IsWitness trace lines found.first_row found.first other.second_row other.second other.byte
  theirs =
      subst (λ (a : ℕ). IsWitness trace lines a found.first other.second_row other.second other.byte) (sym firsts.0)
      (subst (λ (i : ℕ). IsWitness trace lines other.first_row i other.second_row other.second other.byte) (sym firsts.1) two.witness)

  mine : IsWitness trace lines other.first_row other.first found.second_row found.second found.byte
  mine =
      subst (λ (a : ℕ). IsWitness trace lines a other.first found.second_row found.second found.byte) firsts.0
      (subst (λ (i : ℕ). IsWitness trace lines found.first_row i found.second_row found.second found.byte) firsts.1 one.witness)

  seconds : (found.second_row ≡ other.second_row) × (found.second ≡ other.second)
  seconds =
      both_ways found.second_row found.second other.second_row other.second (one.second_least other.second_row other.second other.byte theirs)
      (two.second_least found.second_row found.second found.byte mine)

  bytes : found.byte ≡ other.byte
  bytes =
      witnessed_once trace found.first_row found.first found.second_row found.second lines found.byte other.byte one.witness
      (subst (λ (b : ℕ). IsWitness trace lines found.first_row found.first b found.second other.byte) (sym seconds.0)
      (subst (λ (j : ℕ). IsWitness trace lines found.first_row found.first other.second_row j other.byte) (sym seconds.1) theirs))

  pub least_once : found ≡ other
  least_once = λ i. record { first_row = firsts.0 i; first = firsts.1 i; second_row = seconds.0 i; second = seconds.1 i; byte = bytes i }
