-- Races of two records that were found, in these lines.
use Rattle.std.proofs.Common.{◌≡◌, ℕ, Option, Some, sym, ◌∙◌}
use Rattle.std.specs.Prelude.{◌↔◌, min, max}
use Rattle.std.proofs.lemmas.Option.{same_Some}
use Rattle.race_model.specs.Race.{IsUnordered}
use Rattle.race_model.specs.Trace.{Trace, Node, logs_of}
use Rattle.explain.specs.Least.{RacesOn}
use Rattle.explain.specs.Witness.{ConflictAt, TellsRecord}
use Rattle.explain.specs.declared.finding.Found.{Found}
use Rattle.explain.proofs.Witnesses.{conflict_of, race_from}

module _ (trace : Trace) (lines : ℕ × ℕ) (x y : Node) (one other : Found) (x_tells : TellsRecord (logs_of trace) x one) (y_tells : TellsRecord (logs_of trace) y other) where
  -- the lines of the race are those of the records
  pub lines_told : (byte : ℕ) → RacesOn (logs_of trace) lines x y byte → lines ≡ (min one.event.line other.event.line, max one.event.line other.event.line)
  lines_told byte on =
      let mine : on.r ≡ one.event = same_Some on.r one.event (sym on.race.left ∙ x_tells.event) in
      let yours : on.s ≡ other.event = same_Some on.s other.event (sym on.race.right ∙ y_tells.event) in
      on.lines_are ∙ (λ i. (min (mine i).line (yours i).line, max (mine i).line (yours i).line))

  pub told_lines : lines ≡ (min one.event.line other.event.line, max one.event.line other.event.line) → (answer : Option ℕ) (byte : ℕ)
      → (answer ≡ Some byte) ↔ (ConflictAt one other byte × IsUnordered (logs_of trace) x y) → (answer ≡ Some byte) ↔ RacesOn (logs_of trace) lines x y byte
  told_lines are answer byte exact = (
    λ is. (let both = exact.0 is in
        record { r = one.event; s = other.event; race = race_from (logs_of trace) one other x y x_tells y_tells byte both.0 both.1; lines_are = are; least = both.0.least }),
    λ on. exact.1 (conflict_of (logs_of trace) one other x y x_tells y_tells byte on.r on.s on.race on.least, on.race.unordered),
  )
