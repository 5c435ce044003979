-- What one step on the words tells of the view: before it, the number found or stored, and after it.
use Rattle.std.specs.Prelude.{◌≡◌, ◌≢◌, ℕ, ◌-◌}
use Rattle.atomic_table.specs.Table.{Me, Step}
use Rattle.step_history.specs.declared.item.Deed.TheVariants.{Read, Write, Update}
use Rattle.shared_words.specs.declared.view.View.{View}
use Rattle.shared_words.specs.Rule.{ELEMENTS}
use Rattle.shared_words.specs.Views.{did, locked, unlocked, announced, parted}

abbrev Seen : Type 0
Seen = Me (Unit {0}) View

abbrev pub loads : Step (Unit {0}) → Seen → ℕ → Seen → Type 0
loads step me found after = after ≡ (did me.0 (Read (step.word - ELEMENTS) found), me.1)

abbrev pub stores : Step (Unit {0}) → Seen → ℕ → Seen → Type 0
stores step me stored after = after ≡ (did me.0 (Write (step.word - ELEMENTS) stored), me.1)

-- the amount that the step adds, whatever it found
abbrev pub updates : Step (Unit {0}) → Seen → ℕ → Seen → Type 0
updates step me found after = after ≡ (did me.0 (Update (step.word - ELEMENTS) step.first), me.1)

-- a mutex that was held is not won
pub record Locking (step : Step (Unit {0})) (me : Seen) (found : ℕ) (after : Seen) : Type 0 where
  pub won : found ≡ 0 → after ≡ (locked me.0 step.word, me.1)
  pub lost : found ≢ 0 → after ≡ me

abbrev pub unlocks : Step (Unit {0}) → Seen → ℕ → Seen → Type 0
unlocks step me stored after = after ≡ (unlocked me.0 step.word, me.1)

abbrev pub announces : Step (Unit {0}) → Seen → ℕ → Seen → Type 0
announces step me found after = after ≡ (announced me.0 step.first step.second, me.1)

-- the split that was announced
abbrev pub parts : View → View
parts v = parted v v.lane v.span
