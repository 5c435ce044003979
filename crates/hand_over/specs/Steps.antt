-- What one step on a lane tells of the seat: its view and its slots before it, the number found or stored, and those after it.
use Rattle.std.specs.Prelude.{◌≡◌, ◌≢◌, ℕ, true, [], ◌∷◌, Option, Some, None}
use Rattle.atomic_table.specs.Table.{Me, Step}
use Rattle.hand_over.specs.Views.{emptying_lane, opening_lane, turn_at, with_turn_of}
use Rattle.hand_over.specs.declared.view.Turn.TheVariants.{Out, Closed}
use Rattle.hand_over.specs.declared.view.View.{View}

abbrev Seen : Type 0 → Type 0 → Type 0
Seen A P = Me (Option P) (View A P)

module _ {A P : Type 0} where
  abbrev pub opens : Step (Option P) → Seen A P → ℕ → Seen A P → Type 0
  opens step me found after = after ≡ (opening_lane me.0 step.word, (step.word, None) ∷ me.1)

  abbrev pub sends : Step (Option P) → Seen A P → ℕ → Seen A P → Type 0
  sends step me stored after = (parcel : P) → me.1 ≡ (step.word, Some parcel) ∷ [] → after ≡ (with_turn_of me.0 step.word (Out parcel), [])

  -- a parcel that is back follows the one that was sent
  pub record looks (follows : A → P → P → Type 0) (step : Step (Option P)) (me : Seen A P) (found : ℕ) (after : Seen A P) : Type 0 where
    pub back : found ≡ 0 → (parcel : P) × (after ≡ (emptying_lane me.0 step.word, (step.word, Some parcel) ∷ me.1)) × ((sent : P) → turn_at me.0.turns step.word ≡ Out sent → follows me.0.about sent parcel)
    pub away : found ≢ 0 → after ≡ me

  abbrev pub frees : Step (Option P) → Seen A P → ℕ → Seen A P → Type 0
  frees step me found after = after ≡ (record me.0 { opened = None }, [])

  abbrev pub ends : Step (Option P) → Seen A P → ℕ → Seen A P → Type 0
  ends step me stored after = after ≡ (with_turn_of me.0 step.word Closed, me.1)

  -- a parcel that is there fits
  pub record takes (fits : A → P → Type 0) (step : Step (Option P)) (me : Seen A P) (found : ℕ) (after : Seen A P) : Type 0 where
    pub there : found ≡ 1 → (parcel : P) × (after ≡ (record me.0 { took = Some parcel }, (step.word, Some parcel) ∷ me.1)) × fits me.0.about parcel
    pub closed : found ≡ 2 → after ≡ (record me.0 { closed = true }, me.1)
    pub nothing : found ≢ 1 → found ≢ 2 → after ≡ me

  abbrev pub returns : Step (Option P) → Seen A P → ℕ → Seen A P → Type 0
  returns step me stored after = after ≡ (record me.0 { took = None }, [])
