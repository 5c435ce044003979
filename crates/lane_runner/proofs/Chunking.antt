-- A chunk that is drawn: where it begins, and that it is executed.
use Rattle.std.proofs.Common.{◌≡◌, refl, ℕ, ◌-◌, ◌*◌, min, true, false, List, ℤ, Ok, Err, nat_lt, arith}
use Rattle.log_format.specs.Limit.{record_limit}
use Rattle.kernel_syntax.specs.Tree.{Code}
use Rattle.kernel_model.specs.State.{State, Outcome, Gives}
use Rattle.kernel_model.specs.Iterations.{chunk_count}
use Rattle.kernel_model.specs.Trace.{draw, turns}
use Rattle.kernel_model.specs.Value.{Site}
use Rattle.kernel_model.specs.Effect.{Returned}
use Rattle.kernel_model.proofs.Effects.{makes-stays}
use Rattle.kernel_model.proofs.Growing.{grows-plain}
use Rattle.kernel_model.proofs.Draining.{if_drawn_grows}
use Rattle.kernel_model.proofs.Turns.{chunk_turns, chunk_grows}
use Rattle.lane_runner.specs.declared.stop.Halt.{Halt}
use Rattle.lane_runner.specs.World.{WorldValue}
use Rattle.kernel_model.specs.Drawing.{turn_from, then_more, if_drawn, draw_once}
use Rattle.lane_runner.specs.Going.{Progress, CanGo, Made, Goes}
use Rattle.lane_runner.proofs.Following.{goes_stop, goes_then, goes_same}
use Rattle.lane_runner.proofs.Values.{made_still}
use Rattle.lane_runner.proofs.Dealing.{range_goes}

module _ (w : WorldValue) (at : Site) (body : Code) (slot : ℕ) (from : ℤ) (line total chunk : ℕ) where
  abbrev chunks : ℕ → State → Outcome (Unit {0})
  chunks = chunk_turns at body slot from total chunk

  abbrev n : ℕ
  n = chunk_count chunk total

  pub draw_stops : (slots : List ℤ) (old new : Progress) (why : Halt) → Goes w (draw line n) slots slots old new (Err why) → Goes w (draw_once line n chunks) slots slots old new (Err why)
  draw_stops slots old new why goes = goes_stop w (draw line n) (λ q s. if_drawn q n chunks s) slots slots old new why (if_drawn_grows line n chunks (chunk_grows at body slot from total chunk)) goes

  module _ (slots : List ℤ) (q : ℕ) (old mid : Progress) (made : Made w (draw line n) slots slots old mid (Returned q)) where
    pub none_left : CanGo w mid → q ≡ n → Made w (draw_once line n chunks) slots slots old mid (Returned false)
    none_left can is =
        let past : nat_lt q n ≡ false = grind (arith, is) in
        goes_then w (draw line n) (λ q s. if_drawn q n chunks s) slots slots slots old mid mid q made (Ok false)
        (made_still w (if_drawn q n chunks) slots mid (Returned false) can
        (makes-stays (if_drawn q n chunks) slots (record_limit - mid.buffer.count) (Returned false) (λ s same full. rw past refl)))

    module _ (less : nat_lt q n ≡ true) (slots' : List ℤ) (new : Progress) where
      drawn_is : (s : State) → if_drawn q n chunks s ≡ then_more (chunks q s)
      drawn_is s = rw less refl

      pub chunk_stops : (why : Halt) → Goes w (turns (min chunk (total - q * chunk)) (q * chunk) (turn_from at body slot from)) slots slots' mid new (Err why)
          → Goes w (draw_once line n chunks) slots slots' old new (Err why)
      chunk_stops why goes =
          goes_then w (draw line n) (λ q s. if_drawn q n chunks s) slots slots slots' old mid new q made (Err why)
          (goes_same w (λ s. then_more (chunks q s)) (if_drawn q n chunks) slots slots' mid new drawn_is (Err why)
          (goes_stop w (chunks q) (λ u s. Gives true s) slots slots' mid new why (λ u s. grows-plain.same s)
          (range_goes w at body slot from (q * chunk) (min chunk (total - q * chunk)) slots slots' mid new (Err why) goes)))

      pub chunk_ends : CanGo w new → Made w (turns (min chunk (total - q * chunk)) (q * chunk) (turn_from at body slot from)) slots slots' mid new (Returned tt)
          → Made w (draw_once line n chunks) slots slots' old new (Returned true)
      chunk_ends can goes =
          goes_then w (draw line n) (λ q s. if_drawn q n chunks s) slots slots slots' old mid new q made (Ok true)
          (goes_same w (λ s. then_more (chunks q s)) (if_drawn q n chunks) slots slots' mid new drawn_is (Ok true)
          (goes_then w (chunks q) (λ u s. Gives true s) slots slots' slots' mid new new tt
          (range_goes w at body slot from (q * chunk) (min chunk (total - q * chunk)) slots slots' mid new (Ok tt) goes) (Ok true)
          (made_still w (λ s. Gives true s) slots' new (Returned true) can (makes-stays (λ s. Gives true s) slots' (record_limit - new.buffer.count) (Returned true) (λ s same full. refl)))))
