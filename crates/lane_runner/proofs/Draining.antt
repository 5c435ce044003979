-- A loop whose chunks are drawn: one draw after another, until none is left.
use Rattle.std.proofs.Common.{refl, ℕ, ◌-◌, true, false, List, ℤ, Result, Ok, Err}
use Rattle.log_format.specs.Limit.{record_limit}
use Rattle.kernel_model.specs.State.{State, Outcome, and_then, state_of}
use Rattle.kernel_model.specs.Growth.{Grows}
use Rattle.kernel_model.proofs.Draining.{again, draw_all_is, again_grows}
use Rattle.lane_runner.specs.declared.stop.Halt.{Halt}
use Rattle.lane_runner.specs.World.{WorldValue}
use Rattle.kernel_model.specs.Drawing.{draw_once, draw_all}
use Rattle.lane_runner.specs.Going.{Progress, CanGo, Made, Goes}
use Rattle.kernel_model.specs.Effect.{Returned}
use Rattle.kernel_model.proofs.Effects.{makes-stays}
use Rattle.lane_runner.proofs.Values.{made_still}
use Rattle.lane_runner.proofs.Following.{goes_stop, goes_then, goes_same}

-- Whatever the lane does from here on, it does in the part.
pub record GoesOnIn (w : WorldValue) (part : State → Outcome (Unit {0})) (slots mid_slots : List ℤ) (old mid : Progress) : Type 0 where
  pub on : (slots' : List ℤ) (new : Progress) (r : Result (Unit {0}) Halt) → Goes w part mid_slots slots' mid new r → Goes w part slots slots' old new r

module _ (line n : ℕ) (chunk : ℕ → State → Outcome (Unit {0})) (grows : (q : ℕ) (s : State) → Grows s (state_of (chunk q s))) where
  module _ (w : WorldValue) (slots mid_slots slots' : List ℤ) (old mid new : Progress) (before : GoesOnIn w (draw_all line n chunk) slots mid_slots old mid) where
    in_loop : (r : Result (Unit {0}) Halt) (last : Progress) (slots'' : List ℤ) → Goes w (λ s. and_then (draw_once line n chunk s) (again line n chunk)) mid_slots slots'' mid last r → Goes w (draw_all line n chunk) slots slots'' old last r
    in_loop r last slots'' goes = before.on slots'' last r (goes_same w (λ s. and_then (draw_once line n chunk s) (again line n chunk)) (draw_all line n chunk) mid_slots slots'' mid last (draw_all_is line n chunk grows) r goes)

    pub draws_more : Made w (draw_once line n chunk) mid_slots slots' mid new (Returned true) → GoesOnIn w (draw_all line n chunk) slots slots' old new
    draws_more made = record { on = λ slots'' last r goes. in_loop r last slots'' (goes_then w (draw_once line n chunk) (again line n chunk) mid_slots slots' slots'' mid new last true made r goes) }

    pub draws_end : CanGo w new → Made w (draw_once line n chunk) mid_slots slots' mid new (Returned false) → Made w (draw_all line n chunk) slots slots' old new (Returned tt)
    draws_end can made =
        in_loop (Ok tt) new slots'
        (goes_then w (draw_once line n chunk) (again line n chunk) mid_slots slots' slots' mid new new false made (Ok tt)
        (made_still w (again line n chunk false) slots' new (Returned tt) can (makes-stays (again line n chunk false) slots' (record_limit - new.buffer.count) (Returned tt) (λ s same full. refl))))

    pub draws_stop : (why : Halt) → Goes w (draw_once line n chunk) mid_slots slots' mid new (Err why) → Goes w (draw_all line n chunk) slots slots' old new (Err why)
    draws_stop why goes = in_loop (Err why) new slots' (goes_stop w (draw_once line n chunk) (again line n chunk) mid_slots slots' mid new why (again_grows line n chunk grows) goes)
