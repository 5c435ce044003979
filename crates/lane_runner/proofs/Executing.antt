-- A lane after a phase, and after its End.
use Rattle.std.proofs.Common.{◌≡◌, refl, ap, sym, ◌∙◌, subst, ℕ, ◌+◌, List, map, ℤ, None, Result, IfOk}
use Rattle.std.specs.Prelude.{OnOk, All}
use denote.Ref.{Bor, MutBor}
use Rattle.std.specs.Global.{Vec}
use Rattle.sw_base.specs.declared.environment.Log.{Ghosts}
use Rattle.sw_base.specs.declared.path.Step.{Step}
use Rattle.log_format.specs.declared.record.Kind.TheVariants as kind
use Rattle.sw_base.specs.declared.closed_log.ClosedLog.{ClosedLog}
use Rattle.event_buffer.specs.Buffered.{Buffered}
use Rattle.kernel_syntax.specs.declared.syntax.Team.{Team}
use Rattle.kernel_model.specs.declared.phase.Item.{Item}
use Rattle.kernel_model.specs.Parts.{bar_count, drawn_count, run_parts}
use Rattle.kernel_model.specs.Phases.{part_of}
use Rattle.kernel_model.specs.State.{event}
use Rattle.shared_words.specs.declared.view.View.{View}
use Rattle.shared_words.specs.Handles.{HandValue}
use Rattle.task_place.specs.declared.locals.Locals.{Locals}
use Rattle.lane_runner.specs.declared.stop.Halt.{Halt}
use Rattle.lane_runner.specs.Forking.{Answer, IsReady}
use Rattle.lane_runner.specs.Going.{Progress, CanGo, GoesPast, IsSameLog, TakesOrHalts, site}
use Rattle.lane_runner.specs.Handed.{MaybeStop}
use Rattle.lane_runner.specs.Lane.{CanGoOn, Executed, LaneValue, PutsEnd, answer_due, halt_of, noted, progress}
use Rattle.lane_runner.specs.Teams.{EachTeamIn, MayForkTeam}
use Rattle.lane_runner.specs.World.{WorldValue}
use Rattle.lane_runner.proofs.Halting.{IsApart, goes_apart, noted_tells, takes_apart}

abbrev lane_with : List Step → List ℤ → Progress → MaybeStop → LaneValue
lane_with path locals p stopped = record { path = path; locals = locals; hand = p.hand; buffer = p.buffer; tally = p.tally; done = p.done; stopped = stopped }

module _ (w : WorldValue) (items : List Item) (path : List Step) (slots slots' : List ℤ) (at after : Progress) where
  abbrev Went : Result (Unit {0}) Halt → Type 0
  Went r = GoesPast (bar_count (map part_of items)) w (run_parts (site w) (map part_of items)) slots slots' at after r

  with_answer : (r : Result (Unit {0}) Halt) (stopped before : MaybeStop) → r ≡ answer_due (halt_of path stopped) → Went r → IsSameLog at.buffer after.buffer
      → IfOk r (λ _. after.tally.next_loop ≡ at.tally.next_loop + drawn_count (map part_of items)) → IsReady after.hand w.words → OnOk r (CanGo w after)
      → Executed w items (lane_with path slots at before) (lane_with path slots' after stopped)
  with_answer r stopped before is goes log loops ready can = record {
    path = refl;
    goes = subst Went is goes;
    log = log;
    loops = λ none. loops_of (subst (λ (x : Result (Unit {0}) Halt). IfOk x (λ _. after.tally.next_loop ≡ at.tally.next_loop + drawn_count (map part_of items))) (is ∙ went none) loops);
    ready = ready;
    can = λ none. can_of (subst (λ (x : Result (Unit {0}) Halt). OnOk x (CanGo w after)) (is ∙ went none) can);
  }
    where
      went : stopped ≡ None → answer_due (halt_of path stopped) ≡ answer_due None
      went none = ap (λ (s : MaybeStop). answer_due (halt_of path s)) none

      loops_of : after.tally.next_loop ≡ at.tally.next_loop + drawn_count (map part_of items) → after.tally.next_loop ≡ at.tally.next_loop + drawn_count (map part_of items)
      loops_of x = x

      can_of : CanGo w after → CanGo w after
      can_of x = x

pub executed : (w : WorldValue) (items : List Item) (old inside new : LaneValue) → inside ≡ old → CanGoOn w items old → (slots' : List ℤ) (after : Progress) (r : Result (Unit {0}) Halt)
    → new ≡ lane_with inside.path slots' after (noted inside.path r) → GoesPast (bar_count (map part_of items)) w (run_parts (site w) (map part_of items)) inside.locals slots' (progress inside) after r
    → IsSameLog inside.buffer after.buffer → IfOk r (λ _. after.tally.next_loop ≡ inside.tally.next_loop + drawn_count (map part_of items)) → IsReady after.hand w.words → OnOk r (CanGo w after)
    → Executed w items old new
executed w items old inside new same can slots' after r is goes log loops ready goes_on =
    subst (λ (m : LaneValue). Executed w items old m) (sym is)
    (subst (λ (m : LaneValue). Executed w items m (lane_with inside.path slots' after (noted inside.path r))) same
    (with_answer w items inside.path inside.locals slots' (progress inside) after r (noted inside.path r) inside.stopped
    (sym
    (noted_tells inside.path r
    (subst (λ (p : List Step). IsApart p r) (ap (λ (m : LaneValue). m.buffer.path) same ∙ can.own ∙ ap (λ (m : LaneValue). m.path) (sym same))
    (goes_apart (bar_count (map part_of items)) w (run_parts (site w) (map part_of items)) inside.locals slots' (progress inside) after r goes))))
    goes log loops ready goes_on))

pub puts_end : (line : ℕ) (old inside new : LaneValue) → inside ≡ old → (after : Progress) (r : Result (Unit {0}) Halt) → new ≡ lane_with inside.path inside.locals after (noted inside.path r)
    → TakesOrHalts (event kind.End line 0 0) inside.hand.view (progress inside) after r → IsSameLog inside.buffer after.buffer → PutsEnd line old new
puts_end line old inside new same after r is takes log =
    subst (λ (m : LaneValue). PutsEnd line old m) (sym is)
    (subst (λ (m : LaneValue). PutsEnd line m (lane_with inside.path inside.locals after (noted inside.path r))) same
    (record {
      path = refl;
      locals = refl;
      takes =
          subst (λ (x : Result (Unit {0}) Halt). TakesOrHalts (event kind.End line 0 0) inside.hand.view (progress inside) after x)
          (sym (noted_tells inside.path r (takes_apart (event kind.End line 0 0) inside.hand.view (progress inside) after inside.path r takes))) takes;
      log = log;
    }))

-- what is asked for the regions of a phase, told of the same log
pub forks_same : {T : Type 0} (w : WorldValue) (accepts : MutBor (HandValue View) → Bor Locals → ℕ → Vec T → Bor Team → MutBor (Vec (ClosedLog T)) → Type 0)
    (gives : MutBor (HandValue View) → Bor Locals → ℕ → Vec T → Bor Team → MutBor (Vec (ClosedLog T)) → Answer → MutBor (HandValue View) → MutBor (Vec (ClosedLog T)) → Type 0)
    (seen : Ghosts T) (b b' : Buffered) (items : List Item) → b' ≡ b → All (EachTeamIn (MayForkTeam w accepts gives seen b)) items → All (EachTeamIn (MayForkTeam w accepts gives seen b')) items
forks_same w accepts gives seen b b' items same all = subst (λ (x : Buffered). All (EachTeamIn (MayForkTeam w accepts gives seen x)) items) (sym same) all
