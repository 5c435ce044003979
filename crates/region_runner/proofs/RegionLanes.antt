-- The lanes of a region, once it rests: each ran its task, as far as it came.
use Rattle.std.proofs.Common.{◌≡◌, ◌⊎◌, inl, inr, refl, ap, sym, ◌∙◌, subst, ℕ, List, [], ◌++◌, ℤ, Option, Some, None, Result}
use Rattle.std.specs.Prelude.{map}
use Rattle.std.proofs.lemmas.List.{map-append}
use Rattle.std.proofs.lemmas.Grind.{flat_map-append}
use Rattle.log_format.specs.declared.record.Kind.TheVariants as kind
use Rattle.kernel_syntax.specs.Program.{Program}
use Rattle.kernel_model.specs.State.{State, Fork, Outcome, Gives, Stops, Wants, after, put, event, state_of}
use Rattle.kernel_model.specs.Growth.{Grows}
use Rattle.kernel_model.specs.Value.{Site}
use Rattle.kernel_model.specs.Trace.{Start, run, site_of}
use Rattle.kernel_model.specs.declared.phase.Item.{Item}
use Rattle.kernel_model.specs.Parts.{Part, run_parts}
use Rattle.kernel_model.specs.Phases.{part_of, items_in, parts_in}
use Rattle.kernel_model.proofs.Growing.{grows-plain, grows-put}
use Rattle.kernel_model.proofs.Joining.{after-after, run_parts-append}
use Rattle.kernel_model.proofs.RunEffects.{parts}
use Rattle.kernel_model.proofs.Steps.{kept-after}
use Rattle.history_model.specs.Work.{Phases, lane_works}
use Rattle.execution_model.specs.Runs.{RunsTask, lane_begin}
use Rattle.lane_runner.specs.declared.stop.Halt.{Halt}
use Rattle.lane_runner.specs.Going.{Progress, site}
use Rattle.lane_runner.specs.World.{WorldValue}
use Rattle.lane_runner.proofs.Phases.{parts_grow}
use Rattle.region_runner.specs.Ran.{task_part, TaskGoes}
use Rattle.region_runner.proofs.Traced.{runs_goes}

-- the parts of phases, one after another
pub parts_both : (done left : List (List Item)) → parts_in (done ++ left) ≡ parts_in done ++ parts_in left
parts_both done left = ap (λ (items : List Item). map part_of items) (flat_map-append (λ (phase : List Item). phase) done left) ∙ map-append part_of (items_in done) (items_in left)

-- what is left of a task after some phases: those that follow, and its End
abbrev pub left_of : Site → ℕ → List (List Item) → State → Outcome (Unit {0})
left_of at end left s = after (run_parts at (parts_in left) s) (put (event kind.End end 0 0))

pub left_grows : (at : Site) (end : ℕ) (left : List (List Item)) (s : State) → Grows s (state_of (left_of at end left s))
left_grows at end left s =
    kept-after Grows grows-plain s (run_parts at (parts_in left) s) (put (event kind.End end 0 0)) (parts_grow at (parts_in left) s)
    (λ t. grows-put (event kind.End end 0 0) t refl)

module _ (program : Program) (start : Start) (phases : List (List Item)) (runs : (at : Site) (s : State) → run_parts at (parts_in phases) s ≡ run at start.team.body s) where
  -- a task is its first phases, and what is left
  pub task_is : (done left : List (List Item)) → phases ≡ done ++ left → (s : State)
      → parts program start s ≡ after (run_parts (site_of program start) (parts_in done) s) (left_of (site_of program start) start.team.end left)
  task_is done left is s =
      ap (λ (o : Outcome (Unit {0})). after o (put (event kind.End start.team.end 0 0)))
      (sym (runs (site_of program start) s)
      ∙ ap (λ (ps : List Part). run_parts (site_of program start) ps s) (ap (λ (p : List (List Item)). parts_in p) is ∙ parts_both done left)
      ∙ run_parts-append (site_of program start) (parts_in done) (parts_in left) s)
      ∙ after-after (run_parts (site_of program start) (parts_in done) s) (run_parts (site_of program start) (parts_in left)) (put (event kind.End start.team.end 0 0))

-- A part with which the lane's task begins, in each kernel of these arrays, and what follows it.
pub record BeginsLane (fork : Fork) (lane : ℕ) (w : WorldValue) (part : State → Outcome (Unit {0})) : Type 0 where
  pub rest : State → Outcome (Unit {0})
  pub grows : (s : State) → Grows s (state_of (rest s))
  pub is : (program : Program) → program.arrays ≡ w.arrays → (s : State) → parts program (lane_begin fork lane) s ≡ after (part s) rest

after_none : (m : Outcome (Unit {0})) → m ≡ after m (λ s. Gives tt s)
after_none (Gives u s) = refl
after_none (Stops why line s) = refl
after_none (Wants s) = refl

-- a lane that stands after some phases, and perhaps its End, wherever it came to rest
module _ (fork : Fork) (lane : ℕ) (w : WorldValue) (lane_is : w.lane ≡ lane) (span_is : w.span ≡ fork.team.span) (items : List (List Item))
    (runs : (at : Site) (s : State) → run_parts at (parts_in items) s ≡ run at fork.team.body s) where
  site_is : (program : Program) → program.arrays ≡ w.arrays → site_of program (lane_begin fork lane) ≡ site w
  site_is program arrays = λ i. record { arrays = arrays i; lane = (sym lane_is) i; span = (sym span_is) i }

  lane_is_at : (done left : List (List Item)) → items ≡ done ++ left → (program : Program) → program.arrays ≡ w.arrays → (s : State)
      → parts program (lane_begin fork lane) s ≡ after (run_parts (site w) (parts_in done) s) (left_of (site w) fork.team.end left)
  lane_is_at done left is program arrays s =
      subst (λ (at : Site). parts program (lane_begin fork lane) s ≡ after (run_parts at (parts_in done) s) (left_of at fork.team.end left)) (site_is program arrays)
      (task_is program (lane_begin fork lane) items runs done left is s)

  pub task_begins : (done left : List (List Item)) → items ≡ done ++ left → (end : Option ℕ) → (end ≡ None) ⊎ ((end ≡ Some fork.team.end) × (left ≡ [])) → BeginsLane fork lane w (task_part (site w) done end)
  task_begins done left is end (inl none) = subst (λ (e : Option ℕ). BeginsLane fork lane w (task_part (site w) done e)) (sym none) (record {
    rest = left_of (site w) fork.team.end left;
    grows = left_grows (site w) fork.team.end left;
    is = lane_is_at done left is;
  })
  task_begins done left is end (inr (ended, all)) = subst (λ (e : Option ℕ). BeginsLane fork lane w (task_part (site w) done e)) (sym ended) (record {
    rest = λ s. Gives tt s;
    grows = grows-plain.same;
    is = λ program arrays s.
        subst (λ (more : List (List Item)). parts program (lane_begin fork lane) s ≡ after (run_parts (site w) (parts_in done) s) (left_of (site w) fork.team.end more)) all (lane_is_at done left is program arrays s)
        ∙ after_none (task_part (site w) done (Some fork.team.end) s);
  })

module _ (program : Program) (fork : Fork) (lane : ℕ) (w : WorldValue) (arrays : program.arrays ≡ w.arrays) (part : State → Outcome (Unit {0})) (first : BeginsLane fork lane w part) where
  -- it ran its task
  pub lane_ran : (slots' : List ℤ) (old new : Progress) → old.buffer.count ≡ 0 → (phases : Phases) → (r : Result (Unit {0}) Halt)
      → TaskGoes w part fork.slots slots' old new (lane_works lane phases) r → RunsTask program (lane_begin fork lane) (lane_works lane phases)
  lane_ran slots' old new none phases r goes =
      runs_goes program (lane_begin fork lane) w arrays part first.rest first.grows (first.is program arrays) slots' old new none (lane_works lane phases) r goes
