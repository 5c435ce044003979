-- Where tasks start, down a path of their tree.
use Rattle.std.proofs.Common.{◌≡◌, refl, ap, sym, ◌∙◌, subst, ℕ, ◌<◌, arith, Bool, true, false, cond, nat_lt, List, [], ◌∷◌, ◌++◌, append_assoc, Option, Some, None, slice_get}
use Rattle.std.specs.Prelude.{◌==◌, ◌&&◌}
use Rattle.std.proofs.lemmas.Bool.Decides.{nat_tests}
use Rattle.std.proofs.lemmas.List.{append-nil}
use Rattle.std.proofs.lemmas.Option.{same_Some, none-some}
use Rattle.sw_base.specs.declared.path.Step.{Step}
use Rattle.std.proofs.lemmas.Bool.{and_parts}
use Rattle.race_model.specs.Trace.{Logs}
use Rattle.kernel_syntax.specs.Program.{Program}
use Rattle.kernel_model.specs.State.{Fork}
use Rattle.kernel_model.specs.Trace.{Start}
use Rattle.kernel_model.specs.Folder.{own_trace, root_start, lane_start, start_at, start_below}

module _ (program : Program) (logs : Logs) where
  below_append : (path : List Step) (o : Option Start) (xs ys : List Step) →
      start_below program logs path o (xs ++ ys) ≡ start_below program logs (path ++ xs) (start_below program logs path o xs) ys
  below_append path None xs ys = refl
  below_append path (Some start) [] ys = ap (λ (p : List Step). start_below program logs p (Some start) ys) (sym (append-nil path))
  below_append path (Some start) (step ∷ xs) ys =
      let next = lane_start (slice_get (own_trace program start (logs path)).forks step.region) step in
      below_append (path ++ step ∷ []) next xs ys
      ∙ ap (λ (p : List Step). start_below program logs p (start_below program logs (path ++ step ∷ []) next xs) ys) (append_assoc path (step ∷ []) xs)

  pub nothing_below : (path : List Step) (o : Option Start) → start_below program logs path o [] ≡ o
  nothing_below path None = refl
  nothing_below path (Some start) = refl

  pub at_append : (xs ys : List Step) → start_at program logs (xs ++ ys) ≡ start_below program logs xs (start_at program logs xs) ys
  unfolding start_at
  at_append xs ys = below_append [] (Some (root_start program)) xs ys

  -- a lane starts where its parent forks it
  pub at_lane : (path : List Step) (start : Start) (step : Step) → start_at program logs path ≡ Some start →
      start_at program logs (path ++ step ∷ []) ≡ lane_start (slice_get (own_trace program start (logs path)).forks step.region) step
  at_lane path start step is =
      at_append path (step ∷ [])
      ∙ ap (λ (o : Option Start). start_below program logs path o (step ∷ [])) is
      ∙ nothing_below (path ++ step ∷ []) (lane_start (slice_get (own_trace program start (logs path)).forks step.region) step)

  pub at_root : start_at program logs [] ≡ Some (root_start program)
  unfolding start_at
  at_root = refl

-- the task above one that starts does so, too
pub start_above : (program : Program) (logs : Logs) (above : List Step) (step : Step) (start : Start) → start_at program logs (above ++ step ∷ []) ≡ Some start
    → (up : Start) × (start_at program logs above ≡ Some up)
start_above program logs above step start starts = by_start (start_at program logs above) refl
  where
    by_start : (o : Option Start) → start_at program logs above ≡ o → (up : Start) × (start_at program logs above ≡ Some up)
    by_start None is =
        absurd (none-some start (sym (at_append program logs above (step ∷ []) ∙ ap (λ (o : Option Start). start_below program logs above o (step ∷ [])) is) ∙ starts))
    by_start (Some up) is = (up, is)

-- what a lane's start tells
pub record IsLaneStart (o : Option Fork) (step : Step) (start : Start) : Type 0 where
  pub fork : Fork
  pub forked : o ≡ Some fork
  pub span : step.span ≡ fork.team.span
  pub lane : step.lane < step.span
  pub begins : start ≡ record { team = fork.team; lane = step.lane; slots = fork.slots }

fits_lane : (a b lane : ℕ) → (a == b) && nat_lt lane a ≡ true → (a ≡ b) × (lane < a)
fits_lane a b lane is =
    let parts = and_parts (a == b) (nat_lt lane a) is in
    let one : (a == b) ≡ true = parts.0 in
    let two : nat_lt lane a ≡ true = parts.1 in
    let same : a ≡ b = grind (arith, nat_tests) in
    let lt : lane < a = grind (arith, nat_tests) in
    (same, lt)

pub lane_started : (o : Option Fork) (step : Step) (start : Start) → lane_start o step ≡ Some start → IsLaneStart o step start
lane_started None step start is = absurd (none-some start is)
lane_started (Some f) step start is = by_test ((step.span == f.team.span) && nat_lt step.lane step.span) refl is
  where
    by_test : (b : Bool) → (step.span == f.team.span) && nat_lt step.lane step.span ≡ b →
        cond b (Some (record { team = f.team; lane = step.lane; slots = f.slots })) None ≡ Some start → IsLaneStart (Some f) step start
    by_test false test same = absurd (none-some start same)
    by_test true test same =
        let fits = fits_lane step.span f.team.span step.lane test in
        record {
          fork = f;
          forked = refl;
          span = fits.0;
          lane = fits.1;
          begins = sym (same_Some (record { team = f.team; lane = step.lane; slots = f.slots }) start same);
        }

-- what holds of the root, and goes over from each task to the lanes that it forks, holds of every task
module _ (program : Program) (logs : Logs) (P : List Step → Start → Type 0) (root : P [] (root_start program))
    (lane : (above : List Step) (start : Start) (step : Step) (next : Start) → P above start → start_at program logs above ≡ Some start →
    lane_start (slice_get (own_trace program start (logs above)).forks step.region) step ≡ Some next → P (above ++ step ∷ []) next) where
  walk : (above : List Step) (start : Start) (steps : List Step) (last : Start) → start_at program logs above ≡ Some start → P above start →
      start_at program logs (above ++ steps) ≡ Some last → P (above ++ steps) last
  walk above start [] last starts at ends =
      let all = append-nil above in
      let same : start ≡ last = same_Some start last (sym starts ∙ ap (λ (p : List Step). start_at program logs p) (sym all) ∙ ends) in
      subst (λ (p : List Step). P p last) (sym all) (subst (P above) same at)
  walk above start (step ∷ steps) last starts at ends =
      by_lane (start_at program logs (above ++ step ∷ [])) refl (λ next is.
      walk (above ++ step ∷ []) next steps last is
      (lane above start step next at starts (sym (at_lane program logs above start step starts) ∙ is))
      reaches)
    where
      parts : (above ++ step ∷ []) ++ steps ≡ above ++ step ∷ steps
      parts = append_assoc above (step ∷ []) steps

      reaches : start_at program logs ((above ++ step ∷ []) ++ steps) ≡ Some last
      reaches = ap (λ (p : List Step). start_at program logs p) parts ∙ ends

      by_lane : (o : Option Start) → start_at program logs (above ++ step ∷ []) ≡ o →
          ((next : Start) → start_at program logs (above ++ step ∷ []) ≡ Some next → P ((above ++ step ∷ []) ++ steps) last) →
          P (above ++ step ∷ steps) last
      by_lane None is goes_on =
          let none : start_at program logs ((above ++ step ∷ []) ++ steps) ≡ None =
          at_append program logs (above ++ step ∷ []) steps ∙ ap (λ (o : Option Start). start_below program logs (above ++ step ∷ []) o steps) is in
          absurd (none-some last (sym none ∙ reaches))
      by_lane (Some next) is goes_on = subst (λ (p : List Step). P p last) parts (goes_on next is)

  pub descend : (path : List Step) (start : Start) → start_at program logs path ≡ Some start → P path start
  descend path start starts = walk [] (root_start program) path start (at_root program logs) root starts

-- a step that names a lane of the fork starts it
pub starts_lane : (f : Fork) (step : Step) → step.span ≡ f.team.span → step.lane < step.span →
    lane_start (Some f) step ≡ Some (record { team = f.team; lane = step.lane; slots = f.slots })
starts_lane f step span lane =
    let test : (step.span == f.team.span) && nat_lt step.lane step.span ≡ true = passes step.span f.team.span step.lane span lane in
    ap (λ (b : Bool). cond b (Some (record { team = f.team; lane = step.lane; slots = f.slots })) None) test
  where
    passes : (a b lane : ℕ) → a ≡ b → lane < a → (a == b) && nat_lt lane a ≡ true
    passes a b lane same lt = grind (arith, nat_tests)
