-- How a task and the lanes of a team go on, piece by piece.
use Rattle.std.proofs.Common.{◌≡◌, refl, ap, sym, ◌∙◌, subst, ℕ, zero, suc, ◌+◌, ◌<◌, ◌≤◌, List, [], ◌∷◌, length, get_or, Result, Ok, Err, arith}
use Rattle.std.specs.Prelude.{IfOk, IsErr}
use Rattle.std.proofs.lemmas.List.Elements.{All-cons, All-head, All-tail}
use Rattle.log_format.specs.Limit.{task_limit}
use Rattle.sw_base.specs.declared.path.Step.{Step}
use Rattle.log_format.specs.declared.record.Kind.TheVariants as kind
use Rattle.kernel_syntax.specs.declared.syntax.Array.{Array}
use Rattle.kernel_syntax.specs.Tree.{TeamTree}
use Rattle.kernel_model.specs.State.{event}
use Rattle.kernel_model.specs.Value.{Site}
use Rattle.history_model.specs.Work.{Work}
use Rattle.serial_run.specs.Stepping.{Stand, Advances, Finishes}
use Rattle.serial_run.specs.Placing.{ElementLayout}
use Rattle.serial_team.specs.declared.member.Stage.TheVariants as stage
use Rattle.serial_team.specs.declared.member.Member.{Member}
use Rattle.serial_team.specs.Members.{all_idle, idle_member, Pool, pool_at, WholeLog, MemberValue, later, idle, path_in, BeginTeam}
use Rattle.serial_team.specs.Running.{LaneRuns, waits, ends, forks, TeamRuns, no_lane, lane, RanTo, GoesFrom, HaveArrays, RanBelow, past_region}

module _ (layout : ElementLayout) where
  -- a task stays where it runs
  pub lane_at : (path : List Step) (x : MemberValue) (work : Work) (y : MemberValue) → LaneRuns layout path x work y → y.stand.at ≡ x.stand.at
  lane_at _ _ _ _ (waits path x y line a) = a.at
  lane_at _ _ _ _ (ends path x y f) = f.at
  lane_at _ _ _ _ (forks path x z y team xs ys p phases more a deep begin runs few rest) =
      lane_at path (past_region path x y ys p) more z rest ∙ a.at

  module _ (path : List Step) (x : MemberValue) where
    pub goes_more : (y z : MemberValue) → GoesFrom layout path x y → GoesFrom layout path y z → GoesFrom layout path x z
    goes_more y z one more = record { at = more.at ∙ one.at; then' = λ w r. one.then' w (more.then' w r) }

    pub ran_to_barrier : (s : Stand) (line : ℕ) → Advances layout x.stand s (event kind.Barrier line 0 0 ∷ []) [] → RanTo layout path x (record x { stand = s; stage = stage.Waits })
    ran_to_barrier s line a = record { work = _; runs = waits path x s line a }

    pub ran_to_end : (s : Stand) → Finishes layout x.stand s → RanTo layout path x (record x { stand = s; stage = stage.Ended })
    ran_to_end s f = record { work = _; runs = ends path x s f }

    module _ (s : Stand) (team : TeamTree) (z : MemberValue) (arrays : List Array) (below : RanBelow layout path team arrays (record x { stand = s }) z) where
      pub goes_past_region : s.at.arrays ≡ arrays → Advances layout x.stand s (event kind.Region team.line 0 team.span ∷ []) (record { team = team; slots = s.slots } ∷ []) → GoesFrom layout path x z
      goes_past_region own a = record {
        at = ap (λ (v : MemberValue). v.stand.at) below.is ∙ a.at;
        then' = λ w r. record {
          work = _;
          runs =
              forks path x w s team below.region.before below.region.after (pool_at z.stand) below.region.ran.phases r.work a below.deep
              (subst (λ (l : List Array). BeginTeam l team s.slots below.region.before) (sym own) below.region.begin) below.region.ran.runs
              (subst (λ (l : List WholeLog). length l ≤ task_limit) below.region.logs below.few)
              (subst (λ (l : List WholeLog). LaneRuns layout path (later (record x { stand = s; forked = x.forked + 1; below = l }) (pool_at z.stand)) r.work w) below.region.logs
              (subst (λ (v : MemberValue). LaneRuns layout path v r.work w) below.is r.runs));
        };
      }

  -- the lanes of a team do
  pub team_at : (arrays : List Array) (at : List Step) (number : ℕ) (xs : List MemberValue) (p : Pool) (works : List Work) (ys : List MemberValue) (q : Pool)
      → TeamRuns layout at number xs p works ys q → HaveArrays arrays xs → HaveArrays arrays ys
  team_at arrays _ _ _ _ _ _ _ (no_lane at number p) h = h
  team_at arrays _ _ _ _ _ _ _ (lane at number x y xs ys p q work works l t) h =
      All-cons (λ (v : MemberValue). v.stand.at.arrays ≡ arrays) (idle y) ys
      (ap (λ (s : Site). s.arrays) (lane_at (path_in at number x) (later x p) work y l) ∙ All-head (λ (v : MemberValue). v.stand.at.arrays ≡ arrays) x xs h)
      (team_at arrays at number xs (pool_at y.stand) works ys q t (All-tail (λ (v : MemberValue). v.stand.at.arrays ≡ arrays) x xs h))

-- answers that are there
module _ {A E : Type 0} where
  pub if_err : (r : Result A E) (P : Type 0) → IsErr r → IfOk r (λ _. P)
  if_err (Ok v) P e = absurd cc
  if_err (Err e) P is = tt

  pub if_then : (r : Result A E) (P Q : Type 0) → (P → Q) → IfOk r (λ _. P) → IfOk r (λ _. Q)
  if_then (Ok v) P Q f h = f h
  if_then (Err e) P Q f h = tt

  pub value_of : (r : Result A E) (P : Type 0) → ((e : E) → r ≡ Err e → ⊥) → IfOk r (λ _. P) → P
  value_of (Ok v) P n h = h
  value_of (Err e) P n h = absurd (n e refl)

-- each lane has these arrays
pub arrays_at : (arrays : List Array) (old : List Member) (n : ℕ) (d : Member) → n < length old → HaveArrays arrays (all_idle old) → (get_or old n d).lane.place.arrays ≡ arrays
arrays_at arrays [] n d less h = absurd (omega arith)
arrays_at arrays (m ∷ ms) zero d less h = All-head (λ (v : MemberValue). v.stand.at.arrays ≡ arrays) (idle_member m) (all_idle ms) h
arrays_at arrays (m ∷ ms) (suc n) d less h = arrays_at arrays ms n d (omega arith) (All-tail (λ (v : MemberValue). v.stand.at.arrays ≡ arrays) (idle_member m) (all_idle ms) h)
