-- What stands below a record of a task happens before what stands below a later one, and what stands below a record of a lane before what
-- stands below one of a lane that has passed more barriers.
use Rattle.std.proofs.Common.{◌≡◌, ◌⊎◌, ℕ, ◌+◌, ◌<◌, ◌≤◌, List, length, refl, sym, subst, arith, ◌∙◌, inl, inr}
use Rattle.std.proofs.lemmas.List.Sums.{sum_by-take-le}
use Rattle.std.specs.Prelude.{cond}
use Rattle.sw_base.specs.declared.path.Step.{Step}
use Rattle.log_format.specs.declared.record.Kind.TheVariants.{Barrier, Region}
use Rattle.race_model.specs.Trace.{Logs, Node, IsThere, HasKind, barriers_before, barrier_count, is_barrier_kind}
use Rattle.race_model.specs.Order.{IsLane, HappensBefore}
use Rattle.race_model.specs.ForkJoin.{IsForkJoin}
use Rattle.race_laws.proofs.Chains.{AreJoined, IsBelow, below_region, down, out, over, one_kind}
use Rattle.race_laws.proofs.Counts.{barriers_up, barriers_after, there, barrier_at, BarrierAt}
use Rattle.race_laws.proofs.ProgramOrder.{node, happens_before_trans, program_order}

pub not_later : (i j a b : ℕ) → (j ≤ i → b ≤ a) → a < b → i < j
not_later i j a b up less = grind arith

pub not_after : (i j a b : ℕ) → (i < j → a < b) → b ≡ a → j ≤ i
not_after i j a b up e = grind arith

-- in a run that ended, the lanes of a team have passed as many barriers as one of them had before a record
pub tree_level : (logs : Logs) → IsForkJoin logs → (fork b : Node) (n m s : ℕ) (path : List Step) → IsLane logs fork n s path → IsLane logs fork m s b.path → barriers_before logs b ≤ barrier_count (logs path)
tree_level logs tree fork b n m s path mine yours =
    subst (λ (k : ℕ). barriers_before logs b ≤ k) (tree.ends.same_barriers fork m n s b.path path yours mine)
    (sum_by-take-le (λ r. cond (is_barrier_kind r.kind) 1 0) (logs b.path) b.index)

module _ (logs : Logs) where
  -- x is a, or stands below a
  abbrev pub Under : Node → Node → Type 0
  Under a x = (a ≡ x) ⊎ IsBelow logs a x.path

  pub above_there : (a x : Node) → Under a x → IsThere logs x → IsThere logs a
  above_there a x (inl e) here = subst (λ (w : Node). IsThere logs w) (sym e) here
  above_there a x (inr below) here = there logs a Region (below_region logs a x.path below)

  -- down to a record
  pub into : (a x : Node) → Under a x → IsThere logs x → HappensBefore logs a x
  into a x (inl e) here = subst (λ (w : Node). HappensBefore logs w x) (sym e) (HappensBefore.here x)
  into a x (inr below) here = down logs a x.path below x refl here

  module _ (joined : AreJoined logs) where
    -- out to a later record of the task
    out_to : (a x b : Node) → Under a x → IsThere logs x → a.path ≡ b.path → a.index < b.index → IsThere logs b → HappensBefore logs x b
    out_to a x b (inl e) here same later b_there = subst (λ (w : Node). HappensBefore logs w b) e (program_order logs a b same (omega arith) b_there)
    out_to a x b (inr below) here same later b_there =
        let long : b.index < length (logs a.path) = subst (λ (p : List Step). b.index < length (logs p)) (sym same) b_there in
        happens_before_trans logs x (node a.path (a.index + 1)) b (out logs joined a x.path below (omega arith) x refl here)
        (program_order logs (node a.path (a.index + 1)) b same (omega arith) b_there)

    -- out to a barrier that isn't earlier
    out_to_barrier : (a x w : Node) → Under a x → IsThere logs x → a.path ≡ w.path → a.index ≤ w.index → HasKind logs w Barrier → HappensBefore logs x w
    out_to_barrier a x w (inl e) here same later barrier = subst (λ (v : Node). HappensBefore logs v w) e (program_order logs a w same later (there logs w Barrier barrier))
    out_to_barrier a x w (inr below) here same later barrier =
        let apart : a.index ≡ w.index → ⊥ = λ e. let one : Region ≡ Barrier = one_kind logs a w Region Barrier same e (below_region logs a x.path below) barrier in cc in
        out_to a x w (inr below) here same (strictly a.index w.index later apart) (there logs w Barrier barrier)
      where
        strictly : (i j : ℕ) → i ≤ j → (i ≡ j → ⊥) → i < j
        strictly i j h apart = grind arith

    pub task_before : (a b x y : Node) → Under a x → Under b y → IsThere logs x → IsThere logs y → a.path ≡ b.path → a.index < b.index → HappensBefore logs x y
    task_before a b x y up other x_there y_there same later =
        happens_before_trans logs x b y (out_to a x b up x_there same later (above_there b y other y_there)) (into b y other y_there)

    -- over the barrier that the first lane had yet to pass, and the second had passed
    pub team_before : (fork a b x y : Node) (n m s : ℕ) → Under a x → Under b y → IsLane logs fork n s a.path → IsLane logs fork m s b.path
        → barriers_before logs a < barriers_before logs b → barriers_before logs b ≤ barrier_count (logs a.path) → IsThere logs x → IsThere logs y → HappensBefore logs x y
    team_before fork a b x y n m s up other mine yours fewer met x_there y_there =
        at (barrier_at logs a.path (barriers_before logs a) (omega arith)) (barrier_at logs b.path (barriers_before logs a) (omega (arith, total)))
      where
        total : barriers_before logs b ≤ barrier_count (logs b.path)
        total = sum_by-take-le (λ r. cond (is_barrier_kind r.kind) 1 0) (logs b.path) b.index

        at : BarrierAt logs a.path (barriers_before logs a) → BarrierAt logs b.path (barriers_before logs a) → HappensBefore logs x y
        at from to =
            let w = from.barrier in
            let meets = to.barrier in
            let w_number : barriers_before logs w ≡ barriers_before logs a = from.passed in
            let number : barriers_before logs meets ≡ barriers_before logs a = to.passed in
            let after : w.index < a.index → barriers_before logs w < barriers_before logs a = barriers_after logs w a from.is_barrier from.same_log in
            let past : b.index ≤ meets.index → barriers_before logs b ≤ barriers_before logs meets = barriers_up logs b meets (sym to.same_log) in
            happens_before_trans logs x w y
            (out_to_barrier a x w up x_there (sym from.same_log) (not_after w.index a.index _ _ after (sym w_number)) from.is_barrier)
            (happens_before_trans logs w b y
            (over logs fork w meets b n m s
            (subst (λ (p : List Step). IsLane logs fork n s p) (sym from.same_log) mine) from.is_barrier
            (subst (λ (p : List Step). IsLane logs fork m s p) (sym to.same_log) yours) to.is_barrier
            (w_number ∙ sym number) to.same_log (not_later meets.index b.index _ _ past (omega arith)) (above_there b y other y_there))
            (into b y other y_there))
