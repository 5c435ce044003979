-- How the lanes of a team go on, phase by phase.
use Rattle.std.proofs.Common.{◌≡◌, ap, sym, ◌∙◌, subst, ℕ, ◌+◌, ◌<◌, ◌≤◌, List, [], ◌∷◌, ◌++◌, length, take, drop, set, get_or, append_assoc, arith}
use Rattle.std.specs.Prelude.{All}
use Rattle.std.proofs.lemmas.List.{take_more_set, take_all, drop_more, drop_all, map-append, append-nil}
use Rattle.sw_base.specs.declared.path.Step.{Step}
use Rattle.kernel_syntax.specs.declared.syntax.Array.{Array}
use Rattle.serial_team.specs.declared.member.Member.{Member}
use Rattle.serial_run.specs.Placing.{ElementLayout}
use Rattle.serial_team.specs.declared.member.Stage.TheVariants as stage
use Rattle.serial_team.specs.Members.{Pool, pool_at, MemberValue, later, idle, idle_member, all_idle, path_in}
use Rattle.serial_team.specs.Running.{no_lane, lane, last, next, RanTo, DidPhase, RanPhases, HaveArrays}
use Rattle.serial_team.proofs.Going.{team_at}

-- the lanes came to there, and do from the first on what they do from there
pub record PhasesFrom (layout : ElementLayout) (arrays : List Array) (at : List Step) (number : ℕ) (xs : List MemberValue) (p : Pool) (ys : List MemberValue) (q : Pool) : Type 0 where
  pub have : HaveArrays arrays ys
  pub then' : (zs : List MemberValue) (r : Pool) → RanPhases layout at number ys q zs r → RanPhases layout at number xs p zs r

module _ (layout : ElementLayout) (arrays : List Array) (at : List Step) (number : ℕ) (xs : List MemberValue) (p : Pool) where
  module _ (ys zs : List MemberValue) (q r : Pool) (from : PhasesFrom layout arrays at number xs p ys q) (one : DidPhase layout at number ys q zs r) where
    pub phases_more : All (λ (z : MemberValue). z.stage ≡ stage.Waits) zs → PhasesFrom layout arrays at number xs p zs r
    phases_more wait = record {
      have = team_at layout arrays at number ys q one.works zs r one.runs from.have;
      then' = λ us s ran. from.then' us s (record { phases = _; runs = next at number ys zs us q r s one.works ran.phases one.runs wait ran.runs });
    }

    pub phases_last : All (λ (z : MemberValue). z.stage ≡ stage.Ended) zs → RanPhases layout at number xs p zs r
    phases_last ended = from.then' zs r (record { phases = _; runs = last at number ys zs q r one.works one.runs ended })

-- the lanes from this one on are left of a phase, of which those before it left this
pub record PhaseFrom (layout : ElementLayout) (at : List Step) (number : ℕ) (xs left : List MemberValue) (p : Pool) (ys : List MemberValue) (q : Pool) : Type 0 where
  pub then' : (zs : List MemberValue) (r : Pool) → DidPhase layout at number left q zs r → DidPhase layout at number xs p (ys ++ zs) r

module _ (layout : ElementLayout) (at : List Step) (number : ℕ) (old now : List Member) (p q : Pool) (i : ℕ) (d after : Member) (within : i < length old) (long : length now ≡ length old)
    (before : PhaseFrom layout at number (all_idle old) (all_idle (drop i old)) p (all_idle (take i now)) q) (y : MemberValue) where
  pub phase_more : RanTo layout (path_in at number (idle_member (get_or old i d))) (later (idle_member (get_or old i d)) q) y → idle y ≡ idle_member after
      → PhaseFrom layout at number (all_idle old) (all_idle (drop (i + 1) old)) p (all_idle (take (i + 1) (set now i after))) (pool_at y.stand)
  phase_more ran is = record {
    then' = λ zs r rest.
        subst (λ (us : List MemberValue). DidPhase layout at number (all_idle old) p us r)
        (sym (append_assoc (all_idle (take i now)) (idle y ∷ []) zs)
        ∙ ap (λ (us : List MemberValue). us ++ zs)
        (ap (λ (v : MemberValue). all_idle (take i now) ++ v ∷ []) is
        ∙ sym (ap all_idle (take_more_set now i after (let e : i < length now = omega arith in e)) ∙ map-append idle_member (take i now) (after ∷ []))))
        (before.then' (idle y ∷ zs) r
        (subst (λ (us : List MemberValue). DidPhase layout at number us q (idle y ∷ zs) r) (sym (ap all_idle (drop_more old i d within)))
        (record { works = _; runs = lane at number (idle_member (get_or old i d)) y (all_idle (drop (i + 1) old)) zs q r ran.work rest.works ran.runs rest.runs })));
  }

module _ (layout : ElementLayout) (at : List Step) (number : ℕ) (old : List Member) (p : Pool) where
  pub phase_begins : PhaseFrom layout at number (all_idle old) (all_idle old) p [] p
  phase_begins = record { then' = λ zs r ran. ran }

  pub phase_ends : (now : List Member) (q : Pool) (i : ℕ) → length old ≤ i → length now ≡ length old
      → PhaseFrom layout at number (all_idle old) (all_idle (drop i old)) p (all_idle (take i now)) q → DidPhase layout at number (all_idle old) p (all_idle now) q
  phase_ends now q i done long from =
      subst (λ (us : List MemberValue). DidPhase layout at number (all_idle old) p us q)
      (append-nil (all_idle (take i now)) ∙ ap all_idle (take_all i now (omega arith)))
      (from.then' [] q (subst (λ (us : List MemberValue). DidPhase layout at number us q [] q) (sym (ap all_idle (drop_all i old done))) (record { works = []; runs = no_lane at number q })))
