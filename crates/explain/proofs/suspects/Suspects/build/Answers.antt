use Rattle.std.proofs.Common.{◌≡◌, ℕ, List, inl, inr, ap, sym, subst, ◌∙◌, arith}
use Rattle.std.specs.Prelude.{slice_get}
use Rattle.std.proofs.lemmas.Bool.{cases_order}
use Rattle.std.proofs.lemmas.Option.{same_Some}
use Rattle.log_segment.specs.declared.segment.Segment.{Segment}
use Rattle.race_model.specs.Race.{pair_cmp}
use Rattle.sw_base.specs.Names.{path_cmp}
use Rattle.sw_base.specs.declared.path.Step.{Step}
use Rattle.explain.specs.Filed.{IsFiled}
use Rattle.explain.specs.Suspects.{root_team}
use Rattle.explain.proofs.Answering.{contains_at, place_is}
use Rattle.explain.proofs.suspects.Suspects.build.Goals as goal

pub loop-suspect-preserved : goal.loop-suspect-preserved
loop-suspect-preserved c =
    let item = place_is c.args.all.now c.loop-suspect.suspect-index c.suspect-item.result c.loop-suspect-test.true c.suspect-item.is in
    record {
      tasks = λ k own below found. elim (cases_order k c.loop-suspect.suspect-index) [
        | inl same ↦ (let e : c.suspect-item.result ≡ own = same_Some c.suspect-item.result own (sym item ∙ (ap (slice_get c.args.all.now) (sym same) ∙ found)) in
            let key : c.copy.result ≡ c.suspect-item.result.path = c.copy.ensures.same ∙ ap (λ (s : Segment). s.path) c.segment-own.ensures in
            subst (λ (s : Segment). IsFiled path_cmp c.file.new.filed s.path s) e (subst (λ (p : List Step). IsFiled path_cmp c.file.new.filed p c.suspect-item.result) key c.in_ok-file.ensures.put))
        | inr (inl less) ↦ c.in_ok-file.ensures.old own.path own (c.loop-suspect.invariant.tasks k own less found)
        | inr (inr above) ↦ absurd (omega (arith, above, below))
      ];
      teams = λ k own below found. elim (cases_order k c.loop-suspect.suspect-index) [
        | inl same ↦ (let e : c.suspect-item.result ≡ own = same_Some c.suspect-item.result own (sym item ∙ (ap (slice_get c.args.all.now) (sym same) ∙ found)) in
            let key : c.root_team.result ≡ root_team c.suspect-item.result.label = c.root_team.ensures ∙ ap (λ (s : Segment). root_team s.label) c.segment-own.ensures in
            subst (λ (s : Segment). IsFiled pair_cmp c.file-in-loop-suspect.new.filed (root_team s.label) s) e (subst (λ (t : ℕ × ℕ). IsFiled pair_cmp c.file-in-loop-suspect.new.filed t c.suspect-item.result) key c.in_ok-file-2.ensures.put))
        | inr (inl less) ↦ c.in_ok-file-2.ensures.old (root_team own.label) own (c.loop-suspect.invariant.teams k own less found)
        | inr (inr above) ↦ absurd (omega (arith, above, below))
      ];
    }

pub invariant_of-result : goal.invariant_of-result
invariant_of-result c = (
  λ own listed. c.loop-suspect.invariant.tasks listed.0 own (omega (arith, listed.1, c.loop-suspect-test.false)) (contains_at c.args.all.now own listed),
  λ own listed. c.loop-suspect.invariant.teams listed.0 own (omega (arith, listed.1, c.loop-suspect-test.false)) (contains_at c.args.all.now own listed),
)
