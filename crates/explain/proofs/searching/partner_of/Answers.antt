use Rattle.std.proofs.Common.{rules, ℕ, Option, inl, inr, refl, ap, subst, ◌∙◌, arith}
use Rattle.std.proofs.lemmas.Bool.{cases_order}
use Rattle.explain.specs.Least.{FindsHit}
use Rattle.explain.specs.Witness.{IsInLog}
use Rattle.explain.specs.declared.searching.Hit.{Hit}
use Rattle.explain.proofs.Hits.{within_rows}
use Rattle.explain.proofs.searching.partner_of.Goals as goal

pub rows-preserved : goal.rows-preserved
rows-preserved g c = record {
  none = λ x told trace run y in_y partners tells other z byte later below in_z races.
      let now = ap (λ s. s.content) c.rows.invariant.same ∙ told in
      let none = subst (λ (o : Option Hit). FindsHit trace c.args.lines y c.rows.second o) c.in_default.is (c.in_ok-hit.ensures.finds x now trace run y in_y partners tells) in
      elim (cases_order other c.rows.second) [
        | inl same ↦ none z byte (subst (λ (p : ℕ). IsInLog trace p z) same in_z) races
        | inr (inl less) ↦ c.rows.invariant.none x told trace run y in_y partners tells other z byte later less in_z races
        | inr (inr above) ↦ absurd (omega (arith, above, below))
      ];
  after = let after = c.rows.invariant.after in omega (arith, after);
  same = c.in_ok-hit.ensures.reads.same ∙ c.rows.invariant.same;
  no_fault = search rules;
}

pub returns-in-Some-clause-finds : goal.returns-in-Some-clause-finds
returns-in-Some-clause-finds g c = λ x told trace run y in_y partners tells.
    let now = ap (λ s. s.content) c.rows.invariant.same ∙ told in
    record {
      other = c.rows.second;
      later = c.rows.invariant.after;
      row_is = refl;
      first = subst (λ (o : Option Hit). FindsHit trace c.args.lines y c.rows.second o) c.in-Some.is (c.in_ok-hit.ensures.finds x now trace run y in_y partners tells);
      least = λ another z byte later below in_z races. c.rows.invariant.none x told trace run y in_y partners tells another z byte later below in_z races;
    }

pub returns-clause-finds : goal.returns-clause-finds
returns-clause-finds g c = λ x told trace run y in_y partners tells other z byte later in_z races.
    let within = within_rows trace c.args.rows.now run.rows_are other z in_z in
    c.rows.invariant.none x told trace run y in_y partners tells other z byte later (omega (arith, within, c.rows-test.false)) in_z races
