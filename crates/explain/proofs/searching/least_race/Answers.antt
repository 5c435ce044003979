use Rattle.std.proofs.Common.{rules, ℕ, inl, inr, ap, sym, subst, ◌∙◌, arith}
use Rattle.std.proofs.lemmas.Bool.{cases_order}
use Rattle.explain.specs.Least.{HasNoPartner}
use Rattle.explain.specs.Witness.{IsInLog}
use Rattle.explain.proofs.Hits.{explains_none, explains_found, found_none, within_rows}
use Rattle.explain.proofs.searching.least_race.Goals as goal

pub rows-preserved : goal.rows-preserved
rows-preserved g c = record {
  none = λ x told trace run all p y before in_y.
      let now = ap (λ s. s.content) c.rows.invariant.same ∙ told in
      let none = found_none trace c.args.lines c.rows.first c.in_ok-found.found (sym c.is_some.ensures ∙ c.if-is_some.false) (c.in_ok-found.ensures.finds x now trace run all) in
      elim (cases_order p c.rows.first) [
        | inl same ↦ subst (λ (q : ℕ). HasNoPartner trace c.args.lines q y) (sym same) (none y (subst (λ (q : ℕ). IsInLog trace q y) same in_y))
        | inr (inl less) ↦ c.rows.invariant.none x told trace run all p y less in_y
        | inr (inr above) ↦ absurd (omega (arith, above, before))
      ];
  same = c.in_ok-found.ensures.reads.same ∙ c.rows.invariant.same;
  no_fault = search rules;
}

pub returns-then-is_some-clause-explains : goal.returns-then-is_some-clause-explains
returns-then-is_some-clause-explains g c = λ x told trace run all.
    let now = ap (λ s. s.content) c.rows.invariant.same ∙ told in
    explains_found trace c.args.lines c.rows.first c.in_ok-found.found (sym c.is_some.ensures ∙ c.if-is_some.true) (c.in_ok-found.ensures.finds x now trace run all) (c.rows.invariant.none x told trace run all)

pub returns-clause-explains : goal.returns-clause-explains
returns-clause-explains g c = λ x told trace run all.
    explains_none trace c.args.lines (λ p y before in_y. c.rows.invariant.none x told trace run all p y (let within = within_rows trace c.args.rows.now run.rows_are p y in_y in omega (arith, within, c.rows-test.false)) in_y)
