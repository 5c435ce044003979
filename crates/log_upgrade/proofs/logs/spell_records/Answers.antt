use Rattle.std.proofs.Common.{rules, arith, ap, ◌∙◌, subst, Option}
use Rattle.log_format.specs.declared.record.Record.{Record}
use Rattle.log_reader.specs.Reading.{GivesNext}
use Rattle.log_upgrade.proofs.Spelled.{spelled_all, spelled_next}
use Rattle.log_upgrade.proofs.logs.spell_records.Goals as goal

pub records-preserved : goal.records-preserved
records-preserved g c = record {
  spelled = λ x told events stands.
      let spelled = c.records.invariant.spelled x told events stands in
      let gives = c.in_ok-next.ensures.gives x (ap (λ s. s.content) c.records.invariant.same ∙ told) spelled.left spelled.stands in
      spelled_next x c.records.reader events c.records.bytes.items spelled c.next.new.self c.in-Some.next _
      (subst (λ (o : Option Record). GivesNext x spelled.left o c.next.new.self) c.in-Some.is gives) (search rules);
  same = c.in_ok-next.ensures.reads.same ∙ c.records.invariant.same;
  no_fault = search rules;
}

pub returns-clause-spelled : goal.returns-clause-spelled
returns-clause-spelled g c = λ x told events stands.
    let spelled = c.records.invariant.spelled x told events stands in
    let gives = c.in_ok-next.ensures.gives x (ap (λ s. s.content) c.records.invariant.same ∙ told) spelled.left spelled.stands in
    spelled_all x c.records.reader events c.records.bytes.items spelled c.next.new.self
    (subst (λ (o : Option Record). GivesNext x spelled.left o c.next.new.self) c.in_default.is gives)
