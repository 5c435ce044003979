use Rattle.std.proofs.Common.{rules, arith, ap, ◌∙◌, subst, Option}
use Rattle.std.specs.Option.{is_some}
use Rattle.std.proofs.lemmas.Result.{err_from_is_err_and}
use Rattle.log_format.specs.declared.record.Record.{Record}
use Rattle.log_reader.specs.Reading.{GivesNext}
use Rattle.log_listing.specs.Listing.{record_line}
use Rattle.log_listing.proofs.ListedRecords.{listed_all, listed_part, listed_next, listed_refused}
use Rattle.log_listing.proofs.listing.list_records.Goals as goal

pub returns-in_err-next-clause-refused : goal.returns-in_err-next-clause-refused
returns-in_err-next-clause-refused g c =
    let p = err_from_is_err_and c.from_residual.result c.from_residual.ensures.1 in
    rw (p.1) (λ x told events stands. listed_part record_line x c.records.reader events _ _ _ _ c.records.number (c.records.invariant.listed x told events stands))

pub returns-in_err-list_record-clause-refused : goal.returns-in_err-list_record-clause-refused
returns-in_err-list_record-clause-refused g c =
    let p = err_from_is_err_and c.from_residual-in_err-list_record.result c.from_residual-in_err-list_record.ensures.1 in
    rw (p.1) (λ x told events stands.
    let listed = c.records.invariant.listed x told events stands in
    let gives = c.in_ok-next.ensures.gives x (ap (λ s. s.content) c.records.invariant.same ∙ told) listed.left listed.stands in
    listed_refused record_line x c.records.reader events _ _ _ _ c.records.number listed c.in-Some.next c.next_record.new.reader
    (subst (λ (o : Option Record). GivesNext x listed.left o c.next_record.new.reader) c.in-Some.is gives) _ _ c.in_err-list_record.ensures.refused)

pub overflow_add-number : goal.overflow_add-number
overflow_add-number g c =
    omega (arith, c.records.invariant.room, c.requires)

pub records-preserved : goal.records-preserved
records-preserved g c = record {
  listed = λ x told events stands.
      let listed = c.records.invariant.listed x told events stands in
      let gives = c.in_ok-next.ensures.gives x (ap (λ s. s.content) c.records.invariant.same ∙ told) listed.left listed.stands in
      listed_next record_line x c.records.reader events _ _ _ _ c.records.number listed c.in-Some.next c.next_record.new.reader
      (subst (λ (o : Option Record). GivesNext x listed.left o c.next_record.new.reader) c.in-Some.is gives) _ _ c.in_ok-list_record.ensures.done;
  room = omega (arith, c.records.invariant.room, c.in_ok-next.ensures.fewer (ap is_some c.in-Some.is));
  same = c.in_ok-next.ensures.reads.same ∙ c.records.invariant.same;
  no_fault = search rules;
  later_out = omega (arith, c.in_ok-list_record.ensures.later, c.records.invariant.later_out);
}

pub returns-clause-done : goal.returns-clause-done
returns-clause-done g c = λ x told events stands.
    let listed = c.records.invariant.listed x told events stands in
    let gives = c.in_ok-next.ensures.gives x (ap (λ s. s.content) c.records.invariant.same ∙ told) listed.left listed.stands in
    listed_all record_line x c.records.reader events _ _ _ _ c.records.number listed c.next_record.new.reader
    (subst (λ (o : Option Record). GivesNext x listed.left o c.next_record.new.reader) c.in_default.is gives)
