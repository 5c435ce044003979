use Rattle.std.proofs.Common.{rules, ◌≡◌, Bool, false, IsTrue, Option, ap, refl, subst, ◌∙◌, arith}
use Rattle.std.specs.Option.{is_some}
use Rattle.log_format.specs.declared.record.Record.{Record}
use Rattle.log_reader.specs.Reading.{GivesNext}
use Rattle.explain.proofs.Looking.{found_here, passed_next, found_none}
use Rattle.explain.proofs.finding.find_ahead.Goals as goal

not_so : {b : Bool} → IsTrue b → b ≡ false → ⊥
not_so h e = cc

pub returns-then-is_marked-clause-finds : goal.returns-then-is_marked-clause-finds
returns-then-is_marked-clause-finds g c = λ x told events stands nested.
    let p = c.records.invariant.passed x told events stands nested in
    let gives = c.in_ok-next.ensures.gives x (ap (λ s. s.content) c.records.invariant.same ∙ told) p.left p.stands in
    found_here x c.args.which c.records.reader c.records.place events p _ c.next_record.new.reader
    (subst (λ (o : Option Record). GivesNext x p.left o c.next_record.new.reader) c.in-Some.is gives)
    ((c.is_marked.ensures p.given p.after).0 c.if-is_marked.true) refl refl

pub records-preserved : goal.records-preserved
records-preserved g c = record {
  passed = λ x told events stands nested.
      let p = c.records.invariant.passed x told events stands nested in
      let gives = c.in_ok-next.ensures.gives x (ap (λ s. s.content) c.records.invariant.same ∙ told) p.left p.stands in
      passed_next x c.args.which c.records.reader c.records.place events p c.in-Some.next c.next_record.new.reader c.pass.new.self
      (subst (λ (o : Option Record). GivesNext x p.left o c.next_record.new.reader) c.in-Some.is gives) nested
      (λ marked. not_so ((c.is_marked.ensures p.given p.after).1 marked) c.if-is_marked.false) (c.pass.ensures.after p.given p.after);
  room =
      let room = c.records.invariant.room in
      let fewer = c.in_ok-next.ensures.fewer (ap is_some c.in-Some.is) in
      c.pass.ensures.room c.next_record.new.reader.left (record { records = omega (arith, room.records, fewer); regions = room.regions; barriers = room.barriers });
  same = c.in_ok-next.ensures.reads.same ∙ c.records.invariant.same;
  no_fault = search rules;
}

pub returns-clause-finds : goal.returns-clause-finds
returns-clause-finds g c = λ x told events stands nested.
    let p = c.records.invariant.passed x told events stands nested in
    let gives = c.in_ok-next.ensures.gives x (ap (λ s. s.content) c.records.invariant.same ∙ told) p.left p.stands in
    found_none x c.args.which c.records.reader c.records.place events p c.next_record.new.reader
    (subst (λ (o : Option Record). GivesNext x p.left o c.next_record.new.reader) c.in_default.is gives)
