use Rattle.std.proofs.Common.{List, Contains, sym, subst}
use Rattle.std.specs.Borrow.{Bor}
use Rattle.log_segment.specs.declared.segment.Segment.{Segment}
use Rattle.explain.specs.Filed.{HasOne}
use Rattle.explain.specs.Suspects.{IsAmong, MayMeet}
use Rattle.explain.specs.declared.stretch.RecordRange.{RecordRange}
use Rattle.explain.proofs.Answering.{on_ok_two}
use Rattle.explain.proofs.Filing.{found_has, not_found}
use Rattle.explain.proofs.suspecting.add_met_within.Goals as goal

pub returns-in_default-clause-met : goal.returns-in_default-clause-met
returns-in_default-clause-met c = λ within their listed team may. absurd (not_found (λ v. HasOne their v.now.items) c.beside.result c.in_default.is (c.beside.ensures their listed team))

pub returns-clause-met : goal.returns-clause-met
returns-clause-met c = on_ok_two {P = (their : Segment) → HasOne their c.deref.result.now → MayMeet c.args.own.now their c.args.one.now c.args.lines → IsAmong their c.add_met.new.met.items}
    {Q = (s : RecordRange) → Contains c.args.met.now.items s → Contains c.add_met.new.met.items s} c.add_met.result (λ met old within their listed team may.
    met their (subst (λ (l : List (Bor Segment)). HasOne their l) (sym c.deref.ensures.value)
    (found_has (λ v. HasOne their v.now.items) c.beside.result c.in-Some.beside c.in-Some.is (c.beside.ensures their listed team))) may) c.add_met.ensures.met c.add_met.ensures.old
