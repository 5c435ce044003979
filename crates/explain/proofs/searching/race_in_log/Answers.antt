use Rattle.std.proofs.Common.{rules, Option, [], ◌∷◌, ◌++◌, ap, sym, subst, ◌∙◌, arith}
use Rattle.std.specs.Option.{is_some}
use Rattle.log_format.specs.declared.record.Record.{Record}
use Rattle.log_reader.specs.Reading.{GivesNext}
use Rattle.race_model.specs.Row.{Row}
use Rattle.explain.specs.Finding.{IsPlaceAfter, MayFollow}
use Rattle.explain.specs.Least.{FindsPartner, HasNoPartner}
use Rattle.explain.specs.declared.finding.Found.{Found}
use Rattle.explain.specs.declared.searching.FoundPartner.{FoundPartner}
use Rattle.explain.proofs.Answering.{not_so}
use Rattle.explain.proofs.Hits.{no_race_here, race_here}
use Rattle.explain.proofs.Logs.{log_of, path_of, row_of_place}
use Rattle.explain.proofs.Probing.{no_race}
use Rattle.explain.proofs.Scanning.{next_in_log, next_node, next_tells, number_of, scans_next, scans_none}
use Rattle.explain.proofs.searching.race_in_log.Goals as goal

pub returns-then-not-suspected-clause-finds : goal.returns-then-not-suspected-clause-finds
returns-then-not-suspected-clause-finds g c = λ x told trace run all.
    let row = row_of_place c.args.rows.now c.args.first c.index-rows-first.result c.requires.first c.index-rows-first.is in
    let log = log_of x c.args.dir.now c.args.rows.now trace run c.args.first c.index-rows-first.result row in
    no_race trace c.args.lines c.args.suspects.now run.keeps all c.args.first c.row.inside.path
    (λ y in_y. path_of x c.args.dir.now trace c.args.first c.index-rows-first.result log y in_y ∙ sym (ap (λ (r : Row). r.path) c.row.view_is))
    (λ own their own_in their_in path team racing. not_so (c.in_ok-suspected.ensures own their own_in their_in path team racing) c.if-not-suspected.true)

pub records-init : goal.records-init
records-init g c = record {
  scans = λ x told trace run all.
      let row = row_of_place c.args.rows.now c.args.first c.index-rows-first.result c.requires.first c.index-rows-first.is in
      let log = log_of x c.args.dir.now c.args.rows.now trace run c.args.first c.index-rows-first.result row in
      scans_none log (HasNoPartner trace c.args.lines c.args.first) (c.in_ok-reader.ensures.stands x told log.task.records log.whole log.counted) c.start-place.ensures.after;
  room = c.start-place.ensures.room c.in_ok-reader.reader.left c.in_ok-reader.ensures.few;
  same = c.in_ok-reader.ensures.reads.same;
  no_fault = search rules;
}

pub records-preserved : goal.records-preserved
records-preserved g c = record {
  scans = λ x told trace run all.
      let s = c.records.invariant.scans x told trace run all in
      let now = ap (λ s. s.content) c.records.invariant.same ∙ told in
      let gives = subst (λ (o : Option Record). GivesNext x s.left o c.next_record.new.reader) c.in-Some.is (c.in_ok-next.ensures.gives x now s.left s.stands) in
      let tells = next_tells s c.in-Some.next c.next_record.new.reader c.found_at-one.result gives c.found_at-one.ensures in
      let finds = c.in_ok-partner.ensures.finds x (ap (λ s. s.content) c.in_ok-next.ensures.reads.same ∙ now) trace run all (next_node s) (next_in_log s) (number_of s) tells in
      scans_next s c.in-Some.next c.next_record.new.reader c.pass.new.self gives
      (subst (λ (o : Option FoundPartner). FindsPartner trace c.args.lines c.args.first (next_node s) o) c.in_default-partner.is finds)
      (λ may. subst (λ (f : Found). IsPlaceAfter c.pass.new.self (s.given ++ f.event ∷ [])) c.found_at-one.ensures (c.pass.ensures.after s.given s.after (subst (λ (f : Found). MayFollow c.records.place.held f.event) (sym c.found_at-one.ensures) may)));
  room =
      let room = c.records.invariant.room in
      let fewer = c.in_ok-next.ensures.fewer (ap is_some c.in-Some.is) in
      c.pass.ensures.room c.next_record.new.reader.left (record { records = omega (arith, room.records, fewer); regions = room.regions; barriers = room.barriers });
  same = c.in_ok-partner.ensures.reads.same ∙ (c.in_ok-next.ensures.reads.same ∙ c.records.invariant.same);
  no_fault = search rules;
}

pub returns-in-Some-partner-clause-finds : goal.returns-in-Some-partner-clause-finds
returns-in-Some-partner-clause-finds g c = λ x told trace run all.
    let s = c.records.invariant.scans x told trace run all in
    let now = ap (λ s. s.content) c.records.invariant.same ∙ told in
    let gives = subst (λ (o : Option Record). GivesNext x s.left o c.next_record.new.reader) c.in-Some.is (c.in_ok-next.ensures.gives x now s.left s.stands) in
    let tells = next_tells s c.in-Some.next c.next_record.new.reader c.found_at-one.result gives c.found_at-one.ensures in
    let finds = c.in_ok-partner.ensures.finds x (ap (λ s. s.content) c.in_ok-next.ensures.reads.same ∙ now) trace run all (next_node s) (next_in_log s) (number_of s) tells in
    race_here c.args.lines s c.race_pair.result c.in-Some-partner.partner c.race_pair.ensures.first_row c.race_pair.ensures.first c.race_pair.ensures.partner
    (subst (λ (o : Option FoundPartner). FindsPartner trace c.args.lines c.args.first (next_node s) o) c.in-Some-partner.is finds)

pub returns-clause-finds : goal.returns-clause-finds
returns-clause-finds g c = λ x told trace run all.
    let s = c.records.invariant.scans x told trace run all in
    let now = ap (λ s. s.content) c.records.invariant.same ∙ told in
    no_race_here c.args.lines s c.next_record.new.reader
    (subst (λ (o : Option Record). GivesNext x s.left o c.next_record.new.reader) c.in_default.is (c.in_ok-next.ensures.gives x now s.left s.stands))
