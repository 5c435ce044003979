use Rattle.std.proofs.Common.{refl}
use Rattle.command_answer.proofs.Answering.{Tries-from_made, Tries-from_prints}
use Rattle.certify.specs.declared.verdict.Verdict.TheVariants.{Certain, Construct, Long, Racy, Segments, Stopped}
use Rattle.certify_command.specs.Certify.{IsVerdictText}
use Rattle.certify_command.specs.Texts.{certain_text, construct_text, long_text, segments_text, uncertain_stop_text}
use Rattle.certify_command.proofs.answering.print_verdict.Goals as goal

pub returns-in-Construct-clause-prints : goal.returns-in-Construct-clause-prints
returns-in-Construct-clause-prints g c =
    rw c.in-Construct.is
    (Tries-from_made (IsVerdictText c.args.arrays.now (Construct c.in-Construct.line)) c.construct.result _ (construct_text c.in-Construct.line) _ _ _
    (record { status_is = refl; text_is = refl }) c.construct.ensures c.print_made.ensures.prints c.print_made.ensures.silent)

pub returns-in-Long-clause-prints : goal.returns-in-Long-clause-prints
returns-in-Long-clause-prints g c =
    rw c.in-Long.is
    (Tries-from_made (IsVerdictText c.args.arrays.now (Long c.in-Long.path c.in-Long.number)) c.long.result _ (long_text c.in-Long.path c.in-Long.number) _ _ _
    (record { status_is = refl; text_is = refl }) c.long.ensures c.print_made-in-Long.ensures.prints c.print_made-in-Long.ensures.silent)

pub returns-in-Stopped-clause-prints : goal.returns-in-Stopped-clause-prints
returns-in-Stopped-clause-prints g c =
    rw c.in-Stopped.is
    (Tries-from_made (IsVerdictText c.args.arrays.now (Stopped c.in-Stopped.path c.in-Stopped.line c.in-Stopped.why)) c.stopped-text.result _ (uncertain_stop_text c.in-Stopped.path c.in-Stopped.line c.in-Stopped.why) _ _ _
    (record { status_is = refl; text_is = refl }) c.stopped-text.ensures c.print_made-in-Stopped.ensures.prints c.print_made-in-Stopped.ensures.silent)

pub returns-in-Segments-clause-prints : goal.returns-in-Segments-clause-prints
returns-in-Segments-clause-prints g c =
    rw c.in-Segments.is
    (Tries-from_made (IsVerdictText c.args.arrays.now (Segments c.in-Segments.path c.in-Segments.number)) c.segments.result _ (segments_text c.in-Segments.path c.in-Segments.number) _ _ _
    (record { status_is = refl; text_is = refl }) c.segments.ensures c.print_made-in-Segments.ensures.prints c.print_made-in-Segments.ensures.silent)

pub returns-in-Racy-clause-prints : goal.returns-in-Racy-clause-prints
returns-in-Racy-clause-prints g c = rw c.in-Racy.is (Tries-from_prints (IsVerdictText c.args.arrays.now (Racy c.in-Racy.pairs)) _ _ _ _ _ (record { status_is = refl; text_is = refl }) c.print_races.ensures.prints)

pub returns-in-Certain-clause-prints : goal.returns-in-Certain-clause-prints
returns-in-Certain-clause-prints g c =
    rw c.in-Certain.is
    (Tries-from_made (IsVerdictText c.args.arrays.now (Certain c.in-Certain.tasks c.in-Certain.records c.in-Certain.words)) c.certain-text.result _ (certain_text c.in-Certain.tasks c.in-Certain.records c.args.arrays.now c.in-Certain.words.items) _ _ _
    (record { status_is = refl; text_is = refl }) (rw (← c.deref.ensures.value) c.certain-text.ensures) c.print_made-in-Certain.ensures.prints c.print_made-in-Certain.ensures.silent)
