use Rattle.std.proofs.Common.{codes, ◌≡◌, ◌≢◌, ap, sym, subst, ◌∙◌, length, map, rules, List, [], ℕ}
use Rattle.std.proofs.lemmas.List.{length-map}
use Rattle.kernel_syntax.specs.Program.{program_of}
use Rattle.serial_team.specs.Members.{whole_log}
use Rattle.certify.proofs.Judged.{has_certain_run, has_races, keep_rules, opens_too_many}
use Rattle.certify.proofs.certifying.judge.Goals as goal

pub folder_of-requires : goal.folder_of-requires
folder_of-requires g c = keep_rules (program_of c.args.kernel.now) (map whole_log c.args.run.logs.items) c.args.run.words.items c.requires

pub returns-in-Ok : goal.returns-in-Ok
returns-in-Ok g c =
    has_certain_run (program_of c.args.kernel.now) (map whole_log c.args.run.logs.items) c.args.run.words.items c.requires (codes "c") _ c.in_ok-folder.ensures c.in-Ok.pairs.keys _ _ c.in-Ok.ensures.pairs (c.is_free.ensures.0 c.if-is_free.true)
    (c.count_of-tasks.ensures ∙ (ap length c.deref.ensures.value ∙ sym (length-map c.args.run.logs.items whole_log))) (c.records_of-records.ensures ∙ search rules)

pub returns-in-Ok-2 : goal.returns-in-Ok-2
returns-in-Ok-2 g c =
    has_races (program_of c.args.kernel.now) (map whole_log c.args.run.logs.items) c.args.run.words.items c.requires (codes "c") _ c.in_ok-folder.ensures c.in-Ok.pairs.keys c.in-Ok.ensures.pairs
    (λ zero. let yes = c.is_free.ensures.1 zero in let no = c.if-is_free.false in cc)

pub returns-in-Err-TooManySegments : goal.returns-in-Err-TooManySegments
returns-in-Err-TooManySegments g c =
    let told = c.in_ok-folder.ensures in
    let is = c.in-Err-TooManySegments.field-0-is in
    opens_too_many (program_of c.args.kernel.now) (map whole_log c.args.run.logs.items) c.args.run.words.items c.requires (codes "c") _ told c.in-Err-TooManySegments.path c.in-Err-TooManySegments.number
    (rw is at ((rw c.in-Err-TooManySegments.is at c.folder_pairs.ensures.refused) told.content told.is))
