-- A kernel has one verdict.
use Rattle.std.proofs.Common.{◌≡◌, ℕ, ◌<◌, ◌≤◌, List, [], ◌∷◌, map, length, get_or, Some, refl, sym, ap, subst, ◌∙◌, arith}
use Rattle.std.proofs.lemmas.Grind.{same_number_lists}
use Rattle.std.specs.Prelude.{All, Contains, slice_get}
use Rattle.std.proofs.lemmas.List.Elements.{All-head, All-tail, All-weaker}
use Rattle.std.proofs.lemmas.Option.{same_Some}
use Rattle.sw_base.specs.declared.path.Step.{Step}
use Rattle.log_format.specs.declared.format.TheConstants.{FORMAT}
use Rattle.log_format.specs.Format.{log_header}
use Rattle.log_format.specs.Table.{IsTabled}
use Rattle.log_format.proofs.Logs.{log_bytes-injective}
use Rattle.race_model.specs.FirstBad.{segments_in}
use Rattle.race_model.specs.KeepsRules.{TaskKeepsRules}
use Rattle.race_model.specs.LogFault.{max_segments}
use Rattle.race_model.specs.Race.{IsRacePair, Lists}
use Rattle.race_model.specs.Trace.{TaskLog, Trace, logs_of}
use Rattle.kernel_syntax.specs.Program.{Program}
use Rattle.kernel_model.specs.Lawful.{IsLawful}
use Rattle.kernel_rules.proofs.LawfulFolder.{folder_keeps}
use Rattle.certainty_model.specs.Certain.{IsFixed}
use Rattle.certify.proofs.Fixed.{have_none}
use Rattle.certify.specs.Constructs.{construct_lines}
use Rattle.folder_commands.proofs.OneAnswer.{one_list}
use Rattle.kernel_model.specs.declared.stop.StopWhy.{StopWhy}
use Rattle.certify.specs.declared.certifying.TheConstants.{MOST_RECORDS}
use Rattle.certify.specs.declared.verdict.Verdict.{Verdict}
use Rattle.certify.specs.declared.verdict.Verdict.TheVariants as verdict
use Rattle.execution_model.specs.Elements.{element_address}
use Rattle.serial_team.specs.Members.{WholeLog}
use Rattle.serial_laws.specs.SerialRuns.{spelled}
use Rattle.serial_steps.specs.Lanes.{Still, GoesSerially}
use Rattle.serial_steps.proofs.OneRun.{one_run}
use Rattle.certify.specs.Verdicts.{EndsAs, HasCertainRun, HasRaces, OpensOneTooMany, OpensTheFirst, RunsTo, Tells, record_total}
use Rattle.certify_laws.specs.Same.{SayTheSame}
use Rattle.certify_laws.proofs.TooMany.{not_few, same_first}

abbrev AreTabled : TaskLog → Type 0
AreTabled task = All (IsTabled FORMAT) task.records

-- logs that are the same are of the same tasks, where their records are of the table
task_once : (t u : TaskLog) → spelled u ≡ spelled t → AreTabled t → AreTabled u → u ≡ t
task_once t u same here there =
    let path = ap (λ (log : WholeLog). log.path) same in
    let records = log_bytes-injective (log_header FORMAT) u.records t.records there here (ap (λ (log : WholeLog). log.bytes) same) in
    λ i. record { path = path i; records = records i }

tasks_once : (ts us : Trace) → map spelled us ≡ map spelled ts → All AreTabled ts → All AreTabled us → us ≡ ts
tasks_once [] [] same here there = refl
tasks_once [] (u ∷ us) same here there = cc
tasks_once (t ∷ ts) [] same here there = cc
tasks_once (t ∷ ts) (u ∷ us) same here there =
    let first : spelled u ≡ spelled t = cc in
    let others : map spelled us ≡ map spelled ts = cc in
    let head = task_once t u first (All-head AreTabled t ts here) (All-head AreTabled u us there) in
    let tail = tasks_once ts us others (All-tail AreTabled t ts here) (All-tail AreTabled u us there) in
    λ i. head i ∷ tail i

-- a fixed kernel has no construct
no_construct : (program : Program) (line : ℕ) → slice_get (construct_lines program.main.body) 0 ≡ Some line → IsFixed program.main.body → ⊥
no_construct program line found fixed = let none : construct_lines program.main.body ≡ [] = have_none program.main.body fixed in absurd (let e : slice_get [] 0 ≡ Some line = ap (λ (ls : List ℕ). slice_get ls 0) (sym none) ∙ found in cc)

module _ (program : Program) (lawful : IsLawful program) where
  -- ---- one run

  ends_once : (ts us : Trace) (memory also : ℕ → ℕ) (end other : Still) → IsFixed program.main.body → GoesSerially program MOST_RECORDS ts memory end → GoesSerially program MOST_RECORDS us also other
      → (us ≡ ts) × (also ≡ memory) × (other ≡ end)
  ends_once ts us memory also end other fixed = one_run program lawful fixed MOST_RECORDS ts us memory also end other

  are_tabled : (ts : Trace) (words : List ℕ) → RunsTo program ts words → All AreTabled ts
  are_tabled ts words a = All-weaker (TaskKeepsRules FORMAT ts) AreTabled (λ (task : TaskLog) keeps. keeps.tabled) ts (folder_keeps program lawful ts a.traced a.listed a.few).tasks

  same_run : (ts us : Trace) (words final : List ℕ) → RunsTo program ts words → RunsTo program us final → us ≡ ts
  same_run ts us words final a b =
      let made = (ends_once a.made b.made a.memory b.memory Still.at_end Still.at_end a.fixed a.goes b.goes).0 in
      tasks_once ts us (sym b.logs_are ∙ (ap (λ (tasks : Trace). map spelled tasks) made ∙ a.logs_are)) (are_tabled ts words a) (are_tabled us final b)

  -- it leaves one memory
  same_words : (ts us : Trace) (words final : List ℕ) → RunsTo program ts words → RunsTo program us final → final ≡ words
  same_words ts us words final a b = same_number_lists final words (b.all ∙ sym a.all) each where
    memory : b.memory ≡ a.memory
    memory = (ends_once a.made b.made a.memory b.memory Still.at_end Still.at_end a.fixed a.goes b.goes).1

    each : (k : ℕ) → k < length final → get_or final k 0 ≡ get_or words k 0
    each k less =
        b.words_are k less ∙ (ap (λ (m : ℕ → ℕ). m (element_address program.arrays k)) memory ∙ sym (a.words_are k (omega (arith, less, a.all, b.all))))

  segments_once : (path other : List Step) (n m : ℕ) → OpensOneTooMany program path n → OpensOneTooMany program other m → (other ≡ path) × (m ≡ n)
  segments_once path other n m a b =
      same_first a.tasks path other n m a.first (subst (λ (trace : Trace). OpensTheFirst trace other m) (same_run a.tasks b.tasks a.words b.words a.runs b.runs) b.first)

  segments_or_compared : (path : List Step) (n : ℕ) (tasks : Trace) (words : List ℕ) → OpensOneTooMany program path n → RunsTo program tasks words → segments_in tasks ≤ max_segments → ⊥
  segments_or_compared path n tasks words a runs few =
      not_few a.tasks path n a.first (subst (λ (trace : Trace). segments_in trace ≤ max_segments) (same_run a.tasks tasks a.words words a.runs runs) few)

  races_once : (pairs others : List (ℕ × ℕ)) → HasRaces program pairs → HasRaces program others → others ≡ pairs
  races_once pairs others a b =
      let same = same_run a.tasks b.tasks a.words b.words a.runs b.runs in
      one_list (IsRacePair (logs_of a.tasks)) others pairs (subst (λ (trace : Trace). Lists (IsRacePair (logs_of trace)) others) same b.races) a.races

  races_or_certain : (pairs : List (ℕ × ℕ)) (n m : ℕ) (words : List ℕ) → HasRaces program pairs → HasCertainRun program n m words → ⊥
  races_or_certain pairs n m words a b =
      let same = same_run a.tasks b.tasks a.words words a.runs b.runs in
      a.some (none pairs (λ pair is. b.certain.no_race pair (subst (λ (trace : Trace). IsRacePair (logs_of trace) pair) (sym same) ((a.races.each pair).0 is))))
    where
      none : (pairs : List (ℕ × ℕ)) → ((pair : ℕ × ℕ) → Contains pairs pair → ⊥) → pairs ≡ []
      none [] apart = refl
      none (p ∷ pairs) apart = absurd (apart p (0, omega arith, refl))

  certain_once : (n m k l : ℕ) (words final : List ℕ) → HasCertainRun program n m words → HasCertainRun program k l final → (k ≡ n) × (l ≡ m) × (final ≡ words)
  certain_once n m k l words final a b =
      let same = same_run a.tasks b.tasks words final a.runs b.runs in (
        b.count_is ∙ (ap (λ (trace : Trace). length trace) same ∙ sym a.count_is),
        b.records_are ∙ (ap (λ (trace : Trace). record_total trace) same ∙ sym a.records_are),
        same_words a.tasks b.tasks words final a.runs b.runs,
      )

  -- ---- one end

  same_end : (end other : Still) → EndsAs program end → EndsAs program other → other ≡ end
  same_end end other a b = (ends_once a.1.tasks b.1.tasks a.1.memory b.1.memory end other a.0 a.1.goes b.1.goes).2

  long_or_ran : (path : List Step) (n : ℕ) (tasks : Trace) (words : List ℕ) → EndsAs program (Still.too_long path n) → RunsTo program tasks words → ⊥
  long_or_ran path n tasks words l r = let same = (ends_once l.1.tasks r.made l.1.memory r.memory (Still.too_long path n) Still.at_end l.0 l.1.goes r.goes).2 in cc

  stop_or_ran : (path : List Step) (line : ℕ) (why : StopWhy) (tasks : Trace) (words : List ℕ) → EndsAs program (Still.stopped path line why) → RunsTo program tasks words → ⊥
  stop_or_ran path line why tasks words l r = let same = (ends_once l.1.tasks r.made l.1.memory r.memory (Still.stopped path line why) Still.at_end l.0 l.1.goes r.goes).2 in cc

  long_or_stop : (path other : List Step) (n line : ℕ) (why : StopWhy) → EndsAs program (Still.too_long path n) → EndsAs program (Still.stopped other line why) → ⊥
  long_or_stop path other n line why l s = let same = same_end (Still.too_long path n) (Still.stopped other line why) l s in cc

  pub one_verdict : (v w : Verdict) → Tells program v → Tells program w → SayTheSame v w
  one_verdict (verdict.Construct line) (verdict.Construct other) a b = same_Some other line (sym b ∙ a)
  one_verdict (verdict.Construct line) (verdict.Long path n) a b = absurd (no_construct program line a b.0)
  one_verdict (verdict.Construct line) (verdict.Stopped path k why) a b = absurd (no_construct program line a b.0)
  one_verdict (verdict.Construct line) (verdict.Segments path n) a b = absurd (no_construct program line a b.runs.fixed)
  one_verdict (verdict.Construct line) (verdict.Racy pairs) a b = absurd (no_construct program line a b.runs.fixed)
  one_verdict (verdict.Construct line) (verdict.Certain n m words) a b = absurd (no_construct program line a b.runs.fixed)
  one_verdict (verdict.Long path n) (verdict.Construct line) a b = absurd (no_construct program line b a.0)
  one_verdict (verdict.Long path n) (verdict.Long other m) a b =
      let same = same_end (Still.too_long path n) (Still.too_long other m) a b in
      (cc, cc)
  one_verdict (verdict.Long path n) (verdict.Stopped other k why) a b = absurd (long_or_stop path other n k why a b)
  one_verdict (verdict.Long path n) (verdict.Segments other m) a b = absurd (long_or_ran path n b.tasks b.words a b.runs)
  one_verdict (verdict.Long path n) (verdict.Racy pairs) a b = absurd (long_or_ran path n b.tasks b.words a b.runs)
  one_verdict (verdict.Long path n) (verdict.Certain k m words) a b = absurd (long_or_ran path n b.tasks words.items a b.runs)
  one_verdict (verdict.Stopped path line why) (verdict.Construct k) a b = absurd (no_construct program k b a.0)
  one_verdict (verdict.Stopped path line why) (verdict.Long other n) a b = absurd (long_or_stop other path n line why b a)
  one_verdict (verdict.Stopped path line why) (verdict.Stopped other k also) a b =
      let same = same_end (Still.stopped path line why) (Still.stopped other k also) a b in
      (cc, cc, cc)
  one_verdict (verdict.Stopped path line why) (verdict.Segments other m) a b = absurd (stop_or_ran path line why b.tasks b.words a b.runs)
  one_verdict (verdict.Stopped path line why) (verdict.Racy pairs) a b = absurd (stop_or_ran path line why b.tasks b.words a b.runs)
  one_verdict (verdict.Stopped path line why) (verdict.Certain k m words) a b = absurd (stop_or_ran path line why b.tasks words.items a b.runs)
  one_verdict (verdict.Segments path n) (verdict.Construct line) a b = absurd (no_construct program line b a.runs.fixed)
  one_verdict (verdict.Segments path n) (verdict.Long other m) a b = absurd (long_or_ran other m a.tasks a.words b a.runs)
  one_verdict (verdict.Segments path n) (verdict.Stopped other line why) a b = absurd (stop_or_ran other line why a.tasks a.words b a.runs)
  one_verdict (verdict.Segments path n) (verdict.Segments other m) a b = segments_once path other n m a b
  one_verdict (verdict.Segments path n) (verdict.Racy pairs) a b = absurd (segments_or_compared path n b.tasks b.words a b.runs b.compared)
  one_verdict (verdict.Segments path n) (verdict.Certain k m words) a b = absurd (segments_or_compared path n b.tasks words.items a b.runs b.compared)
  one_verdict (verdict.Racy pairs) (verdict.Construct line) a b = absurd (no_construct program line b a.runs.fixed)
  one_verdict (verdict.Racy pairs) (verdict.Long other m) a b = absurd (long_or_ran other m a.tasks a.words b a.runs)
  one_verdict (verdict.Racy pairs) (verdict.Stopped other line why) a b = absurd (stop_or_ran other line why a.tasks a.words b a.runs)
  one_verdict (verdict.Racy pairs) (verdict.Segments other m) a b = absurd (segments_or_compared other m a.tasks a.words b a.runs a.compared)
  one_verdict (verdict.Racy pairs) (verdict.Racy others) a b = races_once pairs.keys others.keys a b
  one_verdict (verdict.Racy pairs) (verdict.Certain k m words) a b = absurd (races_or_certain pairs.keys k m words.items a b)
  one_verdict (verdict.Certain k m words) (verdict.Construct line) a b = absurd (no_construct program line b a.runs.fixed)
  one_verdict (verdict.Certain k m words) (verdict.Long other n) a b = absurd (long_or_ran other n a.tasks words.items b a.runs)
  one_verdict (verdict.Certain k m words) (verdict.Stopped other line why) a b = absurd (stop_or_ran other line why a.tasks words.items b a.runs)
  one_verdict (verdict.Certain k m words) (verdict.Segments other n) a b = absurd (segments_or_compared other n a.tasks words.items b a.runs a.compared)
  one_verdict (verdict.Certain k m words) (verdict.Racy pairs) a b = absurd (races_or_certain pairs.keys k m words.items b a)
  one_verdict (verdict.Certain k m words) (verdict.Certain i j final) a b = certain_once k m i j words.items final.items a b
