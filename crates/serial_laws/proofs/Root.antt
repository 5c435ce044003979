-- A root that ran to its end is a serial run of its kernel.
use Rattle.std.proofs.Common.{◌≡◌, refl, ap, sym, ◌∙◌, subst, ◌⊎◌, inl, inr, ℕ, suc, ◌+◌, ◌*◌, ◌-◌, ◌<◌, ◌≤◌, List, [], ◌∷◌, length, map, Some, pos, arith}
use Rattle.std.specs.Prelude.{replicate, slice_get, slice_index, sum_by}
use Rattle.std.proofs.lemmas.Bool.{cases_lt}
use Rattle.std.proofs.lemmas.List.{append-nil, get_or-replicate, length-map, length-replicate}
use Rattle.std.proofs.lemmas.List.Sums.{sum_by-cons}
use Rattle.log_format.specs.Fitting.{IsWidth, CanHave}
use Rattle.log_format.proofs.FittedBits.{fit_zero}
use Rattle.race_model.specs.IndexFault.{max_rows}
use Rattle.race_model.specs.Trace.{Trace, logs_of}
use Rattle.kernel_syntax.proofs.Placing.{bounded_arrays_are_placed}
use Rattle.kernel_syntax.specs.declared.syntax.Array.{Array}
use Rattle.kernel_syntax.specs.Layout.{aligned, elements, laid_from}
use Rattle.kernel_syntax.specs.Program.{Program}
use Rattle.kernel_model.specs.Folder.{root_start}
use Rattle.kernel_model.specs.Lawful.{IsLawful}
use Rattle.kernel_model.specs.Value.{Site}
use Rattle.history_model.specs.Did.{did}
use Rattle.history_model.specs.Joined.{LastIsEnd}
use Rattle.history_model.specs.Sound.{HasAddresses}
use Rattle.history_model.specs.Work.{work_records}
use Rattle.execution_model.specs.Runs.{logged_tasks}
use Rattle.serial_model.specs.Serial.{FindSo}
use Rattle.serial_run.specs.Placing.{OfLog, ElementLayout, TellsWords}
use Rattle.serial_team.specs.Members.{WholeLog, MemberValue, later, logs_at, BeginsLane}
use Rattle.serial_team.specs.Running.{DidRoot}
use Rattle.serial_laws.specs.SerialRuns.{spelled, IsSerialRun, LogsSerialRun}
use Rattle.serial_laws.proofs.Counted.{root_few, root_room}
use Rattle.serial_laws.proofs.Found.{Agrees, lane_does}
use Rattle.serial_laws.proofs.Logged.{root_logged}
use Rattle.serial_laws.proofs.Shapes.{IsShaped, lane_shaped}
use Rattle.serial_laws.proofs.Traced.{Runs, lane_at_start, root_runs}

-- ---- elements

-- an element of an array, whose number among all is this
record IsNumbered (arrays : List Array) (word : ℕ) : Type 0 where
  place : ℕ
  array : Array
  index : ℕ
  found : slice_get arrays place ≡ Some array
  within : index < array.count
  is : array.first + index ≡ word

-- so in arrays of which the first is laid out
abbrev Placed : ℕ → ℕ → Array → Array
Placed base first a = record a { base = base; first = first }

numbered : (base first : ℕ) (arrays : List Array) (word : ℕ) → first ≤ word → word < first + elements arrays → IsNumbered (laid_from base first arrays) word
numbered base first [] word low high = absurd (let none : elements [] ≡ 0 = refl in omega (arith, none, low, high))
numbered base first (a ∷ arrays) word low high =
    by (cases_lt word (first + a.count))
    (λ past. numbered (aligned (base + a.width * a.count)) (first + a.count) arrays word past (let sum : elements (a ∷ arrays) ≡ a.count + elements arrays = sum_by-cons (λ (x : Array). x.count) a arrays in omega (arith, high, sum)))
  where
    by : (word < first + a.count) ⊎ (first + a.count ≤ word) → (first + a.count ≤ word → IsNumbered (laid_from (aligned (base + a.width * a.count)) (first + a.count) arrays) word)
        → IsNumbered (laid_from base first (a ∷ arrays)) word
    by (inl here) rest = record { place = 0; array = Placed base first a; index = word - first; found = refl; within = omega (arith, low, here); is = omega (arith, low) }
    by (inr past) rest =
        let e = rest past in
        record { place = suc e.place; array = e.array; index = e.index; found = e.found; within = e.within; is = e.is }

module _ (layout : ElementLayout) (program : Program) (lawful : IsLawful program) (tells : TellsWords program.arrays layout) where
  -- each element has an address, and a width
  pub of_element : (word : ℕ) → word < layout.count → (layout.words.word (layout.words.address word) ≡ word) × IsWidth (layout.words.width word)
  of_element word less =
      let high : word < 0 + elements program.arrays = omega (arith, less, tells.count) in
      let e = subst (λ (arrays : List Array). IsNumbered arrays word) (sym lawful.bounded.placed) (numbered 4096 0 program.arrays word (omega arith) high) in
      let placed = (bounded_arrays_are_placed program lawful.bounded).each e.place e.array e.found in (
        subst (λ (n : ℕ). layout.words.word (layout.words.address n) ≡ n) e.is
            (ap (λ (addr : ℕ). layout.words.word addr) (tells.address e.place e.index e.array e.found e.within) ∙ tells.word e.place e.index e.array e.found e.within),
        subst IsWidth (sym (tells.width e.place e.index e.array e.found e.within) ∙ ap (λ (n : ℕ). layout.words.width n) e.is) placed.width,
      )

  -- at the start all words are 0
  pub begin_agrees : Agrees layout (replicate (elements program.arrays) 0) []
  begin_agrees = record {
    count = length-replicate (elements program.arrays) 0 ∙ sym tells.count;
    each = λ w less. zeros w less;
    fits = λ w less. subst (λ (v : ℕ). CanHave (layout.words.width w) v) (sym (zeros w less)) (fit_zero (layout.words.width w) (of_element w less).1);
  }
    where
      zeros : (w : ℕ) → w < layout.count → slice_index (replicate (elements program.arrays) 0) w ≡ 0
      zeros w less = get_or-replicate (elements program.arrays) w 0 0 (omega (arith, less, tells.count))

  module _ (by_log : layout.bound ≡ OfLog) (left : ℕ) (logs : List WholeLog) (words : List ℕ) (r : DidRoot layout program left logs words) where
    abbrev first : MemberValue
    first = later r.before (record { words = replicate (elements program.arrays) 0; left = left })

    begins : BeginsLane program.arrays program.main (replicate program.slots (pos 0)) 0 first
    begins = record {
      at = r.begins.at;
      locals = r.begins.locals;
      log = r.begins.log;
      none = r.begins.none;
      whole = r.begins.whole;
      unforked = r.begins.unforked;
      none_below = r.begins.none_below;
    }

    runs : Runs layout by_log program (root_start program) (r.work ∷ [])
    runs =
        root_runs layout by_log program (root_start program) first r.work r.after r.runs (ap (λ (s : Site). s.arrays) r.begins.at)
        (lane_at_start program program.main (replicate program.slots (pos 0)) 0 first begins) (record { body = lawful.bounded.body; end = lawful.bounded.end_line }) r.ended

    shape : IsShaped layout 4 r.after r.work
    shape = lane_shaped layout 4 [] first r.work r.after r.runs (omega arith)

    found : FindSo [] (did layout.words.word [] 0 r.work) × Agrees layout r.after.stand.progress.words (did layout.words.word [] 0 r.work)
    found = lane_does layout [] 0 [] first r.work r.after r.runs [] begin_agrees

    agrees : Agrees layout words (did layout.words.word [] 0 r.work)
    agrees = subst (λ (ws : List ℕ). Agrees layout ws (did layout.words.word [] 0 r.work)) (sym r.words_are) found.1

    inside : (w : ℕ) → w < length words → w < layout.count
    inside w less = omega (arith, less, agrees.count)

    addresses : HasAddresses layout.words words
    addresses w less = of_element w (inside w less)

    ended : LastIsEnd (logs_of (logged_tasks 4 r.work) [])
    ended = subst LastIsEnd (sym (runs.log ∙ append-nil (work_records r.work))) (shape.at_end r.ended)

    is_serial : IsSerialRun program layout.words (logged_tasks 4 r.work) words
    is_serial = record {
      root = r.work;
      runs = record {
        work = record {
          sound = shape.sound;
          joined = shape.joined;
          runs = runs.task;
          nests = shape.nests;
          addresses = addresses;
          fitted = record { count = refl; each = λ w less. sym (agrees.fits w (inside w less)) };
          ended = ended;
        };
        serial = found.0;
        leaves = λ w less. agrees.each w (inside w less);
      };
      tasks_are = refl;
      all = agrees.count ∙ tells.count;
    }

    all_logged : logs_at [] r.after ≡ map spelled (logged_tasks 4 r.work)
    all_logged =
        root_logged layout 4 program.arrays program.main (replicate program.slots (pos 0)) first r.work r.after r.runs (omega arith) begins
        ∙ ap (λ (tasks : Trace). map spelled tasks) (sym (runs.whole 5 []))

    pub logs_run : LogsSerialRun program layout.words left logs words
    logs_run = record {
      tasks = logged_tasks 4 r.work;
      logs_are = r.logs_are ∙ all_logged;
      within =
          subst (λ (l : List WholeLog). sum_by (λ (log : WholeLog). log.count) l ≤ left) (sym r.logs_are)
          (root_room layout program.arrays program.main (replicate program.slots (pos 0)) first r.work r.after r.runs begins);
      few =
          subst (λ (n : ℕ). n ≤ max_rows)
          (ap (λ (l : List WholeLog). length l) all_logged ∙ length-map (logged_tasks 4 r.work) spelled)
          (root_few layout program.arrays program.main (replicate program.slots (pos 0)) first r.work r.after r.runs begins);
      run = is_serial;
    }
