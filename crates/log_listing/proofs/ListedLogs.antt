-- Logs that were listed, and those that come.
use Rattle.std.proofs.Common.{◌≡◌, ℕ, ◌+◌, ◌<◌, List, [], ◌∷◌, ◌++◌, length, get_or, Option, refl, sym, ap, subst, ◌∙◌, append_assoc, append-nil, arith, length-append}
use Rattle.std.specs.List.{All, flat_map}
use Rattle.std.proofs.lemmas.Grind.{flat_map-append}
use Rattle.sw_base.specs.declared.path.Step.{Step}
use Rattle.log_format.specs.declared.record.Record.{Record}
use Rattle.race_model.specs.FirstBad.{row_of, rows_of}
use Rattle.race_model.specs.Row.{Row}
use Rattle.race_model.specs.Trace.{TaskLog, Trace}
use Rattle.log_listing.specs.Listing.{log_line, log_text, records_text}
use Rattle.log_listing.specs.Printing.{PrintsInPieces, PrintsPrefix}
use Rattle.log_listing.proofs.PrintedParts.{prints_none, prints_both, prints_then_prefix, prefix_of, prefix_append}

-- the logs of the first tasks are listed, each as its text
pub record LogsTo (text : TaskLog → List ℕ) (trace : Trace) (old : Option (List ℕ)) (waited : List ℕ) (new : Option (List ℕ)) (waits : List ℕ) (index : ℕ) : Type 0 where
  pub given : Trace
  pub left : Trace
  pub parts : trace ≡ given ++ left
  pub index_is : index ≡ length given
  pub written : PrintsInPieces old waited new waits (flat_map text given)

pub LogsTo-start : (text : TaskLog → List ℕ) (trace : Trace) (old : Option (List ℕ)) (waited : List ℕ) → LogsTo text trace old waited old waited 0
LogsTo-start text trace old waited = record { given = []; left = trace; parts = refl; index_is = refl; written = prints_none old waited }

length-rows : (trace : Trace) → length (rows_of trace) ≡ length trace
length-rows [] = refl
length-rows (task ∷ rest) = let e : length (rows_of rest) + 1 ≡ length rest + 1 = omega (arith, length-rows rest) in omega arith

element_at : (given : Trace) (task : TaskLog) (rest : Trace) (d : TaskLog) → get_or (given ++ task ∷ rest) (length given) d ≡ task
element_at [] task rest d = refl
element_at (first ∷ given) task rest d = element_at given task rest d

row_at : (given : Trace) (task : TaskLog) (rest : Trace) (d : Row) → get_or (rows_of (given ++ task ∷ rest)) (length given) d ≡ row_of task
row_at [] task rest d = refl
row_at (first ∷ given) task rest d = row_at given task rest d

module _ (text : TaskLog → List ℕ) (trace : Trace) (rows : List Row) (same : rows_of trace ≡ rows) (old : Option (List ℕ)) (waited : List ℕ) (between : Option (List ℕ)) (waits : List ℕ) (index : ℕ)
    (listed : LogsTo text trace old waited between waits index) where
  -- all were listed
  pub logs_all : index ≡ length rows → PrintsInPieces old waited between waits (flat_map text trace)
  logs_all all = subst (λ (tasks : Trace). PrintsInPieces old waited between waits (flat_map text tasks)) (ended listed.left listed.parts) listed.written where
    ended : (left : Trace) → trace ≡ listed.given ++ left → listed.given ≡ trace
    ended [] parts = sym (parts ∙ append-nil listed.given)
    ended (task ∷ rest) parts =
        absurd (omega (arith, all, listed.index_is, ap length same, length-rows trace, ap length parts, length-append listed.given (task ∷ rest)))

  -- the task of the next row
  pub record IsTask (row : Row) : Type 0 where
    pub task : TaskLog
    pub rest : Trace
    pub left_is : listed.left ≡ task ∷ rest
    pub row_is : row ≡ row_of task
    pub listed_in : trace ≡ listed.given ++ task ∷ rest

  pub next_task : (row : Row) → index < length rows → row ≡ get_or rows index row → IsTask row
  next_task row within is = at listed.left refl where
    at : (left : Trace) → listed.left ≡ left → IsTask row
    at [] none =
        absurd (omega (arith, within, listed.index_is, ap length same, length-rows trace, ap length listed.parts, length-append listed.given listed.left, ap length none))
    at (task ∷ rest) some = let parts : trace ≡ listed.given ++ task ∷ rest = listed.parts ∙ ap (λ (tasks : Trace). listed.given ++ tasks) some in record {
      task = task;
      rest = rest;
      left_is = some;
      row_is = is ∙ ap (λ (rs : List Row). get_or rs index row) (sym same ∙ ap rows_of parts) ∙ ap (λ n. get_or (rows_of (listed.given ++ task ∷ rest)) n row) listed.index_is ∙ row_at listed.given task rest row;
      listed_in = parts;
    }

  -- what holds of each task holds of it
  pub holds_next : (P : TaskLog → Type 0) → All P trace → (row : Row) (next : IsTask row) → P next.task
  holds_next P all row next =
      subst P (ap (λ (tasks : Trace). get_or tasks (length listed.given) next.task) next.listed_in ∙ element_at listed.given next.task next.rest next.task)
      (all (length listed.given) next.task (omega (arith, ap length next.listed_in, length-append listed.given (next.task ∷ next.rest))))

  -- one more was listed
  pub logs_next : (row : Row) (next : IsTask row) (new : Option (List ℕ)) (left : List ℕ) → PrintsInPieces between waits new left (text next.task) → LogsTo text trace old waited new left (index + 1)
  logs_next row next new left text_is = record {
    given = listed.given ++ next.task ∷ [];
    left = next.rest;
    parts = next.listed_in ∙ sym (append_assoc listed.given (next.task ∷ []) next.rest);
    index_is = omega (arith, listed.index_is, length-append listed.given (next.task ∷ []));
    written =
        subst (λ (t : List ℕ). PrintsInPieces old waited new left t)
        (ap (λ t. flat_map text listed.given ++ t) (sym (append-nil (text next.task))) ∙ sym (flat_map-append text listed.given (next.task ∷ [])))
        (prints_both old waited between waits new left (flat_map text listed.given) (text next.task) listed.written text_is);
  }

  -- the text of the next one was refused
  pub logs_refused : (row : Row) (next : IsTask row) (new : Option (List ℕ)) (left : List ℕ) → PrintsPrefix between waits new left (text next.task) → PrintsPrefix old waited new left (flat_map text trace)
  logs_refused row next new left prefix =
      subst (λ (t : List ℕ). PrintsPrefix old waited new left t) (sym (ap (flat_map text) next.listed_in ∙ flat_map-append text listed.given (next.task ∷ next.rest)))
      (prints_then_prefix old waited between waits new left (flat_map text listed.given) (text next.task ++ flat_map text next.rest) listed.written
      (prefix_append between waits new left (text next.task) (flat_map text next.rest) prefix))

-- a log's line, and then its records
module _ (old : Option (List ℕ)) (waited : List ℕ) (new : Option (List ℕ)) (waits : List ℕ) (path : List Step) (count : ℕ) (events : List Record) (counted : count ≡ length events) where
  -- the line was refused
  pub refused_at_line : PrintsPrefix old waited new waits (log_line path count) → PrintsPrefix old waited new waits (log_text path events)
  refused_at_line prefix =
      prefix_append old waited new waits (log_line path (length events)) (records_text events) (subst (λ (n : ℕ). PrintsPrefix old waited new waits (log_line path n)) counted prefix)

  -- nothing came after the line
  pub refused_at_open : PrintsInPieces old waited new waits (log_line path count) → PrintsPrefix old waited new waits (log_text path events)
  refused_at_open line = prefix_of old waited new waits (log_line path (length events)) (records_text events) (subst (λ (n : ℕ). PrintsInPieces old waited new waits (log_line path n)) counted line)

module _ (old : Option (List ℕ)) (waited : List ℕ) (between : Option (List ℕ)) (waits : List ℕ) (new : Option (List ℕ)) (left : List ℕ) (path : List Step) (count : ℕ) (events : List Record)
    (counted : count ≡ length events) (line : PrintsInPieces old waited between waits (log_line path count)) where
  line_is : PrintsInPieces old waited between waits (log_line path (length events))
  line_is = subst (λ (n : ℕ). PrintsInPieces old waited between waits (log_line path n)) counted line

  -- all of it was listed
  pub log_done : PrintsInPieces between waits new left (records_text events) → PrintsInPieces old waited new left (log_text path events)
  log_done all = prints_both old waited between waits new left (log_line path (length events)) (records_text events) line_is all

  -- some of its records were
  pub refused_later : PrintsPrefix between waits new left (records_text events) → PrintsPrefix old waited new left (log_text path events)
  refused_later part = prints_then_prefix old waited between waits new left (log_line path (length events)) (records_text events) line_is part
