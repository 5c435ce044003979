-- A certain run is every run: the law, and its consequences.
use Rattle.std.proofs.Common.{◌≡◌, refl, ap, sym, ◌∙◌, subst, ◌⊎◌, inl, inr, ℕ, ◌<◌, ◌≤◌, List, [], ◌∷◌, ◌++◌, length, take, drop, min, max, Option, Some, None, arith, length-append}
use Rattle.std.specs.Prelude.{slice_get, Contains, slice_index, get_or}
use Rattle.std.proofs.lemmas.Bool.{cases_lt}
use Rattle.std.proofs.lemmas.List.{append-nil, take-append-drop, length_push, take_all, same_lists, nil_from_length}
use Rattle.std.proofs.lemmas.Option.{same_Some, none-some, slice_get-get_or}
use Rattle.sw_base.specs.declared.path.Step.{Step}
use Rattle.sw_base.proofs.Lists.{get_more, get_seam}
use Rattle.kernel_rules.proofs.LawfulFolder.{traced_at}
use Rattle.log_format.specs.declared.record.Record.{Record}
use Rattle.log_format.specs.declared.record.Kind.TheVariants as kind
use Rattle.log_format.specs.Fitting.{IsWidth}
use Rattle.race_model.specs.ForkJoin.{IsTask, IsTreeTrace, ListsTask, WasForked}
use Rattle.race_model.specs.History.{Entry, stored_value, HasLegalHistory}
use Rattle.race_model.specs.Order.{HappensBefore}
use Rattle.race_model.specs.Race.{HasByte}
use Rattle.race_model.specs.Trace.{Trace, Logs, Node, HasKind, record_at, logs_of}
use Rattle.race_laws.proofs.Counts.{there}
use Rattle.race_laws.proofs.LabelLaw.{happens_before_antisym}
use Rattle.race_laws.proofs.LabelPlace.{HasLast, has_last, is_region}
use Rattle.race_laws.proofs.ProgramOrder.{node}
use Rattle.kernel_syntax.specs.Program.{Program}
use Rattle.kernel_model.specs.declared.stop.StopWhy.{StopWhy}
use Rattle.kernel_model.specs.Trace.{Start, Ended, Stopped, Wanting}
use Rattle.kernel_model.specs.Folder.{own_trace, lane_start, start_at, IsTracedTo}
use Rattle.kernel_model.specs.Lawful.{IsLawful}
use Rattle.kernel_model.proofs.Starts.{at_lane, descend}
use Rattle.history_model.specs.Joined.{LastIsEnd}
use Rattle.execution_model.specs.Execution.{IsBegun, HaveMet, HaveJoined, IsExecution}
use Rattle.certainty_model.specs.Certain.{IsFixed, IsRun, IsCertain, BeginsRun, AreSame}
use Rattle.certainty_model.proofs.Descent.{AreRuns, Same, same_root, two, Parts, known, same_forked}
use Rattle.certainty_model.proofs.Entries.{Has, InOrder, respected, record_entry, first_in, second_in}
use Rattle.certainty_model.proofs.LastStores.{IsStore, same_value}
use Rattle.certainty_model.proofs.SameReads.{IsOrdered, IsSequence, nothing_parts, no_updates, write_record, write_kept}
use Rattle.certainty_model.proofs.WholeRuns as whole

width_some : (w : ℕ) → IsWidth w → 0 < w
width_some w is = grind arith

first_byte : (r : Record) (addr : ℕ) → r.addr ≡ addr → 0 < r.size → HasByte r addr
first_byte r addr same some = record { from_start = omega arith; to_end = omega arith }

sequence_of : (logs : Logs) (address : ℕ → ℕ) (words : List ℕ) (h : HasLegalHistory logs address words) → IsSequence logs h.history
sequence_of logs address words h = record { is = h.is_history; legal = h.legal; order = h.order }

-- an execution that may have stopped, as the law uses it
pub record IsBegunRun (program : Program) (tasks : Trace) : Type 0 where
  pub tree : IsTreeTrace tasks
  pub begun : (path : List Step) → ListsTask tasks path → IsBegun program (logs_of tasks) path
  pub met : HaveMet (logs_of tasks)
  pub joined : HaveJoined (logs_of tasks)
  pub history : List Entry
  pub sequence : IsSequence (logs_of tasks) history

pub of_execution : (program : Program) (tasks : Trace) (address : ℕ → ℕ) (words : List ℕ) → IsExecution program tasks address words → IsBegunRun program tasks
of_execution program tasks address words e =
    record { tree = e.tree; begun = e.traced; met = e.met; joined = e.joined; history = e.history.history; sequence = sequence_of (logs_of tasks) address words e.history }

pub of_run : (program : Program) (tasks : Trace) → IsLawful program → IsFixed program.main.body → IsRun program tasks → IsBegunRun program tasks
of_run program tasks lawful fixed r = record {
  tree = whole.tree program lawful fixed tasks r.traced;
  begun = whole.begun program lawful fixed tasks r.traced;
  met = whole.met program lawful fixed tasks r.traced;
  joined = whole.joined program lawful fixed tasks r.traced;
  history = r.history.history;
  sequence = sequence_of (logs_of tasks) r.address r.words r.history;
}

module _ (program : Program) (lawful : IsLawful program) (run : Trace) (certain : IsCertain program run) where
  abbrev S : Logs
  S = logs_of run

  -- each write is ordered with each access of its address
  pub free : IsOrdered S
  free = record {
    no_update = whole.no_update program lawful certain.fixed run certain.run.traced;
    one_end = whole.one_end program lawful certain.fixed run certain.run.traced;
    ordered = ordered;
  }
    where
      some_bytes : (x : Node) (r : Record) → record_at S x ≡ Some r → (r.kind ≡ kind.Read) ⊎ (r.kind ≡ kind.Write) → 0 < r.size
      some_bytes x r found (inl read) = width_some r.size (whole.read_width program lawful certain.fixed run certain.run.traced x r found read)
      some_bytes x r found (inr write) = width_some r.size (whole.write_width program lawful certain.fixed run certain.run.traced x r found write)

      ordered : (x y : Node) (r s : Record) → record_at S x ≡ Some r → record_at S y ≡ Some s → r.kind ≡ kind.Write → (s.kind ≡ kind.Read) ⊎ (s.kind ≡ kind.Write) → r.addr ≡ s.addr
          → (HappensBefore S x y → ⊥) → (HappensBefore S y x → ⊥) → ⊥
      ordered x y r s x_is y_is write also same not_before not_after = certain.no_race (min r.line s.line, max r.line s.line) (record {
        x = x;
        y = y;
        r = r;
        s = s;
        race = record {
          left = x_is;
          right = y_is;
          left_access = inr (inl write);
          right_access = elim also [ inl read ↦ inl read | inr write ↦ inr (inl write) ];
          unordered = record { not_before = not_before; not_after = not_after };
          shares = (r.addr, first_byte r r.addr refl (some_bytes x r x_is (inr write)), first_byte s r.addr (sym same) (some_bytes y s y_is also));
          changes = inl (inl write);
          not_both_updates = λ update other. cc;
          no_mutex = λ m held also_held. let none = subst (λ (ms : List ℕ). Contains ms m) (whole.none_held program lawful certain.fixed run certain.run.traced x) held in omega (arith, none.1);
        };
        lines = refl;
      })

  module _ (tasks : Trace) (b : IsBegunRun program tasks) where
    abbrev T : Logs
    T = logs_of tasks

    runs : AreRuns program S T (λ path. ListsTask tasks path)
    runs = record {
      fixed = certain.fixed;
      traced = traced_at program run certain.run.traced;
      sized = whole.sized program lawful certain.fixed run certain.run.traced;
      begun = b.begun;
      lists = whole.listed_there tasks;
      tree = b.tree;
      in_order = λ x y x_there y_there. happens_before_antisym T x y (λ path step is. b.tree.forked path step (whole.listed_there tasks (path ++ step ∷ []) is)) x_there y_there;
    }

    nothing : (q : Node) → Parts program S T (λ path. ListsTask tasks path) runs q → ⊥
    nothing =
        nothing_parts program S T (λ path. ListsTask tasks path) runs b.met b.joined free certain.run.history.history b.history
        (sequence_of S certain.run.address certain.run.words certain.run.history) b.sequence

    same_at : (path : List Step) → ListsTask tasks path → Same program S T (λ p. ListsTask tasks p) runs path
    same_at path lists = by (has_last path)
      where
        by_fork : (prefix : List Step) (last : Step) → path ≡ prefix ++ last ∷ [] → WasForked T prefix last → Same program S T (λ p. ListsTask tasks p) runs path
        by_fork prefix last parts w =
            subst (λ (p : List Step). Same program S T (λ q. ListsTask tasks q) runs p) (sym parts)
            (same_forked program S T (λ p. ListsTask tasks p) runs prefix last w (subst (λ (p : List Step). ListsTask tasks p) parts lists)
            (known program S T (λ p. ListsTask tasks p) runs w.fork (there T w.fork kind.Region (is_region T w.fork last.lane last.span (prefix ++ last ∷ []) w.lane)) (λ q before apart d. nothing q d))
            (nothing w.fork))

        by : (path ≡ []) ⊎ HasLast path → Same program S T (λ p. ListsTask tasks p) runs path
        by (inl is) = subst (λ (p : List Step). Same program S T (λ q. ListsTask tasks q) runs p) (sym is) (same_root program S T (λ p. ListsTask tasks p) runs)
        by (inr l) = by_fork l.prefix l.last l.parts (b.tree.forked l.prefix l.last (subst (λ (p : List Step). ListsTask tasks p) l.parts lists))

    -- all of the log is what both have
    within : (path : List Step) (lists : ListsTask tasks path) → length (T path) ≤ (two program S T (λ p. ListsTask tasks p) runs path (same_at path lists)).common
    within path lists =
        let both = two program S T (λ p. ListsTask tasks p) runs path (same_at path lists) in
        elim (cases_lt both.common (length (T path))) [ inr le ↦ le | inl less ↦ absurd (nothing (node path both.common) (both.parts less)) ]

    -- the law: what any execution logs, the run logs first
    pub begins_run : (path : List Step) → ListsTask tasks path → BeginsRun program run tasks path
    begins_run path lists = record {
      start = same.start;
      in_run = same.in_one;
      in_execution = same.in_other;
      rest = drop (length (T path)) (S path);
      begins = sym (take-append-drop (length (T path)) (S path)) ∙ ap (λ (rs : List Record). rs ++ drop (length (T path)) (S path)) (sym all_taken);
    }
      where
        same : Same program S T (λ p. ListsTask tasks p) runs path
        same = same_at path lists

        all_taken : T path ≡ take (length (T path)) (S path)
        all_taken = sym (take_all (length (T path)) (T path) (omega arith)) ∙ (two program S T (λ p. ListsTask tasks p) runs path same).alike (length (T path)) (within path lists) (omega arith)

    -- none of its tasks stops
    pub never_stops : (path : List Step) (start : Start) (why : StopWhy) (line : ℕ) → ListsTask tasks path → start_at program T path ≡ Some start → IsTracedTo program start (T path) (Stopped why line) → ⊥
    never_stops path start why line lists starts traced = by ((two program S T (λ p. ListsTask tasks p) runs path same).ending (within path lists) here.records_are)
      where
        same : Same program S T (λ p. ListsTask tasks p) runs path
        same = same_at path lists

        here : IsTracedTo program (same_at path lists).start (T path) (Stopped why line)
        here = subst (λ (s : Start). IsTracedTo program s (T path) (Stopped why line)) (same_Some start (same_at path lists).start (sym starts ∙ (same_at path lists).in_other)) traced

        by : ((own_trace program (same_at path lists).start (T path)).end ≡ Ended) ⊎ ((own_trace program (same_at path lists).start (T path)).end ≡ Wanting) → ⊥
        by (inl ended) = let other : Stopped why line ≡ Ended = sym here.ended ∙ ended in cc
        by (inr wants) = let other : Stopped why line ≡ Wanting = sym here.ended ∙ wants in cc

  -- ---- runs that ended

  module _ (other : Trace) (o : IsRun program other) where
    b : IsBegunRun program other
    b = of_run program other lawful certain.fixed o

    abbrev R : Logs
    R = logs_of other

    nothing_there : (logs : Logs) (path : List Step) → (IsTask logs path → ⊥) → logs path ≡ []
    nothing_there logs path none = nil_from_length (logs path) (grind (arith, none))

    -- a log that ends is all of the run's
    ended_same : (path : List Step) → ListsTask other path → R path ≡ S path
    ended_same path lists = sym (begun.begins ∙ (ap (λ (rs : List Record). R path ++ rs) none ∙ append-nil (R path)))
      where
        begun : BeginsRun program run other path
        begun = begins_run other b path lists

        mine : LastIsEnd (R path)
        mine = whole.ends_last program lawful certain.fixed other o.traced path (begins_run other b path lists).start (begins_run other b path lists).in_execution

        yours : LastIsEnd (S path)
        yours = whole.ends_last program lawful certain.fixed run certain.run.traced path (begins_run other b path lists).start (begins_run other b path lists).in_run

        is_end : HasKind S (node path (length mine.prefix)) kind.End
        is_end = record {
          event = mine.last;
          found =
              ap (λ (rs : List Record). slice_get rs (length mine.prefix)) (begun.begins ∙ ap (λ (rs : List Record). rs ++ begun.rest) mine.parts)
              ∙ get_more (mine.prefix ++ mine.last ∷ []) begun.rest (length mine.prefix) mine.last (get_seam mine.prefix mine.last []);
          kind_is = mine.ends;
        }

        its_end : HasKind S (node path (length yours.prefix)) kind.End
        its_end = record { event = yours.last; found = ap (λ (rs : List Record). slice_get rs (length yours.prefix)) yours.parts ∙ get_seam yours.prefix yours.last []; kind_is = yours.ends }

        none : begun.rest ≡ []
        none =
            let index = whole.one_end program lawful certain.fixed run certain.run.traced (node path (length mine.prefix)) (node path (length yours.prefix)) refl is_end its_end in
            nil_from_length begun.rest (omega (arith, index, ap length begun.begins ∙ length-append (R path) begun.rest, ap length mine.parts ∙ length_push mine.prefix mine.last, ap length yours.parts ∙ length_push yours.prefix yours.last))

    -- each task of the run is there
    all_there : (path : List Step) (start : Start) → start_at program S path ≡ Some start → ListsTask other path
    all_there path start starts = descend program S (λ p s. ListsTask other p) b.tree.root lane path start starts
      where
        lane : (above : List Step) (up : Start) (step : Step) (next : Start) → ListsTask other above → start_at program S above ≡ Some up
            → lane_start (slice_get (own_trace program up (S above)).forks step.region) step ≡ Some next → ListsTask other (above ++ step ∷ [])
        lane above up step next lists up_starts is =
            whole.starts_listed program lawful certain.fixed other o.traced (above ++ step ∷ []) next
            (at_lane program R above up step same_up
            ∙ (ap (λ (rs : List Record). lane_start (slice_get (own_trace program up rs).forks step.region) step) (ended_same above lists) ∙ is))
          where
            same_up : start_at program R above ≡ Some up
            same_up = (begins_run other b above lists).in_execution ∙ (sym (begins_run other b above lists).in_run ∙ up_starts)

    both : (path : List Step) → (R path ≡ S path) × (start_at program R path ≡ start_at program S path)
    both path = by (start_at program R path) refl (start_at program S path) refl
      where
        by_list : ListsTask other path → (R path ≡ S path) × (start_at program R path ≡ start_at program S path)
        by_list lists = let begun = begins_run other b path lists in (ended_same path lists, begun.in_execution ∙ sym begun.in_run)

        by : (p : Option Start) → start_at program R path ≡ p → (q : Option Start) → start_at program S path ≡ q → (R path ≡ S path) × (start_at program R path ≡ start_at program S path)
        by (Some start) is q also = by_list (whole.starts_listed program lawful certain.fixed other o.traced path start is)
        by None is (Some start) also = by_list (all_there path start also)
        by None is None also = (
          nothing_there R path (λ there. not_listed other o path is (whole.listed_there other path there))
              ∙ sym (nothing_there S path (λ there. not_listed run certain.run path also (whole.listed_there run path there))),
          is ∙ sym also,
        )
          where
            not_listed : (ts : Trace) (r : IsRun program ts) (p : List Step) → start_at program (logs_of ts) p ≡ None → ListsTask ts p → ⊥
            not_listed ts r p none lists = let s = whole.listed_starts program lawful certain.fixed ts r.traced p lists in none-some s.0 (sym none ∙ s.1)

    -- the law: there is no other run
    pub only_run : AreSame program run other
    only_run = record { logs = λ path. (both path).0; starts = λ path. (both path).1 }

    -- and all of them end in the same words
    module _ (address : ℕ → ℕ) (words others : List ℕ) (one : HasLegalHistory S address words) (two : HasLegalHistory R address others) where
      logs_are : R ≡ S
      logs_are = λ i path. (both path).0 i

      mine : IsSequence S one.history
      mine = sequence_of S address words one

      yours : IsSequence S two.history
      yours = subst (λ (logs : Logs). IsSequence logs two.history) logs_are (sequence_of R address others two)

      moved : (h k : List Entry) → IsSequence S h → IsSequence S k → (addr : ℕ) (e : Entry) → Has e h → IsStore addr e → Has e k
      moved h k h_is k_is addr e has store = record_entry S k k_is.is e.node e.event (write_record S h h_is.is e has addr store) (write_kept e.event store.writes)

      one_order : (addr : ℕ) (x y : Entry) → IsStore addr x → IsStore addr y → InOrder one.history x y → InOrder two.history y x → ⊥
      one_order addr x y x_is y_is first second =
          free.ordered x.node y.node x.event y.event (found x x_is (first_in one.history x y first)) (found y y_is (second_in one.history x y first)) x_is.writes (inr y_is.writes) (x_is.address ∙ sym y_is.address)
          (respected S two.history yours.order y x second) (respected S one.history mine.order x y first)
        where
          found : (e : Entry) → IsStore addr e → Has e one.history → record_at S e.node ≡ Some e.event
          found e store has = write_record S one.history mine.is e has addr store

      stored_same : (addr : ℕ) → stored_value addr one.history ≡ stored_value addr two.history
      stored_same addr = stable _ _ (same_value addr one.history two.history (no_updates S one.history mine.is free.no_update) (no_updates S two.history yours.is free.no_update)
          (λ e has store nowhere. nowhere (moved one.history two.history mine yours addr e has store))
          (λ e has store nowhere. nowhere (moved two.history one.history yours mine addr e has store))
          (one_order addr))
        where
          stable : (m n : ℕ) → ((m ≡ n → ⊥) → ⊥) → m ≡ n
          stable m n twice = grind arith

      pub end_alike : length words ≡ length others → words ≡ others
      end_alike size = same_lists words others size (λ k d within.
          at words k d within ∙ (one.memory k within ∙ (stored_same (address k) ∙ (sym (two.memory k (omega (arith, within, size))) ∙ sym (at others k d (omega (arith, within, size)))))))
        where
          at : (ws : List ℕ) (k d : ℕ) → k < length ws → get_or ws k d ≡ slice_index ws k
          at ws k d within = same_Some (get_or ws k d) (get_or ws k 0) (sym (slice_get-get_or ws k d within) ∙ slice_get-get_or ws k 0 within)
