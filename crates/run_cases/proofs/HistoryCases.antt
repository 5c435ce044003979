-- Histories of the run of two lanes: a read comes behind the write before its barrier, and the words are those that the writes left.
use Rattle.std.proofs.Common.{◌≡◌, ◌⊎◌, inl, inr, refl, ap, sym, ◌∙◌, subst, ℕ, Bool, true, false, List, [], ◌∷◌, ◌++◌, arith}
use Rattle.log_format.specs.declared.record.Record.{Record}
use Rattle.log_format.specs.declared.record.Kind.TheVariants as kind
use Rattle.sw_base.specs.declared.path.Step.{Step}
use Rattle.race_model.specs.History.{Entry, IsHistory, IsLegalHistory, HasLegalHistory, entries_from, released, stored_value, task_entries}
use Rattle.race_model.specs.Order.{HappensBefore, Edge}
use Rattle.race_model.specs.Trace.{Logs, Node, logs_of, path_eq}
use Rattle.race_model.proofs.TraceLogs.{path_is}
use Rattle.kernel_model.specs.State.{event}
use Rattle.execution_model.specs.Elements.{element_address}
use Rattle.execution_model.specs.Execution.{IsExecution}
use Rattle.run_cases.specs.TwoLanes.{accessed, kernel, team_path, second_log, tasks_of}
use Rattle.run_cases.proofs.Impossible.{different}
use Rattle.run_cases.proofs.StoppedLane.{is_lane}
use Rattle.run_cases.proofs.StoppedRuns.{first_lane}
use Rattle.run_cases.proofs.Weaving.{Among, OnlyTheirs, among, other_path}

abbrev lane_entry : ℕ → ℕ → Record → Entry
lane_entry lane index r = record { node = record { path = team_path lane; index = index }; event = r }

abbrev write : Entry
write = lane_entry 0 0 (accessed kind.Write 4 0 4096 1)

abbrev read : ℕ → Entry
read found = lane_entry 1 1 (accessed kind.Read 6 2 4096 found)

abbrev copy : ℕ → Entry
copy found = lane_entry 1 2 (accessed kind.Write 6 3 4104 found)

-- the orders that keep those of the two lanes
data Order (found : ℕ) (h : List Entry) : Type 0 where
  first : h ≡ write ∷ read found ∷ copy found ∷ [] → Order found h
  second : h ≡ read found ∷ write ∷ copy found ∷ [] → Order found h
  third : h ≡ read found ∷ copy found ∷ write ∷ [] → Order found h

apart : team_path 0 ≡ team_path 1 → ⊥
apart e = different 0 1 (ap first_lane e) (omega arith)

module _ (found : ℕ) (h : List Entry) (is : IsHistory (logs_of (tasks_of [] (second_log found))) h) where
  abbrev logs : Logs
  logs = logs_of (tasks_of [] (second_log found))

  with_full : (path : List Step) (es : List Entry) → entries_from path 0 (logs path) ≡ es → entries_from path 0 (released (logs path)) ≡ es → task_entries path h ≡ es
  with_full path es one other = is.each path ∙ by (is.is_released path) where
    by : (is.full path ≡ logs path) ⊎ (is.full path ≡ released (logs path)) → entries_from path 0 (is.full path) ≡ es
    by (inl same) = ap (λ (rs : List Record). entries_from path 0 rs) same ∙ one
    by (inr more) = ap (λ (rs : List Record). entries_from path 0 rs) more ∙ other

  others : OnlyTheirs (team_path 0) (team_path 1) apart h
  others path not_first not_second = at (path_eq [] path) refl where
    at : (b : Bool) → path_eq [] path ≡ b → task_entries path h ≡ []
    at true root = subst (λ (p : List Step). task_entries p h ≡ []) (path_is [] path root) (with_full [] [] refl refl)
    at false root =
        let none : logs path ≡ [] = rw (root, other_path (team_path 0) path (λ e. not_first (sym e)), other_path (team_path 1) path (λ e. not_second (sym e))) refl in
        with_full path [] (ap (λ (rs : List Record). entries_from path 0 rs) none) (ap (λ (rs : List Record). entries_from path 0 (released rs)) none)

  order : Order found h
  order = by m.before m.after m.parts (sym m.others ∙ with_full (team_path 1) (read found ∷ copy found ∷ []) refl refl) where
    m : Among (team_path 0) (team_path 1) apart write h
    m = among (team_path 0) (team_path 1) apart h write (with_full (team_path 0) (write ∷ []) refl refl) others

    by : (before after : List Entry) → h ≡ before ++ write ∷ after → before ++ after ≡ read found ∷ copy found ∷ [] → Order found h
    by [] after parts both = Order.first (parts ∙ ap (λ (es : List Entry). write ∷ es) both)
    by (e ∷ []) after parts both = Order.second (parts ∙ swapped e after both) where
      swapped : (e : Entry) (after : List Entry) → e ∷ after ≡ read found ∷ copy found ∷ [] → e ∷ write ∷ after ≡ read found ∷ write ∷ copy found ∷ []
      swapped e after both = cc
    by (e ∷ f ∷ []) after parts both = Order.third (parts ∙ swapped e f after both) where
      swapped : (e f : Entry) (after : List Entry) → e ∷ f ∷ after ≡ read found ∷ copy found ∷ [] → e ∷ f ∷ write ∷ after ≡ read found ∷ copy found ∷ write ∷ []
      swapped e f after both = cc
    by (e ∷ f ∷ g ∷ before) after parts both = cc

-- the write comes before lane 0's barrier, which meets that before the read
comes_first : (found : ℕ) → HappensBefore (logs_of (tasks_of [] (second_log found))) write.node (read found).node
comes_first found =
    HappensBefore.step write.node bar (read found).node (record { from_there = omega arith; to_there = omega arith; edge = Edge.next (record { same_log = refl; after = refl }) })
    (HappensBefore.step bar (read found).node (read found).node (record {
      from_there = omega arith;
      to_there = omega arith;
      edge = Edge.barrier (record {
        fork = record { path = []; index = 0 };
        span = 2;
        from_lane = 0;
        from_team = is_lane [] (second_log found) 0 (omega arith);
        reached = record { event = event kind.Barrier 5 0 0; found = refl; kind_is = refl };
        met = record { path = team_path 1; index = 0 };
        to_lane = 1;
        to_team = is_lane [] (second_log found) 1 (omega arith);
        meets = record { event = event kind.Barrier 5 0 0; found = refl; kind_is = refl };
        same_number = refl;
        after = record { same_log = refl; after = refl };
      });
    }) (HappensBefore.here (read found).node))
  where
    bar : Node
    bar = record { path = team_path 0; index = 1 }

no_history : (address : ℕ → ℕ) (words : List ℕ) → HasLegalHistory (logs_of (tasks_of [] (second_log 0))) address words → ⊥
no_history address words l = by (order 0 l.history l.is_history) where
  by : Order 0 l.history → ⊥
  by (Order.first is) = let legal : IsLegalHistory (write ∷ read 0 ∷ copy 0 ∷ []) = subst IsLegalHistory is l.legal in different 0 1 legal.1.0 (omega arith)
  by (Order.second is) = l.order [] [] (copy 0 ∷ []) (read 0) write is (comes_first 0)
  by (Order.third is) = l.order [] (copy 0 ∷ []) [] (read 0) write is (comes_first 0)

-- lane 1 can't have found 0
pub read_too_early : (address : ℕ → ℕ) (words : List ℕ) → IsExecution kernel (tasks_of [] (second_log 0)) address words → ⊥
read_too_early address words e = no_history address words e.history

other_words : HasLegalHistory (logs_of (tasks_of [] (second_log 1))) (element_address kernel.arrays) (1 ∷ 0 ∷ []) → ⊥
other_words l = different 0 1 (l.memory 1 (omega arith) ∙ by (order 1 l.history l.is_history)) (omega arith) where
  by : Order 1 l.history → stored_value 4104 l.history ≡ 1
  by (Order.first is) = ap (λ (es : List Entry). stored_value 4104 es) is
  by (Order.second is) = ap (λ (es : List Entry). stored_value 4104 es) is
  by (Order.third is) = ap (λ (es : List Entry). stored_value 4104 es) is

-- and the words aren't those that lane 1 would have left then
pub words_of_another : IsExecution kernel (tasks_of [] (second_log 1)) (element_address kernel.arrays) (1 ∷ 0 ∷ []) → ⊥
words_of_another e = other_words e.history
