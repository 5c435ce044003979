-- A run of a root and a team of two that meets at a barrier, and that it is a fork-join run: lane 0 writes eight bytes, of
-- which lane 1 reads the last before the barrier and the first after it.
use Rattle.std.proofs.Common.{◌≡◌, ℕ, zero, suc, ◌<◌, Bool, true, false, List, [], ◌∷◌, ◌++◌, length, refl, sym, ap, subst, arith, ◌∙◌, Some, ap₂, subst₂}
use Rattle.std.specs.Prelude.{slice_get, All}
use Rattle.std.proofs.lemmas.List.{same_from_push}
use Rattle.std.proofs.lemmas.Option.{same_Some, slice_get_within}
use Rattle.std.proofs.lemmas.List.Elements.{All-cons, All-nil}
use Rattle.sw_base.specs.declared.path.Step.{Step}
use Rattle.log_format.specs.declared.record.Record.{Record}
use Rattle.log_format.specs.declared.record.Kind.{Kind}
use Rattle.log_format.specs.declared.record.Kind.TheVariants.{Read, Write, Barrier, Region, End}
use Rattle.race_model.specs.Trace.{Trace, Logs, Node, logs_of, path_eq, barrier_count}
use Rattle.race_model.specs.Order.{IsLane, lane_path}
use Rattle.race_model.specs.ForkJoin.{IsForkJoin, IsTask, EndsOnce, WasForked}
use Rattle.race_laws.proofs.LabelPlace.{not_both_empty, same_node}
use Rattle.race_model.proofs.TraceLogs.{path_is}

-- what holds of each task of a trace holds of each path with a record
abbrev pub EachTask : (List Step → List Record → Type 0) → Trace → Type 0
EachTask P [] = Unit {0}
EachTask P (task ∷ tasks) = P task.path task.records × EachTask P tasks

pub at_task : (P : List Step → List Record → Type 0) (trace : Trace) (path : List Step) → EachTask P trace → IsTask (logs_of trace) path → P path (logs_of trace path)
at_task P [] path each h = absurd (omega arith)
at_task P (task ∷ tasks) path each h = go (path_eq task.path path) refl (at_task P tasks path each.1)
  where
    go : (b : Bool) → path_eq task.path path ≡ b → (IsTask (logs_of tasks) path → P path (logs_of tasks path)) → P path (logs_of (task ∷ tasks) path)
    go true e rest = subst₂ P (path_is task.path path e) (let same : task.records ≡ logs_of (task ∷ tasks) path = rw e refl in same) each.0
    go false e rest =
        let same : logs_of tasks path ≡ logs_of (task ∷ tasks) path = rw e refl in
        subst (λ (records : List Record). P path records) same (rest (subst (λ (records : List Record). 0 < length records) (sym same) h))

abbrev pub made : Kind → ℕ → Record
made kind value = record { kind = kind; size = 0; site = 0; line = 1; addr = 0; value = value }

-- an access of this many bytes, in this line and from this address on
abbrev pub access : Kind → ℕ → ℕ → ℕ → Record
access kind size line addr = record { kind = kind; size = size; site = 0; line = line; addr = addr; value = 0 }

abbrev pub lane_of : ℕ → List Step
lane_of lane = record { region = 0; lane = lane; span = 2 } ∷ []

abbrev pub lane_log : ℕ → List Record
lane_log zero = access Write 8 5 100 ∷ made Barrier 0 ∷ made End 0 ∷ []
lane_log (suc n) = access Read 1 6 107 ∷ made Barrier 0 ∷ access Read 1 7 100 ∷ made End 0 ∷ []

abbrev pub team : Trace
team = record { path = []; records = made Region 2 ∷ made End 0 ∷ [] } ∷ record { path = lane_of 0; records = lane_log 0 } ∷ record { path = lane_of 1; records = lane_log 1 } ∷ []

abbrev pub logs : Logs
logs = logs_of team

abbrev pub root_forks : Node
root_forks = record { path = []; index = 0 }

-- each log ends
NotEnd : Record → Type 0
NotEnd r = r.kind ≡ End → ⊥

region_only : All NotEnd (made Region 2 ∷ [])
unfolding NotEnd
region_only = All-cons NotEnd (made Region 2) [] (λ e. cc) (All-nil NotEnd)

barrier_last : (r : Record) → NotEnd r → All NotEnd (r ∷ made Barrier 0 ∷ [])
unfolding NotEnd
barrier_last r not_end = All-cons NotEnd r (made Barrier 0 ∷ []) not_end (All-cons NotEnd (made Barrier 0) [] (λ e. cc) (All-nil NotEnd))

root_ends : EndsOnce (made Region 2 ∷ made End 0 ∷ [])
unfolding NotEnd
root_ends = record { prefix = made Region 2 ∷ []; last = made End 0; parts = refl; ends = refl; once = region_only }

writer_ends : EndsOnce (lane_log 0)
unfolding NotEnd
writer_ends = record { prefix = access Write 8 5 100 ∷ made Barrier 0 ∷ []; last = made End 0; parts = refl; ends = refl; once = barrier_last (access Write 8 5 100) (λ e. cc) }

reader_ends : EndsOnce (lane_log 1)
unfolding NotEnd
reader_ends = record {
  prefix = access Read 1 6 107 ∷ made Barrier 0 ∷ access Read 1 7 100 ∷ [];
  last = made End 0;
  parts = refl;
  ends = refl;
  once = All-cons NotEnd (access Read 1 6 107) (made Barrier 0 ∷ access Read 1 7 100 ∷ []) (λ e. cc)
      (All-cons NotEnd (made Barrier 0) (access Read 1 7 100 ∷ []) (λ e. cc) (All-cons NotEnd (access Read 1 7 100) [] (λ e. cc) (All-nil NotEnd)));
}

-- each lane was forked
pub is_lane : (n : ℕ) → n < 2 → IsLane logs root_forks n 2 (lane_of n)
is_lane n h = record { event = made Region 2; found = refl; region = refl; spans = refl; in_span = h; child = refl }

Forked : List Step → List Record → Type 0
Forked p records = (path : List Step) (step : Step) → p ≡ path ++ step ∷ [] → WasForked logs path step

lane_forked : (n : ℕ) → n < 2 → Forked (lane_of n) (lane_log n)
unfolding Forked
lane_forked n h path step e =
    let parts = same_from_push [] path (record { region = 0; lane = n; span = 2 }) step e in
    subst₂ (λ (p : List Step) (s : Step). WasForked logs p s) parts.0 parts.1 (record { fork = root_forks; above = refl; lane = is_lane n h })

root_forked : Forked [] (made Region 2 ∷ made End 0 ∷ [])
unfolding Forked
root_forked path step e = absurd (not_both_empty [] path step refl e)

-- the root's first record is the only region
OnlyRegion : List Step → List Record → Type 0
OnlyRegion path records = (i : ℕ) (r : Record) → slice_get records i ≡ Some r → r.kind ≡ Region → (path ≡ []) × (i ≡ 0) × (r.value ≡ 2)

root_region : OnlyRegion [] (made Region 2 ∷ made End 0 ∷ [])
unfolding OnlyRegion
root_region zero r found is = (refl, refl, sym (ap (λ (x : Record). x.value) (same_Some (made Region 2) r found)))
root_region (suc zero) r found is = let kind : End ≡ r.kind = ap (λ (x : Record). x.kind) (same_Some (made End 0) r found) in cc
root_region (suc (suc i)) r found is = cc

kind_at : (one r : Record) → Some one ≡ Some r → one.kind ≡ r.kind
kind_at one r found = ap (λ (x : Record). x.kind) (same_Some one r found)

writer_region : (path : List Step) → OnlyRegion path (lane_log 0)
unfolding OnlyRegion
writer_region path zero r found is = let kind : Write ≡ r.kind = kind_at (access Write 8 5 100) r found in cc
writer_region path (suc zero) r found is = let kind : Barrier ≡ r.kind = kind_at (made Barrier 0) r found in cc
writer_region path (suc (suc zero)) r found is = let kind : End ≡ r.kind = kind_at (made End 0) r found in cc
writer_region path (suc (suc (suc i))) r found is = cc

reader_region : (path : List Step) → OnlyRegion path (lane_log 1)
unfolding OnlyRegion
reader_region path zero r found is = let kind : Read ≡ r.kind = kind_at (access Read 1 6 107) r found in cc
reader_region path (suc zero) r found is = let kind : Barrier ≡ r.kind = kind_at (made Barrier 0) r found in cc
reader_region path (suc (suc zero)) r found is = let kind : Read ≡ r.kind = kind_at (access Read 1 7 100) r found in cc
reader_region path (suc (suc (suc zero))) r found is = let kind : End ≡ r.kind = kind_at (made End 0) r found in cc
reader_region path (suc (suc (suc (suc i)))) r found is = cc

record OfTeam (n s : ℕ) (path : List Step) : Type 0 where
  in_two : n < 2
  is_path : path ≡ lane_of n

of_team : (fork : Node) (n s : ℕ) (path : List Step) → IsLane logs fork n s path → OfTeam n s path
unfolding OnlyRegion
of_team fork n s path lane =
    let within = slice_get_within (logs fork.path) fork.index lane.event lane.found in
    let begun : IsTask logs fork.path = omega arith in
    let only = at_task OnlyRegion team fork.path (root_region, (writer_region (lane_of 0), (reader_region (lane_of 1), tt))) begun fork.index lane.event lane.found lane.region in
    let node : fork ≡ root_forks = same_node fork root_forks only.0 only.1 in
    let span : s ≡ 2 = sym lane.spans ∙ only.2 in
    let in_span : n < s = lane.in_span in
    record { in_two = omega arith; is_path = lane.child ∙ ap₂ (λ (f : Node) (z : ℕ). lane_path logs f n z) node span }

begins : (n : ℕ) → n < 2 → IsTask logs (lane_of n)
begins zero h = omega arith
begins (suc zero) h = omega arith
begins (suc (suc n)) h = absurd (omega arith)

one_barrier : (n : ℕ) → n < 2 → barrier_count (logs (lane_of n)) ≡ 1
one_barrier zero h = refl
one_barrier (suc zero) h = refl
one_barrier (suc (suc n)) h = absurd (omega arith)

barriers_of_lane : (fork : Node) (n s : ℕ) (path : List Step) → IsLane logs fork n s path → barrier_count (logs path) ≡ 1
barriers_of_lane fork n s path lane =
    let team = of_team fork n s path lane in
    ap (λ (p : List Step). barrier_count (logs p)) team.is_path ∙ one_barrier n team.in_two

pub team_is_fork_join : IsForkJoin (logs_of team)
unfolding Forked
team_is_fork_join = record {
  tasks = record {
    root = omega arith;
    forked = λ path step begun. at_task Forked team (path ++ step ∷ []) (root_forked, (lane_forked 0 (omega arith), (lane_forked 1 (omega arith), tt))) begun path step refl;
  };
  ends = record {
    ended = λ path. at_task (λ _ records. EndsOnce records) team path (root_ends, (writer_ends, (reader_ends, tt)));
    lanes = λ fork n s path lane. let t = of_team fork n s path lane in subst (λ (p : List Step). IsTask logs p) (sym t.is_path) (begins n t.in_two);
    same_barriers = λ fork n m s path beside lane other. barriers_of_lane fork n s path lane ∙ sym (barriers_of_lane fork m s beside other);
    no_root_barrier = refl;
  };
}
