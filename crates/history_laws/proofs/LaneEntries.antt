-- What a tree of work records for a task is what the works of the task record.
use Rattle.std.proofs.Common.{◌≡◌, refl, sym, ap, ap₂, ◌∙◌, subst, ℕ, zero, suc, ◌+◌, ◌<◌, Bool, true, false, List, [], ◌∷◌, ◌++◌, length, Some, arith}
use Rattle.std.specs.Prelude.{slice_get, if◌then◌else◌, ◌==◌}
use Rattle.std.specs.List.{flat_map}
use Rattle.std.proofs.lemmas.List.{append-nil, append_assoc}
use Rattle.sw_base.specs.declared.path.Step.{Step}
use Rattle.history_model.proofs.Parts.{then_rest, then_assoc}
use Rattle.log_format.specs.declared.record.Record.{Record}
use Rattle.race_model.specs.Listing.{lane_of}
use Rattle.race_model.specs.History.{Entry, entry_of, entries_from, task_entries}
use Rattle.history_model.specs.Work.{Work, Rest, Put, Fork, Phases, NoPhase, Phase, TeamWork, NoWork, Beside, RegionWork, work_records, work_regions, work_at, lane_works, works_at_region, works_at_step, works_under, task_logs, then_work}
use Rattle.history_laws.proofs.LabelledWork.{entry, records_at, regions_at}
use Rattle.history_laws.proofs.TaskEntries.{entries_append, none_of_both, none_before, none_after, entry_other, entries_in, phases_entries, team_entries, Apart, apart_none, lanes_none, team_none, same_step, longer_path, own_entries, joined, then_entries, joined_records, joined_regions}

joined_both : (xs ys : List Work) → joined (xs ++ ys) ≡ then_work (joined xs) (joined ys)
joined_both [] ys = refl
joined_both (x ∷ xs) ys = ap (λ (w : Work). then_work x w) (joined_both xs ys) ∙ sym (then_assoc x (joined xs) (joined ys))

both_entries : (path : List Step) (i g : ℕ) (xs ys : List Work)
    → entries_in path i g (joined (xs ++ ys)) ≡ entries_in path i g (joined xs) ++ entries_in path (i + length (flat_map work_records xs)) (g + length (flat_map work_regions xs)) (joined ys)
both_entries path i g xs ys =
    ap (λ (w : Work). entries_in path i g w) (joined_both xs ys)
    ∙ then_entries path i g (joined xs) (joined ys)
    ∙ ap₂ (λ (m n : ℕ). entries_in path i g (joined xs) ++ entries_in path (i + m) (g + n) (joined ys)) (ap length (joined_records xs)) (ap length (joined_regions xs))

step_lane : (s t : Step) → s ≡ t → s.lane ≡ t.lane
step_lane s t same = ap (λ (x : Step). x.lane) same

-- of the lanes of a team, only the path's own records for it
module _ (path rest : List Step) (g l span : ℕ) where
  abbrev own : List Step
  own = lane_of path g l span ++ rest

  own_is : own ≡ path ++ record { region = g; lane = l; span = span } ∷ rest
  own_is = append_assoc path (record { region = g; lane = l; span = span } ∷ []) rest

  other_lane : (lane : ℕ) → (lane ≡ l → ⊥) → Apart own (lane_of path g lane span)
  other_lane lane other more same =
      other (sym (step_lane (record { region = g; lane = l; span = span }) (record { region = g; lane = lane; span = span })
      (same_step path rest more (record { region = g; lane = l; span = span }) g lane span (sym own_is ∙ same))))

  team_lane : (put forked : ℕ → ℕ) (first d : ℕ) (team : TeamWork) → l ≡ first + d
      → task_entries own (team_entries path g span put forked first team) ≡ task_entries own (entries_in (lane_of path g l span) (put l) (forked l) (joined (work_at d team)))
  team_lane put forked first d NoWork is = refl
  team_lane put forked first zero (Beside work others) is =
      none_after own (entries_in (lane_of path g first span) (put first) (forked first) work) (team_entries path g span put forked (suc first) others)
      (team_none own path g span put forked (suc first) others (λ lane le. other_lane lane (λ e. absurd (omega arith))))
      ∙ ap (λ (lane : ℕ). task_entries own (entries_in (lane_of path g lane span) (put lane) (forked lane) work)) (let e : first ≡ l = omega arith in e)
      ∙ ap (λ (w : Work). task_entries own (entries_in (lane_of path g l span) (put l) (forked l) w)) (sym (then_rest work))
  team_lane put forked first (suc d) (Beside work others) is =
      none_before own (entries_in (lane_of path g first span) (put first) (forked first) work) (team_entries path g span put forked (suc first) others)
      (apart_none own (lane_of path g first span) (put first) (forked first) work (other_lane first (λ e. absurd (omega arith))))
      ∙ team_lane put forked (suc first) d others (omega arith)

  phases_lane : (put forked : ℕ → ℕ) (phases : Phases)
      → task_entries own (phases_entries path g span put forked phases) ≡ task_entries own (entries_in (lane_of path g l span) (put l) (forked l) (joined (lane_works l phases)))
  phases_lane put forked NoPhase = refl
  phases_lane put forked (Phase team later) =
      entries_append own (team_entries path g span put forked 0 team) (phases_entries path g span (λ lane. put lane + records_at lane team) (λ lane. forked lane + regions_at lane team) later)
      ∙ ap₂ (λ (xs ys : List Entry). xs ++ ys) (team_lane put forked 0 l team (omega arith))
      (phases_lane (λ lane. put lane + records_at lane team) (λ lane. forked lane + regions_at lane team) later)
      ∙ sym (entries_append own (entries_in (lane_of path g l span) (put l) (forked l) (joined (work_at l team)))
      (entries_in (lane_of path g l span) (put l + records_at l team) (forked l + regions_at l team) (joined (lane_works l later))))
      ∙ ap (λ (es : List Entry). task_entries own es) (sym (both_entries (lane_of path g l span) (put l) (forked l) (work_at l team) (lane_works l later)))

-- regions of another number record nothing for it
other_region : (path rest : List Step) (step : Step) (g span : ℕ) → (step.region ≡ g → ⊥) → (lane : ℕ) → Apart (path ++ step ∷ rest) (lane_of path g lane span)
other_region path rest step g span other lane more same = other (ap (λ (s : Step). s.region) (same_step path rest more step g lane span same))

low_none : (path rest : List Step) (step : Step) (i g : ℕ) (work : Work) → step.region < g → task_entries (path ++ step ∷ rest) (entries_in path i g work) ≡ []
low_none path rest step i g Rest less = refl
low_none path rest step i g (Put r more) less =
    none_of_both (path ++ step ∷ rest) (entry_of r.kind (entry path i r)) (entries_in path (i + 1) g more)
    (entry_other (path ++ step ∷ rest) r.kind (entry path i r) (longer_path path rest step)) (low_none path rest step (i + 1) g more less)
low_none path rest step i g (Fork line span phases more) less =
    none_of_both (path ++ step ∷ rest) (phases_entries path g span (λ lane. 0) (λ lane. 0) phases) (entries_in path (i + 1) (g + 1) more)
    (lanes_none (path ++ step ∷ rest) path g span (λ lane. 0) (λ lane. 0) phases (other_region path rest step g span (λ e. absurd (omega arith)))) (low_none path rest step (i + 1) (g + 1) more (omega arith))

number_is : (m n : ℕ) → (m == n) ≡ true → m ≡ n
number_is m n e = grind arith

number_isn : (m n : ℕ) → (m == n) ≡ false → m ≡ n → ⊥
number_isn m n e same = grind arith

-- what a fork records for a path under it
fork_lane : (path rest : List Step) (step : Step) (g span : ℕ) (phases : Phases) → step.region ≡ g
    → task_entries (path ++ step ∷ rest) (phases_entries path g span (λ lane. 0) (λ lane. 0) phases)
    ≡ task_entries (path ++ step ∷ rest) (entries_in (path ++ step ∷ []) 0 0 (joined (works_at_region step (Some (record { span = span; phases = phases })))))
fork_lane path rest step g span phases region = by_span (span == step.span) refl
  where
    by_span : (b : Bool) → (span == step.span) ≡ b
        → task_entries (path ++ step ∷ rest) (phases_entries path g span (λ lane. 0) (λ lane. 0) phases)
        ≡ task_entries (path ++ step ∷ rest) (entries_in (path ++ step ∷ []) 0 0 (joined (if b then lane_works step.lane phases else [])))
    by_span true e =
        let span_is : span ≡ step.span = number_is span step.span e in
        let step_is : record { region = g; lane = step.lane; span = span } ≡ step = (λ i. record { region = sym region i; lane = step.lane; span = span_is i }) in
        subst (λ (s : Step). task_entries (path ++ s ∷ rest) (phases_entries path g span (λ lane. 0) (λ lane. 0) phases) ≡ task_entries (path ++ s ∷ rest) (entries_in (path ++ s ∷ []) 0 0 (joined (lane_works step.lane phases)))) step_is
        (subst (λ (q : List Step). task_entries q (phases_entries path g span (λ lane. 0) (λ lane. 0) phases) ≡ task_entries q (entries_in (lane_of path g step.lane span) 0 0 (joined (lane_works step.lane phases))))
        (own_is path rest g step.lane span) (phases_lane path rest g step.lane span (λ lane. 0) (λ lane. 0) phases))
    by_span false e =
        lanes_none (path ++ step ∷ rest) path g span (λ lane. 0) (λ lane. 0) phases
        (λ lane more same. number_isn span step.span e (sym (ap (λ (s : Step). s.span) (same_step path rest more step g lane span same))))

-- what a work records for a path under it
region_lane : (path rest : List Step) (step : Step) (i g m : ℕ) (work : Work) → step.region ≡ g + m
    → task_entries (path ++ step ∷ rest) (entries_in path i g work)
    ≡ task_entries (path ++ step ∷ rest) (entries_in (path ++ step ∷ []) 0 0 (joined (works_at_region step (slice_get (work_regions work) m))))
region_lane path rest step i g m Rest is = refl
region_lane path rest step i g m (Put r more) is =
    none_before (path ++ step ∷ rest) (entry_of r.kind (entry path i r)) (entries_in path (i + 1) g more) (entry_other (path ++ step ∷ rest) r.kind (entry path i r) (longer_path path rest step))
    ∙ region_lane path rest step (i + 1) g m more is
region_lane path rest step i g zero (Fork line span phases more) is =
    none_after (path ++ step ∷ rest) (phases_entries path g span (λ lane. 0) (λ lane. 0) phases) (entries_in path (i + 1) (g + 1) more) (low_none path rest step (i + 1) (g + 1) more (omega arith))
    ∙ fork_lane path rest step g span phases (omega arith)
region_lane path rest step i g (suc m) (Fork line span phases more) is =
    none_before (path ++ step ∷ rest) (phases_entries path g span (λ lane. 0) (λ lane. 0) phases) (entries_in path (i + 1) (g + 1) more)
    (lanes_none (path ++ step ∷ rest) path g span (λ lane. 0) (λ lane. 0) phases (other_region path rest step g span (λ e. absurd (omega arith))))
    ∙ region_lane path rest step (i + 1) (g + 1) m more (omega arith)

entries_under : (path rest : List Step) (works : List Work) → task_entries (path ++ rest) (entries_in path 0 0 (joined works)) ≡ entries_from (path ++ rest) 0 (flat_map work_records (works_under works rest))
entries_under path [] works =
    subst (λ (p : List Step). task_entries p (entries_in path 0 0 (joined works)) ≡ entries_from p 0 (flat_map work_records works)) (sym (append-nil path))
    (own_entries path 0 0 (joined works) ∙ ap (λ (rs : List Record). entries_from path 0 rs) (joined_records works))
entries_under path (step ∷ rest) works =
    region_lane path rest step 0 0 step.region (joined works) (omega arith)
    ∙ ap (λ (regions : List RegionWork). task_entries (path ++ step ∷ rest) (entries_in (path ++ step ∷ []) 0 0 (joined (works_at_region step (slice_get regions step.region))))) (joined_regions works)
    ∙ subst (λ (p : List Step). task_entries p (entries_in (path ++ step ∷ []) 0 0 (joined (works_at_step step works))) ≡ entries_from p 0 (flat_map work_records (works_under (works_at_step step works) rest)))
    (append_assoc path (step ∷ []) rest) (entries_under (path ++ step ∷ []) rest (works_at_step step works))

-- the entries of a tree, task by task
pub tree_entries : (root : Work) (path : List Step) → task_entries path (entries_in [] 0 0 root) ≡ entries_from path 0 (task_logs root path)
tree_entries root path = ap (λ (w : Work). task_entries path (entries_in [] 0 0 w)) (sym (then_rest root)) ∙ entries_under [] path (root ∷ [])
