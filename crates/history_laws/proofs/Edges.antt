-- What happens before a record is done before the record begins.
use Rattle.std.proofs.Common.{◌≡◌, ◌⊎◌, inl, inr, refl, sym, ap, ◌∙◌, subst, ℕ, zero, suc, ◌<◌, ◌≤◌, Bool, true, List, [], ◌∷◌, length, map, take, Option, Some, arith}
use Rattle.std.specs.Prelude.{slice_get, if◌then◌else◌, ◌==◌}
use Rattle.std.specs.Option.{option_map}
use Rattle.std.proofs.lemmas.Option.{slice_get-map, slice_get_within, same_Some}
use Rattle.std.proofs.lemmas.List.{length-map}
use Rattle.sw_base.specs.declared.path.Step.{Step}
use Rattle.log_format.specs.declared.record.Record.{Record}
use Rattle.log_format.specs.declared.record.Kind.TheVariants.{Barrier}
use Rattle.race_model.specs.Listing.{lane_of}
use Rattle.race_model.specs.Trace.{Logs, Node, IsThere, record_at, regions_before, region_count, barrier_count}
use Rattle.race_model.specs.Order.{IsLane, IsNext, IsForkEdge, IsJoinEdge, IsBarrierEdge, Edge, HappensBefore}
use Rattle.history_model.specs.Work.{task_logs}
use Rattle.history_model.specs.Sound.{WordLayout, IsSoundRecord, IsSound, ArePhasesSound}
use Rattle.history_laws.proofs.LabelledWork.{Marked}
use Rattle.history_laws.proofs.TimedWork.{TimedWork, TimedPhases, plain, plain_phases, IsTimed}
use Rattle.history_laws.proofs.Windows.{There, there}
use Rattle.history_laws.proofs.Acts.{Act, Plain, Forks, act_put, act_record, act_from, act_until, act_lead, acts_of, TimedRegion, act_regions, lane_acts, acts_at_region, acts_under, acts_under-append, acts_log, acts_timed, lane_timed}
use Rattle.history_laws.proofs.ActsOrder.{AreSoundActs, sound_acts, sound_under, region_at, Within, within, in_order, PhasedAt, phased_at, HasTimes, times_under}
use Rattle.history_laws.proofs.TeamBarriers.{barrier_order}

sound_plain : (layout : WordLayout) (acts : List Act) (n : ℕ) (r : Record) (from until : ℕ) → AreSoundActs layout acts → slice_get acts n ≡ Some (Plain r from until) → IsSoundRecord layout r
sound_plain layout [] n r from until sound found = cc
sound_plain layout (Plain q f u ∷ acts) zero r from until sound found =
    let same : Plain q f u ≡ Plain r from until = same_Some (Plain q f u) (Plain r from until) found in
    subst (λ (p : Record). IsSoundRecord layout p) (ap act_put same) sound.0
sound_plain layout (Forks l s f u p ∷ acts) zero r from until sound found = let same : Forks l s f u p ≡ Plain r from until = same_Some (Forks l s f u p) (Plain r from until) found in cc
sound_plain layout (Plain q f u ∷ acts) (suc n) r from until sound found = sound_plain layout acts n r from until sound.1 found
sound_plain layout (Forks l s f u p ∷ acts) (suc n) r from until sound found = sound_plain layout acts n r from until sound.1 found

sound_fork : (layout : WordLayout) (acts : List Act) (n line span from until : ℕ) (phases : TimedPhases) → AreSoundActs layout acts → slice_get acts n ≡ Some (Forks line span from until phases)
    → ArePhasesSound layout span (plain_phases phases)
sound_fork layout [] n line span from until phases sound found = cc
sound_fork layout (Plain q f u ∷ acts) zero line span from until phases sound found = let same : Plain q f u ≡ Forks line span from until phases = same_Some (Plain q f u) (Forks line span from until phases) found in cc
sound_fork layout (Forks l s f u p ∷ acts) zero line span from until phases sound found =
    let same : Forks l s f u p ≡ Forks line span from until phases = same_Some (Forks l s f u p) (Forks line span from until phases) found in
    let spans : s ≡ span = cc in
    let phases_are : p ≡ phases = cc in
    subst (λ (q : TimedPhases). ArePhasesSound layout span (plain_phases q)) phases_are (subst (λ (m : ℕ). ArePhasesSound layout m (plain_phases p)) spans sound.0)
sound_fork layout (Plain q f u ∷ acts) (suc n) line span from until phases sound found = sound_fork layout acts n line span from until phases sound.1 found
sound_fork layout (Forks l s f u p ∷ acts) (suc n) line span from until phases sound found = sound_fork layout acts n line span from until phases sound.1 found

module _ (history : List Marked) (layout : WordLayout) (tree : TimedWork) (sound : IsSound layout (plain tree)) (start end : ℕ) (timed : IsTimed history [] 0 0 start end tree) where
  abbrev pub acts : List Step → List Act
  acts path = acts_under (acts_of tree) path

  abbrev pub logs : Logs
  logs = task_logs (plain tree)

  pub log_is : (path : List Step) → map act_record (acts path) ≡ logs path
  log_is path = acts_log tree path

  pub has_times : (path : List Step) → HasTimes history path (acts path)
  has_times path = times_under history [] path (acts_of tree) (record { start = start; end = end; timed = acts_timed history [] 0 0 start end tree timed })

  pub all_sound : (path : List Step) → AreSoundActs layout (acts path)
  all_sound path = sound_under layout (acts_of tree) path (sound_acts layout tree sound)

  -- the act of a node
  abbrev pub IsActOf : Act → Node → Type 0
  IsActOf act x = slice_get (acts x.path) x.index ≡ Some act

  pub act_there : (x : Node) → IsThere logs x → (act : Act) × IsActOf act x
  act_there x here = at (there (acts x.path) x.index (subst (λ (n : ℕ). x.index < n) (ap length (sym (log_is x.path)) ∙ length-map (acts x.path) act_record) here)) where
    at : There (acts x.path) x.index → (act : Act) × IsActOf act x
    at t = (t.x, t.found)

  pub record_of : (x : Node) (act : Act) → IsActOf act x → record_at logs x ≡ Some (act_record act)
  record_of x act is =
      ap (λ (rs : List Record). slice_get rs x.index) (sym (log_is x.path)) ∙ slice_get-map act_record (acts x.path) x.index ∙ ap (λ (o : Option Act). option_map act_record o) is

  pub act_of_record : (x : Node) (r : Record) → record_at logs x ≡ Some r → (act : Act) × IsActOf act x × (act_record act ≡ r)
  act_of_record x r found = at (act_there x (slice_get_within (logs x.path) x.index r found)) where
    at : (act : Act) × IsActOf act x → (act : Act) × IsActOf act x × (act_record act ≡ r)
    at (act, is) = (act, is, same_Some (act_record act) r (sym (record_of x act is) ∙ found))

  -- the fork of a region
  record ForkAct (fork : Node) (span : ℕ) : Type 0 where
    line : ℕ
    from : ℕ
    until : ℕ
    phases : TimedPhases
    is_act : IsActOf (Forks line span from until phases) fork

  fork_act : (fork : Node) (lane span : ℕ) (path : List Step) → IsLane logs fork lane span path → ForkAct fork span
  fork_act fork lane span path is = at (act_of_record fork is.event is.found) where
    at : (act : Act) × IsActOf act fork × (act_record act ≡ is.event) → ForkAct fork span
    at (Plain r from until, here, same) = absurd ((sound_plain layout (acts fork.path) fork.index r from until (all_sound fork.path) here).no_region (ap (λ (q : Record). q.kind) same ∙ is.region))
    at (Forks line s from until phases, here, same) =
        let span_is : s ≡ span = ap (λ (q : Record). q.value) same ∙ is.spans in
        record { line = line; from = from; until = until; phases = phases; is_act = here ∙ ap (λ (n : ℕ). Some (Forks line n from until phases)) span_is }

  number_same : (m : ℕ) → (m == m) ≡ true
  number_same m = grind arith

  lane_is : (fork : Node) (lane span : ℕ) (path : List Step) (f : ForkAct fork span) → IsLane logs fork lane span path → acts path ≡ lane_acts lane f.phases
  lane_is fork lane span path f is =
      ap (λ (p : List Step). acts p) is.child
      ∙ acts_under-append (acts_of tree) fork.path (record { region = regions_before logs fork; lane = lane; span = span })
      ∙ ap (λ (o : Option TimedRegion). acts_at_region (record { region = regions_before logs fork; lane = lane; span = span }) o) region
      ∙ ap (λ (b : Bool). if b then lane_acts lane f.phases else []) (number_same span)
    where
      region : slice_get (act_regions (acts fork.path)) (regions_before logs fork) ≡ Some (record { span = span; phases = f.phases })
      region = subst (λ (rs : List Record). slice_get (act_regions (acts fork.path)) (region_count (take fork.index rs)) ≡ Some (record { span = span; phases = f.phases })) (log_is fork.path)
          (region_at layout (acts fork.path) fork.index f.line span f.from f.until f.phases (all_sound fork.path) f.is_act)

  fork_timed : (fork : Node) (span : ℕ) (f : ForkAct fork span) → PhasedAt history fork.path span f.from f.until f.phases
  fork_timed fork span f =
      let h = has_times fork.path in
      phased_at history fork.path 0 0 h.start h.end (acts fork.path) fork.index f.line span f.from f.until f.phases h.timed f.is_act

  -- a lane's record within the time of its fork
  lane_within : (fork : Node) (lane span : ℕ) (x : Node) (act : Act) (f : ForkAct fork span) → IsLane logs fork lane span x.path → IsActOf act x → Within history f.from f.until act
  lane_within fork lane span x act f is here =
      let t = fork_timed fork span f in
      within history (lane_of fork.path t.number lane span) 0 0 f.from f.until (lane_acts lane f.phases) x.index act
      (lane_timed history fork.path t.number span (λ l. 0) (λ l. 0) lane f.from f.until f.phases t.timed)
      (ap (λ (as_acts : List Act). slice_get as_acts x.index) (sym (lane_is fork lane span x.path f is)) ∙ here)

  pub node_within : (x : Node) (act : Act) → IsActOf act x → act_from act ≤ act_until act
  node_within x act here = let h = has_times x.path in (within history x.path 0 0 h.start h.end (acts x.path) x.index act h.timed here).on

  pub lead_first : (act : Act) → act_from act ≤ act_until act → (act_from act ≤ act_lead act) × (act_lead act ≤ act_until act)
  lead_first (Plain r from until) le = (le, omega arith)
  lead_first (Forks line span from until phases) le = (omega arith, le)

  pub node_order : (path : List Step) (m n : ℕ) (a b : Act) → m < n → IsActOf a (record { path = path; index = m }) → IsActOf b (record { path = path; index = n }) → act_until a ≤ act_from b
  node_order path m n a b less here there_too = let h = has_times path in in_order history path 0 0 h.start h.end (acts path) m n a b h.timed less here there_too

  next_order : (x y : Node) (a b : Act) → IsNext x y → IsActOf a x → IsActOf b y → act_until a ≤ act_from b
  next_order x y a b next here there_too =
      let less : x.index < y.index = omega (arith, next.after) in
      node_order x.path x.index y.index a b less here (ap (λ (p : List Step). slice_get (acts p) y.index) (sym next.same_log) ∙ there_too)

  fork_edge : (x y : Node) (a b : Act) → IsForkEdge logs x y → IsActOf a x → IsActOf b y → act_lead a ≤ act_from b
  fork_edge x y a b e here there_too =
      let f = fork_act x e.lane e.span y.path e.forked in
      let w = lane_within x e.lane e.span y b f e.forked there_too in
      let same : f.from ≡ act_lead a = ap act_lead (same_Some (Forks f.line e.span f.from f.until f.phases) a (sym f.is_act ∙ here)) in
      omega (arith, w.since)

  join_edge : (x y : Node) (a b : Act) → IsJoinEdge logs x y → IsActOf a x → IsActOf b y → act_until a ≤ act_from b
  join_edge x y a b e here there_too =
      let f = fork_act e.fork e.lane e.span x.path e.forked in
      let w = lane_within e.fork e.lane e.span x a f e.forked here in
      let after = next_order e.fork y (Forks f.line e.span f.from f.until f.phases) b e.after f.is_act there_too in
      omega (arith, w.by)

  barrier_edge : (x y : Node) (a b : Act) → IsBarrierEdge logs x y → IsActOf a x → IsActOf b y → act_until a ≤ act_from b
  barrier_edge x y a b e here there_too = at (act_of_record e.met e.meets.event e.meets.found)
    where
      f : ForkAct e.fork e.span
      f = fork_act e.fork e.from_lane e.span x.path e.from_team

      mine : acts x.path ≡ lane_acts e.from_lane f.phases
      mine = lane_is e.fork e.from_lane e.span x.path f e.from_team

      yours : acts e.met.path ≡ lane_acts e.to_lane f.phases
      yours = lane_is e.fork e.to_lane e.span e.met.path f e.to_team

      kind : (act_record a).kind ≡ Barrier
      kind = ap (λ (r : Record). r.kind) (same_Some (act_record a) e.reached.event (sym (record_of x a here) ∙ e.reached.found)) ∙ e.reached.kind_is

      at : (act : Act) × IsActOf act e.met × (act_record act ≡ e.meets.event) → act_until a ≤ act_from b
      at (act, met, same) =
          barrier_order history layout e.fork.path (fork_timed e.fork e.span f).number e.span (λ l. 0) (λ l. 0) f.from f.until f.phases e.from_lane e.to_lane x.index e.met.index a act b
          (fork_timed e.fork e.span f).timed (sound_fork layout (acts e.fork.path) e.fork.index f.line e.span f.from f.until f.phases (all_sound e.fork.path) f.is_act)
          e.from_team.in_span e.to_team.in_span
          (ap (λ (as_acts : List Act). slice_get as_acts x.index) (sym mine) ∙ here) kind
          (ap (λ (as_acts : List Act). slice_get as_acts e.met.index) (sym yours) ∙ met) (ap (λ (r : Record). r.kind) same ∙ e.meets.kind_is)
          (ap (λ (as_acts : List Act). slice_get as_acts (suc e.met.index)) (sym yours)
          ∙ ap (λ (n : ℕ). slice_get (acts e.met.path) n) (let n : suc e.met.index ≡ y.index = omega (arith, e.after.after) in n)
          ∙ ap (λ (p : List Step). slice_get (acts p) y.index) (sym e.after.same_log)
          ∙ there_too)
          (ap (λ (as_acts : List Act). barrier_count (take x.index (map act_record as_acts))) (sym mine) ∙ ap (λ (rs : List Record). barrier_count (take x.index rs)) (log_is x.path)
          ∙ e.same_number
          ∙ ap (λ (rs : List Record). barrier_count (take e.met.index rs)) (sym (log_is e.met.path)) ∙ ap (λ (as_acts : List Act). barrier_count (take e.met.index (map act_record as_acts))) yours)

  edge_order : (x y : Node) (a b : Act) → Edge logs x y → IsActOf a x → IsActOf b y → act_lead a ≤ act_from b
  edge_order x y a b (Edge.next e) here there_too = let le = next_order x y a b e here there_too in let lead = lead_first a (node_within x a here) in omega (arith, lead.1)
  edge_order x y a b (Edge.fork e) here there_too = fork_edge x y a b e here there_too
  edge_order x y a b (Edge.join e) here there_too = let le = join_edge x y a b e here there_too in let lead = lead_first a (node_within x a here) in omega (arith, lead.1)
  edge_order x y a b (Edge.barrier e) here there_too = let le = barrier_edge x y a b e here there_too in let lead = lead_first a (node_within x a here) in omega (arith, lead.1)

  -- a record that happens before another leads it, or is that one
  abbrev pub Leads : Node → Node → Type 0
  Leads x y = (a b : Act) → IsActOf a x → IsActOf b y → act_lead a ≤ act_from b

  pub before_order : (x y : Node) → HappensBefore logs x y → (x ≡ y) ⊎ Leads x y
  before_order x _ (HappensBefore.here x1) = inl refl
  before_order x z (HappensBefore.step x1 y z1 e rest) = at (before_order y z rest) where
    at : (y ≡ z) ⊎ Leads y z → (x ≡ z) ⊎ Leads x z
    at (inl same) = inr (λ a b here there_too. edge_order x y a b e.edge here (ap (λ (n : Node). slice_get (acts n.path) n.index) same ∙ there_too))
    at (inr leads) = inr (λ a b here there_too. via a b here there_too (act_there y e.to_there)) where
      via : (a b : Act) → IsActOf a x → IsActOf b z → (act : Act) × IsActOf act y → act_lead a ≤ act_from b
      via a b here there_too (act, middle) =
          let first = edge_order x y a act e.edge here middle in
          let second = leads act b middle there_too in
          let lead = lead_first act (node_within y act middle) in
          omega (arith, lead.0)
