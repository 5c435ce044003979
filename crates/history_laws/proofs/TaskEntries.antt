-- What a tree of work records for each of its tasks: the entries of the task's log.
use Rattle.std.proofs.Common.{◌≡◌, ◌⊎◌, inl, inr, refl, sym, ap, ap₂, ◌∙◌, ℕ, suc, ◌+◌, ◌≤◌, Bool, true, false, List, [], ◌∷◌, ◌++◌, length, map, arith}
use Rattle.std.specs.Prelude.{◌==◌, ◌&&◌}
use Rattle.std.specs.List.{flat_map}
use Rattle.std.proofs.lemmas.List.{append-nil, append_assoc, append_cancel_left, length-append}
use Rattle.std.proofs.lemmas.List.Elements.{filter-append}
use Rattle.std.proofs.lemmas.Grind.{flat_map-append}
use Rattle.sw_base.specs.declared.path.Step.{Step}
use Rattle.log_format.specs.declared.record.Record.{Record}
use Rattle.log_format.specs.declared.record.Kind.{Kind}
use Rattle.log_format.specs.declared.record.Kind.TheVariants as kind
use Rattle.race_model.specs.Listing.{lane_of}
use Rattle.race_model.specs.Trace.{path_eq, step_eq}
use Rattle.race_model.specs.History.{Entry, entry_of, entries_from, task_entries}
use Rattle.race_model.proofs.TraceLogs.{path_is}
use Rattle.step_history.specs.declared.item.Deed.{Deed}
use Rattle.step_history.specs.declared.item.Deed.TheVariants.{Home}
use Rattle.step_history.specs.History.{Name}
use Rattle.history_model.specs.Work.{Work, Rest, Put, Fork, Phases, NoPhase, Phase, TeamWork, NoWork, Beside, RegionWork, work_records, work_regions, then_work}
use Rattle.history_model.specs.Did.{deeds_of, lane_count_of, phase_splits}
use Rattle.history_model.proofs.Parts.{then_records, then_regions}
use Rattle.history_laws.proofs.LabelledWork.{Marked, marked, entry, records_at, regions_at, splits_marked, put_marked, did_marked, phases_marked, team_marked}
use Rattle.history_laws.proofs.Times.{OneDeed, deed_or_none}

-- the test of two paths
step_same : (s : Step) → step_eq s s ≡ true
step_same s = all (s.region == s.region) (s.lane == s.lane) (s.span == s.span) (grind arith) (grind arith) (grind arith) where
  all : (a b c : Bool) → a ≡ true → b ≡ true → c ≡ true → ((a && b) && c) ≡ true
  all true true true x y z = refl
  all true true false x y z = cc
  all true false c x y z = cc
  all false b c x y z = cc

pub path_same : (p : List Step) → path_eq p p ≡ true
path_same [] = refl
path_same (s ∷ p) = both (step_eq s s) (path_eq p p) (step_same s) (path_same p) where
  both : (a b : Bool) → a ≡ true → b ≡ true → (a && b) ≡ true
  both true true x y = refl
  both true false x y = cc
  both false b x y = cc

pub path_other : (p q : List Step) → (p ≡ q → ⊥) → path_eq p q ≡ false
path_other p q apart = at (path_eq p q) refl where
  at : (b : Bool) → path_eq p q ≡ b → b ≡ false
  at true is = absurd (apart (path_is p q is))
  at false is = refl

pub entries_append : (q : List Step) (xs ys : List Entry) → task_entries q (xs ++ ys) ≡ task_entries q xs ++ task_entries q ys
entries_append q xs ys = filter-append (λ (e : Entry). path_eq e.node.path q) xs ys

pub none_of_both : (q : List Step) (xs ys : List Entry) → task_entries q xs ≡ [] → task_entries q ys ≡ [] → task_entries q (xs ++ ys) ≡ []
none_of_both q xs ys left right = entries_append q xs ys ∙ ap₂ (λ (one other : List Entry). one ++ other) left right

pub none_before : (q : List Step) (xs ys : List Entry) → task_entries q xs ≡ [] → task_entries q (xs ++ ys) ≡ task_entries q ys
none_before q xs ys none = entries_append q xs ys ∙ ap (λ (es : List Entry). es ++ task_entries q ys) none

pub none_after : (q : List Step) (xs ys : List Entry) → task_entries q ys ≡ [] → task_entries q (xs ++ ys) ≡ task_entries q xs
none_after q xs ys none = entries_append q xs ys ∙ ap (λ (es : List Entry). task_entries q xs ++ es) none ∙ append-nil (task_entries q xs)

pub one_or_none : (k : Kind) (e : Entry) → (entry_of k e ≡ []) ⊎ (entry_of k e ≡ e ∷ [])
one_or_none kind.Read e = inr refl
one_or_none kind.Write e = inr refl
one_or_none kind.Lock e = inr refl
one_or_none kind.Unlock e = inr refl
one_or_none kind.Barrier e = inl refl
one_or_none kind.Region e = inl refl
one_or_none kind.Chunk e = inl refl
one_or_none kind.End e = inl refl
one_or_none kind.Update e = inr refl

pub entry_other : (q : List Step) (k : Kind) (e : Entry) → (e.node.path ≡ q → ⊥) → task_entries q (entry_of k e) ≡ []
entry_other q k e apart = at (one_or_none k e) where
  at : (entry_of k e ≡ []) ⊎ (entry_of k e ≡ e ∷ []) → task_entries q (entry_of k e) ≡ []
  at (inl none) = ap (λ (es : List Entry). task_entries q es) none
  at (inr one) = ap (λ (es : List Entry). task_entries q es) one ∙ rw (path_other e.node.path q apart) refl

entry_own : (k : Kind) (e : Entry) → task_entries e.node.path (entry_of k e) ≡ entry_of k e
entry_own k e = at (one_or_none k e) where
  at : (entry_of k e ≡ []) ⊎ (entry_of k e ≡ e ∷ []) → task_entries e.node.path (entry_of k e) ≡ entry_of k e
  at (inl none) = ap (λ (es : List Entry). task_entries e.node.path es) none ∙ sym none
  at (inr one) = ap (λ (es : List Entry). task_entries e.node.path es) one ∙ (rw (path_same e.node.path) refl ∙ sym one)

-- the entries of a tree, in the order in which its hands did them one after another
abbrev mutual
  pub entries_in : List Step → ℕ → ℕ → Work → List Entry
  entries_in path i g Rest = []
  entries_in path i g (Put r more) = entry_of r.kind (entry path i r) ++ entries_in path (i + 1) g more
  entries_in path i g (Fork line span phases more) = phases_entries path g span (λ lane. 0) (λ lane. 0) phases ++ entries_in path (i + 1) (g + 1) more

  pub phases_entries : List Step → ℕ → ℕ → (ℕ → ℕ) → (ℕ → ℕ) → Phases → List Entry
  phases_entries path g span put forked NoPhase = []
  phases_entries path g span put forked (Phase team later) =
      team_entries path g span put forked 0 team ++ phases_entries path g span (λ lane. put lane + records_at lane team) (λ lane. forked lane + regions_at lane team) later

  pub team_entries : List Step → ℕ → ℕ → (ℕ → ℕ) → (ℕ → ℕ) → ℕ → TeamWork → List Entry
  team_entries path g span put forked lane NoWork = []
  team_entries path g span put forked lane (Beside work others) = entries_in (lane_of path g lane span) (put lane) (forked lane) work ++ team_entries path g span put forked (suc lane) others

-- the entries of labelled items
abbrev pub entries_of : List Marked → List Entry
entries_of items = flat_map (λ (x : Marked). x.label) items

pub entries_of-append : (xs ys : List Marked) → entries_of (xs ++ ys) ≡ entries_of xs ++ entries_of ys
entries_of-append xs ys = flat_map-append (λ (x : Marked). x.label) xs ys

splits_entries : (name : Name) (k lane span : ℕ) (team : TeamWork) → entries_of (splits_marked name k lane span team) ≡ []
splits_entries name k lane span NoWork = refl
splits_entries name k lane span (Beside work others) = splits_entries name (suc k) (suc lane) span others

module _ (word : ℕ → ℕ) where
  put_entries : (name : Name) (path : List Step) (i : ℕ) (r : Record) → entries_of (put_marked word name path i r) ≡ entry_of r.kind (entry path i r)
  put_entries name path i r = at (deed_or_none word r.kind r (entry path i r)) where
    at : ((deeds_of word r.kind r ≡ []) × (entry_of r.kind (entry path i r) ≡ [])) ⊎ OneDeed word r.kind r (entry path i r) → entries_of (put_marked word name path i r) ≡ entry_of r.kind (entry path i r)
    at (inl none) = ap (λ (ds : List Deed). entries_of (map (λ (d : Deed). marked name d (entry path i r ∷ [])) ds)) none.0 ∙ sym none.1
    at (inr one) = ap (λ (ds : List Deed). entries_of (map (λ (d : Deed). marked name d (entry path i r ∷ [])) ds)) one.deeds_are ∙ sym one.entry_is

  mutual
    pub did_entries : (name : Name) (k : ℕ) (path : List Step) (i g : ℕ) (work : Work) → entries_of (did_marked word name k path i g work) ≡ entries_in path i g work
    did_entries name k path i g Rest = refl
    did_entries name k path i g (Put r more) =
        entries_of-append (put_marked word name path i r) (did_marked word name k path (i + 1) g more)
        ∙ ap₂ (λ (xs ys : List Entry). xs ++ ys) (put_entries name path i r) (did_entries name k path (i + 1) g more)
    did_entries name k path i g (Fork line span phases more) =
        entries_of-append (phases_marked word name k path g span (λ lane. 0) (λ lane. 0) phases) (did_marked word name (k + phase_splits phases) path (i + 1) (g + 1) more)
        ∙ ap₂ (λ (xs ys : List Entry). xs ++ ys) (did_phases_entries name k path g span (λ lane. 0) (λ lane. 0) phases) (did_entries name (k + phase_splits phases) path (i + 1) (g + 1) more)

    did_phases_entries : (name : Name) (k : ℕ) (path : List Step) (g span : ℕ) (put forked : ℕ → ℕ) (phases : Phases)
        → entries_of (phases_marked word name k path g span put forked phases) ≡ phases_entries path g span put forked phases
    did_phases_entries name k path g span put forked NoPhase = refl
    did_phases_entries name k path g span put forked (Phase team later) =
        entries_of-append (splits_marked name k 0 span team ++ team_marked word name k path g span put forked 0 team)
        (phases_marked word name (k + lane_count_of team) path g span (λ lane. put lane + records_at lane team) (λ lane. forked lane + regions_at lane team) later)
        ∙ ap₂ (λ (xs ys : List Entry). xs ++ ys)
        (entries_of-append (splits_marked name k 0 span team) (team_marked word name k path g span put forked 0 team)
        ∙ ap₂ (λ (xs ys : List Entry). xs ++ ys) (splits_entries name k 0 span team) (did_team_entries name k path g span put forked 0 team))
        (did_phases_entries name (k + lane_count_of team) path g span (λ lane. put lane + records_at lane team) (λ lane. forked lane + regions_at lane team) later)

    did_team_entries : (name : Name) (k : ℕ) (path : List Step) (g span : ℕ) (put forked : ℕ → ℕ) (lane : ℕ) (team : TeamWork)
        → entries_of (team_marked word name k path g span put forked lane team) ≡ team_entries path g span put forked lane team
    did_team_entries name k path g span put forked lane NoWork = refl
    did_team_entries name k path g span put forked lane (Beside work others) =
        entries_of-append (did_marked word (k ∷ name) 0 (lane_of path g lane span) (put lane) (forked lane) work) (marked name (Home k) [] ∷ team_marked word name (suc k) path g span put forked (suc lane) others)
        ∙ ap₂ (λ (xs ys : List Entry). xs ++ ys) (did_entries (k ∷ name) 0 (lane_of path g lane span) (put lane) (forked lane) work) (did_team_entries name (suc k) path g span put forked (suc lane) others)

-- a path that isn't under another
abbrev pub Apart : List Step → List Step → Type 0
Apart q path = (rest : List Step) → q ≡ path ++ rest → ⊥

apart_child : (q path : List Step) (g lane span : ℕ) → Apart q path → Apart q (lane_of path g lane span)
apart_child q path g lane span apart rest same = apart (record { region = g; lane = lane; span = span } ∷ rest) (same ∙ append_assoc path (record { region = g; lane = lane; span = span } ∷ []) rest)

apart_own : (q path : List Step) → Apart q path → path ≡ q → ⊥
apart_own q path apart same = apart [] (sym same ∙ sym (append-nil path))

-- nothing is recorded there for a path that isn't under its own
mutual
  pub apart_none : (q path : List Step) (i g : ℕ) (work : Work) → Apart q path → task_entries q (entries_in path i g work) ≡ []
  apart_none q path i g Rest apart = refl
  apart_none q path i g (Put r more) apart =
      none_of_both q (entry_of r.kind (entry path i r)) (entries_in path (i + 1) g more) (entry_other q r.kind (entry path i r) (apart_own q path apart)) (apart_none q path (i + 1) g more apart)
  apart_none q path i g (Fork line span phases more) apart =
      none_of_both q (phases_entries path g span (λ lane. 0) (λ lane. 0) phases) (entries_in path (i + 1) (g + 1) more)
      (lanes_none q path g span (λ lane. 0) (λ lane. 0) phases (λ lane. apart_child q path g lane span apart)) (apart_none q path (i + 1) (g + 1) more apart)

  pub lanes_none : (q path : List Step) (g span : ℕ) (put forked : ℕ → ℕ) (phases : Phases) → ((lane : ℕ) → Apart q (lane_of path g lane span)) → task_entries q (phases_entries path g span put forked phases) ≡ []
  lanes_none q path g span put forked NoPhase apart = refl
  lanes_none q path g span put forked (Phase team later) apart =
      none_of_both q (team_entries path g span put forked 0 team) (phases_entries path g span (λ lane. put lane + records_at lane team) (λ lane. forked lane + regions_at lane team) later)
      (team_none q path g span put forked 0 team (λ lane le. apart lane))
      (lanes_none q path g span (λ lane. put lane + records_at lane team) (λ lane. forked lane + regions_at lane team) later apart)

  pub team_none : (q path : List Step) (g span : ℕ) (put forked : ℕ → ℕ) (first : ℕ) (team : TeamWork) → ((lane : ℕ) → first ≤ lane → Apart q (lane_of path g lane span)) → task_entries q (team_entries path g span put forked first team) ≡ []
  team_none q path g span put forked first NoWork apart = refl
  team_none q path g span put forked first (Beside work others) apart =
      none_of_both q (entries_in (lane_of path g first span) (put first) (forked first) work) (team_entries path g span put forked (suc first) others)
      (apart_none q (lane_of path g first span) (put first) (forked first) work (apart first (omega arith)))
      (team_none q path g span put forked (suc first) others (λ lane le. apart lane (omega arith)))

-- a lane is on the way to a path only where its step is the path's
pub same_step : (path rest other : List Step) (step : Step) (g lane span : ℕ) → path ++ step ∷ rest ≡ lane_of path g lane span ++ other → step ≡ record { region = g; lane = lane; span = span }
same_step path rest other step g lane span same =
    let tails : step ∷ rest ≡ record { region = g; lane = lane; span = span } ∷ other
    = append_cancel_left path (step ∷ rest) (record { region = g; lane = lane; span = span } ∷ other) (same ∙ append_assoc path (record { region = g; lane = lane; span = span } ∷ []) other) in
    cc

pub longer_path : (path rest : List Step) (step : Step) → path ≡ path ++ step ∷ rest → ⊥
longer_path path rest step same = absurd (omega (arith, ap length same, length-append path (step ∷ rest)))

-- what the task itself records
pub own_entries : (path : List Step) (i g : ℕ) (work : Work) → task_entries path (entries_in path i g work) ≡ entries_from path i (work_records work)
own_entries path i g Rest = refl
own_entries path i g (Put r more) =
    entries_append path (entry_of r.kind (entry path i r)) (entries_in path (i + 1) g more)
    ∙ ap₂ (λ (xs ys : List Entry). xs ++ ys) (entry_own r.kind (entry path i r)) (own_entries path (i + 1) g more)
own_entries path i g (Fork line span phases more) =
    none_before path (phases_entries path g span (λ lane. 0) (λ lane. 0) phases) (entries_in path (i + 1) (g + 1) more)
    (lanes_none path path g span (λ lane. 0) (λ lane. 0) phases
    (λ lane rest same. longer_path path rest (record { region = g; lane = lane; span = span }) (same ∙ append_assoc path (record { region = g; lane = lane; span = span } ∷ []) rest)))
    ∙ own_entries path (i + 1) (g + 1) more

-- works one after another as one
abbrev pub joined : List Work → Work
joined [] = Rest
joined (work ∷ works) = then_work work (joined works)

pub then_entries : (path : List Step) (i g : ℕ) (work other : Work)
    → entries_in path i g (then_work work other) ≡ entries_in path i g work ++ entries_in path (i + length (work_records work)) (g + length (work_regions work)) other
then_entries path i g Rest other = ap₂ (λ (m n : ℕ). entries_in path m n other) (let e : i ≡ i + 0 = omega arith in e) (let e : g ≡ g + 0 = omega arith in e)
then_entries path i g (Put r more) other =
    ap (λ (es : List Entry). entry_of r.kind (entry path i r) ++ es) (then_entries path (i + 1) g more other)
    ∙ sym (append_assoc (entry_of r.kind (entry path i r)) (entries_in path (i + 1) g more) (entries_in path (i + 1 + length (work_records more)) (g + length (work_regions more)) other))
    ∙ ap (λ (m : ℕ). (entry_of r.kind (entry path i r) ++ entries_in path (i + 1) g more) ++ entries_in path m (g + length (work_regions more)) other) (let e : i + 1 + length (work_records more) ≡ i + suc (length (work_records more)) = omega arith in e)
then_entries path i g (Fork line span phases more) other =
    ap (λ (es : List Entry). phases_entries path g span (λ lane. 0) (λ lane. 0) phases ++ es) (then_entries path (i + 1) (g + 1) more other)
    ∙ sym (append_assoc (phases_entries path g span (λ lane. 0) (λ lane. 0) phases) (entries_in path (i + 1) (g + 1) more) (entries_in path (i + 1 + length (work_records more)) (g + 1 + length (work_regions more)) other))
    ∙ ap₂ (λ (m n : ℕ). (phases_entries path g span (λ lane. 0) (λ lane. 0) phases ++ entries_in path (i + 1) (g + 1) more) ++ entries_in path m n other)
    (let e : i + 1 + length (work_records more) ≡ i + suc (length (work_records more)) = omega arith in e) (let e : g + 1 + length (work_regions more) ≡ g + suc (length (work_regions more)) = omega arith in e)

pub joined_records : (works : List Work) → work_records (joined works) ≡ flat_map work_records works
joined_records [] = refl
joined_records (work ∷ works) = then_records work (joined works) ∙ ap (λ (rs : List Record). work_records work ++ rs) (joined_records works)

pub joined_regions : (works : List Work) → work_regions (joined works) ≡ flat_map work_regions works
joined_regions [] = refl
joined_regions (work ∷ works) = then_regions work (joined works) ∙ ap (λ (rs : List RegionWork). work_regions work ++ rs) (joined_regions works)
