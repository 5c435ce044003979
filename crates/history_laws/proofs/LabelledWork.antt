-- What the hands of a tree of work did, each deed with the entry of its record in a history.
use Rattle.std.proofs.Common.{◌≡◌, refl, ap, ap₂, ◌∙◌, ℕ, suc, ◌+◌, List, [], ◌∷◌, ◌++◌, length, map}
use Rattle.std.specs.List.{flat_map}
use Rattle.std.proofs.lemmas.List.{map-append}
use Rattle.sw_base.specs.declared.path.Step.{Step}
use Rattle.log_format.specs.declared.record.Record.{Record}
use Rattle.race_model.specs.Listing.{lane_of}
use Rattle.race_model.specs.History.{Entry}
use Rattle.step_history.specs.declared.item.Item.{Item}
use Rattle.step_history.specs.declared.item.Deed.{Deed}
use Rattle.step_history.specs.declared.item.Deed.TheVariants.{Split, Home}
use Rattle.step_history.specs.History.{Name, item}
use Rattle.history_model.specs.Work.{Work, Rest, Put, Fork, Phases, NoPhase, Phase, TeamWork, NoWork, Beside, logged, work_records, work_regions, work_at}
use Rattle.history_model.specs.Did.{deeds_of, lane_count_of, phase_splits, splits_of, did, did_phases, did_team}
use Rattle.step_history.specs.Labels.{Labelled, items_of}

-- an item with the entry of its record, if it has one
abbrev pub Marked : Type 0
Marked = Labelled (List Entry)

abbrev pub marked : Name → Deed → List Entry → Marked
marked name deed label = record { step = item name deed; label = label }

-- a record of a log as an entry, and one that is put
abbrev pub log_entry : List Step → ℕ → Record → Entry
log_entry path index r = record { node = record { path = path; index = index }; event = r }

abbrev pub entry : List Step → ℕ → Record → Entry
entry path index r = log_entry path index (logged r)

-- how many records and regions the lane has in a phase
abbrev pub records_at : ℕ → TeamWork → ℕ
records_at lane team = length (flat_map work_records (work_at lane team))

abbrev pub regions_at : ℕ → TeamWork → ℕ
regions_at lane team = length (flat_map work_regions (work_at lane team))

abbrev pub splits_marked : Name → ℕ → ℕ → ℕ → TeamWork → List Marked
splits_marked name k lane span NoWork = []
splits_marked name k lane span (Beside work others) = marked name (Split k lane span) [] ∷ splits_marked name (suc k) (suc lane) span others

module _ (word : ℕ → ℕ) where
  abbrev pub put_marked : Name → List Step → ℕ → Record → List Marked
  put_marked name path i r = map (λ (d : Deed). marked name d (entry path i r ∷ [])) (deeds_of word r.kind r)

  -- what `did` tells, with the task's path, the numbers of its next record and next region, and for each lane of a region
  -- those of its phases so far
  abbrev mutual
    pub did_marked : Name → ℕ → List Step → ℕ → ℕ → Work → List Marked
    did_marked name k path i g Rest = []
    did_marked name k path i g (Put r more) = put_marked name path i r ++ did_marked name k path (i + 1) g more
    did_marked name k path i g (Fork line span phases more) =
        phases_marked name k path g span (λ lane. 0) (λ lane. 0) phases ++ did_marked name (k + phase_splits phases) path (i + 1) (g + 1) more

    pub phases_marked : Name → ℕ → List Step → ℕ → ℕ → (ℕ → ℕ) → (ℕ → ℕ) → Phases → List Marked
    phases_marked name k path g span put forked NoPhase = []
    phases_marked name k path g span put forked (Phase team later) =
        splits_marked name k 0 span team ++ team_marked name k path g span put forked 0 team
        ++ phases_marked name (k + lane_count_of team) path g span (λ lane. put lane + records_at lane team) (λ lane. forked lane + regions_at lane team) later

    pub team_marked : Name → ℕ → List Step → ℕ → ℕ → (ℕ → ℕ) → (ℕ → ℕ) → ℕ → TeamWork → List Marked
    team_marked name k path g span put forked lane NoWork = []
    team_marked name k path g span put forked lane (Beside work others) =
        did_marked (k ∷ name) 0 (lane_of path g lane span) (put lane) (forked lane) work
        ++ marked name (Home k) [] ∷ team_marked name (suc k) path g span put forked (suc lane) others

  put_items : (name : Name) (path : List Step) (i : ℕ) (r : Record) → items_of (put_marked name path i r) ≡ map (item name) (deeds_of word r.kind r)
  put_items name path i r = each (deeds_of word r.kind r) where
    each : (ds : List Deed) → items_of (map (λ (d : Deed). marked name d (entry path i r ∷ [])) ds) ≡ map (item name) ds
    each [] = refl
    each (d ∷ ds) = ap (λ (xs : List Item). item name d ∷ xs) (each ds)

  items-append : (xs ys : List Marked) → items_of (xs ++ ys) ≡ items_of xs ++ items_of ys
  items-append xs ys = map-append (λ (x : Marked). x.step) xs ys

  splits_items : (name : Name) (k lane span : ℕ) (team : TeamWork) → items_of (splits_marked name k lane span team) ≡ splits_of name k lane span team
  splits_items name k lane span NoWork = refl
  splits_items name k lane span (Beside work others) = ap (λ (xs : List Item). item name (Split k lane span) ∷ xs) (splits_items name (suc k) (suc lane) span others)

  -- without the entries it is what the hands did
  mutual
    pub marked_items : (name : Name) (k : ℕ) (path : List Step) (i g : ℕ) (work : Work) → items_of (did_marked name k path i g work) ≡ did word name k work
    marked_items name k path i g Rest = refl
    marked_items name k path i g (Put r more) =
        items-append (put_marked name path i r) (did_marked name k path (i + 1) g more) ∙ ap₂ (λ (xs ys : List Item). xs ++ ys) (put_items name path i r) (marked_items name k path (i + 1) g more)
    marked_items name k path i g (Fork line span phases more) =
        items-append (phases_marked name k path g span (λ lane. 0) (λ lane. 0) phases) (did_marked name (k + phase_splits phases) path (i + 1) (g + 1) more)
        ∙ ap₂ (λ (xs ys : List Item). xs ++ ys) (phases_items name k path g span (λ lane. 0) (λ lane. 0) phases) (marked_items name (k + phase_splits phases) path (i + 1) (g + 1) more)

    phases_items : (name : Name) (k : ℕ) (path : List Step) (g span : ℕ) (put forked : ℕ → ℕ) (phases : Phases) → items_of (phases_marked name k path g span put forked phases) ≡ did_phases word name k span phases
    phases_items name k path g span put forked NoPhase = refl
    phases_items name k path g span put forked (Phase team later) =
        items-append (splits_marked name k 0 span team ++ team_marked name k path g span put forked 0 team)
        (phases_marked name (k + lane_count_of team) path g span (λ lane. put lane + records_at lane team) (λ lane. forked lane + regions_at lane team) later)
        ∙ ap₂ (λ (xs ys : List Item). xs ++ ys)
        (items-append (splits_marked name k 0 span team) (team_marked name k path g span put forked 0 team)
        ∙ ap₂ (λ (xs ys : List Item). xs ++ ys) (splits_items name k 0 span team) (team_items name k path g span put forked 0 team))
        (phases_items name (k + lane_count_of team) path g span (λ lane. put lane + records_at lane team) (λ lane. forked lane + regions_at lane team) later)

    team_items : (name : Name) (k : ℕ) (path : List Step) (g span : ℕ) (put forked : ℕ → ℕ) (lane : ℕ) (team : TeamWork) → items_of (team_marked name k path g span put forked lane team) ≡ did_team word name k team
    team_items name k path g span put forked lane NoWork = refl
    team_items name k path g span put forked lane (Beside work others) =
        items-append (did_marked (k ∷ name) 0 (lane_of path g lane span) (put lane) (forked lane) work) (marked name (Home k) [] ∷ team_marked name (suc k) path g span put forked (suc lane) others)
        ∙ ap₂ (λ (xs ys : List Item). xs ++ item name (Home k) ∷ ys) (marked_items (k ∷ name) 0 (lane_of path g lane span) (put lane) (forked lane) work)
        (team_items name (suc k) path g span put forked (suc lane) others)
