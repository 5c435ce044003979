-- Whose items stand in what a hand did: its own, and those of the hands below its splits.
use Rattle.std.proofs.Common.{◌≡◌, ◌⊎◌, refl, sym, ap, ap₂, ◌∙◌, ℕ, suc, ◌+◌, ◌<◌, ◌≤◌, List, [], ◌∷◌, ◌++◌, length, map, arith}
use Rattle.std.proofs.lemmas.List.{append_assoc, append_cancel_right, same_from_push, length-append}
use Rattle.std.proofs.lemmas.List.Elements.{filter-append}
use Rattle.sw_base.specs.declared.path.Step.{Step}
use Rattle.step_history.proofs.Labelled.{filter_yes, filter_no}
use Rattle.log_format.specs.declared.record.Record.{Record}
use Rattle.race_model.specs.Listing.{lane_of}
use Rattle.race_model.specs.History.{Entry}
use Rattle.step_history.specs.declared.item.Deed.{Deed}
use Rattle.step_history.specs.declared.item.Deed.TheVariants.{Split, Home}
use Rattle.step_history.specs.History.{Name, name_eq}
use Rattle.step_history.proofs.Names.{is_same_name, other_name}
use Rattle.history_model.specs.Work.{Work, Rest, Put, Fork, Phases, NoPhase, Phase, TeamWork, NoWork, Beside}
use Rattle.history_model.specs.Did.{deeds_of, lane_count_of, phase_splits, split_count}
use Rattle.step_history.specs.Labels.{labelled_of}
use Rattle.history_laws.proofs.LabelledWork.{Marked, marked, entry, records_at, regions_at, splits_marked, put_marked, did_marked, phases_marked, team_marked}

pub of_append : (name : Name) (xs ys : List Marked) → labelled_of name (xs ++ ys) ≡ labelled_of name xs ++ labelled_of name ys
of_append name xs ys = filter-append (λ (x : Marked). name_eq x.step.name name) xs ys

of_one : (name : Name) (d : Deed) (label : List Entry) (xs : List Marked) → labelled_of name (marked name d label ∷ xs) ≡ marked name d label ∷ labelled_of name xs
of_one name d label xs = filter_yes (λ (x : Marked). name_eq x.step.name name) (marked name d label) xs (is_same_name name)

pub of_none : (name m : Name) (d : Deed) (label : List Entry) (xs : List Marked) → (m ≡ name → ⊥) → labelled_of m (marked name d label ∷ xs) ≡ labelled_of m xs
of_none name m d label xs apart = filter_no (λ (x : Marked). name_eq x.step.name m) (marked name d label) xs (other_name name m (λ e. apart (sym e)))

pub both_empty : (m : Name) (xs ys : List Marked) → labelled_of m xs ≡ [] → labelled_of m ys ≡ [] → labelled_of m (xs ++ ys) ≡ []
both_empty m xs ys left right = of_append m xs ys ∙ ap₂ (λ (one other : List Marked). one ++ other) left right

-- the joins of a phase
abbrev pub homes_marked : Name → ℕ → TeamWork → List Marked
homes_marked name k NoWork = []
homes_marked name k (Beside work others) = marked name (Home k) [] ∷ homes_marked name (suc k) others

pub splits_own : (name : Name) (k lane span : ℕ) (team : TeamWork) → labelled_of name (splits_marked name k lane span team) ≡ splits_marked name k lane span team
splits_own name k lane span NoWork = refl
splits_own name k lane span (Beside work others) =
    of_one name (Split k lane span) [] (splits_marked name (suc k) (suc lane) span others)
    ∙ ap (λ (xs : List Marked). marked name (Split k lane span) [] ∷ xs) (splits_own name (suc k) (suc lane) span others)

pub splits_none : (name m : Name) (k lane span : ℕ) (team : TeamWork) → (m ≡ name → ⊥) → labelled_of m (splits_marked name k lane span team) ≡ []
splits_none name m k lane span NoWork apart = refl
splits_none name m k lane span (Beside work others) apart =
    of_none name m (Split k lane span) [] (splits_marked name (suc k) (suc lane) span others) apart ∙ splits_none name m (suc k) (suc lane) span others apart

-- no hand has a name of its own below it, and hands of two numbers share no name below them
pub longer : (name pre : Name) (k : ℕ) → name ≡ pre ++ k ∷ name → ⊥
longer name pre k same = absurd (omega (arith, ap length same, length-append pre (k ∷ name)))

deeper : (name pre : Name) (k : ℕ) → pre ++ k ∷ name ≡ (pre ++ k ∷ []) ++ name
deeper name pre k = sym (append_assoc pre (k ∷ []) name)

pub apart_below : (name pre other : Name) (j k : ℕ) → (j ≡ k → ⊥) → pre ++ j ∷ name ≡ other ++ k ∷ name → ⊥
apart_below name pre other j k apart same =
    apart (same_from_push pre other j k (append_cancel_right (pre ++ j ∷ []) (other ++ k ∷ []) name (sym (deeper name pre j) ∙ same ∙ deeper name other k))).1

abbrev NotBelow : Name → Name → Type 0
NotBelow m name = (pre : Name) → m ≡ pre ++ name → ⊥

not_below_child : (m name : Name) (k : ℕ) → NotBelow m name → NotBelow m (k ∷ name)
not_below_child m name k not pre same = not (pre ++ k ∷ []) (same ∙ deeper name pre k)

-- a number that isn't one of these
abbrev pub Outside : ℕ → ℕ → ℕ → Type 0
Outside j k count = (j < k) ⊎ (k + count ≤ j)

module _ (word : ℕ → ℕ) where
  puts_none : (name m : Name) (path : List Step) (i : ℕ) (r : Record) (ds : List Deed) → (m ≡ name → ⊥) → labelled_of m (map (λ (d : Deed). marked name d (entry path i r ∷ [])) ds) ≡ []
  puts_none name m path i r [] apart = refl
  puts_none name m path i r (d ∷ ds) apart =
      of_none name m d (entry path i r ∷ []) (map (λ (e : Deed). marked name e (entry path i r ∷ [])) ds) apart ∙ puts_none name m path i r ds apart

  puts_own : (name : Name) (path : List Step) (i : ℕ) (r : Record) (ds : List Deed)
      → labelled_of name (map (λ (d : Deed). marked name d (entry path i r ∷ [])) ds) ≡ map (λ (d : Deed). marked name d (entry path i r ∷ [])) ds
  puts_own name path i r [] = refl
  puts_own name path i r (d ∷ ds) =
      of_one name d (entry path i r ∷ []) (map (λ (e : Deed). marked name e (entry path i r ∷ [])) ds)
      ∙ ap (λ (xs : List Marked). marked name d (entry path i r ∷ []) ∷ xs) (puts_own name path i r ds)

  pub put_none : (name m : Name) (path : List Step) (i : ℕ) (r : Record) → (m ≡ name → ⊥) → labelled_of m (put_marked word name path i r) ≡ []
  put_none name m path i r apart = puts_none name m path i r (deeds_of word r.kind r) apart

  pub put_own : (name : Name) (path : List Step) (i : ℕ) (r : Record) → labelled_of name (put_marked word name path i r) ≡ put_marked word name path i r
  put_own name path i r = puts_own name path i r (deeds_of word r.kind r)

  -- what a hand did is of names that go on from its own
  mutual
    pub not_below : (m name : Name) (k : ℕ) (path : List Step) (i g : ℕ) (work : Work) → NotBelow m name → labelled_of m (did_marked word name k path i g work) ≡ []
    not_below m name k path i g Rest not = refl
    not_below m name k path i g (Put r more) not =
        both_empty m (put_marked word name path i r) (did_marked word name k path (i + 1) g more) (put_none name m path i r (λ e. not [] e)) (not_below m name k path (i + 1) g more not)
    not_below m name k path i g (Fork line span phases more) not =
        both_empty m (phases_marked word name k path g span (λ lane. 0) (λ lane. 0) phases) (did_marked word name (k + phase_splits phases) path (i + 1) (g + 1) more)
        (phases_not_below m name k path g span (λ lane. 0) (λ lane. 0) phases not) (not_below m name (k + phase_splits phases) path (i + 1) (g + 1) more not)

    phases_not_below : (m name : Name) (k : ℕ) (path : List Step) (g span : ℕ) (put forked : ℕ → ℕ) (phases : Phases) → NotBelow m name
        → labelled_of m (phases_marked word name k path g span put forked phases) ≡ []
    phases_not_below m name k path g span put forked NoPhase not = refl
    phases_not_below m name k path g span put forked (Phase team later) not =
        both_empty m (splits_marked name k 0 span team ++ team_marked word name k path g span put forked 0 team)
        (phases_marked word name (k + lane_count_of team) path g span (λ lane. put lane + records_at lane team) (λ lane. forked lane + regions_at lane team) later)
        (both_empty m (splits_marked name k 0 span team) (team_marked word name k path g span put forked 0 team) (splits_none name m k 0 span team (λ e. not [] e)) (team_not_below m name k path g span put forked 0 team not))
        (phases_not_below m name (k + lane_count_of team) path g span (λ lane. put lane + records_at lane team) (λ lane. forked lane + regions_at lane team) later not)

    team_not_below : (m name : Name) (k : ℕ) (path : List Step) (g span : ℕ) (put forked : ℕ → ℕ) (lane : ℕ) (team : TeamWork) → NotBelow m name
        → labelled_of m (team_marked word name k path g span put forked lane team) ≡ []
    team_not_below m name k path g span put forked lane NoWork not = refl
    team_not_below m name k path g span put forked lane (Beside work others) not =
        both_empty m (did_marked word (k ∷ name) 0 (lane_of path g lane span) (put lane) (forked lane) work) (marked name (Home k) [] ∷ team_marked word name (suc k) path g span put forked (suc lane) others)
        (not_below m (k ∷ name) 0 (lane_of path g lane span) (put lane) (forked lane) work (not_below_child m name k not))
        (of_none name m (Home k) [] (team_marked word name (suc k) path g span put forked (suc lane) others) (λ e. not [] e) ∙ team_not_below m name (suc k) path g span put forked (suc lane) others not)

  -- below its own name they are of the numbers of its splits
  mutual
    pub outside : (name pre : Name) (j k : ℕ) (path : List Step) (i g : ℕ) (work : Work) → Outside j k (split_count work) → labelled_of (pre ++ j ∷ name) (did_marked word name k path i g work) ≡ []
    outside name pre j k path i g Rest out = refl
    outside name pre j k path i g (Put r more) out =
        both_empty (pre ++ j ∷ name) (put_marked word name path i r) (did_marked word name k path (i + 1) g more) (put_none name (pre ++ j ∷ name) path i r (λ e. longer name pre j (sym e)))
        (outside name pre j k path (i + 1) g more out)
    outside name pre j k path i g (Fork line span phases more) out =
        both_empty (pre ++ j ∷ name) (phases_marked word name k path g span (λ lane. 0) (λ lane. 0) phases) (did_marked word name (k + phase_splits phases) path (i + 1) (g + 1) more)
        (phases_outside name pre j k path g span (λ lane. 0) (λ lane. 0) phases (grind arith)) (outside name pre j (k + phase_splits phases) path (i + 1) (g + 1) more (grind arith))

    pub phases_outside : (name pre : Name) (j k : ℕ) (path : List Step) (g span : ℕ) (put forked : ℕ → ℕ) (phases : Phases) → Outside j k (phase_splits phases)
        → labelled_of (pre ++ j ∷ name) (phases_marked word name k path g span put forked phases) ≡ []
    phases_outside name pre j k path g span put forked NoPhase out = refl
    phases_outside name pre j k path g span put forked (Phase team later) out =
        both_empty (pre ++ j ∷ name) (splits_marked name k 0 span team ++ team_marked word name k path g span put forked 0 team)
        (phases_marked word name (k + lane_count_of team) path g span (λ lane. put lane + records_at lane team) (λ lane. forked lane + regions_at lane team) later)
        (both_empty (pre ++ j ∷ name) (splits_marked name k 0 span team) (team_marked word name k path g span put forked 0 team) (splits_none name (pre ++ j ∷ name) k 0 span team (λ e. longer name pre j (sym e)))
        (team_outside name pre j k path g span put forked 0 team (grind arith)))
        (phases_outside name pre j (k + lane_count_of team) path g span (λ lane. put lane + records_at lane team) (λ lane. forked lane + regions_at lane team) later (grind arith))

    pub team_outside : (name pre : Name) (j k : ℕ) (path : List Step) (g span : ℕ) (put forked : ℕ → ℕ) (lane : ℕ) (team : TeamWork) → Outside j k (lane_count_of team)
        → labelled_of (pre ++ j ∷ name) (team_marked word name k path g span put forked lane team) ≡ []
    team_outside name pre j k path g span put forked lane NoWork out = refl
    team_outside name pre j k path g span put forked lane (Beside work others) out =
        both_empty (pre ++ j ∷ name) (did_marked word (k ∷ name) 0 (lane_of path g lane span) (put lane) (forked lane) work)
        (marked name (Home k) [] ∷ team_marked word name (suc k) path g span put forked (suc lane) others)
        (not_below (pre ++ j ∷ name) (k ∷ name) 0 (lane_of path g lane span) (put lane) (forked lane) work (λ other same. apart_below name pre other j k (grind arith) same))
        (of_none name (pre ++ j ∷ name) (Home k) [] (team_marked word name (suc k) path g span put forked (suc lane) others) (λ e. longer name pre j (sym e))
        ∙ team_outside name pre j (suc k) path g span put forked (suc lane) others (grind arith))

  -- a hand's own items of a phase are its joins, beside the splits
  pub team_own : (name : Name) (k : ℕ) (path : List Step) (g span : ℕ) (put forked : ℕ → ℕ) (lane : ℕ) (team : TeamWork)
      → labelled_of name (team_marked word name k path g span put forked lane team) ≡ homes_marked name k team
  team_own name k path g span put forked lane NoWork = refl
  team_own name k path g span put forked lane (Beside work others) =
      of_append name (did_marked word (k ∷ name) 0 (lane_of path g lane span) (put lane) (forked lane) work) (marked name (Home k) [] ∷ team_marked word name (suc k) path g span put forked (suc lane) others)
      ∙ ap₂ (λ (xs ys : List Marked). xs ++ ys) (not_below name (k ∷ name) 0 (lane_of path g lane span) (put lane) (forked lane) work (λ pre same. longer name pre k same))
      (of_one name (Home k) [] (team_marked word name (suc k) path g span put forked (suc lane) others)
      ∙ ap (λ (xs : List Marked). marked name (Home k) [] ∷ xs) (team_own name (suc k) path g span put forked (suc lane) others))
