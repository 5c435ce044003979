-- Each item of a sound tree is a split, a join, or the deed of its entry's record.
use Rattle.std.proofs.Common.{◌≡◌, ◌⊎◌, inl, inr, refl, sym, subst, ℕ, zero, suc, ◌+◌, List, [], ◌∷◌, ◌++◌, length, map, Some}
use Rattle.std.specs.Prelude.{slice_get}
use Rattle.std.proofs.lemmas.Option.{same_Some}
use Rattle.sw_base.specs.declared.path.Step.{Step}
use Rattle.log_format.specs.declared.record.Record.{Record}
use Rattle.race_model.specs.Trace.{Node}
use Rattle.race_model.specs.Listing.{lane_of}
use Rattle.race_model.specs.History.{entry_of}
use Rattle.step_history.specs.declared.item.Deed.{Deed}
use Rattle.step_history.specs.declared.item.Deed.TheVariants.{Split, Home}
use Rattle.step_history.specs.History.{Name}
use Rattle.history_model.specs.Work.{Work, Rest, Put, Fork, Phases, NoPhase, Phase, TeamWork, NoWork, Beside, logged}
use Rattle.history_model.specs.Did.{deeds_of, lane_count_of, phase_splits}
use Rattle.history_model.specs.Sound.{WordLayout, IsSoundRecord, IsSound, ArePhasesSound, IsTeamSound}
use Rattle.history_laws.proofs.LabelledWork.{Marked, marked, entry, records_at, regions_at, splits_marked, put_marked, did_marked, phases_marked, team_marked}
use Rattle.history_laws.proofs.Times.{OneDeed, deed_or_none}
use Rattle.history_laws.proofs.Windows.{get_either}
use Rattle.history_laws.proofs.Members.{AreSingle, IsSingle}

-- a split or a join
pub data IsSilent : Deed → Type 0 where
  splits : (k lane span : ℕ) → IsSilent (Split k lane span)
  joins : (k : ℕ) → IsSilent (Home k)

-- the deed of a sound record, and its entry
pub record IsDeedOf (layout : WordLayout) (x : Marked) : Type 0 where
  pub node : Node
  pub r : Record
  pub label : x.label ≡ record { node = node; event = logged r } ∷ []
  pub deeds_are : deeds_of layout.word r.kind r ≡ x.step.deed ∷ []
  pub sound : IsSoundRecord layout r

abbrev pub IsGood : WordLayout → Marked → Type 0
IsGood layout x = ((x.label ≡ []) × IsSilent x.step.deed) ⊎ IsDeedOf layout x

abbrev pub AreGood : WordLayout → List Marked → Type 0
AreGood layout items = (n : ℕ) (x : Marked) → slice_get items n ≡ Some x → IsGood layout x

pub good_single : (layout : WordLayout) (items : List Marked) → AreGood layout items → AreSingle items
good_single layout items good n x found = at (good n x found) where
  at : IsGood layout x → IsSingle x
  at (inl silent) = inl silent.0
  at (inr d) = inr (record { node = d.node; event = logged d.r }, d.label)

module _ (layout : WordLayout) where
  good_both : (xs ys : List Marked) → AreGood layout xs → AreGood layout ys → AreGood layout (xs ++ ys)
  good_both xs ys left right n x found = at (get_either xs ys n x found) where
    at : (slice_get xs n ≡ Some x) ⊎ ((m : ℕ) × (n ≡ length xs + m) × (slice_get ys m ≡ Some x)) → IsGood layout x
    at (inl here) = left n x here
    at (inr (m, same, later)) = right m x later

  good_one : (x : Marked) (xs : List Marked) → IsGood layout x → AreGood layout xs → AreGood layout (x ∷ xs)
  good_one x xs first rest zero y found = subst (λ (z : Marked). IsGood layout z) (same_Some x y found) first
  good_one x xs first rest (suc n) y found = rest n y found

  good_none : AreGood layout []
  good_none n x found = cc

  put_good : (name : Name) (path : List Step) (i : ℕ) (r : Record) → IsSoundRecord layout r → AreGood layout (put_marked layout.word name path i r)
  put_good name path i r sound = at (deed_or_none layout.word r.kind r (entry path i r)) where
    at : ((deeds_of layout.word r.kind r ≡ []) × (entry_of r.kind (entry path i r) ≡ [])) ⊎ OneDeed layout.word r.kind r (entry path i r) → AreGood layout (put_marked layout.word name path i r)
    at (inl none) = subst (λ (ds : List Deed). AreGood layout (map (λ (d : Deed). marked name d (entry path i r ∷ [])) ds)) (sym none.0) good_none
    at (inr one) = subst (λ (ds : List Deed). AreGood layout (map (λ (d : Deed). marked name d (entry path i r ∷ [])) ds)) (sym one.deeds_are)
        (good_one (marked name one.deed (entry path i r ∷ [])) [] (inr (record { node = record { path = path; index = i }; r = r; label = refl; deeds_are = one.deeds_are; sound = sound })) good_none)

  splits_good : (name : Name) (k lane span : ℕ) (team : TeamWork) → AreGood layout (splits_marked name k lane span team)
  splits_good name k lane span NoWork = good_none
  splits_good name k lane span (Beside work others) =
      good_one (marked name (Split k lane span) []) (splits_marked name (suc k) (suc lane) span others) (inl (refl, IsSilent.splits k lane span)) (splits_good name (suc k) (suc lane) span others)

  mutual
    pub did_good : (name : Name) (k : ℕ) (path : List Step) (i g : ℕ) (work : Work) → IsSound layout work → AreGood layout (did_marked layout.word name k path i g work)
    did_good name k path i g Rest sound = good_none
    did_good name k path i g (Put r more) sound =
        good_both (put_marked layout.word name path i r) (did_marked layout.word name k path (i + 1) g more) (put_good name path i r sound.0) (did_good name k path (i + 1) g more sound.2)
    did_good name k path i g (Fork line span phases more) sound =
        good_both (phases_marked layout.word name k path g span (λ lane. 0) (λ lane. 0) phases) (did_marked layout.word name (k + phase_splits phases) path (i + 1) (g + 1) more)
        (phases_good name k path g span span (λ lane. 0) (λ lane. 0) phases sound.0) (did_good name (k + phase_splits phases) path (i + 1) (g + 1) more sound.1)

    phases_good : (name : Name) (k : ℕ) (path : List Step) (g span lanes : ℕ) (put forked : ℕ → ℕ) (phases : Phases) → ArePhasesSound layout lanes phases → AreGood layout (phases_marked layout.word name k path g span put forked phases)
    phases_good name k path g span lanes put forked NoPhase sound = good_none
    phases_good name k path g span lanes put forked (Phase team later) sound =
        good_both (splits_marked name k 0 span team ++ team_marked layout.word name k path g span put forked 0 team)
        (phases_marked layout.word name (k + lane_count_of team) path g span (λ lane. put lane + records_at lane team) (λ lane. forked lane + regions_at lane team) later)
        (good_both (splits_marked name k 0 span team) (team_marked layout.word name k path g span put forked 0 team) (splits_good name k 0 span team) (team_good name k path g span put forked 0 team sound.1))
        (phases_good name (k + lane_count_of team) path g span lanes (λ lane. put lane + records_at lane team) (λ lane. forked lane + regions_at lane team) later sound.3)

    team_good : (name : Name) (k : ℕ) (path : List Step) (g span : ℕ) (put forked : ℕ → ℕ) (lane : ℕ) (team : TeamWork) → IsTeamSound layout team → AreGood layout (team_marked layout.word name k path g span put forked lane team)
    team_good name k path g span put forked lane NoWork sound = good_none
    team_good name k path g span put forked lane (Beside work others) sound =
        good_both (did_marked layout.word (k ∷ name) 0 (lane_of path g lane span) (put lane) (forked lane) work) (marked name (Home k) [] ∷ team_marked layout.word name (suc k) path g span put forked (suc lane) others)
        (did_good (k ∷ name) 0 (lane_of path g lane span) (put lane) (forked lane) work sound.0)
        (good_one (marked name (Home k) []) (team_marked layout.word name (suc k) path g span put forked (suc lane) others) (inl (refl, IsSilent.joins k))
        (team_good name (suc k) path g span put forked (suc lane) others sound.1))
