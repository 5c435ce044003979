-- What the hands of a tree of work did: the items of a hand of the shared words, with those of all hands below it.
use Rattle.std.specs.Prelude.{◌≡◌, ℕ, suc, ◌+◌, List, [], ◌∷◌, ◌++◌, map}
use Rattle.log_format.specs.declared.record.Record.{Record}
use Rattle.log_format.specs.declared.record.Kind.{Kind}
use Rattle.log_format.specs.declared.record.Kind.TheVariants as kind
use Rattle.step_history.specs.declared.item.Item.{Item}
use Rattle.step_history.specs.declared.item.Deed.{Deed}
use Rattle.step_history.specs.declared.item.Deed.TheVariants as deed
use Rattle.step_history.specs.History.{Name, item}
use Rattle.history_model.specs.Work.{Work, Rest, Put, Fork, Phases, NoPhase, Phase, TeamWork, NoWork, Beside}

-- the deed of a record of this kind; `word` tells the word of an address
abbrev pub deeds_of : (ℕ → ℕ) → Kind → Record → List Deed
deeds_of word kind.Read r = deed.Read (word r.addr) r.value ∷ []
deeds_of word kind.Write r = deed.Write (word r.addr) r.value ∷ []
deeds_of word kind.Lock r = deed.Lock r.addr ∷ []
deeds_of word kind.Unlock r = deed.Unlock r.addr ∷ []
deeds_of word kind.Barrier r = []
deeds_of word kind.Region r = []
deeds_of word kind.Chunk r = []
deeds_of word kind.End r = []
deeds_of word kind.Update r = deed.Update (word r.addr) r.value ∷ []

abbrev pub lane_count_of : TeamWork → ℕ
lane_count_of NoWork = 0
lane_count_of (Beside work others) = suc (lane_count_of others)

-- how many hands are split off for a region: one for each lane in each phase
abbrev pub phase_splits : Phases → ℕ
phase_splits NoPhase = 0
phase_splits (Phase team later) = lane_count_of team + phase_splits later

-- how many hands a task splits off
abbrev pub split_count : Work → ℕ
split_count Rest = 0
split_count (Put r more) = split_count more
split_count (Fork line span phases more) = phase_splits phases + split_count more

-- the splits of a phase: the hand of number k is that of this lane
abbrev pub splits_of : Name → ℕ → ℕ → ℕ → TeamWork → List Item
splits_of name k lane span NoWork = []
splits_of name k lane span (Beside work others) = item name (deed.Split k lane span) ∷ splits_of name (suc k) (suc lane) span others

-- `did word name k work`: all items of the hand of this name, whose next split has the number k, and of all hands below it.
-- In each phase all its lanes are split off, then each does its work and is joined.
abbrev mutual
  pub did : (ℕ → ℕ) → Name → ℕ → Work → List Item
  did word name k Rest = []
  did word name k (Put r more) = map (item name) (deeds_of word r.kind r) ++ did word name k more
  did word name k (Fork line span phases more) = did_phases word name k span phases ++ did word name (k + phase_splits phases) more

  pub did_phases : (ℕ → ℕ) → Name → ℕ → ℕ → Phases → List Item
  did_phases word name k span NoPhase = []
  did_phases word name k span (Phase team later) =
      splits_of name k 0 span team ++ did_team word name k team ++ did_phases word name (k + lane_count_of team) span later

  pub did_team : (ℕ → ℕ) → Name → ℕ → TeamWork → List Item
  did_team word name k NoWork = []
  did_team word name k (Beside work others) = did word (k ∷ name) 0 work ++ item name (deed.Home k) ∷ did_team word name (suc k) others

-- a work without a deed: its records are no accesses and no mutex steps
abbrev pub DoesNothing : (ℕ → ℕ) → Work → Type 0
DoesNothing word Rest = Unit {0}
DoesNothing word (Put r more) = (deeds_of word r.kind r ≡ []) × DoesNothing word more
DoesNothing word (Fork line span phases more) = ⊥
