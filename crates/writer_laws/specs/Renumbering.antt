-- A run whose tasks are those of another one under other paths: regions are numbered anew, and a task may be a later part of another one.
use Rattle.std.specs.Prelude.{◌≡◌, ℕ, ◌+◌, List, [], ◌∷◌, ◌++◌, Some, slice_get}
use Rattle.sw_base.specs.declared.path.Step.{Step}
use Rattle.race_model.specs.Listing.{lane_of}
use Rattle.race_model.specs.Trace.{Logs, Node, IsThere, regions_before, barriers_before}
use Rattle.race_model.specs.Order.{IsLane}
use Rattle.race_model.specs.ForkJoin.{IsTask, WasForked}
use Rattle.writer_laws.specs.Places.{ForkPlace, forks}

-- which number a region of the other run had in this one: of which task, and its number there
abbrev pub Numbers : Type 0
Numbers = List Step → ℕ → ℕ

-- the task of the second path, in the other run, is the task of the first path in this one, or a part of it
pub data IsFrom (number : Numbers) : List Step → List Step → Type 0 where
  root : (path other : List Step) → path ≡ [] → other ≡ [] → IsFrom number path other
  lane : (path other above beside : List Step) (region lane span : ℕ) → IsFrom number above beside
      → path ≡ lane_of above (number beside region) lane span → other ≡ lane_of beside region lane span → IsFrom number path other

-- there are no logs but the root's and those of lanes that were forked
abbrev pub AreForked : Logs → Type 0
AreForked logs = (path : List Step) (step : Step) → IsTask logs (path ++ step ∷ []) → WasForked logs path step

-- v, in the other run, is in the task that was that of x, or in a part of it, which begins after so many barriers
pub record ComesFrom (number : Numbers) (offset : List Step → ℕ) (logs others : Logs) (x v : Node) : Type 0 where
  pub task : IsFrom number x.path v.path
  pub as_many : barriers_before logs x ≡ barriers_before others v + offset v.path
  pub there : IsThere others v

-- a region of the other run and where it was
abbrev pub WereForks : Numbers → (List Step → ℕ) → Logs → Logs → Type 0
WereForks number offset logs others = (path other : List Step) (region : ℕ) (f : ForkPlace) → IsFrom number path other → slice_get (forks (others other)) region ≡ Some f
    → slice_get (forks (logs path)) (number other region) ≡ Some (record { span = f.span; barriers = f.barriers + offset other })

-- lanes of one region begin after as many barriers, and what was one region and one stretch between barriers is in one region
pub record KeepsTeams (number : Numbers) (offset : List Step → ℕ) (logs others : Logs) : Type 0 where
  pub even : (path : List Step) (region lane other span : ℕ) → offset (lane_of path region lane span) ≡ offset (lane_of path region other span)
  pub one : (path : List Step) (v w f g : Node) (n m s t : ℕ) → IsFrom number path f.path → IsFrom number path g.path
      → IsLane others f n s v.path → IsLane others g m t w.path → IsThere others v → IsThere others w
      → number f.path (regions_before others f) ≡ number g.path (regions_before others g)
      → barriers_before others v + offset v.path ≡ barriers_before others w + offset w.path → f ≡ g
