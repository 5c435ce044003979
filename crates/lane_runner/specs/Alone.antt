-- Statements that a lane executes alone, without the other lanes of its team: no worksharing loop and no barrier is among them.
use Rattle.std.specs.Prelude.{◌≡◌, ℕ, ◌<◌, List, [], ◌∷◌, All}
use Rattle.kernel_syntax.specs.Tree.{Code, Done, Set, Store, Update, If, Loop, Parallel, Critical}

-- With these mutexes held, of so many that there are: assignments, stores and updates, under tests, in loops, and in critical sections
-- whose mutexes ascend; and regions where none is held, each with a team of its own.
abbrev pub IsAlone : ℕ → List ℕ → Code → Type 0
IsAlone locks held Done = Unit {0}
IsAlone locks held (Set slot value rest) = IsAlone locks held rest
IsAlone locks held (Store array index value line site rest) = IsAlone locks held rest
IsAlone locks held (Update array index value minus line site rest) = IsAlone locks held rest
IsAlone locks held (If test if_true if_false rest) = IsAlone locks held if_true × IsAlone locks held if_false × IsAlone locks held rest
IsAlone locks held (Loop slot from to body rest) = IsAlone locks held body × IsAlone locks held rest
IsAlone locks held (Parallel span line end body rest) = (held ≡ []) × IsAlone locks held rest
IsAlone locks held (Critical mutex line end body rest) =
    (mutex < locks) × All (λ outer. outer < mutex) held × IsAlone locks (mutex ∷ held) body × IsAlone locks held rest
IsAlone locks held _ = ⊥
