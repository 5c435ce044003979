-- The constructs that a fixed kernel doesn't have, by their lines, in the order of the text.
use Rattle.std.specs.Prelude.{ℕ, List, [], ◌∷◌, ◌++◌}
use Rattle.kernel_syntax.specs.declared.syntax.Schedule.{Schedule}
use Rattle.kernel_syntax.specs.declared.syntax.Schedule.TheVariants.{Even, Static, Dynamic}
use Rattle.kernel_syntax.specs.Tree.{Code, Done, Set, Store, Update, If, Loop, Parallel, For, Barrier, Critical}

-- a worksharing loop whose chunks are drawn, by the line of its `for`
abbrev pub schedule_lines : Schedule → ℕ → List ℕ
schedule_lines Even line = []
schedule_lines (Static chunk) line = []
schedule_lines (Dynamic chunk) line = line ∷ []

-- such loops, critical sections, and atomic updates, those by the line of the array's name
abbrev pub construct_lines : Code → List ℕ
construct_lines Done = []
construct_lines (Set slot value rest) = construct_lines rest
construct_lines (Store array index value line site rest) = construct_lines rest
construct_lines (Update array index value minus line site rest) = line ∷ construct_lines rest
construct_lines (If test if_true if_false rest) = (construct_lines if_true ++ construct_lines if_false) ++ construct_lines rest
construct_lines (Loop slot from to body rest) = construct_lines body ++ construct_lines rest
construct_lines (Parallel span line end body rest) = construct_lines body ++ construct_lines rest
construct_lines (For slot from to schedule nowait line end body rest) = (schedule_lines schedule line ++ construct_lines body) ++ construct_lines rest
construct_lines (Barrier line rest) = construct_lines rest
construct_lines (Critical mutex line end body rest) = (line ∷ construct_lines body) ++ construct_lines rest
