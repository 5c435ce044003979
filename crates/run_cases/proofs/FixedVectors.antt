-- Which kernels are fixed: none with a critical section, a loop whose chunks are drawn or an atomic update, wherever it stands.
use Rattle.std.proofs.Common.{true, false, pos}
use Rattle.kernel_syntax.specs.declared.syntax.Schedule.{Schedule}
use Rattle.kernel_syntax.specs.declared.syntax.Schedule.TheVariants.{Even, Static, Dynamic}
use Rattle.kernel_syntax.specs.Tree.{Term, Number, Code, Done, Set, Store, Update, If, Loop, Parallel, For, Barrier, Critical}
use Rattle.certainty_model.specs.Certain.{IsFixed}

abbrev one : Term
one = Number (pos 1)

abbrev critical : Code
critical = Critical 1 2 3 Done Done

abbrev shared : Schedule → Code → Code → Code
shared schedule body rest = For 0 one one schedule true 2 3 body rest

plain_is_fixed : IsFixed (Set 0 one (Store 0 one one 1 0 (If one Done Done (Loop 0 one one Done (Parallel 2 1 2 (Barrier 1 Done) (shared Even Done (shared (Static 4) Done Done)))))))
plain_is_fixed = (tt, tt, (tt, (tt, (tt, tt, (tt, tt, tt)))))

critical_is_none : IsFixed critical → ⊥
critical_is_none f = f

drawn_is_none : IsFixed (shared (Dynamic 4) Done Done) → ⊥
drawn_is_none f = f.0

update_is_none : IsFixed (Update 0 one one false 1 0 Done) → ⊥
update_is_none f = f

in_rest : IsFixed (Set 0 one (Store 0 one one 1 0 (Barrier 1 critical))) → ⊥
in_rest f = f

in_branch : IsFixed (If one critical Done Done) → ⊥
in_branch f = f.0

in_other_branch : IsFixed (If one Done critical Done) → ⊥
in_other_branch f = f.1

behind_branches : IsFixed (If one Done Done critical) → ⊥
behind_branches f = f.2

in_loop : IsFixed (Loop 0 one one critical Done) → ⊥
in_loop f = f.0

behind_loop : IsFixed (Loop 0 one one Done critical) → ⊥
behind_loop f = f.1

in_region : IsFixed (Parallel 2 1 4 (Parallel 2 2 3 (shared (Dynamic 1) Done Done) Done) Done) → ⊥
in_region f = f.0.0.0

behind_region : IsFixed (Parallel 2 1 4 Done critical) → ⊥
behind_region f = f.1

in_share : IsFixed (shared Even critical Done) → ⊥
in_share f = f.1

behind_share : IsFixed (shared (Static 4) Done critical) → ⊥
behind_share f = f.2
