-- Statements that give a variable or an element a value.
use Rattle.kernel_syntax.specs.Tree.{Code, Set, Store, Update}

-- the first of the statements is one
abbrev pub IsAssignment : Code → Type 0
IsAssignment (Set slot value rest) = Unit {0}
IsAssignment (Store array index value line site rest) = Unit {0}
IsAssignment (Update array index value minus line site rest) = Unit {0}
IsAssignment _ = ⊥
