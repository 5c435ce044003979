-- Expressions that load or compute.
use Rattle.kernel_syntax.specs.Tree.{Term, Number, Slot, Tid, Span, Load, Neg, Binary}

abbrev pub IsCompound : Term → Type 0
IsCompound (Number n) = ⊥
IsCompound (Slot k) = ⊥
IsCompound Tid = ⊥
IsCompound Span = ⊥
IsCompound (Load array index line site) = Unit {0}
IsCompound (Neg operand) = Unit {0}
IsCompound (Binary op line left right) = Unit {0}
