-- Statements without a block.
use Rattle.kernel_text.specs.Grammar.{Stmts, Let, Assign, Store, Update, Barrier}

-- the first of the statements has no block
abbrev pub IsSimple : Stmts → Type 0
IsSimple (Let line name_line name sign_line value rest) = Unit {0}
IsSimple (Assign line name sign_line value rest) = Unit {0}
IsSimple (Store line name opened index closed sign_line value rest) = Unit {0}
IsSimple (Update line name_line name opened index closed minus sign_line value rest) = Unit {0}
IsSimple (Barrier line rest) = Unit {0}
IsSimple _ = ⊥
