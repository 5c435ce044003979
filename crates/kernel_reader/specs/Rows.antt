-- Operators in a row, as the code keeps them.
use Rattle.std.specs.Prelude.{List, [], ◌∷◌}
use Rattle.kernel_text.specs.Grammar.{Tree, Binary}
use Rattle.kernel_parser.specs.Trees.{tree_of}
use Rattle.kernel_reader.specs.declared.binding.Behind.{Behind}

-- the first operand and what stands behind it, the nearest last
abbrev pub in_row : Tree → List Behind → Tree
in_row t [] = t
in_row t (b ∷ bs) = Binary (in_row t bs) b.op b.line (tree_of b.right.now)
