-- How a statement changes an element: the kind of its record, what it stores or adds, and the statement itself.
use Rattle.std.specs.Prelude.{ℕ, ℤ}
use Rattle.log_format.specs.declared.record.Kind.{Kind}
use Rattle.log_format.specs.declared.record.Kind.TheVariants as kind
use Rattle.kernel_syntax.specs.Tree as tree
use Rattle.kernel_syntax.specs.Tree.{Term, Code}
use Rattle.kernel_model.specs.Trace.{amount_of}
use Rattle.kernel_model.specs.declared.change.Change.{Change}
use Rattle.kernel_model.specs.declared.change.Change.TheVariants.{Store, Update}

abbrev pub kind_of : Change → Kind
kind_of Store = kind.Write
kind_of (Update minus) = kind.Update

abbrev pub amount : Change → ℤ → ℤ
amount Store v = v
amount (Update minus) v = amount_of minus v

abbrev pub changing : Change → ℕ → Term → Term → ℕ → ℕ → Code → Code
changing Store array index value line site rest = tree.Store array index value line site rest
changing (Update minus) array index value line site rest = tree.Update array index value minus line site rest
