-- Where the elements of a kernel's arrays stand.
use Rattle.std.proofs.Common.{refl}
use Rattle.kernel_syntax.specs.Layout.{elements}
use Rattle.kernel_syntax.specs.Bounds.{IsBounded}
use Rattle.kernel_syntax.specs.Program.{Program}
use Rattle.serial_run.specs.Placing.{ElementLayout, OfLog, TellsWords}
use Rattle.execution_model.specs.Elements.{layout_of}
use Rattle.execution_model.proofs.OwnWords.{own_words}

abbrev pub element_layout : Program → ElementLayout
element_layout program = record { words = layout_of program.arrays; count = elements program.arrays; bound = OfLog }

pub tells_words : (program : Program) → IsBounded program → TellsWords program.arrays (element_layout program)
tells_words program bounded = let own = own_words program bounded in record { count = refl; word = own.word; address = own.address; width = own.width }
