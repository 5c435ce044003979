-- Where an element stands.
use Rattle.std.specs.Prelude.{◌≡◌, ◌<◌, ℕ}
use Rattle.log_format.specs.Fitting.{IsWidth}
use Rattle.kernel_model.specs.declared.change.Change.{Change}
use Rattle.kernel_model.specs.declared.change.Change.TheVariants.{Store, Update}
use Rattle.step_history.specs.declared.item.Deed.{Deed}
use Rattle.step_history.specs.declared.item.Deed.TheVariants as deed
use Rattle.task_place.specs.declared.place.Element.{Element}
use Rattle.execution_model.specs.Elements.{element_word, element_address, element_width}
use Rattle.lane_runner.specs.World.{WorldValue}

-- the element is a word of the table, with that word's address and bytes
pub record StandsIn (w : WorldValue) (e : Element) : Type 0 where
  pub width : IsWidth e.width
  pub inside : e.word < w.words.elements
  pub word : element_word w.arrays e.addr ≡ e.word
  pub address : element_address w.arrays e.word ≡ e.addr
  pub bytes : element_width w.arrays e.word ≡ e.width

-- the step of a change of a word
abbrev pub change_deed : Change → ℕ → ℕ → Deed
change_deed Store word bits = deed.Write word bits
change_deed (Update minus) word bits = deed.Update word bits
