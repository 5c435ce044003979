-- Where a task runs, and where the elements of its kernel's arrays stand.
use Rattle.std.specs.Prelude.{◌≡◌, ℕ, ◌+◌, ◌*◌, ◌<◌, List, Option, Some, slice_get}
use Rattle.kernel_syntax.specs.declared.syntax.Array.{Array}
use Rattle.kernel_syntax.specs.Layout.{ArePlaced, elements}
use Rattle.log_format.specs.Fitting.{IsWidth}
use Rattle.kernel_model.specs.Value as model
use Rattle.kernel_model.specs.Value.{Site}
use Rattle.task_place.specs.declared.place.Element.{Element}

-- the arrays are laid out in a table of so many words
pub record AreLaidOut (arrays : List Array) : Type 0 where
  pub words : ℕ
  pub placed : ArePlaced arrays words

-- the arrays are laid out, and the team has the lane
pub record HasLane (at : Site) : Type 0 where
  pub placed : ArePlaced at.arrays (elements at.arrays)
  pub within : at.lane < at.span

-- the element as the meaning of kernels has it
abbrev pub meant : Element → model.Element
meant e = record { addr = e.addr; width = e.width }

-- it is the element of this number of an array
pub record IsNumberedElement (arrays : List Array) (e : Element) : Type 0 where
  pub place : ℕ
  pub array : Array
  pub number : ℕ
  pub listed : slice_get arrays place ≡ Some array
  pub within : number < array.count
  pub word : e.word ≡ array.first + number
  pub addr : e.addr ≡ array.base + number * array.width
  pub width : e.width ≡ array.width

-- this element was found, whose word is one of so many
pub record IsElement (arrays : List Array) (words : ℕ) (found : Option model.Element) (e : Element) : Type 0 where
  pub is : found ≡ Some (meant e)
  pub width : IsWidth e.width
  pub inside : e.word < words
  pub numbered : IsNumberedElement arrays e
