-- Where the elements of a kernel's arrays stand among the words of a serial run.
use Rattle.std.specs.Prelude.{◌≡◌, ℕ, ◌+◌, ◌*◌, ◌<◌, List, Some, slice_get}
use Rattle.kernel_syntax.specs.declared.syntax.Array.{Array}
use Rattle.kernel_syntax.specs.Layout.{elements}
use Rattle.log_format.specs.declared.record.Record.{Record}
use Rattle.history_model.specs.Sound.{WordLayout, IsOfElement}
use Rattle.task_place.specs.declared.place.Element.{Element}

-- how many records more a task may make in its meaning: those for which its log has room, or no more of them than the whole run may make
pub data Bound : Type 0 where
  OfLog : Bound
  OfRun : Bound

-- where the elements stand, how many words there are, and what bounds a task in its meaning
pub record ElementLayout : Type 0 where
  pub words : WordLayout
  pub count : ℕ
  pub bound : Bound

-- so do those of these arrays: each has a word of its own number, with its address and its bytes
pub record TellsWords (arrays : List Array) (layout : ElementLayout) : Type 0 where
  pub count : layout.count ≡ elements arrays
  pub word : (k i : ℕ) (a : Array) → slice_get arrays k ≡ Some a → i < a.count → layout.words.word (a.base + i * a.width) ≡ a.first + i
  pub address : (k i : ℕ) (a : Array) → slice_get arrays k ≡ Some a → i < a.count → layout.words.address (a.first + i) ≡ a.base + i * a.width
  pub width : (k i : ℕ) (a : Array) → slice_get arrays k ≡ Some a → i < a.count → layout.words.width (a.first + i) ≡ a.width

-- an access is one of an element
pub record IsInPlace (layout : ElementLayout) (r : Record) : Type 0 where
  pub element : IsOfElement layout.words r
  pub within : layout.words.word r.addr < layout.count

-- this element stands there
pub record IsPlacedAt (layout : ElementLayout) (e : Element) : Type 0 where
  pub word : layout.words.word e.addr ≡ e.word
  pub address : layout.words.address e.word ≡ e.addr
  pub width : layout.words.width e.word ≡ e.width
  pub within : e.word < layout.count
