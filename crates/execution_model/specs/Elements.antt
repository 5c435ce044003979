-- Where the elements of a kernel's arrays stand among the words of a run.
use Rattle.std.specs.Prelude.{◌≡◌, ℕ, ◌+◌, ◌-◌, ◌*◌, ◌/◌, ◌<◌, ◌&&◌, nat_lt, nat_le, if◌then◌else◌, List, [], ◌∷◌, Some, slice_get}
use Rattle.kernel_syntax.specs.declared.syntax.Array.{Array}
use Rattle.history_model.specs.Sound.{WordLayout}

-- the word of an address, and the address of a word: those of the element that lies there
abbrev pub element_word : List Array → ℕ → ℕ
element_word [] addr = 0
element_word (a ∷ arrays) addr = if nat_le a.base addr && nat_lt addr (a.base + a.count * a.width) then a.first + (addr - a.base) / a.width else element_word arrays addr

abbrev pub element_address : List Array → ℕ → ℕ
element_address [] word = 0
element_address (a ∷ arrays) word = if nat_le a.first word && nat_lt word (a.first + a.count) then a.base + (word - a.first) * a.width else element_address arrays word

-- the bytes of the element in a word
abbrev pub element_width : List Array → ℕ → ℕ
element_width [] word = 1
element_width (a ∷ arrays) word = if nat_le a.first word && nat_lt word (a.first + a.count) then a.width else element_width arrays word

abbrev pub layout_of : List Array → WordLayout
layout_of arrays = record { word = element_word arrays; address = element_address arrays; width = element_width arrays }

-- each element has a word and an address of its own
pub record HaveOwnWords (arrays : List Array) : Type 0 where
  pub word : (k i : ℕ) (a : Array) → slice_get arrays k ≡ Some a → i < a.count → element_word arrays (a.base + i * a.width) ≡ a.first + i
  pub address : (k i : ℕ) (a : Array) → slice_get arrays k ≡ Some a → i < a.count → element_address arrays (a.first + i) ≡ a.base + i * a.width
  pub width : (k i : ℕ) (a : Array) → slice_get arrays k ≡ Some a → i < a.count → element_width arrays (a.first + i) ≡ a.width
