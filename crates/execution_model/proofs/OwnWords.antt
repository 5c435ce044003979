-- The arrays of a kernel within its bounds: each element has a word and an address of its own.
use Rattle.std.proofs.Common.{◌≡◌, refl, ap, sym, ◌∙◌, subst, inl, inr, ℕ, zero, suc, ◌+◌, ◌-◌, ◌*◌, ◌/◌, ◌<◌, ◌≤◌, Bool, true, false, List, [], ◌∷◌, Some, All, arith}
use Rattle.std.specs.Prelude.{slice_get, nat_lt, nat_le, ◌&&◌, if◌then◌else◌}
use Rattle.std.proofs.lemmas.Nat.{mul-le, div-mul-add}
use Rattle.std.proofs.lemmas.Bool.Decides.{nat_tests}
use Rattle.std.proofs.lemmas.Option.{same_Some}
use Rattle.std.proofs.lemmas.List.Elements.{All-head, All-tail}
use Rattle.kernel_syntax.specs.declared.syntax.Array.{Array}
use Rattle.log_format.specs.Fitting.{IsWidth}
use Rattle.kernel_syntax.specs.Layout.{aligned, laid_from}
use Rattle.kernel_syntax.specs.Program.{Program}
use Rattle.kernel_syntax.specs.Bounds.{IsBounded}
use Rattle.execution_model.specs.Elements.{element_word, element_address, element_width, HaveOwnWords}

abbrev HasWidth : Array → Type 0
HasWidth a = IsWidth a.width

some_width : (width : ℕ) → IsWidth width → 0 < width
some_width width (inl is) = omega arith
some_width width (inr (inl is)) = omega arith
some_width width (inr (inr (inl is))) = omega arith
some_width width (inr (inr (inr is))) = omega arith

le_yes : (m n : ℕ) → m ≤ n → nat_le m n ≡ true
le_yes m n le = grind (arith, nat_tests)

lt_yes : (m n : ℕ) → m < n → nat_lt m n ≡ true
lt_yes m n less = grind (arith, nat_tests)

lt_no : (m n : ℕ) → n ≤ m → nat_lt m n ≡ false
lt_no m n le = grind (arith, nat_tests)

and_no : (b c : Bool) → c ≡ false → (b && c) ≡ false
and_no true c is = is
and_no false c is = refl

aligned_least : (n : ℕ) → n ≤ aligned n
aligned_least n = omega arith

-- later arrays lie behind
base_least : (base first : ℕ) (xs : List Array) (k : ℕ) (a : Array) → slice_get (laid_from base first xs) k ≡ Some a → base ≤ a.base
base_least base first [] k a found = cc
base_least base first (x ∷ xs) zero a found = let is : base ≡ a.base = ap (λ (y : Array). y.base) (same_Some (record x { base = base; first = first }) a found) in omega arith
base_least base first (x ∷ xs) (suc k) a found =
    let later = base_least (aligned (base + x.width * x.count)) (first + x.count) xs k a found in
    let least = aligned_least (base + x.width * x.count) in omega arith

first_least : (base first : ℕ) (xs : List Array) (k : ℕ) (a : Array) → slice_get (laid_from base first xs) k ≡ Some a → first ≤ a.first
first_least base first [] k a found = cc
first_least base first (x ∷ xs) zero a found = let is : first ≡ a.first = ap (λ (y : Array). y.first) (same_Some (record x { base = base; first = first }) a found) in omega arith
first_least base first (x ∷ xs) (suc k) a found = let later = first_least (aligned (base + x.width * x.count)) (first + x.count) xs k a found in omega arith

module _ (a : Array) (rest : List Array) where
  lies_here : (i : ℕ) → i < a.count → IsWidth a.width → (nat_le a.base (a.base + i * a.width) && nat_lt (a.base + i * a.width) (a.base + a.count * a.width)) ≡ true
  lies_here i less width =
      let some = some_width a.width width in
      let bound : suc i * a.width ≤ a.count * a.width = mul-le (suc i) a.width a.count a.width (omega arith) (omega arith) in
      rw (le_yes a.base (a.base + i * a.width) (omega arith), lt_yes (a.base + i * a.width) (a.base + a.count * a.width) (omega arith)) refl

  lies_later : (addr : ℕ) → a.base + a.count * a.width ≤ addr → (nat_le a.base addr && nat_lt addr (a.base + a.count * a.width)) ≡ false
  lies_later addr past = and_no (nat_le a.base addr) (nat_lt addr (a.base + a.count * a.width)) (lt_no addr (a.base + a.count * a.width) past)

  word_here : (i : ℕ) → IsWidth a.width → i < a.count → element_word (a ∷ rest) (a.base + i * a.width) ≡ a.first + i
  word_here i width less =
      let some = some_width a.width width in
      let back : (a.base + i * a.width - a.base) / a.width ≡ i =
      ap (λ (n : ℕ). n / a.width) (let e : a.base + i * a.width - a.base ≡ i * a.width + 0 = omega arith in e) ∙ div-mul-add i a.width 0 some in
      ap (λ (b : Bool). if b then a.first + (a.base + i * a.width - a.base) / a.width else element_word rest (a.base + i * a.width)) (lies_here i less width)
      ∙ ap (λ (n : ℕ). a.first + n) back

  word_later : (addr : ℕ) → a.base + a.count * a.width ≤ addr → element_word (a ∷ rest) addr ≡ element_word rest addr
  word_later addr past = ap (λ (b : Bool). if b then a.first + (addr - a.base) / a.width else element_word rest addr) (lies_later addr past)

  address_here : (i : ℕ) → i < a.count → element_address (a ∷ rest) (a.first + i) ≡ a.base + i * a.width
  address_here i less =
      rw (le_yes a.first (a.first + i) (omega arith), lt_yes (a.first + i) (a.first + a.count) (omega arith))
      (ap (λ (n : ℕ). a.base + n * a.width) (let e : a.first + i - a.first ≡ i = omega arith in e))

  width_here : (i : ℕ) → i < a.count → element_width (a ∷ rest) (a.first + i) ≡ a.width
  width_here i less = rw (le_yes a.first (a.first + i) (omega arith), lt_yes (a.first + i) (a.first + a.count) (omega arith)) refl

  past_words : (word : ℕ) → a.first + a.count ≤ word → (nat_le a.first word && nat_lt word (a.first + a.count)) ≡ false
  past_words word past = and_no (nat_le a.first word) (nat_lt word (a.first + a.count)) (lt_no word (a.first + a.count) past)

  address_later : (word : ℕ) → a.first + a.count ≤ word → element_address (a ∷ rest) word ≡ element_address rest word
  address_later word past = ap (λ (b : Bool). if b then a.base + (word - a.first) * a.width else element_address rest word) (past_words word past)

  width_later : (word : ℕ) → a.first + a.count ≤ word → element_width (a ∷ rest) word ≡ element_width rest word
  width_later word past = ap (λ (b : Bool). if b then a.width else element_width rest word) (past_words word past)

words_of : (base first : ℕ) (xs : List Array) → All HasWidth xs → (k i : ℕ) (a : Array) → slice_get (laid_from base first xs) k ≡ Some a → i < a.count
    → element_word (laid_from base first xs) (a.base + i * a.width) ≡ a.first + i
words_of base first [] widths k i a found less = cc
words_of base first (x ∷ xs) widths zero i a found less =
    subst (λ (y : Array). i < y.count → element_word (laid_from base first (x ∷ xs)) (y.base + i * y.width) ≡ y.first + i) (same_Some (record x { base = base; first = first }) a found)
    (λ within. word_here (record x { base = base; first = first }) (laid_from (aligned (base + x.width * x.count)) (first + x.count) xs) i (All-head HasWidth x xs widths) within) less
words_of base first (x ∷ xs) widths (suc k) i a found less =
    let least = aligned_least (base + x.width * x.count) in
    let behind = base_least (aligned (base + x.width * x.count)) (first + x.count) xs k a found in
    word_later (record x { base = base; first = first }) (laid_from (aligned (base + x.width * x.count)) (first + x.count) xs) (a.base + i * a.width) (omega arith)
    ∙ words_of (aligned (base + x.width * x.count)) (first + x.count) xs (All-tail HasWidth x xs widths) k i a found less

widths_of : (base first : ℕ) (xs : List Array) (k i : ℕ) (a : Array) → slice_get (laid_from base first xs) k ≡ Some a → i < a.count
    → element_width (laid_from base first xs) (a.first + i) ≡ a.width
widths_of base first [] k i a found less = cc
widths_of base first (x ∷ xs) zero i a found less =
    subst (λ (y : Array). i < y.count → element_width (laid_from base first (x ∷ xs)) (y.first + i) ≡ y.width) (same_Some (record x { base = base; first = first }) a found)
    (λ within. width_here (record x { base = base; first = first }) (laid_from (aligned (base + x.width * x.count)) (first + x.count) xs) i within) less
widths_of base first (x ∷ xs) (suc k) i a found less =
    let behind = first_least (aligned (base + x.width * x.count)) (first + x.count) xs k a found in
    width_later (record x { base = base; first = first }) (laid_from (aligned (base + x.width * x.count)) (first + x.count) xs) (a.first + i) (omega arith)
    ∙ widths_of (aligned (base + x.width * x.count)) (first + x.count) xs k i a found less

addresses_of : (base first : ℕ) (xs : List Array) (k i : ℕ) (a : Array) → slice_get (laid_from base first xs) k ≡ Some a → i < a.count
    → element_address (laid_from base first xs) (a.first + i) ≡ a.base + i * a.width
addresses_of base first [] k i a found less = cc
addresses_of base first (x ∷ xs) zero i a found less =
    subst (λ (y : Array). i < y.count → element_address (laid_from base first (x ∷ xs)) (y.first + i) ≡ y.base + i * y.width) (same_Some (record x { base = base; first = first }) a found)
    (λ within. address_here (record x { base = base; first = first }) (laid_from (aligned (base + x.width * x.count)) (first + x.count) xs) i within) less
addresses_of base first (x ∷ xs) (suc k) i a found less =
    let behind = first_least (aligned (base + x.width * x.count)) (first + x.count) xs k a found in
    address_later (record x { base = base; first = first }) (laid_from (aligned (base + x.width * x.count)) (first + x.count) xs) (a.first + i) (omega arith)
    ∙ addresses_of (aligned (base + x.width * x.count)) (first + x.count) xs k i a found less

-- so it is for the arrays of a kernel
pub own_words : (program : Program) → IsBounded program → HaveOwnWords program.arrays
own_words program bounded = subst (λ (xs : List Array). HaveOwnWords xs) (sym bounded.placed) (record {
  word = λ k i a found less. words_of 4096 0 program.arrays bounded.widths k i a found less;
  address = λ k i a found less. addresses_of 4096 0 program.arrays k i a found less;
  width = λ k i a found less. widths_of 4096 0 program.arrays k i a found less;
})

-- the element of each word has a width of the language
either_width : (b : Bool) (m n : ℕ) → IsWidth m → IsWidth n → IsWidth (if b then m else n)
either_width true m n one other = one
either_width false m n one other = other

some_widths : (xs : List Array) → All HasWidth xs → (word : ℕ) → IsWidth (element_width xs word)
some_widths [] widths word = inl refl
some_widths (a ∷ xs) widths word =
    either_width (nat_le a.first word && nat_lt word (a.first + a.count)) a.width (element_width xs word) (All-head HasWidth a xs widths)
    (some_widths xs (All-tail HasWidth a xs widths) word)

pub bounded_widths : (program : Program) → IsBounded program → (word : ℕ) → IsWidth (element_width program.arrays word)
bounded_widths program bounded word = some_widths program.arrays bounded.widths word
