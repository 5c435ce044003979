use Rattle.std.proofs.Common.{◌≡◌, ℕ, ◌+◌, ◌-◌, sym, ap, ap₂, ◌∙◌, subst, List, [], ◌++◌, take, vec_len, arith}
use Rattle.std.proofs.Math.Seq.{take-nil}
use Rattle.shared_words.specs.Views.{newcomer}
use Rattle.shared_words.specs.Rule.{ELEMENTS, Kept}
use Rattle.atomic_table.specs.Table.{opening}
use Rattle.shared_words.proofs.Beginning.{zeros, begins}
use Rattle.shared_words.proofs.words.new_table.Goals as goal

pub of_words-requires : goal.of_words-requires
of_words-requires c =
    let n : ℕ = ELEMENTS + c.args.elements in
    let h = c.in_ok-resize.ensures in
    let k : n - vec_len c.new-room.result ≡ n = omega (arith, c.new-room.ensures.len) in
    let xs : take n c.new-room.result.items ≡ [] = ap (λ (l : List ℕ). take n l) c.new-room.ensures.items ∙ take-nil n in
    let words : c.deref.result.now ≡ zeros n = c.deref.ensures.value ∙ (h.items ∙ ap₂ (λ (l : List ℕ) (m : ℕ). l ++ zeros m) xs k) in
    let P : List ℕ → Type 0 = λ ws. Kept c.args.elements (opening ws [] (newcomer [])) in
    subst P (sym words) (begins c.args.elements)
