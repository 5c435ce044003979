use Rattle.std.proofs.Common.{◌≡◌, ℕ, ◌+◌, ◌-◌, sym, ap, ap₂, ◌∙◌, subst, List, [], ◌++◌, take, vec_len, arith}
use Rattle.std.proofs.Math.Seq.{take-nil}
use Rattle.atomic_table.specs.Table.{opening}
use Rattle.shared_words.specs.Draws.{Dealt, whole_share}
use Rattle.shared_words.proofs.Beginning.{zeros}
use Rattle.shared_words.proofs.Dealing.{deal_begins}
use Rattle.shared_words.proofs.chunks.Chunks.new.Goals as goal

pub of_words-requires : goal.of_words-requires
of_words-requires c =
    let n : ℕ = 1 + c.args.loops in
    let count : c.in-Some.count ≡ n = omega (arith, c.in-Some.ensures) in
    let h = c.in_ok-resize.ensures in
    let k : c.in-Some.count - vec_len c.new-words.result ≡ n = omega (arith, c.new-words.ensures.len) in
    let xs : take c.in-Some.count c.new-words.result.items ≡ [] = ap (λ (l : List ℕ). take c.in-Some.count l) c.new-words.ensures.items ∙ take-nil c.in-Some.count in
    let words : c.deref.result.now ≡ zeros n = c.deref.ensures.value ∙ (h.items ∙ ap₂ (λ (l : List ℕ) (m : ℕ). l ++ zeros m) xs k) in
    let P : List ℕ → Type 0 = λ ws. Dealt c.args.loops (opening ws [] whole_share) in
    subst P (sym words) (deal_begins c.args.loops)
