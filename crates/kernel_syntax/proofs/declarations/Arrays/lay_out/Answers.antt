-- One more array is laid out.
use Rattle.std.proofs.Common.{rules, ◌≡◌, ◌<◌, ◌+◌, ◌*◌, length, ap, ◌∙◌, sym, get_or, set, arith, drop}
use Rattle.kernel_syntax.specs.Layout.{laid_from, aligned}
use Rattle.kernel_syntax.proofs.Laying.{next-is, left-more, done-more, counted-more, near-more, placed}
use Rattle.kernel_syntax.proofs.declarations.Arrays.lay_out.Goals as goal

pub loop-array-preserved : goal.loop-array-preserved
loop-array-preserved c =
    let xs = c.deref_mut-array-items.result.now in
    let i = c.loop-array.array-index in
    let base = c.loop-array.base in
    let first = c.loop-array.first in
    let inv = c.loop-array.invariant in
    let d = c.array-item.result in
    let within : i < length xs = omega arith in
    let same = next-is xs _ i base first d within inv.done inv.left in
    let a = get_or xs i d in
    let rest = drop (i + 1) xs in
    let product : c.from.result * c.from-in-loop-array.result ≡ a.width * a.count =
    ap (λ k. k * c.from-in-loop-array.result) c.from.ensures
    ∙ ap (λ k. (get_or c.loop-array.array-items i d).width * k) c.from-in-loop-array.ensures
    ∙ ap (λ b. b.width * b.count) same in
    let next : c.align-base.result ≡ aligned (base + a.width * a.count) = c.align-base.ensures ∙ ap (λ k. aligned (base + k)) product in
    let narrow : (get_or c.loop-array.array-items i d).width < 256 = search rules in
    let narrow' : a.width < 256 = omega (arith, narrow, ap (λ b. b.width) same) in
    record {
      done = ap (λ b. set c.loop-array.array-items i (placed base first b)) same ∙ done-more xs _ i base first d within inv.done inv.left;
      left =
          left-more xs _ i base first d within inv.done inv.left
          ∙ ap (λ b. laid_from b (first + a.count) rest) (sym next)
          ∙ ap (λ b. laid_from c.align-base.result (first + b.count) rest) (sym same);
      counted =
          ap (λ b. first + b.count) same
          ∙ ap (λ n. n + a.count) inv.counted
          ∙ sym (counted-more xs _ i base first d within inv.done inv.left);
      near = omega (arith, next, ap (λ b. b.count) same, near-more base a.width a.count first i narrow' inv.near);
    }
