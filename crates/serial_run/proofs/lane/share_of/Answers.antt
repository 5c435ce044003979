use Rattle.std.proofs.Common.{◌≡◌, ap, sym, ◌∙◌, subst, ℕ, ◌+◌, ◌<◌, ◌≤◌, ℤ, pos, ◌+ℤ◌, w64, to_z, of_z, rules, arith}
use Rattle.std.proofs.lemmas.Int.{to_z-of_z}
use Rattle.kernel_syntax.specs.declared.syntax.Schedule.{Schedule}
use Rattle.kernel_syntax.specs.Program.{code_of}
use Rattle.kernel_syntax.specs.Share.{even_share_of}
use Rattle.kernel_model.specs.Drawing.{turn_from}
use Rattle.kernel_model.specs.Iterations.{total_of}
use Rattle.kernel_model.specs.Trace.{shared}
use Rattle.kernel_model.proofs.Turns.{share_within, below_top}
use Rattle.serial_run.proofs.Loops.{even_is}
use Rattle.serial_run.proofs.lane.share_of.Goals as goal

within_is : (lane span given : ℕ) → given ≡ span → lane < given → lane < span
within_is lane span given is less = omega (arith, is, less)

pub number_at-requires-in-Even : goal.number_at-requires-in-Even
number_at-requires-in-Even c =
    let lt = within_is c.args.place.now.lane c.args.place.now.span c.span.result c.span.ensures.span c.span.ensures.within in
    let is : c.even_share-first.result ≡ even_share_of c.total_of.result c.args.place.now.lane c.args.place.now.span =
    c.even_share-first.ensures ∙ ap (λ (n : ℕ). even_share_of c.total_of.result n c.span.result) c.lane.ensures ∙ ap (λ (n : ℕ). even_share_of c.total_of.result c.args.place.now.lane n) c.span.ensures.span in
    let reaches : c.even_share-first.result.0 + c.even_share-first.result.1 ≤ c.total_of.result =
    subst (λ (p : ℕ × ℕ). p.0 + p.1 ≤ c.total_of.result) (sym is) (share_within c.total_of.result c.args.place.now.lane c.args.place.now.span lt) in
    below_top (to_z w64 (of_z w64 c.args.from)) (c.even_share-first.result.0 + c.even_share-first.result.1) c.total_of.result reaches c.total_of.ensures.top

pub returns-in-Even : goal.returns-in-Even
returns-in-Even c =
    let at = c.args.place.now in
    let body = code_of c.args.body.now.stmts.items in
    let from_is = to_z-of_z w64 c.args.from c.ranges.from in
    let total : c.total_of.result ≡ total_of c.args.from c.args.to =
    c.total_of.ensures.count ∙ ap (λ (z : ℤ). total_of z (to_z w64 (of_z w64 c.args.to))) from_is ∙ ap (λ (z : ℤ). total_of c.args.from z) (to_z-of_z w64 c.args.to c.ranges.to) in
    let is : c.even_share-first.result ≡ even_share_of (total_of c.args.from c.args.to) at.lane at.span =
    c.even_share-first.ensures ∙ ap (λ (n : ℕ). even_share_of c.total_of.result n c.span.result) c.lane.ensures ∙ ap (λ (n : ℕ). even_share_of c.total_of.result at.lane n) c.span.ensures.span
    ∙ ap (λ (n : ℕ). even_share_of n at.lane at.span) total in
    let next_is = to_z-of_z w64 c.number_at.result (search rules) ∙ c.number_at.ensures ∙ ap (λ (z : ℤ). z +ℤ pos (c.even_share-first.result.0 + 0)) from_is
    ∙ ap (λ (k : ℕ). c.args.from +ℤ pos k) (let e : c.even_share-first.result.0 + 0 ≡ c.even_share-first.result.0 = omega arith in e) in
    let end_is = to_z-of_z w64 c.number_at-in-Even.result (search rules) ∙ c.number_at-in-Even.ensures ∙ ap (λ (z : ℤ). z +ℤ pos (c.even_share-first.result.0 + c.even_share-first.result.1)) from_is in
    λ line s.
    even_is at body c.args.slot c.args.from (total_of c.args.from c.args.to) c.even_share-first.result (to_z w64 (of_z w64 c.number_at.result)) (to_z w64 (of_z w64 c.number_at-in-Even.result)) is next_is end_is s
    ∙ ap (λ (k : Schedule). shared k at line (total_of c.args.from c.args.to) (turn_from at body c.args.slot c.args.from) s) (sym c.in-Even.is)
