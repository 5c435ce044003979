use Rattle.std.proofs.Common.{◌≡◌, refl, ap, sym, ◌∙◌, subst, ◌++◌, ◌∷◌, [], arith, rules, List, ℤ, pos, ◌+ℤ◌, ◌<ℤ◌, ◌≤ℤ◌, w64, to_z, of_z, FitsSigned}
use Rattle.std.specs.Prelude.{map}
use Rattle.std.proofs.lemmas.Int.{ints, to_z-of_z}
use Rattle.std.proofs.lemmas.List.{map-append}
use Rattle.kernel_model.specs.Iterations.{total_of}
use Rattle.kernel_model.specs.Parts.{Part, Set, unrolled}
use Rattle.team_phases.specs.Pieces.{part_of_piece}
use Rattle.team_phases.proofs.BodyParts.{round_next, round_last, pushed}
use Rattle.team_phases.proofs.unrolling.add_rounds.Goals as goal

pub loop-value-preserved : goal.loop-value-preserved
loop-value-preserved c =
    let v = to_z w64 c.loop-value.value-bits in
    let to = to_z w64 (of_z w64 c.args.to) in
    let more : v <ℤ to = omega (arith, ints) in
    let fits : FitsSigned w64 (v +ℤ pos 1) = search rules in
    let body = map part_of_piece c.args.round.now in
    let all =
    map part_of_piece c.args.pieces.now.items
    ++ unrolled (total_of (to_z w64 (of_z w64 c.args.from)) to) c.args.slot (to_z w64 (of_z w64 c.args.from)) body in
    let old = map part_of_piece c.loop-value.pieces.items in
    let new = map part_of_piece c.add_copy.new.pieces.items in
    let one = pushed c.loop-value.pieces.items c.push.new.self.items _ old c.in_ok-push.ensures.items refl in
    let two : new ≡ (old ++ Set c.args.slot v ∷ []) ++ body =
    ap (map part_of_piece) c.in_ok-add_copy.ensures
    ∙ map-append part_of_piece c.push.new.self.items c.args.round.now
    ∙ ap (λ (ps : List Part). ps ++ body) one in
    subst (λ (w : ℤ). new ++ unrolled (total_of w to) c.args.slot w body ≡ all) (sym (to_z-of_z w64 (v +ℤ pos 1) fits))
    (round_next old new body all c.args.slot v to more c.loop-value.invariant two)

pub returns : goal.returns
returns c =
    let v = to_z w64 c.loop-value.value-bits in
    let to = to_z w64 (of_z w64 c.args.to) in
    let done : to ≤ℤ v = omega (arith, ints) in
    let body = map part_of_piece c.args.round.now in
    let old = map part_of_piece c.args.pieces.now.items in
    round_last (map part_of_piece c.loop-value.pieces.items) body _ c.args.slot v to done c.loop-value.invariant
    ∙ ap (λ (b : ℤ). old ++ unrolled (total_of (to_z w64 (of_z w64 c.args.from)) b) c.args.slot (to_z w64 (of_z w64 c.args.from)) body) (to_z-of_z w64 c.args.to c.ranges.to)
    ∙ ap (λ (a : ℤ). old ++ unrolled (total_of a c.args.to) c.args.slot a body) (to_z-of_z w64 c.args.from c.ranges.from)
