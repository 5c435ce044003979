use Rattle.std.proofs.Common.{◌≡◌, ◌<◌, ◌∙◌, ℕ, ap, sym, arith, slice_index_or, below_more, length}
use Rattle.std.proofs.lemmas.List.{get_or_default}
use Rattle.serial_team.specs.declared.member.Member.{Member}
use Rattle.serial_team.proofs.member.all_at.Goals as goal

pub loop-member-preserved : goal.loop-member-preserved
loop-member-preserved c =
    let n = c.loop-member.member-index in
    let within : n < length c.args.members.now = omega (arith, c.loop-member-test.true) in
    record {
      so_far =
          below_more (λ (k : ℕ). (d : Member) → (slice_index_or c.args.members.now k d).stage ≡ c.args.stage) n c.loop-member.invariant.so_far
          (λ d. ap (λ (m : Member). m.stage) (sym (get_or_default c.args.members.now n c.member-item.result d within) ∙ sym c.member-item.is) ∙ c.is_at.ensures c.if-not-is_at.false);
    }

pub returns : goal.returns
returns c = λ true k d less. c.loop-member.invariant.so_far k (omega (arith, c.loop-member-test.false)) d
