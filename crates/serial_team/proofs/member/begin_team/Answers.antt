use Rattle.std.proofs.Common.{◌≡◌, ◌<◌, ◌+◌, ◌++◌, ◌∷◌, ◌∙◌, [], ℕ, List, ap, sym, subst, arith, length, slice_index_or, below_more, rules}
use Rattle.std.proofs.lemmas.List.{map-append, length_push, get_or_append_left, get_or_push}
use Rattle.kernel_syntax.specs.Program.{team_of}
use Rattle.serial_team.specs.declared.member.Member.{Member}
use Rattle.serial_team.specs.Members.{MemberValue, BeginsLane, all_idle, idle_member}
use Rattle.serial_team.proofs.member.begin_team.Goals as goal

pub loop-lane-preserved : goal.loop-lane-preserved
loop-lane-preserved c =
    let old = c.loop-lane.members.items in
    let m = c.in_ok-begin.field-0 in
    let lane = c.loop-lane.lane in
    let count = c.loop-lane.invariant.count in
    let pushed : c.push.new.self.items ≡ old ++ m ∷ [] = search rules in
    let all : all_idle c.push.new.self.items ≡ all_idle old ++ idle_member m ∷ [] = ap (λ (l : List Member). all_idle l) pushed ∙ map-append idle_member old (m ∷ []) in
    let P : List MemberValue → ℕ → MemberValue → Type 0 = λ xs k d. BeginsLane c.args.arrays.now (team_of c.args.team.now) c.args.locals.now.slots.items k (slice_index_or xs k d) in
    record {
      count = ap (λ (l : List MemberValue). length l) all ∙ length_push (all_idle old) (idle_member m) ∙ ap (λ (n : ℕ). n + 1) count;
      each =
          subst (λ (xs : List MemberValue). (k : ℕ) → k < lane + 1 → (d : MemberValue) → P xs k d) (sym all)
          (below_more (λ (k : ℕ). (d : MemberValue) → P (all_idle old ++ idle_member m ∷ []) k d) lane
          (λ k less d. subst (λ (v : MemberValue). BeginsLane c.args.arrays.now (team_of c.args.team.now) c.args.locals.now.slots.items k v)
          (sym (get_or_append_left (all_idle old) (idle_member m ∷ []) d k (omega (arith, count, less)))) (c.loop-lane.invariant.each k less d))
          (λ d. subst (λ (v : MemberValue). BeginsLane c.args.arrays.now (team_of c.args.team.now) c.args.locals.now.slots.items lane v)
          (sym (get_or_push (all_idle old) (idle_member m) d lane count)) c.in_ok-begin.ensures.begins));
    }
