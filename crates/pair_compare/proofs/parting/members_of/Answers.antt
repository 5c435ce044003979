use Rattle.std.proofs.Common.{◌≡◌, ℕ, Bor, List, [], rules, subst}
use Rattle.std.proofs.lemmas.List.{take_all}
use Rattle.log_segment.specs.declared.segment.Segment.{Segment}
use Rattle.stride_summary.specs.declared.run.Run.{Run}
use Rattle.pair_compare.specs.Conflict.{GrowsBy, OneHas}
use Rattle.pair_compare.specs.Fields.{IsRunIn, label_value}
use Rattle.pair_compare.specs.Groups.{IsNumbered, IsRunOf}
use Rattle.pair_compare.proofs.Adds.{Adds-next}
use Rattle.pair_compare.proofs.Tasks.{all_from_none}
use Rattle.pair_compare.proofs.parting.members_of.Goals as goal

pub loop-segment-preserved : goal.loop-segment-preserved
loop-segment-preserved c =
    let part : c.value-part.result ≡ label_value c.args.level c.args.field c.segment-item.result.now.label = search rules in
    let runs : c.as_slice.result.now ≡ c.segment-item.result.now.runs.items = search rules in
    let added = subst (λ (rs : List Run). GrowsBy (OneHas IsRunOf c.loop-segment.members.items) (OneHas IsRunOf c.add_members.new.members.items) (OneHas (IsNumbered (label_value c.args.level c.args.field c.segment-item.result.now.label)) rs)) runs
    (subst (λ (n : ℕ). GrowsBy (OneHas IsRunOf c.loop-segment.members.items) (OneHas IsRunOf c.add_members.new.members.items) (OneHas (IsNumbered n) c.as_slice.result.now)) part c.in_ok-add_members.ensures) in
    Adds-next (OneHas IsRunOf []) (OneHas IsRunOf c.loop-segment.members.items) (OneHas IsRunOf c.add_members.new.members.items) (IsRunIn c.args.level c.args.field) c.args.segments.now c.loop-segment.segment-index c.segment-item.result c.loop-segment-test.true c.segment-item.is c.loop-segment.invariant added

pub returns : goal.returns
returns c = all_from_none IsRunOf (OneHas IsRunOf c.loop-segment.members.items) (OneHas (IsRunIn c.args.level c.args.field) c.args.segments.now)
    (subst (λ (ss : List (Bor Segment)). GrowsBy (OneHas IsRunOf []) (OneHas IsRunOf c.loop-segment.members.items) (OneHas (IsRunIn c.args.level c.args.field) ss)) (search (rules, take_all)) c.loop-segment.invariant)
