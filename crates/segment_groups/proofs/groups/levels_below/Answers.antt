use Rattle.std.proofs.Common.{◌≡◌, ◌+◌, ◌≤◌, length, take, ap, sym, arith, get_or}
use Rattle.std.proofs.lemmas.Grind.{common_steps}
use Rattle.std.proofs.lemmas.List.{take_all}
use Rattle.std.proofs.lemmas.List.Elements.{All-more, All-same, All-weaker}
use Rattle.log_segment.specs.declared.segment.Segment.{Segment}
use Rattle.segment_groups.proofs.groups.levels_below.Goals as goal

pub loop-segment-preserved : goal.loop-segment-preserved
loop-segment-preserved c =
    let up = c.max-most.ensures in
    let triples = c.triples.ensures.triples in
    let levels : length c.triples.result.now ≡ length c.segment-item.result.label = ap length triples in
    let item : length c.segment-item.result.label ≡ length (get_or c.args.segments.now c.loop-segment.segment-index c.segment-item.result).label = ap (λ (s : Segment). length s.label) c.segment-item.is in
    let here : length (get_or c.args.segments.now c.loop-segment.segment-index c.segment-item.result).label ≤ c.max-most.result + 1 = grind (arith, common_steps) in
    let before : c.loop-segment.most ≤ c.max-most.result = grind (arith, common_steps) in
    All-more (λ (s : Segment). length s.label ≤ c.max-most.result + 1) c.args.segments.now c.loop-segment.segment-index c.segment-item.result c.loop-segment-test.true
    (All-weaker (λ (s : Segment). length s.label ≤ c.loop-segment.most + 1) (λ (s : Segment). length s.label ≤ c.max-most.result + 1) (λ s h. omega arith) (take c.loop-segment.segment-index c.args.segments.now) c.loop-segment.invariant) here

pub returns : goal.returns
returns c = All-same (λ (s : Segment). length s.label ≤ c.loop-segment.most + 1) c.args.segments.now _ (sym (take_all c.loop-segment.segment-index c.args.segments.now (omega arith))) c.loop-segment.invariant
