use Rattle.std.proofs.Common.{◌≡◌, ◌+◌, ◌≤◌, sym, subst, ap, ◌∙◌, arith}
use Rattle.log_segment.specs.declared.segment.Segment.{Segment}
use Rattle.segment_groups.specs.Group.{group_key, label_at}
use Rattle.segment_groups.specs.Level.{HasKey, IsLeastNumber}
use Rattle.segment_groups.proofs.Threading.{heads_put, label_deep, label_read, member_first}
use Rattle.segment_groups.proofs.level.add_head.Goals as goal

pub returns-clause-next : goal.returns-clause-next
returns-clause-next c =
    let label = label_read c.args.segments.now c.args.at c.index-segments-at.result c.requires.within c.index-segments-at.is in
    let deep = label_deep c.args.segments.now c.args.at c.args.depth c.index-segments-at.result c.triples.result.now c.requires.within c.index-segments-at.is c.triples.ensures.triples (omega (arith, c.if-depth-triples.false)) in
    let keyed : c.in_ok-key.key.items ≡ group_key c.args.depth (label_at c.args.segments.now c.args.at) = c.in_ok-key.ensures ∙ ap (λ (s : Segment). group_key c.args.depth s.label) (sym c.index-segments-at.is) ∙ ap (group_key c.args.depth) (sym label) in
    member_first c.args.depth (label_at c.args.segments.now) c.args.at c.in_ok-key.key.items c.in_ok-insert.field-0 deep keyed
    (subst (λ (o : _). IsLeastNumber (λ n. (c.args.at + 1 ≤ n) × HasKey c.args.depth (label_at c.args.segments.now) c.in_ok-key.key.items n) o) (sym c.in_ok-insert.ensures.old) (c.requires.heads c.in_ok-key.key))

pub returns-clause-heads : goal.returns-clause-heads
returns-clause-heads c =
    let label = label_read c.args.segments.now c.args.at c.index-segments-at.result c.requires.within c.index-segments-at.is in
    let deep = label_deep c.args.segments.now c.args.at c.args.depth c.index-segments-at.result c.triples.result.now c.requires.within c.index-segments-at.is c.triples.ensures.triples (omega (arith, c.if-depth-triples.false)) in
    let keyed : c.in_ok-key.key.items ≡ group_key c.args.depth (label_at c.args.segments.now c.args.at) = c.in_ok-key.ensures ∙ ap (λ (s : Segment). group_key c.args.depth s.label) (sym c.index-segments-at.is) ∙ ap (group_key c.args.depth) (sym label) in
    heads_put c.args.depth (label_at c.args.segments.now) c.args.at c.args.heads.now c.insert.new.self c.in_ok-key.key deep keyed c.in_ok-insert.ensures.updates.0 c.requires.heads
