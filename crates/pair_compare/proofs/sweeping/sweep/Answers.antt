use Rattle.std.proofs.Common.{◌≡◌, ◌++◌, ◌+◌, List, ap, drop, length, subst, sym, ◌∙◌, arith, rules}
use Rattle.pair_compare.specs.declared.hull.Hull.{Hull}
use Rattle.pair_compare.proofs.Swept.{IsSwept, block_rises, drop_twice, of_one_part, swept_all, swept_more, swept_none}
use Rattle.pair_compare.proofs.sweeping.sweep.Goals as goal

pub parts-init : goal.parts-init
parts-init c = record { swept = swept_none c.args.from c.args.hulls.now c.args.pairs.now.keys c.new-active.result c.new-active.ensures.none c.new-active.ensures.kinds; within = omega arith }

pub meet_block-requires : goal.meet_block-requires
meet_block-requires c =
    let so_far = subst (λ (hs : List Hull). IsSwept c.args.from c.args.hulls.now hs c.args.pairs.now.keys c.parts.pairs.keys c.parts.active) (sym c.split_at.ensures.back) c.parts.invariant.swept in
    record {
      kinds = so_far.opened.kinds;
      rising = block_rises c.args.from c.args.hulls.now c.split_at.result.1.now c.split_at-in-parts.result.0.now c.split_at-in-parts.result.1.now c.requires c.args.pairs.now.keys c.parts.pairs.keys c.parts.pairs.keys c.parts.active c.parts.active c.parts.active so_far (search rules);
    }

pub parts-preserved : goal.parts-preserved
parts-preserved c =
    let rest = c.split_at.result.1.now in
    let block = c.split_at-in-parts.result.0.now in
    let so_far = subst (λ (hs : List Hull). IsSwept c.args.from c.args.hulls.now hs c.args.pairs.now.keys c.parts.pairs.keys c.parts.active) (sym c.split_at.ensures.back) c.parts.invariant.swept in
    let whole : rest ≡ block ++ c.split_at-in-parts.result.1.now = search rules in
    let later : c.split_at-in-parts.result.1.now ≡ drop (c.parts.start + c.part_count-count.result) c.args.hulls.now = c.split_at-in-parts.ensures.back ∙ ap (λ (hs : List Hull). drop c.part_count-count.result hs) c.split_at.ensures.back ∙ drop_twice c.parts.start c.part_count-count.result c.args.hulls.now c.parts.invariant.within in
    record {
      swept = subst (λ (hs : List Hull). IsSwept c.args.from c.args.hulls.now hs c.args.pairs.now.keys c.meet_block.new.pairs.keys c.put_open.new.active) later
          (swept_more c.args.from c.args.hulls.now rest block c.split_at-in-parts.result.1.now c.requires c.args.pairs.now.keys c.parts.pairs.keys c.meet_block.new.pairs.keys c.parts.active c.meet_block.new.active c.put_open.new.active so_far whole
          (of_one_part rest block c.part_count-count.result c.split_at-in-parts.ensures.front c.part_count-count.ensures.within.1 c.part_count-count.ensures.alike) c.in_ok-meet_block.ensures.active c.in_ok-meet_block.ensures.added c.in_ok-put_open.ensures);
      within = search rules;
    }

pub returns : goal.returns
returns c =
    let past : c.parts.start ≡ length c.args.hulls.now = search rules in
    swept_all c.args.from c.args.hulls.now c.parts.start c.args.pairs.now.keys c.parts.pairs.keys c.parts.active past c.parts.invariant.swept
