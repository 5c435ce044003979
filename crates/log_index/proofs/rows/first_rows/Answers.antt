use Rattle.std.proofs.Common.{rules, ap, ◌∙◌}
use Rattle.sw_base.specs.Window.{file_of}
use Rattle.log_index.proofs.Ends.{none_good, read_none, read_more}
use Rattle.log_index.proofs.rows.first_rows.Goals as goal

pub rows-init : goal.rows-init
rows-init g c = record {
  good = none_good c.new-rows.result.items c.new-rows.ensures.items;
  place = search rules;
  told = λ x told shows. read_none (file_of x c.args.name.now) c.new-rows.result.items c.args.window.now c.new-rows.ensures.items c.requires.place shows;
  same = search rules;
  no_fault = search rules;
}

pub rows-preserved : goal.rows-preserved
rows-preserved g c = record {
  good = search rules;
  place = search rules;
  told = λ x told shows.
      let before = c.rows.invariant.told x told shows in
      let reads = c.in_ok-read_row.ensures.row c.if-not-branch.false x (ap (λ s. s.content) c.rows.invariant.same ∙ told) before.shows in
      let grows = c.in_ok-read_row.ensures.grows c.if-not-branch.false in
      read_more (file_of x c.args.name.now) c.rows.rows.items c.read_row.new.rows.items c.rows.window c.read_row.new.window before reads grows.place;
  same = search rules;
  no_fault = search rules;
}
