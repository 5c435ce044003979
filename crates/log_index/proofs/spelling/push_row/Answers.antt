use Rattle.std.proofs.Common.{◌≡◌, ◌++◌, List, length, drop, ap, ◌∙◌}
use Rattle.std.specs.List.{flat_map}
use Rattle.std.specs.Int.{w32, w64, to_be_bytes}
use Rattle.sw_base.specs.declared.path.Step.{Step}
use Rattle.race_model.specs.Row.{Row, step_spelling}
use Rattle.log_index.proofs.Written.{four_steps, row_written}
use Rattle.log_index.proofs.spelling.push_row.Goals as goal

pub returns : goal.returns
returns c =
    let steps : c.steps-steps.result.now ≡ c.args.row.now.path = c.steps-steps.ensures.steps in
    let unused : c.split_at.result.1.now ≡ drop (length c.args.row.now.path) four_steps =
    c.split_at.ensures.back ∙ ap (λ (ss : List Step). drop (length c.steps-steps.result.now) ss) c.as_slice.ensures ∙ ap (λ (ss : List Step). drop (length ss) four_steps) steps in
    row_written c.args.row.now c.args.bytes.now.items c.extend_from_slice.new.self.items c.extend_from_slice-2.new.self.items c.push_steps.new.bytes.items c.push_steps-2.new.bytes.items c.extend_from_slice-3.new.self.items
    c.to_be_bytes.result c.to_be_bytes-2.result
    c.in_ok-extend_from_slice.ensures.items c.in_ok-extend_from_slice-2.ensures.items
    (c.in_ok-push_steps.ensures ∙ ap (λ (ss : List Step). c.extend_from_slice-2.new.self.items ++ flat_map step_spelling ss) steps)
    (c.in_ok-push_steps-2.ensures ∙ ap (λ (ss : List Step). c.push_steps.new.bytes.items ++ flat_map step_spelling ss) unused)
    c.in_ok-extend_from_slice-3.ensures.items
    (c.to_be_bytes.ensures ∙ ap (λ (ss : List Step). to_be_bytes w32 (length ss)) steps)
    (c.to_be_bytes-2.ensures ∙ ap (λ (row : Row). to_be_bytes w64 row.records) c.row.view_is)
