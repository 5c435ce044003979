use Rattle.log_index.proofs.Written.{step_written}
use Rattle.log_index.proofs.spelling.push_step.Goals as goal

pub returns : goal.returns
returns c =
    step_written c.args.step.now c.args.bytes.now.items c.extend_from_slice.new.self.items c.extend_from_slice-2.new.self.items c.extend_from_slice-3.new.self.items
    c.to_be_bytes.result c.to_be_bytes-2.result c.to_be_bytes-3.result
    c.in_ok-extend_from_slice.ensures.items c.in_ok-extend_from_slice-2.ensures.items c.in_ok-extend_from_slice-3.ensures.items
    c.to_be_bytes.ensures c.to_be_bytes-2.ensures c.to_be_bytes-3.ensures
