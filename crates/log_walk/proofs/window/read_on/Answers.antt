use Rattle.std.proofs.Common.{rules, ap, ◌∙◌, arith, List, ℕ, ◌+◌, ◌++◌, take, length-take-le}
use Rattle.std.specs.Option.{option_map}
use Rattle.log_walk.proofs.Unread.{read_more}
use Rattle.log_walk.proofs.window.read_on.Goals as goal

pub reads-preserved : goal.reads-preserved
reads-preserved g c =
    let inv = c.reads.invariant in
    record {
      long = search rules;
      room = search rules;
      unread = ap (option_map (λ (rest : List ℕ). take (c.reads.to + c.in_ok-more.more) _ ++ rest)) c.in_ok-more.ensures.passed
          ∙ read_more (g.T.File.rest c.reads.file) (take c.reads.to c.reads.bytes) c.read.new.into _ c.reads.to c.in_ok-more.more (length-take-le c.reads.to c.reads.bytes (omega (arith, inv.long, inv.room))) (search rules) c.in_ok-more.ensures.bytes
          ∙ inv.unread;
      no_fault = search rules;
    }
