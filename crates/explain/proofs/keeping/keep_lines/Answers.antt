use Rattle.std.proofs.Common.{◌≡◌, ℕ, Contains, inl, inr, sym}
use Rattle.log_segment.specs.declared.segment.Segment.{Segment}
use Rattle.explain.specs.Suspects.{KeepsRuns}
use Rattle.explain.proofs.Answering.{on_ok_two}
use Rattle.explain.proofs.Kept.{part_more}
use Rattle.explain.proofs.keeping.keep_lines.Goals as goal

pub returns-clause-keeps : goal.returns-clause-keeps
returns-clause-keeps c = on_ok_two {P = KeepsRuns (λ (n : ℕ). n ≡ c.args.lines.1) c.args.segments.now c.keep_line-2.new.kept.items}
    {Q = (part : Segment) → Contains c.keep_line.new.kept.items part → Contains c.keep_line-2.new.kept.items part} c.keep_line-2.result (λ keeps old own run own_in run_in on. elim on [
      | inl low ↦ part_more own run c.keep_line.new.kept.items c.keep_line-2.new.kept.items old (c.in_ok-keep_line.ensures.keeps own run own_in run_in (sym low))
      | inr high ↦ keeps own run own_in run_in (sym high)
    ]) c.keep_line-2.ensures.keeps c.keep_line-2.ensures.old
