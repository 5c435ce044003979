use Rattle.std.proofs.Common.{ℕ, List, ap, subst}
use Rattle.std.proofs.lemmas.Result.{on_ok_weaker, on_err_weaker}
use Rattle.pair_compare.specs.Conflict.{AddsPairs, AddsSome, IsRunPair}
use Rattle.segment_groups.proofs.Finding.{AddsPairs-found, AddsSome-found}
use Rattle.segment_groups.proofs.searching.search_for.Goals as goal

pub returns-clause-added : goal.returns-clause-added
returns-clause-added g c = on_ok_weaker c.meet-answer.result
    (λ takes. subst (λ (keys : List (ℕ × ℕ)). AddsPairs keys c.meet-answer.new.visit.pairs.keys (IsRunPair c.args.run.now c.args.tree.now)) (ap (λ set. set.keys) c.replace.ensures.value)
    (AddsPairs-found (record { run = c.args.run; pairs = c.replace.result }) c.meet-answer.new.visit c.low.result c.high.result c.args.tree.now c.low.ensures.value c.high.ensures.value takes))
    c.meet-answer.ensures.taken

pub returns-clause-refused : goal.returns-clause-refused
returns-clause-refused g c = on_err_weaker c.meet-answer.result
    (λ takes. subst (λ (keys : List (ℕ × ℕ)). AddsSome keys c.meet-answer.new.visit.pairs.keys (IsRunPair c.args.run.now c.args.tree.now)) (ap (λ set. set.keys) c.replace.ensures.value)
    (AddsSome-found (record { run = c.args.run; pairs = c.replace.result }) c.meet-answer.new.visit c.low.result c.high.result c.args.tree.now takes))
    c.meet-answer.ensures.refused
