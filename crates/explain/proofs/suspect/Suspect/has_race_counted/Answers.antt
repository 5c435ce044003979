use Rattle.std.proofs.Common.{sym, subst, ◌∙◌}
use Rattle.std.proofs.lemmas.Map.Views.{btree_set_contains_iff}
use Rattle.log_segment.specs.declared.segment.Segment.{Segment}
use Rattle.pair_compare.proofs.Inserts.{pair_exact, pair_total}
use Rattle.pair_compare.specs.Compare.{IsRacingPair}
use Rattle.explain.proofs.suspect.Suspect.has_race_counted.Goals as goal

pub returns : goal.returns
returns g c = λ racing.
    let mine = subst (λ (s : Segment). IsRacingPair c.args.other.now s c.args.lines) (sym c.self.view_is) racing in
    c.contains.ensures ∙ (btree_set_contains_iff pair_total pair_exact c.compare.new.pairs c.args.lines).1 (c.in_ok-compare.ensures.added.added c.args.lines mine)
