use Rattle.writer_laws.proofs.WritingCases.{lock_moved, lock_hides, held_cut, inside_cut, within_split, span_matters}
use Rattle.writer_laws.proofs.cases.other_premises_are_needed.Goals as goal

pub returns : goal.returns
returns c = record { lock_moved = (lock_moved, lock_hides); cut_where_held = held_cut; cut_inside = inside_cut; split_within = within_split; span_changed = span_matters }
