use Rattle.race_laws.proofs.LabelPlace.{label_exists, label_unique}
use Rattle.race_laws.proofs.LabelLaw.{happens_before_by_labels, unordered_concurrent, concurrent_unordered, same_label_same_log, same_label_regions, same_label_barriers, same_label_from_place}
use Rattle.race_laws.proofs.labels.labels_are_happens_before.Goals as goal

pub returns : goal.returns
returns c = record {
  labelled = λ logs x tree here. let l = label_exists logs x tree here in (l.label, l.is_label);
  one_label = label_unique;
  ordered = happens_before_by_labels;
  concurrent = λ logs x y l m tree x_there y_there is_l is_m.
      (unordered_concurrent logs x y l m tree x_there y_there is_l is_m, concurrent_unordered logs x y l m tree x_there y_there is_l is_m);
  same_label = λ logs x y l m tree is_l is_m. (
    (λ same. (same_label_same_log logs x y l m is_l is_m same, same_label_regions logs x y l m is_l is_m same, same_label_barriers logs x y l m tree is_l is_m same)),
    λ (log, regions, barriers). same_label_from_place logs x y l m is_l is_m log regions barriers,
  );
}
