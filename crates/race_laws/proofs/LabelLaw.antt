-- Precedence of labels is happens-before, in a fork-join run.
use Rattle.std.proofs.Common.{◌≡◌, ◌⊎◌, ◌↔◌, ℕ, ◌<◌, ◌≤◌, List, [], ◌∷◌, ◌++◌, refl, sym, ap, subst, arith, ◌∙◌, inl, inr, append_assoc}
use Rattle.std.proofs.lemmas.List.{same_from_push}
use Rattle.std.proofs.lemmas.List.Sums.{sum_by-take-le}
use Rattle.std.specs.Prelude.{cond}
use Rattle.sw_base.specs.declared.path.Step.{Step}
use Rattle.log_format.specs.declared.record.Kind.TheVariants.{Region}
use Rattle.race_model.specs.Trace.{Logs, Node, IsThere, regions_before, barriers_before, barrier_count, is_barrier_kind}
use Rattle.race_model.specs.Order.{IsLane, HappensBefore}
use Rattle.race_model.specs.Race.{IsUnordered}
use Rattle.race_model.specs.Label.{Triple, IsLabel, IsLabelBefore, IsConcurrent, lane_triple}
use Rattle.race_model.specs.ForkJoin.{IsForkJoin}
use Rattle.race_laws.proofs.Counts.{regions_up, regions_after, there}
use Rattle.race_laws.proofs.LabelOrder.{label_not_before_itself, label_before_trans, how_before, GoesOn, PartsAfter}
use Rattle.race_laws.proofs.LabelPlace.{AreForked, same_node, label_forked, label_unique, label_last, same_place}
use Rattle.race_laws.proofs.ProgramOrder.{happens_before_trans, program_order}
use Rattle.race_laws.proofs.Chains.{tree_joined, IsBelow, below_region, down}
use Rattle.race_laws.proofs.Reaching.{Under, not_later, not_after, tree_level, task_before, team_before}
use Rattle.race_laws.proofs.Parting.{ancestor, InOneTask, InOneTeam, parting}
use Rattle.race_laws.proofs.EdgeOrder.{AtMost, happens_before_labels, happens_before_label_before}

place_under : (logs : Logs) (a x : Node) (rest : List Triple) → ((a ≡ x) × (rest ≡ [])) ⊎ IsBelow logs a x.path → Under logs a x
place_under logs a x rest (inl here) = inl here.0
place_under logs a x rest (inr below) = inr below

-- a label that goes on is that of a task below
goes_on_before : (logs : Logs) (x y : Node) (l m : List Triple) → IsForkJoin logs → IsThere logs x → IsThere logs y → IsLabel logs x l → IsLabel logs y m → GoesOn l m → HappensBefore logs x y
goes_on_before logs x y l m tree x_there y_there is_l is_m g =
    let last = label_last logs x l is_l in
    let parts : m ≡ last.prefix ++ last.last ∷ (g.next ∷ g.rest) =
    g.parts ∙ (ap (λ (k : List Triple). k ++ g.next ∷ g.rest) last.parts ∙ append_assoc last.prefix (last.last ∷ []) (g.next ∷ g.rest)) in
    let a = ancestor logs y m is_m last.prefix last.last (g.next ∷ g.rest) parts in
    let place = same_place logs x a.above l _ is_l a.is_label last.parts in
    at a.above place.same_log place.same_regions a.place
  where
    at : (a : Node) → x.path ≡ a.path → regions_before logs x ≡ regions_before logs a → ((a ≡ y) × (g.next ∷ g.rest ≡ [])) ⊎ IsBelow logs a y.path → HappensBefore logs x y
    at a same number (inl here) = let never : g.next ∷ g.rest ≡ [] = here.1 in cc
    at a same number (inr below) =
        let region = below_region logs a y.path below in
        let after : a.index < x.index → regions_before logs a < regions_before logs x = regions_after logs a x region (sym same) in
        happens_before_trans logs x a y
        (program_order logs x a same (not_after a.index x.index _ _ after number) (there logs a Region region))
        (down logs a y.path below y refl y_there)

parts_before : (logs : Logs) (x y : Node) (l m : List Triple) → IsForkJoin logs → IsThere logs x → IsThere logs y → IsLabel logs x l → IsLabel logs y m → PartsAfter l m → HappensBefore logs x y
parts_before logs x y l m tree x_there y_there is_l is_m p =
    let a = ancestor logs x l is_l p.prefix p.mine p.my_rest p.my_parts in
    let b = ancestor logs y m is_m p.prefix p.yours p.your_rest p.your_parts in
    let a_x = place_under logs a.above x p.my_rest a.place in
    let b_y = place_under logs b.above y p.your_rest b.place in
    at a.above b.above a_x b_y (parting logs a.above b.above _ _ p.prefix p.mine p.yours a.is_label b.is_label refl refl p.before)
  where
    at : (a b : Node) → Under logs a x → Under logs b y → InOneTask logs a b ⊎ InOneTeam logs a b → HappensBefore logs x y
    at a b a_x b_y (inl task) =
        let up : b.index ≤ a.index → regions_before logs b ≤ regions_before logs a = regions_up logs b a (sym task.same_log) in
        task_before logs (tree_joined logs tree) a b x y a_x b_y x_there y_there task.same_log (not_later a.index b.index _ _ up task.fewer_regions)
    at a b a_x b_y (inr team) =
        team_before logs (tree_joined logs tree) team.fork a b x y team.my_lane team.your_lane team.span a_x b_y team.mine team.yours team.fewer_barriers
        (tree_level logs tree team.fork b team.my_lane team.your_lane team.span a.path team.mine team.yours) x_there y_there

-- an earlier label is that of a record that happens before
pub label_before_happens_before : (logs : Logs) (x y : Node) (l m : List Triple) → IsForkJoin logs → IsThere logs x → IsThere logs y → IsLabel logs x l → IsLabel logs y m
    → IsLabelBefore l m → HappensBefore logs x y
label_before_happens_before logs x y l m tree x_there y_there is_l is_m before = at (how_before l m before)
  where
    at : GoesOn l m ⊎ PartsAfter l m → HappensBefore logs x y
    at (inl g) = goes_on_before logs x y l m tree x_there y_there is_l is_m g
    at (inr p) = parts_before logs x y l m tree x_there y_there is_l is_m p

-- records of one label are in one log, and so ordered
pub same_label_same_log : (logs : Logs) (x y : Node) (l m : List Triple) → IsLabel logs x l → IsLabel logs y m → l ≡ m → x.path ≡ y.path
same_label_same_log logs x y l m is_l is_m e = let place = same_place logs x y l m is_l is_m e in place.same_log

pub same_label_ordered : (logs : Logs) (x y : Node) (l m : List Triple) → IsThere logs x → IsThere logs y → IsLabel logs x l → IsLabel logs y m → l ≡ m
    → HappensBefore logs x y ⊎ HappensBefore logs y x
same_label_ordered logs x y l m x_there y_there is_l is_m e = at (either x.index y.index)
  where
    same : x.path ≡ y.path
    same = same_label_same_log logs x y l m is_l is_m e

    either : (i j : ℕ) → (i ≤ j) ⊎ (j ≤ i)
    either i j = grind arith

    at : (x.index ≤ y.index) ⊎ (y.index ≤ x.index) → HappensBefore logs x y ⊎ HappensBefore logs y x
    at (inl le) = inl (program_order logs x y same le y_there)
    at (inr le) = inr (program_order logs y x (sym same) le x_there)

-- labels are concurrent exactly where nothing orders the records
pub concurrent_unordered : (logs : Logs) (x y : Node) (l m : List Triple) → IsForkJoin logs → IsThere logs x → IsThere logs y → IsLabel logs x l → IsLabel logs y m
    → IsConcurrent l m → IsUnordered logs x y
concurrent_unordered logs x y l m tree x_there y_there is_l is_m c = record {
  not_before = λ before. c.not_before (happens_before_label_before logs x y l m tree is_l is_m before c.different);
  not_after = λ after. c.not_after (happens_before_label_before logs y x m l tree is_m is_l after (λ e. c.different (sym e)));
}

pub unordered_concurrent : (logs : Logs) (x y : Node) (l m : List Triple) → IsForkJoin logs → IsThere logs x → IsThere logs y → IsLabel logs x l → IsLabel logs y m
    → IsUnordered logs x y → IsConcurrent l m
unordered_concurrent logs x y l m tree x_there y_there is_l is_m u = record {
  different = λ e. at (same_label_ordered logs x y l m x_there y_there is_l is_m e);
  not_before = λ before. u.not_before (label_before_happens_before logs x y l m tree x_there y_there is_l is_m before);
  not_after = λ after. u.not_after (label_before_happens_before logs y x m l tree y_there x_there is_m is_l after);
}
  where
    at : HappensBefore logs x y ⊎ HappensBefore logs y x → ⊥
    at (inl before) = u.not_before before
    at (inr after) = u.not_after after

-- what one label tells: the log, the regions and the barriers passed
pub same_label_regions : (logs : Logs) (x y : Node) (l m : List Triple) → IsLabel logs x l → IsLabel logs y m → l ≡ m → regions_before logs x ≡ regions_before logs y
same_label_regions logs x y l m is_l is_m e = let place = same_place logs x y l m is_l is_m e in place.same_regions

no_barriers : (logs : Logs) (x : Node) → IsForkJoin logs → x.path ≡ [] → barriers_before logs x ≡ 0
no_barriers logs x tree e =
    let total : barriers_before logs x ≤ barrier_count (logs x.path) = sum_by-take-le (λ r. cond (is_barrier_kind r.kind) 1 0) (logs x.path) x.index in
    let none_there : barrier_count (logs x.path) ≡ 0 = ap (λ (path : List Step). barrier_count (logs path)) e ∙ tree.ends.no_root_barrier in
    omega arith

last_barrier : (logs : Logs) (x : Node) (l prefix : List Triple) (t : Triple) → IsForkJoin logs → IsLabel logs x l → l ≡ prefix ++ t ∷ [] → barriers_before logs x ≡ t.barrier
last_barrier logs x _ prefix t tree (IsLabel.root x1 e) same = no_barriers logs x tree e ∙ ap (λ (u : Triple). u.barrier) (same_from_push [] prefix _ t same).1
last_barrier logs x _ prefix t tree (IsLabel.lane fork x1 n s above h up) same = ap (λ (u : Triple). u.barrier) (same_from_push above prefix (lane_triple logs x n s) t same).1

pub same_label_barriers : (logs : Logs) (x y : Node) (l m : List Triple) → IsForkJoin logs → IsLabel logs x l → IsLabel logs y m → l ≡ m → barriers_before logs x ≡ barriers_before logs y
same_label_barriers logs x y l m tree is_l is_m e =
    let last = label_last logs x l is_l in
    last_barrier logs x l last.prefix last.last tree is_l last.parts ∙ sym (last_barrier logs y m last.prefix last.last tree is_m (sym e ∙ last.parts))

pub same_label_from_place : (logs : Logs) (x y : Node) (l m : List Triple) → IsLabel logs x l → IsLabel logs y m
    → x.path ≡ y.path → regions_before logs x ≡ regions_before logs y → barriers_before logs x ≡ barriers_before logs y → l ≡ m
same_label_from_place logs x y _ m (IsLabel.root x1 e) is_m same regions barriers =
    ap (λ (r : ℕ). record { offset = r; span = 1; barrier = 0 } ∷ []) regions ∙ label_unique logs y _ m (IsLabel.root y (sym same ∙ e)) is_m
same_label_from_place logs x y _ m (IsLabel.lane fork x1 n s above h up) is_m same regions barriers =
    let equal : above ++ lane_triple logs x n s ∷ [] ≡ above ++ lane_triple logs y n s ∷ [] = cc in
    equal ∙ label_unique logs y _ m (IsLabel.lane fork y n s above (subst (λ (path : List Step). IsLane logs fork n s path) same h) up) is_m

-- happens-before is a partial order
pub happens_before_antisym : (logs : Logs) (x y : Node) → AreForked logs → IsThere logs x → IsThere logs y → HappensBefore logs x y → HappensBefore logs y x → x ≡ y
happens_before_antisym logs x y forks x_there y_there before after =
    let mine = label_forked logs x forks x_there in
    let yours = label_forked logs y forks y_there in
    at mine.label yours.label mine.is_label yours.is_label
    (happens_before_labels logs x y before forks mine.label yours.label mine.is_label yours.is_label)
    (happens_before_labels logs y x after forks yours.label mine.label yours.is_label mine.is_label)
  where
    at : (l m : List Triple) → IsLabel logs x l → IsLabel logs y m → AtMost x.index y.index l m → AtMost y.index x.index m l → x ≡ y
    at l m is_l is_m (inl e) (inl f) =
        let le : x.index ≤ y.index = e.1 in
        let ge : y.index ≤ x.index = f.1 in
        same_node x y (same_label_same_log logs x y l m is_l is_m e.0) (omega arith)
    at l m is_l is_m (inl e) (inr b) = absurd (label_not_before_itself m l (sym e.0) b)
    at l m is_l is_m (inr b) (inl f) = absurd (label_not_before_itself l m (sym f.0) b)
    at l m is_l is_m (inr b) (inr c) = absurd (label_not_before_itself l l refl (label_before_trans l m l b c))

-- in one log happens-before is the order of the log
pub happens_before_index : (logs : Logs) (x y : Node) → IsForkJoin logs → IsThere logs x → IsThere logs y → x.path ≡ y.path → HappensBefore logs x y → x.index ≤ y.index
happens_before_index logs x y tree x_there y_there same before =
    let back : y.index < x.index → x.index ≡ y.index = λ l. ap (λ (w : Node). w.index) (happens_before_antisym logs x y tree.tasks.forked x_there y_there before (program_order logs y x (sym same) (omega arith) x_there)) in
    not_above x.index y.index back
  where
    not_above : (i j : ℕ) → (j < i → i ≡ j) → i ≤ j
    not_above i j back = grind arith

-- happens-before by labels
pub happens_before_by_labels : (logs : Logs) (x y : Node) (l m : List Triple) → IsForkJoin logs → IsThere logs x → IsThere logs y → IsLabel logs x l → IsLabel logs y m
    → HappensBefore logs x y ↔ (IsLabelBefore l m ⊎ ((l ≡ m) × (x.index ≤ y.index)))
happens_before_by_labels logs x y l m tree x_there y_there is_l is_m = ((λ before. turn (happens_before_labels logs x y before tree.tasks.forked l m is_l is_m)), back)
  where
    turn : AtMost x.index y.index l m → IsLabelBefore l m ⊎ ((l ≡ m) × (x.index ≤ y.index))
    turn (inl same) = inr same
    turn (inr before) = inl before

    back : IsLabelBefore l m ⊎ ((l ≡ m) × (x.index ≤ y.index)) → HappensBefore logs x y
    back (inl before) = label_before_happens_before logs x y l m tree x_there y_there is_l is_m before
    back (inr same) = program_order logs x y (same_label_same_log logs x y l m is_l is_m same.0) same.1 y_there
