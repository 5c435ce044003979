-- The label of a task's first record, from the labels of the forks of the tasks above.
use Rattle.std.proofs.Common.{◌≡◌, ℕ, ◌+◌, ◌*◌, ◌-◌, ◌<◌, ◌≤◌, List, [], ◌∷◌, ◌++◌, length, take, refl, sym, ap, subst, ◌∙◌, arith}
use Rattle.std.specs.Prelude.{slice_get}
use Rattle.std.specs.Global.{Vec}
use Rattle.std.proofs.lemmas.List.{same_from_push, length_push}
use Rattle.std.proofs.lemmas.Option.{same_Some, slice_get_within}
use Rattle.sw_base.specs.declared.path.Step.{Step}
use Rattle.race_model.specs.IndexFault.{IsStep}
use Rattle.race_model.specs.Label.{Triple, IsLabel}
use Rattle.race_model.specs.Order.{IsLane}
use Rattle.race_model.specs.Trace.{Logs, Node, regions_before}
use Rattle.race_model.specs.ForkJoin.{WasForked}
use Rattle.race_laws.proofs.LabelPlace.{is_region}
use Rattle.log_segment.specs.Stack.{HasFork, HasForks}
use Rattle.log_segment.specs.Walking.{AreForks, IsOwnAfter}
use Rattle.log_segment.proofs.OwnLevel.{own_last}

-- a label has one level more than its path
pub label_levels : (logs : Logs) (x : Node) (l : List Triple) → IsLabel logs x l → length l ≡ length x.path + 1
label_levels logs x _ (IsLabel.root x1 e) = let none : length x.path ≡ 0 = ap length e in omega arith
label_levels logs x _ (IsLabel.lane fork x1 n s above lane up) =
    let deeper : length x.path ≡ length fork.path + 1 = ap length lane.child ∙ length_push fork.path _ in
    let rest : length above ≡ length fork.path + 1 = label_levels logs fork above up in
    length_push above _ ∙ (let it : length above + 1 ≡ length x.path + 1 = omega arith in it)

-- where a step of the path above was forked
pub record Fork (logs : Logs) (above : List Step) (step : Step) (forks : List (Vec (List Triple))) : Type 0 where
  pub has : HasFork forks above step
  pub fork : Node
  pub lane : IsLane logs fork step.lane step.span (above ++ step ∷ [])
  pub is_label : IsLabel logs fork has.label

pub fork_there : (logs : Logs) (forks : List (Vec (List Triple))) (above : List Step) (step : Step) → WasForked logs above step → length (above ++ step ∷ []) ≤ 4
    → HasForks logs forks above (length above) → Fork logs above step forks
fork_there logs forks above step forked deep h = go forked
  where
    whole : take (length above) above ≡ above
    whole = take-all above where
      take-all : (xs : List Step) → take (length xs) xs ≡ xs
      take-all [] = refl
      take-all (x ∷ xs) = ap (λ (ys : List Step). x ∷ ys) (take-all xs)

    are : AreForks logs above (length (logs above)) h.labels.items
    are = subst (λ (p : List Step). AreForks logs p (length (logs p)) h.labels.items) whole h.are

    go : WasForked logs above step → Fork logs above step forks
    go f =
        let there : f.fork.index < length (logs above) = subst (λ (p : List Step). f.fork.index < length (logs p)) f.above (slice_get_within (logs f.fork.path) f.fork.index f.lane.event f.lane.found) in
        let kept = are.each f.fork f.above there (is_region logs f.fork step.lane step.span (above ++ step ∷ []) f.lane) in
        let both = same_from_push above f.fork.path step (record { region = regions_before logs f.fork; lane = step.lane; span = step.span }) f.lane.child in
        let region : step.region ≡ regions_before logs f.fork = ap (λ (s : Step). s.region) both.1 in
        let levels : length kept.label ≡ length f.fork.path + 1 = label_levels logs f.fork kept.label kept.is_label in
        let same : length f.fork.path ≡ length above = ap length f.above in
        let longer : length (above ++ step ∷ []) ≡ length above + 1 = length_push above step in
        record {
          has = record {
            labels = h.labels;
            row = h.row;
            label = kept.label;
            found = ap (λ (n : ℕ). slice_get h.labels.items n) region ∙ kept.kept;
            room = omega arith;
            in_team = f.lane.in_span;
          };
          fork = f.fork;
          lane = f.lane;
          is_label = kept.is_label;
        }

-- the first label of a lane
pub lane_first : (logs : Logs) (forks : List (Vec (List Triple))) (above : List Step) (step : Step) (result : List Triple) → IsStep step
    → (f : Fork logs above step forks) → result ≡ f.has.label ++ record { offset = step.lane; span = step.span; barrier = 0 } ∷ []
    → IsLabel logs (record { path = above ++ step ∷ []; index = 0 }) result × IsOwnAfter result 1
lane_first logs forks above step result is_step f e = (label, own)
  where
    none : step.lane + step.span * 0 ≡ step.lane
    none = omega arith

    label : IsLabel logs (record { path = above ++ step ∷ []; index = 0 }) result
    label = subst (λ (l : List Triple). IsLabel logs (record { path = above ++ step ∷ []; index = 0 }) l)
        ((λ i. let t : Triple = record { offset = none i; span = step.span; barrier = 0 } in f.has.label ++ t ∷ []) ∙ sym e)
        (IsLabel.lane f.fork (record { path = above ++ step ∷ []; index = 0 }) step.lane step.span f.has.label f.lane f.is_label)

    own : IsOwnAfter result 1
    own x found =
        let last : Triple = record { offset = step.lane; span = step.span; barrier = 0 } in
        let same : last ≡ x = same_Some last x (sym (own_last f.has.label last) ∙ (ap (λ (l : List Triple). slice_get l (length l - 1)) (sym e) ∙ found)) in
        let few : step.span ≤ 64 = is_step.span.limit in
        let in_team : step.lane < step.span = is_step.lane in
        subst (λ (t : Triple). (t.span ≤ 64) × (t.offset ≤ 64 * 1) × (t.barrier ≤ 1)) same (omega arith, omega arith, omega arith)

-- the first label of the root
pub root_first : (logs : Logs) (path : List Step) (result : List Triple) → path ≡ [] → result ≡ record { offset = 0; span = 1; barrier = 0 } ∷ []
    → IsLabel logs (record { path = path; index = 0 }) result × IsOwnAfter result 1
root_first logs path result root e = (label, own)
  where
    label : IsLabel logs (record { path = path; index = 0 }) result
    label = subst (λ (l : List Triple). IsLabel logs (record { path = path; index = 0 }) l) (sym e) (IsLabel.root (record { path = path; index = 0 }) root)

    own : IsOwnAfter result 1
    own x found =
        let last : Triple = record { offset = 0; span = 1; barrier = 0 } in
        let same : last ≡ x = same_Some last x (sym (own_last [] last) ∙ (ap (λ (l : List Triple). slice_get l (length l - 1)) (sym e) ∙ found)) in
        subst (λ (t : Triple). (t.span ≤ 64) × (t.offset ≤ 64 * 1) × (t.barrier ≤ 1)) same (omega arith, omega arith, omega arith)
