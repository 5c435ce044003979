-- What the groups of segments of one tree tell: concurrency, and the order of positions.
use Rattle.std.proofs.Common.{◌≡◌, ◌≢◌, inl, inr, ℕ, zero, suc, true, ◌+◌, ◌%◌, ◌<◌, ◌≤◌, List, [], ◌∷◌, ◌++◌, length, Some, refl, sym, ap, subst, ◌∙◌, arith, get_or}
use Rattle.std.specs.Prelude.{slice_get}
use Rattle.std.proofs.lemmas.Option.{slice_get_cases, get_or_from_slice_get}
use Rattle.sw_base.specs.declared.path.Step.{Step}
use Rattle.log_segment.specs.Intervals.{IsSegmentOf}
use Rattle.log_segment.specs.OneTree.{IsPathBefore, IsSegmentBefore, IsSegmentIn, StandInOneTree}
use Rattle.log_segment.specs.declared.segment.Segment.{Segment}
use Rattle.log_segment.proofs.Members.{In, from_contains, map_back, filter_back}
use Rattle.log_segment.proofs.Runs.{event_back, events_numbered, run_back, run_numbered, within_run}
use Rattle.race_model.specs.Label.{Triple, IsConcurrent, IsLabel, lane_triple}
use Rattle.race_model.specs.Segment.{Event, has_access, runs_of, events, last_number, segment_of}
use Rattle.race_model.specs.Trace.{Logs, Node}
use Rattle.segment_groups.specs.Group.{ShareGroup, label_at, label_of, lane_at}
use Rattle.segment_groups.specs.Level.{IsInLaterLane, IsMember, Labels, LanesAscend}
use Rattle.segment_groups.specs.Partners.{IsPartner}
use Rattle.segment_groups.proofs.LabelGroups.{ArePartedAt, apart_concurrent, concurrent_parted, share_first}
use Rattle.segment_groups.proofs.LabelPaths.{IsPathUpTo, lanes_up, path_of, spans_agree, told}

-- a record of the segment
record HasRecord (logs : Logs) (segment : Segment) : Type 0 where
  pub node : Node
  pub path : node.path ≡ segment.path
  pub label : IsLabel logs node segment.label

first_record : (logs : Logs) (segment : Segment) (run : List Event) → IsSegmentOf logs (segment_of segment.path run) segment → In run (runs_of (events (logs segment.path))) → has_access run ≡ true → HasRecord logs segment
first_record logs segment [] of listed access = cc
first_record logs segment (e ∷ es) of listed access =
    let numbered = run_numbered 1 (events (logs segment.path)) (e ∷ es) (events_numbered 1 [] (logs segment.path)) listed in
    let bounds = within_run (e ∷ es) e numbered (inl refl) in
    let at = event_back 1 [] (logs segment.path) e (run_back (events (logs segment.path)) (e ∷ es) e listed (inl refl)) in
    let number : e.number ≡ 1 + at.index = at.number in
    let first : segment.first ≡ e.number = of.first in
    let last : segment.last ≡ last_number (e ∷ es) = of.last in
    let most : e.number ≤ last_number (e ∷ es) = bounds.1 in
    record {
      node = record { path = segment.path; index = at.index };
      path = refl;
      label = of.label (record { path = segment.path; index = at.index }) refl (omega (arith, number, first)) (omega (arith, number, last, most));
    }

record_of : (logs : Logs) (segment : Segment) → IsSegmentIn logs segment → HasRecord logs segment
record_of logs segment h =
    let mapped = map_back (segment_of segment.path) h.interval _ (from_contains h.interval _ h.listed) in
    let kept = filter_back has_access mapped.from (runs_of (events (logs segment.path))) mapped.is_in in
    first_record logs segment mapped.from (subst (λ (m : _). IsSegmentOf logs m segment) (sym mapped.is) h.is) kept.0 kept.1

-- the segment at a position
record IsAt (segments : List Segment) (position : ℕ) : Type 0 where
  pub segment : Segment
  pub within : position < length segments
  pub found : slice_get segments position ≡ Some segment

segment_at : (segments : List Segment) (position : ℕ) → position < length segments → IsAt segments position
segment_at segments position within = elim (slice_get_cases segments position).1 [
  | inl there ↦ record { segment = there.0; within = within; found = there.2 }
  | inr past ↦ absurd (let beyond = past.0 in omega arith)
]

pub label_within : (segments : List Segment) (position : ℕ) → 0 < length (label_at segments position) → position < length segments
label_within segments position some = elim (slice_get_cases segments position).1 [
  | inl there ↦ there.1
  | inr past ↦ absurd (let none : length (label_at segments position) ≡ 0 = ap (λ (s : _). length (label_of s)) past.1 in omega arith)
]

module _ (segments : List Segment) (tree : StandInOneTree segments) where
  in_tree : (i : ℕ) (at : IsAt segments i) → HasRecord tree.logs at.segment
  in_tree i at = record_of tree.logs at.segment (subst (λ (s : Segment). IsSegmentIn tree.logs s) (get_or_from_slice_get segments i at.segment at.segment at.found) (tree.each i at.segment at.within))

  label_is : (i : ℕ) (at : IsAt segments i) → label_at segments i ≡ at.segment.label
  label_is i at = ap label_of at.found

  is_label : (i : ℕ) (at : IsAt segments i) → IsLabel tree.logs (in_tree i at).node (label_at segments i)
  is_label i at = subst (λ (l : List Triple). IsLabel tree.logs (in_tree i at).node l) (sym (label_is i at)) (in_tree i at).label

  path_is : (i : ℕ) (at : IsAt segments i) → at.segment.path ≡ path_of (label_at segments i)
  path_is i at = sym (in_tree i at).path ∙ (told tree.logs (in_tree i at).node (label_at segments i) (is_label i at)).path

  paths_up : (i j : ℕ) (at : IsAt segments i) (other : IsAt segments j) → i < j → IsPathUpTo (path_of (label_at segments i)) (path_of (label_at segments j))
  paths_up i j at other less = go (subst (λ (s : Segment). IsSegmentBefore s other.segment) (get_or_from_slice_get segments i at.segment at.segment at.found)
      (subst (λ (s : Segment). IsSegmentBefore (get_or segments i at.segment) s) (get_or_from_slice_get segments j other.segment at.segment other.found) (tree.ordered i j at.segment less other.within)))
    where
      go : IsSegmentBefore at.segment other.segment → IsPathUpTo (path_of (label_at segments i)) (path_of (label_at segments j))
      go (IsSegmentBefore.row before) = inl (subst (λ (p : List Step). IsPathBefore p (path_of (label_at segments j))) (path_is i at) (subst (λ (p : List Step). IsPathBefore at.segment.path p) (path_is j other) before))
      go (IsSegmentBefore.number same less) = inr (sym (path_is i at) ∙ same ∙ path_is j other)

  pub lanes_ascend : (depth : ℕ) → 0 < depth → LanesAscend depth (label_at segments)
  lanes_ascend zero some i j member = absurd (omega arith)
  lanes_ascend (suc depth) some i j member =
      let mine = member.group.mine in
      let yours = member.group.yours in
      lanes_up depth (label_at segments i) (label_at segments j)
      (paths_up i j (segment_at segments i (label_within segments i (omega arith))) (segment_at segments j (label_within segments j (omega arith))) member.later) member.group

-- the root's level is first in each label
record HasRoot (label : List Triple) : Type 0 where
  pub first : Triple
  pub rest : List Triple
  pub parts : label ≡ first ∷ rest
  pub alone : first.span ≡ 1

root_of : (logs : Logs) (x : Node) (label : List Triple) → IsLabel logs x label → HasRoot label
root_of logs x _ (IsLabel.root x1 e) = record { first = _; rest = []; parts = refl; alone = refl }
root_of logs x _ (IsLabel.lane fork x1 n s above h up) =
    let root = root_of logs fork above up in
    record { first = root.first; rest = root.rest ++ lane_triple logs x n s ∷ []; parts = ap (λ (l : List Triple). l ++ lane_triple logs x n s ∷ []) root.parts; alone = root.alone }

pub root_lane : (logs : Logs) (x : Node) (label : List Triple) → IsLabel logs x label → lane_at 0 label ≡ 0
root_lane logs x label is = ap (lane_at 0) root.parts ∙ (λ i. root.first.offset % root.alone i) ∙ one root.first.offset
  where
    root : HasRoot label
    root = root_of logs x label is

    one : (n : ℕ) → n % 1 ≡ 0
    one n = omega arith

pub later_concurrent : (depth : ℕ) (labels : Labels) (i j : ℕ) → IsInLaterLane depth labels i j → IsConcurrent (labels i) (labels j)
later_concurrent depth labels i j later = apart_concurrent depth (labels i) (labels j) later.member.group (λ same. let lane = later.lane in omega arith)

-- the depth at which a segment is in a later lane
pub record IsLaterAtSome (labels : Labels) (i j : ℕ) : Type 0 where
  pub depth : ℕ
  pub below_root : 0 < depth
  pub later : IsInLaterLane depth labels i j

pub partner_later : (segments : List Segment) → StandInOneTree segments → (i j : ℕ) → IsPartner segments i j → IsLaterAtSome (label_at segments) i j
partner_later segments tree i j partner = go parted.depth parted.share parted.lanes
  where
    mine : IsAt segments i
    mine = segment_at segments i (let within = partner.within in let less = partner.later in omega arith)

    yours : IsAt segments j
    yours = segment_at segments j partner.within

    parted : ArePartedAt (label_at segments i) (label_at segments j)
    parted = concurrent_parted (label_at segments i) (label_at segments j)
        (spans_agree tree.logs _ _ (label_at segments i) (label_at segments j) (is_label segments tree i mine) (is_label segments tree j yours)) partner.concurrent

    strictly : (m n : ℕ) → m ≤ n → (m ≢ n) → m < n
    strictly m n le differ = grind arith

    go : (depth : ℕ) → ShareGroup depth (label_at segments i) (label_at segments j) → (lane_at depth (label_at segments i) ≢ lane_at depth (label_at segments j)) → IsLaterAtSome (label_at segments) i j
    go zero share differ = absurd (differ (root_lane tree.logs _ _ (is_label segments tree i mine) ∙ sym (root_lane tree.logs _ _ (is_label segments tree j yours))))
    go (suc depth) share differ =
        let member : IsMember (suc depth) (label_at segments) i j = record { later = partner.later; group = share } in
        record {
          depth = suc depth;
          below_root = omega arith;
          later = record { member = member; lane = strictly _ _ (lanes_ascend segments tree (suc depth) (omega arith) i j member) differ };
        }

-- who shares a group shares those above, and the lanes there
record ShareLane (depth : ℕ) (l m : List Triple) : Type 0 where
  pub share : ShareGroup depth l m
  pub lane : lane_at depth l ≡ lane_at depth m

share_above : (depth more : ℕ) (l m : List Triple) → depth < more → ShareGroup more l m → ShareLane depth l m
share_above depth zero l m less share = absurd (omega arith)
share_above depth (suc more) [] m less share = absurd (let mine = share.mine in omega arith)
share_above depth (suc more) (t ∷ l) [] less share = absurd (let yours = share.yours in omega arith)
share_above zero (suc more) (t ∷ l) (u ∷ m) less share =
    let first = (share_first more t u l m share).first in
    record { share = record { mine = omega arith; yours = omega arith; same = ap (λ (v : Triple). v.span ∷ v.barrier ∷ []) first }; lane = ap (λ (v : Triple). v.offset % v.span) first }
share_above (suc depth) (suc more) (t ∷ l) (u ∷ m) less share =
    let one = share_first more t u l m share in
    let below = share_above depth more l m (omega arith) one.rest in
    let mine = below.share.mine in
    let yours = below.share.yours in
    record {
      share = record { mine = omega arith; yours = omega arith; same = λ i. (one.first i).span ∷ (one.first i).barrier ∷ (one.first i).offset ∷ below.share.same i };
      lane = below.lane;
    }

-- the partners at a greater depth stand first
pub deeper_first : (labels : Labels) (depth more : ℕ) (at j k : ℕ) → LanesAscend depth labels → depth < more → IsInLaterLane more labels at j → IsInLaterLane depth labels at k → j < k
deeper_first labels depth more at j k ascend less deep shallow = order (lane_at depth (labels j)) (lane_at depth (labels k)) j k same_end not_above below
  where
    order : (a b m n : ℕ) → (n ≡ m → b ≡ a) → (n < m → b ≤ a) → a < b → m < n
    order a b m n same up lane = grind arith

    with_j : ShareLane depth (labels at) (labels j)
    with_j = share_above depth more (labels at) (labels j) less deep.member.group

    below : lane_at depth (labels j) < lane_at depth (labels k)
    below = let same = with_j.lane in let lane = shallow.lane in omega arith

    same_end : k ≡ j → lane_at depth (labels k) ≡ lane_at depth (labels j)
    same_end e = ap (λ (n : ℕ). lane_at depth (labels n)) e

    not_above : k < j → lane_at depth (labels k) ≤ lane_at depth (labels j)
    not_above above = ascend k j (record {
      later = above;
      group = record { mine = shallow.member.group.yours; yours = with_j.share.yours; same = sym shallow.member.group.same ∙ with_j.share.same };
    })
