-- The labels of concurrent intervals have a region of the root and a barrier number in common.
use Rattle.std.proofs.Common.{◌≡◌, ◌≢◌, ℕ, zero, suc, List, [], ◌∷◌, sym, ◌∙◌, arith}
use Rattle.race_model.specs.Label.{Triple, IsConcurrent, IsLabel}
use Rattle.race_model.specs.Trace.{Logs, Node}
use Rattle.segment_groups.specs.Group.{ShareGroup, group_key, lane_at}
use Rattle.segment_groups.proofs.LabelGroups.{ArePartedAt, concurrent_parted, share_first}
use Rattle.segment_groups.proofs.LabelPaths.{spans_agree}
use Rattle.segment_groups.proofs.TreeGroups.{root_lane}
use Rattle.explain.specs.Suspects.{root_team}

same_barrier : (depth : ℕ) (u w : Triple) (l m : List Triple) → group_key depth (u ∷ l) ≡ group_key depth (w ∷ m) → u.barrier ≡ w.barrier
same_barrier zero u w l m same = let keys : u.span ∷ u.barrier ∷ [] ≡ w.span ∷ w.barrier ∷ [] = same in cc
same_barrier (suc depth) u w l m same = let keys : u.span ∷ u.barrier ∷ u.offset ∷ group_key depth l ≡ w.span ∷ w.barrier ∷ w.offset ∷ group_key depth m = same in cc

below_root : (depth : ℕ) (l m : List Triple) → ShareGroup (suc depth) l m → root_team l ≡ root_team m
below_root depth [] m share = absurd (let mine = share.mine in omega arith)
below_root depth (t ∷ []) m share = absurd (let mine = share.mine in omega arith)
below_root depth (t ∷ u ∷ l) [] share = absurd (let yours = share.yours in omega arith)
below_root depth (t ∷ u ∷ l) (v ∷ []) share = absurd (let yours = share.yours in omega arith)
below_root depth (t ∷ u ∷ l) (v ∷ w ∷ m) share =
    let one = share_first depth t v (u ∷ l) (w ∷ m) share in
    let barriers = same_barrier depth u w l m one.rest.same in
    λ i. ((one.first i).offset, barriers i)

pub same_team : (logs : Logs) (x y : Node) (l m : List Triple) → IsLabel logs x l → IsLabel logs y m → IsConcurrent l m → root_team l ≡ root_team m
same_team logs x y l m is_l is_m concurrent = go parted.depth parted.share parted.lanes
  where
    parted : ArePartedAt l m
    parted = concurrent_parted l m (spans_agree logs x y l m is_l is_m) concurrent

    go : (depth : ℕ) → ShareGroup depth l m → (lane_at depth l ≢ lane_at depth m) → root_team l ≡ root_team m
    go zero share differ = absurd (differ (root_lane logs x l is_l ∙ sym (root_lane logs y m is_m)))
    go (suc depth) share differ = below_root depth l m share
