-- Paths tell where two records part, and which Region record a record hangs at.
use Rattle.std.proofs.Common.{◌≡◌, ◌⊎◌, ℕ, suc, ◌+◌, List, [], ◌∷◌, ◌++◌, length, take, drop, Some, refl, sym, ap, subst, arith, ◌∙◌, inl, inr, append_assoc, append-nil, length-append, length-take}
use Rattle.std.specs.Prelude.{slice_get, min}
use Rattle.std.proofs.lemmas.Option.{slice_get_within}
use Rattle.std.proofs.Math.Seq.{take-append_seam}
use Rattle.std.proofs.lemmas.List.{same_from_push, append_cancel_left}
use Rattle.sw_base.specs.declared.path.Step.{Step}
use Rattle.sw_base.proofs.Lists.{get_seam}
use Rattle.log_format.specs.declared.record.Kind.TheVariants.{Region}
use Rattle.race_model.specs.Trace.{Logs, Node, IsThere, HasKind, regions_before, barriers_before}
use Rattle.race_model.specs.Order.{IsLane}
use Rattle.race_model.specs.Race.{IsUnordered}
use Rattle.race_model.specs.ForkJoin.{IsForkJoin}
use Rattle.race_laws.proofs.FolderRules.{parted}
use Rattle.race_laws.proofs.LabelPlace.{is_region, same_region}
use Rattle.race_laws.proofs.Reaching.{above_there}
use Rattle.counted_order.specs.Counting.{IsAbove, StandInTeam, AreBetweenBarriers}
use Rattle.counted_order.specs.Parting.{PartBetweenBarriers}
use Rattle.counted_order.proofs.Above.{HangsFrom, split}
use Rattle.counted_order.proofs.Between.{between_unordered}
use Rattle.counted_order.proofs.Parted.{forked, Level, level, unordered_between}
use Rattle.counted_order.proofs.Reaching.{under}

-- two beginnings of one list that are as long are the same
pub same_front : {X : Type 0} (xs ys more other : List X) → xs ++ more ≡ ys ++ other → length xs ≡ length ys → xs ≡ ys
same_front xs ys more other e long =
    sym (take-append_seam xs more) ∙ (ap (λ l. take (length xs) l) e ∙ (ap (λ n. take n (ys ++ other)) long ∙ take-append_seam ys other))

pub same_head : {X : Type 0} (x y : X) (xs ys : List X) → x ∷ xs ≡ y ∷ ys → x ≡ y
same_head x y xs ys e = cc

pub length_front : {X : Type 0} (xs : List X) (k : ℕ) (x : X) → slice_get xs k ≡ Some x → length (take k xs) ≡ k
length_front xs k x found = let within = slice_get_within xs k x found in length-take k xs ∙ (let e : min k (length xs) ≡ k = omega arith in e)

-- the step into a lane of a region
abbrev step_to : Logs → Node → ℕ → ℕ → Step
step_to logs fork n s = record { region = regions_before logs fork; lane = n; span = s }

-- the path of a record goes on from that of one above
pub record GoesOn (path more : List Step) : Type 0 where
  pub rest : List Step
  pub parts : more ≡ path ++ rest

pub goes_on : (logs : Logs) (a x : Node) → IsAbove logs a x → GoesOn a.path x.path
goes_on logs _ _ (IsAbove.itself x) = record { rest = []; parts = sym (append-nil x.path) }
goes_on logs _ _ (IsAbove.lane a fork x n s lane up) =
    let r = goes_on logs a fork up in
    record { rest = r.rest ++ step_to logs fork n s ∷ []; parts = lane.child ∙ (ap (λ (p : List Step). p ++ step_to logs fork n s ∷ []) r.parts ∙ append_assoc a.path r.rest (step_to logs fork n s ∷ [])) }

-- and its next step is that of the region
pub record HangsAt (logs : Logs) (a x : Node) : Type 0 where
  pub step : Step
  pub rest : List Step
  pub parts : x.path ≡ a.path ++ step ∷ rest
  pub number : step.region ≡ regions_before logs a
  pub region : HasKind logs a Region

pub hangs_path : (logs : Logs) (a fork x : Node) (n s : ℕ) → IsLane logs fork n s x.path → IsAbove logs a fork → HangsAt logs a x
hangs_path logs _ _ x n s lane (IsAbove.itself fork) =
    record { step = step_to logs fork n s; rest = []; parts = lane.child; number = refl; region = is_region logs fork n s x.path lane }
hangs_path logs _ _ x n s lane (IsAbove.lane a f fork m t upper up) =
    let r = hangs_path logs a f fork m t upper up in
    record {
      step = r.step;
      rest = r.rest ++ step_to logs fork n s ∷ [];
      parts = lane.child ∙ (ap (λ (p : List Step). p ++ step_to logs fork n s ∷ []) r.parts ∙ append_assoc a.path (r.step ∷ r.rest) (step_to logs fork n s ∷ []));
      number = r.number;
      region = r.region;
    }

-- the Region record of this number in a task above is above
pub region_above : (logs : Logs) (a x : Node) (step : Step) (rest : List Step) → IsForkJoin logs → IsThere logs x → x.path ≡ a.path ++ step ∷ rest
    → HasKind logs a Region → regions_before logs a ≡ step.region → IsAbove logs a x
region_above logs a x step rest tree here parts region number = at (level logs tree.tasks.forked (suc (length rest)) x (length a.path) long here)
  where
    long : length x.path ≡ length a.path + suc (length rest)
    long = ap length parts ∙ length-append a.path (step ∷ rest)

    at : Level logs x (length a.path) → IsAbove logs a x
    at l = by (split logs l.above x l.part)
      where
        by : (l.above ≡ x) ⊎ HangsFrom logs l.above x → IsAbove logs a x
        by (inl e) = absurd (let same : length l.above.path ≡ length x.path = ap (λ (w : Node). length w.path) e in let deep = l.deep in omega (arith, long))
        by (inr h) =
            let r = hangs_path logs l.above h.fork x h.number h.span h.lane h.part in
            let paths : l.above.path ≡ a.path = same_front l.above.path a.path (r.step ∷ r.rest) (step ∷ rest) (sym r.parts ∙ parts) l.deep in
            let tails : r.step ∷ r.rest ≡ step ∷ rest = append_cancel_left a.path (r.step ∷ r.rest) (step ∷ rest)
            (ap (λ (p : List Step). p ++ r.step ∷ r.rest) (sym paths) ∙ (sym r.parts ∙ parts)) in
            let steps : r.step ≡ step = same_head r.step step r.rest rest tails in
            let numbers : regions_before logs l.above ≡ regions_before logs a = sym r.number ∙ (ap (λ (w : Step). w.region) steps ∙ sym number) in
            subst (λ (w : Node). IsAbove logs w x) (same_region logs l.above a r.region region paths numbers) l.part

module _ (logs : Logs) (x y : Node) (tree : IsForkJoin logs) (x_there : IsThere logs x) (y_there : IsThere logs y) where
  between_parts : AreBetweenBarriers logs x y → PartBetweenBarriers logs x y
  between_parts u = at u.team refl u.two_lanes u.as_many
    where
      my_path : (t : StandInTeam logs x y) (on : GoesOn t.mine.path x.path) → x.path ≡ t.fork.path ++ step_to logs t.fork t.my_lane t.span ∷ on.rest
      my_path t on = on.parts ∙ (ap (λ (p : List Step). p ++ on.rest) t.my_team.child ∙ append_assoc t.fork.path (step_to logs t.fork t.my_lane t.span ∷ []) on.rest)

      your_path : (t : StandInTeam logs x y) (on : GoesOn t.yours.path y.path) → y.path ≡ t.fork.path ++ step_to logs t.fork t.your_lane t.span ∷ on.rest
      your_path t on = on.parts ∙ (ap (λ (p : List Step). p ++ on.rest) t.your_team.child ∙ append_assoc t.fork.path (step_to logs t.fork t.your_lane t.span ∷ []) on.rest)

      at : (t : StandInTeam logs x y) → u.team ≡ t → (t.my_lane ≡ t.your_lane → ⊥) → barriers_before logs t.mine ≡ barriers_before logs t.yours → PartBetweenBarriers logs x y
      at t _ apart as_many =
          let mine = goes_on logs t.mine x t.my_part in
          let yours = goes_on logs t.yours y t.your_part in
          record {
            level = length t.fork.path;
            barriers = barriers_before logs t.mine;
            parts = record {
              step = step_to logs t.fork t.my_lane t.span;
              beside = step_to logs t.fork t.your_lane t.span;
              mine = ap (λ (p : List Step). slice_get p (length t.fork.path)) (my_path t mine) ∙ get_seam t.fork.path (step_to logs t.fork t.my_lane t.span) mine.rest;
              yours = ap (λ (p : List Step). slice_get p (length t.fork.path)) (your_path t yours) ∙ get_seam t.fork.path (step_to logs t.fork t.your_lane t.span) yours.rest;
              shared = (ap (take (length t.fork.path)) (my_path t mine) ∙ take-append_seam t.fork.path (step_to logs t.fork t.my_lane t.span ∷ mine.rest))
                  ∙ sym (ap (take (length t.fork.path)) (your_path t yours) ∙ take-append_seam t.fork.path (step_to logs t.fork t.your_lane t.span ∷ yours.rest));
              same_region = refl;
              two_lanes = apart;
            };
            mine = record { above = t.mine; part = t.my_part; deep = ap length t.my_team.child ∙ length-append t.fork.path (step_to logs t.fork t.my_lane t.span ∷ []); passed = refl };
            yours = record { above = t.yours; part = t.your_part; deep = ap length t.your_team.child ∙ length-append t.fork.path (step_to logs t.fork t.your_lane t.span ∷ []); passed = sym as_many };
          }

  -- the lane of a record at the level where its path goes on by a step
  record InLane (w : Node) (above : List Step) (step : Step) : Type 0 where
    fork : Node
    path_is : fork.path ≡ above
    span : ℕ
    lane : IsLane logs fork step.lane span w.path
    number : regions_before logs fork ≡ step.region

  in_lane : (w z : Node) (above : List Step) (step : Step) (rest : List Step) → IsThere logs w → IsAbove logs w z → length w.path ≡ length above + 1
      → z.path ≡ above ++ step ∷ rest → InLane w above step
  in_lane w z above step rest here up deep parts =
      let on = goes_on logs w z up in
      let path : w.path ≡ above ++ step ∷ [] =
      same_front w.path (above ++ step ∷ []) on.rest rest (sym on.parts ∙ (parts ∙ sym (append_assoc above (step ∷ []) rest))) (deep ∙ sym (length-append above (step ∷ []))) in
      let f = forked logs w tree.tasks.forked here (omega (arith, deep)) in
      let both = same_from_push f.fork.path above (step_to logs f.fork f.number f.span) step (sym f.lane.child ∙ path) in
      record {
        fork = f.fork;
        path_is = both.0;
        span = f.span;
        lane = subst (λ (n : ℕ). IsLane logs f.fork n f.span w.path) (ap (λ (s : Step). s.lane) both.1) f.lane;
        number = ap (λ (s : Step). s.region) both.1;
      }

  parts_between : PartBetweenBarriers logs x y → AreBetweenBarriers logs x y
  parts_between p =
      let parts = p.parts in
      let mine = p.mine in
      let yours = p.yours in
      let a = in_lane mine.above x (take p.level x.path) parts.step (drop (suc p.level) x.path) (above_there logs mine.above x (under logs mine.above x mine.part) x_there) mine.part
      (mine.deep ∙ ap (λ n. n + 1) (sym (length_front x.path p.level parts.step parts.mine))) (parted x.path p.level parts.step parts.mine) in
      let b = in_lane yours.above y (take p.level y.path) parts.beside (drop (suc p.level) y.path) (above_there logs yours.above y (under logs yours.above y yours.part) y_there) yours.part
      (yours.deep ∙ ap (λ n. n + 1) (sym (length_front y.path p.level parts.beside parts.yours))) (parted y.path p.level parts.beside parts.yours) in
      let forks : a.fork ≡ b.fork = same_region logs a.fork b.fork (is_region logs a.fork parts.step.lane a.span mine.above.path a.lane)
      (is_region logs b.fork parts.beside.lane b.span yours.above.path b.lane) (a.path_is ∙ (parts.shared ∙ sym b.path_is)) (a.number ∙ (parts.same_region ∙ sym b.number)) in
      let other : IsLane logs a.fork parts.beside.lane b.span yours.above.path = subst (λ (f : Node). IsLane logs f parts.beside.lane b.span yours.above.path) (sym forks) b.lane in
      record {
        team = record {
          fork = a.fork;
          span = a.span;
          my_lane = parts.step.lane;
          your_lane = parts.beside.lane;
          mine = mine.above;
          yours = yours.above;
          my_part = mine.part;
          your_part = yours.part;
          my_team = a.lane;
          your_team = one_span a.fork parts.step.lane a.span parts.beside.lane b.span mine.above.path yours.above.path a.lane other;
        };
        two_lanes = parts.two_lanes;
        as_many = mine.passed ∙ sym yours.passed;
      }
    where
      one_span : (fork : Node) (n s m t : ℕ) (path beside : List Step) → IsLane logs fork n s path → IsLane logs fork m t beside → IsLane logs fork m s beside
      one_span fork n s m t path beside h k =
          let h_found = h.found in
          let k_found = k.found in
          let h_spans = h.spans in
          let k_spans = k.spans in
          let spans : t ≡ s = cc in
          subst (λ (w : ℕ). IsLane logs fork m w beside) spans k

  pub unordered_parts : IsUnordered logs x y → PartBetweenBarriers logs x y
  unordered_parts u = between_parts (unordered_between logs x y tree x_there y_there u)

  pub parts_unordered : PartBetweenBarriers logs x y → IsUnordered logs x y
  parts_unordered p = between_unordered logs x y (parts_between p)
