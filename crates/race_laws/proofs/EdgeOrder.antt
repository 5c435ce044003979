-- What happens before has an earlier label or the same one: along each edge a label stays or goes up.
use Rattle.std.proofs.Common.{◌≡◌, ◌⊎◌, ℕ, ◌+◌, ◌*◌, ◌<◌, ◌≤◌, ◌%◌, List, [], ◌∷◌, ◌++◌, refl, sym, ap, subst, arith, ◌∙◌, inl, inr, append_assoc}
use Rattle.sw_base.specs.declared.path.Step.{Step}
use Rattle.log_format.specs.declared.record.Kind.TheVariants.{Region}
use Rattle.race_model.specs.Trace.{Logs, Node, regions_before, barriers_before}
use Rattle.race_model.specs.Order.{IsLane, IsNext, IsForkEdge, IsJoinEdge, IsBarrierEdge, Edge, HappensBefore}
use Rattle.race_model.specs.Label.{Triple, IsTripleBefore, IsLabel, IsLabelBefore, lane_triple}
use Rattle.race_model.specs.ForkJoin.{IsForkJoin}
use Rattle.race_laws.proofs.Counts.{regions_up, regions_after, barriers_up, barriers_after, there}
use Rattle.race_laws.proofs.LabelOrder.{not_earlier, label_before_below, label_before_longer, label_before_trans}
use Rattle.race_laws.proofs.LabelPlace.{AreForked, is_region, label_unique, label_forked, offset_residue, offset_up}

-- the label is before, or the same and the place in the log isn't later
abbrev pub AtMost : ℕ → ℕ → List Triple → List Triple → Type 0
AtMost i j x y = ((x ≡ y) × (i ≤ j)) ⊎ IsLabelBefore x y

at_most_trans : (i j k : ℕ) (x y z : List Triple) → AtMost i j x y → AtMost j k y z → AtMost i k x z
at_most_trans i j k x y z (inl e) (inl f) = let le : i ≤ j = e.1 in let also : j ≤ k = f.1 in inl (e.0 ∙ f.0, omega arith)
at_most_trans i j k x y z (inl e) (inr before) = inr (subst (λ (w : List Triple). IsLabelBefore w z) (sym e.0) before)
at_most_trans i j k x y z (inr before) (inl e) = inr (subst (λ (w : List Triple). IsLabelBefore x w) e.0 before)
at_most_trans i j k x y z (inr before) (inr after) = inr (label_before_trans x y z before after)

-- labels that part at their last triple, or earlier
parts_here : (prefix : List Triple) (t u : Triple) (ts us : List Triple) → IsTripleBefore t u → IsLabelBefore (prefix ++ t ∷ ts) (prefix ++ u ∷ us)
parts_here prefix t u ts us before =
    label_before_below prefix (t ∷ ts) (u ∷ us) (IsLabelBefore.differ t u ts us (λ e. not_earlier t u e before.earlier) before)

le_cases : (a b : ℕ) → a ≤ b → (a < b) ⊎ (a ≡ b)
le_cases a b h = grind arith

offset_le : (n s a b : ℕ) → n < s → a ≤ b → n + s * a ≤ n + s * b
offset_le n s a b h l = grind arith

abbrev triple : ℕ → ℕ → ℕ → Triple
triple offset span barrier = record { offset = offset; span = span; barrier = barrier }

triple_before : (s o p b c : ℕ) → o % s ≡ p % s → b ≤ c → o < p → IsTripleBefore (triple o s b) (triple p s c)
triple_before s o p b c residue barriers offsets = record { same_span = refl; earlier = at (le_cases b c barriers) }
  where
    at : (b < c) ⊎ (b ≡ c) → (b < c) ⊎ ((b ≡ c) × (o < p) × (o % s ≡ p % s))
    at (inl l) = inl l
    at (inr e) = inr (e, offsets, residue)

triple_at_most : (s o p b c : ℕ) → o % s ≡ p % s → b ≤ c → o ≤ p → (triple o s b ≡ triple p s c) ⊎ IsTripleBefore (triple o s b) (triple p s c)
triple_at_most s o p b c residue barriers offsets = at (le_cases o p offsets) (le_cases b c barriers)
  where
    at : (o < p) ⊎ (o ≡ p) → (b < c) ⊎ (b ≡ c) → (triple o s b ≡ triple p s c) ⊎ IsTripleBefore (triple o s b) (triple p s c)
    at (inl l) b_c = inr (triple_before s o p b c residue barriers l)
    at (inr e) (inl l) = inr (record { same_span = refl; earlier = inl l })
    at (inr e) (inr f) = inl cc

-- the labels of two records of one log differ in their last triples alone
record SameLog (logs : Logs) (x y : Node) : Type 0 where
  prefix : List Triple
  mine : Triple
  yours : Triple
  my_label : IsLabel logs x (prefix ++ mine ∷ [])
  your_label : IsLabel logs y (prefix ++ yours ∷ [])
  at_most : (mine ≡ yours) ⊎ IsTripleBefore mine yours
  strict : regions_before logs x < regions_before logs y → IsTripleBefore mine yours

same_log : (logs : Logs) (x y : Node) (l : List Triple) → IsLabel logs x l → x.path ≡ y.path → x.index ≤ y.index → SameLog logs x y
same_log logs x y _ (IsLabel.root x1 e) same le = record {
  prefix = [];
  mine = triple (regions_before logs x) 1 0;
  yours = triple (regions_before logs y) 1 0;
  my_label = IsLabel.root x e;
  your_label = IsLabel.root y (sym same ∙ e);
  at_most = triple_at_most 1 (regions_before logs x) (regions_before logs y) 0 0 (omega arith) (omega arith) (regions_up logs x y same le);
  strict = λ l. triple_before 1 (regions_before logs x) (regions_before logs y) 0 0 (omega arith) (omega arith) l;
}
same_log logs x y _ (IsLabel.lane fork x1 n s above h up) same le =
    let residue : (n + s * regions_before logs x) % s ≡ (n + s * regions_before logs y) % s =
    offset_residue n s (regions_before logs x) h.in_span ∙ sym (offset_residue n s (regions_before logs y) h.in_span) in
    let barriers = barriers_up logs x y same le in
    record {
      prefix = above;
      mine = lane_triple logs x n s;
      yours = lane_triple logs y n s;
      my_label = IsLabel.lane fork x n s above h up;
      your_label = IsLabel.lane fork y n s above (subst (λ (path : List Step). IsLane logs fork n s path) same h) up;
      at_most = triple_at_most s _ _ _ _ residue barriers (offset_le n s (regions_before logs x) (regions_before logs y) h.in_span (regions_up logs x y same le));
      strict = λ l. triple_before s _ _ _ _ residue barriers (offset_up n s (regions_before logs x) (regions_before logs y) h.in_span l);
    }

record NewLabel (logs : Logs) (x y : Node) (l : List Triple) : Type 0 where
  label : List Triple
  is_label : IsLabel logs y label
  at_most : AtMost x.index y.index l label

from_same_log : (logs : Logs) (x y : Node) → SameLog logs x y → x.index ≤ y.index → (l : List Triple) → IsLabel logs x l → NewLabel logs x y l
from_same_log logs x y s le l is_l = record {
  label = s.prefix ++ s.yours ∷ [];
  is_label = s.your_label;
  at_most = subst (λ (w : List Triple). AtMost x.index y.index w (s.prefix ++ s.yours ∷ [])) (label_unique logs x _ l s.my_label is_l) (at s.at_most);
}
  where
    at : (s.mine ≡ s.yours) ⊎ IsTripleBefore s.mine s.yours → AtMost x.index y.index (s.prefix ++ s.mine ∷ []) (s.prefix ++ s.yours ∷ [])
    at (inl e) = inl (ap (λ (t : Triple). s.prefix ++ t ∷ []) e, le)
    at (inr before) = inr (parts_here s.prefix s.mine s.yours [] [] before)

along_next : (logs : Logs) (x y : Node) (l : List Triple) → IsNext x y → IsLabel logs x l → NewLabel logs x y l
along_next logs x y l next is_l = from_same_log logs x y (same_log logs x y l is_l (sym next.same_log) (omega arith)) (omega arith) l is_l

along_fork : (logs : Logs) (x y : Node) (l : List Triple) → IsForkEdge logs x y → IsLabel logs x l → NewLabel logs x y l
along_fork logs x y l fork is_l = record {
  label = l ++ lane_triple logs y fork.lane fork.span ∷ [];
  is_label = IsLabel.lane x y fork.lane fork.span l fork.forked is_l;
  at_most = inr (label_before_longer l (lane_triple logs y fork.lane fork.span) []);
}

along_join : (logs : Logs) (x y : Node) (l : List Triple) → AreForked logs → IsJoinEdge logs x y → IsLabel logs x l → NewLabel logs x y l
along_join logs x y l forks join is_l =
    let region = is_region logs join.fork join.lane join.span x.path join.forked in
    let up = label_forked logs join.fork forks (there logs join.fork Region region) in
    let next = join.after in
    let s = same_log logs join.fork y up.label up.is_label (sym next.same_log) (omega arith) in
    let more = regions_after logs join.fork y region (sym next.same_log) (omega arith) in
    let last = lane_triple logs x join.lane join.span in
    let mine : l ≡ (s.prefix ++ s.mine ∷ []) ++ last ∷ [] = label_unique logs x _ _ is_l (IsLabel.lane join.fork x join.lane join.span _ join.forked s.my_label) in
    record {
      label = s.prefix ++ s.yours ∷ [];
      is_label = s.your_label;
      at_most = inr (subst (λ (w : List Triple). IsLabelBefore w (s.prefix ++ s.yours ∷ [])) (sym (mine ∙ append_assoc s.prefix (s.mine ∷ []) (last ∷ [])))
          (parts_here s.prefix s.mine s.yours (last ∷ []) [] (s.strict more)));
    }

along_barrier : (logs : Logs) (x y : Node) (l : List Triple) → AreForked logs → IsBarrierEdge logs x y → IsLabel logs x l → NewLabel logs x y l
along_barrier logs x y l forks b is_l =
    let up = label_forked logs b.fork forks (there logs b.fork Region (is_region logs b.fork b.from_lane b.span x.path b.from_team)) in
    let met = b.met in
    let next = b.after in
    let more : barriers_before logs met < barriers_before logs y = barriers_after logs met y b.meets (sym next.same_log) (omega arith) in
    let number : barriers_before logs x ≡ barriers_before logs met = b.same_number in
    let mine : l ≡ up.label ++ lane_triple logs x b.from_lane b.span ∷ [] = label_unique logs x _ _ is_l (IsLabel.lane b.fork x b.from_lane b.span up.label b.from_team up.is_label) in
    record {
      label = up.label ++ lane_triple logs y b.to_lane b.span ∷ [];
      is_label = IsLabel.lane b.fork y b.to_lane b.span up.label (subst (λ (path : List Step). IsLane logs b.fork b.to_lane b.span path) (sym next.same_log) b.to_team) up.is_label;
      at_most = inr (subst (λ (w : List Triple). IsLabelBefore w (up.label ++ lane_triple logs y b.to_lane b.span ∷ [])) (sym mine)
          (parts_here up.label _ _ [] [] (record { same_span = refl; earlier = inl (omega arith) })));
    }

along : (logs : Logs) (x y : Node) (l : List Triple) → AreForked logs → Edge logs x y → IsLabel logs x l → NewLabel logs x y l
along logs x y l forks (Edge.next e) is_l = along_next logs x y l e is_l
along logs x y l forks (Edge.fork e) is_l = along_fork logs x y l e is_l
along logs x y l forks (Edge.join e) is_l = along_join logs x y l forks e is_l
along logs x y l forks (Edge.barrier e) is_l = along_barrier logs x y l forks e is_l

-- what happens before has an earlier label, or the same and isn't later in the log
pub happens_before_labels : (logs : Logs) (x y : Node) → HappensBefore logs x y → AreForked logs → (l m : List Triple) → IsLabel logs x l → IsLabel logs y m → AtMost x.index y.index l m
happens_before_labels logs _ _ (HappensBefore.here x) forks l m is_l is_m = inl (label_unique logs x l m is_l is_m, omega arith)
happens_before_labels logs _ _ (HappensBefore.step x y z e rest) forks l m is_l is_m =
    let next = along logs x y l forks e.edge is_l in
    at_most_trans x.index y.index z.index l next.label m next.at_most (happens_before_labels logs y z rest forks next.label m next.is_label is_m)

pub happens_before_label_before : (logs : Logs) (x y : Node) (l m : List Triple) → IsForkJoin logs → IsLabel logs x l → IsLabel logs y m
    → HappensBefore logs x y → (l ≡ m → ⊥) → IsLabelBefore l m
happens_before_label_before logs x y l m tree is_l is_m before apart = at (happens_before_labels logs x y before tree.tasks.forked l m is_l is_m)
  where
    at : AtMost x.index y.index l m → IsLabelBefore l m
    at (inl e) = absurd (apart e.0)
    at (inr b) = b
