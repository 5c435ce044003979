-- A record of a fork-join run has exactly one label, and records of one label are in one log and between the same forks.
use Rattle.std.proofs.Common.{◌≡◌, ◌⊎◌, ℕ, zero, suc, ◌+◌, ◌*◌, ◌<◌, ◌%◌, List, [], ◌∷◌, ◌++◌, length, refl, sym, ap, subst, arith, ◌∙◌, inl, inr, mod-eq_of_lt}
use Rattle.std.proofs.lemmas.List.{same_from_push, length_push}
use Rattle.std.proofs.Math.Nat.{add-mul-mod_self_left, mul-lt-mul_of_pos_left}
use Rattle.sw_base.specs.declared.path.Step.{Step}
use Rattle.log_format.specs.declared.record.Kind.TheVariants.{Region}
use Rattle.race_model.specs.Trace.{Logs, Node, IsThere, HasKind, regions_before}
use Rattle.race_model.specs.Order.{IsLane, lane_path}
use Rattle.race_model.specs.Label.{Triple, IsLabel, lane_triple}
use Rattle.race_model.specs.ForkJoin.{IsForkJoin, IsTask, WasForked}
use Rattle.race_laws.proofs.Counts.{regions_after, there}

-- a list is empty or has a last element
pub record HasLast {X : Type 0} (xs : List X) : Type 0 where
  pub prefix : List X
  pub last : X
  pub parts : xs ≡ prefix ++ last ∷ []

last_after : {X : Type 0} (x : X) (xs : List X) → (xs ≡ []) ⊎ HasLast xs → HasLast (x ∷ xs)
last_after x xs (inl e) = record { prefix = []; last = x; parts = ap (λ ys. x ∷ ys) e }
last_after x xs (inr l) = record { prefix = x ∷ l.prefix; last = l.last; parts = ap (λ ys. x ∷ ys) l.parts }

pub has_last : {X : Type 0} (xs : List X) → (xs ≡ []) ⊎ HasLast xs
has_last [] = inl refl
has_last (x ∷ xs) = inr (last_after x xs (has_last xs))

pub not_both_empty : {X : Type 0} (xs ys : List X) (x : X) → xs ≡ [] → xs ≡ ys ++ x ∷ [] → ⊥
not_both_empty xs ys x e f = let lengths = ap length (sym e ∙ f) in let more = length_push ys x in omega arith

pub is_region : (logs : Logs) (fork : Node) (lane span : ℕ) (path : List Step) → IsLane logs fork lane span path → HasKind logs fork Region
is_region logs fork lane span path h = record { event = h.event; found = h.found; kind_is = h.region }

pub same_node : (x y : Node) → x.path ≡ y.path → x.index ≡ y.index → x ≡ y
same_node x y p e = λ i. record { path = p i; index = e i }

pub same_index : (i j a b : ℕ) → (i < j → a < b) → (j < i → b < a) → a ≡ b → i ≡ j
same_index i j a b up down e = grind arith

-- a region is known by its task and its number
pub same_region : (logs : Logs) (f g : Node) → HasKind logs f Region → HasKind logs g Region → f.path ≡ g.path → regions_before logs f ≡ regions_before logs g → f ≡ g
same_region logs f g f_is g_is same number =
    let up : f.index < g.index → regions_before logs f < regions_before logs g = regions_after logs f g f_is same in
    let down : g.index < f.index → regions_before logs g < regions_before logs f = regions_after logs g f g_is (sym same) in
    same_node f g same (same_index f.index g.index (regions_before logs f) (regions_before logs g) up down number)

-- a lane's path tells its fork's task, the region's number, its number and span
pub record SameLane (logs : Logs) (f g : Node) (n m s t : ℕ) : Type 0 where
  pub same_log : f.path ≡ g.path
  pub same_regions : regions_before logs f ≡ regions_before logs g
  pub same_lane : n ≡ m
  pub same_span : s ≡ t

pub same_lane_from_path : (logs : Logs) (f g : Node) (n m s t : ℕ) (p q : List Step) → IsLane logs f n s p → IsLane logs g m t q → p ≡ q → SameLane logs f g n m s t
same_lane_from_path logs f g n m s t p q h k e =
    let both = same_from_push f.path g.path (record { region = regions_before logs f; lane = n; span = s }) (record { region = regions_before logs g; lane = m; span = t })
    (sym h.child ∙ (e ∙ k.child)) in
    record {
      same_log = both.0;
      same_regions = ap (λ (step : Step). step.region) both.1;
      same_lane = ap (λ (step : Step). step.lane) both.1;
      same_span = ap (λ (step : Step). step.span) both.1;
    }

pub same_fork : (logs : Logs) (f g : Node) (n m s t : ℕ) (p q : List Step) → IsLane logs f n s p → IsLane logs g m t q → p ≡ q → f ≡ g
same_fork logs f g n m s t p q h k e =
    let same = same_lane_from_path logs f g n m s t p q h k e in
    same_region logs f g (is_region logs f n s p h) (is_region logs g m t q k) same.same_log same.same_regions

-- a record has at most one label
pub label_unique : (logs : Logs) (x : Node) (l m : List Triple) → IsLabel logs x l → IsLabel logs x m → l ≡ m
label_unique logs x _ _ (IsLabel.root x1 e) (IsLabel.root x2 f) = refl
label_unique logs x _ _ (IsLabel.root x1 e) (IsLabel.lane fork x2 n s above h up) = absurd (not_both_empty _ _ _ e h.child)
label_unique logs x _ _ (IsLabel.lane fork x1 n s above h up) (IsLabel.root x2 e) = absurd (not_both_empty _ _ _ e h.child)
label_unique logs x _ _ (IsLabel.lane f x1 n s above h up) (IsLabel.lane g x2 m t beside k also) =
    let fork : f ≡ g = same_fork logs f g n m s t x.path x.path h k refl in
    let same = same_lane_from_path logs f g n m s t x.path x.path h k refl in
    let lane : n ≡ m = same.same_lane in
    let span : s ≡ t = same.same_span in
    let tops : above ≡ beside = label_unique logs f above beside up (subst (λ (w : Node). IsLabel logs w beside) (sym fork) also) in
    cc

-- each record has a label
pub record HasLabel (logs : Logs) (x : Node) : Type 0 where
  pub label : List Triple
  pub is_label : IsLabel logs x label

-- each task with a record is a lane of a region that its parent forked
abbrev pub AreForked : Logs → Type 0
AreForked logs = (path : List Step) (step : Step) → IsTask logs (path ++ step ∷ []) → WasForked logs path step

labels : (logs : Logs) → AreForked logs → (d : ℕ) (x : Node) → length x.path < d → IsThere logs x → HasLabel logs x
labels logs forks zero x h here = absurd (omega arith)
labels logs forks (suc d) x h here = at (has_last x.path) (labels logs forks d)
  where
    below : (fork : Node) (n s : ℕ) → IsLane logs fork n s x.path → HasLabel logs fork → HasLabel logs x
    below fork n s lane up = record { label = up.label ++ lane_triple logs x n s ∷ []; is_label = IsLabel.lane fork x n s up.label lane up.is_label }

    at : (x.path ≡ []) ⊎ HasLast x.path → ((y : Node) → length y.path < d → IsThere logs y → HasLabel logs y) → HasLabel logs x
    at (inl e) rec = record { label = _; is_label = IsLabel.root x e }
    at (inr l) rec =
        let begun : IsTask logs x.path = omega arith in
        let forked = forks l.prefix l.last (subst (λ (path : List Step). IsTask logs path) l.parts begun) in
        let lane : IsLane logs forked.fork l.last.lane l.last.span x.path =
        subst (λ (path : List Step). IsLane logs forked.fork l.last.lane l.last.span path) (sym l.parts) forked.lane in
        let shorter : length forked.fork.path < d =
        let more : length x.path ≡ length l.prefix + 1 = ap length l.parts ∙ length_push l.prefix l.last in
        let same : length forked.fork.path ≡ length l.prefix = ap length forked.above in
        omega arith in
        below forked.fork l.last.lane l.last.span lane
        (rec forked.fork shorter (there logs forked.fork Region (is_region logs forked.fork l.last.lane l.last.span x.path lane)))

pub label_forked : (logs : Logs) (x : Node) → AreForked logs → IsThere logs x → HasLabel logs x
label_forked logs x forks here = labels logs forks (suc (length x.path)) x (omega arith) here

pub label_exists : (logs : Logs) (x : Node) → IsForkJoin logs → IsThere logs x → HasLabel logs x
label_exists logs x tree here = label_forked logs x tree.tasks.forked here

-- what the offset tells: the lane, and how many regions
pub record SameOffset (n m a b : ℕ) : Type 0 where
  pub same_lane : n ≡ m
  pub same_regions : a ≡ b

pub offset_residue : (n s a : ℕ) → n < s → (n + s * a) % s ≡ n
offset_residue n s a h = add-mul-mod_self_left n s a ∙ mod-eq_of_lt h

pub same_offset : (n m s a b : ℕ) → n < s → m < s → n + s * a ≡ m + s * b → SameOffset n m a b
same_offset n m s a b h k e =
    let lane : n ≡ m = sym (offset_residue n s a h) ∙ (ap (λ (o : ℕ). o % s) e ∙ offset_residue m s b k) in
    let products : s * a ≡ s * b = omega arith in
    let up : a < b → s * a < s * b = λ l. mul-lt-mul_of_pos_left l (omega arith) in
    let down : b < a → s * b < s * a = λ l. mul-lt-mul_of_pos_left l (omega arith) in
    record { same_lane = lane; same_regions = same_index a b (s * a) (s * b) up down products }

pub offset_up : (n s a b : ℕ) → n < s → a < b → n + s * a < n + s * b
offset_up n s a b h l = let more : s * a < s * b = mul-lt-mul_of_pos_left l (omega arith) in omega arith

-- two records of one log, with as many regions before
pub record SamePlace (logs : Logs) (x y : Node) : Type 0 where
  pub same_log : x.path ≡ y.path
  pub same_regions : regions_before logs x ≡ regions_before logs y

-- a label isn't empty
pub label_last : (logs : Logs) (x : Node) (l : List Triple) → IsLabel logs x l → HasLast l
label_last logs x _ (IsLabel.root x1 e) = record { prefix = []; last = _; parts = refl }
label_last logs x _ (IsLabel.lane fork x1 n s above h up) = record { prefix = above; last = _; parts = refl }

not_one : (logs : Logs) (fork : Node) (above : List Triple) (t u : Triple) → IsLabel logs fork above → t ∷ [] ≡ above ++ u ∷ [] → ⊥
not_one logs fork above t u up e =
    let last = label_last logs fork above up in
    let lengths : 1 ≡ length (above ++ u ∷ []) = ap length e in
    let more = length_push above u in
    let long : length above ≡ length last.prefix + 1 = ap length last.parts ∙ length_push last.prefix last.last in
    omega arith

pub same_place : (logs : Logs) (x y : Node) (l m : List Triple) → IsLabel logs x l → IsLabel logs y m → l ≡ m → SamePlace logs x y
same_place logs x y _ _ (IsLabel.root x1 e) (IsLabel.root x2 f) same =
    let both = same_from_push [] [] (record { offset = regions_before logs x; span = 1; barrier = 0 }) (record { offset = regions_before logs y; span = 1; barrier = 0 }) same in
    record { same_log = e ∙ sym f; same_regions = ap (λ (u : Triple). u.offset) both.1 }
same_place logs x y _ _ (IsLabel.root x1 e) (IsLabel.lane g x2 m t beside k also) same = absurd (not_one _ _ _ _ _ also same)
same_place logs x y _ _ (IsLabel.lane f x1 n s above h up) (IsLabel.root x2 e) same = absurd (not_one _ _ _ _ _ up (sym same))
same_place logs x y _ _ (IsLabel.lane f x1 n s above h up) (IsLabel.lane g x2 m t beside k also) same =
    let both = same_from_push above beside (lane_triple logs x n s) (lane_triple logs y m t) same in
    let fork = same_place logs f g above beside up also both.0 in
    let span : s ≡ t = ap (λ (u : Triple). u.span) both.1 in
    let offsets : n + s * regions_before logs x ≡ m + t * regions_before logs y = ap (λ (u : Triple). u.offset) both.1 in
    let parts = same_offset n m s (regions_before logs x) (regions_before logs y) h.in_span (rw span k.in_span) (offsets ∙ rw span refl) in
    let forks : f.path ≡ g.path = fork.same_log in
    let regions : regions_before logs f ≡ regions_before logs g = fork.same_regions in
    let lane : n ≡ m = parts.same_lane in
    let paths : lane_path logs f n s ≡ lane_path logs g m t = cc in
    record { same_log = h.child ∙ (paths ∙ sym k.child); same_regions = parts.same_regions }
