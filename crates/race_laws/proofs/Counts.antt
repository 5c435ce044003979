-- How many records of a kind stand before a place in a log.
use Rattle.std.proofs.Common.{◌≡◌, ℕ, zero, suc, ◌+◌, ◌<◌, ◌≤◌, Bool, true, false, cond, List, [], ◌∷◌, take, Some, refl, sym, ap, subst, arith, ◌∙◌, ◌⊎◌, ◌≢◌, inl, inr}
use Rattle.std.specs.Prelude.{count_by, slice_get}
use Rattle.std.proofs.lemmas.List.Sums.{count_by_more_yes, sum_by-take-le, sum_by-cons}
use Rattle.std.proofs.lemmas.List.{take-take}
use Rattle.std.proofs.lemmas.Option.{slice_get_within, get_or_from_slice_get}
use Rattle.log_format.specs.declared.record.Kind.{Kind}
use Rattle.log_format.specs.declared.record.Kind.TheVariants.{Barrier, Region, Read, Write, Lock, Unlock, End, Chunk, Update}
use Rattle.sw_base.specs.declared.path.Step.{Step}
use Rattle.race_model.specs.Trace.{Logs, Node, IsThere, HasKind, regions_before, barriers_before, region_count, barrier_count, is_region_kind, is_barrier_kind}

-- what is below a number is below one that is as large as one that isn't below it
pub below_later : (n a b c : ℕ) → n < a → (b < a → ⊥) → b ≤ c → n < c
below_later n a b c less not_less le = grind arith

-- a count goes only up
pub count_up : {X : Type 0} (p : X → Bool) (xs : List X) (i j : ℕ) → i ≤ j → count_by p (take i xs) ≤ count_by p (take j xs)
count_up p xs i j h =
    subst (λ ys. count_by p ys ≤ count_by p (take j xs)) (take-take i j xs h) (sum_by-take-le (λ x. cond (p x) 1 0) (take j xs) i)

-- one more that counts
pub count_next : {X : Type 0} (p : X → Bool) (xs : List X) (i : ℕ) (x : X) → slice_get xs i ≡ Some x → p x ≡ true
    → count_by p (take (i + 1) xs) ≡ count_by p (take i xs) + 1
count_next p xs i x found is_true =
    count_by_more_yes p xs i x (slice_get_within xs i x found) (ap p (get_or_from_slice_get xs i x x found) ∙ is_true)

-- the element before which k count
pub record Counted {X : Type 0} (p : X → Bool) (xs : List X) (k : ℕ) : Type 0 where
  pub index : ℕ
  pub item : X
  pub found : slice_get xs index ≡ Some item
  pub counts : p item ≡ true
  pub before : count_by p (take index xs) ≡ k

counted_later : {X : Type 0} (p : X → Bool) (x : X) (xs : List X) (k j : ℕ) → k ≡ cond (p x) 1 0 + j → Counted p xs j → Counted p (x ∷ xs) k
counted_later p x xs k j e c = record {
  index = suc c.index;
  item = c.item;
  found = c.found;
  counts = c.counts;
  before = sum_by-cons (λ y. cond (p y) 1 0) x (take c.index xs) ∙ (ap (λ n. cond (p x) 1 0 + n) c.before ∙ sym e);
}

pub count_finds : {X : Type 0} (p : X → Bool) (xs : List X) (k : ℕ) → k < count_by p xs → Counted p xs k
count_finds p [] k h = absurd (omega arith)
count_finds p (x ∷ xs) k h = at (p x) refl k h (count_finds p xs)
  where
    total : count_by p (x ∷ xs) ≡ cond (p x) 1 0 + count_by p xs
    total = sum_by-cons (λ y. cond (p y) 1 0) x xs

    at : (b : Bool) → p x ≡ b → (n : ℕ) → n < count_by p (x ∷ xs) → ((m : ℕ) → m < count_by p xs → Counted p xs m) → Counted p (x ∷ xs) n
    at true e zero l rest = record { index = 0; item = x; found = refl; counts = e; before = refl }
    at true e (suc n) l rest =
        let one : cond {A = ℕ} (p x) 1 0 ≡ 1 = rw e refl in
        counted_later p x xs (suc n) n (omega arith) (rest n (omega (arith, total)))
    at false e n l rest =
        let none_here : cond {A = ℕ} (p x) 1 0 ≡ 0 = rw e refl in
        counted_later p x xs n n (omega arith) (rest n (omega (arith, total)))

-- the same for the regions and barriers of a run
region_is_true : (k : Kind) → k ≡ Region → is_region_kind k ≡ true
region_is_true k e = rw e refl

barrier_is_true : (k : Kind) → k ≡ Barrier → is_barrier_kind k ≡ true
barrier_is_true k e = rw e refl

pub barrier_from_true : (k : Kind) → is_barrier_kind k ≡ true → k ≡ Barrier
barrier_from_true Barrier e = refl
barrier_from_true _ e = cc

pub region_from_true : (k : Kind) → is_region_kind k ≡ true → k ≡ Region
region_from_true Region e = refl
region_from_true _ e = cc

-- a record of any other kind isn't an End
pub is_end : (k : Kind) → (k ≡ End) ⊎ (k ≢ End)
is_end End = inl refl
is_end Read = inr (λ e. cc)
is_end Write = inr (λ e. cc)
is_end Lock = inr (λ e. cc)
is_end Unlock = inr (λ e. cc)
is_end Barrier = inr (λ e. cc)
is_end Region = inr (λ e. cc)
is_end Chunk = inr (λ e. cc)
is_end Update = inr (λ e. cc)

pub there : (logs : Logs) (x : Node) (kind : Kind) → HasKind logs x kind → IsThere logs x
there logs x kind h = slice_get_within (logs x.path) x.index h.event h.found

pub regions_up : (logs : Logs) (x y : Node) → x.path ≡ y.path → x.index ≤ y.index → regions_before logs x ≤ regions_before logs y
regions_up logs x y same h =
    subst (λ path. region_count (take x.index (logs x.path)) ≤ region_count (take y.index (logs path))) same (count_up (λ r. is_region_kind r.kind) (logs x.path) x.index y.index h)

pub barriers_up : (logs : Logs) (x y : Node) → x.path ≡ y.path → x.index ≤ y.index → barriers_before logs x ≤ barriers_before logs y
barriers_up logs x y same h =
    subst (λ path. barrier_count (take x.index (logs x.path)) ≤ barrier_count (take y.index (logs path))) same (count_up (λ r. is_barrier_kind r.kind) (logs x.path) x.index y.index h)

-- after a region there is one more
pub regions_after : (logs : Logs) (x y : Node) → HasKind logs x Region → x.path ≡ y.path → x.index < y.index → regions_before logs x < regions_before logs y
regions_after logs x y h same later =
    let up = regions_up logs (record { path = x.path; index = x.index + 1 }) y same (omega arith) in
    let one = count_next (λ r. is_region_kind r.kind) (logs x.path) x.index h.event h.found (region_is_true h.event.kind h.kind_is) in
    omega arith

pub barriers_after : (logs : Logs) (x y : Node) → HasKind logs x Barrier → x.path ≡ y.path → x.index < y.index → barriers_before logs x < barriers_before logs y
barriers_after logs x y h same later =
    let up = barriers_up logs (record { path = x.path; index = x.index + 1 }) y same (omega arith) in
    let one = count_next (λ r. is_barrier_kind r.kind) (logs x.path) x.index h.event h.found (barrier_is_true h.event.kind h.kind_is) in
    omega arith

-- the barrier of this number in a log
pub record BarrierAt (logs : Logs) (path : List Step) (number : ℕ) : Type 0 where
  pub barrier : Node
  pub same_log : barrier.path ≡ path
  pub is_barrier : HasKind logs barrier Barrier
  pub passed : barriers_before logs barrier ≡ number

pub barrier_at : (logs : Logs) (path : List Step) (number : ℕ) → number < barrier_count (logs path) → BarrierAt logs path number
barrier_at logs path number h =
    let c = count_finds (λ r. is_barrier_kind r.kind) (logs path) number h in
    record {
      barrier = record { path = path; index = c.index };
      same_log = refl;
      is_barrier = record { event = c.item; found = c.found; kind_is = barrier_from_true c.item.kind c.counts };
      passed = c.before;
    }
