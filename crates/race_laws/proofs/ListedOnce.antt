-- Paths of a listing ascend, so each is listed once, and a trace's logs are found at its tasks.
use Rattle.std.proofs.Common.{◌≡◌, ◌⊎◌, inl, inr, ℕ, zero, suc, ◌<◌, ◌≤◌, Bool, true, false, List, [], ◌∷◌, ◌++◌, length, take, Some, refl, sym, ap, subst, ◌∙◌, arith}
use Rattle.std.specs.Prelude.{slice_get, map}
use Rattle.std.specs.Cmp.{IsTotalOrder, nat_cmp_is}
use Rattle.std.specs.Ordering.{nat_cmp, ordering_then}
use Rattle.std.specs.declared.cmp.Ordering.{Ordering}
use Rattle.std.specs.declared.cmp.Ordering.TheVariants.{Less, Equal}
use Rattle.std.proofs.lemmas.Cmp.{tied_itself}
use Rattle.std.proofs.lemmas.Option.{same_Some}
use Rattle.sw_base.specs.declared.path.Step.{Step}
use Rattle.sw_base.specs.Names.{path_cmp, step_cmp}
use Rattle.sw_base.specs.PathOrder.{path_cmp_total, step_cmp_total}
use Rattle.race_model.specs.Listing.{IsListing, IsNextPath, IsNextLane, IsNextRegion}
use Rattle.race_model.specs.Trace.{TaskLog, Trace, logs_of, path_eq}
use Rattle.race_laws.proofs.Listings.{IsChain, lists_begins, chain_of_begins, begins_at_root}
use Rattle.race_model.proofs.TraceLogs.{path_is, path_itself}

-- the next path is a prefix of this one, and a step
pub record NextShape (path next : List Step) : Type 0 where
  pub depth : ℕ
  pub step : Step
  pub within : depth ≤ length path
  pub is : next ≡ take depth path ++ step ∷ []

pub next_shape : (path next : List Step) → IsNextPath path next → NextShape path next
next_shape path [] goes = absurd goes
next_shape [] (next ∷ []) goes = record { depth = 0; step = next; within = omega arith; is = refl }
next_shape (step ∷ below) (next ∷ []) goes = record { depth = 0; step = next; within = omega arith; is = refl }
next_shape [] (next ∷ more ∷ others) goes = absurd goes
next_shape (step ∷ below) (next ∷ more ∷ others) goes =
    let rest = next_shape below (more ∷ others) goes.1 in
    record {
      depth = suc rest.depth;
      step = rest.step;
      within = omega (arith, rest.within);
      is = ap (λ (s : Step). s ∷ more ∷ others) (sym goes.0) ∙ ap (λ (p : List Step). step ∷ p) rest.is;
    }

-- it is greater
then_less : (o p : Ordering) → o ≡ Less → ordering_then o p ≡ Less
then_less o p e = rw e refl

then_equal : (o p : Ordering) → o ≡ Equal → ordering_then o p ≡ p
then_equal o p e = rw e refl

nat_less : (a b : ℕ) → a < b → nat_cmp a b ≡ Less
nat_less a b h = sym (nat_cmp_is a b Less h)

nat_equal : (a b : ℕ) → a ≡ b → nat_cmp a b ≡ Equal
nat_equal a b h = sym (nat_cmp_is a b Equal h)

step_less : (step next : Step) → IsNextLane step next ⊎ IsNextRegion step next → step_cmp step next ≡ Less
step_less step next (inl on) =
    then_equal (nat_cmp step.region next.region) (ordering_then (nat_cmp step.lane next.lane) (nat_cmp step.span next.span)) (nat_equal step.region next.region (sym on.region))
    ∙ then_less (nat_cmp step.lane next.lane) (nat_cmp step.span next.span) (nat_less step.lane next.lane (omega (arith, on.lane)))
step_less step next (inr on) =
    then_less (nat_cmp step.region next.region) (ordering_then (nat_cmp step.lane next.lane) (nat_cmp step.span next.span)) (nat_less step.region next.region (omega (arith, on.first.region_is)))

next_less : (path next : List Step) → IsNextPath path next → path_cmp path next ≡ Less
next_less path [] goes = absurd goes
next_less [] (next ∷ []) goes = refl
next_less (step ∷ below) (next ∷ []) goes = then_less (step_cmp step next) (path_cmp below []) (step_less step next goes.1)
next_less [] (next ∷ more ∷ others) goes = absurd goes
next_less (step ∷ below) (next ∷ more ∷ others) goes =
    then_equal (step_cmp step next) (path_cmp below (more ∷ others)) (subst (λ (s : Step). step_cmp step s ≡ Equal) goes.0 (tied_itself step_cmp_total step))
    ∙ next_less below (more ∷ others) goes.1

chain_less : (path : List Step) (paths : List (List Step)) → IsChain path paths → (k : ℕ) (later : List Step) → slice_get paths k ≡ Some later → path_cmp path later ≡ Less
chain_less path [] chain k later found = cc
chain_less path (next ∷ paths) (goes, chain) zero later found = subst (λ (p : List Step). path_cmp path p ≡ Less) (same_Some next later found) (next_less path next goes)
chain_less path (next ∷ paths) (goes, chain) (suc k) later found =
    let total : IsTotalOrder path_cmp = path_cmp_total in
    total.trans path next later (next_less path next goes) (chain_less next paths chain k later found)

differ : (path later : List Step) → path_cmp path later ≡ Less → path ≡ later → ⊥
differ path later less e =
    let itself : path_cmp path path ≡ Equal = tied_itself path_cmp_total path in
    let also : path_cmp path path ≡ Less = subst (λ (p : List Step). path_cmp path p ≡ Less) (sym e) less in
    cc

-- the logs of a chain of tasks
found_path : (trace : Trace) (k : ℕ) (task : TaskLog) → slice_get trace k ≡ Some task → slice_get (map (λ (t : TaskLog). t.path) trace) k ≡ Some task.path
found_path [] k task found = cc
found_path (t ∷ trace) zero task found = ap (λ (x : TaskLog). Some x.path) (same_Some t task found)
found_path (t ∷ trace) (suc k) task found = found_path trace k task found

pub chain_log : (first : TaskLog) (trace : Trace) → IsChain first.path (map (λ (t : TaskLog). t.path) trace) → (k : ℕ) (task : TaskLog) → slice_get (first ∷ trace) k ≡ Some task
    → logs_of (first ∷ trace) task.path ≡ task.records
chain_log first trace chain zero task found =
    let same : first ≡ task = same_Some first task found in
    subst (λ (t : TaskLog). logs_of (first ∷ trace) t.path ≡ t.records) same here
  where
    here : logs_of (first ∷ trace) first.path ≡ first.records
    here = rw (path_itself first.path) refl
chain_log first [] chain (suc k) task found = cc
chain_log first (t ∷ trace) chain (suc k) task found = later (path_eq first.path task.path) refl (chain_log t trace chain.1 k task found)
  where
    never : first.path ≡ task.path → ⊥
    never = differ first.path task.path (chain_less first.path (t.path ∷ map (λ (x : TaskLog). x.path) trace) chain k task.path (found_path (t ∷ trace) k task found))

    later : (b : Bool) → path_eq first.path task.path ≡ b → logs_of (t ∷ trace) task.path ≡ task.records → logs_of (first ∷ t ∷ trace) task.path ≡ task.records
    later true e rest = absurd (never (path_is first.path task.path e))
    later false e rest = let skip : logs_of (first ∷ t ∷ trace) task.path ≡ logs_of (t ∷ trace) task.path = rw e refl in skip ∙ rest

-- the records of a task of a listing are found at its path
pub logs_at : (trace : Trace) → IsListing (map (λ (t : TaskLog). t.path) trace) → (k : ℕ) (task : TaskLog) → slice_get trace k ≡ Some task → logs_of trace task.path ≡ task.records
logs_at [] lists k task found = cc
logs_at (first ∷ trace) lists k task found = chain_log first trace chain k task found
  where
    root : first.path ≡ []
    root = begins_at_root first.path (map (λ (t : TaskLog). t.path) trace) (lists_begins (map (λ (t : TaskLog). t.path) (first ∷ trace)) lists)

    chain : IsChain first.path (map (λ (t : TaskLog). t.path) trace)
    chain = subst (λ (p : List Step). IsChain p (map (λ (t : TaskLog). t.path) trace)) (sym root)
        (chain_of_begins (map (λ (t : TaskLog). t.path) trace) (lists_begins ([] ∷ map (λ (t : TaskLog). t.path) trace)
        (subst (λ (p : List Step). IsListing (p ∷ map (λ (t : TaskLog). t.path) trace)) root lists)))

-- the first path is the root's, and each further one is the next
chain_at : (path : List Step) (paths : List (List Step)) → IsChain path paths → (k : ℕ) (one next : List Step) → slice_get (path ∷ paths) k ≡ Some one → slice_get paths k ≡ Some next → IsNextPath one next
chain_at path [] chain k one next a b = cc
chain_at path (p ∷ paths) (goes, chain) zero one next a b =
    subst (λ (x : List Step). IsNextPath x next) (same_Some path one a) (subst (λ (x : List Step). IsNextPath path x) (same_Some p next b) goes)
chain_at path (p ∷ paths) (goes, chain) (suc k) one next a b = chain_at p paths chain k one next a b

pub first_path : (paths : List (List Step)) → IsListing paths → (path : List Step) → slice_get paths 0 ≡ Some path → path ≡ []
first_path [] lists path found = cc
first_path (p ∷ paths) lists path found = sym (same_Some p path found) ∙ begins_at_root p paths (lists_begins (p ∷ paths) lists)

pub next_path : (paths : List (List Step)) → IsListing paths → (k : ℕ) (one next : List Step) → slice_get paths k ≡ Some one → slice_get paths (suc k) ≡ Some next → IsNextPath one next
next_path [] lists k one next a b = cc
next_path (p ∷ paths) lists k one next a b =
    let root : p ≡ [] = begins_at_root p paths (lists_begins (p ∷ paths) lists) in
    chain_at [] paths (chain_of_begins paths (lists_begins ([] ∷ paths) (subst (λ (q : List Step). IsListing (q ∷ paths)) root lists))) k one next
    (subst (λ (q : List Step). slice_get (q ∷ paths) k ≡ Some one) root a) b
