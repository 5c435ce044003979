-- What is kept from one log to the next follows on.
use Rattle.std.proofs.Common.{◌≡◌, ◌≢◌, ◌⊎◌, inl, inr, ℕ, zero, suc, ◌+◌, ◌<◌, ◌≤◌, List, [], ◌∷◌, ◌++◌, length, take, Option, Some, None, refl, sym, ap, subst, ◌∙◌, arith, append_assoc}
use Rattle.std.specs.Prelude.{slice_get, Contains, MatchOption}
use Rattle.std.specs.Global.{Vec}
use Rattle.std.proofs.lemmas.List.{length_push, length-take-le, take-take, take-append-le, same_from_push}
use Rattle.std.proofs.lemmas.List.Elements.{Contains-push}
use Rattle.std.proofs.lemmas.Option.{same_Some, slice_get_within}
use Rattle.sw_base.specs.declared.path.Step.{Step}
use Rattle.sw_base.proofs.Lists.{get_kept, get_pushed}
use Rattle.log_format.specs.declared.record.Record.{Record}
use Rattle.race_model.specs.Label.{Triple}
use Rattle.race_model.specs.Listing.{IsNextPath, lane_of}
use Rattle.race_model.specs.Trace.{TaskLog, Trace, Logs, barrier_count}
use Rattle.race_laws.proofs.LabelPlace.{has_last, HasLast}
use Rattle.race_laws.proofs.ListedOnce.{NextShape, next_shape}
use Rattle.log_segment.specs.Stack.{HasForks}
use Rattle.log_segment.specs.Walking.{AreForks, HasLogs}
use Rattle.log_walk.specs.GoodTrace.{AreTeamBarriers, LeadsTeam}
use Rattle.log_walk.specs.Stack.{HasTeam, IsCountOf, KnowsForks, KnowsTeams, counts_with}
use Rattle.log_walk.specs.declared.stack.Stack.{Stack}

take_whole : {X : Type 0} (xs : List X) → take (length xs) xs ≡ xs
take_whole [] = refl
take_whole (x ∷ xs) = ap (λ ys. x ∷ ys) (take_whole xs)

contains_more : (trace : Trace) (task other : TaskLog) → Contains trace other → Contains (trace ++ task ∷ []) other
contains_more [] task other (k, within, is) = absurd (omega arith)
contains_more (t ∷ trace) task other (zero, within, is) = (0, omega arith, is)
contains_more (t ∷ trace) task other (suc k, within, is) = let rest = contains_more trace task other (k, omega arith, is) in (suc rest.0, omega (arith, rest.1), rest.2)

pub logs_before : (logs : Logs) (trace : Trace) (task : TaskLog) → HasLogs logs (trace ++ task ∷ []) → HasLogs logs trace
logs_before logs trace task has other listed = has other (contains_more trace task other listed)

-- labels of forks
pub forks_next : (stack now : Stack) (trace : Trace) (task : TaskLog) (next : List Step) (labels : Vec (List Triple)) → IsNextPath task.path next → KnowsForks stack trace task.path
    → now.forks.items ≡ take (length task.path) stack.forks.items ++ labels ∷ []
    → ((logs : Logs) → HasLogs logs (trace ++ task ∷ []) → AreForks logs task.path (length task.records) labels.items)
    → KnowsForks now (trace ++ task ∷ []) next
forks_next stack now trace task next labels goes knows forks are logs has depth within = go (split depth (length task.path) le)
  where
    shape : NextShape task.path next
    shape = next_shape task.path next goes

    longer : length next ≡ shape.depth + 1
    longer = ap length shape.is ∙ (length_push (take shape.depth task.path) shape.step ∙ ap (λ (m : ℕ). m + 1) (length-take-le shape.depth task.path shape.within))

    low : depth ≤ shape.depth
    low = omega (arith, longer, within)

    le : depth ≤ length task.path
    le = omega (arith, low, shape.within)

    split : (i n : ℕ) → i ≤ n → (i < n) ⊎ (i ≡ n)
    split i n h = grind arith

    prefix : take depth task.path ≡ take depth next
    prefix =
        sym (take-take depth shape.depth task.path low)
        ∙ (sym (take-append-le depth (take shape.depth task.path) (shape.step ∷ []) (let l = length-take-le shape.depth task.path shape.within in omega (arith, l, low))) ∙ ap (λ (p : List Step). take depth p) (sym shape.is))

    before : HasLogs logs trace
    before = logs_before logs trace task has

    long : length task.path ≤ length stack.forks.items
    long = at task.path knows where
      at : (p : List Step) → KnowsForks stack trace p → length p ≤ length stack.forks.items
      at [] k = omega arith
      at (s ∷ p) k = let h = k logs before (length p) (omega arith) in let w = slice_get_within stack.forks.items (length p) h.labels h.row in omega (arith, w)

    go : (depth < length task.path) ⊎ (depth ≡ length task.path) → HasForks logs now.forks.items next depth
    go (inl less) =
        let h = knows logs before depth less in
        record {
          labels = h.labels;
          row = subst (λ (fs : List (Vec (List Triple))). slice_get fs depth ≡ Some h.labels) (sym forks) (get_kept stack.forks.items labels h.labels (length task.path) depth less h.row);
          are = subst (λ (p : List Step). AreForks logs p (length (logs p)) h.labels.items) prefix h.are;
        }
    go (inr at) =
        let whole : take depth next ≡ task.path = sym prefix ∙ (ap (λ (n : ℕ). take n task.path) at ∙ take_whole task.path) in
        record {
          labels = labels;
          row = subst (λ (fs : List (Vec (List Triple))). slice_get fs depth ≡ Some labels) (sym forks)
              (subst (λ (n : ℕ). slice_get (take (length task.path) stack.forks.items ++ labels ∷ []) n ≡ Some labels) (sym at) (get_pushed stack.forks.items labels (length task.path) long));
          are = subst (λ (p : List Step). AreForks logs p (length (logs p)) labels.items) (sym whole)
              (subst (λ (n : ℕ). AreForks logs task.path n labels.items) (sym (ap length (has task (Contains-push trace task)))) (are logs has));
        }

-- a lane of the same team among the steps of the path before
record Beside (path : List Step) (above : List Step) (step : Step) : Type 0 where
  other : Step
  below : List Step
  parts : path ≡ above ++ other ∷ below
  region : other.region ≡ step.region
  span : other.span ≡ step.span

beside_more : (s x : Step) (path above : List Step) (step : Step) → s ≡ x → Beside path above step → Beside (s ∷ path) (x ∷ above) step
beside_more s x path above step same b = record { other = b.other; below = b.below; parts = (λ i. same i ∷ b.parts i); region = b.region; span = b.span }

beside : (path next above : List Step) (step : Step) (rest : List Step) → IsNextPath path next → next ≡ above ++ step ∷ rest → (rest ≢ []) ⊎ (0 < step.lane) → Beside path above step
beside path next [] step rest goes parts known = at path rest (subst (λ (p : List Step). IsNextPath path p) parts goes) known
  where
    at : (p rest : List Step) → IsNextPath p (step ∷ rest) → (rest ≢ []) ⊎ (0 < step.lane) → Beside p [] step
    at [] [] goes (inl some) = absurd (some refl)
    at [] [] goes (inr from_one) = absurd (omega (arith, goes.lane))
    at [] (m ∷ more) goes known = absurd goes
    at (s ∷ below) [] goes (inl some) = absurd (some refl)
    at (s ∷ below) [] (lasts, inl on) (inr from_one) = record { other = s; below = below; parts = refl; region = sym on.region; span = sym on.span }
    at (s ∷ below) [] (lasts, inr first) (inr from_one) = absurd (omega (arith, first.first.lane))
    at (s ∷ below) (m ∷ more) (same, goes) known = record { other = s; below = below; parts = refl; region = ap (λ (t : Step). t.region) same; span = ap (λ (t : Step). t.span) same }
beside path next (x ∷ above) step rest goes parts known = at path (above ++ step ∷ rest) refl (subst (λ (p : List Step). IsNextPath path p) parts goes) (λ p tail on is. beside p tail above step rest on is known)
  where
    at : (p tail : List Step) → tail ≡ above ++ step ∷ rest → IsNextPath p (x ∷ tail) → ((q below : List Step) → IsNextPath q below → below ≡ above ++ step ∷ rest → Beside q above step) → Beside p (x ∷ above) step
    at p [] is goes rec = let none : 0 ≡ length (above ++ step ∷ rest) = ap length is in absurd (no_less above none) where
      no_less : (xs : List Step) → 0 ≡ length (xs ++ step ∷ rest) → ⊥
      no_less [] e = omega arith
      no_less (y ∷ xs) e = omega arith
    at [] (m ∷ more) is goes rec = absurd goes
    at (s ∷ below) (m ∷ more) is (same, goes) rec = beside_more s x below above step same (rec below (m ∷ more) goes is)

-- the teams of all steps of a path
abbrev pub KnowsAllTeams : List ℕ → Trace → List Step → Type 0
KnowsAllTeams barriers trace path = (above : List Step) (step : Step) (rest : List Step) → path ≡ above ++ step ∷ rest → HasTeam trace barriers above step

-- the team of a task itself
pub record OwnTeam (trace : Trace) (path : List Step) (count : ℕ) : Type 0 where
  pub first : TaskLog
  pub listed : Contains trace first
  pub first_path : (above : List Step) (step : Step) → path ≡ above ++ step ∷ [] → first.path ≡ lane_of above step.region 0 step.span
  pub counted : count ≡ barrier_count first.records

teams_here : (stack : Stack) (trace : Trace) (task : TaskLog) (count : ℕ) → KnowsTeams stack trace task.path → OwnTeam (trace ++ task ∷ []) task.path count
    → KnowsAllTeams (counts_with task.path stack.barriers.items count) (trace ++ task ∷ []) task.path
teams_here stack trace task count knows own above step rest parts = go rest parts
  where
    counts_are : (p : List Step) (n : ℕ) → length p ≡ n + 1 → counts_with p stack.barriers.items count ≡ take n stack.barriers.items ++ count ∷ []
    counts_are [] n e = absurd (omega arith)
    counts_are (s ∷ p) n e = ap (λ (m : ℕ). take m stack.barriers.items ++ count ∷ []) (let same : length p ≡ n = omega (arith, e) in same)

    long : (xs : List Step) → ((before : List Step) (s : Step) → xs ≡ before ++ s ∷ [] → HasTeam trace stack.barriers.items before s) → (xs ≡ []) ⊎ HasLast xs → length xs ≤ length stack.barriers.items
    long xs each (inl none) = omega (arith, ap (λ (ys : List Step). length ys) none)
    long xs each (inr l) =
        let t = each l.prefix l.last l.parts in
        let within = slice_get_within stack.barriers.items (length l.prefix) _ t.counted in
        omega (arith, within, ap (λ (ys : List Step). length ys) l.parts, length_push l.prefix l.last)

    go : (r : List Step) → task.path ≡ above ++ step ∷ r → HasTeam (trace ++ task ∷ []) (counts_with task.path stack.barriers.items count) above step
    go [] is =
        let enough : length above ≤ length stack.barriers.items =
        long above (λ before s e. knows before s (step ∷ []) (is ∙ (ap (λ (p : List Step). p ++ step ∷ []) e ∙ append_assoc before (s ∷ []) (step ∷ []))) (inl (λ none. cc))) (has_last above) in
        record {
          first = own.first;
          listed = own.listed;
          first_path = own.first_path above step is;
          counted = subst (λ (ns : List ℕ). slice_get ns (length above) ≡ Some (barrier_count own.first.records)) (sym (counts_are task.path (length above) (ap length is ∙ length_push above step)))
              (get_pushed stack.barriers.items count (length above) enough ∙ ap (λ (n : ℕ). Some n) own.counted);
        }
    go (m ∷ more) is =
        let t = knows above step (m ∷ more) is (inl (λ none. cc)) in
        record {
          first = t.first;
          listed = contains_more trace task t.first t.listed;
          first_path = t.first_path;
          counted = subst (λ (ns : List ℕ). slice_get ns (length above) ≡ Some (barrier_count t.first.records)) (sym (counts_are task.path (length above + 1 + length more) (ap length is ∙ lengths above)))
              (get_kept stack.barriers.items count (barrier_count t.first.records) (length above + 1 + length more) (length above) (omega arith) t.counted);
        }
      where
        lengths : (xs : List Step) → length (xs ++ step ∷ m ∷ more) ≡ length xs + 1 + length more + 1
        lengths [] = omega arith
        lengths (x ∷ xs) = omega (arith, lengths xs)

pub teams_next : (stack now : Stack) (trace : Trace) (task : TaskLog) (next : List Step) (count : ℕ) → IsNextPath task.path next → KnowsTeams stack trace task.path
    → OwnTeam (trace ++ task ∷ []) task.path count → now.barriers.items ≡ counts_with task.path stack.barriers.items count → KnowsTeams now (trace ++ task ∷ []) next
teams_next stack now trace task next count goes knows own barriers above step rest parts known =
    let b = beside task.path next above step rest goes parts known in
    let t = teams_here stack trace task count knows own above b.other b.below b.parts in
    record {
      first = t.first;
      listed = t.listed;
      first_path = t.first_path ∙ (λ i. lane_of above (b.region i) 0 (b.span i));
      counted = subst (λ (ns : List ℕ). slice_get ns (length above) ≡ Some (barrier_count t.first.records)) (sym barriers) t.counted;
    }

-- the barriers that are due
pub due_is : (stack : Stack) (trace : Trace) (path : List Step) (due : Option ℕ) → KnowsTeams stack trace path → MatchOption due (LeadsTeam path) (λ count. IsCountOf stack.barriers.items path count) → AreTeamBarriers trace path due
due_is stack trace path None knows leads = leads
due_is stack trace path (Some count) knows is =
    let t = knows is.above is.step [] is.path_is (inr is.from_one) in
    record {
      above = is.above;
      step = is.step;
      path_is = is.path_is;
      from_one = is.from_one;
      first = t.first;
      listed = t.listed;
      first_path = t.first_path;
      counted = same_Some count (barrier_count t.first.records) (sym is.kept ∙ t.counted);
    }

-- a task's own team: that of its first lane, or the task leads it
pub own_team : (trace : Trace) (path : List Step) (records : List Record) (due : Option ℕ) (barriers count : ℕ) → AreTeamBarriers trace path due → barriers ≡ barrier_count records
    → ((n : ℕ) → due ≡ Some n → count ≡ n) → (due ≡ None → count ≡ barriers) → OwnTeam (trace ++ record { path = path; records = records } ∷ []) path count
own_team trace path records None barriers count leads counted some none = record {
  first = record { path = path; records = records };
  listed = Contains-push trace _;
  first_path = λ above step is. is ∙ ap (λ (n : ℕ). above ++ record { region = step.region; lane = n; span = step.span } ∷ []) (leads above step is);
  counted = none refl ∙ counted;
}
own_team trace path records (Some n) barriers count follows counted some none = record {
  first = follows.first;
  listed = contains_more trace _ follows.first follows.listed;
  first_path = λ above step is.
      (let both = same_from_push follows.above above follows.step step (sym follows.path_is ∙ is) in
      follows.first_path ∙ (ap (λ (p : List Step). lane_of p follows.step.region 0 follows.step.span) both.0 ∙ ap (λ (s : Step). lane_of above s.region 0 s.span) both.1));
  counted = some n refl ∙ follows.counted;
}

-- there is a number for each team that is due
pub due_there : (stack : Stack) (trace : Trace) (path : List Step) → KnowsTeams stack trace path → (above : List Step) (step : Step) → path ≡ above ++ step ∷ [] → 0 < step.lane → length above < length stack.barriers.items
due_there stack trace path knows above step is from_one =
    let t = knows above step [] is (inr from_one) in
    slice_get_within stack.barriers.items (length above) (barrier_count t.first.records) t.counted
