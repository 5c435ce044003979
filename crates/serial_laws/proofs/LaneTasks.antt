-- What the lanes of the machine do is the serial run of their tasks.
use Rattle.std.proofs.Common.{◌≡◌, refl, ap, ap₂, sym, ◌∙◌, subst, ◌⊎◌, inl, inr, ℕ, zero, suc, ◌+◌, ◌-◌, ◌<◌, ◌≤◌, Bool, true, false, cond, List, [], ◌∷◌, ◌++◌, length, map, get_or, append_assoc, ℤ, pos, Some, arith, All, length-append}
use Rattle.std.specs.Prelude.{slice_get, slice_index, replicate}
use Rattle.std.specs.List.{flat_map, range_with_len}
use Rattle.std.proofs.lemmas.Grind.{flat_map-append}
use Rattle.std.proofs.lemmas.List.{append-nil, map-append, length-map}
use Rattle.std.proofs.lemmas.List.Elements.{All-head, All-tail}
use Rattle.std.proofs.lemmas.List.Sums.{sum_by-cons}
use Rattle.sw_base.proofs.Lists.{get_seam}
use Rattle.sw_base.specs.declared.path.Step.{Step}
use Rattle.log_format.specs.declared.format.TheConstants.{FORMAT}
use Rattle.log_format.specs.Format.{log_header}
use Rattle.log_format.specs.Spelling.{log_bytes, spelling}
use Rattle.log_format.specs.Limit.{task_limit}
use Rattle.log_format.specs.declared.record.Record.{Record}
use Rattle.log_format.specs.declared.record.Kind.{Kind}
use Rattle.log_format.specs.declared.record.Kind.TheVariants as kind
use Rattle.race_model.specs.Listing.{lane_of}
use Rattle.race_model.specs.Trace.{Trace, is_region_kind, region_count}
use Rattle.race_model.proofs.Counted.{regions_both}
use Rattle.race_model.proofs.TraceLogs.{all_at}
use Rattle.kernel_syntax.specs.Layout.{elements}
use Rattle.kernel_syntax.specs.Program.{Program}
use Rattle.kernel_syntax.specs.Tree.{TeamTree}
use Rattle.kernel_syntax.specs.declared.syntax.Array.{Array}
use Rattle.kernel_model.specs.Folder.{own_trace, root_start}
use Rattle.kernel_model.specs.Lawful.{IsLawful}
use Rattle.kernel_model.specs.State as model
use Rattle.kernel_model.specs.State.{event, reads_of, chunks_of}
use Rattle.kernel_model.specs.Trace.{Start}
use Rattle.kernel_model.specs.Value.{Site}
use Rattle.history_model.specs.Work.{Work, Phases}
use Rattle.execution_model.specs.Execution.{BeginsTrace}
use Rattle.certainty_model.specs.Certain.{IsFixed}
use Rattle.certainty_model.proofs.Pairs.{FixedFork}
use Rattle.serial_run.proofs.Coming.{have_their_trace}
use Rattle.serial_run.specs.Coming.{IsAtStart, Comes}
use Rattle.serial_run.specs.Going.{ArePlain, SerialProgress, words_after}
use Rattle.serial_run.specs.Placing.{OfLog, ElementLayout, TellsWords}
use Rattle.serial_run.specs.Stepping.{Stand, Adds, Advances, Finishes}
use Rattle.serial_steps.proofs.GoAlike.{forks_fixed}
use Rattle.serial_steps.specs.Lanes.{Shared, SerialTask, tasks_of, with_record, after_record, lanes_of, past_lanes, MakesNext, ForksNext, Still, IsTooLong, told, TaskGoes, PhaseGoes, RegionGoes, GoesSerially}
use Rattle.serial_team.proofs.Going.{lane_at}
use Rattle.serial_team.specs.declared.member.Stage.TheVariants as stage
use Rattle.serial_team.specs.Members.{Pool, pool_at, WholeLog, MemberValue, later, idle, path_in, logs_of_member, BeginsLane, BeginTeam}
use Rattle.serial_team.specs.Running.{past_region, LaneRuns, TeamRuns, PhasesRun, DidRoot}
use Rattle.serial_laws.specs.SerialRuns.{EndsSerially, spelled}
use Rattle.serial_laws.proofs.Lanes.{with_records, after_records, left_after, StandsAt, records_stand, accesses_go}
use Rattle.serial_laws.proofs.Puts.{plain_finds}
use Rattle.serial_laws.proofs.Root.{begin_agrees, of_element}
use Rattle.serial_laws.proofs.StoppedTasks.{Begins, begins_here}
use Rattle.serial_laws.proofs.Traced.{fork_at, lane_at_start, team_length}

-- lists of which each two are so
abbrev pub Each : {X Y : Type 0} → (X → Y → Type 0) → List X → List Y → Type 0
Each P [] [] = Unit {0}
Each P (x ∷ xs) (y ∷ ys) = P x y × Each P xs ys
Each P _ _ = ⊥

-- accesses fork nothing
access_forks : (k : Kind) (n : ℕ) → (k ≡ kind.Read) ⊎ (k ≡ kind.Write) → n ≡ 0 → cond (is_region_kind k) 1 0 + n ≡ 0
access_forks kind.Read n is none = omega (arith, none)
access_forks kind.Write n is none = omega (arith, none)
access_forks _ n (inl is) none = absurd cc
access_forks _ n (inr is) none = absurd cc

plain_forks : (rs : List Record) → ArePlain rs → region_count rs ≡ 0
plain_forks [] plain = refl
plain_forks (r ∷ rs) plain = sum_by-cons (λ (x : Record). cond (is_region_kind x.kind) 1 0) r rs ∙ access_forks r.kind (region_count rs) plain.0 (plain_forks rs plain.1)

module _ (layout : ElementLayout) (by_log : layout.bound ≡ OfLog) (program : Program) (placed : (w : ℕ) → w < layout.count → layout.words.word (layout.words.address w) ≡ w) where
  -- ---- where a lane stands

  -- the lane is this task
  pub record IsTask (x : MemberValue) (t : SerialTask) : Type 0 where
    pub log : x.stand.progress.log ≡ log_bytes (log_header FORMAT) t.records
    pub count : x.stand.progress.count ≡ length t.records
    pub forked : x.forked ≡ region_count t.records
    pub below : x.below ≡ map spelled t.below
    pub fixed : IsFixed t.start.team.body
    pub arrays : x.stand.at.arrays ≡ program.arrays

  -- it came there from where the task starts
  pub record CameTo (x : MemberValue) (t : SerialTask) : Type 0 where
    pub first : Stand
    pub begun : IsAtStart program t.start first
    pub forks : List model.Fork
    pub come : Comes layout first x.stand t.records forks
    pub many : length forks ≡ region_count t.records

  -- the pool is what all tasks share
  pub record Shares (p : Pool) (s : Shared) : Type 0 where
    pub stands : StandsAt layout placed p.words s.memory
    pub left : p.left ≡ s.left

  pub record IsLane (at : List Step) (number : ℕ) (x : MemberValue) (t : SerialTask) : Type 0 where
    pub is : IsTask x t
    pub path : t.path ≡ path_in at number x

  abbrev pub Ready : List Step → ℕ → MemberValue → SerialTask → Type 0
  Ready at number x t = IsLane at number x t × CameTo x t

  pub later_is : (x : MemberValue) (t : SerialTask) (p : Pool) → IsTask x t → IsTask (later x p) t
  later_is x t p i = record { log = i.log; count = i.count; forked = i.forked; below = i.below; fixed = i.fixed; arrays = i.arrays }

  pub later_came : (x : MemberValue) (t : SerialTask) (p : Pool) → CameTo x t → CameTo (later x p) t
  later_came x t p c = record { first = c.first; begun = c.begun; forks = c.forks; come = Comes.waits x.stand t.records c.forks p.words p.left c.come; many = c.many }

  -- how it stands still
  abbrev pub StillSo : MemberValue → SerialTask → Still → Type 0
  StillSo z u end = ((z.stage ≡ stage.Waits) × (end ≡ Still.at_barrier) × CameTo z u) ⊎ ((z.stage ≡ stage.Ended) × (end ≡ Still.at_end))

  -- the task went on as the lane did
  pub record Went (z : MemberValue) (t : SerialTask) (s : Shared) : Type 0 where
    pub end : Still
    pub u : SerialTask
    pub q : Shared
    pub goes : TaskGoes program t s u q end
    pub is : IsTask z u
    pub path : u.path ≡ t.path
    pub shares : Shares (pool_at z.stand) q
    pub still : StillSo z u end

  -- ---- to the next mark

  module _ (x : MemberValue) (t : SerialTask) (s : Shared) (i : IsTask x t) (shares : Shares (pool_at x.stand) s) (mark : Record) (new : SerialProgress) (a : Adds layout x.stand.progress new (mark ∷ []))
      (same : (words : List ℕ) → words_after layout mark.kind mark words ≡ words) where
    abbrev pub there : SerialTask
    there = with_records t a.plain

    abbrev pub all : Shared
    all = after_records s a.plain

    sum : length a.added ≡ length a.plain + 1
    sum = ap length a.added_is ∙ length-append a.plain (mark ∷ [])

    records_are : t.records ++ a.added ≡ there.records ++ mark ∷ []
    records_are = ap (λ (l : List Record). t.records ++ l) a.added_is ∙ sym (append_assoc t.records a.plain (mark ∷ []))

    some : 0 < all.left
    some = omega (arith, left_after s a.plain, sum, a.gains.left, shares.left)

    count : new.count ≡ length (there.records ++ mark ∷ [])
    count = a.gains.count ∙ (ap (λ (n : ℕ). n + length a.added) i.count ∙ (sym (length-append t.records a.added) ∙ ap length records_are))

    log : new.log ≡ log_bytes (log_header FORMAT) (there.records ++ mark ∷ [])
    log =
        a.gains.log ∙ (ap (λ (l : List ℕ). l ++ flat_map spelling a.added) i.log ∙ (append_assoc (log_header FORMAT) (flat_map spelling t.records) (flat_map spelling a.added)
        ∙ ap (λ (l : List ℕ). log_header FORMAT ++ l) (sym (flat_map-append spelling t.records a.added) ∙ ap (λ (l : List Record). flat_map spelling l) records_are)))

    left : new.left ≡ all.left - 1
    left = omega (arith, left_after s a.plain, sum, a.gains.left, shares.left)

    words : StandsAt layout placed new.words all.memory
    words = records_stand layout placed a.plain s x.stand.progress.words new.words a.plain_is (plain_finds layout x.stand.progress new mark a same) shares.stands

    regions : region_count there.records ≡ region_count t.records
    regions = let none = plain_forks a.plain a.plain_is in omega (arith, regions_both t.records a.plain, none)

    -- it makes the accesses, and then does this
    pub before_mark : (u : SerialTask) (q : Shared) (end : Still) → BeginsTrace program t.start (there.records ++ mark ∷ []) → TaskGoes program there all u q end → TaskGoes program t s u q end
    before_mark u q end begun goes =
        accesses_go layout placed program a.plain (mark ∷ []) t u s q end x.stand.progress.words new.words i.fixed
        (subst (λ (l : List Record). BeginsTrace program t.start l) (append_assoc t.records a.plain (mark ∷ [])) begun) a.plain_is
        (plain_finds layout x.stand.progress new mark a same) shares.stands (omega (arith, sum, a.gains.left, shares.left)) goes

  module _ (x : MemberValue) (t : SerialTask) (s : Shared) (i : IsTask x t) (c : CameTo x t) (shares : Shares (pool_at x.stand) s) (y : Stand) where
    waits_so : (line : ℕ) → Advances layout x.stand y (event kind.Barrier line 0 0 ∷ []) [] → Went (record x { stand = y; stage = stage.Waits }) t s
    waits_so line a =
        let mark = event kind.Barrier line 0 0 in
        let t' = there x t s i shares mark y.progress a.makes (λ words. refl) in
        let s' = all x t s i shares mark y.progress a.makes (λ words. refl) in
        let records_are = records_are x t s i shares mark y.progress a.makes (λ words. refl) in
        let more = regions_both t'.records (mark ∷ []) in
        let same = regions x t s i shares mark y.progress a.makes (λ words. refl) in
        let come = subst (λ (l : List Record). Comes layout c.first y l (c.forks ++ [])) records_are (Comes.goes x.stand y t.records c.forks (mark ∷ []) [] c.come a) in
        let b = begins_here layout by_log program t.start c.first y (t'.records ++ mark ∷ []) (c.forks ++ []) c.begun come in
        record {
          end = Still.at_barrier;
          u = with_record t' mark;
          q = after_record s' mark;
          goes = before_mark x t s i shares mark y.progress a.makes (λ words. refl) (with_record t' mark) (after_record s' mark) Still.at_barrier b.trace
              (TaskGoes.waits t' s' mark (record { begun = b.trace; finds = tt; some = some x t s i shares mark y.progress a.makes (λ words. refl) }) refl);
          is = record {
            log = log x t s i shares mark y.progress a.makes (λ words. refl);
            count = count x t s i shares mark y.progress a.makes (λ words. refl);
            forked = omega (arith, i.forked, more, same);
            below = i.below;
            fixed = i.fixed;
            arrays = ap (λ (at : Site). at.arrays) a.at ∙ i.arrays;
          };
          path = refl;
          shares = record { stands = words x t s i shares mark y.progress a.makes (λ words. refl); left = left x t s i shares mark y.progress a.makes (λ words. refl) };
          still = inl (
            refl,
            refl,
            record {
              first = c.first;
              begun = c.begun;
              forks = c.forks ++ [];
              come = come;
              many = omega (arith, ap length (append-nil c.forks), c.many, more, same);
            },
          );
        }

    ends_so : Finishes layout x.stand y → Went (record x { stand = y; stage = stage.Ended }) t s
    ends_so f =
        let mark = event kind.End x.stand.end 0 0 in
        let t' = there x t s i shares mark y.progress f.makes (λ words. refl) in
        let s' = all x t s i shares mark y.progress f.makes (λ words. refl) in
        let records_are = records_are x t s i shares mark y.progress f.makes (λ words. refl) in
        let more = regions_both t'.records (mark ∷ []) in
        let same = regions x t s i shares mark y.progress f.makes (λ words. refl) in
        let traced = have_their_trace layout program t.start c.first x.stand y t.records c.forks by_log c.begun c.come f in
        let begun : BeginsTrace program t.start (t'.records ++ mark ∷ []) =
        subst (λ (l : List Record). BeginsTrace program t.start l) records_are (record { rest = []; begins = traced.0.records_are ∙ sym (append-nil (t.records ++ f.makes.added)) }) in
        record {
          end = Still.at_end;
          u = with_record t' mark;
          q = after_record s' mark;
          goes = before_mark x t s i shares mark y.progress f.makes (λ words. refl) (with_record t' mark) (after_record s' mark) Still.at_end begun
              (TaskGoes.ends t' s' mark (record { begun = begun; finds = tt; some = some x t s i shares mark y.progress f.makes (λ words. refl) }) refl);
          is = record {
            log = log x t s i shares mark y.progress f.makes (λ words. refl);
            count = count x t s i shares mark y.progress f.makes (λ words. refl);
            forked = omega (arith, i.forked, more, same);
            below = i.below;
            fixed = i.fixed;
            arrays = ap (λ (at : Site). at.arrays) f.at ∙ i.arrays;
          };
          path = refl;
          shares = record { stands = words x t s i shares mark y.progress f.makes (λ words. refl); left = left x t s i shares mark y.progress f.makes (λ words. refl) };
          still = inr (refl, refl);
        }

  -- ---- the lanes of a region

  module _ (team : TeamTree) (slots : List ℤ) (fixed : IsFixed team.body) where
    abbrev pub starting : List Step → ℕ → SerialTask
    starting path lane = record { path = path; start = record { team = team; lane = lane; slots = slots }; records = []; below = [] }

    pub starts_so : (path : List Step) (lane : ℕ) (x : MemberValue) → BeginsLane program.arrays team slots lane x → IsTask x (starting path lane) × CameTo x (starting path lane)
    starts_so path lane x b = (
      record {
        log = b.log ∙ sym (append-nil (log_header FORMAT));
        count = b.none;
        forked = b.unforked;
        below = b.none_below;
        fixed = fixed;
        arrays = ap (λ (s : Site). s.arrays) b.at;
      },
      record { first = x.stand; begun = lane_at_start program team slots lane x b; forks = []; come = Comes.begins; many = refl },
    )

  module _ (team : TeamTree) (slots : List ℤ) (at : List Step) (number : ℕ) (fixed : IsFixed team.body) where
    abbrev pub begun_task : ℕ → SerialTask
    begun_task lane = starting team slots fixed (lane_of at number lane team.span) lane

    begins_ready : (x : MemberValue) (lane : ℕ) → BeginsLane program.arrays team slots lane x → Ready at number x (begun_task lane)
    begins_ready x lane b =
        let so = starts_so team slots fixed (lane_of at number lane team.span) lane x b in
        (record { is = so.0; path = ap (λ (s : Site). lane_of at number s.lane s.span) (sym b.at) }, so.1)

    lanes_ready : (xs : List MemberValue) (n : ℕ) → ((k : ℕ) (d : MemberValue) → k < length xs → BeginsLane program.arrays team slots (n + k) (get_or xs k d))
        → Each (Ready at number) xs (map begun_task (range_with_len n (length xs)))
    lanes_ready [] n each = tt
    lanes_ready (x ∷ xs) n each = (
      begins_ready x n (subst (λ (k : ℕ). BeginsLane program.arrays team slots k x) (let e : n + 0 ≡ n = omega arith in e) (each 0 x (omega arith))),
      lanes_ready xs (n + 1) (λ k d less. subst (λ (m : ℕ). BeginsLane program.arrays team slots m (get_or xs k d)) (let e : n + suc k ≡ n + 1 + k = omega arith in e) (each (suc k) d (omega (arith, less)))),
    )

    team_ready : (xs : List MemberValue) → BeginTeam program.arrays team slots xs → Each (Ready at number) xs (map begun_task (range_with_len 0 team.span))
    team_ready xs begin =
        subst (λ (n : ℕ). Each (Ready at number) xs (map begun_task (range_with_len 0 n))) begin.count
        (lanes_ready xs 0 (λ k d less. subst (λ (m : ℕ). BeginsLane program.arrays team slots m (get_or xs k d)) (let e : k ≡ 0 + k = omega arith in e) (begin.each k d (omega (arith, less, begin.count)))))

  each_both : {X Y : Type 0} (P Q : X → Y → Type 0) (xs : List X) (ys : List Y) → Each P xs ys → Each Q xs ys → Each (λ x y. P x y × Q x y) xs ys
  each_both P Q [] [] one other = tt
  each_both P Q [] (y ∷ ys) one other = absurd one
  each_both P Q (x ∷ xs) [] one other = absurd one
  each_both P Q (x ∷ xs) (y ∷ ys) one other = ((one.0, other.0), each_both P Q xs ys one.1 other.1)

  pub all_ready : (at : List Step) (number : ℕ) (xs : List MemberValue) (ts : List SerialTask) → Each (IsLane at number) xs ts → Each CameTo xs ts → Each (Ready at number) xs ts
  all_ready at number xs ts = each_both (IsLane at number) CameTo xs ts

  -- the logs of the lanes are those of their tasks
  module _ (at : List Step) (number : ℕ) where
    lane_told : (y : MemberValue) (u : SerialTask) → IsLane at number y u → logs_of_member at number y ≡ map spelled (tasks_of u)
    lane_told y u l = λ j. record { path = sym l.path j; bytes = l.is.log j; count = l.is.count j } ∷ l.is.below j

    lanes_told : (ys : List MemberValue) (us : List SerialTask) → Each (IsLane at number) ys us → flat_map (logs_of_member at number) ys ≡ map spelled (flat_map tasks_of us)
    lanes_told [] [] each = refl
    lanes_told [] (u ∷ us) each = absurd each
    lanes_told (y ∷ ys) [] each = absurd each
    lanes_told (y ∷ ys) (u ∷ us) each =
        ap₂ (λ (l m : List WholeLog). l ++ m) (lane_told y u each.0) (lanes_told ys us each.1) ∙ sym (map-append spelled (tasks_of u) (flat_map tasks_of us))

  -- lanes went on after one that did
  record TailWent (at : List Step) (number : ℕ) (ys : List MemberValue) (q : Pool) (ts : List SerialTask) (s : Shared) : Type 0 where
    us : List SerialTask
    p : Shared
    tell : Still → Still
    goes : (t u : SerialTask) (r : Shared) (end : Still) → TaskGoes program t r u s end → (IsTooLong end → ⊥) → PhaseGoes program (t ∷ ts) r (u ∷ us) p (tell end)
    are : Each (IsLane at number) ys us
    shares : Shares q p
    waits : All (λ (y : MemberValue). y.stage ≡ stage.Waits) ys → Each CameTo ys us × (tell Still.at_barrier ≡ Still.at_barrier)
    ended : All (λ (y : MemberValue). y.stage ≡ stage.Ended) ys → tell Still.at_end ≡ Still.at_end

  pub record TeamWent (at : List Step) (number : ℕ) (ys : List MemberValue) (q : Pool) (ts : List SerialTask) (s : Shared) : Type 0 where
    pub us : List SerialTask
    pub p : Shared
    pub end : Still
    pub goes : PhaseGoes program ts s us p end
    pub are : Each (IsLane at number) ys us
    pub shares : Shares q p
    pub waits : All (λ (y : MemberValue). y.stage ≡ stage.Waits) ys → Each CameTo ys us × (end ≡ Still.at_barrier)
    pub ended : All (λ (y : MemberValue). y.stage ≡ stage.Ended) ys → end ≡ Still.at_end

  pub record RegionWent (at : List Step) (number : ℕ) (ys : List MemberValue) (q : Pool) (ts : List SerialTask) (s : Shared) : Type 0 where
    pub us : List SerialTask
    pub p : Shared
    pub goes : RegionGoes program ts s us p Still.at_end
    pub are : Each (IsLane at number) ys us
    pub shares : Shares q p

  -- a lane that waits has come to a barrier, and one that ended to its end
  still_waits : (z : MemberValue) (u : SerialTask) (end : Still) → StillSo z u end → z.stage ≡ stage.Waits → CameTo z u × (end ≡ Still.at_barrier)
  still_waits z u end (inl (waits, is, came)) at = (came, is)
  still_waits z u end (inr (ended, is)) at = absurd (let e : stage.Waits ≡ stage.Ended = sym at ∙ ended in cc)

  still_ended : (z : MemberValue) (u : SerialTask) (end : Still) → StillSo z u end → z.stage ≡ stage.Ended → end ≡ Still.at_end
  still_ended z u end (inl (waits, is, came)) at = absurd (let e : stage.Waits ≡ stage.Ended = sym waits ∙ at in cc)
  still_ended z u end (inr (ended, is)) at = is

  pub still_short : (z : MemberValue) (u : SerialTask) (end : Still) → StillSo z u end → IsTooLong end → ⊥
  still_short z u end (inl (waits, is, came)) long = subst IsTooLong is long
  still_short z u end (inr (ended, is)) long = subst IsTooLong is long

  idle_came : (y : MemberValue) (u : SerialTask) → CameTo y u → CameTo (idle y) u
  idle_came y u c = later_came y u (record { words = []; left = 0 }) c

  idle_lane : (at : List Step) (number : ℕ) (x y : MemberValue) (t u : SerialTask) → IsLane at number x t → IsTask y u → u.path ≡ t.path → y.stand.at ≡ x.stand.at → IsLane at number (idle y) u
  idle_lane at number x y t u l is path stays = record {
    is = later_is y u (record { words = []; left = 0 }) is;
    path = path ∙ (l.path ∙ ap (λ (s : Site). lane_of at number s.lane s.span) (sym stays));
  }

  module _ (at : List Step) (number : ℕ) (x y : MemberValue) (ys : List MemberValue) (q : Pool) (t : SerialTask) (ts : List SerialTask) (s : Shared) (l : IsLane at number x t) (one : Went y t s) (stays : y.stand.at ≡ x.stand.at)
      (tail : TailWent at number ys q ts one.q) where
    head : IsLane at number (idle y) one.u
    head = idle_lane at number x y t one.u l one.is one.path stays

    phase : PhaseGoes program (t ∷ ts) s (one.u ∷ tail.us) tail.p (tail.tell one.end)
    phase = tail.goes t one.u s one.end one.goes (still_short y one.u one.end one.still)

    all_wait : All (λ (y : MemberValue). y.stage ≡ stage.Waits) (idle y ∷ ys) → Each CameTo (idle y ∷ ys) (one.u ∷ tail.us) × (tail.tell one.end ≡ Still.at_barrier)
    all_wait all =
        let first = still_waits y one.u one.end one.still (All-head (λ (y : MemberValue). y.stage ≡ stage.Waits) (idle y) ys all) in
        let rest = tail.waits (All-tail (λ (y : MemberValue). y.stage ≡ stage.Waits) (idle y) ys all) in
        ((idle_came y one.u first.0, rest.0), ap (λ (e : Still). tail.tell e) first.1 ∙ rest.1)

    all_ended : All (λ (y : MemberValue). y.stage ≡ stage.Ended) (idle y ∷ ys) → tail.tell one.end ≡ Still.at_end
    all_ended all =
        ap (λ (e : Still). tail.tell e) (still_ended y one.u one.end one.still (All-head (λ (y : MemberValue). y.stage ≡ stage.Ended) (idle y) ys all))
        ∙ tail.ended (All-tail (λ (y : MemberValue). y.stage ≡ stage.Ended) (idle y) ys all)

    whole_team : TeamWent at number (idle y ∷ ys) q (t ∷ ts) s
    whole_team = record { us = one.u ∷ tail.us; p = tail.p; end = tail.tell one.end; goes = phase; are = (head, tail.are); shares = tail.shares; waits = all_wait; ended = all_ended }

    longer_tail : TailWent at number (idle y ∷ ys) q (t ∷ ts) s
    longer_tail = record {
      us = one.u ∷ tail.us;
      p = tail.p;
      tell = λ end. told end (tail.tell one.end);
      goes = λ first u r end g short. PhaseGoes.lane first u (t ∷ ts) (one.u ∷ tail.us) r s tail.p end (tail.tell one.end) g short phase;
      are = (head, tail.are);
      shares = tail.shares;
      waits = λ all. let w = all_wait all in (w.0, ap (λ (e : Still). told Still.at_barrier e) w.1);
      ended = λ all. ap (λ (e : Still). told Still.at_end e) (all_ended all);
    }

  -- ---- a region

  module _ (path : List Step) (x : MemberValue) (y : Stand) (team : TeamTree) (t : SerialTask) (s : Shared) (same_path : t.path ≡ path) (i : IsTask x t) (c : CameTo x t) (shares : Shares (pool_at x.stand) s)
      (a : Advances layout x.stand y (event kind.Region team.line 0 team.span ∷ []) (fork_at team y.slots ∷ [])) where
    abbrev mark : Record
    mark = event kind.Region team.line 0 team.span

    abbrev fork : model.Fork
    fork = fork_at team y.slots

    abbrev pub t' : SerialTask
    t' = there x t s i shares mark y.progress a.makes (λ words. refl)

    abbrev pub s' : Shared
    s' = all x t s i shares mark y.progress a.makes (λ words. refl)

    forked_is : x.forked ≡ region_count t'.records
    forked_is = i.forked ∙ sym (regions x t s i shares mark y.progress a.makes (λ words. refl))

    come : Comes layout c.first y (t'.records ++ mark ∷ []) (c.forks ++ fork ∷ [])
    come = subst (λ (l : List Record). Comes layout c.first y l (c.forks ++ fork ∷ [])) (records_are x t s i shares mark y.progress a.makes (λ words. refl)) (Comes.goes x.stand y t.records c.forks (mark ∷ []) (fork ∷ []) c.come a)

    b : Begins layout by_log program t.start (t'.records ++ mark ∷ []) (c.forks ++ fork ∷ [])
    b = begins_here layout by_log program t.start c.first y (t'.records ++ mark ∷ []) (c.forks ++ fork ∷ []) c.begun come

    found : slice_get (own_trace program t.start (t'.records ++ mark ∷ [])).forks (region_count t'.records) ≡ Some fork
    found =
        ap₂ (λ (l : List model.Fork) (n : ℕ). slice_get l n) (b.forks_are ∙ append_assoc c.forks (fork ∷ []) b.later) (sym (c.many ∙ sym (regions x t s i shares mark y.progress a.makes (λ words. refl))))
        ∙ get_seam c.forks fork b.later

    pub forks_next : ForksNext program t' s' mark fork
    forks_next = record { makes = record { begun = b.trace; finds = tt; some = some x t s i shares mark y.progress a.makes (λ words. refl) }; is_region = refl; forks = found }

    pub fixed_team : IsFixed team.body
    fixed_team =
        all_at FixedFork (own_trace program t.start (t'.records ++ mark ∷ [])).forks (region_count t'.records) fork
        (forks_fixed program t.start (reads_of (t'.records ++ mark ∷ [])) (chunks_of (t'.records ++ mark ∷ [])) i.fixed) found

    pub lanes_begin : (xs : List MemberValue) → BeginTeam y.at.arrays team y.slots xs → Each (Ready path x.forked) xs (lanes_of t' fork)
    lanes_begin xs begin =
        subst (λ (l : List SerialTask). Each (Ready path x.forked) xs l)
        (ap₂ (λ (at : List Step) (number : ℕ). map (begun_task team y.slots at number fixed_team) (range_with_len 0 team.span)) (sym same_path) forked_is)
        (team_ready team y.slots path x.forked fixed_team xs (subst (λ (l : List Array). BeginTeam l team y.slots xs) (ap (λ (at : Site). at.arrays) a.at ∙ i.arrays) begin))

    pub at_mark : Shares (pool_at y) (after_record s' mark)
    at_mark = record { stands = words x t s i shares mark y.progress a.makes (λ words. refl); left = left x t s i shares mark y.progress a.makes (λ words. refl) }

    module _ (ys : List MemberValue) (p : Pool) (us : List SerialTask) (are : Each (IsLane path x.forked) ys us) where
      abbrev past : SerialTask
      past = past_lanes t' mark us

      below : (past_region path x y ys p).below ≡ map spelled past.below
      below = ap₂ (λ (l m : List WholeLog). l ++ m) i.below (lanes_told path x.forked ys us are) ∙ sym (map-append spelled t.below (flat_map tasks_of us))

      pub past_is : IsTask (past_region path x y ys p) past
      past_is = record {
        log = log x t s i shares mark y.progress a.makes (λ words. refl);
        count = count x t s i shares mark y.progress a.makes (λ words. refl);
        forked = omega (arith, forked_is, regions_both t'.records (mark ∷ []));
        below = below;
        fixed = i.fixed;
        arrays = ap (λ (at : Site). at.arrays) a.at ∙ i.arrays;
      }

      pub past_came : CameTo (past_region path x y ys p) past
      past_came = record {
        first = c.first;
        begun = c.begun;
        forks = c.forks ++ fork ∷ [];
        come = Comes.waits y (t'.records ++ mark ∷ []) (c.forks ++ fork ∷ []) p.words p.left come;
        many = omega (arith, length-append c.forks (fork ∷ []), c.many, regions_both t'.records (mark ∷ []), regions x t s i shares mark y.progress a.makes (λ words. refl));
      }

      pub below_count : length (past_region path x y ys p).below ≡ length past.below
      below_count = ap length below ∙ length-map past.below spelled

  -- ---- whole runs

  mutual
    pub lane_went : (path : List Step) (x : MemberValue) (work : Work) (z : MemberValue) → LaneRuns layout path x work z → (t : SerialTask) (s : Shared) → t.path ≡ path → IsTask x t → CameTo x t → Shares (pool_at x.stand) s → Went z t s
    lane_went _ _ _ _ (LaneRuns.waits path x y line a) t s same i c shares = waits_so x t s i c shares y line a
    lane_went _ _ _ _ (LaneRuns.ends path x y f) t s same i c shares = ends_so x t s i c shares y f
    lane_went _ _ _ _ (LaneRuns.forks path x z y team xs ys p phases more a less begin runs few next) t s same i c shares =
        let one = t' path x y team t s same i c shares a in
        let here = s' path x y team t s same i c shares a in
        let r = event kind.Region team.line 0 team.span in
        let fork = fork_at team y.slots in
        let w = phases_went path x.forked xs (pool_at y) phases ys p runs (lanes_of one fork) (after_record here r) (omega (arith, begin.some, begin.count))
        (lanes_begin path x y team t s same i c shares a xs begin) (at_mark path x y team t s same i c shares a) in
        let later = lane_went path (past_region path x y ys p) more z next (past_lanes one r w.us) w.p same (past_is path x y team t s same i c shares a ys p w.us w.are) (past_came path x y team t s same i c shares a ys p w.us w.are) w.shares in
        let forks = forks_next path x y team t s same i c shares a in
        record {
          end = later.end;
          u = later.u;
          q = later.q;
          goes = before_mark x t s i shares r y.progress a.makes (λ words. refl) later.u later.q later.end forks.makes.begun
              (TaskGoes.passes one later.u here w.p later.q r fork w.us later.end forks w.goes
              (subst (λ (n : ℕ). n ≤ task_limit) (below_count path x y team t s same i c shares a ys p w.us w.are) few) later.goes);
          is = later.is;
          path = later.path;
          shares = later.shares;
          still = later.still;
        }

    tail_went : (at : List Step) (number : ℕ) (xs : List MemberValue) (p : Pool) (works : List Work) (ys : List MemberValue) (q : Pool) → TeamRuns layout at number xs p works ys q
        → (ts : List SerialTask) (s : Shared) → Each (Ready at number) xs ts → Shares p s → TailWent at number ys q ts s
    tail_went _ _ _ _ _ _ _ (TeamRuns.no_lane at number p) [] s ready shares = record {
      us = [];
      p = s;
      tell = λ end. end;
      goes = λ t u r end g short. PhaseGoes.last t u r s end g;
      are = tt;
      shares = shares;
      waits = λ all. (tt, refl);
      ended = λ all. refl;
    }
    tail_went _ _ _ _ _ _ _ (TeamRuns.no_lane at number p) (t ∷ ts) s ready shares = absurd ready
    tail_went _ _ _ _ _ _ _ (TeamRuns.lane at number x y xs ys p q work works l rest) [] s ready shares = absurd ready
    tail_went _ _ _ _ _ _ _ (TeamRuns.lane at number x y xs ys p q work works l rest) (t ∷ ts) s ready shares =
        let one = lane_went (path_in at number x) (later x p) work y l t s ready.0.0.path (later_is x t p ready.0.0.is) (later_came x t p ready.0.1) shares in
        longer_tail at number x y ys q t ts s ready.0.0 one (lane_at layout (path_in at number x) (later x p) work y l) (tail_went at number xs (pool_at y.stand) works ys q rest ts one.q ready.1 one.shares)

    pub team_went : (at : List Step) (number : ℕ) (xs : List MemberValue) (p : Pool) (works : List Work) (ys : List MemberValue) (q : Pool) → TeamRuns layout at number xs p works ys q
        → (ts : List SerialTask) (s : Shared) → 1 ≤ length xs → Each (Ready at number) xs ts → Shares p s → TeamWent at number ys q ts s
    team_went _ _ _ _ _ _ _ (TeamRuns.no_lane at number p) ts s many ready shares = absurd (omega (arith, many))
    team_went _ _ _ _ _ _ _ (TeamRuns.lane at number x y xs ys p q work works l rest) [] s many ready shares = absurd ready
    team_went _ _ _ _ _ _ _ (TeamRuns.lane at number x y xs ys p q work works l rest) (t ∷ ts) s many ready shares =
        let one = lane_went (path_in at number x) (later x p) work y l t s ready.0.0.path (later_is x t p ready.0.0.is) (later_came x t p ready.0.1) shares in
        whole_team at number x y ys q t ts s ready.0.0 one (lane_at layout (path_in at number x) (later x p) work y l) (tail_went at number xs (pool_at y.stand) works ys q rest ts one.q ready.1 one.shares)

    pub phases_went : (at : List Step) (number : ℕ) (xs : List MemberValue) (p : Pool) (phases : Phases) (ys : List MemberValue) (q : Pool) → PhasesRun layout at number xs p phases ys q
        → (ts : List SerialTask) (s : Shared) → 1 ≤ length xs → Each (Ready at number) xs ts → Shares p s → RegionWent at number ys q ts s
    phases_went _ _ _ _ _ _ _ (PhasesRun.last at number xs ys p q works runs all) ts s many ready shares =
        let w = team_went at number xs p works ys q runs ts s many ready shares in
        record {
          us = w.us;
          p = w.p;
          goes = RegionGoes.over ts w.us s w.p Still.at_end (subst (λ (e : Still). PhaseGoes program ts s w.us w.p e) (w.ended all) w.goes) (λ is. cc);
          are = w.are;
          shares = w.shares;
        }
    phases_went _ _ _ _ _ _ _ (PhasesRun.next at number xs ys zs p q r works phases runs all more) ts s many ready shares =
        let w = team_went at number xs p works ys q runs ts s many ready shares in
        let wait = w.waits all in
        let later = phases_went at number ys q phases zs r more w.us w.p (omega (arith, many, team_length layout at number xs p works ys q runs)) (all_ready at number ys w.us w.are wait.0) w.shares in
        record {
          us = later.us;
          p = later.p;
          goes = RegionGoes.next ts w.us later.us s w.p later.p Still.at_end (subst (λ (e : Still). PhaseGoes program ts s w.us w.p e) wait.1 w.goes) later.goes;
          are = later.are;
          shares = later.shares;
        }

-- ---- the root

module _ (layout : ElementLayout) (by_log : layout.bound ≡ OfLog) (program : Program) (lawful : IsLawful program) (fixed : IsFixed program.main.body) (tells : TellsWords program.arrays layout) (left : ℕ) where
  pub is_placed : (w : ℕ) → w < layout.count → layout.words.word (layout.words.address w) ≡ w
  is_placed w less = (of_element layout program lawful tells w less).0

  abbrev pub zeros : Pool
  zeros = record { words = replicate (elements program.arrays) 0; left = left }

  abbrev pub root_task : SerialTask
  root_task = record { path = []; start = root_start program; records = []; below = [] }

  pub begin_shares : Shares layout by_log program is_placed zeros (record { memory = λ addr. 0; left = left })
  begin_shares =
      let a = begin_agrees layout program lawful tells in
      record { stands = record { count = a.count; each = a.each; fits = a.fits }; left = refl }

  pub root_ends : (logs : List WholeLog) (words : List ℕ) → DidRoot layout program left logs words → EndsSerially program layout.words left logs words
  root_ends logs words r =
      let so = starts_so layout by_log program is_placed program.main (replicate program.slots (pos 0)) fixed [] 0 r.before r.begins in
      let w = lane_went layout by_log program is_placed [] (later r.before zeros) r.work r.after r.runs root_task (record { memory = λ addr. 0; left = left }) refl
      (later_is layout by_log program is_placed r.before root_task zeros so.0) (later_came layout by_log program is_placed r.before root_task zeros so.1) begin_shares in
      record {
        tasks = tasks_of w.u;
        memory = w.q.memory;
        goes = record {
          root = w.u;
          left = w.q.left;
          goes = subst (λ (e : Still). TaskGoes program root_task (record { memory = λ addr. 0; left = left }) w.u w.q e) (still_ended layout by_log program is_placed r.after w.u w.end w.still r.ended) w.goes;
          tasks_are = refl;
        };
        logs_are = r.logs_are ∙ (λ j. record { path = sym w.path j; bytes = w.is.log j; count = w.is.count j } ∷ w.is.below j);
        words_are = λ n less.
            subst (λ (l : List ℕ). slice_index l n ≡ w.q.memory (layout.words.address n)) (sym r.words_are)
            (w.shares.stands.each n (omega (arith, less, ap length r.words_are, w.shares.stands.count)));
      }
