-- Where two lanes of a team pass barriers of one number, what comes after one begins when the other is reached.
use Rattle.std.proofs.Common.{◌≡◌, ◌⊎◌, inl, inr, refl, sym, ap, ◌∙◌, ℕ, zero, suc, ◌+◌, ◌<◌, ◌≤◌, cond, List, [], ◌∷◌, ◌++◌, length, map, take, Some, arith}
use Rattle.std.specs.Prelude.{slice_get}
use Rattle.std.proofs.lemmas.List.{map-append, take-append-le, take-map}
use Rattle.std.proofs.lemmas.List.Sums.{sum_by-append}
use Rattle.std.proofs.lemmas.Option.{same_Some, slice_get_within}
use Rattle.sw_base.specs.declared.path.Step.{Step}
use Rattle.sw_base.proofs.Lists.{get_right}
use Rattle.log_format.specs.declared.record.Record.{Record}
use Rattle.log_format.specs.declared.record.Kind.{Kind}
use Rattle.log_format.specs.declared.record.Kind.TheVariants.{Barrier, Region}
use Rattle.race_model.specs.Listing.{lane_of}
use Rattle.race_model.specs.Trace.{barrier_count, is_barrier_kind}
use Rattle.history_model.specs.Work.{Rest, NoPhase}
use Rattle.history_model.specs.Did.{lane_count_of}
use Rattle.history_model.specs.Sound.{WordLayout, IsSound, ArePhasesSound, IsTeamSound, PassesBarrier}
use Rattle.history_laws.proofs.LabelledWork.{Marked, records_at, regions_at}
use Rattle.history_laws.proofs.TimedWork.{TimedWork, TimedRest, TimedPut, TimedFork, TimedPhases, TimedNone, TimedPhase, TimedTeam, TimedEmpty, TimedBeside, plain, plain_phases, plain_team, ArePhasesTimed}
use Rattle.history_laws.proofs.Windows.{get_either}
use Rattle.history_laws.proofs.Acts.{Act, Plain, Forks, act_record, act_from, act_until, acts_of, acts_at, lane_acts, phase_acts, lane_timed, records_of}
use Rattle.history_laws.proofs.ActsOrder.{within}

abbrev barriers_in : List Act → ℕ
barriers_in acts = barrier_count (map act_record acts)

barriers-append : (xs ys : List Act) → barriers_in (xs ++ ys) ≡ barriers_in xs + barriers_in ys
barriers-append xs ys = ap (λ (rs : List Record). barrier_count rs) (map-append act_record xs ys) ∙ sum_by-append (λ (r : Record). cond (is_barrier_kind r.kind) 1 0) (map act_record xs) (map act_record ys)

one_barrier : (a : Act) → (act_record a).kind ≡ Barrier → barriers_in (a ∷ []) ≡ 1
one_barrier a is = ap (λ (k : Kind). 0 + cond (is_barrier_kind k) 1 0) is

-- the last of a list, and what is taken of two lists
pub last_of : {X : Type 0} (xs : List X) (n : ℕ) (x : X) → slice_get xs n ≡ Some x → suc n ≡ length xs → xs ≡ take n xs ++ x ∷ []
last_of [] n x found last = cc
last_of (y ∷ []) zero x found last = ap (λ (z : _). z ∷ []) (same_Some y x found)
last_of (y ∷ z ∷ xs) zero x found last = absurd (omega arith)
last_of (y ∷ xs) (suc n) x found last = ap (λ (zs : _). y ∷ zs) (last_of xs n x found (omega arith))

pub take_past : {X : Type 0} (xs ys : List X) (n : ℕ) → take (length xs + n) (xs ++ ys) ≡ xs ++ take n ys
take_past [] ys n = ap (λ (k : ℕ). take k ys) (let e : 0 + n ≡ n = omega arith in e)
take_past (x ∷ xs) ys n = ap (λ (k : ℕ). take k (x ∷ xs ++ ys)) (let e : suc (length xs) + n ≡ suc (length xs + n) = omega arith in e) ∙ ap (λ (zs : _). x ∷ zs) (take_past xs ys n)

-- a barrier is the last of its work
no_acts : (work : TimedWork) → plain work ≡ Rest → acts_of work ≡ []
no_acts TimedRest same = refl
no_acts (TimedPut r from until more) same = cc
no_acts (TimedFork line span from until phases more) same = cc

barrier_last : (layout : WordLayout) (work : TimedWork) (n : ℕ) (a : Act) → IsSound layout (plain work) → slice_get (acts_of work) n ≡ Some a → (act_record a).kind ≡ Barrier → suc n ≡ length (acts_of work)
barrier_last layout TimedRest n a sound found is = cc
barrier_last layout (TimedPut r from until more) zero a sound found is =
    let kind : r.kind ≡ Barrier = ap (λ (b : Act). (act_record b).kind) (same_Some (Plain r from until) a found) ∙ is in
    ap (λ (xs : List Act). suc (length xs)) (sym (no_acts more (sound.1 kind)))
barrier_last layout (TimedPut r from until more) (suc n) a sound found is = ap (λ (m : ℕ). suc m) (barrier_last layout more n a sound.2 found is)
barrier_last layout (TimedFork line span from until phases more) zero a sound found is =
    let kind : Region ≡ Barrier = ap (λ (b : Act). (act_record b).kind) (same_Some (Forks line span from until phases) a found) ∙ is in cc
barrier_last layout (TimedFork line span from until phases more) (suc n) a sound found is = ap (λ (m : ℕ). suc m) (barrier_last layout more n a sound.1 found is)

team_barrier_last : (layout : WordLayout) (lane : ℕ) (team : TimedTeam) (n : ℕ) (a : Act) → IsTeamSound layout (plain_team team) → slice_get (acts_at lane team) n ≡ Some a → (act_record a).kind ≡ Barrier
    → suc n ≡ length (acts_at lane team)
team_barrier_last layout lane TimedEmpty n a sound found is = cc
team_barrier_last layout zero (TimedBeside work others) n a sound found is = barrier_last layout work n a sound.0 found is
team_barrier_last layout (suc lane) (TimedBeside work others) n a sound found is = team_barrier_last layout lane others n a sound.1 found is

passes_one : (lane : ℕ) (team : TimedTeam) → lane < lane_count_of (plain_team team) → PassesBarrier (plain_team team) → barriers_in (acts_at lane team) ≡ 1
passes_one lane TimedEmpty less passes = absurd (omega arith)
passes_one zero (TimedBeside work others) less passes = ap (λ (rs : List Record). barrier_count rs) (records_of work) ∙ passes.0
passes_one (suc lane) (TimedBeside work others) less passes = passes_one lane others (omega arith) passes.1

no_later : (lane : ℕ) (later : TimedPhases) (n : ℕ) (a : Act) → slice_get (lane_acts lane later) n ≡ Some a → plain_phases later ≡ NoPhase → ⊥
no_later lane TimedNone n a found none = cc
no_later lane (TimedPhase team later) n a found none = cc

module _ (history : List Marked) (layout : WordLayout) where
  -- a lane's barrier in a phase, and what follows the barrier of that number in another lane
  record Meeting (span lane other : ℕ) (phases : TimedPhases) (b c : ℕ) (x z y : Act) : Type 0 where
    reached : slice_get (lane_acts lane phases) b ≡ Some x
    is_barrier : (act_record x).kind ≡ Barrier
    met : slice_get (lane_acts other phases) c ≡ Some z
    meets : (act_record z).kind ≡ Barrier
    after : slice_get (lane_acts other phases) (suc c) ≡ Some y
    same_number : barriers_in (take b (lane_acts lane phases)) ≡ barriers_in (take c (lane_acts other phases))
    in_team : lane < span
    other_in_team : other < span

  module _ (path : List Step) (g span : ℕ) (put forked : ℕ → ℕ) (start end : ℕ) (team : TimedTeam) (later : TimedPhases) (lane other : ℕ)
      (timed : ArePhasesTimed history path g span put forked start end (TimedPhase team later)) (sound : ArePhasesSound layout span (plain_phases (TimedPhase team later))) where
    met_at : ℕ
    met_at = timed.0

    abbrev mine : List Act
    mine = acts_at lane team

    abbrev others : List Act
    others = acts_at other team

    -- what a lane does in this phase is done by its end, and what it does later begins then
    by_end : (l n : ℕ) (a : Act) → slice_get (acts_at l team) n ≡ Some a → act_until a ≤ met_at
    unfolding met_at
    by_end l n a found = (within history (lane_of path g l span) (put l) (forked l) start timed.0 (acts_at l team) n a (phase_acts history path g span put forked l start timed.0 team timed.1) found).by

    from_end : (l n : ℕ) (a : Act) → slice_get (lane_acts l later) n ≡ Some a → met_at ≤ act_from a
    unfolding met_at
    from_end l n a found =
        (within history (lane_of path g l span) (put l + records_at l (plain_team team)) (forked l + regions_at l (plain_team team)) timed.0 end (lane_acts l later) n a
        (lane_timed history path g span (λ m. put m + records_at m (plain_team team)) (λ m. forked m + regions_at m (plain_team team)) l timed.0 end later timed.2) found).since

    -- the record after a barrier of this phase stands in a later one
    after_barrier : (c : ℕ) (z y : Act) → slice_get others c ≡ Some z → (act_record z).kind ≡ Barrier → slice_get (others ++ lane_acts other later) (suc c) ≡ Some y → slice_get (lane_acts other later) 0 ≡ Some y
    after_barrier c z y here is found =
        sym (get_right others (lane_acts other later) 0)
        ∙ ap (λ (n : ℕ). slice_get (others ++ lane_acts other later) n) (let last = team_barrier_last layout other team c z sound.1 here is in let e : length others + 0 ≡ suc c = omega arith in e)
        ∙ found

    later_from_end : (c : ℕ) (z y : Act) → slice_get (others ++ lane_acts other later) c ≡ Some z → (act_record z).kind ≡ Barrier → slice_get (others ++ lane_acts other later) (suc c) ≡ Some y → met_at ≤ act_from y
    later_from_end c z y found is next = at (get_either others (lane_acts other later) c z found) where
      at : (slice_get others c ≡ Some z) ⊎ ((m : ℕ) × (c ≡ length others + m) × (slice_get (lane_acts other later) m ≡ Some z)) → met_at ≤ act_from y
      at (inl here) = from_end other 0 y (after_barrier c z y here is next)
      at (inr (m, same, there)) =
          from_end other (suc m) y (sym (get_right others (lane_acts other later) (suc m)) ∙ ap (λ (n : ℕ). slice_get (others ++ lane_acts other later) n) (let e : length others + suc m ≡ suc c = omega arith in e) ∙ next)

    -- in a phase before a later one each lane passes one barrier
    passes : (n : ℕ) (a : Act) → slice_get (lane_acts lane later) n ≡ Some a → PassesBarrier (plain_team team)
    passes n a found = at sound.2 where
      at : (plain_phases later ≡ NoPhase) ⊎ PassesBarrier (plain_team team) → PassesBarrier (plain_team team)
      at (inl none) = absurd (no_later lane later n a found none)
      at (inr passed) = passed

    one_step : (b c : ℕ) (x z y : Act) → Meeting span lane other (TimedPhase team later) b c x z y
        → ((b2 c2 : ℕ) → Meeting span lane other later b2 c2 x z y → act_until x ≤ act_from y) → act_until x ≤ act_from y
    one_step b c x z y m earlier = at (get_either mine (lane_acts lane later) b x m.reached) where
      at : (slice_get mine b ≡ Some x) ⊎ ((n : ℕ) × (b ≡ length mine + n) × (slice_get (lane_acts lane later) n ≡ Some x)) → act_until x ≤ act_from y
      at (inl here) = let done = by_end lane b x here in let begins = later_from_end c z y m.met m.meets m.after in omega arith
      at (inr (n, b_is, there)) = across (get_either others (lane_acts other later) c z m.met)
        where
          passed : PassesBarrier (plain_team team)
          passed = passes n x there

          my_one : barriers_in mine ≡ 1
          my_one = passes_one lane team (omega (arith, sound.0, m.in_team)) passed

          your_one : barriers_in others ≡ 1
          your_one = passes_one other team (omega (arith, sound.0, m.other_in_team)) passed

          my_count : barriers_in (take b (mine ++ lane_acts lane later)) ≡ 1 + barriers_in (take n (lane_acts lane later))
          my_count =
              ap (λ (k : ℕ). barriers_in (take k (mine ++ lane_acts lane later))) b_is
              ∙ ap (λ (xs : List Act). barriers_in xs) (take_past mine (lane_acts lane later) n)
              ∙ barriers-append mine (take n (lane_acts lane later))
              ∙ ap (λ (k : ℕ). k + barriers_in (take n (lane_acts lane later))) my_one

          across : (slice_get others c ≡ Some z) ⊎ ((k : ℕ) × (c ≡ length others + k) × (slice_get (lane_acts other later) k ≡ Some z)) → act_until x ≤ act_from y
          across (inl here) =
              let last = team_barrier_last layout other team c z sound.1 here m.meets in
              let none : barriers_in (take c (others ++ lane_acts other later)) ≡ barriers_in (take c others)
              = ap (λ (xs : List Act). barriers_in xs) (take-append-le c others (lane_acts other later) (omega (arith, slice_get_within others c z here))) in
              let parts : barriers_in others ≡ barriers_in (take c others) + barriers_in (z ∷ []) = ap (λ (xs : List Act). barriers_in xs) (last_of others c z here last) ∙ barriers-append (take c others) (z ∷ []) in
              absurd (omega (arith, my_count, your_one, one_barrier z m.meets, m.same_number))
          across (inr (k, c_is, later_there)) = earlier n k (record {
            reached = there;
            is_barrier = m.is_barrier;
            met = later_there;
            meets = m.meets;
            after = sym (get_right others (lane_acts other later) (suc k)) ∙ ap (λ (j : ℕ). slice_get (others ++ lane_acts other later) j) (let e : length others + suc k ≡ suc c = omega arith in e) ∙ m.after;
            same_number = same;
            in_team = m.in_team;
            other_in_team = m.other_in_team;
          })
            where
              your_count : barriers_in (take c (others ++ lane_acts other later)) ≡ 1 + barriers_in (take k (lane_acts other later))
              your_count =
                  ap (λ (j : ℕ). barriers_in (take j (others ++ lane_acts other later))) c_is
                  ∙ ap (λ (xs : List Act). barriers_in xs) (take_past others (lane_acts other later) k)
                  ∙ barriers-append others (take k (lane_acts other later))
                  ∙ ap (λ (j : ℕ). j + barriers_in (take k (lane_acts other later))) your_one

              same : barriers_in (take n (lane_acts lane later)) ≡ barriers_in (take k (lane_acts other later))
              same = omega (arith, my_count, your_count, m.same_number)

  meeting : (path : List Step) (g span : ℕ) (put forked : ℕ → ℕ) (start end : ℕ) (phases : TimedPhases) (lane other b c : ℕ) (x z y : Act)
      → ArePhasesTimed history path g span put forked start end phases → ArePhasesSound layout span (plain_phases phases) → Meeting span lane other phases b c x z y → act_until x ≤ act_from y
  meeting path g span put forked start end TimedNone lane other b c x z y timed sound m = let none = m.reached in cc
  meeting path g span put forked start end (TimedPhase team later) lane other b c x z y timed sound m =
      one_step path g span put forked start end team later lane other timed sound b c x z y m
      (λ b2 c2 rest. meeting path g span (λ l. put l + records_at l (plain_team team)) (λ l. forked l + regions_at l (plain_team team)) timed.0 end later lane other b2 c2 x z y timed.2 sound.3 rest)

  -- the record after a barrier begins when each barrier of that number was reached
  pub barrier_order : (path : List Step) (g span : ℕ) (put forked : ℕ → ℕ) (start end : ℕ) (phases : TimedPhases) (lane other b c : ℕ) (x z y : Act)
      → ArePhasesTimed history path g span put forked start end phases → ArePhasesSound layout span (plain_phases phases) → lane < span → other < span
      → slice_get (lane_acts lane phases) b ≡ Some x → (act_record x).kind ≡ Barrier → slice_get (lane_acts other phases) c ≡ Some z → (act_record z).kind ≡ Barrier
      → slice_get (lane_acts other phases) (suc c) ≡ Some y
      → barrier_count (take b (map act_record (lane_acts lane phases))) ≡ barrier_count (take c (map act_record (lane_acts other phases)))
      → act_until x ≤ act_from y
  barrier_order path g span put forked start end phases lane other b c x z y timed sound less other_less reached is met meets after same =
      meeting path g span put forked start end phases lane other b c x z y timed sound (record {
        reached = reached;
        is_barrier = is;
        met = met;
        meets = meets;
        after = after;
        same_number = ap (λ (rs : List Record). barrier_count rs) (sym (take-map act_record b (lane_acts lane phases))) ∙ same ∙ ap (λ (rs : List Record). barrier_count rs) (take-map act_record c (lane_acts other phases));
        in_team = less;
        other_in_team = other_less;
      })
