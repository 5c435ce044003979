-- Each step of a serial run finds the words as the steps before it left them.
use Rattle.std.proofs.Common.{◌≡◌, refl, ap, sym, ◌∙◌, subst, ◌⊎◌, inl, inr, ℕ, suc, ◌+◌, ◌<◌, Bool, true, false, cond, List, [], ◌∷◌, ◌++◌, length, map, append_assoc, arith}
use Rattle.std.specs.Prelude.{slice_index, slice_set, ◌==◌}
use Rattle.std.proofs.lemmas.Bool.Decides.{nat_tests}
use Rattle.std.proofs.lemmas.Grind.{get_or-set_at}
use Rattle.std.proofs.lemmas.List.{append-nil, get_or-set_other, length-set}
use Rattle.sw_base.specs.declared.path.Step.{Step}
use Rattle.log_format.specs.Fitting.{CanHave}
use Rattle.log_format.specs.declared.record.Record.{Record}
use Rattle.log_format.specs.declared.record.Kind.{Kind}
use Rattle.log_format.specs.declared.record.Kind.TheVariants as kind
use Rattle.kernel_model.specs.State.{event}
use Rattle.step_history.specs.declared.item.Item.{Item}
use Rattle.step_history.specs.declared.item.Deed.TheVariants as deed
use Rattle.step_history.specs.History.{Name, item, value_at, value_after}
use Rattle.step_history.proofs.Folds.{value_more}
use Rattle.history_model.specs.Work.{Work, Rest, Put, Fork, Phases, NoPhase, Phase, TeamWork, NoWork, Beside}
use Rattle.history_model.specs.Did.{deeds_of, lane_count_of, phase_splits, splits_of, did, did_phases, did_team}
use Rattle.serial_model.specs.Serial.{FindSo}
use Rattle.serial_run.specs.Going.{FindsValue, words_after, Finds, ArePlain}
use Rattle.serial_run.specs.Placing.{ElementLayout}
use Rattle.serial_team.specs.Members.{Pool, pool_at, MemberValue, later, path_in}
use Rattle.serial_team.specs.Running.{whole_value, put_all, beside, past_region, LaneRuns, TeamRuns, PhasesRun}
use Rattle.serial_laws.proofs.Puts.{barrier_still, end_still, plain_finds, puts_mark}

-- the words are those that these steps leave, each with a value of its element
pub record Agrees (layout : ElementLayout) (words : List ℕ) (before : List Item) : Type 0 where
  pub count : length words ≡ layout.count
  pub each : (w : ℕ) → w < layout.count → slice_index words w ≡ value_at w before
  pub fits : (w : ℕ) → w < layout.count → CanHave (layout.words.width w) (slice_index words w)

find_both : (before xs ys : List Item) → FindSo before xs → FindSo (before ++ xs) ys → FindSo before (xs ++ ys)
find_both before [] ys one other = subst (λ (h : List Item). FindSo h ys) (append-nil before) other
find_both before (x ∷ xs) ys one other = (one.0, find_both (before ++ x ∷ []) xs ys one.1 (subst (λ (h : List Item). FindSo h ys) (sym (append_assoc before (x ∷ []) xs)) other))

module _ (layout : ElementLayout) where
  -- the steps find the old words, and leave the new ones
  abbrev pub Does : List ℕ → List Item → List ℕ → Type 0
  Does old items new = (before : List Item) → Agrees layout old before → FindSo before items × Agrees layout new (before ++ items)

  pub does_none : (words : List ℕ) → Does words [] words
  does_none words before a = (tt, subst (Agrees layout words) (sym (append-nil before)) a)

  pub does_both : (a b c : List ℕ) (xs ys : List Item) → Does a xs b → Does b ys c → Does a (xs ++ ys) c
  does_both a b c xs ys one other before agrees =
      let first = one before agrees in
      let second = other (before ++ xs) first.1 in
      (find_both before xs ys first.0 second.0, subst (Agrees layout c) (append_assoc before xs ys) second.1)

  -- a step that changes no word
  still_agrees : (words : List ℕ) (before : List Item) (x : Item) → ((w v : ℕ) → value_after w x.deed v ≡ v) → Agrees layout words before → Agrees layout words (before ++ x ∷ [])
  still_agrees words before x still a = record { count = a.count; each = λ w less. a.each w less ∙ sym (value_more w before x ∙ still w (value_at w before)); fits = a.fits }

  does_splits : (words : List ℕ) (name : Name) (k at span : ℕ) (team : TeamWork) → Does words (splits_of name k at span team) words
  does_splits words name k at span NoWork = does_none words
  does_splits words name k at span (Beside work others) =
      does_both words words words (item name (deed.Split k at span) ∷ []) (splits_of name (suc k) (suc at) span others)
      (λ before a. ((tt, tt), still_agrees words before (item name (deed.Split k at span)) (λ w v. refl) a)) (does_splits words name (suc k) (suc at) span others)

  does_home : (words : List ℕ) (name : Name) (k : ℕ) → Does words (item name (deed.Home k) ∷ []) words
  does_home words name k before a = ((tt, tt), still_agrees words before (item name (deed.Home k)) (λ w v. refl) a)

  -- ---- records

  module _ (r : Record) (words : List ℕ) (name : Name) (before : List Item) (f : FindsValue layout kind.Write r words) (a : Agrees layout words before) where
    abbrev place : ℕ
    place = layout.words.word r.addr

    abbrev step : Item
    step = item name (deed.Write place r.value)

    here : (w : ℕ) → (place == w) ≡ true → slice_index (slice_set words place r.value) w ≡ r.value
    here w is = get_or-set_at words place w r.value 0 (let e : w ≡ place = grind (arith, nat_tests) in e) (let inside = f.0.within in omega (arith, a.count))

    there : (w : ℕ) → (place == w) ≡ false → slice_index (slice_set words place r.value) w ≡ slice_index words w
    there w is = get_or-set_other words place w r.value 0 (λ e. let same : w ≡ place = e in grind (arith, nat_tests))

    each_agrees : (w : ℕ) → w < layout.count → (b : Bool) → (place == w) ≡ b → slice_index (slice_set words place r.value) w ≡ value_at w (before ++ step ∷ [])
    each_agrees w less true is = here w is ∙ sym (value_more w before step ∙ ap (λ (b : Bool). cond b r.value (value_at w before)) is)
    each_agrees w less false is = there w is ∙ a.each w less ∙ sym (value_more w before step ∙ ap (λ (b : Bool). cond b r.value (value_at w before)) is)

    each_fits : (w : ℕ) → w < layout.count → (b : Bool) → (place == w) ≡ b → CanHave (layout.words.width w) (slice_index (slice_set words place r.value) w)
    each_fits w less true is =
        let same : place ≡ w = grind (arith, nat_tests) in
        subst (λ (v : ℕ). CanHave (layout.words.width w) v) (sym (here w is))
        (subst (λ (n : ℕ). CanHave n r.value) (f.0.element.size ∙ ap (λ (n : ℕ). layout.words.width n) same) f.1)
    each_fits w less false is = subst (λ (v : ℕ). CanHave (layout.words.width w) v) (sym (there w is)) (a.fits w less)

    stored : Agrees layout (slice_set words place r.value) (before ++ step ∷ [])
    stored = record {
      count = length-set words place r.value ∙ a.count;
      each = λ w less. each_agrees w less (place == w) refl;
      fits = λ w less. each_fits w less (place == w) refl;
    }

  abbrev Deeds : Kind → Record → List ℕ → Name → List Item
  Deeds k r words name = map (item name) (deeds_of layout.words.word k (record r { kind = k; value = whole_value layout k r words }))

  does_access : (k : Kind) (r : Record) (words : List ℕ) (name : Name) → (k ≡ kind.Read) ⊎ (k ≡ kind.Write) → FindsValue layout k r words → Does words (Deeds k r words name) (words_after layout k r words)
  does_access k r words name (inl is) =
      subst (λ (k : Kind). FindsValue layout k r words → Does words (Deeds k r words name) (words_after layout k r words)) (sym is)
      (λ f before a. ((a.each (layout.words.word r.addr) f.0.within, tt), still_agrees words before (item name (deed.Read (layout.words.word r.addr) (slice_index words (layout.words.word r.addr)))) (λ w v. refl) a))
  does_access k r words name (inr is) =
      subst (λ (k : Kind). FindsValue layout k r words → Does words (Deeds k r words name) (words_after layout k r words)) (sym is)
      (λ f before a. ((tt, tt), stored r words name before f a))

  pub does_puts : (rs : List Record) (old mid new : List ℕ) (name : Name) (k : ℕ) (more : Work) → ArePlain rs → Finds layout rs old mid → Does mid (did layout.words.word name k more) new
      → Does old (did layout.words.word name k (put_all layout old rs more)) new
  does_puts [] old mid new name k more plain f later = subst (λ (words : List ℕ). Does words (did layout.words.word name k more) new) f later
  does_puts (r ∷ rs) old mid new name k more plain f later =
      let words = words_after layout r.kind r old in
      does_both old words new (Deeds r.kind r old name) (did layout.words.word name k (put_all layout words rs more))
      (does_access r.kind r old name plain.0 f.0) (does_puts rs words mid new name k more plain.1 f.1 later)

  -- ---- tasks

  phase_does : (name : Name) (k span : ℕ) (works : List Work) (old new : List ℕ) → Does old (did_team layout.words.word name k (beside works)) new
      → Does old (splits_of name k 0 span (beside works) ++ did_team layout.words.word name k (beside works)) new
  phase_does name k span works old new team =
      does_both old old new (splits_of name k 0 span (beside works)) (did_team layout.words.word name k (beside works)) (does_splits old name k 0 span (beside works)) team

  -- a lane, and those after it
  pub joins : (name : Name) (k : ℕ) (work : Work) (works : List Work) (a b c : List ℕ) → Does a (did layout.words.word (k ∷ name) 0 work) b → Does b (did_team layout.words.word name (suc k) (beside works)) c
      → Does a (did_team layout.words.word name k (beside (work ∷ works))) c
  joins name k work works a b c one rest =
      does_both a b c (did layout.words.word (k ∷ name) 0 work) (item name (deed.Home k) ∷ did_team layout.words.word name (suc k) (beside works)) one
      (does_both b b c (item name (deed.Home k) ∷ []) (did_team layout.words.word name (suc k) (beside works)) (does_home b name k) rest)

  -- a phase, and those after it
  pub follows : (name : Name) (k span : ℕ) (works : List Work) (phases : Phases) (a b c : List ℕ) → Does a (did_team layout.words.word name k (beside works)) b
      → Does b (did_phases layout.words.word name (k + lane_count_of (beside works)) span phases) c → Does a (did_phases layout.words.word name k span (Phase (beside works) phases)) c
  follows name k span works phases a b c one rest =
      does_both a b c (splits_of name k 0 span (beside works) ++ did_team layout.words.word name k (beside works)) (did_phases layout.words.word name (k + lane_count_of (beside works)) span phases)
      (phase_does name k span works a b one) rest

  mutual
    pub lane_does : (name : Name) (k : ℕ) (path : List Step) (x : MemberValue) (work : Work) (z : MemberValue) → LaneRuns layout path x work z
        → Does x.stand.progress.words (did layout.words.word name k work) z.stand.progress.words
    lane_does name k _ _ _ _ (LaneRuns.waits path x y line a) =
        let mark = event kind.Barrier line 0 0 in
        subst (λ (w : Work). Does x.stand.progress.words (did layout.words.word name k w) y.progress.words) (sym (puts_mark layout x.stand.progress y.progress mark a.makes Rest (barrier_still layout line)))
        (does_puts a.makes.plain x.stand.progress.words y.progress.words y.progress.words name k (Put mark Rest) a.makes.plain_is
        (plain_finds layout x.stand.progress y.progress mark a.makes (λ words. refl)) (does_none y.progress.words))
    lane_does name k _ _ _ _ (LaneRuns.ends path x y f) =
        let mark = event kind.End x.stand.end 0 0 in
        subst (λ (w : Work). Does x.stand.progress.words (did layout.words.word name k w) y.progress.words) (sym (puts_mark layout x.stand.progress y.progress mark f.makes Rest (end_still layout x.stand.end)))
        (does_puts f.makes.plain x.stand.progress.words y.progress.words y.progress.words name k (Put mark Rest) f.makes.plain_is
        (plain_finds layout x.stand.progress y.progress mark f.makes (λ words. refl)) (does_none y.progress.words))
    lane_does name k _ _ _ _ (LaneRuns.forks path x z y team xs ys p phases more a less begin runs few rest) =
        does_puts a.makes.plain x.stand.progress.words y.progress.words z.stand.progress.words name k (Fork team.line team.span phases more) a.makes.plain_is
        (plain_finds layout x.stand.progress y.progress (event kind.Region team.line 0 team.span) a.makes (λ words. refl))
        (does_both y.progress.words p.words z.stand.progress.words (did_phases layout.words.word name k team.span phases) (did layout.words.word name (k + phase_splits phases) more)
        (phases_do name k team.span path x.forked xs (pool_at y) phases ys p runs)
        (lane_does name (k + phase_splits phases) path (past_region path x y ys p) more z rest))

    pub team_does : (name : Name) (k : ℕ) (at : List Step) (number : ℕ) (xs : List MemberValue) (p : Pool) (works : List Work) (ys : List MemberValue) (q : Pool) → TeamRuns layout at number xs p works ys q
        → Does p.words (did_team layout.words.word name k (beside works)) q.words
    team_does name k _ _ _ _ _ _ _ (TeamRuns.no_lane at number p) = does_none p.words
    team_does name k _ _ _ _ _ _ _ (TeamRuns.lane at number x y xs ys p q work works l t) =
        joins name k work works p.words y.stand.progress.words q.words (lane_does (k ∷ name) 0 (path_in at number x) (later x p) work y l) (team_does name (suc k) at number xs (pool_at y.stand) works ys q t)

    pub phases_do : (name : Name) (k span : ℕ) (at : List Step) (number : ℕ) (xs : List MemberValue) (p : Pool) (phases : Phases) (ys : List MemberValue) (q : Pool) → PhasesRun layout at number xs p phases ys q
        → Does p.words (did_phases layout.words.word name k span phases) q.words
    phases_do name k span _ _ _ _ _ _ _ (PhasesRun.last at number xs ys p q works t all) =
        follows name k span works NoPhase p.words q.words q.words (team_does name k at number xs p works ys q t) (does_none q.words)
    phases_do name k span _ _ _ _ _ _ _ (PhasesRun.next at number xs ys zs p q r works phases t all more) =
        follows name k span works phases p.words q.words r.words (team_does name k at number xs p works ys q t)
        (phases_do name (k + lane_count_of (beside works)) span at number ys q phases zs r more)
