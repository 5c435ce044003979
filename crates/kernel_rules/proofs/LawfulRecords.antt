-- What a lawful body records where it ends: which mutexes are held, and which regions it forks.
use Rattle.std.proofs.Common.{◌≡◌, refl, ap, sym, ◌∙◌, subst, ℕ, zero, suc, ◌+◌, ◌*◌, ◌<◌, ◌≤◌, arith, Bool, true, false, cond, nat_lt, List, [], ◌∷◌, ◌++◌, append_assoc, length, ℤ, pos, negsuc, ◌+ℤ◌, Option, Some, None, All, true≢false}
use Rattle.std.specs.Prelude.{◌||◌, map, filter, not, ◌==◌, Contains}
use Rattle.std.proofs.lemmas.List.{append-nil, map-append}
use Rattle.std.proofs.lemmas.List.Elements.{filter_map-append, All-nil, All-cons, All-append, All-head, All-tail}
use Rattle.std.specs.List.{filter_map, cons_option}
use Rattle.std.proofs.lemmas.Bool.Decides.{nat_tests}
use Rattle.log_format.specs.declared.record.Record.{Record}
use Rattle.log_format.specs.declared.record.Kind.{Kind}
use Rattle.log_format.specs.declared.record.Kind.TheVariants as kind
use Rattle.race_model.specs.Race.{held_after_kind}
use Rattle.kernel_syntax.specs.declared.syntax.Schedule.{Schedule}
use Rattle.kernel_syntax.specs.declared.syntax.Schedule.TheVariants.{Even, Static, Dynamic}
use Rattle.kernel_syntax.specs.Bounds.{IsSpan, IsBoundedCode}
use Rattle.kernel_syntax.specs.Tree.{Term, Code, TeamTree, Done, Set, Store, Update, If, Loop, Parallel, For, Barrier, Critical}
use Rattle.kernel_model.specs.State.{State, Fork, Outcome, Gives, Stops, Wants, and_then, after, put, put_in, event, assign, state_of}
use Rattle.kernel_model.specs.Value.{Site, element_at, value}
use Rattle.kernel_model.specs.Iterations.{total_of, even_iterations, static_iterations, chunk_count, chunk_iterations}
use Rattle.kernel_model.specs.Trace.{stored, updated, amount_of, branch, turns, each, draw, draws, shared, loop_end, forked, run}
use Rattle.kernel_model.specs.Lawful.{code_holds_work, IsEven, IsNested}
use Rattle.kernel_model.proofs.SingleSteps.{KeepsPlainSteps, KeepsUpdates}
use Rattle.kernel_model.proofs.Steps.{kept-value, kept-stored, kept-updated, kept-draw}

-- ---- teams

-- a team that lies so many regions deep
pub record IsLawfulTeam (mutexes regions : ℕ) (team : TeamTree) : Type 0 where
  pub lanes : ℕ
  pub few : lanes ≤ 64
  pub shallow : regions ≤ 4
  pub even : IsEven team.body
  pub nested : IsNested mutexes regions lanes [] team.body
  pub bounded : IsBoundedCode team.body

-- a region that such a team forks
pub record IsLawfulFork (mutexes regions : ℕ) (fork : Fork) : Type 0 where
  pub span : IsSpan fork.team.span
  pub inside : IsLawfulTeam mutexes regions fork.team

-- ---- records

-- a record that may follow where these mutexes are held
abbrev pub FitsHeld : Kind → ℕ → List ℕ → Type 0
FitsHeld kind.Lock m held = (Contains held m → ⊥) × (length held < 8)
FitsHeld kind.Unlock m held = (outer : List ℕ) × (held ≡ outer ++ m ∷ [])
FitsHeld kind.Barrier m held = held ≡ []
FitsHeld kind.Region m held = held ≡ []
FitsHeld kind.End m held = ⊥
FitsHeld _ m held = Unit {0}

-- records one after another, from these mutexes held to those
abbrev pub Keep : List ℕ → List Record → List ℕ → Type 0
Keep held [] last = held ≡ last
Keep held (r ∷ records) last = FitsHeld r.kind r.addr held × Keep (held_after_kind r.kind r.addr held) records last

keep_append : (held middle last : List ℕ) (xs ys : List Record) → Keep held xs middle → Keep middle ys last → Keep held (xs ++ ys) last
keep_append held middle last [] ys is later = subst (λ (h : List ℕ). Keep h ys last) (sym is) later
keep_append held middle last (x ∷ xs) ys keeps later = (keeps.0, keep_append (held_after_kind x.kind x.addr held) middle last xs ys keeps.1 later)

-- the spans that Region records tell
abbrev pub span_told : Kind → ℕ → Option ℕ
span_told kind.Region value = Some value
span_told _ value = None

abbrev pub spans_of : List Record → List ℕ
spans_of records = filter_map (λ (r : Record). span_told r.kind r.value) records

pub spans_append : (xs ys : List Record) → spans_of (xs ++ ys) ≡ spans_of xs ++ spans_of ys
spans_append xs ys = filter_map-append (λ (r : Record). span_told r.kind r.value) xs ys

abbrev pub spans_forked : List Fork → List ℕ
spans_forked forks = map (λ (f : Fork). f.team.span) forks

-- ---- parts that neither lock nor fork

abbrev pub IsFree : Kind → Type 0
IsFree kind.Read = Unit {0}
IsFree kind.Write = Unit {0}
IsFree kind.Update = Unit {0}
IsFree kind.Chunk = Unit {0}
IsFree _ = ⊥

pub record AddsFree (s t : State) : Type 0 where
  pub added : List Record
  pub records_are : t.records ≡ s.records ++ added
  pub free : All (λ (r : Record). IsFree r.kind) added
  pub forks_are : t.forks ≡ s.forks

abbrev Free : Record → Type 0
Free r = IsFree r.kind

free_nothing : (s t : State) → t.records ≡ s.records → t.forks ≡ s.forks → AddsFree s t
free_nothing s t records forks = record { added = []; records_are = records ∙ sym (append-nil s.records); free = All-nil Free; forks_are = forks }

free_one : (r : Record) (s t : State) → Free r → t.records ≡ s.records ++ r ∷ [] → t.forks ≡ s.forks → AddsFree s t
free_one r s t is records forks = record { added = r ∷ []; records_are = records; free = All-cons Free r [] is (All-nil Free); forks_are = forks }

free-plain : KeepsPlainSteps AddsFree
free-plain = record {
  same = λ s. free_nothing s s refl refl;
  chain = λ a b c one more. record {
    added = one.added ++ more.added;
    records_are = more.records_are ∙ ap (λ l. l ++ more.added) one.records_are ∙ append_assoc a.records one.added more.added;
    free = All-append Free one.added more.added one.free more.free;
    forks_are = more.forks_are ∙ one.forks_are;
  };
  assigns = λ slot v s. free_nothing s (assign slot v s) refl refl;
  writes = λ r room s is write. free_one r s _ (subst IsFree (sym write) tt) refl refl;
  reads = λ e site line room v reads s is prefix. free_one _ s _ tt refl refl;
  draws = λ line n room q chunks s is prefix. free_one _ s _ tt refl refl;
}

free-updates : KeepsUpdates AddsFree
free-updates = record { updates = λ r room s is update. free_one r s _ (subst IsFree (sym update) tt) refl refl }

free_fits : (k : Kind) (m : ℕ) (held : List ℕ) → IsFree k → FitsHeld k m held × (held_after_kind k m held ≡ held)
free_fits kind.Read m held is = (tt, refl)
free_fits kind.Write m held is = (tt, refl)
free_fits kind.Update m held is = (tt, refl)
free_fits kind.Chunk m held is = (tt, refl)
free_fits _ m held is = absurd is

keep_free : (held : List ℕ) (added : List Record) → All Free added → Keep held added held
keep_free held [] free = refl
keep_free held (r ∷ added) free =
    let fits = free_fits r.kind r.addr held (All-head Free r added free) in
    (fits.0, subst (λ (h : List ℕ). Keep h added held) (sym fits.1) (keep_free held added (All-tail Free r added free)))

no_span : (k : Kind) (v : ℕ) → IsFree k → span_told k v ≡ None
no_span kind.Read v is = refl
no_span kind.Write v is = refl
no_span kind.Update v is = refl
no_span kind.Chunk v is = refl
no_span _ v is = absurd is

spans_free : (added : List Record) → All Free added → spans_of added ≡ []
spans_free [] free = refl
spans_free (r ∷ added) free =
    ap (λ (o : Option ℕ). cons_option o (spans_of added)) (no_span r.kind r.value (All-head Free r added free))
    ∙ spans_free added (All-tail Free r added free)

-- ---- parts of a lawful body

-- what was added, from these mutexes held to those
pub record Adds (F : Fork → Type 0) (held last : List ℕ) (s t : State) : Type 0 where
  pub added : List Record
  pub records_are : t.records ≡ s.records ++ added
  pub keep : Keep held added last
  pub regions : List Fork
  pub forks_are : t.forks ≡ s.forks ++ regions
  pub teams : All F regions
  pub spans : spans_of added ≡ spans_forked regions

-- where a part gives a value
abbrev pub IfGives : {A : Type 0} → Outcome A → (A → State → Type 0) → Type 0
IfGives (Gives a s) P = P a s
IfGives (Stops why line s) P = Unit {0}
IfGives (Wants s) P = Unit {0}

module _ (F : Fork → Type 0) where
  pub adds_chain : (a b c : List ℕ) (s t u : State) → Adds F a b s t → Adds F b c t u → Adds F a c s u
  adds_chain a b c s t u one more = record {
    added = one.added ++ more.added;
    records_are = more.records_are ∙ ap (λ l. l ++ more.added) one.records_are ∙ append_assoc s.records one.added more.added;
    keep = keep_append a b c one.added more.added one.keep more.keep;
    regions = one.regions ++ more.regions;
    forks_are = more.forks_are ∙ ap (λ l. l ++ more.regions) one.forks_are ∙ append_assoc s.forks one.regions more.regions;
    teams = All-append F one.regions more.regions one.teams more.teams;
    spans =
        spans_append one.added more.added
        ∙ ap (λ l. l ++ spans_of more.added) one.spans
        ∙ ap (λ l. spans_forked one.regions ++ l) more.spans
        ∙ sym (map-append (λ (f : Fork). f.team.span) one.regions more.regions);
  }

  pub adds_free : (held : List ℕ) (s t : State) → AddsFree s t → Adds F held held s t
  adds_free held s t is = record {
    added = is.added;
    records_are = is.records_are;
    keep = keep_free held is.added is.free;
    regions = [];
    forks_are = is.forks_are ∙ sym (append-nil s.forks);
    teams = All-nil F;
    spans = spans_free is.added is.free;
  }

  pub adds_nothing : (held : List ℕ) (s : State) → Adds F held held s s
  adds_nothing held s = adds_free held s s (free_nothing s s refl refl)

  -- one record that is no Region
  pub adds_record : (held last : List ℕ) (r : Record) (s t : State) → Keep held (r ∷ []) last → span_told r.kind r.value ≡ None →
      t.records ≡ s.records ++ r ∷ [] → t.forks ≡ s.forks → Adds F held last s t
  adds_record held last r s t keep plain records forks = record {
    added = r ∷ [];
    records_are = records;
    keep = keep;
    regions = [];
    forks_are = forks ∙ sym (append-nil s.forks);
    teams = All-nil F;
    spans = ap (λ (o : Option ℕ). cons_option o []) plain;
  }

  -- a Region record and its fork
  pub adds_fork : (team : TeamTree) (room : ℕ) (s : State) → F (record { team = team; slots = s.slots }) →
      Adds F [] [] s (forked team (record s { records = s.records ++ event kind.Region team.line 0 team.span ∷ []; room = room }))
  adds_fork team room s is = record {
    added = event kind.Region team.line 0 team.span ∷ [];
    records_are = refl;
    keep = (refl, refl);
    regions = record { team = team; slots = s.slots } ∷ [];
    forks_are = refl;
    teams = All-cons F (record { team = team; slots = s.slots }) [] is (All-nil F);
    spans = refl;
  }

  -- ---- one part after another

  -- a part from this state on
  abbrev pub Does : {A : Type 0} → List ℕ → List ℕ → State → Outcome A → Type 0
  Does held last s m = IfGives m (λ a t. Adds F held last s t)

  does_chain : {A : Type 0} (a b c : List ℕ) (s t : State) (m : Outcome A) → Adds F a b s t → Does b c t m → Does a c s m
  does_chain a b c s t (Gives x u) one more = adds_chain a b c s t u one more
  does_chain a b c s t (Stops why line u) one more = tt
  does_chain a b c s t (Wants u) one more = tt

  does_and_then : {A B : Type 0} (a b c : List ℕ) (s : State) (m : Outcome A) (next : A → State → Outcome B) → Does a b s m →
      ((x : A) (t : State) → Does b c t (next x t)) → Does a c s (and_then m next)
  does_and_then a b c s (Gives x t) next first later = does_chain a b c s t (next x t) first (later x t)
  does_and_then a b c s (Stops why line t) next first later = tt
  does_and_then a b c s (Wants t) next first later = tt

  pub does_after : (a b c : List ℕ) (s : State) (m : Outcome (Unit {0})) (next : State → Outcome (Unit {0})) → Does a b s m →
      ((t : State) → Does b c t (next t)) → Does a c s (after m next)
  does_after a b c s (Gives x t) next first later = does_chain a b c s t (next t) first (later t)
  does_after a b c s (Stops why line t) next first later = tt
  does_after a b c s (Wants t) next first later = tt

  does_free : {A : Type 0} (held : List ℕ) (s : State) (m : Outcome A) → AddsFree s (state_of m) → Does held held s m
  does_free held s (Gives x t) is = adds_free held s t is
  does_free held s (Stops why line t) is = tt
  does_free held s (Wants t) is = tt

  does_value : (held : List ℕ) (at : Site) (e : Term) (s : State) → Does held held s (value at e s)
  does_value held at e s = does_free held s (value at e s) (kept-value AddsFree free-plain at e s)

  does_put_in : (held last : List ℕ) (room : ℕ) (r : Record) (s : State) → Keep held (r ∷ []) last → span_told r.kind r.value ≡ None →
      Does held last s (put_in room r s)
  does_put_in held last zero r s keep plain = tt
  does_put_in held last (suc room) r s keep plain = adds_record held last r s _ keep plain refl refl

  pub does_put : (held last : List ℕ) (r : Record) (s : State) → Keep held (r ∷ []) last → span_told r.kind r.value ≡ None → Does held last s (put r s)
  unfolding put
  does_put held last r s keep plain = does_put_in held last s.room r s keep plain

  does_branch : (held : List ℕ) (v : ℤ) (if_true if_false : State → Outcome (Unit {0})) (s : State) → Does held held s (if_true s) →
      Does held held s (if_false s) → Does held held s (branch v if_true if_false s)
  does_branch held (pos zero) if_true if_false s one other = other
  does_branch held (pos (suc n)) if_true if_false s one other = one
  does_branch held (negsuc n) if_true if_false s one other = one

  does_turns : (held : List ℕ) (n i : ℕ) (turn : ℕ → State → Outcome (Unit {0})) (s : State) → ((k : ℕ) (t : State) → Does held held t (turn k t)) →
      Does held held s (turns n i turn s)
  does_turns held zero i turn s all = adds_nothing held s
  does_turns held (suc n) i turn s all = does_after held held held s (turn i s) _ (all i s) (λ t. does_turns held n (suc i) turn t all)

  does_each : (held : List ℕ) (is : List ℕ) (turn : ℕ → State → Outcome (Unit {0})) (s : State) → ((k : ℕ) (t : State) → Does held held t (turn k t)) →
      Does held held s (each is turn s)
  does_each held [] turn s all = adds_nothing held s
  does_each held (i ∷ is) turn s all = does_after held held held s (turn i s) _ (all i s) (λ t. does_each held is turn t all)

  does_either : (held : List ℕ) (b : Bool) (m : Outcome (Unit {0})) (s : State) → Does held held s m → Does held held s (cond b m (Gives tt s))
  does_either held true m s one = one
  does_either held false m s one = adds_nothing held s

  does_draws : (held : List ℕ) (fuel line n : ℕ) (chunk : ℕ → State → Outcome (Unit {0})) (s : State) →
      ((k : ℕ) (t : State) → Does held held t (chunk k t)) → Does held held s (draws fuel line n chunk s)
  does_draws held zero line n chunk s all = tt
  does_draws held (suc fuel) line n chunk s all =
      does_and_then held held held s (draw line n s) _ (does_free held s (draw line n s) (kept-draw AddsFree free-plain line n s)) (λ q t.
      does_either held (nat_lt q n) _ t (does_after held held held t (chunk q t) (draws fuel line n chunk) (all q t) (λ u. does_draws held fuel line n chunk u all)))

  does_shared : (held : List ℕ) (schedule : Schedule) (at : Site) (line total : ℕ) (turn : ℕ → State → Outcome (Unit {0})) (s : State) →
      ((k : ℕ) (t : State) → Does held held t (turn k t)) → Does held held s (shared schedule at line total turn s)
  does_shared held Even at line total turn s all = does_each held (even_iterations total at.lane at.span) turn s all
  does_shared held (Static chunk) at line total turn s all = does_each held (static_iterations chunk total at.lane at.span) turn s all
  does_shared held (Dynamic chunk) at line total turn s all =
      does_draws held s.room line (chunk_count chunk total) _ s (λ q t. does_each held (chunk_iterations chunk total q) turn t all)

  does_loop_end : (held : List ℕ) → held ≡ [] → (nowait : Bool) (end : ℕ) (s : State) → Does held held s (loop_end nowait end s)
  does_loop_end held none true end s = adds_nothing held s
  does_loop_end held none false end s = does_put held held (event kind.Barrier end 0 0) s (none, refl) refl

  does_fork_in : (room : ℕ) (team : TeamTree) (s : State) (next : State → Outcome (Unit {0})) → ((slots : List ℤ) → F (record { team = team; slots = slots })) →
      ((t : State) → Does [] [] t (next t)) → Does [] [] s (after (put_in room (event kind.Region team.line 0 team.span) s) (λ t. next (forked team t)))
  does_fork_in zero team s next is later = tt
  does_fork_in (suc room) team s next is later = does_chain [] [] [] s _ _ (adds_fork team room s (is s.slots)) (later _)

  pub does_fork : (held : List ℕ) → held ≡ [] → (team : TeamTree) (s : State) (next : State → Outcome (Unit {0})) → ((slots : List ℤ) → F (record { team = team; slots = slots })) →
      ((t : State) → Does held held t (next t)) → Does held held s (after (put (event kind.Region team.line 0 team.span) s) (λ t. next (forked team t)))
  unfolding put
  does_fork held none team s next is later =
      let Q = λ (h : List ℕ). Does h h s (after (put_in s.room (event kind.Region team.line 0 team.span) s) (λ t. next (forked team t))) in
      subst Q (sym none)
      (does_fork_in s.room team s next is (λ t. subst (λ (h : List ℕ). Does h h t (next t)) none (later t)))

-- ---- mutexes

ascends_new : (held : List ℕ) (m : ℕ) → All (λ outer. outer < m) held → Contains held m → ⊥
ascends_new [] m all (k, within, is) = absurd (omega arith)
ascends_new (x ∷ held) m all (zero, within, is) = let lt : x < m = All-head (λ outer. outer < m) x held all in omega arith
ascends_new (x ∷ held) m all (suc k, within, is) = ascends_new held m (All-tail (λ outer. outer < m) x held all) (k, omega arith, is)

-- unlocking the last mutex leaves those before it
kept_others : (held : List ℕ) (m : ℕ) → All (λ outer. outer < m) held → filter (λ other. not (other == m)) (held ++ m ∷ []) ≡ held
kept_others [] m all =
    let same : not (m == m) ≡ false = grind (arith, nat_tests) in
    ap (λ (b : Bool). cond b (m ∷ []) []) same
kept_others (x ∷ held) m all =
    let below : x < m = All-head (λ outer. outer < m) x held all in
    let other : not (x == m) ≡ true = grind (arith, nat_tests) in
    let rest = filter (λ n. not (n == m)) (held ++ m ∷ []) in
    ap (λ (b : Bool). cond b (x ∷ rest) rest) other ∙ ap (λ (l : List ℕ). x ∷ l) (kept_others held m (All-tail (λ outer. outer < m) x held all))

-- ---- bodies

-- a team that lies one region deeper
inner_team : (mutexes regions lanes span line end : ℕ) (body : Code) → regions < 4 → lanes * span ≤ 64 → IsEven body →
    IsNested mutexes (regions + 1) (lanes * span) [] body → IsBoundedCode body →
    IsLawfulTeam mutexes (regions + 1) (record { span = span; line = line; end = end; body = body })
inner_team mutexes regions lanes span line end body deep few even nested bounded =
    record { lanes = lanes * span; few = few; shallow = omega arith; even = even; nested = nested; bounded = bounded }

module _ (mutexes regions lanes : ℕ) where
  abbrev F : Fork → Type 0
  F = IsLawfulFork mutexes (regions + 1)

  -- work stands where no mutex is held
  abbrev NoneHeld : List ℕ → Bool → Type 0
  NoneHeld held work = work ≡ true → held ≡ []

  left_none : (held : List ℕ) (a b : Bool) → NoneHeld held (a || b) → NoneHeld held a
  left_none held true b none is = none refl
  left_none held false b none is = absurd (true≢false (sym is))

  right_none : (held : List ℕ) (a b : Bool) → NoneHeld held (a || b) → NoneHeld held b
  right_none held true b none is = none refl
  right_none held false b none is = none is

  free_none : (held : List ℕ) (a : Bool) → a ≡ false → NoneHeld held a
  free_none held a free is = absurd (true≢false (sym is ∙ free))

  does_assigned : (held : List ℕ) (slot : ℕ) (v : ℤ) (s : State) (m : Outcome (Unit {0})) → Does F held held (assign slot v s) m → Does F held held s m
  does_assigned held slot v s m does = does_chain F held held held s (assign slot v s) m (adds_free F held s (assign slot v s) (free_nothing s (assign slot v s) refl refl)) does

  -- A lawful body that ends leaves the mutexes as they were, and forks lawful teams.
  pub does_run : (at : Site) (code : Code) (held : List ℕ) (s : State) → NoneHeld held (code_holds_work code) → IsEven code →
      IsNested mutexes regions lanes held code → IsBoundedCode code → Does F held held s (run at code s)
  unfolding run
  does_run at Done held s none even nested bounded = adds_nothing F held s
  does_run at (Set slot e rest) held s none even nested bounded =
      does_and_then F held held held s (value at e s) _ (does_value F held at e s) (λ v t.
      does_assigned held slot v t (run at rest (assign slot v t)) (does_run at rest held (assign slot v t) none even nested bounded.1))
  does_run at (Store array index e line site rest) held s none even nested bounded =
      does_and_then F held held held s (value at index s) _ (does_value F held at index s) (λ i t.
      does_and_then F held held held t (value at e t) _ (does_value F held at e t) (λ v u.
      does_after F held held held u (stored (element_at at.arrays array i) v line site u) (run at rest)
      (does_free F held u (stored (element_at at.arrays array i) v line site u) (kept-stored AddsFree free-plain (element_at at.arrays array i) v line site u))
      (λ w. does_run at rest held w none even nested bounded.3)))
  does_run at (Update array index e minus line site rest) held s none even nested bounded =
      does_and_then F held held held s (value at index s) _ (does_value F held at index s) (λ i t.
      does_and_then F held held held t (value at e t) _ (does_value F held at e t) (λ v u.
      does_after F held held held u (updated (element_at at.arrays array i) (amount_of minus v) line site u) (run at rest)
      (does_free F held u (updated (element_at at.arrays array i) (amount_of minus v) line site u) (kept-updated AddsFree free-plain free-updates (element_at at.arrays array i) (amount_of minus v) line site u))
      (λ w. does_run at rest held w none even nested bounded.3)))
  does_run at (If test if_true if_false rest) held s none even nested bounded =
      let others = right_none held (code_holds_work if_true) (code_holds_work if_false || code_holds_work rest) none in
      does_and_then F held held held s (value at test s) _ (does_value F held at test s) (λ v t.
      does_after F held held held t (branch v (run at if_true) (run at if_false) t) (run at rest)
      (does_branch F held v (run at if_true) (run at if_false) t
      (does_run at if_true held t (free_none held (code_holds_work if_true) even.0) even.2 nested.0 bounded.1)
      (does_run at if_false held t (free_none held (code_holds_work if_false) even.1) even.3 nested.1 bounded.2))
      (λ w. does_run at rest held w (right_none held (code_holds_work if_false) (code_holds_work rest) others) even.4 nested.2 bounded.3))
  does_run at (Loop slot from to body rest) held s none even nested bounded =
      does_and_then F held held held s (value at from s) _ (does_value F held at from s) (λ a t.
      does_and_then F held held held t (value at to t) _ (does_value F held at to t) (λ b u.
      does_after F held held held u (turns (total_of a b) 0 (λ i w. run at body (assign slot (a +ℤ pos i) w)) u) (run at rest)
      (does_turns F held (total_of a b) 0 (λ i w. run at body (assign slot (a +ℤ pos i) w)) u
      (λ i w. does_assigned held slot (a +ℤ pos i) w (run at body (assign slot (a +ℤ pos i) w))
      (does_run at body held (assign slot (a +ℤ pos i) w) (left_none held (code_holds_work body) (code_holds_work rest) none) even.1 nested.0 bounded.2)))
      (λ w. does_run at rest held w (right_none held (code_holds_work body) (code_holds_work rest) none) even.2 nested.1 bounded.3)))
  does_run at (Parallel span line end body rest) held s none even nested bounded =
      does_fork F held nested.0 (record { span = span; line = line; end = end; body = body }) s (run at rest)
      (λ slots. record { span = bounded.0; inside = inner_team mutexes regions lanes span line end body nested.1 nested.2 even.0 nested.3 bounded.3 })
      (λ w. does_run at rest held w none even.1 nested.4 bounded.4)
  does_run at (For slot from to schedule nowait line end body rest) held s none even nested bounded =
      does_and_then F held held held s (value at from s) _ (does_value F held at from s) (λ a t.
      does_and_then F held held held t (value at to t) _ (does_value F held at to t) (λ b u.
      does_after F held held held u (shared schedule at line (total_of a b) (λ i w. run at body (assign slot (a +ℤ pos i) w)) u) _
      (does_shared F held schedule at line (total_of a b) (λ i w. run at body (assign slot (a +ℤ pos i) w)) u
      (λ i w. does_assigned held slot (a +ℤ pos i) w (run at body (assign slot (a +ℤ pos i) w))
      (does_run at body held (assign slot (a +ℤ pos i) w) (free_none held (code_holds_work body) even.0) even.1 nested.0 bounded.5)))
      (λ w. does_after F held held held w (loop_end nowait end w) (run at rest) (does_loop_end F held (none refl) nowait end w)
      (λ x. does_run at rest held x (λ is. none refl) even.2 nested.1 bounded.6))))
  does_run at (Barrier line rest) held s none even nested bounded =
      does_after F held held held s (put (event kind.Barrier line 0 0) s) (run at rest)
      (does_put F held held (event kind.Barrier line 0 0) s (none refl, refl) refl)
      (λ w. does_run at rest held w (λ is. none refl) even nested bounded.1)
  does_run at (Critical mutex line end body rest) held s none even nested bounded =
      let inside = held ++ mutex ∷ [] in
      does_after F held inside held s (put (event kind.Lock line mutex 0) s) _
      (does_put F held inside (event kind.Lock line mutex 0) s ((ascends_new held mutex nested.1, nested.2), refl) refl) (λ t.
      does_after F inside inside held t (run at body t) _
      (does_run at body inside t (free_none inside (code_holds_work body) even.0) even.1 nested.3 bounded.3) (λ u.
      does_after F inside held held u (put (event kind.Unlock end mutex 0) u) (run at rest)
      (does_put F inside held (event kind.Unlock end mutex 0) u ((held, refl), kept_others held mutex nested.1) refl)
      (λ w. does_run at rest held w (right_none held (code_holds_work body) (code_holds_work rest) none) even.2 nested.4 bounded.4)))
