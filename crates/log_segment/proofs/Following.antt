-- What is kept follows on from record to record.
use Rattle.std.proofs.Common.{◌≡◌, ◌⊎◌, inl, inr, ℕ, zero, suc, ◌+◌, ◌*◌, ◌^◌, ◌<◌, ◌≤◌, Bool, true, false, cond, List, [], ◌∷◌, ◌++◌, length, Some, refl, sym, ap, subst, ◌∙◌, arith}
use Rattle.std.specs.Prelude.{slice_get, filter, Option, None, ◌↔◌, ◌||◌}
use Rattle.std.specs.List.{AllZip}
use Rattle.std.proofs.lemmas.List.{length_push, append-nil}
use Rattle.std.proofs.lemmas.List.Elements.{filter-append}
use Rattle.std.proofs.lemmas.Option.{same_Some}
use Rattle.log_format.specs.Fitting.{IsWidth}
use Rattle.sw_base.specs.declared.path.Step.{Step}
use Rattle.race_model.proofs.Held.{held_after-append}
use Rattle.log_format.specs.declared.record.Record.{Record}
use Rattle.log_format.specs.declared.record.Kind.{Kind}
use Rattle.log_format.specs.declared.record.Kind.TheVariants.{Read, Write, Lock, Unlock, Barrier, Region, Chunk, End, Update}
use Rattle.log_format.specs.Table.{HasAddress, HasSize}
use Rattle.race_model.specs.Trace.{Logs, Node, HasKind, regions_before, barriers_before, is_region_kind, is_barrier_kind}
use Rattle.race_model.specs.Race.{held_after, held_after_kind}
use Rattle.race_model.specs.Label.{Triple, IsLabel}
use Rattle.race_model.specs.Segment.{Event, Segment as Interval, is_access, is_access_event, has_access, segment_of, first_number, last_number}
use Rattle.race_laws.proofs.LabelPlace.{same_node}
use Rattle.stride_summary.specs.declared.key.Key.{Key}
use Rattle.stride_summary.specs.declared.summary.Summary.{Summary}
use Rattle.log_segment.specs.Accesses.{key_at}
use Rattle.log_segment.specs.declared.segment.Segment.{Segment}
use Rattle.log_segment.specs.declared.walking.Walk.{Walk}
use Rattle.log_segment.specs.Intervals.{HasEvent, IsSegmentOf}
use Rattle.log_segment.specs.Walking.{AddsSegments, begun_after, event_after, ended, ended_by, AreNumbered, KeepsFork, AreForks, Follows, IsNextOf, SumsUp, GainsAccess, HasSum, IsClosed, OrdersInLane, has_summary}
use Rattle.log_segment.proofs.Members.{In, from_contains, to_contains, in_left, in_right, in_either}
use Rattle.log_segment.proofs.LabelMoves.{found_next, regions_next, barriers_next, moved}

-- numbers
pub numbered_push : (n : ℕ) (es : List Event) (e : Event) → AreNumbered n es → e.number ≡ n + length es → AreNumbered n (es ++ e ∷ [])
numbered_push n [] e all is = (omega arith, tt)
numbered_push n (x ∷ es) e (here, more) is = (here, numbered_push (n + 1) es e more (omega arith))

pub first_is : (n : ℕ) (es : List Event) → AreNumbered n es → 1 ≤ length es → first_number es ≡ n
first_is n [] all some = absurd (omega arith)
first_is n (e ∷ es) (here, more) some = here

pub last_is : (n : ℕ) (es : List Event) → AreNumbered n es → 1 ≤ length es → last_number es + 1 ≡ n + length es
last_is n [] all some = absurd (omega arith)
last_is n (e ∷ []) (here, more) some = omega arith
last_is n (e ∷ f ∷ es) (here, more) some = let rest = last_is (n + 1) (f ∷ es) more (omega arith) in omega (arith, rest)

-- accesses
event_back : (xs : List Event) (e : Event) (key : Key) (address : ℕ) → HasEvent (xs ++ e ∷ []) key address → HasEvent xs key address ⊎ ((key_at e.event e.held ≡ key) × (e.event.addr ≡ address))
event_back xs e key address h = at (in_either h.event xs (e ∷ []) (from_contains h.event (xs ++ e ∷ []) h.listed)) where
  at : In h.event xs ⊎ In h.event (e ∷ []) → HasEvent xs key address ⊎ ((key_at e.event e.held ≡ key) × (e.event.addr ≡ address))
  at (inl before) = inl (record { event = h.event; listed = to_contains h.event xs before; keyed = h.keyed; addressed = h.addressed })
  at (inr (inl same)) = inr (ap (λ (x : Event). key_at x.event x.held) same ∙ sym h.keyed, ap (λ (x : Event). x.event.addr) same ∙ sym h.addressed)
  at (inr (inr never)) = absurd never

event_there : (xs : List Event) (e : Event) (key : Key) (address : ℕ) → HasEvent xs key address ⊎ ((key_at e.event e.held ≡ key) × (e.event.addr ≡ address)) → HasEvent (xs ++ e ∷ []) key address
event_there xs e key address (inl h) = record { event = h.event; listed = to_contains h.event (xs ++ e ∷ []) (in_left h.event xs (e ∷ []) (from_contains h.event xs h.listed)); keyed = h.keyed; addressed = h.addressed }
event_there xs e key address (inr (keyed, addressed)) = record { event = e; listed = to_contains e (xs ++ e ∷ []) (in_right e xs (e ∷ []) (inl refl)); keyed = sym keyed; addressed = sym addressed }

no_event : (key : Key) (address : ℕ) → HasEvent [] key address → ⊥
no_event key address h = from_contains h.event [] h.listed

access_push : (es : List Event) (e : Event) → is_access_event e ≡ true → filter is_access_event (es ++ e ∷ []) ≡ filter is_access_event es ++ e ∷ []
access_push es e is = filter-append is_access_event es (e ∷ []) ∙ (let one : filter is_access_event (e ∷ []) ≡ e ∷ [] = rw is refl in ap (λ (xs : List Event). filter is_access_event es ++ xs) one)

quiet_push : (es : List Event) (e : Event) → is_access_event e ≡ false → filter is_access_event (es ++ e ∷ []) ≡ filter is_access_event es
quiet_push es e isn = filter-append is_access_event es (e ∷ []) ∙ ((let none : filter is_access_event (e ∷ []) ≡ [] = rw isn refl in ap (λ (xs : List Event). filter is_access_event es ++ xs) none) ∙ append-nil (filter is_access_event es))

has_push : (es : List Event) (e : Event) → has_access (es ++ e ∷ []) ≡ has_access es || is_access_event e
has_push [] e = or_false (is_access_event e) where
  or_false : (b : Bool) → (b || false) ≡ (false || b)
  or_false true = refl
  or_false false = refl
has_push (x ∷ es) e = at (is_access_event x) refl (has_push es e) where
  at : (b : Bool) → is_access_event x ≡ b → has_access (es ++ e ∷ []) ≡ has_access es || is_access_event e → has_access (x ∷ es ++ e ∷ []) ≡ has_access (x ∷ es) || is_access_event e
  at true is rest = rw is refl
  at false is rest = rw is rest

or_true : (b : Bool) → (b || true) ≡ true
or_true true = refl
or_true false = refl

or_false : (b : Bool) → (b || false) ≡ b
or_false true = refl
or_false false = refl

-- no access since
pub sums_none : (summary : Option Summary) → summary ≡ None → SumsUp summary []
sums_none summary none = subst (λ (o : Option Summary). SumsUp o []) (sym none) (record { begins = refl; pairs = λ key address. ((λ h. absurd h), (λ h. absurd (no_event key address h))) })

-- one access more
pub sums_access : (old new : Option Summary) (begun : List Event) (e : Event) → is_access_event e ≡ true → GainsAccess old new (key_at e.event e.held) e.event.addr → SumsUp old begun → SumsUp new (begun ++ e ∷ [])
sums_access old new begun e is gains sums = record {
  begins = gains.opened ∙ sym (has_push begun e ∙ (ap (λ (b : Bool). has_access begun || b) is ∙ or_true (has_access begun)));
  pairs = λ key address. subst (λ (es : List Event). HasSum new key address ↔ HasEvent es key address) (sym (access_push begun e is)) (
    (λ h. event_there (filter is_access_event begun) e key address (forth key address ((gains.pairs key address).0 h))),
    (λ h. (gains.pairs key address).1 (back key address (event_back (filter is_access_event begun) e key address h))),
  );
}
  where
    forth : (key : Key) (address : ℕ) → HasSum old key address ⊎ ((key_at e.event e.held ≡ key) × (e.event.addr ≡ address)) → HasEvent (filter is_access_event begun) key address ⊎ ((key_at e.event e.held ≡ key) × (e.event.addr ≡ address))
    forth key address (inl h) = inl ((sums.pairs key address).0 h)
    forth key address (inr h) = inr h

    back : (key : Key) (address : ℕ) → HasEvent (filter is_access_event begun) key address ⊎ ((key_at e.event e.held ≡ key) × (e.event.addr ≡ address)) → HasSum old key address ⊎ ((key_at e.event e.held ≡ key) × (e.event.addr ≡ address))
    back key address (inl h) = inl ((sums.pairs key address).1 h)
    back key address (inr h) = inr h

-- or another record
pub sums_quiet : (summary : Option Summary) (begun : List Event) (e : Event) → is_access_event e ≡ false → SumsUp summary begun → SumsUp summary (begun ++ e ∷ [])
sums_quiet summary begun e isn sums = record {
  begins = sums.begins ∙ sym (has_push begun e ∙ (ap (λ (b : Bool). has_access begun || b) isn ∙ or_false (has_access begun)));
  pairs = λ key address. subst (λ (es : List Event). HasSum summary key address ↔ HasEvent es key address) (sym (quiet_push begun e isn)) (sums.pairs key address);
}

-- what is kept after a record that orders nothing
module _ (logs : Logs) (path : List Step) (before : List Record) (r : Record) (next : IsNextOf logs path before r) where
  abbrev here : Node
  here = record { path = path; index = length before }

  abbrev after : Node
  after = record { path = path; index = length before + 1 }

  longer : length (before ++ r ∷ []) ≡ length before + 1
  longer = length_push before r

  kept_forks : (forks : List (List Triple)) → is_region_kind r.kind ≡ false → AreForks logs path (length before) forks → AreForks logs path (length before + 1) forks
  kept_forks forks isn f = record {
    count = f.count ∙ (let more = regions_next logs path before next.rest r next.parts in let none : cond {A = ℕ} (is_region_kind r.kind) 1 0 ≡ 0 = rw isn refl in omega arith);
    each = λ fork same within is. earlier fork same is (within_or fork.index (length before) within);
  }
    where
      within_or : (i n : ℕ) → i < n + 1 → (i < n) ⊎ (i ≡ n)
      within_or i n h = grind arith

      earlier : (fork : Node) → fork.path ≡ path → HasKind logs fork Region → (fork.index < length before) ⊎ (fork.index ≡ length before) → KeepsFork logs forks fork
      earlier fork same is (inl less) = f.each fork same less is
      earlier fork same is (inr at) =
          let there : slice_get (logs fork.path) fork.index ≡ Some r = subst (λ (p : List Step). slice_get (logs p) fork.index ≡ Some r) (sym same) (subst (λ (i : ℕ). slice_get (logs path) i ≡ Some r) (sym at) (found_next (logs path) before next.rest r next.parts)) in
          let one : is.event ≡ r = same_Some is.event r (sym is.found ∙ there) in
          let kind : Region ≡ r.kind = sym is.kind_is ∙ ap (λ (x : Record). x.kind) one in
          let yes : is_region_kind r.kind ≡ true = rw (sym kind) refl in
          cc

  at_or_after : (x : Node) → x.path ≡ path → (x.index ≤ length before) ⊎ (x ≡ after) → (walk : Walk) (begun : List Event) → Follows logs path before walk begun
      → walk.first ≤ x.index + 1 → (IsLabel logs here walk.label → IsLabel logs after walk.label) → IsLabel logs x walk.label
  at_or_after x same (inl le) walk begun f low goes = f.label x same low le
  at_or_after x same (inr e) walk begun f low goes =
      subst (λ (y : Node). IsLabel logs y walk.label) (sym e) (goes (f.label here refl (let up = f.up in omega arith) (omega arith)))

  le_or_after : (x : Node) → x.path ≡ path → x.index ≤ length before + 1 → (x.index ≤ length before) ⊎ (x ≡ after)
  le_or_after x same le = go (split x.index (length before) le)
    where
      split : (i n : ℕ) → i ≤ n + 1 → (i ≤ n) ⊎ (i ≡ n + 1)
      split i n h = grind arith

      go : (x.index ≤ length before) ⊎ (x.index ≡ length before + 1) → (x.index ≤ length before) ⊎ (x ≡ after)
      go (inl l) = inl l
      go (inr e) = inr (same_node x after same e)

  pub follows_plain : (walk new : Walk) (begun : List Event) → is_region_kind r.kind ≡ false → is_barrier_kind r.kind ≡ false
      → new.first ≡ walk.first → new.label ≡ walk.label → new.forks.items ≡ walk.forks.items
      → (SumsUp walk.summary begun → SumsUp new.summary (begun ++ event_after before r ∷ []))
      → Follows logs path before walk begun → Follows logs path (before ++ r ∷ []) new (begun ++ event_after before r ∷ [])
  follows_plain walk new begun not_region not_barrier first label forks sums f = record {
    numbered = subst (λ (n : ℕ). AreNumbered n (begun ++ event_after before r ∷ [])) (sym first)
        (numbered_push walk.first begun (event_after before r) f.numbered (sym f.up));
    up = (let up = f.up in let more = length_push begun (event_after before r) in omega (arith, longer, more, up, first));
    sums = sums f.sums;
    label = λ x same low high. subst (λ (l : List Triple). IsLabel logs x l) (sym label)
        (at_or_after x same (le_or_after x same (let n = longer in omega arith)) walk begun f (omega (arith, first)) stays);
    forks = subst (λ (xs : List (List Triple)). AreForks logs path (length (before ++ r ∷ [])) xs) (sym forks)
        (subst (λ (n : ℕ). AreForks logs path n walk.forks.items) (sym longer) (kept_forks walk.forks.items not_region f.forks));
  }
    where
      stays : IsLabel logs here walk.label → IsLabel logs after walk.label
      stays is = moved logs here after walk.label walk.label 0 0 refl
          (let more = regions_next logs path before next.rest r next.parts in let none : cond {A = ℕ} (is_region_kind r.kind) 1 0 ≡ 0 = rw not_region refl in omega arith)
          (let more = barriers_next logs path before next.rest r next.parts in let none : cond {A = ℕ} (is_barrier_kind r.kind) 1 0 ≡ 0 = rw not_barrier refl in omega arith)
          (λ e. refl)
          (λ above own e. e ∙ (λ i. let t : Triple = record { offset = plus_none own.offset own.span i; span = own.span; barrier = none_more own.barrier i } in above ++ t ∷ []))
          is
        where
          plus_none : (o s : ℕ) → o ≡ o + s * 0
          plus_none o s = omega arith

          none_more : (b : ℕ) → b ≡ b + 0
          none_more b = omega arith

  -- the same by kind
  begun_plain : (k : Kind) (e : Event) (begun : List Event) → is_region_kind k ≡ false → is_barrier_kind k ≡ false → begun_after k e begun ≡ begun ++ e ∷ []
  begun_plain Read e begun a b = refl
  begun_plain Write e begun a b = refl
  begun_plain Lock e begun a b = refl
  begun_plain Unlock e begun a b = refl
  begun_plain Barrier e begun a b = cc
  begun_plain Region e begun a b = cc
  begun_plain Chunk e begun a b = refl
  begun_plain End e begun a b = refl
  begun_plain Update e begun a b = refl

  by_kind : (walk new : Walk) (begun : List Event) → is_region_kind r.kind ≡ false → is_barrier_kind r.kind ≡ false
      → new.first ≡ walk.first → new.label ≡ walk.label → new.forks.items ≡ walk.forks.items
      → (SumsUp walk.summary begun → SumsUp new.summary (begun ++ event_after before r ∷ []))
      → Follows logs path before walk begun → Follows logs path (before ++ r ∷ []) new (begun_after r.kind (event_after before r) begun)
  by_kind walk new begun a b first label forks sums f =
      subst (λ (es : List Event). Follows logs path (before ++ r ∷ []) new es) (sym (begun_plain r.kind (event_after before r) begun a b))
      (follows_plain walk new begun a b first label forks sums f)

  -- the mutexes at an access, and its key
  key_held : (k : Kind) (held : List ℕ) → is_access k ≡ true → held ≡ held_after_kind k r.addr held
  key_held Read held is = refl
  key_held Write held is = refl
  key_held Lock held is = cc
  key_held Unlock held is = cc
  key_held Barrier held is = cc
  key_held Region held is = cc
  key_held Chunk held is = cc
  key_held End held is = cc
  key_held Update held is = refl

  not_ordering : (k : Kind) → is_access k ≡ true → (is_region_kind k ≡ false) × (is_barrier_kind k ≡ false)
  not_ordering Read is = (refl, refl)
  not_ordering Write is = (refl, refl)
  not_ordering Lock is = cc
  not_ordering Unlock is = cc
  not_ordering Barrier is = cc
  not_ordering Region is = cc
  not_ordering Chunk is = cc
  not_ordering End is = cc
  not_ordering Update is = (refl, refl)

  pub follows_access : (walk new : Walk) (begun : List Event) (held : List ℕ) → is_access r.kind ≡ true → held ≡ held_after [] (before ++ r ∷ [])
      → GainsAccess walk.summary new.summary (key_at r held) r.addr → new ≡ record walk { summary = new.summary; spare = new.spare }
      → Follows logs path before walk begun → Follows logs path (before ++ r ∷ []) new (begun_after r.kind (event_after before r) begun)
  follows_access walk new begun held is held_is gains same f =
      let plain = not_ordering r.kind is in
      by_kind walk new begun plain.0 plain.1 (ap (λ (w : Walk). w.first) same) (ap (λ (w : Walk). w.label) same) (ap (λ (w : Walk). w.forks.items) same)
      (sums_access walk.summary new.summary begun (event_after before r) is (subst (λ (mutexes : List ℕ). GainsAccess walk.summary new.summary (key_at r mutexes) r.addr) here_held gains)) f
    where
      here_held : held ≡ held_after [] before
      here_held = held_is ∙ (held_after-append [] before (r ∷ []) ∙ sym (key_held r.kind (held_after [] before) is))

  -- where no access is kept
  pub follows_quiet : (walk : Walk) (begun : List Event) → is_region_kind r.kind ≡ false → is_barrier_kind r.kind ≡ false → is_access r.kind ≡ false
      → Follows logs path before walk begun → Follows logs path (before ++ r ∷ []) walk (begun_after r.kind (event_after before r) begun)
  follows_quiet walk begun a b isn f = by_kind walk walk begun a b refl refl refl (sums_quiet walk.summary begun (event_after before r) isn) f

  pub follows_other : (walk : Walk) (begun : List Event) → (r.kind ≡ Lock) ⊎ (r.kind ≡ Unlock) ⊎ (r.kind ≡ Chunk) ⊎ (r.kind ≡ End)
      → Follows logs path before walk begun → Follows logs path (before ++ r ∷ []) walk (begun_after r.kind (event_after before r) begun)
  follows_other walk begun (inl is) f = follows_quiet walk begun (rw is refl) (rw is refl) (rw is refl) f
  follows_other walk begun (inr (inl is)) f = follows_quiet walk begun (rw is refl) (rw is refl) (rw is refl) f
  follows_other walk begun (inr (inr (inl is))) f = follows_quiet walk begun (rw is refl) (rw is refl) (rw is refl) f
  follows_other walk begun (inr (inr (inr is))) f = follows_quiet walk begun (rw is refl) (rw is refl) (rw is refl) f

  -- after a region
  pub follows_region : (walk new : Walk) (begun : List Event) → r.kind ≡ Region
      → new.first ≡ length before + 2 → new.summary ≡ None → new.forks.items ≡ walk.forks.items ++ walk.label ∷ []
      → ((above : List Triple) (own : Triple) → walk.label ≡ above ++ own ∷ [] → new.label ≡ above ++ record own { offset = own.offset + own.span } ∷ [])
      → Follows logs path before walk begun → Follows logs path (before ++ r ∷ []) new (begun_after r.kind (event_after before r) begun)
  follows_region walk new begun is first none forks raised f = subst (λ (es : List Event). Follows logs path (before ++ r ∷ []) new es) none_begun (record {
    numbered = tt;
    up = omega (arith, longer, first);
    sums = sums_none new.summary none;
    label = λ x same low high. subst (λ (y : Node). IsLabel logs y new.label) (sym (same_node x after same (let n = longer in omega (arith, first)))) next_label;
    forks = subst (λ (xs : List (List Triple)). AreForks logs path (length (before ++ r ∷ [])) xs) (sym forks)
        (subst (λ (n : ℕ). AreForks logs path n (walk.forks.items ++ walk.label ∷ [])) (sym longer) all_forks);
  })
    where
      none_begun : [] ≡ begun_after r.kind (event_after before r) begun
      none_begun = rw is refl

      yes : is_region_kind r.kind ≡ true
      yes = rw is refl

      more_regions : regions_before logs after ≡ regions_before logs here + 1
      more_regions = let more = regions_next logs path before next.rest r next.parts in let one : cond {A = ℕ} (is_region_kind r.kind) 1 0 ≡ 1 = rw yes refl in omega arith

      same_barriers : barriers_before logs after ≡ barriers_before logs here + 0
      same_barriers = let more = barriers_next logs path before next.rest r next.parts in let none : cond {A = ℕ} (is_barrier_kind r.kind) 1 0 ≡ 0 = rw is refl in omega arith

      here_label : IsLabel logs here walk.label
      here_label = f.label here refl (let up = f.up in omega arith) (omega arith)

      one_span : (o s : ℕ) → o + s ≡ o + s * 1
      one_span o s = omega arith

      none_more : (b : ℕ) → b ≡ b + 0
      none_more b = omega arith

      next_label : IsLabel logs after new.label
      next_label = moved logs here after walk.label new.label 1 0 refl more_regions same_barriers (λ e. refl)
          (λ above own e. raised above own e ∙ (λ i. let t : Triple = record { offset = one_span own.offset own.span i; span = own.span; barrier = none_more own.barrier i } in above ++ t ∷ []))
          here_label

      prefix_of : (xs : List (List Triple)) (x : List Triple) (k : ℕ) (y : List Triple) → slice_get xs k ≡ Some y → slice_get (xs ++ x ∷ []) k ≡ Some y
      prefix_of [] x k y found = cc
      prefix_of (z ∷ xs) x zero y found = found
      prefix_of (z ∷ xs) x (suc k) y found = prefix_of xs x k y found

      last_of : (xs : List (List Triple)) (x : List Triple) → slice_get (xs ++ x ∷ []) (length xs) ≡ Some x
      last_of [] x = refl
      last_of (z ∷ xs) x = last_of xs x

      split : (i n : ℕ) → i < n + 1 → (i < n) ⊎ (i ≡ n)
      split i n h = grind arith

      keeps : (fork : Node) → fork.path ≡ path → HasKind logs fork Region → (fork.index < length before) ⊎ (fork.index ≡ length before) → KeepsFork logs (walk.forks.items ++ walk.label ∷ []) fork
      keeps fork same kind (inl less) =
          let k = f.forks.each fork same less kind in
          record { label = k.label; kept = prefix_of walk.forks.items walk.label (regions_before logs fork) k.label k.kept; is_label = k.is_label }
      keeps fork same kind (inr at) = subst (λ (y : Node). KeepsFork logs (walk.forks.items ++ walk.label ∷ []) y) (sym (same_node fork here same at))
          (record {
            label = walk.label;
            kept = subst (λ (n : ℕ). slice_get (walk.forks.items ++ walk.label ∷ []) n ≡ Some walk.label) f.forks.count (last_of walk.forks.items walk.label);
            is_label = here_label;
          })

      all_forks : AreForks logs path (length before + 1) (walk.forks.items ++ walk.label ∷ [])
      all_forks = record {
        count = (let more = length_push walk.forks.items walk.label in let c = f.forks.count in omega (arith, more_regions, more, c));
        each = λ fork same within kind. keeps fork same kind (split fork.index (length before) within);
      }

  -- after a barrier
  pub follows_barrier : (walk new : Walk) (begun : List Event) → r.kind ≡ Barrier → OrdersInLane r.kind path
      → new.first ≡ length before + 2 → new.summary ≡ None → new.forks.items ≡ walk.forks.items
      → ((above : List Triple) (own : Triple) → walk.label ≡ above ++ own ∷ [] → new.label ≡ above ++ record own { barrier = own.barrier + 1 } ∷ [])
      → Follows logs path before walk begun → Follows logs path (before ++ r ∷ []) new (begun_after r.kind (event_after before r) begun)
  follows_barrier walk new begun is in_lane first none forks raised f = subst (λ (es : List Event). Follows logs path (before ++ r ∷ []) new es) none_begun (record {
    numbered = tt;
    up = omega (arith, longer, first);
    sums = sums_none new.summary none;
    label = λ x same low high. subst (λ (y : Node). IsLabel logs y new.label) (sym (same_node x after same (let n = longer in omega (arith, first)))) next_label;
    forks = subst (λ (xs : List (List Triple)). AreForks logs path (length (before ++ r ∷ [])) xs) (sym forks)
        (subst (λ (n : ℕ). AreForks logs path n walk.forks.items) (sym longer) (kept_forks walk.forks.items (rw is refl) f.forks));
  })
    where
      none_begun : [] ≡ begun_after r.kind (event_after before r) begun
      none_begun = rw is refl

      same_regions : regions_before logs after ≡ regions_before logs here + 0
      same_regions = let more = regions_next logs path before next.rest r next.parts in let none : cond {A = ℕ} (is_region_kind r.kind) 1 0 ≡ 0 = rw is refl in omega arith

      more_barriers : barriers_before logs after ≡ barriers_before logs here + 1
      more_barriers = let more = barriers_next logs path before next.rest r next.parts in let one : cond {A = ℕ} (is_barrier_kind r.kind) 1 0 ≡ 1 = rw is refl in omega arith

      plus_none : (o s : ℕ) → o ≡ o + s * 0
      plus_none o s = omega arith

      next_label : IsLabel logs after new.label
      next_label = moved logs here after walk.label new.label 0 1 refl same_regions more_barriers (λ e. absurd (in_lane is e))
          (λ above own e. raised above own e ∙ (λ i. let t : Triple = record { offset = plus_none own.offset own.span i; span = own.span; barrier = own.barrier + 1 } in above ++ t ∷ []))
          (f.label here refl (let up = f.up in omega arith) (omega arith))

  -- the same where the segment was closed before
  pub closed_region : (walk mid new : Walk) (begun : List Event) (last : ℕ) → r.kind ≡ Region → last ≡ length before
      → mid.first ≡ last + 2 → mid.summary ≡ None → mid ≡ record walk { first = mid.first; summary = mid.summary; spare = mid.spare }
      → new.forks.items ≡ mid.forks.items ++ mid.label ∷ [] → new ≡ record mid { label = new.label; forks = new.forks }
      → ((above : List Triple) (own : Triple) → mid.label ≡ above ++ own ∷ [] → new.label ≡ above ++ record own { offset = own.offset + own.span } ∷ [])
      → Follows logs path before walk begun → Follows logs path (before ++ r ∷ []) new (begun_after r.kind (event_after before r) begun)
  closed_region walk mid new begun last is at first none same forks also raised f =
      let label : mid.label ≡ walk.label = ap (λ (w : Walk). w.label) same in
      follows_region walk new begun is
      (ap (λ (w : Walk). w.first) also ∙ (first ∙ ap (λ (n : ℕ). n + 2) at))
      (ap (λ (w : Walk). w.summary) also ∙ none)
      (forks ∙ (ap (λ (w : Walk). w.forks.items ++ mid.label ∷ []) same ∙ ap (λ (l : List Triple). walk.forks.items ++ l ∷ []) label))
      (λ above own e. raised above own (label ∙ e)) f

  pub closed_barrier : (walk mid new : Walk) (begun : List Event) (last : ℕ) → r.kind ≡ Barrier → OrdersInLane r.kind path → last ≡ length before
      → mid.first ≡ last + 2 → mid.summary ≡ None → mid ≡ record walk { first = mid.first; summary = mid.summary; spare = mid.spare }
      → new ≡ record mid { label = new.label }
      → ((above : List Triple) (own : Triple) → mid.label ≡ above ++ own ∷ [] → new.label ≡ above ++ record own { barrier = own.barrier + 1 } ∷ [])
      → Follows logs path before walk begun → Follows logs path (before ++ r ∷ []) new (begun_after r.kind (event_after before r) begun)
  closed_barrier walk mid new begun last is in_lane at first none same also raised f =
      let label : mid.label ≡ walk.label = ap (λ (w : Walk). w.label) same in
      follows_barrier walk new begun is in_lane
      (ap (λ (w : Walk). w.first) also ∙ (first ∙ ap (λ (n : ℕ). n + 2) at))
      (ap (λ (w : Walk). w.summary) also ∙ none)
      (ap (λ (w : Walk). w.forks.items) also ∙ ap (λ (w : Walk). w.forks.items) same)
      (λ above own e. raised above own (label ∙ e)) f

-- what is ended is a segment, where it has an access
ended_none : (path : List Step) (begun : List Event) → has_access begun ≡ false → ended path begun ≡ []
ended_none path begun e = rw e refl

ended_one : (path : List Step) (begun : List Event) → has_access begun ≡ true → ended path begun ≡ segment_of path begun ∷ []
ended_one path begun e = rw e refl

pub access_some : (es : List Event) → has_access es ≡ true → 1 ≤ length es
access_some [] e = cc
access_some (x ∷ es) e = omega arith

-- an event that orders ends what has begun
pub ends_region : (k : Kind) (path : List Step) (begun : List Event) → k ≡ Region → ended path begun ≡ ended_by path k begun
ends_region k path begun is = rw is refl

pub ends_barrier : (k : Kind) (path : List Step) (begun : List Event) → k ≡ Barrier → ended path begun ≡ ended_by path k begun
ends_barrier k path begun is = rw is refl

pub adds_ended : (logs : Logs) (path : List Step) (before : List Record) (walk : Walk) (begun : List Event) (last : ℕ) (old new : List Segment)
    → last ≡ length before → (walk.summary ≡ None → new ≡ old) → ((summary : Summary) → walk.summary ≡ Some summary → IsClosed path last walk summary old new)
    → Follows logs path before walk begun → AddsSegments logs (ended path begun) old new
adds_ended logs path before walk begun last old new is_last empty some f = go walk.summary refl
  where
    one : (summary : Summary) → walk.summary ≡ Some summary → IsClosed path last walk summary old new → AddsSegments logs (ended path begun) old new
    one summary e c =
        let has : has_access begun ≡ true = sym f.sums.begins ∙ ap (λ (o : Option Summary). has_summary o) e in
        let long : 1 ≤ length begun = access_some begun has in
        let ends : last_number begun + 1 ≡ walk.first + length begun = last_is walk.first begun f.numbered long in
        let sums : SumsUp (Some summary) begun = subst (λ (o : Option Summary). SumsUp o begun) e f.sums in
        record {
          added = c.segment ∷ [];
          gains = c.gains;
          are = subst (λ (is : List Interval). AllZip (IsSegmentOf logs) is (c.segment ∷ [])) (sym (ended_one path begun has)) (
            record {
              path = c.path_is;
              first = c.first ∙ sym (first_is walk.first begun f.numbered long);
              last = c.last_is ∙ (let up = f.up in omega arith);
              runs = λ key address. (
                (λ h. (sums.pairs key address).0 ((c.pairs key address).0 h)),
                (λ h. (c.pairs key address).1 ((sums.pairs key address).1 h)),
              );
              label = λ x same low high. subst (λ (l : List Triple). IsLabel logs x l) (sym c.label)
                  (f.label x (same ∙ c.path_is) (let n = c.first in omega arith) (let n = c.last_is in omega arith));
            },
            tt,
          );
        }

    go : (o : Option Summary) → walk.summary ≡ o → AddsSegments logs (ended path begun) old new
    go None e = record {
      added = [];
      gains = empty e ∙ sym (append-nil old);
      are = subst (λ (is : List Interval). AllZip (IsSegmentOf logs) is []) (sym (ended_none path begun (sym f.sums.begins ∙ ap (λ (o : Option Summary). has_summary o) e))) tt;
    }
    go (Some summary) e = one summary e (some summary e)

pub kind_access : (k : Kind) → (k ≡ Read) ⊎ (k ≡ Write) ⊎ (k ≡ Update) → is_access k ≡ true
kind_access k (inl e) = rw e refl
kind_access k (inr (inl e)) = rw e refl
kind_access k (inr (inr e)) = rw e refl

-- an access fits a summary
pub access_sized : (r : Record) → is_access r.kind ≡ true → HasSize r.kind r.size → IsWidth r.size
access_sized r is size = at r.kind is size where
  at : (k : Kind) → is_access k ≡ true → HasSize k r.size → IsWidth r.size
  at Read e h = h
  at Write e h = h
  at Lock e h = cc
  at Unlock e h = cc
  at Barrier e h = cc
  at Region e h = cc
  at Chunk e h = cc
  at End e h = cc
  at Update e h = h

pub access_fits : (r : Record) → is_access r.kind ≡ true → HasAddress r.kind r → r.addr + r.size ≤ 2 ^ 48
access_fits r is address = at r.kind is address where
  at : (k : Kind) → is_access k ≡ true → HasAddress k r → r.addr + r.size ≤ 2 ^ 48
  at Read e h = h
  at Write e h = h
  at Lock e h = cc
  at Unlock e h = cc
  at Barrier e h = cc
  at Region e h = cc
  at Chunk e h = cc
  at End e h = cc
  at Update e h = h
