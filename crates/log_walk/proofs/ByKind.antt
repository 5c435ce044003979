-- A record of each kind: which rule it breaks first, and that it breaks none.
use Rattle.std.proofs.Common.{◌≡◌, ◌≢◌, ◌⊎◌, inl, inr, ℕ, ◌+◌, ◌^◌, ◌<◌, ◌≤◌, List, [], ◌∷◌, ◌++◌, length, Some, refl, sym, ap, subst, ◌∙◌, arith, Contains}
use Rattle.std.specs.Prelude.{slice_get, Option, None, MatchOption}
use Rattle.race_model.proofs.Held.{held_after-append}
use Rattle.log_format.specs.declared.record.Record.{Record}
use Rattle.log_format.specs.declared.record.Kind.{Kind}
use Rattle.log_format.specs.declared.record.Kind.TheVariants.{Read, Write, Lock, Unlock, Barrier, Region, Chunk, End, Update}
use Rattle.log_format.specs.Table.{HasAddress}
use Rattle.mutex_set.specs.Held.{IsInnermost}
use Rattle.race_model.specs.declared.why.RecordWhy.{RecordWhy}
use Rattle.race_model.specs.declared.why.RecordWhy.TheVariants as log
use Rattle.race_model.specs.LogFault.{LogTask, Breaks}
use Rattle.race_model.specs.BadPlace.{record_rank, last_rank}
use Rattle.race_model.specs.Race.{held_after, held_after_kind}
use Rattle.race_model.specs.Trace.{region_count, barrier_count}
use Rattle.log_walk.specs.Rules.{BreaksNone, BreaksFirst, InPlace, Locks, CantLock, Unlocks, CantUnlock, MayPass, CantPass, MayFork, CantFork, MayEnd, CantEnd}

-- where the record stands among so many
abbrev pub Placed : LogTask → List Record → Record → Type 0
Placed task before r = InPlace r.kind (length before + 1) task.records

-- a kind of record that has no rule but its place
abbrev IsPlain : Kind → Type 0
IsPlain Read = Unit {0}
IsPlain Write = Unit {0}
IsPlain Chunk = Unit {0}
IsPlain Update = Unit {0}
IsPlain Lock = ⊥
IsPlain Unlock = ⊥
IsPlain Barrier = ⊥
IsPlain Region = ⊥
IsPlain End = ⊥

plain_of : (kind : Kind) → (kind ≡ Read) ⊎ ((kind ≡ Write) ⊎ ((kind ≡ Chunk) ⊎ (kind ≡ Update))) → IsPlain kind
plain_of kind (inl is) = subst IsPlain (sym is) tt
plain_of kind (inr (inl is)) = subst IsPlain (sym is) tt
plain_of kind (inr (inr (inl is))) = subst IsPlain (sym is) tt
plain_of kind (inr (inr (inr is))) = subst IsPlain (sym is) tt

plain_below : (task : LogTask) (before : List Record) (r : Record) (n : ℕ) → IsPlain r.kind → Placed task before r
    → (rule : RecordWhy) → record_rank rule < n → Breaks task before r rule → ⊥
plain_below task before r n plain place log.EndEarly low broken = place.early broken.0 broken.1
plain_below task before r n plain place log.EndMissing low broken = place.missing broken.0 broken.1
plain_below task before r n plain place log.LockTwice low broken = subst IsPlain broken.0 plain
plain_below task before r n plain place log.LocksDeep low broken = subst IsPlain broken.0 plain
plain_below task before r n plain place log.UnlockOther low broken = subst IsPlain broken.0 plain
plain_below task before r n plain place log.RootBarrier low broken = subst IsPlain broken.0 plain
plain_below task before r n plain place log.BarrierLocked low broken = subst IsPlain broken.0 plain
plain_below task before r n plain place log.RegionLocked low broken = subst IsPlain broken.0 plain
plain_below task before r n plain place log.LockOpen low broken = subst IsPlain broken.0 plain
plain_below task before r n plain place log.BarrierCount low broken = subst IsPlain broken.0 plain
plain_below task before r n plain place log.RegionRows low (inl fork) = subst IsPlain fork.0 plain
plain_below task before r n plain place log.RegionRows low (inr end_of) = subst IsPlain end_of.0 plain
plain_below task before r n plain place _ low broken = absurd broken

-- a Lock
lock_below : (task : LogTask) (before : List Record) (r : Record) (n : ℕ) → r.kind ≡ Lock → Placed task before r
    → (10 < n → Contains (held_after [] before) r.addr → ⊥)
    → (11 < n → length (held_after [] before) ≢ 8)
    → (rule : RecordWhy) → record_rank rule < n → Breaks task before r rule → ⊥
lock_below task before r n kind place free few log.EndEarly low broken = place.early broken.0 broken.1
lock_below task before r n kind place free few log.EndMissing low broken = place.missing broken.0 broken.1
lock_below task before r n kind place free few log.LockTwice low broken = free low broken.1
lock_below task before r n kind place free few log.LocksDeep low broken = few low broken.1
lock_below task before r n kind place free few log.UnlockOther low broken = cc (kind, broken.0)
lock_below task before r n kind place free few log.RootBarrier low broken = cc (kind, broken.0)
lock_below task before r n kind place free few log.BarrierLocked low broken = cc (kind, broken.0)
lock_below task before r n kind place free few log.RegionLocked low broken = cc (kind, broken.0)
lock_below task before r n kind place free few log.LockOpen low broken = cc (kind, broken.0)
lock_below task before r n kind place free few log.BarrierCount low broken = cc (kind, broken.0)
lock_below task before r n kind place free few log.RegionRows low (inl fork) = cc (kind, fork.0)
lock_below task before r n kind place free few log.RegionRows low (inr end_of) = cc (kind, end_of.0)
lock_below task before r n kind place free few _ low broken = absurd broken

-- an Unlock
unlock_below : (task : LogTask) (before : List Record) (r : Record) (n : ℕ) → r.kind ≡ Unlock → Placed task before r
    → (12 < n → IsInnermost (held_after [] before) r.addr)
    → (rule : RecordWhy) → record_rank rule < n → Breaks task before r rule → ⊥
unlock_below task before r n kind place innermost log.EndEarly low broken = place.early broken.0 broken.1
unlock_below task before r n kind place innermost log.EndMissing low broken = place.missing broken.0 broken.1
unlock_below task before r n kind place innermost log.LockTwice low broken = cc (kind, broken.0)
unlock_below task before r n kind place innermost log.LocksDeep low broken = cc (kind, broken.0)
unlock_below task before r n kind place innermost log.UnlockOther low broken = let at = innermost low in broken.1 at.0 at.1
unlock_below task before r n kind place innermost log.RootBarrier low broken = cc (kind, broken.0)
unlock_below task before r n kind place innermost log.BarrierLocked low broken = cc (kind, broken.0)
unlock_below task before r n kind place innermost log.RegionLocked low broken = cc (kind, broken.0)
unlock_below task before r n kind place innermost log.LockOpen low broken = cc (kind, broken.0)
unlock_below task before r n kind place innermost log.BarrierCount low broken = cc (kind, broken.0)
unlock_below task before r n kind place innermost log.RegionRows low (inl fork) = cc (kind, fork.0)
unlock_below task before r n kind place innermost log.RegionRows low (inr end_of) = cc (kind, end_of.0)
unlock_below task before r n kind place innermost _ low broken = absurd broken

-- a Barrier
barrier_below : (task : LogTask) (before : List Record) (r : Record) (n : ℕ) → r.kind ≡ Barrier → Placed task before r
    → (13 < n → task.path ≢ [])
    → (14 < n → held_after [] before ≡ [])
    → (rule : RecordWhy) → record_rank rule < n → Breaks task before r rule → ⊥
barrier_below task before r n kind place lane free log.EndEarly low broken = place.early broken.0 broken.1
barrier_below task before r n kind place lane free log.EndMissing low broken = place.missing broken.0 broken.1
barrier_below task before r n kind place lane free log.LockTwice low broken = cc (kind, broken.0)
barrier_below task before r n kind place lane free log.LocksDeep low broken = cc (kind, broken.0)
barrier_below task before r n kind place lane free log.UnlockOther low broken = cc (kind, broken.0)
barrier_below task before r n kind place lane free log.RootBarrier low broken = lane low broken.1
barrier_below task before r n kind place lane free log.BarrierLocked low broken = broken.1 (free low)
barrier_below task before r n kind place lane free log.RegionLocked low broken = cc (kind, broken.0)
barrier_below task before r n kind place lane free log.LockOpen low broken = cc (kind, broken.0)
barrier_below task before r n kind place lane free log.BarrierCount low broken = cc (kind, broken.0)
barrier_below task before r n kind place lane free log.RegionRows low (inl fork) = cc (kind, fork.0)
barrier_below task before r n kind place lane free log.RegionRows low (inr end_of) = cc (kind, end_of.0)
barrier_below task before r n kind place lane free _ low broken = absurd broken

-- a Region
region_below : (task : LogTask) (before : List Record) (r : Record) (n : ℕ) → r.kind ≡ Region → Placed task before r
    → (15 < n → held_after [] before ≡ [])
    → (17 < n → slice_get task.spans (region_count before) ≡ Some r.value)
    → (rule : RecordWhy) → record_rank rule < n → Breaks task before r rule → ⊥
region_below task before r n kind place free listed log.EndEarly low broken = place.early broken.0 broken.1
region_below task before r n kind place free listed log.EndMissing low broken = place.missing broken.0 broken.1
region_below task before r n kind place free listed log.LockTwice low broken = cc (kind, broken.0)
region_below task before r n kind place free listed log.LocksDeep low broken = cc (kind, broken.0)
region_below task before r n kind place free listed log.UnlockOther low broken = cc (kind, broken.0)
region_below task before r n kind place free listed log.RootBarrier low broken = cc (kind, broken.0)
region_below task before r n kind place free listed log.BarrierLocked low broken = cc (kind, broken.0)
region_below task before r n kind place free listed log.RegionLocked low broken = broken.1 (free low)
region_below task before r n kind place free listed log.LockOpen low broken = cc (kind, broken.0)
region_below task before r n kind place free listed log.BarrierCount low broken = cc (kind, broken.0)
region_below task before r n kind place free listed log.RegionRows low (inl fork) = fork.1 (listed low)
region_below task before r n kind place free listed log.RegionRows low (inr end_of) = cc (kind, end_of.0)
region_below task before r n kind place free listed _ low broken = absurd broken

-- an End
end_below : (task : LogTask) (before : List Record) (r : Record) (n : ℕ) → r.kind ≡ End → Placed task before r
    → (16 < n → held_after [] before ≡ [])
    → (17 < n → length task.spans ≤ region_count before)
    → (18 < n → (others : ℕ) → task.due_barriers ≡ Some others → barrier_count before ≡ others)
    → (rule : RecordWhy) → record_rank rule < n → Breaks task before r rule → ⊥
end_below task before r n kind place free all together log.EndEarly low broken = place.early broken.0 broken.1
end_below task before r n kind place free all together log.EndMissing low broken = place.missing broken.0 broken.1
end_below task before r n kind place free all together log.LockTwice low broken = cc (kind, broken.0)
end_below task before r n kind place free all together log.LocksDeep low broken = cc (kind, broken.0)
end_below task before r n kind place free all together log.UnlockOther low broken = cc (kind, broken.0)
end_below task before r n kind place free all together log.RootBarrier low broken = cc (kind, broken.0)
end_below task before r n kind place free all together log.BarrierLocked low broken = cc (kind, broken.0)
end_below task before r n kind place free all together log.RegionLocked low broken = cc (kind, broken.0)
end_below task before r n kind place free all together log.LockOpen low broken = broken.1 (free low)
end_below task before r n kind place free all together log.BarrierCount low broken = broken.1.2 (together low broken.1.0 broken.1.1)
end_below task before r n kind place free all together log.RegionRows low (inl fork) = cc (kind, fork.0)
end_below task before r n kind place free all together log.RegionRows low (inr end_of) = absurd (omega (arith, all low, end_of.1))
end_below task before r n kind place free all together _ low broken = absurd broken

pub lock_first : (task : LogTask) (before : List Record) (r : Record) (held : List ℕ) → held ≡ held_after [] before → r.kind ≡ Lock → Placed task before r
    → (rule : RecordWhy) → CantLock held r.addr rule → BreaksFirst task before r rule
lock_first task before r held is kind place log.LockTwice cant = record {
  breaks = (kind, subst (λ (hs : List ℕ). Contains hs r.addr) is cant);
  least = lock_below task before r (record_rank log.LockTwice) kind place (λ low. absurd (omega arith)) (λ low. absurd (omega arith));
}
lock_first task before r held is kind place log.LocksDeep cant = record {
  breaks = (kind, ap (λ (hs : List ℕ). length hs) (sym is) ∙ cant.1);
  least = lock_below task before r (record_rank log.LocksDeep) kind place (λ low here. cant.0 (subst (λ (hs : List ℕ). Contains hs r.addr) (sym is) here)) (λ low. absurd (omega arith));
}
lock_first task before r held is kind place _ cant = absurd cant

pub unlock_first : (task : LogTask) (before : List Record) (r : Record) (held : List ℕ) → held ≡ held_after [] before → r.kind ≡ Unlock → Placed task before r
    → (rule : RecordWhy) → CantUnlock held r.addr rule → BreaksFirst task before r rule
unlock_first task before r held is kind place log.UnlockOther cant = record {
  breaks = (kind, λ outer at. cant (outer, is ∙ at));
  least = unlock_below task before r (record_rank log.UnlockOther) kind place (λ low. absurd (omega arith));
}
unlock_first task before r held is kind place _ cant = absurd cant

pub barrier_first : (task : LogTask) (before : List Record) (r : Record) (held : List ℕ) → held ≡ held_after [] before → r.kind ≡ Barrier → Placed task before r
    → (rule : RecordWhy) → CantPass held task.path rule → BreaksFirst task before r rule
barrier_first task before r held is kind place log.RootBarrier cant = record {
  breaks = (kind, cant);
  least = barrier_below task before r (record_rank log.RootBarrier) kind place (λ low. absurd (omega arith)) (λ low. absurd (omega arith));
}
barrier_first task before r held is kind place log.BarrierLocked cant = record {
  breaks = (kind, λ empty. cant.1 (is ∙ empty));
  least = barrier_below task before r (record_rank log.BarrierLocked) kind place (λ low. cant.0) (λ low. absurd (omega arith));
}
barrier_first task before r held is kind place _ cant = absurd cant

pub region_first : (task : LogTask) (before : List Record) (r : Record) (held : List ℕ) → held ≡ held_after [] before → r.kind ≡ Region → Placed task before r
    → (rule : RecordWhy) → CantFork held task.spans (region_count before) r.value rule → BreaksFirst task before r rule
region_first task before r held is kind place log.RegionLocked cant = record {
  breaks = (kind, λ empty. cant (is ∙ empty));
  least = region_below task before r (record_rank log.RegionLocked) kind place (λ low. absurd (omega arith)) (λ low. absurd (omega arith));
}
region_first task before r held is kind place log.RegionRows cant = record {
  breaks = inl (kind, cant.1);
  least = region_below task before r (record_rank log.RegionRows) kind place (λ low. sym is ∙ cant.0) (λ low. absurd (omega arith));
}
region_first task before r held is kind place _ cant = absurd cant

pub end_first : (task : LogTask) (before : List Record) (r : Record) (held : List ℕ) → held ≡ held_after [] before → r.kind ≡ End → Placed task before r
    → (rule : RecordWhy) → CantEnd held task (region_count before) (barrier_count before) rule → BreaksFirst task before r rule
end_first task before r held is kind place log.LockOpen cant = record {
  breaks = (kind, λ empty. cant (is ∙ empty));
  least = end_below task before r (record_rank log.LockOpen) kind place (λ low. absurd (omega arith)) (λ low. absurd (omega arith)) (λ low. absurd (omega arith));
}
end_first task before r held is kind place log.RegionRows cant = record {
  breaks = inr (kind, cant.1);
  least = end_below task before r (record_rank log.RegionRows) kind place (λ low. sym is ∙ cant.0) (λ low. absurd (omega arith)) (λ low. absurd (omega arith));
}
end_first task before r held is kind place log.BarrierCount cant = record {
  breaks = (kind, cant.2);
  least = end_below task before r (record_rank log.BarrierCount) kind place (λ low. sym is ∙ cant.0) (λ low. cant.1) (λ low. absurd (omega arith));
}
end_first task before r held is kind place _ cant = absurd cant

-- a record that breaks no rule of any rank
none_of : (task : LogTask) (before : List Record) (r : Record) → ((rule : RecordWhy) → record_rank rule < last_rank → Breaks task before r rule → ⊥) → BreaksNone task before r
none_of task before r below log.Extra broken = broken
none_of task before r below rule broken = below rule (omega arith) broken

-- the mutexes stay as they are where the record is no Lock and no Unlock
abbrev pub Keeps : List Record → Record → List ℕ → Type 0
Keeps before r now = now ≡ held_after [] (before ++ r ∷ [])

kept : (before : List Record) (r : Record) (held now : List ℕ) (kind : Kind) → r.kind ≡ kind → held ≡ held_after [] before → now ≡ held_after_kind kind r.addr held → Keeps before r now
kept before r held now kind is_kind is now_is =
    now_is ∙ ap (λ (hs : List ℕ). held_after_kind kind r.addr hs) is ∙ ap (λ (k : Kind). held_after_kind k r.addr (held_after [] before)) (sym is_kind) ∙ sym (held_after-append [] before (r ∷ []))

pub lock_none : (task : LogTask) (before : List Record) (r : Record) (held now : List ℕ) → held ≡ held_after [] before → r.kind ≡ Lock → Placed task before r
    → Locks held r.addr now → BreaksNone task before r × Keeps before r now
lock_none task before r held now is kind place locks = (
  none_of task before r (lock_below task before r last_rank kind place (λ low here. locks.free (subst (λ (hs : List ℕ). Contains hs r.addr) (sym is) here)) (λ low full. locks.few (ap (λ (hs : List ℕ). length hs) is ∙ full))),
  kept before r held now Lock kind is locks.taken,
)

pub unlock_none : (task : LogTask) (before : List Record) (r : Record) (held now : List ℕ) → held ≡ held_after [] before → r.kind ≡ Unlock → Placed task before r
    → Unlocks held r.addr now → BreaksNone task before r × Keeps before r now
unlock_none task before r held now is kind place unlocks = (
  none_of task before r (unlock_below task before r last_rank kind place (λ low. subst (λ (hs : List ℕ). IsInnermost hs r.addr) is unlocks.innermost)),
  kept before r held now Unlock kind is unlocks.rest,
)

pub barrier_none : (task : LogTask) (before : List Record) (r : Record) (held : List ℕ) → held ≡ held_after [] before → r.kind ≡ Barrier → Placed task before r
    → MayPass held task.path → BreaksNone task before r × Keeps before r held
barrier_none task before r held is kind place may =
    (none_of task before r (barrier_below task before r last_rank kind place (λ low. may.lane) (λ low. sym is ∙ may.free)), kept before r held held Barrier kind is refl)

pub region_none : (task : LogTask) (before : List Record) (r : Record) (held : List ℕ) → held ≡ held_after [] before → r.kind ≡ Region → Placed task before r
    → MayFork held task.spans (region_count before) r.value → BreaksNone task before r × Keeps before r held
region_none task before r held is kind place may =
    (none_of task before r (region_below task before r last_rank kind place (λ low. sym is ∙ may.free) (λ low. may.listed)), kept before r held held Region kind is refl)

pub end_none : (task : LogTask) (before : List Record) (r : Record) (held : List ℕ) → held ≡ held_after [] before → r.kind ≡ End → Placed task before r
    → MayEnd held task (region_count before) (barrier_count before) → BreaksNone task before r × Keeps before r held
end_none task before r held is kind place may =
    (none_of task before r (end_below task before r last_rank kind place (λ low. sym is ∙ may.free) (λ low. may.all) (λ low. may.together)), kept before r held held End kind is refl)

-- a mutex's number fits 16 bits
pub lock_fits : (r : Record) → HasAddress r.kind r → r.kind ≡ Lock → r.addr < 2 ^ 16
lock_fits r fits kind = subst (λ (k : Kind). HasAddress k r) kind fits

pub unlock_fits : (r : Record) → HasAddress r.kind r → r.kind ≡ Unlock → r.addr < 2 ^ 16
unlock_fits r fits kind = subst (λ (k : Kind). HasAddress k r) kind fits

-- a record in its place, its number being one more than those before
pub here : (task : LogTask) (before : List Record) (r : Record) (n : ℕ) → n ≡ length before + 1 → InPlace r.kind n task.records → Placed task before r
here task before r n number place = subst (λ (m : ℕ). InPlace r.kind m task.records) number place

-- a choice whose parts say more
option_more : {X : Type 0} (o : Option X) (P Q : Type 0) (R S : X → Type 0) → (P → Q) → ((x : X) → R x → S x) → MatchOption o P R → MatchOption o Q S
option_more None P Q R S none_more some_more told = none_more told
option_more (Some x) P Q R S none_more some_more told = some_more x told

-- what is told of a record of a kind: it breaks none and these mutexes are held after it, or it breaks this rule first
abbrev pub Told : LogTask → List Record → Record → List ℕ → Option RecordWhy → Type 0
Told task before r now result = MatchOption result (BreaksNone task before r × Keeps before r now) (BreaksFirst task before r)

pub lock_told : (result : Option RecordWhy) (task : LogTask) (before : List Record) (r : Record) (held now : List ℕ) → held ≡ held_after [] before → r.kind ≡ Lock → Placed task before r
    → MatchOption result (Locks held r.addr now) (CantLock held r.addr) → Told task before r now result
lock_told result task before r held now is kind place told = option_more result _ _ _ _ (lock_none task before r held now is kind place) (lock_first task before r held is kind place) told

pub unlock_told : (result : Option RecordWhy) (task : LogTask) (before : List Record) (r : Record) (held now : List ℕ) → held ≡ held_after [] before → r.kind ≡ Unlock → Placed task before r
    → MatchOption result (Unlocks held r.addr now) (CantUnlock held r.addr) → Told task before r now result
unlock_told result task before r held now is kind place told = option_more result _ _ _ _ (unlock_none task before r held now is kind place) (unlock_first task before r held is kind place) told

pub barrier_told : (result : Option RecordWhy) (task : LogTask) (before : List Record) (r : Record) (held : List ℕ) → held ≡ held_after [] before → r.kind ≡ Barrier → Placed task before r
    → MatchOption result (MayPass held task.path) (CantPass held task.path) → Told task before r held result
barrier_told result task before r held is kind place told = option_more result _ _ _ _ (barrier_none task before r held is kind place) (barrier_first task before r held is kind place) told

pub region_told : (result : Option RecordWhy) (task : LogTask) (before : List Record) (r : Record) (held : List ℕ) (regions : ℕ) → held ≡ held_after [] before → regions ≡ region_count before
    → r.kind ≡ Region → Placed task before r → MatchOption result (MayFork held task.spans regions r.value) (CantFork held task.spans regions r.value) → Told task before r held result
region_told result task before r held regions is count kind place told =
    option_more result _ _ _ _ (region_none task before r held is kind place) (region_first task before r held is kind place)
    (subst (λ (n : ℕ). MatchOption result (MayFork held task.spans n r.value) (CantFork held task.spans n r.value)) count told)

pub end_told : (result : Option RecordWhy) (task : LogTask) (before : List Record) (r : Record) (held : List ℕ) (regions barriers : ℕ) → held ≡ held_after [] before → regions ≡ region_count before
    → barriers ≡ barrier_count before → r.kind ≡ End → Placed task before r → MatchOption result (MayEnd held task regions barriers) (CantEnd held task regions barriers) → Told task before r held result
end_told result task before r held regions barriers is count passed kind place told =
    option_more result _ _ _ _ (end_none task before r held is kind place) (end_first task before r held is kind place)
    (subst (λ (n : ℕ). MatchOption result (MayEnd held task (region_count before) n) (CantEnd held task (region_count before) n)) passed
    (subst (λ (n : ℕ). MatchOption result (MayEnd held task n barriers) (CantEnd held task n barriers)) count told))

plain_kept : (before : List Record) (r : Record) (held : List ℕ) → held ≡ held_after [] before → (r.kind ≡ Read) ⊎ ((r.kind ≡ Write) ⊎ ((r.kind ≡ Chunk) ⊎ (r.kind ≡ Update))) → Keeps before r held
plain_kept before r held is (inl kind) = kept before r held held Read kind is refl
plain_kept before r held is (inr (inl kind)) = kept before r held held Write kind is refl
plain_kept before r held is (inr (inr (inl kind))) = kept before r held held Chunk kind is refl
plain_kept before r held is (inr (inr (inr kind))) = kept before r held held Update kind is refl

pub other_told : (task : LogTask) (before : List Record) (r : Record) (held : List ℕ) → held ≡ held_after [] before → (r.kind ≡ Read) ⊎ ((r.kind ≡ Write) ⊎ ((r.kind ≡ Chunk) ⊎ (r.kind ≡ Update))) → Placed task before r
    → BreaksNone task before r × Keeps before r held
other_told task before r held is kinds place = (none_of task before r (plain_below task before r last_rank (plain_of r.kind kinds) place), plain_kept before r held is kinds)
