-- What holds of the tasks of a tree holds of their logs, which may lack the unlocks at their end.
use Rattle.std.proofs.Common.{◌≡◌, ◌⊎◌, inl, inr, refl, sym, ap, ◌∙◌, subst, ℕ, zero, suc, cond, List, [], ◌∷◌, ◌++◌, map, Some, arith}
use Rattle.std.specs.Prelude.{slice_get, reverse}
use Rattle.std.proofs.lemmas.List.{append-nil}
use Rattle.std.proofs.lemmas.List.Sums.{sum_by-append}
use Rattle.std.proofs.lemmas.Option.{slice_get_within}
use Rattle.sw_base.specs.declared.path.Step.{Step}
use Rattle.log_format.specs.declared.record.Record.{Record}
use Rattle.log_format.specs.declared.record.Kind.{Kind}
use Rattle.log_format.specs.declared.record.Kind.TheVariants.{Region, Unlock, End}
use Rattle.race_model.specs.Trace.{Logs, Node, is_barrier_kind, barrier_count, region_count}
use Rattle.race_model.specs.Listing.{lane_of}
use Rattle.race_model.specs.Order.{IsLane}
use Rattle.race_model.specs.Race.{held_after}
use Rattle.race_model.specs.History.{IsReleased, release, released}
use Rattle.history_model.specs.Joined.{LastIsEnd}
use Rattle.history_laws.proofs.LongerLogs.{GoesOn, take_full}

-- no barrier is released
no_barriers : (mutexes : List ℕ) → barrier_count (map release mutexes) ≡ 0
no_barriers [] = refl
no_barriers (m ∷ mutexes) = no_barriers mutexes

same_barriers : (records : List Record) (mutexes : List ℕ) → barrier_count (records ++ map release mutexes) ≡ barrier_count records
same_barriers records mutexes =
    let sum = sum_by-append (λ (r : Record). cond (is_barrier_kind r.kind) 1 0) records (map release mutexes) in
    let added = no_barriers mutexes in
    omega (arith, sum, added)

-- the kind of the last record
abbrev last_kind : Kind → List Record → Kind
last_kind k [] = k
last_kind k (r ∷ records) = last_kind r.kind records

last_is : (k : Kind) (records : List Record) (last : Record) → last_kind k (records ++ last ∷ []) ≡ last.kind
last_is k [] last = refl
last_is k (r ∷ records) last = last_is r.kind records last

last_released : (k : Kind) (m : ℕ) (mutexes : List ℕ) → last_kind k (map release (m ∷ mutexes)) ≡ Unlock
last_released k m [] = refl
last_released k m (n ∷ mutexes) = last_released Unlock n mutexes

last_later : (k : Kind) (records : List Record) (m : ℕ) (mutexes : List ℕ) → last_kind k (records ++ map release (m ∷ mutexes)) ≡ Unlock
last_later k [] m mutexes = last_released k m mutexes
last_later k (r ∷ records) m mutexes = last_later r.kind records m mutexes

ends_before : (records : List Record) (mutexes : List ℕ) → LastIsEnd (records ++ map release mutexes) → LastIsEnd records
ends_before records [] e = subst (λ (rs : List Record). LastIsEnd rs) (append-nil records) e
ends_before records (m ∷ mutexes) e =
    let other : Unlock ≡ End = sym (last_later End records m mutexes) ∙ ap (λ (rs : List Record). last_kind End rs) e.parts ∙ last_is End e.prefix e.last ∙ e.ends in
    absurd (cc)

-- a Region record isn't released
region_released : (mutexes : List ℕ) (i : ℕ) (r : Record) → slice_get (map release mutexes) i ≡ Some r → r.kind ≡ Unlock
region_released [] i r found = cc
region_released (m ∷ mutexes) zero r found = cc
region_released (m ∷ mutexes) (suc i) r found = region_released mutexes i r found

region_put : (records : List Record) (mutexes : List ℕ) (i : ℕ) (r : Record) → slice_get (records ++ map release mutexes) i ≡ Some r → r.kind ≡ Region → slice_get records i ≡ Some r
region_put [] mutexes i r found region = let other : Unlock ≡ Region = sym (region_released mutexes i r found) ∙ region in absurd (cc)
region_put (q ∷ records) mutexes zero r found region = found
region_put (q ∷ records) mutexes (suc i) r found region = region_put records mutexes i r found region

module _ (logs full : Logs) (is : IsReleased logs full) where
  -- what each log lacks
  lacks : (path : List Step) → (mutexes : List ℕ) × (full path ≡ logs path ++ map release mutexes)
  lacks path = at (is path) where
    at : (full path ≡ logs path) ⊎ (full path ≡ released (logs path)) → (mutexes : List ℕ) × (full path ≡ logs path ++ map release mutexes)
    at (inl same) = ([], same ∙ sym (append-nil (logs path)))
    at (inr same) = (reverse (held_after [] (logs path)), same)

  pub on : GoesOn logs full
  on path = (map release (lacks path).0, (lacks path).1)

  pub barriers_same : (path : List Step) → barrier_count (full path) ≡ barrier_count (logs path)
  barriers_same path = ap (λ (rs : List Record). barrier_count rs) (lacks path).1 ∙ same_barriers (logs path) (lacks path).0

  pub ends_same : (path : List Step) → LastIsEnd (full path) → LastIsEnd (logs path)
  ends_same path e = ends_before (logs path) (lacks path).0 (subst (λ (rs : List Record). LastIsEnd rs) (lacks path).1 e)

  -- a lane told by all records is one told by the logs
  pub lane_put : (fork : Node) (lane span : ℕ) (path : List Step) → IsLane full fork lane span path → IsLane logs fork lane span path
  lane_put fork lane span path l = record {
    event = l.event;
    found = found;
    region = l.region;
    spans = l.spans;
    in_span = l.in_span;
    child = l.child ∙ ap (λ (rs : List Record). lane_of fork.path (region_count rs) lane span)
        (take_full logs full on fork (let less = slice_get_within (logs fork.path) fork.index l.event found in omega arith));
  }
    where
      found : slice_get (logs fork.path) fork.index ≡ Some l.event
      found = region_put (logs fork.path) (lacks fork.path).0 fork.index l.event (sym (ap (λ (rs : List Record). slice_get rs fork.index) (lacks fork.path).1) ∙ l.found) l.region
