-- Where stand-ins replace accesses, no race pair is lost.
use Rattle.std.proofs.Common.{◌≡◌, ◌⊎◌, ℕ, refl, sym, ap₂, ◌∙◌, inl, inr}
use Rattle.std.specs.Prelude.{min, max}
use Rattle.log_format.specs.declared.record.Record.{Record}
use Rattle.log_format.specs.declared.record.Kind.TheVariants.{Read, Write, Update}
use Rattle.race_model.specs.Trace.{Logs, Node}
use Rattle.race_model.specs.Race.{IsAccess, IsChange, IsUnordered, IsRace, IsRacePair}
use Rattle.race_model.specs.ForkJoin.{IsForkJoin}
use Rattle.race_model.proofs.TraceLogs.{record_there}
use Rattle.writer_laws.specs.Carrying.{Carries}
use Rattle.writer_laws.specs.StandIns.{Covers, HasStandIn, IsReplaced}
use Rattle.writer_laws.proofs.Carried.{unordered_too}

pub covers_itself : (r : Record) → Covers r r
covers_itself r = record { same_line = refl; bytes = λ byte has. has; kind = inl refl }

covers_change : (r s : Record) → Covers r s → IsChange r → IsChange s
covers_change r s c changes = at c.kind changes
  where
    at : (s.kind ≡ r.kind) ⊎ ((r.kind ≡ Read) × (s.kind ≡ Write)) → IsChange r → IsChange s
    at (inl same) (inl write) = inl (same ∙ write)
    at (inl same) (inr update) = inr (same ∙ update)
    at (inr other) change = inl other.1

covers_access : (r s : Record) → Covers r s → IsAccess r → IsAccess s
covers_access r s c access = at c.kind access
  where
    at : (s.kind ≡ r.kind) ⊎ ((r.kind ≡ Read) × (s.kind ≡ Write)) → IsAccess r → IsAccess s
    at (inl same) (inl read) = inl (same ∙ read)
    at k (inr change) = inr (covers_change r s c change)
    at (inr other) access = inr (inl other.1)

covers_update : (r s : Record) → Covers r s → s.kind ≡ Update → r.kind ≡ Update
covers_update r s c update = at c.kind
  where
    at : (s.kind ≡ r.kind) ⊎ ((r.kind ≡ Read) × (s.kind ≡ Write)) → r.kind ≡ Update
    at (inl same) = sym same ∙ update
    at (inr other) = let write : s.kind ≡ Write = other.1 in cc

unordered_back : (logs : Logs) (x y : Node) → IsUnordered logs x y → IsUnordered logs y x
unordered_back logs x y u = record { not_before = u.not_after; not_after = u.not_before }

module _ (Answers : Node → Node → Type 0) (logs others : Logs) (tree : IsForkJoin logs) (carries : Carries Answers logs others) where
  pub race_by : (x y : Node) (r s : Record) → IsRace logs x y r s → (v : HasStandIn Answers logs others x r) (w : HasStandIn Answers logs others y s) → IsRace others v.place w.place v.event w.event
  race_by x y r s race v w = record {
    left = v.found;
    right = w.found;
    left_access = covers_access r v.event v.covers race.left_access;
    right_access = covers_access s w.event w.covers race.right_access;
    unordered = unordered_too Answers logs others carries x y v.place w.place tree
        (record_there logs x r race.left) (record_there logs y s race.right) v.answers w.answers race.unordered;
    shares = (race.shares.0, v.covers.bytes race.shares.0 race.shares.1, w.covers.bytes race.shares.0 race.shares.2);
    changes = at race.changes;
    not_both_updates = λ mine yours. race.not_both_updates (covers_update r v.event v.covers mine) (covers_update s w.event w.covers yours);
    no_mutex = λ m mine yours. race.no_mutex m (v.mutexes m mine) (w.mutexes m yours);
  }
    where
      at : IsChange r ⊎ IsChange s → IsChange v.event ⊎ IsChange w.event
      at (inl mine) = inl (covers_change r v.event v.covers mine)
      at (inr yours) = inr (covers_change s w.event w.covers yours)

  -- a pair whose two accesses have stand-ins
  pub pair_by : (pair : ℕ × ℕ) (p : IsRacePair logs pair) → HasStandIn Answers logs others p.x p.r → HasStandIn Answers logs others p.y p.s → IsRacePair others pair
  pair_by pair p v w = record {
    x = v.place;
    y = w.place;
    r = v.event;
    s = w.event;
    race = race_by p.x p.y p.r p.s p.race v w;
    lines = p.lines ∙ ap₂ (λ (a b : ℕ). (min a b, max a b)) (sym v.covers.same_line) (sym w.covers.same_line);
  }

pub no_pair_lost : (Answers : Node → Node → Type 0) (logs others : Logs) → IsForkJoin logs → IsReplaced Answers logs others → (pair : ℕ × ℕ) → IsRacePair logs pair → IsRacePair others pair
no_pair_lost Answers logs others tree replaced pair p = pair_by Answers logs others tree replaced.carries pair p
    (replaced.stand_ins p.x p.y p.r p.race.left p.race.left_access (record_there logs p.y p.s p.race.right) p.race.unordered)
    (replaced.stand_ins p.y p.x p.s p.race.right p.race.right_access (record_there logs p.x p.r p.race.left) (unordered_back logs p.x p.y p.race.unordered))
