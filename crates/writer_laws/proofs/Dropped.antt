-- A run with accesses left out has the same race pairs.
use Rattle.std.proofs.Common.{◌≡◌, ◌⊎◌, ◌↔◌, ℕ, Bool, true, false, List, [], Some, refl, sym, ap, subst, ◌∙◌, inl, inr}
use Rattle.std.specs.Prelude.{slice_get, Contains}
use Rattle.sw_base.specs.declared.path.Step.{Step}
use Rattle.log_format.specs.declared.record.Record.{Record}
use Rattle.race_model.specs.Trace.{Logs, Node, record_at}
use Rattle.race_model.specs.Race.{IsRacePair, IsUnordered}
use Rattle.race_model.specs.Trace.{IsThere}
use Rattle.race_model.specs.ForkJoin.{IsForkJoin}
use Rattle.log_format.specs.declared.record.Kind.TheVariants.{Read, Write}
use Rattle.writer_laws.specs.Places.{forks, ForkAlike, IsAtPlace}
use Rattle.writer_laws.specs.StandIns.{HasStandIn, IsReplaced}
use Rattle.writer_laws.specs.Dropping.{MayBeDropped, Drops, DropsAtRoot}
use Rattle.race_model.proofs.TraceLogs.{record_there}
use Rattle.writer_laws.proofs.Kept.{IsPlaced, LeavesAccesses, Stays, stays, comes, forks_kept}
use Rattle.writer_laws.proofs.Replaced.{covers_itself, no_pair_lost}
use Rattle.writer_laws.proofs.Unordered.{alike_back, places_carry, root_ordered}

module _ (keep : Node → Bool) (logs others : Logs) (drops : Drops keep logs others) where
  abbrev pub keeps : List Step → ℕ → Bool
  keeps path n = keep (record { path = path; index = n })

  pub leaves : (path : List Step) → LeavesAccesses (keeps path) (logs path)
  leaves path n r found out = drops.accesses (record { path = path; index = n }) r found out

  alike : ForkAlike logs others
  alike path = forks_kept 0 (keeps path) (logs path) (leaves path) ∙ ap forks (sym (drops.kept path))

  -- a kept record, in the other run
  itself : (x : Node) (r : Record) → record_at logs x ≡ Some r → keep x ≡ true → HasStandIn (IsAtPlace logs others) logs others x r
  itself x r found in_it = by (stays (keeps x.path) (logs x.path) (leaves x.path) x.index r found in_it)
    where
      by : Stays (keeps x.path) (logs x.path) x.index r → HasStandIn (IsAtPlace logs others) logs others x r
      by s =
          let p = subst (λ (l : List Record). IsPlaced (logs x.path) l x.index s.index r) (sym (drops.kept x.path)) s.placed in
          record {
            place = record { path = x.path; index = s.index };
            event = r;
            found = p.there;
            answers = record { same_task = refl; as_many = p.as_many };
            covers = covers_itself r;
            mutexes = λ m held. subst (λ (ms : List ℕ). Contains ms m) (sym (p.same_held [])) held;
          }

  -- by way of a record that stands for it
  through : (x : Node) (r : Record) (v : HasStandIn (IsAtPlace logs logs) logs logs x r) → HasStandIn (IsAtPlace logs others) logs others v.place v.event → HasStandIn (IsAtPlace logs others) logs others x r
  through x r v w = record {
    place = w.place;
    event = w.event;
    found = w.found;
    answers = record { same_task = v.answers.same_task ∙ w.answers.same_task; as_many = v.answers.as_many ∙ w.answers.as_many };
    covers = record {
      same_line = w.covers.same_line ∙ v.covers.same_line;
      bytes = λ byte has. w.covers.bytes byte (v.covers.bytes byte has);
      kind = at v.covers.kind w.covers.kind;
    };
    mutexes = λ m held. v.mutexes m (w.mutexes m held);
  }
    where
      at : (v.event.kind ≡ r.kind) ⊎ ((r.kind ≡ Read) × (v.event.kind ≡ Write)) → (w.event.kind ≡ v.event.kind) ⊎ ((v.event.kind ≡ Read) × (w.event.kind ≡ Write))
          → (w.event.kind ≡ r.kind) ⊎ ((r.kind ≡ Read) × (w.event.kind ≡ Write))
      at (inl e) (inl f) = inl (f ∙ e)
      at (inl e) (inr g) = inr (sym e ∙ g.0, g.1)
      at (inr h) (inl f) = inr (h.0, f ∙ h.1)
      at (inr h) (inr g) = inr (h.0, g.1)

  fewer : IsReplaced (IsAtPlace logs others) logs others
  fewer = record { carries = places_carry logs others alike; stand_ins = λ x y r found access y_there unordered. at x y r found y_there unordered (keep x) refl }
    where
      dropped : (x y : Node) (r : Record) → IsThere logs y → IsUnordered logs x y → MayBeDropped keep logs x r → HasStandIn (IsAtPlace logs others) logs others x r
      dropped x y r y_there unordered (MayBeDropped.ordered none) = absurd (none y y_there unordered)
      dropped x y r y_there unordered (MayBeDropped.repeated v in_it) = through x r v (itself v.place v.event v.found in_it)

      at : (x y : Node) (r : Record) → record_at logs x ≡ Some r → IsThere logs y → IsUnordered logs x y → (b : Bool) → keep x ≡ b → HasStandIn (IsAtPlace logs others) logs others x r
      at x y r found y_there unordered true is = itself x r found is
      at x y r found y_there unordered false is = dropped x y r y_there unordered (drops.each x r found is)

  whole : IsReplaced (IsAtPlace others logs) others logs
  whole = record { carries = places_carry others logs (alike_back logs others alike); stand_ins = λ x y r found access y_there unordered. at x r found }
    where
      at : (x : Node) (r : Record) → record_at others x ≡ Some r → HasStandIn (IsAtPlace others logs) others logs x r
      at x r found =
          let c = comes (keeps x.path) (logs x.path) (leaves x.path) x.index r (subst (λ (l : List Record). slice_get l x.index ≡ Some r) (drops.kept x.path) found) in
          let p = subst (λ (l : List Record). IsPlaced (logs x.path) l c.index x.index r) (sym (drops.kept x.path)) c.placed in
          record {
            place = record { path = x.path; index = c.index };
            event = r;
            found = p.found;
            answers = record { same_task = refl; as_many = sym p.as_many };
            covers = covers_itself r;
            mutexes = λ m held. subst (λ (ms : List ℕ). Contains ms m) (p.same_held []) held;
          }

  pub drops_keep_pairs : IsForkJoin logs → IsForkJoin others → (pair : ℕ × ℕ) → IsRacePair logs pair ↔ IsRacePair others pair
  drops_keep_pairs tree other_tree pair = (no_pair_lost (IsAtPlace logs others) logs others tree fewer pair, no_pair_lost (IsAtPlace others logs) others logs other_tree whole pair)

-- all records of the root are ordered with everything, so that its accesses may be left out
pub root_drops : (keep : Node → Bool) (logs others : Logs) → IsForkJoin logs → DropsAtRoot keep logs others → Drops keep logs others
root_drops keep logs others tree d = record {
  kept = d.kept;
  accesses = d.accesses;
  each = λ x r found out. MayBeDropped.ordered (λ y y_there unordered. root_ordered logs x y tree (record_there logs x r found) y_there unordered (d.at_root x out));
}
