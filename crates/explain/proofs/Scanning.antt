-- Going over the records of a row's log.
use Rattle.std.proofs.Common.{◌≡◌, ℕ, ◌+◌, ◌<◌, List, [], ◌∷◌, ◌++◌, length, take, Some, None, refl, sym, ap, subst, ◌∙◌, inl, inr, arith, append_assoc, append-nil}
use Rattle.std.specs.Prelude.{slice_get}
use Rattle.std.proofs.lemmas.Bool.{cases_order}
use Rattle.std.proofs.lemmas.List.{length_push}
use Rattle.std.proofs.lemmas.Option.{same_Some}
use Rattle.sw_base.specs.Environment.{Content}
use Rattle.log_format.specs.declared.record.Record.{Record}
use Rattle.log_reader.specs.Reading.{Reading, StandsBefore, GivesNext}
use Rattle.race_laws.proofs.LabelPlace.{same_node}
use Rattle.race_model.specs.Race.{held_after}
use Rattle.race_model.specs.Row.{Row}
use Rattle.race_model.specs.Trace.{TaskLog, Trace, Node, IsThere, logs_of, barrier_count}
use Rattle.explain.specs.Finding.{EachMayFollow, IsPlaceAfter, MayFollow}
use Rattle.explain.specs.Witness.{IsInLog, TellsRecord}
use Rattle.explain.specs.declared.finding.Found.{Found}
use Rattle.explain.specs.declared.passing.ReadPlace.{ReadPlace}
use Rattle.explain.proofs.Logs.{LogOf, seam, front}

-- the first records of the log of this place were passed, and each has a property
pub record Scans (c : Content) (trace : Trace) (at : ℕ) (reading : Reading) (place : ReadPlace) (N : Node → Type 0) : Type 0 where
  pub task : TaskLog
  pub listed : slice_get trace at ≡ Some task
  pub log_is : logs_of trace task.path ≡ task.records
  pub may_follow : EachMayFollow task.records
  pub given : List Record
  pub left : List Record
  pub parts : task.records ≡ given ++ left
  pub stands : StandsBefore c reading left
  pub after : IsPlaceAfter place given
  pub each : (y : Node) → IsInLog trace at y → y.index < length given → N y

-- before the first one
pub scans_none : {c : Content} {dir : List ℕ} {trace : Trace} {at : ℕ} {row : Row} {reading : Reading} {place : ReadPlace} (log : LogOf c dir trace at row) (N : Node → Type 0)
    → StandsBefore c reading log.task.records → IsPlaceAfter place [] → Scans c trace at reading place N
scans_none log N stands after = record {
  task = log.task;
  listed = log.listed;
  log_is = log.logs_are;
  may_follow = log.may_follow;
  given = [];
  left = log.task.records;
  parts = refl;
  stands = stands;
  after = after;
  each = λ y in_log within. absurd (omega (arith, within));
}

module _ {c : Content} {trace : Trace} {at : ℕ} {reading : Reading} {place : ReadPlace} {N : Node → Type 0} (s : Scans c trace at reading place N) where
  -- the next record
  abbrev pub next_node : Node
  next_node = record { path = s.task.path; index = length s.given }

  pub next_in_log : IsInLog trace at next_node
  next_in_log = record { task = s.task; listed = s.listed; path_is = refl }

  path_here : (y : Node) → IsInLog trace at y → y.path ≡ s.task.path
  path_here y stands = stands.path_is ∙ ap (λ (t : TaskLog). t.path) (same_Some stands.task s.task (sym stands.listed ∙ s.listed))

  record IsNext (r : Record) (after : Reading) : Type 0 where
    rest : List Record
    parts : s.task.records ≡ s.given ++ r ∷ rest
    stands : StandsBefore c after rest

  is_next : (r : Record) (after : Reading) → GivesNext c s.left (Some r) after → IsNext r after
  is_next r after gives = go s.left gives s.parts
    where
      go : (left : List Record) → GivesNext c left (Some r) after → s.task.records ≡ s.given ++ left → IsNext r after
      go [] gives parts = let differ = gives.0 in absurd (cc differ)
      go (q ∷ rs) gives parts = let same = gives.0 in record { rest = rs; parts = parts ∙ ap (λ (e : Record). s.given ++ e ∷ rs) (let e : q ≡ r = cc same in e); stands = gives.1 }

  pub next_tells : (r : Record) (after : Reading) (found : Found) → GivesNext c s.left (Some r) after → found ≡ record { event = r; held = place.held; barriers = place.barriers } → TellsRecord (logs_of trace) next_node found
  next_tells r after found gives is =
      let next = is_next r after gives in
      let first : take (length s.given) (logs_of trace s.task.path) ≡ s.given = ap (take (length s.given)) s.log_is ∙ front s.task.records s.given next.rest r (length s.given) next.parts refl in
      record {
        event = ap (λ (l : List Record). slice_get l (length s.given)) s.log_is ∙ (seam s.task.records s.given next.rest r (length s.given) next.parts refl ∙ ap (λ (f : Found). Some f.event) (sym is));
        held = ap (λ (f : Found). f.held) is ∙ (s.after.held ∙ ap (held_after []) (sym first));
        barriers = ap (λ (f : Found). f.barriers) is ∙ (s.after.barriers ∙ ap barrier_count (sym first));
      }

  pub number_of : place.records + 1 ≡ next_node.index + 1
  number_of = ap (λ (n : ℕ). n + 1) s.after.records

  -- it has the property too
  pub scans_next : (r : Record) (after : Reading) (new : ReadPlace) → GivesNext c s.left (Some r) after → N next_node → (MayFollow place.held r → IsPlaceAfter new (s.given ++ r ∷ [])) → Scans c trace at after new N
  scans_next r after new gives holds goes =
      let next = is_next r after gives in
      record {
        task = s.task;
        listed = s.listed;
        log_is = s.log_is;
        may_follow = s.may_follow;
        given = s.given ++ r ∷ [];
        left = next.rest;
        parts = next.parts ∙ sym (append_assoc s.given (r ∷ []) next.rest);
        stands = next.stands;
        after = goes (subst (λ (held : List ℕ). MayFollow held r) (sym s.after.held) (s.may_follow s.given next.rest r next.parts));
        each = λ y in_log within. elim (cases_order y.index (length s.given)) [
          | inl same ↦ subst N (sym (same_node y next_node (path_here y in_log) same)) holds
          | inr (inl less) ↦ s.each y in_log less
          | inr (inr above) ↦ absurd (omega (arith, above, within, length_push s.given r))
        ];
      }

  -- all have it
  pub scans_all : (after : Reading) → GivesNext c s.left None after → (y : Node) → IsInLog trace at y → IsThere (logs_of trace) y → N y
  scans_all after gives y in_log there = s.each y in_log (subst (λ (l : List Record). y.index < length l) (records ∙ sym (all s.left gives s.parts)) there)
    where
      records : logs_of trace y.path ≡ s.task.records
      records = ap (logs_of trace) (path_here y in_log) ∙ s.log_is

      all : (left : List Record) → GivesNext c left None after → s.task.records ≡ s.given ++ left → s.given ≡ s.task.records
      all [] gives parts = sym (parts ∙ append-nil s.given)
      all (r ∷ rs) gives parts = let differ = gives.0 in absurd (cc differ)
