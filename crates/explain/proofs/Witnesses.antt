-- From the records that were found to those that are named.
use Rattle.std.proofs.Common.{◌≡◌, ◌⊎◌, ℕ, ◌+◌, ◌<◌, Bool, List, length, Option, Some, None, IsTrue, sym, ap, subst, ◌∙◌, arith}
use Rattle.std.specs.Prelude.{◌↔◌, slice_get, Contains}
use Rattle.std.proofs.lemmas.Option.{same_Some, slice_get_within}
use Rattle.race_model.proofs.TraceLogs.{record_there}
use Rattle.log_format.specs.declared.record.Record.{Record}
use Rattle.race_model.specs.FirstBad.{rows_of}
use Rattle.race_model.specs.Race.{IsRace, IsUnordered, IsAccess, IsChange}
use Rattle.race_model.specs.Row.{Row}
use Rattle.race_model.specs.Trace.{TaskLog, Trace, Logs, Node, record_at, logs_of}
use Rattle.race_laws.proofs.LabelPlace.{same_node}
use Rattle.explain.specs.Witness.{IsInLog, NamesRecord, IsLeastByte, IsConfirmed, TellsRecord, FindsNamed, ConflictAt}
use Rattle.explain.specs.declared.finding.Found.{Found}
use Rattle.explain.proofs.Logs.{row_at}

-- a record that is named is in the log of a row
pub named_within : (trace : Trace) (rows : List Row) → rows_of trace ≡ rows → (row number : ℕ) (x : Node) → NamesRecord trace row number x
    → ((place : ℕ) → row ≡ place + 1 → place < length rows → ⊥) → ⊥
named_within trace rows same row number x named none =
    none named.place named.row_is (subst (λ (l : List Row). named.place < length l) same
    (slice_get_within (rows_of trace) named.place _ (row_at trace named.place named.stands.task named.stands.listed)))

-- and is found record_there
pub named_found : (trace : Trace) (place row number : ℕ) (x : Node) (r : Record) → row ≡ place + 1 → FindsNamed trace place number None → NamesRecord trace row number x
    → record_at (logs_of trace) x ≡ Some r → ⊥
named_found trace place row number x r row_is none named found =
    none x (subst (λ (p : ℕ). IsInLog trace p x) (let own = named.row_is in let same : named.place ≡ place = omega arith in same) named.stands) named.number_is (record_there (logs_of trace) x r found)

-- a row and a number name one record
pub named_once : (trace : Trace) (place row number : ℕ) (x y : Node) → row ≡ place + 1 → IsInLog trace place x → number ≡ x.index + 1 → NamesRecord trace row number y → x ≡ y
named_once trace place row number x y row_is stands number_is named =
    let own = named.row_is in
    let places : place ≡ named.place = omega arith in
    let tasks : stands.task ≡ named.stands.task = same_Some stands.task named.stands.task (sym stands.listed ∙ (ap (slice_get trace) places ∙ named.stands.listed)) in
    let also = named.number_is in
    same_node x y (stands.path_is ∙ (ap (λ (t : TaskLog). t.path) tasks ∙ sym named.stands.path_is)) (omega arith)

-- two records that were found
module _ (logs : Logs) (one other : Found) (x y : Node) (x_tells : TellsRecord logs x one) (y_tells : TellsRecord logs y other) where
  pub race_from : (byte : ℕ) → ConflictAt one other byte → IsUnordered logs x y → IsRace logs x y one.event other.event
  race_from byte c unordered = record {
    left = x_tells.event;
    right = y_tells.event;
    left_access = c.one_access;
    right_access = c.other_access;
    unordered = unordered;
    shares = (byte, c.least.left, c.least.right);
    changes = c.changes;
    not_both_updates = c.not_both_updates;
    no_mutex = λ m mine yours. c.no_mutex m (subst (λ (l : List ℕ). Contains l m) (sym x_tells.held) mine) (subst (λ (l : List ℕ). Contains l m) (sym y_tells.held) yours);
  }

  conflict_same : (byte : ℕ) (r s : Record) → IsRace logs x y r s → IsLeastByte r s byte → r ≡ one.event → s ≡ other.event → ConflictAt one other byte
  conflict_same byte r s race least e f = record {
    one_access = subst (λ (q : Record). IsAccess q) e race.left_access;
    other_access = subst (λ (q : Record). IsAccess q) f race.right_access;
    changes = subst (λ (q : Record). IsChange q ⊎ IsChange other.event) e (subst (λ (q : Record). IsChange r ⊎ IsChange q) f race.changes);
    not_both_updates = λ mine yours. race.not_both_updates (ap (λ (q : Record). q.kind) e ∙ mine) (ap (λ (q : Record). q.kind) f ∙ yours);
    no_mutex = λ m mine yours. race.no_mutex m (subst (λ (l : List ℕ). Contains l m) x_tells.held mine) (subst (λ (l : List ℕ). Contains l m) y_tells.held yours);
    least = subst (λ (q : Record). IsLeastByte q other.event byte) e (subst (λ (q : Record). IsLeastByte r q byte) f least);
  }

  pub conflict_of : (byte : ℕ) (r s : Record) → IsRace logs x y r s → IsLeastByte r s byte → ConflictAt one other byte
  conflict_of byte r s race least = conflict_same byte r s race least (same_Some r one.event (sym race.left ∙ x_tells.event)) (same_Some s other.event (sym race.right ∙ y_tells.event))

module _ (trace : Trace) (first_place second_place first_row first second_row second : ℕ) (first_is : first_row ≡ first_place + 1) (second_is : second_row ≡ second_place + 1)
    (one other : Found) (x y : Node) (x_stands : IsInLog trace first_place x) (y_stands : IsInLog trace second_place y) (x_number : first ≡ x.index + 1) (y_number : second ≡ y.index + 1)
    (x_tells : TellsRecord (logs_of trace) x one) (y_tells : TellsRecord (logs_of trace) y other) where
  confirmed : (byte : ℕ) → ConflictAt one other byte → IsUnordered (logs_of trace) x y → IsConfirmed trace first_row first second_row second byte
  confirmed byte c unordered = record {
    x = x;
    y = y;
    r = one.event;
    s = other.event;
    left = record { place = first_place; row_is = first_is; stands = x_stands; number_is = x_number };
    right = record { place = second_place; row_is = second_is; stands = y_stands; number_is = y_number };
    race = race_from (logs_of trace) one other x y x_tells y_tells byte c unordered;
    least = c.least;
  }

  found_again : (byte : ℕ) → IsConfirmed trace first_row first second_row second byte → ConflictAt one other byte × IsUnordered (logs_of trace) x y
  found_again byte k =
      let mine : x ≡ k.x = named_once trace first_place first_row first x k.x first_is x_stands x_number k.left in
      let yours : y ≡ k.y = named_once trace second_place second_row second y k.y second_is y_stands y_number k.right in
      let race : IsRace (logs_of trace) x y k.r k.s =
      subst (λ (w : Node). IsRace (logs_of trace) w y k.r k.s) (sym mine) (subst (λ (w : Node). IsRace (logs_of trace) k.x w k.r k.s) (sym yours) k.race) in (
        conflict_of (logs_of trace) one other x y x_tells y_tells byte k.r k.s race k.least,
        race.unordered,
      )

  pub told_race : (answer : Option ℕ) (byte : ℕ) → (answer ≡ Some byte) ↔ (ConflictAt one other byte × IsUnordered (logs_of trace) x y)
      → (answer ≡ Some byte) ↔ IsConfirmed trace first_row first second_row second byte
  told_race answer byte races = (λ is. let both = races.0 is in confirmed byte both.0 both.1, λ k. races.1 (found_again byte k))

-- the answer for two records that were found
pub only_unordered : (conflict answer : Option ℕ) (byte n : ℕ) (so : Bool) {C U : Type 0} → conflict ≡ Some byte → (conflict ≡ Some n) ↔ C → IsTrue so ↔ U
    → (answer ≡ Some n) ↔ (IsTrue so × (n ≡ byte)) → (answer ≡ Some n) ↔ (C × U)
only_unordered conflict answer byte n so is exact unordered only = (
  λ some. let both = only.0 some in (exact.0 (is ∙ ap Some (sym both.1)), unordered.0 both.0),
  λ both. only.1 (unordered.1 both.1, same_Some n byte (sym (exact.1 both.0) ∙ is)),
)
