-- What the first record with an answer tells.
use Rattle.std.proofs.Common.{◌≡◌, ℕ, ◌+◌, ◌<◌, ◌≤◌, true, false, List, length, Option, Some, None, sym, subst, ◌∙◌, inl, inr, arith}
use Rattle.std.proofs.lemmas.Bool.{cases_order}
use Rattle.std.proofs.lemmas.Option.{slice_get_within}
use Rattle.std.specs.Option.{is_some}
use Rattle.sw_base.specs.Environment.{Content}
use Rattle.race_model.proofs.TraceLogs.{record_there}
use Rattle.log_reader.specs.Reading.{Reading, GivesNext}
use Rattle.race_model.specs.FirstBad.{rows_of}
use Rattle.race_model.specs.Row.{Row}
use Rattle.race_model.specs.Trace.{Trace, Node, logs_of}
use Rattle.explain.specs.Least.{FindsLeast, FindsHit, FindsRace, HasNoPartner, IsFirstPartner, IsFirstRace, IsUpTo, IsWitness, RacesOn}
use Rattle.explain.specs.Witness.{IsInLog}
use Rattle.explain.specs.declared.explaining.RacePair.{RacePair}
use Rattle.explain.specs.declared.passing.ReadPlace.{ReadPlace}
use Rattle.explain.specs.declared.searching.Hit.{Hit}
use Rattle.explain.specs.declared.searching.FoundPartner.{FoundPartner}
use Rattle.explain.proofs.Logs.{row_at}
use Rattle.explain.proofs.Scanning.{Scans, next_node, next_in_log, number_of, scans_all}
use Rattle.explain.proofs.Witnesses.{named_once}

-- a record doesn't race with x in these lines
abbrev pub IsNoHit : Trace → ℕ × ℕ → Node → Node → Type 0
IsNoHit trace lines x y = (byte : ℕ) → RacesOn (logs_of trace) lines x y byte → ⊥

not_less : (a b : ℕ) → (a < b → ⊥) → b ≤ a
not_less a b never = elim (cases_order a b) [ inl same ↦ omega (arith, same) | inr (inl less) ↦ absurd (never less) | inr (inr above) ↦ omega (arith, above) ]

module _ {c : Content} {trace : Trace} {at : ℕ} {reading : Reading} {place : ReadPlace} (lines : ℕ × ℕ) where
  module _ (x : Node) (s : Scans c trace at reading place (IsNoHit trace lines x)) where
    pub hit_here : (hit : Hit) → hit.number ≡ place.records + 1 → RacesOn (logs_of trace) lines x (next_node s) hit.byte → FindsHit trace lines x at (Some hit)
    hit_here hit number races = record {
      y = next_node s;
      stands = next_in_log s;
      number_is = number ∙ number_of s;
      races = races;
      least = λ z byte in_z other. not_less z.index (length s.given) (λ less. s.each z in_z less byte other);
    }

    pub no_hit : (after : Reading) → GivesNext c s.left None after → FindsHit trace lines x at None
    no_hit after gives y byte in_y races = scans_all s after gives y in_y (record_there (logs_of trace) y races.s races.race.right) byte races

  module _ (s : Scans c trace at reading place (HasNoPartner trace lines at)) where
    pub race_here : (found : RacePair) (partner : FoundPartner) → found.first_row ≡ at + 1 → found.first ≡ place.records + 1
        → partner ≡ record { row = found.second_row; hit = record { number = found.second; byte = found.byte } } → IsFirstPartner trace lines at (next_node s) partner → FindsRace trace lines at (Some found)
    race_here found partner row number same first = record {
      x = next_node s;
      stands = next_in_log s;
      row_is = row;
      number_is = number ∙ number_of s;
      partner = subst (IsFirstPartner trace lines at (next_node s)) same first;
      least = λ z in_z less. s.each z in_z less;
    }

    pub no_race_here : (after : Reading) → GivesNext c s.left None after → FindsRace trace lines at None
    no_race_here after gives x in_x other y byte later in_y races = scans_all s after gives x in_x (record_there (logs_of trace) x races.r races.race.left) other y byte later in_y races

-- no record before the row of this place races with one of a later row
abbrev pub NoneBefore : Trace → ℕ × ℕ → ℕ → Type 0
NoneBefore trace lines place = (p : ℕ) (x : Node) → p < place → IsInLog trace p x → HasNoPartner trace lines p x

module _ (trace : Trace) (lines : ℕ × ℕ) (place : ℕ) (found : RacePair) (first : IsFirstRace trace lines place found) (none : NoneBefore trace lines place) where
  witness : IsWitness trace lines found.first_row found.first found.second_row found.second found.byte
  witness =
      let row = first.row_is in
      let partner = first.partner in
      let other_row = partner.row_is in
      let later = partner.later in
      record {
        x = first.x;
        y = partner.first.y;
        left = record { place = place; row_is = row; stands = first.stands; number_is = first.number_is };
        right = record { place = partner.other; row_is = other_row; stands = partner.first.stands; number_is = partner.first.number_is };
        in_order = omega (arith, row, other_row, later);
        races = partner.first.races;
      }

  first_least : (a i b j byte : ℕ) → IsWitness trace lines a i b j byte → IsUpTo found.first_row found.first a i
  first_least a i b j byte w =
      let row = first.row_is in
      let number = first.number_is in
      let own = w.left.row_is in
      let its = w.left.number_is in
      let far = w.right.row_is in
      let ahead = w.in_order in
      elim (cases_order w.left.place place) [
        | inl same ↦ inr (
          omega (arith, row, own, same),
          (let least = not_less w.x.index first.x.index (λ less. first.least w.x (subst (λ (p : ℕ). IsInLog trace p w.x) same w.left.stands) less w.right.place w.y byte (omega (arith, same, own, far, ahead)) w.right.stands w.races) in
              omega (arith, number, its, least)),
        )
        | inr (inl less) ↦ absurd (none w.left.place w.x less w.left.stands w.right.place w.y byte (omega (arith, own, far, ahead)) w.right.stands w.races)
        | inr (inr above) ↦ inl (omega (arith, row, own, above))
      ]

  second_least : (b j byte : ℕ) → IsWitness trace lines found.first_row found.first b j byte → IsUpTo found.second_row found.second b j
  second_least b j byte w =
      let partner = first.partner in
      let own = w.left.row_is in
      let row = first.row_is in
      let x_is : first.x ≡ w.x = named_once trace place found.first_row found.first first.x w.x first.row_is first.stands first.number_is w.left in
      let races = subst (λ (z : Node). RacesOn (logs_of trace) lines z w.y byte) (sym x_is) w.races in
      let other_row = partner.row_is in
      let other_number = partner.first.number_is in
      let far = w.right.row_is in
      let its = w.right.number_is in
      let ahead = w.in_order in
      elim (cases_order w.right.place partner.other) [
        | inl same ↦ inr (
          omega (arith, other_row, far, same),
          (let least = partner.first.least w.y byte (subst (λ (p : ℕ). IsInLog trace p w.y) same w.right.stands) races in omega (arith, other_number, its, least)),
        )
        | inr (inl less) ↦ absurd (partner.least w.right.place w.y byte (omega (arith, row, far, ahead)) less w.right.stands races)
        | inr (inr above) ↦ inl (omega (arith, other_row, far, above))
      ]

  pub explains_some : FindsLeast trace lines (Some found)
  explains_some = record { witness = witness; first_least = first_least; second_least = second_least }

pub within_trace : (trace : Trace) (place : ℕ) (x : Node) → IsInLog trace place x → place < length trace
within_trace trace place x stands = slice_get_within trace place stands.task stands.listed

pub explains_none : (trace : Trace) (lines : ℕ × ℕ) → NoneBefore trace lines (length trace) → FindsLeast trace lines None
explains_none trace lines none a i b j byte w =
    let own = w.left.row_is in
    let far = w.right.row_is in
    let ahead = w.in_order in
    none w.left.place w.x (within_trace trace w.left.place w.x w.left.stands) w.left.stands w.right.place w.y byte (omega (arith, own, far, ahead)) w.right.stands w.races

-- a row for each task
pub within_rows : (trace : Trace) (rows : List Row) → rows_of trace ≡ rows → (place : ℕ) (x : Node) → IsInLog trace place x → place < length rows
within_rows trace rows same place x stands = subst (λ (l : List Row). place < length l) same (slice_get_within (rows_of trace) place _ (row_at trace place stands.task stands.listed))

pub found_none : (trace : Trace) (lines : ℕ × ℕ) (place : ℕ) (answer : Option RacePair) → is_some answer ≡ false → FindsRace trace lines place answer → FindsRace trace lines place None
found_none trace lines place None none finds = finds
found_none trace lines place (Some found) none finds = cc

pub explains_found : (trace : Trace) (lines : ℕ × ℕ) (place : ℕ) (answer : Option RacePair) → is_some answer ≡ true → FindsRace trace lines place answer → NoneBefore trace lines place → FindsLeast trace lines answer
explains_found trace lines place None some finds none = cc
explains_found trace lines place (Some found) some finds none = explains_some trace lines place found finds none
