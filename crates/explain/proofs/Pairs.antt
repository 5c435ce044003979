-- A race pair has a race whose first record is of an earlier row.
use Rattle.std.proofs.Common.{◌≡◌, ℕ, ◌+◌, ◌<◌, Option, Some, None, refl, sym, ap, ◌∙◌, inl, inr, arith}
use Rattle.std.specs.Prelude.{◌↔◌, min, max, slice_get}
use Rattle.std.proofs.lemmas.Bool.{cases_order}
use Rattle.std.proofs.lemmas.Option.{same_Some}
use Rattle.log_format.specs.declared.record.Record.{Record}
use Rattle.race_laws.proofs.ProgramOrder.{program_order}
use Rattle.race_model.proofs.TraceLogs.{find_task, record_there}
use Rattle.race_model.specs.Race.{IsRace, IsRacePair, IsUnordered, SharesByte}
use Rattle.race_model.specs.Trace.{TaskLog, Trace, Logs, Node, IsThere, logs_of}
use Rattle.explain.specs.Least.{FindsLeast, IsWitness}
use Rattle.explain.specs.Witness.{IsInLog, IsLeastByte}
use Rattle.explain.specs.declared.explaining.RacePair.{RacePair}

same_log : (logs : Logs) (x y : Node) → x.path ≡ y.path → IsThere logs x → IsThere logs y → IsUnordered logs x y → ⊥
same_log logs x y same x_there y_there unordered = elim (cases_order x.index y.index) [
  | inl one ↦ unordered.not_before (program_order logs x y same (omega (arith, one)) y_there)
  | inr (inl less) ↦ unordered.not_before (program_order logs x y same (omega (arith, less)) y_there)
  | inr (inr above) ↦ unordered.not_after (program_order logs y x (sym same) (omega (arith, above)) x_there)
]

least_byte : (r s : Record) → SharesByte r s → IsLeastByte r s (max r.addr s.addr)
least_byte r s (byte, mine, yours) =
    let a = mine.from_start in
    let b = mine.to_end in
    let c = yours.from_start in
    let d = yours.to_end in
    record {
      left = record { from_start = omega arith; to_end = omega (arith, a, b, c, d) };
      right = record { from_start = omega arith; to_end = omega (arith, a, b, c, d) };
      least = λ other one two. (let e = one.from_start in let f = two.from_start in omega (arith, e, f));
    }

turned : (logs : Logs) (x y : Node) (r s : Record) → IsRace logs x y r s → IsRace logs y x s r
turned logs x y r s race = record {
  left = race.right;
  right = race.left;
  left_access = race.right_access;
  right_access = race.left_access;
  unordered = record { not_before = race.unordered.not_after; not_after = race.unordered.not_before };
  shares = (race.shares.0, race.shares.2, race.shares.1);
  changes = elim race.changes [ inl mine ↦ inr mine | inr yours ↦ inl yours ];
  not_both_updates = λ mine yours. race.not_both_updates yours mine;
  no_mutex = λ m mine yours. race.no_mutex m yours mine;
}

witness_of : (trace : Trace) (lines : ℕ × ℕ) (place other : ℕ) (x y : Node) (r s : Record) → IsInLog trace place x → IsInLog trace other y → place < other → IsRace (logs_of trace) x y r s
    → lines ≡ (min r.line s.line, max r.line s.line) → IsWitness trace lines (place + 1) (x.index + 1) (other + 1) (y.index + 1) (max r.addr s.addr)
witness_of trace lines place other x y r s in_x in_y later race lines_are = record {
  x = x;
  y = y;
  left = record { place = place; row_is = refl; stands = in_x; number_is = refl };
  right = record { place = other; row_is = refl; stands = in_y; number_is = refl };
  in_order = omega (arith, later);
  races = record { r = r; s = s; race = race; lines_are = lines_are; least = least_byte r s race.shares };
}

raced_pair : (trace : Trace) (lines : ℕ × ℕ) → IsRacePair (logs_of trace) lines → ((a i b j byte : ℕ) → IsWitness trace lines a i b j byte → ⊥) → ⊥
raced_pair trace lines p none =
    let x_there = record_there (logs_of trace) p.x p.r p.race.left in
    let y_there = record_there (logs_of trace) p.y p.s p.race.right in
    let mine = find_task trace p.x.path (omega (arith, x_there)) in
    let yours = find_task trace p.y.path (omega (arith, y_there)) in
    let in_x : IsInLog trace mine.index p.x = record { task = mine.task; listed = mine.found; path_is = sym mine.path_is } in
    let in_y : IsInLog trace yours.index p.y = record { task = yours.task; listed = yours.found; path_is = sym yours.path_is } in
    let low : min p.r.line p.s.line ≡ min p.s.line p.r.line = omega arith in
    let high : max p.r.line p.s.line ≡ max p.s.line p.r.line = omega arith in
    elim (cases_order mine.index yours.index) [
      | inl same ↦ same_log (logs_of trace) p.x p.y
          (sym mine.path_is ∙ (ap (λ (t : TaskLog). t.path) (same_Some mine.task yours.task (sym mine.found ∙ (ap (slice_get trace) same ∙ yours.found))) ∙ yours.path_is))
          x_there y_there p.race.unordered
      | inr (inl less) ↦ none _ _ _ _ _ (witness_of trace lines mine.index yours.index p.x p.y p.r p.s in_x in_y less p.race p.lines)
      | inr (inr above) ↦ none _ _ _ _ _ (witness_of trace lines yours.index mine.index p.y p.x p.s p.r in_y in_x above (turned (logs_of trace) p.x p.y p.r p.s p.race) (p.lines ∙ (λ i. (low i, high i))))
    ]

pair_of : (trace : Trace) (lines : ℕ × ℕ) (a i b j byte : ℕ) → IsWitness trace lines a i b j byte → IsRacePair (logs_of trace) lines
pair_of trace lines a i b j byte w = record { x = w.x; y = w.y; r = w.races.r; s = w.races.s; race = w.races.race; lines = w.races.lines_are }

-- record_there is no answer exactly where the lines aren't a race pair
pub exact_pair : (trace : Trace) (lines : ℕ × ℕ) (answer : Option RacePair) → FindsLeast trace lines answer → (answer ≡ None) ↔ (IsRacePair (logs_of trace) lines → ⊥)
exact_pair trace lines None none = ((λ is pair. raced_pair trace lines pair none), (λ never. refl))
exact_pair trace lines (Some found) least = (
  λ is. cc is,
  λ never. absurd (never (pair_of trace lines found.first_row found.first found.second_row found.second found.byte least.witness)),
)
