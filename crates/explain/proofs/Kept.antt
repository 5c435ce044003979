-- What is kept of the barrier intervals.
use Rattle.std.proofs.Common.{◌≡◌, ℕ, List, ◌++◌, sym, ap, subst, ◌∙◌, inl, inr, arith}
use Rattle.std.specs.Prelude.{Contains}
use Rattle.std.proofs.lemmas.List.Elements.{Contains-append_cases}
use Rattle.log_format.specs.declared.format.TheConstants.{FORMAT}
use Rattle.log_segment.specs.declared.segment.Segment.{Segment}
use Rattle.race_laws.proofs.FolderForkJoin.{paths_same}
use Rattle.race_laws.proofs.ListedOnce.{logs_at}
use Rattle.race_model.specs.KeepsRules.{KeepsRules}
use Rattle.race_model.specs.Label.{IsLabel, Triple}
use Rattle.race_model.specs.Listing.{IsListing}
use Rattle.race_model.specs.Trace.{Trace, logs_of}
use Rattle.stride_summary.specs.declared.key.Key.{Key}
use Rattle.stride_summary.specs.declared.run.Run.{Run}
use Rattle.explain.specs.Suspects.{HasPart, HoldAccesses, IsAmong, IsOnLines, KeepsRuns}
use Rattle.explain.specs.declared.stretch.RecordRange.{RecordRange}
use Rattle.explain.proofs.Own.{AreOfRun, has_own}

-- more is kept
pub part_more : (own : Segment) (run : Run) (old new : List Segment) → ((part : Segment) → Contains old part → Contains new part) → HasPart own run old → HasPart own run new
part_more own run old new more h = record {
  part = h.part;
  listed = more h.part h.listed;
  path_is = h.path_is;
  first_is = h.first_is;
  last_is = h.last_is;
  label_is = h.label_is;
  holds = h.holds;
}

pub part_again : {own other : Segment} (run : Run) (kept : List Segment) → own ≡ other → HasPart own run kept → HasPart other run kept
part_again run kept e h = subst (λ (s : Segment). HasPart s run kept) e h

pub keeps_more : (lines : ℕ × ℕ) (all region old new : List Segment) → ((part : Segment) → Contains old part → Contains new part) → KeepsRuns (IsOnLines lines) all old → KeepsRuns (IsOnLines lines) region new
    → KeepsRuns (IsOnLines lines) (all ++ region) new
keeps_more lines all region old new more before now own run own_in run_in on = elim (Contains-append_cases all region own own_in) [
  | inl earlier ↦ part_more own run old new more (before own run earlier run_in on)
  | inr later ↦ now own run later run_in on
]

pub among_more : (their : Segment) (old new : List RecordRange) → ((s : RecordRange) → Contains old s → Contains new s) → IsAmong their old → IsAmong their new
among_more their old new more h = record { stretch = h.stretch; listed = more h.stretch h.listed; path_is = h.path_is; first_is = h.first_is; last_is = h.last_is }

-- what is kept has each access of the lines
pub holds_accesses : (trace : Trace) (lines : ℕ × ℕ) (all kept : List Segment) → KeepsRules FORMAT trace → AreOfRun trace all → KeepsRuns (IsOnLines lines) all kept → HoldAccesses trace lines kept
holds_accesses trace lines all kept rules are keeps place x r at found access on =
    let lists = subst IsListing (paths_same trace) rules.rows.lists in
    let mine = has_own trace all place x r are at (logs_at trace lists place at.task at.listed) found access in
    let has = mine.2.has in
    let own = mine.2.within in
    let pair = has.listed in
    let line : pair.run.line ≡ r.line = ap (λ (k : Key). k.line) pair.keyed in
    let h = keeps mine.0 pair.run mine.1 pair.listed (subst (λ (n : ℕ). IsOnLines lines n) (sym line) on) in
    let first = h.first_is in
    let last = h.last_is in
    let low = own.low in
    let high = own.high in (
      h.part,
      h.listed,
      record {
        within = record { path_is = h.path_is ∙ own.path_is; low = omega (arith, first, low); high = omega (arith, last, high) };
        has = record {
          listed = record { run = pair.run; listed = h.holds; keyed = pair.keyed; addressed = pair.addressed };
          at_node = has.at_node;
          in_log = has.in_log ∙ sym h.path_is;
          label = subst (λ (l : List Triple). IsLabel (logs_of trace) x l) (sym h.label_is) has.label;
        };
      },
    )
