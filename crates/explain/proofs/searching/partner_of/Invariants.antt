use Rattle.std.proofs.Common.{◌≡◌, ◌<◌, ℕ}
use Rattle.sw_base.specs.Environment.{WhereTold}
use Rattle.race_model.specs.Trace.{Trace, Node, logs_of}
use Rattle.explain.specs.Least.{RacesOn}
use Rattle.explain.specs.Suspects.{HoldPartners}
use Rattle.explain.specs.Witness.{HoldsListedRun, IsInLog, TellsRecord}
use Rattle.explain.proofs.searching.partner_of.Given as goal

abbrev pub invariant-rows : goal.invariant-rows
invariant-rows g l = record {
  none : WhereTold (g.F.Folder.state l.fn.folder).content (λ c. (trace : Trace) → HoldsListedRun c l.dir l.rows trace → (x : Node) → IsInLog trace l.first x
      → HoldPartners trace l.lines x l.met → TellsRecord (logs_of trace) x l.one → (other : ℕ) (y : Node) (byte : ℕ) → l.first < other → other < l.second → IsInLog trace other y → RacesOn (logs_of trace) l.lines x y byte → ⊥);
  after : l.first < l.second;
  same : g.F.Folder.state l.folder ≡ g.F.Folder.state l.fn.folder;
  no_fault : g.F.Folder.read_faults l.folder ≡ g.F.Folder.read_faults l.fn.folder;
}
