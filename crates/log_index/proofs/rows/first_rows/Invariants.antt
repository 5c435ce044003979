use Rattle.std.proofs.Common.{◌≡◌, ◌+◌, ◌*◌, ◌-◌, ◌≤◌, length}
use Rattle.sw_base.specs.Environment.{WhereTold}
use Rattle.sw_base.specs.Window.{Shows, file_of}
use Rattle.race_model.specs.IndexFault.{AreFirstRows}
use Rattle.log_index.proofs.Ends.{IsReadTo}
use Rattle.log_index.proofs.rows.first_rows.Given as goal

abbrev pub invariant-rows : goal.invariant-rows
invariant-rows g l = record {
  good : AreFirstRows l.rows.items;
  place : l.window.place ≡ 8 + 48 * length l.rows.items;
  told : WhereTold (g.F.Folder.state l.fn.folder).content (λ c. Shows l.fn.window (file_of c l.name) → IsReadTo (file_of c l.name) l.rows.items l.window);
  same : g.F.Folder.state l.folder ≡ g.F.Folder.state l.fn.folder;
  no_fault : g.F.Folder.read_faults l.folder ≡ g.F.Folder.read_faults l.fn.folder;
}

abbrev pub decreases-rows : goal.decreases-rows
decreases-rows g l = 65536 - length l.rows.items
