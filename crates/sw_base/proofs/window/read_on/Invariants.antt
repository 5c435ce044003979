use Rattle.std.proofs.Common.{◌≡◌, ◌-◌, ◌≤◌, length, take}
use Rattle.sw_base.specs.Environment.{WhereTold}
use Rattle.sw_base.specs.Window.{Shows, file_of}
use Rattle.sw_base.proofs.window.read_on.Given as goal

abbrev pub invariant-reads : goal.invariant-reads
invariant-reads g l = record {
  same : g.F.Folder.state l.folder ≡ g.F.Folder.state l.fn.folder;
  no_fault : g.F.Folder.read_faults l.folder ≡ g.F.Folder.read_faults l.fn.folder;
  long : length l.bytes ≡ length l.fn.bytes;
  room : l.to ≤ length l.fn.bytes;
  shows : WhereTold (g.F.Folder.state l.fn.folder).content (λ c. Shows (record { place = l.place; ahead = take l.fn.to l.fn.bytes }) (file_of c l.name)
      → Shows (record { place = l.place; ahead = take l.to l.bytes }) (file_of c l.name));
}

abbrev pub decreases-reads : goal.decreases-reads
decreases-reads g l = l.count - l.to
