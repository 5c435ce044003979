use Rattle.std.proofs.Common.{◌≡◌, ◌-◌, length}
use Rattle.sw_base.proofs.ReadPrefixes.{ToldPrefix}
use Rattle.sw_base.proofs.reading.read_file.Given as goal

abbrev pub invariant-windows : goal.invariant-windows
invariant-windows g l = record {
  same : g.F.Folder.state l.folder ≡ g.F.Folder.state l.fn.folder;
  no_fault : g.F.Folder.read_faults l.folder ≡ g.F.Folder.read_faults l.fn.folder;
  prefix : ToldPrefix (g.F.Folder.state l.fn.folder).content l.name l.bytes.items;
}

abbrev pub decreases-windows : goal.decreases-windows
decreases-windows g l = l.size - length l.bytes.items
