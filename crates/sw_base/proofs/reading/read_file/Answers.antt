use Rattle.std.proofs.Common.{rules, ◌≡◌, sym, ap, subst, ◌∙◌, List, ℕ, [], ◌++◌, length, take}
use Rattle.std.specs.Prelude.{unwrap_or}
use Rattle.sw_base.specs.Environment.{WhereTold, Reads}
use Rattle.sw_base.proofs.ReadPrefixes.{ToldPrefix, told_none, told_more}
use Rattle.sw_base.proofs.reading.read_file.Goals as goal

pub windows-init : goal.windows-init
windows-init g c = record {
  same = search rules;
  no_fault = search rules;
  prefix = subst (λ (bs : List ℕ). ToldPrefix (g.F.Folder.state c.args.folder.now).content c.args.name.now bs) (sym c.new-bytes.ensures.items) (told_none _ _);
}

pub windows-preserved : goal.windows-preserved
windows-preserved g c =
    let len : c.len-in-windows.result ≡ length c.windows.bytes.items = search rules in
    let reads : WhereTold (g.F.Folder.state c.args.folder.now).content (λ x. Reads (unwrap_or (x.held c.args.name.now) []) (length c.windows.bytes.items) c.in_ok-count.count c.read.new.into) =
    λ x is. subst (λ (n : ℕ). Reads (unwrap_or (x.held c.args.name.now) []) n c.in_ok-count.count c.read.new.into) len (c.in_ok-count.ensures.bytes x (ap (λ s. s.content) c.windows.invariant.same ∙ is)) in
    let more : ToldPrefix (g.F.Folder.state c.args.folder.now).content c.args.name.now (c.windows.bytes.items ++ take c.in_ok-count.count c.read.new.into) = told_more _ _ _ _ _ c.windows.invariant.prefix reads in
    record {
      same = search rules;
      no_fault = search rules;
      prefix = search rules;
    }
