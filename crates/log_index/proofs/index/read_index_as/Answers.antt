use Rattle.std.proofs.Common.{◌≡◌, List, [], ℕ, length, Option, Some, None, subst, refl, ap, sym, ◌∙◌}
use Rattle.std.specs.Prelude.{unwrap_or}
use Rattle.std.specs.Option.{option_map}
use Rattle.sw_base.specs.Names.{index_name}
use Rattle.sw_base.specs.Window.{file_of}
use Rattle.log_index.proofs.index.read_index_as.Goals as goal

sized : (held : Option (List ℕ)) (size : ℕ) → Some size ≡ option_map length held → held ≡ Some (unwrap_or held [])
sized None size is = cc
sized (Some file) size is = refl

pub returns-in-Ok-Some-clause-bad : goal.returns-in-Ok-Some-clause-bad
returns-in-Ok-Some-clause-bad g c n why is x tells =
    let bad = rw is at c.read_rows.ensures.bad in
    let name : c.deref.result.now ≡ index_name c.args.dir.now = c.deref.ensures ∙ c.in_ok-name.ensures in
    let same : c.deref-in-Ok-Some.result.now ≡ index_name c.args.dir.now = c.deref-in-Ok-Some.ensures ∙ c.in_ok-name.ensures in
    let size = rw c.in-Ok-Some.field-0-is at (c.in-Ok-Some.ensures.size x tells) in
    let held : x.held (index_name c.args.dir.now) ≡ Some (file_of x (index_name c.args.dir.now)) =
    subst (λ (n : List ℕ). x.held n ≡ Some (file_of x n)) name (sized (x.held c.deref.result.now) c.in-Ok-Some.field-0-0 size) in
    bad n why refl x (ap (λ s. s.content) c.in-Ok-Some.ensures.same ∙ tells) x.held c.args.dir.now (held ∙ ap (λ (n : List ℕ). Some (file_of x n)) (sym same))
