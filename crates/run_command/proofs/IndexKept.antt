-- No log has the index's name.
use Rattle.std.proofs.Common.{◌≡◌, ◌≢◌, refl, sym, ap, subst, ◌∙◌, ℕ, List, [], ◌∷◌, ◌++◌, Option, None, Some}
use Rattle.std.specs.Prelude.{All}
use Rattle.std.proofs.lemmas.List.Elements.{All-head, All-tail}
use Rattle.sw_base.specs.Environment.{Content, Outline}
use Rattle.sw_base.specs.declared.path.Step.{Step}
use Rattle.sw_base.specs.Names.{index_name, log_name}
use Rattle.sw_base.proofs.AfterPut.{with_file-elsewhere}
use Rattle.sw_base.proofs.NameLaws.{log_name-not_index}
use Rattle.sw_base.specs.HandedLog.{HandedLog, SealsPrefix, between, sealed_name, torn, with_sealed, with_told}
use Rattle.sw_base.proofs.Lists.{all_parts}

index_apart : (dir : List ℕ) (path : List Step) → index_name dir ≢ log_name dir path
index_apart dir path same = log_name-not_index dir path (sym same)

-- the log is of the folder
abbrev pub IsOfFolder : List ℕ → HandedLog → Type 0
IsOfFolder dir log = log.dir ≡ dir

-- sealing a log leaves the index as it is
told_kept : (dir : List ℕ) (log : HandedLog) → log.dir ≡ dir → (told : Option Outline) (content : Content) → (with_told (sealed_name log) told content).held (index_name dir) ≡ content.held (index_name dir)
told_kept dir log own None content = refl
told_kept dir log own (Some told) content =
    with_file-elsewhere (sealed_name log) told.bytes content.held (index_name dir) (subst (λ (d : List ℕ). index_name dir ≢ log_name d log.path) (sym own) (index_apart dir log.path))

-- and so does sealing the folder's logs
index_kept : (dir : List ℕ) (logs : List HandedLog) (content : Content) → All (IsOfFolder dir) logs → (with_sealed logs content).held (index_name dir) ≡ content.held (index_name dir)
index_kept dir [] content own = refl
index_kept dir (log ∷ logs) content own =
    index_kept dir logs (with_told (sealed_name log) log.told content) (All-tail (IsOfFolder dir) log logs own)
    ∙ told_kept dir log (All-head (IsOfFolder dir) log logs own) log.told content

-- also where it was broken off
pub prefix_keeps_index : (dir : List ℕ) (logs : List HandedLog) (old new : Content) → All (IsOfFolder dir) logs → SealsPrefix logs old new
    → new.held (index_name dir) ≡ old.held (index_name dir)
prefix_keeps_index dir logs old new own (between first rest parts leaves) =
    ap (λ (c : Content). c.held (index_name dir)) leaves ∙ index_kept dir first old (all_parts (IsOfFolder dir) first rest (subst (All (IsOfFolder dir)) parts own)).0
prefix_keeps_index dir logs old new own (torn first next rest parts told is prefix behind bytes leaves) =
    let all = all_parts (IsOfFolder dir) first (next ∷ rest) (subst (All (IsOfFolder dir)) parts own) in
    let here : next.dir ≡ dir = All-head (IsOfFolder dir) next rest all.1 in
    ap (λ (c : Content). c.held (index_name dir)) leaves
    ∙ with_file-elsewhere (sealed_name next) prefix (with_sealed first old).held (index_name dir) (subst (λ (d : List ℕ). index_name dir ≢ log_name d next.path) (sym here) (index_apart dir next.path))
    ∙ index_kept dir first old all.0
