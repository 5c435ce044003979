-- What a folder holds once a run was stored, or its storing was refused.
use Rattle.std.proofs.Common.{◌≡◌, refl, ap, ◌∙◌, ⊎_elim, ℕ, List, [], map, Option, Some, Ok, Err}
use Rattle.std.specs.Option.{option_map}
use Rattle.std.proofs.lemmas.Simd.{map-map}
use Rattle.log_format.specs.declared.format.TheConstants.{FORMAT}
use Rattle.sw_base.specs.declared.closed_log.ClosedLog.{ClosedLog}
use Rattle.sw_base.specs.declared.path.Step.{Step}
use Rattle.sw_base.specs.declared.trouble.Trouble.{Trouble}
use Rattle.sw_base.specs.Environment.{Content, LeavesPrefix, Text, with_put}
use Rattle.sw_base.specs.Names.{index_name}
use Rattle.race_model.specs.Row.{index_bytes}
use Rattle.sw_base.specs.HandedLog.{HandedLog, handed_log, between}
use Rattle.run_command.specs.Seals.{SealsAll, StoresAll, StoresPrefix, StoresPart, TellsSuch, all_logged, prefix, part, row_of_entry, rows_of_logs, with_index}

-- the rows of a run's logs
pub rows-logged : {L : Type 0} (dir_of : L → List ℕ) (path_of : L → List Step) (text_of : L → Option Text) (entries : List (ClosedLog L)) →
    rows_of_logs (all_logged dir_of path_of text_of entries) ≡ map row_of_entry entries
rows-logged dir_of path_of text_of entries = map-map (λ (log : HandedLog). record { path = log.task; records = log.count }) (handed_log dir_of path_of text_of) entries

-- no log was sealed
pub stores_none : (dir : List ℕ) (logs : List HandedLog) (old new : Option Content) → new ≡ old → StoresPrefix dir logs old new
stores_none dir logs old new same content tell is = record { content = content; is = same ∙ is; holds = part (between [] logs refl refl) }

-- a log was refused
pub stores_part : (dir : List ℕ) (logs : List HandedLog) (trouble : Trouble) (old new : Option Content) → SealsAll logs (Err trouble) old new → StoresPrefix dir logs old new
stores_part dir logs trouble old new seals content tell is =
    let now = seals dir content tell is in
    record { content = now.content; is = now.is; holds = part now.holds.prefix }

module _ (dir : List ℕ) (logs : List HandedLog) (old mid new : Option Content) (seals : SealsAll logs (Ok tt) old mid) where
  -- all logs and the index are there
  pub stores_all : new ≡ option_map (with_put (index_name dir) (index_bytes FORMAT (rows_of_logs logs))) mid → StoresAll dir logs old new
  stores_all put content tell is =
      let now = seals dir content tell is in
      put ∙ ap (option_map (with_put (index_name dir) (index_bytes FORMAT (rows_of_logs logs)))) (now.is ∙ ap Some now.holds.done)

  -- the index was refused
  pub stores_prefix : LeavesPrefix mid new (index_name dir) (index_bytes FORMAT (rows_of_logs logs)) → StoresPrefix dir logs old new
  stores_prefix left content tell is =
      let now = seals dir content tell is in
      ⊎_elim
      (λ same. let it : TellsSuch new (StoresPart dir logs content) = record { content = now.content; is = same ∙ now.is; holds = part now.holds.prefix } in it)
      (λ put. record {
        content = with_index dir logs left.prefix content;
        is = put ∙ ap (option_map (with_put (index_name dir) left.prefix)) (now.is ∙ ap Some now.holds.done);
        holds = prefix left.prefix left.rest left.parts refl;
      })
      left.leaves
