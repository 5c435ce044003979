-- What a folder that was swept through holds while it is brought over, and after it.
use Rattle.std.proofs.Common.{◌≡◌, ◌≢◌, inl, inr, ℕ, List, length, Option, Some, None, sym, ap, subst, ◌∙◌}
use Rattle.std.specs.Option.{option_map}
use Rattle.std.proofs.lemmas.List.{length-map}
use Rattle.std.proofs.lemmas.Option.{same_Some}
use Rattle.sw_base.specs.Environment.{Content, LeavesPrefix, with_put}
use Rattle.sw_base.specs.Names.{index_name}
use Rattle.log_format.specs.declared.format.Format.TheVariants.{First}
use Rattle.log_format.specs.declared.format.TheConstants.{FORMAT}
use Rattle.race_model.specs.FirstBad.{HoldsTrace, row_of, rows_of}
use Rattle.race_model.specs.IndexFault.{AreRows}
use Rattle.race_model.specs.Row.{Row, index_bytes}
use Rattle.race_model.specs.Trace.{Trace}
use Rattle.race_model.specs.WellFormed.{IsWellFormed}
use Rattle.log_walk.specs.GoodTrace.{IsGoodTrace}
use Rattle.log_walk.specs.Sweep.{HasSweptAll}
use Rattle.log_walk.specs.declared.sweep.Sweep.{Sweep}
use Rattle.log_index.specs.Puts.{PutsLogs, index, logs, with_run, with_tasks}
use Rattle.log_upgrade.specs.Upgrade.{BringsPart, CanBring, CanUpgrade, LeavesUpgrade, Upgraded, nothing, part}
use Rattle.log_upgrade.proofs.Held.{brought_held, brought_well_formed}

module _ (told : Option Content) (content : Content) (is : told ≡ Some content) (dir new : List ℕ) (sweep : Sweep) (rows : List Row) (rows_is : rows ≡ sweep.rows) (trace : Trace) (all : HasSweptAll First told dir sweep trace) (fresh : content.held (index_name new) ≡ None) where
  holds : HoldsTrace First content.held dir trace
  holds = all.holds content is

  rows_are : rows_of trace ≡ rows
  rows_are = all.completes.rows_are ∙ sym rows_is

  can_upgrade : CanUpgrade content.held dir new trace
  can_upgrade = record { well_formed = all.well_formed content is; holds = holds; fresh = fresh }

  apart : dir ≢ new
  apart same = let there = ap (λ (d : List ℕ). content.held (index_name d)) (sym same) ∙ holds.index.held in cc (fresh, there)

  pub can_bring : CanBring content.held dir new rows trace
  can_bring = record { rows_are = rows_are; good = subst AreRows rows_are all.keeps.rows; logs = holds.logs; apart = apart }

  -- the logs were broken off
  pub logs_left : (now : Option Content) (left : Content) → BringsPart new trace content now → now ≡ Some left → LeavesUpgrade dir new content left
  logs_left now left (inl same) left_is = nothing (same_Some left content (sym left_is ∙ same))
  logs_left now left (inr puts) left_is = part trace can_upgrade (logs (subst (λ (o : Option Content). PutsLogs new trace (Some content) o) left_is puts))

  module _ (brought now : Option Content) (left : Content) (brought_is : brought ≡ Some (with_tasks new trace content)) (left_is : now ≡ Some left) where
    -- the index was
    pub index_left : LeavesPrefix brought now (index_name new) (index_bytes FORMAT rows) → LeavesUpgrade dir new content left
    index_left leaves =
        part trace can_upgrade
        (index (subst (λ (o : Option Content). LeavesPrefix o (Some left) (index_name new) (index_bytes FORMAT (rows_of trace))) brought_is
        (subst (λ (o : Option Content). LeavesPrefix brought o (index_name new) (index_bytes FORMAT (rows_of trace))) left_is
        (subst (λ (rs : List Row). LeavesPrefix brought now (index_name new) (index_bytes FORMAT rs)) (sym rows_are) leaves))))

    -- all is there
    pub all_left : (count : ℕ) → count ≡ length rows → now ≡ option_map (with_put (index_name new) (index_bytes FORMAT rows)) brought → Upgraded dir new content left count
    all_left count counted put = record {
      trace = trace;
      can = can_upgrade;
      count_is = counted ∙ ap length (sym rows_are) ∙ length-map trace row_of;
      leaves = leaves;
      well_formed = subst (λ (c : Content). IsWellFormed FORMAT c.held new) (sym leaves) (brought_well_formed new trace good all.keeps.rows content);
      holds = subst (λ (c : Content). HoldsTrace FORMAT c.held new trace) (sym leaves) (brought_held new trace good all.keeps.rows content);
    } where
      good : IsGoodTrace First (rows_of trace) trace
      good = subst (λ (rs : List Row). IsGoodTrace First rs trace) (sym all.completes.rows_are) all.good

      leaves : left ≡ with_run new trace content
      leaves = same_Some left (with_run new trace content)
          (sym left_is ∙ put ∙ ap (λ (rs : List Row). option_map (with_put (index_name new) (index_bytes FORMAT rs)) brought) (sym rows_are)
          ∙ ap (option_map (with_put (index_name new) (index_bytes FORMAT (rows_of trace)))) brought_is)
