-- What `upgrade` answers is one text, and what is left of a folder that was brought over.
use Rattle.std.proofs.Common.{◌≡◌, inl, inr, ℕ, List, [], length, Option, Some, None, is_some, true, false, true≢false, refl, sym, ap, subst, ◌∙◌, append-nil}
use Rattle.std.specs.Prelude.{IsSome}
use Rattle.std.specs.Option.{option_map}
use Rattle.sw_base.specs.Environment.{Content, Files}
use Rattle.sw_base.specs.Names.{index_name}
use Rattle.log_format.specs.declared.format.Format.TheVariants.{First}
use Rattle.log_format.specs.declared.format.TheConstants.{FORMAT}
use Rattle.race_model.specs.FirstBad.{rows_of}
use Rattle.race_model.specs.Row.{index_bytes}
use Rattle.race_model.specs.Trace.{Trace}
use Rattle.race_laws.proofs.FolderTrace.{trace_once}
use Rattle.log_index.specs.Puts.{index}
use Rattle.log_upgrade.specs.Upgrade.{LeavesUpgrade, Upgraded, part}
use Rattle.command_answer.specs.Answer.{IsFailure, Prints, whole}
use Rattle.command_answer.specs.Answer as answer
use Rattle.command_answer.specs.declared.status.TheConstants.{DONE}
use Rattle.folder_commands.specs.Texts.{upgraded_text}
use Rattle.folder_commands.specs.Upgrade.{UpgradeDue, brought, index_there, refused_old}
use Rattle.folder_commands.proofs.OneAnswer.{refused_once}

not_both : (file : Option (List ℕ)) → IsSome file → file ≡ None → ⊥
not_both file some none = true≢false (sym (subst (λ (f : Option (List ℕ)). IsSome f) none some))

pub one_upgrade : (files : Files) (dir new : List ℕ) (s r : ℕ) (t u : List ℕ) → UpgradeDue files dir new s t → UpgradeDue files dir new r u → t ≡ u
one_upgrade files dir new s r t u (index_there there _ t_is) (index_there _ _ u_is) = t_is ∙ sym u_is
one_upgrade files dir new s r t u (index_there there _ t_is) (refused_old none b) = absurd (not_both (files (index_name new)) there none)
one_upgrade files dir new s r t u (index_there there _ t_is) (brought trace can _ u_is) = absurd (not_both (files (index_name new)) there can.fresh)
one_upgrade files dir new s r t u (refused_old none a) (index_there there _ u_is) = absurd (not_both (files (index_name new)) there none)
one_upgrade files dir new s r t u (refused_old none a) (refused_old _ b) = refused_once First files dir s r t u a b
one_upgrade files dir new s r t u (refused_old none a) (brought trace can _ u_is) = absurd (can.well_formed a.place a.first.bad)
one_upgrade files dir new s r t u (brought trace can _ t_is) (index_there there _ u_is) = absurd (not_both (files (index_name new)) there can.fresh)
one_upgrade files dir new s r t u (brought trace can _ t_is) (refused_old none b) = absurd (can.well_formed b.place b.first.bad)
one_upgrade files dir new s r t u (brought one one_can _ t_is) (brought other other_can _ u_is) =
    t_is ∙ ap (λ (trace : Trace). upgraded_text (length trace)) (trace_once files dir one other one_can.holds other_can.holds) ∙ sym u_is

-- a folder that tells what it holds still does
pub still_tells : (old now : Option Content) (content : Content) → old ≡ Some content → is_some now ≡ is_some old → (d : Content) × (now ≡ Some d)
still_tells old (Some d) content is same = (d, refl)
still_tells old None content is same = absurd (true≢false (sym (same ∙ ap is_some is)))

-- all that is left of a folder that was brought over
pub upgraded_leaves : (dir new : List ℕ) (old now : Content) (count : ℕ) → Upgraded dir new old now count → LeavesUpgrade dir new old now
upgraded_leaves dir new old now count up = part up.trace up.can (index (record {
  prefix = index_bytes FORMAT (rows_of up.trace);
  rest = [];
  parts = sym (append-nil (index_bytes FORMAT (rows_of up.trace)));
  leaves = inr (ap (λ (c : Content). Some c) up.leaves);
}))

-- a failure isn't done, and neither is a text with another status
pub failure_not_done : (status : ℕ) → IsFailure status → status ≡ DONE → ⊥
failure_not_done status (inl read) done = let e = sym done ∙ read in absurd (cc e)
failure_not_done status (inr (inl write)) done = let e = sym done ∙ write in absurd (cc e)
failure_not_done status (inr (inr memory)) done = let e = sym done ∙ memory in absurd (cc e)

pub printed_not_done : (status : ℕ) (text : List ℕ) (old new : Option (List ℕ)) (result : ℕ) → Prints status text old new result → (status ≡ DONE → ⊥) → result ≡ DONE → ⊥
printed_not_done status text old new result (whole same all) other done = other (sym same ∙ done)
printed_not_done status text old new result (answer.part failure prefix) other done = failure_not_done result failure done

-- a size tells whether there is a file
pub there : (size : Option ℕ) (n : ℕ) (file : Option (List ℕ)) → size ≡ Some n → size ≡ option_map length file → IsSome file
there size n (Some bytes) is told = refl
there size n None is told = let e = sym is ∙ told in absurd (cc e)

pub not_there : (size : Option ℕ) (file : Option (List ℕ)) → size ≡ None → size ≡ option_map length file → file ≡ None
not_there size (Some bytes) is told = let e = sym told ∙ is in absurd (cc e)
not_there size None is told = refl
