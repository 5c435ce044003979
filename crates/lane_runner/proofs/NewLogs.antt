-- One new log more.
use Rattle.std.proofs.Common.{◌≡◌, refl, ap, sym, ◌∙◌, subst, ⊎_elim, ℕ, suc, ◌<◌, ◌≤◌, List, [], ◌∷◌, ◌++◌, length, Option, Some, None, get_or, arith}
use Rattle.std.specs.Prelude.{is_some}
use Rattle.std.specs.Option.{option_map}
use Rattle.std.proofs.lemmas.Bool.{cases_lt}
use Rattle.std.proofs.lemmas.List.{get_or_push, get_or_append_left}
use Rattle.std.proofs.lemmas.Option.{same_Some}
use Rattle.sw_base.specs.declared.environment.Log.{Ghosts}
use Rattle.sw_base.specs.declared.path.Step.{Step}
use Rattle.sw_base.specs.Environment.{Text, WhereTold, empty_text}
use Rattle.event_buffer.specs.Buffered.{Buffered}
use Rattle.lane_runner.specs.Children.{IsNewLog, EachIsNew, AreNewLogs}
use Rattle.lane_runner.specs.Going.{IsSameLog}

length_one : {T : Type 0} (ys : List T) (y : T) → length (ys ++ y ∷ []) ≡ suc (length ys)
length_one [] y = refl
length_one (z ∷ ys) y = ap suc (length_one ys y)

module _ {T : Type 0} (P : ℕ → T → Type 0) (xs : List T) (x : T) where
  each_more : ((k : ℕ) (d : T) → k < length xs → P k (get_or xs k d)) → P (length xs) x → (k : ℕ) (d : T) → k < length (xs ++ x ∷ []) → P k (get_or (xs ++ x ∷ []) k d)
  each_more all one k d less = ⊎_elim below last (cases_lt k (length xs)) where
    below : k < length xs → P k (get_or (xs ++ x ∷ []) k d)
    below lt = subst (P k) (sym (get_or_append_left xs (x ∷ []) d k lt)) (all k d lt)

    last : length xs ≤ k → P k (get_or (xs ++ x ∷ []) k d)
    last past =
        let is : length xs ≡ k = omega (arith, less, past, length_one xs x) in
        subst (P k) (sym (get_or_push xs x d k is)) (subst (λ (i : ℕ). P i x) is one)

module _ {T : Type 0} (seen : Ghosts T) (old mid : Buffered) (number span lane : ℕ) (log : T) where
  empty_is : (told : Option Text) (text : Option Text) → text ≡ option_map (λ _. empty_text) told → (is_some text ≡ is_some told) × WhereTold text (λ t. t ≡ empty_text)
  empty_is None text is = (ap is_some is, λ t some. absurd (none_is (sym is ∙ some))) where
    none_is : {t : Text} → None ≡ Some t → ⊥
    none_is e = cc
  empty_is (Some told) text is = (ap is_some is, λ t some. sym (same_Some empty_text t (sym is ∙ some)))

  pub new_log : mid.dir ≡ old.dir → mid.path ≡ old.path → is_some mid.text ≡ is_some old.text → seen.dir log ≡ mid.dir → seen.path log ≡ mid.path ++ record { region = number; lane = lane; span = span } ∷ []
      → seen.text log ≡ option_map (λ _. empty_text) mid.text → seen.faults log ≡ 0 → IsNewLog seen old number span lane log
  new_log dir path tells dir_is path_is text_is none = record {
    dir = dir_is ∙ dir;
    path = path_is ∙ ap (λ (p : List Step). p ++ record { region = number; lane = lane; span = span } ∷ []) path;
    tells = (empty_is mid.text (seen.text log) text_is).0 ∙ tells;
    empty = (empty_is mid.text (seen.text log) text_is).1;
    no_faults = none;
  }

pub new_logs_more : {T : Type 0} (seen : Ghosts T) (task : Buffered) (number span : ℕ) (logs : List T) (log : T) (lane : ℕ) (all : List T) → EachIsNew seen task number span logs → length logs ≡ lane → IsNewLog seen task number span lane log
    → all ≡ logs ++ log ∷ [] → EachIsNew seen task number span all
new_logs_more {T} seen task number span logs log lane all each count one is =
    subst (λ (xs : List T). EachIsNew seen task number span xs) (sym is)
    (each_more (λ k x. IsNewLog seen task number span k x) logs log each (subst (λ (k : ℕ). IsNewLog seen task number span k log) (sym count) one))

-- logs that are new for a task are so when its log has taken more
pub new_logs_later : {T : Type 0} (seen : Ghosts T) (old mid : Buffered) (number span : ℕ) (logs : List T) → IsSameLog old mid → AreNewLogs seen mid number span logs → AreNewLogs seen old number span logs
new_logs_later seen old mid number span logs same new = record {
  count = new.count;
  each = λ k d less.
      let one = new.each k d less in
      record {
        dir = one.dir ∙ same.dir;
        path = one.path ∙ ap (λ (p : List Step). p ++ record { region = number; lane = k; span = span } ∷ []) same.path;
        tells = one.tells ∙ same.tells;
        empty = one.empty;
        no_faults = one.no_faults;
      };
}
