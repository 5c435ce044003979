-- Relations of logs, task by task.
use Rattle.std.proofs.Common.{◌≡◌, Bool, true, false, List, [], ◌∷◌, refl, sym, ap, subst, ◌∙◌}
use Rattle.sw_base.specs.declared.path.Step.{Step}
use Rattle.log_format.specs.declared.record.Record.{Record}
use Rattle.race_model.specs.Trace.{Trace, logs_of, path_eq}

abbrev pub AreAlike : (List Record → List Record → Type 0) → Trace → Trace → Type 0
AreAlike R [] [] = Unit {0}
AreAlike R [] (u ∷ others) = ⊥
AreAlike R (t ∷ tasks) [] = ⊥
AreAlike R (t ∷ tasks) (u ∷ others) = (t.path ≡ u.path) × R t.records u.records × AreAlike R tasks others

pub alike_logs : (R : List Record → List Record → Type 0) (tasks others : Trace) → R [] [] → AreAlike R tasks others → (path : List Step) → R (logs_of tasks path) (logs_of others path)
alike_logs R [] [] none same path = none
alike_logs R [] (u ∷ others) none same path = absurd same
alike_logs R (t ∷ tasks) [] none same path = absurd same
alike_logs R (t ∷ tasks) (u ∷ others) none same path = at (path_eq u.path path) refl (alike_logs R tasks others none same.2 path)
  where
    at : (b : Bool) → path_eq u.path path ≡ b → R (logs_of tasks path) (logs_of others path) → R (logs_of (t ∷ tasks) path) (logs_of (u ∷ others) path)
    at true e rest =
        let mine : logs_of (t ∷ tasks) path ≡ t.records = (let is : path_eq t.path path ≡ true = ap (λ (p : List Step). path_eq p path) same.0 ∙ e in rw is refl) in
        let yours : logs_of (u ∷ others) path ≡ u.records = rw e refl in
        subst (λ (l : List Record). R l (logs_of (u ∷ others) path)) (sym mine) (subst (λ (l : List Record). R t.records l) (sym yours) same.1)
    at false e rest =
        let mine : logs_of (t ∷ tasks) path ≡ logs_of tasks path = (let is : path_eq t.path path ≡ false = ap (λ (p : List Step). path_eq p path) same.0 ∙ e in rw is refl) in
        let yours : logs_of (u ∷ others) path ≡ logs_of others path = rw e refl in
        subst (λ (l : List Record). R l (logs_of (u ∷ others) path)) (sym mine) (subst (λ (l : List Record). R (logs_of tasks path) l) (sym yours) rest)
