-- How the entries of two tasks stand in one history, where one of them has one entry.
use Rattle.std.proofs.Common.{◌≡◌, refl, ap, sym, ◌∙◌, subst, Bool, true, false, List, [], ◌∷◌, ◌++◌}
use Rattle.sw_base.specs.declared.path.Step.{Step}
use Rattle.race_model.specs.History.{Entry, task_entries}
use Rattle.race_model.specs.Trace.{path_eq}
use Rattle.race_model.proofs.TraceLogs.{path_is, path_itself}

pub other_path : (p q : List Step) → (p ≡ q → ⊥) → path_eq p q ≡ false
other_path p q apart = at (path_eq p q) refl where
  at : (b : Bool) → path_eq p q ≡ b → path_eq p q ≡ false
  at true is = absurd (apart (path_is p q is))
  at false is = is

kept : (path : List Step) (e : Entry) (h : List Entry) → e.node.path ≡ path → task_entries path (e ∷ h) ≡ e ∷ task_entries path h
kept path e h is = let same : path_eq e.node.path path ≡ true = subst (λ (p : List Step). path_eq e.node.path p ≡ true) is (path_itself e.node.path) in rw same refl

dropped : (path : List Step) (e : Entry) (h : List Entry) → (e.node.path ≡ path → ⊥) → task_entries path (e ∷ h) ≡ task_entries path h
dropped path e h apart = rw (other_path e.node.path path apart) refl

module _ (p q : List Step) (apart : p ≡ q → ⊥) where
  -- no other task has an entry
  abbrev pub OnlyTheirs : List Entry → Type 0
  OnlyTheirs h = (path : List Step) → (path ≡ p → ⊥) → (path ≡ q → ⊥) → task_entries path h ≡ []

  data Whose (e : Entry) : Type 0 where
    first : e.node.path ≡ p → Whose e
    second : e.node.path ≡ q → Whose e

  whose : (e : Entry) (h : List Entry) → OnlyTheirs (e ∷ h) → Whose e
  whose e h only = at (path_eq e.node.path p) refl (path_eq e.node.path q) refl where
    no : (path : List Step) → path_eq e.node.path path ≡ false → e.node.path ≡ path → ⊥
    no path isnt is = let yes : path_eq e.node.path path ≡ true = subst (λ (x : List Step). path_eq e.node.path x ≡ true) is (path_itself e.node.path) in cc

    at : (a : Bool) → path_eq e.node.path p ≡ a → (b : Bool) → path_eq e.node.path q ≡ b → Whose e
    at true one b other = Whose.first (path_is e.node.path p one)
    at false one true other = Whose.second (path_is e.node.path q other)
    at false one false other = let none = sym (kept e.node.path e h refl) ∙ only e.node.path (no p one) (no q other) in cc

  later : (e : Entry) (h : List Entry) → OnlyTheirs (e ∷ h) → OnlyTheirs h
  later e h only path not_p not_q = by (whose e h only) where
    by : Whose e → task_entries path h ≡ []
    by (Whose.first is) = sym (dropped path e h (λ same. not_p (sym same ∙ is))) ∙ only path not_p not_q
    by (Whose.second is) = sym (dropped path e h (λ same. not_q (sym same ∙ is))) ∙ only path not_p not_q

  all_second : (h : List Entry) → task_entries p h ≡ [] → OnlyTheirs h → h ≡ task_entries q h
  all_second [] none only = refl
  all_second (e ∷ h) none only = by (whose e h only) (λ less. all_second h less (later e h only)) where
    by : Whose e → (task_entries p h ≡ [] → h ≡ task_entries q h) → e ∷ h ≡ task_entries q (e ∷ h)
    by (Whose.first is) below = let one = sym (kept p e h is) ∙ none in cc
    by (Whose.second is) below =
        let not_p : e.node.path ≡ p → ⊥ = λ same. apart (sym same ∙ is) in
        ap (λ (es : List Entry). e ∷ es) (below (sym (dropped p e h not_p) ∙ none)) ∙ sym (kept q e h is)

  -- the entry stands somewhere among those of the other task
  pub record Among (a : Entry) (h : List Entry) : Type 0 where
    pub before : List Entry
    pub after : List Entry
    pub parts : h ≡ before ++ a ∷ after
    pub others : task_entries q h ≡ before ++ after

  abbrev head_or : Entry → List Entry → Entry
  head_or a [] = a
  head_or a (e ∷ es) = e

  abbrev tail_of : List Entry → List Entry
  tail_of [] = []
  tail_of (e ∷ es) = es

  pub among : (h : List Entry) (a : Entry) → task_entries p h ≡ a ∷ [] → OnlyTheirs h → Among a h
  among [] a one only = cc
  among (e ∷ h) a one only = by (whose e h only) (λ less. among h a less (later e h only)) where
    by : Whose e → (task_entries p h ≡ a ∷ [] → Among a h) → Among a (e ∷ h)
    by (Whose.first is) below =
        let own : e ∷ task_entries p h ≡ a ∷ [] = sym (kept p e h is) ∙ one in
        let not_q : e.node.path ≡ q → ⊥ = λ same. apart (sym is ∙ same) in
        let rest : h ≡ task_entries q h = all_second h (ap tail_of own) (later e h only) in
        record { before = []; after = h; parts = ap (λ (x : Entry). x ∷ h) (ap (λ (es : List Entry). head_or a es) own); others = dropped q e h not_q ∙ sym rest }
    by (Whose.second is) below =
        let not_p : e.node.path ≡ p → ⊥ = λ same. apart (sym same ∙ is) in
        let m : Among a h = below (sym (dropped p e h not_p) ∙ one) in
        record { before = e ∷ m.before; after = m.after; parts = ap (λ (es : List Entry). e ∷ es) m.parts; others = kept q e h is ∙ ap (λ (es : List Entry). e ∷ es) m.others }
