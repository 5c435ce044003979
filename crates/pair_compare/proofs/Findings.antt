-- What the workers of a team found.
use Rattle.std.proofs.Common.{◌≡◌, ◌↔◌, ℕ, ◌<◌, List, [], ◌∷◌, ◌++◌, All, Contains, false, length, get_or, inl, inr, sym, subst, arith}
use Rattle.std.proofs.lemmas.List.Elements.{All-contains, Contains-get_or, Contains-append_left, Contains-push, Contains-push_cases}
use Rattle.pair_compare.specs.Conflict.{GrowsBy, AddsPairs, AddsSome, OneHas}
use Rattle.pair_compare.specs.Work.{HasSearched, HasNothing, IsTaskPair, IsWorkerPair, HasFound}
use Rattle.pair_compare.specs.declared.worker.Worker.{Worker}
use Rattle.pair_compare.proofs.Adds.{Adds-pushed, not_in_nothing}
use Rattle.pair_compare.proofs.Inserts.{Inserts}
use Rattle.pair_compare.specs.declared.task.Task.{Task}

one_worker : (old new : Worker) (pair : ℕ × ℕ) → HasSearched old new → HasNothing old → new.refused ≡ false → HasFound new pair ↔ IsWorkerPair old pair
one_worker old new pair searched fresh ok =
    let adds = searched.found ok in (
      λ h. elim (adds.only pair h) [ inl was ↦ absurd (not_in_nothing pair (subst (λ (keys : List (ℕ × ℕ)). Contains keys pair) fresh was)) | inr q ↦ q ],
      λ h. adds.added pair h,
    )

pub team_found : (olds news : List Worker) (pair : ℕ × ℕ) → length news ≡ length olds → ((i : ℕ) (d : Worker) → i < length olds → HasSearched (get_or olds i d) (get_or news i d))
    → All HasNothing olds → All (λ worker. worker.refused ≡ false) news → OneHas HasFound news pair ↔ OneHas IsWorkerPair olds pair
team_found olds news pair lengths each fresh ok = (there, back)
  where
    there : OneHas HasFound news pair → OneHas IsWorkerPair olds pair
    there h =
        let (k, within, is) = h.listed in
        let inside : k < length olds = omega arith in
        let listed = Contains-get_or olds k h.one inside in
        record {
          one = get_or olds k h.one;
          listed = listed;
          has = (one_worker (get_or olds k h.one) (get_or news k h.one) pair (each k h.one inside) (All-contains HasNothing olds (get_or olds k h.one) fresh listed)
              (All-contains (λ worker. worker.refused ≡ false) news (get_or news k h.one) ok (Contains-get_or news k h.one within))).0 (subst (λ (w : Worker). HasFound w pair) (sym is) h.has);
        }

    back : OneHas IsWorkerPair olds pair → OneHas HasFound news pair
    back h =
        let (k, within, is) = h.listed in
        let inside : k < length news = omega arith in
        let listed = Contains-get_or news k h.one inside in
        record {
          one = get_or news k h.one;
          listed = listed;
          has = (one_worker (get_or olds k h.one) (get_or news k h.one) pair (each k h.one within) (All-contains HasNothing olds (get_or olds k h.one) fresh (Contains-get_or olds k h.one within))
              (All-contains (λ worker. worker.refused ≡ false) news (get_or news k h.one) ok listed)).1 (subst (λ (w : Worker). IsWorkerPair w pair) (sym is) h.has);
        }

-- a worker with these tasks, put behind the others
pub Adds-worker : (workers more : List Worker) (worker : Worker) (tasks : List Task) → worker.tasks.now ≡ tasks → more ≡ workers ++ worker ∷ [] → GrowsBy (OneHas IsWorkerPair workers) (OneHas IsWorkerPair more) (OneHas IsTaskPair tasks)
Adds-worker workers more worker tasks same is =
    subst (λ (ws : List Worker). GrowsBy (OneHas IsWorkerPair workers) (OneHas IsWorkerPair ws) (OneHas IsTaskPair tasks)) (sym is)
    (subst (λ (ts : List Task). GrowsBy (OneHas IsWorkerPair workers) (OneHas IsWorkerPair (workers ++ worker ∷ [])) (OneHas IsTaskPair ts)) same (Adds-pushed IsWorkerPair workers worker))

-- the keys of a set, one after another
pub AddsPairs-inserted : (k0 k1 k2 seen : List (ℕ × ℕ)) (pair : ℕ × ℕ) → AddsPairs k0 k1 (Contains seen) → Inserts k1 k2 pair → AddsPairs k0 k2 (Contains (seen ++ pair ∷ []))
AddsPairs-inserted k0 k1 k2 seen pair first inserts = record {
  kept = λ p h. inserts.kept p (first.kept p h);
  added = λ p h. elim (Contains-push_cases seen pair p h) [
    | inl was ↦ inserts.kept p (first.added p was)
    | inr same ↦ subst (λ (q : ℕ × ℕ). Contains k2 q) same inserts.added
  ];
  only = λ p h. elim (inserts.only p h) [
    | inl before ↦ elim (first.only p before) [ inl old ↦ inl old | inr one ↦ inr (Contains-append_left seen (pair ∷ []) p one) ]
    | inr same ↦ inr (subst (λ (q : ℕ × ℕ). Contains (seen ++ pair ∷ []) q) same (Contains-push seen pair))
  ];
}

-- one more key that has the property
pub AddsSome-inserted : (k0 k1 k2 : List (ℕ × ℕ)) (P : ℕ × ℕ → Type 0) (pair : ℕ × ℕ) → P pair → AddsSome k0 k1 P → Inserts k1 k2 pair → AddsSome k0 k2 P
AddsSome-inserted k0 k1 k2 P pair has first inserts = record {
  kept = λ p h. inserts.kept p (first.kept p h);
  only = λ p h. elim (inserts.only p h) [
    | inl before ↦ first.only p before
    | inr same ↦ inr (subst P same has)
  ];
}
