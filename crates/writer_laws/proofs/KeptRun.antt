-- What is left of a fork-join run is one.
use Rattle.std.proofs.Common.{◌≡◌, ℕ, suc, ◌+◌, ◌<◌, Bool, true, false, cond, List, [], ◌∷◌, ◌++◌, length, refl, sym, ap, subst, arith, ◌∙◌}
use Rattle.std.specs.Prelude.{All}
use Rattle.std.proofs.lemmas.List.Elements.{All-head, All-tail}
use Rattle.sw_base.specs.declared.path.Step.{Step}
use Rattle.log_format.specs.declared.record.Record.{Record}
use Rattle.log_format.specs.declared.record.Kind.TheVariants.{End}
use Rattle.race_model.specs.Trace.{Logs, Node, regions_before, barriers_before, is_barrier_kind, barrier_count}
use Rattle.race_model.specs.Order.{IsLane}
use Rattle.race_model.specs.ForkJoin.{IsForkJoin, IsTask, EndsOnce, WasForked}
use Rattle.writer_laws.specs.Places.{forks, ForkAlike}
use Rattle.writer_laws.specs.Dropping.{only_kept, Drops}
use Rattle.writer_laws.proofs.Ends.{NoEnd, access_no_end, ends_later, some_record}
use Rattle.writer_laws.proofs.Forks.{barrier_step}
use Rattle.writer_laws.proofs.Kept.{idle, rest, LeavesAccesses, forks_kept}
use Rattle.writer_laws.proofs.Unordered.{alike_back, forked_too, lane_too, IsForkedToo}

-- the other run ends as this one does
pub record EndsAlike (logs others : Logs) : Type 0 where
  pub ends : (path : List Step) → EndsOnce (logs path) → EndsOnce (others path)
  pub nothing : (path : List Step) → logs path ≡ [] → others path ≡ []
  pub barriers : (path : List Step) → barrier_count (logs path) ≡ barrier_count (others path)

module _ (logs others : Logs) (tree : IsForkJoin logs) (alike : ForkAlike logs others) (same : EndsAlike logs others) where
  was_task : (path : List Step) → IsTask others path → IsTask logs path
  was_task path task = at (logs path) refl
    where
      at : (records : List Record) → logs path ≡ records → 0 < length (logs path)
      at [] is = absurd (let none : length (others path) ≡ 0 = ap length (same.nothing path is) in omega arith)
      at (r ∷ records) is = let long : length (logs path) ≡ length (r ∷ records) = ap length is in omega arith

  is_task : (path : List Step) → IsTask logs path → IsTask others path
  is_task path task = some_record (others path) (same.ends path (tree.ends.ended path task))

  was_lane : (fork : Node) (n s : ℕ) (path : List Step) → IsLane others fork n s path → IsForkedToo logs fork.path (regions_before others fork) (barriers_before others fork) s
  was_lane fork n s path lane = forked_too others logs (alike_back logs others alike) fork n s path lane

  pub ends_alike : IsForkJoin others
  ends_alike = record {
    tasks = record {
      root = is_task [] tree.tasks.root;
      forked = λ path step task. forked path step (tree.tasks.forked path step (was_task (path ++ step ∷ []) task));
    };
    ends = record {
      ended = λ path task. same.ends path (tree.ends.ended path (was_task path task));
      lanes = λ fork n s path lane. is_task path (tree.ends.lanes (record { path = fork.path; index = (was_lane fork n s path lane).index }) n s path
          (lane_too others logs fork n s path path lane refl (was_lane fork n s path lane)));
      same_barriers = λ fork n m s path beside mine yours.
          let f = was_lane fork n s path mine in
          sym (same.barriers path) ∙ (tree.ends.same_barriers (record { path = fork.path; index = f.index }) n m s path beside
          (lane_too others logs fork n s path path mine refl f) (lane_too others logs fork m s beside beside yours refl f) ∙ same.barriers beside);
      no_root_barrier = sym (same.barriers []) ∙ tree.ends.no_root_barrier;
    };
  }
    where
      forked : (path : List Step) (step : Step) → WasForked logs path step → WasForked others path step
      forked path step w =
          let f = forked_too logs others alike w.fork step.lane step.span (path ++ step ∷ []) w.lane in
          record {
            fork = record { path = w.fork.path; index = f.index };
            above = w.above;
            lane = lane_too logs others w.fork step.lane step.span (path ++ step ∷ []) (path ++ step ∷ []) w.lane refl f;
          }

ends_kept : (keep : ℕ → Bool) (prefix : List Record) (last : Record) → LeavesAccesses keep (prefix ++ last ∷ []) → last.kind ≡ End → All NoEnd prefix → EndsOnce (only_kept keep (prefix ++ last ∷ []))
ends_kept keep [] last leaves ends once = at (keep 0) refl
  where
    at : (b : Bool) → keep 0 ≡ b → EndsOnce (only_kept keep (last ∷ []))
    at true is =
        let here : only_kept keep (last ∷ []) ≡ last ∷ [] = rw is refl in
        subst EndsOnce (sym here) (record { prefix = []; last = last; parts = refl; ends = ends; once = once })
    at false is = absurd (access_no_end last (leaves 0 last refl is) ends)
ends_kept keep (r ∷ prefix) last leaves ends once =
    at (keep 0) refl (ends_kept (λ n. keep (suc n)) prefix last (rest keep r (prefix ++ last ∷ []) leaves) ends (All-tail NoEnd r prefix once))
  where
    at : (b : Bool) → keep 0 ≡ b → EndsOnce (only_kept (λ n. keep (suc n)) (prefix ++ last ∷ [])) → EndsOnce (only_kept keep (r ∷ prefix ++ last ∷ []))
    at true is e =
        let here : only_kept keep (r ∷ prefix ++ last ∷ []) ≡ r ∷ only_kept (λ n. keep (suc n)) (prefix ++ last ∷ []) = rw is refl in
        subst EndsOnce (sym here) (ends_later r (only_kept (λ n. keep (suc n)) (prefix ++ last ∷ [])) (All-head NoEnd r prefix once) e)
    at false is e =
        let here : only_kept keep (r ∷ prefix ++ last ∷ []) ≡ only_kept (λ n. keep (suc n)) (prefix ++ last ∷ []) = rw is refl in
        subst EndsOnce (sym here) e

barriers_kept : (keep : ℕ → Bool) (records : List Record) → LeavesAccesses keep records → barrier_count records ≡ barrier_count (only_kept keep records)
barriers_kept keep [] leaves = refl
barriers_kept keep (r ∷ records) leaves = at (keep 0) refl (barriers_kept (λ n. keep (suc n)) records (rest keep r records leaves))
  where
    at : (b : Bool) → keep 0 ≡ b → barrier_count records ≡ barrier_count (only_kept (λ n. keep (suc n)) records) → barrier_count (r ∷ records) ≡ barrier_count (only_kept keep (r ∷ records))
    at true is same =
        let here : only_kept keep (r ∷ records) ≡ r ∷ only_kept (λ n. keep (suc n)) records = rw is refl in
        barrier_step r records ∙ (ap (λ (n : ℕ). cond (is_barrier_kind r.kind) 1 0 + n) same ∙ (sym (barrier_step r (only_kept (λ n. keep (suc n)) records)) ∙ ap barrier_count (sym here)))
    at false is same =
        let here : only_kept keep (r ∷ records) ≡ only_kept (λ n. keep (suc n)) records = rw is refl in
        let i = idle r (leaves 0 r refl is) in
        let none : cond {A = ℕ} (is_barrier_kind r.kind) 1 0 ≡ 0 = rw i.no_barrier refl in
        let step = barrier_step r records in
        (let count : barrier_count (r ∷ records) ≡ barrier_count records = omega arith in count) ∙ (same ∙ ap barrier_count (sym here))

pub kept_run : (keep : Node → Bool) (logs others : Logs) → IsForkJoin logs → Drops keep logs others → IsForkJoin others
kept_run keep logs others tree drops = ends_alike logs others tree
    (λ path. forks_kept 0 (λ n. keep (record { path = path; index = n })) (logs path) (leaves path) ∙ ap forks (sym (drops.kept path)))
    (record {
      ends = λ path e. subst EndsOnce (sym (drops.kept path)) (subst (λ (l : List Record). EndsOnce (only_kept (λ n. keep (record { path = path; index = n })) l)) (sym e.parts)
          (ends_kept (λ n. keep (record { path = path; index = n })) e.prefix e.last (subst (LeavesAccesses (λ n. keep (record { path = path; index = n }))) e.parts (leaves path)) e.ends e.once));
      nothing = λ path none. drops.kept path ∙ ap (only_kept (λ n. keep (record { path = path; index = n }))) none;
      barriers = λ path. barriers_kept (λ n. keep (record { path = path; index = n })) (logs path) (leaves path) ∙ ap barrier_count (sym (drops.kept path));
    })
  where
    leaves : (path : List Step) → LeavesAccesses (λ n. keep (record { path = path; index = n })) (logs path)
    leaves path n r found out = drops.accesses (record { path = path; index = n }) r found out
