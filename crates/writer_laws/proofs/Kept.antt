-- Where kept records stand, and that what is left out changes no count.
use Rattle.std.proofs.Common.{◌≡◌, ℕ, zero, suc, ◌+◌, Bool, true, false, cond, List, [], ◌∷◌, take, Some, refl, sym, ap, subst, arith, ◌∙◌, inl, inr}
use Rattle.std.specs.Prelude.{slice_get}
use Rattle.log_format.specs.declared.record.Record.{Record}
use Rattle.log_format.specs.declared.record.Kind.{Kind}
use Rattle.log_format.specs.declared.record.Kind.TheVariants.{Read, Write, Update}
use Rattle.race_model.specs.Trace.{is_region_kind, is_barrier_kind, barrier_count}
use Rattle.race_model.specs.Race.{IsAccess, held_after, held_after_kind}
use Rattle.writer_laws.specs.Places.{ForkPlace, forks_from}
use Rattle.writer_laws.specs.Dropping.{only_kept}
use Rattle.writer_laws.proofs.Forks.{barrier_step}

-- an access forks nothing, is no barrier, and changes no mutex
pub record IsIdle (k : Kind) : Type 0 where
  pub no_region : is_region_kind k ≡ false
  pub no_barrier : is_barrier_kind k ≡ false
  pub no_mutex : (m : ℕ) (held : List ℕ) → held_after_kind k m held ≡ held

idle_at : (k l : Kind) → k ≡ l → IsIdle l → IsIdle k
idle_at k l e i = subst IsIdle (sym e) i

pub idle : (r : Record) → IsAccess r → IsIdle r.kind
idle r (inl read) = idle_at r.kind Read read (record { no_region = refl; no_barrier = refl; no_mutex = λ m held. refl })
idle r (inr (inl write)) = idle_at r.kind Write write (record { no_region = refl; no_barrier = refl; no_mutex = λ m held. refl })
idle r (inr (inr update)) = idle_at r.kind Update update (record { no_region = refl; no_barrier = refl; no_mutex = λ m held. refl })

-- a record of one log and of another, behind as many barriers and with the same mutexes held
pub record IsPlaced (records others : List Record) (i j : ℕ) (r : Record) : Type 0 where
  pub found : slice_get records i ≡ Some r
  pub there : slice_get others j ≡ Some r
  pub as_many : barrier_count (take i records) ≡ barrier_count (take j others)
  pub same_held : (held : List ℕ) → held_after held (take i records) ≡ held_after held (take j others)

abbrev pub LeavesAccesses : (ℕ → Bool) → List Record → Type 0
LeavesAccesses keep records = (n : ℕ) (r : Record) → slice_get records n ≡ Some r → keep n ≡ false → IsAccess r

pub rest : (keep : ℕ → Bool) (r : Record) (records : List Record) → LeavesAccesses keep (r ∷ records) → LeavesAccesses (λ n. keep (suc n)) records
rest keep r records leaves n s found out = leaves (suc n) s found out

placed_first : (r : Record) (records others : List Record) → IsPlaced (r ∷ records) (r ∷ others) 0 0 r
placed_first r records others = record { found = refl; there = refl; as_many = refl; same_held = λ held. refl }

placed_both : (s : Record) (records others : List Record) (i j : ℕ) (r : Record) → IsPlaced records others i j r → IsPlaced (s ∷ records) (s ∷ others) (suc i) (suc j) r
placed_both s records others i j r p = record {
  found = p.found;
  there = p.there;
  as_many = barrier_step s (take i records) ∙ (ap (λ (n : ℕ). cond (is_barrier_kind s.kind) 1 0 + n) p.as_many ∙ sym (barrier_step s (take j others)));
  same_held = λ held. p.same_held (held_after_kind s.kind s.addr held);
}

placed_left : (s : Record) (records others : List Record) (i j : ℕ) (r : Record) → IsAccess s → IsPlaced records others i j r → IsPlaced (s ∷ records) others (suc i) j r
placed_left s records others i j r access p =
    let is = idle s access in
    let none : cond {A = ℕ} (is_barrier_kind s.kind) 1 0 ≡ 0 = rw is.no_barrier refl in
    let step = barrier_step s (take i records) in
    let same = p.as_many in
    record {
      found = p.found;
      there = p.there;
      as_many = omega arith;
      same_held = λ held. ap (λ (ms : List ℕ). held_after ms (take i records)) (is.no_mutex s.addr held) ∙ p.same_held held;
    }

-- the place of a kept record among those kept
pub record Stays (keep : ℕ → Bool) (records : List Record) (i : ℕ) (r : Record) : Type 0 where
  pub index : ℕ
  pub placed : IsPlaced records (only_kept keep records) i index r

pub stays : (keep : ℕ → Bool) (records : List Record) → LeavesAccesses keep records → (i : ℕ) (r : Record) → slice_get records i ≡ Some r → keep i ≡ true → Stays keep records i r
stays keep [] leaves i r found in_it = cc
stays keep (s ∷ records) leaves zero r found in_it =
    let same : s ≡ r = cc in
    let here : only_kept keep (s ∷ records) ≡ s ∷ only_kept (λ n. keep (suc n)) records = rw in_it refl in
    record {
      index = 0;
      placed = subst (λ (t : Record). IsPlaced (s ∷ records) (only_kept keep (s ∷ records)) 0 0 t) same
          (subst (λ (l : List Record). IsPlaced (s ∷ records) l 0 0 s) (sym here) (placed_first s records (only_kept (λ n. keep (suc n)) records)));
    }
stays keep (s ∷ records) leaves (suc i) r found in_it = at (keep 0) refl (stays (λ n. keep (suc n)) records (rest keep s records leaves) i r found in_it)
  where
    at : (b : Bool) → keep 0 ≡ b → Stays (λ n. keep (suc n)) records i r → Stays keep (s ∷ records) (suc i) r
    at true is p =
        let here : only_kept keep (s ∷ records) ≡ s ∷ only_kept (λ n. keep (suc n)) records = rw is refl in
        record {
          index = suc p.index;
          placed = subst (λ (l : List Record). IsPlaced (s ∷ records) l (suc i) (suc p.index) r) (sym here)
              (placed_both s records (only_kept (λ n. keep (suc n)) records) i p.index r p.placed);
        }
    at false is p =
        let here : only_kept keep (s ∷ records) ≡ only_kept (λ n. keep (suc n)) records = rw is refl in
        record {
          index = p.index;
          placed = subst (λ (l : List Record). IsPlaced (s ∷ records) l (suc i) p.index r) (sym here)
              (placed_left s records (only_kept (λ n. keep (suc n)) records) i p.index r (leaves 0 s refl is) p.placed);
        }

-- where a record among those kept comes from
pub record Comes (keep : ℕ → Bool) (records : List Record) (j : ℕ) (r : Record) : Type 0 where
  pub index : ℕ
  pub placed : IsPlaced records (only_kept keep records) index j r

pub comes : (keep : ℕ → Bool) (records : List Record) → LeavesAccesses keep records → (j : ℕ) (r : Record) → slice_get (only_kept keep records) j ≡ Some r → Comes keep records j r
comes keep [] leaves j r found = cc
comes keep (s ∷ records) leaves j r found = at (keep 0) refl j (comes (λ n. keep (suc n)) records (rest keep s records leaves)) found
  where
    at : (b : Bool) → keep 0 ≡ b → (k : ℕ)
        → ((m : ℕ) (t : Record) → slice_get (only_kept (λ n. keep (suc n)) records) m ≡ Some t → Comes (λ n. keep (suc n)) records m t)
        → slice_get (only_kept keep (s ∷ records)) k ≡ Some r → Comes keep (s ∷ records) k r
    at true is zero more found =
        let here : only_kept keep (s ∷ records) ≡ s ∷ only_kept (λ n. keep (suc n)) records = rw is refl in
        let first : slice_get (s ∷ only_kept (λ n. keep (suc n)) records) 0 ≡ Some r = subst (λ (l : List Record). slice_get l 0 ≡ Some r) here found in
        let same : s ≡ r = cc in
        record {
          index = 0;
          placed = subst (λ (t : Record). IsPlaced (s ∷ records) (only_kept keep (s ∷ records)) 0 0 t) same
              (subst (λ (l : List Record). IsPlaced (s ∷ records) l 0 0 s) (sym here) (placed_first s records (only_kept (λ n. keep (suc n)) records)));
        }
    at true is (suc k) more found =
        let here : only_kept keep (s ∷ records) ≡ s ∷ only_kept (λ n. keep (suc n)) records = rw is refl in
        let p = more k r (subst (λ (l : List Record). slice_get l (suc k) ≡ Some r) here found) in
        record {
          index = suc p.index;
          placed = subst (λ (l : List Record). IsPlaced (s ∷ records) l (suc p.index) (suc k) r) (sym here)
              (placed_both s records (only_kept (λ n. keep (suc n)) records) p.index k r p.placed);
        }
    at false is k more found =
        let here : only_kept keep (s ∷ records) ≡ only_kept (λ n. keep (suc n)) records = rw is refl in
        let p = more k r (subst (λ (l : List Record). slice_get l k ≡ Some r) here found) in
        record {
          index = suc p.index;
          placed = subst (λ (l : List Record). IsPlaced (s ∷ records) l (suc p.index) k r) (sym here)
              (placed_left s records (only_kept (λ n. keep (suc n)) records) p.index k r (leaves 0 s refl is) p.placed);
        }

-- the forks are those of the whole log
pub forks_kept : (b : ℕ) (keep : ℕ → Bool) (records : List Record) → LeavesAccesses keep records → forks_from b records ≡ forks_from b (only_kept keep records)
forks_kept b keep [] leaves = refl
forks_kept b keep (s ∷ records) leaves = at (keep 0) refl (λ c. forks_kept c (λ n. keep (suc n)) records (rest keep s records leaves))
  where
    fork : ForkPlace
    fork = record { span = s.value; barriers = b }

    at : (p : Bool) → keep 0 ≡ p → ((c : ℕ) → forks_from c records ≡ forks_from c (only_kept (λ n. keep (suc n)) records))
        → forks_from b (s ∷ records) ≡ forks_from b (only_kept keep (s ∷ records))
    at true is more =
        let here : only_kept keep (s ∷ records) ≡ s ∷ only_kept (λ n. keep (suc n)) records = rw is refl in
        ap (λ (fs : List ForkPlace). cond (is_region_kind s.kind) (record { span = s.value; barriers = b } ∷ fs) fs) (more (b + cond (is_barrier_kind s.kind) 1 0)) ∙ ap (forks_from b) (sym here)
    at false is more =
        let here : only_kept keep (s ∷ records) ≡ only_kept (λ n. keep (suc n)) records = rw is refl in
        let i = idle s (leaves 0 s refl is) in
        let none : b + cond {A = ℕ} (is_barrier_kind s.kind) 1 0 ≡ b = rw i.no_barrier (omega arith) in
        let skip : forks_from b (s ∷ records) ≡ forks_from (b + cond (is_barrier_kind s.kind) 1 0) records = rw i.no_region refl in
        skip ∙ (ap (λ (n : ℕ). forks_from n records) none ∙ (more b ∙ ap (forks_from b) (sym here)))
