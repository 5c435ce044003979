-- How a label goes from one record of a log to the next.
use Rattle.std.proofs.Common.{◌≡◌, ℕ, ◌+◌, ◌*◌, Bool, cond, List, [], ◌∷◌, ◌++◌, length, take, Some, refl, sym, ap, subst, ◌∙◌, arith, append_assoc}
use Rattle.std.specs.Prelude.{slice_get, count_by}
use Rattle.std.proofs.Math.Seq.{take-append_seam}
use Rattle.std.proofs.lemmas.List.{length_push}
use Rattle.std.proofs.lemmas.List.Sums.{sum_by-append}
use Rattle.sw_base.specs.declared.path.Step.{Step}
use Rattle.log_format.specs.declared.record.Record.{Record}
use Rattle.race_model.specs.Trace.{Logs, Node, regions_before, barriers_before, region_count, barrier_count, is_region_kind, is_barrier_kind}
use Rattle.race_model.specs.Order.{IsLane}
use Rattle.race_model.specs.Label.{Triple, IsLabel, lane_triple}

-- the prefix of a log, up to a record and with it
pub takes_before : (log before rest : List Record) (r : Record) → log ≡ before ++ r ∷ rest → take (length before) log ≡ before
takes_before log before rest r e = ap (λ (rs : List Record). take (length before) rs) e ∙ take-append_seam before (r ∷ rest)

pub takes_next : (log before rest : List Record) (r : Record) → log ≡ before ++ r ∷ rest → take (length before + 1) log ≡ before ++ r ∷ []
takes_next log before rest r e =
    ap (λ (rs : List Record). take (length before + 1) rs) (e ∙ sym (append_assoc before (r ∷ []) rest))
    ∙ (ap (λ (n : ℕ). take n ((before ++ r ∷ []) ++ rest)) (sym (length_push before r)) ∙ take-append_seam (before ++ r ∷ []) rest)

seam_at : (before rest : List Record) (r : Record) → slice_get (before ++ r ∷ rest) (length before) ≡ Some r
seam_at [] rest r = refl
seam_at (b ∷ before) rest r = seam_at before rest r

pub found_next : (log before rest : List Record) (r : Record) → log ≡ before ++ r ∷ rest → slice_get log (length before) ≡ Some r
found_next log before rest r e = subst (λ (rs : List Record). slice_get rs (length before) ≡ Some r) (sym e) (seam_at before rest r)

-- one record more
pub count_more : (p : Record → Bool) (before : List Record) (r : Record) → count_by p (before ++ r ∷ []) ≡ count_by p before + cond (p r) 1 0
count_more p before r = sum_by-append (λ (x : Record). cond (p x) 1 0) before (r ∷ []) ∙ (let one : count_by p (r ∷ []) ≡ cond (p r) 1 0 = omega arith in omega arith)

pub regions_next : (logs : Logs) (path : List Step) (before rest : List Record) (r : Record) → logs path ≡ before ++ r ∷ rest
    → regions_before logs (record { path = path; index = length before + 1 }) ≡ regions_before logs (record { path = path; index = length before }) + cond (is_region_kind r.kind) 1 0
regions_next logs path before rest r e =
    ap (λ (rs : List Record). region_count rs) (takes_next (logs path) before rest r e)
    ∙ (count_more (λ x. is_region_kind x.kind) before r
    ∙ ap (λ (rs : List Record). region_count rs + cond (is_region_kind r.kind) 1 0) (sym (takes_before (logs path) before rest r e)))

pub barriers_next : (logs : Logs) (path : List Step) (before rest : List Record) (r : Record) → logs path ≡ before ++ r ∷ rest
    → barriers_before logs (record { path = path; index = length before + 1 }) ≡ barriers_before logs (record { path = path; index = length before }) + cond (is_barrier_kind r.kind) 1 0
barriers_next logs path before rest r e =
    ap (λ (rs : List Record). barrier_count rs) (takes_next (logs path) before rest r e)
    ∙ (count_more (λ x. is_barrier_kind x.kind) before r
    ∙ ap (λ (rs : List Record). barrier_count rs + cond (is_barrier_kind r.kind) 1 0) (sym (takes_before (logs path) before rest r e)))

-- a label's own level raised by regions and barriers
abbrev pub IsRaised : List Triple → List Triple → ℕ → ℕ → Type 0
IsRaised l m a b = (above : List Triple) (own : Triple) → l ≡ above ++ own ∷ [] → m ≡ above ++ record { offset = own.offset + own.span * a; span = own.span; barrier = own.barrier + b } ∷ []

pub moved : (logs : Logs) (x y : Node) (l m : List Triple) (a b : ℕ) → y.path ≡ x.path → regions_before logs y ≡ regions_before logs x + a → barriers_before logs y ≡ barriers_before logs x + b
    → (x.path ≡ [] → b ≡ 0) → IsRaised l m a b → IsLabel logs x l → IsLabel logs y m
moved logs x y _ m a b same regions barriers no_root raised (IsLabel.root x1 e) =
    let to : m ≡ record { offset = regions_before logs x + 1 * a; span = 1; barrier = 0 + b } ∷ [] = raised [] (record { offset = regions_before logs x; span = 1; barrier = 0 }) refl in
    let none : b ≡ 0 = no_root e in
    let offset : regions_before logs y ≡ regions_before logs x + 1 * a = omega (arith, regions) in
    let barrier : 0 ≡ 0 + b = omega arith in
    let triple : record { offset = regions_before logs y; span = 1; barrier = 0 } ∷ [] ≡ m = (λ i. let t : Triple = record { offset = offset i; span = 1; barrier = barrier i } in t ∷ []) ∙ sym to in
    subst (λ (k : List Triple). IsLabel logs y k) triple (IsLabel.root y (same ∙ e))
moved logs x y _ m a b same regions barriers no_root raised (IsLabel.lane fork x1 number span above lane up) =
    let to = raised above (lane_triple logs x number span) refl in
    let offset : number + span * regions_before logs y ≡ number + span * regions_before logs x + span * a =
    ap (λ (k : ℕ). number + span * k) regions ∙ (let it : (n s r k : ℕ) → n + s * (r + k) ≡ n + s * r + s * k = λ n s r k. omega arith in it number span (regions_before logs x) a) in
    let triple : above ++ lane_triple logs y number span ∷ [] ≡ m = (λ i. let t : Triple = record { offset = offset i; span = span; barrier = barriers i } in above ++ t ∷ []) ∙ sym to in
    subst (λ (k : List Triple). IsLabel logs y k) triple
    (IsLabel.lane fork y number span above (subst (λ (p : List Step). IsLane logs fork number span p) (sym same) lane) up)
