-- From the records that were passed to one more.
use Rattle.std.proofs.Common.{◌≡◌, ◌+◌, cond, List, [], ◌∷◌, ◌++◌, sym, ap, ◌∙◌, arith}
use Rattle.std.proofs.lemmas.List.{length_push}
use Rattle.std.proofs.lemmas.List.Sums.{sum_by-append}
use Rattle.race_model.proofs.Held.{held_after-append}
use Rattle.log_format.specs.declared.record.Record.{Record}
use Rattle.race_model.specs.Race.{held_after_kind}
use Rattle.race_model.specs.Trace.{region_count, barrier_count, is_region_kind, is_barrier_kind}
use Rattle.explain.specs.Finding.{IsPlaceAfter}
use Rattle.explain.specs.declared.passing.ReadPlace.{ReadPlace}

regions_push : (before : List Record) (r : Record) → region_count (before ++ r ∷ []) ≡ region_count before + cond (is_region_kind r.kind) 1 0
regions_push before r = sum_by-append (λ (e : Record). cond (is_region_kind e.kind) 1 0) before (r ∷ []) ∙ (let e : region_count before + (0 + cond (is_region_kind r.kind) 1 0) ≡ region_count before + cond (is_region_kind r.kind) 1 0 = omega arith in e)

barriers_push : (before : List Record) (r : Record) → barrier_count (before ++ r ∷ []) ≡ barrier_count before + cond (is_barrier_kind r.kind) 1 0
barriers_push before r = sum_by-append (λ (e : Record). cond (is_barrier_kind e.kind) 1 0) before (r ∷ []) ∙ (let e : barrier_count before + (0 + cond (is_barrier_kind r.kind) 1 0) ≡ barrier_count before + cond (is_barrier_kind r.kind) 1 0 = omega arith in e)

pub passes : (old new : ReadPlace) (before : List Record) (r : Record) → IsPlaceAfter old before → new.held ≡ held_after_kind r.kind r.addr old.held → new.records ≡ old.records + 1
    → new.regions ≡ old.regions + cond (is_region_kind r.kind) 1 0 → new.barriers ≡ old.barriers + cond (is_barrier_kind r.kind) 1 0 → IsPlaceAfter new (before ++ r ∷ [])
passes old new before r after held records regions barriers = record {
  held = held ∙ (ap (held_after_kind r.kind r.addr) after.held ∙ sym (held_after-append [] before (r ∷ [])));
  records = records ∙ (ap (λ n. n + 1) after.records ∙ sym (length_push before r));
  regions = regions ∙ (ap (λ n. n + cond (is_region_kind r.kind) 1 0) after.regions ∙ sym (regions_push before r));
  barriers = barriers ∙ (ap (λ n. n + cond (is_barrier_kind r.kind) 1 0) after.barriers ∙ sym (barriers_push before r));
}
