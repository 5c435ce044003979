-- The own level of a label that is raised.
use Rattle.std.proofs.Common.{◌≡◌, ◌⊎◌, inl, inr, ℕ, ◌+◌, ◌*◌, ◌-◌, ◌≤◌, List, [], ◌∷◌, ◌++◌, length, Some, refl, sym, ap, subst, ◌∙◌, arith}
use Rattle.std.specs.Prelude.{slice_get}
use Rattle.std.proofs.lemmas.List.{length_push}
use Rattle.std.proofs.lemmas.Option.{same_Some}
use Rattle.race_model.specs.Label.{Triple}
use Rattle.race_laws.proofs.LabelPlace.{has_last, HasLast}
use Rattle.span_label.specs.Levels.{own_level}
use Rattle.log_segment.specs.Walking.{IsOwnAfter}

last_found : (prefix : List Triple) (last : Triple) → slice_get (prefix ++ last ∷ []) (length prefix) ≡ Some last
last_found [] last = refl
last_found (x ∷ prefix) last = last_found prefix last

pub own_last : (prefix : List Triple) (last : Triple) → own_level (prefix ++ last ∷ []) ≡ Some last
own_last prefix last =
    let at : length (prefix ++ last ∷ []) - 1 ≡ length prefix = (let more = length_push prefix last in omega arith) in
    ap (λ (n : ℕ). slice_get (prefix ++ last ∷ []) n) at ∙ last_found prefix last

-- no label of no level
no_own : (label : List Triple) (x : Triple) → length label ≡ 0 → own_level label ≡ Some x → ⊥
no_own [] x e found = cc
no_own (t ∷ label) x e found = absurd (omega arith)

pub own_raised : (old new : List Triple) (n : ℕ) → length new ≡ length old
    → ((above : List Triple) (own : Triple) → old ≡ above ++ own ∷ [] → new ≡ above ++ record own { offset = own.offset + own.span } ∷ [])
    → IsOwnAfter old n → IsOwnAfter new (n + 1)
own_raised old new n levels raised is x found = at (has_last old)
  where
    at : (old ≡ []) ⊎ HasLast old → (x.span ≤ 64) × (x.offset ≤ 64 * (n + 1)) × (x.barrier ≤ n + 1)
    at (inl e) = absurd (no_own new x (levels ∙ ap length e) found)
    at (inr l) =
        let was = is l.last (subst (λ (t : List Triple). own_level t ≡ Some l.last) (sym l.parts) (own_last l.prefix l.last)) in
        let now : Triple = record { offset = l.last.offset + l.last.span; span = l.last.span; barrier = l.last.barrier } in
        let same : now ≡ x = same_Some now x (sym (own_last l.prefix now) ∙ (ap (λ (t : List Triple). own_level t) (sym (raised l.prefix l.last l.parts)) ∙ found)) in
        let span : l.last.span ≤ 64 = was.0 in
        let offset : l.last.offset ≤ 64 * n = was.1 in
        let barrier : l.last.barrier ≤ n = was.2 in
        subst (λ (t : Triple). (t.span ≤ 64) × (t.offset ≤ 64 * (n + 1)) × (t.barrier ≤ n + 1)) same (omega arith, omega arith, omega arith)

pub own_passed : (old new : List Triple) (n : ℕ) → length new ≡ length old
    → ((above : List Triple) (own : Triple) → old ≡ above ++ own ∷ [] → new ≡ above ++ record own { barrier = own.barrier + 1 } ∷ [])
    → IsOwnAfter old n → IsOwnAfter new (n + 1)
own_passed old new n levels raised is x found = at (has_last old)
  where
    at : (old ≡ []) ⊎ HasLast old → (x.span ≤ 64) × (x.offset ≤ 64 * (n + 1)) × (x.barrier ≤ n + 1)
    at (inl e) = absurd (no_own new x (levels ∙ ap length e) found)
    at (inr l) =
        let was = is l.last (subst (λ (t : List Triple). own_level t ≡ Some l.last) (sym l.parts) (own_last l.prefix l.last)) in
        let now : Triple = record { offset = l.last.offset; span = l.last.span; barrier = l.last.barrier + 1 } in
        let same : now ≡ x = same_Some now x (sym (own_last l.prefix now) ∙ (ap (λ (t : List Triple). own_level t) (sym (raised l.prefix l.last l.parts)) ∙ found)) in
        let span : l.last.span ≤ 64 = was.0 in
        let offset : l.last.offset ≤ 64 * n = was.1 in
        let barrier : l.last.barrier ≤ n = was.2 in
        subst (λ (t : Triple). (t.span ≤ 64) × (t.offset ≤ 64 * (n + 1)) × (t.barrier ≤ n + 1)) same (omega arith, omega arith, omega arith)
