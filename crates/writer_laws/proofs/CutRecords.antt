-- The records of a log that is cut, and of its parts.
use Rattle.std.proofs.Common.{◌≡◌, ℕ, suc, ◌+◌, ◌<◌, List, [], ◌∷◌, ◌++◌, length, take, Some, refl, sym, ap, subst, arith, ◌∙◌}
use Rattle.std.specs.Prelude.{slice_get}
use Rattle.std.proofs.lemmas.List.{take-append-le}
use Rattle.sw_base.proofs.Lists.{get_more, get_right}
use Rattle.log_format.specs.declared.record.Record.{Record}
use Rattle.log_format.specs.declared.record.Kind.TheVariants.{Barrier}
use Rattle.race_model.specs.Trace.{region_count, barrier_count}
use Rattle.race_model.specs.Race.{held_after, held_after_kind}
use Rattle.race_model.proofs.Held.{held_after-append}
use Rattle.writer_laws.proofs.Forks.{region_step, barrier_step}
use Rattle.race_model.proofs.Counted.{barriers_both, regions_both}

-- a record of a log, and of a part of it before which so many barriers and regions come
pub record IsMoved (barriers regions : ℕ) (whole part : List Record) (i j : ℕ) (r : Record) : Type 0 where
  pub found : slice_get whole i ≡ Some r
  pub there : slice_get part j ≡ Some r
  pub as_many : barrier_count (take i whole) ≡ barrier_count (take j part) + barriers
  pub numbers : region_count (take i whole) ≡ region_count (take j part) + regions
  pub same_held : held_after [] (take i whole) ≡ held_after [] (take j part)

pub not_moved : (whole : List Record) (i : ℕ) (r : Record) → slice_get whole i ≡ Some r → IsMoved 0 0 whole whole i i r
not_moved whole i r found = record { found = found; there = found; as_many = omega arith; numbers = omega arith; same_held = refl }

pub early_moved : (first more other : List Record) (i : ℕ) (r : Record) → i < length first → slice_get first i ≡ Some r → IsMoved 0 0 (first ++ more) (first ++ other) i i r
early_moved first more other i r less found =
    let mine : take i (first ++ more) ≡ take i first = take-append-le i first more (omega arith) in
    let yours : take i (first ++ other) ≡ take i first = take-append-le i first other (omega arith) in
    let same : take i (first ++ more) ≡ take i (first ++ other) = mine ∙ sym yours in
    let barriers : barrier_count (take i (first ++ more)) ≡ barrier_count (take i (first ++ other)) = ap barrier_count same in
    let regions : region_count (take i (first ++ more)) ≡ region_count (take i (first ++ other)) = ap region_count same in
    record { found = get_more first more i r found; there = get_more first other i r found; as_many = omega arith; numbers = omega arith; same_held = ap (held_after []) same }

pub take_past : (first more : List Record) (b : Record) (j : ℕ) → take (length first + suc j) (first ++ b ∷ more) ≡ first ++ b ∷ take j more
take_past [] more b j =
    let same : suc j ≡ 0 + suc j = omega arith in
    subst (λ (i : ℕ). take i (b ∷ more) ≡ b ∷ take j more) same refl
take_past (x ∷ first) more b j =
    let same : suc (length first + suc j) ≡ length (x ∷ first) + suc j = omega arith in
    subst (λ (i : ℕ). take i (x ∷ (first ++ b ∷ more)) ≡ x ∷ (first ++ b ∷ take j more)) same (ap (λ (l : List Record). x ∷ l) (take_past first more b j))

pub late_moved : (c : ℕ) (first late : List Record) (b : Record) (j : ℕ) (r : Record) → b.kind ≡ Barrier → barrier_count first ≡ c → held_after [] first ≡ []
    → slice_get late j ≡ Some r → IsMoved (suc c) (region_count first) (first ++ b ∷ late) late (length first + suc j) j r
late_moved c first late b j r meets passed unlocked found =
    let before : take (length first + suc j) (first ++ b ∷ late) ≡ first ++ b ∷ take j late = take_past first late b j in
    let barriers : barrier_count (take (length first + suc j) (first ++ b ∷ late)) ≡ barrier_count first + barrier_count (b ∷ take j late) = ap barrier_count before ∙ barriers_both first (b ∷ take j late) in
    let regions : region_count (take (length first + suc j) (first ++ b ∷ late)) ≡ region_count first + region_count (b ∷ take j late) = ap region_count before ∙ regions_both first (b ∷ take j late) in
    let one : barrier_count (b ∷ take j late) ≡ 1 + barrier_count (take j late) = barrier_step b (take j late) ∙ rw meets refl in
    let none : region_count (b ∷ take j late) ≡ 0 + region_count (take j late) = region_step b (take j late) ∙ rw meets refl in
    let kept : held_after_kind b.kind b.addr [] ≡ [] = rw meets refl in
    record {
      found = get_right first (b ∷ late) (suc j) ∙ found;
      there = found;
      as_many = omega arith;
      numbers = omega arith;
      same_held = ap (held_after []) before ∙ (held_after-append [] first (b ∷ take j late)
          ∙ (ap (λ (held : List ℕ). held_after (held_after_kind b.kind b.addr held) (take j late)) unlocked ∙ ap (λ (held : List ℕ). held_after held (take j late)) kept));
    }
