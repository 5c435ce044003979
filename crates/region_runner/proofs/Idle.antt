-- The phases of a team whose body holds no work.
use Rattle.std.proofs.Common.{◌∙◌, ◌≡◌, refl, ap, sym, subst, ℕ, ◌+◌, Bool, true, false, cond, true≢false, List, [], ◌∷◌, ◌++◌, map, ℤ, Option, Some, None, All, arith}
use Rattle.std.specs.Prelude.{◌||◌}
use Rattle.std.specs.List.{count_by}
use Rattle.std.proofs.lemmas.List.Elements.{All-nil, All-cons, All-head, All-tail}
use Rattle.std.proofs.lemmas.List.Sums.{sum_by-cons}
use Rattle.kernel_syntax.specs.Tree as tree
use Rattle.kernel_syntax.specs.Tree.{Code, Done}
use Rattle.kernel_model.specs.declared.phase.Item.{Item}
use Rattle.kernel_model.specs.declared.phase.Item.TheVariants as item
use Rattle.kernel_model.specs.Lawful.{code_holds_work, fixed_bound, unrolled_bounds}
use Rattle.kernel_model.specs.Parts.{Part, Run, Bar, is_bar, bar_count, is_drawn, drawn_count, loop_parts, parts_of}
use Rattle.kernel_model.specs.Phases.{part_of, parts_in, AreDivided, EndsInBar}
use Rattle.region_runner.proofs.LawfulParts.{or_first, or_last}
use Rattle.region_runner.proofs.TeamLoop.{snoc_same}
use Rattle.region_runner.proofs.LawfulPhases.{all_map, each_phase}

-- neither a barrier nor a loop whose chunks are drawn
abbrev IsIdlePart : Part → Type 0
IsIdlePart part = (is_bar part ≡ false) × (is_drawn part ≡ false)

abbrev IsIdlePhase : List Item → Type 0
IsIdlePhase phase = All IsIdlePart (map part_of phase)

-- a loop that holds no work is not unrolled
idle_bounds : (from to : Option ℤ) (work : Bool) → work ≡ false → unrolled_bounds from to work ≡ None
idle_bounds (Some from) (Some to) true idle = absurd (true≢false idle)
idle_bounds _ _ _ idle = refl

one_more : (statement : Code) (parts : List Part) → IsIdlePart (Run statement) → All IsIdlePart parts → All IsIdlePart (Run statement ∷ parts)
one_more statement parts one more = All-cons IsIdlePart (Run statement) parts one more

idle_parts : (code : Code) → code_holds_work code ≡ false → All IsIdlePart (parts_of code)
idle_parts Done idle = All-nil IsIdlePart
idle_parts (tree.Set slot value rest) idle = one_more (tree.Set slot value Done) (parts_of rest) (refl, refl) (idle_parts rest idle)
idle_parts (tree.Store array index value line site rest) idle = one_more (tree.Store array index value line site Done) (parts_of rest) (refl, refl) (idle_parts rest idle)
idle_parts (tree.Update array index value minus line site rest) idle = one_more (tree.Update array index value minus line site Done) (parts_of rest) (refl, refl) (idle_parts rest idle)
idle_parts (tree.If test x y rest) idle =
    one_more (tree.If test x y Done) (parts_of rest) (refl, refl)
    (idle_parts rest (or_last (code_holds_work y) (code_holds_work rest) (or_last (code_holds_work x) (code_holds_work y || code_holds_work rest) idle)))
idle_parts (tree.Loop slot from to body rest) idle =
    let loop = tree.Loop slot from to body Done in
    let whole = idle_bounds (fixed_bound from) (fixed_bound to) (code_holds_work body) (or_first (code_holds_work body) (code_holds_work rest) idle) in
    subst (λ (bounds : Option (ℤ × ℤ)). All IsIdlePart (loop_parts bounds slot (parts_of body) loop ++ parts_of rest)) (sym whole)
    (one_more loop (parts_of rest) (refl, refl) (idle_parts rest (or_last (code_holds_work body) (code_holds_work rest) idle)))
idle_parts (tree.Parallel span line end body rest) idle = one_more (tree.Parallel span line end body Done) (parts_of rest) (refl, refl) (idle_parts rest idle)
idle_parts (tree.For slot from to schedule nowait line end body rest) idle = absurd (true≢false idle)
idle_parts (tree.Barrier line rest) idle = absurd (true≢false idle)
idle_parts (tree.Critical mutex line end body rest) idle =
    one_more (tree.Critical mutex line end body Done) (parts_of rest) (refl, refl) (idle_parts rest (or_last (code_holds_work body) (code_holds_work rest) idle))

none_counted : (test : Part → Bool) (parts : List Part) → All (λ (part : Part). test part ≡ false) parts → count_by test parts ≡ 0
none_counted test [] all = refl
none_counted test (part ∷ parts) all =
    let number : ℕ = cond (test part) 1 0 in
    let none : number ≡ 0 = ap (λ (b : Bool). cond b 1 0) (All-head (λ (p : Part). test p ≡ false) part parts all) in
    let count : count_by test (part ∷ parts) ≡ number + count_by test parts = sum_by-cons (λ (p : Part). cond (test p) 1 0) part parts in
    let rest = none_counted test parts (All-tail (λ (p : Part). test p ≡ false) part parts all) in
    omega arith

-- so no phase of such a body ends in a barrier
ends_in_none : (before : List Item) (line : ℕ) → IsIdlePhase (before ++ item.Bar line ∷ []) → ⊥
ends_in_none [] line idle = true≢false (All-head IsIdlePart (Bar line) [] idle).0
ends_in_none (x ∷ before) line idle = ends_in_none before line (All-tail IsIdlePart (part_of x) (map part_of (before ++ item.Bar line ∷ [])) idle)

-- there is only this phase, without a barrier or a loop whose chunks are drawn
pub record IsOnlyPhase (phases : List (List Item)) (only : List Item) : Type 0 where
  pub is : phases ≡ only ∷ []
  pub no_bar : bar_count (map part_of only) ≡ 0
  pub none_drawn : drawn_count (map part_of only) ≡ 0

-- so where the body of a team holds no work
pub only_phase : (code : Code) (phases earlier : List (List Item)) (last : List Item) → code_holds_work code ≡ false → parts_in phases ≡ parts_of code → AreDivided phases → phases ≡ earlier ++ last ∷ [] → IsOnlyPhase phases last
only_phase code phases earlier last idle parts d split = by earlier split (subst (λ (ps : List (List Item)). All EndsInBar ps) (snoc_same d.earlier earlier d.last last (sym d.parts ∙ split)).0 d.each)
  where
    each : All IsIdlePhase phases
    each = each_phase IsIdlePart phases (subst (λ (ps : List Part). All IsIdlePart ps) (sym parts) (idle_parts code idle))

    by : (before : List (List Item)) → phases ≡ before ++ last ∷ [] → All EndsInBar before → IsOnlyPhase phases last
    by [] is ends =
        let mine = All-head IsIdlePhase last [] (subst (λ (ps : List (List Item)). All IsIdlePhase ps) is each) in
        record {
          is = is;
          no_bar = none_counted is_bar (map part_of last) (all_map IsIdlePart (λ (p : Part). is_bar p ≡ false) (λ p idle. idle.0) (map part_of last) mine);
          none_drawn = none_counted is_drawn (map part_of last) (all_map IsIdlePart (λ (p : Part). is_drawn p ≡ false) (λ p idle. idle.1) (map part_of last) mine);
        }
    by (phase ∷ before) is ends =
        let first = All-head IsIdlePhase phase (before ++ last ∷ []) (subst (λ (ps : List (List Item)). All IsIdlePhase ps) is each) in
        let bar = All-head EndsInBar phase before ends in
        absurd (ends_in_none bar.before bar.line (subst IsIdlePhase bar.parts first))
