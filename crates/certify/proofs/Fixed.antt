-- Statements have no construct exactly where they are fixed.
use Rattle.std.proofs.Common.{◌≡◌, refl, ap, ◌∙◌, ℕ, List, [], ◌∷◌, ◌++◌}
use Rattle.kernel_syntax.specs.declared.syntax.Schedule.{Schedule}
use Rattle.kernel_syntax.specs.declared.syntax.Schedule.TheVariants.{Even, Static, Dynamic}
use Rattle.kernel_syntax.specs.Tree.{Code, Done, Set, Store, Update, If, Loop, Parallel, For, Barrier, Critical}
use Rattle.certainty_model.specs.Certain.{IsFixed, IsFixedSchedule}
use Rattle.certify.specs.Constructs.{construct_lines, schedule_lines}

none_left : (xs ys : List ℕ) → xs ++ ys ≡ [] → xs ≡ []
none_left [] ys is = refl
none_left (x ∷ xs) ys is = cc

none_right : (xs ys : List ℕ) → xs ++ ys ≡ [] → ys ≡ []
none_right [] ys is = is
none_right (x ∷ xs) ys is = cc

none_both : (xs ys : List ℕ) → xs ≡ [] → ys ≡ [] → xs ++ ys ≡ []
none_both xs ys left right = ap (λ (l : List ℕ). l ++ ys) left ∙ right

fixed_schedule : (schedule : Schedule) (line : ℕ) → schedule_lines schedule line ≡ [] → IsFixedSchedule schedule
fixed_schedule Even line is = tt
fixed_schedule (Static chunk) line is = tt
fixed_schedule (Dynamic chunk) line is = cc

no_drawn : (schedule : Schedule) (line : ℕ) → IsFixedSchedule schedule → schedule_lines schedule line ≡ []
no_drawn Even line is = refl
no_drawn (Static chunk) line is = refl
no_drawn (Dynamic chunk) line is = absurd is

pub are_fixed : (code : Code) → construct_lines code ≡ [] → IsFixed code
are_fixed Done is = tt
are_fixed (Set slot value rest) is = are_fixed rest is
are_fixed (Store array index value line site rest) is = are_fixed rest is
are_fixed (Update array index value minus line site rest) is = cc
are_fixed (If test if_true if_false rest) is =
    let both = none_left (construct_lines if_true ++ construct_lines if_false) (construct_lines rest) is in (
      are_fixed if_true (none_left (construct_lines if_true) (construct_lines if_false) both),
      are_fixed if_false (none_right (construct_lines if_true) (construct_lines if_false) both),
      are_fixed rest (none_right (construct_lines if_true ++ construct_lines if_false) (construct_lines rest) is),
    )
are_fixed (Loop slot from to body rest) is =
    (are_fixed body (none_left (construct_lines body) (construct_lines rest) is), are_fixed rest (none_right (construct_lines body) (construct_lines rest) is))
are_fixed (Parallel span line end body rest) is =
    (are_fixed body (none_left (construct_lines body) (construct_lines rest) is), are_fixed rest (none_right (construct_lines body) (construct_lines rest) is))
are_fixed (For slot from to schedule nowait line end body rest) is =
    let both = none_left (schedule_lines schedule line ++ construct_lines body) (construct_lines rest) is in (
      fixed_schedule schedule line (none_left (schedule_lines schedule line) (construct_lines body) both),
      are_fixed body (none_right (schedule_lines schedule line) (construct_lines body) both),
      are_fixed rest (none_right (schedule_lines schedule line ++ construct_lines body) (construct_lines rest) is),
    )
are_fixed (Barrier line rest) is = are_fixed rest is
are_fixed (Critical mutex line end body rest) is = cc

pub have_none : (code : Code) → IsFixed code → construct_lines code ≡ []
have_none Done f = refl
have_none (Set slot value rest) f = have_none rest f
have_none (Store array index value line site rest) f = have_none rest f
have_none (Update array index value minus line site rest) f = absurd f
have_none (If test if_true if_false rest) f =
    none_both (construct_lines if_true ++ construct_lines if_false) (construct_lines rest)
    (none_both (construct_lines if_true) (construct_lines if_false) (have_none if_true f.0) (have_none if_false f.1))
    (have_none rest f.2)
have_none (Loop slot from to body rest) f = none_both (construct_lines body) (construct_lines rest) (have_none body f.0) (have_none rest f.1)
have_none (Parallel span line end body rest) f = none_both (construct_lines body) (construct_lines rest) (have_none body f.0) (have_none rest f.1)
have_none (For slot from to schedule nowait line end body rest) f =
    none_both (schedule_lines schedule line ++ construct_lines body) (construct_lines rest)
    (none_both (schedule_lines schedule line) (construct_lines body) (no_drawn schedule line f.0) (have_none body f.1))
    (have_none rest f.2)
have_none (Barrier line rest) f = have_none rest f
have_none (Critical mutex line end body rest) f = absurd f
