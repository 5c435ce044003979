-- What the rules of the language say of the phases of a team.
use Rattle.std.proofs.Common.{◌≡◌, ◌⊎◌, inl, inr, sym, subst, ℕ, ◌+◌, List, [], ◌∷◌, ◌++◌, map}
use Rattle.std.specs.Prelude.{All}
use Rattle.std.proofs.lemmas.List.{map-append}
use Rattle.std.proofs.lemmas.List.Elements.{All-nil, All-cons, All-head, All-tail, All-append}
use Rattle.sw_base.proofs.Lists.{all_parts}
use Rattle.kernel_syntax.specs.Program.{stmt_code}
use Rattle.kernel_syntax.specs.Tree as tree
use Rattle.kernel_syntax.specs.Tree.{Code, Done, TeamTree}
use Rattle.kernel_model.specs.declared.phase.Item.{Item}
use Rattle.kernel_model.specs.declared.phase.Item.TheVariants as item
use Rattle.kernel_model.specs.Parts.{Part, Run, parts_of}
use Rattle.kernel_model.specs.Phases.{part_of, without_barrier, items_in, parts_in, AreDivided, EndsInBar, IsNoBar}
use Rattle.lane_runner.specs.Phase.{IsItem}
use Rattle.lane_runner.specs.Teams.{EachTeamIn}
use Rattle.region_runner.specs.Lawful.{IsTeam, IsInnerTeam, IsLawfulPart, IsLawfulPhase}
use Rattle.region_runner.proofs.LawfulParts.{team_parts}

module _ (mutexes regions : ℕ) where
  -- the barrier at the end of a worksharing loop changes nothing of it
  with_barrier : (code : Code) → IsLawfulPart mutexes regions (Run (without_barrier code)) → IsLawfulPart mutexes regions (Run code)
  with_barrier Done h = h
  with_barrier (tree.Set slot value rest) h = h
  with_barrier (tree.Store array index value line site rest) h = h
  with_barrier (tree.Update array index value minus line site rest) h = h
  with_barrier (tree.If test x y rest) h = h
  with_barrier (tree.Loop slot from to body rest) h = h
  with_barrier (tree.Parallel span line end body rest) h = h
  with_barrier (tree.For slot from to schedule nowait line end body rest) h = h
  with_barrier (tree.Barrier line rest) h = h
  with_barrier (tree.Critical mutex line end body rest) h = h

  item_lawful : (x : Item) → IsLawfulPart mutexes regions (part_of x) → IsItem (mutexes + 1) x × EachTeamIn (IsInnerTeam mutexes regions) x
  item_lawful (item.Set slot value) h = (tt, tt)
  item_lawful (item.Run stmt which) h = let whole = with_barrier (stmt_code stmt.now Done) h in ((whole.0, whole.1), whole.2)
  item_lawful (item.Bar line) h = (h, tt)

  items_lawful : (items : List Item) → All (IsLawfulPart mutexes regions) (map part_of items) → All (IsItem (mutexes + 1)) items × All (EachTeamIn (IsInnerTeam mutexes regions)) items
  items_lawful [] all = (All-nil (IsItem (mutexes + 1)), All-nil (EachTeamIn (IsInnerTeam mutexes regions)))
  items_lawful (x ∷ items) all =
      let one = item_lawful x (All-head (IsLawfulPart mutexes regions) (part_of x) (map part_of items) all) in
      let rest = items_lawful items (All-tail (IsLawfulPart mutexes regions) (part_of x) (map part_of items) all) in
      (All-cons (IsItem (mutexes + 1)) x items one.0 rest.0, All-cons (EachTeamIn (IsInnerTeam mutexes regions)) x items one.1 rest.1)

pub all_map : {A : Type 0} (P Q : A → Type 0) → ((x : A) → P x → Q x) → (xs : List A) → All P xs → All Q xs
all_map P Q each [] all = All-nil Q
all_map P Q each (x ∷ xs) all = All-cons Q x xs (each x (All-head P x xs all)) (all_map P Q each xs (All-tail P x xs all))

both_all : {A : Type 0} (P Q R : A → Type 0) → ((x : A) → P x → Q x → R x) → (xs : List A) → All P xs → All Q xs → All R xs
both_all P Q R each [] one two = All-nil R
both_all P Q R each (x ∷ xs) one two = All-cons R x xs (each x (All-head P x xs one) (All-head Q x xs two)) (both_all P Q R each xs (All-tail P x xs one) (All-tail Q x xs two))

-- what holds of all parts holds of those of each phase
pub each_phase : (P : Part → Type 0) (phases : List (List Item)) → All P (parts_in phases) → All (λ (phase : List Item). All P (map part_of phase)) phases
each_phase P [] all = All-nil (λ (phase : List Item). All P (map part_of phase))
each_phase P (phase ∷ phases) all =
    let split = all_parts P (map part_of phase) (parts_in phases) (subst (λ (ps : List Part). All P ps) (map-append part_of phase (items_in phases)) all) in
    All-cons (λ (p : List Item). All P (map part_of p)) phase phases split.0 (each_phase P phases split.1)

divided_each : (phases : List (List Item)) → AreDivided phases → All (λ (phase : List Item). EndsInBar phase ⊎ All IsNoBar phase) phases
divided_each phases d =
    subst (λ (ps : List (List Item)). All (λ (phase : List Item). EndsInBar phase ⊎ All IsNoBar phase) ps) (sym d.parts)
    (All-append (λ (phase : List Item). EndsInBar phase ⊎ All IsNoBar phase) d.earlier (d.last ∷ [])
    (all_map EndsInBar (λ (phase : List Item). EndsInBar phase ⊎ All IsNoBar phase) (λ phase ends. inl ends) d.earlier d.each)
    (All-cons (λ (phase : List Item). EndsInBar phase ⊎ All IsNoBar phase) d.last [] (inr d.none_in_last) (All-nil (λ (phase : List Item). EndsInBar phase ⊎ All IsNoBar phase))))

-- each phase of a lawful team is one that its lanes can run
pub phases_lawful : (mutexes regions : ℕ) (team : TeamTree) (phases : List (List Item)) → IsTeam mutexes regions team → parts_in phases ≡ parts_of team.body → AreDivided phases → All (IsLawfulPhase mutexes regions) phases
phases_lawful mutexes regions team phases t is d =
    both_all (λ (phase : List Item). All (IsLawfulPart mutexes regions) (map part_of phase)) (λ (phase : List Item). EndsInBar phase ⊎ All IsNoBar phase) (IsLawfulPhase mutexes regions)
    (λ phase lawful divided. let both = items_lawful mutexes regions phase lawful in record { runs = (both.0, divided); teams = both.1 }) phases
    (each_phase (IsLawfulPart mutexes regions) phases (subst (λ (ps : List Part). All (IsLawfulPart mutexes regions) ps) (sym is) (team_parts mutexes regions team t))) (divided_each phases d)
