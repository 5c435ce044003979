-- Which hands come home in what a hand did.
use Rattle.std.proofs.Common.{◌≡◌, refl, ap, ap₂, sym, ◌∙◌, ◌⊎◌, ℕ, suc, ◌+◌, ◌<◌, ◌≤◌, Bool, true, false, List, [], ◌∷◌, ◌++◌, map, append_assoc, arith}
use Rattle.std.specs.Prelude.{◌&&◌, ◌||◌, ◌==◌}
use Rattle.std.proofs.lemmas.List.Folds.{list_any-append}
use Rattle.log_format.specs.declared.record.Record.{Record}
use Rattle.log_format.specs.declared.record.Kind.{Kind}
use Rattle.log_format.specs.declared.record.Kind.TheVariants as kind
use Rattle.step_history.specs.declared.item.Item.{Item}
use Rattle.step_history.specs.declared.item.Deed.TheVariants as deed
use Rattle.step_history.specs.History.{Name, name_eq, item, is_home, came_home}
use Rattle.step_history.proofs.Names.{other_name}
use Rattle.history_model.specs.Work.{Work, Rest, Put, Fork, Phases, NoPhase, Phase, TeamWork, NoWork, Beside}
use Rattle.history_model.specs.Did.{deeds_of, lane_count_of, phase_splits, split_count, splits_of, did, did_phases, did_team}

-- a number that isn't one of these
abbrev pub Outside : ℕ → ℕ → ℕ → Type 0
Outside i k count = (i < k) ⊎ (k + count ≤ i)

-- The hand p joins none of number i among the steps of the hand `name` and those of the hands below its splits of these numbers.
pub record Untouched (p : Name) (i : ℕ) (name : Name) (k count : ℕ) : Type 0 where
  pub here : name ≡ p → Outside i k count
  pub below : (pre : Name) (j : ℕ) → p ≡ pre ++ j ∷ name → Outside j k count

pub came_both : (p : Name) (i : ℕ) (xs ys : List Item) → came_home p i xs ≡ false → came_home p i ys ≡ false → came_home p i (xs ++ ys) ≡ false
came_both p i xs ys one other = list_any-append (λ (x : Item). name_eq x.name p && is_home i x.deed) xs ys ∙ ap₂ (λ (a b : Bool). a || b) one other

never : (b : Bool) → (b && false) ≡ false
never true = refl
never false = refl

-- a deed that is no join
plain_first : (p : Name) (i : ℕ) (x : Item) (xs : List Item) → is_home i x.deed ≡ false → came_home p i xs ≡ false → came_home p i (x ∷ xs) ≡ false
plain_first p i x xs plain rest = ap₂ (λ (a b : Bool). a || b) (ap (λ (b : Bool). name_eq x.name p && b) plain ∙ never (name_eq x.name p)) rest

-- a join of another hand, or of another number
pub home_first : (p : Name) (i : ℕ) (name : Name) (k : ℕ) (xs : List Item) → (name ≡ p → k ≡ i → ⊥) → came_home p i xs ≡ false → came_home p i (item name (deed.Home k) ∷ xs) ≡ false
home_first p i name k xs apart rest = ap₂ (λ (a b : Bool). a || b) (by (k == i) refl) rest
  where
    by : (b : Bool) → (k == i) ≡ b → (name_eq name p && (k == i)) ≡ false
    by false is = ap (λ (b : Bool). name_eq name p && b) is ∙ never (name_eq name p)
    by true is = ap (λ (b : Bool). b && (k == i)) (other_name name p (λ same. apart same (let e : k ≡ i = grind arith in e)))

-- the records of a task join no hand
pub puts_home : (p : Name) (i : ℕ) (name : Name) (word : ℕ → ℕ) (k : Kind) (r : Record) → came_home p i (map (item name) (deeds_of word k r)) ≡ false
puts_home p i name word kind.Barrier r = refl
puts_home p i name word kind.Region r = refl
puts_home p i name word kind.Chunk r = refl
puts_home p i name word kind.End r = refl
puts_home p i name word _ r = ap (λ (b : Bool). b || false) (never (name_eq name p))

pub splits_home : (p : Name) (i : ℕ) (name : Name) (k lane span : ℕ) (team : TeamWork) → came_home p i (splits_of name k lane span team) ≡ false
splits_home p i name k lane span NoWork = refl
splits_home p i name k lane span (Beside work others) = plain_first p i (item name (deed.Split k lane span)) (splits_of name (suc k) (suc lane) span others) refl (splits_home p i name (suc k) (suc lane) span others)

-- below one of these numbers nothing is left to say
untouched_child : (p : Name) (i : ℕ) (name : Name) (k count c n : ℕ) → Untouched p i name k count → k ≤ c → c < k + count → Untouched p i (c ∷ name) 0 n
untouched_child p i name k count c n u least most = record {
  here = λ same. absurd (inside (u.below [] c (sym same)));
  below = λ pre j same. absurd (inside (u.below (pre ++ j ∷ []) c (same ∙ sym (append_assoc pre (j ∷ []) (c ∷ name)))));
}
  where
    inside : Outside c k count → ⊥
    inside out = grind arith

narrow : (i k count j n : ℕ) → k ≤ j → j + n ≤ k + count → Outside i k count → Outside i j n
narrow i k count j n least most out = grind arith

untouched_part : (p : Name) (i : ℕ) (name : Name) (k count j n : ℕ) → Untouched p i name k count → k ≤ j → j + n ≤ k + count → Untouched p i name j n
untouched_part p i name k count j n u least most =
    record { here = λ same. narrow i k count j n least most (u.here same); below = λ pre l same. narrow l k count j n least most (u.below pre l same) }

module _ (word : ℕ → ℕ) (p : Name) (i : ℕ) where
  mutual
    pub did_home : (name : Name) (k : ℕ) (work : Work) → Untouched p i name k (split_count work) → came_home p i (did word name k work) ≡ false
    did_home name k Rest u = refl
    did_home name k (Put r more) u = came_both p i (map (item name) (deeds_of word r.kind r)) (did word name k more) (puts_home p i name word r.kind r) (did_home name k more u)
    did_home name k (Fork line span phases more) u =
        came_both p i (did_phases word name k span phases) (did word name (k + phase_splits phases) more)
        (phases_home name k span phases (untouched_part p i name k (phase_splits phases + split_count more) k (phase_splits phases) u (omega arith) (omega arith)))
        (did_home name (k + phase_splits phases) more (untouched_part p i name k (phase_splits phases + split_count more) (k + phase_splits phases) (split_count more) u (omega arith) (omega arith)))

    pub phases_home : (name : Name) (k span : ℕ) (phases : Phases) → Untouched p i name k (phase_splits phases) → came_home p i (did_phases word name k span phases) ≡ false
    phases_home name k span NoPhase u = refl
    phases_home name k span (Phase team later) u =
        came_both p i (splits_of name k 0 span team ++ did_team word name k team) (did_phases word name (k + lane_count_of team) span later)
        (came_both p i (splits_of name k 0 span team) (did_team word name k team) (splits_home p i name k 0 span team)
        (team_home name k team (untouched_part p i name k (lane_count_of team + phase_splits later) k (lane_count_of team) u (omega arith) (omega arith))))
        (phases_home name (k + lane_count_of team) span later (untouched_part p i name k (lane_count_of team + phase_splits later) (k + lane_count_of team) (phase_splits later) u (omega arith) (omega arith)))

    pub team_home : (name : Name) (k : ℕ) (team : TeamWork) → Untouched p i name k (lane_count_of team) → came_home p i (did_team word name k team) ≡ false
    team_home name k NoWork u = refl
    team_home name k (Beside work others) u =
        came_both p i (did word (k ∷ name) 0 work) (item name (deed.Home k) ∷ did_team word name (suc k) others)
        (did_home (k ∷ name) 0 work (untouched_child p i name k (suc (lane_count_of others)) k (split_count work) u (omega arith) (omega arith)))
        (home_first p i name k (did_team word name (suc k) others)
        (λ same number. let out = u.here same in grind arith)
        (team_home name (suc k) others (untouched_part p i name k (suc (lane_count_of others)) (suc k) (lane_count_of others) u (omega arith) (omega arith))))
