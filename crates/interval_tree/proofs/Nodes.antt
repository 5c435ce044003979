-- A node of a tree: a slice of references and its reaches, taken apart.
use Rattle.std.proofs.Common.{◌≡◌, ℕ, ◌/◌, ◌<◌, ◌≤◌, List, [], ◌∷◌, ◌++◌, length, take, drop, sym, ◌∙◌, ap, subst, arith}
use Rattle.std.proofs.lemmas.List.{length-map, append-nil}
use Rattle.stride_summary.specs.declared.run.Run.{Run}
use Rattle.interval_tree.specs.Reaches.{AreReaches}
use Rattle.interval_tree.specs.Order.{IsTree, met}
use Rattle.interval_tree.proofs.Halves.{IsCut, IsCut-from_split, shown, some_in_cut}
use Rattle.interval_tree.proofs.Searching.{AreParts, AreParts-from_reaches, IsEntered, IsOrdered, IsOrdered-from_sorted, below_power, length-reaches_of, met-cut, met-past, met-past_one, met-short}
use denote.Ref.{Bor}

-- a list of references is a middle and the halves beside it
pub record IsSplit (runs left : List (Bor Run)) (run : Bor Run) (right : List (Bor Run)) : Type 0 where
  pub rest : List (Bor Run)
  pub front : left ≡ take (length runs / 2) runs
  pub back : rest ≡ drop (length runs / 2) runs
  pub cut : rest ≡ run ∷ right

pub cut_of : (runs left : List (Bor Run)) (run : Bor Run) (right : List (Bor Run)) → IsSplit runs left run right → IsCut (shown runs) (shown left) run.now (shown right)
cut_of runs left run right split = IsCut-from_split runs left split.rest run right split.front split.back split.cut

-- a node always has a reach
pub met-no_reaches : (lo hi : ℕ) (runs left : List (Bor Run)) (run : Bor Run) (right : List (Bor Run)) (reaches : List ℕ) → IsSplit runs left run right → IsTree (shown runs) reaches → length reaches ≡ 0 → met lo hi (shown runs) ≡ []
met-no_reaches lo hi runs left run right reaches split tree none =
    let n = length (shown runs) in
    absurd (omega (arith, ap length (tree.reached n (below_power n)), length-reaches_of n (shown runs) (below_power n), some_in_cut _ _ _ _ (cut_of runs left run right split)))

pub parts_of : (runs left : List (Bor Run)) (run : Bor Run) (right : List (Bor Run)) (reaches parts : List ℕ) (reach : ℕ) → IsSplit runs left run right → IsTree (shown runs) reaches → reaches ≡ parts ++ reach ∷ [] → AreParts parts reach (shown runs) (shown left) (shown right)
parts_of runs left run right reaches parts reach split tree is =
    AreParts-from_reaches reaches parts reach (shown runs) (shown left) run.now (shown right) (cut_of runs left run right split) tree.reached is

pub left_is_shorter : (runs left : List (Bor Run)) (right : List (Bor Run)) (parts : List ℕ) (reach : ℕ) → AreParts parts reach (shown runs) (shown left) (shown right) → length left ≤ length parts
left_is_shorter runs left right parts reach are = omega (arith, are.long, length-map left (λ (r : Bor Run). r.now))

pub left_tree : (runs left : List (Bor Run)) (run : Bor Run) (right : List (Bor Run)) (reaches parts lefts : List ℕ) (reach : ℕ) → IsSplit runs left run right → IsTree (shown runs) reaches → reaches ≡ parts ++ reach ∷ [] → lefts ≡ take (length left) parts → IsTree (shown left) lefts
left_tree runs left run right reaches parts lefts reach split tree is taken = record {
  ascends = (IsOrdered-from_sorted 0 _ _ _ _ (cut_of runs left run right split) tree.ascends).left_sorted;
  reached = subst (λ (ns : List ℕ). AreReaches ns (shown left)) (ap (λ n. take n parts) (length-map left (λ (r : Bor Run). r.now)) ∙ sym taken) (parts_of runs left run right reaches parts reach split tree is).lefts;
}

pub right_tree : (runs left : List (Bor Run)) (run : Bor Run) (right : List (Bor Run)) (reaches parts rights : List ℕ) (reach : ℕ) → IsSplit runs left run right → IsTree (shown runs) reaches → reaches ≡ parts ++ reach ∷ [] → rights ≡ drop (length left) parts → IsTree (shown right) rights
right_tree runs left run right reaches parts rights reach split tree is dropped = record {
  ascends = (IsOrdered-from_sorted 0 _ _ _ _ (cut_of runs left run right split) tree.ascends).right_sorted;
  reached = subst (λ (ns : List ℕ). AreReaches ns (shown right)) (ap (λ n. drop n parts) (length-map left (λ (r : Bor Run). r.now)) ∙ sym dropped) (parts_of runs left run right reaches parts reach split tree is).rights;
}

-- a node whose reach is below lo has no run that is met
pub none_met : (lo hi : ℕ) (runs left : List (Bor Run)) (right : List (Bor Run)) (parts : List ℕ) (reach : ℕ) → AreParts parts reach (shown runs) (shown left) (shown right) → reach < lo → met lo hi (shown runs) ≡ []
none_met lo hi runs left right parts reach are short = met-short lo hi (shown runs) (omega (arith, are.own))

pub entered_of : (lo hi : ℕ) (runs left : List (Bor Run)) (run : Bor Run) (right : List (Bor Run)) (reaches parts : List ℕ) (reach : ℕ) → IsSplit runs left run right → IsTree (shown runs) reaches → reaches ≡ parts ++ reach ∷ [] → lo ≤ reach → IsEntered lo hi (shown runs) (shown left) run.now (shown right)
entered_of lo hi runs left run right reaches parts reach split tree is far = record {
  cut = cut_of runs left run right split;
  reached = omega (arith, (parts_of runs left run right reaches parts reach split tree is).own);
}

pub ordered_of : (hi : ℕ) (runs left : List (Bor Run)) (run : Bor Run) (right : List (Bor Run)) (reaches : List ℕ) → IsSplit runs left run right → IsTree (shown runs) reaches → IsOrdered hi (shown left) run.now (shown right)
ordered_of hi runs left run right reaches split tree = IsOrdered-from_sorted hi _ _ _ _ (cut_of runs left run right split) tree.ascends

-- where the middle begins past hi, only runs of the left half are met
pub met_left : (lo hi : ℕ) (runs left : List (Bor Run)) (run : Bor Run) (right : List (Bor Run)) (reaches : List ℕ) → IsSplit runs left run right → IsTree (shown runs) reaches → hi < run.now.base → met lo hi (shown runs) ≡ met lo hi (shown left)
met_left lo hi runs left run right reaches split tree past =
    met-cut lo hi _ _ _ _ (cut_of runs left run right split)
    ∙ ap (λ ys. (met lo hi (shown left) ++ ys) ++ met lo hi (shown right)) (met-past_one lo hi run.now past)
    ∙ ap (λ ys. (met lo hi (shown left) ++ []) ++ ys) (met-past lo hi (shown right) ((ordered_of hi runs left run right reaches split tree).right_past past))
    ∙ append-nil (met lo hi (shown left) ++ []) ∙ append-nil (met lo hi (shown left))
