-- A kernel has at most 32 levels exactly where none of its tokens opens a level above 32.
use Rattle.std.proofs.Common.{◌≡◌, arith, ℕ, ◌+◌, ◌-◌, ◌≤◌, List, [], ◌∷◌, ◌++◌}
use Rattle.std.specs.Prelude.{◌↔◌}
use Rattle.std.specs.List.{AllByRecursion}
use Rattle.std.proofs.lemmas.List.Elements.{All-from_recursion, recursion_from_All}
use Rattle.kernel_text.specs.declared.token.Token.{Token}
use Rattle.kernel_text.specs.Grammar.{Tree, NumberAt, NameAt, TidAt, SpanAt, Element, Group, Minus, Binary, depth, schedule_tokens, nowait_tokens, Stmts, NoMore, Let, Assign, Store, Update, If, IfElse, Loop, Parallel, For, Barrier, Critical, CriticalOf, AreShallow, declarations_tokens, KernelTree}
use Rattle.kernel_text.specs.Faults.{tree_levels, flat, block_levels, range_levels, stmts_levels, kernel_levels, IsShallow}

abbrev pub AreLow : List ℕ → Type 0
AreLow ns = AllByRecursion (λ n. n ≤ 32) ns

no_level : 0 ≤ 32
no_level = omega arith

pub join : (xs ys : List ℕ) → AreLow xs → AreLow ys → AreLow (xs ++ ys)
join [] ys all more = more
join (x ∷ xs) ys all more = (all.0, join xs ys all.1 more)

split : (xs ys : List ℕ) → AreLow (xs ++ ys) → AreLow xs × AreLow ys
split [] ys all = (tt, all)
split (x ∷ xs) ys all = let s = split xs ys all.1 in ((all.0, s.0), s.1)

flat_low : (ts : List Token) → AreLow (flat ts)
flat_low [] = tt
flat_low (t ∷ ts) = (no_level, flat_low ts)

-- ---- expressions

tree_low : (t : Tree) (n : ℕ) → n + depth t ≤ 32 → AreLow (tree_levels n t)
tree_low (NumberAt line value) n le = (no_level, tt)
tree_low (NameAt line name) n le = (no_level, tt)
tree_low (TidAt line) n le = (no_level, tt)
tree_low (SpanAt line) n le = (no_level, tt)
tree_low (Element line name opened index closed) n le = (no_level, (omega arith, join (tree_levels (n + 1) index) (0 ∷ []) (tree_low index (n + 1) (omega arith)) (no_level, tt)))
tree_low (Group opened inside closed) n le = (omega arith, join (tree_levels (n + 1) inside) (0 ∷ []) (tree_low inside (n + 1) (omega arith)) (no_level, tt))
tree_low (Minus line operand) n le = (omega arith, tree_low operand (n + 1) (omega arith))
tree_low (Binary left op line right) n le = join (tree_levels n left) (0 ∷ tree_levels n right) (tree_low left n (omega arith)) (no_level, tree_low right n (omega arith))

low_tree : (t : Tree) (n : ℕ) → n ≤ 32 → AreLow (tree_levels n t) → n + depth t ≤ 32
low_tree (NumberAt line value) n le all = omega arith
low_tree (NameAt line name) n le all = omega arith
low_tree (TidAt line) n le all = omega arith
low_tree (SpanAt line) n le all = omega arith
low_tree (Element line name opened index closed) n le all =
    let s = split (tree_levels (n + 1) index) (0 ∷ []) all.1.1 in
    let inner = low_tree index (n + 1) all.1.0 s.0 in omega (arith, inner)
low_tree (Group opened inside closed) n le all =
    let s = split (tree_levels (n + 1) inside) (0 ∷ []) all.1 in
    let inner = low_tree inside (n + 1) all.0 s.0 in omega (arith, inner)
low_tree (Minus line operand) n le all = let inner = low_tree operand (n + 1) all.0 all.1 in omega (arith, inner)
low_tree (Binary left op line right) n le all =
    let s = split (tree_levels n left) (0 ∷ tree_levels n right) all in
    let l = low_tree left n le s.0 in
    let r = low_tree right n le s.1.1 in omega (arith, l, r)

flat_tree : (t : Tree) → AreLow (tree_levels 0 t) → depth t ≤ 32
flat_tree t all = let l = low_tree t 0 no_level all in omega (arith, l)

-- ---- statements

block_low : (m n : ℕ) (body rest : List ℕ) → 1 ≤ m → m + n ≡ 32 → AreLow body → AreLow rest → AreLow (block_levels n body ++ rest)
block_low m n body rest some e low more = join (block_levels n body) rest (omega arith, join body (0 ∷ []) low (no_level, tt)) more

range_low : (from to : Tree) → depth from ≤ 32 → depth to ≤ 32 → AreLow (range_levels from to)
range_low from to f t = (no_level, (no_level, join (tree_levels 0 from) (0 ∷ tree_levels 0 to) (tree_low from 0 (omega arith)) (no_level, tree_low to 0 (omega arith))))

-- so many levels of blocks are left where so many are around
stmts_low : (s : Stmts) (m n : ℕ) → m + n ≡ 32 → AreShallow m s → AreLow (stmts_levels n s)
stmts_low NoMore m n e all = tt
stmts_low (Let _ _ _ _ value rest) m n e all = (no_level, (no_level, (no_level, join (tree_levels 0 value) _ (tree_low value 0 (omega (arith, all.0))) (stmts_low rest m n e all.1))))
stmts_low (Assign _ _ _ value rest) m n e all = (no_level, (no_level, join (tree_levels 0 value) _ (tree_low value 0 (omega (arith, all.0))) (stmts_low rest m n e all.1)))
stmts_low (Store _ _ _ index _ _ value rest) m n e all =
    (no_level, (no_level, join (tree_levels 0 index) _ (tree_low index 0 (omega (arith, all.0))) (no_level, (no_level, join (tree_levels 0 value) _ (tree_low value 0 (omega (arith, all.1))) (stmts_low rest m n e all.2)))))
stmts_low (Update _ _ _ _ index _ _ _ value rest) m n e all =
    (no_level, (no_level, (no_level, join (tree_levels 0 index) _ (tree_low index 0 (omega (arith, all.0))) (no_level, (no_level, join (tree_levels 0 value) _ (tree_low value 0 (omega (arith, all.1))) (stmts_low rest m n e all.2))))))
stmts_low (If _ test _ if_true _ rest) m n e all =
    (no_level, join (tree_levels 0 test) _ (tree_low test 0 (omega (arith, all.0))) (block_low m n _ _ all.1 e (stmts_low if_true (m - 1) (n + 1) (omega (arith, all.1)) all.2) (stmts_low rest m n e all.3)))
stmts_low (IfElse _ test _ if_true _ _ _ if_false _ rest) m n e all = (
  no_level,
  join (tree_levels 0 test) _ (tree_low test 0 (omega (arith, all.0))) (block_low m n _ _ all.1 e (stmts_low if_true (m - 1) (n + 1) (omega (arith, all.1)) all.2)
      (no_level, block_low m n _ _ all.1 e (stmts_low if_false (m - 1) (n + 1) (omega (arith, all.1)) all.3) (stmts_low rest m n e all.4))),
)
stmts_low (Loop _ _ _ _ from _ to _ body _ rest) m n e all =
    (no_level, join (range_levels from to) _ (range_low from to all.0 all.1) (block_low m n _ _ all.2 e (stmts_low body (m - 1) (n + 1) (omega (arith, all.2)) all.3) (stmts_low rest m n e all.4)))
stmts_low (Parallel _ _ _ _ body _ rest) m n e all = (no_level, (no_level, block_low m n _ _ all.0 e (stmts_low body (m - 1) (n + 1) (omega (arith, all.0)) all.1) (stmts_low rest m n e all.2)))
stmts_low (For _ _ _ _ from _ to schedule nowait _ body _ rest) m n e all = (
  no_level,
  join (range_levels from to) _ (range_low from to all.0 all.1) (join (flat (schedule_tokens schedule)) _ (flat_low (schedule_tokens schedule)) (join (flat (nowait_tokens nowait)) _ (flat_low (nowait_tokens nowait))
      (block_low m n _ _ all.2 e (stmts_low body (m - 1) (n + 1) (omega (arith, all.2)) all.3) (stmts_low rest m n e all.4)))),
)
stmts_low (Barrier _ rest) m n e all = (no_level, stmts_low rest m n e all)
stmts_low (Critical _ _ body _ rest) m n e all = (no_level, block_low m n _ _ all.0 e (stmts_low body (m - 1) (n + 1) (omega (arith, all.0)) all.1) (stmts_low rest m n e all.2))
stmts_low (CriticalOf _ _ _ _ body _ rest) m n e all = (no_level, (no_level, block_low m n _ _ all.0 e (stmts_low body (m - 1) (n + 1) (omega (arith, all.0)) all.1) (stmts_low rest m n e all.2)))

-- what a block's levels say
low_block : (m n : ℕ) (body rest : List ℕ) → m + n ≡ 32 → AreLow (block_levels n body ++ rest) → (1 ≤ m) × AreLow body × AreLow rest
low_block m n body rest e all =
    let s = split (block_levels n body) rest all in
    (omega (arith, s.0.0), (split body (0 ∷ []) s.0.1).0, s.1)

low_range : (from to : Tree) → AreLow (range_levels from to) → (depth from ≤ 32) × (depth to ≤ 32)
low_range from to all = let s = split (tree_levels 0 from) (0 ∷ tree_levels 0 to) all.1.1 in (flat_tree from s.0, flat_tree to s.1.1)

low_stmts : (s : Stmts) (m n : ℕ) → m + n ≡ 32 → AreLow (stmts_levels n s) → AreShallow m s
low_stmts NoMore m n e all = tt
low_stmts (Let _ _ _ _ value rest) m n e all = let s = split (tree_levels 0 value) (stmts_levels n rest) all.1.1.1 in (flat_tree value s.0, low_stmts rest m n e s.1)
low_stmts (Assign _ _ _ value rest) m n e all = let s = split (tree_levels 0 value) (stmts_levels n rest) all.1.1 in (flat_tree value s.0, low_stmts rest m n e s.1)
low_stmts (Store _ _ _ index _ _ value rest) m n e all =
    let s = split (tree_levels 0 index) (0 ∷ 0 ∷ tree_levels 0 value ++ stmts_levels n rest) all.1.1 in
    let v = split (tree_levels 0 value) (stmts_levels n rest) s.1.1.1 in (flat_tree index s.0, flat_tree value v.0, low_stmts rest m n e v.1)
low_stmts (Update _ _ _ _ index _ _ _ value rest) m n e all =
    let s = split (tree_levels 0 index) (0 ∷ 0 ∷ tree_levels 0 value ++ stmts_levels n rest) all.1.1.1 in
    let v = split (tree_levels 0 value) (stmts_levels n rest) s.1.1.1 in (flat_tree index s.0, flat_tree value v.0, low_stmts rest m n e v.1)
low_stmts (If _ test _ if_true _ rest) m n e all =
    let s = split (tree_levels 0 test) (block_levels n (stmts_levels (n + 1) if_true) ++ stmts_levels n rest) all.1 in
    let b = low_block m n (stmts_levels (n + 1) if_true) (stmts_levels n rest) e s.1 in
    (flat_tree test s.0, b.0, low_stmts if_true (m - 1) (n + 1) (omega (arith, b.0)) b.1, low_stmts rest m n e b.2)
low_stmts (IfElse _ test _ if_true _ _ _ if_false _ rest) m n e all =
    let last = block_levels n (stmts_levels (n + 1) if_false) ++ stmts_levels n rest in
    let s = split (tree_levels 0 test) (block_levels n (stmts_levels (n + 1) if_true) ++ 0 ∷ last) all.1 in
    let b = low_block m n (stmts_levels (n + 1) if_true) (0 ∷ last) e s.1 in
    let c = low_block m n (stmts_levels (n + 1) if_false) (stmts_levels n rest) e b.2.1 in
    (flat_tree test s.0, b.0, low_stmts if_true (m - 1) (n + 1) (omega (arith, b.0)) b.1, low_stmts if_false (m - 1) (n + 1) (omega (arith, b.0)) c.1, low_stmts rest m n e c.2)
low_stmts (Loop _ _ _ _ from _ to _ body _ rest) m n e all =
    let s = split (range_levels from to) (block_levels n (stmts_levels (n + 1) body) ++ stmts_levels n rest) all.1 in
    let r = low_range from to s.0 in
    let b = low_block m n (stmts_levels (n + 1) body) (stmts_levels n rest) e s.1 in
    (r.0, r.1, b.0, low_stmts body (m - 1) (n + 1) (omega (arith, b.0)) b.1, low_stmts rest m n e b.2)
low_stmts (Parallel _ _ _ _ body _ rest) m n e all =
    let b = low_block m n (stmts_levels (n + 1) body) (stmts_levels n rest) e all.1.1 in (b.0, low_stmts body (m - 1) (n + 1) (omega (arith, b.0)) b.1, low_stmts rest m n e b.2)
low_stmts (For _ _ _ _ from _ to schedule nowait _ body _ rest) m n e all =
    let last = block_levels n (stmts_levels (n + 1) body) ++ stmts_levels n rest in
    let s = split (range_levels from to) (flat (schedule_tokens schedule) ++ (flat (nowait_tokens nowait) ++ last)) all.1 in
    let r = low_range from to s.0 in
    let w = split (flat (nowait_tokens nowait)) last (split (flat (schedule_tokens schedule)) (flat (nowait_tokens nowait) ++ last) s.1).1 in
    let b = low_block m n (stmts_levels (n + 1) body) (stmts_levels n rest) e w.1 in
    (r.0, r.1, b.0, low_stmts body (m - 1) (n + 1) (omega (arith, b.0)) b.1, low_stmts rest m n e b.2)
low_stmts (Barrier _ rest) m n e all = low_stmts rest m n e all.1
low_stmts (Critical _ _ body _ rest) m n e all =
    let b = low_block m n (stmts_levels (n + 1) body) (stmts_levels n rest) e all.1 in (b.0, low_stmts body (m - 1) (n + 1) (omega (arith, b.0)) b.1, low_stmts rest m n e b.2)
low_stmts (CriticalOf _ _ _ _ body _ rest) m n e all =
    let b = low_block m n (stmts_levels (n + 1) body) (stmts_levels n rest) e all.1.1 in (b.0, low_stmts body (m - 1) (n + 1) (omega (arith, b.0)) b.1, low_stmts rest m n e b.2)

-- ---- kernels

pub shallow_is_low : (k : KernelTree) → AreShallow 31 k.body ↔ IsShallow k
shallow_is_low k = (
  λ s. All-from_recursion (λ n. n ≤ 32) (kernel_levels k) (join (flat (declarations_tokens k.declarations)) _ (flat_low (declarations_tokens k.declarations))
      (no_level, (omega arith, join (stmts_levels 1 k.body) (0 ∷ []) (stmts_low k.body 31 1 (omega arith) s) (no_level, tt)))),
  λ all.
      let low = split (flat (declarations_tokens k.declarations)) (0 ∷ block_levels 0 (stmts_levels 1 k.body)) (recursion_from_All (λ n. n ≤ 32) (kernel_levels k) all) in
      low_stmts k.body 31 1 (omega arith) (split (stmts_levels 1 k.body) (0 ∷ []) low.1.1.1).0,
)
