-- Bodies that keep the rules, and for each rule one that breaks it alone.
use Rattle.std.proofs.Common.{◌≡◌, refl, ℕ, ◌<◌, arith, true, false, List, [], ◌∷◌, pos, true≢false, sym}
use Rattle.std.proofs.lemmas.List.Elements.{All-nil, All-cons, All-head}
use Rattle.kernel_syntax.specs.declared.syntax.Op.TheVariants.{Add, Div}
use Rattle.kernel_syntax.specs.declared.syntax.Schedule.TheVariants.{Even}
use Rattle.kernel_syntax.specs.Tree.{Term, Number, Slot, Tid, Span, Load, Neg, Binary, Code, Done, Set, Store, Update, If, Loop, Parallel, For, Barrier, Critical}
use Rattle.log_format.specs.declared.record.Kind.TheVariants as kind
use Rattle.kernel_model.specs.State.{event}
use Rattle.kernel_model.specs.Chunking as told
use Rattle.kernel_model.specs.Chunking.{TellCounts, no_record, draw, closing}
use Rattle.kernel_model.specs.Lawful.{TermFits, CodeFits, Scope, with_variable, IsKnown, IsEvenTerm, IsScoped, IsEven, IsNested, code_weight, max_weight, IsLight}

-- ---- where lanes meet

abbrev one : Term
one = Number (pos 1)

abbrev share : Code → Code → Code
share body rest = For 0 one (Number (pos 8)) Even false 3 4 body rest

abbrev rounds : ℕ → Code → Code
rounds n body = Loop 1 (Number (pos 0)) (Number (pos n)) body Done

-- a fixed loop round a barrier is even, one up to `tid` isn't
fixed_round : IsEven (rounds 3 (Barrier 1 Done))
fixed_round = (λ is. refl, tt, tt)

uneven_round : IsEven (Loop 1 (Number (pos 0)) Tid (Barrier 1 Done) Done) → ⊥
uneven_round even = true≢false (sym (even.0 refl))

-- one up to a sum of numbers isn't fixed, one to a number with a sign is
sum_round : IsEven (Loop 1 (Number (pos 0)) (Binary Add 1 one one) (Barrier 1 Done) Done) → ⊥
sum_round even = true≢false (sym (even.0 refl))

signed_round : IsEven (Loop 1 (Neg one) one (Barrier 1 Done) Done)
signed_round = (λ is. refl, tt, tt)

-- no loop without a barrier must be fixed, and one inside an uneven one stands for all
free_round : IsEven (Loop 1 (Number (pos 0)) Tid (Set 2 one Done) Done)
free_round = (λ is. absurd (true≢false (sym is)), tt, tt)

uneven_outside : IsEven (Loop 1 (Number (pos 0)) Tid (rounds 3 (Barrier 1 Done)) Done) → ⊥
uneven_outside even = true≢false (sym (even.0 refl))

barrier_in_if : IsEven (If one (Barrier 1 Done) Done Done) → ⊥
barrier_in_if even = true≢false even.0

barrier_in_else : IsEven (If one Done (share Done Done) Done) → ⊥
barrier_in_else even = true≢false even.1

barrier_in_share : IsEven (share (Barrier 1 Done) Done) → ⊥
barrier_in_share even = true≢false even.0

barrier_in_critical : IsEven (Critical 0 1 2 (Barrier 1 Done) Done) → ⊥
barrier_in_critical even = true≢false even.0

-- a region in them begins anew, and what is inside it counts there
region_in_if : IsEven (If one (Parallel 2 1 2 (Barrier 1 Done) Done) Done Done)
region_in_if = (refl, refl, (tt, tt), tt, tt)

uneven_region : IsEven (Parallel 2 1 2 (If one (Barrier 1 Done) Done Done) Done) → ⊥
uneven_region even = true≢false even.0.0

-- ---- nesting, with one declared mutex

nested_criticals : IsNested 1 1 2 [] (Critical 0 1 4 (Critical 1 2 3 Done Done) Done)
nested_criticals =
    let below = λ (outer : ℕ). outer < 1 in
    let least = λ (outer : ℕ). outer < 0 in
    (omega arith, All-nil least, omega arith, (omega arith, All-cons below 0 [] (omega arith) (All-nil below), omega arith, tt, tt), tt)

same_mutex : IsNested 1 1 2 [] (Critical 1 1 4 (Critical 1 2 3 Done Done) Done) → ⊥
same_mutex nested = let below : 1 < 1 = All-head (λ (outer : ℕ). outer < 1) 1 [] nested.3.1 in omega arith

undeclared_mutex : IsNested 1 1 2 [] (Critical 2 1 4 Done Done) → ⊥
undeclared_mutex nested = let declared = nested.0 in omega arith

ninth_critical : IsNested 63 1 2 (0 ∷ 1 ∷ 2 ∷ 3 ∷ 4 ∷ 5 ∷ 6 ∷ 7 ∷ []) (Critical 8 1 4 Done Done) → ⊥
ninth_critical nested = let few = nested.2 in omega arith

region_in_critical : IsNested 1 1 2 [] (Critical 0 1 4 (Parallel 2 2 3 Done Done) Done) → ⊥
region_in_critical nested = let held = nested.3.0 in cc

fifth_region : IsNested 1 4 2 [] (Parallel 2 2 3 Done Done) → ⊥
fifth_region nested = let few = nested.1 in omega arith

many_lanes : IsNested 1 1 8 [] (Parallel 8 2 3 Done Done)
many_lanes = (refl, omega arith, omega arith, tt, tt)

too_many_lanes : IsNested 1 1 8 [] (Parallel 9 2 3 Done Done) → ⊥
too_many_lanes nested = let few = nested.2 in omega arith

-- ---- weights

heaviest : code_weight (rounds 32768 (Barrier 1 Done)) ≡ max_weight
heaviest = refl

too_heavy : IsLight (Parallel 2 1 9 (Set 0 one (rounds 32768 (Barrier 1 Done))) Done) → ⊥
too_heavy light = let small = light.0 in omega arith

-- a loop without a barrier weighs 1, as does a region
light_loop : code_weight (rounds 65537 (Set 0 one (Set 0 one Done))) ≡ 1
light_loop = refl

light_region : code_weight (Parallel 2 1 9 (rounds 65537 (Barrier 1 Done)) Done) ≡ 1
light_region = refl

-- a turn weighs one more than its body
heavy_turns : code_weight (rounds 3 (rounds 2 (Barrier 1 Done))) ≡ 15
heavy_turns = refl

-- ---- numbers

-- 2 ^ 63 - 1 is the largest number of 64 bits, also as an index, in a bound and in an inner region
largest : TermFits (Load 0 (Neg (Number (pos 9223372036854775807))) 1 2)
largest = record { sfits = omega arith }

too_large : CodeFits (Parallel 2 1 9 (For 0 one (Number (pos 9223372036854775808)) Even true 3 4 Done Done) Done) → ⊥
too_large fits = let bound = fits.0.1.sfits in omega arith

-- ---- names, with one array and three slots

abbrev scope : Scope
scope = record { arrays = 1; slots = 3; variables = [] }

in_share : IsScoped scope (share (Store 0 (Slot 0) (Load 0 (Slot 0) 1 2) 1 3 Done) (Set 1 one (Set 1 (Slot 1) Done)))
in_share = (tt, tt, record { unused = refl; within = omega arith }, (omega arith, refl, (omega arith, refl), tt), (tt, omega arith, (refl, refl, tt)))

unknown_variable : IsKnown scope (Slot 0) → ⊥
unknown_variable known = true≢false (sym known)

unknown_array : IsScoped scope (Store 1 one one 1 2 Done) → ⊥
unknown_array scoped = let within = scoped.0 in omega arith

-- an update's array, index and amount
abbrev updated : Term → Term → ℕ → Code
updated index value array = Update array index value true 1 2 Done

known_update : IsScoped scope (updated one one 0)
known_update = (omega arith, tt, tt, tt)

unknown_array_updated : IsScoped scope (updated one one 1) → ⊥
unknown_array_updated scoped = let within = scoped.0 in omega arith

unknown_in_index : IsScoped scope (updated (Slot 0) one 0) → ⊥
unknown_in_index scoped = true≢false (sym scoped.1)

unknown_in_amount : IsScoped scope (updated one (Slot 0) 0) → ⊥
unknown_in_amount scoped = true≢false (sym scoped.2)

-- a loop's variable isn't known after it, nor assigned in it
after_loop : IsScoped scope (Loop 0 one one Done (Store 0 (Slot 0) one 1 2 Done)) → ⊥
after_loop scoped = true≢false (sym scoped.4.1)

assigned_loop : IsScoped scope (Loop 0 one one (Set 0 one Done) Done) → ⊥
assigned_loop scoped = true≢false (sym scoped.3.1)

-- nor is the slot of a variable in scope another one's
taken_slot : IsScoped scope (Loop 0 one one (Loop 0 one one Done Done) Done) → ⊥
taken_slot scoped = let unused = scoped.3.2.unused in cc

fourth_slot : IsScoped scope (Set 3 one Done) → ⊥
fourth_slot scoped = let within = scoped.1 in omega arith

-- bounds of a worksharing loop
loop_bound : IsEvenTerm (with_variable scope 0 false) (Binary Add 1 (Slot 0) Span)
loop_bound = (refl, tt, tt)

let_bound : IsEvenTerm (with_variable scope 0 true) (Slot 0) → ⊥
let_bound even = true≢false even

tid_bound : IsEvenTerm scope (Neg Tid) → ⊥
tid_bound even = even

divided_bound : IsEvenTerm scope (Binary Div 1 one one) → ⊥
divided_bound even = even.1

loaded_bound : IsEvenTerm scope (Load 0 one 1 2) → ⊥
loaded_bound even = even

-- ---- chunks that lanes tell, of a loop of three

-- two lanes: one draws the chunks 0 and 2, the other the chunk 1, and both find no more
first_lane : TellCounts (3 ∷ 5 ∷ []) (event kind.Chunk 3 0 3 ∷ event kind.Chunk 3 2 3 ∷ event kind.Chunk 3 3 3 ∷ event kind.End 9 0 0 ∷ []) (5 ∷ [])
first_lane =
    draw 3 (5 ∷ []) (5 ∷ []) _ _ refl refl (omega arith)
    (draw 3 (5 ∷ []) (5 ∷ []) _ _ refl refl (omega arith)
    (closing 3 (5 ∷ []) (5 ∷ []) _ _ refl refl refl
    (told.other (5 ∷ []) (5 ∷ []) _ _ refl (no_record (5 ∷ [])))))

second_lane : TellCounts (3 ∷ 5 ∷ []) (event kind.Chunk 3 1 3 ∷ event kind.Chunk 3 3 3 ∷ []) (5 ∷ [])
second_lane = draw 3 (5 ∷ []) (5 ∷ []) _ _ refl refl (omega arith) (closing 3 (5 ∷ []) (5 ∷ []) _ _ refl refl refl (no_record (5 ∷ [])))

-- another count isn't told, nor does a lane go on to the next loop before it finds no more
another_count : (left : List ℕ) → TellCounts (3 ∷ []) (event kind.Chunk 3 0 4 ∷ []) left → ⊥
another_count left (told.other counts rest r records plain more) = cc
another_count left (draw n counts rest r records is value below more) = omega (arith, value)
another_count left (closing n counts rest r records is value closes more) = omega (arith, value)

too_early : (left : List ℕ) → TellCounts (3 ∷ 5 ∷ []) (event kind.Chunk 3 0 3 ∷ event kind.Chunk 5 0 5 ∷ []) left → ⊥
too_early left (told.other counts rest r records plain more) = cc
too_early left (draw n counts rest r records is value below (told.other counts' rest' r' records' plain more)) = cc
too_early left (draw n counts rest r records is value below (draw n' counts' rest' r' records' is' value' below' more)) = omega (arith, value')
too_early left (draw n counts rest r records is value below (closing n' counts' rest' r' records' is' value' closes more)) = omega (arith, value')
too_early left (closing n counts rest r records is value closes more) = omega (arith, closes)
