-- The first of some statements is read: what is left is to be read behind it.
use Rattle.std.proofs.Common.{◌≡◌, ℕ, ◌+◌, ◌*◌, ◌≤◌, Bool, true, false, not, ◌||◌, List, [], ◌∷◌, ◌++◌, take, length, Option, refl, sym, ap, ◌∙◌, append_assoc, arith}
use Rattle.std.specs.Prelude.{ℤ, nat_lt, nat_le, is_some, reverse}
use Rattle.std.proofs.lemmas.List.{reverse-append}
use Rattle.std.proofs.Math.Seq.{take-append_seam}
use Rattle.std.proofs.lemmas.Bool.{le-ltb}
use Rattle.kernel_syntax.specs.declared.syntax.Array.{Array}
use Rattle.kernel_syntax.specs.declared.syntax.Stmt.{Stmt}
use Rattle.kernel_syntax.specs.Tree as kernel
use Rattle.kernel_syntax.specs.Tree.{Code, Term}
use Rattle.kernel_syntax.specs.Program.{stmt_code, code_of}
use Rattle.kernel_text.specs.declared.fault.KernelWhy.TheVariants as why
use Rattle.kernel_text.specs.Tokens.{Refusal}
use Rattle.kernel_text.specs.Grammar.{Tree, ScheduleTree, Stmts, Let, Assign, Store, Update, If, IfElse, Loop, Parallel, For, Barrier, Critical, CriticalOf}
use Rattle.kernel_reader.specs.Scope.{Place, slots, with_local, past, count_literal, is_between, is_among}
use Rattle.kernel_reader.specs.Rules.{fault_if, tree_faults, array_faults, declared_faults, assigned_faults, schedule_faults, stmts_faults, critical_faults, mutex_of, is_fixed, fixed_value, loop_weight, holds_work, in_branch, in_region, in_work, in_critical, is_misplaced, weight}
use Rattle.kernel_reader.specs.Resolve.{sites, stmts_sites, slot_of, array_at, term, schedule_of, code}
use Rattle.kernel_reader.specs.Naming.{names_of, assigned_to, taken_faults}
use Rattle.kernel_reader.specs.Settled.{capped}
use Rattle.kernel_reader.specs.Folding.{names_at, IsFolded, IsAdvance}
use Rattle.kernel_reader.specs.declared.binding.Variable.{Variable}
use Rattle.kernel_reader.specs.declared.place.State.{State}
use Rattle.kernel_reader.specs.declared.place.Section.{Section}
use Rattle.kernel_reader.specs.declared.statements.Folded.{Folded}
use Rattle.kernel_reader.proofs.Alike.{AreAlike, code-alike}
use Rattle.kernel_reader.proofs.Firsts.{RegionFaults, SharedFaults, RangeFaults}

gone-1 : (a z : List Refusal) → a ≡ [] → a ++ z ≡ z
gone-1 a z e = ap (λ (l : List Refusal). l ++ z) e

gone-2 : (a b z : List Refusal) → a ++ b ≡ [] → a ++ (b ++ z) ≡ z
gone-2 a b z e = sym (append_assoc a b z) ∙ ap (λ (l : List Refusal). l ++ z) e

gone-3 : (a b c z : List Refusal) → a ++ (b ++ c) ≡ [] → a ++ (b ++ (c ++ z)) ≡ z
gone-3 a b c z e = ap (λ (l : List Refusal). a ++ l) (sym (append_assoc b c z)) ∙ gone-2 a (b ++ c) z e

gone-4 : (a b c d z : List Refusal) → a ++ (b ++ (c ++ d)) ≡ [] → a ++ (b ++ (c ++ (d ++ z))) ≡ z
gone-4 a b c d z e = ap (λ (l : List Refusal). a ++ (b ++ l)) (sym (append_assoc c d z)) ∙ gone-3 a b (c ++ d) z e

pub place-local : (arrays : List Array) (mutexes : List (List ℕ)) (old new : State) (section : Section) (name : List ℕ) (assignable : Bool) → new.slot ≡ old.slot + 1
    → new.variables.items ≡ old.variables.items ++ record { name = name; slot = old.slot; assignable = assignable } ∷ []
    → names_at arrays mutexes new section ≡ with_local (names_at arrays mutexes old section) name assignable
place-local arrays mutexes old new section name assignable slot_is variables_are =
    let v : Variable = record { name = name; slot = old.slot; assignable = assignable } in
    let r : reverse new.variables.items ≡ v ∷ reverse old.variables.items = ap reverse variables_are ∙ reverse-append old.variables.items (v ∷ []) in cc

pub place-past : (arrays : List Array) (mutexes : List (List ℕ)) (old new : State) (section : Section) (k : ℕ) → new.slot ≡ old.slot + k → new.variables.items ≡ old.variables.items
    → names_at arrays mutexes new section ≡ past (names_at arrays mutexes old section) k
place-past arrays mutexes old new section k slot_is variables_are = cc

pub place-stays : (arrays : List Array) (mutexes : List (List ℕ)) (old new : State) (section : Section) → new.slot ≡ old.slot → new.variables.items ≡ old.variables.items
    → names_at arrays mutexes new section ≡ names_at arrays mutexes old section
place-stays arrays mutexes old new section slot_is variables_are = cc

-- ---- plain statements

pub let-read : (arrays : List Array) (mutexes : List (List ℕ)) (old new : State) (section : Section) (line nl : ℕ) (x : List ℕ) (sl : ℕ) (v : Tree) (made : Stmt) (rest : Stmts)
    → ((more : Code) → stmt_code made more ≡ kernel.Set old.slot (term (names_of arrays old.variables.items) old.site v) more)
    → taken_faults arrays mutexes old.variables.items nl x ++ tree_faults (names_of arrays old.variables.items) false v ≡ []
    → new.site ≡ old.site + sites v
    → new.slot ≡ old.slot + 1
    → new.variables.items ≡ old.variables.items ++ record { name = x; slot = old.slot; assignable = true } ∷ []
    → IsAdvance arrays mutexes old new section (Let line nl x sl v rest) rest (record { stmt = made; weight = 1; works = false })
let-read arrays mutexes old new section line nl x sl v made rest made_is fine site_is slot_is variables_are =
    let p : Place = names_at arrays mutexes old section in
    let at : names_at arrays mutexes new section ≡ with_local p x true = place-local arrays mutexes old new section x true slot_is variables_are in
    let m = made_is (code (names_at arrays mutexes new section) new.site rest) in
    record {
      faults = gone-2 (declared_faults p nl x) (tree_faults p.names false v) _ fine ∙ ap (λ (q : Place). stmts_faults q rest) (sym at);
      code_is = cc;
      slots_are = omega arith;
      sites_are = omega arith;
      weighs = λ w. omega arith;
      works_is = refl;
    }

pub assign-read : (arrays : List Array) (mutexes : List (List ℕ)) (old new : State) (section : Section) (line : ℕ) (x : List ℕ) (sl : ℕ) (v : Tree) (made : Stmt) (rest : Stmts)
    → ((more : Code) → stmt_code made more ≡ kernel.Set (slot_of (names_of arrays old.variables.items) x) (term (names_of arrays old.variables.items) old.site v) more)
    → assigned_to (names_of arrays old.variables.items) line x ++ tree_faults (names_of arrays old.variables.items) false v ≡ []
    → new.site ≡ old.site + sites v
    → new.slot ≡ old.slot
    → new.variables.items ≡ old.variables.items
    → IsAdvance arrays mutexes old new section (Assign line x sl v rest) rest (record { stmt = made; weight = 1; works = false })
assign-read arrays mutexes old new section line x sl v made rest made_is fine site_is slot_is variables_are =
    let p : Place = names_at arrays mutexes old section in
    let at = place-stays arrays mutexes old new section slot_is variables_are in
    let m = made_is (code (names_at arrays mutexes new section) new.site rest) in
    record {
      faults = gone-2 (assigned_faults p line x) (tree_faults p.names false v) _ fine ∙ ap (λ (q : Place). stmts_faults q rest) (sym at);
      code_is = cc;
      slots_are = omega arith;
      sites_are = omega arith;
      weighs = λ w. omega arith;
      works_is = refl;
    }

pub store-read : (arrays : List Array) (mutexes : List (List ℕ)) (old new : State) (section : Section) (line : ℕ) (x : List ℕ) (opened : ℕ) (i : Tree) (closed sl : ℕ) (v : Tree) (made : Stmt) (rest : Stmts)
    → ((more : Code) → stmt_code made more ≡ kernel.Store (array_at (names_of arrays old.variables.items) x) (term (names_of arrays old.variables.items) (old.site + 1) i) (term (names_of arrays old.variables.items) (old.site + 1 + sites i) v) line old.site more)
    → array_faults (names_of arrays old.variables.items) false line x ++ (tree_faults (names_of arrays old.variables.items) false i ++ tree_faults (names_of arrays old.variables.items) false v) ≡ []
    → new.site ≡ old.site + 1 + sites i + sites v
    → new.slot ≡ old.slot
    → new.variables.items ≡ old.variables.items
    → IsAdvance arrays mutexes old new section (Store line x opened i closed sl v rest) rest (record { stmt = made; weight = 1; works = false })
store-read arrays mutexes old new section line x opened i closed sl v made rest made_is fine site_is slot_is variables_are =
    let p : Place = names_at arrays mutexes old section in
    let at = place-stays arrays mutexes old new section slot_is variables_are in
    let m = made_is (code (names_at arrays mutexes new section) new.site rest) in
    record {
      faults = gone-3 (array_faults p.names false line x) (tree_faults p.names false i) (tree_faults p.names false v) _ fine ∙ ap (λ (q : Place). stmts_faults q rest) (sym at);
      code_is = cc;
      slots_are = omega arith;
      sites_are = omega arith;
      weighs = λ w. omega arith;
      works_is = refl;
    }

pub update-read : (arrays : List Array) (mutexes : List (List ℕ)) (old new : State) (section : Section) (line nl : ℕ) (x : List ℕ) (opened : ℕ) (i : Tree) (closed : ℕ) (minus : Bool) (sl : ℕ) (v : Tree) (made : Stmt) (rest : Stmts)
    → ((more : Code) → stmt_code made more ≡ kernel.Update (array_at (names_of arrays old.variables.items) x) (term (names_of arrays old.variables.items) (old.site + 1) i) (term (names_of arrays old.variables.items) (old.site + 1 + sites i) v) minus nl old.site more)
    → array_faults (names_of arrays old.variables.items) false nl x ++ (tree_faults (names_of arrays old.variables.items) false i ++ tree_faults (names_of arrays old.variables.items) false v) ≡ []
    → new.site ≡ old.site + 1 + sites i + sites v
    → new.slot ≡ old.slot
    → new.variables.items ≡ old.variables.items
    → IsAdvance arrays mutexes old new section (Update line nl x opened i closed minus sl v rest) rest (record { stmt = made; weight = 1; works = false })
update-read arrays mutexes old new section line nl x opened i closed minus sl v made rest made_is fine site_is slot_is variables_are =
    let p : Place = names_at arrays mutexes old section in
    let at = place-stays arrays mutexes old new section slot_is variables_are in
    let m = made_is (code (names_at arrays mutexes new section) new.site rest) in
    record {
      faults = gone-3 (array_faults p.names false nl x) (tree_faults p.names false i) (tree_faults p.names false v) _ fine ∙ ap (λ (q : Place). stmts_faults q rest) (sym at);
      code_is = cc;
      slots_are = omega arith;
      sites_are = omega arith;
      weighs = λ w. omega arith;
      works_is = refl;
    }

pub barrier-read : (arrays : List Array) (mutexes : List (List ℕ)) (old new : State) (section : Section) (line : ℕ) (made : Stmt) (rest : Stmts)
    → ((more : Code) → stmt_code made more ≡ kernel.Barrier line more)
    → SharedFaults (names_at arrays mutexes old section) line why.BarrierHere ≡ []
    → new.site ≡ old.site
    → new.slot ≡ old.slot
    → new.variables.items ≡ old.variables.items
    → IsAdvance arrays mutexes old new section (Barrier line rest) rest (record { stmt = made; weight = 1; works = true })
barrier-read arrays mutexes old new section line made rest made_is fine site_is slot_is variables_are =
    let p : Place = names_at arrays mutexes old section in
    let at = place-stays arrays mutexes old new section slot_is variables_are in
    let m = made_is (code (names_at arrays mutexes new section) new.site rest) in
    record {
      faults = gone-2 (fault_if (is_misplaced p) line why.BarrierHere) (fault_if p.uneven line why.NotUniform) _ fine ∙ ap (λ (q : Place). stmts_faults q rest) (sym at);
      code_is = cc;
      slots_are = omega arith;
      sites_are = omega arith;
      weighs = λ w. omega arith;
      works_is = refl;
    }

-- ---- inside other sections

pub or-assoc : (a b c : Bool) → (a || (b || c)) ≡ ((a || b) || c)
or-assoc true b c = refl
or-assoc false b c = refl

pub place-branch : (arrays : List Array) (mutexes : List (List ℕ)) (old mid : State) (section inner : Section) → inner ≡ record section { uneven = section.uneven || true } → mid.slot ≡ old.slot → mid.variables.items ≡ old.variables.items
    → names_at arrays mutexes mid inner ≡ in_branch (names_at arrays mutexes old section) true
place-branch arrays mutexes old mid section inner inner_is slot_is variables_are = rw inner_is cc

pub place-other : (arrays : List Array) (mutexes : List (List ℕ)) (old mid : State) (section inner : Section) (k : ℕ) → inner ≡ record section { uneven = section.uneven || true } → mid.slot ≡ old.slot + k → mid.variables.items ≡ old.variables.items
    → names_at arrays mutexes mid inner ≡ in_branch (past (names_at arrays mutexes old section) k) true
place-other arrays mutexes old mid section inner k inner_is slot_is variables_are = rw inner_is cc

pub place-loop : (arrays : List Array) (mutexes : List (List ℕ)) (old mid : State) (section inner : Section) (name : List ℕ) (uneven : Bool) → inner ≡ record section { uneven = section.uneven || uneven }
    → mid.slot ≡ old.slot + 1 → mid.variables.items ≡ old.variables.items ++ record { name = name; slot = old.slot; assignable = false } ∷ []
    → names_at arrays mutexes mid inner ≡ in_branch (with_local (names_at arrays mutexes old section) name false) uneven
place-loop arrays mutexes old mid section inner name uneven inner_is slot_is variables_are = let l = place-local arrays mutexes old mid section name false slot_is variables_are in rw inner_is (ap (λ (q : Place). in_branch q uneven) l)

pub place-work : (arrays : List Array) (mutexes : List (List ℕ)) (old mid : State) (section inner : Section) (name : List ℕ) → inner ≡ record section { divided = true }
    → mid.slot ≡ old.slot + 1 → mid.variables.items ≡ old.variables.items ++ record { name = name; slot = old.slot; assignable = false } ∷ []
    → names_at arrays mutexes mid inner ≡ in_work (with_local (names_at arrays mutexes old section) name false)
place-work arrays mutexes old mid section inner name inner_is slot_is variables_are = let l = place-local arrays mutexes old mid section name false slot_is variables_are in rw inner_is (ap in_work l)

-- a block is read
abbrev pub Read : List Array → List (List ℕ) → State → State → Section → Stmts → Folded → Type 0
Read arrays mutexes old new section b x = (stmts_faults (names_at arrays mutexes old section) b ≡ []) × IsFolded arrays mutexes old new section b x

alike-by : (p q : Place) (u : Bool) → p ≡ in_branch q u → AreAlike p q
alike-by p q u e = record { names = ap (λ (p : Place). p.names) e; mutexes = ap (λ (p : Place). p.mutexes) e; slot = ap (λ (p : Place). p.slot) e }

alike-work : (p q : Place) → p ≡ in_work q → AreAlike p q
alike-work p q e = record { names = ap (λ (p : Place). p.names) e; mutexes = ap (λ (p : Place). p.mutexes) e; slot = ap (λ (p : Place). p.slot) e }

alike-region : (p q : Place) (k : ℕ) → p ≡ in_region q k → AreAlike p q
alike-region p q k e = record { names = ap (λ (p : Place). p.names) e; mutexes = ap (λ (p : Place). p.mutexes) e; slot = ap (λ (p : Place). p.slot) e }

-- a part of a cut sum may be cut before
cut-sum : (w l k x : ℕ) → x ≡ capped l → capped (w + (l + k)) ≡ capped (w + x + k)
cut-sum w l k x e = omega (arith, e)

alike-critical : (p q : Place) (k : ℕ) → p ≡ in_critical q k → AreAlike p q
alike-critical p q k e = record { names = ap (λ (p : Place). p.names) e; mutexes = ap (λ (p : Place). p.mutexes) e; slot = ap (λ (p : Place). p.slot) e }

pub if-read : (arrays : List Array) (mutexes : List (List ℕ)) (old new : State) (section : Section) (mid : State) (inner : Section) (line : ℕ) (t : Tree) (opened : ℕ) (b : Stmts) (closed : ℕ) (made : Stmt) (x : Folded) (rest : Stmts)
    → tree_faults (names_of arrays old.variables.items) false t ≡ []
    → mid.site ≡ old.site + sites t
    → mid.slot ≡ old.slot
    → names_at arrays mutexes mid inner ≡ in_branch (names_at arrays mutexes old section) true
    → Read arrays mutexes mid new inner b x
    → ((more : Code) → stmt_code made more ≡ kernel.If (term (names_of arrays old.variables.items) old.site t) (code_of x.body.stmts.items) kernel.Done more)
    → new.variables.items ≡ old.variables.items
    → IsAdvance arrays mutexes old new section (If line t opened b closed rest) rest (record { stmt = made; weight = 1; works = x.works })
if-read arrays mutexes old new section mid inner line t opened b closed made x rest fine mid_site mid_slot at r made_is variables_are =
    let p : Place = names_at arrays mutexes old section in
    let k = r.1 in
    let body_fine : stmts_faults (in_branch p true) b ≡ [] = rw (← at) r.0 in
    let step : new.slot ≡ old.slot + slots b = omega (arith, k.slot_is) in
    let at2 = place-past arrays mutexes old new section (slots b) step variables_are in
    let same = code-alike b (names_at arrays mutexes mid inner) p mid.site (alike-by (names_at arrays mutexes mid inner) p true at) in
    let next_site : new.site ≡ old.site + sites t + stmts_sites b = omega (arith, k.site_is) in
    let m = made_is (code (names_at arrays mutexes new section) new.site rest) in
    record {
      faults = gone-1 (tree_faults p.names false t) _ fine ∙ gone-1 (stmts_faults (in_branch p true) b) _ body_fine ∙ ap (λ (q : Place). stmts_faults q rest) (sym at2);
      code_is = cc (k.code_is);
      slots_are = omega arith;
      sites_are = omega arith;
      weighs = λ w. omega arith;
      works_is = ap (λ (w : Bool). w || holds_work rest) (sym k.works_is);
    }

pub if-else-read : (arrays : List Array) (mutexes : List (List ℕ)) (old new : State) (section : Section) (mid more : State) (inner : Section) (line : ℕ) (t : Tree) (opened : ℕ) (b : Stmts) (closed else_line else_opened : ℕ) (d : Stmts) (else_closed : ℕ) (made : Stmt) (x y : Folded) (rest : Stmts)
    → tree_faults (names_of arrays old.variables.items) false t ≡ []
    → mid.site ≡ old.site + sites t
    → mid.slot ≡ old.slot
    → names_at arrays mutexes mid inner ≡ in_branch (names_at arrays mutexes old section) true
    → inner ≡ record section { uneven = section.uneven || true }
    → Read arrays mutexes mid more inner b x
    → more.variables.items ≡ old.variables.items
    → Read arrays mutexes more new inner d y
    → ((last : Code) → stmt_code made last ≡ kernel.If (term (names_of arrays old.variables.items) old.site t) (code_of x.body.stmts.items) (code_of y.body.stmts.items) last)
    → new.variables.items ≡ old.variables.items
    → IsAdvance arrays mutexes old new section (IfElse line t opened b closed else_line else_opened d else_closed rest) rest (record { stmt = made; weight = 1; works = (x.works || y.works) })
if-else-read arrays mutexes old new section mid more inner line t opened b closed else_line else_opened d else_closed made x y rest fine mid_site mid_slot at inner_is r more_variables r2 made_is variables_are =
    let p : Place = names_at arrays mutexes old section in
    let k = r.1 in
    let k2 = r2.1 in
    let body_fine : stmts_faults (in_branch p true) b ≡ [] = rw (← at) r.0 in
    let more_slot : more.slot ≡ old.slot + slots b = omega (arith, k.slot_is) in
    let at_other = place-other arrays mutexes old more section inner (slots b) inner_is more_slot more_variables in
    let other_fine : stmts_faults (in_branch (past p (slots b)) true) d ≡ [] = rw (← at_other) r2.0 in
    let step : new.slot ≡ old.slot + (slots b + slots d) = omega (arith, k2.slot_is) in
    let at2 = place-past arrays mutexes old new section (slots b + slots d) step variables_are in
    let same = code-alike b (names_at arrays mutexes mid inner) p mid.site (alike-by (names_at arrays mutexes mid inner) p true at) in
    let same2 = code-alike d (names_at arrays mutexes more inner) (past p (slots b)) more.site (alike-by (names_at arrays mutexes more inner) (past p (slots b)) true at_other) in
    let more_site : more.site ≡ old.site + sites t + stmts_sites b = omega (arith, k.site_is) in
    let next_site : new.site ≡ old.site + sites t + stmts_sites b + stmts_sites d = omega (arith, k2.site_is) in
    let m = made_is (code (names_at arrays mutexes new section) new.site rest) in
    record {
      faults = gone-1 (tree_faults p.names false t) _ fine ∙ gone-1 (stmts_faults (in_branch p true) b) _ body_fine ∙ gone-1 (stmts_faults (in_branch (past p (slots b)) true) d) _ other_fine ∙ ap (λ (q : Place). stmts_faults q rest) (sym at2);
      code_is = cc (k.code_is, k2.code_is);
      slots_are = omega arith;
      sites_are = omega arith;
      weighs = λ w. omega arith;
      works_is = or-assoc (holds_work b) (holds_work d) (holds_work rest) ∙ ap (λ (w : Bool). (w || holds_work d) || holds_work rest) (sym k.works_is) ∙ ap (λ (w : Bool). (x.works || w) || holds_work rest) (sym k2.works_is);
    }

pub loop-read : (arrays : List Array) (mutexes : List (List ℕ)) (old new : State) (section : Section) (mid after : State) (inner : Section) (line : ℕ) (nl : ℕ) (n : List ℕ) (il : ℕ) (fr : Tree) (dots : ℕ) (to : Tree) (opened : ℕ) (b : Stmts) (closed : ℕ) (made : Stmt) (weighing : ℕ) (x : Folded) (rest : Stmts)
    → RangeFaults (names_at arrays mutexes old section) false nl n fr to ≡ []
    → mid.site ≡ old.site + sites fr + sites to
    → mid.slot ≡ old.slot + 1
    → names_at arrays mutexes mid inner ≡ in_branch (with_local (names_at arrays mutexes old section) n false) (not (is_fixed fr to))
    → Read arrays mutexes mid after inner b x
    → new.slot ≡ after.slot
    → new.site ≡ after.site
    → new.variables.items ≡ old.variables.items
    → ((more : Code) → stmt_code made more ≡ kernel.Loop old.slot (term (names_of arrays old.variables.items) old.site fr) (term (names_of arrays old.variables.items) (old.site + sites fr) to) (code_of x.body.stmts.items) more)
    → ((w : ℕ) → x.weight ≡ capped w → weighing ≡ capped (loop_weight (fixed_value fr) (fixed_value to) x.works w))
    → IsAdvance arrays mutexes old new section (Loop line nl n il fr dots to opened b closed rest) rest (record { stmt = made; weight = weighing; works = x.works })
loop-read arrays mutexes old new section mid after inner line nl n il fr dots to opened b closed made weighing x rest fine mid_site mid_slot at r slot_after site_after variables_are made_is weighing_is =
    let p : Place = names_at arrays mutexes old section in
    let k = r.1 in
    let body_fine : stmts_faults (in_branch (with_local p n false) (not (is_fixed fr to))) b ≡ [] = rw (← at) r.0 in
    let step : new.slot ≡ old.slot + (1 + slots b) = omega (arith, k.slot_is) in
    let at2 = place-past arrays mutexes old new section (1 + slots b) step variables_are in
    let same = code-alike b (names_at arrays mutexes mid inner) (with_local p n false) mid.site (alike-by (names_at arrays mutexes mid inner) (with_local p n false) (not (is_fixed fr to)) at) in
    let next_site : new.site ≡ old.site + sites fr + sites to + stmts_sites b = omega (arith, k.site_is) in
    let m = made_is (code (names_at arrays mutexes new section) new.site rest) in
    let weighed : weighing ≡ capped (loop_weight (fixed_value fr) (fixed_value to) (holds_work b) (weight b)) =
    weighing_is (weight b) k.weighs ∙ ap (λ (w : Bool). capped (loop_weight (fixed_value fr) (fixed_value to) w (weight b))) k.works_is in
    record {
      faults = gone-3 (declared_faults p nl n) (tree_faults p.names false fr) (tree_faults p.names false to) _ fine
          ∙ gone-1 (stmts_faults (in_branch (with_local p n false) (not (is_fixed fr to))) b) _ body_fine ∙ ap (λ (q : Place). stmts_faults q rest) (sym at2);
      code_is = cc (k.code_is);
      slots_are = omega arith;
      sites_are = omega arith;
      weighs = λ w. cut-sum w (loop_weight (fixed_value fr) (fixed_value to) (holds_work b) (weight b)) (weight rest) weighing weighed;
      works_is = ap (λ (w : Bool). w || holds_work rest) (sym k.works_is);
    }

pub for-read : (arrays : List Array) (mutexes : List (List ℕ)) (old new : State) (section : Section) (mid after : State) (inner : Section) (line : ℕ) (nl : ℕ) (n : List ℕ) (il : ℕ) (fr : Tree) (dots : ℕ) (to : Tree) (s : ScheduleTree) (nowait : Option ℕ) (opened : ℕ) (b : Stmts) (closed : ℕ) (made : Stmt) (x : Folded) (rest : Stmts)
    → SharedFaults (names_at arrays mutexes old section) line why.WorkHere ≡ []
    → RangeFaults (names_at arrays mutexes old section) true nl n fr to ≡ []
    → schedule_faults s ≡ []
    → mid.site ≡ old.site + sites fr + sites to
    → mid.slot ≡ old.slot + 1
    → names_at arrays mutexes mid inner ≡ in_work (with_local (names_at arrays mutexes old section) n false)
    → Read arrays mutexes mid after inner b x
    → new.slot ≡ after.slot
    → new.site ≡ after.site
    → new.variables.items ≡ old.variables.items
    → ((more : Code) → stmt_code made more ≡ kernel.For old.slot (term (names_of arrays old.variables.items) old.site fr) (term (names_of arrays old.variables.items) (old.site + sites fr) to) (schedule_of s) (is_some nowait) line closed (code_of x.body.stmts.items) more)
    → IsAdvance arrays mutexes old new section (For line nl n il fr dots to s nowait opened b closed rest) rest (record { stmt = made; weight = 1; works = true })
for-read arrays mutexes old new section mid after inner line nl n il fr dots to s nowait opened b closed made x rest place_fine fine even mid_site mid_slot at r slot_after site_after variables_are made_is =
    let p : Place = names_at arrays mutexes old section in
    let k = r.1 in
    let body_fine : stmts_faults (in_work (with_local p n false)) b ≡ [] = rw (← at) r.0 in
    let step : new.slot ≡ old.slot + (1 + slots b) = omega (arith, k.slot_is) in
    let at2 = place-past arrays mutexes old new section (1 + slots b) step variables_are in
    let same = code-alike b (names_at arrays mutexes mid inner) (with_local p n false) mid.site (alike-work (names_at arrays mutexes mid inner) (with_local p n false) at) in
    let next_site : new.site ≡ old.site + sites fr + sites to + stmts_sites b = omega (arith, k.site_is) in
    let m = made_is (code (names_at arrays mutexes new section) new.site rest) in
    record {
      faults = gone-2 (fault_if (is_misplaced p) line why.WorkHere) (fault_if p.uneven line why.NotUniform) _ place_fine
          ∙ gone-3 (declared_faults p nl n) (tree_faults p.names true fr) (tree_faults p.names true to) _ fine ∙ gone-1 (schedule_faults s) _ even
          ∙ gone-1 (stmts_faults (in_work (with_local p n false)) b) _ body_fine ∙ ap (λ (q : Place). stmts_faults q rest) (sym at2);
      code_is = cc (k.code_is);
      slots_are = omega arith;
      sites_are = omega arith;
      weighs = λ w. omega arith;
      works_is = refl;
    }

pub region-read : (arrays : List Array) (mutexes : List (List ℕ)) (old new : State) (section : Section) (inner : Section) (line nl : ℕ) (c : ℤ) (lanes opened : ℕ) (b : Stmts) (closed : ℕ) (made : Stmt) (x : Folded) (rest : Stmts)
    → RegionFaults (names_at arrays mutexes old section) line nl c ≡ []
    → names_at arrays mutexes old inner ≡ in_region (names_at arrays mutexes old section) (count_literal c)
    → lanes ≡ count_literal c
    → Read arrays mutexes old new inner b x
    → x.weight ≤ 65536
    → new.variables.items ≡ old.variables.items
    → ((more : Code) → stmt_code made more ≡ kernel.Parallel lanes line closed (code_of x.body.stmts.items) more)
    → IsAdvance arrays mutexes old new section (Parallel line nl c opened b closed rest) rest (record { stmt = made; weight = 1; works = false })
region-read arrays mutexes old new section inner line nl c lanes opened b closed made x rest fine at counted r light variables_are made_is =
    let p : Place = names_at arrays mutexes old section in
    let k = r.1 in
    let body_fine : stmts_faults (in_region p (count_literal c)) b ≡ [] = rw (← at) r.0 in
    let small : weight b ≤ 65536 = omega (arith, k.weighs) in
    let weight_fine : fault_if (nat_lt 65536 (weight b)) closed why.Large ≡ [] = ap (λ (t : Bool). fault_if t closed why.Large) (le-ltb 65536 (weight b) small) in
    let at2 = place-past arrays mutexes old new section (slots b) k.slot_is variables_are in
    let same = code-alike b (names_at arrays mutexes old inner) p old.site (alike-region (names_at arrays mutexes old inner) p (count_literal c) at) in
    let m = made_is (code (names_at arrays mutexes new section) new.site rest) in
    record {
      faults = gone-4 (fault_if (is_some p.critical) line why.ParallelHere) (fault_if (nat_le 4 p.regions) line why.Deep) (fault_if (not (is_between 1 64 c)) nl why.Count) (fault_if (nat_lt 64 (p.spans * count_literal c)) nl why.Large) _ fine
          ∙ gone-1 (stmts_faults (in_region p (count_literal c)) b) _ body_fine ∙ gone-1 (fault_if (nat_lt 65536 (weight b)) closed why.Large) _ weight_fine ∙ ap (λ (q : Place). stmts_faults q rest) (sym at2);
      code_is = cc (k.code_is, k.site_is);
      slots_are = omega (arith, k.slot_is);
      sites_are = omega (arith, k.site_is);
      weighs = λ w. omega arith;
      works_is = refl;
    }

pub critical-read : (arrays : List Array) (mutexes : List (List ℕ)) (old new : State) (section : Section) (inner : Section) (line : ℕ) (opened : ℕ) (b : Stmts) (closed : ℕ) (made : Stmt) (x : Folded) (rest : Stmts)
    → critical_faults (names_at arrays mutexes old section) line 0 ≡ []
    → names_at arrays mutexes old inner ≡ in_critical (names_at arrays mutexes old section) 0
    → Read arrays mutexes old new inner b x
    → new.variables.items ≡ old.variables.items
    → ((more : Code) → stmt_code made more ≡ kernel.Critical 0 line closed (code_of x.body.stmts.items) more)
    → IsAdvance arrays mutexes old new section (Critical line opened b closed rest) rest (record { stmt = made; weight = 1; works = x.works })
critical-read arrays mutexes old new section inner line opened b closed made x rest nested at r variables_are made_is =
    let p : Place = names_at arrays mutexes old section in
    let k = r.1 in
    let body_fine : stmts_faults (in_critical p 0) b ≡ [] = rw (← at) r.0 in
    let at2 = place-past arrays mutexes old new section (slots b) k.slot_is variables_are in
    let same = code-alike b (names_at arrays mutexes old inner) p old.site (alike-critical (names_at arrays mutexes old inner) p 0 at) in
    let m = made_is (code (names_at arrays mutexes new section) new.site rest) in
    record {
      faults = gone-1 (critical_faults p line 0) _ nested ∙ gone-1 (stmts_faults (in_critical p 0) b) _ body_fine ∙ ap (λ (q : Place). stmts_faults q rest) (sym at2);
      code_is = cc (k.code_is, k.site_is);
      slots_are = omega (arith, k.slot_is);
      sites_are = omega (arith, k.site_is);
      weighs = λ w. omega arith;
      works_is = ap (λ (w : Bool). w || holds_work rest) (sym k.works_is);
    }

pub critical-of-read : (arrays : List Array) (mutexes : List (List ℕ)) (old new : State) (section : Section) (inner : Section) (line : ℕ) (nl : ℕ) (n : List ℕ) (opened : ℕ) (b : Stmts) (closed : ℕ) (made : Stmt) (x : Folded) (rest : Stmts)
    → fault_if (not (is_among n mutexes)) line why.Unknown ≡ []
    → critical_faults (names_at arrays mutexes old section) line (mutex_of (names_at arrays mutexes old section) n) ≡ []
    → names_at arrays mutexes old inner ≡ in_critical (names_at arrays mutexes old section) (mutex_of (names_at arrays mutexes old section) n)
    → Read arrays mutexes old new inner b x
    → new.variables.items ≡ old.variables.items
    → ((more : Code) → stmt_code made more ≡ kernel.Critical (mutex_of (names_at arrays mutexes old section) n) line closed (code_of x.body.stmts.items) more)
    → IsAdvance arrays mutexes old new section (CriticalOf line nl n opened b closed rest) rest (record { stmt = made; weight = 1; works = x.works })
critical-of-read arrays mutexes old new section inner line nl n opened b closed made x rest known nested at r variables_are made_is =
    let p : Place = names_at arrays mutexes old section in
    let k = r.1 in
    let body_fine : stmts_faults (in_critical p (mutex_of p n)) b ≡ [] = rw (← at) r.0 in
    let at2 = place-past arrays mutexes old new section (slots b) k.slot_is variables_are in
    let same = code-alike b (names_at arrays mutexes old inner) p old.site (alike-critical (names_at arrays mutexes old inner) p (mutex_of p n) at) in
    let m = made_is (code (names_at arrays mutexes new section) new.site rest) in
    record {
      faults = gone-1 (fault_if (not (is_among n mutexes)) line why.Unknown) _ known ∙ gone-1 (critical_faults p line (mutex_of p n)) _ nested ∙ gone-1 (stmts_faults (in_critical p (mutex_of p n)) b) _ body_fine ∙ ap (λ (q : Place). stmts_faults q rest) (sym at2);
      code_is = cc (k.code_is, k.site_is);
      slots_are = omega (arith, k.slot_is);
      sites_are = omega (arith, k.site_is);
      weighs = λ w. omega arith;
      works_is = ap (λ (w : Bool). w || holds_work rest) (sym k.works_is);
    }

-- the variables that are left, where one more came
pub take-back : (k : ℕ) (xs ys zs : List Variable) (v : Variable) → k ≡ length xs → ys ≡ xs ++ v ∷ [] → zs ≡ take k ys → zs ≡ xs
take-back k xs ys zs v k_is ys_is zs_is = zs_is ∙ ap (take k) ys_is ∙ ap (λ (m : ℕ). take m (xs ++ v ∷ [])) k_is ∙ take-append_seam xs (v ∷ [])
