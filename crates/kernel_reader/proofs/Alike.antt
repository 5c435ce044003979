-- The code of statements depends on what names mean, and on the next slot and site.
use Rattle.std.proofs.Common.{◌≡◌, ℕ, ◌+◌, Bool, true, false, List, refl}
use Rattle.kernel_text.specs.Grammar.{Stmts, NoMore, Let, Assign, Store, Update, If, IfElse, Loop, Parallel, For, Barrier, Critical, CriticalOf}
use Rattle.kernel_reader.specs.Scope.{Place, slots, with_local, past}
use Rattle.kernel_reader.specs.Resolve.{sites, stmts_sites, code}

-- two places where names mean the same
pub record AreAlike (p q : Place) : Type 0 where
  pub names : p.names ≡ q.names
  pub mutexes : p.mutexes ≡ q.mutexes
  pub slot : p.slot ≡ q.slot

local-alike : (p q : Place) (name : List ℕ) (assignable : Bool) → AreAlike p q → AreAlike (with_local p name assignable) (with_local q name assignable)
local-alike p q name assignable a = let n = a.names in let s = a.slot in record { names = cc; mutexes = a.mutexes; slot = cc }

past-alike : (p q : Place) (k : ℕ) → AreAlike p q → AreAlike (past p k) (past q k)
past-alike p q k a = let s = a.slot in record { names = a.names; mutexes = a.mutexes; slot = cc }

pub code-alike : (b : Stmts) (p q : Place) (site : ℕ) → AreAlike p q → code p site b ≡ code q site b
code-alike NoMore p q site a = refl
code-alike (Let line name_line name sign_line value rest) p q site a = let n = a.names in let s = a.slot in let r = code-alike rest (with_local p name true) (with_local q name true) (site + sites value) (local-alike p q name true a) in cc
code-alike (Assign line name sign_line value rest) p q site a = let n = a.names in let r = code-alike rest p q (site + sites value) a in cc
code-alike (Store line name opened index closed sign_line value rest) p q site a = let n = a.names in let r = code-alike rest p q (site + 1 + sites index + sites value) a in cc
code-alike (Update line name_line name opened index closed minus sign_line value rest) p q site a = let n = a.names in let r = code-alike rest p q (site + 1 + sites index + sites value) a in cc
code-alike (If line test opened if_true closed rest) p q site a = let n = a.names in let t = code-alike if_true p q (site + sites test) a in let r = code-alike rest (past p (slots if_true)) (past q (slots if_true)) (site + sites test + stmts_sites if_true) (past-alike p q (slots if_true) a) in cc
code-alike (IfElse line test opened if_true closed else_line else_opened if_false else_closed rest) p q site a = let n = a.names in let t = code-alike if_true p q (site + sites test) a in let e = code-alike if_false (past p (slots if_true)) (past q (slots if_true)) (site + sites test + stmts_sites if_true) (past-alike p q (slots if_true) a) in let r = code-alike rest (past p (slots if_true + slots if_false)) (past q (slots if_true + slots if_false)) (site + sites test + stmts_sites if_true + stmts_sites if_false) (past-alike p q (slots if_true + slots if_false) a) in cc
code-alike (Loop line name_line name in_line from dots to opened body closed rest) p q site a = let n = a.names in let s = a.slot in let t = code-alike body (with_local p name false) (with_local q name false) (site + sites from + sites to) (local-alike p q name false a) in let r = code-alike rest (past p (1 + slots body)) (past q (1 + slots body)) (site + sites from + sites to + stmts_sites body) (past-alike p q (1 + slots body) a) in cc
code-alike (Parallel line number_line span opened body closed rest) p q site a = let t = code-alike body p q site a in let r = code-alike rest (past p (slots body)) (past q (slots body)) (site + stmts_sites body) (past-alike p q (slots body) a) in cc
code-alike (For line name_line name in_line from dots to schedule nowait opened body closed rest) p q site a = let n = a.names in let s = a.slot in let t = code-alike body (with_local p name false) (with_local q name false) (site + sites from + sites to) (local-alike p q name false a) in let r = code-alike rest (past p (1 + slots body)) (past q (1 + slots body)) (site + sites from + sites to + stmts_sites body) (past-alike p q (1 + slots body) a) in cc
code-alike (Barrier line rest) p q site a = let r = code-alike rest p q site a in cc
code-alike (Critical line opened body closed rest) p q site a = let t = code-alike body p q site a in let r = code-alike rest (past p (slots body)) (past q (slots body)) (site + stmts_sites body) (past-alike p q (slots body) a) in cc
code-alike (CriticalOf line name_line name opened body closed rest) p q site a = let m = a.mutexes in let t = code-alike body p q site a in let r = code-alike rest (past p (slots body)) (past q (slots body)) (site + stmts_sites body) (past-alike p q (slots body) a) in cc
