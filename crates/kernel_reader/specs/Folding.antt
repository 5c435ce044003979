-- What the reading of statements keeps, and what it answers.
use Rattle.std.specs.Prelude.{◌≡◌, ℕ, ◌+◌, Bool, ◌||◌, List, Result, Ok, Err}
use Rattle.kernel_syntax.specs.declared.syntax.Array.{Array}
use Rattle.kernel_syntax.specs.declared.syntax.Stmt.{Stmt}
use Rattle.kernel_syntax.specs.Program.{code_of, stmt_code, stmts_code}
use Rattle.kernel_text.specs.Grammar.{Stmts}
use Rattle.kernel_reader.specs.Scope.{Place, slots}
use Rattle.kernel_reader.specs.Rules.{stmts_faults, weight, holds_work}
use Rattle.kernel_reader.specs.Resolve.{stmts_sites, code}
use Rattle.kernel_reader.specs.Naming.{names_of}
use Rattle.kernel_reader.specs.Settled.{IsFirstOf, capped}
use Rattle.kernel_reader.specs.declared.fault.ReadKernelFault.{ReadKernelFault}
use Rattle.kernel_reader.specs.declared.place.State.{State}
use Rattle.kernel_reader.specs.declared.place.Section.{Section}
use Rattle.kernel_reader.specs.declared.statements.Folded.{Folded}
use Rattle.kernel_reader.specs.declared.statements.Added.{Added}

-- what is known where the code has this state, in this section
abbrev pub names_at : List Array → List (List ℕ) → State → Section → Place
names_at arrays mutexes state section = record {
  names = names_of arrays state.variables.items;
  mutexes = mutexes;
  slot = state.slot;
  regions = section.regions;
  spans = section.spans;
  critical = section.critical;
  criticals = section.criticals;
  divided = section.divided;
  uneven = section.uneven;
}

-- the statements of a block were read: with these arrays and mutexes, from a state to another, in a section
pub record IsFolded (arrays : List Array) (mutexes : List (List ℕ)) (old new : State) (section : Section) (b : Stmts) (x : Folded) : Type 0 where
  pub code_is : code_of x.body.stmts.items ≡ code (names_at arrays mutexes old section) old.site b
  pub weighs : x.weight ≡ capped (weight b)
  pub works_is : x.works ≡ holds_work b
  pub slot_is : new.slot ≡ old.slot + slots b
  pub site_is : new.site ≡ old.site + stmts_sites b

-- the statements b were read up to c, as these
pub record IsLeft (arrays : List Array) (mutexes : List (List ℕ)) (old new : State) (section : Section) (b c : Stmts) (made : List Stmt) (weighing : ℕ) (working : Bool) : Type 0 where
  pub faults : stmts_faults (names_at arrays mutexes old section) b ≡ stmts_faults (names_at arrays mutexes new section) c
  pub code_is : code (names_at arrays mutexes old section) old.site b ≡ stmts_code made (code (names_at arrays mutexes new section) new.site c)
  pub slots_are : old.slot + slots b ≡ new.slot + slots c
  pub sites_are : old.site + stmts_sites b ≡ new.site + stmts_sites c
  pub weighs : capped (weight b) ≡ capped (weighing + weight c)
  pub works_is : holds_work b ≡ (working || holds_work c)

-- the first statement was read, and these are the rest
pub record IsAdvance (arrays : List Array) (mutexes : List (List ℕ)) (old new : State) (section : Section) (b rest : Stmts) (x : Added) : Type 0 where
  pub faults : stmts_faults (names_at arrays mutexes old section) b ≡ stmts_faults (names_at arrays mutexes new section) rest
  pub code_is : code (names_at arrays mutexes old section) old.site b ≡ stmt_code x.stmt (code (names_at arrays mutexes new section) new.site rest)
  pub slots_are : old.slot + slots b ≡ new.slot + slots rest
  pub sites_are : old.site + stmts_sites b ≡ new.site + stmts_sites rest
  pub weighs : (w : ℕ) → capped (w + weight b) ≡ capped (w + x.weight + weight rest)
  pub works_is : holds_work b ≡ (x.works || holds_work rest)

-- the first of the statements is read, or the first rule that it breaks is told
abbrev pub IsFirstRead : List Array → List (List ℕ) → State → State → Section → Stmts → Stmts → Result Added ReadKernelFault → Type 0
IsFirstRead arrays mutexes old new section b rest (Ok x) = IsAdvance arrays mutexes old new section b rest x
IsFirstRead arrays mutexes old new section b rest (Err fault) = IsFirstOf (stmts_faults (names_at arrays mutexes old section) b) fault
