-- A kernel's text as a tree without pointers, with the names of the Rust types' variants.
use Rattle.std.specs.Prelude.{ℕ, ℤ, Bool}
use Rattle.kernel_syntax.specs.declared.syntax.Op.{Op}
use Rattle.kernel_syntax.specs.declared.syntax.Schedule.{Schedule}

-- an expression
pub data Term : Type 0 where
  Number : (value : ℤ) → Term
  Slot : (slot : ℕ) → Term
  Tid : Term
  Span : Term
  Load : (array : ℕ) → (index : Term) → (line site : ℕ) → Term
  Neg : (operand : Term) → Term
  Binary : (op : Op) → (line : ℕ) → (left right : Term) → Term

-- a list of statements: its first statement, and last the rest
pub data Code : Type 0 where
  Done : Code
  Set : (slot : ℕ) → (value : Term) → (rest : Code) → Code
  Store : (array : ℕ) → (index value : Term) → (line site : ℕ) → (rest : Code) → Code
  Update : (array : ℕ) → (index value : Term) → (minus : Bool) → (line site : ℕ) → (rest : Code) → Code
  If : (test : Term) → (yes no rest : Code) → Code
  Loop : (slot : ℕ) → (from to : Term) → (body rest : Code) → Code
  Parallel : (span line end : ℕ) → (body rest : Code) → Code
  For : (slot : ℕ) → (from to : Term) → (schedule : Schedule) → (nowait : Bool) → (line end : ℕ) → (body rest : Code) → Code
  Barrier : (line : ℕ) → (rest : Code) → Code
  Critical : (mutex line end : ℕ) → (body rest : Code) → Code

-- a team: how many lanes it has, its first and last line, and what each lane executes
pub record TeamTree : Type 0 where
  pub span : ℕ
  pub line : ℕ
  pub end : ℕ
  pub body : Code
