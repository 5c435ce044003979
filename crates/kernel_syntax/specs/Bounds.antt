-- The bounds that the rules of the language set to sizes, lines, sites, spans, chunks and mutexes. Each kernel that is read keeps
-- them.
use Rattle.std.specs.Prelude.{◌≡◌, ℕ, ◌^◌, ◌<◌, ◌≤◌, All}
use Rattle.kernel_syntax.specs.declared.syntax.Schedule.{Schedule}
use Rattle.kernel_syntax.specs.declared.syntax.Schedule.TheVariants.{Even, Static, Dynamic}
use Rattle.log_format.specs.Fitting.{IsWidth}
use Rattle.kernel_syntax.specs.Layout.{laid, IsWithinLimits}
use Rattle.kernel_syntax.specs.Tree as tree
use Rattle.kernel_syntax.specs.Tree.{Term, Code}
use Rattle.kernel_syntax.specs.Program.{Program}

-- lines are numbered from 1, and fit 32 bits
pub record IsLine (line : ℕ) : Type 0 where
  pub some : 1 ≤ line
  pub fits : line < 2 ^ 32

-- where an access stands: its line and its site, which fits 16 bits
pub record IsPlace (line site : ℕ) : Type 0 where
  pub line_is : IsLine line
  pub site_fits : site < 2 ^ 16

-- a region has 1 to 64 lanes
pub record IsSpan (span : ℕ) : Type 0 where
  pub some : 1 ≤ span
  pub limit : span ≤ 64

-- a chunk has 1 to 1,048,576 iterations
pub record IsChunk (chunk : ℕ) : Type 0 where
  pub some : 1 ≤ chunk
  pub limit : chunk ≤ 1048576

abbrev pub IsBoundedSchedule : Schedule → Type 0
IsBoundedSchedule Even = Unit {0}
IsBoundedSchedule (Static chunk) = IsChunk chunk
IsBoundedSchedule (Dynamic chunk) = IsChunk chunk

abbrev pub IsBoundedTerm : Term → Type 0
IsBoundedTerm (tree.Load array index line site) = IsPlace line site × IsBoundedTerm index
IsBoundedTerm (tree.Neg operand) = IsBoundedTerm operand
IsBoundedTerm (tree.Binary op line left right) = IsLine line × IsBoundedTerm left × IsBoundedTerm right
IsBoundedTerm _ = Unit {0}

abbrev pub IsBoundedCode : Code → Type 0
IsBoundedCode tree.Done = Unit {0}
IsBoundedCode (tree.Set slot value rest) = IsBoundedTerm value × IsBoundedCode rest
IsBoundedCode (tree.Store array index value line site rest) = IsPlace line site × IsBoundedTerm index × IsBoundedTerm value × IsBoundedCode rest
IsBoundedCode (tree.Update array index value minus line site rest) = IsPlace line site × IsBoundedTerm index × IsBoundedTerm value × IsBoundedCode rest
IsBoundedCode (tree.If test if_true if_false rest) = IsBoundedTerm test × IsBoundedCode if_true × IsBoundedCode if_false × IsBoundedCode rest
IsBoundedCode (tree.Loop slot from to body rest) = IsBoundedTerm from × IsBoundedTerm to × IsBoundedCode body × IsBoundedCode rest
IsBoundedCode (tree.Parallel span line end body rest) = IsSpan span × IsLine line × IsLine end × IsBoundedCode body × IsBoundedCode rest
IsBoundedCode (tree.For slot from to schedule nowait line end body rest) =
    IsBoundedTerm from × IsBoundedTerm to × IsBoundedSchedule schedule × IsLine line × IsLine end × IsBoundedCode body × IsBoundedCode rest
IsBoundedCode (tree.Barrier line rest) = IsLine line × IsBoundedCode rest
IsBoundedCode (tree.Critical mutex line end body rest) = (mutex ≤ 63) × IsLine line × IsLine end × IsBoundedCode body × IsBoundedCode rest

-- the arrays are within the limits and laid out, and these numbers of `main` are within their bounds
pub record IsBounded (program : Program) : Type 0 where
  pub limits : IsWithinLimits program.arrays
  pub widths : All (λ a. IsWidth a.width) program.arrays
  pub placed : program.arrays ≡ laid program.arrays
  pub line : IsLine program.main.line
  pub end_line : IsLine program.main.end
  pub body : IsBoundedCode program.main.body
