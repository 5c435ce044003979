-- That a kernel's numbers are within their bounds has one proof at most.
use Rattle.std.specs.Prelude.{ℕ}
use Rattle.std.specs.Coded.{Unit-prop, le_prop}
use Rattle.kernel_syntax.specs.declared.syntax.Schedule.{Schedule}
use Rattle.kernel_syntax.specs.declared.syntax.Schedule.TheVariants.{Even, Static, Dynamic}
use Rattle.kernel_syntax.specs.Tree as tree
use Rattle.kernel_syntax.specs.Tree.{Term, Code}
use Rattle.kernel_syntax.specs.Bounds.{IsPlace, IsLine, IsSpan, IsChunk, IsBoundedSchedule, IsBoundedTerm, IsBoundedCode}

line_prop : (line : ℕ) → IsProp (IsLine line)
line_prop line a b = λ i. record { some = le_prop a.some b.some i; fits = le_prop a.fits b.fits i }

place_prop : (line site : ℕ) → IsProp (IsPlace line site)
place_prop line site a b = λ i. record { line_is = line_prop line a.line_is b.line_is i; site_fits = le_prop a.site_fits b.site_fits i }

span_prop : (span : ℕ) → IsProp (IsSpan span)
span_prop span a b = λ i. record { some = le_prop a.some b.some i; limit = le_prop a.limit b.limit i }

chunk_prop : (chunk : ℕ) → IsProp (IsChunk chunk)
chunk_prop chunk a b = λ i. record { some = le_prop a.some b.some i; limit = le_prop a.limit b.limit i }

schedule_prop : (schedule : Schedule) → IsProp (IsBoundedSchedule schedule)
schedule_prop Even = Unit-prop
schedule_prop (Static chunk) = chunk_prop chunk
schedule_prop (Dynamic chunk) = chunk_prop chunk

term_prop : (term : Term) → IsProp (IsBoundedTerm term)
term_prop (tree.Number n) = Unit-prop
term_prop (tree.Slot slot) = Unit-prop
term_prop tree.Tid = Unit-prop
term_prop tree.Span = Unit-prop
term_prop (tree.Load array index line site) = λ a b i. (place_prop line site a.0 b.0 i, term_prop index a.1 b.1 i)
term_prop (tree.Neg operand) = term_prop operand
term_prop (tree.Binary op line left right) = λ a b i. (line_prop line a.0 b.0 i, term_prop left a.1 b.1 i, term_prop right a.2 b.2 i)

pub code_prop : (code : Code) → IsProp (IsBoundedCode code)
code_prop tree.Done = Unit-prop
code_prop (tree.Set slot value rest) = λ a b i. (term_prop value a.0 b.0 i, code_prop rest a.1 b.1 i)
code_prop (tree.Store array index value line site rest) =
    λ a b i. (place_prop line site a.0 b.0 i, term_prop index a.1 b.1 i, term_prop value a.2 b.2 i, code_prop rest a.3 b.3 i)
code_prop (tree.Update array index value minus line site rest) =
    λ a b i. (place_prop line site a.0 b.0 i, term_prop index a.1 b.1 i, term_prop value a.2 b.2 i, code_prop rest a.3 b.3 i)
code_prop (tree.If test if_true if_false rest) =
    λ a b i. (term_prop test a.0 b.0 i, code_prop if_true a.1 b.1 i, code_prop if_false a.2 b.2 i, code_prop rest a.3 b.3 i)
code_prop (tree.Loop slot from to body rest) =
    λ a b i. (term_prop from a.0 b.0 i, term_prop to a.1 b.1 i, code_prop body a.2 b.2 i, code_prop rest a.3 b.3 i)
code_prop (tree.Parallel span line end body rest) =
    λ a b i. (span_prop span a.0 b.0 i, line_prop line a.1 b.1 i, line_prop end a.2 b.2 i, code_prop body a.3 b.3 i, code_prop rest a.4 b.4 i)
code_prop (tree.For slot from to schedule nowait line end body rest) =
    λ a b i. (term_prop from a.0 b.0 i, term_prop to a.1 b.1 i, schedule_prop schedule a.2 b.2 i, line_prop line a.3 b.3 i, line_prop end a.4 b.4 i, code_prop body a.5 b.5 i, code_prop rest a.6 b.6 i)
code_prop (tree.Barrier line rest) = λ a b i. (line_prop line a.0 b.0 i, code_prop rest a.1 b.1 i)
code_prop (tree.Critical mutex line end body rest) =
    λ a b i. (le_prop a.0 b.0 i, line_prop line a.1 b.1 i, line_prop end a.2 b.2 i, code_prop body a.3 b.3 i, code_prop rest a.4 b.4 i)
