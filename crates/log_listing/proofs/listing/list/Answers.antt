use Rattle.std.proofs.Common.{ℕ, List, string_bytes, subst}
use Rattle.std.proofs.lemmas.Result.{err_from_is_err_and, on_ok_weaker, on_err_weaker}
use Rattle.log_listing.specs.Listing.{show_text}
use Rattle.log_listing.specs.Printing.{PrintsInPieces, PrintsPrefix}
use Rattle.log_listing.proofs.PrintedParts.{prefix_all, printed_all, printed_part, printed_some}
use Rattle.log_listing.proofs.listing.list.Goals as goal

pub returns-in_err-listed-clause-refused : goal.returns-in_err-listed-clause-refused
returns-in_err-listed-clause-refused g c =
    let p = err_from_is_err_and c.from_residual.result c.from_residual.ensures.1 in
    rw (p.1) (λ x told trace same holds. printed_part _ _ _ _ (show_text trace)
    (subst (λ (waited : List ℕ). PrintsPrefix (g.O.Out.written c.args.out.now) waited (g.O.Out.written c.list_rows-listed.new.out) (string_bytes c.list_rows-listed.new.lines) (show_text trace))
    c.in-Ok.ensures.bytes (c.in_err-listed.ensures.refused x told trace same holds))
    (printed_some c.print_lines-printed.result _ _ _ c.print_lines-printed.ensures.done c.print_lines-printed.ensures.refused))

pub returns-clause-done : goal.returns-clause-done
returns-clause-done g c = λ x told trace same holds.
    on_ok_weaker c.print_lines-printed.result (λ last. printed_all _ _ _ _ (show_text trace)
    (subst (λ (waited : List ℕ). PrintsInPieces (g.O.Out.written c.args.out.now) waited (g.O.Out.written c.list_rows-listed.new.out) (string_bytes c.list_rows-listed.new.lines) (show_text trace))
    c.in-Ok.ensures.bytes (c.in_ok-listed.ensures.done x told trace same holds)) last)
    c.print_lines-printed.ensures.done

pub returns-clause-refused : goal.returns-clause-refused
returns-clause-refused g c = λ x told trace same holds.
    on_err_weaker c.print_lines-printed.result (λ last. printed_part _ _ _ _ (show_text trace)
    (subst (λ (waited : List ℕ). PrintsPrefix (g.O.Out.written c.args.out.now) waited (g.O.Out.written c.list_rows-listed.new.out) (string_bytes c.list_rows-listed.new.lines) (show_text trace))
    c.in-Ok.ensures.bytes (prefix_all _ _ _ _ _ (c.in_ok-listed.ensures.done x told trace same holds))) last)
    c.print_lines-printed.ensures.refused
