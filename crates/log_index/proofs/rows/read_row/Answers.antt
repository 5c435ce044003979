use Rattle.std.proofs.Common.{◌≡◌, ◌≤◌, sym, subst, ap, ◌∙◌, arith, List, ℕ, length, take, drop, map}
use Rattle.std.proofs.lemmas.Result.{err_from_is_err_and}
use Rattle.sw_base.specs.Window.{Window, Shows, file_of}
use Rattle.sw_base.proofs.Windows.{shows_skipped}
use Rattle.race_model.specs.Row.{raw_of}
use Rattle.log_index.proofs.Windowed.{first_left, more_left}
use Rattle.log_index.proofs.rows.read_row.Goals as goal

pub returns-in_err-add_row-clause-bad : goal.returns-in_err-add_row-clause-bad
returns-in_err-add_row-clause-bad g c =
    let p = err_from_is_err_and c.from_residual-in_err-add_row.result c.from_residual-in_err-add_row.ensures.1 in
    rw (p.1, p.2) (λ n why is. let bad = c.in_err-add_row.ensures.bad n why is in (
      bad.0,
      λ x told shows.
          let file : List ℕ = file_of x c.args.name.now in
          let raws = map raw_of c.args.rows.now.items in
          let next : take 48 c.ahead-2.result.now ≡ take 48 (drop c.args.window.now.place file) =
          ap (λ (bs : List ℕ). take 48 bs) c.ahead-2.ensures ∙ c.in_ok-fill.ensures.next x told shows
          ∙ ap (λ (n : ℕ). take 48 (drop n file)) c.fill.ensures.place in
          first_left c.ahead-2.result.now (drop c.args.window.now.place file) next raws why bad.1,
    ))

pub returns-clause-row : goal.returns-clause-row
returns-clause-row g c = λ more x told shows.
    let file : List ℕ = file_of x c.args.name.now in
    let next : take 48 c.ahead-2.result.now ≡ take 48 (drop c.args.window.now.place file) =
    ap (λ (bs : List ℕ). take 48 bs) c.ahead-2.ensures ∙ c.in_ok-fill.ensures.next x told shows
    ∙ ap (λ (n : ℕ). take 48 (drop n file)) c.fill.ensures.place in
    let there : 48 ≤ length c.fill.new.self.ahead = omega (arith, c.in_ok-add_row.ensures.adds.adds.whole, ap length c.ahead-2.ensures) in
    record {
      shows = subst (λ (w : Window). Shows w file) (sym c.skip.ensures) (shows_skipped c.fill.new.self file 48 there (c.fill.ensures.shows x told shows));
      more = more_left c.ahead-2.result.now (drop c.args.window.now.place file) next c.args.rows.now.items c.add_row.new.rows.items c.in_ok-add_row.ensures.adds;
    }
