use Rattle.std.proofs.Common.{ℕ, List, take, string_bytes, sym, ap, subst, ◌∙◌, rules}
use Rattle.log_reader.specs.Reading.{Reading, StandsBefore}
use Rattle.log_reader.proofs.Standing.{gives_next, gives_no_more}
use Rattle.log_reader.proofs.reader.LogReader.next.Goals as goal

pub returns-in_default-clause-gives : goal.returns-in_default-clause-gives
returns-in_default-clause-gives g c = λ x told events stands.
    let stood = subst (λ (r : Reading). StandsBefore x r events) (sym c.self.view_is) stands in
    let fill = c.in_ok-fill.ensures in
    gives_no_more x (record { format = c.self.inside.format; window = c.self.inside.window; name = string_bytes c.self.inside.name; left = c.self.inside.left }) _ c.as_str.result.now c.fill.new.self events
    (λ none. search rules) stood (record { name_is = c.as_str.ensures.value; place = c.fill.ensures.place; shows = c.fill.ensures.shows x told; next = fill.next x told })
    (λ r tabled spelled. sym c.in_default.is ∙ c.first_record.ensures.found r tabled (ap (λ (bs : List ℕ). take 24 bs) c.ahead.ensures ∙ spelled))

pub returns-clause-gives : goal.returns-clause-gives
returns-clause-gives g c = λ x told events stands.
    let stood = subst (λ (r : Reading). StandsBefore x r events) (sym c.self.view_is) stands in
    let fill = c.in_ok-fill.ensures in
    gives_next x (record { format = c.self.inside.format; window = c.self.inside.window; name = string_bytes c.self.inside.name; left = c.self.inside.left }) _ c.as_str.result.now c.fill.new.self c.in-Some.next events
    (λ none. search rules) stood (record { name_is = c.as_str.ensures.value; place = c.fill.ensures.place; shows = c.fill.ensures.shows x told; next = fill.next x told })
    (search rules) (λ r tabled spelled. search rules) (search rules) (search rules) (search rules) (search rules)
