-- From a reader that stands before records to the next.
use Rattle.std.proofs.Common.{◌≡◌, ℕ, suc, ◌+◌, ◌-◌, ◌≤◌, List, [], ◌∷◌, length, get_or, take, drop, Some, None, sym, ap, subst, ◌∙◌, arith, append-nil}
use Rattle.std.proofs.lemmas.List.{drop-drop}
use Rattle.log_format.specs.declared.format.Format.{Format}
use Rattle.log_format.specs.declared.record.Record.{Record}
use Rattle.log_format.specs.Spelling.{spelling}
use Rattle.log_format.specs.Table.{IsTabled}
use Rattle.log_format.proofs.Logs.{take-spellings, drop-spellings}
use Rattle.sw_base.specs.Environment.{Content}
use Rattle.sw_base.specs.Window.{Window, Shows, file_of, skipped}
use Rattle.sw_base.proofs.Windows.{shows_skipped}
use Rattle.log_reader.specs.Reading.{Reading, StandsBefore, GivesNext}

-- the bytes ahead spell the first of the records
ahead_spells : (c : Content) (reading : Reading) (r : Record) (rs : List Record) (ahead : List ℕ) → StandsBefore c reading (r ∷ rs)
    → take 24 ahead ≡ take 24 (drop reading.window.place (file_of c reading.name)) → take 24 ahead ≡ spelling r
ahead_spells c reading r rs ahead stands next = next ∙ ap (λ (bs : List ℕ). take 24 bs) stands.rest ∙ take-spellings 1 (r ∷ rs) ∙ append-nil (spelling r)

-- the window was filled from the file, which has this name
pub record Fills (c : Content) (old : Reading) (name : List ℕ) (filled : Window) : Type 0 where
  pub name_is : name ≡ old.name
  pub place : filled.place ≡ old.window.place
  pub shows : Shows old.window (file_of c name) → Shows filled (file_of c name)
  pub next : Shows old.window (file_of c name) → take 24 filled.ahead ≡ take 24 (drop filled.place (file_of c name))

shown : (c : Content) (old : Reading) (name : List ℕ) (filled : Window) (events : List Record) → StandsBefore c old events → Fills c old name filled → Shows old.window (file_of c name)
shown c old name filled events stands fills = subst (λ (n : List ℕ). Shows old.window (file_of c n)) (sym fills.name_is) stands.shows

next_bytes : (c : Content) (old : Reading) (name : List ℕ) (filled : Window) (events : List Record) → StandsBefore c old events → Fills c old name filled
    → take 24 filled.ahead ≡ take 24 (drop old.window.place (file_of c old.name))
next_bytes c old name filled events stands fills =
    fills.next (shown c old name filled events stands fills)
    ∙ ap (λ (m : ℕ). take 24 (drop m (file_of c name))) fills.place
    ∙ ap (λ (n : List ℕ). take 24 (drop old.window.place (file_of c n))) fills.name_is

-- the next record was read
pub gives_next : (c : Content) (old new : Reading) (name : List ℕ) (filled : Window) (event : Record) (events : List Record) → (old.left ≡ 0 → ⊥) → StandsBefore c old events
    → Fills c old name filled → 24 ≤ length filled.ahead → ((r : Record) → IsTabled old.format r → take 24 filled.ahead ≡ spelling r → Some event ≡ Some r)
    → new.format ≡ old.format → new.window ≡ skipped 24 filled → new.name ≡ old.name → new.left ≡ old.left - 1 → GivesNext c events (Some event) new
gives_next c old new name filled event [] some stands fills whole found format_is window name_is left = absurd (some stands.left)
gives_next c old new name filled event (r ∷ rs) some stands fills whole found format_is window name_is left = (
  found r (stands.tabled 0 r (omega arith)) (ahead_spells c old r rs filled.ahead stands (next_bytes c old name filled (r ∷ rs) stands fills)),
  record {
    shows =
        let shows = fills.shows (shown c old name filled (r ∷ rs) stands fills) in
        subst (λ (w : Window). Shows w (file_of c new.name)) (sym window)
        (subst (λ (n : List ℕ). Shows (skipped 24 filled) (file_of c n)) (fills.name_is ∙ sym name_is) (shows_skipped filled (file_of c name) 24 whole shows));
    rest = ap (λ (w : Window). drop w.place (file_of c new.name)) window
        ∙ ap (λ (n : List ℕ). drop (filled.place + 24) (file_of c n)) name_is
        ∙ ap (λ (m : ℕ). drop (m + 24) (file_of c old.name)) fills.place
        ∙ sym (drop-drop 24 old.window.place (file_of c old.name))
        ∙ ap (λ (bs : List ℕ). drop 24 bs) stands.rest
        ∙ drop-spellings 1 (r ∷ rs);
    left = omega (arith, left, stands.left);
    tabled = λ k d h. subst (λ (f : Format). IsTabled f (get_or rs k d)) (sym format_is) (stands.tabled (suc k) d (omega arith));
  },
)

-- no record was read
pub gives_no_more : (c : Content) (old new : Reading) (name : List ℕ) (filled : Window) (events : List Record) → (old.left ≡ 0 → ⊥) → StandsBefore c old events
    → Fills c old name filled → ((r : Record) → IsTabled old.format r → take 24 filled.ahead ≡ spelling r → None ≡ Some r) → GivesNext c events None new
gives_no_more c old new name filled [] some stands fills found = absurd (some stands.left)
gives_no_more c old new name filled (r ∷ rs) some stands fills found =
    let differ = found r (stands.tabled 0 r (omega arith)) (ahead_spells c old r rs filled.ahead stands (next_bytes c old name filled (r ∷ rs) stands fills)) in absurd (cc differ)
