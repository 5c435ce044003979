-- What a lane's log has once it is closed.
use Rattle.std.proofs.Common.{◌≡◌, ap, subst, ℕ, List, [], ◌<◌, Some, None, Result, Ok}
use Rattle.std.specs.Prelude.{is_some, IsErr}
use Rattle.std.proofs.lemmas.Option.{same_Some}
use Rattle.sw_base.specs.declared.trouble.Trouble.{Trouble}
use Rattle.sw_base.specs.declared.trouble.Trouble.TheVariants.{Failed}
use Rattle.sw_base.specs.declared.path.Step.{Step}
use Rattle.sw_base.specs.Environment.{WhereTold}
use Rattle.log_format.specs.declared.record.Record.{Record}
use Rattle.event_buffer.specs.Buffered.{Buffered, CountsFault}
use Rattle.event_buffer.specs.Logged.{HoldsRecords, HasAll, KeepsPrefix}
use Rattle.history_model.specs.Work.{Work}
use Rattle.execution_model.specs.Runs.{works_log}
use Rattle.lane_runner.specs.Going.{Progress}
use Rattle.lane_runner.specs.Handed.{HandedEntry}
use Rattle.region_runner.specs.Closing.{IsClosedAs}
use Rattle.region_runner.specs.Ran.{in_one, HasLogged}
use Rattle.region_runner.proofs.Traced.{one_log}

-- what the buffer before a lane's log held is the lane's records
pub holds_works : (old new : Progress) (works : List Work) (header : List ℕ) → HasLogged old new (in_one works) → HoldsRecords header old.buffer [] → HoldsRecords header new.buffer (works_log works)
holds_works old new works header l empty = subst (λ (rs : List Record). HoldsRecords header new.buffer rs) (one_log works) (l.log.records header [] empty)

-- a buffer that is closed took all that waited
pub closed_ok : (e : HandedEntry) (path : List Step) (b held : Buffered) → held ≡ b → e.task ≡ path → (e.dir ≡ held.dir) × (e.path ≡ held.path) → is_some e.text ≡ is_some held.text → e.count ≡ held.count
    → ((header : List ℕ) (records : List Record) → HoldsRecords header held records → WhereTold e.text (HasAll header records held.size)) → ((trouble : Trouble) → held.refused ≡ Some trouble → ⊥) → e.faults ≡ 0 → IsClosedAs e None path b
closed_ok e path b held is task places tells count taken again faultless =
    subst (λ (x : Buffered). IsClosedAs e None path x) is
    (record { task = task; dir = places.0; own = places.1; tells = tells; count = count; taken = taken; failed = λ told. no_trouble told; faultless = λ told. faultless; again = λ trouble told. absurd (again trouble told) })
  where
    no_trouble : None ≡ Some Failed → 0 < e.faults
    no_trouble told = absurd cc

-- it didn't
pub closed_err : (e : HandedEntry) (path : List Step) (b held : Buffered) (trouble : Trouble) → held ≡ b → e.task ≡ path → (e.dir ≡ held.dir) × (e.path ≡ held.path) → is_some e.text ≡ is_some held.text → e.count ≡ held.count
    → ((header : List ℕ) (records : List Record) → HoldsRecords header held records → WhereTold e.text (KeepsPrefix header records held.size)) → CountsFault trouble e.faults → ((other : Trouble) → held.refused ≡ Some other → trouble ≡ other)
    → IsClosedAs e (Some trouble) path b
closed_err e path b held trouble is task places tells count taken fault again =
    subst (λ (x : Buffered). IsClosedAs e (Some trouble) path x) is
    (record { task = task; dir = places.0; own = places.1; tells = tells; count = count; taken = taken; failed = λ told. fault (same_Some trouble Failed told); faultless = λ told. absurd cc; again = λ other told. ap (λ (t : Trouble). Some t) (again other told) })

pub none_refused : {T E : Type 0} (r : Result T E) (x : T) → r ≡ Ok x → IsErr r → ⊥
none_refused {T} {E} r x is err = absurd_ok (subst (λ (y : Result T E). IsErr y) is err) where
  absurd_ok : IsErr {T = T} {E = E} (Ok x) → ⊥
  absurd_ok e = cc
