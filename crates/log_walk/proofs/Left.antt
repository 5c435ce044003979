-- What is left of a log of which the first records were gone over.
use Rattle.std.proofs.Common.{◌≡◌, ℕ, ◌<◌, List, [], ◌∷◌, ◌++◌, length, take, drop, Option, Some, None, refl, sym, ap, ◌∙◌, arith}
use Rattle.std.specs.Option.{option_map}
use Rattle.std.proofs.lemmas.List.{append-nil, append_assoc, length-take}
use Rattle.std.proofs.lemmas.Option.{none-some, same_Some}
use Rattle.log_format.specs.declared.format.Format.{Format}
use Rattle.log_format.specs.Format.{log_header}
use Rattle.log_format.specs.declared.record.Record.{Record}
use Rattle.log_format.specs.Spelling.{spelling, log_bytes}
use Rattle.log_format.specs.Table.{Spells}
use Rattle.log_format.proofs.Logs.{log_bytes-append}
use Rattle.race_model.specs.LogFault.{LogTask}
use Rattle.log_walk.specs.Check.{IsGoodLog}
use Rattle.log_walk.specs.LogSoFar.{Checks}
use Rattle.log_walk.specs.Unread.{unread}
use Rattle.log_walk.specs.declared.state.State.{State}
use Rattle.log_walk.proofs.SoFar.{begins}

-- fewer bytes are ahead, so fewer are left
pub short_left : (ahead rest : List ℕ) → take 24 ahead ≡ take 24 rest → length ahead < 24 → length rest < 24
short_left ahead rest same short = omega (arith, short, ap length same, length-take 24 ahead, length-take 24 rest)

-- no byte is ahead, so none is left
pub none_left : (ahead more : List ℕ) → take 1 ahead ≡ take 1 (ahead ++ more) → length ahead ≡ 0 → ahead ++ more ≡ []
none_left [] [] same none = refl
none_left [] (x ∷ more) same none = cc same
none_left (x ∷ ahead) more same none = cc none

-- what is left of a log of which the bytes are told
pub record LeftOf (format : Format) (records : List Record) (ahead : List ℕ) (rest : Option (List ℕ)) (file : List ℕ) : Type 0 where
  pub more : List ℕ
  pub told : unread ahead rest ≡ Some (ahead ++ more)
  pub parts : file ≡ log_bytes (log_header format) records ++ (ahead ++ more)

pub left_of : {format : Format} (records : List Record) (bytes : Option (List ℕ)) (ahead : List ℕ) (rest : Option (List ℕ)) (file : List ℕ) → bytes ≡ option_map (λ (left : List ℕ). log_bytes (log_header format) records ++ left) (unread ahead rest)
    → bytes ≡ Some file → LeftOf format records ahead rest file
left_of records bytes ahead None file read is = absurd (none-some file (sym read ∙ is))
left_of {format} records bytes ahead (Some more) file read is =
    record { more = more; told = refl; parts = same_Some file (log_bytes (log_header format) records ++ (ahead ++ more)) (sym is ∙ read) }

-- before the first record
pub begins_left : (format : Format) (bytes left : Option (List ℕ)) → bytes ≡ option_map (λ (rest : List ℕ). log_header format ++ rest) left → bytes ≡ option_map (λ (rest : List ℕ). log_bytes (log_header format) [] ++ rest) left
begins_left format bytes left read = read ∙ ap (λ (header : List ℕ). option_map (λ (rest : List ℕ). header ++ rest) left) (sym (append-nil (log_header format)))

-- past a record
pub passes_left : {format : Format} (records : List Record) (r : Record) (next ahead later : List ℕ) (rest : Option (List ℕ)) → next ≡ take 24 ahead → later ≡ drop 24 ahead → Spells format next r
    → option_map (λ (left : List ℕ). log_bytes (log_header format) records ++ left) (unread ahead rest) ≡ option_map (λ (left : List ℕ). log_bytes (log_header format) (records ++ r ∷ []) ++ left) (unread later rest)
passes_left records r next ahead later None is left spells = refl
passes_left {format} records r next ahead later (Some rest) is left spells =
    let before : List ℕ = log_bytes (log_header format) records in
    ap Some (ap (λ (bs : List ℕ). before ++ (bs ++ rest)) (begins ahead next r is spells ∙ ap (λ (bs : List ℕ). spelling r ++ bs) (sym left))
    ∙ ap (λ (bs : List ℕ). before ++ bs) (append_assoc (spelling r) later rest)
    ∙ sym (append_assoc before (spelling r) (later ++ rest))
    ∙ ap (λ (bs : List ℕ). bs ++ (later ++ rest)) (sym (log_bytes-append (log_header format) records (r ∷ []) ∙ ap (λ (bs : List ℕ). before ++ bs) (append-nil (spelling r)))))

-- the records of a log that is good
pub good_log : {format : Format} (task : LogTask) (opened : ℕ) (state : State) (records : List Record) (index : ℕ) → Checks format task opened state records index → index ≡ task.records
    → IsGoodLog format (log_bytes (log_header format) records) task opened records state.segments
good_log task opened state records index checks all = record {
  whole = refl;
  tabled = checks.tabled;
  counted = checks.count ∙ all;
  keeps = checks.keeps;
  sum = checks.follows.segments;
  limit = checks.limit;
}
