-- Records that were read from one log and spelled for another.
use Rattle.std.proofs.Common.{◌≡◌, ℕ, List, [], ◌∷◌, ◌++◌, Some, None, sym, ap, ◌∙◌, append_assoc, append-nil}
use Rattle.std.specs.List.{flat_map}
use Rattle.std.proofs.lemmas.Grind.{flat_map-append}
use Rattle.sw_base.specs.Environment.{Content}
use Rattle.log_format.specs.declared.format.TheConstants.{FORMAT}
use Rattle.log_format.specs.declared.record.Record.{Record}
use Rattle.log_format.specs.Format.{log_header}
use Rattle.log_format.specs.Spelling.{log_bytes, spelling}
use Rattle.log_reader.specs.Reading.{GivesNext, Reading, StandsBefore}

-- the first of the records are spelled, and the reader stands before the others
pub record SpelledTo (c : Content) (reading : Reading) (events : List Record) (bytes : List ℕ) : Type 0 where
  pub given : List Record
  pub left : List Record
  pub parts : events ≡ given ++ left
  pub stands : StandsBefore c reading left
  pub bytes_are : bytes ≡ log_bytes (log_header FORMAT) given

module _ (c : Content) (reading : Reading) (events : List Record) (bytes : List ℕ) (spelled : SpelledTo c reading events bytes) (after : Reading) where
  -- all were spelled
  pub spelled_all : GivesNext c spelled.left None after → bytes ≡ log_bytes (log_header FORMAT) events
  spelled_all gives = spelled.bytes_are ∙ ap (log_bytes (log_header FORMAT)) (ended spelled.left gives spelled.parts) where
    ended : (left : List Record) → GivesNext c left None after → events ≡ spelled.given ++ left → spelled.given ≡ events
    ended [] gives parts = sym (parts ∙ append-nil spelled.given)
    ended (r ∷ rs) gives parts = let differ = gives.0 in absurd (cc differ)

  -- one more was
  pub spelled_next : (r : Record) (new : List ℕ) → GivesNext c spelled.left (Some r) after → new ≡ bytes ++ spelling r → SpelledTo c after events new
  spelled_next r new gives more = at spelled.left gives spelled.parts where
    at : (left : List Record) → GivesNext c left (Some r) after → events ≡ spelled.given ++ left → SpelledTo c after events new
    at [] gives parts = let differ = gives.0 in absurd (cc differ)
    at (q ∷ rs) gives parts =
        let same = gives.0 in
        let is : q ≡ r = cc same in
        record {
          given = spelled.given ++ r ∷ [];
          left = rs;
          parts = parts ∙ ap (λ (p : Record). spelled.given ++ p ∷ rs) is ∙ sym (append_assoc spelled.given (r ∷ []) rs);
          stands = gives.1;
          bytes_are =
              more ∙ ap (λ (bs : List ℕ). bs ++ spelling r) spelled.bytes_are ∙ append_assoc (log_header FORMAT) (flat_map spelling spelled.given) (spelling r)
              ∙ ap (λ (bs : List ℕ). log_header FORMAT ++ bs) (ap (λ (bs : List ℕ). flat_map spelling spelled.given ++ bs) (sym (append-nil (spelling r))) ∙ sym (flat_map-append spelling spelled.given (r ∷ [])));
        }
