-- Looking for a record among those of a log.
use Rattle.std.proofs.Common.{◌≡◌, ◌⊎◌, ℕ, List, [], ◌∷◌, ◌++◌, Some, None, sym, ap, subst, ◌∙◌, inl, inr, append_assoc, append-nil}
use Rattle.std.proofs.lemmas.List.{same_from_push}
use Rattle.sw_base.specs.Environment.{Content}
use Rattle.log_format.specs.declared.record.Record.{Record}
use Rattle.log_reader.specs.Reading.{Reading, StandsBefore, GivesNext}
use Rattle.race_laws.proofs.LabelPlace.{HasLast, has_last}
use Rattle.explain.specs.Finding.{IsPlaceAfter, MayFollow, EachMayFollow, IsMarked, HasNone, FindsMarked}
use Rattle.explain.specs.declared.finding.Found.{Found}
use Rattle.explain.specs.declared.finding.Mark.{Mark}
use Rattle.explain.specs.declared.passing.ReadPlace.{ReadPlace}

-- the first of the records were passed, and none of them is the one that is looked for
pub record Passed (c : Content) (which : Mark) (reading : Reading) (place : ReadPlace) (events : List Record) : Type 0 where
  pub given : List Record
  pub left : List Record
  pub parts : events ≡ given ++ left
  pub stands : StandsBefore c reading left
  pub after : IsPlaceAfter place given
  pub none : HasNone which given

module _ (c : Content) (which : Mark) (reading : Reading) (place : ReadPlace) (events : List Record) (p : Passed c which reading place events) where
  -- the record is the next one
  pub record IsNext (r : Record) (after : Reading) : Type 0 where
    pub rest : List Record
    pub parts : events ≡ p.given ++ r ∷ rest
    pub stands : StandsBefore c after rest

  pub is_next : (r : Record) (after : Reading) → GivesNext c p.left (Some r) after → IsNext r after
  is_next r after gives = at p.left gives p.parts
    where
      at : (left : List Record) → GivesNext c left (Some r) after → events ≡ p.given ++ left → IsNext r after
      at [] gives parts = let differ = gives.0 in absurd (cc differ)
      at (q ∷ rs) gives parts = let same = gives.0 in record { rest = rs; parts = parts ∙ ap (λ (e : Record). p.given ++ e ∷ rs) (let e : q ≡ r = cc same in e); stands = gives.1 }

  -- it is the one
  pub found_here : (found : Found) (after : Reading) → GivesNext c p.left (Some found.event) after → IsMarked which p.given found.event → found.held ≡ place.held → found.barriers ≡ place.barriers
      → FindsMarked which events (Some found)
  found_here found after gives marked held barriers =
      let next = is_next found.event after gives in
      record { before = p.given; after = next.rest; parts = next.parts; marked = marked; held = held ∙ p.after.held; barriers = barriers ∙ p.after.barriers }

  -- it isn't
  none_more : (r : Record) → (IsMarked which p.given r → ⊥) → HasNone which (p.given ++ r ∷ [])
  none_more r not_this before rest q parts marked = at (has_last rest)
    where
      at : (rest ≡ []) ⊎ HasLast rest → ⊥
      at (inl empty) =
          let both = same_from_push p.given before r q (parts ∙ ap (λ (l : List Record). before ++ q ∷ l) empty) in
          not_this (subst (λ (l : List Record). IsMarked which l r) (sym both.0) (subst (λ (e : Record). IsMarked which before e) (sym both.1) marked))
      at (inr l) =
          let both = same_from_push p.given (before ++ q ∷ l.prefix) r l.last
          (parts ∙ (ap (λ (t : List Record). before ++ q ∷ t) l.parts ∙ sym (append_assoc before (q ∷ l.prefix) (l.last ∷ [])))) in
          p.none before l.prefix q both.0 marked

  pub passed_next : (r : Record) (after : Reading) (new : ReadPlace) → GivesNext c p.left (Some r) after → EachMayFollow events → (IsMarked which p.given r → ⊥)
      → (MayFollow place.held r → IsPlaceAfter new (p.given ++ r ∷ [])) → Passed c which after new events
  passed_next r after new gives nested not_this goes =
      let next = is_next r after gives in
      record {
        given = p.given ++ r ∷ [];
        left = next.rest;
        parts = next.parts ∙ sym (append_assoc p.given (r ∷ []) next.rest);
        stands = next.stands;
        after = goes (subst (λ (held : List ℕ). MayFollow held r) (sym p.after.held) (nested p.given next.rest r next.parts));
        none = none_more r not_this;
      }

  -- there is none
  pub found_none : (after : Reading) → GivesNext c p.left None after → FindsMarked which events None
  found_none after gives = subst (λ (l : List Record). HasNone which l) (all p.left gives p.parts) p.none
    where
      all : (left : List Record) → GivesNext c left None after → events ≡ p.given ++ left → p.given ≡ events
      all [] gives parts = sym (parts ∙ append-nil p.given)
      all (r ∷ rs) gives parts = let differ = gives.0 in absurd (cc differ)
