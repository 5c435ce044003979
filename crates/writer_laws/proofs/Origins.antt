-- Where a task comes from: there is such a path, and it is computed.
use Rattle.std.proofs.Common.{◌≡◌, ◌⊎◌, ℕ, zero, suc, ◌+◌, ◌<◌, List, [], ◌∷◌, ◌++◌, length, append_assoc, append-nil, refl, sym, ap, arith, ◌∙◌, inl, inr}
use Rattle.std.proofs.lemmas.List.{length_push}
use Rattle.sw_base.specs.declared.path.Step.{Step}
use Rattle.race_model.specs.Listing.{lane_of}
use Rattle.race_laws.proofs.LabelPlace.{HasLast, has_last}
use Rattle.writer_laws.specs.Renumbering.{Numbers, IsFrom}

abbrev pub old_from : Numbers → List Step → List Step → List Step → List Step
old_from number above beside [] = above
old_from number above beside (s ∷ rest) = old_from number (lane_of above (number beside s.region) s.lane s.span) (beside ++ s ∷ []) rest

old_push : (number : Numbers) (above beside xs : List Step) (s : Step) → old_from number above beside (xs ++ s ∷ []) ≡ lane_of (old_from number above beside xs) (number (beside ++ xs) s.region) s.lane s.span
old_push number above beside [] s = ap (λ (p : List Step). lane_of above (number p s.region) s.lane s.span) (sym (append-nil beside))
old_push number above beside (x ∷ xs) s =
    old_push number (lane_of above (number beside x.region) x.lane x.span) (beside ++ x ∷ []) xs s
    ∙ ap (λ (p : List Step). lane_of (old_from number (lane_of above (number beside x.region) x.lane x.span) (beside ++ x ∷ []) xs) (number p s.region) s.lane s.span) (append_assoc beside (x ∷ []) xs)

pub old_is : (number : Numbers) (path other : List Step) → IsFrom number path other → path ≡ old_from number [] [] other
old_is number _ _ (IsFrom.root path other e f) = e ∙ ap (old_from number [] []) (sym f)
old_is number _ _ (IsFrom.lane path other above beside r n s up parts is) =
    parts
    ∙ (ap (λ (p : List Step). lane_of p (number beside r) n s) (old_is number above beside up)
    ∙ (sym (old_push number [] [] beside (record { region = r; lane = n; span = s })) ∙ ap (old_from number [] []) (sym is)))

-- every path is from one
pub record HasOrigin (number : Numbers) (other : List Step) : Type 0 where
  pub path : List Step
  pub from : IsFrom number path other

origins : (number : Numbers) (d : ℕ) (other : List Step) → length other < d → HasOrigin number other
origins number zero other less = absurd (omega arith)
origins number (suc d) other less = at (has_last other) (origins number d)
  where
    at : (other ≡ []) ⊎ HasLast other → ((q : List Step) → length q < d → HasOrigin number q) → HasOrigin number other
    at (inl e) rec = record { path = []; from = IsFrom.root [] other refl e }
    at (inr l) rec =
        let shorter : length l.prefix < d = (let long : length other ≡ length l.prefix + 1 = ap length l.parts ∙ length_push l.prefix l.last in omega arith) in
        let o = rec l.prefix shorter in
        record {
          path = lane_of o.path (number l.prefix l.last.region) l.last.lane l.last.span;
          from = IsFrom.lane (lane_of o.path (number l.prefix l.last.region) l.last.lane l.last.span) other o.path l.prefix l.last.region l.last.lane l.last.span o.from refl l.parts;
        }

pub origin : (number : Numbers) (other : List Step) → HasOrigin number other
origin number other = origins number (suc (length other)) other (omega arith)
