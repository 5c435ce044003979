-- Records that were listed, and those that come.
use Rattle.std.proofs.Common.{◌≡◌, ℕ, suc, ◌+◌, List, [], ◌∷◌, ◌++◌, length, Option, Some, None, refl, sym, ap, subst, ◌∙◌, append_assoc, append-nil, arith, length-append}
use Rattle.sw_base.specs.Environment.{Content}
use Rattle.log_format.specs.declared.record.Record.{Record}
use Rattle.log_reader.specs.Reading.{Reading, StandsBefore, GivesNext}
use Rattle.log_listing.specs.Listing.{numbered}
use Rattle.log_listing.specs.Printing.{PrintsInPieces, PrintsPrefix}
use Rattle.log_listing.proofs.PrintedParts.{prints_both, prints_then_prefix, prefix_of, prefix_append}

numbered-append : {X : Type 0} (line : ℕ → X → List ℕ) (n : ℕ) (xs ys : List X) → numbered line n (xs ++ ys) ≡ numbered line n xs ++ numbered line (n + length xs) ys
numbered-append line n [] ys = ap (λ m. numbered line m ys) (let e : n ≡ n + 0 = omega arith in e)
numbered-append line n (x ∷ xs) ys =
    ap (λ t. line n x ++ t) (numbered-append line (n + 1) xs ys ∙ ap (λ m. numbered line (n + 1) xs ++ numbered line m ys) (let e : n + 1 + length xs ≡ n + suc (length xs) = omega arith in e))
    ∙ sym (append_assoc (line n x) (numbered line (n + 1) xs) (numbered line (n + suc (length xs)) ys))

-- the first of the records are listed, each as its line, and the reader stands before the others
pub record ListedTo (line : ℕ → Record → List ℕ) (c : Content) (reading : Reading) (events : List Record) (old : Option (List ℕ)) (waited : List ℕ) (new : Option (List ℕ)) (waits : List ℕ) (number : ℕ) : Type 0 where
  pub given : List Record
  pub left : List Record
  pub parts : events ≡ given ++ left
  pub stands : StandsBefore c reading left
  pub number_is : number ≡ length given + 1
  pub written : PrintsInPieces old waited new waits (numbered line 1 given)

module _ (line : ℕ → Record → List ℕ) (c : Content) (reading : Reading) (events : List Record) (old : Option (List ℕ)) (waited : List ℕ) (between : Option (List ℕ)) (waits : List ℕ) (number : ℕ)
    (listed : ListedTo line c reading events old waited between waits number) where
  -- all were listed
  pub listed_all : (after : Reading) → GivesNext c listed.left None after → PrintsInPieces old waited between waits (numbered line 1 events)
  listed_all after gives = subst (λ (rs : List Record). PrintsInPieces old waited between waits (numbered line 1 rs)) (ended listed.left gives listed.parts) listed.written where
    ended : (left : List Record) → GivesNext c left None after → events ≡ listed.given ++ left → listed.given ≡ events
    ended [] gives parts = sym (parts ∙ append-nil listed.given)
    ended (r ∷ rs) gives parts = let differ = gives.0 in absurd (cc differ)

  -- what was listed is a prefix of the whole
  pub listed_part : PrintsPrefix old waited between waits (numbered line 1 events)
  listed_part =
      subst (λ (text : List ℕ). PrintsPrefix old waited between waits text) (sym (ap (numbered line 1) listed.parts ∙ numbered-append line 1 listed.given listed.left))
      (prefix_of old waited between waits (numbered line 1 listed.given) (numbered line (1 + length listed.given) listed.left) listed.written)

  -- the record is the next one
  record IsNext (r : Record) (after : Reading) : Type 0 where
    pub rest : List Record
    pub left_is : listed.left ≡ r ∷ rest
    pub stands : StandsBefore c after rest

  is_next : (r : Record) (after : Reading) → GivesNext c listed.left (Some r) after → IsNext r after
  is_next r after gives = at listed.left gives refl where
    at : (left : List Record) → GivesNext c left (Some r) after → listed.left ≡ left → IsNext r after
    at [] gives is = let differ = gives.0 in absurd (cc differ)
    at (q ∷ rs) gives is = let same = gives.0 in record { rest = rs; left_is = is ∙ ap (λ (p : Record). p ∷ rs) (let e : q ≡ r = cc same in e); stands = gives.1 }

  next_text : (r : Record) (after : Reading) (next : IsNext r after) → numbered line 1 events ≡ numbered line 1 listed.given ++ (line number r ++ numbered line (number + 1) next.rest)
  next_text r after next =
      ap (numbered line 1) (listed.parts ∙ ap (λ (rs : List Record). listed.given ++ rs) next.left_is)
      ∙ numbered-append line 1 listed.given (r ∷ next.rest)
      ∙ ap (λ m. numbered line 1 listed.given ++ numbered line m (r ∷ next.rest)) (let e : 1 + length listed.given ≡ number = omega (arith, listed.number_is) in e)

  -- one more was listed
  pub listed_next : (r : Record) (after : Reading) → GivesNext c listed.left (Some r) after → (new : Option (List ℕ)) (left : List ℕ) → PrintsInPieces between waits new left (line number r)
      → ListedTo line c after events old waited new left (number + 1)
  listed_next r after gives new left line_is = let next = is_next r after gives in record {
    given = listed.given ++ r ∷ [];
    left = next.rest;
    parts = listed.parts ∙ ap (λ (rs : List Record). listed.given ++ rs) next.left_is ∙ sym (append_assoc listed.given (r ∷ []) next.rest);
    stands = next.stands;
    number_is = omega (arith, listed.number_is, length-append listed.given (r ∷ []));
    written =
        subst (λ (text : List ℕ). PrintsInPieces old waited new left text)
        (
        ap (λ t. numbered line 1 listed.given ++ t) (sym (append-nil (line number r)) ∙ ap (λ m. line m r ++ []) (let e : number ≡ 1 + length listed.given = omega (arith, listed.number_is) in e))
        ∙ sym (numbered-append line 1 listed.given (r ∷ []))
        )
        (prints_both old waited between waits new left (numbered line 1 listed.given) (line number r) listed.written line_is);
  }

  -- the line of the next one was refused
  pub listed_refused : (r : Record) (after : Reading) → GivesNext c listed.left (Some r) after → (new : Option (List ℕ)) (left : List ℕ) → PrintsPrefix between waits new left (line number r)
      → PrintsPrefix old waited new left (numbered line 1 events)
  listed_refused r after gives new left prefix =
      let next = is_next r after gives in
      subst (λ (text : List ℕ). PrintsPrefix old waited new left text) (sym (next_text r after next))
      (prints_then_prefix old waited between waits new left (numbered line 1 listed.given) (line number r ++ numbered line (number + 1) next.rest) listed.written
      (prefix_append between waits new left (line number r) (numbered line (number + 1) next.rest) prefix))
