-- Logs that end once, in parts.
use Rattle.std.proofs.Common.{◌≡◌, ◌+◌, ◌<◌, List, [], ◌∷◌, ◌++◌, length, refl, ap, subst, arith, ◌∙◌, inl, inr}
use Rattle.std.specs.Prelude.{All}
use Rattle.std.proofs.lemmas.List.{length_push}
use Rattle.std.proofs.lemmas.List.Elements.{All-cons, All-nil, All-head, All-tail}
use Rattle.log_format.specs.declared.record.Record.{Record}
use Rattle.log_format.specs.declared.record.Kind.TheVariants.{End}
use Rattle.race_model.specs.Race.{IsAccess}
use Rattle.race_model.specs.ForkJoin.{EndsOnce}

abbrev pub NoEnd : Record → Type 0
NoEnd r = r.kind ≡ End → ⊥

pub access_no_end : (r : Record) → IsAccess r → NoEnd r
access_no_end r (inl read) ends = cc
access_no_end r (inr (inl write)) ends = cc
access_no_end r (inr (inr update)) ends = cc

pub some_record : (records : List Record) → EndsOnce records → 0 < length records
some_record records e = let long : length records ≡ length e.prefix + 1 = ap length e.parts ∙ length_push e.prefix e.last in omega arith

pub ends_here : (r : Record) → r.kind ≡ End → EndsOnce (r ∷ [])
ends_here r ends = record { prefix = []; last = r; parts = refl; ends = ends; once = All-nil NoEnd }

pub ends_later : (r : Record) (records : List Record) → NoEnd r → EndsOnce records → EndsOnce (r ∷ records)
ends_later r records no_end e = record {
  prefix = r ∷ e.prefix;
  last = e.last;
  parts = ap (λ (l : List Record). r ∷ l) e.parts;
  ends = e.ends;
  once = All-cons NoEnd r e.prefix no_end e.once;
}

pub ends_after : (first records : List Record) → All NoEnd first → EndsOnce records → EndsOnce (first ++ records)
ends_after [] records none e = e
ends_after (r ∷ first) records none e = ends_later r (first ++ records) (All-head NoEnd r first none) (ends_after first records (All-tail NoEnd r first none) e)

-- the first record of a log that goes on, and the rest
pub ends_rest : (r : Record) (records : List Record) → EndsOnce (r ∷ records) → 0 < length records → NoEnd r × EndsOnce records
ends_rest r records e some = at e.prefix refl
  where
    at : (prefix : List Record) → e.prefix ≡ prefix → NoEnd r × EndsOnce records
    at [] is =
        let parts : r ∷ records ≡ e.last ∷ [] = e.parts ∙ ap (λ (l : List Record). l ++ e.last ∷ []) is in
        let none : length (r ∷ records) ≡ 1 = ap length parts in
        absurd (omega arith)
    at (p ∷ prefix) is =
        let parts : r ∷ records ≡ p ∷ (prefix ++ e.last ∷ []) = e.parts ∙ ap (λ (l : List Record). l ++ e.last ∷ []) is in
        let same : p ≡ r = cc in
        let rest : records ≡ prefix ++ e.last ∷ [] = cc in
        let once : All NoEnd (p ∷ prefix) = subst (λ (l : List Record). All NoEnd l) is e.once in
        (subst NoEnd same (All-head NoEnd p prefix once), record { prefix = prefix; last = e.last; parts = rest; ends = e.ends; once = All-tail NoEnd p prefix once })

-- what comes first has no End, and what follows ends once
pub ends_apart : (first records : List Record) → EndsOnce (first ++ records) → 0 < length records → All NoEnd first × EndsOnce records
ends_apart [] records e some = (All-nil NoEnd, e)
ends_apart (r ∷ first) records e some =
    let more : 0 < length (first ++ records) = longer first records some in
    let here = ends_rest r (first ++ records) e more in
    let there = ends_apart first records here.1 some in
    (All-cons NoEnd r first here.0 there.0, there.1)
  where
    longer : (xs ys : List Record) → 0 < length ys → 0 < length (xs ++ ys)
    longer [] ys some = some
    longer (x ∷ xs) ys some = omega arith
