-- What printing several parts adds up to, where lines wait between them.
use Rattle.std.proofs.Common.{◌≡◌, refl, ℕ, List, [], ◌++◌, Option, ap, sym, ◌∙◌, append_assoc, append-nil}
use Rattle.std.specs.Prelude.{Result, Ok, Err, OnOk, OnErr}
use Rattle.sw_base.specs.Environment.{gained, GainsPrefix}
use Rattle.sw_base.proofs.Gains.{gained-none, gained-gained, GainsPrefix-all}
use Rattle.log_listing.specs.Printing.{PrintsInPieces, PrintsPrefix}

pub prints_none : (old : Option (List ℕ)) (waited : List ℕ) → PrintsInPieces old waited old waited []
prints_none old waited = record { sent = []; parts = append-nil waited; gains = sym (gained-none old) }

module _ (old : Option (List ℕ)) (waited : List ℕ) (between : Option (List ℕ)) (waits : List ℕ) (new : Option (List ℕ)) (left first second : List ℕ) where
  both : (a b c : List ℕ) → waited ++ first ≡ a ++ waits → waits ++ second ≡ b ++ c → waited ++ (first ++ second) ≡ (a ++ b) ++ c
  both a b c one other =
      sym (append_assoc waited first second) ∙ ap (λ t. t ++ second) one ∙ append_assoc a waits second ∙ ap (λ t. a ++ t) other ∙ sym (append_assoc a b c)

  gains_both : (a b : List ℕ) → between ≡ gained old a → new ≡ gained between b → new ≡ gained old (a ++ b)
  gains_both a b one other = other ∙ ap (λ w. gained w b) one ∙ gained-gained old a b

  -- one part after another
  pub prints_both : PrintsInPieces old waited between waits first → PrintsInPieces between waits new left second → PrintsInPieces old waited new left (first ++ second)
  prints_both one other = record {
    sent = one.sent ++ other.sent;
    parts = both one.sent other.sent left one.parts other.parts;
    gains = gains_both one.sent other.sent one.gains other.gains;
  }

  -- a part, and a prefix of another
  pub prints_then_prefix : PrintsInPieces old waited between waits first → PrintsPrefix between waits new left second → PrintsPrefix old waited new left (first ++ second)
  prints_then_prefix one other = record {
    sent = one.sent ++ other.sent;
    rest = other.rest;
    parts = both one.sent other.sent (left ++ other.rest) one.parts other.parts;
    gains = gains_both one.sent other.sent one.gains other.gains;
  }

module _ (old : Option (List ℕ)) (waited : List ℕ) (new : Option (List ℕ)) (waits first : List ℕ) where
  -- a prefix of a first part is one of the whole
  pub prefix_append : (second : List ℕ) → PrintsPrefix old waited new waits first → PrintsPrefix old waited new waits (first ++ second)
  prefix_append second part = record {
    sent = part.sent;
    rest = part.rest ++ second;
    parts =
        sym (append_assoc waited first second) ∙ ap (λ t. t ++ second) part.parts ∙ append_assoc part.sent (waits ++ part.rest) second
        ∙ ap (λ t. part.sent ++ t) (append_assoc waits part.rest second);
    gains = part.gains;
  }

  pub prefix_all : PrintsInPieces old waited new waits first → PrintsPrefix old waited new waits first
  prefix_all all = record { sent = all.sent; rest = []; parts = all.parts ∙ ap (λ t. all.sent ++ t) (sym (append-nil waits)); gains = all.gains }

  -- a first part is a prefix of the whole
  pub prefix_of : (second : List ℕ) → PrintsInPieces old waited new waits first → PrintsPrefix old waited new waits (first ++ second)
  prefix_of second all = record {
    sent = all.sent;
    rest = second;
    parts = sym (append_assoc waited first second) ∙ ap (λ t. t ++ second) all.parts ∙ append_assoc all.sent waits second;
    gains = all.gains;
  }

-- nothing came, and what waited waits or is lost
pub prefix_none : (old : Option (List ℕ)) (waited text : List ℕ) → PrintsPrefix old waited old waited text
prefix_none old waited text = record { sent = []; rest = text; parts = refl; gains = sym (gained-none old) }

pub prefix_lost : (old : Option (List ℕ)) (waited waits text : List ℕ) → waits ≡ [] → PrintsPrefix old waited old waits text
prefix_lost old waited waits text lost = record { sent = []; rest = waited ++ text; parts = ap (λ t. t ++ (waited ++ text)) (sym lost); gains = sym (gained-none old) }

-- a prefix of what waited was printed, and the rest is lost
pub prefix_torn : (old : Option (List ℕ)) (waited : List ℕ) (new : Option (List ℕ)) (waits text : List ℕ) → waits ≡ [] → GainsPrefix old new waited → PrintsPrefix old waited new waits text
prefix_torn old waited new waits text lost torn = record {
  sent = torn.prefix;
  rest = torn.rest ++ text;
  parts = ap (λ t. t ++ text) torn.parts ∙ append_assoc torn.prefix torn.rest text ∙ ap (λ t. torn.prefix ++ (t ++ (torn.rest ++ text))) (sym lost);
  gains = torn.gains;
}

-- a call that printed the lines, or failed, printed a prefix
pub printed_some : {T E : Type 0} (result : Result T E) (old new : Option (List ℕ)) (lines : List ℕ) → OnOk result (new ≡ gained old lines) → OnErr result (GainsPrefix old new lines) → GainsPrefix old new lines
printed_some (Ok x) old new lines all part = GainsPrefix-all old new lines all
printed_some (Err e) old new lines all part = part

module _ (old between new : Option (List ℕ)) (waits text : List ℕ) where
  -- the lines that waited at last were printed
  pub printed_all : PrintsInPieces old [] between waits text → new ≡ gained between waits → new ≡ gained old text
  printed_all all last = last ∙ ap (λ w. gained w waits) all.gains ∙ gained-gained old all.sent waits ∙ ap (gained old) (sym all.parts)

  -- a prefix of them was
  pub printed_part : PrintsPrefix old [] between waits text → GainsPrefix between new waits → GainsPrefix old new text
  printed_part part last = record {
    prefix = part.sent ++ last.prefix;
    rest = last.rest ++ part.rest;
    parts =
        part.parts ∙ ap (λ t. part.sent ++ (t ++ part.rest)) last.parts ∙ ap (λ t. part.sent ++ t) (append_assoc last.prefix last.rest part.rest)
        ∙ sym (append_assoc part.sent last.prefix (last.rest ++ part.rest));
    gains = last.gains ∙ ap (λ w. gained w last.prefix) part.gains ∙ gained-gained old part.sent last.prefix;
  }
