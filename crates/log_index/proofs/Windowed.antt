-- Two lists of bytes with the same first 48 tell the same of a row.
use Rattle.std.proofs.Common.{◌≡◌, inl, inr, ℕ, ◌<◌, ◌≤◌, List, [], ◌∷◌, ◌++◌, length, take, drop, refl, sym, ap, subst, ◌∙◌, arith, length-append, length-take, length-drop}
use Rattle.std.proofs.lemmas.List.{take_all, take-append-drop, take-append-le}
use Rattle.race_model.specs.declared.why.IndexWhy.{IndexWhy}
use Rattle.race_model.specs.declared.why.IndexWhy.TheVariants.{Old, Header, TooMany, Cut, Depth, Span, Lane, Order, Records}
use Rattle.race_model.specs.Row.{Row, RawRow, row_spelling, raw_of}
use Rattle.race_model.specs.IndexFault.{FailsTest, Fails as HasFault, FailsIndexFirst}
use Rattle.race_laws.proofs.RowSpelling.{length-row}
use Rattle.log_index.specs.Rows.{AddsRow, OneMore}

no_bytes : (bs : List ℕ) → length bs ≡ 0 → bs ≡ []
no_bytes [] none = refl
no_bytes (b ∷ bs) none = absurd (omega arith)

head_is : (bs head more : List ℕ) → length head ≡ 48 → bs ≡ head ++ more → take 48 bs ≡ head
head_is bs head more size is =
    ap (λ (xs : List ℕ). take 48 xs) is ∙ take-append-le 48 head more (omega (arith, size)) ∙ take_all 48 head (omega (arith, size))

with_head : (bs head : List ℕ) → take 48 bs ≡ head → bs ≡ head ++ drop 48 bs
with_head bs head is = sym (take-append-drop 48 bs) ∙ ap (λ (xs : List ℕ). xs ++ drop 48 bs) is

module _ (a b : List ℕ) (same : take 48 a ≡ take 48 b) where
  pub none_left : a ≡ [] → b ≡ []
  none_left none = no_bytes b (omega (arith, ap length none, ap length same, length-take 48 a, length-take 48 b))

  all_same : length a < 48 → a ≡ b
  all_same short =
      let count : length b ≤ 48 = omega (arith, short, ap length same, length-take 48 a, length-take 48 b) in
      sym (take_all 48 a (omega (arith, short))) ∙ same ∙ take_all 48 b count

  test_left : (before : List RawRow) (why : IndexWhy) → FailsTest before a why → FailsTest before b why
  test_left before why test = record {
    row = test.row;
    more = drop 48 b;
    fits = test.fits;
    spelled = with_head b (row_spelling test.row) (sym same ∙ head_is a (row_spelling test.row) test.more (length-row test.row test.fits.four) test.spelled);
    fails = test.fails;
  }

  some_left : b ≡ [] → a ≡ []
  some_left none = no_bytes a (omega (arith, ap length none, ap length same, length-take 48 a, length-take 48 b))

  fault_left : (before : List RawRow) (why : IndexWhy) → HasFault before a why → HasFault before b why
  fault_left before Old fails = fails
  fault_left before Header fails = fails
  fault_left before TooMany fails = (fails.0, λ none. fails.1 (some_left none))
  fault_left before Cut (inl short) = inl (λ none. short.0 (some_left none), subst (λ (bs : List ℕ). length bs < 48) (all_same short.1) short.1)
  fault_left before Cut (inr none) = inr (none.0, none_left none.1)
  fault_left before Depth fails = test_left before Depth fails
  fault_left before Span fails = test_left before Span fails
  fault_left before Lane fails = test_left before Lane fails
  fault_left before Order (inl fails) = inl (test_left before Order fails)
  fault_left before Order (inr ends) = inr (none_left ends.0, ends.1)
  fault_left before Records fails = test_left before Records fails

pub first_left : (a b : List ℕ) → take 48 a ≡ take 48 b → (before : List RawRow) (why : IndexWhy) → FailsIndexFirst before a why → FailsIndexFirst before b why
first_left a b same before why first = record {
  fails = fault_left a b same before why first.fails;
  least = λ other less fails. first.least other less (fault_left b a (sym same) before other fails);
}

adds_left : (a b : List ℕ) → take 48 a ≡ take 48 b → (before : List Row) (row : Row) → AddsRow before row a → AddsRow before row b
adds_left a b same before row adds = record {
  good = adds.good;
  whole = omega (arith, adds.whole, ap length same, length-take 48 a, length-take 48 b);
  parts = with_head b (row_spelling (raw_of row)) (sym same ∙ head_is a (row_spelling (raw_of row)) (drop 48 a) size adds.parts);
} where
  size : length (row_spelling (raw_of row)) ≡ 48
  size = omega (arith, adds.whole, ap length adds.parts, length-append (row_spelling (raw_of row)) (drop 48 a), length-drop 48 a)

pub more_left : (a b : List ℕ) → take 48 a ≡ take 48 b → (before now : List Row) → OneMore before now a → OneMore before now b
more_left a b same before now more = record { row = more.row; rows = more.rows; adds = adds_left a b same before more.row more.adds }
