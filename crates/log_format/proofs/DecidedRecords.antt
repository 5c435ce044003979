-- Of 24 bytes it can be told whether they spell a record of the table.
use Rattle.std.proofs.Common.{◌≡◌, ◌≢◌, ◌⊎◌, inl, inr, ℕ, zero, suc, ◌+◌, ◌^◌, ◌<◌, ◌≤◌, List, length, get_or, refl, sym, subst, ◌∙◌, arith}
use Rattle.std.specs.Int.{w16, w32, w64, from_be_bytes}
use Rattle.log_format.specs.declared.format.Format.{Format}
use Rattle.log_format.specs.Format.{last_code}
use Rattle.log_format.specs.declared.record.Kind.{Kind}
use Rattle.log_format.specs.declared.record.Kind.TheVariants.{Read, Write, Lock, Unlock, Barrier, Region, Chunk, End, Update}
use Rattle.log_format.specs.declared.record.Record.{Record}
use Rattle.log_format.specs.declared.record.Why.{Why}
use Rattle.log_format.specs.declared.record.Why.TheVariants as why
use Rattle.log_format.specs.Spelling.{kind_code, spelling}
use Rattle.log_format.specs.Table.{HasSize, IsFirstFailed, IsFirstFault, PassesTable, RecordFits, SpanIsTabled, HasAddress, HasNothingElse, Spells, rank}
use Rattle.log_format.proofs.Bytes.{two_at, four_at, eight_at, two_bound, four_bound, eight_bound}
use Rattle.log_format.proofs.Deciding.{Decided, stable, both, either, equal, at_most}
use Rattle.log_format.proofs.Records.{spelled_by_fields}

-- ---- kinds

-- the number is that of a kind
record HasCode (n : ℕ) : Type 0 where
  kind : Kind
  is : n ≡ kind_code kind

below_one : (k : Kind) → 0 ≡ kind_code k → ⊥
below_one Read same = absurd (omega arith)
below_one Write same = absurd (omega arith)
below_one Lock same = absurd (omega arith)
below_one Unlock same = absurd (omega arith)
below_one Barrier same = absurd (omega arith)
below_one Region same = absurd (omega arith)
below_one Chunk same = absurd (omega arith)
below_one End same = absurd (omega arith)
below_one Update same = absurd (omega arith)

above_nine : (n : ℕ) (k : Kind) → 9 < n → n ≡ kind_code k → ⊥
above_nine n Read more same = absurd (omega arith)
above_nine n Write more same = absurd (omega arith)
above_nine n Lock more same = absurd (omega arith)
above_nine n Unlock more same = absurd (omega arith)
above_nine n Barrier more same = absurd (omega arith)
above_nine n Region more same = absurd (omega arith)
above_nine n Chunk more same = absurd (omega arith)
above_nine n End more same = absurd (omega arith)
above_nine n Update more same = absurd (omega arith)

kind_of_code : (n : ℕ) → HasCode n ⊎ ((k : Kind) → n ≢ kind_code k)
kind_of_code zero = inr below_one
kind_of_code (suc zero) = inl (record { kind = Read; is = refl })
kind_of_code (suc (suc zero)) = inl (record { kind = Write; is = refl })
kind_of_code (suc (suc (suc zero))) = inl (record { kind = Lock; is = refl })
kind_of_code (suc (suc (suc (suc zero)))) = inl (record { kind = Unlock; is = refl })
kind_of_code (suc (suc (suc (suc (suc zero))))) = inl (record { kind = Barrier; is = refl })
kind_of_code (suc (suc (suc (suc (suc (suc zero)))))) = inl (record { kind = Region; is = refl })
kind_of_code (suc (suc (suc (suc (suc (suc (suc zero))))))) = inl (record { kind = Chunk; is = refl })
kind_of_code (suc (suc (suc (suc (suc (suc (suc (suc zero)))))))) = inl (record { kind = End; is = refl })
kind_of_code (suc (suc (suc (suc (suc (suc (suc (suc (suc zero))))))))) = inl (record { kind = Update; is = refl })
kind_of_code (suc (suc (suc (suc (suc (suc (suc (suc (suc (suc n)))))))))) = inr (λ k. above_nine (suc (suc (suc (suc (suc (suc (suc (suc (suc (suc n)))))))))) k (omega arith))

-- ---- tests

access_size : (n : ℕ) → Decided ((n ≡ 1) ⊎ (n ≡ 2) ⊎ (n ≡ 4) ⊎ (n ≡ 8))
access_size n = either (equal n 1) (either (equal n 2) (either (equal n 4) (equal n 8)))

has_size : (k : Kind) (n : ℕ) → Decided (HasSize k n)
has_size Read n = access_size n
has_size Write n = access_size n
has_size Lock n = equal n 0
has_size Unlock n = equal n 0
has_size Barrier n = equal n 0
has_size Region n = equal n 0
has_size Chunk n = equal n 0
has_size End n = equal n 0
has_size Update n = access_size n

has_address : (k : Kind) (r : Record) → Decided (HasAddress k r)
has_address Read r = at_most (r.addr + r.size) (2 ^ 48)
has_address Write r = at_most (r.addr + r.size) (2 ^ 48)
has_address Lock r = at_most (suc r.addr) (2 ^ 16)
has_address Unlock r = at_most (suc r.addr) (2 ^ 16)
has_address Barrier r = inl tt
has_address Region r = inl tt
has_address Chunk r = inl tt
has_address End r = inl tt
has_address Update r = at_most (r.addr + r.size) (2 ^ 48)

span_is_tabled : (k : Kind) (r : Record) → Decided (SpanIsTabled k r)
span_is_tabled Region r = both (at_most 1 r.value) (at_most r.value 64)
span_is_tabled Read r = inl tt
span_is_tabled Write r = inl tt
span_is_tabled Lock r = inl tt
span_is_tabled Unlock r = inl tt
span_is_tabled Barrier r = inl tt
span_is_tabled Chunk r = inl tt
span_is_tabled End r = inl tt
span_is_tabled Update r = inl tt

three : {A B C : Type 0} → Decided A → Decided B → Decided C → Decided (A × B × C)
three (inl a) (inl b) (inl c) = inl (a, b, c)
three (inl a) (inl b) (inr c) = inr (λ p. c p.2)
three (inl a) (inr b) c = inr (λ p. b p.1)
three (inr a) b c = inr (λ p. a p.0)

has_nothing_else : (k : Kind) (r : Record) → Decided (HasNothingElse k r)
has_nothing_else Read r = inl tt
has_nothing_else Write r = inl tt
has_nothing_else Lock r = both (equal r.site 0) (equal r.value 0)
has_nothing_else Unlock r = both (equal r.site 0) (equal r.value 0)
has_nothing_else Barrier r = three (equal r.site 0) (equal r.addr 0) (equal r.value 0)
has_nothing_else Region r = both (equal r.site 0) (equal r.addr 0)
has_nothing_else Chunk r = both (equal r.site 0) (at_most r.addr r.value)
has_nothing_else End r = three (equal r.site 0) (equal r.addr 0) (equal r.value 0)
has_nothing_else Update r = inl tt

passes : (format : Format) (r : Record) (w : Why) → Decided (PassesTable format r w)
passes format r why.Kind = at_most (kind_code r.kind) (last_code format)
passes format r why.Size = has_size r.kind r.size
passes format r why.LineZero = at_most 1 r.line
passes format r why.Address = has_address r.kind r
passes format r why.Span = span_is_tabled r.kind r
passes format r why.Reserved = has_nothing_else r.kind r

-- a record of which no test is the first that it fails passes all
module _ (format : Format) (r : Record) (none : (w : Why) → IsFirstFailed format r w → ⊥) where
  -- so far
  abbrev PassesBelow : ℕ → Type 0
  PassesBelow n = (v : Why) → rank v < n → PassesTable format r v

  here : (w : Why) → PassesBelow (rank w) → PassesTable format r w
  here w before = stable (passes format r w) (λ fails. none w (record { fails = fails; before = before }))

  below_0 : PassesBelow 0
  below_0 v less = absurd (omega arith)

  below_1 : PassesBelow 1
  below_1 why.Kind less = here why.Kind below_0
  below_1 why.Size less = absurd (omega arith)
  below_1 why.LineZero less = absurd (omega arith)
  below_1 why.Address less = absurd (omega arith)
  below_1 why.Span less = absurd (omega arith)
  below_1 why.Reserved less = absurd (omega arith)

  below_2 : PassesBelow 2
  below_2 why.Kind less = here why.Kind below_0
  below_2 why.Size less = here why.Size below_1
  below_2 why.LineZero less = absurd (omega arith)
  below_2 why.Address less = absurd (omega arith)
  below_2 why.Span less = absurd (omega arith)
  below_2 why.Reserved less = absurd (omega arith)

  below_3 : PassesBelow 3
  below_3 why.LineZero less = here why.LineZero below_2
  below_3 why.Kind less = here why.Kind below_0
  below_3 why.Size less = here why.Size below_1
  below_3 why.Address less = absurd (omega arith)
  below_3 why.Span less = absurd (omega arith)
  below_3 why.Reserved less = absurd (omega arith)

  below_4 : PassesBelow 4
  below_4 why.Address less = here why.Address below_3
  below_4 why.Kind less = here why.Kind below_0
  below_4 why.Size less = here why.Size below_1
  below_4 why.LineZero less = here why.LineZero below_2
  below_4 why.Span less = absurd (omega arith)
  below_4 why.Reserved less = absurd (omega arith)

  below_5 : PassesBelow 5
  below_5 why.Span less = here why.Span below_4
  below_5 why.Kind less = here why.Kind below_0
  below_5 why.Size less = here why.Size below_1
  below_5 why.LineZero less = here why.LineZero below_2
  below_5 why.Address less = here why.Address below_3
  below_5 why.Reserved less = absurd (omega arith)

  passes_all : (w : Why) → PassesTable format r w
  passes_all why.Kind = here why.Kind below_0
  passes_all why.Size = here why.Size below_1
  passes_all why.LineZero = here why.LineZero below_2
  passes_all why.Address = here why.Address below_3
  passes_all why.Span = here why.Span below_4
  passes_all why.Reserved = here why.Reserved below_5

-- ---- bytes

-- the bytes spell a record of the table
pub record SpellsSome (format : Format) (bytes : List ℕ) : Type 0 where
  pub read : Record
  pub spells : Spells format bytes read

-- the fields of the bytes
fields : List ℕ → Kind → Record
fields bs kind = record {
  kind = kind;
  size = get_or bs 1 0;
  site = from_be_bytes w16 (two_at bs 2);
  line = from_be_bytes w32 (four_at bs 4);
  addr = from_be_bytes w64 (eight_at bs 8);
  value = from_be_bytes w64 (eight_at bs 16);
}

-- bytes without a first fault do
pub spells_some : (format : Format) (bs : List ℕ) → length bs ≡ 24 → ((i : ℕ) → get_or bs i 0 < 256) → ((w : Why) → IsFirstFault format bs w → ⊥) → SpellsSome format bs
unfolding fields
spells_some format bs size small none = by_kind (kind_of_code (get_or bs 0 0)) where
  fit : (kind : Kind) → RecordFits (fields bs kind)
  fit kind = record {
    size = small 1;
    site = two_bound (get_or bs 2 0) (get_or bs 3 0) (small 2) (small 3);
    line = four_bound (get_or bs 4 0) (get_or bs 5 0) (get_or bs 6 0) (get_or bs 7 0) (small 4) (small 5) (small 6) (small 7);
    addr = eight_bound (get_or bs 8 0) (get_or bs 9 0) (get_or bs 10 0) (get_or bs 11 0) (get_or bs 12 0) (get_or bs 13 0) (get_or bs 14 0) (get_or bs 15 0)
        (small 8) (small 9) (small 10) (small 11) (small 12) (small 13) (small 14) (small 15);
    value = eight_bound (get_or bs 16 0) (get_or bs 17 0) (get_or bs 18 0) (get_or bs 19 0) (get_or bs 20 0) (get_or bs 21 0) (get_or bs 22 0) (get_or bs 23 0)
        (small 16) (small 17) (small 18) (small 19) (small 20) (small 21) (small 22) (small 23);
  }

  by_kind : HasCode (get_or bs 0 0) ⊎ ((k : Kind) → get_or bs 0 0 ≢ kind_code k) → SpellsSome format bs
  by_kind (inr other) = absurd (none why.Kind (λ k allowed. other k))
  by_kind (inl has) =
      let spelled = spelled_by_fields bs (fields bs has.kind) size small has.is refl refl refl refl refl in
      record {
        read = fields bs has.kind;
        spells = record { tabled = record { fits = fit has.kind; passes = passes_all format (fields bs has.kind) (fails spelled) }; spelled = spelled };
      }
    where
      fails : bs ≡ spelling (fields bs has.kind) → (w : Why) → IsFirstFailed format (fields bs has.kind) w → ⊥
      fails spelled why.Kind failed = none why.Kind (λ k allowed same. failed.fails (subst (λ (n : ℕ). n ≤ last_code format) (sym same ∙ has.is) allowed))
      fails spelled why.Size failed = none why.Size (record { fields = fields bs has.kind; fits = fit has.kind; spelled = spelled; failed = failed })
      fails spelled why.LineZero failed = none why.LineZero (record { fields = fields bs has.kind; fits = fit has.kind; spelled = spelled; failed = failed })
      fails spelled why.Address failed = none why.Address (record { fields = fields bs has.kind; fits = fit has.kind; spelled = spelled; failed = failed })
      fails spelled why.Span failed = none why.Span (record { fields = fields bs has.kind; fits = fit has.kind; spelled = spelled; failed = failed })
      fails spelled why.Reserved failed = none why.Reserved (record { fields = fields bs has.kind; fits = fit has.kind; spelled = spelled; failed = failed })
