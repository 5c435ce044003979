-- Laws of spellings and of the table's tests.
use Rattle.std.proofs.Common.{◌≡◌, ◌≢◌, inl, inr, ℕ, ◌<◌, List, [], ◌∷◌, ◌++◌, length, get_or, take, drop, refl, sym, subst, ap, ◌∙◌, arith, cond, ◌==◌}
use Rattle.std.specs.Int.{w16, w32, w64, to_be_bytes, from_be_bytes}
use Rattle.std.proofs.lemmas.Nat.{from_be_bytes-to_be_bytes_2, from_be_bytes-to_be_bytes_4, from_be_bytes-to_be_bytes_8, be_bytes_2, be_bytes_4, be_bytes_8}
use Rattle.std.proofs.lemmas.Bool.{cases_order}
use Rattle.log_format.specs.declared.format.Format.{Format}
use Rattle.log_format.specs.Format.{AllowsKind}
use Rattle.log_format.specs.declared.record.Kind.{Kind}
use Rattle.log_format.specs.declared.record.Kind.TheVariants.{Read, Write, Lock, Unlock, Barrier, Region, Chunk, End, Update}
use Rattle.log_format.specs.declared.record.Record.{Record}
use Rattle.log_format.specs.declared.record.Why.{Why}
use Rattle.log_format.specs.declared.record.Why.TheVariants as why
use Rattle.log_format.specs.Spelling.{kind_code, spelling}
use Rattle.log_format.proofs.Bytes.{two_at, four_at, eight_at, two_bytes, four_bytes, eight_bytes}
use Rattle.log_format.specs.Table.{RecordFits, Spells, PassesTable, rank, IsFirstFailed, IsFirstFault}

-- a record is spelled by 24 bytes
pub length-spelling : (r : Record) → length (spelling r) ≡ 24
unfolding spelling
length-spelling r = refl

-- the first of them is its kind's number
pub spelling-kind : (r : Record) → get_or (spelling r) 0 0 ≡ kind_code r.kind
unfolding spelling
spelling-kind r = refl

-- the kind of a number
kind_at : ℕ → Kind
kind_at n = cond (n == 1) Read (cond (n == 2) Write (cond (n == 3) Lock (cond (n == 4) Unlock (cond (n == 5) Barrier (cond (n == 6) Region (cond (n == 7) Chunk (cond (n == 8) End Update)))))))

kind_at-code : (k : Kind) → kind_at (kind_code k) ≡ k
unfolding kind_at
kind_at-code Read = refl
kind_at-code Write = refl
kind_at-code Lock = refl
kind_at-code Unlock = refl
kind_at-code Barrier = refl
kind_at-code Region = refl
kind_at-code Chunk = refl
kind_at-code End = refl
kind_at-code Update = refl

-- the fields that bytes tell
fields_at : List ℕ → Record
fields_at bytes = record {
  kind = kind_at (get_or bytes 0 0);
  size = get_or bytes 1 0;
  site = from_be_bytes w16 (take 2 (drop 2 bytes));
  line = from_be_bytes w32 (take 4 (drop 4 bytes));
  addr = from_be_bytes w64 (take 8 (drop 8 bytes));
  value = from_be_bytes w64 (take 8 (drop 16 bytes));
}

fields_at-spelling : (r : Record) → RecordFits r → fields_at (spelling r) ≡ r
unfolding fields_at spelling
fields_at-spelling r fits =
    let kind : kind_at (kind_code r.kind) ≡ r.kind = kind_at-code r.kind in
    let site : from_be_bytes w16 (to_be_bytes w16 r.site) ≡ r.site = from_be_bytes-to_be_bytes_2 r.site fits.site in
    let line : from_be_bytes w32 (to_be_bytes w32 r.line) ≡ r.line = from_be_bytes-to_be_bytes_4 r.line fits.line in
    let addr : from_be_bytes w64 (to_be_bytes w64 r.addr) ≡ r.addr = from_be_bytes-to_be_bytes_8 r.addr fits.addr in
    let value : from_be_bytes w64 (to_be_bytes w64 r.value) ≡ r.value = from_be_bytes-to_be_bytes_8 r.value fits.value in
    ap (λ (k : Kind). let it : Record = record { kind = k; size = r.size; site = from_be_bytes w16 (to_be_bytes w16 r.site); line = from_be_bytes w32 (to_be_bytes w32 r.line); addr = from_be_bytes w64 (to_be_bytes w64 r.addr); value = from_be_bytes w64 (to_be_bytes w64 r.value) } in it) kind
    ∙ ap (λ (n : ℕ). let it : Record = record { kind = r.kind; size = r.size; site = n; line = from_be_bytes w32 (to_be_bytes w32 r.line); addr = from_be_bytes w64 (to_be_bytes w64 r.addr); value = from_be_bytes w64 (to_be_bytes w64 r.value) } in it) site
    ∙ ap (λ (n : ℕ). let it : Record = record { kind = r.kind; size = r.size; site = r.site; line = n; addr = from_be_bytes w64 (to_be_bytes w64 r.addr); value = from_be_bytes w64 (to_be_bytes w64 r.value) } in it) line
    ∙ ap (λ (n : ℕ). let it : Record = record { kind = r.kind; size = r.size; site = r.site; line = r.line; addr = n; value = from_be_bytes w64 (to_be_bytes w64 r.value) } in it) addr
    ∙ ap (λ (n : ℕ). let it : Record = record { kind = r.kind; size = r.size; site = r.site; line = r.line; addr = r.addr; value = n } in it) value

-- records whose fields fit are spelled differently
pub spelling-injective : (r s : Record) → RecordFits r → RecordFits s → spelling r ≡ spelling s → r ≡ s
spelling-injective r s r_fits s_fits same = sym (fields_at-spelling r r_fits) ∙ ap fields_at same ∙ fields_at-spelling s s_fits

-- bytes spell at most one record
pub spells-injective : (format : Format) (bytes : List ℕ) (r s : Record) → Spells format bytes r → Spells format bytes s → r ≡ s
spells-injective format bytes r s one other =
    spelling-injective r s one.tabled.fits other.tabled.fits (sym one.spelled ∙ other.spelled)

-- a list of 24 is its elements
list_of_24 : (bs : List ℕ) → length bs ≡ 24
    → bs ≡ get_or bs 0 0 ∷ get_or bs 1 0 ∷ two_at bs 2 ++ four_at bs 4 ++ eight_at bs 8 ++ eight_at bs 16
list_of_24 (a ∷ b ∷ c ∷ d ∷ e ∷ f ∷ g ∷ h ∷ i ∷ j ∷ k ∷ l ∷ m ∷ n ∷ o ∷ p ∷ q ∷ r ∷ s ∷ t ∷ u ∷ v ∷ w ∷ x ∷ []) size = refl
list_of_24 _ size = absurd (omega arith)

-- no two tests have one place
rank-injective : (v w : Why) → rank v ≡ rank w → v ≡ w
rank-injective why.Kind why.Kind same = refl
rank-injective why.Size why.Size same = refl
rank-injective why.LineZero why.LineZero same = refl
rank-injective why.Address why.Address same = refl
rank-injective why.Span why.Span same = refl
rank-injective why.Reserved why.Reserved same = refl
rank-injective _ _ same = absurd (omega arith)

-- bytes spell the record that has their numbers as its fields
pub spelled_by_fields : (bs : List ℕ) (r : Record) → length bs ≡ 24 → ((i : ℕ) → get_or bs i 0 < 256)
    → get_or bs 0 0 ≡ kind_code r.kind → r.size ≡ get_or bs 1 0
    → r.site ≡ from_be_bytes w16 (two_at bs 2) → r.line ≡ from_be_bytes w32 (four_at bs 4)
    → r.addr ≡ from_be_bytes w64 (eight_at bs 8) → r.value ≡ from_be_bytes w64 (eight_at bs 16)
    → bs ≡ spelling r
unfolding spelling
spelled_by_fields bs r len small kind size site line addr value =
    let site_bytes : to_be_bytes w16 r.site ≡ two_at bs 2 = be_bytes_2 (two_at bs 2) r.site refl (two_bytes bs 2 small).each site in
    let line_bytes : to_be_bytes w32 r.line ≡ four_at bs 4 = be_bytes_4 (four_at bs 4) r.line refl (four_bytes bs 4 small).each line in
    let addr_bytes : to_be_bytes w64 r.addr ≡ eight_at bs 8 = be_bytes_8 (eight_at bs 8) r.addr refl (eight_bytes bs 8 small).each addr in
    let value_bytes : to_be_bytes w64 r.value ≡ eight_at bs 16 = be_bytes_8 (eight_at bs 16) r.value refl (eight_bytes bs 16 small).each value in
    list_of_24 bs len
    ∙ ap (λ (x : ℕ). x ∷ get_or bs 1 0 ∷ two_at bs 2 ++ four_at bs 4 ++ eight_at bs 8 ++ eight_at bs 16) kind
    ∙ ap (λ (x : ℕ). kind_code r.kind ∷ x ∷ two_at bs 2 ++ four_at bs 4 ++ eight_at bs 8 ++ eight_at bs 16) (sym size)
    ∙ ap (λ (xs : List ℕ). kind_code r.kind ∷ r.size ∷ xs ++ four_at bs 4 ++ eight_at bs 8 ++ eight_at bs 16) (sym site_bytes)
    ∙ ap (λ (xs : List ℕ). kind_code r.kind ∷ r.size ∷ to_be_bytes w16 r.site ++ xs ++ eight_at bs 8 ++ eight_at bs 16) (sym line_bytes)
    ∙ ap (λ (xs : List ℕ). kind_code r.kind ∷ r.size ∷ to_be_bytes w16 r.site ++ to_be_bytes w32 r.line ++ xs ++ eight_at bs 16) (sym addr_bytes)
    ∙ ap (λ (xs : List ℕ). kind_code r.kind ∷ r.size ∷ to_be_bytes w16 r.site ++ to_be_bytes w32 r.line ++ to_be_bytes w64 r.addr ++ xs) (sym value_bytes)

-- the pieces of a record's bytes, put together
pub pieces_spell : (r : Record) (code : ℕ) (site line addr value : List ℕ) → code ≡ kind_code r.kind
    → site ≡ to_be_bytes w16 r.site → line ≡ to_be_bytes w32 r.line → addr ≡ to_be_bytes w64 r.addr → value ≡ to_be_bytes w64 r.value
    → code ∷ r.size ∷ get_or site 0 0 ∷ get_or site 1 0 ∷ get_or line 0 0 ∷ get_or line 1 0 ∷ get_or line 2 0 ∷ get_or line 3 0
    ∷ get_or addr 0 0 ∷ get_or addr 1 0 ∷ get_or addr 2 0 ∷ get_or addr 3 0 ∷ get_or addr 4 0 ∷ get_or addr 5 0 ∷ get_or addr 6 0 ∷ get_or addr 7 0
    ∷ get_or value 0 0 ∷ get_or value 1 0 ∷ get_or value 2 0 ∷ get_or value 3 0 ∷ get_or value 4 0 ∷ get_or value 5 0 ∷ get_or value 6 0 ∷ get_or value 7 0 ∷ []
    ≡ spelling r
unfolding spelling
pieces_spell r code site line addr value code_is site_is line_is addr_is value_is = rw (code_is, site_is, line_is, addr_is, value_is) refl

-- bytes that name no kind spell no record
pub no_kind : (format : Format) (bytes : List ℕ) → ((k : Kind) → AllowsKind format k → get_or bytes 0 0 ≢ kind_code k) → (r : Record)
    → AllowsKind format r.kind → bytes ≡ spelling r → ⊥
no_kind format bytes none r allowed spelled = none r.kind allowed (ap (λ (bs : List ℕ). get_or bs 0 0) spelled ∙ spelling-kind r)

-- and that is their first fault
pub kind_is_first : (format : Format) (bytes : List ℕ) → ((k : Kind) → AllowsKind format k → get_or bytes 0 0 ≢ kind_code k) → (w : Why)
    → IsFirstFault format bytes w → why.Kind ≡ w
kind_is_first format bytes none why.Kind fault = refl
kind_is_first format bytes none why.Size fault = absurd (no_kind format bytes none fault.fields (fault.failed.before why.Kind (omega arith)) fault.spelled)
kind_is_first format bytes none why.LineZero fault = absurd (no_kind format bytes none fault.fields (fault.failed.before why.Kind (omega arith)) fault.spelled)
kind_is_first format bytes none why.Address fault = absurd (no_kind format bytes none fault.fields (fault.failed.before why.Kind (omega arith)) fault.spelled)
kind_is_first format bytes none why.Span fault = absurd (no_kind format bytes none fault.fields (fault.failed.before why.Kind (omega arith)) fault.spelled)
kind_is_first format bytes none why.Reserved fault = absurd (no_kind format bytes none fault.fields (fault.failed.before why.Kind (omega arith)) fault.spelled)

-- a record fails at most one test first
first_failed-unique : (format : Format) (r : Record) (v w : Why) → IsFirstFailed format r v → IsFirstFailed format r w → v ≡ w
first_failed-unique format r v w one other =
    elim (cases_order (rank v) (rank w)) [
      | inl same ↦ rank-injective v w same
      | inr either ↦ elim either [
        | inl less ↦ absurd (one.fails (other.before v less))
        | inr more ↦ absurd (other.fails (one.before w more))
      ]
    ]

-- bytes whose fields fail a test have no other first fault
pub first_fault-unique : (format : Format) (bytes : List ℕ) (r : Record) (v w : Why) → RecordFits r → AllowsKind format r.kind → bytes ≡ spelling r
    → IsFirstFailed format r v → IsFirstFault format bytes w → v ≡ w
first_fault-unique format bytes r v why.Kind fits allowed spelled failed fault =
    absurd (no_kind format bytes fault r allowed spelled)
first_fault-unique format bytes r v _ fits allowed spelled failed fault =
    let same : r ≡ fault.fields = spelling-injective _ _ fits fault.fits (sym spelled ∙ fault.spelled) in
    first_failed-unique format fault.fields v _ (subst (λ (s : Record). IsFirstFailed format s v) same failed) fault.failed

-- bytes whose fields fail a test spell no record
pub failed_not_spelled : (format : Format) (bytes : List ℕ) (r s : Record) (v : Why) → RecordFits r → bytes ≡ spelling r → IsFirstFailed format r v
    → Spells format bytes s → ⊥
failed_not_spelled format bytes r s v fits spelled failed spells =
    let same : s ≡ r = spelling-injective _ _ spells.tabled.fits fits (sym spells.spelled ∙ spelled) in
    failed.fails (subst (λ (t : Record). PassesTable format t v) same (spells.tabled.passes v))

-- bytes that spell a record have no fault
pub spelled_no_fault : (format : Format) (bytes : List ℕ) (r : Record) (w : Why) → Spells format bytes r → IsFirstFault format bytes w → ⊥
spelled_no_fault format bytes r why.Kind spells fault = no_kind format bytes fault r (spells.tabled.passes why.Kind) spells.spelled
spelled_no_fault format bytes r _ spells fault = failed_not_spelled format bytes fault.fields r _ fault.fits fault.spelled fault.failed spells
