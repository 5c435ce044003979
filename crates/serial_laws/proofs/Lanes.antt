-- What a task of the machine does is what a task of the serial run does, over the memory of its words.
use Rattle.std.proofs.Common.{◌≡◌, refl, ap, sym, ◌∙◌, subst, ◌⊎◌, inl, inr, ℕ, suc, ◌+◌, ◌-◌, ◌<◌, ◌≤◌, Bool, true, false, cond, List, [], ◌∷◌, ◌++◌, length, append_assoc, arith}
use Rattle.std.specs.Prelude.{slice_index, slice_set, ◌==◌}
use Rattle.std.proofs.lemmas.Bool.Decides.{nat_tests}
use Rattle.std.proofs.lemmas.Grind.{get_or-set_at}
use Rattle.std.proofs.lemmas.List.{append-nil, get_or-set_other, length-set}
use Rattle.log_format.specs.Fitting.{CanHave, fit}
use Rattle.log_format.specs.declared.record.Record.{Record}
use Rattle.log_format.specs.declared.record.Kind.{Kind}
use Rattle.log_format.specs.declared.record.Kind.TheVariants as kind
use Rattle.race_model.specs.History.{stored_after}
use Rattle.race_model.specs.Race.{IsAccess}
use Rattle.kernel_syntax.specs.Program.{Program}
use Rattle.execution_model.specs.Execution.{BeginsTrace}
use Rattle.certainty_model.specs.Certain.{IsFixed}
use Rattle.serial_run.specs.Going.{FindsValue, words_after, Finds, ArePlain}
use Rattle.serial_run.specs.Placing.{ElementLayout}
use Rattle.serial_steps.specs.Lanes.{Shared, SerialTask, with_record, after_record, FindsMemory, MakesNext, Still, TaskGoes}
use Rattle.serial_laws.proofs.FewerReads.{begins_first}

-- the task once it made these records, and what it leaves to all
abbrev pub with_records : SerialTask → List Record → SerialTask
with_records t rs = record t { records = t.records ++ rs }

abbrev pub after_records : Shared → List Record → Shared
after_records s [] = s
after_records s (r ∷ rs) = after_records (after_record s r) rs

pub left_after : (s : Shared) (rs : List Record) → (after_records s rs).left ≡ s.left - length rs
left_after s [] = omega arith
left_after s (r ∷ rs) = let later = left_after (after_record s r) rs in omega (arith, later)

module _ (layout : ElementLayout) (placed : (w : ℕ) → w < layout.count → layout.words.word (layout.words.address w) ≡ w) where
  -- the words are what stands at their addresses, each with a value of its element
  pub record StandsAt (words : List ℕ) (memory : ℕ → ℕ) : Type 0 where
    pub count : length words ≡ layout.count
    pub each : (w : ℕ) → w < layout.count → slice_index words w ≡ memory (layout.words.address w)
    pub fits : (w : ℕ) → w < layout.count → CanHave (layout.words.width w) (slice_index words w)

  -- a read finds it
  read_finds : (r : Record) (words : List ℕ) (memory : ℕ → ℕ) → FindsValue layout kind.Read r words → StandsAt words memory → r.value ≡ memory r.addr
  read_finds r words memory f a =
      let w = layout.words.word r.addr in
      f.1 ∙ (ap (λ (n : ℕ). fit (slice_index words w) n) f.0.element.size ∙ (a.fits w f.0.within ∙ (a.each w f.0.within ∙ ap (λ (addr : ℕ). memory addr) f.0.element.address)))

  -- a write leaves its value there
  module _ (r : Record) (words : List ℕ) (memory : ℕ → ℕ) (f : FindsValue layout kind.Write r words) (a : StandsAt words memory) where
    abbrev place : ℕ
    place = layout.words.word r.addr

    abbrev stored : ℕ → ℕ
    stored addr = stored_after kind.Write r addr (memory addr)

    here : (w : ℕ) → place ≡ w → slice_index (slice_set words place r.value) w ≡ r.value
    here w same = get_or-set_at words place w r.value 0 (sym same) (let inside = f.0.within in omega (arith, a.count))

    address_here : (w : ℕ) → place ≡ w → (r.addr == layout.words.address w) ≡ true
    address_here w same = let e : r.addr ≡ layout.words.address w = sym f.0.element.address ∙ ap (λ (n : ℕ). layout.words.address n) same in grind (arith, nat_tests)

    address_there : (w : ℕ) → w < layout.count → (place ≡ w → ⊥) → (b : Bool) → (r.addr == layout.words.address w) ≡ b → b ≡ false
    address_there w less other true is =
        let e : r.addr ≡ layout.words.address w = grind (arith, nat_tests) in
        absurd (other (ap (λ (addr : ℕ). layout.words.word addr) e ∙ placed w less))
    address_there w less other false is = refl

    each_stored : (w : ℕ) → w < layout.count → (b : Bool) → (place == w) ≡ b → slice_index (slice_set words place r.value) w ≡ stored (layout.words.address w)
    each_stored w less true is =
        let same : place ≡ w = grind (arith, nat_tests) in
        here w same ∙ sym (ap (λ (b : Bool). cond b r.value (memory (layout.words.address w))) (address_here w same))
    each_stored w less false is =
        let other : place ≡ w → ⊥ = λ e. grind (arith, nat_tests) in
        get_or-set_other words place w r.value 0 (λ e. other (sym e)) ∙ (a.each w less
        ∙ sym (ap (λ (b : Bool). cond b r.value (memory (layout.words.address w))) (address_there w less other (r.addr == layout.words.address w) refl)))

    fits_stored : (w : ℕ) → w < layout.count → (b : Bool) → (place == w) ≡ b → CanHave (layout.words.width w) (slice_index (slice_set words place r.value) w)
    fits_stored w less true is =
        let same : place ≡ w = grind (arith, nat_tests) in
        subst (λ (v : ℕ). CanHave (layout.words.width w) v) (sym (here w same))
        (subst (λ (n : ℕ). CanHave n r.value) (f.0.element.size ∙ ap (λ (n : ℕ). layout.words.width n) same) f.1)
    fits_stored w less false is =
        let other : place ≡ w → ⊥ = λ e. grind (arith, nat_tests) in
        subst (λ (v : ℕ). CanHave (layout.words.width w) v) (sym (get_or-set_other words place w r.value 0 (λ e. other (sym e)))) (a.fits w less)

    write_stands : StandsAt (slice_set words place r.value) stored
    write_stands = record {
      count = length-set words place r.value ∙ a.count;
      each = λ w less. each_stored w less (place == w) refl;
      fits = λ w less. fits_stored w less (place == w) refl;
    }

  -- ---- accesses, one after another

  access_finds : (k : Kind) (r : Record) (words : List ℕ) (memory : ℕ → ℕ) → (k ≡ kind.Read) ⊎ (k ≡ kind.Write) → FindsValue layout k r words → StandsAt words memory → FindsMemory k r memory
  access_finds kind.Read r words memory is f a = read_finds r words memory f a
  access_finds kind.Write r words memory is f a = tt
  access_finds _ r words memory (inl is) f a = absurd cc
  access_finds _ r words memory (inr is) f a = absurd cc

  access_stands : (k : Kind) (r : Record) (words : List ℕ) (memory : ℕ → ℕ) → (k ≡ kind.Read) ⊎ (k ≡ kind.Write) → FindsValue layout k r words → StandsAt words memory
      → StandsAt (words_after layout k r words) (λ addr. stored_after k r addr (memory addr))
  access_stands kind.Read r words memory is f a = a
  access_stands kind.Write r words memory is f a = write_stands r words memory f a
  access_stands _ r words memory (inl is) f a = absurd cc
  access_stands _ r words memory (inr is) f a = absurd cc

  is_access : (r : Record) → (r.kind ≡ kind.Read) ⊎ (r.kind ≡ kind.Write) → IsAccess r
  is_access r (inl is) = inl is
  is_access r (inr is) = inr (inl is)

  pub records_stand : (rs : List Record) (s : Shared) (old new : List ℕ) → ArePlain rs → Finds layout rs old new → StandsAt old s.memory → StandsAt new (after_records s rs).memory
  records_stand [] s old new plain f a = subst (λ (l : List ℕ). StandsAt l s.memory) (sym f) a
  records_stand (r ∷ rs) s old new plain f a =
      records_stand rs (after_record s r) (words_after layout r.kind r old) new plain.1 f.1 (access_stands r.kind r old s.memory plain.0 f.0 a)

  -- a task that has these accesses before it makes them, and then goes on
  pub accesses_go : (program : Program) (rs more : List Record) (t u : SerialTask) (s q : Shared) (end : Still) (old new : List ℕ) → IsFixed t.start.team.body
      → BeginsTrace program t.start (t.records ++ (rs ++ more)) → ArePlain rs → Finds layout rs old new → StandsAt old s.memory → length rs ≤ s.left
      → TaskGoes program (with_records t rs) (after_records s rs) u q end → TaskGoes program t s u q end
  accesses_go program [] more t u s q end old new fixed begun plain f a some goes = subst (λ (l : List Record). TaskGoes program (record t { records = l }) s u q end) (append-nil t.records) goes
  accesses_go program (r ∷ rs) more t u s q end old new fixed begun plain f a some goes =
      let split = sym (append_assoc t.records (r ∷ []) (rs ++ more)) in
      TaskGoes.makes t u s q r end
      (record {
        begun = begins_first program t.start fixed (t.records ++ r ∷ []) (rs ++ more) (subst (λ (l : List Record). BeginsTrace program t.start l) split begun);
        finds = access_finds r.kind r old s.memory plain.0 f.0 a;
        some = omega (arith, some);
      })
      (is_access r plain.0)
      (accesses_go program rs more (with_record t r) u (after_record s r) q end (words_after layout r.kind r old) new fixed
      (subst (λ (l : List Record). BeginsTrace program t.start l) split begun) plain.1 f.1 (access_stands r.kind r old s.memory plain.0 f.0 a) (omega (arith, some))
      (subst (λ (l : List Record). TaskGoes program (record t { records = l }) (after_records s (r ∷ rs)) u q end) (sym (append_assoc t.records (r ∷ []) rs)) goes))
