-- The effects of the parts of a task, from the effects of their parts.
use Rattle.std.proofs.Common.{◌≡◌, refl, ap, sym, ◌∙◌, ℕ, zero, suc, ◌-◌, ◌<◌, ◌≤◌, min, List, [], ◌∷◌, ◌++◌, length, ℤ, pos, None, FitsSigned, w64, arith, append_assoc}
use Rattle.std.specs.Prelude.{slice_index_or}
use Rattle.std.specs.List.{cons_option}
use Rattle.std.proofs.lemmas.List.{append-nil, length-append}
use Rattle.std.proofs.lemmas.List.Elements.{filter_map-append}
use Rattle.std.proofs.lemmas.Int.{to_z-of_z}
use Rattle.log_format.specs.Fitting.{fitted}
use Rattle.kernel_syntax.specs.Tree as tree
use Rattle.kernel_syntax.specs.Tree.{Term}
use Rattle.log_format.specs.declared.record.Record.{Record}
use Rattle.log_format.specs.declared.record.Kind.TheVariants as kind
use Rattle.kernel_model.specs.State.{State, Fork, Outcome, Gives, and_then, put, event, reads_of, chunks_of, value_read, number_drawn}
use Rattle.kernel_model.specs.declared.stop.StopWhy.{StopWhy}
use Rattle.kernel_model.specs.declared.stop.StopWhy.TheVariants.{LogFull}
use Rattle.kernel_model.specs.Value.{Site, Element, access, read}
use Rattle.kernel_model.specs.Trace.{draw}
use Rattle.kernel_model.specs.Effect.{Effect, Finish, Returned, Halted, finished, state_with, Makes, then_effect, adds, MakesValue}
use Rattle.kernel_model.proofs.Equations.{put-room, put-full, read-room, read-full, draw-room, draw-full, value-Number, value-Slot, value-Tid, value-Span}

pub reads_of-append : (xs ys : List Record) → reads_of (xs ++ ys) ≡ reads_of xs ++ reads_of ys
reads_of-append = filter_map-append (λ (r : Record). value_read r.kind r.value)

pub chunks_of-append : (xs ys : List Record) → chunks_of (xs ++ ys) ≡ chunks_of xs ++ chunks_of ys
chunks_of-append = filter_map-append (λ (r : Record). number_drawn r.kind r.addr)

-- a part that does nothing
pub makes-nothing : {A : Type 0} (finish : Finish A) (slots : List ℤ) (room : ℕ) → Makes (finished finish) slots room (adds slots []) finish
makes-nothing finish slots room = record {
  within = omega arith;
  makes = λ records forks reads chunks.
      ap (λ r. finished finish (state_with slots r forks room reads chunks)) (sym (append-nil records))
      ∙ ap (λ f. finished finish (state_with slots (records ++ []) f room reads chunks)) (sym (append-nil forks))
      ∙ ap (λ n. finished finish (state_with slots (records ++ []) (forks ++ []) n reads chunks)) (omega arith);
}

-- the same part, told otherwise
pub makes-same : {A : Type 0} (part other : State → Outcome A) (slots : List ℤ) (room : ℕ) (effect : Effect) (finish : Finish A) →
    ((s : State) → other s ≡ part s) → Makes part slots room effect finish → Makes other slots room effect finish
makes-same part other slots room effect finish same m = record {
  within = m.within;
  makes = λ records forks reads chunks.
      same (state_with slots records forks room (reads_of effect.added ++ reads) (chunks_of effect.added ++ chunks))
      ∙ m.makes records forks reads chunks;
}

module _ {A B : Type 0} (part : State → Outcome A) (next : A → State → Outcome B) (slots : List ℤ) (room : ℕ) (one : Effect) where
  -- a part that stops, whatever follows it
  pub makes-halt : (why : StopWhy) (line : ℕ) → Makes part slots room one (Halted why line) →
      Makes (λ s. and_then (part s) next) slots room one (Halted why line)
  makes-halt why line m = record {
    within = m.within;
    makes = λ records forks reads chunks. ap (λ o. and_then o next) (m.makes records forks reads chunks);
  }

  -- a part, and what goes on with its value
  pub makes-then : (a : A) (more : Effect) (finish : Finish B) → Makes part slots room one (Returned a) →
      Makes (next a) one.slots (room - length one.added) more finish →
      Makes (λ s. and_then (part s) next) slots room (then_effect one more) finish
  makes-then a more finish m n = record {
    within = omega (arith, length-append one.added more.added, m.within, n.within);
    makes = λ records forks reads chunks.
        let prefixes : reads_of (one.added ++ more.added) ++ reads ≡ reads_of one.added ++ (reads_of more.added ++ reads) =
        ap (λ l. l ++ reads) (reads_of-append one.added more.added) ∙ append_assoc (reads_of one.added) (reads_of more.added) reads in
        let draws : chunks_of (one.added ++ more.added) ++ chunks ≡ chunks_of one.added ++ (chunks_of more.added ++ chunks) =
        ap (λ l. l ++ chunks) (chunks_of-append one.added more.added) ∙ append_assoc (chunks_of one.added) (chunks_of more.added) chunks in
        let left : room - length one.added - length more.added ≡ room - length (one.added ++ more.added) =
        omega (arith, length-append one.added more.added) in
        ap (λ l. and_then (part (state_with slots records forks room l (chunks_of (one.added ++ more.added) ++ chunks))) next) prefixes
        ∙ ap (λ l. and_then (part (state_with slots records forks room (reads_of one.added ++ (reads_of more.added ++ reads)) l)) next) draws
        ∙ ap (λ o. and_then o next) (m.makes records forks (reads_of more.added ++ reads) (chunks_of more.added ++ chunks))
        ∙ n.makes (records ++ one.added) (forks ++ one.forks) reads chunks
        ∙ ap (λ l. finished finish (state_with more.slots l ((forks ++ one.forks) ++ more.forks) (room - length one.added - length more.added) reads chunks))
        (append_assoc records one.added more.added)
        ∙ ap (λ l. finished finish (state_with more.slots (records ++ (one.added ++ more.added)) l (room - length one.added - length more.added) reads chunks))
        (append_assoc forks one.forks more.forks)
        ∙ ap (λ n. finished finish (state_with more.slots (records ++ (one.added ++ more.added)) (forks ++ (one.forks ++ more.forks)) n reads chunks)) left;
  }

-- a part that leaves the state as it is
pub makes-stays : {A : Type 0} (part : State → Outcome A) (slots : List ℤ) (room : ℕ) (finish : Finish A) →
    ((s : State) → s.slots ≡ slots → s.room ≡ room → part s ≡ finished finish s) → Makes part slots room (adds slots []) finish
makes-stays part slots room finish same =
    let still = makes-nothing finish slots room in
    record {
      within = still.within;
      makes = λ records forks reads chunks.
          same (state_with slots records forks room reads chunks) refl refl ∙ still.makes records forks reads chunks;
    }

-- ---- single steps

-- the state after one record more
one_more : {A : Type 0} (a : A) (r : Record) (slots : List ℤ) (records : List Record) (forks : List Fork) (n : ℕ) (reads : List ℤ) (chunks : List ℕ) →
    Gives a (state_with slots (records ++ r ∷ []) forks n reads chunks)
    ≡ Gives a (state_with slots (records ++ r ∷ []) (forks ++ []) (suc n - length (r ∷ [])) reads chunks)
one_more a r slots records forks n reads chunks =
    let left : n ≡ suc n - length (r ∷ []) = omega arith in
    ap (λ f. Gives a (state_with slots (records ++ r ∷ []) f n reads chunks)) (sym (append-nil forks))
    ∙ ap (λ k. Gives a (state_with slots (records ++ r ∷ []) (forks ++ []) k reads chunks)) left

-- a record that is no Read and no Chunk
pub makes-put : (r : Record) (slots : List ℤ) (room : ℕ) → 0 < room → value_read r.kind r.value ≡ None → number_drawn r.kind r.addr ≡ None →
    Makes (put r) slots room (adds slots (r ∷ [])) (Returned tt)
makes-put r slots zero some none none' = absurd (omega arith)
makes-put r slots (suc n) some none none' = record {
  within = omega arith;
  makes = λ records forks reads chunks.
      ap (λ o. put r (state_with slots records forks (suc n) (cons_option o [] ++ reads) (chunks_of (r ∷ []) ++ chunks))) none
      ∙ ap (λ o. put r (state_with slots records forks (suc n) reads (cons_option o [] ++ chunks))) none'
      ∙ put-room r (state_with slots records forks (suc n) reads chunks) n refl
      ∙ one_more tt r slots records forks n reads chunks;
}

pub makes-put_full : (r : Record) (slots : List ℤ) → Makes (put r) slots 0 (adds slots []) (Halted LogFull r.line)
makes-put_full r slots = makes-stays (put r) slots 0 (Halted LogFull r.line) (λ s same full. put-full r s full)

-- a read of a value that the element can hold
pub makes-read : (e : Element) (site line : ℕ) (slots : List ℤ) (room : ℕ) (v : ℤ) → 0 < room → fitted v e.width ≡ v → FitsSigned w64 v →
    Makes (read e site line) slots room (adds slots (access kind.Read e site line v ∷ [])) (Returned v)
makes-read e site line slots zero v some same fits = absurd (omega arith)
makes-read e site line slots (suc n) v some same fits = record {
  within = omega arith;
  makes = λ records forks reads chunks.
      ap (λ w. read e site line (state_with slots records forks (suc n) (w ∷ reads) chunks)) (to_z-of_z w64 v fits)
      ∙ read-room e site line (state_with slots records forks (suc n) (v ∷ reads) chunks) n v reads refl refl
      ∙ ap (λ w. Gives w (state_with slots (records ++ access kind.Read e site line w ∷ []) forks n reads chunks)) same
      ∙ one_more v (access kind.Read e site line v) slots records forks n reads chunks;
}

pub makes-read_full : (e : Element) (site line : ℕ) (slots : List ℤ) → Makes (read e site line) slots 0 (adds slots []) (Halted LogFull line)
makes-read_full e site line slots = makes-stays (read e site line) slots 0 (Halted LogFull line) (λ s same full. read-full e site line s full)

-- a draw whose record holds this number
pub makes-draw : (line n : ℕ) (slots : List ℤ) (room q : ℕ) → 0 < room → q ≤ n →
    Makes (draw line n) slots room (adds slots (event kind.Chunk line q n ∷ [])) (Returned q)
makes-draw line n slots zero q some below = absurd (omega arith)
makes-draw line n slots (suc k) q some below =
    let least : min q n ≡ q = omega arith in
    record {
      within = omega arith;
      makes = λ records forks reads chunks.
          draw-room line n (state_with slots records forks (suc k) reads (q ∷ chunks)) k q chunks refl refl
          ∙ ap (λ m. Gives q (state_with slots (records ++ event kind.Chunk line m n ∷ []) forks k reads chunks)) least
          ∙ one_more q (event kind.Chunk line q n) slots records forks k reads chunks;
    }

pub makes-draw_full : (line n : ℕ) (slots : List ℤ) → Makes (draw line n) slots 0 (adds slots []) (Halted LogFull line)
makes-draw_full line n slots = makes-stays (draw line n) slots 0 (Halted LogFull line) (λ s same full. draw-full line n s full)

-- ---- terms

module _ (at : Site) (slots : List ℤ) (room : ℕ) where
  pub makes-Number : (n : ℤ) → MakesValue at (tree.Number n) slots room [] (Returned n)
  makes-Number n = makes-stays _ slots room (Returned n) (λ s same full. value-Number at n s)

  pub makes-Slot : (k : ℕ) → MakesValue at (tree.Slot k) slots room [] (Returned (slice_index_or slots k (pos 0)))
  makes-Slot k =
      makes-stays _ slots room (Returned (slice_index_or slots k (pos 0)))
      (λ s same full. value-Slot at k s ∙ ap (λ l. Gives (slice_index_or l k (pos 0)) s) same)

  pub makes-Tid : MakesValue at tree.Tid slots room [] (Returned (pos at.lane))
  makes-Tid = makes-stays _ slots room (Returned (pos at.lane)) (λ s same full. value-Tid at s)

  pub makes-Span : MakesValue at tree.Span slots room [] (Returned (pos at.span))
  makes-Span = makes-stays _ slots room (Returned (pos at.span)) (λ s same full. value-Span at s)
