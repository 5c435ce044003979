-- Two traces of a fixed task from one start go alike until they read different values of one element.
use Rattle.std.proofs.Common.{◌≡◌, refl, ap, sym, ◌∙◌, subst, ◌⊎◌, inl, inr, ℕ, zero, suc, List, [], ◌∷◌, ◌++◌, ℤ, All, append_assoc, w64}
use Rattle.std.proofs.lemmas.Int.{to_z-of_z}
use Rattle.kernel_syntax.proofs.Fitting.{fitted_fits}
use Rattle.kernel_syntax.specs.Program.{Program}
use Rattle.log_format.specs.declared.record.Record.{Record}
use Rattle.log_format.specs.declared.record.Kind.TheVariants as kind
use Rattle.log_format.specs.Fitting.{IsWidth, fitted}
use Rattle.kernel_model.specs.State.{State, Outcome, Gives, Stops, Wants, after, put, put_in, event, state_of, to_bits, from_bits}
use Rattle.kernel_model.specs.Value.{access}
use Rattle.kernel_model.specs.Trace.{run, task, Start, site_of, state_at, Ending, Wanting, ending_of}
use Rattle.kernel_model.proofs.Growing.{grows-plain, grows-put}
use Rattle.kernel_model.specs.Growth.{Grows}
use Rattle.kernel_model.proofs.Steps.{kept-after}
use Rattle.certainty_model.specs.Certain.{IsFixed}
use Rattle.certainty_model.proofs.Pairs.{FixedFork, Own, with, Parting, Pair}
use Rattle.certainty_model.proofs.FixedRuns.{run-pairs}

-- both read one element, and its values differ
pub record ReadApart (r q : Record) : Type 0 where
  pub left : r.kind ≡ kind.Read
  pub right : q.kind ≡ kind.Read
  pub address : q.addr ≡ r.addr
  pub size : q.size ≡ r.size
  pub apart : IsWidth r.size → q.value ≡ r.value → ⊥

-- Of traces that end so, the second has the records of the first, until one of them wants a value or both read different ones.
abbrev pub GoAlike : Ending → Ending → List Record → List Record → Type 0
GoAlike a b [] [] = (b ≡ a) ⊎ (a ≡ Wanting) ⊎ (b ≡ Wanting)
GoAlike a b [] (q ∷ qs) = a ≡ Wanting
GoAlike a b (r ∷ rs) [] = b ≡ Wanting
GoAlike a b (r ∷ rs) (q ∷ qs) = ((q ≡ r) × GoAlike a b rs qs) ⊎ ReadApart r q

module _ (a b : Ending) where
  alike_same : (rs : List Record) → b ≡ a → GoAlike a b rs rs
  alike_same [] same = inl same
  alike_same (r ∷ rs) same = inl (refl, alike_same rs same)

  alike_left : (rs more : List Record) → a ≡ Wanting → GoAlike a b rs (rs ++ more)
  alike_left [] [] wants = inr (inl wants)
  alike_left [] (q ∷ qs) wants = wants
  alike_left (r ∷ rs) more wants = inl (refl, alike_left rs more wants)

  alike_right : (rs more : List Record) → b ≡ Wanting → GoAlike a b (rs ++ more) rs
  alike_right [] [] wants = inr (inr wants)
  alike_right [] (q ∷ qs) wants = wants
  alike_right (r ∷ rs) more wants = inl (refl, alike_right rs more wants)

  alike_apart : (common : List Record) (r q : Record) (rs qs : List Record) → ReadApart r q → GoAlike a b (common ++ r ∷ rs) (common ++ q ∷ qs)
  alike_apart [] r q rs qs apart = inr apart
  alike_apart (c ∷ common) r q rs qs apart = inl (refl, alike_apart common r q rs qs apart)

-- a Read has the bytes of an element
abbrev pub AreSized : List Record → Type 0
AreSized [] = Unit {0}
AreSized (r ∷ rs) = (r.kind ≡ kind.Read → IsWidth r.size) × AreSized rs

pub sized_both : (rs qs : List Record) → AreSized rs → AreSized qs → AreSized (rs ++ qs)
sized_both [] qs one other = other
sized_both (r ∷ rs) qs one other = (one.0, sized_both rs qs one.1 other)

-- so traces that share their first records go alike after them
pub alike_past : (a b : Ending) (common rs qs : List Record) → AreSized common → GoAlike a b (common ++ rs) (common ++ qs) → GoAlike a b rs qs
alike_past a b [] rs qs sized alike = alike
alike_past a b (c ∷ common) rs qs sized (inl same) = alike_past a b common rs qs sized.1 same.1
alike_past a b (c ∷ common) rs qs sized (inr d) = absurd (d.apart (sized.0 d.left) refl)

same_bits : (v w : ℤ) (width : ℕ) → IsWidth width → to_bits (fitted w width) ≡ to_bits (fitted v width) → fitted v width ≡ fitted w width
same_bits v w width is same =
    sym (to_z-of_z w64 (fitted v width) (fitted_fits v width is)) ∙ (ap from_bits (sym same) ∙ to_z-of_z w64 (fitted w width) (fitted_fits w width is))

module _ (line : ℕ) where
  abbrev last : Record
  last = event kind.End line 0 0

  abbrev finish : Outcome (Unit {0}) → Outcome (Unit {0})
  finish m = after m (put last)

  finish_grows : (m : Outcome (Unit {0})) → Grows (state_of m) (state_of (finish m))
  finish_grows m = kept-after Grows grows-plain (state_of m) m (put last) (grows-plain.same (state_of m)) (λ t. grows-put last t refl)

  abbrev Alike : Outcome (Unit {0}) → Outcome (Unit {0}) → Type 0
  Alike m o = GoAlike (ending_of m) (ending_of o) (state_of m).records (state_of o).records

  -- more records, and then more
  added_twice : (a b c x y : List Record) → b ≡ a ++ x → c ≡ b ++ y → c ≡ a ++ (x ++ y)
  added_twice a b c x y one two = two ∙ (ap (λ (l : List Record). l ++ y) one ∙ append_assoc a x y)

  both_end : (room : ℕ) (c : State) (p q : Own) → Alike (put_in room last (with c p)) (put_in room last (with c q))
  both_end zero c p q = alike_same _ _ c.records refl
  both_end (suc room) c p q = alike_same _ _ (c.records ++ last ∷ []) refl

  parted : (m o : Outcome (Unit {0})) → Parting (state_of m) (state_of o) → Alike (finish m) (finish o)
  parted m o d =
      let cut = d.cut in
      let r = access kind.Read cut.element cut.site cut.line (fitted cut.left cut.element.width) in
      let q = access kind.Read cut.element cut.site cut.line (fitted cut.right cut.element.width) in
      let mine = finish_grows m in
      let other = finish_grows o in
      let left = added_twice (cut.core.records ++ r ∷ []) (state_of m).records (state_of (finish m)).records d.left_adds.added mine.added d.left_adds.records_are mine.records_are ∙ append_assoc cut.core.records (r ∷ []) (d.left_adds.added ++ mine.added) in
      let right = added_twice (cut.core.records ++ q ∷ []) (state_of o).records (state_of (finish o)).records d.right_adds.added other.added d.right_adds.records_are other.records_are ∙ append_assoc cut.core.records (q ∷ []) (d.right_adds.added ++ other.added) in
      subst (λ (l : List Record). GoAlike (ending_of (finish m)) (ending_of (finish o)) l (state_of (finish o)).records) (sym left)
      (subst (λ (l : List Record). GoAlike (ending_of (finish m)) (ending_of (finish o)) (cut.core.records ++ r ∷ (d.left_adds.added ++ mine.added)) l) (sym right)
      (alike_apart (ending_of (finish m)) (ending_of (finish o)) cut.core.records r q (d.left_adds.added ++ mine.added) (d.right_adds.added ++ other.added)
      (record { left = refl; right = refl; address = refl; size = refl; apart = λ is same. cut.apart (same_bits cut.left cut.right cut.element.width is same) })))

  pair_alike : (m o : Outcome (Unit {0})) → Pair m o → Alike (finish m) (finish o)
  unfolding put
  pair_alike _ _ (Pair.gives a c p q even) = both_end c.room c p q
  pair_alike _ _ (Pair.stops why at c p q even) = alike_same _ _ c.records refl
  pair_alike _ _ (Pair.left_wants c p o even adds) =
      let mine = finish_grows o in
      subst (λ (l : List Record). GoAlike Wanting (ending_of (finish o)) c.records l) (sym (added_twice c.records (state_of o).records (state_of (finish o)).records adds.added mine.added adds.records_are mine.records_are))
      (alike_left Wanting (ending_of (finish o)) c.records (adds.added ++ mine.added) refl)
  pair_alike _ _ (Pair.right_wants c q o even adds) =
      let mine = finish_grows o in
      subst (λ (l : List Record). GoAlike (ending_of (finish o)) Wanting l c.records) (sym (added_twice c.records (state_of o).records (state_of (finish o)).records adds.added mine.added adds.records_are mine.records_are))
      (alike_right (ending_of (finish o)) Wanting c.records (adds.added ++ mine.added) refl)
  pair_alike _ _ (Pair.parts m o d) = parted m o d

-- two traces of one start
pub traces_go_alike : (program : Program) (start : Start) (reads others : List ℤ) (chunks numbers : List ℕ) → IsFixed start.team.body
    → GoAlike (ending_of (task program start reads chunks)) (ending_of (task program start others numbers)) (state_of (task program start reads chunks)).records (state_of (task program start others numbers)).records
unfolding task
traces_go_alike program start reads others chunks numbers fixed =
    pair_alike start.team.end (run (site_of program start) start.team.body (state_at start reads chunks)) (run (site_of program start) start.team.body (state_at start others numbers))
    ((run-pairs (site_of program start) start.team.body fixed).pairs (state_at start [] []) (record { reads = reads; chunks = chunks }) (record { reads = others; chunks = numbers }) refl)

put_forks : (room : ℕ) (r : Record) (s : State) → (state_of (put_in room r s)).forks ≡ s.forks
put_forks zero r s = refl
put_forks (suc room) r s = refl

end_forks : (m : Outcome (Unit {0})) (r : Record) → (state_of (after m (put r))).forks ≡ (state_of m).forks
unfolding put
end_forks (Gives a s) r = put_forks s.room r s
end_forks (Stops why line s) r = refl
end_forks (Wants s) r = refl

-- the regions that a fixed task forks are of fixed teams
pub forks_fixed : (program : Program) (start : Start) (reads : List ℤ) (chunks : List ℕ) → IsFixed start.team.body → All FixedFork (state_of (task program start reads chunks)).forks
unfolding task
forks_fixed program start reads chunks fixed =
    let first = state_at start reads chunks in
    let adds = (run-pairs (site_of program start) start.team.body fixed).adds first in
    subst (All FixedFork) (sym (end_forks (run (site_of program start) start.team.body first) (event kind.End start.team.end 0 0) ∙ adds.forks_are)) adds.is.1
