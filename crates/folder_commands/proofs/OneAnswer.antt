-- One answer is due: a folder has one first bad place or holds one run, whose race pairs stand in one order.
use Rattle.std.proofs.Common.{◌≡◌, ◌⊎◌, refl, ℕ, suc, List, [], ◌∷◌, Contains, inl, inr, sym, ◌∙◌, ap, subst, arith}
use Rattle.std.specs.declared.cmp.Ordering.TheVariants.{Less}
use Rattle.std.specs.Ordering.{ordering_reverse}
use Rattle.std.specs.List.{AllByRecursion}
use Rattle.std.specs.List.Sorted.{IsStrictlySortedBy}
use Rattle.std.proofs.lemmas.List.Elements.{Contains-append_cases, Contains-push_cases}
use Rattle.sw_base.specs.declared.path.Step.{Step}
use Rattle.sw_base.specs.Environment.{Files}
use Rattle.log_format.specs.declared.format.Format.{Format}
use Rattle.log_format.specs.declared.format.TheConstants.{FORMAT}
use Rattle.race_model.specs.BadPlace.{BadPlace, no_index, bad_row, missing_log, bad_record, too_many_segments}
use Rattle.race_model.specs.Trace.{Trace, logs_of}
use Rattle.race_model.specs.Race.{IsRacePair, Lists, pair_cmp}
use Rattle.race_laws.proofs.FolderTrace.{trace_once}
use Rattle.race_report.specs.Report.{report_text}
use Rattle.log_walk.proofs.FirstOnce.{first_bad_once, row_task_once}
use Rattle.pair_compare.proofs.Inserts.{pair_total}
use Rattle.folder_commands.specs.Check.{NamesLog, IsPlaceText, IsRefusedFolder, FolderDue, refused, answered, HasReport}
use Rattle.folder_commands.specs.Show.{ShowsRecords}
use Rattle.folder_commands.proofs.FolderAnswers.{no_bad_place}

not_in_nothing : (p : ℕ × ℕ) → Contains [] p → ⊥
not_in_nothing p h = omega (arith, h.1)

in_cons : (p q : ℕ × ℕ) (qs : List (ℕ × ℕ)) → Contains (q ∷ qs) p → (q ≡ p) ⊎ Contains qs p
in_cons p q qs h = elim (Contains-append_cases (q ∷ []) qs p h) [
  | inl first ↦ elim (Contains-push_cases [] q p first) [ inl none ↦ absurd (not_in_nothing p none) | inr same ↦ inl same ]
  | inr later ↦ inr later
]

in_later : (p q : ℕ × ℕ) (qs : List (ℕ × ℕ)) → Contains qs p → Contains (q ∷ qs) p
in_later p q qs (k, within, is) = (suc k, omega arith, is)

in_first : (q : ℕ × ℕ) (qs : List (ℕ × ℕ)) → Contains (q ∷ qs) q
in_first q qs = (0, omega arith, refl)

below : (q p : ℕ × ℕ) (qs : List (ℕ × ℕ)) → AllByRecursion (λ y. pair_cmp q y ≡ Less) qs → Contains qs p → pair_cmp q p ≡ Less
below q p [] all h = absurd (not_in_nothing p h)
below q p (r ∷ qs) all h = elim (in_cons p r qs h) [ inl same ↦ subst (λ (y : ℕ × ℕ). pair_cmp q y ≡ Less) same all.0 | inr later ↦ below q p qs all.1 later ]

-- a pair isn't below one that is below it
not_both : (p q : ℕ × ℕ) → pair_cmp p q ≡ Less → pair_cmp q p ≡ Less → ⊥
not_both p q pq qp = let e : Less ≡ ordering_reverse Less = sym pq ∙ pair_total.antisymm p q ∙ ap ordering_reverse qp in cc e

-- two ascending lists with the same pairs are the same
same_lists : (ps qs : List (ℕ × ℕ)) → IsStrictlySortedBy pair_cmp ps → IsStrictlySortedBy pair_cmp qs → ((p : ℕ × ℕ) → Contains ps p → Contains qs p) → ((p : ℕ × ℕ) → Contains qs p → Contains ps p)
    → ps ≡ qs
unfolding IsStrictlySortedBy
same_lists [] [] up uq there back = refl
same_lists [] (q ∷ qs) up uq there back = absurd (not_in_nothing q (back q (in_first q qs)))
same_lists (p ∷ ps) [] up uq there back = absurd (not_in_nothing p (there p (in_first p ps)))
same_lists (p ∷ ps) (q ∷ qs) up uq there back = let rest : ps ≡ qs = same_lists ps qs up.1 uq.1 there_rest back_rest in λ i. first i ∷ rest i
  where
    first : p ≡ q
    first = elim (in_cons p q qs (there p (in_first p ps))) [
      | inl same ↦ sym same
      | inr p_later ↦ elim (in_cons q p ps (back q (in_first q qs))) [
        | inl same ↦ same
        | inr q_later ↦ absurd (not_both p q (below p q ps up.0 q_later) (below q p qs uq.0 p_later))
      ]
    ]

    there_rest : (r : ℕ × ℕ) → Contains ps r → Contains qs r
    there_rest r h = elim (in_cons r q qs (there r (in_later r p ps h))) [
      | inl same ↦ let own : pair_cmp p p ≡ Less = subst (λ (y : ℕ × ℕ). pair_cmp p y ≡ Less) (sym (first ∙ same)) (below p r ps up.0 h) in absurd (not_both p p own own)
      | inr later ↦ later
    ]

    back_rest : (r : ℕ × ℕ) → Contains qs r → Contains ps r
    back_rest r h = elim (in_cons r p ps (back r (in_later r q qs h))) [
      | inl same ↦ let own : pair_cmp q q ≡ Less = subst (λ (y : ℕ × ℕ). pair_cmp q y ≡ Less) (sym same ∙ first) (below q r qs uq.0 h) in absurd (not_both q q own own)
      | inr later ↦ later
    ]

pub one_list : (P : ℕ × ℕ → Type 0) (ps qs : List (ℕ × ℕ)) → Lists P ps → Lists P qs → ps ≡ qs
one_list P ps qs one other = same_lists ps qs one.ascending other.ascending (λ p h. (other.each p).1 ((one.each p).0 h)) (λ p h. (one.each p).1 ((other.each p).0 h))

names_once : (format : Format) (files : Files) (dir : List ℕ) (row : ℕ) (text_of : List Step → List ℕ) (t u : List ℕ) → NamesLog format files dir row text_of t → NamesLog format files dir row text_of u → t ≡ u
names_once format files dir row text_of t u (p, is_p, t_is) (q, is_q, u_is) = t_is ∙ ap text_of (row_task_once files dir p q row is_p is_q) ∙ sym u_is

place_text_once : (format : Format) (files : Files) (dir : List ℕ) (place : BadPlace) (t u : List ℕ) → IsPlaceText format files dir place t → IsPlaceText format files dir place u → t ≡ u
place_text_once format files dir no_index t u a b = a ∙ sym b
place_text_once format files dir (bad_row n why) t u a b = a ∙ sym b
place_text_once format files dir (missing_log row) t u a b = names_once format files dir row _ t u a b
place_text_once format files dir (bad_record row n why) t u a b = names_once format files dir row _ t u a b
place_text_once format files dir (too_many_segments row n) t u a b = names_once format files dir row _ t u a b

pub refused_once : (format : Format) (files : Files) (dir : List ℕ) (s r : ℕ) (t u : List ℕ) → IsRefusedFolder format files dir s t → IsRefusedFolder format files dir r u → t ≡ u
refused_once format files dir s r t u a b =
    place_text_once format files dir b.place t u (subst (λ (p : BadPlace). IsPlaceText format files dir p t) (first_bad_once files dir a.place b.place a.first b.first) a.names) b.names

-- where the answer for a run is one, the answer for a folder is
pub due_once : (answer : Trace → ℕ → List ℕ → Type 0) → ((trace : Trace) (s r : ℕ) (t u : List ℕ) → answer trace s t → answer trace r u → t ≡ u)
    → (files : Files) (dir : List ℕ) (s r : ℕ) (t u : List ℕ) → FolderDue answer files dir s t → FolderDue answer files dir r u → t ≡ u
due_once answer once files dir s r t u (refused a) (refused b) = refused_once FORMAT files dir s r t u a b
due_once answer once files dir s r t u (refused a) (answered trace good is) = absurd (no_bad_place files dir trace good a.place a.first.bad)
due_once answer once files dir s r t u (answered trace good is) (refused b) = absurd (no_bad_place files dir trace good b.place b.first.bad)
due_once answer once files dir s r t u (answered one good a) (answered other also b) =
    once other s r t u (subst (λ (trace : Trace). answer trace s t) (trace_once files dir one other good.holds also.holds) a) b

report_once : (trace : Trace) (s r : ℕ) (t u : List ℕ) → HasReport trace s t → HasReport trace r u → t ≡ u
report_once trace s r t u a b = a.text_is ∙ ap report_text (one_list (IsRacePair (logs_of trace)) a.pairs b.pairs a.races b.races) ∙ sym b.text_is

records_once : (trace : Trace) (s r : ℕ) (t u : List ℕ) → ShowsRecords trace s t → ShowsRecords trace r u → t ≡ u
records_once trace s r t u a b = a.text_is ∙ sym b.text_is

pub one_report : (files : Files) (dir : List ℕ) (s r : ℕ) (t u : List ℕ) → FolderDue HasReport files dir s t → FolderDue HasReport files dir r u → t ≡ u
one_report = due_once HasReport report_once

pub one_listing : (files : Files) (dir : List ℕ) (s r : ℕ) (t u : List ℕ) → FolderDue ShowsRecords files dir s t → FolderDue ShowsRecords files dir r u → t ≡ u
one_listing = due_once ShowsRecords records_once
