-- The first hand on the counters, once those of lanes were joined to it one after another.
use Rattle.std.proofs.Common.{◌≡◌, refl, ap, sym, ◌∙◌, ℕ, zero, suc, ◌-◌, List, [], ◌∷◌, ◌++◌, append_assoc, length, map, true, slice_index_or, arith}
use Rattle.std.proofs.lemmas.List.{append-nil, map-append}
use Rattle.shared_words.specs.declared.share.Share.{Share}
use Rattle.shared_words.specs.Draws.{regained}
use Rattle.shared_words.specs.Handles.{HandValue, with_view}
use Rattle.region_runner.specs.Drawing.{drawn_by, regained_all}
use Rattle.region_runner.specs.Gathering.{ClosedValue, draws_view}

regained_last : (ws : List Share) (w v : Share) → regained_all (ws ++ w ∷ []) v ≡ regained (regained_all ws v) w
regained_last [] w v = refl
regained_last (u ∷ ws) w v = regained_last ws w (regained v u)

pub regained_first : (ws : List Share) (v : Share) → (regained_all ws v).first ≡ v.first
regained_first [] v = refl
regained_first (w ∷ ws) v = regained_first ws (regained v w)

-- one more was joined
pub regained_more : (cs : List ClosedValue) (c : ClosedValue) (old mid new : HandValue Share) → mid ≡ with_view old (regained_all (map draws_view cs) old.view) → new ≡ with_view mid (regained mid.view c.draws.view)
    → new ≡ with_view old (regained_all (map draws_view (cs ++ c ∷ [])) old.view)
regained_more cs c old mid new so_far joined =
    joined
    ∙ ap (λ (h : HandValue Share). with_view h (regained h.view c.draws.view)) so_far
    ∙ ap (λ (v : Share). with_view old v) (sym (regained_last (map draws_view cs) c.draws.view old.view))
    ∙ ap (λ (ws : List Share). with_view old (regained_all ws old.view)) (sym (map-append draws_view cs (c ∷ [])))

pub regained_none : (old : HandValue Share) → old.there ≡ true → old ≡ with_view old (regained_all (map draws_view []) old.view)
regained_none old there = λ i. record old { there = there i }

-- ---- what it knows then

drawn_later : (mine : ℕ → List (ℕ × ℕ)) (first count : ℕ) → drawn_by mine (suc first) count ≡ drawn_by (λ k. mine (suc k)) first count
drawn_later mine first zero = refl
drawn_later mine first (suc count) = ap (λ (ds : List (ℕ × ℕ)). mine (suc first) ++ ds) (drawn_later mine (suc first) count)

-- all that was drawn, lane after lane
pub regained_drawn : (cs : List ClosedValue) (d : ClosedValue) (v : Share) → (regained_all (map draws_view cs) v).drawn ≡ v.drawn ++ drawn_by (λ k. (slice_index_or cs k d).draws.view.drawn) 0 (length cs)
regained_drawn [] d v = sym (append-nil v.drawn)
regained_drawn (c ∷ cs) d v =
    regained_drawn cs d (regained v c.draws.view)
    ∙ append_assoc v.drawn c.draws.view.drawn (drawn_by (λ k. (slice_index_or cs k d).draws.view.drawn) 0 (length cs))
    ∙ ap (λ (ds : List (ℕ × ℕ)). v.drawn ++ (c.draws.view.drawn ++ ds)) (sym (drawn_later (λ k. (slice_index_or (c ∷ cs) k d).draws.view.drawn) 0 (length cs)))

-- each of them is home
pub regained_out : (cs : List ClosedValue) (v : Share) → (regained_all (map draws_view cs) v).out ≡ v.out - length cs
regained_out [] v = omega arith
regained_out (c ∷ cs) v = let rest = regained_out cs (regained v c.draws.view) in omega arith

-- the hand on the counters that gathered the lanes
pub gathered_draws : (cs : List ClosedValue) (d : ClosedValue) (old new : HandValue Share) → new ≡ with_view old (regained_all (map draws_view cs) old.view)
    → (new.view.drawn ≡ old.view.drawn ++ drawn_by (λ k. (slice_index_or cs k d).draws.view.drawn) 0 (length cs)) × (new.view.out ≡ old.view.out - length cs)
gathered_draws cs d old new is = (ap (λ (h : HandValue Share). h.view.drawn) is ∙ regained_drawn cs d old.view, ap (λ (h : HandValue Share). h.view.out) is ∙ regained_out cs old.view)
