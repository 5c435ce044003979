-- Draws one after another.
use Rattle.std.proofs.Common.{◌≡◌, ap, sym, ◌∙◌, ℕ, suc, ◌+◌, ◌-◌, ◌≤◌, List, [], ◌∷◌, ◌++◌, length, None, arith, append_assoc}
use Rattle.std.proofs.lemmas.List.{append-nil, length-append}
use Rattle.log_format.specs.Limit.{record_limit}
use Rattle.log_format.specs.declared.record.Record.{Record}
use Rattle.kernel_model.specs.State.{number_drawn}
use Rattle.shared_words.specs.declared.share.Share.{Share}
use Rattle.shared_words.specs.Handles.{HandValue}
use Rattle.lane_runner.specs.Drawing.{Tally, TellDraws, after_draws, HasDrawn}

share_same : (v : Share) (left more : ℕ) (drawn others : List (ℕ × ℕ)) → left ≡ more → drawn ≡ others → record v { left = left; drawn = drawn } ≡ record v { left = more; drawn = others }
share_same v left more drawn others same is = λ i. record v { left = same i; drawn = is i }

no_draws : (v : Share) → v ≡ after_draws [] v
no_draws v = share_same v v.left (v.left - 0) v.drawn (v.drawn ++ []) (omega arith) (sym (append-nil v.drawn))

more_draws : (v : Share) (one more : List (ℕ × ℕ)) → after_draws more (after_draws one v) ≡ after_draws (one ++ more) v
more_draws v one more =
    share_same v (v.left - length one - length more) (v.left - length (one ++ more)) ((v.drawn ++ one) ++ more) (v.drawn ++ (one ++ more))
    (let sum = length-append one more in omega (arith, sum)) (append_assoc v.drawn one more)

still_draws : (h : HandValue Share) → h ≡ record h { view = after_draws [] h.view }
still_draws h = ap (λ (v : Share). record h { view = v }) (no_draws h.view)

pub drew_none : (t : Tally) → HasDrawn t t []
drew_none t = record { drawn = []; draws = still_draws t.draws; tells = TellDraws.no_record t.next_loop }

pub drew_nothing : (t : Tally) (r : Record) → number_drawn r.kind r.addr ≡ None → HasDrawn t t (r ∷ [])
drew_nothing t r none = record { drawn = []; draws = still_draws t.draws; tells = TellDraws.other t.next_loop t.next_loop r [] [] none (TellDraws.no_record t.next_loop) }

-- a fork is no draw
pub drew_forked : (t : Tally) (n : ℕ) (r : Record) → number_drawn r.kind r.addr ≡ None → HasDrawn t (record t { forked = n }) (r ∷ [])
drew_forked t n r none = let d = drew_nothing t r none in record { drawn = d.drawn; draws = d.draws; tells = d.tells }

tells_both : (a b c : ℕ) (xs ys : List Record) (ds es : List (ℕ × ℕ)) → TellDraws a xs ds b → TellDraws b ys es c → TellDraws a (xs ++ ys) (ds ++ es) c
tells_both a b c [] ys ds es (TellDraws.no_record loop) later = later
tells_both a b c (r ∷ xs) ys ds es (TellDraws.other loop last x records drawn none t) later = TellDraws.other loop c x (records ++ ys) (drawn ++ es) none (tells_both loop b c records ys drawn es t later)
tells_both a b c (r ∷ xs) ys ds es (TellDraws.draw loop last number x records drawn is at below t) later =
    TellDraws.draw loop c number x (records ++ ys) (drawn ++ es) is at below (tells_both loop b c records ys drawn es t later)
tells_both a b c (r ∷ xs) ys ds es (TellDraws.closing loop last number x records drawn is at past t) later =
    TellDraws.closing loop c number x (records ++ ys) (drawn ++ es) is at past (tells_both (suc loop) b c records ys drawn es t later)

pub drew_then : (a b c : Tally) (xs ys : List Record) → HasDrawn a b xs → HasDrawn b c ys → HasDrawn a c (xs ++ ys)
drew_then a b c xs ys x y = record {
  drawn = x.drawn ++ y.drawn;
  draws =
      y.draws
      ∙ ap (λ (h : HandValue Share). record h { view = after_draws y.drawn h.view }) x.draws
      ∙ ap (λ (v : Share). record a.draws { view = v }) (more_draws a.draws.view x.drawn y.drawn);
  tells = tells_both a.next_loop b.next_loop c.next_loop xs ys x.drawn y.drawn x.tells y.tells;
}

-- each draw has a record
draws_have_records : (a b : ℕ) (xs : List Record) (ds : List (ℕ × ℕ)) → TellDraws a xs ds b → length ds ≤ length xs
draws_have_records a b [] ds (TellDraws.no_record loop) = omega arith
draws_have_records a b (r ∷ xs) ds (TellDraws.other loop last x records drawn none t) = let less = draws_have_records loop b records drawn t in omega (arith, less)
draws_have_records a b (r ∷ xs) ds (TellDraws.draw loop last number x records drawn is at below t) = let less = draws_have_records loop b records drawn t in omega (arith, less)
draws_have_records a b (r ∷ xs) ds (TellDraws.closing loop last number x records drawn is at past t) = let less = draws_have_records (suc loop) b records drawn t in omega (arith, less)

-- the hand may still draw as often as the log has room
pub draws_left : (a b : Tally) (xs : List Record) (count now : ℕ) → HasDrawn a b xs → now ≡ count + length xs → record_limit ≤ a.draws.view.left + count → record_limit ≤ b.draws.view.left + now
draws_left a b xs count now x is enough =
    let less = draws_have_records a.next_loop b.next_loop xs x.drawn x.tells in
    let left : b.draws.view.left ≡ a.draws.view.left - length x.drawn = ap (λ (h : HandValue Share). h.view.left) x.draws in
    omega (arith, less, left, is, enough)
