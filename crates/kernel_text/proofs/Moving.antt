-- What the code's calls give of a move.
use Rattle.std.proofs.Common.{◌≡◌, ℕ, ◌≤◌, true, List, [], ◌∷◌, ◌++◌, append-nil, Result, Ok, Err, refl, sym, ap, subst, ◌∙◌, arith}
use Rattle.std.specs.Prelude.{IfOk}
use Rattle.std.proofs.lemmas.List.Sums.{fold_push}
use Rattle.kernel_text.specs.declared.token.Lexeme.{Lexeme}
use Rattle.kernel_text.specs.declared.judging.Want.{Want}
use Rattle.kernel_text.specs.declared.judging.Moved.{Moved}
use Rattle.kernel_text.specs.declared.judging.Moved.TheVariants as moved
use Rattle.kernel_text.specs.declared.judging.Want.TheVariants as want
use Rattle.kernel_text.specs.declared.token.Token.{Token}
use Rattle.kernel_text.specs.Wanting.{value_tokens, value_levels, fill_tokens, fill_levels, Fulfils, AreDelimited, token, LeadsTo, Skips, Refuses, MovesTo, Moves, Opens, Alone, stack_of}
use Rattle.kernel_text.proofs.UnfoldingExprs.{operand-some}
use Rattle.kernel_text.proofs.UnfoldingOperators.{expr-takes, expr-refuses}

-- the wants are put on the stack
pub wanted : {E : Type 0} (r : Result Moved E) (w : Want) (x : Lexeme) (s after behind : List Want) → LeadsTo (w ∷ s) x 0 behind → IfOk r (λ m. (m ≡ moved.Takes) × (after ≡ behind)) → Moves r w x s after
wanted (Ok moved.Takes) w x s after behind t e = (0, omega arith, subst (λ (u : List Want). LeadsTo (w ∷ s) x 0 u) (sym e.1) t)
wanted (Ok _) w x s after behind t e = let same = e.0 in absurd cc
wanted (Err _) w x s after behind t e = tt

-- or would be too deep
pub deeper : {E : Type 0} (r : Result Moved E) (w : Want) (x : Lexeme) (level : ℕ) (s after behind given : List Want) → LeadsTo (w ∷ s) x level behind → (level ≤ 32 → given ≡ behind) → Opens r level after given → Moves r w x s after
deeper (Ok moved.Takes) w x level s after behind given t same o = (level, o.0, subst (λ (u : List Want). LeadsTo (w ∷ s) x level u) (sym (o.1 ∙ same o.0)) t)
deeper (Ok moved.Deep) w x level s after behind given t same o = (level, behind, o, t)
deeper (Ok moved.Fails) w x level s after behind given t same o = absurd o
deeper (Ok moved.Skips) w x level s after behind given t same o = absurd o
deeper (Err _) w x level s after behind given t same o = tt

-- a want of one token
pub alone : (m : Moved) (v w : Want) (x : Lexeme) (s : List Want) → v ≡ w → AreDelimited (v ∷ s) → Alone m w x → MovesTo m v x s s
alone m v w x s e a l = subst (λ (v : Want). MovesTo m v x s s) (sym e) (same m (subst (λ (v : Want). AreDelimited (v ∷ s)) e a) l)
  where
    same : (m : Moved) → AreDelimited (w ∷ s) → Alone m w x → MovesTo m w x s s
    same moved.Fails a l = l s
    same moved.Skips a l = (l s, refl)
    same moved.Takes a l = (0, omega arith, l s a)
    same moved.Deep a l = absurd l

-- a whole expression is wanted as its terms are
pub as-terms : {E : Type 0} (r : Result Moved E) (n : ℕ) (x : Lexeme) (s after : List Want) → Moves r (want.Operand n) x (want.Operators n true ∷ s) after → Moves r (want.Expr n) x s after
as-terms (Ok moved.Fails) n x s after m = expr-refuses n s x m
as-terms (Ok moved.Skips) n x s after m = absurd (operand-some n (want.Operators n true ∷ s) x m.0)
as-terms (Ok moved.Takes) n x s after m = (m.0, m.1, expr-takes n s x m.0 after m.2)
as-terms (Ok moved.Deep) n x s after m = (m.0, m.1, m.2, expr-takes n s x m.0 m.1 m.3)
as-terms (Err _) n x s after m = tt

pub stack_of-push : (ws : List Want) (w : Want) → stack_of (ws ++ w ∷ []) ≡ w ∷ stack_of ws
stack_of-push ws w = fold_push (λ (s : List Want) (w : Want). w ∷ s) [] ws w

-- ---- a token where all of the stack is wanted in turn

-- before the lexeme the wants that are left stand for all
pub record Reaches (x : Lexeme) (before now : List Want) : Type 0 where
  pub apart : AreDelimited now
  pub puts : (line : ℕ) (ts : List Token) (ls : List ℕ) → Fulfils now (token x line ∷ ts) ls → Fulfils before (token x line ∷ ts) ls
  pub leaves : (line : ℕ) (ts : List Token) (ls : List ℕ) → Fulfils before (token x line ∷ ts) ls → Fulfils now (token x line ∷ ts) ls

pub reaches-all : (x : Lexeme) (s : List Want) → AreDelimited s → Reaches x s s
reaches-all x s a = record { apart = a; puts = λ line ts ls r. r; leaves = λ line ts ls r. r }

pub reaches-more : (x : Lexeme) (before : List Want) (w : Want) (s : List Want) → Reaches x before (w ∷ s) → Skips w s x → Reaches x before s
reaches-more x before w s r k = record {
  apart = r.apart.1;
  puts = λ line ts ls f.
      let v = k.empty in
      r.puts line ts ls (record {
        fill = (v.fill.0, f.fill);
        tokens = ap (λ (us : List Token). us ++ fill_tokens s f.fill) (sym (append-nil (value_tokens w v.fill.0)) ∙ v.tokens) ∙ f.tokens;
        levels = ap (λ (ms : List ℕ). ms ++ fill_levels s f.fill) (sym (append-nil (value_levels w v.fill.0)) ∙ v.levels) ∙ f.levels;
      });
  leaves = λ line ts ls f. k.leaves line ts ls (r.leaves line ts ls f);
}

pub reaches-refuses : (x : Lexeme) (before now : List Want) → Reaches x before now → Refuses now x → Refuses before x
reaches-refuses x before now r h line ts ls f = h line ts ls (r.leaves line ts ls f)

pub reaches-none : (x : Lexeme) (before now : List Want) → now ≡ [] → Reaches x before now → Refuses before x
reaches-none x before (_ ∷ _) e r line ts ls f = absurd cc
reaches-none x before [] e r line ts ls f = let g = r.leaves line ts ls f in let same = g.tokens in absurd cc

pub reaches-takes : (x : Lexeme) (before now : List Want) (level : ℕ) (after : List Want) → Reaches x before now → LeadsTo now x level after → LeadsTo before x level after
reaches-takes x before now level after r t = record {
  apart = t.apart;
  puts = λ line ts ls f. r.puts line (ts) (level ∷ ls) (t.puts line ts ls f);
  leaves = λ line ts ls f. t.leaves line ts ls (r.leaves line ts ls f);
}
