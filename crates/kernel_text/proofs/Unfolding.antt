-- What fulfils wants, without its first token.
use Rattle.std.proofs.Common.{◌≡◌, ℕ, ℤ, Bool, true, false, List, [], ◌∷◌, ◌++◌, ◌⊎◌, inl, inr, Option, Some, None, refl, sym, ap, subst, ◌∙◌}
use Rattle.kernel_text.specs.declared.token.Word.TheVariants as word
use Rattle.kernel_text.specs.declared.token.Sign.TheVariants as sign
use Rattle.kernel_text.specs.declared.token.Lexeme.{Lexeme}
use Rattle.kernel_text.specs.declared.token.Lexeme.TheVariants.{Named, Number, Reserved, Mark}
use Rattle.kernel_text.specs.declared.token.Token.{Token}
use Rattle.kernel_text.specs.declared.judging.Want.{Want}
use Rattle.kernel_text.specs.declared.judging.Want.TheVariants as want
use Rattle.kernel_text.specs.Grammar.{op_of, update_sign, named, number, reserved, mark, ScheduleTree, Unsaid, Static, StaticBy, Dynamic, DynamicBy}
use Rattle.kernel_text.specs.Wanting.{Value, value_tokens, value_levels, Fill, fill_tokens, fill_levels, Fulfils, IsOpSign, GoesOnWith, EndsAt, AreDelimited, token, LeadsTo, Skips, Refuses}
use Rattle.kernel_text.proofs.Operators.{op_of-sign}

pub lexeme-of : (t u : Token) (ts us : List Token) → t ∷ ts ≡ u ∷ us → t.lexeme ≡ u.lexeme
lexeme-of t u ts us e = let one : t ≡ u = cc in ap (λ (t : Token). t.lexeme) one

pub tail-of : (t u : Token) (ts us : List Token) → t ∷ ts ≡ u ∷ us → ts ≡ us
tail-of t u ts us e = cc

abbrev pub Leaves : List Want → ℕ → List Token → List ℕ → Type 0
Leaves after level ts ls = (more : List ℕ) × (ls ≡ level ∷ more) × Fulfils after ts more

pub puts-by : (before : List Want) (f : Fill before) {ts : List Token} {ls : List ℕ} → fill_tokens before f ≡ ts → fill_levels before f ≡ ls → Fulfils before ts ls
puts-by before f e h = record { fill = f; tokens = e; levels = h }

pub leaves-by : (before : List Want) (f : Fill before) (u : Token) {t : Token} {level : ℕ} (after : List Want) (g : Fill after) {ts : List Token} → fill_tokens before f ≡ u ∷ fill_tokens after g
    → fill_levels before f ≡ level ∷ fill_levels after g → fill_tokens before f ≡ t ∷ ts → Leaves after level ts (fill_levels before f)
leaves-by before f u after g et el e = (fill_levels after g, el, record { fill = g; tokens = tail-of u _ _ _ (sym et ∙ e); levels = refl })

pub takes : (before : List Want) (x : Lexeme) (level : ℕ) (after : List Want) → AreDelimited after
    → ((line : ℕ) (g : Fill after) → Fulfils before (token x line ∷ fill_tokens after g) (level ∷ fill_levels after g))
    → ((f : Fill before) (line : ℕ) (ts : List Token) → fill_tokens before f ≡ token x line ∷ ts → Leaves after level ts (fill_levels before f)) → LeadsTo before x level after
takes before x level after a p l = record {
  apart = a;
  puts = λ line ts ls r.
      let f = p line r.fill in
      record { fill = f.fill; tokens = f.tokens ∙ ap (λ (us : List Token). token x line ∷ us) r.tokens; levels = f.levels ∙ ap (λ (ms : List ℕ). level ∷ ms) r.levels };
  leaves = λ line ts ls r. let left = l r.fill line ts r.tokens in (left.0, sym r.levels ∙ left.1, left.2);
}

-- ---- what stands behind

pub weaker : (w v : Want) (ts : List Token) → ((x : Lexeme) → GoesOnWith v x → GoesOnWith w x) → EndsAt w ts → EndsAt v ts
weaker w v [] h e = λ x g. e x (h x g)
weaker w v (t ∷ ts) h e = λ g. e (h t.lexeme g)

pub closed : (w : Want) → ((x : Lexeme) → GoesOnWith w x → ⊥) → (ts : List Token) → EndsAt w ts
closed w h [] = h
closed w h (t ∷ ts) = h t.lexeme

pub never-on : (w : Want) (s : List Want) (t : Token) (ts : List Token) → AreDelimited (w ∷ s) → (f : Fill s) → fill_tokens s f ≡ t ∷ ts → GoesOnWith w t.lexeme → ⊥
never-on w s t ts a f e = subst (λ (us : List Token). EndsAt w us) e (a.0 f)

pub not-op : (x : Lexeme) → op_of x ≡ None → IsOpSign x → ⊥
not-op x none is = let some : Some is.0 ≡ None = sym (op_of-sign is.0) ∙ sym (ap op_of is.1) ∙ none in absurd cc

-- ---- wants of one token

abbrev pub IsOne : (w : Want) → Value w → Type 0
IsOne w v = (t : Token) × (value_tokens w v ≡ t ∷ []) × (value_levels w v ≡ 0 ∷ [])

pub one-takes : (w : Want) (x : Lexeme) (make : ℕ → Value w) → ((line : ℕ) → value_tokens w (make line) ≡ token x line ∷ []) → ((line : ℕ) → value_levels w (make line) ≡ 0 ∷ [])
    → ((v : Value w) → ((value_tokens w v ≡ []) × GoesOnWith w x) ⊎ IsOne w v) → (s : List Want) → AreDelimited (w ∷ s) → LeadsTo (w ∷ s) x 0 s
one-takes w x make mt ml each s a =
    takes (w ∷ s) x 0 s a.1
    (λ line g. puts-by (w ∷ s) (make line, g) (ap (λ (us : List Token). us ++ fill_tokens s g) (mt line)) (ap (λ (ms : List ℕ). ms ++ fill_levels s g) (ml line)))
    (λ f line ts e. left f.0 f.1 line ts (each f.0) e)
  where
    left : (v : Value w) (g : Fill s) (line : ℕ) (ts : List Token) → ((value_tokens w v ≡ []) × GoesOnWith w x) ⊎ IsOne w v → value_tokens w v ++ fill_tokens s g ≡ token x line ∷ ts
        → Leaves s 0 ts (value_levels w v ++ fill_levels s g)
    left v g line ts (inl none) e = absurd (never-on w s (token x line) ts a g (sym (ap (λ (us : List Token). us ++ fill_tokens s g) none.0) ∙ e) none.1)
    left v g line ts (inr one) e =
        leaves-by (w ∷ s) (v, g) one.0 s g (ap (λ (us : List Token). us ++ fill_tokens s g) one.1) (ap (λ (ms : List ℕ). ms ++ fill_levels s g) one.2) e

pub skips : (w : Want) (x : Lexeme) (v : Value w) → value_tokens w v ≡ [] → value_levels w v ≡ []
    → ((v : Value w) (line : ℕ) (ts more : List Token) → value_tokens w v ++ more ≡ token x line ∷ ts → (value_tokens w v ≡ []) × (value_levels w v ≡ [])) → (s : List Want) → Skips w s x
skips w x v et el h s = record {
  empty = record { fill = (v, tt); tokens = ap (λ (us : List Token). us ++ []) et; levels = ap (λ (ms : List ℕ). ms ++ []) el };
  leaves = λ line ts ls r.
      let f = r.fill in
      let none = h f.0 line ts (fill_tokens s f.1) r.tokens in
      record {
        fill = f.1;
        tokens = sym (ap (λ (us : List Token). us ++ fill_tokens s f.1) none.0) ∙ r.tokens;
        levels = sym (ap (λ (ms : List ℕ). ms ++ fill_levels s f.1) none.1) ∙ r.levels;
      };
}

pub name-takes : (name : List ℕ) (s : List Want) → AreDelimited (want.Name ∷ s) → LeadsTo (want.Name ∷ s) (Named name) 0 s
name-takes name s a = one-takes want.Name (Named name) (λ line. (line, name)) (λ _. refl) (λ _. refl) (λ v. inr (named v.0 v.1, refl, refl)) s a

pub number-takes : (value : ℤ) (s : List Want) → AreDelimited (want.Number ∷ s) → LeadsTo (want.Number ∷ s) (Number value) 0 s
number-takes value s a = one-takes want.Number (Number value) (λ line. (line, value)) (λ _. refl) (λ _. refl) (λ v. inr (number v.0 v.1, refl, refl)) s a

pub in-takes : (s : List Want) → AreDelimited (want.In ∷ s) → LeadsTo (want.In ∷ s) (Reserved word.In) 0 s
in-takes s a = one-takes want.In (Reserved word.In) (λ line. line) (λ _. refl) (λ _. refl) (λ line. inr (reserved line word.In, refl, refl)) s a

pub assign-takes : (s : List Want) → AreDelimited (want.Assign ∷ s) → LeadsTo (want.Assign ∷ s) (Mark sign.Assign) 0 s
assign-takes s a = one-takes want.Assign (Mark sign.Assign) (λ line. line) (λ _. refl) (λ _. refl) (λ line. inr (mark line sign.Assign, refl, refl)) s a

pub open_bracket-takes : (s : List Want) → AreDelimited (want.OpenBracket ∷ s) → LeadsTo (want.OpenBracket ∷ s) (Mark sign.OpenBracket) 0 s
open_bracket-takes s a = one-takes want.OpenBracket (Mark sign.OpenBracket) (λ line. line) (λ _. refl) (λ _. refl) (λ line. inr (mark line sign.OpenBracket, refl, refl)) s a

signed : (minus : Bool) (s : List Want) → AreDelimited (want.UpdateSign ∷ s) → LeadsTo (want.UpdateSign ∷ s) (Mark (update_sign minus)) 0 s
signed minus s a =
    one-takes want.UpdateSign (Mark (update_sign minus)) (λ line. (minus, line)) (λ _. refl) (λ _. refl) (λ v. inr (mark v.1 (update_sign v.0), refl, refl)) s a

abbrev pub is_update : Lexeme → Bool
is_update (Mark sign.PlusAssign) = true
is_update (Mark sign.MinusAssign) = true
is_update _ = false

pub update_sign-takes : (x : Lexeme) (s : List Want) → is_update x ≡ true → AreDelimited (want.UpdateSign ∷ s) → LeadsTo (want.UpdateSign ∷ s) x 0 s
update_sign-takes (Mark sign.PlusAssign) s is a = signed false s a
update_sign-takes (Mark sign.MinusAssign) s is a = signed true s a
update_sign-takes _ s is a = absurd cc

update_sign-is : (minus : Bool) → is_update (Mark (update_sign minus)) ≡ true
update_sign-is false = refl
update_sign-is true = refl

-- nothing else stands there
pub update_sign-refuses : (x : Lexeme) → is_update x ≡ false → (s : List Want) → Refuses (want.UpdateSign ∷ s) x
update_sign-refuses x not s line ts ls r =
    let v = r.fill.0 in
    let same = lexeme-of _ _ _ _ r.tokens in
    let both : true ≡ false = sym (update_sign-is v.0) ∙ ap is_update same ∙ not in absurd cc

pub close_bracket-takes : (s : List Want) → AreDelimited (want.CloseBracket ∷ s) → LeadsTo (want.CloseBracket ∷ s) (Mark sign.CloseBracket) 0 s
close_bracket-takes s a = one-takes want.CloseBracket (Mark sign.CloseBracket) (λ line. line) (λ _. refl) (λ _. refl) (λ line. inr (mark line sign.CloseBracket, refl, refl)) s a

pub close_paren-takes : (s : List Want) → AreDelimited (want.CloseParen ∷ s) → LeadsTo (want.CloseParen ∷ s) (Mark sign.CloseParen) 0 s
close_paren-takes s a = one-takes want.CloseParen (Mark sign.CloseParen) (λ line. line) (λ _. refl) (λ _. refl) (λ line. inr (mark line sign.CloseParen, refl, refl)) s a

pub close_brace-takes : (s : List Want) → AreDelimited (want.CloseBrace ∷ s) → LeadsTo (want.CloseBrace ∷ s) (Mark sign.CloseBrace) 0 s
close_brace-takes s a = one-takes want.CloseBrace (Mark sign.CloseBrace) (λ line. line) (λ _. refl) (λ _. refl) (λ line. inr (mark line sign.CloseBrace, refl, refl)) s a

pub dots-takes : (s : List Want) → AreDelimited (want.Dots ∷ s) → LeadsTo (want.Dots ∷ s) (Mark sign.Dots) 0 s
dots-takes s a = one-takes want.Dots (Mark sign.Dots) (λ line. line) (λ _. refl) (λ _. refl) (λ line. inr (mark line sign.Dots, refl, refl)) s a

-- ---- wants that may be left out

abbrev pub StartsOrNot : (w : Want) → (Lexeme → Bool) → Value w → Type 0
StartsOrNot w is v = ((value_tokens w v ≡ []) × (value_levels w v ≡ [])) ⊎ ((t : Token) × (ts : List Token) × (value_tokens w v ≡ t ∷ ts) × (is t.lexeme ≡ true))

option-skips : (w : Want) (x : Lexeme) (is : Lexeme → Bool) → is x ≡ false → (v : Value w) → value_tokens w v ≡ [] → value_levels w v ≡ [] → ((v : Value w) → StartsOrNot w is v) → (s : List Want) → Skips w s x
option-skips w x is not v et el each s = skips w x v et el (λ v line ts more e. rest v line ts more (each v) e) s
  where
    rest : (v : Value w) (line : ℕ) (ts more : List Token) → StartsOrNot w is v → value_tokens w v ++ more ≡ token x line ∷ ts → (value_tokens w v ≡ []) × (value_levels w v ≡ [])
    rest v line ts more (inl none) e = none
    rest v line ts more (inr first) e =
        let same = lexeme-of first.0 (token x line) _ _ (sym (ap (λ (us : List Token). us ++ more) first.2) ∙ e) in
        let both : true ≡ false = sym first.3 ∙ ap is same ∙ not in absurd cc

pub chunk-takes : (value : ℤ) (s : List Want) → AreDelimited (want.Chunk ∷ s) → LeadsTo (want.Chunk ∷ s) (Number value) 0 s
chunk-takes value s a = one-takes want.Chunk (Number value) (λ line. Some (line, value)) (λ _. refl) (λ _. refl) each s a
  where
    each : (v : Option (ℕ × ℤ)) → ((value_tokens want.Chunk v ≡ []) × GoesOnWith want.Chunk (Number value)) ⊎ IsOne want.Chunk v
    each None = inl (refl, (value, refl))
    each (Some v) = inr (number v.0 v.1, refl, refl)

abbrev pub is_number : Lexeme → Bool
is_number (Number _) = true
is_number _ = false

pub chunk-skips : (x : Lexeme) (s : List Want) → is_number x ≡ false → Skips want.Chunk s x
chunk-skips x s e = option-skips want.Chunk x is_number e None refl refl each s
  where
    each : (v : Option (ℕ × ℤ)) → StartsOrNot want.Chunk is_number v
    each None = inl (refl, refl)
    each (Some v) = inr (number v.0 v.1, [], refl, refl)

pub nowait-takes : (s : List Want) → AreDelimited (want.Nowait ∷ s) → LeadsTo (want.Nowait ∷ s) (Reserved word.Nowait) 0 s
nowait-takes s a = one-takes want.Nowait (Reserved word.Nowait) (λ line. Some line) (λ _. refl) (λ _. refl) each s a
  where
    each : (v : Option ℕ) → ((value_tokens want.Nowait v ≡ []) × GoesOnWith want.Nowait (Reserved word.Nowait)) ⊎ IsOne want.Nowait v
    each None = inl (refl, refl)
    each (Some v) = inr (reserved v word.Nowait, refl, refl)

abbrev pub is_nowait : Lexeme → Bool
is_nowait (Reserved word.Nowait) = true
is_nowait _ = false

pub nowait-skips : (x : Lexeme) (s : List Want) → is_nowait x ≡ false → Skips want.Nowait s x
nowait-skips x s e = option-skips want.Nowait x is_nowait e None refl refl each s
  where
    each : (v : Option ℕ) → StartsOrNot want.Nowait is_nowait v
    each None = inl (refl, refl)
    each (Some v) = inr (reserved v word.Nowait, [], refl, refl)

pub section_name-takes : (name : List ℕ) (s : List Want) → AreDelimited (want.SectionName ∷ s) → LeadsTo (want.SectionName ∷ s) (Named name) 0 s
section_name-takes name s a = one-takes want.SectionName (Named name) (λ line. Some (line, name)) (λ _. refl) (λ _. refl) each s a
  where
    each : (v : Option (ℕ × List ℕ)) → ((value_tokens want.SectionName v ≡ []) × GoesOnWith want.SectionName (Named name)) ⊎ IsOne want.SectionName v
    each None = inl (refl, (name, refl))
    each (Some v) = inr (named v.0 v.1, refl, refl)

abbrev pub is_named : Lexeme → Bool
is_named (Named _) = true
is_named _ = false

pub section_name-skips : (x : Lexeme) (s : List Want) → is_named x ≡ false → Skips want.SectionName s x
section_name-skips x s e = option-skips want.SectionName x is_named e None refl refl each s
  where
    each : (v : Option (ℕ × List ℕ)) → StartsOrNot want.SectionName is_named v
    each None = inl (refl, refl)
    each (Some v) = inr (named v.0 v.1, [], refl, refl)

abbrev pub is_else : Lexeme → Bool
is_else (Reserved word.Else) = true
is_else _ = false

pub else-skips : (x : Lexeme) (n : ℕ) (s : List Want) → is_else x ≡ false → Skips (want.Else n) s x
else-skips x n s e = option-skips (want.Else n) x is_else e None refl refl each s
  where
    each : (v : Value (want.Else n)) → StartsOrNot (want.Else n) is_else v
    each None = inl (refl, refl)
    each (Some v) = inr (reserved v.0 word.Else, _, refl, refl)

abbrev pub is_bracket : Lexeme → Bool
is_bracket (Mark sign.OpenBracket) = true
is_bracket _ = false

pub index-skips : (x : Lexeme) (n : ℕ) (s : List Want) → is_bracket x ≡ false → Skips (want.Index n) s x
index-skips x n s e = option-skips (want.Index n) x is_bracket e None refl refl each s
  where
    each : (v : Value (want.Index n)) → StartsOrNot (want.Index n) is_bracket v
    each None = inl (refl, refl)
    each (Some v) = inr (mark v.opened sign.OpenBracket, _, refl, refl)

abbrev pub is_schedule : Lexeme → Bool
is_schedule (Reserved word.Static) = true
is_schedule (Reserved word.Dynamic) = true
is_schedule _ = false

pub schedule-skips : (x : Lexeme) (s : List Want) → is_schedule x ≡ false → Skips want.Schedule s x
schedule-skips x s e = option-skips want.Schedule x is_schedule e Unsaid refl refl each s
  where
    each : (v : ScheduleTree) → StartsOrNot want.Schedule is_schedule v
    each Unsaid = inl (refl, refl)
    each (Static at) = inr (reserved at word.Static, _, refl, refl)
    each (StaticBy at m c) = inr (reserved at word.Static, _, refl, refl)
    each (Dynamic at) = inr (reserved at word.Dynamic, _, refl, refl)
    each (DynamicBy at m c) = inr (reserved at word.Dynamic, _, refl, refl)
