-- What a read leaves of a log.
use Rattle.std.proofs.Common.{◌≡◌, inl, inr, refl, sym, ap, ◌∙◌, ℕ, ◌+◌, ◌<◌, ◌≤◌, List, [], ◌++◌, length, take, drop, Option, Some, None, append_assoc}
use Rattle.std.specs.Option.{option_map}
use Rattle.std.proofs.Math.Seq.{take-append-add}
use Rattle.std.proofs.lemmas.Bool.{cases_lt}
use Rattle.std.proofs.lemmas.List.{append-nil, take-append-drop, take-append-le}
use Rattle.std.proofs.lemmas.Option.{none-some, same_Some}
use Rattle.sw_base.specs.Environment.{Reads, WhereTold}
use Rattle.log_walk.specs.Unread.{unread}

-- the bytes that were there, those that came, and those that are left are the same as before
pub read_more : (told : Option (List ℕ)) (kept chunk past : List ℕ) (to n : ℕ) → length kept ≡ to → n ≤ length chunk → WhereTold told (λ bytes. Reads bytes 0 n chunk)
    → unread (take (to + n) (kept ++ (chunk ++ past))) (option_map (drop n) told) ≡ unread kept told
read_more None kept chunk past to n long fits reads = refl
read_more (Some bytes) kept chunk past to n long fits reads =
    ap Some (ap (λ (xs : List ℕ). xs ++ drop n bytes) (ap (λ (m : ℕ). take (m + n) (kept ++ (chunk ++ past))) (sym long) ∙ take-append-add kept (chunk ++ past) n
    ∙ ap (λ (xs : List ℕ). kept ++ xs) (take-append-le n chunk past fits ∙ (reads bytes refl).prefix))
    ∙ append_assoc kept (take n bytes) (drop n bytes)
    ∙ ap (λ (xs : List ℕ). kept ++ xs) (take-append-drop n bytes))

-- so many of the next bytes are ahead, or all where there are fewer
pub next_ahead : (ahead : List ℕ) (rest before : Option (List ℕ)) (left : List ℕ) (count : ℕ) → unread ahead rest ≡ before → before ≡ Some left → (length ahead < count → WhereTold rest (λ bytes. bytes ≡ [])) → take count ahead ≡ take count left
next_ahead ahead None before left count is told all = absurd (none-some left (is ∙ told))
next_ahead ahead (Some rest) before left count is told all =
    let same : ahead ++ rest ≡ left = same_Some (ahead ++ rest) left (is ∙ told) in
    elim (cases_lt (length ahead) count) [
      | inl short ↦ ap (take count) (sym (append-nil ahead) ∙ ap (λ (bs : List ℕ). ahead ++ bs) (sym (all short rest refl)) ∙ same)
      | inr enough ↦ sym (take-append-le count ahead rest enough) ∙ ap (take count) same
    ]

-- a file that was opened holds what is told of it
pub opened_file : {T : Type 0} (rest : T → Option (List ℕ)) (file : T) (held : Option (List ℕ)) → option_map rest (Some file) ≡ option_map Some held → (bytes : List ℕ) × (held ≡ Some bytes) × (rest file ≡ Some bytes)
opened_file rest file None same = cc same
opened_file rest file (Some bytes) same = (bytes, refl, same_Some (rest file) (Some bytes) same)
