-- What is known of the bytes that were read ahead.
use Rattle.std.proofs.Common.{◌≡◌, sym, ap, subst, ◌∙◌, arith, ℕ, ◌+◌, ◌-◌, ◌<◌, ◌≤◌, List, ◌++◌, length, take, drop, length-append, length-take, length-drop}
use Rattle.std.proofs.Math.Seq.{take-add, take-append-add}
use Rattle.std.proofs.lemmas.List.{take-take, take-append-le, drop-drop, drop-take}
use Rattle.sw_base.specs.Environment.{Reads}
use Rattle.sw_base.specs.Window.{Window, Shows, skipped}

module _ (place : ℕ) (bytes file : List ℕ) (shows : bytes ≡ take (length bytes) (drop place file)) where
  -- one read more
  pub shows_more : (chunk : List ℕ) (n : ℕ) → Reads file (place + length bytes) n chunk → Shows (record { place = place; ahead = bytes ++ take n chunk }) file
  shows_more chunk n reads =
      ap (λ (bs : List ℕ). bs ++ take n chunk) shows
      ∙ ap (λ (bs : List ℕ). take (length bytes) (drop place file) ++ bs) next
      ∙ sym (take-add (length bytes) n (drop place file))
      ∙ ap (λ (m : ℕ). take m (drop place file)) (sym count)
    where
      next : take n chunk ≡ take n (drop (length bytes) (drop place file))
      next = reads.prefix ∙ ap (λ (bs : List ℕ). take n bs) (sym (drop-drop (length bytes) place file))

      taken : length (take n chunk) ≡ n
      taken = ap length reads.prefix ∙ omega (arith, reads.within, length-take n (drop (place + length bytes) file), length-drop (place + length bytes) file)

      count : length (bytes ++ take n chunk) ≡ length bytes + n
      count = omega (arith, length-append bytes (take n chunk), taken)

  -- one read more, into the free end
  pub shows_put : (kept chunk past : List ℕ) (to n : ℕ) → kept ≡ bytes → length kept ≡ to → n ≤ length chunk → Reads file (place + length bytes) n chunk
      → Shows (record { place = place; ahead = take (to + n) (kept ++ (chunk ++ past)) }) file
  shows_put kept chunk past to n is long fits reads =
      subst (λ (bs : List ℕ). Shows (record { place = place; ahead = bs }) file)
      (sym (ap (λ (m : ℕ). take (m + n) (kept ++ (chunk ++ past))) (sym long) ∙ take-append-add kept (chunk ++ past) n
      ∙ ap (λ (xs : List ℕ). kept ++ xs) (take-append-le n chunk past fits) ∙ ap (λ (xs : List ℕ). xs ++ take n chunk) is))
      (shows_more chunk n reads)

-- bytes were passed
pub shows_skipped : (window : Window) (file : List ℕ) (count : ℕ) → count ≤ length window.ahead → Shows window file → Shows (skipped count window) file
shows_skipped window file count there shows =
    let rest : ℕ = length window.ahead - count in
    let parts : length window.ahead ≡ count + rest = omega (arith, there) in
    ap (λ (bs : List ℕ). drop count bs) (shows ∙ ap (λ (n : ℕ). take n (drop window.place file)) parts)
    ∙ drop-take count rest (drop window.place file)
    ∙ ap (λ (bs : List ℕ). take rest bs) (drop-drop count window.place file)
    ∙ ap (λ (n : ℕ). take n (drop (window.place + count) file)) (sym (length-drop count window.ahead))
