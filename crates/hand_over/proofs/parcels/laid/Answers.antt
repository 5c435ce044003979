use Rattle.std.proofs.Common.{◌≡◌, ℕ, ◌-◌, List, [], ◌++◌, replicate, take, vec_len, ap, ap₂, ◌∙◌, arith}
use Rattle.std.proofs.Math.Seq.{take-nil}
use Rattle.hand_over.proofs.Beginning.{starts}
use Rattle.hand_over.proofs.parcels.laid.Goals as goal

pub vacant-requires : goal.vacant-requires
vacant-requires g c =
    let n : ℕ = c.args.lanes in
    let h = c.in_ok-resize.ensures in
    let k : n - vec_len c.new-words.result ≡ n = omega (arith, c.new-words.ensures.len) in
    let xs : take n c.new-words.result.items ≡ [] = ap (λ (l : List ℕ). take n l) c.new-words.ensures.items ∙ take-nil n in
    let words : c.deref.result.now ≡ replicate n 0 = c.deref.ensures.value ∙ (h.items ∙ ap₂ (λ (l : List ℕ) (m : ℕ). l ++ replicate m 0) xs k) in
    starts g.P.Parcel.fits g.P.Parcel.follows c.args.about.now n c.deref.result.now words
