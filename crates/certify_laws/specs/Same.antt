-- When two verdicts say the same.
use Rattle.std.specs.Prelude.{◌≡◌}
use Rattle.certify.specs.declared.verdict.Verdict.{Verdict}
use Rattle.certify.specs.declared.verdict.Verdict.TheVariants as verdict

-- they are of one kind, with the same numbers, paths, pairs and words
abbrev pub SayTheSame : Verdict → Verdict → Type 0
SayTheSame (verdict.Construct line) (verdict.Construct other) = other ≡ line
SayTheSame (verdict.Long path number) (verdict.Long other n) = (other ≡ path) × (n ≡ number)
SayTheSame (verdict.Stopped path line why) (verdict.Stopped other k also) = (other ≡ path) × (k ≡ line) × (also ≡ why)
SayTheSame (verdict.Segments path number) (verdict.Segments other n) = (other ≡ path) × (n ≡ number)
SayTheSame (verdict.Racy pairs) (verdict.Racy others) = others.keys ≡ pairs.keys
SayTheSame (verdict.Certain tasks records words) (verdict.Certain others more final) = (others ≡ tasks) × (more ≡ records) × (final.items ≡ words.items)
SayTheSame _ _ = ⊥
