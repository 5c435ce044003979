-- A place of a kernel's text as two parts: what names mean there, and what is around.
use Rattle.std.proofs.Common.{ℕ, Bool, Option}
use Rattle.kernel_reader.specs.Scope.{Place}

pub record Around : Type 0 where
  pub regions : ℕ
  pub spans : ℕ
  pub critical : Option ℕ
  pub criticals : ℕ
  pub divided : Bool
  pub uneven : Bool

-- a place where names mean what they do at another, with this around
abbrev pub inside_of : Place → Around → Place
inside_of p a = record {
  names = p.names;
  mutexes = p.mutexes;
  slot = p.slot;
  regions = a.regions;
  spans = a.spans;
  critical = a.critical;
  criticals = a.criticals;
  divided = a.divided;
  uneven = a.uneven;
}
