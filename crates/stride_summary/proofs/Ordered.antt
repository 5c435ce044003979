-- The orders of keys and of accesses.
use Rattle.std.proofs.Common.{◌≡◌, ◌<◌, Bool, true, false, refl, ap, subst, sym}
use Rattle.std.specs.Cmp.{IsTotalOrder, bool_cmp_total}
use Rattle.std.specs.Cmp.Lexicographic.{slice_cmp}
use Rattle.std.specs.Ordering.{bool_cmp, nat_cmp, ordering_then}
use Rattle.std.specs.declared.cmp.Ordering.{Ordering}
use Rattle.std.specs.declared.cmp.Ordering.TheVariants.{Less, Equal}
use Rattle.std.proofs.lemmas.Cmp.{nat_cmp_total, ranked, tied_itself}
use Rattle.std.proofs.lemmas.Map.Lookups.{exact_bytes, exact_unsigned}
use Rattle.sw_base.proofs.Paths.{both_equal}
use Rattle.stride_summary.specs.contracts.single.SingleOrd.TheImpl as single_order
use Rattle.stride_summary.specs.declared.key.Key.{Key}
use Rattle.stride_summary.specs.declared.single.Single.{Single}
use Rattle.stride_summary.specs.Accesses.{single_key}
use Rattle.stride_summary.specs.Places.{key_cmp}

exact_bool : (a b : Bool) → bool_cmp a b ≡ Equal → a ≡ b
exact_bool false false e = refl
exact_bool false true e = cc
exact_bool true false e = cc
exact_bool true true e = refl

-- keys between which the order doesn't decide are the same
pub exact_key : (x y : Key) → key_cmp x y ≡ Equal → x ≡ y
exact_key x y e =
    let line = both_equal (nat_cmp x.line y.line) _ e in
    let site = both_equal (nat_cmp x.site y.site) _ line.1 in
    let size = both_equal (nat_cmp x.size y.size) _ site.1 in
    let write = both_equal (bool_cmp x.write y.write) _ size.1 in
    let atomic = both_equal (bool_cmp x.atomic y.atomic) (slice_cmp nat_cmp x.held y.held) write.1 in
    λ i. record {
      line = exact_unsigned x.line y.line line.0 i;
      site = exact_unsigned x.site y.site site.0 i;
      size = exact_unsigned x.size y.size size.0 i;
      write = exact_bool x.write y.write write.0 i;
      atomic = exact_bool x.atomic y.atomic atomic.0 i;
      held = exact_bytes x.held y.held atomic.1 i;
    }

-- where the first part is the same, the second decides
second : {K : Type 0} {R : K → K → Ordering} → IsTotalOrder R → (x y : K) (o : Ordering) → x ≡ y → ordering_then (R x y) o ≡ Less → o ≡ Less
second {K} {R} total x y o same less =
    let tied : R x y ≡ Equal = subst (λ (z : K). R x z ≡ Equal) same (tied_itself total x) in
    subst (λ (p : Ordering). ordering_then p o ≡ Less) tied less

-- of two accesses of one key the lesser has the lower address
pub above : (x y : Single) → (single_order.ghosts).cmp x y ≡ Less → single_key x ≡ single_key y → x.addr < y.addr
above x y less key =
    let site = second nat_cmp_total x.line y.line _ (ap (λ (k : Key). k.line) key) less in
    let size = second nat_cmp_total x.site y.site _ (ap (λ (k : Key). k.site) key) site in
    let write = second nat_cmp_total x.size y.size _ (ap (λ (k : Key). k.size) key) size in
    let atomic = second bool_cmp_total x.write y.write _ (ap (λ (k : Key). k.write) key) write in
    let addr = second bool_cmp_total x.atomic y.atomic (nat_cmp x.addr y.addr) (ap (λ (k : Key). k.atomic) key) atomic in
    ranked x.addr y.addr Less (sym addr)
