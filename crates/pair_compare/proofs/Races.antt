-- The pairs of segments of a run are its races.
use Rattle.std.proofs.Common.{◌≡◌, ◌↔◌, ◌⊎◌, ℕ, List, Contains, inl, inr, refl, sym, ap, ◌∙◌, subst, IsTrue, arith}
use Rattle.sw_base.specs.declared.path.Step.{Step}
use Rattle.log_format.specs.declared.record.Record.{Record}
use Rattle.log_format.specs.declared.record.Kind.{Kind}
use Rattle.log_format.specs.declared.record.Kind.TheVariants.{Update}
use Rattle.stride_summary.specs.declared.key.Key.{Key}
use Rattle.log_segment.specs.declared.segment.Segment.{Segment}
use Rattle.log_segment.specs.Accesses.{is_atomic}
use Rattle.log_segment.proofs.AccessKinds.{changes_kind, update_kind}
use Rattle.log_segment.specs.Intervals.{IsAccessAt, HasAccess, AreSegments}
use Rattle.race_model.specs.Trace.{Logs, Node}
use Rattle.race_model.specs.Race.{HasByte, IsChange, IsRacePair, held_at}
use Rattle.race_model.specs.ForkJoin.{IsForkJoin}
use Rattle.race_laws.proofs.LabelLaw.{concurrent_unordered, unordered_concurrent}
use Rattle.race_model.proofs.TraceLogs.{record_there}
use Rattle.pair_compare.specs.Conflict.{Touches, line_pair}
use Rattle.pair_compare.specs.Compare.{IsRacingPair, IsSegmentPair}
use Rattle.pair_compare.specs.Regions.{IsRacePairAmong}

-- an access of the key at the address touches the bytes of its record
HasByte-from : (logs : Logs) (x : Node) (r : Record) (key : Key) (address byte : ℕ) → IsAccessAt logs x r key address → Touches key address byte → HasByte r byte
HasByte-from logs x r key address byte is h =
    let size : key.size ≡ r.size = ap (λ (k : Key). k.size) is.keyed in
    let same : address ≡ r.addr = is.addressed in
    let from = h.from_start in
    let to = h.to_end in
    record { from_start = omega arith; to_end = omega arith }

pub Touches-from : (logs : Logs) (x : Node) (r : Record) (key : Key) (address byte : ℕ) → IsAccessAt logs x r key address → HasByte r byte → Touches key address byte
Touches-from logs x r key address byte is h =
    let size : key.size ≡ r.size = ap (λ (k : Key). k.size) is.keyed in
    let same : address ≡ r.addr = is.addressed in
    let from = h.from_start in
    let to = h.to_end in
    record { from_start = omega arith; to_end = omega arith }

-- a record whose key writes changes memory, and one whose key is atomic is an update
pub changes_from : (logs : Logs) (x : Node) (r : Record) (key : Key) (address : ℕ) → IsAccessAt logs x r key address → IsTrue key.write ↔ IsChange r
changes_from logs x r key address is = (
  λ w. (changes_kind r.kind).0 (subst (λ (k : Key). IsTrue k.write) is.keyed w),
  λ change. subst (λ (k : Key). IsTrue k.write) (sym is.keyed) ((changes_kind r.kind).1 change),
)

pub update_from : (logs : Logs) (x : Node) (r : Record) (key : Key) (address : ℕ) → IsAccessAt logs x r key address → IsTrue key.atomic ↔ (r.kind ≡ Update)
update_from logs x r key address is = (
  λ a. update_kind r.kind (subst (λ (k : Key). IsTrue k.atomic) is.keyed a),
  λ update. subst (λ (k : Key). IsTrue k.atomic) (sym is.keyed) (subst (λ (k : Kind). IsTrue (is_atomic k)) (sym update) refl),
)

pub held_is : (logs : Logs) (x : Node) (r : Record) (key : Key) (address : ℕ) → IsAccessAt logs x r key address → key.held ≡ held_at logs x
held_is logs x r key address is = ap (λ (k : Key). k.held) is.keyed

pub line_is : (logs : Logs) (x : Node) (r : Record) (key : Key) (address : ℕ) → IsAccessAt logs x r key address → key.line ≡ r.line
line_is logs x r key address is = ap (λ (k : Key). k.line) is.keyed

module _ (logs : Logs) (IsOne : List Step → Type 0) (segments : List Segment) (tree : IsForkJoin logs) (are : AreSegments logs IsOne segments) where
  made : (p : ℕ × ℕ) (h : IsSegmentPair segments p) (x : Node) (r : Record) → HasAccess logs h.a x r h.racing.conflict.key h.racing.conflict.address → (y : Node) (s : Record) → HasAccess logs h.b y s h.racing.conflict.other h.racing.conflict.beside
      → IsOne x.path → IsOne y.path → IsRacePairAmong logs IsOne p
  made p h x r left y s right x_one y_one =
      let pair = h.racing.conflict in
      let mine = left.at_node in
      let yours = right.at_node in
      record {
        races = record {
          x = x;
          y = y;
          r = r;
          s = s;
          race = record {
            left = mine.found;
            right = yours.found;
            left_access = mine.access;
            right_access = yours.access;
            unordered = concurrent_unordered logs x y h.a.label h.b.label tree (record_there logs x r mine.found) (record_there logs y s yours.found) left.label right.label h.racing.concurrent;
            shares = (pair.conflict.byte, HasByte-from logs x r pair.key pair.address pair.conflict.byte mine pair.conflict.first, HasByte-from logs y s pair.other pair.beside pair.conflict.byte yours pair.conflict.second);
            changes = elim pair.conflict.writes [ inl w ↦ inl ((changes_from logs x r pair.key pair.address mine).0 w) | inr w ↦ inr ((changes_from logs y s pair.other pair.beside yours).0 w) ];
            not_both_updates = λ u v. pair.conflict.not_both_atomic ((update_from logs x r pair.key pair.address mine).1 u) ((update_from logs y s pair.other pair.beside yours).1 v);
            no_mutex = λ m in_x in_y. pair.conflict.no_mutex m (subst (λ (held : List ℕ). Contains held m) (sym (held_is logs x r pair.key pair.address mine)) in_x) (subst (λ (held : List ℕ). Contains held m) (sym (held_is logs y s pair.other pair.beside yours)) in_y);
          };
          lines = pair.lines ∙ (λ i. line_pair (line_is logs x r pair.key pair.address mine i) (line_is logs y s pair.other pair.beside yours i));
        };
        left = x_one;
        right = y_one;
      }

  race_from_pair : (p : ℕ × ℕ) → IsSegmentPair segments p → IsRacePairAmong logs IsOne p
  race_from_pair p h =
      let pair = h.racing.conflict in
      let left = are.each h.a h.a_in pair.key pair.address pair.first in
      let right = are.each h.b h.b_in pair.other pair.beside pair.second in
      made p h left.1.0 left.1.1 left.1.2 right.1.0 right.1.1 right.1.2
      (subst IsOne (sym left.1.2.in_log) left.0) (subst IsOne (sym right.1.2.in_log) right.0)

  pair_from_race : (p : ℕ × ℕ) → IsRacePairAmong logs IsOne p → IsSegmentPair segments p
  pair_from_race p among =
      let h = among.races in
      let left = are.all h.x h.r among.left h.race.left h.race.left_access in
      let right = are.all h.y h.s among.right h.race.right h.race.right_access in
      record { a = left.0; b = right.0; a_in = left.1; b_in = right.1; racing = racing left.0 left.2 left.3 left.4 right.0 right.2 right.3 right.4 }
    where
      h : IsRacePair logs p
      h = among.races

      racing : (a : Segment) (key : Key) (address : ℕ) → HasAccess logs a h.x h.r key address → (b : Segment) (other : Key) (beside : ℕ) → HasAccess logs b h.y h.s other beside → IsRacingPair a b p
      racing a key address left b other beside right =
          let mine = left.at_node in
          let yours = right.at_node in
          record {
            concurrent = unordered_concurrent logs h.x h.y a.label b.label tree (record_there logs h.x h.r h.race.left) (record_there logs h.y h.s h.race.right) left.label right.label h.race.unordered;
            conflict = record {
              key = key;
              address = address;
              other = other;
              beside = beside;
              first = left.listed;
              second = right.listed;
              conflict = record {
                byte = h.race.shares.0;
                first = Touches-from logs h.x h.r key address h.race.shares.0 mine h.race.shares.1;
                second = Touches-from logs h.y h.s other beside h.race.shares.0 yours h.race.shares.2;
                writes = elim h.race.changes [ inl w ↦ inl ((changes_from logs h.x h.r key address mine).1 w) | inr w ↦ inr ((changes_from logs h.y h.s other beside yours).1 w) ];
                not_both_atomic = λ m n. h.race.not_both_updates ((update_from logs h.x h.r key address mine).0 m) ((update_from logs h.y h.s other beside yours).0 n);
                no_mutex = λ m in_u in_v. h.race.no_mutex m (subst (λ (held : List ℕ). Contains held m) (held_is logs h.x h.r key address mine) in_u) (subst (λ (held : List ℕ). Contains held m) (held_is logs h.y h.s other beside yours) in_v);
              };
              lines = h.lines ∙ sym (λ i. line_pair (line_is logs h.x h.r key address mine i) (line_is logs h.y h.s other beside yours i));
            };
          }

pub pairs_iff_races : (logs : Logs) (IsOne : List Step → Type 0) (segments : List Segment) (pair : ℕ × ℕ) → IsForkJoin logs → AreSegments logs IsOne segments → IsSegmentPair segments pair ↔ IsRacePairAmong logs IsOne pair
pairs_iff_races logs IsOne segments pair tree are = (race_from_pair logs IsOne segments tree are pair, pair_from_race logs IsOne segments tree are pair)

pub pairs_iff_whole : (logs : Logs) (segments : List Segment) (pair : ℕ × ℕ) → IsForkJoin logs → AreSegments logs (λ path. Unit {0}) segments → IsSegmentPair segments pair ↔ IsRacePair logs pair
pairs_iff_whole logs segments pair tree are =
    let among = pairs_iff_races logs (λ path. Unit {0}) segments pair tree are in (
      λ h. (among.0 h).races,
      λ h. among.1 (record { races = h; left = tt; right = tt }),
    )
