-- What holds of small runs, task by task.
use Rattle.std.proofs.Common.{◌≡◌, ◌⊎◌, ℕ, Bool, true, false, not, ◌&&◌, List, [], ◌∷◌, Some, refl, sym, ap, arith, ◌∙◌}
use Rattle.std.specs.Prelude.{Contains, min, max, ◌==◌}
use Rattle.std.proofs.lemmas.Bool.{and_parts}
use Rattle.sw_base.specs.declared.path.Step.{Step}
use Rattle.log_format.specs.declared.record.Record.{Record}
use Rattle.log_format.specs.declared.record.Kind.TheVariants.{Update}
use Rattle.race_model.specs.Trace.{Trace, Node, logs_of, path_eq, record_at}
use Rattle.race_model.specs.Race.{IsAccess, IsChange, SharesByte, IsRacePair, held_at}
use Rattle.race_model.proofs.TraceLogs.{path_is, record_there}
use Rattle.race_laws.proofs.LabelPlace.{same_node}
use Rattle.counted_order.specs.Parting.{PartInLanes}
use Rattle.writer_laws.specs.Cases.{LosesPair, all_but}
use Rattle.writer_laws.specs.Dropping.{only_kept}
use Rattle.writer_laws.proofs.Numbers.{same_number}
use Rattle.writer_laws.proofs.Deciding.{is_fork_join, fork_join_by, lacks, lacks_pair, passed, unordered_by}

-- the other run has what is kept, task by task
abbrev pub AreKept : (Node → Bool) → Trace → Trace → Type 0
AreKept keep [] [] = Unit {0}
AreKept keep [] (u ∷ others) = ⊥
AreKept keep (t ∷ tasks) [] = ⊥
AreKept keep (t ∷ tasks) (u ∷ others) = (t.path ≡ u.path) × (u.records ≡ only_kept (λ n. keep (record { path = t.path; index = n })) t.records) × AreKept keep tasks others

pub kept_logs : (keep : Node → Bool) (tasks others : Trace) → AreKept keep tasks others → (path : List Step) → logs_of others path ≡ only_kept (λ n. keep (record { path = path; index = n })) (logs_of tasks path)
kept_logs keep [] [] same path = refl
kept_logs keep [] (u ∷ others) same path = absurd same
kept_logs keep (t ∷ tasks) [] same path = absurd same
kept_logs keep (t ∷ tasks) (u ∷ others) same path = at (path_eq t.path path) refl (kept_logs keep tasks others same.2 path)
  where
    at : (b : Bool) → path_eq t.path path ≡ b → logs_of others path ≡ only_kept (λ n. keep (record { path = path; index = n })) (logs_of tasks path)
        → logs_of (u ∷ others) path ≡ only_kept (λ n. keep (record { path = path; index = n })) (logs_of (t ∷ tasks) path)
    at true e rest =
        let is : t.path ≡ path = path_is t.path path e in
        let mine : logs_of (t ∷ tasks) path ≡ t.records = rw e refl in
        let yours : logs_of (u ∷ others) path ≡ u.records = (let there : path_eq u.path path ≡ true = ap (λ (p : List Step). path_eq p path) (sym same.0) ∙ e in rw there refl) in
        yours ∙ (same.1 ∙ ((λ i. only_kept (λ n. keep (record { path = is i; index = n })) t.records) ∙ ap (only_kept (λ n. keep (record { path = path; index = n }))) (sym mine)))
    at false e rest =
        let mine : logs_of (t ∷ tasks) path ≡ logs_of tasks path = rw e refl in
        let yours : logs_of (u ∷ others) path ≡ logs_of others path = (let there : path_eq u.path path ≡ false = ap (λ (p : List Step). path_eq p path) (sym same.0) ∙ e in rw there refl) in
        yours ∙ (rest ∙ ap (only_kept (λ n. keep (record { path = path; index = n }))) (sym mine))

-- the one record that isn't kept
pub left_out : (path : List Step) (index : ℕ) (x : Node) → all_but path index x ≡ false → x ≡ record { path = path; index = index }
left_out path index x e =
    let both = and_parts (path_eq x.path path) (x.index == index) (turned (path_eq x.path path && (x.index == index)) e) in
    same_node x (record { path = path; index = index }) (path_is x.path path both.0) (same_number x.index index both.1)
  where
    turned : (b : Bool) → not b ≡ false → b ≡ true
    turned true is = refl
    turned false is = cc

pub no_mutex : {P : Type 0} (m : ℕ) → Contains [] m → P
no_mutex m (k, within, same) = absurd (omega arith)

-- the paths go into two lanes at once
pub part_at_once : (region n m span : ℕ) (path other : List Step) → (n ≡ m → ⊥)
    → PartInLanes (record { region = region; lane = n; span = span } ∷ path) (record { region = region; lane = m; span = span } ∷ other) 0
part_at_once region n m span path other two = record {
  step = record { region = region; lane = n; span = span };
  beside = record { region = region; lane = m; span = span };
  mine = refl;
  yours = refl;
  shared = refl;
  same_region = refl;
  two_lanes = two;
}

-- a pair of two records of a small run
pub pair_of : (trace : Trace) (x y : Node) (r s : Record) (l : ℕ) → is_fork_join trace ≡ true → record_at (logs_of trace) x ≡ Some r → record_at (logs_of trace) y ≡ Some s → IsAccess r → IsAccess s
    → PartInLanes x.path y.path l → passed (logs_of trace) x l ≡ passed (logs_of trace) y l → SharesByte r s → IsChange r ⊎ IsChange s → (r.kind ≡ Update → s.kind ≡ Update → ⊥)
    → ((m : ℕ) → Contains (held_at (logs_of trace) x) m → Contains (held_at (logs_of trace) y) m → ⊥) → IsRacePair (logs_of trace) (min r.line s.line, max r.line s.line)
pair_of trace x y r s l fine left right mine yours parts level shares changes updates mutexes = record {
  x = x;
  y = y;
  r = r;
  s = s;
  race = record {
    left = left;
    right = right;
    left_access = mine;
    right_access = yours;
    unordered = unordered_by (logs_of trace) x y l (fork_join_by trace fine) (record_there (logs_of trace) x r left) (record_there (logs_of trace) y s right) parts level;
    shares = shares;
    changes = changes;
    not_both_updates = updates;
    no_mutex = mutexes;
  };
  lines = refl;
}

-- a pair that another small run lacks
pub loses : (trace other : Trace) (pair : ℕ × ℕ) → is_fork_join trace ≡ true → is_fork_join other ≡ true → IsRacePair (logs_of trace) pair → lacks other pair ≡ true → LosesPair (logs_of trace) (logs_of other)
loses trace other pair fine also has without = record {
  run = fork_join_by trace fine;
  other_run = fork_join_by other also;
  pair = pair;
  has = has;
  lacks = lacks_pair other pair also without;
}
