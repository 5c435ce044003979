-- The calls of a buffer keep which records were put and what the log has of them.
use Rattle.std.proofs.Common.{◌≡◌, ◌⊎◌, inl, inr, refl, ap, sym, ◌∙◌, subst, ℕ, zero, suc, ◌+◌, ◌*◌, ◌<◌, ◌≤◌, List, [], ◌∷◌, ◌++◌, length, map, replicate, Option, Some, None, append_assoc, arith}
use Rattle.std.specs.Option.{option_map}
use Rattle.std.specs.List.{flat_map}
use Rattle.std.proofs.lemmas.Grind.{flat_map-append}
use Rattle.std.proofs.lemmas.List.{append-nil, length-append, map-append, replicate_more}
use Rattle.sw_base.specs.declared.path.Step.{Step}
use Rattle.sw_base.specs.declared.trouble.Trouble.{Trouble}
use Rattle.sw_base.specs.Environment.{Text, WhereTold, TearsPiece, empty_text, with_piece, with_torn}
use Rattle.sw_base.specs.Pieces.{records_in, kept}
use Rattle.log_format.specs.declared.record.Record.{Record}
use Rattle.log_format.specs.Spelling.{spelling, log_bytes}
use Rattle.log_format.proofs.Records.{length-spelling}
use Rattle.flush_writer.specs.Held.{Held, settled_text}
use Rattle.event_buffer.specs.Buffered.{Buffered, FitsRecord, IsTornBy, IsRefusedBy, buffered, flushed, caught_up}
use Rattle.event_buffer.specs.Logged.{joined, due, IsTorn, IsFilled, HoldsRecords, HasAll, KeepsPrefix}
use Rattle.event_buffer.proofs.Cuts.{one_more, one_away, cut_is, cut_last, kept_full}

-- what holds of a log that was changed so holds where it tells
told_after : (o : Option Text) (f : Text → Text) (P : Text → Type 0) → ((s : Text) → o ≡ Some s → P (f s)) → WhereTold (option_map f o) P
told_after None f P k t is = absurd (cc)
told_after (Some s) f P k t is = let same : f s ≡ t = cc in subst P same (k s refl)

no_bytes : (xs : List ℕ) → length xs ≡ 0 → xs ≡ []
no_bytes [] none = refl
no_bytes (x ∷ xs) none = absurd (omega (arith, none))

one_more_piece : (pieces : List (List ℕ)) (piece : List ℕ) → joined (pieces ++ piece ∷ []) ≡ joined pieces ++ piece
one_more_piece pieces piece = flat_map-append (λ (x : List ℕ). x) pieces (piece ∷ []) ∙ ap (λ l. joined pieces ++ l) (append-nil piece)

one_more_record : (header : List ℕ) (records : List Record) (r : Record) → log_bytes header records ++ spelling r ≡ log_bytes header (records ++ r ∷ [])
one_more_record header records r =
    append_assoc header (flat_map spelling records) (spelling r)
    ∙ ap (λ l. header ++ l) (ap (λ l. flat_map spelling records ++ l) (sym (append-nil (spelling r))) ∙ sym (flat_map-append spelling records (r ∷ [])))

-- a log that begins
begin_logs : (header dir : List ℕ) (path : List Step) (log : Option Text) (size : ℕ) → length header ≡ 8 → WhereTold log (λ t. t ≡ empty_text)
    → HoldsRecords header (record { dir = dir; path = path; text = option_map (with_piece header) log; faults = 0; size = size; sent = []; waiting = []; count = 0; refused = None }) []
begin_logs header dir path log size eight empty =
    let at = λ (P : Text → Type 0) (p : P (with_piece header empty_text)).
    told_after log (with_piece header) P (λ s told. subst (λ (t : Text). P (with_piece header t)) (sym (empty s told)) p) in
    let one : joined (header ∷ []) ≡ header = append-nil header in
    record {
      count = refl;
      bytes = at (λ t. joined t.pieces ++ [] ≡ log_bytes header []) (append-nil (header ++ []));
      torn = at (λ t. IsTorn t []) (record { torn = []; rest = []; bytes = sym one ∙ sym (append-nil (header ++ [])); parts = refl });
      whole = λ _. at (λ t. t.bytes ≡ joined t.pieces) (sym one);
      filled = record {
        full = 0;
        away = 0;
        rest = 0;
        count = omega arith;
        one = omega arith;
        most = omega arith;
        sent = omega arith;
        waiting = omega arith;
        lengths = at (λ t. map length t.pieces ≡ 8 ∷ []) (ap (λ n. n ∷ []) eight);
      };
    }

pub logs_begin : (header dir : List ℕ) (path : List Step) (log : Option Text) (size : ℕ) → length header ≡ 8 → WhereTold log (λ t. t ≡ empty_text) → (h : Held) (waiting : List ℕ)
    → h ≡ record { dir = dir; path = path; text = option_map (with_piece header) log; faults = 0; size = size; pending = []; refused = None } → waiting ≡ []
    → HoldsRecords header (buffered h waiting 0) []
logs_begin header dir path log size eight empty h waiting is none =
    subst (λ w. HoldsRecords header (buffered h w 0) []) (sym none)
    (subst (λ (k : Held). HoldsRecords header (buffered k [] 0) []) (sym is) (begin_logs header dir path log size eight empty))

put_logs : (header : List ℕ) (b : Buffered) (records : List Record) (r : Record) → FitsRecord b → HoldsRecords header b records
    → HoldsRecords header (record b { waiting = b.waiting ++ spelling r; count = b.count + 1 }) (records ++ r ∷ [])
put_logs header b records r room h =
    let f = h.filled in
    let more : b.sent ++ (b.waiting ++ spelling r) ≡ due b ++ spelling r = sym (append_assoc b.sent b.waiting (spelling r)) in
    record {
      count = omega (arith, h.count, length-append records (r ∷ []));
      bytes = λ t told.
          ap (λ l. joined t.pieces ++ l) more ∙ sym (append_assoc (joined t.pieces) (due b) (spelling r))
          ∙ ap (λ l. l ++ spelling r) (h.bytes t told) ∙ one_more_record header records r;
      torn = λ t told. let x = h.torn t told in record {
        torn = x.torn;
        rest = x.rest ++ spelling r;
        bytes = x.bytes;
        parts = more ∙ ap (λ l. l ++ spelling r) x.parts ∙ append_assoc x.torn x.rest (spelling r);
      };
      whole = h.whole;
      filled = record {
        full = f.full;
        away = f.away;
        rest = f.rest + 1;
        count = omega (arith, f.count);
        one = f.one;
        most = omega (arith, f.waiting, room);
        sent = f.sent;
        waiting = omega (arith, length-append b.waiting (spelling r), length-spelling r, f.waiting);
        lengths = f.lengths;
      };
    }

pub logs_put : (header : List ℕ) (old new : Buffered) (records : List Record) (r : Record) → FitsRecord old
    → new ≡ record old { waiting = old.waiting ++ spelling r; count = old.count + 1 } → HoldsRecords header old records → HoldsRecords header new (records ++ r ∷ [])
logs_put header old new records r room is h = subst (λ b. HoldsRecords header b (records ++ r ∷ [])) (sym is) (put_logs header old records r room h)

-- a log is in so many full pieces, and with these bytes has all of the records
record IsWhole (header : List ℕ) (records : List Record) (waiting : List ℕ) (full size : ℕ) (text : Text) : Type 0 where
  pub bytes : joined text.pieces ++ waiting ≡ log_bytes header records
  pub whole : text.bytes ≡ joined text.pieces
  pub lengths : map length text.pieces ≡ 8 ∷ replicate full (24 * records_in size)

module _ (header : List ℕ) (records : List Record) (full size : ℕ) (large : 24 ≤ size) (text : Option Text) where
  abbrev c : ℕ
  c = records_in size

  some : 0 < records_in size
  some = omega (arith, large)

  -- a piece more
  piece_lengths : (pieces : List (List ℕ)) (piece : List ℕ) (rest : ℕ) → map length pieces ≡ 8 ∷ replicate full (24 * c) → length piece ≡ 24 * rest
      → map length (pieces ++ piece ∷ []) ≡ 8 ∷ replicate full (24 * c) ++ 24 * rest ∷ []
  piece_lengths pieces piece rest lengths is = map-append length pieces (piece ∷ []) ∙ (λ i. lengths i ++ is i ∷ [])

  settled_whole : (waiting sent : List ℕ) (away : ℕ) → away ≤ 1 → length sent ≡ 24 * (away * c) → WhereTold text (IsWhole header records (sent ++ waiting) full size)
      → WhereTold (settled_text sent text) (IsWhole header records waiting (full + away) size)
  settled_whole waiting [] zero one is w = λ t told. let x = w t told in let none : full ≡ full + 0 = omega arith in record {
    bytes = x.bytes;
    whole = x.whole;
    lengths = x.lengths ∙ ap (λ n. 8 ∷ replicate n (24 * c)) none;
  }
  settled_whole waiting [] (suc zero) one is w = absurd (omega (arith, is, some))
  settled_whole waiting (byte ∷ bytes) zero one is w = absurd (omega (arith, is))
  settled_whole waiting (byte ∷ bytes) (suc zero) one is w =
      told_after text (with_piece (byte ∷ bytes)) (IsWhole header records waiting (full + 1) size) (λ s told. let x = w s told in record {
        bytes = ap (λ l. l ++ waiting) (one_more_piece s.pieces (byte ∷ bytes)) ∙ append_assoc (joined s.pieces) (byte ∷ bytes) waiting ∙ x.bytes;
        whole = ap (λ l. l ++ byte ∷ bytes) x.whole ∙ sym (one_more_piece s.pieces (byte ∷ bytes));
        lengths =
            piece_lengths s.pieces (byte ∷ bytes) c x.lengths (omega (arith, is))
            ∙ ap (λ (l : List ℕ). 8 ∷ l) (replicate_more full (24 * c));
      })
  settled_whole waiting sent (suc (suc k)) one is w = absurd (omega (arith, one))

  -- and the last one
  last_piece : (waiting : List ℕ) (rest : ℕ) → length records ≡ full * c + rest → rest ≤ c → length waiting ≡ 24 * rest
      → WhereTold text (IsWhole header records waiting full size) → WhereTold (settled_text waiting text) (HasAll header records size)
  last_piece [] rest count most is w = λ t told. let x = w t told in let none : rest ≡ 0 = omega (arith, is) in record {
    bytes = x.whole ∙ sym (append-nil (joined t.pieces)) ∙ x.bytes;
    pieces = x.whole;
    lengths =
        x.lengths ∙ sym (append-nil (8 ∷ replicate full (24 * c)))
        ∙ cut_is (length records) full 0 size (count ∙ ap (λ k. full * c + k) none) some;
  }
  last_piece (byte ∷ bytes) rest count most is w =
      told_after text (with_piece (byte ∷ bytes)) (HasAll header records size) (λ s told.
      let x = w s told in
      let all = one_more_piece s.pieces (byte ∷ bytes) in
      record {
        bytes = ap (λ l. l ++ byte ∷ bytes) x.whole ∙ x.bytes;
        pieces = ap (λ l. l ++ byte ∷ bytes) x.whole ∙ sym all;
        lengths = piece_lengths s.pieces (byte ∷ bytes) rest x.lengths is ∙ cut_last (length records) full rest size count (omega (arith, is)) most;
      })

module _ (header : List ℕ) (old : Buffered) (records : List Record) (h : HoldsRecords header old records) where
  abbrev f : IsFilled old
  f = h.filled

  pub has_prefix : WhereTold old.text (KeepsPrefix header records old.size)
  has_prefix t told = let x = h.torn t told in record {
    torn = x.torn;
    missing = x.rest;
    bytes = x.bytes;
    prefix =
        sym (h.bytes t told) ∙ ap (λ l. joined t.pieces ++ l) x.parts ∙ sym (append_assoc (joined t.pieces) x.torn x.rest)
        ∙ ap (λ l. l ++ x.rest) (sym x.bytes);
    behind =
        omega (arith, h.count, f.count, f.most, one_away f.full f.away (records_in old.size) f.one, ap kept (f.lengths t told), kept_full f.full (records_in old.size));
  }

  -- a call was refused that leaves the text
  stopped_logs : (faults : ℕ) (trouble : Trouble) → HoldsRecords header (record old { faults = faults; refused = Some trouble }) records
  stopped_logs faults trouble = record {
    count = h.count;
    bytes = h.bytes;
    torn = h.torn;
    whole = λ none. absurd (cc);
    filled = record { full = f.full; away = f.away; rest = f.rest; count = f.count; one = f.one; most = f.most; sent = f.sent; waiting = f.waiting; lengths = f.lengths };
  }

  pub logs_stopped : (new : Buffered) (trouble : Trouble) → IsRefusedBy trouble old new → HoldsRecords header new records
  logs_stopped new trouble is = subst (λ b. HoldsRecords header b records) (sym is) (stopped_logs new.faults trouble)

  module _ (unrefused : old.refused ≡ None) where
    -- what is due begins with the piece that was refused
    torn_logs : (piece more : List ℕ) → due old ≡ piece ++ more → (text : Option Text) (faults : ℕ) (trouble : Trouble) → TearsPiece old.text text piece
        → HoldsRecords header (record old { text = text; faults = faults; refused = Some trouble }) records
    torn_logs piece more is text faults trouble tears =
        let at = λ (P : Text → Type 0) (k : (s : Text) → old.text ≡ Some s → P (with_torn tears.prefix s)).
        subst (λ o. WhereTold o P) (sym tears.tears) (told_after old.text (with_torn tears.prefix) P k) in
        record {
          count = h.count;
          bytes = at (λ t. joined t.pieces ++ due old ≡ log_bytes header records) (λ s told. h.bytes s told);
          torn = at (λ t. IsTorn t (due old)) (λ s told. record {
            torn = tears.prefix;
            rest = tears.rest ++ more;
            bytes = ap (λ l. l ++ tears.prefix) (h.whole unrefused s told);
            parts = is ∙ ap (λ l. l ++ more) tears.parts ∙ append_assoc tears.prefix tears.rest more;
          });
          whole = λ none. absurd (cc);
          filled = record {
            full = f.full;
            away = f.away;
            rest = f.rest;
            count = f.count;
            one = f.one;
            most = f.most;
            sent = f.sent;
            waiting = f.waiting;
            lengths = at (λ t. map length t.pieces ≡ 8 ∷ replicate f.full (24 * records_in old.size)) (λ s told. f.lengths s told);
          };
        }

    pub logs_torn : (new : Buffered) (trouble : Trouble) → IsTornBy trouble old new → HoldsRecords header new records
    logs_torn new trouble is = subst (λ b. HoldsRecords header b records) (sym is.is) (torn_logs old.sent old.waiting refl new.text new.faults trouble is.tears)

    module _ (large : 24 ≤ old.size) where
      abbrev full : ℕ
      full = f.full + f.away

      all_of : WhereTold (settled_text old.sent old.text) (IsWhole header records old.waiting full old.size)
      all_of = settled_whole header records f.full old.size large old.text old.waiting old.sent f.away f.one f.sent
          (λ t told. record { bytes = h.bytes t told; whole = h.whole unrefused t told; lengths = f.lengths t told })

      none_away : full ≡ full + 0
      none_away = omega arith

      caught_up_logs : HoldsRecords header (caught_up old) records
      caught_up_logs = record {
        count = h.count;
        bytes = λ t told. (all_of t told).bytes;
        torn = λ t told. record { torn = []; rest = old.waiting; bytes = (all_of t told).whole ∙ sym (append-nil (joined t.pieces)); parts = refl };
        whole = λ _ t told. (all_of t told).whole;
        filled = record {
          full = full;
          away = 0;
          rest = f.rest;
          count = f.count ∙ ap (λ n. n * records_in old.size + f.rest) none_away;
          one = omega arith;
          most = f.most;
          sent = omega arith;
          waiting = f.waiting;
          lengths = λ t told. (all_of t told).lengths;
        };
      }

      flushed_logs : (FitsRecord old → ⊥) → HoldsRecords header (flushed old) records
      flushed_logs none =
          let all : f.rest ≡ records_in old.size = omega (arith, f.waiting, f.most, none) in
          record {
            count = h.count;
            bytes = λ t told. ap (λ l. joined t.pieces ++ l) (append-nil old.waiting) ∙ (all_of t told).bytes;
            torn = λ t told. record { torn = []; rest = old.waiting ++ []; bytes = (all_of t told).whole ∙ sym (append-nil (joined t.pieces)); parts = refl };
            whole = λ _ t told. (all_of t told).whole;
            filled = record {
              full = full;
              away = 1;
              rest = 0;
              count = f.count ∙ omega (arith, all, one_more full (records_in old.size));
              one = omega arith;
              most = omega arith;
              sent = omega (arith, f.waiting, all);
              waiting = refl;
              lengths = λ t told. (all_of t told).lengths;
            };
          }

      pub logs_caught_up : (new : Buffered) → new ≡ caught_up old → HoldsRecords header new records
      logs_caught_up new is = subst (λ b. HoldsRecords header b records) (sym is) caught_up_logs

      pub logs_flushed : (new : Buffered) → (FitsRecord old → ⊥) → new ≡ flushed old → HoldsRecords header new records
      logs_flushed new none is = subst (λ b. HoldsRecords header b records) (sym is) (flushed_logs none)

      -- the log has all records after its last piece, and else a prefix
      pub all_when_closed : WhereTold (settled_text old.waiting (settled_text old.sent old.text)) (HasAll header records old.size)
      all_when_closed =
          last_piece header records full old.size large (settled_text old.sent old.text) old.waiting f.rest (sym h.count ∙ f.count) f.most f.waiting all_of

module _ (header : List ℕ) (old : Buffered) (records : List Record) (h : HoldsRecords header old records) (unrefused : old.refused ≡ None) (large : 24 ≤ old.size) where
  -- a child was refused, or what was sent before it
  pub logs_childless : (new : Buffered) (trouble : Trouble) → IsTornBy trouble old new ⊎ IsRefusedBy trouble (caught_up old) new → HoldsRecords header new records
  logs_childless new trouble (inl torn) = logs_torn header old records h unrefused new trouble torn
  logs_childless new trouble (inr stopped) = logs_stopped header (caught_up old) records (caught_up_logs header old records h unrefused large) new trouble stopped

  -- a prefix stands also after the piece before, or the last one, was refused
  pub prefix_when_torn : (text : Option Text) → TearsPiece old.text text old.sent ⊎ TearsPiece (settled_text old.sent old.text) text old.waiting
      → Trouble → WhereTold text (KeepsPrefix header records old.size)
  prefix_when_torn text (inl tears) trouble =
      has_prefix header (record old { text = text; faults = old.faults; refused = Some trouble }) records
      (torn_logs header old records h unrefused old.sent old.waiting refl text old.faults trouble tears)
  prefix_when_torn text (inr tears) trouble =
      let b = caught_up old in
      has_prefix header (record b { text = text; faults = b.faults; refused = Some trouble }) records
      (torn_logs header b records (caught_up_logs header old records h unrefused large) unrefused old.waiting [] (sym (append-nil old.waiting)) text b.faults trouble tears)
