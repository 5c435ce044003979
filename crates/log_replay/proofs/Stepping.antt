-- From one record of a log to the next.
use Rattle.std.proofs.Common.{◌≡◌, inl, inr, refl, ap, sym, ◌∙◌, subst, ℕ, suc, ◌+◌, ◌-◌, min, List, [], ◌∷◌, ◌++◌, length, length-append, append_assoc, append-nil, ℤ, Option, Some, None, Result, Err, arith}
use Rattle.std.specs.List.{cons_option}
use Rattle.std.specs.Prelude.{IsErrAnd}
use Rattle.std.proofs.lemmas.Result.{err_from_is_err_and}
use Rattle.log_format.specs.Limit.{record_limit}
use Rattle.sw_base.specs.Environment.{Content, FolderState}
use Rattle.log_format.specs.declared.record.Record.{Record}
use Rattle.log_format.specs.declared.record.Kind.{Kind}
use Rattle.log_format.specs.declared.record.Kind.TheVariants as kind
use Rattle.log_reader.specs.Reading.{Reading, StandsBefore, GivesNext}
use Rattle.log_format.specs.Fitting.{fitted}
use Rattle.kernel_model.specs.State.{State, Fork, Outcome, Gives, Stops, put, event, from_bits, value_read, number_drawn, reads_of, chunks_of}
use Rattle.kernel_model.specs.declared.stop.StopWhy.{StopWhy}
use Rattle.kernel_model.specs.Effect.{state_with}
use Rattle.kernel_model.specs.Trace.{draw}
use Rattle.kernel_model.specs.Value.{Element, access, read}
use Rattle.kernel_model.proofs.Equations.{put-room, read-room, read-wants, draw-room, draw-wants}
use Rattle.log_replay.specs.Differing.{DiffersAt}
use Rattle.log_replay.specs.Following.{Standing, HasEnd, HasReadTo, here, Took, TakesNext, IsMark, Strays, IsOff, Reached, Ends, FollowsPart}
use Rattle.log_replay.specs.declared.stray.Stray.{Stray}
use Rattle.log_replay.specs.declared.stray.Stray.TheVariants as stray

-- ---- what a record reads and draws

no_read : (k : Kind) (value : ℕ) → IsMark k → value_read k value ≡ None
no_read kind.Write value mark = refl
no_read kind.Lock value mark = refl
no_read kind.Unlock value mark = refl
no_read kind.Barrier value mark = refl
no_read kind.Region value mark = refl
no_read kind.Update value mark = refl
no_read kind.Read value mark = absurd mark
no_read kind.Chunk value mark = absurd mark
no_read kind.End value mark = absurd mark

no_draw : (k : Kind) (addr : ℕ) → IsMark k → number_drawn k addr ≡ None
no_draw kind.Write addr mark = refl
no_draw kind.Lock addr mark = refl
no_draw kind.Unlock addr mark = refl
no_draw kind.Barrier addr mark = refl
no_draw kind.Region addr mark = refl
no_draw kind.Update addr mark = refl
no_draw kind.Read addr mark = absurd mark
no_draw kind.Chunk addr mark = absurd mark
no_draw kind.End addr mark = absurd mark

no_end : (k : Kind) → IsMark k → k ≡ kind.End → ⊥
no_end k mark is = subst IsMark is mark

reads_cons : (r : Record) (rs : List Record) (o : Option ℤ) → value_read r.kind r.value ≡ o → reads_of (r ∷ rs) ≡ cons_option o (reads_of rs)
reads_cons r rs o is = ap (λ (x : Option ℤ). cons_option x (reads_of rs)) is

chunks_cons : (r : Record) (rs : List Record) (o : Option ℕ) → number_drawn r.kind r.addr ≡ o → chunks_of (r ∷ rs) ≡ cons_option o (chunks_of rs)
chunks_cons r rs o is = ap (λ (x : Option ℕ). cons_option x (chunks_of rs)) is

-- ---- standing at the next record

ahead_next : (r : Record) (rs : List Record) → (r.kind ≡ kind.End → ⊥) → HasEnd (r ∷ rs) → HasEnd rs
ahead_next r rs other (inl is) = absurd (other is)
ahead_next r rs other (inr more) = more

state_is : (slots slots' : List ℤ) (records : List Record) (forks forks' : List Fork) (room : ℕ) (reads reads' : List ℤ) (chunks chunks' : List ℕ) → slots' ≡ slots → forks' ≡ forks → reads ≡ reads' → chunks ≡ chunks'
    → state_with slots records forks room reads chunks ≡ state_with slots' records forks' room reads' chunks'
state_is slots slots' records forks forks' room reads reads' chunks chunks' a b c d = rw (a, b, c, d) refl

module _ (told : FolderState) (log done rest : List Record) (x : Standing) (at : HasReadTo told log done rest x) (r : Record) (y : Standing) (took : Took told rest r x y) where
  pub is_log : log ≡ done ++ r ∷ took.others
  is_log = at.parts ∙ ap (λ (l : List Record). done ++ l) took.rest_is

  size : length done + suc (length took.others) ≡ length log
  size = sym (ap length is_log ∙ length-append done (r ∷ took.others))

  pub room_left : record_limit - length done ≡ suc (record_limit - length (done ++ r ∷ []))
  room_left = omega (arith, size, at.fits, length-append done (r ∷ []))

  pub number_is : y.count ≡ length done + 1
  number_is = omega (arith, took.count, at.count, size, at.fits)

  at_next : (r.kind ≡ kind.End → ⊥) → HasReadTo told log (done ++ r ∷ []) took.others y
  at_next other = record {
    content = at.content;
    is_told = at.is_told;
    stands = took.stands at.content at.is_told;
    parts = is_log ∙ sym (append_assoc done (r ∷ []) took.others);
    count = omega (arith, number_is, length-append done (r ∷ []));
    ahead = ahead_next r took.others other (subst HasEnd took.rest_is at.ahead);
    fits = at.fits;
  }

  -- whatever the trace has next, it isn't the log's
  pub strays_next : (own : Record) (others : List Record) (number : ℕ) → (own ≡ r → ⊥) → number ≡ y.count → Strays (done ++ own ∷ others) log number
  strays_next own others number apart is = record {
    before = done;
    own = own;
    others = others;
    theirs = r;
    rest = took.others;
    records_are = refl;
    log_is = is_log;
    apart = apart;
    number_is = is ∙ number_is;
  }

  lacks_next : (number : ℕ) → number ≡ y.count → DiffersAt done log number
  lacks_next number is = record {
    before = done;
    others = [];
    theirs = r;
    rest = took.others;
    trace_is = sym (append-nil done);
    log_is = is_log;
    apart = λ more same. cc same;
    number_is = is ∙ number_is;
  }

  pub put_reaches : (due : Record) → IsMark due.kind → r ≡ due → Reached told log (put due (here x done rest)) tt y
  put_reaches due mark is =
      let mark' : IsMark r.kind = subst (λ (q : Record). IsMark q.kind) (sym is) mark in
      record {
        done = done ++ r ∷ [];
        rest = took.others;
        at = at_next (no_end r.kind mark');
        gives =
            put-room due (here x done rest) (record_limit - length (done ++ r ∷ [])) room_left
            ∙ ap (λ (q : Record). Gives tt (state_with x.slots (done ++ q ∷ []) x.forks (record_limit - length (done ++ r ∷ [])) (reads_of rest) (chunks_of rest))) (sym is)
            ∙ ap (λ (s : State). Gives tt s) (state_is x.slots y.slots (done ++ r ∷ []) x.forks y.forks (record_limit - length (done ++ r ∷ [])) (reads_of rest) (reads_of took.others) (chunks_of rest) (chunks_of took.others)
            took.slots took.forks
            (ap reads_of took.rest_is ∙ reads_cons r took.others None (no_read r.kind r.value mark'))
            (ap chunks_of took.rest_is ∙ chunks_cons r took.others None (no_draw r.kind r.addr mark')));
      }

  pub put_strays : (due : Record) (number : ℕ) → (r ≡ due → ⊥) → number ≡ y.count → IsOff log number (put due (here x done rest))
  put_strays due number apart is =
      subst (IsOff log number) (sym (put-room due (here x done rest) (record_limit - length (done ++ r ∷ [])) room_left))
      (strays_next due [] number (λ same. apart (sym same)) is)

  -- ---- reads

  read_kind : r.kind ≡ kind.Read → reads_of rest ≡ from_bits r.value ∷ reads_of took.others
  read_kind is = ap reads_of took.rest_is ∙ reads_cons r took.others (Some (from_bits r.value)) (ap (λ (k : Kind). value_read k r.value) is)

  pub read_reaches : (e : Element) (site line : ℕ) → r ≡ access kind.Read e site line (fitted (from_bits r.value) e.width)
      → Reached told log (read e site line (here x done rest)) (fitted (from_bits r.value) e.width) y
  read_reaches e site line is =
      let v = fitted (from_bits r.value) e.width in
      let read' : r.kind ≡ kind.Read = ap (λ (q : Record). q.kind) is in
      record {
        done = done ++ r ∷ [];
        rest = took.others;
        at = at_next (λ end. cc (sym read' ∙ end));
        gives =
            read-room e site line (here x done rest) (record_limit - length (done ++ r ∷ [])) (from_bits r.value) (reads_of took.others) room_left (read_kind read')
            ∙ ap (λ (q : Record). Gives v (state_with x.slots (done ++ q ∷ []) x.forks (record_limit - length (done ++ r ∷ [])) (reads_of took.others) (chunks_of rest))) (sym is)
            ∙ ap (λ (s : State). Gives v s) (state_is x.slots y.slots (done ++ r ∷ []) x.forks y.forks (record_limit - length (done ++ r ∷ [])) (reads_of took.others) (reads_of took.others) (chunks_of rest) (chunks_of took.others)
            took.slots took.forks refl
            (ap chunks_of took.rest_is ∙ chunks_cons r took.others None (ap (λ (k : Kind). number_drawn k r.addr) read')));
      }

  module _ (e : Element) (site line number : ℕ) (apart : r ≡ access kind.Read e site line (fitted (from_bits r.value) e.width) → ⊥) (is : number ≡ y.count) where
    same_read : (v : ℤ) (reads : List ℤ) → reads_of rest ≡ v ∷ reads → access kind.Read e site line (fitted v e.width) ≡ r → ⊥
    same_read v reads prefix same =
        let first : v ∷ reads ≡ from_bits r.value ∷ reads_of took.others = sym prefix ∙ read_kind (sym (ap (λ (q : Record). q.kind) same)) in
        let v_is : v ≡ from_bits r.value = cc first in
        apart (sym same ∙ ap (λ (w : ℤ). access kind.Read e site line (fitted w e.width)) v_is)

    read_off : (reads : List ℤ) → reads_of rest ≡ reads → IsOff log number (read e site line (here x done rest))
    read_off [] none =
        subst (IsOff log number) (sym (read-wants e site line (here x done rest) (record_limit - length (done ++ r ∷ [])) room_left none)) (lacks_next number is)
    read_off (v ∷ reads) prefix =
        subst (IsOff log number) (sym (read-room e site line (here x done rest) (record_limit - length (done ++ r ∷ [])) v reads room_left prefix))
        (strays_next (access kind.Read e site line (fitted v e.width)) [] number (same_read v reads prefix) is)

    pub read_strays : IsOff log number (read e site line (here x done rest))
    read_strays = read_off (reads_of rest) refl

  -- ---- draws

  draw_kind : r.kind ≡ kind.Chunk → chunks_of rest ≡ r.addr ∷ chunks_of took.others
  draw_kind is = ap chunks_of took.rest_is ∙ chunks_cons r took.others (Some r.addr) (ap (λ (k : Kind). number_drawn k r.addr) is)

  pub draw_reaches : (line n : ℕ) → r ≡ event kind.Chunk line (min r.addr n) n → Reached told log (draw line n (here x done rest)) r.addr y
  draw_reaches line n is =
      let draw' : r.kind ≡ kind.Chunk = ap (λ (q : Record). q.kind) is in
      record {
        done = done ++ r ∷ [];
        rest = took.others;
        at = at_next (λ end. cc (sym draw' ∙ end));
        gives =
            draw-room line n (here x done rest) (record_limit - length (done ++ r ∷ [])) r.addr (chunks_of took.others) room_left (draw_kind draw')
            ∙ ap (λ (q : Record). Gives r.addr (state_with x.slots (done ++ q ∷ []) x.forks (record_limit - length (done ++ r ∷ [])) (reads_of rest) (chunks_of took.others))) (sym is)
            ∙ ap (λ (s : State). Gives r.addr s) (state_is x.slots y.slots (done ++ r ∷ []) x.forks y.forks (record_limit - length (done ++ r ∷ [])) (reads_of rest) (reads_of took.others) (chunks_of took.others) (chunks_of took.others)
            took.slots took.forks
            (ap reads_of took.rest_is ∙ reads_cons r took.others None (ap (λ (k : Kind). value_read k r.value) draw')) refl);
      }

  module _ (line n number : ℕ) (apart : r ≡ event kind.Chunk line (min r.addr n) n → ⊥) (is : number ≡ y.count) where
    same_draw : (q : ℕ) (chunks : List ℕ) → chunks_of rest ≡ q ∷ chunks → event kind.Chunk line (min q n) n ≡ r → ⊥
    same_draw q chunks prefix same =
        let first : q ∷ chunks ≡ r.addr ∷ chunks_of took.others = sym prefix ∙ draw_kind (sym (ap (λ (z : Record). z.kind) same)) in
        let q_is : q ≡ r.addr = cc first in
        apart (sym same ∙ ap (λ (w : ℕ). event kind.Chunk line (min w n) n) q_is)

    draw_off : (chunks : List ℕ) → chunks_of rest ≡ chunks → IsOff log number (draw line n (here x done rest))
    draw_off [] none =
        subst (IsOff log number) (sym (draw-wants line n (here x done rest) (record_limit - length (done ++ r ∷ [])) room_left none)) (lacks_next number is)
    draw_off (q ∷ chunks) prefix =
        subst (IsOff log number) (sym (draw-room line n (here x done rest) (record_limit - length (done ++ r ∷ [])) q chunks room_left prefix))
        (strays_next (event kind.Chunk line (min q n) n) [] number (same_draw q chunks prefix) is)

    pub draw_strays : IsOff log number (draw line n (here x done rest))
    draw_strays = draw_off (chunks_of rest) refl

-- ---- the end of what was read

-- where a part stops, the log goes on
pub stops_off : (A : Type 0) (told : FolderState) (log done rest : List Record) (x : Standing) → HasReadTo told log done rest x → (number : ℕ) → number ≡ min (x.count + 1) 4294967295 → (why : StopWhy) (line : ℕ)
    → IsOff {A = A} log number (Stops why line (here x done rest))
stops_off A told log done [] x at number is why line = absurd at.ahead
stops_off A told log done (r ∷ rest) x at number is why line = record {
  before = done;
  others = [];
  theirs = r;
  rest = rest;
  trace_is = sym (append-nil done);
  log_is = at.parts;
  apart = λ more same. cc same;
  number_is = omega (arith, is, at.count, at.fits, ap length at.parts, length-append done (r ∷ rest));
}

-- what the reader answers
pub gives_took : (told : FolderState) (content : Content) → told.content ≡ Some content → (rest : List Record) (r : Record) (reading : Reading) (old new : Standing) → GivesNext content rest (Some r) reading
    → new.reading ≡ reading → new.count ≡ min (old.count + 1) 4294967295 → new.slots ≡ old.slots → new.forks ≡ old.forks → Took told rest r old new
gives_took told content is_told [] r reading old new gives is count slots forks = absurd (cc gives.0)
gives_took told content is_told (q ∷ rest) r reading old new gives is count slots forks =
    let r_is : r ≡ q = cc gives.0 in
    record {
      others = rest;
      rest_is = ap (λ (z : Record). z ∷ rest) (sym r_is);
      stands = λ c same. subst (λ (a : Reading). StandsBefore c a rest) (sym is) (subst (λ (d : Content). StandsBefore d reading rest) (cc (sym is_told ∙ same)) gives.1);
      count = count;
      slots = slots;
      forks = forks;
    }

pub none_is_left : (content : Content) (rest : List Record) (reading : Reading) → GivesNext content rest None reading → HasEnd rest → ⊥
none_is_left content [] reading gives ahead = ahead
none_is_left content (r ∷ rest) reading gives ahead = cc gives.0

-- no record was read, where one is there
unread : {A : Type 0} (told : FolderState) (log rest : List Record) (outcome : Outcome A) (old new : Standing) (e : Stray) → TakesNext told rest old new (Err e) → Ends told log outcome new (Err e)
unread told log rest outcome old new (stray.Differs number) takes = absurd takes
unread told log rest outcome old new stray.ReadFault takes = tt
unread told log rest outcome old new stray.Memory takes = tt

pub follows_unread : {A : Type 0} (told : FolderState) (part : State → Outcome A) (old new : Standing) (e : Stray) (r : Result A Stray) → IsErrAnd r (λ y. y ≡ e)
    → ((log done rest : List Record) → HasReadTo told log done rest old → TakesNext told rest old new (Err e)) → FollowsPart told part old new r
follows_unread told part old new e r is takes =
    let p = err_from_is_err_and r is in
    rw (p.1, p.2) (λ log done rest at. unread told log rest (part (here old done rest)) old new e (takes log done rest at))
